-- The parts of a type or its first fault, part by part.
use Rattle.std.proofs.Common.{ℕ, ◌≡◌, ◌≤◌, ◌<◌, ◌+◌, refl, sym, ap, subst, ◌∙◌, true, false, cond, arith, List, [], ◌∷◌, ◌++◌, append_assoc, append-nil, length, take, drop, take-append-drop, get_or, fold, Some, None, Result, Ok, Err}
use Rattle.std.proofs.lemmas.List.Sums.{fold-append}
use Rattle.std.specs.Prelude.{codes, bytes_eq, IsErrAnd}
use Rattle.starlark_place.specs.Place.{Extent}
use Rattle.starlark_ast.specs.declared.ast.BinOp.TheVariants.{BitOr}
use Rattle.starlark_ast.specs.Tree as t
use Rattle.starlark_ast.specs.Tree.{Expr, Members, Name}
use Rattle.starlark_ast.specs.View.{members}
use Rattle.starlark_rulebook.specs.Rules.{DotTypeBan, InvalidType}
use Rattle.starlark_rulebook.specs.Parameters.{member_count}
use Rattle.starlark_rulebook.specs.Types.{Role, alone, argument, list_form, union_form, Misfit, misfit, Form, Forms, Path, path, no_forms, add_form, from, from_both, index2_of, index2_form, form_of, forms_of, root, attributes, dotted, dotted_text}
use Rattle.starlark_rules.specs.Misfits.{Comes, Stops, path_text, stop_for}
use Rattle.starlark_rulebook.specs.View.{type_fault_view}
use Rattle.starlark_rules.specs.declared.types.Stop.{Stop}
use Rattle.starlark_rules.specs.declared.types.Stop.TheVariants.{NoType, Memory}
use Rattle.starlark_ast.proofs.Written.{members_more}

-- ---- the same fault

-- what has the faults of another
abbrev pub Keeps : {A B : Type 0} → Result A Misfit → Result B Misfit → Type 0
Keeps r q = (e : Misfit) → r ≡ Err e → q ≡ Err e

stays : {A B : Type 0} (r : Result A Misfit) (q : Result B Misfit) (stop : Stop) → Keeps r q → Stops r stop → Stops q stop
stays r q (NoType x) f h = f _ h
stays r q Memory f h = tt

-- a stop that was made
pub stops_at : {A : Type 0} (r : Result A Misfit) (stop made : Stop) → stop ≡ made → Stops r made → Stops r stop
stops_at r stop made e h = subst (λ q. Stops r q) (sym e) h

-- the same, by what it stops for
pub stops_for : {A : Type 0} (r : Result A Misfit) (m : Misfit) (stop : Stop) → stop_for stop ≡ Some m → r ≡ Err m → Stops r stop
stops_for r m (NoType x) e h = let same : m ≡ misfit (type_fault_view x.node) x.span = cc in h ∙ ap (λ y. Err y) same
stops_for r m Memory e h = tt

-- what a `?` returns
pub given : {U : Type 0} (out : Result U Stop) (stop : Stop) → IsErrAnd out (λ e. e ≡ stop) → out ≡ Err stop
given (Ok x) stop h = absurd h
given (Err e) stop h = ap (λ y. Err y) h

-- an early return
pub exits : {A B U : Type 0} (v : U → B) (r : Result A Misfit) (q : Result B Misfit) (x : Result U Stop) (stop : Stop) → x ≡ Err stop → Keeps r q → Stops r stop → Comes v q x
exits v r q x stop e f h = subst (λ y. Comes v q y) (sym e) (stays r q stop f h)

-- the same, of a result that is named otherwise
pub comes_as : {A U : Type 0} (v : U → A) (r q : Result A Misfit) (x : Result U Stop) → r ≡ q → Comes v r x → Comes v q x
comes_as v r q (Ok u) e h = sym e ∙ h
comes_as v r q (Err stop) e h = stays r q stop (λ m k. sym e ∙ k) h

pub keeps_first : {A B C : Type 0} (f : A → B → C) (r : Result A Misfit) (q : Result B Misfit) → Keeps r (from_both f r q)
keeps_first f r q e h = ap (λ y. from_both f y q) h

pub keeps_second : {A B C : Type 0} (f : A → B → C) (a : A) (r : Result A Misfit) (q : Result B Misfit) → r ≡ Ok a → Keeps q (from_both f r q)
keeps_second f a r q is e h = ap (λ y. from_both f y q) is ∙ ap (from (f a)) h

pub both_come : {A B C : Type 0} (f : A → B → C) (a : A) (b : B) (r : Result A Misfit) (q : Result B Misfit) → r ≡ Ok a → q ≡ Ok b → from_both f r q ≡ Ok (f a b)
both_come f a b r q is js = ap (λ y. from_both f y q) is ∙ ap (from (f a)) js

-- ---- several

-- types in a row, and one more
pub forms_next : {X : Type 0} (o : Role) (h : X → Expr) (xs : List X) (i : ℕ) (x : X) → i < length xs → x ≡ get_or xs i x → forms_of o (members (λ y. t.item (h y)) (take (i + 1) xs)) ≡ from_both add_form (forms_of o (members (λ y. t.item (h y)) (take i xs))) (form_of o (h x))
forms_next o h xs i x below is = ap (forms_of o) (members_more (λ y. t.item (h y)) xs i x below is)

goes_on : {X : Type 0} (o : Role) (h : X → Expr) (ms : Members) (e : Misfit) (ys : List X) → forms_of o ms ≡ Err e → forms_of o (fold (λ ns y. t.more ns (t.item (h y))) ms ys) ≡ Err e
goes_on o h ms e [] is = is
goes_on o h ms e (y ∷ ys) is = goes_on o h (t.more ms (t.item (h y))) e ys (ap (λ r. from_both add_form r (form_of o (h y))) is)

-- the fault of one is that of all, where there was none before
pub forms_stop : {X : Type 0} (o : Role) (h : X → Expr) (xs : List X) (i : ℕ) (x : X) (fs : Forms) → i < length xs → x ≡ get_or xs i x → forms_of o (members (λ y. t.item (h y)) (take i xs)) ≡ Ok fs → Keeps (from (add_form fs) (form_of o (h x))) (forms_of o (members (λ y. t.item (h y)) xs))
forms_stop o h xs i x fs below is clean e found =
    let here : forms_of o (members (λ y. t.item (h y)) (take (i + 1) xs)) ≡ Err e = forms_next o h xs i x below is ∙ ap (λ r. from_both add_form r (form_of o (h x))) clean ∙ found in
    ap (λ ys. forms_of o (members (λ y. t.item (h y)) ys)) (sym (take-append-drop (i + 1) xs)) ∙ ap (forms_of o) (fold-append (λ ns y. t.more ns (t.item (h y))) t.none (take (i + 1) xs) (drop (i + 1) xs)) ∙ goes_on o h (members (λ y. t.item (h y)) (take (i + 1) xs)) e (drop (i + 1) xs) here

pub forms_go_on : {X : Type 0} (o : Role) (h : X → Expr) (xs : List X) (i : ℕ) (x : X) (fs gs : Forms) → i < length xs → x ≡ get_or xs i x → forms_of o (members (λ y. t.item (h y)) (take i xs)) ≡ Ok fs → from (add_form fs) (form_of o (h x)) ≡ Ok gs → forms_of o (members (λ y. t.item (h y)) (take (i + 1) xs)) ≡ Ok gs
forms_go_on o h xs i x fs gs below is clean more = forms_next o h xs i x below is ∙ ap (λ r. from_both add_form r (form_of o (h x))) clean ∙ more

-- ---- two types

abbrev pub pair : Form → Form → Forms
pair f g = add_form (add_form no_forms f) g

pub first_stops : (r q : Result Form Misfit) → Keeps (from (add_form no_forms) r) (from_both pair r q)
first_stops (Ok f) q e h = absurd (cc)
first_stops (Err x) q e h = h

pub second_is : (fs : Forms) (r q : Result Form Misfit) → from (add_form no_forms) r ≡ Ok fs → from_both pair r q ≡ from (add_form fs) q
second_is fs (Ok f) q is = let same : add_form no_forms f ≡ fs = cc in ap (λ gs. from (add_form gs) q) same
second_is fs (Err x) q is = absurd (cc)

-- they are a union
pub union_of_two : (r q : Result Form Misfit) (s : Extent) → from (λ fs. union_form fs s) (from_both pair r q) ≡ from_both (λ f g. union_form (pair f g) s) r q
union_of_two (Ok f) (Ok g) s = refl
union_of_two (Ok f) (Err e) s = refl
union_of_two (Err e) q s = refl

-- ---- two arguments behind a path

pub keeps_argument : (u s : Extent) (a : Path) (p : Result Path Misfit) (q r : Result Form Misfit) → p ≡ Ok a → Keeps q (index2_of u s p q r)
keeps_argument u s a p q r is e h = ap (λ y. index2_of u s y q r) is ∙ keeps_first _ q r e h

pub keeps_second_argument : (u s : Extent) (a : Path) (f : Form) (p : Result Path Misfit) (q r : Result Form Misfit) → p ≡ Ok a → q ≡ Ok f → Keeps r (index2_of u s p q r)
keeps_second_argument u s a f p q r is js e h = ap (λ y. index2_of u s y q r) is ∙ keeps_second _ f q r js e h

pub index2_comes : (u s : Extent) (a : Path) (f g : Form) (p : Result Path Misfit) (q r : Result Form Misfit) → p ≡ Ok a → q ≡ Ok f → r ≡ Ok g → index2_of u s p q r ≡ Ok (index2_form a u f g s)
index2_comes u s a f g p q r is js ks = ap (λ y. index2_of u s y q r) is ∙ both_come _ f g q r js ks

-- ---- a path

text_behind : (ns : List Name) (n : List ℕ) (u : Extent) → dotted_text (ns ++ (t.name_at n u ∷ [])) ≡ dotted_text ns ++ (codes "." ++ n)
text_behind [] n u = append-nil (codes "." ++ n)
text_behind (t.name_at m v ∷ ns) n u = ap (λ q. codes "." ++ m ++ q) (text_behind ns n u) ∙ sym (append_assoc (codes "." ++ m) (dotted_text ns) (codes "." ++ n))

text_is : (x : Expr) (n : List ℕ) (u s : Extent) → root x ≡ t.leaf (t.name n) u s → path_text x ≡ n ++ dotted_text (attributes x)
text_is (t.dot x m v w) n u s e = ap (λ q. q ++ codes "." ++ m) (text_is x n u s e) ∙ append_assoc (n ++ dotted_text (attributes x)) (codes ".") m ∙ append_assoc n (dotted_text (attributes x)) (codes "." ++ m) ∙ sym (ap (λ q. n ++ q) (text_behind (attributes x) m v))
text_is (t.leaf (t.name m) v w) n u s e = let same : m ≡ n = cc in same ∙ sym (append-nil n)
text_is (t.leaf (t.int i) v w) n u s e = absurd (cc)
text_is (t.leaf (t.float i) v w) n u s e = absurd (cc)
text_is (t.leaf (t.string i) v w) n u s e = absurd (cc)
text_is (t.leaf (t.bytes i) v w) n u s e = absurd (cc)
text_is (t.leaf t.ellipsis v w) n u s e = absurd (cc)
text_is (t.tuple ms w) n u s e = absurd (cc)
text_is (t.list ms w) n u s e = absurd (cc)
text_is (t.dict ms w) n u s e = absurd (cc)
text_is (t.comprehension m cs w) n u s e = absurd (cc)
text_is (t.index x b w) n u s e = absurd (cc)
text_is (t.call x ms w) n u s e = absurd (cc)
text_is (t.lambda ms x w) n u s e = absurd (cc)
text_is (t.signed o x w) n u s e = absurd (cc)
text_is (t.operation x o y w) n u s e = absurd (cc)
text_is (t.choice x y z w) n u s e = absurd (cc)
text_is (t.fstring f v ms r w) n u s e = absurd (cc)

dots_are : (x : Expr) (n m : List ℕ) (u s v : Extent) → root x ≡ t.leaf (t.name n) u s → dotted (root x) (attributes x) m v ≡ cond (bytes_eq m (codes "type")) (Err (misfit (DotTypeBan (n ++ dotted_text (attributes x))) s)) (Ok (path (t.name_at n u) (attributes x ++ (t.name_at m v ∷ []))))
dots_are x n m u s v e = ap (λ q. dotted q (attributes x) m v) e

-- a path that ends in `.type`
pub banned : (x : Expr) (n m text : List ℕ) (u s v : Extent) → root x ≡ t.leaf (t.name n) u s → bytes_eq m (codes "type") ≡ true → text ≡ path_text x → dotted (root x) (attributes x) m v ≡ Err (misfit (DotTypeBan text) s)
banned x n m text u s v e is_type so =
    dots_are x n m u s v e
    ∙ ap (λ b. cond b (Err (misfit (DotTypeBan (n ++ dotted_text (attributes x))) s)) (Ok (path (t.name_at n u) (attributes x ++ (t.name_at m v ∷ []))))) is_type
    ∙ ap (λ q. Err (misfit (DotTypeBan q) s)) (sym (so ∙ text_is x n u s e))

-- any other
pub taken : (x : Expr) (n m : List ℕ) (u s v : Extent) (ns : List Name) → root x ≡ t.leaf (t.name n) u s → bytes_eq m (codes "type") ≡ false → ns ≡ attributes x ++ (t.name_at m v ∷ []) → dotted (root x) (attributes x) m v ≡ Ok (path (t.name_at n u) ns)
taken x n m u s v ns e other so =
    dots_are x n m u s v e
    ∙ ap (λ b. cond b (Err (misfit (DotTypeBan (n ++ dotted_text (attributes x))) s)) (Ok (path (t.name_at n u) (attributes x ++ (t.name_at m v ∷ []))))) other
    ∙ ap (λ q. Ok (path (t.name_at n u) q)) (sym so)

-- ---- an argument, a list

-- a list that is a union
pub union_is : (ms : Members) (s : Extent) → 2 ≤ member_count ms → form_of alone (t.list ms s) ≡ from (λ fs. union_form fs s) (forms_of alone ms)
union_is t.none s e = absurd (omega (arith, e))
union_is (t.more t.none m) s e = absurd (omega (arith, e))
union_is (t.more (t.more ms k) m) s e = refl

pub single_is : (ms : Members) (s : Extent) → member_count ms ≡ 1 → form_of alone (t.list ms s) ≡ Err (misfit (InvalidType (codes "list of 1 element")) s)
single_is t.none s e = absurd (omega (arith, e))
single_is (t.more t.none m) s e = refl
single_is (t.more (t.more ms k) m) s e = absurd (omega (arith, e))
