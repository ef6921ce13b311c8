-- What the paths of types come to does not depend on places.
use Rattle.std.proofs.Common.{ℕ, ◌≡◌, ◌∷◌, ◌++◌, [], refl, ap, subst, List, Bool, true, false, cond}
use Rattle.std.specs.Prelude.{bytes_eq, codes, Result, Ok, Err}
use Rattle.starlark_place.specs.Place.{Extent}
use Rattle.starlark_ast.specs.Tree as t
use Rattle.starlark_ast.specs.Tree.{Leaf, Expr, Name}
use Rattle.starlark_rulebook.specs.Rules.{TypeFault, DotTypeBan}
use Rattle.starlark_rulebook.specs.Types.{Misfit, misfit, Path, Form, from, from_both, index2_of, root, attributes, dotted_text, dotted, path_of, leaf_form, form_fault}
use Rattle.starlark_joining.specs.Same.{SameName, same_name, SameExpr, same_leaf, same_dot}
use Rattle.starlark_joining.proofs.LikeFindings.{LikeFound, both_none, both_some}

-- a result on both sides, or the same fault
pub data LikeResult {A B : Type 0} : Result A Misfit → Result B Misfit → Type 0 where
  both_ok : {a : A} {b : B} → LikeResult (Ok a) (Ok b)
  both_err : {f : TypeFault} {s u : Extent} → LikeResult (Err (misfit f s)) (Err (misfit f u))

pub from_like : {A B : Type 0} {q r : Result A Misfit} (f g : A → B) → LikeResult q r → LikeResult (from f q) (from g r)
from_like f g both_ok = both_ok
from_like f g both_err = both_err

pub from_both_like : {A B C : Type 0} {p q : Result A Misfit} {r s : Result B Misfit} (f g : A → B → C) → LikeResult p q → LikeResult r s → LikeResult (from_both f p r) (from_both g q s)
from_both_like f g (both_ok {a} {b}) k = from_like (f a) (g b) k
from_both_like f g both_err k = both_err

pub index2_like : {p q : Result Path Misfit} {a b c d : Result Form Misfit} (u s v z : Extent) → LikeResult p q → LikeResult a b → LikeResult c d → LikeResult (index2_of u s p a c) (index2_of v z q b d)
index2_like u s v z both_ok k l = from_both_like _ _ k l
index2_like u s v z both_err k l = both_err

ban_like : {m n : List ℕ} (c : Bool) (s u : Extent) (p q : Path) → m ≡ n → LikeResult (cond c (Err (misfit (DotTypeBan m) s)) (Ok p)) (cond c (Err (misfit (DotTypeBan n) u)) (Ok q))
ban_like {m} true s u p q e = subst (λ z. LikeResult {A = Path} {B = Path} (Err (misfit (DotTypeBan m) s)) (Err (misfit (DotTypeBan z) u))) e both_err
ban_like false s u p q e = both_ok

-- identifiers that are the same but for their places
pub data SameNames (R : ℕ → ℕ → Type 0) : List Name → List Name → Type 0 where
  no_names : SameNames R [] []
  and_name : {n m : Name} {ns ms : List Name} → SameName R n m → SameNames R ns ms → SameNames R (n ∷ ns) (m ∷ ms)

pub form_like : {q r : Result Form Misfit} → LikeResult q r → LikeFound (form_fault q) (form_fault r)
form_like both_ok = both_none
form_like both_err = both_some

dotted_text_same : {R : ℕ → ℕ → Type 0} {ns ms : List Name} → SameNames R ns ms → dotted_text ns ≡ dotted_text ms
dotted_text_same no_names = refl
dotted_text_same (and_name (same_name {n} s) h) = ap (λ z. codes "." ++ n ++ z) (dotted_text_same h)

pub leaf_form_same : (l : Leaf) (u s v r : Extent) → LikeResult (leaf_form l u s) (leaf_form l v r)
leaf_form_same (t.name n) u s v r = both_ok
leaf_form_same t.ellipsis u s v r = both_ok
leaf_form_same (t.int n) u s v r = both_err
leaf_form_same (t.float n) u s v r = both_err
leaf_form_same (t.string n) u s v r = both_err
leaf_form_same (t.bytes n) u s v r = both_err

module _ {R : ℕ → ℕ → Type 0} where
  names_append : {ns ms ks ls : List Name} → SameNames R ns ms → SameNames R ks ls → SameNames R (ns ++ ks) (ms ++ ls)
  names_append no_names k = k
  names_append (and_name n h) k = and_name n (names_append h k)

  pub root_same : {x y : Expr} → SameExpr R x y → SameExpr R (root x) (root y)
  root_same (same_dot x u s) = root_same x
  root_same x = x

  pub attributes_same : {x y : Expr} → SameExpr R x y → SameNames R (attributes x) (attributes y)
  attributes_same (same_dot x u s) = names_append (attributes_same x) (and_name (same_name u) no_names)
  attributes_same x = no_names

  pub dotted_same : {x y : Expr} {ns ms : List Name} (m : List ℕ) (v w : Extent) → SameExpr R x y → SameNames R ns ms → LikeResult (dotted x ns m v) (dotted y ms m w)
  dotted_same m v w (same_leaf {l = t.name n} u s) h = ban_like (bytes_eq m (codes "type")) _ _ _ _ (ap (λ z. n ++ z) (dotted_text_same h))
  dotted_same m v w x h = both_err

  pub path_same : {x y : Expr} → SameExpr R x y → LikeResult (path_of x) (path_of y)
  path_same (same_leaf {l = t.name n} u s) = both_ok
  path_same (same_dot {n} {u} {v} x z s) = dotted_same n u v (root_same x) (attributes_same x)
  path_same x = both_err
