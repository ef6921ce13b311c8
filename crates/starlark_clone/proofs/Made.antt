-- One more member, or clause, behind those that were made again.
use Rattle.std.proofs.Common.{ℕ, ◌+◌, ◌<◌, ◌≡◌, refl, sym, ap, ◌∙◌, List, [], ◌∷◌, ◌++◌, length, take, get_or, ap₂}
use Rattle.std.proofs.lemmas.List.{take_more}
use Rattle.std.proofs.lemmas.List.Sums.{fold-append}
use Rattle.starlark_place.specs.Place.{Extent}
use Rattle.starlark_clone.specs.Replacing.{Renaming, replaced, replaced_clause, replaced_clauses, replaced_member, replaced_members}
use Rattle.starlark_ast.specs.Tree as t
use Rattle.starlark_ast.specs.Tree.{Clause, Clauses, Member}
use Rattle.starlark_ast.specs.View.{literal_view, members}
use Rattle.starlark_ast.specs.declared.ast.AstLiteral.{AstLiteral}
use Rattle.starlark_ast.specs.declared.ast.AstLiteral.TheVariants as literal
use Rattle.starlark_ast.proofs.Written.{clauses_behind, members_more}

-- a function of three
pub as_three : {A B C D : Type 0} (f : A → B → C → D) {a b : A} {x y : B} {p q : C} → a ≡ b → x ≡ y → p ≡ q → f a x p ≡ f b y q
as_three f {a} {b} {x} {y} {p} {q} e h k = ap (λ z. f z x p) e ∙ ap₂ (f b) h k

pub member_again : {X Y : Type 0} (r : Renaming) (h : Y → Member) (k : X → Member) (ys zs : List Y) (y : Y) (xs : List X) (i : ℕ) (x : X) → zs ≡ ys ++ y ∷ [] → i < length xs → x ≡ get_or xs i x → members h ys ≡ replaced_members r (members k (take i xs)) → h y ≡ replaced_member r (k x) → members h zs ≡ replaced_members r (members k (take (i + 1) xs))
member_again r h k ys zs y xs i x more below is so_far here =
    ap (members h) more
    ∙ fold-append (λ ms q. t.more ms (h q)) t.none ys (y ∷ [])
    ∙ ap₂ t.more so_far here
    ∙ sym (ap (replaced_members r) (members_more k xs i x below is))

pub clause_again : {X Y : Type 0} (r : Renaming) (h : Y → Clause) (k : X → Clause) (cs ds : Clauses) (ys zs : List Y) (y : Y) (xs : List X) (i : ℕ) (x : X) → zs ≡ ys ++ y ∷ [] → i < length xs → x ≡ get_or xs i x → clauses_behind h cs ys ≡ replaced_clauses r (clauses_behind k ds (take i xs)) → h y ≡ replaced_clause r (k x) → clauses_behind h cs zs ≡ replaced_clauses r (clauses_behind k ds (take (i + 1) xs))
clause_again r h k cs ds ys zs y xs i x more below is so_far here =
    let next : clauses_behind k ds (take (i + 1) xs) ≡ t.and_clause (clauses_behind k ds (take i xs)) (k x) = ap (clauses_behind k ds) (take_more xs i x below) ∙ fold-append (λ es q. t.and_clause es (k q)) ds (take i xs) (get_or xs i x ∷ []) ∙ ap (λ q. t.and_clause (clauses_behind k ds (take i xs)) (k q)) (sym is) in
    ap (clauses_behind h cs) more
    ∙ fold-append (λ es q. t.and_clause es (h q)) cs ys (y ∷ [])
    ∙ ap₂ t.and_clause so_far here
    ∙ sym (ap (replaced_clauses r) next)

-- a literal has no operation
pub literal_again : (r : Renaming) (x : AstLiteral) (s : Extent) → replaced r (literal_view x s) ≡ literal_view x s
literal_again r (literal.Int n) s = refl
literal_again r (literal.Float x) s = refl
literal_again r (literal.String x) s = refl
literal_again r (literal.Bytes x) s = refl
literal_again r literal.Ellipsis s = refl
