-- The statements at the top of a list, and of any other statement.
use Rattle.std.proofs.Common.{◌≡◌, sym, ap, ◌∙◌, List, [], ◌∷◌, ◌++◌, flat_map, Some, None, ℕ, ◌+◌, ◌<◌, ◌≤◌, length, take, get_or, arith}
use Rattle.std.proofs.lemmas.List.{flat_map_more, take_more}
use Rattle.std.proofs.lemmas.List.Folds.{flat_map-map, fold-map}
use Rattle.std.proofs.lemmas.List.Sums.{get_or-le-sum_by}
use Rattle.std.specs.List.{sum_by}
use Rattle.std.specs.Option.{unwrap_or}
use Rattle.std.specs.declared.alloc.Global.{Global}
use Rattle.std.specs.declared.boxed.Box.{Box}
use Rattle.std.specs.declared.vec.Vec.{Vec}
use Rattle.starlark_ast.specs.Places.{E}
use Rattle.starlark_place.specs.declared.pos.Spanned.{Spanned}
use Rattle.starlark_ast.specs.Access.{nested, nested_layer, top_level}
use Rattle.starlark_ast.specs.declared.ast.DefP.{DefP, DefP-F, out-DefP, roll-out-DefP, fold-DefP, fold-roll-DefP}
use Rattle.starlark_ast.specs.declared.ast.ForP.{ForP, ForP-F, out-ForP, roll-out-ForP, fold-ForP, fold-roll-ForP}
use Rattle.starlark_ast.specs.declared.ast.StmtP.{StmtP, StmtP-F, out-StmtP, roll-StmtP, roll-out-StmtP, para-roll-StmtP, fold-StmtP, fold-roll-StmtP}
use Rattle.starlark_ast.specs.declared.ast.StmtP.TheOpen as stmt
use Rattle.starlark_ast.specs.declared.ast.StmtP.TheVariants as variant

module _ {P L I A D T : Type 0} where
  -- how many statements hold others
  abbrev pub count_step : StmtP-F P L I A D T ℕ ℕ ℕ → ℕ
  count_step (stmt.Statements xs) = sum_by (λ x. x.node) xs.items + 1
  count_step (stmt.If c x) = x.value.node + 1
  count_step (stmt.IfElse c x) = x.value.0.node + x.value.1.node + 1
  count_step (stmt.For x) = x + 1
  count_step (stmt.Def x) = x + 1
  count_step _ = 0

  abbrev pub count_def : DefP-F P L I A D T ℕ ℕ ℕ → ℕ
  count_def x = x.body.value.node

  abbrev pub count_for : ForP-F P L I A D T ℕ ℕ ℕ → ℕ
  count_for x = x.body.value.node

  abbrev pub count : StmtP P L I A D T → ℕ
  count = fold-StmtP P L I A D T ℕ ℕ ℕ count_step count_def count_for

  count-Statements : (xs : Vec (Spanned (StmtP P L I A D T)) Global) → count (variant.Statements xs) ≡ sum_by (λ x. count x.node) xs.items + 1
  count-Statements xs =
      ap count (sym (variant.rolls-Statements xs)) ∙ fold-roll-StmtP P L I A D T _ _ _ count_step count_def count_for (stmt.Statements xs) ∙ ap (λ n. n + 1) (fold-map _ _ 0 xs.items)

  pub falls-If : (s : StmtP P L I A D T) (c : E P L I A D T) (x : Box (Spanned (StmtP P L I A D T)) Global) (t : ℕ) → s ≡ variant.If c x → count s ≡ t → count x.value.node < t
  falls-If s c x t is measure =
      let whole : t ≡ count x.value.node + 1 = sym measure ∙ ap count (is ∙ sym (variant.rolls-If c x)) ∙ fold-roll-StmtP P L I A D T _ _ _ count_step count_def count_for (stmt.If c x) in
      omega (arith, whole)

  pub falls-IfElse : (s : StmtP P L I A D T) (c : E P L I A D T) (x : Box (Spanned (StmtP P L I A D T) × Spanned (StmtP P L I A D T)) Global) (t : ℕ) → s ≡ variant.IfElse c x → count s ≡ t → (count x.value.0.node < t) × (count x.value.1.node < t)
  falls-IfElse s c x t is measure =
      let whole : t ≡ count x.value.0.node + count x.value.1.node + 1 = sym measure ∙ ap count (is ∙ sym (variant.rolls-IfElse c x)) ∙ fold-roll-StmtP P L I A D T _ _ _ count_step count_def count_for (stmt.IfElse c x) in
      (omega (arith, whole), omega (arith, whole))

  pub falls-For : (s : StmtP P L I A D T) (x : ForP P L I A D T) (t : ℕ) → s ≡ variant.For x → count s ≡ t → count (out-ForP P L I A D T x).body.value.node < t
  falls-For s x t is measure =
      let body : fold-ForP P L I A D T ℕ ℕ ℕ count_step count_def count_for x ≡ count (out-ForP P L I A D T x).body.value.node = ap (fold-ForP P L I A D T ℕ ℕ ℕ count_step count_def count_for) (sym (roll-out-ForP P L I A D T x)) ∙ fold-roll-ForP P L I A D T _ _ _ count_step count_def count_for (out-ForP P L I A D T x) in
      let whole : t ≡ count (out-ForP P L I A D T x).body.value.node + 1 = sym measure ∙ ap count (is ∙ sym (variant.rolls-For x)) ∙ fold-roll-StmtP P L I A D T _ _ _ count_step count_def count_for (stmt.For x) ∙ ap (λ n. n + 1) body in
      omega (arith, whole)

  pub falls-Def : (s : StmtP P L I A D T) (x : DefP P L I A D T) (t : ℕ) → s ≡ variant.Def x → count s ≡ t → count (out-DefP P L I A D T x).body.value.node < t
  falls-Def s x t is measure =
      let body : fold-DefP P L I A D T ℕ ℕ ℕ count_step count_def count_for x ≡ count (out-DefP P L I A D T x).body.value.node = ap (fold-DefP P L I A D T ℕ ℕ ℕ count_step count_def count_for) (sym (roll-out-DefP P L I A D T x)) ∙ fold-roll-DefP P L I A D T _ _ _ count_step count_def count_for (out-DefP P L I A D T x) in
      let whole : t ≡ count (out-DefP P L I A D T x).body.value.node + 1 = sym measure ∙ ap count (is ∙ sym (variant.rolls-Def x)) ∙ fold-roll-StmtP P L I A D T _ _ _ count_step count_def count_for (stmt.Def x) ∙ ap (λ n. n + 1) body in
      omega (arith, whole)

  -- less in one of a list
  pub count_falls : (s : StmtP P L I A D T) (xs : Vec (Spanned (StmtP P L I A D T)) Global) (ys : List (Spanned (StmtP P L I A D T))) (i : ℕ) (x : Spanned (StmtP P L I A D T)) (t : ℕ) → s ≡ variant.Statements xs → ys ≡ xs.items → i < length ys → x ≡ get_or ys i x → count s ≡ t → count x.node < t
  count_falls s xs ys i x t is all below here measure =
      let le : count (get_or ys i x).node ≤ sum_by (λ x. count x.node) ys = get_or-le-sum_by (λ x. count x.node) ys i x below in
      let at_x : count x.node ≡ count (get_or ys i x).node = ap (λ y. count y.node) here in
      let whole : t ≡ sum_by (λ x. count x.node) ys + 1 = sym measure ∙ ap count is ∙ count-Statements xs ∙ ap (λ zs. sum_by (λ x. count x.node) zs + 1) (sym all) in
      omega (arith, le, at_x, whole)

  other : (t : StmtP-F P L I A D T (StmtP P L I A D T) (DefP P L I A D T) (ForP P L I A D T)) → ((xs : Vec (Spanned (StmtP P L I A D T)) Global) → roll-StmtP P L I A D T t ≡ variant.Statements xs → ⊥) → nested (roll-StmtP P L I A D T t) ≡ None
  other (stmt.Statements xs) h = absurd (h xs (variant.rolls-Statements xs))
  other t h = para-roll-StmtP P L I A D T _ _ _ nested_layer (λ x. tt) (λ x. tt) t

  pub top_level-other : (x : Spanned (StmtP P L I A D T)) → ((xs : Vec (Spanned (StmtP P L I A D T)) Global) → x.node ≡ variant.Statements xs → ⊥) → top_level x ≡ x ∷ []
  top_level-other x h = ap (λ o. unwrap_or o (x ∷ [])) (ap nested (sym (roll-out-StmtP P L I A D T x.node)) ∙ other (out-StmtP P L I A D T x.node) (λ xs e. h xs (sym (roll-out-StmtP P L I A D T x.node) ∙ e)))

  nested-Statements : (xs : Vec (Spanned (StmtP P L I A D T)) Global) → nested (variant.Statements xs) ≡ Some (flat_map top_level xs.items)
  nested-Statements xs =
      ap nested (sym (variant.rolls-Statements xs)) ∙ para-roll-StmtP P L I A D T _ _ _ nested_layer (λ x. tt) (λ x. tt) (stmt.Statements xs) ∙ ap Some (flat_map-map _ _ xs.items)

  pub top_level-Statements : (x : Spanned (StmtP P L I A D T)) (xs : Vec (Spanned (StmtP P L I A D T)) Global) → x.node ≡ variant.Statements xs → top_level x ≡ flat_map top_level xs.items
  top_level-Statements x xs is = ap (λ o. unwrap_or o (x ∷ [])) (ap nested is ∙ nested-Statements xs)

  -- with one more of a list
  pub top_level-more : (xs : List (Spanned (StmtP P L I A D T))) (i : ℕ) (x : Spanned (StmtP P L I A D T)) → i < length xs → x ≡ get_or xs i x → flat_map top_level (take (i + 1) xs) ≡ flat_map top_level (take i xs) ++ top_level x
  top_level-more xs i x below is = ap (flat_map top_level) (take_more xs i x below ∙ ap (λ y. take i xs ++ y ∷ []) (sym is)) ∙ sym (flat_map_more top_level [] (take i xs) x)
