-- The expressions below those of a statement's own, by variant.
use Rattle.std.proofs.Common.{◌≡◌, sym, ap, ◌∙◌, [], ◌++◌, flat_map}
use Rattle.std.proofs.lemmas.List.Folds.{flat_map-map}
use Rattle.std.specs.declared.alloc.Global.{Global}
use Rattle.std.specs.declared.boxed.Box.{Box}
use Rattle.std.specs.declared.vec.Vec.{Vec}
use Rattle.starlark_ast.specs.Places.{E}
use Rattle.starlark_ast.specs.Statements.{S, inner_exprs, inner_layer, inner_def, inner_for, outer_exprs}
use Rattle.starlark_ast.specs.declared.ast.DefP.{DefP, out-DefP, roll-out-DefP, para-DefP, para-roll-DefP}
use Rattle.starlark_ast.specs.declared.ast.ForP.{ForP, out-ForP, roll-out-ForP, para-ForP, para-roll-ForP}
use Rattle.starlark_ast.specs.declared.ast.StmtP.{StmtP, StmtP-F, out-StmtP, roll-StmtP, roll-out-StmtP, para-roll-StmtP}
use Rattle.starlark_ast.specs.declared.ast.StmtP.TheOpen as stmt
use Rattle.starlark_ast.specs.declared.ast.StmtP.TheVariants as variant

module _ {P L I A D T : Type 0} where
  pub inner-Statements : (xs : Vec (S P L I A D T) Global) → inner_exprs (variant.Statements xs) ≡ flat_map (λ x. outer_exprs x.node) xs.items
  inner-Statements xs =
      ap inner_exprs (sym (variant.rolls-Statements xs)) ∙ para-roll-StmtP P L I A D T _ _ _ inner_layer inner_def inner_for (stmt.Statements xs) ∙ flat_map-map _ _ xs.items

  pub inner-If : (c : E P L I A D T) (x : Box (S P L I A D T) Global) → inner_exprs (variant.If c x) ≡ outer_exprs x.value.node
  inner-If c x = ap inner_exprs (sym (variant.rolls-If c x)) ∙ para-roll-StmtP P L I A D T _ _ _ inner_layer inner_def inner_for (stmt.If c x)

  pub inner-IfElse : (c : E P L I A D T) (x : Box (S P L I A D T × S P L I A D T) Global) → inner_exprs (variant.IfElse c x) ≡ outer_exprs x.value.0.node ++ outer_exprs x.value.1.node
  inner-IfElse c x = ap inner_exprs (sym (variant.rolls-IfElse c x)) ∙ para-roll-StmtP P L I A D T _ _ _ inner_layer inner_def inner_for (stmt.IfElse c x)

  pub inner-For : (x : ForP P L I A D T) → inner_exprs (variant.For x) ≡ outer_exprs (out-ForP P L I A D T x).body.value.node
  inner-For x =
      ap inner_exprs (sym (variant.rolls-For x)) ∙ para-roll-StmtP P L I A D T _ _ _ inner_layer inner_def inner_for (stmt.For x)
      ∙ ap (para-ForP P L I A D T _ _ _ inner_layer inner_def inner_for) (sym (roll-out-ForP P L I A D T x)) ∙ para-roll-ForP P L I A D T _ _ _ inner_layer inner_def inner_for (out-ForP P L I A D T x)

  pub inner-Def : (x : DefP P L I A D T) → inner_exprs (variant.Def x) ≡ outer_exprs (out-DefP P L I A D T x).body.value.node
  inner-Def x =
      ap inner_exprs (sym (variant.rolls-Def x)) ∙ para-roll-StmtP P L I A D T _ _ _ inner_layer inner_def inner_for (stmt.Def x)
      ∙ ap (para-DefP P L I A D T _ _ _ inner_layer inner_def inner_for) (sym (roll-out-DefP P L I A D T x)) ∙ para-roll-DefP P L I A D T _ _ _ inner_layer inner_def inner_for (out-DefP P L I A D T x)

  -- a statement that holds no other
  pub record HoldsNone (s : StmtP P L I A D T) : Type 0 where
    pub statements : (xs : Vec (S P L I A D T) Global) → s ≡ variant.Statements xs → ⊥
    pub when : (c : E P L I A D T) (x : Box (S P L I A D T) Global) → s ≡ variant.If c x → ⊥
    pub either : (c : E P L I A D T) (x : Box (S P L I A D T × S P L I A D T) Global) → s ≡ variant.IfElse c x → ⊥
    pub repeat : (x : ForP P L I A D T) → s ≡ variant.For x → ⊥
    pub define : (x : DefP P L I A D T) → s ≡ variant.Def x → ⊥

  none : (t : StmtP-F P L I A D T (StmtP P L I A D T) (DefP P L I A D T) (ForP P L I A D T)) → HoldsNone (roll-StmtP P L I A D T t) → inner_exprs (roll-StmtP P L I A D T t) ≡ []
  none (stmt.Statements xs) h = absurd (h.statements xs (variant.rolls-Statements xs))
  none (stmt.If c x) h = absurd (h.when c x (variant.rolls-If c x))
  none (stmt.IfElse c x) h = absurd (h.either c x (variant.rolls-IfElse c x))
  none (stmt.For x) h = absurd (h.repeat x (variant.rolls-For x))
  none (stmt.Def x) h = absurd (h.define x (variant.rolls-Def x))
  none t h = para-roll-StmtP P L I A D T _ _ _ inner_layer inner_def inner_for t

  pub inner-none : (s : StmtP P L I A D T) → HoldsNone s → inner_exprs s ≡ []
  inner-none s h =
      let is = roll-out-StmtP P L I A D T s in
      ap inner_exprs (sym is) ∙ none (out-StmtP P L I A D T s) (record { statements = λ xs e. h.statements xs (sym is ∙ e); when = λ c x e. h.when c x (sym is ∙ e); either = λ c x e. h.either c x (sym is ∙ e); repeat = λ x e. h.repeat x (sym is ∙ e); define = λ x e. h.define x (sym is ∙ e) })
