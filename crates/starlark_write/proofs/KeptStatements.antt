-- What stays of statements: the places that are not written, and how many statements there are.
use Rattle.std.proofs.Common.{◌≡◌, refl, sym, ap, ◌∙◌, subst, List, [], ◌∷◌, ◌++◌, flat_map, append-nil, length, ℕ, suc, ◌+◌, Option, Some, None, ap₂}
use Rattle.std.proofs.lemmas.List.Folds.{fold-map}
use Rattle.std.specs.List.{sum_by}
use Rattle.std.specs.declared.alloc.Global.{Global}
use Rattle.std.specs.declared.boxed.Box.{Box}
use Rattle.std.specs.declared.vec.Vec.{Vec}
use Rattle.starlark_place.specs.declared.pos.Spanned.{Spanned}
use Rattle.starlark_ast.specs.Places.{E, maybe_type_place, parameter_places, target_places}
use Rattle.starlark_ast.specs.Statements.{S, exprs_below, exprs_layer, inner_def, inner_exprs, inner_for, inner_layer, outer_exprs, stmts_below, stmts_layer}
use Rattle.starlark_ast.specs.declared.ast.DefP.{DefP, out-DefP, roll-DefP, roll-out-DefP, fold-DefP, fold-roll-DefP}
use Rattle.starlark_ast.specs.declared.ast.ForP.{ForP, out-ForP, roll-ForP, roll-out-ForP, fold-ForP, fold-roll-ForP}
use Rattle.starlark_ast.specs.declared.ast.StmtP.{StmtP, StmtP-F, out-StmtP, roll-StmtP, roll-out-StmtP, fold-roll-StmtP, para-roll-StmtP}
use Rattle.starlark_ast.specs.declared.ast.TypeExprP.{TypeExprP}
use Rattle.starlark_ast.specs.declared.ast.StmtP.TheOpen as layer
use Rattle.starlark_ast.specs.declared.ast.StmtP.TheVariants as stmt
use Rattle.starlark_visit.proofs.Below.{HoldsNone, inner-Statements, inner-If, inner-IfElse, inner-For, inner-Def}
use Rattle.starlark_ast.proofs.Tops.{count, count_def, count_for, count_step}
use Rattle.starlark_write.specs.Beside as parts
use Rattle.starlark_write.specs.Beside.{AtPlace, KeepsMaybeType, SameBox}
use Rattle.starlark_write.specs.BesideStatements as beside
use Rattle.starlark_write.specs.BesideStatements.{KeepsDefHead, KeepsForHead, KeepsHead, KeepsOuter, KeepsOuters, KeepsStmt, KeepsTypeHere, def_body, for_body}
use Rattle.starlark_write.proofs.Loops as loops
use Rattle.starlark_write.proofs.Loops.{Both}

module _ {P L I A D T : Type 0} where
  pub type_here_same : (x : Option (Spanned (TypeExprP P L I A D T))) → KeepsTypeHere x x
  type_here_same None = beside.untyped
  type_here_same (Some x) = beside.typed x x (record { span = refl; node = record { payload = refl } })

  pub maybe_type_same : (x : Option (Box (Spanned (TypeExprP P L I A D T)) Global)) → KeepsMaybeType x x
  maybe_type_same None = parts.untyped
  maybe_type_same (Some x) = parts.typed x x refl (record { span = refl; node = record { payload = refl } })

  -- what is written right below leaves the statements right below
  pub stmts_kept : {x y : StmtP P L I A D T} → KeepsStmt x y → stmts_below y ≡ stmts_below x
  stmts_kept (beside.same x) = refl
  stmts_kept (beside.returned x y k) = ap stmts_layer (stmt.outs-Return y) ∙ sym (ap stmts_layer (stmt.outs-Return x))
  stmts_kept (beside.expression x y) = ap stmts_layer (stmt.outs-Expression y) ∙ sym (ap stmts_layer (stmt.outs-Expression x))
  stmts_kept (beside.assign x y k) = ap stmts_layer (stmt.outs-Assign y) ∙ sym (ap stmts_layer (stmt.outs-Assign x))
  stmts_kept (beside.assign_modify x y op v w b k) = ap stmts_layer (stmt.outs-AssignModify y op w) ∙ sym (ap stmts_layer (stmt.outs-AssignModify x op v))
  stmts_kept (beside.condition c d s) = ap stmts_layer (stmt.outs-If d s) ∙ sym (ap stmts_layer (stmt.outs-If c s))
  stmts_kept (beside.choice c d s) = ap stmts_layer (stmt.outs-IfElse d s) ∙ sym (ap stmts_layer (stmt.outs-IfElse c s))
  stmts_kept (beside.repeat x y k) = ap stmts_layer (stmt.outs-For y) ∙ ap (λ b. b.value ∷ []) k.body ∙ sym (ap stmts_layer (stmt.outs-For x))
  stmts_kept (beside.define x y k) = ap stmts_layer (stmt.outs-Def y) ∙ ap (λ b. b.value ∷ []) k.body ∙ sym (ap stmts_layer (stmt.outs-Def x))

  -- and the other way round
  pub exprs_kept : {x y : StmtP P L I A D T} → KeepsHead x y → exprs_below y ≡ exprs_below x
  exprs_kept (beside.head_same x) = refl
  exprs_kept (beside.head_statements xs ys b k) = ap exprs_layer (stmt.outs-Statements ys) ∙ sym (ap exprs_layer (stmt.outs-Statements xs))
  exprs_kept (beside.head_condition c s t b) = ap exprs_layer (stmt.outs-If c t) ∙ sym (ap exprs_layer (stmt.outs-If c s))
  exprs_kept (beside.head_choice c s t b) = ap exprs_layer (stmt.outs-IfElse c t) ∙ sym (ap exprs_layer (stmt.outs-IfElse c s))
  exprs_kept (beside.head_repeat x y k) = ap exprs_layer (stmt.outs-For y) ∙ ap₂ (λ p q. target_places p.node ++ q ∷ []) k.var k.over ∙ sym (ap exprs_layer (stmt.outs-For x))
  exprs_kept (beside.head_define x y k) = ap exprs_layer (stmt.outs-Def y) ∙ ap₂ (λ p q. flat_map (λ r. parameter_places r.node) p.items ++ maybe_type_place q) k.params k.return_type ∙ sym (ap exprs_layer (stmt.outs-Def x))

  layer_none : (t : StmtP-F P L I A D T (StmtP P L I A D T) (DefP P L I A D T) (ForP P L I A D T)) → HoldsNone (roll-StmtP P L I A D T t) → stmts_layer t ≡ []
  layer_none (layer.Statements xs) h = absurd (h.statements xs (stmt.rolls-Statements xs))
  layer_none (layer.If c s) h = absurd (h.when c s (stmt.rolls-If c s))
  layer_none (layer.IfElse c s) h = absurd (h.either c s (stmt.rolls-IfElse c s))
  layer_none (layer.For x) h = absurd (h.repeat x (stmt.rolls-For x))
  layer_none (layer.Def x) h = absurd (h.define x (stmt.rolls-Def x))
  layer_none t h = refl

  pub stmts_none : (x : StmtP P L I A D T) → HoldsNone x → stmts_below x ≡ []
  stmts_none x h =
      let is = roll-out-StmtP P L I A D T x in
      layer_none (out-StmtP P L I A D T x) (record { statements = λ xs e. h.statements xs (sym is ∙ e); when = λ c s e. h.when c s (sym is ∙ e); either = λ c s e. h.either c s (sym is ∙ e); repeat = λ y e. h.repeat y (sym is ∙ e); define = λ y e. h.define y (sym is ∙ e) })

  -- the expressions below a statement's own are the outermost ones of the statements right below
  layer_inner : (t : StmtP-F P L I A D T (StmtP P L I A D T) (DefP P L I A D T) (ForP P L I A D T)) → inner_exprs (roll-StmtP P L I A D T t) ≡ flat_map (λ s. outer_exprs s.node) (stmts_layer t)
  layer_inner (layer.Statements xs) = ap inner_exprs (stmt.rolls-Statements xs) ∙ inner-Statements xs
  layer_inner (layer.If c s) = ap inner_exprs (stmt.rolls-If c s) ∙ inner-If c s ∙ sym (append-nil _)
  layer_inner (layer.IfElse c s) = ap inner_exprs (stmt.rolls-IfElse c s) ∙ inner-IfElse c s ∙ ap (λ q. outer_exprs s.value.0.node ++ q) (sym (append-nil _))
  layer_inner (layer.For x) = ap inner_exprs (stmt.rolls-For x) ∙ inner-For x ∙ sym (append-nil _)
  layer_inner (layer.Def x) = ap inner_exprs (stmt.rolls-Def x) ∙ inner-Def x ∙ sym (append-nil _)
  layer_inner t = para-roll-StmtP P L I A D T _ _ _ inner_layer inner_def inner_for t

  pub inner_below : (x : StmtP P L I A D T) → inner_exprs x ≡ flat_map (λ s. outer_exprs s.node) (stmts_below x)
  inner_below x = ap inner_exprs (sym (roll-out-StmtP P L I A D T x)) ∙ layer_inner (out-StmtP P L I A D T x)

  pub outers_length : {xs ys : List (S P L I A D T)} → KeepsOuters xs ys → length ys ≡ length xs
  outers_length (beside.outers_rest xs) = refl
  outers_length (beside.outers_more e k h) = ap (λ n. suc n) (outers_length h)

  pub inner_kept : {x y : StmtP P L I A D T} → KeepsStmt x y → inner_exprs y ≡ inner_exprs x
  inner_kept {x} {y} k = inner_below y ∙ ap (flat_map (λ s. outer_exprs s.node)) (stmts_kept k) ∙ sym (inner_below x)

  pub outers_at : {xs ys zs ws : List (S P L I A D T)} → xs ≡ zs → ys ≡ ws → KeepsOuters zs ws → KeepsOuters xs ys
  outers_at {xs} {ys} {zs} {ws} is are h = subst (λ q. KeepsOuters q ys) (sym is) (subst (λ q. KeepsOuters zs q) (sym are) h)

  pub outers_rest : (xs ys zs : List (S P L I A D T)) → Both (AtPlace KeepsOuter) xs ys → KeepsOuters (xs ++ zs) (ys ++ zs)
  outers_rest xs ys zs loops.none = beside.outers_rest zs
  outers_rest xs ys zs (loops.more k h) = beside.outers_more k.span k.node (outers_rest _ _ zs h)

  pub count-Statements : (xs : Vec (S P L I A D T) Global) → count (stmt.Statements xs) ≡ sum_by (λ s. count s.node) xs.items + 1
  count-Statements xs =
      ap count (sym (stmt.rolls-Statements xs)) ∙ fold-roll-StmtP P L I A D T _ _ _ count_step count_def count_for (layer.Statements xs) ∙ ap (λ n. n + 1) (fold-map _ _ 0 xs.items)

  count-If : (c : E P L I A D T) (s : Box (S P L I A D T) Global) → count (stmt.If c s) ≡ count s.value.node + 1
  count-If c s = ap count (sym (stmt.rolls-If c s)) ∙ fold-roll-StmtP P L I A D T _ _ _ count_step count_def count_for (layer.If c s)

  count-IfElse : (c : E P L I A D T) (s : Box (S P L I A D T × S P L I A D T) Global) → count (stmt.IfElse c s) ≡ count s.value.0.node + count s.value.1.node + 1
  count-IfElse c s = ap count (sym (stmt.rolls-IfElse c s)) ∙ fold-roll-StmtP P L I A D T _ _ _ count_step count_def count_for (layer.IfElse c s)

  count-For : (x : ForP P L I A D T) → count (stmt.For x) ≡ count (for_body x).node + 1
  count-For x =
      ap count (sym (stmt.rolls-For x)) ∙ fold-roll-StmtP P L I A D T _ _ _ count_step count_def count_for (layer.For x)
      ∙ ap (λ n. n + 1) (ap (fold-ForP P L I A D T ℕ ℕ ℕ count_step count_def count_for) (sym (roll-out-ForP P L I A D T x)) ∙ fold-roll-ForP P L I A D T _ _ _ count_step count_def count_for (out-ForP P L I A D T x))

  count-Def : (x : DefP P L I A D T) → count (stmt.Def x) ≡ count (def_body x).node + 1
  count-Def x =
      ap count (sym (stmt.rolls-Def x)) ∙ fold-roll-StmtP P L I A D T _ _ _ count_step count_def count_for (layer.Def x)
      ∙ ap (λ n. n + 1) (ap (fold-DefP P L I A D T ℕ ℕ ℕ count_step count_def count_for) (sym (roll-out-DefP P L I A D T x)) ∙ fold-roll-DefP P L I A D T _ _ _ count_step count_def count_for (out-DefP P L I A D T x))

  -- what is written right below leaves how many statements there are
  pub count_kept : {x y : StmtP P L I A D T} → KeepsStmt x y → count y ≡ count x
  count_kept (beside.same x) = refl
  count_kept (beside.returned x y k) = (ap count (sym (stmt.rolls-Return y)) ∙ fold-roll-StmtP P L I A D T _ _ _ count_step count_def count_for (layer.Return y)) ∙ sym (ap count (sym (stmt.rolls-Return x)) ∙ fold-roll-StmtP P L I A D T _ _ _ count_step count_def count_for (layer.Return x))
  count_kept (beside.expression x y) = (ap count (sym (stmt.rolls-Expression y)) ∙ fold-roll-StmtP P L I A D T _ _ _ count_step count_def count_for (layer.Expression y)) ∙ sym (ap count (sym (stmt.rolls-Expression x)) ∙ fold-roll-StmtP P L I A D T _ _ _ count_step count_def count_for (layer.Expression x))
  count_kept (beside.assign x y k) = (ap count (sym (stmt.rolls-Assign y)) ∙ fold-roll-StmtP P L I A D T _ _ _ count_step count_def count_for (layer.Assign y)) ∙ sym (ap count (sym (stmt.rolls-Assign x)) ∙ fold-roll-StmtP P L I A D T _ _ _ count_step count_def count_for (layer.Assign x))
  count_kept (beside.assign_modify x y op v w b k) = (ap count (sym (stmt.rolls-AssignModify y op w)) ∙ fold-roll-StmtP P L I A D T _ _ _ count_step count_def count_for (layer.AssignModify y op w)) ∙ sym (ap count (sym (stmt.rolls-AssignModify x op v)) ∙ fold-roll-StmtP P L I A D T _ _ _ count_step count_def count_for (layer.AssignModify x op v))
  count_kept (beside.condition c d s) = count-If d s ∙ sym (count-If c s)
  count_kept (beside.choice c d s) = count-IfElse d s ∙ sym (count-IfElse c s)
  count_kept (beside.repeat x y k) = count-For y ∙ ap (λ b. count b.value.node + 1) k.body ∙ sym (count-For x)
  count_kept (beside.define x y k) = count-Def y ∙ ap (λ b. count b.value.node + 1) k.body ∙ sym (count-Def x)

  -- with another body
  abbrev pub with_for_body : ForP P L I A D T → Box (S P L I A D T) Global → ForP P L I A D T
  with_for_body x b = let s = out-ForP P L I A D T x in roll-ForP P L I A D T (record { var = s.var; over = s.over; body = b })

  abbrev pub with_def_body : DefP P L I A D T → Box (S P L I A D T) Global → DefP P L I A D T
  with_def_body x b = let d = out-DefP P L I A D T x in roll-DefP P L I A D T (record { name = d.name; params = d.params; return_type = d.return_type; body = b; payload = d.payload })

  pub for_head_kept : (x : ForP P L I A D T) (b : Box (S P L I A D T) Global) → SameBox (out-ForP P L I A D T x).body b → KeepsForHead x (with_for_body x b)
  for_head_kept x b h = record { var = refl; over = refl; body_block = h }

  pub def_head_kept : (x : DefP P L I A D T) (b : Box (S P L I A D T) Global) → SameBox (out-DefP P L I A D T x).body b → KeepsDefHead x (with_def_body x b)
  def_head_kept x b h = record { name = refl; params = refl; return_type = refl; body_block = h; payload = refl }

  pub for_body_is : (x : ForP P L I A D T) (b : Box (S P L I A D T) Global) → for_body (with_for_body x b) ≡ b.value
  for_body_is x b = refl

  pub def_body_is : (x : DefP P L I A D T) (b : Box (S P L I A D T) Global) → def_body (with_def_body x b) ≡ b.value
  def_body_is x b = refl
