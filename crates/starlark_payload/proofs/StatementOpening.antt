-- The statements of trees: their plain data, their payloads and their weights.
use Rattle.std.proofs.Common.{◌≡◌, refl, sym, ap, ◌∙◌, List, [], ◌∷◌, ◌++◌, suc, ◌+◌, map, Option, Some, None}
use Rattle.std.proofs.lemmas.List.Folds.{flat_map-map}
use mathlib.Core.Path.{fun_ext}
use Rattle.std.specs.Option.{option_map}
use Rattle.std.specs.declared.alloc.Global.{Global}
use Rattle.std.specs.declared.boxed.Box.{Box}
use Rattle.std.specs.declared.vec.Vec.{Vec}
use Rattle.starlark_place.specs.declared.pos.Spanned.{Spanned}
use Rattle.starlark_ast.specs.Tree as tree
use Rattle.starlark_ast.specs.View.{assign_view, boxed_type, def_view, expr_view, for_view, ident_at, load_view, maybe_expr, maybe_type, members, parameter_at, parameter_view, stmt_view, target_view, type_view}
use Rattle.starlark_ast.specs.Views.{members-map}
use Rattle.starlark_ast.specs.StatementViews.{sequence-map, statements_of, stmt_view-Assign, stmt_view-AssignModify, stmt_view-Break, stmt_view-Continue, stmt_view-Def, stmt_view-Expression, stmt_view-For, stmt_view-If, stmt_view-IfElse, stmt_view-Load, stmt_view-Pass, stmt_view-Return, stmt_view-Statements, view-def, view-for}
use Rattle.starlark_ast.specs.declared.ast.AssignIdentP.{AssignIdentP}
use Rattle.starlark_ast.specs.declared.ast.AssignOp.{AssignOp}
use Rattle.starlark_ast.specs.declared.ast.AssignP.{AssignP}
use Rattle.starlark_ast.specs.declared.ast.AssignTargetP.{AssignTargetP}
use Rattle.starlark_ast.specs.declared.ast.DefP.{DefP, fold_out-DefP}
use Rattle.starlark_ast.specs.declared.ast.ExprP.{ExprP}
use Rattle.starlark_ast.specs.declared.ast.ForP.{ForP, fold_out-ForP}
use Rattle.starlark_ast.specs.declared.ast.LoadP.{LoadP}
use Rattle.starlark_ast.specs.declared.ast.ParameterP.{ParameterP}
use Rattle.starlark_ast.specs.declared.ast.StmtP.{StmtP, fold-roll-StmtP}
use Rattle.starlark_ast.specs.declared.ast.StmtP.TheOpen as layer
use Rattle.starlark_ast.specs.declared.ast.StmtP.TheVariants as stmt
use Rattle.starlark_ast.specs.declared.ast.TypeExprP.{TypeExprP}
use Rattle.starlark_payload.specs.Around.{annotation_of, same_member}
use Rattle.starlark_payload.specs.StatementsAround.{plain_view, sequence_of}
use Rattle.starlark_payload.specs.Mapped.{seen}
use Rattle.starlark_payload.specs.declared.statement_nodes.Plain.TheVariants as plain
use Rattle.starlark_payload.specs.Payloads.{OfDef, all_of, assign_payloads, assigned_payloads, def_payloads, def_step, expr_payloads, for_payloads, for_step, load_payloads, maybe_boxed, maybe_expr_payloads, maybe_of, maybe_type_payloads, parameter_payloads, stmt_payloads, stmt_step, target_payloads, type_payloads}
use Rattle.starlark_payload.specs.StatementWeights.{def_weight, def_weights, for_weight, for_weights, stmt_weight, stmt_weights}
use Rattle.starlark_payload.specs.Weights.{known, node_weight, total, unboxed}
use Rattle.starlark_payload.proofs.Opening.{total-map}

module _ {P L I A D T : Type 0} where
  -- the parts together
  abbrev pub for_of : Spanned (AssignTargetP P L I A D T) → Spanned (ExprP P L I A D T) → Box (Spanned (StmtP P L I A D T)) Global → ForP P L I A D T
  for_of x y b = record { var = x; over = y; body = b }

  abbrev pub def_of : Spanned (AssignIdentP P L I A D T) → Vec (Spanned (ParameterP P L I A D T)) Global → Option (Box (Spanned (TypeExprP P L I A D T)) Global) → Box (Spanned (StmtP P L I A D T)) Global → D → DefP P L I A D T
  def_of n ps t b o = record { name = n; params = ps; return_type = t; body = b; payload = o }

  value_is : (x : Option (Spanned (ExprP P L I A D T))) → maybe_expr x ≡ option_map (seen expr_view) x
  value_is None = refl
  value_is (Some x) = refl

  value_payloads : (x : Option (Spanned (ExprP P L I A D T))) → maybe_expr_payloads x ≡ maybe_of expr_payloads x
  value_payloads None = refl
  value_payloads (Some x) = refl

  type_is : (x : Option (Box (Spanned (TypeExprP P L I A D T)) Global)) → boxed_type x ≡ annotation_of (option_map (seen type_view) (unboxed x))
  type_is None = refl
  type_is (Some x) = refl

  left_type_is : (x : Option (Spanned (TypeExprP P L I A D T))) → maybe_type x ≡ annotation_of (option_map (seen type_view) x)
  left_type_is None = refl
  left_type_is (Some x) = refl

  left_type_payloads : (x : Option (Spanned (TypeExprP P L I A D T))) → maybe_type_payloads x ≡ maybe_of type_payloads x
  left_type_payloads None = refl
  left_type_payloads (Some x) = refl

  pub Return_view : (x : Option (Spanned (ExprP P L I A D T))) → stmt_view (stmt.Return x) ≡ tree.return (option_map (seen expr_view) x)
  Return_view x = fun_ext (λ s. stmt_view-Return x s ∙ ap (λ q. tree.return q s) (value_is x))

  pub Return_payloads : (x : Option (Spanned (ExprP P L I A D T))) → stmt_payloads (stmt.Return x) ≡ maybe_of expr_payloads x
  Return_payloads x = ap stmt_payloads (sym (stmt.rolls-Return x)) ∙ fold-roll-StmtP P L I A D T _ _ _ stmt_step def_step for_step (layer.Return x) ∙ value_payloads x

  pub Expression_view : (x : Spanned (ExprP P L I A D T)) → stmt_view (stmt.Expression x) ≡ tree.expression (seen expr_view x)
  Expression_view x = fun_ext (λ s. stmt_view-Expression x s)

  pub Expression_payloads : (x : Spanned (ExprP P L I A D T)) → stmt_payloads (stmt.Expression x) ≡ expr_payloads x.node
  Expression_payloads x = ap stmt_payloads (sym (stmt.rolls-Expression x)) ∙ fold-roll-StmtP P L I A D T _ _ _ stmt_step def_step for_step (layer.Expression x)

  pub Assign_view : (x : AssignP P L I A D T) → stmt_view (stmt.Assign x) ≡ assign_view x
  Assign_view x = fun_ext (λ s. stmt_view-Assign x s)

  pub Assign_payloads : (x : AssignP P L I A D T) → stmt_payloads (stmt.Assign x) ≡ assign_payloads x
  Assign_payloads x = ap stmt_payloads (sym (stmt.rolls-Assign x)) ∙ fold-roll-StmtP P L I A D T _ _ _ stmt_step def_step for_step (layer.Assign x)

  pub Modify_view_of : (x : Spanned (AssignTargetP P L I A D T)) (o : AssignOp) (b : Box (Spanned (ExprP P L I A D T)) Global) (v : Spanned (ExprP P L I A D T)) → b.value ≡ v → stmt_view (stmt.AssignModify x o b) ≡ tree.assign (seen target_view x) tree.untyped (Some o) (seen expr_view v)
  Modify_view_of x o b v e = fun_ext (λ s. stmt_view-AssignModify x o b s ∙ ap (λ q. tree.assign (seen target_view x) tree.untyped (Some o) (seen expr_view q) s) e)

  pub Modify_payloads_of : (x : Spanned (AssignTargetP P L I A D T)) (o : AssignOp) (b : Box (Spanned (ExprP P L I A D T)) Global) (v : Spanned (ExprP P L I A D T)) → b.value ≡ v → stmt_payloads (stmt.AssignModify x o b) ≡ target_payloads x.node ++ expr_payloads v.node
  Modify_payloads_of x o b v e = ap stmt_payloads (sym (stmt.rolls-AssignModify x o b)) ∙ fold-roll-StmtP P L I A D T _ _ _ stmt_step def_step for_step (layer.AssignModify x o b) ∙ ap (λ q. target_payloads x.node ++ expr_payloads q.node) e

  sequence_is : (xs : List (Spanned (StmtP P L I A D T))) → statements_of xs ≡ sequence_of (map (seen stmt_view) xs)
  sequence_is xs = sym (sequence-map (λ q. q) (seen stmt_view) tree.no_statements xs)

  pub Statements_view : (xs : Vec (Spanned (StmtP P L I A D T)) Global) → stmt_view (stmt.Statements xs) ≡ tree.block (sequence_of (map (seen stmt_view) xs.items))
  Statements_view xs = fun_ext (λ s. stmt_view-Statements xs s ∙ ap (λ q. tree.block q s) (sequence_is xs.items))

  pub Statements_payloads : (xs : Vec (Spanned (StmtP P L I A D T)) Global) → stmt_payloads (stmt.Statements xs) ≡ all_of stmt_payloads xs.items
  Statements_payloads xs = ap stmt_payloads (sym (stmt.rolls-Statements xs)) ∙ fold-roll-StmtP P L I A D T _ _ _ stmt_step def_step for_step (layer.Statements xs) ∙ flat_map-map (λ x. x.node) _ xs.items

  pub Statements_weight : (xs : Vec (Spanned (StmtP P L I A D T)) Global) → stmt_weight (stmt.Statements xs) ≡ suc (total (node_weight stmt_weight) xs.items)
  Statements_weight xs = ap stmt_weight (sym (stmt.rolls-Statements xs)) ∙ fold-roll-StmtP P L I A D T _ _ _ stmt_weights def_weights for_weights (layer.Statements xs) ∙ ap suc (total-map (node_weight known) _ xs.items)

  pub If_view_of : (c : Spanned (ExprP P L I A D T)) (b : Box (Spanned (StmtP P L I A D T)) Global) (v : Spanned (StmtP P L I A D T)) → b.value ≡ v → stmt_view (stmt.If c b) ≡ tree.when (seen expr_view c) (seen stmt_view v)
  If_view_of c b v e = fun_ext (λ s. stmt_view-If c b s ∙ ap (λ q. tree.when (seen expr_view c) (seen stmt_view q) s) e)

  pub If_payloads_of : (c : Spanned (ExprP P L I A D T)) (b : Box (Spanned (StmtP P L I A D T)) Global) (v : Spanned (StmtP P L I A D T)) → b.value ≡ v → stmt_payloads (stmt.If c b) ≡ expr_payloads c.node ++ stmt_payloads v.node
  If_payloads_of c b v e = ap stmt_payloads (sym (stmt.rolls-If c b)) ∙ fold-roll-StmtP P L I A D T _ _ _ stmt_step def_step for_step (layer.If c b) ∙ ap (λ q. expr_payloads c.node ++ stmt_payloads q.node) e

  pub If_weight_of : (c : Spanned (ExprP P L I A D T)) (b : Box (Spanned (StmtP P L I A D T)) Global) (v : Spanned (StmtP P L I A D T)) → b.value ≡ v → stmt_weight (stmt.If c b) ≡ suc (stmt_weight v.node)
  If_weight_of c b v e = ap stmt_weight (sym (stmt.rolls-If c b)) ∙ fold-roll-StmtP P L I A D T _ _ _ stmt_weights def_weights for_weights (layer.If c b) ∙ ap (λ q. suc (stmt_weight q.node)) e

  pub IfElse_view_of : (c : Spanned (ExprP P L I A D T)) (b : Box (Spanned (StmtP P L I A D T) × Spanned (StmtP P L I A D T)) Global) (v : Spanned (StmtP P L I A D T) × Spanned (StmtP P L I A D T)) → b.value ≡ v → stmt_view (stmt.IfElse c b) ≡ tree.either (seen expr_view c) (seen stmt_view v.0) (seen stmt_view v.1)
  IfElse_view_of c b v e = fun_ext (λ s. stmt_view-IfElse c b s ∙ ap (λ q. tree.either (seen expr_view c) (seen stmt_view q.0) (seen stmt_view q.1) s) e)

  pub IfElse_payloads_of : (c : Spanned (ExprP P L I A D T)) (b : Box (Spanned (StmtP P L I A D T) × Spanned (StmtP P L I A D T)) Global) (v : Spanned (StmtP P L I A D T) × Spanned (StmtP P L I A D T)) → b.value ≡ v → stmt_payloads (stmt.IfElse c b) ≡ expr_payloads c.node ++ (stmt_payloads v.0.node ++ stmt_payloads v.1.node)
  IfElse_payloads_of c b v e = ap stmt_payloads (sym (stmt.rolls-IfElse c b)) ∙ fold-roll-StmtP P L I A D T _ _ _ stmt_step def_step for_step (layer.IfElse c b) ∙ ap (λ q. expr_payloads c.node ++ (stmt_payloads q.0.node ++ stmt_payloads q.1.node)) e

  pub IfElse_weight_of : (c : Spanned (ExprP P L I A D T)) (b : Box (Spanned (StmtP P L I A D T) × Spanned (StmtP P L I A D T)) Global) (v : Spanned (StmtP P L I A D T) × Spanned (StmtP P L I A D T)) → b.value ≡ v → stmt_weight (stmt.IfElse c b) ≡ suc (stmt_weight v.0.node + stmt_weight v.1.node)
  IfElse_weight_of c b v e = ap stmt_weight (sym (stmt.rolls-IfElse c b)) ∙ fold-roll-StmtP P L I A D T _ _ _ stmt_weights def_weights for_weights (layer.IfElse c b) ∙ ap (λ q. suc (stmt_weight q.0.node + stmt_weight q.1.node)) e

  pub For_view : (x : ForP P L I A D T) → stmt_view (stmt.For x) ≡ for_view x
  For_view x = fun_ext (λ s. stmt_view-For x s)

  pub For_payloads : (x : ForP P L I A D T) → stmt_payloads (stmt.For x) ≡ for_payloads x
  For_payloads x = ap stmt_payloads (sym (stmt.rolls-For x)) ∙ fold-roll-StmtP P L I A D T _ _ _ stmt_step def_step for_step (layer.For x)

  pub For_weight : (x : ForP P L I A D T) → stmt_weight (stmt.For x) ≡ suc (for_weight x)
  For_weight x = ap stmt_weight (sym (stmt.rolls-For x)) ∙ fold-roll-StmtP P L I A D T _ _ _ stmt_weights def_weights for_weights (layer.For x)

  pub Def_view : (x : DefP P L I A D T) → stmt_view (stmt.Def x) ≡ def_view x
  Def_view x = fun_ext (λ s. stmt_view-Def x s)

  pub Def_payloads : (x : DefP P L I A D T) → stmt_payloads (stmt.Def x) ≡ def_payloads x
  Def_payloads x = ap stmt_payloads (sym (stmt.rolls-Def x)) ∙ fold-roll-StmtP P L I A D T _ _ _ stmt_step def_step for_step (layer.Def x)

  pub Def_weight : (x : DefP P L I A D T) → stmt_weight (stmt.Def x) ≡ suc (def_weight x)
  Def_weight x = ap stmt_weight (sym (stmt.rolls-Def x)) ∙ fold-roll-StmtP P L I A D T _ _ _ stmt_weights def_weights for_weights (layer.Def x)

  pub Load_view : (x : LoadP P L I A D T) → stmt_view (stmt.Load x) ≡ load_view x
  Load_view x = fun_ext (λ s. stmt_view-Load x s)

  pub Load_payloads : (x : LoadP P L I A D T) → stmt_payloads (stmt.Load x) ≡ load_payloads x
  Load_payloads x = ap stmt_payloads (sym (stmt.rolls-Load x)) ∙ fold-roll-StmtP P L I A D T _ _ _ stmt_step def_step for_step (layer.Load x)

  pub for_view_of : (x : ForP P L I A D T) (v : Spanned (StmtP P L I A D T)) → x.body.value ≡ v → for_view x ≡ tree.repeat (seen target_view x.var) (seen expr_view x.over) (seen stmt_view v)
  for_view_of x v e = fun_ext (λ s. view-for x s ∙ ap (λ q. tree.repeat (seen target_view x.var) (seen expr_view x.over) (seen stmt_view q) s) e)

  pub for_payloads_of : (x : ForP P L I A D T) (v : Spanned (StmtP P L I A D T)) → x.body.value ≡ v → for_payloads x ≡ target_payloads x.var.node ++ (expr_payloads x.over.node ++ stmt_payloads v.node)
  for_payloads_of x v e = fold_out-ForP P L I A D T _ _ _ stmt_step def_step for_step x ∙ ap (λ q. target_payloads x.var.node ++ (expr_payloads x.over.node ++ stmt_payloads q.node)) e

  pub for_weight_of : (x : ForP P L I A D T) (v : Spanned (StmtP P L I A D T)) → x.body.value ≡ v → for_weight x ≡ suc (stmt_weight v.node)
  for_weight_of x v e = fold_out-ForP P L I A D T _ _ _ stmt_weights def_weights for_weights x ∙ ap (λ q. suc (stmt_weight q.node)) e

  parameters_are : (xs : List (Spanned (ParameterP P L I A D T))) → members parameter_at xs ≡ members same_member (map (seen parameter_view) xs)
  parameters_are xs = sym (members-map same_member (seen parameter_view) tree.none xs)

  pub def_view_of : (x : DefP P L I A D T) (t : Option (Spanned (TypeExprP P L I A D T))) (v : Spanned (StmtP P L I A D T)) → unboxed x.return_type ≡ t → x.body.value ≡ v → def_view x ≡ tree.define (ident_at x.name) (members same_member (map (seen parameter_view) x.params.items)) (annotation_of (option_map (seen type_view) t)) (seen stmt_view v)
  def_view_of x t v d e = fun_ext (λ s.
      view-def x s
      ∙ ap (λ q. tree.define (ident_at x.name) q (boxed_type x.return_type) (seen stmt_view x.body.value) s) (parameters_are x.params.items)
      ∙ ap (λ q. tree.define (ident_at x.name) (members same_member (map (seen parameter_view) x.params.items)) q (seen stmt_view x.body.value) s) (type_is x.return_type)
      ∙ ap (λ q. tree.define (ident_at x.name) (members same_member (map (seen parameter_view) x.params.items)) (annotation_of (option_map (seen type_view) q)) (seen stmt_view x.body.value) s) d
      ∙ ap (λ q. tree.define (ident_at x.name) (members same_member (map (seen parameter_view) x.params.items)) (annotation_of (option_map (seen type_view) t)) (seen stmt_view q) s) e)

  boxed_payloads : (x : Option (Box (Spanned (TypeExprP P L I A D T)) Global)) → maybe_boxed type_payloads x ≡ maybe_of type_payloads (unboxed x)
  boxed_payloads None = refl
  boxed_payloads (Some x) = refl

  pub def_payloads_of : (x : DefP P L I A D T) (t : Option (Spanned (TypeExprP P L I A D T))) (v : Spanned (StmtP P L I A D T)) → unboxed x.return_type ≡ t → x.body.value ≡ v → def_payloads x ≡ assigned_payloads x.name.node ++ (all_of parameter_payloads x.params.items ++ (maybe_of type_payloads t ++ (stmt_payloads v.node ++ OfDef x.payload ∷ [])))
  def_payloads_of x t v d e =
      fold_out-DefP P L I A D T _ _ _ stmt_step def_step for_step x
      ∙ ap (λ q. assigned_payloads x.name.node ++ (all_of parameter_payloads x.params.items ++ (q ++ (stmt_payloads x.body.value.node ++ OfDef x.payload ∷ [])))) (boxed_payloads x.return_type ∙ ap (maybe_of type_payloads) d)
      ∙ ap (λ q. assigned_payloads x.name.node ++ (all_of parameter_payloads x.params.items ++ (maybe_of type_payloads t ++ (stmt_payloads q.node ++ OfDef x.payload ∷ [])))) e

  pub def_weight_of : (x : DefP P L I A D T) (v : Spanned (StmtP P L I A D T)) → x.body.value ≡ v → def_weight x ≡ suc (stmt_weight v.node)
  def_weight_of x v e = fold_out-DefP P L I A D T _ _ _ stmt_weights def_weights for_weights x ∙ ap (λ q. suc (stmt_weight q.node)) e

  pub assign_view_is : (x : AssignP P L I A D T) → assign_view x ≡ tree.assign (seen target_view x.lhs) (annotation_of (option_map (seen type_view) x.ty)) None (seen expr_view x.rhs)
  assign_view_is x = fun_ext (λ s. ap (λ q. tree.assign (seen target_view x.lhs) q None (seen expr_view x.rhs) s) (left_type_is x.ty))

  pub assign_payloads_are : (x : AssignP P L I A D T) → assign_payloads x ≡ target_payloads x.lhs.node ++ (maybe_of type_payloads x.ty ++ expr_payloads x.rhs.node)
  assign_payloads_are x = ap (λ q. target_payloads x.lhs.node ++ (q ++ expr_payloads x.rhs.node)) (left_type_payloads x.ty)

module _ (P L I A D T : Type 0) where
  pub Break_view : stmt_view {P = P} {L = L} {I = I} {A = A} {D = D} {T = T} stmt.Break ≡ plain_view plain.Break
  Break_view = fun_ext (λ s. stmt_view-Break P L I A D T s)

  pub Break_payloads : stmt_payloads {P = P} {L = L} {I = I} {A = A} {D = D} {T = T} stmt.Break ≡ []
  Break_payloads = ap (stmt_payloads {P = P} {L = L} {I = I} {A = A} {D = D} {T = T}) (sym stmt.rolls-Break) ∙ fold-roll-StmtP P L I A D T _ _ _ stmt_step def_step for_step layer.Break

  pub Continue_view : stmt_view {P = P} {L = L} {I = I} {A = A} {D = D} {T = T} stmt.Continue ≡ plain_view plain.Continue
  Continue_view = fun_ext (λ s. stmt_view-Continue P L I A D T s)

  pub Continue_payloads : stmt_payloads {P = P} {L = L} {I = I} {A = A} {D = D} {T = T} stmt.Continue ≡ []
  Continue_payloads = ap (stmt_payloads {P = P} {L = L} {I = I} {A = A} {D = D} {T = T}) (sym stmt.rolls-Continue) ∙ fold-roll-StmtP P L I A D T _ _ _ stmt_step def_step for_step layer.Continue

  pub Pass_view : stmt_view {P = P} {L = L} {I = I} {A = A} {D = D} {T = T} stmt.Pass ≡ plain_view plain.Pass
  Pass_view = fun_ext (λ s. stmt_view-Pass P L I A D T s)

  pub Pass_payloads : stmt_payloads {P = P} {L = L} {I = I} {A = A} {D = D} {T = T} stmt.Pass ≡ []
  Pass_payloads = ap (stmt_payloads {P = P} {L = L} {I = I} {A = A} {D = D} {T = T}) (sym stmt.rolls-Pass) ∙ fold-roll-StmtP P L I A D T _ _ _ stmt_step def_step for_step layer.Pass
