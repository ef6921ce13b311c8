use Rattle.std.proofs.Common.{Option, None}
use Rattle.starlark_place.specs.declared.pos.Spanned.{Spanned}
use Rattle.starlark_ast.specs.Tree as tree
use Rattle.starlark_ast.specs.declared.ast.AssignP.{AssignP}
use Rattle.starlark_ast.specs.declared.ast.AssignTargetP.{AssignTargetP}
use Rattle.starlark_ast.specs.declared.ast.ExprP.{ExprP}
use Rattle.starlark_ast.specs.declared.ast.TypeExprP.{TypeExprP}
use Rattle.starlark_ast.specs.View.{assign_view}
use Rattle.starlark_payload.specs.Around.{annotation_of}
use Rattle.starlark_payload.specs.Payloads.{assign_payloads}
use Rattle.starlark_payload.proofs.Parts.{both, late, made, stops, stops_behind, stops_first}
use Rattle.starlark_payload.proofs.StatementOpening.{assign_payloads_are, assign_view_is}
use Rattle.starlark_payload.proofs.statement_mapping.assign.Goals as goal

pub returns-in_err-lhs : goal.returns-in_err-lhs
returns-in_err-lhs g c = late _ _ _ _ _ c.from_residual.ensures.1 (stops (assign_payloads_are c.args.x) (stops_first _ c.in_err-lhs.ensures))

pub returns-in_err-ty : goal.returns-in_err-ty
returns-in_err-ty g c = late _ _ _ _ _ c.from_residual-in_err-ty.ensures.1 (stops (assign_payloads_are c.args.x) (stops_behind c.in_ok-lhs.ensures (stops_first _ c.in_err-ty.ensures)))

pub returns-in_err-rhs : goal.returns-in_err-rhs
returns-in_err-rhs g c = late _ _ _ _ _ c.from_residual-in_err-rhs.ensures.1 (stops (assign_payloads_are c.args.x) (stops_behind c.in_ok-lhs.ensures (stops_behind c.in_ok-ty.ensures c.in_err-rhs.ensures)))

module _ {P L I A D T : Type 0} where
  -- the parts together
  abbrev assign_of : Spanned (AssignTargetP P L I A D T) → Option (Spanned (TypeExprP P L I A D T)) → Spanned (ExprP P L I A D T) → AssignP P L I A D T
  assign_of x t y = record { lhs = x; ty = t; rhs = y }

pub returns : goal.returns
returns g c = let it = assign_of c.in_ok-lhs.lhs c.in_ok-ty.ty c.in_ok-rhs.rhs in made assign_view assign_payloads it (λ (q : tree.Expr × (Option tree.Annotation × tree.Expr)). tree.assign q.0 (annotation_of q.1.0) None q.1.1) (both c.in_ok-lhs.ensures (both c.in_ok-ty.ensures c.in_ok-rhs.ensures)) (assign_view_is c.args.x) (assign_payloads_are c.args.x) (assign_view_is it) (assign_payloads_are it)
