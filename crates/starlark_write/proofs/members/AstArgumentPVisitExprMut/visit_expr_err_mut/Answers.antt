use Rattle.std.proofs.Common.{refl, sym, ap, [], ◌∷◌}
use Rattle.starlark_write.proofs.KeptParts.{argument_kept, expr_of_with}
use Rattle.starlark_write.proofs.Writes.{writes_at}
use Rattle.starlark_write.proofs.members.AstArgumentPVisitExprMut.visit_expr_err_mut.Goals as goal

pub returns-clause-calls : goal.returns-clause-calls
returns-clause-calls g c =
    writes_at g.F.FnMut (ap (λ q. q ∷ []) (sym c.expr_mut.ensures.value)) (ap (λ q. q ∷ []) (expr_of_with c.args.self.now.node c.one.new.x)) c.one.ensures.calls

pub returns-clause-kept : goal.returns-clause-kept
returns-clause-kept g c = record { span = refl; node = argument_kept c.args.self.now.node c.one.new.x }
