use Rattle.std.proofs.Common.{ap, ◌∙◌}
use Rattle.starlark_make.proofs.Making.{def_of}
use Rattle.starlark_make.proofs.statements.TreesBuild.def_statement.Goals as goal

pub returns : goal.returns
returns c =
    let h = c.in_ok-body.ensures in
    def_of _ c.args.span c.args.name.node c.args.name.span c.args.parameters c.args.ty c.args.suite
    (c.assigned.ensures.ident ∙ ap (λ q. q.0.node) h.1)
    (c.assigned.ensures.span ∙ ap (λ q. q.0.span) h.1)
    (ap (λ q. q.1) h.1)
    (ap (λ q. q.2) h.1)
    h.0
