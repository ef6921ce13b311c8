use Rattle.std.proofs.Common.{ap, ◌∙◌}
use Rattle.starlark_ast.specs.Tree as tree
use Rattle.starlark_ast.specs.View.{clause_view, expr_at}
use Rattle.starlark_grammar.specs.Made.{clauses_of}
use Rattle.starlark_make.proofs.Making.{list_comprehension_of}
use Rattle.starlark_make.proofs.trees.TreesMake.list_comprehension.Goals as goal

pub returns : goal.returns
returns c =
    let h = c.in_ok-member.ensures in
    list_comprehension_of c.in_ok-member.member c.in_ok-member.first c.in_ok-member.rest c.args.span c.args.member _ c.args.rest h.0 h.1 h.2
    ∙ ap (λ q. tree.comprehension (tree.item (expr_at c.args.member)) (clauses_of q clause_view c.args.rest.items) c.args.span) c.for_part.ensures
