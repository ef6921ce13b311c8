use Rattle.std.proofs.Common.{Some, None, ◌∙◌, refl, ap, sym, rules}
use Rattle.starlark_ast.specs.Tree as tree
use Rattle.starlark_grammar.specs.Frames.{returned}
use Rattle.starlark_read.specs.Reads.{in_statement}
use Rattle.starlark_read.proofs.Exits.{◌>>◌, gives, exits}
use Rattle.starlark_read.proofs.Assigning.{assigned_as}
use Rattle.starlark_read.proofs.Returning.{return_opens, returns_none, returns_some}
use Rattle.starlark_read.proofs.small.behind_return.Goals as goal

pub returns-then-not-begins_test-clause-reads : goal.returns-then-not-begins_test-clause-reads
returns-then-not-begins_test-clause-reads g c d k = gives (assigned_as _ (returns_none _ _ k _ (sym c.if-not-begins_test.ensures)) (c.return_statement.ensures ∙ ap (tree.return None) c.since.ensures))

pub returns-in_err-value-clause-reads : goal.returns-in_err-value-clause-reads
returns-in_err-value-clause-reads g c d k = exits (search rules) (return_opens _ _ k _ (sym c.if-not-begins_test.ensures)) (c.in_err-value.ensures.reads d (in_statement (returned c.args.begin k)) refl)

pub returns-clause-reads : goal.returns-clause-reads
returns-clause-reads g c d k =
    let q = g.B.Make.means c.in_ok-value.value in
    let all = return_opens _ _ k _ (sym c.if-not-begins_test.ensures) >> (c.in_ok-value.ensures.reads d (in_statement (returned c.args.begin k)) refl).comes _ refl in
    gives (assigned_as _ (all >> returns_some q _ _ _ k _ c.in_ok-value.ensures.ends) (c.return_statement-2.ensures ∙ ap (tree.return (Some q)) c.since-2.ensures))
