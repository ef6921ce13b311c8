use Rattle.std.proofs.Common.{◌∙◌, ap, sym, rules}
use Rattle.starlark_lexer.specs.Items.{keyword_not}
use Rattle.starlark_read.specs.Reads.{first_lexeme, grade_ahead}
use Rattle.starlark_read.proofs.Exits.{◌>>◌, renamed, gives, missing, read_it, left_it}
use Rattle.starlark_read.proofs.Suffixing.{unlike}
use Rattle.starlark_read.proofs.Operating.{negates, no_in, operates_next, some_operator}
use Rattle.starlark_read.proofs.operators.operator.Goals as goal

pub returns-in_err-expect-clause-reads : goal.returns-in_err-expect-clause-reads
returns-in_err-expect-clause-reads c d q e k = missing (search rules) c.in_err-expect.ensures.unread c.in_err-expect.ensures.no_rule (λ h. no_in q e k c.args.level c.requires.ahead (read_it _ _ keyword_not _ c.if-branch.true c.in_ok-accept.ensures) h)

pub returns-then-branch-clause-reads : goal.returns-then-branch-clause-reads
returns-then-branch-clause-reads c d q e k = gives (negates q e k c.args.level c.requires.ahead (read_it _ _ keyword_not _ c.if-branch.true c.in_ok-accept.ensures) c.in_ok-expect.ensures.read)

pub unreachable-requires : goal.unreachable-requires
unreachable-requires c =
    let a = left_it _ _ keyword_not _ c.if-branch.false c.in_ok-accept.ensures in
    some_operator _ c.args.level (sym c.operator_ahead.ensures ∙ c.in_default.is) (unlike a.0 a.1) (ap (λ ts. grade_ahead ts.items) a.0 ∙ c.requires.ahead) c.requires.binary

pub returns-clause-reads : goal.returns-clause-reads
returns-clause-reads c d q e k =
    let a = left_it _ _ keyword_not _ c.if-branch.false c.in_ok-accept.ensures in
    gives (renamed a.0 >> operates_next _ q e k c.in-Some.op c.args.level (first_lexeme _) c.in_ok-skip.ensures (sym c.operator_ahead.ensures ∙ c.in-Some.is) (ap (λ ts. grade_ahead ts.items) a.0 ∙ c.requires.ahead))
