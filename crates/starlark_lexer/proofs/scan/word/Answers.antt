use Rattle.std.proofs.Common.{sym, ◌∙◌}
use Rattle.starlark_lexer.proofs.Fixed.{word_free}
use Rattle.starlark_lexer.proofs.scan.word.Goals as goal

pub returns-then-not-may_be_fixed : goal.returns-then-not-may_be_fixed
returns-then-not-may_be_fixed c = word_free c.args.word.now (sym c.may_be_fixed.ensures ∙ c.if-not-may_be_fixed.true)
