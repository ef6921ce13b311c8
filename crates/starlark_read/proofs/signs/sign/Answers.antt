use Rattle.std.proofs.Common.{◌∙◌, ap, sym}
use Rattle.starlark_grammar.specs.Made.{maybe_sign, sign_of}
use Rattle.starlark_read.specs.Reads.{first_lexeme}
use Rattle.starlark_read.proofs.Exits.{gives}
use Rattle.starlark_read.proofs.Beginning.{not_none, sign_next, some_sign}
use Rattle.starlark_read.proofs.signs.sign.Goals as goal

pub unreachable-requires : goal.unreachable-requires
unreachable-requires c = not_none c.requires.some (sym c.requires.ahead ∙ some_sign _ (sym c.sign_ahead.ensures ∙ ap maybe_sign c.in_default.is) c.requires.no_lambda)

pub returns-clause-reads : goal.returns-clause-reads
returns-clause-reads c d b k = gives (sign_next _ b c.args.level k (sign_of c.in-Some.sign) (first_lexeme _) c.in_ok-skip.ensures (sym c.sign_ahead.ensures ∙ ap maybe_sign c.in-Some.is) c.requires.ahead)
