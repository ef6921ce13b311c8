use Rattle.std.proofs.Common.{sym, subst, ◌∙◌}
use Rattle.starlark_lexer.specs.Turns.{IsLexical}
use Rattle.starlark_lexer.proofs.Hands.{here_comes}
use Rattle.starlark_lexer.proofs.Machine.{here_lexical}
use Rattle.starlark_lexer.proofs.parts.lexeme_ahead.Goals as goal

pub returns-clause-comes : goal.returns-clause-comes
returns-clause-comes c = here_comes c.args.parts.now c.here.result _ c.requires.whole c.requires.stands c.requires.among (c.as_bytes-bytes.ensures.value ∙ c.source.ensures.is) c.as_bytes-bytes.ensures.utf8 c.here.ensures.value

pub returns-clause-lexical : goal.returns-clause-lexical
returns-clause-lexical c = subst IsLexical (sym c.here.ensures.value) (here_lexical _ _)
