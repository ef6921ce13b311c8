use Rattle.std.proofs.Common.{sym, subst, ◌∙◌}
use Rattle.starlark_lexer.specs.Turns.{IsLexical}
use Rattle.starlark_lexer.proofs.Hands.{text_comes}
use Rattle.starlark_lexer.proofs.Machine.{text_lexical}
use Rattle.starlark_lexer.proofs.parts.text_ahead.Goals as goal

pub returns-clause-comes : goal.returns-clause-comes
returns-clause-comes c = text_comes c.args.parts.now c.text_here.result c.args.begin c.args.form _ c.requires.whole c.requires.within c.requires.mode (c.as_bytes-bytes.ensures.value ∙ c.source.ensures.is) c.as_bytes-bytes.ensures.utf8 c.text_here.ensures.value

pub returns-clause-lexical : goal.returns-clause-lexical
returns-clause-lexical c = subst IsLexical (sym c.text_here.ensures.value) (text_lexical c.args.form _)
