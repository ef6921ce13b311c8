use Rattle.std.proofs.Common.{◌∙◌}
use Rattle.starlark_lexer.proofs.Hands.{line_comes}
use Rattle.starlark_lexer.proofs.parts.line_ahead.Goals as goal

pub returns-clause-comes : goal.returns-clause-comes
returns-clause-comes c = line_comes c.args.parts.now c.line_turn.result _ _ c.requires.whole c.requires.fresh c.deref.ensures.value (c.as_bytes-bytes.ensures.value ∙ c.source.ensures.is) c.as_bytes-bytes.ensures.utf8 c.line_turn.ensures.value
