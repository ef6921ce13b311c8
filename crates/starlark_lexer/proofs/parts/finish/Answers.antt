use Rattle.std.proofs.Common.{arith, ◌∙◌}
use Rattle.starlark_lexer.proofs.Sounds.{ended_sound}
use Rattle.starlark_lexer.proofs.Hands.{end_left}
use Rattle.starlark_lexer.proofs.parts.finish.Goals as goal

pub returns-clause-whole : goal.returns-clause-whole
returns-clause-whole c = ended_sound c.args.parts.now.codemap.source c.as_bytes-end.result.now c.args.parts.now.state c.args.parts.now.outer.items c.args.parts.now.margin (c.as_bytes-end.ensures.value ∙ c.source.ensures.is) c.requires.whole

pub returns-clause-gives : goal.returns-clause-gives
returns-clause-gives c = end_left c.args.parts.now c.args.turn _ c.len-parts.result _ (c.as_bytes-end.ensures.value ∙ c.source.ensures.is) c.requires.whole c.requires.ready c.requires.comes c.requires.is (omega (arith, c.len-parts.ensures, c.args.parts.now.widths.ok.0))
