use Rattle.starlark_grammar.proofs.Sound.{sound}
use Rattle.starlark_grammar.proofs.laws.sound.Goals as goal

pub returns : goal.returns
returns c = sound
