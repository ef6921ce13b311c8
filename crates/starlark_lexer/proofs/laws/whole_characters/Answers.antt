use Rattle.starlark_lexer.proofs.Characters.{whole_characters}
use Rattle.starlark_lexer.proofs.laws.whole_characters.Goals as goal

pub returns : goal.returns
returns c = whole_characters
