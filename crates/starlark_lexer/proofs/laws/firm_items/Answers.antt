use Rattle.starlark_lexer.proofs.Firm as firm
use Rattle.starlark_lexer.proofs.laws.firm_items.Goals as goal

pub returns : goal.returns
returns c = firm.firm_items
