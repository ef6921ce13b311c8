use Rattle.starlark_order.proofs.Firm.{all_have}
use Rattle.starlark_order.proofs.First.{all_begin}
use Rattle.starlark_order.proofs.laws.firm_tokens.Goals as goal

pub returns-clause-bytes : goal.returns-clause-bytes
returns-clause-bytes c = all_have

pub returns-clause-first : goal.returns-clause-first
returns-clause-first c = all_begin
