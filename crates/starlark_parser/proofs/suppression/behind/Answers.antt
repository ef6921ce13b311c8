use Rattle.std.proofs.Common.{ap, ◌∙◌, refl}
use Rattle.starlark_parser.proofs.Pieces.{behind_is}
use Rattle.starlark_parser.proofs.suppression.behind.Goals as goal

pub returns : goal.returns
returns c = ap (λ x. x.now) c.unwrap_or.ensures ∙ behind_is c.args.text.now c.args.front.now c.strip_prefix.result _ refl c.strip_prefix.ensures.cases
