use Rattle.starlark_joining.proofs.Assembly.{joined_trees}
use Rattle.starlark_joining.proofs.SameOnce.{same_at_once}
use Rattle.starlark_joining.proofs.JoinedRules.{clean_joined}
use Rattle.starlark_joining.proofs.laws.joined_trees.Goals as goal

pub returns : goal.returns
returns c = joined_trees c.joined_layouts.ensures c.sound.ensures c.complete.ensures.accepts c.complete.ensures.meets (λ d n e f s. same_at_once d s) (λ d h n e f g ss rs ts us q r. clean_joined d e f g q r)
