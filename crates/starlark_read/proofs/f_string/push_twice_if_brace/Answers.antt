use Rattle.starlark_grammar.proofs.Doubling.{put_once}
use Rattle.starlark_read.proofs.f_string.push_twice_if_brace.Goals as goal

pub returns : goal.returns
returns c = put_once _ _ _ _ c.if-c-eq123.false c.if-c-eq125.false c.push.ensures.bytes
