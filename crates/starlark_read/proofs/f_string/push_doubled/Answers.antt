use Rattle.std.proofs.Common.{string_bytes, encode_utf8}
use Rattle.starlark_grammar.proofs.Doubling.{next_char}
use Rattle.starlark_read.proofs.f_string.push_doubled.Goals as goal

pub loop-c-preserved : goal.loop-c-preserved
loop-c-preserved c = next_char (string_bytes c.loop-c.format) _ c.next.new.self.rest.now (encode_utf8 c.in-Some.c) _ _ c.loop-c.invariant c.in-Some.ensures.steps.0 c.in_ok-push_twice_if_brace.ensures
