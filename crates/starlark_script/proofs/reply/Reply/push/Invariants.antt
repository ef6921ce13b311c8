use Rattle.std.proofs.Common.{◌≡◌, ◌++◌, ◌+◌, take, length}
use Rattle.starlark_script.proofs.reply.Reply.push.Given as goal

abbrev pub invariant-loop-b : goal.invariant-loop-b
invariant-loop-b l = record {
  placed : l.self-inside.len ≡ length l.fn.self + l.b-index;
  whole : length l.self-inside.bytes ≡ 4096;
  text : take l.self-inside.len l.self-inside.bytes ≡ l.fn.self ++ take l.b-index l.text;
}
