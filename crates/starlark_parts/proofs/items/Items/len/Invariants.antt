use Rattle.std.proofs.Common.{◌≡◌, ◌≤◌, ◌+◌, ◌*◌, drop, length}
use Rattle.starlark_parts.proofs.Counting.{count_in}
use Rattle.starlark_parts.proofs.items.Items.len.Given as goal

abbrev pub invariant-loop-part : goal.invariant-loop-part
invariant-loop-part l = record {
  few : l.count ≤ (l.part-index + 1) * 18446744073709551615;
  counted : l.count + count_in (drop l.part-index l.parts) ≡ length l.fn.self;
}
