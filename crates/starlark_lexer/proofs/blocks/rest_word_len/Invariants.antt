use Rattle.std.proofs.Common.{◌≡◌, ◌+◌, ◌-◌, ◌≤◌, length, drop}
use Rattle.std.specs.List.{prefix_len}
use Rattle.starlark_lexer.specs.Classes.{is_word_byte}
use Rattle.starlark_lexer.proofs.blocks.rest_word_len.Given as goal

abbrev pub invariant-loop-end : goal.invariant-loop-end
invariant-loop-end l = (l.end + prefix_len is_word_byte (drop l.end l.rest) ≡ prefix_len is_word_byte l.rest) × (l.end ≤ length l.rest)

abbrev pub decreases-loop-end : goal.decreases-loop-end
decreases-loop-end l = length l.rest - l.end
