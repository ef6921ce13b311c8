use Rattle.std.proofs.Common.{◌≡◌, ◌+◌, ◌-◌, ◌≤◌, length, drop, take}
use Rattle.std.specs.Char.{is_digit}
use Rattle.std.specs.List.{prefix_len}
use Rattle.std.specs.Str.Parse.{digits_value, AllDigits}
use Rattle.starlark_lexer.specs.Reads.{Grows}
use Rattle.starlark_lexer.proofs.escape.digits.Given as goal

abbrev pub invariant-loop-end : goal.invariant-loop-end
invariant-loop-end l = record {
  len : l.end + prefix_len (λ d. is_digit d l.base) (drop l.end l.bytes) ≡ prefix_len (λ d. is_digit d l.base) l.bytes;
  value : l.value ≡ digits_value l.base (take l.end l.bytes);
  digits : AllDigits l.base (take l.end l.bytes);
  within : l.end ≤ length l.bytes;
  paid : l.reads ≤ l.initial.reads + l.end;
  looked : Grows l.initial.reads l.end l.reads;
}

abbrev pub decreases-loop-end : goal.decreases-loop-end
decreases-loop-end l = length l.bytes - l.end
