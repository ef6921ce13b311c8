use Rattle.std.proofs.Common.{◌≡◌, drop}
use Rattle.std.specs.List.{list_all}
use Rattle.starlark_script.specs.Script.{value_from, is_digit}
use Rattle.starlark_script.proofs.command.number.Given as goal

abbrev pub invariant-loop-b : goal.invariant-loop-b
invariant-loop-b l = record {
  value : value_from l.value (drop l.b-index l.digits) ≡ value_from 0 l.digits;
  digits : list_all is_digit (drop l.b-index l.digits) ≡ list_all is_digit l.digits;
}
