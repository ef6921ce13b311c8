use Rattle.std.proofs.Common.{◌≡◌, ◌++◌, string_bytes}
use Rattle.starlark_grammar.specs.Tables.{doubled}
use Rattle.starlark_read.proofs.f_string.push_doubled.Given as goal

abbrev pub invariant-loop-c : goal.invariant-loop-c
invariant-loop-c l = string_bytes l.format ++ doubled l.c-iterator.rest.now ≡ string_bytes l.fn.format ++ doubled (string_bytes l.fn.text)
