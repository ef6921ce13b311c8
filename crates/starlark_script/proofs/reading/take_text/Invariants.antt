use Rattle.std.proofs.Common.{◌≡◌, ◌≤◌, ◌-◌, false, length}
use Rattle.std.specs.Io.KnownBytes.{Consumes}
use Rattle.starlark_script.specs.Coming.{Pays, coming, weight}
use Rattle.starlark_script.specs.Device.{CountsOn}
use Rattle.starlark_script.proofs.reading.take_text.Given as goal

abbrev pub invariant-loop-i : goal.invariant-loop-i
invariant-loop-i g l = record {
  long : length l.text.items ≡ l.i;
  taken : Consumes (coming l.fn.ahead (g.R.Read.remaining l.fn.reader)) (coming l.ahead (g.R.Read.remaining l.reader)) l.text.items;
  sound : g.R.Source.has_failed l.reader ≡ false;
  lighter : weight l.ahead ≤ weight l.fn.ahead;
  count : CountsOn (l.fn.ahead.reads - l.ahead.reads) (g.R.Source.reads l.fn.reader) (g.R.Source.reads l.reader);
  fewer : l.ahead.reads ≤ l.fn.ahead.reads;
  paid : Pays l.fn.ahead.reads l.ahead.reads 0 (g.R.Read.remaining l.fn.reader) (g.R.Read.remaining l.reader);
  ends : g.R.Source.ends l.reader ≡ g.R.Source.ends l.fn.reader;
}
