use Rattle.std.proofs.Common.{◌≡◌, ◌≤◌, ◌-◌, ℕ, List, false, length}
use Rattle.std.specs.Io.KnownBytes.{Consumes}
use Rattle.starlark_script.specs.Coming.{Pays, coming, weight}
use Rattle.starlark_script.specs.Device.{CountsOn}
use Rattle.starlark_script.proofs.reading.skip.Given as goal

abbrev pub invariant-loop-i : goal.invariant-loop-i
invariant-loop-i g l = record {
  taken : (bs : List ℕ) × (length bs ≡ l._i) × Consumes (coming l.fn.ahead (g.R.Read.remaining l.fn.reader)) (coming l.ahead (g.R.Read.remaining l.reader)) bs;
  sound : g.R.Source.has_failed l.reader ≡ false;
  lighter : weight l.ahead ≤ weight l.fn.ahead;
  count : CountsOn (l.fn.ahead.reads - l.ahead.reads) (g.R.Source.reads l.fn.reader) (g.R.Source.reads l.reader);
  fewer : l.ahead.reads ≤ l.fn.ahead.reads;
  paid : Pays l.fn.ahead.reads l.ahead.reads 0 (g.R.Read.remaining l.fn.reader) (g.R.Read.remaining l.reader);
  ends : g.R.Source.ends l.reader ≡ g.R.Source.ends l.fn.reader;
}
