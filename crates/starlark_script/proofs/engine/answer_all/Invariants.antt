use Rattle.std.proofs.Common.{◌≡◌, ◌≤◌, ◌-◌, ◌^◌, false}
use Rattle.starlark_script.specs.Coming.{Pays, coming, weight}
use Rattle.starlark_script.specs.Device.{CountsOn}
use Rattle.starlark_script.specs.Engine.{HaveOutlines}
use Rattle.starlark_script.proofs.Runs.{Going}
use Rattle.starlark_script.proofs.engine.answer_all.Given as goal

abbrev pub invariant-commands : goal.invariant-commands
invariant-commands g l = record {
  going : Going l.fn.parts.limit l.fn.parts.dialect (g.R.Read.remaining l.fn.reader) (g.W.Write.contents l.fn.writer) l.parts.texts (coming l.ahead (g.R.Read.remaining l.reader)) (g.W.Write.contents l.writer);
  limit : l.parts.limit ≡ l.fn.parts.limit;
  dialect : l.parts.dialect ≡ l.fn.parts.dialect;
  outlined : HaveOutlines l.parts.dialect l.parts.texts;
  reads : g.R.Source.has_failed l.reader ≡ false;
  writes : g.W.Sink.has_failed l.writer ≡ false;
  still : g.W.Sink.stalls l.writer ≡ g.W.Sink.stalls l.fn.writer;
  fewer : l.ahead.reads ≤ 2 ^ 40;
  ends : g.R.Source.ends l.reader ≡ g.R.Source.ends l.fn.reader;
  count : CountsOn (2 ^ 40 - l.ahead.reads) (g.R.Source.reads l.fn.reader) (g.R.Source.reads l.reader);
  paid : Pays (2 ^ 40) l.ahead.reads 0 (g.R.Read.remaining l.fn.reader) (g.R.Read.remaining l.reader);
}

abbrev pub decreases-commands : goal.decreases-commands
decreases-commands g l = weight l.ahead
