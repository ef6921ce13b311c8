use Rattle.std.proofs.Common.{◌≡◌, false}
use Rattle.starlark_script.proofs.Blocks.{Told}
use Rattle.starlark_script.proofs.engine.write_outline.Given as goal

abbrev pub invariant-loop-item : goal.invariant-loop-item
invariant-loop-item g l = record {
  told : Told (g.W.Write.contents l.fn.writer) (g.W.Write.contents l.writer) l.fn.items l.block l.item-iterator;
  sound : g.W.Sink.has_failed l.writer ≡ false;
  still : g.W.Sink.stalls l.writer ≡ g.W.Sink.stalls l.fn.writer;
}
