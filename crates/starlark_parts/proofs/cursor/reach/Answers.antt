use Rattle.std.proofs.Common.{ap, subst, sym, arith}
use Rattle.starlark_parts.specs.Cursor.{IsAt}
use Rattle.starlark_parts.proofs.Places.{at_behind, column_few}
use Rattle.starlark_parts.proofs.cursor.reach.Goals as goal

pub behind-cursor-requires-clause-column : goal.behind-cursor-requires-clause-column
behind-cursor-requires-clause-column c = column_few c.args.text.now c.loop-cursor.cursor c.loop-cursor.invariant.0

pub loop-cursor-preserved : goal.loop-cursor-preserved
loop-cursor-preserved c = (
  subst (IsAt c.args.text.now) (sym c.behind-cursor.ensures) (at_behind c.args.text.now c.loop-cursor.cursor c.loop-cursor.invariant.0 c.if-cursor-text.true),
  omega (arith, c.loop-cursor-test.true, ap (λ v. v.place) c.behind-cursor.ensures),
)
