use Rattle.std.proofs.Common.{ap, arith, length, rules}
use Rattle.std.proofs.lemmas.Grind.{common_steps}
use Rattle.starlark_parts.proofs.Counting.{left_length}
use Rattle.starlark_parts.proofs.items.Items.len.Goals as goal

pub loop-part-init : goal.loop-part-init
loop-part-init c = record {
  few = first_of (search rules, grind (arith, common_steps));
  counted = omega (arith, left_length c.self.inside, ap length c.self.view_is);
}
