use Rattle.std.proofs.Common.{arith, rules, ◌+◌}
use Rattle.std.proofs.lemmas.Grind.{common_steps}
use Rattle.starlark_script.proofs.Known.{told_more, in_front, a_front}
use Rattle.starlark_script.proofs.write.write_all.Goals as goal

pub returns-then-n-eq0-clause-front : goal.returns-then-n-eq0-clause-front
returns-then-n-eq0-clause-front g c = a_front _ _ (c.loop-at.at + c.in-Ok.n) c.args.bytes.now (told_more _ _ _ c.loop-at.at c.in-Ok.n c.args.bytes.now c.loop-at.invariant.told c.in-Ok.ensures.bytes)

pub loop-at-preserved : goal.loop-at-preserved
loop-at-preserved g c = record {
  within = first_of (search rules, grind (arith, common_steps));
  told = told_more _ _ _ c.loop-at.at c.in-Ok.n c.args.bytes.now c.loop-at.invariant.told c.in-Ok.ensures.bytes;
  sound = first_of (search rules, grind (arith, common_steps));
  still = first_of (search rules, grind (arith, common_steps));
}

pub returns-in-Err-clause-front : goal.returns-in-Err-clause-front
returns-in-Err-clause-front g c = in_front _ _ _ c.loop-at.at c.args.bytes.now c.loop-at.invariant.told c.in-Err.ensures.bytes
