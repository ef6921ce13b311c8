use Rattle.std.proofs.Common.{arith, rules, ◌∷◌, ◌++◌, [], length-append}
use Rattle.std.proofs.lemmas.Grind.{common_steps}
use Rattle.starlark_script.proofs.Known.{consumes_more}
use Rattle.starlark_script.proofs.Paid.{pays_more}
use Rattle.starlark_script.proofs.reading.skip.Goals as goal

pub loop-i-preserved : goal.loop-i-preserved
loop-i-preserved g c =
    let t = c.loop-i.invariant.taken in
    let some = rw c.in-Some.is at c.in_ok-next.ensures.ok in
    record {
      taken = (t.0 ++ c.in-Some.field-0 ∷ [], rw (length-append t.0 (c.in-Some.field-0 ∷ [])) (omega (arith, t.1)), consumes_more _ _ _ _ _ t.2 some.0);
      sound = first_of (search rules, grind (arith, common_steps));
      lighter = first_of (search rules, grind (arith, common_steps));
      count = first_of (search rules, grind (arith, common_steps));
      fewer = first_of (search rules, grind (arith, common_steps));
      paid = pays_more _ _ _ 0 _ _ _ c.loop-i.invariant.paid (rw c.in-Some.is at c.in_ok-next.ensures.even);
      ends = first_of (search rules, grind (arith, common_steps));
    }
