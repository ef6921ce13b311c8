use Rattle.std.proofs.Common.{◌≡◌, ◌+◌, ◌∙◌, [], ap, refl}
use Rattle.starlark_parts.specs.declared.items.Items.TheInside.{Inside}
use Rattle.starlark_parts.proofs.Iterating.{few_next, few_rest, no_items, same_next}
use Rattle.starlark_parts.proofs.items.ItemsIterator.next.Goals as goal

pub loop-self-preserved : goal.loop-self-preserved
loop-self-preserved c =
    let a = c.loop-self.self-inside in
    let b : Inside = record { items = c.items-self-inside.result; line = a.behind; parts = c.in_ok-part.parts; behind = a.behind + c.feeds.result } in
    let none : a.items.now ≡ [] = no_items a.items.now c.is_empty.result c.is_empty.ensures c.loop-self-test.true in
    record {
      few = few_next a b c.loop-self.invariant.few c.in_ok-part.part.now c.in_ok-part.parts.now c.in_ok-part.ensures.cases.0 c.items-self-inside.ensures refl refl (ap (λ n. a.behind + n) c.feeds.ensures);
      same = same_next a b c.loop-self.invariant.few c.in_ok-part.part.now c.in_ok-part.parts.now c.in_ok-part.ensures.cases.0 c.items-self-inside.ensures refl refl (ap (λ n. a.behind + n) c.feeds.ensures) none ∙ c.loop-self.invariant.same;
    }

pub invariant_of-self-2 : goal.invariant_of-self-2
invariant_of-self-2 c = few_rest c.loop-self.self-inside _ c.loop-self.invariant.few c.in_ok-first.first.now c.in_ok-first.items.now c.in_ok-first.ensures.cases.0 refl refl refl refl
