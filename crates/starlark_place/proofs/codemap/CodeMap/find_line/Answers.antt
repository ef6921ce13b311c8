use Rattle.std.proofs.Common.{◌≡◌, ◌+◌, leb, arith, rules, ap, ◌∙◌}
use Rattle.std.proofs.lemmas.List.Sorted.{IsPartitionPoint-from_clause}
use Rattle.starlark_place.specs.Place.{line_at}
use Rattle.starlark_place.specs.Lines.{line_begins}
use Rattle.starlark_place.proofs.Lines.{found_in}
use Rattle.starlark_place.proofs.codemap.CodeMap.find_line.Goals as goal

lines_are : (c : goal.After-partition_point) → c.deref-2.result.now ≡ line_begins c.args.self.now.source
lines_are c = c.deref-2.ensures.value ∙ (ap (λ d. d.lines.items) c.deref.ensures ∙ (c.self.invariant.lines ∙ ap (λ f. line_begins f.source) c.self.view_is))

place_is : (c : goal.After-partition_point) → c.partition_point.result ≡ line_at c.args.self.now.source c.args.pos + 1
place_is c =
    rw (← c.get-at.ensures) (found_in c.args.self.now.source c.deref-2.result.now c.get-at.result c.partition_point.result (lines_are c) (omega arith) c.partition_point.ensures.bound
    (λ parted. IsPartitionPoint-from_clause (λ y. leb y c.get-at.result) _ _ c.partition_point.ensures.partitioned parted (λ a r q k. search rules)))

pub overflow_sub-result : goal.overflow_sub-result
overflow_sub-result c = omega (arith, place_is c)

pub returns : goal.returns
returns c = omega (arith, place_is c)
