use Rattle.std.proofs.Common.{◌≡◌, ◌+◌, ℕ, List, length, arith, ap, ◌∙◌}
use Rattle.starlark_place.specs.Place.{line_feeds}
use Rattle.starlark_place.specs.Lines.{line_begins}
use Rattle.starlark_place.proofs.Lines.{begins-length}
use Rattle.starlark_place.proofs.codemap.CodeMap.line_count.Goals as goal

count_is : (source begins : List ℕ) → begins ≡ line_begins source → length begins ≡ line_feeds source + 1
count_is source begins b = rw b (let h = begins-length source 0 in omega arith)

pub returns : goal.returns
returns c = count_is c.args.self.now.source c.as_slice.result.now (c.as_slice.ensures.value ∙ (ap (λ d. d.lines.items) c.deref.ensures ∙ (c.self.invariant.lines ∙ ap (λ f. line_begins f.source) c.self.view_is)))
