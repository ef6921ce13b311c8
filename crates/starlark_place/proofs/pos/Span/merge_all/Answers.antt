use Rattle.std.proofs.Common.{rules, ap, ◌∙◌}
use Rattle.std.specs.Option.{unwrap_or}
use Rattle.starlark_place.specs.Place.{extent, merged_into}
use Rattle.starlark_place.proofs.pos.Span.merge_all.Goals as goal

pub returns : goal.returns
returns g c =
    let h = c.fold-all.ensures.runs in
    (h.0, h.1, h.2, c.or_empty.ensures ∙ ap (λ o. unwrap_or o (extent 0 0)) (h.3 merged_into (λ all span r f k. search rules)))
