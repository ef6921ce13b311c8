use Rattle.std.proofs.Common.{refl, ◌∙◌}
use Rattle.starlark_lexer.specs.declared.parts.Parts.{Parts}
use Rattle.starlark_lexer.proofs.Sounds.{mode_sound}
use Rattle.starlark_lexer.proofs.Hands.{gap_left, gap_stands, gap_bound}
use Rattle.starlark_lexer.proofs.parts.pass_over.Goals as goal

pub returns-clause-whole : goal.returns-clause-whole
returns-clause-whole c =
    let a = c.args.parts.now in
    let bound = gap_bound a c.gap-gap.result _ _ c.requires.within c.requires.among c.is_joined-joined.ensures (c.as_bytes-bytes.ensures.value ∙ c.source.ensures.is) c.gap-gap.ensures.value c.requires.whole c.as_bytes-bytes.ensures.utf8 in
    mode_sound a.codemap.source a.state a.outer.items a.margin c.requires.whole c.gap-gap.result a.state.mode a.state.mode bound c.requires.whole.mode refl c.advance.new.state c.advance.ensures.value

pub returns-clause-same : goal.returns-clause-same
returns-clause-same c =
    let a = c.args.parts.now in
    let b : Parts = record a { state = c.advance.new.state; reads = c.gap-gap.new.reads } in
    gap_left a c.gap-gap.result _ _ c.requires.within c.requires.among c.is_joined-joined.ensures (c.as_bytes-bytes.ensures.value ∙ c.source.ensures.is) c.gap-gap.ensures.value b refl refl refl c.advance.ensures.value c.requires.ready (record { none = c.requires.ready.none; more = c.requires.ready.more })

pub returns-clause-stands : goal.returns-clause-stands
returns-clause-stands c =
    let a = c.args.parts.now in
    let b : Parts = record a { state = c.advance.new.state; reads = c.gap-gap.new.reads } in
    gap_stands a c.gap-gap.result _ _ c.requires.within c.requires.among c.is_joined-joined.ensures (c.as_bytes-bytes.ensures.value ∙ c.source.ensures.is) c.gap-gap.ensures.value b refl c.advance.ensures.value
