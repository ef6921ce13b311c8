use Rattle.std.proofs.Common.{refl, ◌≡◌, ◌+◌, ◌-◌, length, drop, take, arith, sym, ◌∙◌, ap, subst, IsUtf8}
use Rattle.starlark_lexer.specs.declared.format.Turn.TheVariants.{Over, Text, Escape, Capture, Fault}
use Rattle.starlark_lexer.specs.Format.{with_part, text, capture, escape}
use Rattle.starlark_lexer.specs.FormatScan.{turn, parsed}
use Rattle.starlark_lexer.proofs.Formats.{cuts_of, boundary_text, boundary_name, step, over, fault, first}
use Rattle.starlark_lexer.proofs.format.FormatParser.next.Goals as goal
use Rattle.starlark_lexer.proofs.Ascii.{boundary_after}

pub range_from-self-inside-requires : goal.range_from-self-inside-requires
range_from-self-inside-requires c =
    let is : turn c.self.inside.rest.now ≡ Text c.in-Text.len = ap turn (sym c.as_bytes.ensures.value) ∙ sym c.next_turn.ensures ∙ c.in-Text.is in
    λ _. boundary_text c.self.inside.rest.now c.in-Text.len is

pub range-requires-clause-end_boundary : goal.range-requires-clause-end_boundary
range-requires-clause-end_boundary c =
    let is : turn c.self.inside.rest.now ≡ Text c.in-Text.len = ap turn (sym c.as_bytes.ensures.value) ∙ sym c.next_turn.ensures ∙ c.in-Text.is in
    boundary_text c.self.inside.rest.now c.in-Text.len is

pub range_from-self-inside-requires-in-Escape : goal.range_from-self-inside-requires-in-Escape
range_from-self-inside-requires-in-Escape c =
    let is : turn c.self.inside.rest.now ≡ Escape c.in-Escape.brace = ap turn (sym c.as_bytes.ensures.value) ∙ sym c.next_turn.ensures ∙ c.in-Escape.is in
    let cut = cuts_of (Escape c.in-Escape.brace) c.self.inside.rest.now is in
    let utf8 : IsUtf8 c.self.inside.rest.now = subst IsUtf8 c.as_bytes.ensures.value c.as_bytes.ensures.utf8 in
    λ _. boundary_after c.self.inside.rest.now 2 utf8 (omega arith) cut.within cut.low

pub range_from-self-inside-requires-in-Capture : goal.range_from-self-inside-requires-in-Capture
range_from-self-inside-requires-in-Capture c =
    let is : turn c.self.inside.rest.now ≡ Capture c.in-Capture.name c.in-Capture.conv c.in-Capture.len = ap turn (sym c.as_bytes.ensures.value) ∙ sym c.next_turn.ensures ∙ c.in-Capture.is in
    let cut = cuts_of (Capture c.in-Capture.name c.in-Capture.conv c.in-Capture.len) c.self.inside.rest.now is in
    let utf8 : IsUtf8 c.self.inside.rest.now = subst IsUtf8 c.as_bytes.ensures.value c.as_bytes.ensures.utf8 in
    λ _. boundary_after c.self.inside.rest.now c.in-Capture.len utf8 cut.moves cut.within cut.last

pub overflow_add-name : goal.overflow_add-name
overflow_add-name c =
    let is : turn c.self.inside.rest.now ≡ Capture c.in-Capture.name c.in-Capture.conv c.in-Capture.len = ap turn (sym c.as_bytes.ensures.value) ∙ sym c.next_turn.ensures ∙ c.in-Capture.is in
    let cut = cuts_of (Capture c.in-Capture.name c.in-Capture.conv c.in-Capture.len) c.self.inside.rest.now is in
    omega (arith, cut.name)

pub range-requires-in-Capture-clause-start_boundary :
    goal.range-requires-in-Capture-clause-start_boundary
range-requires-in-Capture-clause-start_boundary c =
    let is : turn c.self.inside.rest.now ≡ Capture c.in-Capture.name c.in-Capture.conv c.in-Capture.len = ap turn (sym c.as_bytes.ensures.value) ∙ sym c.next_turn.ensures ∙ c.in-Capture.is in
    let cut = cuts_of (Capture c.in-Capture.name c.in-Capture.conv c.in-Capture.len) c.self.inside.rest.now is in
    let utf8 : IsUtf8 c.self.inside.rest.now = subst IsUtf8 c.as_bytes.ensures.value c.as_bytes.ensures.utf8 in
    λ _. boundary_after c.self.inside.rest.now 1 utf8 (omega arith) (omega (arith, cut.name)) cut.first

pub range-requires-in-Capture-clause-end_boundary :
    goal.range-requires-in-Capture-clause-end_boundary
range-requires-in-Capture-clause-end_boundary c =
    let is : turn c.self.inside.rest.now ≡ Capture c.in-Capture.name c.in-Capture.conv c.in-Capture.len = ap turn (sym c.as_bytes.ensures.value) ∙ sym c.next_turn.ensures ∙ c.in-Capture.is in
    let cut = cuts_of (Capture c.in-Capture.name c.in-Capture.conv c.in-Capture.len) c.self.inside.rest.now is in
    boundary_name c.self.inside.rest.now c.in-Capture.name c.in-Capture.len cut

pub returns-in-Over : goal.returns-in-Over
returns-in-Over c =
    let is : turn c.self.inside.rest.now ≡ Over = ap turn (sym c.as_bytes.ensures.value) ∙ sym c.next_turn.ensures ∙ c.in-Over.is in
    over c.args.self.now c.self.inside.text.now c.self.inside.rest.now (sym c.self.view_is) is

pub returns-in-Text : goal.returns-in-Text
returns-in-Text c =
    let all = c.self.inside.text.now in
    let rest = c.self.inside.rest.now in
    let n = c.in-Text.len in
    let is : turn rest ≡ Text n = ap turn (sym c.as_bytes.ensures.value) ∙ sym c.next_turn.ensures ∙ c.in-Text.is in
    let cut = cuts_of (Text n) rest is in
    let at_start : n - 0 ≡ n = omega arith in
    first c.args.self.now all rest c.range_from-self-inside.result.now (text c.range.result.now) n (sym c.self.view_is) c.self.invariant.within cut.within c.range_from-self-inside.ensures.value
    (step (length all - length rest) rest (Text n) is ∙ ap (λ t. with_part (text t) (parsed (length all - length rest + n) 0 (drop n rest))) (sym (c.range.ensures.value ∙ ap (λ k. take k rest) at_start)))

pub returns-in-Escape : goal.returns-in-Escape
returns-in-Escape c =
    let all = c.self.inside.text.now in
    let rest = c.self.inside.rest.now in
    let is : turn rest ≡ Escape c.in-Escape.brace = ap turn (sym c.as_bytes.ensures.value) ∙ sym c.next_turn.ensures ∙ c.in-Escape.is in
    let cut = cuts_of (Escape c.in-Escape.brace) rest is in
    first c.args.self.now all rest c.range_from-self-inside-in-Escape.result.now (escape c.in-Escape.brace) 2 (sym c.self.view_is) c.self.invariant.within cut.within c.range_from-self-inside-in-Escape.ensures.value
    (step (length all - length rest) rest (Escape c.in-Escape.brace) is)

pub returns-in-Capture : goal.returns-in-Capture
returns-in-Capture c =
    let all = c.self.inside.text.now in
    let rest = c.self.inside.rest.now in
    let name = c.in-Capture.name in
    let conv = c.in-Capture.conv in
    let n = c.in-Capture.len in
    let i = length all - length rest in
    let is : turn rest ≡ Capture name conv n = ap turn (sym c.as_bytes.ensures.value) ∙ sym c.next_turn.ensures ∙ c.in-Capture.is in
    let cut = cuts_of (Capture name conv n) rest is in
    let behind_brace : 1 + name - 1 ≡ name = omega arith in
    first c.args.self.now all rest c.range_from-self-inside-in-Capture.result.now (capture c.range-in-Capture.result.now (i + 1) conv) n (sym c.self.view_is) c.self.invariant.within cut.within c.range_from-self-inside-in-Capture.ensures.value
    (step i rest (Capture name conv n) is ∙ ap (λ t. with_part (capture t (i + 1) conv) (parsed (i + n) 0 (drop n rest))) (sym (c.range-in-Capture.ensures.value ∙ ap (λ k. take k (drop 1 rest)) behind_brace)))

pub returns-in-Fault : goal.returns-in-Fault
returns-in-Fault c =
    let is : turn c.self.inside.rest.now ≡ Fault c.in-Fault.kind = ap turn (sym c.as_bytes.ensures.value) ∙ sym c.next_turn.ensures ∙ c.in-Fault.is in
    fault c.args.self.now c.self.inside.text.now c.self.inside.rest.now _ (sym c.self.view_is) is refl
