use Rattle.std.proofs.Common.{◌≡◌, ◌≤◌, ℕ, ◌+◌, ◌-◌, List, ◌++◌, length, drop, ap, ◌∙◌, sym, arith, length-append, length-drop}
use lib.Utf8.{encode}
use Rattle.std.specs.Char.{len_utf8}
use Rattle.std.specs.Str.{IsUtf8, IsCharBoundary}
use Rattle.std.proofs.lemmas.Str.{IsCharBoundary-past_char, length-encode}
use Rattle.starlark_place.proofs.cursor.char_at.Goals as goal

behind : (text rest : List ℕ) (p c : ℕ) → p ≤ length text → IsUtf8 (drop p text) → drop p text ≡ encode c ++ rest → IsCharBoundary text (length text - length rest)
behind text rest p c within u e =
    let l = ap length e in
    let a = length-append (encode c) rest in
    let d = length-drop p text in
    let k = length-encode c in
    let n : length text - length rest ≡ p + len_utf8 c = omega arith in
    rw n (IsCharBoundary-past_char text rest p c within u e)

pub returns-in-Some-clause-boundary : goal.returns-in-Some-clause-boundary
returns-in-Some-clause-boundary c =
    behind c.args.text.now c.as_str.result.now c.args.place c.in-Some.c c.requires.0 (rw (← c.range_from.ensures.value) c.range_from.utf8)
    (sym c.range_from.ensures.value ∙ (sym c.chars-chars.ensures.rest ∙ (c.in-Some.ensures.steps.0 ∙ ap (λ r. encode c.in-Some.c ++ r) (sym c.as_str.ensures))))
