use Rattle.std.proofs.Common.{◌≡◌, ◌<◌, ◌≤◌, ℕ, ◌+◌, ◌++◌, List, length, ap, ◌∙◌, arith, rules}
use Rattle.std.specs.Str.{IsUtf8, chars}
use Rattle.starlark_place.specs.Place.{characters}
use Rattle.starlark_place.specs.Strings.{matches_in}
use Rattle.starlark_place.proofs.Counts.{characters-chars}
use Rattle.starlark_place.proofs.Characters.{matches_in-yes, matches_in-le, chars-nonempty, chars-short, chars-empty}
use Rattle.starlark_place.proofs.fast_string.count_matches.Goals as goal

empty : (text needle : List ℕ) → IsUtf8 text → length needle ≡ 0 → characters text + 1 ≡ matches_in (chars needle) (chars text)
empty text needle u h = rw (chars-empty needle h) (let e = characters-chars text u in omega arith)

pub returns-then-is_empty : goal.returns-then-is_empty
returns-then-is_empty c =
    ap (λ n. n + 1) (c.char_count.ensures ∙ ap characters c.as_bytes.ensures.value) ∙ empty c.args.text.now c.args.needle.now c.utf8.text (search rules)

one_more : (text needle rest behind : List ℕ) (n : ℕ) → IsUtf8 needle → 0 < length needle → chars rest ≡ chars needle ++ chars behind → n + matches_in (chars needle) (chars rest) ≡ matches_in (chars needle) (chars text) → n + 1 + matches_in (chars needle) (chars behind) ≡ matches_in (chars needle) (chars text)
one_more text needle rest behind n u some e h =
    let y = matches_in-yes (chars needle) (chars rest) (chars behind) (chars-nonempty needle u some) e in
    omega arith

bounded : (text needle : List ℕ) (n m : ℕ) → IsUtf8 text → IsUtf8 needle → 0 < length needle → n + m ≡ matches_in (chars needle) (chars text) → n ≤ length text
bounded text needle n m ut un some h =
    let l = matches_in-le (chars needle) (chars text) (chars-nonempty needle un some) in
    let s = chars-short text ut in
    omega arith

pub overflow_add-count : goal.overflow_add-count
overflow_add-count c =
    let some : 0 < length c.args.needle.now = search rules in
    let more = one_more c.args.text.now c.args.needle.now c.loop-behind.rest.now c.in-Some.behind.now c.loop-behind.count c.utf8.needle some c.in-Some.ensures.1 c.loop-behind.invariant.1 in
    let b = bounded c.args.text.now c.args.needle.now (c.loop-behind.count + 1) (matches_in (chars c.args.needle.now) (chars c.in-Some.behind.now)) c.utf8.text c.utf8.needle some more in
    omega arith

pub loop-behind-preserved-in-Some : goal.loop-behind-preserved-in-Some
loop-behind-preserved-in-Some c =
    (search rules, one_more c.args.text.now c.args.needle.now c.loop-behind.rest.now c.in-Some.behind.now c.loop-behind.count c.utf8.needle (search rules) c.in-Some.ensures.1 c.loop-behind.invariant.1)
