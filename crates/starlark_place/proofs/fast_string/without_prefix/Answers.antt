use Rattle.std.proofs.Common.{◌≡◌, ℕ, ◌+◌, List, ◌++◌, length, drop, true, false, ap, ◌∙◌, sym, arith}
use Rattle.std.specs.Prelude.{Option, Some, None, MatchOption}
use denote.Ref.{Bor}
use Rattle.std.specs.Str.{IsUtf8, IsCharBoundary, chars}
use Rattle.std.specs.Str.Pattern.{LacksTextAt}
use Rattle.starlark_place.specs.Strings.{begins_with}
use Rattle.starlark_place.proofs.Characters.{begins_text, begins_with-append, lacks_text}
use Rattle.starlark_place.proofs.fast_string.without_prefix.Goals as goal

stripped : (s n : List ℕ) → IsUtf8 s → IsUtf8 n → (r : Option (Bor (List ℕ)))
    → MatchOption r (LacksTextAt n s 0) (λ x. (k : ℕ) × ((k ≡ length n) × (s ≡ n ++ drop k s) × IsCharBoundary s (length n)) × (x.now ≡ drop k s) × (length x.now + k ≡ length s))
    → MatchOption r (begins_with (chars n) (chars s) ≡ false) (λ x. (begins_with (chars n) (chars s) ≡ true) × (chars s ≡ chars n ++ chars x.now) × (length s ≡ length n + length x.now))
stripped s n us un None h = lacks_text s n us un h
stripped s n us un (Some x) h =
    let e = begins_text s n x.now un (h.1.1 ∙ ap (λ z. n ++ z) (sym h.2)) in
    (ap (begins_with (chars n)) e ∙ begins_with-append (chars n) (chars x.now), e, omega arith)

pub returns : goal.returns
returns c = stripped c.args.text.now c.args.needle.now c.utf8.text c.utf8.needle c.strip_prefix.result c.strip_prefix.ensures.cases
