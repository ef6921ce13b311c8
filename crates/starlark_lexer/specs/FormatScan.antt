-- What the code computes of a format string: its turn at each place, and the list of all of them.
use Rattle.std.specs.Prelude.{ℕ, zero, suc, ◌+◌, ◌-◌, if◌then◌else◌, ◌==◌, List, [], ◌∷◌, length, take, drop, Option, Some, None}
use Rattle.starlark_lexer.specs.declared.format.EscapeCurlyBrace.TheVariants.{Open, Close}
use Rattle.starlark_lexer.specs.declared.format.FormatConv.{FormatConv}
use Rattle.starlark_lexer.specs.declared.format.FormatErrorKind.TheVariants.{Standalone, Unmatched, Conversion}
use Rattle.starlark_lexer.specs.declared.format.Turn.{Turn}
use Rattle.starlark_lexer.specs.declared.format.Turn.TheVariants.{Over, Text, Escape, Capture, Fault}
use Rattle.starlark_lexer.specs.Format.{Parsed, text, capture, escape, nothing, stops, with_part, plain, begins, name_len, conversion}

abbrev pub by_conversion : Option FormatConv → ℕ → ℕ → Turn
by_conversion (Some c) n len = Capture n c len
by_conversion None n len = Fault Conversion

-- A capture with that between its braces.
abbrev pub named : List ℕ → Turn
named inside = by_conversion (conversion (drop (name_len inside) inside)) (name_len inside) (length inside + 2)

-- A brace opens a capture, which runs to the next closing one, with no other between them.
abbrev pub opens : List ℕ → Turn
opens rest = if begins 125 (drop (plain rest) rest) then named (take (plain rest) rest) else Fault Unmatched

-- Two braces of one kind are an escape, and a closing one by itself is no token. The rest is text up to the next brace.
unfoldable pub turn : List ℕ → Turn
turn [] = Over
turn (b ∷ bs) =
    if b == 123 then (if begins 123 bs then Escape Open else opens bs)
    else (if b == 125 then (if begins 125 bs then Escape Close else Fault Standalone)
    else Text (plain (b ∷ bs)))

-- ---- the whole

abbrev pub by_turn : Turn → ℕ → List ℕ → (ℕ → Parsed) → Parsed
by_turn Over i rest go = nothing
by_turn (Text n) i rest go = with_part (text (take n rest)) (go n)
by_turn (Escape e) i rest go = with_part (escape e) (go 2)
by_turn (Capture n conv len) i rest go = with_part (capture (take n (drop 1 rest)) (i + 1) conv) (go len)
by_turn (Fault k) i rest go = stops k

-- The rest of a format string at the place i, n bytes on.
unfoldable pub parsed : ℕ → ℕ → List ℕ → Parsed
parsed i n [] = nothing
parsed i (suc n) (b ∷ bs) = parsed (i + 1) n bs
parsed i zero (b ∷ bs) = by_turn (turn (b ∷ bs)) i (b ∷ bs) (λ k. parsed (i + 1) (k - 1) bs)
