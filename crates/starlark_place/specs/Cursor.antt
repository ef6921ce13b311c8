-- A place in a text that is read.
use Rattle.std.specs.Prelude.{◌≡◌, ℕ, ◌+◌, ◌++◌, List, length, drop, Option, Some, None}
use Rattle.std.specs.Char.{encode_utf8}

-- a text and a number of its bytes
pub record At : Type 0 where
  pub text : List ℕ
  pub place : ℕ

abbrev pub at : List ℕ → ℕ → At
at t p = record { text = t; place = p }

-- the character c stands at a place, and the next place is behind it
pub record IsNext (here : At) (c : ℕ) (next : At) : Type 0 where
  pub text : next.text ≡ here.text
  pub place : next.place ≡ here.place + length (encode_utf8 c)
  pub stands : drop here.place here.text ≡ encode_utf8 c ++ drop next.place here.text

-- the character at a place is taken, or nothing at the end
abbrev pub TakesChar : At → Option ℕ → At → Type 0
TakesChar here None next = (here.place ≡ length here.text) × (next ≡ here)
TakesChar here (Some c) next = IsNext here c next

-- the character at a place, or nothing at the end
abbrev pub StandsAt : At → Option ℕ → Type 0
StandsAt here None = here.place ≡ length here.text
StandsAt here (Some c) = IsNext here c (at here.text (here.place + length (encode_utf8 c)))
