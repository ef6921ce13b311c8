-- Where items and the fault stand.
use Rattle.std.specs.Prelude.{◌≡◌, ◌<◌, ◌≤◌, ℕ, Bool, true, false, ◌||◌, ◌&&◌, ◌==◌, nat_lt, slice_index, length, List, [], ◌∷◌, drop, Option, Some, None}
use Rattle.starlark_place.specs.Place.{Holds, extent}
use Rattle.starlark_lexer.specs.Items.{Lexeme, identifier, integer, Item, Stop}
use Rattle.starlark_lexer.specs.Classes.{is_blank, line_end}

-- Items stand in order from the one place to the other. The fault stands before that other place, and may stand before items.
abbrev pub InOrder : ℕ → ℕ → List Item → Option Stop → Type 0
InOrder i n [] None = i ≤ n
InOrder i n [] (Some s) = (i ≤ n) × (s.begin ≤ s.end) × (s.end ≤ n)
InOrder i n (x ∷ xs) f = (i ≤ x.begin) × (x.begin ≤ x.end) × InOrder x.end n xs f

-- a blank, a line feed, or a backslash before a line end stands first
abbrev pub begins_gap : List ℕ → Bool
begins_gap [] = false
begins_gap (b ∷ bs) = is_blank b || (b == 10 || (b == 92 && nat_lt 0 (line_end bs)))

-- only such stand from the one place to the other
pub record IsPassed (text : List ℕ) (i j : ℕ) : Type 0 where
  pub each : (k : ℕ) → i ≤ k → k < j → begins_gap (drop k text) ≡ true

-- Only such stand from the place to the first item, between two items, and from the last to the text's end where there is no fault.
abbrev pub Covers : List ℕ → ℕ → List Item → Option Stop → Type 0
Covers text i [] None = IsPassed text i (length text)
Covers text i [] (Some s) = Unit {0}
Covers text i (x ∷ xs) f = IsPassed text i x.begin × Covers text x.end xs f

-- each item, and the fault, begins and ends between two characters of the text, or at one of its ends
abbrev pub HoldsEach : List ℕ → List Item → Option Stop → Type 0
HoldsEach text [] None = Unit {0}
HoldsEach text [] (Some s) = Holds text (extent s.begin s.end)
HoldsEach text (x ∷ xs) f = Holds text (extent x.begin x.end) × HoldsEach text xs f

-- an identifier or an integer
abbrev pub IsName : Lexeme → Type 0
IsName (identifier name) = Unit {0}
IsName (integer n) = Unit {0}
IsName _ = ⊥

-- an identifier and an integer have some bytes, the first of which is an ASCII byte
abbrev pub IsFirm : List ℕ → Item → Type 0
IsFirm text x = IsName x.lexeme → (x.begin < x.end) × (slice_index text x.begin < 128)

-- all items are
abbrev pub AreFirm : List ℕ → List Item → Type 0
AreFirm text [] = Unit {0}
AreFirm text (x ∷ xs) = IsFirm text x × AreFirm text xs
