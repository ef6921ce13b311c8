-- The prefix and quotes at the front of a text, as the code finds them.
use Rattle.std.specs.Prelude.{ℕ, ◌+◌, ◌*◌, Bool, true, false, not, ◌||◌, ◌&&◌, if◌then◌else◌, ◌==◌, ◌≤◌, List, [], ◌∷◌, length, take, drop, Option, Some, None}
use Rattle.std.specs.Char.{encode_utf8}
use Rattle.std.specs.Str.{IsCharBoundary}
use Rattle.starlark_lexer.specs.declared.literal.Ending.{Ending}
use Rattle.starlark_lexer.specs.declared.literal.Ending.TheVariants as ending
use Rattle.starlark_lexer.specs.declared.literal.Form.{Form}
use Rattle.starlark_lexer.specs.declared.literal.Piece.{Piece}
use Rattle.starlark_lexer.specs.declared.literal.Piece.TheVariants.{Closing, Field, Stop, Wrong, Nothing, Char, Byte, Same}
use Rattle.starlark_lexer.specs.declared.literal.Sort.{Sort}
use Rattle.starlark_lexer.specs.declared.token.FStringQuote.{FStringQuote}
use Rattle.starlark_lexer.specs.declared.token.FStringQuote.TheVariants.{Single, Double, TripleSingle, TripleDouble}
use Rattle.starlark_lexer.specs.Literals.{prefix_of, letters, begins, quotes}

-- the longest quotes at the front
abbrev pub quote_front : List ℕ → Option FStringQuote
quote_front [] = None
quote_front (a ∷ w) =
    if a == 39 then (if begins 39 w && begins 39 (drop 1 w) then Some TripleSingle else Some Single)
    else (if a == 34 then (if begins 34 w && begins 34 (drop 1 w) then Some TripleDouble else Some Double) else None)

abbrev pub front_of : Option (Sort × Bool) → Option FStringQuote → ℕ → Option (Form × ℕ)
front_of (Some p) (Some q) n = Some (record { sort = p.0; raw = p.1; quote = q }, n + quotes q)
front_of (Some p) None n = None
front_of None q n = None

-- the longest prefix and quotes at the front, and how many bytes they have: no prefix has three letters
unfoldable pub opening_front : List ℕ → Option (Form × ℕ)
opening_front w =
    front_of (prefix_of (take (letters (take 3 w)) w)) (quote_front (drop (letters (take 3 w)) w)) (letters (take 3 w))

-- a literal may begin with the first byte
abbrev pub may_open : List ℕ → Bool
may_open [] = false
may_open (b ∷ bs) = b == 34 || b == 39 || b == 98 || b == 102 || b == 114

-- a byte that is an item of any body by itself
abbrev pub is_plain : ℕ → Bool
is_plain b = not (b == 10 || b == 13 || b == 34 || b == 39 || b == 92 || b == 123 || b == 125)

-- where a piece that ends a body ends it, i bytes on
abbrev pub ending_at : ℕ → Piece → Option Ending
ending_at i Closing = Some (ending.Closed i)
ending_at i Field = Some (ending.Field i)
ending_at i Stop = Some (ending.Unfinished i)
ending_at i (Wrong m) = Some (ending.Escape i m)
ending_at i (Nothing n) = None
ending_at i (Char c n) = None
ending_at i (Byte b n) = None
ending_at i (Same n) = None

-- how many bytes a piece has that ends none
abbrev pub width : Piece → ℕ
width (Nothing n) = n
width (Char c n) = n
width (Byte b n) = n
width (Same n) = n
width _ = 0

-- no closing quotes and no field
abbrev pub is_item : Piece → Bool
is_item Closing = false
is_item Field = false
is_item _ = true

-- how many bytes are passed at a piece, closing quotes and the brace of a field among them
abbrev pub passed : FStringQuote → Piece → ℕ
passed q Closing = quotes q
passed q Field = 1
passed q (Nothing n) = n
passed q (Char c n) = n
passed q (Byte b n) = n
passed q (Same n) = n
passed q _ = 0

-- the same of a whole body
abbrev pub reached : FStringQuote → Ending → ℕ
reached q (ending.Closed i) = i + quotes q
reached q (ending.Field i) = i + 1
reached q (ending.Unfinished i) = i
reached q (ending.Escape i m) = i

-- how many bytes quotes have, and a prefix with them
abbrev pub quotes_len : Option FStringQuote → ℕ
quotes_len None = 0
quotes_len (Some q) = quotes q

abbrev pub opening_len : Option (Form × ℕ) → ℕ
opening_len None = 0
opening_len (Some r) = r.1

-- what a piece denotes that ends none, with the text that it stands at the front of
abbrev pub denoted : Piece → List ℕ → List ℕ
denoted (Char c n) rest = encode_utf8 c
denoted (Byte b n) rest = b ∷ []
denoted (Same n) rest = take n rest
denoted _ rest = []

-- it denotes text
abbrev pub IsText : Piece → List ℕ → Type 0
IsText (Same n) rest = IsCharBoundary rest n
IsText (Byte b n) rest = ⊥
IsText _ rest = Unit {0}

-- it denotes bytes
abbrev pub IsBytes : Piece → List ℕ → Type 0
IsBytes (Same n) rest = n ≤ length rest
IsBytes (Char c n) rest = ⊥
IsBytes _ rest = Unit {0}

-- how many looks find a piece at most
abbrev pub due : Piece → ℕ
due Closing = 3
due Field = 4
due Stop = 3
due (Wrong n) = n + 13
due (Nothing n) = n + 4
due (Char c n) = n + 4
due (Byte b n) = n + 4
due (Same n) = n + 5

-- how many bytes a piece has that is no escape
abbrev pub wrong_len : Piece → ℕ
wrong_len (Wrong n) = n
wrong_len _ = 0

-- how many looks find the end of a body at most
abbrev pub owed : Ending → ℕ
owed (ending.Closed i) = 8 * i + 4
owed (ending.Field i) = 8 * i + 5
owed (ending.Unfinished i) = 8 * i + 4
owed (ending.Escape i m) = 8 * i + m + 14

-- how many looks tell whether a literal begins with the text
abbrev pub tried : List ℕ → Option (Form × ℕ) → ℕ
tried w None = if may_open w then 6 else 1
tried w (Some r) = 8

-- how many looks were made, or are still to be made, where the first byte begins no number: for a prefix that opens nothing, or for a backslash that escapes nothing
abbrev pub aside : List ℕ → ℕ
aside w = if may_open w then 5 else (if begins 92 w then 2 else 0)
