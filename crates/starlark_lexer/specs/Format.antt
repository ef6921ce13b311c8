-- Format strings: what they are read as, rule by rule from the left.
use Rattle.std.specs.Prelude.{◌≡◌, ℕ, ◌+◌, Bool, true, false, not, ◌||◌, if◌then◌else◌, ◌==◌, List, [], ◌∷◌, ◌++◌, length, take, drop, codes, Option, Some, None, Result, Ok, Err}
use Rattle.std.specs.List.{prefix_len}
use Rattle.starlark_lexer.specs.declared.format.EscapeCurlyBrace.{EscapeCurlyBrace}
use Rattle.starlark_lexer.specs.declared.format.EscapeCurlyBrace.TheVariants.{Open, Close}
use Rattle.starlark_lexer.specs.declared.format.FormatConv.{FormatConv}
use Rattle.starlark_lexer.specs.declared.format.FormatConv.TheVariants.{Str, Repr}
use Rattle.starlark_lexer.specs.declared.format.FormatError.{FormatError}
use Rattle.starlark_lexer.specs.declared.format.FormatErrorKind.{FormatErrorKind}
use Rattle.starlark_lexer.specs.declared.format.FormatErrorKind.TheVariants.{Standalone, Unmatched, Conversion}
use Rattle.starlark_lexer.specs.declared.format.FormatToken.{FormatToken}
use Rattle.starlark_lexer.specs.declared.format.FormatToken.TheVariants as token

-- A token without where its text lies in memory.
pub data Part : Type 0 where
  text : List ℕ → Part
  -- its name, the place behind its brace, and how its value is printed
  capture : List ℕ → ℕ → FormatConv → Part
  escape : EscapeCurlyBrace → Part

abbrev pub part_of : FormatToken → Part
part_of (token.Text t) = text t.now
part_of (token.Capture name pos conv) = capture name.now pos conv
part_of (token.Escape e) = escape e

-- The tokens of a format string, and the kind of the error behind them where there is one.
pub record Parsed : Type 0 where
  pub parts : List Part
  pub error : Option FormatErrorKind

abbrev pub nothing : Parsed
nothing = record { parts = []; error = None }

abbrev pub stops : FormatErrorKind → Parsed
stops k = record { parts = []; error = Some k }

abbrev pub with_part : Part → Parsed → Parsed
with_part x p = record { parts = x ∷ p.parts; error = p.error }

-- ---- what stands at the front of the rest

-- How many bytes stand before the first brace.
abbrev pub plain : List ℕ → ℕ
plain = prefix_len (λ b. not (b == 123 || b == 125))

-- The first byte is that one.
abbrev pub begins : ℕ → List ℕ → Bool
begins c [] = false
begins c (b ∷ bs) = b == c

-- How many bytes a capture's name has: all before the first !.
abbrev pub name_len : List ℕ → ℕ
name_len = prefix_len (λ b. not (b == 33))

-- What stands behind the name: nothing, or ! and s or r.
abbrev pub conversion : List ℕ → Option FormatConv
conversion [] = Some Str
conversion (b ∷ []) = None
conversion (b ∷ c ∷ []) = if c == 115 then Some Str else (if c == 114 then Some Repr else None)
conversion (b ∷ c ∷ d ∷ w) = None

-- ---- the whole

-- a brace of either kind
abbrev pub is_brace : ℕ → Bool
is_brace b = b == 123 || b == 125

-- what stands between an opening brace, which these bytes stand behind, and the next brace
abbrev pub inside : List ℕ → List ℕ
inside bs = take (plain bs) bs

-- the next brace is a closing one
abbrev pub is_closed : List ℕ → Bool
is_closed bs = begins 125 (drop (plain bs) bs)

-- what stands behind the name of a capture
abbrev pub behind_name : List ℕ → List ℕ
behind_name w = drop (name_len w) w

-- What the rest of a format string at the place i is read as: piece by piece, up to the end or the first error.
pub data Pieces : ℕ → List ℕ → Parsed → Type 0 where
  ends : (i : ℕ) → Pieces i [] nothing
  -- two braces of one kind
  opening : (i : ℕ) (rest : List ℕ) (p : Parsed) → Pieces (i + 2) rest p → Pieces i (123 ∷ 123 ∷ rest) (with_part (escape Open) p)
  closing : (i : ℕ) (rest : List ℕ) (p : Parsed) → Pieces (i + 2) rest p → Pieces i (125 ∷ 125 ∷ rest) (with_part (escape Close) p)
  -- the longest run without braces
  runs : (i b : ℕ) (bs : List ℕ) (p : Parsed) → is_brace b ≡ false → Pieces (i + plain (b ∷ bs)) (drop (plain (b ∷ bs)) (b ∷ bs)) p
      → Pieces i (b ∷ bs) (with_part (text (take (plain (b ∷ bs)) (b ∷ bs))) p)
  -- from an opening brace to the next brace, which closes it
  captures : (i : ℕ) (bs : List ℕ) (conv : FormatConv) (p : Parsed) → is_closed bs ≡ true → conversion (behind_name (inside bs)) ≡ Some conv
      → Pieces (i + (length (inside bs) + 2)) (drop (length (inside bs) + 2) (123 ∷ bs)) p
      → Pieces i (123 ∷ bs) (with_part (capture (take (name_len (inside bs)) bs) (i + 1) conv) p)
  converts_not : (i : ℕ) (bs : List ℕ) → is_closed bs ≡ true → conversion (behind_name (inside bs)) ≡ None → Pieces i (123 ∷ bs) (stops Conversion)
  unmatched : (i : ℕ) (bs : List ℕ) → begins 123 bs ≡ false → is_closed bs ≡ false → Pieces i (123 ∷ bs) (stops Unmatched)
  standalone : (i : ℕ) (bs : List ℕ) → begins 125 bs ≡ false → Pieces i (125 ∷ bs) (stops Standalone)

-- ---- answers

-- What a parser has before it: the tokens that are left, of what format string.
pub record Format : Type 0 where
  pub left : Parsed
  pub text : List ℕ

-- Nothing is left, before and after.
pub record IsOver (old new : Format) : Type 0 where
  pub nothing_left : old.left ≡ nothing
  pub same : new ≡ old

-- The token is the first of those that were left.
pub record IsFirst (old : Format) (x : Part) (new : Format) : Type 0 where
  pub first : old.left ≡ with_part x new.left
  pub text : new.text ≡ old.text

-- The error is next, and stays so.
pub record IsError (old : Format) (e : FormatError) (new : Format) : Type 0 where
  pub error : old.left ≡ stops e.kind
  pub text : e.text.now ≡ old.text
  pub same : new ≡ old

-- What one call answers.
abbrev pub Gives : Format → Result (Option FormatToken) FormatError → Format → Type 0
Gives old (Ok None) new = IsOver old new
Gives old (Ok (Some x)) new = IsFirst old (part_of x) new
Gives old (Err e) new = IsError old e new

-- ---- texts

-- One brace.
abbrev pub one_brace : EscapeCurlyBrace → List ℕ
one_brace Open = codes "{"
one_brace Close = codes "}"

-- The kind of an error in words.
abbrev pub kind_text : FormatErrorKind → List ℕ
kind_text Standalone = codes "Standalone '}'"
kind_text Unmatched = codes "Unmatched '{'"
kind_text Conversion = codes "Unknown conversion"

-- What an error prints.
abbrev pub error_text : FormatError → List ℕ
error_text e = kind_text e.kind ++ codes " in format string `" ++ e.text.now ++ codes "`"
