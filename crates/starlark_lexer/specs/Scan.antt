-- What the code computes, step by step.
use Rattle.std.specs.Prelude.{◌<◌, ◌≤◌, ℕ, zero, suc, ◌+◌, ◌-◌, ◌*◌, ◌^◌, Bool, true, false, not, ◌&&◌, ◌||◌, if◌then◌else◌, ◌==◌, nat_le, nat_lt, nat_eq, List, [], ◌∷◌, ◌++◌, take, drop, length, slice_index, Option, Some, None}
use Rattle.std.specs.Char.{is_digit, is_ascii_digit}
use Rattle.std.specs.List.{prefix_len, starts_with}
use Rattle.starlark_lexer.specs.declared.words.Keyword.{Keyword}
use Rattle.starlark_lexer.specs.declared.words.Operator.{Operator}
use Rattle.starlark_lexer.specs.declared.literal.Form.{Form}
use Rattle.starlark_lexer.specs.declared.literal.Ending.{Ending}
use Rattle.starlark_lexer.specs.declared.literal.Ending.TheVariants as ending
use Rattle.starlark_lexer.specs.declared.scan.Class.{Class}
use Rattle.starlark_lexer.specs.declared.scan.Class.TheVariants as class
use Rattle.starlark_lexer.specs.declared.scan.Kind.{Kind}
use Rattle.starlark_lexer.specs.declared.scan.Kind.TheVariants as kind
use Rattle.starlark_lexer.specs.declared.scan.Found.{Found}
use Rattle.starlark_lexer.specs.declared.scan.Found.TheVariants as found
use Rattle.starlark_lexer.specs.declared.scan.State.{State}
use Rattle.starlark_lexer.specs.declared.scan.Mode.{Mode}
use Rattle.starlark_lexer.specs.declared.scan.Mode.TheVariants as mode
use Rattle.starlark_lexer.specs.declared.scan.Turn.{Turn}
use Rattle.starlark_lexer.specs.declared.scan.Turn.TheVariants as turns
use Rattle.starlark_lexer.specs.declared.token.LexemeError.TheVariants.{InvalidInput, Indentation, InvalidTab, ReservedKeyword, StartsZero, UnfinishedStringLiteral, InvalidEscapeSequence}
use Rattle.starlark_lexer.specs.Items.{Lexeme, newline, indent, comment, identifier, integer, float, fstring_start, fstring_text, fstring_expr_start, fstring_expr_end, fstring_bang, fstring_end, keyword_lexeme, operator_lexeme, is_opening, is_closing, Item, item, Lexed, nothing, with_items, with_fault, dedents}
use Rattle.starlark_lexer.specs.Number.{number}
use Rattle.starlark_lexer.specs.Literals.{body, quotes, is_format, value}
use Rattle.starlark_lexer.specs.Fronts.{opening_front}
use Rattle.starlark_lexer.specs.Lex.{literal_lexeme}
use Rattle.starlark_lexer.specs.Classes as classes
use Rattle.starlark_lexer.specs.Classes.{digits_len, behind_digits, radix_of, base_of}

abbrev pub is_in : Class → ℕ → Bool
is_in class.Blank b = classes.is_blank b
is_in class.Word b = classes.is_word_byte b
is_in class.Digit b = is_ascii_digit b
is_in (class.Based radix) b = is_digit b radix
is_in class.Continuation b = classes.is_continuation b

-- the radix of a class, where it has one
abbrev pub IsClass : Class → Type 0
IsClass (class.Based radix) = (2 ≤ radix) × (radix ≤ 36)
IsClass _ = Unit {0}

-- the numbers are small, n bytes on
abbrev pub IsEnding : ℕ → Ending → Type 0
IsEnding n (ending.Closed k) = n + k + 3 < 2 ^ 64
IsEnding n (ending.Field k) = n + k < 2 ^ 64
IsEnding n (ending.Unfinished k) = n + k < 2 ^ 64
IsEnding n (ending.Escape k m) = n + k < 2 ^ 64

-- ---- words

abbrev pub plain_word : List ℕ → Found
plain_word w = if classes.is_reserved w then found.Fault ReservedKeyword else found.Kind kind.Word

abbrev pub by_keyword : Option Keyword → List ℕ → Found
by_keyword None w = plain_word w
by_keyword (Some k) w = found.Kind (kind.Keyword k)

abbrev pub word : List ℕ → Found
word w = by_keyword (classes.keyword_of w) w

-- ---- numbers: lengths of fronts, 0 where there is none

abbrev pub more_than : ℕ → ℕ → ℕ
more_than k n = if n == 0 then 0 else n + k

-- [+-][0-9]+
unfoldable pub signed_len : List ℕ → ℕ
signed_len [] = 0
signed_len (b ∷ bs) = if b == 43 || b == 45 then more_than 1 (digits_len bs) else 0

-- [eE][+-]?[0-9]+
unfoldable pub exponent_len : List ℕ → ℕ
exponent_len [] = 0
exponent_len (b ∷ bs) = if b == 101 || b == 69 then (if digits_len bs == 0 then more_than 1 (signed_len bs) else digits_len bs + 1) else 0

-- \.[0-9]* and an exponent or nothing
unfoldable pub fraction_len : List ℕ → ℕ
fraction_len [] = 0
fraction_len (b ∷ bs) = if b == 46 then 1 + (digits_len bs + exponent_len (drop (digits_len bs) bs)) else 0

abbrev pub tail_len : List ℕ → ℕ
tail_len xs = if fraction_len xs == 0 then exponent_len xs else fraction_len xs

-- the digits behind 0 and the letter of a radix
unfoldable pub based_len : List ℕ → ℕ
based_len [] = 0
based_len (b ∷ []) = 0
based_len (b ∷ c ∷ bs) = if b == 48 && nat_lt 0 (radix_of c) then prefix_len (λ d. is_digit d (radix_of c)) bs else 0

abbrev pub decimal : List ℕ → Found
decimal w = if classes.is_zeros w then found.Fault StartsZero else found.Kind (kind.Int 0 10)

abbrev pub decimal_scan : List ℕ → Found × ℕ
decimal_scan xs = if tail_len (behind_digits xs) == 0 then (decimal (take (digits_len xs) xs), digits_len xs) else (found.Kind kind.Float, digits_len xs + tail_len (behind_digits xs))

-- a number that begins with a digit
unfoldable pub number_scan : List ℕ → Found × ℕ
number_scan xs = if based_len xs == 0 then decimal_scan xs else (found.Kind (kind.Int 2 (base_of xs)), based_len xs + 2)

-- ---- operators

abbrev pub first_row : List (List ℕ × Operator) → List ℕ → Option (Operator × ℕ)
first_row [] xs = None
first_row (r ∷ rs) xs = if starts_with nat_eq xs r.0 then Some (r.1, length r.0) else first_row rs xs

abbrev pub operator : Option (Operator × ℕ) → Found × ℕ
operator None = (found.Fault InvalidInput, 1)
operator (Some x) = (found.Kind (kind.Operator x.0), x.1)

-- ---- the lexeme at the front of a text that isn't empty, and its length

-- a point and a digit
abbrev pub is_pointed : List ℕ → Bool
is_pointed bytes = slice_index bytes 0 == 46 && classes.begins_digit (drop 1 bytes)

unfoldable pub scan_more : List ℕ → Found × ℕ
scan_more bytes =
    if classes.begins_word (slice_index bytes 0) then (word (take (prefix_len (is_in class.Word) bytes) bytes), prefix_len (is_in class.Word) bytes)
    else (if is_ascii_digit (slice_index bytes 0) then number_scan bytes
    else (if is_pointed bytes then (found.Kind kind.Float, tail_len bytes)
    else (if nat_lt (slice_index bytes 0) 128 then operator (first_row classes.operators bytes)
    else (found.Fault InvalidInput, 1 + prefix_len (is_in class.Continuation) (drop 1 bytes)))))

abbrev pub by_front : Option (Form × ℕ) → List ℕ → Found × ℕ
by_front None bytes = scan_more bytes
by_front (Some x) bytes = (found.Opens x.0, x.1)

abbrev pub scan : List ℕ → Found × ℕ
scan bytes = by_front (opening_front bytes) bytes

-- a literal with n bytes of prefix and quotes, whose body ends like that
abbrev pub literal_turn : Form → ℕ → Ending → Turn
literal_turn g n (ending.Closed k) = turns.Gives 0 (kind.Literal g n k) (n + k + quotes g.quote) (n + k + quotes g.quote) false
literal_turn g n (ending.Field k) = turns.Unfinished (n + k)
literal_turn g n (ending.Unfinished k) = turns.Fault 0 UnfinishedStringLiteral (n + k)
literal_turn g n (ending.Escape k m) = turns.Fault (n + k) InvalidEscapeSequence m

abbrev pub opens_turn : Form → ℕ → List ℕ → Turn
opens_turn g n rest = if is_format g.sort then turns.Enter g n else literal_turn g n (body g 0 (drop n rest))

abbrev pub turn_of : List ℕ → Found × ℕ → Turn
turn_of rest (found.Kind k, n) = turns.Gives 0 k n n false
turn_of rest (found.Fault e, n) = turns.Fault 0 e n
turn_of rest (found.Opens g, n) = opens_turn g n rest

abbrev pub at_ground : Mode → Bool
at_ground mode.Code = false
at_ground (mode.Inside b g) = false
at_ground (mode.Field b g d) = d == 0

-- where nothing is passed over, among lexemes
unfoldable pub here : Mode → List ℕ → Turn
here m [] = turns.End 0
here m (b ∷ bs) =
    if b == 10 then turns.Gives 0 kind.Newline 1 1 true
    else (if b == 35 then turns.Gives 0 kind.Comment (1 + classes.line_len bs) (1 + classes.line_len bs) false
    else (if at_ground m && classes.closes_field (b ∷ bs) then (if b == 125 then turns.Shut else turns.Gives 0 kind.Bang 1 1 false)
    else turn_of (b ∷ bs) (scan (b ∷ bs))))

-- in the text of an f-string of that form, whose run ends like that
abbrev pub text_turn : Form → Ending → Turn
text_turn g (ending.Closed zero) = turns.Leave (quotes g.quote)
text_turn g (ending.Closed (suc k)) = turns.Gives 0 (kind.Text g) (suc k) (suc k) false
text_turn g (ending.Field zero) = turns.Open
text_turn g (ending.Field (suc k)) = turns.Gives 0 (kind.Text g) (suc k) (suc k) false
text_turn g (ending.Unfinished k) = turns.Unfinished k
text_turn g (ending.Escape k m) = turns.Fault k InvalidEscapeSequence m

-- how many bytes are passed over at once
unfoldable pub pass : Bool → List ℕ → ℕ
pass joined [] = 0
pass joined (b ∷ bs) =
    if classes.is_blank b then 1
    else (if b == 10 then (if joined then 1 else 0)
    else (if b == 92 then (if classes.line_end bs == 0 then 0 else classes.line_end bs + 1) else 0))

-- how many bytes are passed over, after n that are passed over in any case
unfoldable pub gap : Bool → ℕ → List ℕ → ℕ
gap joined n [] = 0
gap joined (suc n) (b ∷ bs) = suc (gap joined n bs)
gap joined zero (b ∷ bs) = elim (pass joined (b ∷ bs)) [ zero ↦ 0 | suc n ↦ suc (gap joined n bs) ]

abbrev pub kept : List ℕ → ℕ → ℕ
kept ws w = prefix_len (λ x. nat_le x w) ws

unfoldable pub fits : List ℕ → ℕ → ℕ → Turn
fits ws w g =
    if classes.is_open ws w then turns.Fits (kept ws w) g
    else (if kept ws w == length ws then turns.Deeper w g else turns.Fault 0 Indentation g)

unfoldable pub line_from : List ℕ → List ℕ → ℕ → List ℕ → Turn
line_from ws blanks g [] = turns.End g
line_from ws blanks g (b ∷ bs) =
    if b == 10 then turns.Gives g kind.Newline 1 (g + 1) true
    else (if b == 35 then turns.Gives g kind.Comment (1 + classes.line_len bs) (g + (1 + classes.line_len bs) + classes.line_end (drop (classes.line_len bs) bs)) true
    else (if classes.has_tab blanks then turns.Tab g else fits ws (classes.spaces blanks) g))

abbrev pub line_turn : List ℕ → List ℕ → Turn
line_turn ws rest = line_from ws (classes.blanks rest) (classes.leading rest) (drop (classes.leading rest) rest)

abbrev pub is_newline : Kind → Bool
is_newline kind.Newline = true
is_newline _ = false

abbrev pub bit : Bool → ℕ
bit true = 1
bit false = 0

abbrev pub opens : Kind → ℕ
opens (kind.Operator o) = bit (is_opening (operator_lexeme o))
opens _ = 0

abbrev pub closes : Kind → ℕ
closes (kind.Operator o) = bit (is_closing (operator_lexeme o))
closes _ = 0

abbrev pub more_in : Mode → ℕ → ℕ → ℕ
more_in mode.Code n k = n + k
more_in _ n k = n

abbrev pub last_in : Mode → Bool → ℕ → ℕ → ℕ
last_in mode.Code b new old = if b then new else old
last_in _ b new old = old

abbrev pub mode_after : Mode → Kind → Mode
mode_after (mode.Field b g d) k = mode.Field b g (d + opens k - closes k)
mode_after m k = m

abbrev pub after : State → ℕ → Kind → ℕ → ℕ → Bool → State
after s i k n next fresh = record {
  place = s.place + next;
  opened = more_in s.mode s.opened (opens k);
  closed = more_in s.mode s.closed (closes k);
  line_begin = last_in s.mode (is_newline k) (s.place + i) s.line_begin;
  line_end = last_in s.mode (is_newline k) (s.place + i + n) s.line_end;
  fresh = fresh;
  mode = mode_after s.mode k;
}

abbrev pub turned : State → ℕ → Mode → State
turned s n m = record { place = s.place + n; opened = s.opened; closed = s.closed; line_begin = s.line_begin; line_end = s.line_end; fresh = false; mode = m }

abbrev pub last_mode : List Mode → Mode
last_mode [] = mode.Code
last_mode (m ∷ []) = m
last_mode (m ∷ o ∷ ms) = last_mode (o ∷ ms)

abbrev pub field_of : Mode → Mode
field_of (mode.Inside b g) = mode.Field b g 0
field_of m = m

abbrev pub body_of : Mode → Mode
body_of (mode.Field b g d) = mode.Inside b g
body_of m = m

abbrev pub depth_of : Mode → ℕ
depth_of (mode.Field b g d) = d
depth_of _ = 0

abbrev pub begin_of : Mode → ℕ
begin_of (mode.Inside b g) = b
begin_of (mode.Field b g d) = b
begin_of mode.Code = 0

-- the lexeme whose text is w
abbrev pub lexeme_from : Kind → List ℕ → Lexeme
lexeme_from kind.Newline w = newline
lexeme_from kind.Comment w = comment (drop 1 w)
lexeme_from kind.Word w = identifier w
lexeme_from (kind.Keyword k) w = keyword_lexeme k
lexeme_from (kind.Int from radix) w = integer (number false radix (drop from w))
lexeme_from kind.Float w = float w
lexeme_from (kind.Operator o) w = operator_lexeme o
lexeme_from (kind.Literal g n k) w = literal_lexeme g.sort (value g (take k (drop n w)))
lexeme_from (kind.Text g) w = fstring_text (value g w)
lexeme_from kind.Bang w = fstring_bang

-- where the code stands
pub record At : Type 0 where
  pub state : State
  pub widths : List ℕ
  -- the outermost first
  pub outer : List Mode
  pub rest : List ℕ

pub data Act : Type 0 where
  goes : List Item → At → Act
  stops : Lexed → Act

abbrev pub skip : ℕ → At → At
skip n c = record {
  state = record { place = c.state.place + n; opened = c.state.opened; closed = c.state.closed; line_begin = c.state.line_begin; line_end = c.state.line_end; fresh = false; mode = c.state.mode };
  widths = c.widths;
  outer = c.outer;
  rest = drop n c.rest;
}

abbrev pub act : Turn → At → Act
act (turns.End i) c = stops (with_items (item (c.state.place + length c.rest) newline (c.state.place + length c.rest) ∷ dedents (c.state.place + length c.rest) (length c.widths)) nothing)
act (turns.Tab i) c = stops (with_fault c.state.line_begin InvalidTab c.state.line_end)
act (turns.Fault i e n) c = stops (with_fault (c.state.place + i) e (c.state.place + i + n))
act (turns.Gives i k n next fresh) c =
    goes (item (c.state.place + i) (lexeme_from k (take n (drop i c.rest))) (c.state.place + i + n) ∷ [])
    (record { state = after c.state i k n next fresh; widths = c.widths; outer = c.outer; rest = drop next c.rest })
act (turns.Deeper w g) c =
    goes (item c.state.place indent (c.state.place + g) ∷ []) (record { state = (skip g c).state; widths = c.widths ++ w ∷ []; outer = c.outer; rest = drop g c.rest })
act (turns.Fits n g) c =
    goes (dedents c.state.place (length c.widths - n)) (record { state = (skip g c).state; widths = take n c.widths; outer = c.outer; rest = drop g c.rest })
act (turns.Enter g n) c = goes (item c.state.place (fstring_start g.quote) (c.state.place + n) ∷ []) (record { state = turned c.state n (mode.Inside c.state.place g); widths = c.widths; outer = c.outer ++ c.state.mode ∷ []; rest = drop n c.rest })
act (turns.Leave q) c = goes (item c.state.place fstring_end (c.state.place + q) ∷ []) (record { state = turned c.state q (last_mode c.outer); widths = c.widths; outer = take (length c.outer - 1) c.outer; rest = drop q c.rest })
act turns.Open c = goes (item c.state.place fstring_expr_start (c.state.place + 1) ∷ []) (record { state = turned c.state 1 (field_of c.state.mode); widths = c.widths; outer = c.outer; rest = drop 1 c.rest })
act turns.Shut c = goes (item c.state.place fstring_expr_end (c.state.place + 1) ∷ []) (record { state = turned c.state 1 (body_of c.state.mode); widths = c.widths; outer = c.outer; rest = drop 1 c.rest })
act (turns.Unfinished n) c = stops (with_fault (begin_of c.state.mode) UnfinishedStringLiteral (c.state.place + n))

abbrev pub joined_in : Mode → Bool → Bool
joined_in mode.Code b = b
joined_in _ b = true

abbrev pub is_joined : State → Bool
is_joined s = joined_in s.mode (not (s.opened == s.closed))

abbrev pub goes_by : ℕ → At → Act
goes_by zero c = act (here c.state.mode c.rest) c
goes_by (suc n) c = goes [] (skip (suc n) c)

abbrev pub in_text : Mode → Bool
in_text (mode.Inside b g) = true
in_text _ = false

abbrev pub within_by : Mode → At → Act
within_by (mode.Inside b g) c = act (text_turn g (body g 0 c.rest)) c
within_by _ c = goes_by (pass (is_joined c.state) c.rest) c

unfoldable pub step : At → Act
step c = if c.state.fresh then act (line_turn c.widths c.rest) c else within_by c.state.mode c

abbrev pub follow : Act → (At → Lexed) → Lexed
follow (goes xs d) k = with_items xs (k d)
follow (stops l) k = l

-- what at most so many steps give
unfoldable pub run : ℕ → At → Lexed
run zero c = nothing
run (suc f) c = follow (step c) (run f)

-- more than the steps that there are
abbrev pub size : At → ℕ
size c = 2 * length c.rest + (if c.state.fresh then 1 else 0)

abbrev pub left_at : At → Lexed
left_at c = run (suc (size c)) c
