-- The lexemes of a whole text, rule by rule.
use Rattle.std.specs.Prelude.{◌≡◌, ◌≢◌, ◌<◌, ◌⊎◌, ℕ, ◌+◌, if◌then◌else◌, Bool, true, false, List, [], ◌∷◌, ◌++◌, take, drop, length, count_by}
use Rattle.starlark_lexer.specs.declared.token.LexemeError.{LexemeError}
use Rattle.starlark_lexer.specs.declared.token.LexemeError.TheVariants.{Indentation, InvalidTab, UnfinishedStringLiteral, InvalidEscapeSequence}
use Rattle.starlark_lexer.specs.declared.literal.Form.{Form}
use Rattle.starlark_lexer.specs.declared.literal.Sort.{Sort}
use Rattle.starlark_lexer.specs.declared.literal.Sort.TheVariants as sort
use Rattle.starlark_lexer.specs.declared.literal.Ending.TheVariants as ending
use Rattle.starlark_lexer.specs.Items.{Lexeme, newline, indent, comment, string, bytes, fstring_start, fstring_text, fstring_expr_start, fstring_expr_end, fstring_bang, fstring_end, is_opening, is_closing, Item, item, Lexed, nothing, with_items, with_fault, opening_item, closing_item, dedents, newline_span}
use Rattle.starlark_lexer.specs.Literals.{body, quotes, is_format, value}
use Rattle.starlark_lexer.specs.Classes.{is_blank, leading, blanks, has_tab, width, line_end, line_len, escaped, closes_field, IsLexeme, token, refused, opens}
use Rattle.starlark_lexer.specs.Depth.{Bracket, neither, IsDepth}
use Rattle.starlark_lexer.specs.Depth as depth
use Rattle.starlark_lexer.specs.Widths.{IsOpen, IsDeeper, Closes}

-- among lexemes; in the text of an f-string of that form that begins at a place; or in a field of it, behind these of its lexemes, the last one first
pub data Mode : Type 0 where
  code : Mode
  inside : ℕ → Form → Mode
  field : ℕ → Form → List Bracket → Mode

-- what stands before a place
pub record Past : Type 0 where
  pub place : ℕ
  -- the last one first
  pub items : List Item
  -- the widths of the lines that were measured, the last one first
  pub lines : List ℕ
  -- whether a line begins here
  pub fresh : Bool
  pub mode : Mode
  -- the modes of what is open around it, the innermost first
  pub outer : List Mode

abbrev pub start : Past
start = record { place = 0; items = []; lines = []; fresh = true; mode = code; outer = [] }

-- as many brackets are closed as are opened
abbrev pub IsBalanced : Past → Type 0
IsBalanced p = count_by opening_item p.items ≡ count_by closing_item p.items

-- the one thing that happens at a place: items are given, and it goes on behind them with the rest, or it is over
pub data Move : Type 0 where
  on : List Item → Past → List ℕ → Move
  over : Lexed → Move

-- lexemes count for brackets where they stand outside all f-strings, and in a field for its depth
abbrev pub recorded : Mode → Item → List Item → List Item
recorded code it xs = it ∷ xs
recorded (inside b g) it xs = xs
recorded (field b g bs) it xs = xs

abbrev pub bracket_of : Lexeme → Bracket
bracket_of x = if is_opening x then depth.opens else (if is_closing x then depth.closes else neither)

abbrev pub mode_behind : Mode → Lexeme → Mode
mode_behind code x = code
mode_behind (inside b g) x = inside b g
mode_behind (field b g bs) x = field b g (bracket_of x ∷ bs)

abbrev pub below : List Mode → Mode
below [] = code
below (m ∷ ms) = m

-- in the text of an f-string
abbrev pub is_inside : Mode → Bool
is_inside (inside b g) = true
is_inside _ = false

-- the lexeme of a literal with that value
abbrev pub literal_lexeme : Sort → List ℕ → Lexeme
literal_lexeme sort.Text v = string v
literal_lexeme sort.Bytes v = bytes v
literal_lexeme sort.Format v = fstring_text v

-- n bytes on
abbrev pub moved : Past → ℕ → Past
moved p n = record { place = p.place + n; items = p.items; lines = p.lines; fresh = false; mode = p.mode; outer = p.outer }

-- a lexeme of n bytes, s bytes on; then it goes on k bytes on
abbrev pub gives : Past → ℕ → Lexeme → ℕ → ℕ → Bool → List ℕ → Move
gives p s x n k f rest =
    let it = item (p.place + s) x (p.place + s + n) in
    on (it ∷ []) (record { place = p.place + k; items = recorded p.mode it p.items; lines = p.lines; fresh = f; mode = mode_behind p.mode x; outer = p.outer }) (drop k rest)

abbrev pub refuses : Past → ℕ → LexemeError → ℕ → Move
refuses p s e n = over (with_fault (p.place + s) e (p.place + s + n))

abbrev pub deepened : Past → ℕ → ℕ → List ℕ → Move
deepened p w n rest =
    let it = item p.place indent (p.place + n) in
    on (it ∷ []) (record { place = p.place + n; items = it ∷ p.items; lines = w ∷ p.lines; fresh = false; mode = p.mode; outer = p.outer }) (drop n rest)

abbrev pub fitted : Past → ℕ → ℕ → ℕ → List ℕ → Move
fitted p w n k rest =
    let them = dedents p.place n in
    on them (record { place = p.place + k; items = them ++ p.items; lines = w ∷ p.lines; fresh = false; mode = p.mode; outer = p.outer }) (drop k rest)

-- the end of the text at i, where n widths are open
abbrev pub ends : ℕ → ℕ → Move
ends i n = over (with_items (item i newline i ∷ dedents i n) nothing)

-- a lexeme of n bytes, behind which the mode is m
abbrev pub turns : Past → Lexeme → ℕ → Mode → List Mode → List ℕ → Move
turns p x n m os rest =
    on (item p.place x (p.place + n) ∷ []) (record { place = p.place + n; items = p.items; lines = p.lines; fresh = false; mode = m; outer = os }) (drop n rest)

-- LF is passed over
abbrev pub IsJoined : Past → Type 0
IsJoined p = ((b : ℕ) × (g : Form) × (bs : List Bracket) × (p.mode ≡ field b g bs)) ⊎ ((p.mode ≡ code) × (IsBalanced p → ⊥))

-- a lexeme stands here: no escaped line end, and nothing that ends a field
pub record IsPlain (p : Past) (rest : List ℕ) : Type 0 where
  pub within : p.fresh ≡ false
  pub outside : is_inside p.mode ≡ false
  pub no_escape : escaped rest ≡ 0
  pub no_end : (b : ℕ) (g : Form) (bs : List Bracket) → p.mode ≡ field b g bs → IsDepth bs 0 → closes_field rest ≡ false

-- a line that has a width
pub record IsMeasured (p : Past) (rest : List ℕ) : Type 0 where
  pub fresh : p.fresh ≡ true
  pub first : ℕ
  pub more : List ℕ
  pub stands : drop (leading rest) rest ≡ first ∷ more
  pub not_line : first ≢ 10
  pub not_remark : first ≢ 35

pub data Step : Past → List ℕ → Move → Type 0 where
  -- a line that has no width
  blank_line : (p : Past) (rest more : List ℕ) → p.fresh ≡ true → drop (leading rest) rest ≡ 10 ∷ more
      → Step p rest (gives p (leading rest) newline 1 (leading rest + 1) true rest)
  remark_line : (p : Past) (rest more : List ℕ) → p.fresh ≡ true → drop (leading rest) rest ≡ 35 ∷ more
      → Step p rest (gives p (leading rest) (comment (take (line_len more) more)) (1 + line_len more) (leading rest + (1 + line_len more) + line_end (drop (line_len more) more)) true rest)
  last_line : (p : Past) (rest closed : List ℕ) → p.fresh ≡ true → leading rest ≡ length rest → Closes p.lines 0 closed
      → Step p rest (ends (p.place + length rest) (length closed))
  -- a line that has one
  tabbed : (p : Past) (rest : List ℕ) → IsMeasured p rest → has_tab (blanks rest) ≡ true
      → Step p rest (over (with_fault (newline_span p.items).0 InvalidTab (newline_span p.items).1))
  deepens : (p : Past) (rest : List ℕ) → IsMeasured p rest → has_tab (blanks rest) ≡ false → IsDeeper p.lines (width rest)
      → Step p rest (deepened p (width rest) (leading rest) rest)
  fits : (p : Past) (rest closed : List ℕ) → IsMeasured p rest → has_tab (blanks rest) ≡ false → IsOpen p.lines (width rest) → Closes p.lines (width rest) closed
      → Step p rest (fitted p (width rest) (length closed) (leading rest) rest)
  misfits : (p : Past) (rest : List ℕ) → IsMeasured p rest → has_tab (blanks rest) ≡ false → (IsDeeper p.lines (width rest) → ⊥) → (IsOpen p.lines (width rest) → ⊥)
      → Step p rest (refuses p 0 Indentation (leading rest))
  -- within a line
  passes : (p : Past) (b : ℕ) (rest : List ℕ) → p.fresh ≡ false → is_inside p.mode ≡ false → is_blank b ≡ true → Step p (b ∷ rest) (on [] (moved p 1) rest)
  escapes : (p : Past) (rest : List ℕ) → p.fresh ≡ false → is_inside p.mode ≡ false → 0 < escaped rest → Step p rest (on [] (moved p (escaped rest)) (drop (escaped rest) rest))
  joins : (p : Past) (rest : List ℕ) → p.fresh ≡ false → IsJoined p → Step p (10 ∷ rest) (on [] (moved p 1) rest)
  ends_line : (p : Past) (rest : List ℕ) → p.fresh ≡ false → p.mode ≡ code → IsBalanced p → Step p (10 ∷ rest) (gives p 0 newline 1 1 true (10 ∷ rest))
  remark : (p : Past) (rest : List ℕ) → p.fresh ≡ false → is_inside p.mode ≡ false
      → Step p (35 ∷ rest) (gives p 0 (comment (take (line_len rest) rest)) (1 + line_len rest) (1 + line_len rest) false (35 ∷ rest))
  lexeme : (p : Past) (rest : List ℕ) (n : ℕ) (x : Lexeme) → IsPlain p rest → IsLexeme rest n (token x) → Step p rest (gives p 0 x n n false rest)
  faults : (p : Past) (rest : List ℕ) (n : ℕ) (e : LexemeError) → IsPlain p rest → IsLexeme rest n (refused e) → Step p rest (refuses p 0 e n)
  ends_text : (p : Past) (closed : List ℕ) → p.fresh ≡ false → is_inside p.mode ≡ false → Closes p.lines 0 closed → Step p [] (ends p.place (length closed))
  -- literals of text and of bytes, with n bytes of prefix and quotes
  literal : (p : Past) (rest : List ℕ) (n : ℕ) (g : Form) (k : ℕ) → IsPlain p rest → IsLexeme rest n (opens g) → is_format g.sort ≡ false → body g 0 (drop n rest) ≡ ending.Closed k
      → Step p rest (gives p 0 (literal_lexeme g.sort (value g (take k (drop n rest)))) (n + k + quotes g.quote) (n + k + quotes g.quote) false rest)
  unclosed : (p : Past) (rest : List ℕ) (n : ℕ) (g : Form) (k : ℕ) → IsPlain p rest → IsLexeme rest n (opens g) → is_format g.sort ≡ false → body g 0 (drop n rest) ≡ ending.Unfinished k
      → Step p rest (refuses p 0 UnfinishedStringLiteral (n + k))
  misspelt : (p : Past) (rest : List ℕ) (n : ℕ) (g : Form) (k m : ℕ) → IsPlain p rest → IsLexeme rest n (opens g) → is_format g.sort ≡ false → body g 0 (drop n rest) ≡ ending.Escape k m
      → Step p rest (refuses p (n + k) InvalidEscapeSequence m)
  -- f-strings
  enters : (p : Past) (rest : List ℕ) (n : ℕ) (g : Form) → IsPlain p rest → IsLexeme rest n (opens g) → is_format g.sort ≡ true
      → Step p rest (turns p (fstring_start g.quote) n (inside p.place g) (p.mode ∷ p.outer) rest)
  texts : (p : Past) (b : ℕ) (g : Form) (rest : List ℕ) (k : ℕ) → p.fresh ≡ false → p.mode ≡ inside b g → 0 < k → (body g 0 rest ≡ ending.Closed k) ⊎ (body g 0 rest ≡ ending.Field k)
      → Step p rest (gives p 0 (fstring_text (value g (take k rest))) k k false rest)
  leaves : (p : Past) (b : ℕ) (g : Form) (rest : List ℕ) → p.fresh ≡ false → p.mode ≡ inside b g → body g 0 rest ≡ ending.Closed 0
      → Step p rest (turns p fstring_end (quotes g.quote) (below p.outer) (drop 1 p.outer) rest)
  opens_field : (p : Past) (b : ℕ) (g : Form) (rest : List ℕ) → p.fresh ≡ false → p.mode ≡ inside b g → body g 0 rest ≡ ending.Field 0
      → Step p rest (turns p fstring_expr_start 1 (field b g []) p.outer rest)
  unfinished : (p : Past) (b : ℕ) (g : Form) (rest : List ℕ) (k : ℕ) → p.fresh ≡ false → p.mode ≡ inside b g → body g 0 rest ≡ ending.Unfinished k
      → Step p rest (over (with_fault b UnfinishedStringLiteral (p.place + k)))
  misspells : (p : Past) (b : ℕ) (g : Form) (rest : List ℕ) (k m : ℕ) → p.fresh ≡ false → p.mode ≡ inside b g → body g 0 rest ≡ ending.Escape k m
      → Step p rest (refuses p k InvalidEscapeSequence m)
  shuts : (p : Past) (b : ℕ) (g : Form) (bs : List Bracket) (rest : List ℕ) → p.fresh ≡ false → p.mode ≡ field b g bs → IsDepth bs 0
      → Step p (125 ∷ rest) (turns p fstring_expr_end 1 (inside b g) p.outer (125 ∷ rest))
  bangs : (p : Past) (b : ℕ) (g : Form) (bs : List Bracket) (rest : List ℕ) → p.fresh ≡ false → p.mode ≡ field b g bs → IsDepth bs 0 → closes_field (33 ∷ rest) ≡ true
      → Step p (33 ∷ rest) (gives p 0 fstring_bang 1 1 false (33 ∷ rest))

-- what comes at a place, to the end of the text or its first fault
pub data Lex : Past → List ℕ → Lexed → Type 0 where
  goes_on : (p : Past) (rest : List ℕ) (xs : List Item) (q : Past) (more : List ℕ) (l : Lexed) → Step p rest (on xs q more) → Lex q more l → Lex p rest (with_items xs l)
  is_over : (p : Past) (rest : List ℕ) (l : Lexed) → Step p rest (over l) → Lex p rest l
