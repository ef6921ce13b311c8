-- A text that is cut off behind one of its lexemes, and what it is cut into with other bytes behind it.
use Rattle.std.specs.Prelude.{◌≡◌, ◌<◌, ◌+◌, ℕ, zero, suc, Bool, true, false, if◌then◌else◌, List, [], ◌∷◌, ◌++◌, length, map, count_by, Option, None, IsAscii}
use Rattle.starlark_lexer.specs.Items.{Lexeme, newline, comment, indent, dedent, keyword_pass, dedents, is_opening, is_closing, Item, item, Stop, Lexed, nothing, with_items, opening_item, closing_item}
use Rattle.starlark_lexer.specs.Lex.{Lex, start}
use Rattle.starlark_lexer.specs.Joining.{is_comment, is_indent, dedent_item, outside}

-- what stands within a line: no line end, no comment and no layout
abbrev pub inner : Lexeme → Bool
inner newline = false
inner indent = false
inner dedent = false
inner (comment w) = false
inner _ = true

abbrev pub indent_item : Item → Bool
indent_item x = is_indent x.lexeme

-- The text with s and a line feed behind it is cut into the items of the front, those of s, the line end and the end of the text, where
-- as many Dedents stand as widths are open.
pub record IsFinished (text s : List ℕ) (front : List Item) (xs : List Lexeme) : Type 0 where
  pub put : List Item
  pub names : map (λ x. x.lexeme) put ≡ xs
  pub place : ℕ
  pub count : ℕ
  pub layout : count_by indent_item front ≡ count_by dedent_item front + count
  pub lex : Lex start (text ++ (s ++ 10 ∷ [])) (with_items front (with_items put (with_items (item place newline (place + 1) ∷ []) (with_items (item (place + 1) newline (place + 1) ∷ dedents (place + 1) count) nothing))))

-- u with v behind it is cut into items of which z is one, and u ends where z ends.
pub record IsCutAt (u v : List ℕ) (before : List Item) (z : Item) (behind : List Item) : Type 0 where
  pub fault : Option Stop
  pub lex : Lex start (u ++ v) (record { items = before ++ z ∷ behind; fault = fault })
  pub length_is : length u ≡ z.end

-- Outside all f-strings as many brackets are closed as are opened, in the front and what is put behind it together.
abbrev pub EvenWith : List Item → List Lexeme → Type 0
EvenWith front xs = count_by opening_item (outside 0 front) + count_by is_opening xs ≡ count_by closing_item (outside 0 front) + count_by is_closing xs

-- The text alone is cut into the items of the front and the end of the text, where as many Dedents stand as widths are open.
pub record IsClosedOff (text : List ℕ) (front : List Item) : Type 0 where
  pub count : ℕ
  pub layout : count_by indent_item front ≡ count_by dedent_item front + count
  pub lex : Lex start text (with_items front (with_items (item (length text) newline (length text) ∷ dedents (length text) count) nothing))

-- The text alone is cut into the items before the Dedents that stand at its end, and the end of the text, where more Dedents stand than
-- stood before that one.
pub record IsClosedBefore (text : List ℕ) (before : List Item) : Type 0 where
  pub front : List Item
  pub some : ℕ
  pub is : before ≡ front ++ dedents (length text) some
  pub closed : IsClosedOff text front
  pub fewer : some < closed.count

-- so many spaces
abbrev pub blanks_of : ℕ → List ℕ
blanks_of zero = []
blanks_of (suc n) = 32 ∷ blanks_of n

-- an Indent, `pass` behind it, its line end and the end of the text, where so many widths are open
abbrev pub indented_line : ℕ → ℕ → ℕ → Lexed
indented_line begin place count =
    with_items (item begin indent place ∷ item place keyword_pass (place + 4) ∷ item (place + 4) newline (place + 4 + 1) ∷ item (place + 4 + 1) newline (place + 4 + 1) ∷ dedents (place + 4 + 1) count) nothing

-- The text with some blanks, `pass` and a line feed behind it is cut into the items of the front, an Indent, `pass`, the line end and the
-- end of the text, where as many Dedents stand as widths are open.
pub record IsIndented (text blanks : List ℕ) (front : List Item) : Type 0 where
  pub begin : ℕ
  pub place : ℕ
  pub count : ℕ
  pub layout : count_by indent_item front + 1 ≡ count_by dedent_item front + count
  pub lex : Lex start (text ++ (blanks ++ 112 ∷ 97 ∷ 115 ∷ 115 ∷ 10 ∷ [])) (with_items front (indented_line begin place count))

-- The same with some number of spaces.
pub record IsDeepened (text : List ℕ) (front : List Item) : Type 0 where
  pub spaces : ℕ
  pub indented : IsIndented text (blanks_of spaces) front

-- `pass`, its line end and the end of the text, where so many widths are open
abbrev pub filled_line : ℕ → ℕ → Lexed
filled_line place count =
    with_items (item place keyword_pass (place + 4) ∷ item (place + 4) newline (place + 4 + 1) ∷ item (place + 4 + 1) newline (place + 4 + 1) ∷ dedents (place + 4 + 1) count) nothing

-- The text with some number of spaces, `pass` and a line feed behind it is cut into the items of the front, `pass`, the line end and the
-- end of the text, where as many Dedents stand as widths are open.
pub record IsFilled (text : List ℕ) (front : List Item) : Type 0 where
  pub spaces : ℕ
  pub place : ℕ
  pub count : ℕ
  pub layout : count_by indent_item front ≡ count_by dedent_item front + count
  pub lex : Lex start (text ++ (blanks_of spaces ++ 112 ∷ 97 ∷ 115 ∷ 115 ∷ 10 ∷ [])) (with_items front (filled_line place count))

-- The same behind some more Dedents.
pub record IsFilledBehind (text : List ℕ) (front : List Item) : Type 0 where
  pub more : ℕ
  pub filled : IsFilled text (front ++ dedents (length text) more)

-- Nothing stands behind z but the Dedents of the text's end, of which there are as many as widths are open behind z, and there is no fault.
pub record IsEnded (u v : List ℕ) (before : List Item) (z : Item) (behind : List Item) (fault : Option Stop) : Type 0 where
  pub whole : v ≡ []
  pub no_fault : fault ≡ None
  pub count : ℕ
  pub layout : count_by indent_item (before ++ z ∷ []) ≡ count_by dedent_item (before ++ z ∷ []) + count
  pub rest : behind ≡ dedents (length u) count

-- the lexemes of items, comments left out
abbrev pub tokens_of : List Item → List Lexeme
tokens_of [] = []
tokens_of (x ∷ xs) = if is_comment x.lexeme then tokens_of xs else x.lexeme ∷ tokens_of xs

-- The text with some bytes behind it is cut into tokens that are those of the front, the last of which is a line end that the text has.
pub record IsContinued (u : List ℕ) (front : List Item) : Type 0 where
  pub more : List ℕ
  -- each of them is an ASCII byte
  pub ascii : IsAscii more
  pub before : List Item
  pub z : Item
  pub behind : List Item
  pub cut : IsCutAt (u ++ more) [] before z behind
  pub line_end : z.lexeme ≡ newline
  pub real : z.end ≡ z.begin + 1
  pub same : tokens_of (before ++ z ∷ []) ≡ tokens_of front
