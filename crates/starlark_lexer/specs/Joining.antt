-- A text behind another.
use Rattle.std.specs.Prelude.{◌≡◌, ◌≢◌, ◌<◌, ◌⊎◌, ◌+◌, ◌-◌, ℕ, zero, suc, Bool, true, false, not, if◌then◌else◌, ◌&&◌, ◌||◌, List, [], ◌∷◌, ◌++◌, map, drop, length, count_by, Option, Some, None}
use Rattle.std.specs.List.{list_all}
use Rattle.starlark_lexer.specs.Items.{Lexeme, newline, is_newline, indent, dedent, dedents, comment, fstring_start, fstring_end, Item, item, opening_item, closing_item, Stop, Lexed, with_items}
use Rattle.starlark_lexer.specs.Classes.{leading, line_len, line_end}
use Rattle.starlark_lexer.specs.Lex.{Lex, start}
use Rattle.starlark_lexer.specs.Order.{InOrder}

-- The text ends in a line feed that no backslash escapes: neither right before it nor before a CR right before it stands one.
pub record IsClosed (text : List ℕ) : Type 0 where
  pub front : List ℕ
  pub line_feed : text ≡ front ++ 10 ∷ []
  pub not_escaped : (more : List ℕ) → front ≡ more ++ 92 ∷ [] → ⊥
  pub not_escaped_cr : (more : List ℕ) → front ≡ more ++ 92 ∷ 13 ∷ [] → ⊥

-- how many f-strings are open behind a lexeme, where n are before it
abbrev pub nested : ℕ → Lexeme → ℕ
nested n (fstring_start q) = suc n
nested n fstring_end = n - 1
nested n _ = n

-- the items that stand outside all f-strings, where n are open before them
abbrev pub outside : ℕ → List Item → List Item
outside n [] = []
outside zero (x ∷ xs) = x ∷ outside (nested 0 x.lexeme) xs
outside (suc n) (x ∷ xs) = outside (nested (suc n) x.lexeme) xs

-- how many f-strings are open behind the items, where n are before them
abbrev pub open_behind : ℕ → List Item → ℕ
open_behind n [] = n
open_behind n (x ∷ xs) = open_behind (nested n x.lexeme) xs

-- All f-strings are closed, and outside them as many brackets are closed as are opened.
pub record IsEven (items : List Item) : Type 0 where
  pub strings : open_behind 0 items ≡ 0
  pub brackets : count_by opening_item (outside 0 items) ≡ count_by closing_item (outside 0 items)

abbrev pub is_comment : Lexeme → Bool
is_comment (comment text) = true
is_comment _ = false

-- whether a line begins behind the items, where it does or does not before them: behind a line end, and behind a comment where one begins before it
abbrev pub begins_line : Bool → List Item → Bool
begins_line f [] = f
begins_line f (x ∷ xs) = begins_line (is_newline x.lexeme || (f && is_comment x.lexeme)) xs

abbrev pub is_dedent : Lexeme → Bool
is_dedent dedent = true
is_dedent _ = false

abbrev pub dedent_item : Item → Bool
dedent_item x = is_dedent x.lexeme

-- whether a Dedent stands last, behind one or behind none
abbrev pub ends_dedented : Bool → List Item → Bool
ends_dedented d [] = d
ends_dedented d (x ∷ xs) = ends_dedented (dedent_item x) xs

-- No Dedent stands last: what was indented is closed before the last line.
pub record IsLevel (items : List Item) : Type 0 where
  pub closed : ends_dedented false items ≡ false

-- an item n bytes on
abbrev pub item_on : ℕ → Item → Item
item_on n x = record { begin = n + x.begin; lexeme = x.lexeme; end = n + x.end }

-- a fault n bytes on
abbrev pub stop_on : ℕ → Option Stop → Option Stop
stop_on n None = None
stop_on n (Some x) = Some (record { begin = n + x.begin; error = x.error; end = n + x.end })

-- what a text is cut into, n bytes on
abbrev pub lexed_on : ℕ → Lexed → Lexed
lexed_on n l = record { items = map (item_on n) l.items; fault = stop_on n l.fault }

-- The items of the first text are those, and its closing line end behind them. Both texts, one behind the other, are cut into those
-- and what the second is cut into.
pub record IsJoined (a b : List ℕ) (l m : Lexed) : Type 0 where
  pub items : List Item
  pub first : l.items ≡ items ++ item (length a) newline (length a) ∷ []
  pub line_end : begins_line true items ≡ true
  pub both : Lex start (a ++ b) (with_items items (lexed_on (length a) m))

abbrev pub is_indent : Lexeme → Bool
is_indent indent = true
is_indent _ = false

-- a line end or a comment
abbrev pub line_item : Item → Bool
line_item x = is_newline x.lexeme || is_comment x.lexeme

-- behind line ends and comments no Indent stands
abbrev pub opens_level : List Item → Bool
opens_level [] = true
opens_level (x ∷ xs) = if line_item x then opens_level xs else not (is_indent x.lexeme)

-- how many bytes the line at the front has, with its line end
abbrev pub whole_line : List ℕ → ℕ
whole_line xs = line_len xs + line_end (drop (line_len xs) xs)

-- The first line of a text that has a width begins at that place: each line before it is blank or a comment. Where no line has one, the
-- text ends there.
pub data FirstLine : List ℕ → ℕ → Type 0 where
  none : (text : List ℕ) → leading text ≡ length text → FirstLine text (length text)
  here : (text : List ℕ) (b : ℕ) (more : List ℕ) → drop (leading text) text ≡ b ∷ more → b ≢ 10 → b ≢ 35 → FirstLine text 0
  blank : (text more : List ℕ) (n : ℕ) → drop (leading text) text ≡ 10 ∷ more → FirstLine more n → FirstLine text (leading text + 1 + n)
  remark : (text more : List ℕ) (n : ℕ) → drop (leading text) text ≡ 35 ∷ more → FirstLine (drop (whole_line more) more) n → FirstLine text (leading text + 1 + whole_line more + n)

-- The same where so many Dedents close the first text. They stand in the second where its first line that has a width begins: behind
-- the line ends and comments before it, and before all else. Where no line has one they stand at its end, behind all that it is cut into.
pub record IsLaid (a b : List ℕ) (l m : Lexed) : Type 0 where
  pub items : List Item
  pub count : ℕ
  pub first : l.items ≡ items ++ item (length a) newline (length a) ∷ dedents (length a) count
  pub line_end : begins_line true items ≡ true
  pub front : List Item
  pub more : List Item
  pub second : m.items ≡ front ++ more
  pub lines : list_all line_item front ≡ true
  pub place : ℕ
  pub line : FirstLine b place
  pub before : InOrder 0 place front None
  pub behind : ((place ≡ length b) × (more ≡ [])) ⊎ ((place < length b) × InOrder place (length b) more m.fault)
  pub both : Lex start (a ++ b) (with_items items (lexed_on (length a) (record { items = front ++ (dedents place count ++ more); fault = m.fault })))
