-- Places in a text. A text is the list of its bytes, and a place is a number of bytes.
use Rattle.std.specs.Prelude.{ℕ, zero, suc, ◌+◌, ◌-◌, Bool, not, ◌&&◌, ◌||◌, if◌then◌else◌, nat_le, nat_lt, nat_eq, List, [], ◌∷◌, fold, Option, Some, None, length, take, slice_index, slice_range, count_by, min, max}
use Rattle.std.specs.List.{suffix_len}
use Rattle.std.specs.Option.{unwrap_or}
use Rattle.std.specs.Str.{IsCharBoundary}

-- from a place to a place
pub record Extent : Type 0 where
  pub begin : ℕ
  pub end : ℕ

abbrev pub extent : ℕ → ℕ → Extent
extent b e = record { begin = b; end = e }

-- from the least beginning to the greatest end
abbrev pub merged : Extent → Extent → Extent
merged s t = extent (min s.begin t.begin) (max s.end t.end)

-- the stretch of all so far and one more
abbrev pub merged_into : Option Extent → Extent → Option Extent
merged_into None t = Some t
merged_into (Some s) t = Some (merged s t)

-- from the least beginning to the greatest end of all, or from 0 to 0
abbrev pub merged_all : List Extent → Extent
merged_all ss = unwrap_or (fold merged_into None ss) (extent 0 0)

-- a named text
pub record File : Type 0 where
  pub id : ℕ
  pub name : List ℕ
  pub source : List ℕ

-- a stretch of a named text
pub record FilePlace : Type 0 where
  pub file : File
  pub extent : Extent

abbrev pub file_place : File → Extent → FilePlace
file_place f e = record { file = f; extent = e }

-- both ends lie in the text, each between two characters or at one of its ends
pub record Holds (text : List ℕ) (e : Extent) : Type 0 where
  pub begin : IsCharBoundary text e.begin
  pub end : IsCharBoundary text e.end

abbrev pub is_feed : ℕ → Bool
is_feed b = nat_eq b 10

-- a byte that goes on with the character before it
abbrev pub is_continuation : ℕ → Bool
is_continuation b = nat_le 128 b && nat_lt b 192

-- the number of line feeds before a place
abbrev pub line_at : List ℕ → ℕ → ℕ
line_at text i = count_by is_feed (take i text)

-- the bytes behind the last line feed
abbrev pub last_line : List ℕ → List ℕ
last_line [] = []
last_line (b ∷ bs) = if nat_eq (count_by is_feed bs) 0 then (if is_feed b then bs else b ∷ bs) else last_line bs

-- the number of characters of a text
abbrev pub characters : List ℕ → ℕ
characters text = count_by (λ b. not (is_continuation b)) text

-- the number of characters between a place and the last line feed before it
abbrev pub column_at : List ℕ → ℕ → ℕ
column_at text i = characters (last_line (take i text))

abbrev pub line_feeds : List ℕ → ℕ
line_feeds text = count_by is_feed text

-- where a line begins: behind as many line feeds, or at the end of a text that has fewer
abbrev pub line_begin : ℕ → List ℕ → ℕ
line_begin zero text = 0
line_begin (suc n) [] = 0
line_begin (suc n) (b ∷ bs) = if is_feed b then suc (line_begin n bs) else suc (line_begin (suc n) bs)

-- a line with its line feed
abbrev pub line_extent : List ℕ → ℕ → Extent
line_extent text n = extent (line_begin n text) (line_begin (n + 1) text)

-- the bytes of a line feed at the end, and of one carriage return right before it
abbrev pub newline_len : List ℕ → ℕ
newline_len line =
    if nat_lt 0 (length line) && nat_eq (slice_index line (length line - 1)) 10 then (if nat_lt 1 (length line) && nat_eq (slice_index line (length line - 2)) 13 then 2 else 1) else 0

-- the text of a line
abbrev pub line_text : List ℕ → ℕ → List ℕ
line_text text n = slice_range text (line_begin n text) (line_begin (n + 1) text)

-- a line without them
abbrev pub trimmed_extent : List ℕ → ℕ → Extent
trimmed_extent text n = extent (line_begin n text) (line_begin (n + 1) text - newline_len (line_text text n))

abbrev pub ends_line : ℕ → Bool
ends_line b = nat_eq b 10 || nat_eq b 13

-- a line without all carriage returns and line feeds at its end
abbrev pub bare_line : List ℕ → List ℕ
bare_line line = take (length line - suffix_len ends_line line) line
