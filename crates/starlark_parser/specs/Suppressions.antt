-- Which findings the comments of a text suppress: docs/LANGUAGE.md, Suppressions.
use Rattle.std.specs.Prelude.{ℕ, ◌+◌, Bool, true, false, not, ◌&&◌, ◌||◌, ◌==◌, if◌then◌else◌, nat_le, nat_lt, List, [], ◌∷◌, ◌++◌, map, codes, slice_range}
use Rattle.std.specs.List.{filter, list_any}
use Rattle.std.specs.Str.{trim, trim_start}
use Rattle.starlark_place.specs.Place.{Extent, merged, merged_all, line_at, line_feeds, line_extent, trimmed_extent}

-- both lists have the same members in the same order
abbrev pub same_text : List ℕ → List ℕ → Bool
same_text [] [] = true
same_text [] (d ∷ ds) = false
same_text (c ∷ cs) [] = false
same_text (c ∷ cs) (d ∷ ds) = (c == d) && same_text cs ds

abbrev pub is_empty : {A : Type 0} → List A → Bool
is_empty [] = true
is_empty (x ∷ xs) = false

-- what stands behind these bytes in a text that begins with them, or nothing
abbrev pub behind : List ℕ → List ℕ → List ℕ
behind [] text = text
behind (n ∷ ns) [] = []
behind (n ∷ ns) (b ∷ bs) = if n == b then behind ns bs else []

-- names are parted by spaces and commas
abbrev pub parts_names : ℕ → Bool
parts_names b = (b == 32) || (b == 44)

abbrev pub with_first : ℕ → List (List ℕ) → List (List ℕ)
with_first b [] = (b ∷ []) ∷ []
with_first b (p ∷ ps) = (b ∷ p) ∷ ps

-- a list of names, cut at each of them
abbrev pub pieces : List ℕ → List (List ℕ)
pieces [] = [] ∷ []
pieces (b ∷ bs) = if parts_names b then [] ∷ pieces bs else with_first b (pieces bs)

-- the pieces without white space at their ends, those of which nothing is left aside
abbrev pub names_of : List (List ℕ) → List (List ℕ)
names_of pieces = filter (λ n. not (is_empty n)) (map trim pieces)

-- the names in a list
abbrev pub names_in : List ℕ → List (List ℕ)
names_in list = names_of (pieces list)

-- the list of names of a comment, from its # on
abbrev pub list_of : List ℕ → List ℕ
list_of comment = behind (codes "starlark-lint-disable ") (trim_start (behind (codes "#") comment))

-- the names that the comment at a place names
abbrev pub names_at : List ℕ → Extent → List (List ℕ)
names_at text place = names_in (list_of (slice_range text place.begin place.end))

-- Comments with no other token between them are a block. These are the blocks of the comments at the places, each with whether
-- it follows another directly, behind a block that has begun.
abbrev pub blocks_from : List Extent → List Extent → List Bool → List (List Extent)
blocks_from block [] joined = block ∷ []
blocks_from block (p ∷ ps) [] = block ∷ []
blocks_from block (p ∷ ps) (true ∷ joined) = blocks_from (block ++ p ∷ []) ps joined
blocks_from block (p ∷ ps) (false ∷ joined) = block ∷ blocks_from (p ∷ []) ps joined

-- those of a block that count: from the first on that names something
abbrev pub counted : List ℕ → List Extent → List Extent
counted text [] = []
counted text (p ∷ ps) = if is_empty (names_at text p) then counted text ps else p ∷ ps

-- the line of a comment, without its line end
abbrev pub line_of : List ℕ → Extent → Extent
line_of text place = trimmed_extent text (line_at text place.begin)

-- from the first of the comments to the last, and the lines of them
abbrev pub token_span : List Extent → Extent
token_span comments = merged_all comments

abbrev pub lines_span : List ℕ → List Extent → Extent
lines_span text comments = merged_all (map (line_of text) comments)

-- nothing but white space stands before the place on its line
abbrev pub stands_first : List ℕ → Extent → Extent → Bool
stands_first text token lines = is_empty (trim (slice_range text lines.begin token.begin))

-- The comments speak of the next line, too: there are several, or they fill their lines, or stand alone on them.
abbrev pub reaches_on : List ℕ → Bool → Extent → Extent → Bool
reaches_on text several token lines = several || (((token.begin == lines.begin) && (token.end == lines.end)) || ((token.end == lines.end) && stands_first text token lines))

-- the same with the next line and its line feed, where there is one
abbrev pub with_next_line : List ℕ → Extent → Extent
with_next_line text lines = if nat_lt (line_at text lines.end) (line_feeds text) then merged lines (line_extent text (line_at text lines.end + 1)) else lines

abbrev pub meets : Extent → Extent → Bool
meets s t = nat_le s.begin t.end && nat_le t.begin s.end

-- Comments at these places, which stand on these lines, reach a finding. One that ends right behind a comment that reaches on is
-- passed over.
abbrev pub covers : List ℕ → Bool → Extent → Extent → Extent → Bool
covers text several token lines finding =
    if reaches_on text several token lines
    then not (finding.end == token.end + 1) && meets finding (with_next_line text lines)
    else meets finding lines

abbrev pub is_several : {A : Type 0} → List A → Bool
is_several [] = false
is_several (x ∷ []) = false
is_several (x ∷ y ∷ ys) = true

-- a block of comments suppresses what it names there
abbrev pub counts_for : List ℕ → List ℕ → Extent → List Extent → Bool
counts_for text name finding comments = list_any (λ p. list_any (same_text name) (names_at text p)) comments && covers text (is_several comments) (token_span comments) (lines_span text comments) finding

-- A finding of this name at this place is suppressed in a text with comments at these places.
abbrev pub is_suppressed : List ℕ → List Extent → List Bool → List ℕ → Extent → Bool
is_suppressed text comments joined name finding = list_any (λ block. counts_for text name finding (counted text block)) (blocks_from [] comments joined)
