-- Suppressions in small texts, whose comments are found by hand.
use Rattle.std.proofs.Common.{◌≡◌, [], ◌∷◌, true, false, refl}
use Rattle.std.specs.Prelude.{codes, List, ℕ}
use Rattle.std.specs.Str.{trim_start, trim_end, chars}
use Rattle.std.specs.Char.{encode_utf8}
use Rattle.starlark_place.specs.Place.{extent}
use Rattle.starlark_parser.specs.Suppressions.{blocks_from, is_suppressed, names_at, names_in}

cut_at_spaces_and_commas : names_in (codes "a, b,,c  d") ≡ codes "a" ∷ codes "b" ∷ codes "c" ∷ codes "d" ∷ []
unfolding trim_start trim_end chars encode_utf8
cut_at_spaces_and_commas = refl

no_name : names_in (codes " , ") ≡ []
unfolding trim_start trim_end chars encode_utf8
no_name = refl

-- a space that is no ASCII character before the words, which has two bytes
white_space_in_front : names_at (35 ∷ 194 ∷ 160 ∷ codes "starlark-lint-disable a") (extent 0 26) ≡ codes "a" ∷ []
unfolding trim_start trim_end chars encode_utf8
white_space_in_front = refl

-- a tab parts no names, and is cut off at their ends
tab_in_a_name : names_in (codes "a\tb c\t") ≡ codes "a\tb" ∷ codes "c" ∷ []
unfolding trim_start trim_end chars encode_utf8
tab_in_a_name = refl

other_words : names_at (codes "# starlark-lint-disabled a") (extent 0 26) ≡ []
unfolding trim_start trim_end chars encode_utf8
other_words = refl

two_blocks : blocks_from [] (extent 0 1 ∷ extent 2 3 ∷ extent 6 7 ∷ []) (false ∷ true ∷ false ∷ []) ≡ [] ∷ (extent 0 1 ∷ extent 2 3 ∷ []) ∷ (extent 6 7 ∷ []) ∷ []
two_blocks = refl

-- a comment of 27 bytes, alone on its line, and a line below it
abbrev above : List ℕ
above = codes "# starlark-lint-disable foo\nx = 1\n"

the_next_line : is_suppressed above (extent 0 27 ∷ []) (false ∷ []) (codes "foo") (extent 28 33) ≡ true
unfolding trim_start trim_end chars encode_utf8
the_next_line = refl

another_name : is_suppressed above (extent 0 27 ∷ []) (false ∷ []) (codes "bar") (extent 28 33) ≡ false
unfolding trim_start trim_end chars encode_utf8
another_name = refl

the_front_of_a_name : is_suppressed above (extent 0 27 ∷ []) (false ∷ []) (codes "fo") (extent 28 33) ≡ false
unfolding trim_start trim_end chars encode_utf8
the_front_of_a_name = refl

ends_with_the_comments_line : is_suppressed above (extent 0 27 ∷ []) (false ∷ []) (codes "foo") (extent 0 28) ≡ false
unfolding trim_start trim_end chars encode_utf8
ends_with_the_comments_line = refl

the_empty_place : is_suppressed above (extent 0 27 ∷ []) (false ∷ []) (codes "foo") (extent 0 0) ≡ true
unfolding trim_start trim_end chars encode_utf8
the_empty_place = refl

the_greatest_place : is_suppressed above (extent 0 27 ∷ []) (false ∷ []) (codes "foo") (extent 0 4294967295) ≡ true
unfolding trim_start trim_end chars encode_utf8
the_greatest_place = refl

-- behind a statement, from its byte 6 to 33
abbrev beside : List ℕ
beside = codes "x = 1 # starlark-lint-disable foo\ny\n"

the_same_line : is_suppressed beside (extent 6 33 ∷ []) (false ∷ []) (codes "foo") (extent 0 5) ≡ true
unfolding trim_start trim_end chars encode_utf8
the_same_line = refl

not_the_next : is_suppressed beside (extent 6 33 ∷ []) (false ∷ []) (codes "foo") (extent 34 35) ≡ false
unfolding trim_start trim_end chars encode_utf8
not_the_next = refl

-- the last line, without a line feed
up_to_the_end : is_suppressed (codes "# starlark-lint-disable foo") (extent 0 27 ∷ []) (false ∷ []) (codes "foo") (extent 0 27) ≡ true
unfolding trim_start trim_end chars encode_utf8
up_to_the_end = refl

passed_over_without_a_next_line : is_suppressed (codes "# starlark-lint-disable foo") (extent 0 27 ∷ []) (false ∷ []) (codes "foo") (extent 0 28) ≡ false
unfolding trim_start trim_end chars encode_utf8
passed_over_without_a_next_line = refl

-- three comments, of which the second names something, on the bytes 0 to 3, 4 to 29 and 30 to 33
abbrev block : List ℕ
block = codes "# a\n# starlark-lint-disable b\n# c\nx\ny\n"

the_line_below_the_block : is_suppressed block (extent 0 3 ∷ extent 4 29 ∷ extent 30 33 ∷ []) (false ∷ true ∷ true ∷ []) (codes "b") (extent 34 35) ≡ true
unfolding trim_start trim_end chars encode_utf8
the_line_below_the_block = refl

not_the_line_after_that : is_suppressed block (extent 0 3 ∷ extent 4 29 ∷ extent 30 33 ∷ []) (false ∷ true ∷ true ∷ []) (codes "b") (extent 37 38) ≡ false
unfolding trim_start trim_end chars encode_utf8
not_the_line_after_that = refl

not_what_stands_before_the_first : is_suppressed block (extent 0 3 ∷ extent 4 29 ∷ extent 30 33 ∷ []) (false ∷ true ∷ true ∷ []) (codes "b") (extent 0 3) ≡ false
unfolding trim_start trim_end chars encode_utf8
not_what_stands_before_the_first = refl
