-- The definitions of places and of indices at some literals.
use Rattle.std.proofs.Common.{◌≡◌, [], ◌∷◌, refl, Some}
use Rattle.std.specs.Prelude.{◌++◌, codes, decimal, List, ℕ, pos, negsuc}
use Rattle.starlark_place.specs.Place.{extent, line_extent, trimmed_extent, merged_all, bare_line, line_text}
use Rattle.starlark_place.specs.Resolved.{resolved, resolved_span}
use Rattle.starlark_place.specs.Shown.{shown_span}
use Rattle.starlark_place.specs.Strings.{matches_in, index_in, piece_begin, piece_end}

-- three lines, the last of them without a line feed
abbrev lines : List ℕ
lines = codes "abcd\nefghij\nqwerty"

behind_a_line_feed : resolved lines 5 ≡ record { line = 1; column = 0 }
behind_a_line_feed = refl

before_a_line_feed : resolved lines 4 ≡ record { line = 0; column = 4 }
before_a_line_feed = refl

in_the_last_line : resolved lines 16 ≡ record { line = 2; column = 4 }
in_the_last_line = refl

-- é has two bytes
columns_are_characters : resolved (codes "s = \"" ++ 195 ∷ 169 ∷ codes "\" )\n") 9 ≡ record { line = 0; column = 8 }
columns_are_characters = refl

a_line_with_its_feed : line_extent lines 1 ≡ extent 5 12
a_line_with_its_feed = refl

a_line_behind_the_last_feed : line_extent (codes "a\n") 1 ≡ extent 2 2
a_line_behind_the_last_feed = refl

a_line_without_cr_and_feed : trimmed_extent (codes "a\r\n") 0 ≡ extent 0 1
a_line_without_cr_and_feed = refl

all_crs_cut : bare_line (line_text (codes "a\r\r\n") 0) ≡ codes "a"
all_crs_cut = refl

no_stretches : merged_all [] ≡ extent 0 0
no_stretches = refl

over_two_lines : shown_span (resolved_span lines (extent 5 14)) ≡ (decimal 2 ++ 58 ∷ decimal 1) ++ 45 ∷ (decimal 3 ++ 58 ∷ decimal 3)
over_two_lines = refl

on_one_line : shown_span (resolved_span lines (extent 5 11)) ≡ (decimal 2 ++ 58 ∷ decimal 1) ++ 45 ∷ decimal 7
on_one_line = refl

of_nothing : shown_span (resolved_span lines (extent 4 4)) ≡ (decimal 1 ++ 58 ∷ decimal 5) ++ []
of_nothing = refl

matches_do_not_overlap : matches_in (codes "aa") (codes "aaaa") ≡ 2
matches_do_not_overlap = refl

an_empty_needle : matches_in [] [] ≡ 1
an_empty_needle = refl

far_below_nought : index_in 10 (negsuc 19) ≡ 0
far_below_nought = refl

three_before_the_end : piece_begin 10 (Some (negsuc 2)) ≡ 7
three_before_the_end = refl

past_the_end : piece_end 3 (Some (pos 4)) ≡ 3
past_the_end = refl
