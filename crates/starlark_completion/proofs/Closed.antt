-- What ends a construct of an expression closes what is open there.
use Rattle.std.proofs.Common.{ℕ, ◌≡◌, ◌∷◌, ◌++◌, [], List, false, refl, ap}
use Rattle.starlark_lexer.specs.Items.{Lexeme, newline, dedent, string, keyword_else, keyword_in, keyword_pass, comma, colon, equal, opening_round, closing_round, closing_square, closing_curly, Item}
use Rattle.starlark_grammar.specs.Tables.{Bracket, round, square, curly, closing_bracket}
use Rattle.starlark_grammar.specs.Points.{Place, brackets, behind, before_body, targets_in, at_first, at_second, at_third, Frame, member, key, bound, second, operand, behind_sign, condition, otherwise, body, over, filter, field, Point, member_wanted, member_read, key_read, star_read, stars_read, name_read, bound_wanted, bound_read, second_read, attribute_wanted, not_read, condition_read, clauses_read, piece_wanted, field_read, letter_wanted, letter_read}
use Rattle.starlark_grammar.specs.Completion.{some_name, place_end, point_end, frame_end, spelled}
use Rattle.starlark_grammar.specs.Language.{bare}
use Rattle.starlark_cutting.specs.Spelling.{a_name, an_else, an_in, a_pass, a_comma, a_colon, an_equal, an_opening, a_round, a_square, a_curly, a_string}
use Rattle.starlark_cutting.specs.Opened.{Nest, outside, deeper, within_text, Goes_to, Way, Put, plain, a_letter, field_end, string_end, put_lexeme, put_lexemes}
use Rattle.starlark_completion.specs.Shapes.{in_place, in_frame, at_point}
use Rattle.starlark_completion.specs.Ending.{copies}
use Rattle.starlark_completion.specs.Closes.{Closes, line_ends, by_plain, by_letter, by_field, by_text}
use Rattle.starlark_completion.proofs.Nests.{deeper_text}

-- one of them before others, where no text of an f-string is
pub by_name : {d : ℕ} {r : Nest} {xs : List Lexeme} → within_text r ≡ false → Closes d r xs → Closes d r (some_name ∷ xs)
by_name {r} z c = by_plain a_name r (z, refl) c

pub by_else : {d : ℕ} {r : Nest} {xs : List Lexeme} → within_text r ≡ false → Closes d r xs → Closes d r (keyword_else ∷ xs)
by_else {r} z c = by_plain an_else r (z, refl) c

pub by_in : {d : ℕ} {r : Nest} {xs : List Lexeme} → within_text r ≡ false → Closes d r xs → Closes d r (keyword_in ∷ xs)
by_in {r} z c = by_plain an_in r (z, refl) c

pub by_pass : {d : ℕ} {r : Nest} {xs : List Lexeme} → within_text r ≡ false → Closes d r xs → Closes d r (keyword_pass ∷ xs)
by_pass {r} z c = by_plain a_pass r (z, refl) c

pub by_comma : {d : ℕ} {r : Nest} {xs : List Lexeme} → within_text r ≡ false → Closes d r xs → Closes d r (comma ∷ xs)
by_comma {r} z c = by_plain a_comma r (z, refl) c

pub by_colon : {d : ℕ} {r : Nest} {xs : List Lexeme} → within_text r ≡ false → Closes d r xs → Closes d r (colon ∷ xs)
by_colon {r} z c = by_plain a_colon r (z, refl) c

pub by_equal : {d : ℕ} {r : Nest} {xs : List Lexeme} → within_text r ≡ false → Closes d r xs → Closes d r (equal ∷ xs)
by_equal {r} z c = by_plain an_equal r (z, refl) c

pub by_string : {d : ℕ} {r : Nest} {xs : List Lexeme} → within_text r ≡ false → Closes d r xs → Closes d r (string [] ∷ xs)
by_string {r} z c = by_plain a_string r (z, refl) c

pub by_opening : {d : ℕ} {r : Nest} {xs : List Lexeme} → within_text r ≡ false → Closes d (deeper r) xs → Closes d r (opening_round ∷ xs)
by_opening {r} z c = by_plain an_opening (deeper r) (z, refl) c

pub by_round : {d : ℕ} {r : Nest} {xs : List Lexeme} → within_text r ≡ false → Closes d r xs → Closes d (deeper r) (closing_round ∷ xs)
by_round {r} z c = by_plain a_round r (deeper_text r z, refl) c

pub by_square : {d : ℕ} {r : Nest} {xs : List Lexeme} → within_text r ≡ false → Closes d r xs → Closes d (deeper r) (closing_square ∷ xs)
by_square {r} z c = by_plain a_square r (deeper_text r z, refl) c

pub by_curly : {d : ℕ} {r : Nest} {xs : List Lexeme} → within_text r ≡ false → Closes d r xs → Closes d (deeper r) (closing_curly ∷ xs)
by_curly {r} z c = by_plain a_curly r (deeper_text r z, refl) c

by_bracket : {d : ℕ} {r : Nest} {xs : List Lexeme} (p : Bracket) → within_text r ≡ false → Closes d r xs → Closes d (deeper r) (closing_bracket p ∷ xs)
by_bracket round z c = by_round z c
by_bracket square z c = by_square z c
by_bracket curly z c = by_curly z c

-- members, points and frames
place_closes : {d : ℕ} (r : Nest) (w : Place) (ts : List Item) → within_text r ≡ false → Closes d r (bare ts) → Closes d (in_place w r) (bare (spelled 0 (place_end w) ts))
place_closes r (brackets p b) ts z c = by_bracket p z c
place_closes r (behind q) ts z c = by_round z c
place_closes r (before_body b) ts z c = by_colon z (by_name z c)
place_closes r (targets_in p b m cs) ts z c = let y = deeper_text r z in by_comma y (by_name y (by_in y (by_name y (by_bracket p z c))))

pub point_closes : {d : ℕ} (r : Nest) (p : Point) (ts : List Item) → within_text r ≡ false → Closes d r (bare ts) → Closes d (at_point p r) (bare (spelled 0 (point_end p) ts))
point_closes r (member_wanted (targets_in p b m cs) ms t e f) ts z c = let y = deeper_text r z in by_name y (by_in y (by_name y (by_bracket p z c)))
point_closes r (member_wanted (brackets p b) ms t e f) ts z c = by_bracket p z c
point_closes r (member_wanted (behind q) ms t e f) ts z c = by_round z c
point_closes r (member_wanted (before_body b) ms t e f) ts z c = by_colon z (by_name z c)
point_closes r (member_read w ms e f) ts z c = place_closes r w ts z c
point_closes r (key_read b ms f g q) ts z c = let y = deeper_text r z in by_colon y (by_name y (by_curly z c))
point_closes r (star_read b ms f g u) ts z c = by_colon z (by_name z c)
point_closes r (stars_read b ms f g) ts z c = by_name z (by_colon z (by_name z c))
point_closes r (name_read b ms f m g u) ts z c = by_colon z (by_name z c)
point_closes r (bound_wanted q at_first) ts z c = by_colon (deeper_text r z) (by_square z c)
point_closes r (bound_wanted q (at_second o)) ts z c = by_square z c
point_closes r (bound_wanted q (at_third o p)) ts z c = by_square z c
point_closes r (bound_read q bs s) ts z c = by_square z c
point_closes r (second_read q s t) ts z c = by_square z c
point_closes r (attribute_wanted q) ts z c = by_name z c
point_closes r (not_read q) ts z c = by_in z (by_name z c)
point_closes r (condition_read t q) ts z c = by_else z (by_name z c)
point_closes r (clauses_read p b m cs) ts z c = by_bracket p z c
point_closes r (piece_wanted b f ms) ts z c = by_text c
point_closes r (field_read b f ms q) ts z c = by_field (by_text c)
point_closes r (letter_wanted b f ms q g h) ts z c = by_letter (by_field (by_text c))
point_closes r (letter_read b f ms) ts z c = by_field (by_text c)

pub frame_closes : {d : ℕ} (r : Nest) (f : Frame) (ts : List Item) → within_text r ≡ false → Closes d r (bare ts) → Closes d (in_frame f r) (bare (spelled 0 (frame_end f) ts))
frame_closes r (member w ms f b o) ts z c = place_closes r w ts z c
frame_closes r (key b ms f g) ts z c = let y = deeper_text r z in by_colon y (by_name y (by_curly z c))
frame_closes r (bound l bs) ts z c = by_square z c
frame_closes r (second l s) ts z c = by_square z c
frame_closes r (operand l o) ts z c = c
frame_closes r (behind_sign s b) ts z c = c
frame_closes r (condition t) ts z c = by_else z (by_name z c)
frame_closes r (otherwise t q) ts z c = c
frame_closes r (body ms b) ts z c = c
frame_closes r (over p b m cs t) ts z c = by_bracket p z c
frame_closes r (filter p b m cs) ts z c = by_bracket p z c
frame_closes r (field b f ms) ts z c = by_field (by_text c)

-- What is put before the line end: plain ones alone where no f-string is open.
pub record Front (k : ℕ) (r : Nest) (xs : List Lexeme) : Type 0 where
  pub front : List Put
  pub parts : xs ≡ put_lexemes front ++ newline ∷ copies k dedent
  pub way : Way r (put_lexemes front) (outside 0)

put_front : {k : ℕ} {r t : Nest} {xs : List Lexeme} (p : Put) → Goes_to (put_lexeme p) r t → Front k t xs → Front k r (put_lexeme p ∷ xs)
put_front {t} p h f = record { front = p ∷ f.front; parts = ap (λ ys. put_lexeme p ∷ ys) f.parts; way = (t, (h, f.way)) }

pub front_of : {k : ℕ} {r : Nest} {xs : List Lexeme} → Closes k r xs → Front k r xs
front_of line_ends = record { front = []; parts = refl; way = refl }
front_of (by_plain p t h c) = put_front (plain p) h (front_of c)
front_of (by_letter c) = put_front a_letter (refl, refl) (front_of c)
front_of (by_field {r} c) = put_front field_end (r, (refl, refl)) (front_of c)
front_of (by_text c) = put_front string_end refl (front_of c)
