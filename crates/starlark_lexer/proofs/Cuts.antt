-- A turn goes forward, within the rest.
use Rattle.std.proofs.Common.{◌≡◌, ◌<◌, ◌≤◌, ℕ, ◌+◌, ◌^◌, Bool, true, List, [], ◌∷◌, length, drop, refl, ap, arith, zero, suc, inl, inr, eqb, ltb, ◌&&◌, length-drop}
use Rattle.std.specs.Prelude.{Option, Some, None}
use Rattle.std.proofs.lemmas.Bool.{cases_Bool}
use Rattle.std.proofs.lemmas.List.Sums.{prefix_len-le-length}
use Rattle.std.specs.List.{prefix_len}
use Rattle.std.specs.Char.{is_ascii_digit}
use Rattle.starlark_lexer.specs.declared.literal.Form.{Form}
use Rattle.starlark_lexer.specs.declared.literal.Ending.{Ending}
use Rattle.starlark_lexer.specs.declared.literal.Ending.TheVariants as ending
use Rattle.starlark_lexer.specs.declared.words.Operator.{Operator}
use Rattle.starlark_lexer.specs.declared.scan.Class.TheVariants as class
use Rattle.starlark_lexer.specs.declared.scan.Found.{Found}
use Rattle.starlark_lexer.specs.declared.scan.Found.TheVariants as found
use Rattle.starlark_lexer.specs.declared.scan.Mode.{Mode}
use Rattle.starlark_lexer.specs.declared.scan.Turn.{Turn}
use Rattle.starlark_lexer.specs.declared.scan.Turn.TheVariants as turns
use Rattle.starlark_lexer.specs.Literals.{body, quotes, is_format}
use Rattle.starlark_lexer.specs.Fronts.{opening_front}
use Rattle.starlark_lexer.specs.Classes.{is_word_byte, begins_word, begins_digit, operators, line_len, leading, blanks, has_tab, spaces, is_open, closes_field}
use Rattle.starlark_lexer.specs.Scan.{is_in, scan, scan_more, by_front, first_row, here, text_turn, literal_turn, opens_turn, at_ground, turn_of, line_from, line_turn, fits, kept, IsEnding}
use Rattle.starlark_lexer.specs.Scan as scans
use Rattle.starlark_lexer.specs.Turns.{IsWithin, Cuts, Keeps, IsLexical}
use Rattle.starlark_lexer.proofs.Runs.{run_nonempty}
use Rattle.starlark_lexer.proofs.Gaps.{line_end_within, line_len_within}
use Rattle.starlark_lexer.proofs.Longest.{begins_goes, number_scanned, pointed_by}
use Rattle.starlark_lexer.proofs.Tables.{Right, operators_right}
use Rattle.starlark_lexer.proofs.Openings.{quotes_some, opening_some}
use Rattle.starlark_lexer.proofs.Bodies.{IsInside, body_within}

abbrev pub IsFront : List ℕ → ℕ → Type 0
IsFront xs n = (0 < n) × (n ≤ length xs)

run_front : (p : ℕ → Bool) (b : ℕ) (bs : List ℕ) → p b ≡ true → IsFront (b ∷ bs) (prefix_len p (b ∷ bs))
run_front p b bs h = (run_nonempty p (b ∷ bs) (omega arith) h, prefix_len-le-length p (b ∷ bs))

operator_front : (xs : List ℕ) (x : Option (Operator × ℕ)) → 0 < length xs → Right operators xs x → IsFront xs (scans.operator x).1
operator_front xs None some h = (omega arith, omega arith)
operator_front xs (Some x) some h = (h.nonempty, h.within)

more_front : (b : ℕ) (bs : List ℕ) → IsFront (b ∷ bs) (scan_more (b ∷ bs)).1
unfolding scan_more
more_front b bs =
    elim (cases_Bool (begins_word b)) [
      | inl w ↦ rw w (run_front is_word_byte b bs (begins_goes b w))
      | inr w ↦ rw w (
          elim (cases_Bool (is_ascii_digit b)) [
            | inl d ↦ rw d (let h = number_scanned b bs d in (h.nonempty, h.within))
            | inr d ↦ rw d (
                elim (cases_Bool (eqb b 46 && begins_digit bs)) [
                  | inl p ↦ rw p (let h = pointed_by b bs p in (h.nonempty, h.within))
                  | inr p ↦ rw p (
                      elim (cases_Bool (ltb b 128)) [
                        | inl a ↦ rw a (operator_front (b ∷ bs) (first_row operators (b ∷ bs)) (omega arith) (operators_right (b ∷ bs)))
                        | inr a ↦ rw a (omega arith, omega (arith, prefix_len-le-length (is_in class.Continuation) bs))
                      ])
                ])
          ])
    ]

by_front_front : (b : ℕ) (bs : List ℕ) (x : Option (Form × ℕ)) → opening_front (b ∷ bs) ≡ x → IsFront (b ∷ bs) (by_front x (b ∷ bs)).1
by_front_front b bs None e = more_front b bs
by_front_front b bs (Some x) e = let h = opening_some (b ∷ bs) x.0 x.1 e in (h.nonempty, h.within)

pub scan_front : (b : ℕ) (bs : List ℕ) → IsFront (b ∷ bs) (scan (b ∷ bs)).1
scan_front b bs = by_front_front b bs (opening_front (b ∷ bs)) refl

-- ---- literals

within_whole : (rest : List ℕ) (n : ℕ) → 0 < n → n ≤ length rest → IsWithin rest 0 n n
within_whole rest n pos le = record { some = pos; fits = omega arith; within = le }

literal_cuts : (rest : List ℕ) (f : Form) (n : ℕ) (x : Ending) → 0 < n → n ≤ length rest → IsInside f (drop n rest) x → Cuts rest (literal_turn f n x)
literal_cuts rest f n (ending.Closed k) pos le h = within_whole rest (n + k + quotes f.quote) (omega (arith, pos)) (omega (arith, h, length-drop n rest, le))
literal_cuts rest f n (ending.Field k) pos le h = omega (arith, h, length-drop n rest, le)
literal_cuts rest f n (ending.Unfinished k) pos le h = omega (arith, h, length-drop n rest, le)
literal_cuts rest f n (ending.Escape k m) pos le h = omega (arith, h, length-drop n rest, le)

opens_cuts : (rest : List ℕ) (f : Form) (n : ℕ) → 0 < n → n ≤ length rest → Cuts rest (opens_turn f n rest)
opens_cuts rest f n pos le =
    elim (cases_Bool (is_format f.sort)) [
      | inl e ↦ rw e (pos, le)
      | inr e ↦ rw e (literal_cuts rest f n (body f 0 (drop n rest)) pos le (body_within f (drop n rest)))
    ]

found_cuts : (rest : List ℕ) (x : Found × ℕ) → IsFront rest x.1 → Cuts rest (turn_of rest x)
found_cuts rest (found.Kind k, n) h = within_whole rest n h.0 h.1
found_cuts rest (found.Fault e, n) h = omega (arith, h.1)
found_cuts rest (found.Opens f, n) h = opens_cuts rest f n h.0 h.1

pub text_cuts : (rest : List ℕ) (f : Form) → Cuts rest (text_turn f (body f 0 rest))
text_cuts rest f = by_ending (body f 0 rest) (body_within f rest)
  where
    by_ending : (x : Ending) → IsInside f rest x → Cuts rest (text_turn f x)
    by_ending (ending.Closed zero) h = (quotes_some f.quote, omega (arith, h))
    by_ending (ending.Closed (suc k)) h = within_whole rest (suc k) (omega arith) (omega (arith, h))
    by_ending (ending.Field zero) h = omega (arith, h)
    by_ending (ending.Field (suc k)) h = within_whole rest (suc k) (omega arith) (omega (arith, h))
    by_ending (ending.Unfinished k) h = h
    by_ending (ending.Escape k m) h = h

-- ---- among lexemes

pub here_cuts : (m : Mode) (rest : List ℕ) → Cuts rest (here m rest)
unfolding here
here_cuts m [] = refl
here_cuts m (b ∷ bs) =
    elim (cases_Bool (eqb b 10)) [
      | inl e ↦ rw e (within_whole (b ∷ bs) 1 (omega arith) (omega arith))
      | inr e ↦ rw e (
          elim (cases_Bool (eqb b 35)) [
            | inl f ↦ rw f (within_whole (b ∷ bs) (1 + line_len bs) (omega arith) (omega (arith, line_len_within bs)))
            | inr f ↦ rw f (
                elim (cases_Bool (at_ground m && closes_field (b ∷ bs))) [
                  | inl z ↦ rw z (elim (cases_Bool (eqb b 125)) [ inl y ↦ rw y (omega arith) | inr y ↦ rw y (within_whole (b ∷ bs) 1 (omega arith) (omega arith)) ])
                  | inr z ↦ rw z (found_cuts (b ∷ bs) (scan (b ∷ bs)) (scan_front b bs))
                ])
          ])
    ]

-- ---- where a line begins

fits_cuts : (rest ws : List ℕ) (w g : ℕ) → g ≤ length rest → Cuts rest (fits ws w g)
unfolding fits
fits_cuts rest ws w g le =
    elim (cases_Bool (is_open ws w)) [
      | inl e ↦ rw e le
      | inr e ↦ rw e (
          elim (cases_Bool (eqb (kept ws w) (length ws))) [ inl f ↦ rw f le | inr f ↦ rw f (omega arith) ])
    ]

line_from_cuts : (ws rest xs : List ℕ) → drop (leading rest) rest ≡ xs → Cuts rest (line_from ws (blanks rest) (leading rest) xs)
unfolding line_from
line_from_cuts ws rest [] e =
    let le : leading rest ≤ length rest = prefix_len-le-length _ rest in
    omega (arith, ap length e, length-drop (leading rest) rest)
line_from_cuts ws rest (b ∷ bs) e =
    let g = leading rest in
    let le : g ≤ length rest = prefix_len-le-length _ rest in
    let n = line_len bs in
    let len : length rest ≡ g + (1 + length bs) = omega (arith, ap length e, length-drop g rest) in
    elim (cases_Bool (eqb b 10)) [
      | inl h ↦ rw h (record { some = omega arith; fits = omega arith; within = omega (arith, len) })
      | inr h ↦ rw h (
          elim (cases_Bool (eqb b 35)) [
            | inl f ↦ rw f (record { some = omega arith; fits = omega arith; within = omega (arith, len, line_end_within (drop n bs), length-drop n bs, line_len_within bs) })
            | inr f ↦ rw f (elim (cases_Bool (has_tab (blanks rest))) [ inl t ↦ rw t le | inr t ↦ rw t (fits_cuts rest ws (spaces (blanks rest)) g le) ])
          ])
    ]

pub line_cuts : (ws rest : List ℕ) → Cuts rest (line_turn ws rest)
line_cuts ws rest = line_from_cuts ws rest (drop (leading rest) rest) refl

fits_keeps : (ws : List ℕ) (w g : ℕ) → Keeps ws (fits ws w g)
unfolding fits
fits_keeps ws w g =
    elim (cases_Bool (is_open ws w)) [
      | inl e ↦ rw e (prefix_len-le-length _ ws)
      | inr e ↦ rw e (
          elim (cases_Bool (eqb (kept ws w) (length ws))) [ inl f ↦ rw f tt | inr f ↦ rw f tt ])
    ]

line_from_keeps : (ws bl xs : List ℕ) (g : ℕ) → Keeps ws (line_from ws bl g xs)
unfolding line_from
line_from_keeps ws bl [] g = tt
line_from_keeps ws bl (b ∷ bs) g =
    elim (cases_Bool (eqb b 10)) [
      | inl h ↦ rw h tt
      | inr h ↦ rw h (
          elim (cases_Bool (eqb b 35)) [ inl f ↦ rw f tt | inr f ↦ rw f (elim (cases_Bool (has_tab bl)) [ inl t ↦ rw t tt | inr t ↦ rw t (fits_keeps ws (spaces bl) g) ]) ])
    ]

pub line_keeps : (ws rest : List ℕ) → Keeps ws (line_turn ws rest)
line_keeps ws rest = line_from_keeps ws (blanks rest) (drop (leading rest) rest) (leading rest)

pub lexical_keeps : (ws : List ℕ) (t : Turn) → IsLexical t → Keeps ws t
lexical_keeps ws (turns.End i) h = tt
lexical_keeps ws (turns.Tab i) h = tt
lexical_keeps ws (turns.Fault i e n) h = tt
lexical_keeps ws (turns.Gives i k n next f) h = tt
lexical_keeps ws (turns.Enter f n) h = tt
lexical_keeps ws (turns.Leave n) h = tt
lexical_keeps ws turns.Open h = tt
lexical_keeps ws turns.Shut h = tt
lexical_keeps ws (turns.Unfinished n) h = tt
lexical_keeps ws (turns.Deeper w g) h = tt
lexical_keeps ws (turns.Fits n g) h = absurd h

-- ---- for the code

pub scan_most : (xs : List ℕ) → 0 < length xs → (scan xs).1 ≤ length xs
scan_most [] h = absurd (omega arith)
scan_most (b ∷ bs) h = (scan_front b bs).1

small_by : (f : Form) (n m : ℕ) (rest : List ℕ) (x : Ending) → n + length rest ≤ m → m < 2 ^ 63 → IsInside f rest x → IsEnding n x
small_by f n m rest (ending.Closed k) le lt h = omega (arith, h, le, lt)
small_by f n m rest (ending.Field k) le lt h = omega (arith, h, le, lt)
small_by f n m rest (ending.Unfinished k) le lt h = omega (arith, h, le, lt)
small_by f n m rest (ending.Escape k j) le lt h = omega (arith, h, le, lt)

pub ending_small : (f : Form) (xs ys : List ℕ) (n : ℕ) → n ≤ length xs → length xs < 2 ^ 63 → ys ≡ drop n xs → IsEnding n (body f 0 ys)
ending_small f xs ys n le lt e = small_by f n (length xs) ys (body f 0 ys) (omega (arith, ap length e, length-drop n xs, le)) lt (body_within f ys)
