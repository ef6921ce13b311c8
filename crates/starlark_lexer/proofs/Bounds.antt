-- A turn cuts the text between characters.
use Rattle.std.proofs.Common.{◌≡◌, ◌<◌, ◌≤◌, ℕ, ◌+◌, ◌-◌, Bool, true, false, cond, ◌&&◌, ◌||◌, List, [], ◌∷◌, length, take, drop, get_or, refl, ap, sym, ◌∙◌, arith, zero, suc, inl, inr, eqb, ltb, subst, length-drop, get_or-drop, one-add, IsUtf8}
use Rattle.std.specs.Prelude.{Option, Some, None}
use Rattle.std.specs.Str.{IsCharBoundary, bytes_eq}
use Rattle.std.proofs.lemmas.Bool.{cases_Bool, false≢true, and_parts, eqb-true}
use Rattle.std.proofs.lemmas.Bool.Decides.{nat_tests}
use Rattle.std.proofs.lemmas.Slice.Eq.{bytes_eq-Decides}
use Rattle.std.proofs.lemmas.List.{length-take-le, get_or-take, drop-drop}
use Rattle.std.proofs.lemmas.Str.{IsUtf8-drop, IsCharBoundary-from_rest, IsCharBoundary-start, IsCharBoundary-after_ascii, IsCharBoundary-before_ascii, IsCharBoundary-end}
use Rattle.std.proofs.lemmas.List.Sums.{prefix_len_stops, prefix_len-le-length}
use Rattle.std.specs.List.{prefix_len}
use Rattle.std.specs.Char.{is_digit, is_ascii_digit}
use Rattle.starlark_lexer.specs.declared.literal.Form.{Form}
use Rattle.starlark_lexer.specs.declared.literal.Ending.{Ending}
use Rattle.starlark_lexer.specs.declared.literal.Ending.TheVariants as ending
use Rattle.starlark_lexer.specs.declared.words.Operator.{Operator}
use Rattle.starlark_lexer.specs.declared.words.Keyword.{Keyword}
use Rattle.starlark_lexer.specs.declared.scan.Kind.{Kind}
use Rattle.starlark_lexer.specs.declared.scan.Kind.TheVariants as kind
use Rattle.starlark_lexer.specs.declared.scan.Found.{Found}
use Rattle.starlark_lexer.specs.declared.scan.Found.TheVariants as found
use Rattle.starlark_lexer.specs.declared.scan.Mode.{Mode}
use Rattle.starlark_lexer.specs.declared.scan.Turn.TheVariants as turns
use Rattle.starlark_lexer.specs.Literals.{body, quotes, is_format, is_mark}
use Rattle.starlark_lexer.specs.Fronts.{opening_front}
use Rattle.starlark_lexer.specs.Classes.{is_blank, is_word_byte, begins_word, begins_digit, is_continuation, operators, lookup, digits_len, behind_digits, radix_of, base_of, line_end, line_len, begins_line, leading, blanks, has_tab, spaces, is_open, closes_field, is_zeros, is_reserved, keyword_of}
use Rattle.starlark_lexer.specs.Scan.{scan, scan_more, by_front, first_row, here, text_turn, literal_turn, opens_turn, at_ground, turn_of, line_from, line_turn, fits, kept, pass, gap, more_than, signed_len, exponent_len, fraction_len, tail_len, based_len, decimal, decimal_scan, number_scan}
use Rattle.starlark_lexer.specs.Scan as scans
use Rattle.starlark_lexer.specs.Turns.{Bounds, Slices}
use Rattle.starlark_lexer.proofs.Gaps.{pass_within, gap_step, gap_stop}
use Rattle.starlark_lexer.proofs.Tables.{Row, Right, operators_right}
use Rattle.starlark_lexer.proofs.Openings.{opening_some, opening_last}
use Rattle.starlark_lexer.proofs.Bodies.{IsBounded, body_bounds}
use Rattle.starlark_lexer.proofs.Ascii.{word_low, blank_low, boundary_after, run_boundary}
use Rattle.starlark_lexer.proofs.Pieces.{format_no_bytes}

-- ---- between characters

digit_ascii : (b : ℕ) → is_ascii_digit b ≡ true → b < 128
digit_ascii b h = grind (arith, nat_tests)

mark_ascii : (b : ℕ) → is_mark b ≡ true → b < 128
mark_ascii b h = grind (arith, nat_tests)

-- behind one ASCII byte
pub one_boundary : (b : ℕ) (bs : List ℕ) → IsUtf8 (b ∷ bs) → b < 128 → IsCharBoundary (b ∷ bs) 1
one_boundary b bs utf8 ascii = boundary_after (b ∷ bs) 1 utf8 (omega arith) (omega arith) ascii

rest_utf8 : (b : ℕ) (bs : List ℕ) → IsUtf8 (b ∷ bs) → b < 128 → IsUtf8 bs
rest_utf8 b bs utf8 ascii = IsUtf8-drop (b ∷ bs) 1 utf8 (one_boundary b bs utf8 ascii)

-- one ASCII byte, and n bytes more
pub past : (b : ℕ) (bs : List ℕ) (n : ℕ) → IsUtf8 (b ∷ bs) → b < 128 → (IsUtf8 bs → IsCharBoundary bs n) → IsCharBoundary (b ∷ bs) (1 + n)
past b bs n utf8 ascii more = IsCharBoundary-from_rest (b ∷ bs) 1 n (omega arith) (more (rest_utf8 b bs utf8 ascii))

-- behind a character that is no ASCII
not_continuation : (b : ℕ) → is_continuation b ≡ false → 128 ≤ b → 192 ≤ b
not_continuation b h le = grind (arith, nat_tests)

other_boundary : (b : ℕ) (bs : List ℕ) → IsCharBoundary (b ∷ bs) (1 + prefix_len is_continuation bs)
other_boundary b bs =
    let here : IsCharBoundary (b ∷ bs) (suc (prefix_len is_continuation bs)) = (omega (arith, prefix_len-le-length is_continuation bs), λ lt le. not_continuation (get_or bs (prefix_len is_continuation bs) 0) (prefix_len_stops is_continuation bs 0 (omega arith)) le) in
    subst (IsCharBoundary (b ∷ bs)) (sym (one-add _)) here

-- ---- numbers

digits_boundary : (xs : List ℕ) → IsUtf8 xs → IsCharBoundary xs (digits_len xs)
digits_boundary xs utf8 = run_boundary is_ascii_digit xs digit_ascii utf8

more_boundary : (b : ℕ) (bs : List ℕ) (n : ℕ) → IsUtf8 (b ∷ bs) → b < 128 → (IsUtf8 bs → IsCharBoundary bs n) → IsCharBoundary (b ∷ bs) (more_than 1 n)
more_boundary b bs zero utf8 ascii more = IsCharBoundary-start (b ∷ bs) utf8
more_boundary b bs (suc n) utf8 ascii more =
    let z : eqb (suc n) 0 ≡ false = grind (arith, nat_tests) in
    let e : 1 + suc n ≡ suc n + 1 = omega arith in
    rw (z, sym e) (past b bs (suc n) utf8 ascii more)

signed_boundary : (xs : List ℕ) → IsUtf8 xs → IsCharBoundary xs (signed_len xs)
unfolding signed_len
signed_boundary [] utf8 = IsCharBoundary-start [] utf8
signed_boundary (b ∷ bs) utf8 =
    elim (cases_Bool (eqb b 43 || eqb b 45)) [
      | inl e ↦ let a : b < 128 = grind (arith, nat_tests) in rw e (more_boundary b bs (digits_len bs) utf8 a (digits_boundary bs))
      | inr e ↦ rw e (IsCharBoundary-start (b ∷ bs) utf8)
    ]

exponent_boundary : (xs : List ℕ) → IsUtf8 xs → IsCharBoundary xs (exponent_len xs)
unfolding exponent_len
exponent_boundary [] utf8 = IsCharBoundary-start [] utf8
exponent_boundary (b ∷ bs) utf8 =
    elim (cases_Bool (eqb b 101 || eqb b 69)) [
      | inr e ↦ rw e (IsCharBoundary-start (b ∷ bs) utf8)
      | inl e ↦
          let a : b < 128 = grind (arith, nat_tests) in
          rw e (elim (cases_Bool (eqb (digits_len bs) 0)) [
            | inl z ↦ rw z (more_boundary b bs (signed_len bs) utf8 a (signed_boundary bs))
            | inr z ↦ let s : 1 + digits_len bs ≡ digits_len bs + 1 = omega arith in rw (z, sym s) (past b bs (digits_len bs) utf8 a (digits_boundary bs))
          ])
    ]

run_more : (xs : List ℕ) (n : ℕ) → IsUtf8 xs → (IsUtf8 (behind_digits xs) → IsCharBoundary (behind_digits xs) n) → IsCharBoundary xs (digits_len xs + n)
run_more xs n utf8 more = IsCharBoundary-from_rest xs (digits_len xs) n (prefix_len-le-length is_ascii_digit xs) (more (IsUtf8-drop xs (digits_len xs) utf8 (digits_boundary xs utf8)))

fraction_boundary : (xs : List ℕ) → IsUtf8 xs → IsCharBoundary xs (fraction_len xs)
unfolding fraction_len
fraction_boundary [] utf8 = IsCharBoundary-start [] utf8
fraction_boundary (b ∷ bs) utf8 =
    elim (cases_Bool (eqb b 46)) [
      | inr e ↦ rw e (IsCharBoundary-start (b ∷ bs) utf8)
      | inl e ↦
          let a : b < 128 = omega (arith, eqb-true b 46 e) in
          rw e (past b bs (digits_len bs + exponent_len (behind_digits bs)) utf8 a (λ u. run_more bs (exponent_len (behind_digits bs)) u (exponent_boundary (behind_digits bs))))
    ]

tail_boundary : (xs : List ℕ) → IsUtf8 xs → IsCharBoundary xs (tail_len xs)
tail_boundary xs utf8 = elim (cases_Bool (eqb (fraction_len xs) 0)) [ inl e ↦ rw e (exponent_boundary xs utf8) | inr e ↦ rw e (fraction_boundary xs utf8) ]

radix_ascii : (radix d : ℕ) → is_digit d radix ≡ true → radix ≤ 36 → d < 128
radix_ascii radix d h le =
    elim (cases_Bool (ltb d 123)) [
      | inl e ↦ grind (arith, nat_tests)
      | inr e ↦
          let e1 : ltb d 48 ≡ false = grind (arith, nat_tests) in
          let e2 : ltb d 58 ≡ false = grind (arith, nat_tests) in
          let e3 : ltb d 65 ≡ false = grind (arith, nat_tests) in
          let e4 : ltb d 91 ≡ false = grind (arith, nat_tests) in
          let e5 : ltb d 97 ≡ false = grind (arith, nat_tests) in
          let no : is_digit d radix ≡ ltb 36 radix = rw (e1, e2, e3, e4, e5, e) refl in
          let small : ltb 36 radix ≡ false = grind (arith, nat_tests) in
          absurd (false≢true (sym small ∙ sym no ∙ h))
    ]

letter_ascii : (c : ℕ) → ltb 0 (radix_of c) ≡ true → (c < 128) × ((2 ≤ radix_of c) × (radix_of c ≤ 36))
letter_ascii c =
    elim (cases_Bool (eqb c 120 || eqb c 88)) [
      | inl e ↦ rw e (λ h. (grind (arith, nat_tests), (omega arith, omega arith)))
      | inr e ↦ rw e (
          elim (cases_Bool (eqb c 111 || eqb c 79)) [
            | inl f ↦ rw f (λ h. (grind (arith, nat_tests), (omega arith, omega arith)))
            | inr f ↦ rw f (
                elim (cases_Bool (eqb c 98 || eqb c 66)) [ inl g ↦ rw g (λ h. (grind (arith, nat_tests), (omega arith, omega arith))) | inr g ↦ rw g (λ h. absurd (false≢true h)) ])
          ])
    ]

based_boundary : (b : ℕ) (bs : List ℕ) → IsUtf8 (b ∷ bs) → 0 < based_len (b ∷ bs)
    → IsCharBoundary (b ∷ bs) (based_len (b ∷ bs) + 2) × (IsCharBoundary (b ∷ bs) 2 × ((2 ≤ base_of (b ∷ bs)) × (base_of (b ∷ bs) ≤ 36)))
unfolding based_len
based_boundary b [] utf8 = λ h. absurd (omega (arith, h))
based_boundary b (c ∷ bs) utf8 =
    elim (cases_Bool (eqb b 48)) [
      | inr e ↦ rw e (λ h. absurd (omega (arith, h)))
      | inl e ↦ elim (cases_Bool (ltb 0 (radix_of c))) [
        | inr f ↦ rw (e, f) (λ h. absurd (omega (arith, h)))
        | inl f ↦ rw (e, f) (λ h.
            let l = letter_ascii c f in
            let a : b < 128 = omega (arith, eqb-true b 48 e) in
            let n = prefix_len (λ d. is_digit d (radix_of c)) bs in
            let run : IsUtf8 bs → IsCharBoundary bs n = λ u. run_boundary (λ d. is_digit d (radix_of c)) bs (λ d h. radix_ascii (radix_of c) d h l.1.1) u in
            let two : 1 + (1 + n) ≡ n + 2 = omega arith in
            (subst (IsCharBoundary (b ∷ c ∷ bs)) two (past b (c ∷ bs) (1 + n) utf8 a (λ u. past c bs n u l.0 run)), (past b (c ∷ bs) 1 utf8 a (λ u. one_boundary c bs u l.0), l.1)))
      ]
    ]

-- ---- a lexeme

-- a lexeme of so many bytes ends between characters, and its text can be cut
abbrev pub Ends : List ℕ → Found × ℕ → Type 0
Ends xs (found.Kind k, n) = IsCharBoundary xs n × Slices k (take n xs)
Ends xs (found.Fault e, n) = IsCharBoundary xs n
Ends xs (found.Opens f, n) = IsCharBoundary xs n

-- a place within a front
front_boundary : (xs : List ℕ) (n i : ℕ) → i ≤ n → n ≤ length xs → IsCharBoundary xs i → IsCharBoundary (take n xs) i
front_boundary xs n i le within h =
    (omega (arith, le, length-take-le n xs within), λ lt high. subst (λ b. 192 ≤ b) (sym (get_or-take n xs i 0 (omega (arith, lt, length-take-le n xs within)))) (h.1 (omega (arith, lt, length-take-le n xs within, within)) (subst (λ b. 128 ≤ b) (get_or-take n xs i 0 (omega (arith, lt, length-take-le n xs within))) high)))

decimal_ends : (xs : List ℕ) (n : ℕ) → IsCharBoundary xs n → IsUtf8 xs → Ends xs (decimal (take n xs), n)
decimal_ends xs n h u =
    elim (cases_Bool (is_zeros (take n xs))) [
      | inl e ↦ rw e h
      | inr e ↦ rw e (h, (front_boundary xs n 0 (omega arith) h.0 (IsCharBoundary-start xs u), (omega arith, omega arith)))
    ]

decimal_scan_ends : (xs : List ℕ) → IsUtf8 xs → Ends xs (decimal_scan xs)
decimal_scan_ends xs u =
    elim (cases_Bool (eqb (tail_len (behind_digits xs)) 0)) [
      | inl e ↦ rw e (decimal_ends xs (digits_len xs) (digits_boundary xs u) u)
      | inr e ↦ rw e (run_more xs (tail_len (behind_digits xs)) u (tail_boundary (behind_digits xs)), tt)
    ]

number_ends : (b : ℕ) (bs : List ℕ) → IsUtf8 (b ∷ bs) → Ends (b ∷ bs) (number_scan (b ∷ bs))
unfolding number_scan
number_ends b bs u =
    elim (cases_Bool (eqb (based_len (b ∷ bs)) 0)) [
      | inl e ↦ rw e (decimal_scan_ends (b ∷ bs) u)
      | inr e ↦
          let pos : 0 < based_len (b ∷ bs) = grind (arith, nat_tests) in
          let h = based_boundary b bs u pos in
          rw e (h.0, (front_boundary (b ∷ bs) (based_len (b ∷ bs) + 2) 2 (omega arith) h.0.0 h.1.0, h.1.1))
    ]

-- each operator ends in ASCII
abbrev last_ascii : List ℕ → Bool
last_ascii w = ltb (get_or w (length w - 1) 0) 128

abbrev all_last : List Row → Bool
all_last [] = true
all_last (r ∷ rs) = last_ascii r.0 && all_last rs

lookup_last : (rs : List Row) (w : List ℕ) (o : Operator) → all_last rs ≡ true → lookup rs w ≡ Some o → last_ascii w ≡ true
lookup_last [] w o h = λ e. cc
lookup_last (r ∷ rs) w o h =
    let x = and_parts (last_ascii r.0) (all_last rs) h in
    elim (cases_Bool (bytes_eq r.0 w)) [
      | inl t ↦ λ e. ap last_ascii (sym ((bytes_eq-Decides r.0 w).0 t)) ∙ x.0
      | inr t ↦ rw t (lookup_last rs w o x.1)
    ]

operator_ends : (b : ℕ) (bs : List ℕ) (x : Option (Operator × ℕ)) → IsUtf8 (b ∷ bs) → b < 128 → Right operators (b ∷ bs) x → Ends (b ∷ bs) (scans.operator x)
operator_ends b bs None u a h = one_boundary b bs u a
operator_ends b bs (Some x) u a h =
    let n = x.1 in
    let last = lookup_last operators (take n (b ∷ bs)) x.0 refl h.means in
    let len = length-take-le n (b ∷ bs) h.within in
    let low : get_or (take n (b ∷ bs)) (length (take n (b ∷ bs)) - 1) 0 < 128 = grind (arith, nat_tests) in
    let at : get_or (take n (b ∷ bs)) (length (take n (b ∷ bs)) - 1) 0 ≡ get_or (b ∷ bs) (n - 1) 0 = ap (λ k. get_or (take n (b ∷ bs)) (k - 1) 0) len ∙ get_or-take n (b ∷ bs) (n - 1) 0 (omega (arith, h.nonempty)) in
    (boundary_after (b ∷ bs) n u h.nonempty h.within (subst (λ v. v < 128) at low), tt)

word_ends : (xs w : List ℕ) (n : ℕ) → IsCharBoundary xs n → Ends xs (scans.word w, n)
word_ends xs w n h = by_keyword_ends (keyword_of w)
  where
    by_reserved_ends : Ends xs (scans.plain_word w, n)
    by_reserved_ends = elim (cases_Bool (is_reserved w)) [ inl e ↦ rw e h | inr e ↦ rw e (h, tt) ]

    by_keyword_ends : (o : Option Keyword) → Ends xs (scans.by_keyword o w, n)
    by_keyword_ends None = by_reserved_ends
    by_keyword_ends (Some k) = (h, tt)

more_ends : (b : ℕ) (bs : List ℕ) → IsUtf8 (b ∷ bs) → Ends (b ∷ bs) (scan_more (b ∷ bs))
unfolding scan_more
more_ends b bs u =
    elim (cases_Bool (begins_word b)) [
      | inl w ↦ rw w (word_ends (b ∷ bs) (take (prefix_len is_word_byte (b ∷ bs)) (b ∷ bs)) (prefix_len is_word_byte (b ∷ bs)) (run_boundary is_word_byte (b ∷ bs) word_low u))
      | inr w ↦ rw w (
          elim (cases_Bool (is_ascii_digit b)) [
            | inl d ↦ rw d (number_ends b bs u)
            | inr d ↦ rw d (
                elim (cases_Bool (eqb b 46 && begins_digit bs)) [
                  | inl p ↦ rw p (tail_boundary (b ∷ bs) u, tt)
                  | inr p ↦ rw p (
                      elim (cases_Bool (ltb b 128)) [
                        | inl a ↦ let m : b < 128 = grind (arith, nat_tests) in rw a (operator_ends b bs (first_row operators (b ∷ bs)) u m (operators_right (b ∷ bs)))
                        | inr a ↦ rw a (other_boundary b bs)
                      ])
                ])
          ])
    ]

by_front_ends : (b : ℕ) (bs : List ℕ) (x : Option (Form × ℕ)) → opening_front (b ∷ bs) ≡ x → IsUtf8 (b ∷ bs) → Ends (b ∷ bs) (by_front x (b ∷ bs))
by_front_ends b bs None e u = more_ends b bs u
by_front_ends b bs (Some x) e u =
    let h = opening_some (b ∷ bs) x.0 x.1 e in
    let n = x.1 in
    let len = length-take-le n (b ∷ bs) h.within in
    let low = mark_ascii (get_or (take n (b ∷ bs)) (length (take n (b ∷ bs)) - 1) 0) (opening_last (take n (b ∷ bs)) x.0 h.means) in
    let at : get_or (take n (b ∷ bs)) (length (take n (b ∷ bs)) - 1) 0 ≡ get_or (b ∷ bs) (n - 1) 0 = ap (λ k. get_or (take n (b ∷ bs)) (k - 1) 0) len ∙ get_or-take n (b ∷ bs) (n - 1) 0 (omega (arith, h.nonempty)) in
    boundary_after (b ∷ bs) n u h.nonempty h.within (subst (λ v. v < 128) at low)

pub scan_ends : (b : ℕ) (bs : List ℕ) → IsUtf8 (b ∷ bs) → Ends (b ∷ bs) (scan (b ∷ bs))
scan_ends b bs u = by_front_ends b bs (opening_front (b ∷ bs)) refl u

-- ---- turns

whole_bounds : (xs : List ℕ) (k : Kind) (n : ℕ) (f : Bool) → IsUtf8 xs → IsCharBoundary xs n → Slices k (take n xs) → Bounds xs (turns.Gives 0 k n n f)
whole_bounds xs k n f u h s = let e : n ≡ 0 + n = omega arith in (IsCharBoundary-start xs u, subst (IsCharBoundary xs) e h, h, s)

fault_bounds : (xs : List ℕ) (n : ℕ) → IsUtf8 xs → IsCharBoundary xs n → IsCharBoundary xs 0 × IsCharBoundary xs (0 + n)
fault_bounds xs n u h = let e : n ≡ 0 + n = omega arith in (IsCharBoundary-start xs u, subst (IsCharBoundary xs) e h)

literal_bounds : (xs : List ℕ) (f : Form) (n : ℕ) (x : Ending) → IsUtf8 xs → IsCharBoundary xs n → IsBounded f (drop n xs) x → Bounds xs (literal_turn f n x)
literal_bounds xs f n (ending.Closed k) u h b =
    let body_end = IsCharBoundary-from_rest xs n k h.0 b.0 in
    let q = quotes f.quote in
    let same : n + (k + q) ≡ n + k + q = omega arith in
    let all = subst (IsCharBoundary xs) same (IsCharBoundary-from_rest xs n (k + q) h.0 b.1) in
    whole_bounds xs (kind.Literal f n k) (n + k + q) false u all
    (front_boundary xs (n + k + q) n (omega arith) all.0 h, front_boundary xs (n + k + q) (n + k) (omega arith) all.0 body_end)
literal_bounds xs f n (ending.Field k) u h b = IsCharBoundary-from_rest xs n k h.0 b.0
literal_bounds xs f n (ending.Unfinished k) u h b = fault_bounds xs (n + k) u (IsCharBoundary-from_rest xs n k h.0 b)
literal_bounds xs f n (ending.Escape k m) u h b =
    let same : n + (k + m) ≡ n + k + m = omega arith in
    (IsCharBoundary-from_rest xs n k h.0 b.0, subst (IsCharBoundary xs) same (IsCharBoundary-from_rest xs n (k + m) h.0 b.1))

opens_bounds : (xs : List ℕ) (f : Form) (n : ℕ) → IsUtf8 xs → IsCharBoundary xs n → Bounds xs (opens_turn f n xs)
opens_bounds xs f n u h =
    elim (cases_Bool (is_format f.sort)) [
      | inl e ↦ rw e (h, e)
      | inr e ↦ rw e (literal_bounds xs f n (body f 0 (drop n xs)) u h (body_bounds f (drop n xs) (IsUtf8-drop xs n u h)))
    ]

found_bounds : (xs : List ℕ) (x : Found × ℕ) → IsUtf8 xs → Ends xs x → Bounds xs (turn_of xs x)
found_bounds xs (found.Kind k, n) u h = whole_bounds xs k n false u h.0 h.1
found_bounds xs (found.Fault e, n) u h = fault_bounds xs n u h
found_bounds xs (found.Opens f, n) u h = opens_bounds xs f n u h

-- an LF, i bytes on
pub newline_bounds : (rest : List ℕ) (i b : ℕ) (bs : List ℕ) (k : Kind) (f : Bool) → IsUtf8 rest → i ≤ length rest → drop i rest ≡ b ∷ bs → b < 128 → Slices k (take 1 (drop i rest)) → Bounds rest (turns.Gives i k 1 (i + 1) f)
newline_bounds rest i b bs k f utf8 le e ascii s =
    let at : get_or rest (i + 0) 0 ≡ b = sym (get_or-drop i rest 0 0) ∙ ap (λ xs. get_or xs 0 0) e in
    let z : i + 0 ≡ i = omega arith in
    let is : get_or rest i 0 ≡ b = ap (λ k. get_or rest k 0) (sym z) ∙ at in
    let lt : i < length rest = omega (arith, ap length e, length-drop i rest) in
    let after : IsCharBoundary rest (i + 1) = IsCharBoundary-after_ascii rest i utf8 lt (omega (arith, is)) in
    (IsCharBoundary-before_ascii rest i lt (omega (arith, is)), after, after, s)

-- what stands behind a line
line_ascii : (b : ℕ) (bs : List ℕ) → eqb (line_end (b ∷ bs)) 0 ≡ false → b < 128
unfolding line_end
line_ascii b bs =
    elim (cases_Bool (eqb b 10)) [
      | inl e ↦ rw e (λ h. grind (arith, nat_tests))
      | inr e ↦ rw e (
          elim (cases_Bool (eqb b 13)) [ inl f ↦ λ h. grind (arith, nat_tests) | inr f ↦ rw f (λ h. absurd (false≢true (sym h))) ])
    ]

pub line_boundary : (xs : List ℕ) → IsCharBoundary xs (line_len xs)
unfolding line_len
line_boundary [] = IsCharBoundary-end []
line_boundary (b ∷ bs) =
    elim (cases_Bool (eqb (line_end (b ∷ bs)) 0)) [
      | inl e ↦ let h = line_boundary bs in rw e (omega (arith, h.0), λ lt high. h.1 (omega (arith, lt)) high)
      | inr e ↦ rw e (omega arith, λ lt high. absurd (omega (arith, line_ascii b bs e, high)))
    ]

pub line_end_boundary : (xs : List ℕ) → IsUtf8 xs → IsCharBoundary xs (line_end xs)
unfolding line_end
line_end_boundary [] u = IsCharBoundary-start [] u
line_end_boundary (b ∷ bs) u =
    elim (cases_Bool (eqb b 10)) [
      | inl e ↦ rw e (let m : b < 128 = omega (arith, eqb-true b 10 e) in one_boundary b bs u m)
      | inr e ↦ rw e (elim (cases_Bool (eqb b 13)) [
        | inr f ↦ rw f (IsCharBoundary-start (b ∷ bs) u)
        | inl f ↦ rw f (let m : b < 128 = omega (arith, eqb-true b 13 f) in by_line b bs u m)
      ])
    ]
  where
    by_line : (b : ℕ) (bs : List ℕ) → IsUtf8 (b ∷ bs) → b < 128 → IsCharBoundary (b ∷ bs) (cond (begins_line bs) 2 0)
    by_line b [] u m = IsCharBoundary-start (b ∷ []) u
    by_line b (c ∷ bs) u m =
        elim (cases_Bool (eqb c 10)) [
          | inl e ↦ rw e (let k : c < 128 = omega (arith, eqb-true c 10 e) in past b (c ∷ bs) 1 u m (λ v. one_boundary c bs v k))
          | inr e ↦ rw e (IsCharBoundary-start (b ∷ c ∷ bs) u)
        ]

-- a remark, i bytes on
pub remark_bounds : (rest : List ℕ) (i b : ℕ) (bs : List ℕ) (e : ℕ) (f : Bool) → IsUtf8 rest → IsCharBoundary rest i → drop i rest ≡ b ∷ bs → b < 128 → IsCharBoundary (drop (line_len bs) bs) e
    → Bounds rest (turns.Gives i kind.Comment (1 + line_len bs) (i + (1 + line_len bs) + e) f)
remark_bounds rest i b bs e f u h is ascii ends =
    let v : IsUtf8 (b ∷ bs) = subst IsUtf8 is (IsUtf8-drop rest i u h) in
    let line : IsCharBoundary (b ∷ bs) (1 + line_len bs) = past b bs (line_len bs) v ascii (λ _. line_boundary bs) in
    let there : IsCharBoundary rest (i + (1 + line_len bs)) = IsCharBoundary-from_rest rest i (1 + line_len bs) h.0 (subst (λ xs. IsCharBoundary xs (1 + line_len bs)) (sym is) line) in
    let more : drop (i + (1 + line_len bs)) rest ≡ drop (line_len bs) bs = sym (drop-drop (1 + line_len bs) i rest) ∙ ap (drop (1 + line_len bs)) is ∙ ap (λ k. drop k (b ∷ bs)) (one-add (line_len bs)) in
    let text : IsCharBoundary (take (1 + line_len bs) (drop i rest)) 1 = subst (λ xs. IsCharBoundary (take (1 + line_len bs) xs) 1) (sym is) (front_boundary (b ∷ bs) (1 + line_len bs) 1 (omega arith) line.0 (one_boundary b bs v ascii)) in
    (h, there, IsCharBoundary-from_rest rest (i + (1 + line_len bs)) e there.0 (subst (λ xs. IsCharBoundary xs e) (sym more) ends), text)

closing_ascii : (b : ℕ) (bs : List ℕ) → closes_field (b ∷ bs) ≡ true → b < 128
closing_ascii b bs =
    elim (cases_Bool (eqb b 125)) [
      | inl e ↦ λ h. grind (arith, nat_tests)
      | inr e ↦
          elim (cases_Bool (eqb b 33)) [ inl f ↦ λ h. grind (arith, nat_tests) | inr f ↦ rw (e, f) (λ h. absurd (false≢true h)) ]
    ]

pub here_bounds : (m : Mode) (rest : List ℕ) → IsUtf8 rest → Bounds rest (here m rest)
unfolding here
here_bounds m [] u = tt
here_bounds m (b ∷ bs) u =
    elim (cases_Bool (eqb b 10)) [
      | inl e ↦ rw e (newline_bounds (b ∷ bs) 0 b bs kind.Newline true u (omega arith) refl (omega (arith, eqb-true b 10 e)) tt)
      | inr e ↦ rw e (
          elim (cases_Bool (eqb b 35)) [
            | inl f ↦ rw f (remark_here b bs u (omega (arith, eqb-true b 35 f)))
            | inr f ↦ rw f (
                elim (cases_Bool (at_ground m && closes_field (b ∷ bs))) [
                  | inl z ↦
                      let a = closing_ascii b bs (and_parts (at_ground m) (closes_field (b ∷ bs)) z).1 in
                      rw z (elim (cases_Bool (eqb b 125)) [ inl y ↦ rw y (one_boundary b bs u a) | inr y ↦ rw y (newline_bounds (b ∷ bs) 0 b bs kind.Bang false u (omega arith) refl a tt) ])
                  | inr z ↦ rw z (found_bounds (b ∷ bs) (scan (b ∷ bs)) u (scan_ends b bs u))
                ])
          ])
    ]
  where
    remark_here : (b : ℕ) (bs : List ℕ) → IsUtf8 (b ∷ bs) → b < 128 → Bounds (b ∷ bs) (turns.Gives 0 kind.Comment (1 + line_len bs) (1 + line_len bs) false)
    remark_here b bs u a =
        whole_bounds (b ∷ bs) kind.Comment (1 + line_len bs) false u (past b bs (line_len bs) u a (λ _. line_boundary bs))
        (front_boundary (b ∷ bs) (1 + line_len bs) 1 (omega arith) (past b bs (line_len bs) u a (λ _. line_boundary bs)).0 (one_boundary b bs u a))

pub text_bounds : (f : Form) (rest : List ℕ) → is_format f.sort ≡ true → IsUtf8 rest → Bounds rest (text_turn f (body f 0 rest))
text_bounds f rest format u = by_ending (body f 0 rest) (body_bounds f rest u)
  where
    by_ending : (x : Ending) → IsBounded f rest x → Bounds rest (text_turn f x)
    by_ending (ending.Closed zero) h = let z : 0 + quotes f.quote ≡ quotes f.quote = omega arith in subst (IsCharBoundary rest) z h.1
    by_ending (ending.Closed (suc k)) h = whole_bounds rest (kind.Text f) (suc k) false u h.0 (format_no_bytes f.sort format)
    by_ending (ending.Field zero) h = let z : 0 + 1 ≡ 1 = omega arith in subst (IsCharBoundary rest) z h.1
    by_ending (ending.Field (suc k)) h = whole_bounds rest (kind.Text f) (suc k) false u h.0 (format_no_bytes f.sort format)
    by_ending (ending.Unfinished k) h = h
    by_ending (ending.Escape k m) h = h

-- ---- a line

pub leading_boundary : (rest : List ℕ) → IsUtf8 rest → IsCharBoundary rest (leading rest)
leading_boundary rest u = run_boundary is_blank rest blank_low u

fits_bounds : (rest ws : List ℕ) (w : ℕ) → IsUtf8 rest → Bounds rest (fits ws w (leading rest))
unfolding fits
fits_bounds rest ws w u =
    elim (cases_Bool (is_open ws w)) [
      | inl e ↦ rw e (leading_boundary rest u)
      | inr e ↦ rw e (
          elim (cases_Bool (eqb (kept ws w) (length ws))) [ inl f ↦ rw f (leading_boundary rest u) | inr f ↦ rw f (fault_bounds rest (leading rest) u (leading_boundary rest u)) ])
    ]

line_from_bounds : (ws rest xs : List ℕ) → IsUtf8 rest → drop (leading rest) rest ≡ xs → Bounds rest (line_from ws (blanks rest) (leading rest) xs)
unfolding line_from
line_from_bounds ws rest [] u e = tt
line_from_bounds ws rest (b ∷ bs) u e =
    let g = leading rest in
    let h = leading_boundary rest u in
    elim (cases_Bool (eqb b 10)) [
      | inl t ↦ rw t (newline_bounds rest g b bs kind.Newline true u h.0 e (omega (arith, eqb-true b 10 t)) tt)
      | inr t ↦ rw t (
          elim (cases_Bool (eqb b 35)) [
            | inl f ↦ rw f (
                let a : b < 128 = omega (arith, eqb-true b 35 f) in
                let v : IsUtf8 bs = rest_utf8 b bs (subst IsUtf8 e (IsUtf8-drop rest g u h)) a in
                remark_bounds rest g b bs (line_end (drop (line_len bs) bs)) true u h e a (line_end_boundary (drop (line_len bs) bs) (IsUtf8-drop bs (line_len bs) v (line_boundary bs))))
            | inr f ↦ rw f (elim (cases_Bool (has_tab (blanks rest))) [ inl t ↦ rw t tt | inr t ↦ rw t (fits_bounds rest ws (spaces (blanks rest)) u) ])
          ])
    ]

pub line_bounds : (ws rest : List ℕ) → IsUtf8 rest → Bounds rest (line_turn ws rest)
line_bounds ws rest u = line_from_bounds ws rest (drop (leading rest) rest) u refl

-- ---- what is passed over

pass_boundary : (j : Bool) (xs : List ℕ) → IsUtf8 xs → IsCharBoundary xs (pass j xs)
unfolding pass
pass_boundary j [] u = IsCharBoundary-start [] u
pass_boundary j (b ∷ bs) u =
    elim (cases_Bool (is_blank b)) [
      | inl e ↦ rw e (one_boundary b bs u (blank_low b e))
      | inr e ↦ rw e (
          elim (cases_Bool (eqb b 10)) [
            | inl f ↦ let m : b < 128 = omega (arith, eqb-true b 10 f) in rw f (elim (cases_Bool j) [ inl k ↦ rw k (one_boundary b bs u m) | inr k ↦ rw k (IsCharBoundary-start (b ∷ bs) u) ])
            | inr f ↦ rw f (elim (cases_Bool (eqb b 92)) [
              | inr g ↦ rw g (IsCharBoundary-start (b ∷ bs) u)
              | inl g ↦
                  let m : b < 128 = omega (arith, eqb-true b 92 g) in
                  rw g (elim (cases_Bool (eqb (line_end bs) 0)) [
                    | inl z ↦ rw z (IsCharBoundary-start (b ∷ bs) u)
                    | inr z ↦ let s : 1 + line_end bs ≡ line_end bs + 1 = omega arith in rw (z, sym s) (past b bs (line_end bs) u m (line_end_boundary bs))
                  ])
            ])
          ])
    ]

gap_by : (j : Bool) (xs : List ℕ) (n : ℕ) → pass j xs ≡ n → IsUtf8 xs → (0 < n → IsCharBoundary (drop n xs) (gap j 0 (drop n xs))) → IsCharBoundary xs (gap j 0 xs)
gap_by j xs zero e utf8 later = subst (IsCharBoundary xs) (sym (gap_stop j xs e)) (IsCharBoundary-start xs utf8)
gap_by j xs (suc n) e utf8 later = subst (IsCharBoundary xs) (sym (gap_step j xs n e)) (IsCharBoundary-from_rest xs (suc n) (gap j 0 (drop (suc n) xs)) (omega (arith, e, pass_within j xs)) (later (omega arith)))

gaps_boundary : (m : ℕ) (j : Bool) (xs : List ℕ) → length xs ≤ m → IsUtf8 xs → IsCharBoundary xs (gap j 0 xs)
gaps_boundary zero j xs le utf8 = gap_by j xs (pass j xs) refl utf8 (λ some. absurd (omega (arith, pass_within j xs)))
gaps_boundary (suc m) j xs le utf8 =
    let n = pass j xs in
    gap_by j xs n refl utf8 (λ some. gaps_boundary m j (drop n xs) (omega (arith, length-drop n xs, pass_within j xs)) (IsUtf8-drop xs n utf8 (pass_boundary j xs utf8)))

pub gap_boundary : (j : Bool) (xs : List ℕ) → IsUtf8 xs → IsCharBoundary xs (gap j 0 xs)
gap_boundary j xs utf8 = gaps_boundary (length xs) j xs (omega arith) utf8
