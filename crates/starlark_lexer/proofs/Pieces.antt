-- The pieces of a body: how many bytes they have, and where a text may be cut behind them.
use Rattle.std.proofs.Common.{◌≡◌, ◌<◌, ◌≤◌, ℕ, ◌+◌, ◌-◌, Bool, true, false, cond, ◌&&◌, ◌||◌, List, [], ◌∷◌, length, take, drop, get_or, refl, arith, suc, inl, inr, eqb, ltb, subst, IsUtf8, Option, Some, None}
use Rattle.std.proofs.lemmas.Bool.{cases_Bool, cases_lt, false≢true, and_parts, eqb-true, ltb-true}
use Rattle.std.proofs.lemmas.Bool.Decides.{nat_tests}
use Rattle.std.proofs.lemmas.List.{get_or-take, length-take}
use Rattle.std.proofs.lemmas.List.Sums.{prefix_len_stops, prefix_len_passes, prefix_len-le-length}
use Rattle.std.specs.Char.{is_digit, digit_value}
use Rattle.std.specs.Str.{IsCharBoundary}
use Rattle.std.specs.List.{prefix_len}
use Rattle.starlark_lexer.specs.declared.literal.Form.{Form}
use Rattle.starlark_lexer.specs.declared.literal.Piece.{Piece}
use Rattle.starlark_lexer.specs.declared.literal.Piece.TheVariants.{Closing, Field, Stop, Wrong, Nothing, Char, Byte, Same}
use Rattle.starlark_lexer.specs.declared.literal.Sort.{Sort}
use Rattle.starlark_lexer.specs.declared.literal.Sort.TheVariants as sorts
use Rattle.starlark_lexer.specs.declared.token.FStringQuote.{FStringQuote}
use Rattle.starlark_lexer.specs.declared.token.FStringQuote.TheVariants.{Single, Double, TripleSingle, TripleDouble}
use Rattle.starlark_lexer.specs.Literals.{quotes, mark, is_triple, is_format, is_bytes, continues, character, is_scalar, no_escape, escaped, simple, hex_digits, digits, digits_of, begins, hex_escape, octal_escape, other_escape, by_simple, escape, raw_escape, goes_on, brace, piece}
use Rattle.starlark_lexer.proofs.Ascii.{is_low, at_next, boundary_after}

-- n bytes, and behind them a text that begins with an ASCII byte may be cut
pub record IsCut (xs : List ℕ) (n : ℕ) : Type 0 where
  pub moves : 0 < n
  pub within : n ≤ length xs
  pub ends : get_or xs 0 0 < 128 → IsUtf8 xs → IsCharBoundary xs n

-- the same of what ends a body, which begins with an ASCII byte
pub record IsEnd (xs : List ℕ) (n : ℕ) : Type 0 where
  pub cut : IsCut xs n
  pub low : get_or xs 0 0 < 128

pub record IsField (f : Form) (xs : List ℕ) : Type 0 where
  pub format : is_format f.sort ≡ true
  pub some : 0 < length xs
  pub brace : get_or xs 0 0 ≡ 123

pub record IsValue (xs : List ℕ) (n : ℕ) (bytes : Bool) (wanted : Bool) : Type 0 where
  pub cut : IsCut xs n
  pub suits : bytes ≡ wanted

abbrev pub Cuts : Form → Piece → List ℕ → Type 0
Cuts f Closing xs = IsEnd xs (quotes f.quote)
Cuts f Field xs = IsField f xs
Cuts f Stop xs = 0 < length xs → get_or xs 0 0 < 128
Cuts f (Wrong n) xs = IsEnd xs n
Cuts f (Nothing n) xs = IsCut xs n
Cuts f (Char c n) xs = IsValue xs n (is_bytes f.sort) false
Cuts f (Byte c n) xs = IsValue xs n (is_bytes f.sort) true
Cuts f (Same n) xs = IsCut xs n

-- ---- where a text may be cut

-- behind an ASCII byte
low_cut : (xs : List ℕ) (n : ℕ) → 0 < n → n ≤ length xs → get_or xs (n - 1) 0 < 128 → IsCut xs n
low_cut xs n some most low = record { moves = some; within = most; ends = λ _ utf8. boundary_after xs n utf8 some most low }

one : (b : ℕ) (bs : List ℕ) → b < 128 → IsCut (b ∷ bs) 1
one b bs h = low_cut (b ∷ bs) 1 (omega arith) (omega arith) h

two : (b c : ℕ) (cs : List ℕ) → c < 128 → IsCut (b ∷ c ∷ cs) 2
two b c cs h = low_cut (b ∷ c ∷ cs) 2 (omega arith) (omega arith) h

three : (b c d : ℕ) (cs : List ℕ) → d < 128 → IsCut (b ∷ c ∷ d ∷ cs) 3
three b c d cs h = low_cut (b ∷ c ∷ d ∷ cs) 3 (omega arith) (omega arith) h

lead_from : (b : ℕ) → continues b ≡ false → 128 ≤ b → 192 ≤ b
lead_from b h low = grind (arith, nat_tests)

-- behind a byte and the character behind it
wide_boundary : (b c : ℕ) (cs : List ℕ) → IsCharBoundary (b ∷ c ∷ cs) (suc (suc (prefix_len continues cs)))
wide_boundary b c cs =
    let most : prefix_len continues cs ≤ length cs = prefix_len-le-length continues cs in
    (omega (arith, most), λ lt high. lead_from (get_or cs (prefix_len continues cs) 0) (prefix_len_stops continues cs 0 (omega (arith, lt))) high)

char_cut : (b c : ℕ) (cs : List ℕ) → IsCut (b ∷ c ∷ cs) (1 + character (c ∷ cs))
char_cut b c cs =
    elim (cases_Bool (ltb c 128)) [
      | inl e ↦ rw e (two b c cs (grind (arith, nat_tests)))
      | inr e ↦
          let k = prefix_len continues cs in
          let most : k ≤ length cs = prefix_len-le-length continues cs in
          let same : suc (suc k) ≡ 1 + (1 + k) = omega arith in
          rw e (record { moves = omega arith; within = omega (arith, most); ends = λ _ _. subst (IsCharBoundary (b ∷ c ∷ cs)) same (wide_boundary b c cs) })
    ]

-- ---- digits are ASCII

digit_high : (c : ℕ) → 123 ≤ c → digit_value c ≡ 36
digit_high c h =
    let e1 : ltb c 48 ≡ false = grind (arith, nat_tests) in
    let e2 : ltb c 58 ≡ false = grind (arith, nat_tests) in
    let e3 : ltb c 65 ≡ false = grind (arith, nat_tests) in
    let e4 : ltb c 91 ≡ false = grind (arith, nat_tests) in
    let e5 : ltb c 97 ≡ false = grind (arith, nat_tests) in
    let e6 : ltb c 123 ≡ false = grind (arith, nat_tests) in
    rw (e1, e2, e3, e4, e5, e6) refl

digit_low : (c base : ℕ) → base ≤ 36 → is_digit c base ≡ true → c < 128
digit_low c base most h =
    elim (cases_lt c 123) [
      | inl l ↦ omega (arith, l)
      | inr m ↦ absurd (omega (arith, most, ltb-true (digit_value c) base h, digit_high c m))
    ]

-- the last of the digits at the front
last_digit : (base most : ℕ) (bs : List ℕ) → base ≤ 36 → 0 < digits base most bs → get_or bs (digits base most bs - 1) 0 < 128
last_digit base most bs low some =
    let p : ℕ → Bool = λ d. is_digit d base in
    let n = digits base most bs in
    let within : n ≤ length (take most bs) = prefix_len-le-length (λ d. is_digit d base) (take most bs) in
    let passes : is_digit (get_or (take most bs) (n - 1) 0) base ≡ true = prefix_len_passes (λ d. is_digit d base) (take most bs) (n - 1) 0 (omega (arith, some)) in
    subst (λ b. b < 128) (get_or-take most bs (n - 1) 0 (omega (arith, some, within, length-take most bs))) (digit_low (get_or (take most bs) (n - 1) 0) base low passes)

digits_within : (base most : ℕ) (bs : List ℕ) → digits base most bs ≤ length bs
digits_within base most bs = omega (arith, prefix_len-le-length (λ d. is_digit d base) (take most bs), length-take most bs)

-- ---- escapes

wrong_cut : (f : Form) (b c : ℕ) (cs : List ℕ) → b < 128 → Cuts f (no_escape (c ∷ cs)) (b ∷ c ∷ cs)
wrong_cut f b c cs l = record { cut = char_cut b c cs; low = l }

escaped_cuts : (f : Form) (v n b c : ℕ) (cs : List ℕ) → b < 128 → IsCut (b ∷ c ∷ cs) n → Cuts f (escaped f.sort v n (c ∷ cs)) (b ∷ c ∷ cs)
escaped_cuts f v n b c cs l h =
    elim (cases_Bool (is_bytes f.sort)) [
      | inl e ↦ elim (cases_Bool (ltb v 256)) [ inl d ↦ rw (e, d) (record { cut = h; suits = e }) | inr d ↦ rw (e, d) (wrong_cut f b c cs l) ]
      | inr e ↦ elim (cases_Bool (is_scalar v)) [ inl d ↦ rw (e, d) (record { cut = h; suits = e }) | inr d ↦ rw (e, d) (wrong_cut f b c cs l) ]
    ]

octal_cuts : (f : Form) (b c : ℕ) (cs : List ℕ) → b < 128 → is_digit c 8 ≡ true → Cuts f (octal_escape f.sort (c ∷ cs)) (b ∷ c ∷ cs)
octal_cuts f b c cs l h =
    let n = digits 8 3 (c ∷ cs) in
    let some : 0 < n = rw h (omega arith) in
    let within : n ≤ length (c ∷ cs) = digits_within 8 3 (c ∷ cs) in
    let last : get_or (c ∷ cs) (n - 1) 0 < 128 = last_digit 8 3 (c ∷ cs) (omega arith) some in
    escaped_cuts f (digits_of 8 n (c ∷ cs)) (1 + n) b c cs l (low_cut (b ∷ c ∷ cs) (1 + n) (omega arith) (omega (arith, within)) (at_next b (c ∷ cs) (1 + n - 1) (n - 1) (omega (arith, some)) last))

hex_cuts : (f : Form) (n b c : ℕ) (cs : List ℕ) → b < 128 → 0 < n → Cuts f (hex_escape f.sort n (c ∷ cs)) (b ∷ c ∷ cs)
hex_cuts f n b c cs l some =
    elim (cases_Bool (eqb (digits 16 n cs) n)) [
      | inr e ↦ rw e (wrong_cut f b c cs l)
      | inl e ↦
          let same : digits 16 n cs ≡ n = grind (arith, nat_tests) in
          let within : n ≤ length cs = omega (arith, same, digits_within 16 n cs) in
          let last : get_or cs (digits 16 n cs - 1) 0 < 128 = last_digit 16 n cs (omega arith) (omega (arith, same, some)) in
          let low : get_or (b ∷ c ∷ cs) (2 + n - 1) 0 < 128 = at_next b (c ∷ cs) (2 + n - 1) n (omega arith) (at_next c cs n (digits 16 n cs - 1) (omega (arith, same, some)) last) in
          rw e (escaped_cuts f (digits_of 16 n cs) (2 + n) b c cs l (low_cut (b ∷ c ∷ cs) (2 + n) (omega arith) (omega (arith, within)) low))
    ]

crlf : (b c : ℕ) (cs : List ℕ) → (eqb c 13 && begins 10 cs) ≡ true → IsCut (b ∷ c ∷ cs) 3
crlf b c [] h = absurd (false≢true (and_parts (eqb c 13) false h).1)
crlf b c (d ∷ cs) h = three b c d cs (is_low d 10 (omega arith) (and_parts (eqb c 13) (eqb d 10) h).1)

either : (f : Form) (xs : List ℕ) (t : Bool) (p q : Piece) → (t ≡ true → Cuts f p xs) → (t ≡ false → Cuts f q xs) → Cuts f (cond t p q) xs
either f xs true p q h k = h refl
either f xs false p q h k = k refl

other_cuts : (f : Form) (b c : ℕ) (cs : List ℕ) → b < 128 → Cuts f (other_escape f.sort c (c ∷ cs)) (b ∷ c ∷ cs)
other_cuts f b c cs l =
    either f (b ∷ c ∷ cs) (is_digit c 8) _ _ (octal_cuts f b c cs l) (λ _.
    either f (b ∷ c ∷ cs) (ltb 0 (hex_digits c)) _ _ (λ e. hex_cuts f (hex_digits c) b c cs l (ltb-true 0 (hex_digits c) e)) (λ _.
    either f (b ∷ c ∷ cs) (eqb c 10) _ _ (λ e. two b c cs (is_low c 10 (omega arith) e)) (λ _.
    either f (b ∷ c ∷ cs) (eqb c 13 && begins 10 cs) _ _ (crlf b c cs) (λ _. wrong_cut f b c cs l))))

simple_low : (c v : ℕ) → simple c ≡ Some v → c < 128
simple_low c v =
    elim (cases_Bool (eqb c 97)) [
      | inl e ↦ λ _. is_low c 97 (omega arith) e
      | inr e1 ↦ rw e1 (
          elim (cases_Bool (eqb c 98)) [
            | inl e ↦ λ _. is_low c 98 (omega arith) e
            | inr e2 ↦ rw e2 (
                elim (cases_Bool (eqb c 102)) [
                  | inl e ↦ λ _. is_low c 102 (omega arith) e
                  | inr e3 ↦ rw e3 (
                      elim (cases_Bool (eqb c 110)) [
                        | inl e ↦ λ _. is_low c 110 (omega arith) e
                        | inr e4 ↦ rw e4 (
                            elim (cases_Bool (eqb c 114)) [
                              | inl e ↦ λ _. is_low c 114 (omega arith) e
                              | inr e5 ↦ rw e5 (
                                  elim (cases_Bool (eqb c 116)) [
                                    | inl e ↦ λ _. is_low c 116 (omega arith) e
                                    | inr e6 ↦ rw e6 (
                                        elim (cases_Bool (eqb c 118)) [
                                          | inl e ↦ λ _. is_low c 118 (omega arith) e
                                          | inr e7 ↦ rw e7 (
                                              elim (cases_Bool (eqb c 92 || eqb c 39 || eqb c 34)) [ inl e ↦ λ _. grind (arith, nat_tests) | inr e8 ↦ rw e8 (λ h. cc) ])
                                        ])
                                  ])
                            ])
                      ])
                ])
          ])
    ]

simple_cuts : (f : Form) (b c : ℕ) (cs : List ℕ) (o : Option ℕ) → simple c ≡ o → b < 128 → Cuts f (by_simple o f.sort c (c ∷ cs)) (b ∷ c ∷ cs)
simple_cuts f b c cs (Some v) e l = escaped_cuts f v 2 b c cs l (two b c cs (simple_low c v e))
simple_cuts f b c cs None e l = other_cuts f b c cs l

escape_cuts : (f : Form) (b : ℕ) (bs : List ℕ) → b < 128 → Cuts f (escape f.sort bs) (b ∷ bs)
unfolding escape
escape_cuts f b [] l = one b [] l
escape_cuts f b (c ∷ cs) l = simple_cuts f b c cs (simple c) refl l

raw_cuts : (f : Form) (b : ℕ) (bs : List ℕ) → b < 128 → Cuts f (raw_escape f.sort bs) (b ∷ bs)
unfolding raw_escape
raw_cuts f b [] l = one b [] l
raw_cuts f b (c ∷ cs) l =
    elim (cases_Bool (eqb c 13 || (is_format f.sort && (eqb c 123 || eqb c 125)))) [ inl e ↦ rw e (one b (c ∷ cs) l) | inr e ↦ rw e (char_cut b c cs) ]

-- ---- what ends a body

triple_cut : (m b : ℕ) (bs : List ℕ) → m < 128 → (begins m bs && begins m (drop 1 bs)) ≡ true → IsCut (b ∷ bs) 3
triple_cut m b [] l h = absurd (false≢true h)
triple_cut m b (c ∷ []) l h = absurd (false≢true (and_parts (eqb c m) false h).1)
triple_cut m b (c ∷ d ∷ bs) l h = three b c d bs (is_low d m l (and_parts (eqb c m) (eqb d m) h).1)

closing_cut : (q : FStringQuote) (b : ℕ) (bs : List ℕ) → (eqb b (mark q) && goes_on q bs) ≡ true → IsEnd (b ∷ bs) (quotes q)
closing_cut Single b bs h = let l = is_low b 39 (omega arith) (and_parts (eqb b 39) true h).0 in record { cut = one b bs l; low = l }
closing_cut Double b bs h = let l = is_low b 34 (omega arith) (and_parts (eqb b 34) true h).0 in record { cut = one b bs l; low = l }
closing_cut TripleSingle b bs h = let p = and_parts (eqb b 39) (begins 39 bs && begins 39 (drop 1 bs)) h in record { cut = triple_cut 39 b bs (omega arith) p.1; low = is_low b 39 (omega arith) p.0 }
closing_cut TripleDouble b bs h = let p = and_parts (eqb b 34) (begins 34 bs && begins 34 (drop 1 bs)) h in record { cut = triple_cut 34 b bs (omega arith) p.1; low = is_low b 34 (omega arith) p.0 }

pub format_no_bytes : (s : Sort) → is_format s ≡ true → is_bytes s ≡ false
format_no_bytes sorts.Text h = refl
format_no_bytes sorts.Bytes h = absurd (false≢true h)
format_no_bytes sorts.Format h = refl

doubled_cut : (b : ℕ) (bs : List ℕ) → b < 128 → begins b bs ≡ true → IsCut (b ∷ bs) 2
doubled_cut b [] l h = absurd (false≢true h)
doubled_cut b (c ∷ bs) l h = two b c bs (is_low c b l h)

brace_cuts : (f : Form) (b : ℕ) (bs : List ℕ) → is_format f.sort ≡ true → b < 128 → Cuts f (brace b bs) (b ∷ bs)
brace_cuts f b bs s l =
    elim (cases_Bool (begins b bs)) [
      | inl e ↦ rw e (record { cut = doubled_cut b bs l e; suits = format_no_bytes f.sort s })
      | inr e1 ↦ rw e1 (
          elim (cases_Bool (eqb b 123)) [ inl e ↦ rw e (record { format = s; some = omega arith; brace = eqb-true b 123 e }) | inr e ↦ rw e (one b bs l) ])
    ]

low_brace : (b : ℕ) → (eqb b 123 || eqb b 125) ≡ true → b < 128
low_brace b h = grind (arith, nat_tests)

-- a byte by itself
pub any_cut : (b : ℕ) (bs : List ℕ) → IsCut (b ∷ bs) 1
any_cut b bs = record { moves = omega arith; within = omega arith; ends = λ low utf8. boundary_after (b ∷ bs) 1 utf8 (omega arith) (omega arith) low }

pub piece_cuts : (f : Form) (xs : List ℕ) → Cuts f (piece f xs) xs
unfolding piece
piece_cuts f [] = λ h. absurd (omega (arith, h))
piece_cuts f (b ∷ bs) =
    either f (b ∷ bs) (eqb b (mark f.quote) && goes_on f.quote bs) _ _ (closing_cut f.quote b bs) (λ _.
    either f (b ∷ bs) (eqb b 13) _ _ (λ _. any_cut b bs) (λ _.
    either f (b ∷ bs) (eqb b 10) _ _ (λ e. either f (b ∷ bs) (is_triple f.quote) _ _ (λ _. any_cut b bs) (λ _ _. is_low b 10 (omega arith) e)) (λ _.
    either f (b ∷ bs) (eqb b 92) _ _ (λ e. either f (b ∷ bs) f.raw _ _ (λ _. raw_cuts f b bs (is_low b 92 (omega arith) e)) (λ _. escape_cuts f b bs (is_low b 92 (omega arith) e))) (λ _.
    either f (b ∷ bs) (is_format f.sort && (eqb b 123 || eqb b 125)) _ _ (λ e. brace_cuts f b bs (and_parts (is_format f.sort) (eqb b 123 || eqb b 125) e).0 (low_brace b (and_parts (is_format f.sort) (eqb b 123 || eqb b 125) e).1)) (λ _. any_cut b bs)))))

pub cut_of : (f : Form) (p : Piece) (xs : List ℕ) → piece f xs ≡ p → Cuts f p xs
cut_of f p xs e = subst (λ q. Cuts f q xs) e (piece_cuts f xs)
