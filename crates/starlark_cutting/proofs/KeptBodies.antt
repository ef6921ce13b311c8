-- The body of a literal ends where it does, whatever stands behind its quotes.
use Rattle.std.proofs.Common.{◌≡◌, ◌<◌, ◌≤◌, ℕ, ◌+◌, Bool, true, false, cond, ◌&&◌, ◌||◌, List, [], ◌∷◌, ◌++◌, length, take, drop, refl, ap, sym, ◌∙◌, arith, zero, suc, inl, inr, eqb, ltb}
use Rattle.std.specs.Prelude.{Option, Some, None}
use Rattle.std.specs.Char.{is_digit}
use Rattle.std.specs.List.{prefix_len}
use Rattle.std.specs.Str.Parse.{digits_value}
use Rattle.std.proofs.lemmas.Bool.{cases_Bool}
use Rattle.std.proofs.lemmas.List.{take-append-le}
use Rattle.starlark_lexer.specs.declared.literal.Piece.{Piece}
use Rattle.starlark_lexer.specs.declared.literal.Piece.TheVariants.{Closing, Field, Stop, Wrong, Nothing, Char, Byte, Same}
use Rattle.starlark_lexer.specs.declared.literal.Sort.{Sort}
use Rattle.starlark_lexer.specs.Literals.{is_format, is_bytes, continues, character, is_scalar, no_escape, escaped, simple, hex_digits, digits, begins, hex_escape, octal_escape, other_escape, by_simple, escape, raw_escape, brace}

-- the first bytes of what is kept of a text, with other bytes behind it
pub take_kept : (rest u v o : List ℕ) (k : ℕ) → rest ≡ u ++ v → k ≤ length u → take k (u ++ o) ≡ take k rest
take_kept rest u v o k is le = take-append-le k u o le ∙ sym (take-append-le k u v le) ∙ ap (take k) (sym is)

-- ---- how long a piece is

-- it has at most so many bytes, and is an item or a field
abbrev pub Within : ℕ → Piece → Type 0
Within m Closing = ⊥
Within m Field = 1 ≤ m
Within m Stop = ⊥
Within m (Wrong n) = ⊥
Within m (Nothing n) = n ≤ m
Within m (Char c n) = n ≤ m
Within m (Byte c n) = n ≤ m
Within m (Same n) = n ≤ m

-- it is no quotes, and an item has some bytes
abbrev pub Some_bytes : Piece → Type 0
Some_bytes Closing = ⊥
Some_bytes (Nothing n) = 0 < n
Some_bytes (Char c n) = 0 < n
Some_bytes (Byte c n) = 0 < n
Some_bytes (Same n) = 0 < n
Some_bytes _ = Unit {0}

pub pick : (S : Piece → Type 0) (t : Bool) (p q : Piece) → S p → S q → S (cond t p q)
pick S true p q h k = h
pick S false p q h k = k

escaped_some : (s : Sort) (v n : ℕ) (rest : List ℕ) → 0 < n → Some_bytes (escaped s v n rest)
escaped_some s v n rest h = pick Some_bytes (is_bytes s) _ _ (pick Some_bytes (ltb v 256) _ _ h tt) (pick Some_bytes (is_scalar v) _ _ h tt)

other_some : (s : Sort) (c : ℕ) (rest : List ℕ) → Some_bytes (other_escape s c rest)
other_some s c rest =
    pick Some_bytes (is_digit c 8) _ _ (escaped_some s _ _ rest (omega arith))
    (pick Some_bytes (ltb 0 (hex_digits c)) _ _ (pick Some_bytes (eqb (digits 16 (hex_digits c) (drop 1 rest)) (hex_digits c)) _ _ (escaped_some s _ _ rest (omega arith)) tt)
    (pick Some_bytes (eqb c 10) _ _ (omega arith) (pick Some_bytes (eqb c 13 && begins 10 (drop 1 rest)) _ _ (omega arith) tt)))

by_some : (o : Option ℕ) (s : Sort) (c : ℕ) (rest : List ℕ) → Some_bytes (by_simple o s c rest)
by_some (Some v) s c rest = escaped_some s v 2 rest (omega arith)
by_some None s c rest = other_some s c rest

pub escape_some : (s : Sort) (xs : List ℕ) → Some_bytes (escape s xs)
unfolding escape
escape_some s [] = omega arith
escape_some s (c ∷ cs) = by_some (simple c) s c (c ∷ cs)

pub raw_some : (s : Sort) (xs : List ℕ) → Some_bytes (raw_escape s xs)
unfolding raw_escape
raw_some s [] = omega arith
raw_some s (c ∷ cs) = pick Some_bytes (eqb c 13 || (is_format s && (eqb c 123 || eqb c 125))) _ _ (omega arith) (omega arith)

-- what has some bytes is not within none
pub not_none : (p : Piece) → Some_bytes p → Within 0 p → ⊥
not_none Closing h w = h
not_none Field h w = omega (arith, w)
not_none Stop h w = w
not_none (Wrong n) h w = w
not_none (Nothing n) h w = omega (arith, w, h)
not_none (Char c n) h w = omega (arith, w, h)
not_none (Byte c n) h w = omega (arith, w, h)
not_none (Same n) h w = omega (arith, w, h)

-- ---- runs that end within

pub run_same : (p : ℕ → Bool) (xs v s : List ℕ) → prefix_len p (xs ++ v) < length xs → prefix_len p (xs ++ s) ≡ prefix_len p (xs ++ v)
run_same p [] v s h = absurd (omega (arith, h))
run_same p (b ∷ bs) v s h = elim (cases_Bool (p b)) [
  | inl t ↦ let less : 1 + prefix_len p (bs ++ v) < length (b ∷ bs) = rw t at h in rw t (ap (λ n. 1 + n) (run_same p bs v s (omega (arith, less))))
  | inr f ↦ rw f refl
]

taken_same : (p : ℕ → Bool) (m : ℕ) (xs v s : List ℕ) → prefix_len p (take m (xs ++ v)) < length xs → prefix_len p (take m (xs ++ s)) ≡ prefix_len p (take m (xs ++ v))
taken_same p m [] v s h = absurd (omega (arith, h))
taken_same p zero (b ∷ bs) v s h = refl
taken_same p (suc m) (b ∷ bs) v s h = elim (cases_Bool (p b)) [
  | inl t ↦ let less : 1 + prefix_len p (take m (bs ++ v)) < length (b ∷ bs) = rw t at h in rw t (ap (λ n. 1 + n) (taken_same p m bs v s (omega (arith, less))))
  | inr f ↦ rw f refl
]

-- ---- escapes

abbrev pub Alike : ℕ → Piece → Piece → Type 0
Alike m p q = Within m p → q ≡ p

-- both choose by the same test
pub choose : (m : ℕ) (t : Bool) (p q u w : Piece) → (t ≡ true → Alike m p u) → (t ≡ false → Alike m q w) → Alike m (cond t p q) (cond t u w)
choose m true p q u w h k = h refl
choose m false p q u w h k = k refl

pub escaped_same : (s : Sort) (x n m : ℕ) (r o : List ℕ) → Alike m (escaped s x n r) (escaped s x n o)
escaped_same s x n m r o = choose m (is_bytes s) _ _ _ _ (λ _. choose m (ltb x 256) _ _ _ _ (λ _ w. refl) (λ _ w. absurd w)) (λ _. choose m (is_scalar x) _ _ _ _ (λ _ w. refl) (λ _ w. absurd w))

-- an escape of n bytes
pub escaped_len : (s : Sort) (x n m : ℕ) (r : List ℕ) → Within m (escaped s x n r) → n ≤ m
escaped_len s x n m r =
    len (is_bytes s) (cond (ltb x 256) (Byte x n) (no_escape r)) (cond (is_scalar x) (Char x n) (no_escape r))
    (len (ltb x 256) (Byte x n) (no_escape r) (λ w. w) (λ w. absurd w)) (len (is_scalar x) (Char x n) (no_escape r) (λ w. w) (λ w. absurd w))
  where
    len : (t : Bool) (p q : Piece) → (Within m p → n ≤ m) → (Within m q → n ≤ m) → Within m (cond t p q) → n ≤ m
    len true p q h k w = h w
    len false p q h k w = k w

octal_same : (s : Sort) (xs v o : List ℕ) → Alike (length xs) (octal_escape s (xs ++ v)) (octal_escape s (xs ++ o))
octal_same s xs v o w =
    let d = digits 8 3 (xs ++ v) in
    let le : 1 + d ≤ length xs = escaped_len s (digits_value 8 (take d (xs ++ v))) (1 + d) (length xs) (xs ++ v) w in
    let same : digits 8 3 (xs ++ o) ≡ d = taken_same (λ c. is_digit c 8) 3 xs v o (omega (arith, le)) in
    let cut : take d (xs ++ o) ≡ take d (xs ++ v) = take_kept (xs ++ v) xs v o d refl (omega (arith, le)) in
    ap (λ k. escaped s (digits_value 8 (take k (xs ++ o))) (1 + k) (xs ++ o)) same
    ∙ ap (λ c. escaped s (digits_value 8 c) (1 + d) (xs ++ o)) cut
    ∙ escaped_same s (digits_value 8 (take d (xs ++ v))) (1 + d) (length xs) (xs ++ v) (xs ++ o) w

hex_same : (s : Sort) (n c : ℕ) (cs v o : List ℕ) → Alike (length (c ∷ cs)) (hex_escape s n (c ∷ cs ++ v)) (hex_escape s n (c ∷ cs ++ o))
hex_same s n c cs v o w = elim (cases_Bool (eqb (digits 16 n (cs ++ v)) n)) [
  | inr f ↦ absurd (rw f at w)
  | inl t ↦
      let here : Within (length (c ∷ cs)) (escaped s (digits_value 16 (take n (cs ++ v))) (2 + n) (c ∷ cs ++ v)) = rw t at w in
      let le = escaped_len s (digits_value 16 (take n (cs ++ v))) (2 + n) (length (c ∷ cs)) (c ∷ cs ++ v) here in
      let cut : take n (cs ++ o) ≡ take n (cs ++ v) = take_kept (cs ++ v) cs v o n refl (omega (arith, le)) in
      let t2 : eqb (digits 16 n (cs ++ o)) n ≡ true = ap (λ k. eqb (prefix_len (λ d. is_digit d 16) k) n) cut ∙ t in
      ap (λ b. cond b (escaped s (digits_value 16 (take n (cs ++ o))) (2 + n) (c ∷ cs ++ o)) (no_escape (c ∷ cs ++ o))) t2
      ∙ ap (λ k. escaped s (digits_value 16 k) (2 + n) (c ∷ cs ++ o)) cut
      ∙ escaped_same s (digits_value 16 (take n (cs ++ v))) (2 + n) (length (c ∷ cs)) (c ∷ cs ++ v) (c ∷ cs ++ o) here
      ∙ sym (ap (λ b. cond b (escaped s (digits_value 16 (take n (cs ++ v))) (2 + n) (c ∷ cs ++ v)) (no_escape (c ∷ cs ++ v))) t)
]

-- an escaped CR and line feed
cr_same : (c : ℕ) (cs v o : List ℕ) → Alike (length (c ∷ cs)) (cond (eqb c 13 && begins 10 (cs ++ v)) (Nothing 3) (no_escape (c ∷ cs ++ v))) (cond (eqb c 13 && begins 10 (cs ++ o)) (Nothing 3) (no_escape (c ∷ cs ++ o)))
cr_same c [] v o w = absurd (never (eqb c 13 && begins 10 v) w)
  where
    never : (t : Bool) → Within 1 (cond t (Nothing 3) (no_escape (c ∷ v))) → ⊥
    never true w = omega (arith, w)
    never false w = w
cr_same c (d ∷ ds) v o w = choose (length (c ∷ d ∷ ds)) (eqb c 13 && eqb d 10) (Nothing 3) (no_escape (c ∷ d ∷ ds ++ v)) (Nothing 3) (no_escape (c ∷ d ∷ ds ++ o)) (λ _ _. refl) (λ _ k. absurd k) w

other_same : (s : Sort) (c : ℕ) (cs v o : List ℕ) → Alike (length (c ∷ cs)) (other_escape s c (c ∷ cs ++ v)) (other_escape s c (c ∷ cs ++ o))
other_same s c cs v o =
    let m = length (c ∷ cs) in
    choose m (is_digit c 8) _ _ _ _ (λ _. octal_same s (c ∷ cs) v o)
    (λ _. choose m (ltb 0 (hex_digits c)) _ _ _ _ (λ _. hex_same s (hex_digits c) c cs v o)
    (λ _. choose m (eqb c 10) _ _ _ _ (λ _ _. refl) (λ _. cr_same c cs v o)))

by_same : (x : Option ℕ) (s : Sort) (c : ℕ) (cs v o : List ℕ) → Alike (length (c ∷ cs)) (by_simple x s c (c ∷ cs ++ v)) (by_simple x s c (c ∷ cs ++ o))
by_same (Some x) s c cs v o = escaped_same s x 2 (length (c ∷ cs)) (c ∷ cs ++ v) (c ∷ cs ++ o)
by_same None s c cs v o = other_same s c cs v o

pub escape_same : (s : Sort) (xs v o : List ℕ) → Within (length xs) (escape s (xs ++ v)) → escape s (xs ++ o) ≡ escape s (xs ++ v)
unfolding escape
escape_same s [] v o w = absurd (not_none (escape s v) (escape_some s v) w)
escape_same s (c ∷ cs) v o w = by_same (simple c) s c cs v o w

character_same : (c : ℕ) (cs v o : List ℕ) → character (c ∷ cs ++ v) < length (c ∷ cs) → character (c ∷ cs ++ o) ≡ character (c ∷ cs ++ v)
character_same c cs v o h = elim (cases_Bool (ltb c 128)) [
  | inl t ↦ rw t refl
  | inr f ↦ let less : 1 + prefix_len continues (cs ++ v) < length (c ∷ cs) = rw f at h in rw f (ap (λ n. 1 + n) (run_same continues cs v o (omega (arith, less))))
]

pub raw_same : (s : Sort) (xs v o : List ℕ) → Within (length xs) (raw_escape s (xs ++ v)) → raw_escape s (xs ++ o) ≡ raw_escape s (xs ++ v)
unfolding raw_escape
raw_same s [] v o w = absurd (not_none (raw_escape s v) (raw_some s v) w)
raw_same s (c ∷ cs) v o w =
    choose (length (c ∷ cs)) (eqb c 13 || (is_format s && (eqb c 123 || eqb c 125))) _ _ _ _ (λ _ _. refl)
    (λ _ k. ap (λ n. Same (1 + n)) (character_same c cs v o (omega (arith, k)))) w

pub brace_same : (b : ℕ) (xs v o : List ℕ) → Within (length xs) (brace b (xs ++ v)) → brace b (xs ++ o) ≡ brace b (xs ++ v)
brace_same b [] v o w = absurd (not_none (brace b v) (pick Some_bytes (begins b v) _ _ (omega arith) (pick Some_bytes (eqb b 123) _ _ tt (omega arith))) w)
brace_same b (c ∷ cs) v o w = refl
