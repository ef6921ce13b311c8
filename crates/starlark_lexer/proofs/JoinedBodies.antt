-- The body of a literal that ends within a text ends there in a longer text too.
use Rattle.std.proofs.Common.{◌≡◌, ◌<◌, ◌≤◌, ℕ, ◌+◌, ◌-◌, Bool, true, false, cond, ◌&&◌, ◌||◌, List, [], ◌∷◌, ◌++◌, length, take, drop, refl, ap, sym, ◌∙◌, arith, zero, suc, inl, inr, eqb, ltb}
use Rattle.std.specs.Prelude.{Option, Some, None}
use Rattle.std.specs.Char.{is_digit}
use Rattle.std.specs.List.{prefix_len}
use Rattle.std.specs.Str.Parse.{digits_value}
use Rattle.std.proofs.lemmas.Bool.{cases_Bool, false≢true, and_parts}
use Rattle.std.proofs.lemmas.Bool.Decides.{nat_tests}
use Rattle.std.proofs.lemmas.List.{take-append-le, length-take}
use Rattle.std.proofs.lemmas.List.Sums.{prefix_len-le-length}
use Rattle.starlark_lexer.specs.declared.literal.Ending.{Ending}
use Rattle.starlark_lexer.specs.declared.literal.Ending.TheVariants as ending
use Rattle.starlark_lexer.specs.declared.literal.Form.{Form}
use Rattle.starlark_lexer.specs.declared.literal.Piece.{Piece}
use Rattle.starlark_lexer.specs.declared.literal.Piece.TheVariants.{Closing, Field, Stop, Wrong, Nothing, Char, Byte, Same}
use Rattle.starlark_lexer.specs.declared.literal.Sort.{Sort}
use Rattle.starlark_lexer.specs.declared.token.FStringQuote.{FStringQuote}
use Rattle.starlark_lexer.specs.declared.token.FStringQuote.TheVariants.{Single, Double, TripleSingle, TripleDouble}
use Rattle.starlark_lexer.specs.Literals.{quotes, mark, is_triple, is_format, is_bytes, continues, character, is_scalar, no_escape, escaped, simple, hex_digits, digits, begins, hex_escape, octal_escape, other_escape, by_simple, escape, raw_escape, goes_on, brace, piece, later, by_piece, read, body}

-- the last byte is a line feed
abbrev pub Ended : List ℕ → Type 0
Ended [] = ⊥
Ended (b ∷ []) = b ≡ 10
Ended (b ∷ c ∷ bs) = Ended (c ∷ bs)

-- ---- runs

-- a run that a line feed ends
run_more : (p : ℕ → Bool) (xs ys : List ℕ) → p 10 ≡ false → Ended xs → prefix_len p (xs ++ ys) ≡ prefix_len p xs
run_more p [] ys e h = absurd h
run_more p (b ∷ []) ys e h = let f : p b ≡ false = ap p h ∙ e in rw f refl
run_more p (b ∷ c ∷ bs) ys e h = elim (cases_Bool (p b)) [ inl t ↦ rw t (ap (λ n. 1 + n) (run_more p (c ∷ bs) ys e h)) | inr f ↦ rw f refl ]

taken_more : (p : ℕ → Bool) (m : ℕ) (xs ys : List ℕ) → p 10 ≡ false → Ended xs → prefix_len p (take m (xs ++ ys)) ≡ prefix_len p (take m xs)
taken_more p m [] ys e h = absurd h
taken_more p zero (b ∷ bs) ys e h = refl
taken_more p (suc m) (b ∷ []) ys e h = let f : p b ≡ false = ap p h ∙ e in rw f refl
taken_more p (suc m) (b ∷ c ∷ bs) ys e h = elim (cases_Bool (p b)) [ inl t ↦ rw t (ap (λ n. 1 + n) (taken_more p m (c ∷ bs) ys e h)) | inr f ↦ rw f refl ]

character_more : (c : ℕ) (cs ys : List ℕ) → Ended (c ∷ cs) → character (c ∷ cs ++ ys) ≡ character (c ∷ cs)
character_more c [] ys h = let low : ltb c 128 ≡ true = ap (λ b. ltb b 128) h in rw low refl
character_more c (d ∷ ds) ys h = ap (λ n. cond (ltb c 128) 1 (1 + n)) (run_more continues (d ∷ ds) ys refl h)

-- ---- escapes

module _ (s : Sort) (c : ℕ) (cs ys : List ℕ) (h : Ended (c ∷ cs)) where
  wrong_more : no_escape (c ∷ cs ++ ys) ≡ no_escape (c ∷ cs)
  wrong_more = ap (λ n. Wrong (1 + n)) (character_more c cs ys h)

  escaped_more : (v n : ℕ) → escaped s v n (c ∷ cs ++ ys) ≡ escaped s v n (c ∷ cs)
  escaped_more v n = ap {B = Piece} (λ w. cond (is_bytes s) (cond (ltb v 256) (Byte v n) w) (cond (is_scalar v) (Char v n) w)) wrong_more

  octal_more : octal_escape s (c ∷ cs ++ ys) ≡ octal_escape s (c ∷ cs)
  octal_more =
      let n = digits 8 3 (c ∷ cs) in
      let same : digits 8 3 (c ∷ cs ++ ys) ≡ n = taken_more (λ d. is_digit d 8) 3 (c ∷ cs) ys refl h in
      let most : n ≤ length (c ∷ cs) = omega (arith, prefix_len-le-length (λ d. is_digit d 8) (take 3 (c ∷ cs)), length-take 3 (c ∷ cs)) in
      ap (λ k. escaped s (digits_value 8 (take k (c ∷ cs ++ ys))) (1 + k) (c ∷ cs ++ ys)) same
      ∙ ap (λ w. escaped s (digits_value 8 w) (1 + n) (c ∷ cs ++ ys)) (take-append-le n (c ∷ cs) ys most)
      ∙ escaped_more (digits_value 8 (take n (c ∷ cs))) (1 + n)

hex_more : (s : Sort) (n c d : ℕ) (ds ys : List ℕ) → Ended (d ∷ ds) → hex_escape s n (c ∷ d ∷ ds ++ ys) ≡ hex_escape s n (c ∷ d ∷ ds)
hex_more s n c d ds ys h =
    let cs : List ℕ = d ∷ ds in
    let k = digits 16 n cs in
    let same : digits 16 n (cs ++ ys) ≡ k = taken_more (λ d. is_digit d 16) n cs ys refl h in
    let most : k ≤ length cs = omega (arith, prefix_len-le-length (λ d. is_digit d 16) (take n cs), length-take n cs) in
    let there = escaped s (digits_value 16 (take n (cs ++ ys))) (2 + n) (c ∷ cs ++ ys) in
    let here = escaped s (digits_value 16 (take n cs)) (2 + n) (c ∷ cs) in
    ap (λ j. cond (eqb j n) there (no_escape (c ∷ cs ++ ys))) same ∙
    elim (cases_Bool (eqb k n)) [
      | inl t ↦
          let all : k ≡ n = grind (arith, nat_tests) in
          let whole : take n (cs ++ ys) ≡ take n cs = take-append-le n cs ys (omega (arith, most, all)) in
          ap (λ b. cond b there (no_escape (c ∷ cs ++ ys))) t
          ∙ ap (λ w. escaped s (digits_value 16 w) (2 + n) (c ∷ cs ++ ys)) whole
          ∙ escaped_more s c cs ys h (digits_value 16 (take n cs)) (2 + n)
          ∙ sym (ap (λ b. cond b here (no_escape (c ∷ cs))) t)
      | inr f ↦
          ap (λ b. cond b there (no_escape (c ∷ cs ++ ys))) f
          ∙ wrong_more s c cs ys h
          ∙ sym (ap (λ b. cond b here (no_escape (c ∷ cs))) f)
    ]

other_more : (s : Sort) (c d : ℕ) (ds ys : List ℕ) → Ended (d ∷ ds) → other_escape s c (c ∷ d ∷ ds ++ ys) ≡ other_escape s c (c ∷ d ∷ ds)
other_more s c d ds ys h =
    let o = octal_more s c (d ∷ ds) ys h in
    let x = hex_more s (hex_digits c) c d ds ys h in
    let w = wrong_more s c (d ∷ ds) ys h in
    λ i. cond (is_digit c 8) (o i) (cond (ltb 0 (hex_digits c)) (x i) (cond (eqb c 10) (Nothing 2) (cond (eqb c 13 && eqb d 10) (Nothing 3) (w i))))

by_more : (o : Option ℕ) (s : Sort) (c d : ℕ) (ds ys : List ℕ) → Ended (d ∷ ds) → by_simple o s c (c ∷ d ∷ ds ++ ys) ≡ by_simple o s c (c ∷ d ∷ ds)
by_more (Some v) s c d ds ys h = escaped_more s c (d ∷ ds) ys h v 2
by_more None s c d ds ys h = other_more s c d ds ys h

line_escape : (s : Sort) (c : ℕ) (ys : List ℕ) → c ≡ 10 → escape s (c ∷ ys) ≡ Nothing 2
unfolding escape
line_escape s c ys e = ap (λ b. by_simple (simple b) s b (b ∷ ys)) e

escape_more : (s : Sort) (xs ys : List ℕ) → Ended xs → escape s (xs ++ ys) ≡ escape s xs
unfolding escape
escape_more s [] ys h = absurd h
escape_more s (c ∷ []) ys h = line_escape s c ys h ∙ sym (line_escape s c [] h)
escape_more s (c ∷ d ∷ ds) ys h = by_more (simple c) s c d ds ys h

raw_more : (s : Sort) (xs ys : List ℕ) → Ended xs → raw_escape s (xs ++ ys) ≡ raw_escape s xs
unfolding raw_escape
raw_more s [] ys h = absurd h
raw_more s (c ∷ cs) ys h = ap (λ n. cond (eqb c 13 || (is_format s && (eqb c 123 || eqb c 125))) (Same 1) (Same (1 + n))) (character_more c cs ys h)

-- ---- pieces

marks_more : (q : FStringQuote) (xs ys : List ℕ) → Ended xs → goes_on q (xs ++ ys) ≡ goes_on q xs
marks_more q [] ys h = absurd h
marks_more Single (b ∷ bs) ys h = refl
marks_more Double (b ∷ bs) ys h = refl
marks_more TripleSingle (b ∷ []) ys h = let n : eqb b 39 ≡ false = ap (λ b. eqb b 39) h in rw n refl
marks_more TripleDouble (b ∷ []) ys h = let n : eqb b 34 ≡ false = ap (λ b. eqb b 34) h in rw n refl
marks_more TripleSingle (b ∷ c ∷ bs) ys h = refl
marks_more TripleDouble (b ∷ c ∷ bs) ys h = refl

piece_more : (f : Form) (b c : ℕ) (bs ys : List ℕ) → Ended (c ∷ bs) → piece f (b ∷ c ∷ bs ++ ys) ≡ piece f (b ∷ c ∷ bs)
unfolding piece
piece_more f b c bs ys h =
    let m = marks_more f.quote (c ∷ bs) ys h in
    let r = raw_more f.sort (c ∷ bs) ys h in
    let e = escape_more f.sort (c ∷ bs) ys h in
    λ i. cond (eqb b (mark f.quote) && m i) Closing
    (cond (eqb b 13) (Nothing 1)
    (cond (eqb b 10) (cond (is_triple f.quote) (Same 1) Stop)
    (cond (eqb b 92) (cond f.raw (r i) (e i))
    (cond (is_format f.sort && (eqb b 123 || eqb b 125)) (brace b (c ∷ bs)) (Same 1)))))

no_mark : (q : FStringQuote) → eqb 10 (mark q) ≡ false
no_mark Single = refl
no_mark Double = refl
no_mark TripleSingle = refl
no_mark TripleDouble = refl

-- at a line feed
line_piece : (f : Form) (ys : List ℕ) → piece f (10 ∷ ys) ≡ cond (is_triple f.quote) (Same 1) Stop
unfolding piece
line_piece f ys = let n = no_mark f.quote in rw n refl

-- ---- bodies

abbrev pub Final : Ending → Type 0
Final (ending.Closed n) = Unit {0}
Final (ending.Field n) = Unit {0}
Final (ending.Unfinished n) = ⊥
Final (ending.Escape n m) = ⊥

pub final_later : (k : ℕ) (e : Ending) → Final (later k e) → Final e
final_later k (ending.Closed n) h = tt
final_later k (ending.Field n) h = tt
final_later k (ending.Unfinished n) h = h
final_later k (ending.Escape n m) h = h

pub final_nil : (f : Form) (n : ℕ) → Final (read f n []).ending → ⊥
unfolding read
final_nil f zero h = h
final_nil f (suc n) h = h

final_line : (f : Form) (b : ℕ) → b ≡ 10 → Final (read f 0 (b ∷ [])).ending → ⊥
unfolding read
final_line f b e h = by_test (is_triple f.quote) (subst_piece (ap (λ c. piece f (c ∷ [])) e ∙ line_piece f []) h)
  where
    subst_piece : {p q : Piece} → p ≡ q → Final (by_piece p (b ∷ []) (λ k. read f (k - 1) [])).ending → Final (by_piece q (b ∷ []) (λ k. read f (k - 1) [])).ending
    subst_piece e h = rw e at h

    by_test : (t : Bool) → Final (by_piece (cond t (Same 1) Stop) (b ∷ []) (λ k. read f (k - 1) [])).ending → ⊥
    by_test true h = final_nil f 0 (final_later 1 (read f 0 []).ending h)
    by_test false h = h

module _ (f : Form) (b : ℕ) (bs ys : List ℕ) (go : (n : ℕ) → Final (read f n bs).ending → (read f n (bs ++ ys)).ending ≡ (read f n bs).ending) where
  behind_more : (p : Piece) → Final (by_piece p (b ∷ bs) (λ k. read f (k - 1) bs)).ending
      → (by_piece p (b ∷ bs ++ ys) (λ k. read f (k - 1) (bs ++ ys))).ending ≡ (by_piece p (b ∷ bs) (λ k. read f (k - 1) bs)).ending
  behind_more Closing h = refl
  behind_more Field h = refl
  behind_more Stop h = refl
  behind_more (Wrong n) h = refl
  behind_more (Nothing n) h = ap (later n) (go (n - 1) (final_later n _ h))
  behind_more (Char c n) h = ap (later n) (go (n - 1) (final_later n _ h))
  behind_more (Byte c n) h = ap (later n) (go (n - 1) (final_later n _ h))
  behind_more (Same n) h = ap (later n) (go (n - 1) (final_later n _ h))

read_more : (f : Form) (n : ℕ) (xs ys : List ℕ) → Ended xs → Final (read f n xs).ending → (read f n (xs ++ ys)).ending ≡ (read f n xs).ending
unfolding read
read_more f n [] ys h fin = absurd h
read_more f zero (b ∷ []) ys h fin = absurd (final_line f b h fin)
read_more f (suc n) (b ∷ []) ys h fin = absurd (final_nil f n fin)
read_more f (suc n) (b ∷ c ∷ bs) ys h fin = read_more f n (c ∷ bs) ys h fin
read_more f zero (b ∷ c ∷ bs) ys h fin =
    ap (λ p. (by_piece p (b ∷ c ∷ bs ++ ys) (λ k. read f (k - 1) (c ∷ bs ++ ys))).ending) (piece_more f b c bs ys h)
    ∙ behind_more f b (c ∷ bs) ys (λ n. read_more f n (c ∷ bs) ys h) (piece f (b ∷ c ∷ bs)) fin

pub body_more : (f : Form) (xs ys : List ℕ) (e : Ending) → Ended xs → Final e → body f 0 xs ≡ e → body f 0 (xs ++ ys) ≡ e
body_more f xs ys e h fin is = read_more f 0 xs ys h (rw (sym is) at fin) ∙ is

-- ---- it ends before the line feed

abbrev pub Short : Form → ℕ → List ℕ → Ending → Type 0
Short f n xs (ending.Closed k) = n + k + quotes f.quote < length xs
Short f n xs (ending.Field k) = n + k < length xs
Short f n xs (ending.Unfinished k) = Unit {0}
Short f n xs (ending.Escape k m) = Unit {0}

abbrev ShortPiece : Form → List ℕ → Piece → Type 0
ShortPiece f xs Closing = quotes f.quote < length xs
ShortPiece f xs _ = Unit {0}

closes_short : (q : FStringQuote) (b c : ℕ) (bs : List ℕ) → Ended (c ∷ bs) → (eqb b (mark q) && goes_on q (c ∷ bs)) ≡ true → quotes q < length (b ∷ c ∷ bs)
closes_short Single b c bs h t = omega arith
closes_short Double b c bs h t = omega arith
closes_short TripleSingle b c [] h t = absurd (false≢true (and_parts (eqb c 39) false (and_parts (eqb b 39) (eqb c 39 && false) t).1).1)
closes_short TripleDouble b c [] h t = absurd (false≢true (and_parts (eqb c 34) false (and_parts (eqb b 34) (eqb c 34 && false) t).1).1)
closes_short TripleSingle b c (d ∷ []) h t = absurd (never b c d h t)
  where
    never : (b c d : ℕ) → d ≡ 10 → (eqb b 39 && (eqb c 39 && eqb d 39)) ≡ true → ⊥
    never b c d e t = grind (arith, nat_tests)
closes_short TripleDouble b c (d ∷ []) h t = absurd (never b c d h t)
  where
    never : (b c d : ℕ) → d ≡ 10 → (eqb b 34 && (eqb c 34 && eqb d 34)) ≡ true → ⊥
    never b c d e t = grind (arith, nat_tests)
closes_short TripleSingle b c (d ∷ e ∷ bs) h t = omega arith
closes_short TripleDouble b c (d ∷ e ∷ bs) h t = omega arith

module _ (S : Piece → Type 0) (each : (n : ℕ) → S (Wrong n) × S (Nothing n) × S (Same n) × ((c : ℕ) → S (Char c n) × S (Byte c n))) where
  pick : (t : Bool) (p q : Piece) → S p → S q → S (cond t p q)
  pick true p q h k = h
  pick false p q h k = k

  escaped_not : (s : Sort) (v n : ℕ) (rest : List ℕ) → S (escaped s v n rest)
  escaped_not s v n rest =
      let w = (each (1 + character rest)).0 in
      pick (is_bytes s) _ _ (pick (ltb v 256) _ _ ((each n).3 v).1 w) (pick (is_scalar v) _ _ ((each n).3 v).0 w)

  other_not : (s : Sort) (c : ℕ) (rest : List ℕ) → S (other_escape s c rest)
  other_not s c rest =
      let w = (each (1 + character rest)).0 in
      pick (is_digit c 8) _ _ (escaped_not s _ _ rest)
      (pick (ltb 0 (hex_digits c)) _ _ (pick (eqb (digits 16 (hex_digits c) (drop 1 rest)) (hex_digits c)) _ _ (escaped_not s _ _ rest) w)
      (pick (eqb c 10) _ _ (each 2).1 (pick (eqb c 13 && begins 10 (drop 1 rest)) _ _ (each 3).1 w)))

  by_not : (o : Option ℕ) (s : Sort) (c : ℕ) (rest : List ℕ) → S (by_simple o s c rest)
  by_not (Some v) s c rest = escaped_not s v 2 rest
  by_not None s c rest = other_not s c rest

  escape_not : (s : Sort) (xs : List ℕ) → S (escape s xs)
  unfolding escape
  escape_not s [] = (each 1).1
  escape_not s (c ∷ cs) = by_not (simple c) s c (c ∷ cs)

  raw_not : (s : Sort) (xs : List ℕ) → S (raw_escape s xs)
  unfolding raw_escape
  raw_not s [] = (each 1).2
  raw_not s (c ∷ cs) = pick (eqb c 13 || (is_format s && (eqb c 123 || eqb c 125))) _ _ (each 1).2 (each (1 + character (c ∷ cs))).2

  piece_by : (f : Form) (b : ℕ) (bs : List ℕ) → ((eqb b (mark f.quote) && goes_on f.quote bs) ≡ true → S Closing) → S Field → S Stop → S (piece f (b ∷ bs))
  unfolding piece
  piece_by f b bs closing field stop =
      either (eqb b (mark f.quote) && goes_on f.quote bs) _ _ closing
      (pick (eqb b 13) _ _ (each 1).1
      (pick (eqb b 10) _ _ (pick (is_triple f.quote) _ _ (each 1).2 stop)
      (pick (eqb b 92) _ _ (pick f.raw _ _ (raw_not f.sort bs) (escape_not f.sort bs))
      (pick (is_format f.sort && (eqb b 123 || eqb b 125)) _ _ (pick (begins b bs) _ _ ((each 2).3 b).0 (pick (eqb b 123) _ _ field (each 1).2)) (each 1).2))))
    where
      either : (t : Bool) (p q : Piece) → (t ≡ true → S p) → S q → S (cond t p q)
      either true p q h k = h refl
      either false p q h k = k

piece_short : (f : Form) (b c : ℕ) (bs : List ℕ) → Ended (c ∷ bs) → ShortPiece f (b ∷ c ∷ bs) (piece f (b ∷ c ∷ bs))
piece_short f b c bs h = piece_by (ShortPiece f (b ∷ c ∷ bs)) (λ n. (tt, tt, tt, λ c. (tt, tt))) f b (c ∷ bs) (closes_short f.quote b c bs h) tt tt

later_short : (f : Form) (b n : ℕ) (bs : List ℕ) (e : Ending) → Short f (n - 1) bs e → Short f 0 (b ∷ bs) (later n e)
later_short f b n bs (ending.Closed k) h = omega (arith, h)
later_short f b n bs (ending.Field k) h = omega (arith, h)
later_short f b n bs (ending.Unfinished k) h = tt
later_short f b n bs (ending.Escape k m) h = tt

suc_short : (f : Form) (b n : ℕ) (bs : List ℕ) (e : Ending) → Short f n bs e → Short f (suc n) (b ∷ bs) e
suc_short f b n bs (ending.Closed k) h = omega (arith, h)
suc_short f b n bs (ending.Field k) h = omega (arith, h)
suc_short f b n bs (ending.Unfinished k) h = tt
suc_short f b n bs (ending.Escape k m) h = tt

module _ (f : Form) (b : ℕ) (bs : List ℕ) (go : (n : ℕ) → Short f n bs (read f n bs).ending) where
  behind_short : (p : Piece) → ShortPiece f (b ∷ bs) p → Short f 0 (b ∷ bs) (by_piece p (b ∷ bs) (λ k. read f (k - 1) bs)).ending
  behind_short Closing h = omega (arith, h)
  behind_short Field h = omega arith
  behind_short Stop h = tt
  behind_short (Wrong n) h = tt
  behind_short (Nothing n) h = later_short f b n bs _ (go (n - 1))
  behind_short (Char c n) h = later_short f b n bs _ (go (n - 1))
  behind_short (Byte c n) h = later_short f b n bs _ (go (n - 1))
  behind_short (Same n) h = later_short f b n bs _ (go (n - 1))

not_final : (f : Form) (n : ℕ) (xs : List ℕ) (e : Ending) → (Final e → ⊥) → Short f n xs e
not_final f n xs (ending.Closed k) h = absurd (h tt)
not_final f n xs (ending.Field k) h = absurd (h tt)
not_final f n xs (ending.Unfinished k) h = tt
not_final f n xs (ending.Escape k m) h = tt

read_short : (f : Form) (n : ℕ) (xs : List ℕ) → Ended xs → Short f n xs (read f n xs).ending
unfolding read
read_short f n [] h = absurd h
read_short f zero (b ∷ []) h = not_final f zero (b ∷ []) (read f zero (b ∷ [])).ending (final_line f b h)
read_short f (suc n) (b ∷ []) h = not_final f (suc n) (b ∷ []) (read f n []).ending (final_nil f n)
read_short f (suc n) (b ∷ c ∷ bs) h = suc_short f b n (c ∷ bs) (read f n (c ∷ bs)).ending (read_short f n (c ∷ bs) h)
read_short f zero (b ∷ c ∷ bs) h = behind_short f b (c ∷ bs) (λ n. read_short f n (c ∷ bs) h) (piece f (b ∷ c ∷ bs)) (piece_short f b c bs h)

pub body_short : (f : Form) (xs : List ℕ) (e : Ending) → Ended xs → body f 0 xs ≡ e → Short f 0 xs e
body_short f xs e h is = rw is at (read_short f 0 xs h)
