-- Counts of bytes and of characters.
use Rattle.std.proofs.Common.{◌≡◌, ◌<◌, ◌≤◌, ℕ, ◌+◌, ◌-◌, ◌%◌, ◌/◌, Bool, true, false, not, cond, List, [], ◌∷◌, length, take, drop, refl, ap, sym, ◌∙◌, arith, inl, inr, ltb, map, replicate}
use Rattle.std.specs.List.{count_by}
use Rattle.std.specs.Str.{IsUtf8, chars}
use lib.Utf8.{encode, encodes, next}
use lib.Lanes.{chunk, zip2, Each1}
use Rattle.std.proofs.lemmas.List.{take-append-drop, take_rest}
use Rattle.std.proofs.lemmas.Bool.{cases_Bool, cases_lt}
use Rattle.std.proofs.lemmas.Bool.Decides.{nat_tests}
use Rattle.std.proofs.lemmas.List.Sums.{sum_by-cons, sum_by-append}
use Rattle.std.proofs.lemmas.Str.{encodes-chars}
use Rattle.std.proofs.Math.Seq.{take-add}
use Rattle.starlark_place.specs.Place.{characters, is_continuation}

-- the next n bytes
pub count_by-chunk : (p : ℕ → Bool) (text : List ℕ) (at n : ℕ) → count_by p (take (at + n) text) ≡ count_by p (take at text) + count_by p (chunk at n text)
count_by-chunk p text at n = ap (count_by p) (take-add at n text) ∙ sum_by-append (λ x. cond (p x) 1 0) (take at text) (chunk at n text)

pub count_by-rest : (p : ℕ → Bool) (text : List ℕ) (at : ℕ) → count_by p text ≡ count_by p (take at text) + count_by p (take (length text - at) (drop at text))
count_by-rest p text at = rw (take_rest text at) (ap (count_by p) (sym (take-append-drop at text)) ∙ sum_by-append (λ x. cond (p x) 1 0) (take at text) (drop at text))

splat_right : (f : ℕ → ℕ → ℕ) (y : ℕ) (xs : List ℕ) → zip2 f xs (replicate (length xs) y) ≡ map (λ x. f x y) xs
splat_right f y [] = refl
splat_right f y (x ∷ xs) = ap (λ rest. f x y ∷ rest) (splat_right f y xs)

turned : (x : ℕ) → x < 256 → cond {A = ℕ} (ltb ((x + 64) % 256) 192) 1 0 ≡ cond {A = ℕ} (not (is_continuation x)) 1 0
turned x small =
    elim (cases_lt x 128) [
      | inl l ↦ (let m : (x + 64) % 256 ≡ x + 64 = omega arith in let a : ltb ((x + 64) % 256) 192 ≡ true = grind (arith, nat_tests) in let n : is_continuation x ≡ false = grind (arith, nat_tests) in rw (a, n) refl)
      | inr g ↦ elim (cases_lt x 192) [
        | inl l ↦ (let m : (x + 64) % 256 ≡ x + 64 = omega arith in let a : ltb ((x + 64) % 256) 192 ≡ false = grind (arith, nat_tests) in let n : is_continuation x ≡ true = grind (arith, nat_tests) in rw (a, n) refl)
        | inr h ↦ (let m : (x + 64) % 256 ≡ x - 192 = omega arith in let a : ltb ((x + 64) % 256) 192 ≡ true = grind (arith, nat_tests) in let n : is_continuation x ≡ false = grind (arith, nat_tests) in rw (a, n) refl)
      ]
    ]

-- the bytes that stay below 192 when 64 is added, in 8 bits
pub characters-turned : (xs : List ℕ) → Each1 (λ x. x < 256) xs → count_by (λ x. ltb x 192) (map (λ x. (x + 64) % 256) xs) ≡ characters xs
characters-turned [] h = refl
characters-turned (x ∷ xs) h =
    rw (sum_by-cons (λ y. cond (ltb y 192) 1 0) ((x + 64) % 256) (map (λ y. (y + 64) % 256) xs), sum_by-cons (λ y. cond (not (is_continuation y)) 1 0) x xs)
    (let t = characters-turned xs h.1 in let w = turned x h.0 in omega arith)

pub turned_lanes : (block : List ℕ) → length block ≡ 32 → zip2 (λ a b. (a + b) % 256) block (replicate 32 64) ≡ map (λ x. (x + 64) % 256) block
turned_lanes block long = ap (λ n. zip2 (λ a b. (a + b) % 256) block (replicate n 64)) (sym long) ∙ splat_right (λ a b. (a + b) % 256) 64 block

lead : (a : ℕ) → 192 ≤ a → is_continuation a ≡ false
lead a h = grind (arith, nat_tests)

plain : (a : ℕ) → ltb a 128 ≡ true → is_continuation a ≡ false
plain a h = grind (arith, nat_tests)

goes_on : (n : ℕ) → is_continuation (next n) ≡ true
goes_on n = grind (arith, nat_tests)

pub characters-encode : (c : ℕ) → characters (encode c) ≡ 1
unfolding encode
characters-encode c =
    elim (cases_Bool (ltb c 128)) [
      | inl e ↦ rw (e, plain c e) refl
      | inr e ↦ rw e (elim (cases_Bool (ltb c 2048)) [
        | inl f ↦ rw (f, lead (192 + c / 64) (omega arith), goes_on c) refl
        | inr f ↦ rw f (elim (cases_Bool (ltb c 65536)) [
          | inl g ↦ rw (g, lead (224 + c / 4096) (omega arith), goes_on (c / 64), goes_on c) refl
          | inr g ↦ rw (g, lead (240 + c / 262144) (omega arith), goes_on (c / 4096), goes_on (c / 64), goes_on c) refl
        ])
      ])
    ]

characters-encodes : (cs : List ℕ) → characters (encodes cs) ≡ length cs
characters-encodes [] = refl
characters-encodes (c ∷ cs) =
    sum_by-append (λ x. cond (not (is_continuation x)) 1 0) (encode c) (encodes cs) ∙ (let h = characters-encode c in let t = characters-encodes cs in omega arith)

-- each character has one byte that goes on with none
pub characters-chars : (text : List ℕ) → IsUtf8 text → characters text ≡ length (chars text)
characters-chars text u = ap characters (sym (encodes-chars text u)) ∙ characters-encodes (chars text)
