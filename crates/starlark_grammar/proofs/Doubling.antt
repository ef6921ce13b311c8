-- Texts with their braces doubled.
use Rattle.std.proofs.Common.{◌≡◌, ◌<◌, ◌∙◌, ℕ, suc, List, [], ◌∷◌, ◌++◌, if◌then◌else◌, Result, Ok, Err, Bool, true, false, nat_eq, cond, refl, ap, sym, arith, length, get_or}
use Rattle.std.specs.Result.{IfOk, is_ok}
use Rattle.std.proofs.lemmas.Str.{inside_one}
use Rattle.std.proofs.Math.Utf8.{encode}
use Rattle.std.proofs.lemmas.List.{append-nil, append_assoc}
use Rattle.starlark_grammar.specs.Tables.{doubled}

pub doubled_append : (xs ys : List ℕ) → doubled (xs ++ ys) ≡ doubled xs ++ doubled ys
doubled_append [] ys = refl
doubled_append (x ∷ xs) ys = go (doubled_append xs ys) (nat_eq x 123) (nat_eq x 125)
  where
    go : doubled (xs ++ ys) ≡ doubled xs ++ doubled ys → (b c : Bool) → cond b (x ∷ x ∷ doubled (xs ++ ys)) (cond c (x ∷ x ∷ doubled (xs ++ ys)) (x ∷ doubled (xs ++ ys))) ≡ cond b (x ∷ x ∷ doubled xs) (cond c (x ∷ x ∷ doubled xs) (x ∷ doubled xs)) ++ doubled ys
    go e true c = ap (λ z. x ∷ x ∷ z) e
    go e false true = ap (λ z. x ∷ x ∷ z) e
    go e false false = ap (λ z. x ∷ z) e

-- one character more
pub next_char : (f g rest : List ℕ) (xs now was : List ℕ) → f ++ doubled was ≡ g → was ≡ xs ++ rest → now ≡ f ++ doubled xs → now ++ doubled rest ≡ g
next_char f g rest xs now was h w e = ap (λ z. z ++ doubled rest) e ∙ append_assoc f (doubled xs) (doubled rest) ∙ ap (λ z. f ++ z) (sym (doubled_append xs rest) ∙ ap doubled (sym w)) ∙ h

no_braces : (xs : List ℕ) → ((k : ℕ) → k < length xs → (nat_eq (get_or xs k 0) 123 ≡ false) × (nat_eq (get_or xs k 0) 125 ≡ false)) → doubled xs ≡ xs
no_braces [] h = refl
no_braces (x ∷ xs) h =
    let p = h 0 (omega arith) in
    ap (λ b. cond b (x ∷ x ∷ doubled xs) (cond (nat_eq x 125) (x ∷ x ∷ doubled xs) (x ∷ doubled xs))) p.0
    ∙ ap (λ b. cond b (x ∷ x ∷ doubled xs) (x ∷ doubled xs)) p.1
    ∙ ap (λ z. x ∷ z) (no_braces xs (λ k l. h (suc k) (omega (arith, l))))

-- a byte of a character is an ASCII one only where it is the whole character
not_inside : (c n k : ℕ) → n < 128 → nat_eq c n ≡ false → k < length (encode c) → nat_eq (get_or (encode c) k 0) n ≡ false
not_inside c n k low h l = go (nat_eq (get_or (encode c) k 0) n) refl
  where
    go : (b : Bool) → nat_eq (get_or (encode c) k 0) n ≡ b → nat_eq (get_or (encode c) k 0) n ≡ false
    go false e = e
    go true e =
        let same : get_or (encode c) k 0 ≡ n = grind arith in
        let w : c ≡ get_or (encode c) k 0 = inside_one c [] (encode c) k (sym (append-nil (encode c))) l (omega (arith, same, low)) in
        absurd (let v : c ≡ n = w ∙ same in grind arith)

pub plain_char : (c : ℕ) → nat_eq c 123 ≡ false → nat_eq c 125 ≡ false → doubled (encode c) ≡ encode c
plain_char c g h = no_braces (encode c) (λ k l. (not_inside c 123 k (omega arith) g l, not_inside c 125 k (omega arith) h l))

unlike : (a b : ℕ) → (a ≡ b → ⊥) → nat_eq a b ≡ false
unlike a b h = grind (arith, h)

-- another character stands once
pub put_once : {A E : Type 0} (r : Result A E) (c : ℕ) (now was : List ℕ) → (c ≡ 123 → ⊥) → (c ≡ 125 → ⊥) → now ≡ (if is_ok r then was ++ encode c else was) → IfOk r (λ u. now ≡ was ++ doubled (encode c))
put_once (Ok u) c now was g h e = e ∙ ap (λ z. was ++ z) (sym (plain_char c (unlike c 123 g) (unlike c 125 h)))
put_once (Err e) c now was g h k = tt
