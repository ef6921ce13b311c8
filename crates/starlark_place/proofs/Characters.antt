-- Texts as lists of characters.
use Rattle.std.proofs.Common.{◌≡◌, ◌<◌, ◌≤◌, ℕ, ◌+◌, ◌-◌, List, [], ◌∷◌, ◌++◌, length, take, drop, refl, ap, sym, ◌∙◌, arith, zero, suc, true, false, eqb, inl, inr}
use Rattle.std.specs.Prelude.{slice_get, None}
use Rattle.std.specs.Str.{IsUtf8, IsCharBoundary, chars}
use Rattle.std.proofs.lemmas.List.{length-append, take-append-drop, take_at, drop_at}
use Rattle.std.proofs.lemmas.Option.{slice_get_past}
use Rattle.std.proofs.lemmas.Str.{chars-append, IsUtf8-take, encodes-chars, encodes-append, length-le-encodes, chars-nil}
use lib.Utf8.{encodes}
use Rattle.std.proofs.lemmas.Bool.{cases_Bool, false≢true}
use Rattle.std.proofs.lemmas.Bool.Decides.{nat_tests}
use Rattle.starlark_place.specs.Strings.{begins_with, matches_from, matches_in, stands_in}
use Rattle.starlark_place.specs.Place.{characters}
use Rattle.starlark_place.proofs.Counts.{characters-chars}

-- so many bytes hold the first characters, and the rest the others
pub record IsOffset (text : List ℕ) (i k : ℕ) : Type 0 where
  pub front : chars (take k text) ≡ take i (chars text)
  pub back : chars (drop k text) ≡ drop i (chars text)
  pub within : i ≤ length (chars text)

pub offset_is : (text : List ℕ) (i k : ℕ) → IsUtf8 text → IsCharBoundary text k → characters (take k text) ≡ i → IsOffset text i k
offset_is text i k u b n =
    let front = IsUtf8-take text k u b in
    let long : length (chars (take k text)) ≡ i = sym (characters-chars (take k text) front) ∙ n in
    let both : chars text ≡ chars (take k text) ++ chars (drop k text) = ap chars (sym (take-append-drop k text)) ∙ chars-append (take k text) (drop k text) front in
    record {
      front = sym (ap (take i) both ∙ take_at (chars (take k text)) (chars (drop k text)) i long);
      back = sym (ap (drop i) both ∙ drop_at (chars (take k text)) (chars (drop k text)) i long);
      within = let e : length (chars text) ≡ length (chars (take k text)) + length (chars (drop k text)) = ap length both ∙ length-append (chars (take k text)) (chars (drop k text)) in omega arith;
    }

pub slice_get-drop : (xs : List ℕ) (i : ℕ) → slice_get (drop i xs) 0 ≡ slice_get xs i
slice_get-drop xs zero = refl
slice_get-drop [] (suc i) = refl
slice_get-drop (x ∷ xs) (suc i) = slice_get-drop xs i

pub none_past : (text : List ℕ) (i : ℕ) → IsUtf8 text → characters text < i → slice_get (chars text) i ≡ None
none_past text i u h = slice_get_past (chars text) i (let e = characters-chars text u in omega arith)

pub begins_with-append : (xs ys : List ℕ) → begins_with xs (xs ++ ys) ≡ true
begins_with-append [] ys = refl
begins_with-append (x ∷ xs) ys = let e : eqb x x ≡ true = grind (arith, nat_tests) in rw e (begins_with-append xs ys)

pub begins_with-split : (xs cs : List ℕ) → begins_with xs cs ≡ true → (ys : List ℕ) × (cs ≡ xs ++ ys)
begins_with-split [] cs = λ h. (cs, refl)
begins_with-split (x ∷ xs) [] = λ h. absurd (false≢true h)
begins_with-split (x ∷ xs) (c ∷ cs) =
    elim (cases_Bool (eqb x c)) [
      | inl e ↦ rw e (λ h. let t = begins_with-split xs cs h in (t.0, (let q : x ≡ c = grind (arith, nat_tests) in let r = t.1 in cc)))
      | inr e ↦ rw e (λ h. absurd (false≢true h))
    ]

-- a text that begins with another has its characters first
pub begins_text : (s n z : List ℕ) → IsUtf8 n → s ≡ n ++ z → chars s ≡ chars n ++ chars z
begins_text s n z u e = ap chars e ∙ chars-append n z u

pub lacks_text : (s n : List ℕ) → IsUtf8 s → IsUtf8 n → ((z : List ℕ) → s ≡ n ++ z → ⊥) → begins_with (chars n) (chars s) ≡ false
lacks_text s n us un lacks =
    elim (cases_Bool (begins_with (chars n) (chars s))) [
      | inl e ↦ absurd (let t = begins_with-split (chars n) (chars s) e in lacks (encodes t.0) (sym (encodes-chars s us) ∙ ap encodes t.1 ∙ encodes-append (chars n) t.0 ∙ ap (λ x. x ++ encodes t.0) (encodes-chars n un)))
      | inr e ↦ e
    ]

-- a count goes on behind the characters that it passes over
pub matches_from-skip : (needle xs ys : List ℕ) (k : ℕ) → length xs ≡ k → matches_from needle k (xs ++ ys) ≡ matches_from needle 0 ys
matches_from-skip needle [] ys zero = λ h. refl
matches_from-skip needle [] ys (suc k) = λ h. absurd (omega arith)
matches_from-skip needle (x ∷ xs) ys zero = λ h. absurd (omega arith)
matches_from-skip needle (x ∷ xs) ys (suc k) = λ h. matches_from-skip needle xs ys k (omega arith)

pub matches_from-le : (needle : List ℕ) (k : ℕ) (cs : List ℕ) → matches_from needle k cs ≤ length cs
matches_from-le needle k [] = omega arith
matches_from-le needle zero (c ∷ cs) =
    elim (cases_Bool (begins_with needle (c ∷ cs))) [
      | inl e ↦ rw e (let h = matches_from-le needle (length needle - 1) cs in omega arith)
      | inr e ↦ rw e (let h = matches_from-le needle 0 cs in omega arith)
    ]
matches_from-le needle (suc k) (c ∷ cs) = let h = matches_from-le needle k cs in omega arith

-- a match, and what stands behind it
pub matches_in-yes : (needle cs rest : List ℕ) → 0 < length needle → cs ≡ needle ++ rest → matches_in needle cs ≡ suc (matches_in needle rest)
matches_in-yes [] cs rest some e = absurd (omega arith)
matches_in-yes (n ∷ ns) cs rest some e =
    ap (matches_from (n ∷ ns) 0) e ∙ rw (begins_with-append (n ∷ ns) rest) (ap suc (matches_from-skip (n ∷ ns) ns rest (length (n ∷ ns) - 1) (omega arith)))

pub matches_in-le : (needle cs : List ℕ) → 0 < length needle → matches_in needle cs ≤ length cs
matches_in-le [] cs some = absurd (omega arith)
matches_in-le (n ∷ ns) cs some = matches_from-le (n ∷ ns) 0 cs

some_chars : (s cs : List ℕ) → encodes cs ≡ s → 0 < length s → 0 < length cs
some_chars s [] e h = absurd (let l = ap length e in omega arith)
some_chars s (c ∷ cs) e h = omega arith

pub chars-nonempty : (s : List ℕ) → IsUtf8 s → 0 < length s → 0 < length (chars s)
chars-nonempty s u h = some_chars s (chars s) (encodes-chars s u) h

pub chars-short : (s : List ℕ) → IsUtf8 s → length (chars s) ≤ length s
chars-short s u = let h = length-le-encodes (chars s) in let e = ap length (encodes-chars s u) in omega arith

pub chars-empty : (s : List ℕ) → length s ≡ 0 → chars s ≡ []
chars-empty [] h = chars-nil
chars-empty (b ∷ bs) h = absurd (omega arith)

pub stands_in-yes : (needle cs : List ℕ) → begins_with needle cs ≡ true → stands_in needle cs ≡ true
stands_in-yes needle [] h = h
stands_in-yes needle (c ∷ cs) h = rw h refl
