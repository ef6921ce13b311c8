use Rattle.std.proofs.Common.{◌≡◌, ◌<◌, ◌≤◌, ℕ, ◌+◌, ◌-◌, List, ◌++◌, length, drop, get_or, ap, ◌∙◌, sym, arith, inl, inr, ltb, ◌⊎◌, subst, refl, get_or-drop}
use lib.Utf8.{encode}
use Rattle.std.specs.Char.{encode_utf8}
use Rattle.std.specs.Str.{IsCharBoundary}
use Rattle.std.proofs.lemmas.Bool.{cases_Bool}
use Rattle.std.proofs.lemmas.Bool.Decides.{nat_tests}
use Rattle.starlark_place.specs.Cursor.{at, IsNext}
use Rattle.starlark_place.proofs.cursor.CursorChars.unnext.Goals as goal

first_byte : (c : ℕ) (r : List ℕ) → (get_or (encode c ++ r) 0 0 < 128) ⊎ (192 ≤ get_or (encode c ++ r) 0 0)
unfolding encode
first_byte c r =
    elim (cases_Bool (ltb c 128)) [
      | inl e ↦ rw e (inl (grind (arith, nat_tests)))
      | inr e ↦ rw e (elim (cases_Bool (ltb c 2048)) [
        | inl f ↦ rw f (inr (omega arith))
        | inr f ↦ rw f (elim (cases_Bool (ltb c 65536)) [ inl g ↦ rw g (inr (omega arith)) | inr g ↦ rw g (inr (omega arith)) ])
      ])
    ]

boundary : (text r : List ℕ) (k c : ℕ) → k ≤ length text → drop k text ≡ encode c ++ r → IsCharBoundary text k
boundary text r k c within e =
    let d = get_or-drop k text 0 0 in
    let f = ap (λ xs. get_or xs 0 0) e in
    let z : k + 0 ≡ k = omega arith in
    let g : get_or text k 0 ≡ get_or (encode c ++ r) 0 0 = ap (λ i. get_or text i 0) (sym z) ∙ (sym d ∙ f) in
    (within, λ less high. elim (first_byte c r) [ inl low ↦ absurd (omega arith) | inr lead ↦ omega arith ])

at_same : (s t : List ℕ) (p q : ℕ) → s ≡ t → p ≡ q → at s p ≡ at t q
at_same s t p q e f = rw (e, f) refl

place_is : (c : goal.After-self-1) → at c.self.inside.text.now (c.self.inside.place - c.len_utf8.result) ≡ at c.args.self.now.text (c.args.self.now.place - length (encode c.args.c))
place_is c =
    at_same _ _ _ _ (ap (λ a. a.text) c.self.view_is) (let p = ap (λ a. a.place) c.self.view_is in let n = c.len_utf8.ensures.len in omega arith)

stands : (c : goal.After-self-1) → IsNext (at c.args.self.now.text (c.args.self.now.place - length (encode_utf8 c.args.c))) c.args.c c.args.self.now
stands c =
    let h = c.requires.1 in
    subst (λ b. IsNext b c.args.c c.args.self.now) (at_same _ _ _ _ (sym h.text) (let p = h.place in omega arith)) h

pub invariant_of-self : goal.invariant_of-self
invariant_of-self c =
    boundary c.self.inside.text.now (drop c.args.self.now.place c.args.self.now.text) (c.self.inside.place - c.len_utf8.result) c.args.c (omega (arith, c.self.invariant.0))
    (rw (ap (λ a. a.text) (place_is c), ap (λ a. a.place) (place_is c)) (stands c).stands)

pub returns : goal.returns
returns c = subst (λ h. IsNext h c.args.c c.args.self.now) (sym (place_is c)) (stands c)
