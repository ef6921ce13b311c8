-- What the ends of a text say.
use Rattle.std.proofs.Common.{◌≡◌, ℕ, ◌-◌, List, [], ◌∷◌, ◌++◌, length, take, drop, Bool, true, false, ap, sym, ◌∙◌, append_assoc, eqb, inl, inr}
use Rattle.std.proofs.lemmas.Bool.{cases_Bool, false≢true}
use Rattle.std.proofs.lemmas.Bool.Decides.{Decides-eqb}
use Rattle.std.proofs.lemmas.List.{append_cancel_right}
use Rattle.std.proofs.lemmas.Slice.Eq.{ends_is}
use Rattle.std.specs.Cmp.Lexicographic.{pointwise}
use Rattle.starlark_lexer.specs.Joining.{IsClosed}

-- the test that a text ends in p
abbrev pub Tests : Bool → List ℕ → List ℕ → Type 0
Tests r s p = r ≡ pointwise eqb p (drop (length s - length p) s)

one : (text : List ℕ) (r : Bool) → Tests r text (10 ∷ []) → (r ≡ true → text ≡ take (length text - 1) text ++ 10 ∷ []) × ((front : List ℕ) → text ≡ front ++ 10 ∷ [] → r ≡ true)
one text r h = ends_is Decides-eqb text (10 ∷ []) r h

two : (text : List ℕ) (r : Bool) → Tests r text (92 ∷ 10 ∷ []) → (r ≡ true → text ≡ take (length text - 2) text ++ 92 ∷ 10 ∷ []) × ((front : List ℕ) → text ≡ front ++ 92 ∷ 10 ∷ [] → r ≡ true)
two text r h = ends_is Decides-eqb text (92 ∷ 10 ∷ []) r h

three : (text : List ℕ) (r : Bool) → Tests r text (92 ∷ 13 ∷ 10 ∷ []) → (r ≡ true → text ≡ take (length text - 3) text ++ 92 ∷ 13 ∷ 10 ∷ []) × ((front : List ℕ) → text ≡ front ++ 92 ∷ 13 ∷ 10 ∷ [] → r ≡ true)
three text r h = ends_is Decides-eqb text (92 ∷ 13 ∷ 10 ∷ []) r h

pub closed : (text : List ℕ) (r s t : Bool) → Tests r text (10 ∷ []) → Tests s text (92 ∷ 10 ∷ []) → Tests t text (92 ∷ 13 ∷ 10 ∷ []) → r ≡ true → s ≡ false → t ≡ false → IsClosed text
closed text r s t h k m a b c = record {
  front = take (length text - 1) text;
  line_feed = (one text r h).0 a;
  not_escaped = λ more e. false≢true (sym b ∙ (two text s k).1 more ((one text r h).0 a ∙ ap (λ w. w ++ 10 ∷ []) e ∙ append_assoc more (92 ∷ []) (10 ∷ [])));
  not_escaped_cr = λ more e. false≢true (sym c ∙ (three text t m).1 more ((one text r h).0 a ∙ ap (λ w. w ++ 10 ∷ []) e ∙ append_assoc more (92 ∷ 13 ∷ []) (10 ∷ [])));
}

pub no_escape : (text : List ℕ) (s : Bool) → Tests s text (92 ∷ 10 ∷ []) → IsClosed text → s ≡ false
no_escape text s k c = elim (cases_Bool s) [
  | inr e ↦ e
  | inl e ↦
      let w : List ℕ = take (length text - 2) text in
      elim (c.not_escaped w (append_cancel_right c.front (w ++ 92 ∷ []) (10 ∷ []) (sym c.line_feed ∙ (two text s k).0 e ∙ sym (append_assoc w (92 ∷ []) (10 ∷ []))))) [ ]
]

pub no_escape_cr : (text : List ℕ) (t : Bool) → Tests t text (92 ∷ 13 ∷ 10 ∷ []) → IsClosed text → t ≡ false
no_escape_cr text t m c = elim (cases_Bool t) [
  | inr e ↦ e
  | inl e ↦
      let w : List ℕ = take (length text - 3) text in
      elim (c.not_escaped_cr w (append_cancel_right c.front (w ++ 92 ∷ 13 ∷ []) (10 ∷ []) (sym c.line_feed ∙ (three text t m).0 e ∙ sym (append_assoc w (92 ∷ 13 ∷ []) (10 ∷ []))))) [ ]
]
