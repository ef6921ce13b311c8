-- A word that no fixed one begins like, or that has another length, is none of them.
use Rattle.std.proofs.Common.{◌≡◌, ℕ, Bool, true, false, ◌&&◌, List, [], ◌∷◌, map, refl, ap, sym, ◌∙◌, inl, inr}
use Rattle.std.specs.Prelude.{None}
use Rattle.std.proofs.lemmas.Bool.{cases_Bool, false≢true, and_parts}
use Rattle.std.proofs.lemmas.Slice.Eq.{bytes_eq-Decides}
use Rattle.std.specs.List.{list_any}
use Rattle.std.specs.Str.{bytes_eq}
use Rattle.starlark_lexer.specs.declared.words.Keyword.{Keyword}
use Rattle.starlark_lexer.specs.declared.words.TheConstants.{KEYWORDS, RESERVED}
use Rattle.starlark_lexer.specs.declared.scan.Found.TheVariants as found
use Rattle.starlark_lexer.specs.declared.scan.Kind.TheVariants as kind
use Rattle.starlark_lexer.specs.Classes.{lookup, keyword_of, is_reserved}
use Rattle.starlark_lexer.specs.Scan.{word}
use Rattle.starlark_lexer.specs.FirstBytes.{may_be_fixed}

other_text : (r w : List ℕ) → may_be_fixed r ≡ true → may_be_fixed w ≡ false → bytes_eq r w ≡ false
other_text r w h e =
    elim (cases_Bool (bytes_eq r w)) [ inr n ↦ n | inl y ↦ absurd (false≢true (sym e ∙ ap may_be_fixed (sym ((bytes_eq-Decides r w).0 y)) ∙ h)) ]

abbrev all_fixed : List (List ℕ × Keyword) → Bool
all_fixed [] = true
all_fixed (r ∷ rs) = may_be_fixed r.0 && all_fixed rs

not_found : (rs : List (List ℕ × Keyword)) (w : List ℕ) → all_fixed rs ≡ true → may_be_fixed w ≡ false → lookup rs w ≡ None
not_found [] w h e = refl
not_found (r ∷ rs) w h e = let x = and_parts (may_be_fixed r.0) (all_fixed rs) h in let n = other_text r.0 w x.0 e in rw n (not_found rs w x.1 e)

module _ {X : Type 0} (text : X → List ℕ) where
  abbrev all_kept : List X → Bool
  all_kept [] = true
  all_kept (k ∷ ks) = may_be_fixed (text k) && all_kept ks

  not_kept : (ks : List X) (w : List ℕ) → all_kept ks ≡ true → may_be_fixed w ≡ false → list_any (λ k. bytes_eq (text k) w) ks ≡ false
  not_kept [] w h e = refl
  not_kept (k ∷ ks) w h e = let x = and_parts (may_be_fixed (text k)) (all_kept ks) h in let n = other_text (text k) w x.0 e in rw n (not_kept ks w x.1 e)

no_keyword : (w : List ℕ) → may_be_fixed w ≡ false → keyword_of w ≡ None
unfolding keyword_of
no_keyword w e = not_found (map (λ r. (r.0.now, r.1)) KEYWORDS) w refl e

not_reserved : (w : List ℕ) → may_be_fixed w ≡ false → is_reserved w ≡ false
unfolding is_reserved
not_reserved w e = not_kept (λ k. k.now) RESERVED w refl e

pub word_free : (w : List ℕ) → may_be_fixed w ≡ false → found.Kind kind.Word ≡ word w
word_free w e = let k = no_keyword w e in let r = not_reserved w e in rw (k, r) refl
