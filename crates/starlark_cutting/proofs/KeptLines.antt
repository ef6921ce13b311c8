-- What a text begins with is the same where its front is kept and other bytes are put behind it.
use Rattle.std.proofs.Common.{◌≡◌, ◌<◌, ◌≤◌, ◌⊎◌, ℕ, ◌+◌, ◌-◌, Bool, true, false, cond, ◌&&◌, List, [], ◌∷◌, ◌++◌, length, take, drop, get_or, refl, ap, sym, ◌∙◌, arith, zero, suc, inl, inr, eqb, ltb, subst, length-append, length-drop, one-add}
use Rattle.std.specs.Prelude.{Option, Some, None}
use Rattle.std.proofs.lemmas.Bool.{cases_Bool, cases_lt}
use Rattle.std.proofs.lemmas.Bool.Decides.{nat_tests}
use Rattle.std.proofs.lemmas.List.{get_or-take, get_or_append_left, length-take-le}
use Rattle.starlark_lexer.specs.declared.token.LexemeError.TheVariants.{InvalidInput}
use Rattle.starlark_lexer.specs.Literals.{opening_of, prefix_of, quote_of, letters, opened}
use Rattle.starlark_lexer.specs.Classes.{Meaning, meaning, token, refused, opens, operator_of, is_other, when, IsLexeme, begins_line, line_end, line_len, escaped, closes_field}
use Rattle.starlark_lexer.proofs.Clean.{clean, stop_none}
use Rattle.starlark_cutting.proofs.KeptBodies.{take_kept}
use Rattle.starlark_cutting.proofs.KeptRemarks.{len_zero, len_more, end_two}
use Rattle.starlark_lexer.proofs.JoinedBodies.{Ended}
use Rattle.starlark_lexer.proofs.JoinedLines.{last_of}
use Rattle.starlark_lexer.proofs.Joined.{ended_some}

-- a blank or a line feed stands first
abbrev pub Stops : List ℕ → Type 0
Stops [] = ⊥
Stops (b ∷ bs) = clean b ≡ false

-- no lexeme reaches over the end of what is kept
abbrev pub Barred : List ℕ → List ℕ → Type 0
Barred u s = Stops s ⊎ Ended u

-- ---- lexemes

at_end : (u : List ℕ) (b : ℕ) (bs : List ℕ) → get_or (u ++ b ∷ bs) (length u) 0 ≡ b
at_end [] b bs = refl
at_end (x ∷ u) b bs = let e : length (x ∷ u) ≡ suc (length u) = omega arith in ap (λ k. get_or (x ∷ u ++ b ∷ bs) k 0) e ∙ at_end u b bs

pub past_none : (u s : List ℕ) (k : ℕ) → Barred u s → length u < k → k ≤ length (u ++ s) → meaning (take k (u ++ s)) ≡ None
past_none u [] k (inl h) far fits = absurd h
past_none u (b ∷ bs) k (inl h) far fits =
    let len = length-take-le k (u ++ b ∷ bs) fits in
    stop_none (take k (u ++ b ∷ bs)) (length u) (omega (arith, len, far)) (ap clean (get_or-take k (u ++ b ∷ bs) (length u) 0 (omega (arith, far)) ∙ at_end u b bs) ∙ h)
past_none u s k (inr h) far fits =
    let len = length-take-le k (u ++ s) fits in
    let some = ended_some u h in
    stop_none (take k (u ++ s)) (length u - 1) (omega (arith, len, far))
    (ap clean (get_or-take k (u ++ s) (length u - 1) 0 (omega (arith, far)) ∙ get_or_append_left u s 0 (length u - 1) (omega (arith, some)) ∙ last_of u h))

-- a lexeme is one with other bytes behind it where none reaches over what is kept
pub lexeme_longest : (u v s : List ℕ) (n : ℕ) (m : Meaning) → IsLexeme (u ++ v) n m → n ≤ length u → ((k : ℕ) → length u < k → k ≤ length (u ++ s) → meaning (take k (u ++ s)) ≡ None) → IsLexeme (u ++ s) n m
lexeme_longest u v s n m h le none = record {
  nonempty = h.nonempty;
  within = omega (arith, le, length-append u s);
  means = ap meaning (take_kept (u ++ v) u v s n refl le) ∙ h.means;
  longest = λ k more fits. elim (cases_lt (length u) k) [
    | inr l ↦ ap meaning (take_kept (u ++ v) u v s k refl l) ∙ h.longest k more (omega (arith, l, length-append u v))
    | inl far ↦ none k far fits
  ];
}

pub lexeme_kept : (u v s : List ℕ) (n : ℕ) (m : Meaning) → IsLexeme (u ++ v) n m → n ≤ length u → Barred u s → IsLexeme (u ++ s) n m
lexeme_kept u v s n m h le bar = lexeme_longest u v s n m h le (λ k far fits. past_none u s k bar far fits)

-- ---- a backslash begins none

abbrev Refused : Option Meaning → Type 0
Refused None = Unit {0}
Refused (Some (token x)) = ⊥
Refused (Some (refused e)) = Unit {0}
Refused (Some (opens f)) = ⊥

abbrev pub Accepts : Meaning → Type 0
Accepts (token x) = Unit {0}
Accepts (refused e) = ⊥
Accepts (opens f) = Unit {0}

prefix_none : (ys : List ℕ) → prefix_of (92 ∷ ys) ≡ None
prefix_none [] = refl
prefix_none (b ∷ []) = refl
prefix_none (b ∷ c ∷ w) = refl

opening_none : (w : List ℕ) → opening_of (92 ∷ w) ≡ None
unfolding opening_of
opening_none w = rw one-add (ap (λ p. opened p (quote_of (drop (letters w) w))) (prefix_none (take (letters w) w)))

operator_none : (w : List ℕ) → operator_of (92 ∷ w) ≡ None
unfolding operator_of
operator_none w = refl

when_refused : (t : Bool) → Refused (when t (refused InvalidInput))
when_refused true = tt
when_refused false = tt

backslash : (w : List ℕ) → Refused (meaning (92 ∷ w))
unfolding meaning
backslash w = let o = opening_none w in let p = operator_none w in rw (o, p) (when_refused (is_other (92 ∷ w)))

refused_not : (m : Meaning) → Accepts m → Refused (Some m) → ⊥
refused_not (token x) a r = r
refused_not (refused e) a r = a
refused_not (opens f) a r = r

pub first_not : (b : ℕ) (bs : List ℕ) (n : ℕ) (m : Meaning) → IsLexeme (b ∷ bs) n m → Accepts m → eqb b 92 ≡ false
first_not b bs zero m h a = absurd (omega (arith, h.nonempty))
first_not b bs (suc n) m h a = elim (cases_Bool (eqb b 92)) [
  | inr f ↦ f
  | inl t ↦
      let e : b ≡ 92 = grind (arith, nat_tests) in
      absurd (refused_not m a (subst Refused (ap (λ c. meaning (c ∷ take n bs)) (sym e) ∙ h.means) (backslash (take n bs))))
]

pub unescaped : (b : ℕ) (bs : List ℕ) → eqb b 92 ≡ false → escaped (b ∷ bs) ≡ 0
unfolding escaped
unescaped b bs e = rw e refl

-- ---- fields

pub closes_kept : (u v s : List ℕ) → 1 < length u → closes_field (u ++ s) ≡ closes_field (u ++ v)
closes_kept [] v s h = absurd (omega (arith, h))
closes_kept (b ∷ []) v s h = absurd (omega (arith, h))
closes_kept (b ∷ c ∷ u) v s h = refl

-- ---- escaped line ends

pub escaped_kept : (u v s : List ℕ) → 0 < escaped (u ++ v) → escaped (u ++ v) ≤ length u → escaped (u ++ s) ≡ escaped (u ++ v)
unfolding escaped line_end
escaped_kept [] v s some h = absurd (omega (arith, some, h))
escaped_kept (b ∷ []) v s some h = absurd (never (line_end v) (eqb b 92) some h)
  where
    never : (n : ℕ) (t : Bool) → 0 < cond (t && ltb 0 n) (n + 1) 0 → cond (t && ltb 0 n) (n + 1) 0 ≤ 1 → ⊥
    never zero true some h = omega (arith, some)
    never zero false some h = omega (arith, some)
    never (suc n) true some h = let e : ltb 0 (suc n) ≡ true = grind (arith, nat_tests) in let k : suc n + 1 ≤ 1 = rw e at h in omega (arith, k)
    never (suc n) false some h = omega (arith, some)
escaped_kept (b ∷ c ∷ []) v s some h = elim (cases_Bool (eqb c 10)) [
  | inl t ↦ rw t refl
  | inr f ↦ absurd (let x = rw f at some in let y = rw f at h in never (eqb b 92) (eqb c 13 && begins_line v) x y)
]
  where
    never : (a t : Bool) → 0 < cond (a && ltb 0 (cond t 2 0)) (cond t 2 0 + 1) 0 → cond (a && ltb 0 (cond t 2 0)) (cond t 2 0 + 1) 0 ≤ 2 → ⊥
    never true true some h = omega (arith, h)
    never true false some h = omega (arith, some)
    never false true some h = omega (arith, some)
    never false false some h = omega (arith, some)
escaped_kept (b ∷ c ∷ d ∷ u) v s some h = refl

-- ---- comments

-- something is left, and no CR alone
pub record Holds (w : List ℕ) : Type 0 where
  pub some : 0 < length w
  pub not_cr : w ≡ 13 ∷ [] → ⊥

pub holds_drop : (k : ℕ) (u : List ℕ) → Holds (drop k u) → Holds u
holds_drop zero [] h = absurd (let s = h.some in omega (arith, s))
holds_drop zero (b ∷ u) h = h
holds_drop (suc k) u h =
    let s = h.some in
    record { some = omega (arith, s, length-drop (suc k) u); not_cr = λ e. omega (arith, s, length-drop (suc k) u, ap length e) }

end_one : (b : ℕ) (v : List ℕ) → eqb b 13 ≡ false → line_end (b ∷ v) ≡ cond (eqb b 10) 1 0
unfolding line_end
end_one b v e = rw e refl

not_cr : (b : ℕ) → (b ∷ [] ≡ 13 ∷ [] → ⊥) → eqb b 13 ≡ false
not_cr b h = elim (cases_Bool (eqb b 13)) [ inr f ↦ f | inl t ↦ let e : b ≡ 13 = grind (arith, nat_tests) in absurd (h (ap (λ c. c ∷ []) e)) ]

-- a comment that ends before what is left
pub len_kept : (u v s : List ℕ) → Holds (drop (line_len (u ++ v)) u) → line_len (u ++ s) ≡ line_len (u ++ v)
len_kept [] v s h = absurd (let k = h.some in omega (arith, k, length-drop {A = ℕ} (line_len v) []))
len_kept (b ∷ []) v s h = elim (cases_Bool (eqb (line_end (b ∷ v)) 0)) [
  | inl t ↦
      let n : line_len (b ∷ v) ≡ suc (line_len v) = len_more b v t in
      absurd (let k = h.some in omega (arith, k, length-drop (line_len (b ∷ v)) (b ∷ []), n))
  | inr f ↦
      let n : line_len (b ∷ v) ≡ 0 = len_zero b v f in
      let e = not_cr b (λ q. h.not_cr (ap (λ k. drop k (b ∷ [])) n ∙ q)) in
      let f2 : eqb (line_end (b ∷ s)) 0 ≡ false = ap (λ x. eqb x 0) (end_one b s e ∙ sym (end_one b v e)) ∙ f in
      len_zero b s f2 ∙ sym n
]
len_kept (b ∷ c ∷ u) v s h = elim (cases_Bool (eqb (line_end (b ∷ c ∷ u ++ v)) 0)) [
  | inl t ↦
      let n : line_len (b ∷ c ∷ u ++ v) ≡ suc (line_len (c ∷ u ++ v)) = len_more b (c ∷ u ++ v) t in
      let t2 : eqb (line_end (b ∷ c ∷ u ++ s)) 0 ≡ true = ap (λ x. eqb x 0) (end_two b c (u ++ s) (u ++ v)) ∙ t in
      len_more b (c ∷ u ++ s) t2 ∙ ap suc (len_kept (c ∷ u) v s (subst Holds (ap (λ k. drop k (b ∷ c ∷ u)) n) h)) ∙ sym n
  | inr f ↦
      let n : line_len (b ∷ c ∷ u ++ v) ≡ 0 = len_zero b (c ∷ u ++ v) f in
      let f2 : eqb (line_end (b ∷ c ∷ u ++ s)) 0 ≡ false = ap (λ x. eqb x 0) (end_two b c (u ++ s) (u ++ v)) ∙ f in
      len_zero b (c ∷ u ++ s) f2 ∙ sym n
]
