-- An operator of one byte goes first where no byte behind it stands second in an operator.
use Rattle.std.proofs.Common.{◌≡◌, ◌<◌, ℕ, Bool, true, false, not, cond, ◌&&◌, List, [], ◌∷◌, length, take, drop, get_or, refl, ap, sym, ◌∙◌, arith, inl, inr}
use Rattle.std.specs.Prelude.{Option, Some, None, IfSome, nat_eq}
use Rattle.std.proofs.lemmas.Bool.{cases_Bool, false≢true, and_parts}
use Rattle.std.proofs.lemmas.Slice.Eq.{bytes_eq-Decides}
use Rattle.std.specs.List.{starts_with}
use Rattle.std.specs.Str.{bytes_eq}
use Rattle.starlark_lexer.specs.declared.words.Operator.{Operator}
use Rattle.starlark_lexer.specs.Classes.{lookup, operators, operator_of}
use Rattle.starlark_lexer.specs.Scan.{first_row}
use Rattle.starlark_lexer.specs.FirstBytes.{is_second}
use Rattle.starlark_lexer.proofs.Tables.{Row}

-- the row has a byte, and its second one, if it has one, is one of those
abbrev second_in : List ℕ → Bool
second_in [] = false
second_in (c ∷ []) = true
second_in (c ∷ d ∷ cs) = is_second d

abbrev all_in : List Row → Bool
all_in [] = true
all_in (r ∷ rs) = second_in r.0 && all_in rs

-- nothing stands there that is second in an operator
abbrev pub ends_single : List ℕ → Bool
ends_single [] = true
ends_single (d ∷ ds) = not (is_second d)

none : (w xs : List ℕ) → (w ≡ xs → ⊥) → bytes_eq w xs ≡ false
none w xs h = elim (cases_Bool (bytes_eq w xs)) [ inr e ↦ e | inl e ↦ absurd (h ((bytes_eq-Decides w xs).0 e)) ]

row_alone : (w : List ℕ) (b : ℕ) (rest : List ℕ) → second_in w ≡ true → ends_single rest ≡ true → starts_with nat_eq (b ∷ rest) w ≡ bytes_eq w (b ∷ [])
row_alone [] b rest h e = absurd (false≢true h)
row_alone (c ∷ []) b rest h e = refl
row_alone (c ∷ d ∷ cs) b [] h e = refl
row_alone (c ∷ d ∷ cs) b (y ∷ ys) h e =
    none (c ∷ d ∷ cs) (take (length (c ∷ d ∷ cs)) (b ∷ y ∷ ys)) (λ s. false≢true (sym (ap not (ap is_second (sym (ap (λ w. get_or w 1 0) s)) ∙ h)) ∙ e))
    ∙ sym (none (c ∷ d ∷ cs) (b ∷ []) (λ s. omega (arith, ap length s)))

first_alone : (table : List Row) (b : ℕ) (rest : List ℕ) (o : Operator) → all_in table ≡ true → ends_single rest ≡ true → lookup table (b ∷ []) ≡ Some o → first_row table (b ∷ rest) ≡ Some (o, 1)
first_alone [] b rest o h e f = cc
first_alone (r ∷ rs) b rest o h e f =
    let x = and_parts (second_in r.0) (all_in rs) h in
    let same = row_alone r.0 b rest x.0 e in
    elim (cases_Bool (bytes_eq r.0 (b ∷ []))) [
      | inl t ↦
          let is : r.1 ≡ o = cc in
          let len : length r.0 ≡ 1 = ap length ((bytes_eq-Decides r.0 (b ∷ [])).0 t) in
          ap (λ c. cond c (Some (r.1, length r.0)) (first_row rs (b ∷ rest))) (same ∙ t) ∙ (λ j. Some (is j, len j))
      | inr n ↦
          let later : lookup rs (b ∷ []) ≡ Some o = ap (λ c. cond c (Some r.1) (lookup rs (b ∷ []))) (sym n) ∙ f in
          ap (λ c. cond c (Some (r.1, length r.0)) (first_row rs (b ∷ rest))) (same ∙ n) ∙ first_alone rs b rest o x.1 e later
    ]

pub operator_alone : (b : ℕ) (rest : List ℕ) (o : Operator) → ends_single rest ≡ true → operator_of (b ∷ []) ≡ Some o → first_row operators (b ∷ rest) ≡ Some (o, 1)
unfolding operator_of
operator_alone b rest o e f = first_alone operators b rest o refl e f

-- ---- the same of a text that has a byte

pub single_of : (xs : List ℕ) (r : Option Operator) → 0 < length xs → ends_single (drop 1 xs) ≡ true → IfSome r (λ o. operator_of (get_or xs 0 0 ∷ []) ≡ Some o) → IfSome r (λ o. first_row operators xs ≡ Some (o, 1))
single_of [] r h e i = absurd (omega (arith, h))
single_of (b ∷ bs) None h e i = i
single_of (b ∷ bs) (Some o) h e i = operator_alone b bs o e i

pub ends_one : (xs : List ℕ) → length xs ≡ 1 → ends_single (drop 1 xs) ≡ true
ends_one [] h = absurd (omega (arith, h))
ends_one (b ∷ []) h = refl
ends_one (b ∷ c ∷ bs) h = absurd (omega (arith, h))

pub ends_more : (xs : List ℕ) → 1 < length xs → is_second (get_or xs 1 0) ≡ false → ends_single (drop 1 xs) ≡ true
ends_more [] h e = absurd (omega (arith, h))
ends_more (b ∷ []) h e = absurd (omega (arith, h))
ends_more (b ∷ c ∷ bs) h e = ap not e
