-- Between items stand only blanks, line feeds and escaped line ends.
use Rattle.std.proofs.Common.{◌≡◌, ◌<◌, ◌≤◌, ℕ, ◌+◌, ◌-◌, Bool, true, false, ◌&&◌, List, [], ◌∷◌, ◌++◌, length, drop, refl, ap, sym, ◌∙◌, arith, zero, suc, inl, inr, eqb, ltb, subst, one-add, length-drop}
use Rattle.std.specs.Prelude.{Option, Some, None}
use Rattle.std.proofs.lemmas.Bool.{cases_Bool, cases_lt, false≢true, and_parts}
use Rattle.std.proofs.lemmas.Bool.Decides.{nat_tests}
use Rattle.std.proofs.lemmas.List.{drop-drop}
use Rattle.std.proofs.lemmas.List.Sums.{prefix_len-le-length}
use Rattle.starlark_lexer.specs.declared.literal.Ending.TheVariants as ending
use Rattle.starlark_lexer.specs.Items.{Lexeme, Item, Stop, Lexed, dedents}
use Rattle.starlark_lexer.specs.Literals.{quotes}
use Rattle.starlark_lexer.specs.Classes.{is_blank, leading, line_end, line_len, escaped, begins_line}
use Rattle.starlark_lexer.specs.Lex.{Mode, Past, Move, Step, Lex, on, over, start, moved, gives, deepened, fitted, turns, goes_on, is_over}
use Rattle.starlark_lexer.specs.Lex as rules
use Rattle.starlark_lexer.specs.Order.{begins_gap, IsPassed, Covers}
use Rattle.starlark_lexer.proofs.Ordered.{inside, short, escaped_most}
use Rattle.starlark_lexer.proofs.Gaps.{line_end_within, line_len_within}

-- ---- stretches that are passed over

none_passed : (text : List ℕ) (i j : ℕ) → j ≤ i → IsPassed text i j
none_passed text i j le = record { each = λ k low high. absurd (omega (arith, le, low, high)) }

both_passed : (text : List ℕ) (i j n : ℕ) → IsPassed text i j → IsPassed text j n → IsPassed text i n
both_passed text i j n a b = record { each = λ k low high. elim (cases_lt k j) [ inl before ↦ a.each k low before | inr behind ↦ b.each k behind high ] }

earlier : (text : List ℕ) (i j : ℕ) (xs : List Item) (f : Option Stop) → IsPassed text i j → Covers text j xs f → Covers text i xs f
earlier text i j [] None h c = both_passed text i j _ h c
earlier text i j [] (Some s) h c = c
earlier text i j (x ∷ xs) f h c = (both_passed text i j _ h c.0, c.1)

gap_blank : (b : ℕ) (bs : List ℕ) → is_blank b ≡ true → begins_gap (b ∷ bs) ≡ true
gap_blank b bs h = rw h refl

leading_gap : (rest : List ℕ) (k : ℕ) → k < leading rest → begins_gap (drop k rest) ≡ true
leading_gap [] k lt = absurd (omega (arith, lt))
leading_gap (b ∷ bs) zero lt = elim (cases_Bool (is_blank b)) [ inl t ↦ gap_blank b bs t | inr f ↦ absurd (let n : 0 < 0 = rw f at lt in omega (arith, n)) ]
leading_gap (b ∷ bs) (suc k) lt = elim (cases_Bool (is_blank b)) [
  | inl t ↦ leading_gap bs k (let n : suc k < 1 + leading bs = rw t at lt in omega (arith, n))
  | inr f ↦ absurd (let n : suc k < 0 = rw f at lt in omega (arith, n))
]

line_feed_gap : (b : ℕ) (bs : List ℕ) → eqb b 10 ≡ true → begins_gap (b ∷ bs) ≡ true
line_feed_gap b bs h = let n : is_blank b ≡ false = grind (arith, nat_tests) in rw (n, h) refl

return_gap : (b : ℕ) (bs : List ℕ) → eqb b 13 ≡ true → begins_gap (b ∷ bs) ≡ true
return_gap b bs h = let n : is_blank b ≡ true = grind (arith, nat_tests) in rw n refl

line_end_gap : (xs : List ℕ) (k : ℕ) → k < line_end xs → begins_gap (drop k xs) ≡ true
unfolding line_end
line_end_gap [] k lt = absurd (omega (arith, lt))
line_end_gap (b ∷ bs) zero lt = elim (cases_Bool (eqb b 10)) [
  | inl t ↦ line_feed_gap b bs t
  | inr f ↦ elim (cases_Bool (eqb b 13 && begins_line bs)) [
    | inl g ↦ return_gap b bs (and_parts _ _ g).0
    | inr g ↦ absurd (let n : 0 < 0 = rw (f, g) at lt in omega (arith, n))
  ]
]
line_end_gap (b ∷ bs) (suc zero) lt = elim (cases_Bool (eqb b 10)) [
  | inl t ↦ absurd (let n : 1 < 1 = rw t at lt in omega (arith, n))
  | inr f ↦ elim (cases_Bool (eqb b 13 && begins_line bs)) [
    | inl g ↦ second bs (and_parts _ _ g).1
    | inr g ↦ absurd (let n : 1 < 0 = rw (f, g) at lt in omega (arith, n))
  ]
]
  where
    second : (bs : List ℕ) → begins_line bs ≡ true → begins_gap (drop 0 bs) ≡ true
    second [] h = absurd (false≢true h)
    second (c ∷ cs) h = line_feed_gap c cs h
line_end_gap (b ∷ bs) (suc (suc k)) lt = elim (cases_Bool (eqb b 10)) [
  | inl t ↦ absurd (let n : suc (suc k) < 1 = rw t at lt in omega (arith, n))
  | inr f ↦ elim (cases_Bool (eqb b 13 && begins_line bs)) [
    | inl g ↦ absurd (let n : suc (suc k) < 2 = rw (f, g) at lt in omega (arith, n))
    | inr g ↦ absurd (let n : suc (suc k) < 0 = rw (f, g) at lt in omega (arith, n))
  ]
]

escape_gap : (b : ℕ) (bs : List ℕ) → (eqb b 92 && ltb 0 (line_end bs)) ≡ true → begins_gap (b ∷ bs) ≡ true
escape_gap b bs h =
    let e = (and_parts (eqb b 92) (ltb 0 (line_end bs)) h).0 in
    let n : is_blank b ≡ false = grind (arith, nat_tests) in
    let m : eqb b 10 ≡ false = grind (arith, nat_tests) in
    rw (n, m) h

escaped_gap : (xs : List ℕ) (k : ℕ) → k < escaped xs → begins_gap (drop k xs) ≡ true
unfolding escaped
escaped_gap [] k lt = absurd (omega (arith, lt))
escaped_gap (b ∷ bs) zero lt = elim (cases_Bool (eqb b 92 && ltb 0 (line_end bs))) [
  | inl t ↦ escape_gap b bs t
  | inr f ↦ absurd (let n : 0 < 0 = rw f at lt in omega (arith, n))
]
escaped_gap (b ∷ bs) (suc k) lt = elim (cases_Bool (eqb b 92 && ltb 0 (line_end bs))) [
  | inl t ↦ line_end_gap bs k (let n : suc k < line_end bs + 1 = rw t at lt in omega (arith, n))
  | inr f ↦ absurd (let n : suc k < 0 = rw f at lt in omega (arith, n))
]

one_gap : (b : ℕ) (bs : List ℕ) → begins_gap (b ∷ bs) ≡ true → (k : ℕ) → k < 1 → begins_gap (drop k (b ∷ bs)) ≡ true
one_gap b bs h zero lt = h
one_gap b bs h (suc k) lt = absurd (omega (arith, lt))

-- ---- what is left

-- what is left at a place of the text
record IsLeft (text : List ℕ) (p : Past) (rest : List ℕ) : Type 0 where
  behind : rest ≡ drop p.place text
  within : p.place ≤ length text

module _ (text : List ℕ) (p : Past) (rest : List ℕ) (at : IsLeft text p rest) where
  size : p.place + length rest ≡ length text
  size = omega (arith, ap length at.behind, length-drop p.place text, at.within)

  left_on : (n : ℕ) → drop n rest ≡ drop (p.place + n) text
  left_on n = ap (drop n) at.behind ∙ drop-drop n p.place text

  -- n bytes, s bytes on
  passed_on : (s n : ℕ) → ((k : ℕ) → k < n → begins_gap (drop k (drop s rest)) ≡ true) → IsPassed text (p.place + s) (p.place + s + n)
  passed_on s n h = record {
    each = λ k low high.
        let j : ℕ = k - (p.place + s) in
        let back : p.place + (s + j) ≡ k = omega (arith, low) in
        let same : drop j (drop s rest) ≡ drop k text = drop-drop j s rest ∙ left_on (s + j) ∙ ap (λ i. drop i text) back in
        subst (λ xs. begins_gap xs ≡ true) same (h j (omega (arith, low, high)));
  }

  passed : (n : ℕ) → ((k : ℕ) → k < n → begins_gap (drop k rest) ≡ true) → IsPassed text p.place (p.place + n)
  passed n h =
      let z : p.place + 0 ≡ p.place = omega arith in
      subst (λ i. IsPassed text i (i + n)) z (passed_on 0 n (λ k lt. ap begins_gap (drop-drop k 0 rest ∙ (let e : 0 + k ≡ k = omega arith in ap (λ i. drop i rest) e)) ∙ h k lt))

  blanks_passed : IsPassed text p.place (p.place + leading rest)
  blanks_passed = passed (leading rest) (leading_gap rest)

-- ---- a step

-- What a step gives covers the text up to where it goes on.
record Covering (text : List ℕ) (p : Past) (xs : List Item) (q : Past) (more : List ℕ) : Type 0 where
  covers : (ys : List Item) (f : Option Stop) → Covers text q.place ys f → Covers text p.place (xs ++ ys) f
  left : IsLeft text q more

abbrev Steps : List ℕ → Past → Move → Type 0
Steps text p (on xs q more) = Covering text p xs q more
Steps text p (over l) = Covers text p.place l.items l.fault

module _ (text : List ℕ) (p : Past) (rest : List ℕ) (at : IsLeft text p rest) where
  left_behind : (q : Past) (k : ℕ) → q.place ≡ p.place + k → k ≤ length rest → IsLeft text q (drop k rest)
  left_behind q k e le = record { behind = left_on text p rest at k ∙ ap (λ i. drop i text) (sym e); within = omega (arith, e, le, size text p rest at) }

  -- a lexeme s bytes on, and what is passed over behind it
  gives_covers : (s : ℕ) (x : Lexeme) (n k : ℕ) (f : Bool) → k ≤ length rest → IsPassed text p.place (p.place + s) → IsPassed text (p.place + s + n) (p.place + k) → Steps text p (gives p s x n k f rest)
  gives_covers s x n k f le before behind = record {
    covers = λ ys g c. (before, earlier text (p.place + s + n) (p.place + k) ys g behind c);
    left = left_behind _ k refl le;
  }

  turns_covers : (x : Lexeme) (n : ℕ) (m : Mode) (os : List Mode) → n ≤ length rest → Steps text p (turns p x n m os rest)
  turns_covers x n m os le = record { covers = λ ys g c. (none_passed text _ _ (omega arith), c); left = left_behind _ n refl le }

  passes_covers : (k : ℕ) → k ≤ length rest → IsPassed text p.place (p.place + k) → Steps text p (on [] (moved p k) (drop k rest))
  passes_covers k le h = record { covers = λ ys g c. earlier text p.place (p.place + k) ys g h c; left = left_behind (moved p k) k refl le }

  deepened_covers : (w k : ℕ) → k ≤ length rest → Steps text p (deepened p w k rest)
  deepened_covers w k le = record { covers = λ ys g c. (none_passed text _ _ (omega arith), c); left = left_behind _ k refl le }

  fitted_covers : (w n k : ℕ) → k ≤ length rest → IsPassed text p.place (p.place + k) → Steps text p (fitted p w n k rest)
  fitted_covers w n k le h = record { covers = λ ys g c. behind_dedents n ys g (earlier text p.place (p.place + k) ys g h c); left = left_behind _ k refl le }
    where
      behind_dedents : (n : ℕ) (ys : List Item) (g : Option Stop) → Covers text p.place ys g → Covers text p.place (dedents p.place n ++ ys) g
      behind_dedents zero ys g c = c
      behind_dedents (suc n) ys g c = (none_passed text _ _ (omega arith), behind_dedents n ys g c)

  ends_covers : (i n : ℕ) → i ≡ length text → IsPassed text p.place i → Steps text p (rules.ends i n)
  ends_covers i n e h = (h, ends_all n)
    where
      ends_all : (n : ℕ) → Covers text i (dedents i n ++ []) None
      ends_all zero = none_passed text i (length text) (omega (arith, e))
      ends_all (suc n) = (none_passed text i i (omega arith), ends_all n)

steps : {p : Past} {rest : List ℕ} {m : Move} (text : List ℕ) → Step p rest m → IsLeft text p rest → Steps text p m
steps text (rules.blank_line p rest more f e) at =
    gives_covers text p rest at (leading rest) _ 1 (leading rest + 1) true (omega (arith, short rest more 10 e)) (blanks_passed text p rest at) (none_passed text _ _ (omega arith))
steps text (rules.remark_line p rest more f e) at =
    let n = line_len more in
    let z = line_end (drop n more) in
    let s = leading rest + (1 + n) in
    let fits : leading rest + (1 + n) + z ≤ length rest = omega (arith, short rest more 35 e, line_len_within more, line_end_within (drop n more), length-drop n more) in
    let cut : drop s rest ≡ drop n more = sym (drop-drop (1 + n) (leading rest) rest) ∙ ap (drop (1 + n)) e ∙ (let v : 1 + n ≡ suc n = one-add n in ap (λ i. drop i (35 ∷ more)) v) in
    let behind : IsPassed text (p.place + s) (p.place + s + z) = passed_on text p rest at s z (λ k lt. ap (λ xs. begins_gap (drop k xs)) cut ∙ line_end_gap (drop n more) k lt) in
    let i : p.place + s ≡ p.place + leading rest + (1 + n) = omega arith in
    let j : p.place + s + z ≡ p.place + (leading rest + (1 + n) + z) = omega arith in
    gives_covers text p rest at (leading rest) _ (1 + n) (leading rest + (1 + n) + z) true fits (blanks_passed text p rest at) (subst (λ a. IsPassed text a (p.place + (leading rest + (1 + n) + z))) i (subst (IsPassed text (p.place + s)) j behind))
steps text (rules.last_line p rest closed f e c) at =
    ends_covers text p rest at (p.place + length rest) (length closed) (size text p rest at) (subst (λ n. IsPassed text p.place (p.place + n)) e (blanks_passed text p rest at))
steps text (rules.tabbed p rest m t) at = tt
steps text (rules.deepens p rest m t d) at = deepened_covers text p rest at _ (leading rest) (prefix_len-le-length is_blank rest)
steps text (rules.fits p rest closed m t o c) at = fitted_covers text p rest at _ (length closed) (leading rest) (prefix_len-le-length is_blank rest) (blanks_passed text p rest at)
steps text (rules.misfits p rest m t d o) at = tt
steps text (rules.passes p b rest f c d) at = passes_covers text p (b ∷ rest) at 1 (omega arith) (passed text p (b ∷ rest) at 1 (one_gap b rest (gap_blank b rest d)))
steps text (rules.escapes p rest f c d) at = passes_covers text p rest at (escaped rest) (escaped_most rest) (passed text p rest at (escaped rest) (escaped_gap rest))
steps text (rules.joins p rest f d) at = passes_covers text p (10 ∷ rest) at 1 (omega arith) (passed text p (10 ∷ rest) at 1 (one_gap 10 rest refl))
steps text (rules.ends_line p rest f c d) at = gives_covers text p (10 ∷ rest) at 0 _ 1 1 true (omega arith) (none_passed text _ _ (omega arith)) (none_passed text _ _ (omega arith))
steps text (rules.remark p rest f c) at =
    gives_covers text p (35 ∷ rest) at 0 _ (1 + line_len rest) (1 + line_len rest) false (omega (arith, line_len_within rest)) (none_passed text _ _ (omega arith)) (none_passed text _ _ (omega arith))
steps text (rules.lexeme p rest n x v l) at = gives_covers text p rest at 0 x n n false l.within (none_passed text _ _ (omega arith)) (none_passed text _ _ (omega arith))
steps text (rules.faults p rest n e v l) at = tt
steps text (rules.ends_text p closed f c d) at =
    ends_covers text p [] at p.place (length closed) (omega (arith, size text p [] at)) (none_passed text _ _ (omega arith))
steps text (rules.literal p rest n g k v l t e) at =
    let fits : k + quotes g.quote ≤ length (drop n rest) = inside g (drop n rest) (ending.Closed k) e in
    gives_covers text p rest at 0 _ (n + k + quotes g.quote) (n + k + quotes g.quote) false (omega (arith, fits, length-drop n rest, l.within)) (none_passed text _ _ (omega arith)) (none_passed text _ _ (omega arith))
steps text (rules.unclosed p rest n g k v l t e) at = tt
steps text (rules.misspelt p rest n g k m v l t e) at = tt
steps text (rules.enters p rest n g v l t) at = turns_covers text p rest at _ n _ _ l.within
steps text (rules.texts p b g rest k f c some (inl e)) at =
    let fits : k + quotes g.quote ≤ length rest = inside g rest (ending.Closed k) e in
    gives_covers text p rest at 0 _ k k false (omega (arith, fits)) (none_passed text _ _ (omega arith)) (none_passed text _ _ (omega arith))
steps text (rules.texts p b g rest k f c some (inr e)) at =
    let fits : k + 1 ≤ length rest = inside g rest (ending.Field k) e in
    gives_covers text p rest at 0 _ k k false (omega (arith, fits)) (none_passed text _ _ (omega arith)) (none_passed text _ _ (omega arith))
steps text (rules.leaves p b g rest f c e) at =
    let fits : 0 + quotes g.quote ≤ length rest = inside g rest (ending.Closed 0) e in
    turns_covers text p rest at _ (quotes g.quote) _ _ (omega (arith, fits))
steps text (rules.opens_field p b g rest f c e) at =
    let fits : 0 + 1 ≤ length rest = inside g rest (ending.Field 0) e in
    turns_covers text p rest at _ 1 _ _ (omega (arith, fits))
steps text (rules.unfinished p b g rest k f c e) at = tt
steps text (rules.misspells p b g rest k m f c e) at = tt
steps text (rules.shuts p b g bs rest f c d) at = turns_covers text p (125 ∷ rest) at _ 1 _ _ (omega arith)
steps text (rules.bangs p b g bs rest f c d e) at = gives_covers text p (33 ∷ rest) at 0 _ 1 1 false (omega arith) (none_passed text _ _ (omega arith)) (none_passed text _ _ (omega arith))

-- ---- all steps

covers_all : {p : Past} {rest : List ℕ} {l : Lexed} (text : List ℕ) → Lex p rest l → IsLeft text p rest → Covers text p.place l.items l.fault
covers_all text (goes_on p rest xs q more l step d) at = let h = steps text step at in h.covers l.items l.fault (covers_all text d h.left)
covers_all text (is_over p rest l step) at = steps text step at

pub covered : (text : List ℕ) (l : Lexed) → Lex start text l → Covers text 0 l.items l.fault
covered text l d = covers_all text d (record { behind = drop_none text; within = omega arith })
  where
    drop_none : (text : List ℕ) → text ≡ drop 0 text
    drop_none [] = refl
    drop_none (b ∷ bs) = refl
