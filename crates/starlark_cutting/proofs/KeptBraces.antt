-- A brace that begins a field, put behind a text of an f-string.
use Rattle.std.proofs.Common.{◌≡◌, ◌<◌, ◌≤◌, ◌⊎◌, ℕ, ◌+◌, Bool, true, false, cond, not, ◌&&◌, ◌||◌, List, [], ◌∷◌, ◌++◌, length, take, get_or, refl, ap, sym, ◌∙◌, arith, zero, suc, inl, inr, eqb, ltb, subst, length-append}
use Rattle.std.specs.Prelude.{Option, Some, None}
use Rattle.std.specs.List.{list_all, prefix_len}
use Rattle.std.specs.Char.{is_digit}
use Rattle.std.proofs.Math.Seq.{drop-append_seam}
use Rattle.std.proofs.lemmas.Bool.{cases_Bool, false≢true, and_right, eqb-true}
use Rattle.std.proofs.lemmas.Bool.Decides.{nat_tests}
use Rattle.std.proofs.lemmas.List.{get_or-take, get_or-append-add, length-take-le}
use Rattle.std.proofs.lemmas.List.Folds.{list_all_at}
use Rattle.std.proofs.lemmas.Slice.Eq.{bytes_eq-Decides}
use Rattle.std.specs.Str.{bytes_eq}
use Rattle.starlark_lexer.specs.declared.literal.Form.{Form}
use Rattle.starlark_lexer.specs.declared.literal.Ending.{Ending}
use Rattle.starlark_lexer.specs.declared.literal.Ending.TheVariants as ending
use Rattle.starlark_lexer.specs.declared.literal.Piece.TheVariants.{Closing, Nothing, Same}
use Rattle.starlark_lexer.specs.declared.literal.Sort.{Sort}
use Rattle.starlark_lexer.specs.declared.token.FStringQuote.{FStringQuote}
use Rattle.starlark_lexer.specs.declared.token.FStringQuote.TheVariants.{Single, Double, TripleSingle, TripleDouble}
use Rattle.starlark_lexer.specs.Literals as literals
use Rattle.starlark_lexer.specs.Literals.{body, is_format, opening_of, continues, no_escape, escaped, simple, hex_digits, digits, begins, hex_escape, octal_escape, other_escape, by_simple, escape, raw_escape, brace, piece, goes_on, later, read}
use Rattle.starlark_lexer.specs.Classes.{meaning, is_word_byte, operators, operator_of, is_continuation}
use Rattle.std.specs.Str.Parse.{digits_value}
use Rattle.starlark_cutting.proofs.KeptBodies.{take_kept, Within, Alike, choose, escaped_same, escaped_len}
use Rattle.starlark_lexer.proofs.JoinedBodies.{Final}
use Rattle.starlark_cutting.proofs.KeptReads as reads
use Rattle.starlark_cutting.proofs.KeptReads.{extent, body_once, mark_piece, inner, inner_piece}
use Rattle.starlark_cutting.proofs.KeptLines.{Stops}
use Rattle.starlark_lexer.proofs.Passing.{few_radices, no_row, row_not, none_passes}
use Rattle.starlark_cutting.proofs.KeptMarks.{Barrier, is_opened, opens_with}
use Rattle.starlark_cutting.proofs.KeptTails.{Item_within, item_fits, tail, tail_field, no_marks, closed_front, field_front, field_brace, stops_brace}

-- ---- no lexeme of two bytes or more has a brace in it

no_brace : ℕ → Bool
no_brace b = not (eqb b 123)

word_none : (b : ℕ) → is_word_byte b ≡ true → no_brace b ≡ true
unfolding no_brace
word_none b h = grind (arith, nat_tests)

sign_none : (b : ℕ) → (eqb b 43 || (eqb b 45 || eqb b 46)) ≡ true → no_brace b ≡ true
unfolding no_brace
sign_none b h = grind (arith, nat_tests)

radix_none : (r b : ℕ) → r ≤ 16 → is_digit b r ≡ true → no_brace b ≡ true
unfolding no_brace
radix_none r b le h = elim (cases_Bool (eqb b 123)) [
  | inr c ↦ ap not c
  | inl c ↦ let e : b ≡ 123 = grind (arith, nat_tests) in absurd (false≢true (sym (few_radices r le) ∙ ap (λ x. is_digit x r) (sym e) ∙ h))
]

high_none : (b : ℕ) → ltb b 128 ≡ false → no_brace b ≡ true
unfolding no_brace
high_none b h = grind (arith, nat_tests)

goes_none : (b : ℕ) → is_continuation b ≡ true → no_brace b ≡ true
unfolding no_brace
goes_none b h = grind (arith, nat_tests)

-- a row of one byte, or without a brace
abbrev passes : List ℕ → Bool
passes r = eqb (length r) 1 || list_all no_brace r

differs : (w : List ℕ) → 1 < length w → list_all no_brace w ≡ false → (r : List ℕ) → passes r ≡ true → bytes_eq r w ≡ false
differs w some h r p = elim (cases_Bool (eqb (length r) 1)) [
  | inr n ↦ row_not no_brace w r h (rw n at p)
  | inl n ↦
      let one : length r ≡ 1 = grind (arith, nat_tests) in
      elim (cases_Bool (bytes_eq r w)) [ inr e ↦ e | inl e ↦ absurd (omega (arith, some, one, ap length ((bytes_eq-Decides r w).0 e))) ]
]

brace_opening : (w : List ℕ) (i : ℕ) (o : Option Form) → i < length w → get_or w i 0 ≡ 123 → opening_of w ≡ o → o ≡ None
brace_opening w i None lt is e = refl
brace_opening w i (Some f) lt is e = let a = is_opened w f e in absurd (false≢true (ap opens_with (sym is) ∙ a.each i lt))

brace_none : (w : List ℕ) (i : ℕ) → i < length w → 1 < length w → get_or w i 0 ≡ 123 → meaning w ≡ None
unfolding operator_of no_brace
brace_none w i lt some is =
    let h : list_all no_brace w ≡ false = list_all_at no_brace w i 0 lt (ap no_brace is) in
    none_passes no_brace word_none sign_none radix_none high_none goes_none w some h (brace_opening w i (opening_of w) lt is refl) (no_row passes w (differs w some h) operators refl)

pub field_barrier : (u o : List ℕ) → 0 < length u → Barrier u (123 ∷ o)
field_barrier u o some w k far fits =
    let x = (w ++ u) ++ 123 ∷ o in
    let n = length (w ++ u) in
    let z : n ≡ n + 0 = omega arith in
    let len = length-take-le k x fits in
    brace_none (take k x) n (omega (arith, len, far)) (omega (arith, len, far, length-append w u, some)) (get_or-take k x n 0 far ∙ ap (λ i. get_or x i 0) z ∙ get_or-append-add (w ++ u) (123 ∷ o) 0 0)

-- ---- an item before a mark is the same before a brace

-- ' or "
abbrev Marked : ℕ → Type 0
Marked a = (a ≡ 39) ⊎ (a ≡ 34)

at_mark : (P : ℕ → Type 0) (a : ℕ) → P 39 → P 34 → Marked a → P a
at_mark P a h k (inl e) = subst P (sym e) h
at_mark P a h k (inr e) = subst P (sym e) k

mark_marked : (q : FStringQuote) → Marked (literals.mark q)
mark_marked Single = inl refl
mark_marked Double = inr refl
mark_marked TripleSingle = inl refl
mark_marked TripleDouble = inr refl

module _ (p : ℕ → Bool) (a c : ℕ) (w o : List ℕ) (no_a : p a ≡ false) (no_c : p c ≡ false) where
  run_other : (xs : List ℕ) → prefix_len p (xs ++ c ∷ o) ≡ prefix_len p (xs ++ a ∷ w)
  run_other [] = rw (no_a, no_c) refl
  run_other (x ∷ xs) = elim (cases_Bool (p x)) [ inl t ↦ rw t (ap (λ n. 1 + n) (run_other xs)) | inr t ↦ rw t refl ]

  taken_other : (m : ℕ) (xs : List ℕ) → prefix_len p (take m (xs ++ c ∷ o)) ≡ prefix_len p (take m (xs ++ a ∷ w))
  taken_other zero [] = refl
  taken_other zero (x ∷ xs) = refl
  taken_other (suc m) [] = rw (no_a, no_c) refl
  taken_other (suc m) (x ∷ xs) = elim (cases_Bool (p x)) [ inl t ↦ rw t (ap (λ n. 1 + n) (taken_other m xs)) | inr t ↦ rw t refl ]

  taken_most : (m : ℕ) (xs : List ℕ) → prefix_len p (take m (xs ++ a ∷ w)) ≤ length xs
  taken_most zero [] = omega arith
  taken_most zero (x ∷ xs) = omega arith
  taken_most (suc m) [] = rw no_a (omega arith)
  taken_most (suc m) (x ∷ xs) = elim (cases_Bool (p x)) [ inl t ↦ rw t (omega (arith, taken_most m xs)) | inr t ↦ rw t (omega arith) ]

mark_digit : (r a : ℕ) → r ≤ 16 → Marked a → is_digit a r ≡ false
mark_digit r a le m = at_mark (λ x. is_digit x r ≡ false) a (few_radices r le) (few_radices r le) m

module _ (s : Sort) (a : ℕ) (w o : List ℕ) (mark : Marked a) where
  octal_other : (xs : List ℕ) → Alike (suc (length xs)) (octal_escape s (xs ++ a ∷ w)) (octal_escape s (xs ++ 123 ∷ o))
  octal_other xs h =
      let no = mark_digit 8 a (omega arith) mark in
      let d = digits 8 3 (xs ++ a ∷ w) in
      let le : d ≤ length xs = taken_most (λ c. is_digit c 8) a 123 w o no refl 3 xs in
      let same : digits 8 3 (xs ++ 123 ∷ o) ≡ d = taken_other (λ c. is_digit c 8) a 123 w o no refl 3 xs in
      let cut : take d (xs ++ 123 ∷ o) ≡ take d (xs ++ a ∷ w) = take_kept (xs ++ a ∷ w) xs (a ∷ w) (123 ∷ o) d refl le in
      ap (λ k. escaped s (digits_value 8 (take k (xs ++ 123 ∷ o))) (1 + k) (xs ++ 123 ∷ o)) same
      ∙ ap (λ c. escaped s (digits_value 8 c) (1 + d) (xs ++ 123 ∷ o)) cut
      ∙ escaped_same s (digits_value 8 (take d (xs ++ a ∷ w))) (1 + d) (suc (length xs)) (xs ++ a ∷ w) (xs ++ 123 ∷ o) h

  hex_other : (n c : ℕ) (cs : List ℕ) → Alike (suc (length (c ∷ cs))) (hex_escape s n (c ∷ cs ++ a ∷ w)) (hex_escape s n (c ∷ cs ++ 123 ∷ o))
  hex_other n c cs h = elim (cases_Bool (eqb (digits 16 n (cs ++ a ∷ w)) n)) [
    | inr f ↦ absurd (rw f at h)
    | inl t ↦
        let no = mark_digit 16 a (omega arith) mark in
        let here : Within (suc (length (c ∷ cs))) (escaped s (digits_value 16 (take n (cs ++ a ∷ w))) (2 + n) (c ∷ cs ++ a ∷ w)) = rw t at h in
        let all : digits 16 n (cs ++ a ∷ w) ≡ n = eqb-true (digits 16 n (cs ++ a ∷ w)) n t in
        let le : n ≤ length cs = omega (arith, all, taken_most (λ d. is_digit d 16) a 123 w o no refl n cs) in
        let cut : take n (cs ++ 123 ∷ o) ≡ take n (cs ++ a ∷ w) = take_kept (cs ++ a ∷ w) cs (a ∷ w) (123 ∷ o) n refl le in
        let t2 : eqb (digits 16 n (cs ++ 123 ∷ o)) n ≡ true = ap (λ k. eqb (prefix_len (λ d. is_digit d 16) k) n) cut ∙ t in
        ap (λ b. cond b (escaped s (digits_value 16 (take n (cs ++ 123 ∷ o))) (2 + n) (c ∷ cs ++ 123 ∷ o)) (no_escape (c ∷ cs ++ 123 ∷ o))) t2
        ∙ ap (λ k. escaped s (digits_value 16 k) (2 + n) (c ∷ cs ++ 123 ∷ o)) cut
        ∙ escaped_same s (digits_value 16 (take n (cs ++ a ∷ w))) (2 + n) (suc (length (c ∷ cs))) (c ∷ cs ++ a ∷ w) (c ∷ cs ++ 123 ∷ o) here
        ∙ sym (ap (λ b. cond b (escaped s (digits_value 16 (take n (cs ++ a ∷ w))) (2 + n) (c ∷ cs ++ a ∷ w)) (no_escape (c ∷ cs ++ a ∷ w))) t)
  ]

  cr_other : (c : ℕ) (cs : List ℕ) → Alike (suc (length (c ∷ cs))) (cond (eqb c 13 && begins 10 (cs ++ a ∷ w)) (Nothing 3) (no_escape (c ∷ cs ++ a ∷ w))) (cond (eqb c 13 && begins 10 (cs ++ 123 ∷ o)) (Nothing 3) (no_escape (c ∷ cs ++ 123 ∷ o)))
  cr_other c [] h =
      let n : (eqb c 13 && eqb a 10) ≡ false = and_right (eqb c 13) (eqb a 10) (at_mark (λ x. eqb x 10 ≡ false) a refl refl mark) in
      absurd (subst (λ t. Within 2 (cond t (Nothing 3) (no_escape (c ∷ a ∷ w)))) n h)
  cr_other c (d ∷ ds) h = choose (suc (length (c ∷ d ∷ ds))) (eqb c 13 && eqb d 10) (Nothing 3) (no_escape (c ∷ d ∷ ds ++ a ∷ w)) (Nothing 3) (no_escape (c ∷ d ∷ ds ++ 123 ∷ o)) (λ _ _. refl) (λ _ k. absurd k) h

  other_other : (c : ℕ) (cs : List ℕ) → Alike (suc (length (c ∷ cs))) (other_escape s c (c ∷ cs ++ a ∷ w)) (other_escape s c (c ∷ cs ++ 123 ∷ o))
  other_other c cs =
      let m = suc (length (c ∷ cs)) in
      choose m (is_digit c 8) _ _ _ _ (λ _. octal_other (c ∷ cs))
      (λ _. choose m (ltb 0 (hex_digits c)) _ _ _ _ (λ _. hex_other (hex_digits c) c cs)
      (λ _. choose m (eqb c 10) _ _ _ _ (λ _ _. refl) (λ _. cr_other c cs)))

  by_other : (x : Option ℕ) (c : ℕ) (cs : List ℕ) → Alike (suc (length (c ∷ cs))) (by_simple x s c (c ∷ cs ++ a ∷ w)) (by_simple x s c (c ∷ cs ++ 123 ∷ o))
  by_other (Some x) c cs = escaped_same s x 2 (suc (length (c ∷ cs))) (c ∷ cs ++ a ∷ w) (c ∷ cs ++ 123 ∷ o)
  by_other None c cs = other_other c cs

  escape_mark : Within 1 (escape s (a ∷ w)) → ⊥
  unfolding escape
  escape_mark h = at_mark (λ x. Within 1 (escape s (x ∷ w)) → ⊥) a (λ k. omega (arith, escaped_len s 39 2 1 (39 ∷ w) k)) (λ k. omega (arith, escaped_len s 34 2 1 (34 ∷ w) k)) mark h

  escape_other : (xs : List ℕ) → Within (suc (length xs)) (escape s (xs ++ a ∷ w)) → escape s (xs ++ 123 ∷ o) ≡ escape s (xs ++ a ∷ w)
  unfolding escape
  escape_other [] h = absurd (escape_mark h)
  escape_other (c ∷ cs) h = by_other (simple c) c cs h

  raw_mark : Within 1 (raw_escape s (a ∷ w)) → ⊥
  unfolding raw_escape
  raw_mark h =
      let n : (eqb a 13 || (is_format s && (eqb a 123 || eqb a 125))) ≡ false = at_mark (λ x. (eqb x 13 || (is_format s && (eqb x 123 || eqb x 125))) ≡ false) a (and_right (is_format s) false refl) (and_right (is_format s) false refl) mark in
      let c : ltb a 128 ≡ true = at_mark (λ x. ltb x 128 ≡ true) a refl refl mark in
      let two : 1 + 1 ≤ 1 = rw (n, c) at h in
      omega (arith, two)

  raw_other : (xs : List ℕ) → Within (suc (length xs)) (raw_escape s (xs ++ a ∷ w)) → raw_escape s (xs ++ 123 ∷ o) ≡ raw_escape s (xs ++ a ∷ w)
  unfolding raw_escape
  raw_other [] h = absurd (raw_mark h)
  raw_other (c ∷ cs) h =
      let no : continues a ≡ false = at_mark (λ x. continues x ≡ false) a refl refl mark in
      choose (suc (length (c ∷ cs))) (eqb c 13 || (is_format s && (eqb c 123 || eqb c 125))) _ _ _ _ (λ _ _. refl)
      (λ _ _. ap (λ n. Same (1 + cond (ltb c 128) 1 (1 + n))) (run_other continues a 123 w o no refl cs)) h

module _ (f : Form) (a : ℕ) (w o : List ℕ) (mark : Marked a) where
  brace_other : (b : ℕ) (xs : List ℕ) → Item_within (suc (length xs)) (brace b (xs ++ a ∷ w)) → brace b (xs ++ 123 ∷ o) ≡ brace b (xs ++ a ∷ w)
  brace_other b [] h = elim (cases_Bool (eqb b 123)) [
    | inl t ↦
        let is : b ≡ 123 = eqb-true b 123 t in
        let n : eqb a b ≡ false = ap (eqb a) is ∙ at_mark (λ x. eqb x 123 ≡ false) a refl refl mark in
        absurd (rw (n, t) at h)
    | inr t ↦ elim (cases_Bool (eqb a b)) [
      | inl e ↦ let two : 2 ≤ 1 = rw e at h in absurd (omega (arith, two))
      | inr e ↦ let n : eqb 123 b ≡ false = grind (arith, nat_tests) in rw (e, n) refl
    ]
  ]
  brace_other b (c ∷ cs) h = refl

  inner_other : (b : ℕ) (xs : List ℕ) → Item_within (suc (length xs)) (inner f b (xs ++ a ∷ w)) → inner f b (xs ++ 123 ∷ o) ≡ inner f b (xs ++ a ∷ w)
  inner_other b xs =
      let S = Item_within (suc (length xs)) in
      let m = suc (length xs) in
      reads.choose S (eqb b 13) _ _ _ _ (λ _. refl)
      (reads.choose S (eqb b 10) _ _ _ _ (λ _. refl)
      (reads.choose S (eqb b 92) _ _ _ _ (reads.choose S f.raw _ _ _ _ (λ h. raw_other f.sort a w o mark xs (item_fits m _ h)) (λ h. escape_other f.sort a w o mark xs (item_fits m _ h)))
      (reads.choose S (is_format f.sort && (eqb b 123 || eqb b 125)) _ _ _ _ (brace_other b xs) (λ _. refl))))

  marks_other : (q : FStringQuote) (bs : List ℕ) → goes_on q (bs ++ a ∷ w) ≡ false → goes_on q (bs ++ 123 ∷ o) ≡ false
  marks_other Single bs h = h
  marks_other Double bs h = h
  marks_other TripleSingle [] h = refl
  marks_other TripleDouble [] h = refl
  marks_other TripleSingle (x ∷ []) h = and_right (eqb x 39) false refl
  marks_other TripleDouble (x ∷ []) h = and_right (eqb x 34) false refl
  marks_other TripleSingle (x ∷ y ∷ bs) h = h
  marks_other TripleDouble (x ∷ y ∷ bs) h = h

  other_front : (b : ℕ) (bs : List ℕ) → Item_within (suc (length bs)) (piece f (b ∷ bs ++ a ∷ w)) → piece f (b ∷ bs ++ 123 ∷ o) ≡ piece f (b ∷ bs ++ a ∷ w)
  other_front b bs h = elim (cases_Bool (eqb b (literals.mark f.quote))) [
    | inl t ↦
        let at : (y : List ℕ) → piece f (b ∷ y) ≡ cond (goes_on f.quote y) Closing (Same 1) = λ y. ap (λ c. piece f (c ∷ y)) (eqb-true b (literals.mark f.quote) t) ∙ mark_piece f y in
        let fits = item_fits (suc (length bs)) (piece f (b ∷ bs ++ a ∷ w)) h in
        let n = no_marks (suc (length bs)) (goes_on f.quote (bs ++ a ∷ w)) (subst (Within (suc (length bs))) (at (bs ++ a ∷ w)) fits) in
        (at (bs ++ 123 ∷ o) ∙ ap (λ x. cond x Closing (Same 1)) (marks_other f.quote bs n)) ∙ sym (at (bs ++ a ∷ w) ∙ ap (λ x. cond x Closing (Same 1)) n)
    | inr t ↦ inner_piece f b (bs ++ 123 ∷ o) t ∙ inner_other b bs (subst (Item_within (suc (length bs))) (inner_piece f b (bs ++ a ∷ w) t) h) ∙ sym (inner_piece f b (bs ++ a ∷ w) t)
  ]

-- ---- a text before its end, where a brace stands in its place

body_nil : (g : Form) (e : Ending) → Final e → body g 0 [] ≡ e → ⊥
unfolding read
body_nil g (ending.Closed k) f h = cc
body_nil g (ending.Field k) f h = cc
body_nil g (ending.Unfinished k) f h = f
body_nil g (ending.Escape k m) f h = f

closed_field : (g : Form) (u v o : List ℕ) → is_format g.sort ≡ true → Stops o → body g 0 (u ++ v) ≡ ending.Closed (length u) → body g 0 v ≡ ending.Closed 0 → body g 0 (u ++ 123 ∷ o) ≡ ending.Field (length u)
closed_field g u [] o fmt stop h once = absurd (body_nil g (ending.Closed 0) tt once)
closed_field g u (a ∷ v) o fmt stop h once =
    let c = closed_front g a v once in
    let n : length u + 0 ≡ length u = omega arith in
    tail g (a ∷ v) (123 ∷ o) (other_front g a v o (subst Marked (sym c.first) (mark_marked g.quote))) u (subst Final (sym h) tt) (ap extent h) ∙ ap (later (length u)) (field_brace g o fmt (stops_brace o stop)) ∙ ap ending.Field n

field_field : (g : Form) (u v o : List ℕ) → is_format g.sort ≡ true → Stops o → body g 0 (u ++ v) ≡ ending.Field (length u) → body g 0 v ≡ ending.Field 0 → body g 0 (u ++ 123 ∷ o) ≡ ending.Field (length u)
field_field g u [] o fmt stop h once = absurd (body_nil g (ending.Field 0) tt once)
field_field g u (a ∷ v) o fmt stop h once =
    let e : a ≡ 123 = field_front g a v once in
    tail_field g u 123 v o (ap (λ b. body g 0 (u ++ b ∷ v)) (sym e) ∙ h) (field_brace g o fmt (stops_brace o stop))

pub text_field : (g : Form) (u v o : List ℕ) → is_format g.sort ≡ true → Stops o → (body g 0 (u ++ v) ≡ ending.Closed (length u)) ⊎ (body g 0 (u ++ v) ≡ ending.Field (length u)) → body g 0 (u ++ 123 ∷ o) ≡ ending.Field (length u)
text_field g u v o fmt stop (inl h) = closed_field g u v o fmt stop h (ap (body g 0) (sym (drop-append_seam u v)) ∙ body_once g (u ++ v) (ending.Closed (length u)) tt h)
text_field g u v o fmt stop (inr h) = field_field g u v o fmt stop h (ap (body g 0) (sym (drop-append_seam u v)) ∙ body_once g (u ++ v) (ending.Field (length u)) tt h)
