-- A line feed behind blanks or behind a comment.
use Rattle.std.proofs.Common.{◌≡◌, ◌<◌, ◌≤◌, ℕ, ◌+◌, Bool, true, false, cond, ◌&&◌, List, [], ◌∷◌, ◌++◌, length, drop, refl, ap, sym, ◌∙◌, arith, suc, inl, inr, eqb, subst, one-add, append_assoc, length-append}
use Rattle.std.specs.List.{list_all}
use Rattle.std.proofs.Math.Seq.{drop-append_seam}
use Rattle.std.proofs.lemmas.Bool.{cases_Bool, false≢true, and_parts, and_from}
use Rattle.std.proofs.lemmas.Bool.Decides.{nat_tests}
use Rattle.std.proofs.lemmas.List.{append-nil}
use Rattle.starlark_lexer.specs.Classes.{is_blank, leading, line_end, line_len}
use Rattle.starlark_cutting.proofs.KeptLines.{Stops}
use Rattle.starlark_cutting.proofs.KeptRemarks.{len_zero, len_more, len_nil, end_two, whole_len, full_kept}

-- ---- blanks

abbrev pub all_blank : List ℕ → Bool
all_blank = list_all is_blank

pub blank_all : (bs : List ℕ) → leading bs ≡ length bs → all_blank bs ≡ true
blank_all [] h = refl
blank_all (b ∷ bs) h = elim (cases_Bool (is_blank b)) [
  | inl t ↦ let n : 1 + leading bs ≡ length (b ∷ bs) = rw t at h in and_from (is_blank b) (all_blank bs) t (blank_all bs (omega (arith, n)))
  | inr f ↦ absurd (let n : 0 ≡ length (b ∷ bs) = rw f at h in omega (arith, n))
]

pub lead_before : (bs : List ℕ) (c : ℕ) (t : List ℕ) → is_blank c ≡ false → all_blank bs ≡ true → leading (bs ++ c ∷ t) ≡ length bs
lead_before [] c t not h = ap (λ x. cond x (1 + leading t) 0) not
lead_before (b ∷ bs) c t not h =
    let k = and_parts (is_blank b) (all_blank bs) h in
    let e : length (b ∷ bs) ≡ 1 + length bs = omega arith in
    ap (λ x. cond x (1 + leading (bs ++ c ∷ t)) 0) k.0 ∙ ap (λ n. 1 + n) (lead_before bs c t not k.1) ∙ sym e

pub stops_blank : (bs : List ℕ) → all_blank bs ≡ true → Stops (bs ++ 10 ∷ [])
stops_blank [] h = refl
stops_blank (b ∷ bs) h = let k = and_parts (is_blank b) (all_blank bs) h in let t = k.0 in rw t refl

-- behind all the blanks stands none
pub none_behind : (rest more : List ℕ) (c : ℕ) → drop (leading rest) rest ≡ c ∷ more → is_blank c ≡ false
none_behind [] more c e = absurd (none_list c more e)
  where
    none_list : (c : ℕ) (more : List ℕ) → [] ≡ c ∷ more → ⊥
    none_list c more e = cc
none_behind (x ∷ xs) more c e = elim (cases_Bool (is_blank x)) [
  | inl t ↦ none_behind xs more c (rw (t, one-add) at e)
  | inr f ↦ let k : x ∷ xs ≡ c ∷ more = rw f at e in let s : x ≡ c = cc in ap is_blank (sym s) ∙ f
]

-- ---- line ends

blank_ten : (b : ℕ) → is_blank b ≡ true → eqb b 10 ≡ false
blank_ten b h = grind (arith, nat_tests)

thirteen : (b : ℕ) → eqb b 13 ≡ true → (is_blank b ≡ true) × (eqb b 10 ≡ false)
thirteen b h = (blank b h, other b h)
  where
    blank : (b : ℕ) → eqb b 13 ≡ true → is_blank b ≡ true
    blank b h = grind (arith, nat_tests)

    other : (b : ℕ) → eqb b 13 ≡ true → eqb b 10 ≡ false
    other b h = grind (arith, nat_tests)

end_ten : (t : List ℕ) → line_end (10 ∷ t) ≡ 1
unfolding line_end
end_ten t = refl

no_end : (b : ℕ) (t : List ℕ) → eqb b 10 ≡ false → eqb b 13 ≡ false → line_end (b ∷ t) ≡ 0
unfolding line_end
no_end b t e f = rw (e, f) refl

end_cr : (b : ℕ) (t : List ℕ) → eqb b 10 ≡ false → eqb b 13 ≡ true → line_end (b ∷ 10 ∷ t) ≡ 2
unfolding line_end
end_cr b t e f = rw (e, f) refl

not_ten : (b : ℕ) (bs : List ℕ) → eqb (line_end (b ∷ bs)) 0 ≡ true → eqb b 10 ≡ false
unfolding line_end
not_ten b bs h = elim (cases_Bool (eqb b 10)) [ inr f ↦ f | inl t ↦ absurd (false≢true (rw t at h)) ]

no_cr : (t : Bool) → cond {A = ℕ} (t && false) 2 0 ≡ 0
no_cr true = refl
no_cr false = refl

end_blank : (b : ℕ) (bs : List ℕ) → all_blank (b ∷ bs) ≡ true → line_end (b ∷ bs) ≡ 0
unfolding line_end
end_blank b [] h = let f = blank_ten b (and_parts (is_blank b) true h).0 in rw f (no_cr (eqb b 13))
end_blank b (c ∷ bs) h =
    let k = and_parts (is_blank b) (all_blank (c ∷ bs)) h in
    let f = blank_ten b k.0 in
    let g = blank_ten c (and_parts (is_blank c) (all_blank bs) k.1).0 in
    rw (f, g) (no_cr (eqb b 13))

-- where only blanks stand behind a line, it has no end
pub all_line : (c : List ℕ) → all_blank (drop (line_len c) c) ≡ true → line_len c ≡ length c
all_line [] h = len_nil
all_line (b ∷ bs) h = elim (cases_Bool (eqb (line_end (b ∷ bs)) 0)) [
  | inl t ↦
      let n = len_more b bs t in
      let e : suc (length bs) ≡ length (b ∷ bs) = omega arith in
      n ∙ ap suc (all_line bs (sym (ap (λ k. all_blank (drop k (b ∷ bs))) n) ∙ h)) ∙ e
  | inr f ↦
      let n = len_zero b bs f in
      absurd (false≢true (sym f ∙ ap (λ k. eqb k 0) (end_blank b bs (sym (ap (λ k. all_blank (drop k (b ∷ bs))) n) ∙ h))))
]

-- A comment that runs to the text's end, and a line feed behind it: a CR at its end goes to the line end.
pub record Fed (c t : List ℕ) : Type 0 where
  pub text : List ℕ
  pub cr : List ℕ
  pub is : c ≡ text ++ cr
  pub len : line_len (c ++ 10 ∷ t) ≡ length text
  pub blank : all_blank cr ≡ true
  pub end : line_end (cr ++ 10 ∷ t) ≡ length cr + 1

len_ten : (t : List ℕ) → line_len (10 ∷ t) ≡ 0
len_ten t = len_zero 10 t (ap (λ k. eqb k 0) (end_ten t))

fed_one : (b : ℕ) (t : List ℕ) → eqb (line_end (b ∷ [])) 0 ≡ true → Fed (b ∷ []) t
fed_one b t z =
    let f = not_ten b [] z in
    elim (cases_Bool (eqb b 13)) [
      | inl r ↦
          let two = end_cr b t f r in
          record {
            text = [];
            cr = b ∷ [];
            is = refl;
            len = len_zero b (10 ∷ t) (ap (λ k. eqb k 0) two);
            blank = and_from (is_blank b) true (thirteen b r).0 refl;
            end = two;
          }
      | inr r ↦
          let one : suc 0 ≡ length (b ∷ []) = omega arith in
          record {
            text = b ∷ [];
            cr = [];
            is = refl;
            len = len_more b (10 ∷ t) (ap (λ k. eqb k 0) (no_end b (10 ∷ t) f r)) ∙ ap suc (len_ten t) ∙ one;
            blank = refl;
            end = end_ten t;
          }
    ]

fed_more : (b c : ℕ) (bs t : List ℕ) → eqb (line_end (b ∷ c ∷ bs)) 0 ≡ true → Fed (c ∷ bs) t → Fed (b ∷ c ∷ bs) t
fed_more b c bs t z r =
    let more : suc (length r.text) ≡ length (b ∷ r.text) = omega arith in
    record {
      text = b ∷ r.text;
      cr = r.cr;
      is = ap (λ y. b ∷ y) r.is;
      len = len_more b (c ∷ bs ++ 10 ∷ t) (ap (λ k. eqb k 0) (end_two b c (bs ++ 10 ∷ t) bs) ∙ z) ∙ ap suc r.len ∙ more;
      blank = r.blank;
      end = r.end;
    }

-- a comment without a line end has none at its first byte
no_end_yet : (b : ℕ) (bs : List ℕ) → line_len (b ∷ bs) ≡ length (b ∷ bs) → eqb (line_end (b ∷ bs)) 0 ≡ true
no_end_yet b bs h = elim (cases_Bool (eqb (line_end (b ∷ bs)) 0)) [ inl z ↦ z | inr f ↦ absurd (omega (arith, h, len_zero b bs f)) ]

pub fed : (c t : List ℕ) → line_len c ≡ length c → Fed c t
fed [] t h = record { text = []; cr = []; is = refl; len = len_ten t; blank = refl; end = end_ten t }
fed (b ∷ []) t h = fed_one b t (no_end_yet b [] h)
fed (b ∷ c ∷ bs) t h = let z = no_end_yet b (c ∷ bs) h in fed_more b c bs t z (fed (c ∷ bs) t (omega (arith, h, len_more b (c ∷ bs) z)))

pub fed_left : (c t : List ℕ) (g : Fed c t) → drop (line_len (c ++ 10 ∷ t)) (c ++ 10 ∷ t) ≡ g.cr ++ 10 ∷ t
fed_left c t g = left c t g.text g.cr g.is (line_len (c ++ 10 ∷ t)) g.len
  where
    left : (c t xs ys : List ℕ) → c ≡ xs ++ ys → (n : ℕ) → n ≡ length xs → drop n (c ++ 10 ∷ t) ≡ ys ++ 10 ∷ t
    left c t xs ys is n len = (λ i. drop (len i) (is i ++ 10 ∷ t)) ∙ ap (drop (length xs)) (append_assoc xs ys (10 ∷ t)) ∙ drop-append_seam xs (ys ++ 10 ∷ t)

pub fed_whole : (c t : List ℕ) → Fed c t → whole_len (c ++ 10 ∷ t) ≡ length c + 1
fed_whole c t g = omega (arith, g.len, ap line_end (fed_left c t g), g.end, ap length g.is, length-append g.text g.cr)

-- A comment that its line end ends is the same with bytes behind it.
pub whole_kept : (c o : List ℕ) → line_len c < length c → whole_len c ≤ length c → whole_len (c ++ o) ≡ whole_len c
whole_kept c o lt le =
    let nil = append-nil c in
    let r = full_kept c [] o (subst (λ y. line_len y < length y) (sym nil) lt) (subst (λ y. whole_len y ≤ length c) (sym nil) le) in
    ap (λ n. n + line_end (drop n (c ++ o))) r.0 ∙ ap (λ n. line_len (c ++ []) + n) r.1 ∙ ap whole_len nil
