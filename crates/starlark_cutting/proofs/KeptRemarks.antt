-- A comment whose line end is kept is the same where other bytes are put behind it.
use Rattle.std.proofs.Common.{◌≡◌, ◌<◌, ◌≤◌, ℕ, ◌+◌, Bool, true, false, cond, ◌&&◌, List, [], ◌∷◌, ◌++◌, length, take, drop, refl, ap, sym, ◌∙◌, arith, suc, inl, inr, eqb, subst}
use Rattle.std.proofs.lemmas.Bool.{cases_Bool, false≢true, eqb-true}
use Rattle.std.proofs.lemmas.Bool.Decides.{nat_tests}
use Rattle.starlark_lexer.specs.Classes.{begins_line, line_end, line_len}
use Rattle.starlark_lexer.proofs.JoinedBodies.{Ended}

len_cons : (b : ℕ) (bs : List ℕ) → line_len (b ∷ bs) ≡ cond (eqb (line_end (b ∷ bs)) 0) (suc (line_len bs)) 0
unfolding line_len
len_cons b bs = refl

pub len_zero : (b : ℕ) (bs : List ℕ) → eqb (line_end (b ∷ bs)) 0 ≡ false → line_len (b ∷ bs) ≡ 0
len_zero b bs f = len_cons b bs ∙ ap (λ x. cond x (suc (line_len bs)) 0) f

pub len_more : (b : ℕ) (bs : List ℕ) → eqb (line_end (b ∷ bs)) 0 ≡ true → line_len (b ∷ bs) ≡ suc (line_len bs)
len_more b bs t = len_cons b bs ∙ ap (λ x. cond x (suc (line_len bs)) 0) t

pub len_nil : line_len [] ≡ 0
unfolding line_len
len_nil = refl

-- two bytes tell a line end
pub end_two : (b c : ℕ) (xs ys : List ℕ) → line_end (b ∷ c ∷ xs) ≡ line_end (b ∷ c ∷ ys)
unfolding line_end
end_two b c xs ys = refl

end_some : (n : ℕ) → eqb n 0 ≡ false → 0 < n
end_some n h = grind (arith, nat_tests)

-- with its line end
abbrev pub whole_len : List ℕ → ℕ
whole_len xs = line_len xs + line_end (drop (line_len xs) xs)

whole_zero : (b : ℕ) (bs : List ℕ) → eqb (line_end (b ∷ bs)) 0 ≡ false → whole_len (b ∷ bs) ≡ line_end (b ∷ bs)
whole_zero b bs f = ap (λ n. n + line_end (drop n (b ∷ bs))) (len_zero b bs f) ∙ (let e : 0 + line_end (b ∷ bs) ≡ line_end (b ∷ bs) = omega arith in e)

whole_more : (b : ℕ) (bs : List ℕ) → eqb (line_end (b ∷ bs)) 0 ≡ true → whole_len (b ∷ bs) ≡ suc (whole_len bs)
whole_more b bs t = ap (λ n. n + line_end (drop n (b ∷ bs))) (len_more b bs t) ∙ (let e : suc (line_len bs) + line_end (drop (line_len bs) bs) ≡ suc (whole_len bs) = omega arith in e)

never : (v : List ℕ) → line_len v < length v → whole_len v ≤ 0 → ⊥
never [] lt le = omega (arith, lt)
never (b ∷ bs) lt le = elim (cases_Bool (eqb (line_end (b ∷ bs)) 0)) [
  | inl t ↦ omega (arith, whole_more b bs t, le)
  | inr f ↦ omega (arith, whole_zero b bs f, le, end_some _ f)
]

-- one byte that is a line end
one_end : (b : ℕ) (v s : List ℕ) → eqb (line_end (b ∷ v)) 0 ≡ false → line_end (b ∷ v) ≤ 1 → line_end (b ∷ s) ≡ line_end (b ∷ v)
unfolding line_end
one_end b v s f le = elim (cases_Bool (eqb b 10)) [
  | inl t ↦ rw t refl
  | inr n ↦ absurd (let x = rw n at f in let y = rw n at le in none (eqb b 13 && begins_line v) x y)
]
  where
    none : (t : Bool) → eqb (cond t 2 0) 0 ≡ false → cond t 2 0 ≤ 1 → ⊥
    none true f le = omega (arith, le)
    none false f le = false≢true (sym f)

pub full_kept : (u v s : List ℕ) → line_len (u ++ v) < length (u ++ v) → whole_len (u ++ v) ≤ length u
    → (line_len (u ++ s) ≡ line_len (u ++ v)) × (line_end (drop (line_len (u ++ v)) (u ++ s)) ≡ line_end (drop (line_len (u ++ v)) (u ++ v)))
full_kept [] v s lt le = absurd (never v lt le)
full_kept (b ∷ []) v s lt le = elim (cases_Bool (eqb (line_end (b ∷ v)) 0)) [
  | inl t ↦ absurd (never v (omega (arith, lt, len_more b v t)) (omega (arith, le, whole_more b v t)))
  | inr f ↦
      let e = one_end b v s f (omega (arith, le, whole_zero b v f)) in
      let z = len_zero b v f in (
        len_zero b s (ap (λ x. eqb x 0) e ∙ f) ∙ sym z,
        ap (λ n. line_end (drop n (b ∷ s))) z ∙ e ∙ sym (ap (λ n. line_end (drop n (b ∷ v))) z),
      )
]
full_kept (b ∷ c ∷ u) v s lt le =
    let e = end_two b c (u ++ s) (u ++ v) in
    elim (cases_Bool (eqb (line_end (b ∷ c ∷ u ++ v)) 0)) [
      | inl t ↦
          let n = len_more b (c ∷ u ++ v) t in
          let r = full_kept (c ∷ u) v s (omega (arith, lt, n)) (omega (arith, le, whole_more b (c ∷ u ++ v) t)) in (
            len_more b (c ∷ u ++ s) (ap (λ x. eqb x 0) e ∙ t) ∙ ap suc r.0 ∙ sym n,
            ap (λ k. line_end (drop k (b ∷ c ∷ u ++ s))) n ∙ r.1 ∙ sym (ap (λ k. line_end (drop k (b ∷ c ∷ u ++ v))) n),
          )
      | inr f ↦
          let z = len_zero b (c ∷ u ++ v) f in (
            len_zero b (c ∷ u ++ s) (ap (λ x. eqb x 0) e ∙ f) ∙ sym z,
            ap (λ n. line_end (drop n (b ∷ c ∷ u ++ s))) z ∙ e ∙ sym (ap (λ n. line_end (drop n (b ∷ c ∷ u ++ v))) z),
          )
    ]

-- ---- its last byte is a line feed

ended_cons : (b : ℕ) (bs : List ℕ) → Ended bs → Ended (b ∷ bs)
ended_cons b [] h = absurd h
ended_cons b (c ∷ bs) h = h

pub ended_behind : (xs ys : List ℕ) → Ended ys → Ended (xs ++ ys)
ended_behind [] ys h = h
ended_behind (x ∷ xs) ys h = ended_cons x (xs ++ ys) (ended_behind xs ys h)

end_ended : (b : ℕ) (bs : List ℕ) → eqb (line_end (b ∷ bs)) 0 ≡ false → Ended (take (line_end (b ∷ bs)) (b ∷ bs))
unfolding line_end
end_ended b bs f = elim (cases_Bool (eqb b 10)) [
  | inl t ↦ rw t (eqb-true b 10 t)
  | inr n ↦ by_cr bs (rw n at f) n
]
  where
    by_cr : (bs : List ℕ) → eqb (cond (eqb b 13 && begins_line bs) 2 0) 0 ≡ false → eqb b 10 ≡ false → Ended (take (cond (eqb b 10) 1 (cond (eqb b 13 && begins_line bs) 2 0)) (b ∷ bs))
    by_cr [] f n = absurd (none (eqb b 13) f)
      where
        none : (t : Bool) → eqb (cond (t && false) 2 0) 0 ≡ false → ⊥
        none true f = false≢true (sym f)
        none false f = false≢true (sym f)
    by_cr (c ∷ cs) f n = elim (cases_Bool (eqb b 13 && eqb c 10)) [
      | inl t ↦ rw (n, t) (second b c t)
      | inr g ↦ absurd (false≢true (sym (rw g at f)))
    ]
      where
        second : (b c : ℕ) → (eqb b 13 && eqb c 10) ≡ true → c ≡ 10
        second b c t = grind (arith, nat_tests)

pub full_ended : (xs : List ℕ) → line_len xs < length xs → Ended (take (whole_len xs) xs)
full_ended [] lt = absurd (omega (arith, lt))
full_ended (b ∷ bs) lt = elim (cases_Bool (eqb (line_end (b ∷ bs)) 0)) [
  | inl t ↦ subst (λ n. Ended (take n (b ∷ bs))) (sym (whole_more b bs t)) (ended_cons b (take (whole_len bs) bs) (full_ended bs (omega (arith, lt, len_more b bs t))))
  | inr f ↦ subst (λ n. Ended (take n (b ∷ bs))) (sym (whole_zero b bs f)) (end_ended b bs f)
]
