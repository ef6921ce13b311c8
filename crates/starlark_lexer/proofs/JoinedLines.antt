-- What a text that ends in a line feed begins with is the same in a longer text.
use Rattle.std.proofs.Common.{◌≡◌, ◌<◌, ◌≤◌, ℕ, ◌+◌, ◌-◌, Bool, true, false, cond, ◌&&◌, List, [], ◌∷◌, ◌++◌, length, take, drop, get_or, refl, ap, sym, ◌∙◌, arith, zero, suc, inl, inr, eqb, ltb, subst, one-add, length-append, append_assoc, ◌⊎◌}
use Rattle.std.proofs.lemmas.Bool.{cases_Bool, cases_lt, false≢true}
use Rattle.std.proofs.lemmas.Bool.Decides.{nat_tests}
use Rattle.std.proofs.lemmas.List.{get_or-take, get_or_append_left, length-take-le, take-append-le, take-append-drop, drop-drop, append_cancel_right}
use Rattle.starlark_lexer.specs.Classes.{Meaning, meaning, IsLexeme, is_blank, leading, begins_line, line_end, line_len, escaped, closes_field}
use Rattle.starlark_lexer.specs.Joining.{IsClosed}
use Rattle.starlark_lexer.proofs.JoinedBodies.{Ended}
use Rattle.starlark_lexer.proofs.Options.{none_some}
use Rattle.starlark_lexer.proofs.Clean.{line_none}

-- ---- the end of a text

-- nothing, or its last byte is a line feed
abbrev pub MayEnd : List ℕ → Type 0
MayEnd [] = Unit {0}
MayEnd (b ∷ bs) = Ended (b ∷ bs)

-- it is not all an escaped line end
pub record EndsWell (rest : List ℕ) : Type 0 where
  pub may : MayEnd rest
  pub no_escape : rest ≡ 92 ∷ 10 ∷ [] → ⊥
  pub no_escape_cr : rest ≡ 92 ∷ 13 ∷ 10 ∷ [] → ⊥

-- no part at its end is either
pub record IsTail (rest : List ℕ) : Type 0 where
  pub each : (k : ℕ) → EndsWell (drop k rest)

pub tail_drop : (k : ℕ) (rest : List ℕ) → IsTail rest → IsTail (drop k rest)
tail_drop k rest h = record { each = λ j. subst EndsWell (sym (drop-drop j k rest)) (h.each (k + j)) }

pub tail_ended : (rest : List ℕ) → IsTail rest → 0 < length rest → Ended rest
tail_ended [] h some = absurd (omega (arith, some))
tail_ended (b ∷ bs) h some = (h.each 0).may

ended_push : (xs : List ℕ) → Ended (xs ++ 10 ∷ [])
ended_push [] = refl
ended_push (b ∷ []) = refl
ended_push (b ∷ c ∷ bs) = ended_push (c ∷ bs)

may_next : (b : ℕ) (bs : List ℕ) → MayEnd (b ∷ bs) → MayEnd bs
may_next b [] h = tt
may_next b (c ∷ bs) h = h

may_drop : (k : ℕ) (xs : List ℕ) → MayEnd xs → MayEnd (drop k xs)
may_drop zero [] h = h
may_drop zero (b ∷ bs) h = h
may_drop (suc k) [] h = h
may_drop (suc k) (b ∷ bs) h = may_drop k bs (may_next b bs h)

may_ended : (xs : List ℕ) → Ended xs → MayEnd xs
may_ended [] h = absurd h
may_ended (b ∷ bs) h = h

pub tail_closed : (text : List ℕ) → IsClosed text → IsTail text
tail_closed text c =
    let front : (k : ℕ) (us : List ℕ) → drop k text ≡ us ++ 10 ∷ [] → c.front ≡ take k text ++ us =
    λ k us e. append_cancel_right c.front (take k text ++ us) (10 ∷ []) (sym c.line_feed ∙ sym (take-append-drop k text) ∙ ap (λ v. take k text ++ v) e ∙ sym (append_assoc (take k text) us (10 ∷ []))) in
    record {
      each = λ k. record {
        may = may_drop k text (may_ended text (subst Ended (sym c.line_feed) (ended_push c.front)));
        no_escape = λ e. c.not_escaped (take k text) (front k (92 ∷ []) e);
        no_escape_cr = λ e. c.not_escaped_cr (take k text) (front k (92 ∷ 13 ∷ []) e);
      };
    }

-- ---- lexemes

pub last_of : (xs : List ℕ) → Ended xs → get_or xs (length xs - 1) 0 ≡ 10
last_of [] h = absurd h
last_of (b ∷ []) h = h
last_of (b ∷ c ∷ bs) h = let e : length (b ∷ c ∷ bs) - 1 ≡ suc (length (c ∷ bs) - 1) = omega arith in ap (λ k. get_or (b ∷ c ∷ bs) k 0) e ∙ last_of (c ∷ bs) h

pub lexeme_more : (xs ys : List ℕ) (n : ℕ) (m : Meaning) → IsLexeme xs n m → Ended xs → IsLexeme (xs ++ ys) n m
lexeme_more xs ys n m h ended =
    let last = last_of xs ended in
    record {
      nonempty = h.nonempty;
      within = omega (arith, h.within, length-append xs ys);
      means = ap meaning (take-append-le n xs ys h.within) ∙ h.means;
      longest = λ k more fits. elim (cases_lt (length xs) k) [
        | inr le ↦ ap meaning (take-append-le k xs ys le) ∙ h.longest k more le
        | inl far ↦
            let at = length xs - 1 in
            let len = length-take-le k (xs ++ ys) fits in
            line_none (take k (xs ++ ys)) at (omega (arith, h.within, h.nonempty))
            (get_or-take k (xs ++ ys) at 0 (omega arith) ∙ get_or_append_left xs ys 0 at (omega (arith, h.within, h.nonempty)) ∙ last)
      ];
    }

-- it ends before the line feed
pub lexeme_short : (xs : List ℕ) (n : ℕ) (m : Meaning) → IsLexeme xs n m → Ended xs → n < length xs
lexeme_short xs n m h ended = elim (cases_lt n (length xs)) [
  | inl lt ↦ lt
  | inr ge ↦
      let at = length xs - 1 in
      let len = length-take-le n xs h.within in
      absurd (none_some m (sym (line_none (take n xs) at (omega (arith, h.nonempty, h.within)) (get_or-take n xs at 0 (omega (arith, h.nonempty, h.within)) ∙ last_of xs ended)) ∙ h.means))
]

-- ---- line ends

pub end_more : (xs ys : List ℕ) → Ended xs → line_end (xs ++ ys) ≡ line_end xs
unfolding line_end
end_more [] ys h = absurd h
end_more (b ∷ []) ys h = let e : eqb b 10 ≡ true = ap (λ c. eqb c 10) h in rw e refl
end_more (b ∷ c ∷ bs) ys h = refl

end_one : (b : ℕ) (ys : List ℕ) → b ≡ 10 → line_end (b ∷ ys) ≡ 1
unfolding line_end
end_one b ys h = let e : eqb b 10 ≡ true = ap (λ c. eqb c 10) h in rw e refl

pub len_more : (xs ys : List ℕ) → Ended xs → line_len (xs ++ ys) ≡ line_len xs
unfolding line_len
len_more [] ys h = absurd h
len_more (b ∷ []) ys h = ap {B = ℕ} (λ n. cond (eqb n 0) (suc (line_len ys)) 0) (end_one b ys h) ∙ sym (ap {B = ℕ} (λ n. cond (eqb n 0) (suc (line_len [])) 0) (end_one b [] h))
len_more (b ∷ c ∷ bs) ys h = let e = end_more (b ∷ c ∷ bs) ys h in let r = len_more (c ∷ bs) ys h in λ i. cond (eqb (e i) 0) (suc (r i)) 0

pub len_short : (xs : List ℕ) → Ended xs → line_len xs < length xs
unfolding line_len
len_short [] h = absurd h
len_short (b ∷ []) h = let e = end_one b [] h in rw e (omega arith)
len_short (b ∷ c ∷ bs) h = elim (cases_Bool (eqb (line_end (b ∷ c ∷ bs)) 0)) [ inl t ↦ rw t (omega (arith, len_short (c ∷ bs) h)) | inr f ↦ rw f (omega arith) ]

-- ---- escaped line ends

pub escaped_more : (xs ys : List ℕ) → Ended xs → escaped (xs ++ ys) ≡ escaped xs
unfolding escaped
escaped_more [] ys h = absurd h
escaped_more (b ∷ []) ys h = let e : eqb b 92 ≡ false = ap (λ c. eqb c 92) h in rw e refl
escaped_more (b ∷ c ∷ bs) ys h = let e = end_more (c ∷ bs) ys h in λ i. cond (eqb b 92 && ltb 0 (e i)) (e i + 1) 0

end_two : (c : ℕ) (bs : List ℕ) → line_end (c ∷ bs) ≤ 2
unfolding line_end
end_two c bs =
    elim (cases_Bool (eqb c 10)) [ inl t ↦ rw t (omega arith) | inr f ↦ rw f (elim (cases_Bool (eqb c 13 && begins_line bs)) [ inl g ↦ rw g (omega arith) | inr g ↦ rw g (omega arith) ]) ]

pair_end : (c d : ℕ) → line_end (c ∷ d ∷ []) ≡ 2 → (c ≡ 13) × (d ≡ 10)
unfolding line_end
pair_end c d e =
    elim (cases_Bool (eqb c 10)) [
      | inl t ↦ absurd (let n : 1 ≡ 2 = rw t at e in omega (arith, n))
      | inr f ↦ elim (cases_Bool (eqb c 13 && eqb d 10)) [
        | inl g ↦ both c d g
        | inr g ↦ absurd (let n : 0 ≡ 2 = rw (f, g) at e in omega (arith, n))
      ]
    ]
  where
    both : (c d : ℕ) → (eqb c 13 && eqb d 10) ≡ true → (c ≡ 13) × (d ≡ 10)
    both c d g = (one c d g, two c d g)
      where
        one : (c d : ℕ) → (eqb c 13 && eqb d 10) ≡ true → c ≡ 13
        one c d g = grind (arith, nat_tests)

        two : (c d : ℕ) → (eqb c 13 && eqb d 10) ≡ true → d ≡ 10
        two c d g = grind (arith, nat_tests)

same_two : (b c : ℕ) → b ≡ 92 → c ≡ 10 → b ∷ c ∷ [] ≡ 92 ∷ 10 ∷ []
same_two b c e f = λ i. e i ∷ f i ∷ []

same_three : (b c d : ℕ) → b ≡ 92 → c ≡ 13 → d ≡ 10 → b ∷ c ∷ d ∷ [] ≡ 92 ∷ 13 ∷ 10 ∷ []
same_three b c d e f g = λ i. e i ∷ f i ∷ g i ∷ []

escaped_by : (b : ℕ) (bs : List ℕ) → (eqb b 92 ≡ true → line_end bs < length bs) → escaped (b ∷ bs) < length (b ∷ bs)
unfolding escaped
escaped_by b bs h =
    elim (cases_Bool (eqb b 92 && ltb 0 (line_end bs))) [
      | inr f ↦ rw f (omega arith)
      | inl t ↦ rw t (omega (arith, h (first (eqb b 92) (ltb 0 (line_end bs)) t)))
    ]
  where
    first : (a b : Bool) → (a && b) ≡ true → a ≡ true
    first true b h = refl
    first false b h = absurd (false≢true h)

pub escaped_short : (xs : List ℕ) → Ended xs → EndsWell xs → escaped xs < length xs
unfolding escaped
escaped_short [] h w = absurd h
escaped_short (b ∷ []) h w = let e : eqb b 92 ≡ false = ap (λ c. eqb c 92) h in rw e (omega arith)
escaped_short (b ∷ c ∷ []) h w = escaped_by b (c ∷ []) (λ t. absurd (let e : b ≡ 92 = grind (arith, nat_tests) in w.no_escape (same_two b c e h)))
escaped_short (b ∷ c ∷ d ∷ []) h w = escaped_by b (c ∷ d ∷ []) (λ t. by_pair t (cases_lt (line_end (c ∷ d ∷ [])) 2))
  where
    by_pair : eqb b 92 ≡ true → (line_end (c ∷ d ∷ []) < 2) ⊎ (2 ≤ line_end (c ∷ d ∷ [])) → line_end (c ∷ d ∷ []) < length (c ∷ d ∷ [])
    by_pair t (inl lt) = omega (arith, lt)
    by_pair t (inr ge) =
        let p = pair_end c d (omega (arith, ge, end_two c (d ∷ []))) in
        let e : b ≡ 92 = grind (arith, nat_tests) in
        absurd (w.no_escape_cr (same_three b c d e p.0 h))
escaped_short (b ∷ c ∷ d ∷ e ∷ bs) h w = escaped_by b (c ∷ d ∷ e ∷ bs) (λ t. omega (arith, end_two c (d ∷ e ∷ bs)))

-- ---- fields

pub closes_more : (xs ys : List ℕ) → Ended xs → closes_field (xs ++ ys) ≡ closes_field xs
closes_more [] ys h = absurd h
closes_more (b ∷ []) ys h = let e : eqb b 33 ≡ false = ap (λ c. eqb c 33) h in rw e refl
closes_more (b ∷ c ∷ bs) ys h = refl

-- ---- blanks

-- the blanks of a line that something follows
pub leading_more : (rest b more : List ℕ) (c : ℕ) → drop (leading rest) rest ≡ c ∷ more → leading (rest ++ b) ≡ leading rest
leading_more [] b more c e = absurd (none_list _ _ e)
  where
    none_list : (c : ℕ) (more : List ℕ) → [] ≡ c ∷ more → ⊥
    none_list c more e = cc
leading_more (x ∷ xs) b more c e = elim (cases_Bool (is_blank x)) [
  | inl t ↦ rw t (ap (λ n. 1 + n) (leading_more xs b more c (rw (t, one-add) at e)))
  | inr t ↦ rw t refl
]
