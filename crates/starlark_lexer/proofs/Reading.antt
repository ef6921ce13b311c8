-- A format string has one reading, which the code finds.
use Rattle.std.proofs.Common.{◌≡◌, ◌≤◌, ℕ, ◌+◌, true, false, List, [], ◌∷◌, length, take, drop, refl, ap, sym, ◌∙◌, arith, zero, suc, inl, inr, eqb, subst, Option, Some, None}
use Rattle.std.proofs.lemmas.Bool.{cases_Bool, false≢true}
use Rattle.std.proofs.lemmas.Bool.Decides.{nat_tests}
use Rattle.std.proofs.lemmas.List.{length-drop}
use Rattle.starlark_lexer.specs.declared.format.EscapeCurlyBrace.TheVariants.{Open, Close}
use Rattle.starlark_lexer.specs.declared.format.FormatErrorKind.TheVariants.{Standalone, Unmatched, Conversion}
use Rattle.starlark_lexer.specs.declared.format.FormatConv.{FormatConv}
use Rattle.starlark_lexer.specs.declared.format.Turn.{Turn}
use Rattle.starlark_lexer.specs.declared.format.Turn.TheVariants.{Over, Text, Escape, Capture, Fault}
use Rattle.starlark_lexer.specs.Format.{Parsed, text, capture, escape, with_part, plain, begins, name_len, conversion, is_brace, inside, is_closed, behind_name, Pieces}
use Rattle.starlark_lexer.specs.FormatScan.{opens, turn, by_turn, parsed}
use Rattle.starlark_lexer.specs.Format.Pieces.{ends, opening, closing, runs, captures, converts_not, unmatched, standalone}
use Rattle.starlark_lexer.proofs.Formats.{cuts_of, step, text_turn}

-- ---- what stands at a place

turn_capture : (bs : List ℕ) (conv : FormatConv) → is_closed bs ≡ true → conversion (behind_name (inside bs)) ≡ Some conv → opens bs ≡ Capture (name_len (inside bs)) conv (length (inside bs) + 2)
turn_capture bs conv h k = rw (h, k) refl

turn_no : (bs : List ℕ) → is_closed bs ≡ true → conversion (behind_name (inside bs)) ≡ None → opens bs ≡ Fault Conversion
turn_no bs h k = rw (h, k) refl

turn_open : (bs : List ℕ) → is_closed bs ≡ false → opens bs ≡ Fault Unmatched
turn_open bs h = rw h refl

turn_at : (bs : List ℕ) → begins 123 bs ≡ false → turn (123 ∷ bs) ≡ opens bs
unfolding turn
turn_at bs h = rw h refl

turn_lone : (bs : List ℕ) → begins 125 bs ≡ false → turn (125 ∷ bs) ≡ Fault Standalone
unfolding turn
turn_lone bs h = rw h refl

turn_doubled_open : (rest : List ℕ) → turn (123 ∷ 123 ∷ rest) ≡ Escape Open
unfolding turn
turn_doubled_open rest = refl

turn_doubled_close : (rest : List ℕ) → turn (125 ∷ 125 ∷ rest) ≡ Escape Close
unfolding turn
turn_doubled_close rest = refl

turn_end : turn [] ≡ Over
unfolding turn
turn_end = refl

not_both : (b : ℕ) → eqb b 123 ≡ true → eqb b 125 ≡ true → ⊥
not_both b h k = grind (arith, nat_tests)

is_code : (b c : ℕ) → eqb b c ≡ true → c ≡ b
is_code b c h = grind (arith, nat_tests)

-- a run that a closing brace follows does not begin with an opening one
closed_single : (bs : List ℕ) → is_closed bs ≡ true → begins 123 bs ≡ false
closed_single [] h = refl
closed_single (b ∷ bs) h = elim (cases_Bool (eqb b 123)) [ inr e ↦ e | inl e ↦ absurd (not_both b e (rw e at h)) ]

no_braces : (b : ℕ) → is_brace b ≡ false → (eqb b 123 ≡ false) × (eqb b 125 ≡ false)
no_braces b h =
    elim (cases_Bool (eqb b 123)) [
      | inl e ↦ absurd (false≢true (sym (rw e at h)))
      | inr e ↦ (e, rw e at h)
    ]

-- ---- the rules give only what is parsed

complete : (i : ℕ) (xs : List ℕ) (p : Parsed) → Pieces i xs p → p ≡ parsed i 0 xs
complete _ _ _ (ends i) = sym (step i [] Over turn_end)
complete _ _ _ (opening i rest p h) = ap (with_part (escape Open)) (complete (i + 2) rest p h) ∙ sym (step i (123 ∷ 123 ∷ rest) (Escape Open) (turn_doubled_open rest))
complete _ _ _ (closing i rest p h) = ap (with_part (escape Close)) (complete (i + 2) rest p h) ∙ sym (step i (125 ∷ 125 ∷ rest) (Escape Close) (turn_doubled_close rest))
complete _ _ _ (runs i b bs p free h) =
    let n = plain (b ∷ bs) in
    let e = no_braces b free in
    ap (with_part (text (take n (b ∷ bs)))) (complete (i + n) (drop n (b ∷ bs)) p h) ∙ sym (step i (b ∷ bs) (Text n) (text_turn b bs e.0 e.1))
complete _ _ _ (captures i bs conv p h k d) =
    let n = name_len (inside bs) in
    let m = length (inside bs) + 2 in
    ap (with_part (capture (take n bs) (i + 1) conv)) (complete (i + m) (drop m (123 ∷ bs)) p d) ∙ sym (step i (123 ∷ bs) (Capture n conv m) (turn_at bs (closed_single bs h) ∙ turn_capture bs conv h k))
complete _ _ _ (converts_not i bs h k) = sym (step i (123 ∷ bs) (Fault Conversion) (turn_at bs (closed_single bs h) ∙ turn_no bs h k))
complete _ _ _ (unmatched i bs h k) = sym (step i (123 ∷ bs) (Fault Unmatched) (turn_at bs h ∙ turn_open bs k))
complete _ _ _ (standalone i bs h) = sym (step i (125 ∷ bs) (Fault Standalone) (turn_lone bs h))

pub one_parsed : (xs : List ℕ) (p q : Parsed) → Pieces 0 xs p → Pieces 0 xs q → p ≡ q
one_parsed xs p q h k = complete 0 xs p h ∙ sym (complete 0 xs q k)

-- ---- what is parsed is by the rules

by : (i : ℕ) (xs : List ℕ) (t : Turn) → turn xs ≡ t → Pieces i xs (by_turn t i xs (λ k. parsed (i + k) 0 (drop k xs))) → Pieces i xs (parsed i 0 xs)
by i xs t e h = subst (Pieces i xs) (sym (step i xs t e)) h

module _ (n : ℕ) (go : (i : ℕ) (xs : List ℕ) → length xs ≤ n → Pieces i xs (parsed i 0 xs)) where
  doubled_open : (i : ℕ) (bs : List ℕ) → length bs ≤ n → begins 123 bs ≡ true → Pieces i (123 ∷ bs) (parsed i 0 (123 ∷ bs))
  doubled_open i [] h e = absurd (false≢true e)
  doubled_open i (c ∷ cs) h e =
      subst (λ c. Pieces i (123 ∷ c ∷ cs) (parsed i 0 (123 ∷ c ∷ cs))) (is_code c 123 e)
      (by i (123 ∷ 123 ∷ cs) (Escape Open) (turn_doubled_open cs) (opening i cs (parsed (i + 2) 0 cs) (go (i + 2) cs (omega (arith, h)))))

  doubled_close : (i : ℕ) (bs : List ℕ) → length bs ≤ n → begins 125 bs ≡ true → Pieces i (125 ∷ bs) (parsed i 0 (125 ∷ bs))
  doubled_close i [] h e = absurd (false≢true e)
  doubled_close i (c ∷ cs) h e =
      subst (λ c. Pieces i (125 ∷ c ∷ cs) (parsed i 0 (125 ∷ c ∷ cs))) (is_code c 125 e)
      (by i (125 ∷ 125 ∷ cs) (Escape Close) (turn_doubled_close cs) (closing i cs (parsed (i + 2) 0 cs) (go (i + 2) cs (omega (arith, h)))))

  by_conv : (i : ℕ) (bs : List ℕ) → length bs ≤ n → is_closed bs ≡ true → (o : Option FormatConv) → conversion (behind_name (inside bs)) ≡ o → Pieces i (123 ∷ bs) (parsed i 0 (123 ∷ bs))
  by_conv i bs h f None k = by i (123 ∷ bs) (Fault Conversion) (turn_at bs (closed_single bs f) ∙ turn_no bs f k) (converts_not i bs f k)
  by_conv i bs h f (Some conv) k =
      let m = length (inside bs) + 2 in
      let less : length (drop m (123 ∷ bs)) ≤ n = omega (arith, h, length-drop m (123 ∷ bs)) in
      by i (123 ∷ bs) (Capture (name_len (inside bs)) conv m) (turn_at bs (closed_single bs f) ∙ turn_capture bs conv f k) (captures i bs conv (parsed (i + m) 0 (drop m (123 ∷ bs))) f k (go (i + m) (drop m (123 ∷ bs)) less))

  at_open : (i : ℕ) (bs : List ℕ) → length bs ≤ n → Pieces i (123 ∷ bs) (parsed i 0 (123 ∷ bs))
  at_open i bs h =
      elim (cases_Bool (begins 123 bs)) [
        | inl e ↦ doubled_open i bs h e
        | inr e ↦ elim (cases_Bool (is_closed bs)) [
          | inl f ↦ by_conv i bs h f (conversion (behind_name (inside bs))) refl
          | inr f ↦ by i (123 ∷ bs) (Fault Unmatched) (turn_at bs e ∙ turn_open bs f) (unmatched i bs e f)
        ]
      ]

  at_close : (i : ℕ) (bs : List ℕ) → length bs ≤ n → Pieces i (125 ∷ bs) (parsed i 0 (125 ∷ bs))
  at_close i bs h =
      elim (cases_Bool (begins 125 bs)) [
        | inl e ↦ doubled_close i bs h e
        | inr e ↦ by i (125 ∷ bs) (Fault Standalone) (turn_lone bs e) (standalone i bs e)
      ]

  at_run : (i b : ℕ) (bs : List ℕ) → length bs ≤ n → eqb b 123 ≡ false → eqb b 125 ≡ false → Pieces i (b ∷ bs) (parsed i 0 (b ∷ bs))
  at_run i b bs h e f =
      let m = plain (b ∷ bs) in
      let is : turn (b ∷ bs) ≡ Text m = text_turn b bs e f in
      let no : is_brace b ≡ false = rw (e, f) refl in
      let less : length (drop m (b ∷ bs)) ≤ n = omega (arith, h, length-drop m (b ∷ bs), (cuts_of (Text m) (b ∷ bs) is).moves) in
      by i (b ∷ bs) (Text m) is (runs i b bs (parsed (i + m) 0 (drop m (b ∷ bs))) no (go (i + m) (drop m (b ∷ bs)) less))

sound_to : (n i : ℕ) (xs : List ℕ) → length xs ≤ n → Pieces i xs (parsed i 0 xs)
sound_to n i [] h = by i [] Over turn_end (ends i)
sound_to zero i (b ∷ bs) h = absurd (omega (arith, h))
sound_to (suc n) i (b ∷ bs) h =
    let go : (j : ℕ) (ys : List ℕ) → length ys ≤ n → Pieces j ys (parsed j 0 ys) = λ j ys k. sound_to n j ys k in
    let less : length bs ≤ n = omega (arith, h) in
    elim (cases_Bool (eqb b 123)) [
      | inl e ↦ subst (λ b. Pieces i (b ∷ bs) (parsed i 0 (b ∷ bs))) (is_code b 123 e) (at_open n go i bs less)
      | inr e ↦ elim (cases_Bool (eqb b 125)) [
        | inl f ↦ subst (λ b. Pieces i (b ∷ bs) (parsed i 0 (b ∷ bs))) (is_code b 125 f) (at_close n go i bs less)
        | inr f ↦ at_run n go i b bs less e f
      ]
    ]

pub sound : (xs : List ℕ) → Pieces 0 xs (parsed 0 0 xs)
sound xs = sound_to (length xs) 0 xs (omega arith)
