-- Each step leaves less, so that the steps come to an end.
use Rattle.std.proofs.Common.{◌≡◌, ◌<◌, ◌≤◌, ℕ, ◌+◌, Bool, true, false, cond, List, [], ◌∷◌, length, drop, refl, ap, sym, ◌∙◌, ◌&&◌, eqb, arith, zero, suc, inl, inr, subst, length-drop, add-zero}
use Rattle.std.specs.Prelude.{◌⊎◌}
use Rattle.std.proofs.lemmas.Bool.{cases_Bool, false≢true}
use Rattle.std.proofs.lemmas.List.{drop-drop}
use Rattle.starlark_lexer.specs.declared.scan.Found.{Found}
use Rattle.starlark_lexer.specs.declared.scan.Found.TheVariants as found
use Rattle.starlark_lexer.specs.declared.scan.Turn.{Turn}
use Rattle.starlark_lexer.specs.declared.scan.Turn.TheVariants as turns
use Rattle.starlark_lexer.specs.Items.{with_items}
use Rattle.starlark_lexer.specs.Scan.{At, Act, goes, stops, act, skip, goes_by, within_by, in_text, here, text_turn, literal_turn, opens_turn, at_ground, scan, turn_of, line_turn, step, follow, run, size, left_at, pass, gap, is_joined}
use Rattle.starlark_lexer.specs.Turns.{Cuts, IsLexical}
use Rattle.starlark_lexer.proofs.Cuts.{here_cuts, line_cuts, text_cuts}
use Rattle.starlark_lexer.specs.Classes.{closes_field}
use Rattle.starlark_lexer.specs.declared.literal.Form.{Form}
use Rattle.starlark_lexer.specs.declared.literal.Ending.{Ending}
use Rattle.starlark_lexer.specs.declared.literal.Ending.TheVariants as ending
use Rattle.starlark_lexer.specs.Literals.{body, is_format}
use Rattle.starlark_lexer.specs.declared.scan.Mode.{Mode}
use Rattle.starlark_lexer.specs.declared.scan.Mode.TheVariants as mode
use Rattle.starlark_lexer.proofs.Gaps.{pass_within, gap_step, gap_stop}

abbrev pub Shorter : At → Act → Type 0
Shorter c (goes xs d) = size d < size c
Shorter c (stops l) = Unit {0}

bit_most : (b : Bool) → cond b 1 0 ≤ 1
bit_most true = omega arith
bit_most false = omega arith

act_shorter : (c : At) (t : Turn) → Cuts c.rest t → IsLexical t ⊎ (c.state.fresh ≡ true) → Shorter c (act t c)
act_shorter c (turns.End i) h u = tt
act_shorter c (turns.Tab i) h u = tt
act_shorter c (turns.Fault i e n) h u = tt
act_shorter c (turns.Gives i k n next f) h u = omega (arith, h.some, h.fits, h.within, length-drop next c.rest, bit_most f)
act_shorter c (turns.Enter f n) h u = omega (arith, h.0, h.1, length-drop n c.rest, bit_most c.state.fresh)
act_shorter c (turns.Leave n) h u = omega (arith, h.0, h.1, length-drop n c.rest, bit_most c.state.fresh)
act_shorter c turns.Open h u = omega (arith, h, length-drop 1 c.rest, bit_most c.state.fresh)
act_shorter c turns.Shut h u = omega (arith, h, length-drop 1 c.rest, bit_most c.state.fresh)
act_shorter c (turns.Unfinished n) h u = tt
act_shorter c (turns.Deeper w g) h (inl u) = absurd u
act_shorter c (turns.Deeper w g) h (inr u) = omega (arith, h, length-drop g c.rest, ap {B = ℕ} (λ b. cond b 1 0) u)
act_shorter c (turns.Fits k g) h (inl u) = absurd u
act_shorter c (turns.Fits k g) h (inr u) = omega (arith, length-drop g c.rest, ap {B = ℕ} (λ b. cond b 1 0) u)

literal_lexical : (f : Form) (n : ℕ) (x : Ending) → IsLexical (literal_turn f n x)
literal_lexical f n (ending.Closed k) = tt
literal_lexical f n (ending.Field k) = tt
literal_lexical f n (ending.Unfinished k) = tt
literal_lexical f n (ending.Escape k m) = tt

opens_lexical : (f : Form) (n : ℕ) (rest : List ℕ) → IsLexical (opens_turn f n rest)
opens_lexical f n rest = elim (cases_Bool (is_format f.sort)) [ inl e ↦ rw e tt | inr e ↦ rw e (literal_lexical f n (body f 0 (drop n rest))) ]

turn_lexical : (rest : List ℕ) (x : Found × ℕ) → IsLexical (turn_of rest x)
turn_lexical rest (found.Kind k, n) = tt
turn_lexical rest (found.Fault e, n) = tt
turn_lexical rest (found.Opens f, n) = opens_lexical f n rest

pub here_lexical : (m : Mode) (rest : List ℕ) → IsLexical (here m rest)
unfolding here
here_lexical m [] = tt
here_lexical m (b ∷ bs) =
    elim (cases_Bool (eqb b 10)) [
      | inl e ↦ rw e tt
      | inr e ↦ rw e (
          elim (cases_Bool (eqb b 35)) [
            | inl f ↦ rw f tt
            | inr f ↦ rw f (
                elim (cases_Bool (at_ground m && closes_field (b ∷ bs))) [ inl z ↦ rw z (elim (cases_Bool (eqb b 125)) [ inl y ↦ rw y tt | inr y ↦ rw y tt ]) | inr z ↦ rw z (turn_lexical (b ∷ bs) (scan (b ∷ bs))) ])
          ])
    ]

pub text_lexical : (f : Form) (x : Ending) → IsLexical (text_turn f x)
text_lexical f (ending.Closed zero) = tt
text_lexical f (ending.Closed (suc k)) = tt
text_lexical f (ending.Field zero) = tt
text_lexical f (ending.Field (suc k)) = tt
text_lexical f (ending.Unfinished k) = tt
text_lexical f (ending.Escape k m) = tt

by_shorter : (c : At) (n : ℕ) → n ≤ length c.rest → c.state.fresh ≡ false → Shorter c (goes_by n c)
by_shorter c zero le f = act_shorter c (here c.state.mode c.rest) (here_cuts c.state.mode c.rest) (inl (here_lexical c.state.mode c.rest))
by_shorter c (suc n) le f = omega (arith, length-drop (suc n) c.rest, ap {B = ℕ} (λ b. cond b 1 0) f)

pub step_fresh : (c : At) → c.state.fresh ≡ true → step c ≡ act (line_turn c.widths c.rest) c
unfolding step
step_fresh c f = rw f refl

pub step_inside : (c : At) → c.state.fresh ≡ false → step c ≡ within_by c.state.mode c
unfolding step
step_inside c f = ap (λ b. cond b (act (line_turn c.widths c.rest) c) (within_by c.state.mode c)) f

code_by : (m : Mode) (c : At) → in_text m ≡ false → within_by m c ≡ goes_by (pass (is_joined c.state) c.rest) c
code_by mode.Code c h = refl
code_by (mode.Inside b f) c h = absurd (false≢true (sym h))
code_by (mode.Field b f d) c h = refl

pub step_within : (c : At) → c.state.fresh ≡ false → in_text c.state.mode ≡ false → step c ≡ goes_by (pass (is_joined c.state) c.rest) c
step_within c f m = step_inside c f ∙ code_by c.state.mode c m

pub step_text : (c : At) → c.state.fresh ≡ false → (b : ℕ) (g : Form) → c.state.mode ≡ mode.Inside b g → step c ≡ act (text_turn g (body g 0 c.rest)) c
step_text c f b g m = step_inside c f ∙ ap (λ m. within_by m c) m

within_shorter : (c : At) (m : Mode) → c.state.fresh ≡ false → c.state.mode ≡ m → Shorter c (step c)
within_shorter c mode.Code f e = subst (Shorter c) (sym (step_within c f (ap in_text e))) (by_shorter c (pass (is_joined c.state) c.rest) (pass_within _ c.rest) f)
within_shorter c (mode.Inside b g) f e = subst (Shorter c) (sym (step_text c f b g e)) (act_shorter c (text_turn g (body g 0 c.rest)) (text_cuts c.rest g) (inl (text_lexical g (body g 0 c.rest))))
within_shorter c (mode.Field b g d) f e = subst (Shorter c) (sym (step_within c f (ap in_text e))) (by_shorter c (pass (is_joined c.state) c.rest) (pass_within _ c.rest) f)

pub shorter : (c : At) → Shorter c (step c)
shorter c =
    elim (cases_Bool c.state.fresh) [
      | inl f ↦ subst (Shorter c) (sym (step_fresh c f)) (act_shorter c (line_turn c.widths c.rest) (line_cuts c.widths c.rest) (inr f))
      | inr f ↦ within_shorter c c.state.mode f refl
    ]

-- ---- more fuel changes nothing

abbrev Enough : ℕ → ℕ → Type 0
Enough f g = (c : At) → size c < f → size c < g → run f c ≡ run g c

follow_same : (f g : ℕ) → Enough f g → (c : At) (a : Act) → Shorter c a → size c < suc f → size c < suc g → follow a (run f) ≡ follow a (run g)
follow_same f g h c (goes xs d) s l m = ap (with_items xs) (h d (omega arith) (omega arith))
follow_same f g h c (stops l) s lt m = refl

enough : (f g : ℕ) → Enough f g
unfolding run
enough zero g c l m = absurd (omega arith)
enough (suc f) zero c l m = absurd (omega arith)
enough (suc f) (suc g) c l m = follow_same f g (enough f g) c (step c) (shorter c) l m

left_follow : (c : At) (a : Act) → Shorter c a → follow a (run (size c)) ≡ follow a left_at
left_follow c (goes xs d) s = ap (with_items xs) (enough (size c) (suc (size d)) d s (omega arith))
left_follow c (stops l) s = refl

pub left_step : (c : At) → left_at c ≡ follow (step c) left_at
unfolding run
left_step c = left_follow c (step c) (shorter c)

left_pass : (c : At) (n : ℕ) → c.state.fresh ≡ false → in_text c.state.mode ≡ false → pass (is_joined c.state) c.rest ≡ suc n → left_at c ≡ left_at (skip (suc n) c)
left_pass c n f m h = left_step c ∙ ap (λ a. follow a left_at) (step_within c f m ∙ ap (λ k. goes_by k c) h)

skip_none : (c : At) → c.state.fresh ≡ false → c ≡ skip 0 c
skip_none c f = λ i. record {
  state = record { place = sym (add-zero c.state.place) i; opened = c.state.opened; closed = c.state.closed; line_begin = c.state.line_begin; line_end = c.state.line_end; fresh = f i; mode = c.state.mode };
  widths = c.widths;
  outer = c.outer;
  rest = c.rest;
}

skip_skip : (c : At) (n m : ℕ) → skip m (skip n c) ≡ skip (n + m) c
skip_skip c n m =
    let e : c.state.place + n + m ≡ c.state.place + (n + m) = omega arith in
    λ i. record {
      state = record { place = e i; opened = c.state.opened; closed = c.state.closed; line_begin = c.state.line_begin; line_end = c.state.line_end; fresh = false; mode = c.state.mode };
      widths = c.widths;
      outer = c.outer;
      rest = drop-drop m n c.rest i;
    }

left_by : (c : At) (n : ℕ) → pass (is_joined c.state) c.rest ≡ n → c.state.fresh ≡ false → in_text c.state.mode ≡ false → (0 < n → left_at (skip n c) ≡ left_at (skip (gap (is_joined c.state) 0 (drop n c.rest)) (skip n c)))
    → left_at c ≡ left_at (skip (gap (is_joined c.state) 0 c.rest) c)
left_by c zero h f m later = ap left_at (skip_none c f) ∙ ap (λ k. left_at (skip k c)) (sym (gap_stop (is_joined c.state) c.rest h))
left_by c (suc n) h f m later =
    left_pass c n f m h ∙ later (omega arith) ∙ ap left_at (skip_skip c (suc n) (gap (is_joined c.state) 0 (drop (suc n) c.rest))) ∙ ap (λ k. left_at (skip k c)) (sym (gap_step (is_joined c.state) c.rest n h))

left_gaps : (m : ℕ) (c : At) → length c.rest ≤ m → c.state.fresh ≡ false → in_text c.state.mode ≡ false → left_at c ≡ left_at (skip (gap (is_joined c.state) 0 c.rest) c)
left_gaps zero c le f t = left_by c (pass (is_joined c.state) c.rest) refl f t (λ pos. absurd (omega (arith, pass_within (is_joined c.state) c.rest)))
left_gaps (suc m) c le f t =
    let n = pass (is_joined c.state) c.rest in
    left_by c n refl f t (λ pos. left_gaps m (skip n c) (omega (arith, length-drop n c.rest, pass_within (is_joined c.state) c.rest)) refl t)

pub left_gap : (c : At) → c.state.fresh ≡ false → in_text c.state.mode ≡ false → left_at c ≡ left_at (skip (gap (is_joined c.state) 0 c.rest) c)
left_gap c f t = left_gaps (length c.rest) c (omega arith) f t

-- behind a gap nothing is passed over
over_by : (j : Bool) (xs : List ℕ) (n : ℕ) → pass j xs ≡ n → (0 < n → pass j (drop (gap j 0 (drop n xs)) (drop n xs)) ≡ 0) → pass j (drop (gap j 0 xs) xs) ≡ 0
over_by j xs zero h later = ap (λ k. pass j (drop k xs)) (gap_stop j xs h) ∙ h
over_by j xs (suc n) h later = ap (λ k. pass j (drop k xs)) (gap_step j xs n h) ∙ ap (pass j) (sym (drop-drop (gap j 0 (drop (suc n) xs)) (suc n) xs)) ∙ later (omega arith)

gaps_over : (m : ℕ) (j : Bool) (xs : List ℕ) → length xs ≤ m → pass j (drop (gap j 0 xs) xs) ≡ 0
gaps_over zero j xs le = over_by j xs (pass j xs) refl (λ pos. absurd (omega (arith, pass_within j xs)))
gaps_over (suc m) j xs le = over_by j xs (pass j xs) refl (λ pos. gaps_over m j (drop (pass j xs) xs) (omega (arith, length-drop (pass j xs) xs, pass_within j xs)))

pub gap_over : (j : Bool) (xs : List ℕ) → pass j (drop (gap j 0 xs) xs) ≡ 0
gap_over j xs = gaps_over (length xs) j xs (omega arith)
