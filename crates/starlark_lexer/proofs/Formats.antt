-- A format string is read piece by piece.
use Rattle.std.proofs.Common.{◌≡◌, ◌<◌, ◌≤◌, ℕ, ◌+◌, ◌-◌, true, false, cond, not, ◌||◌, List, [], ◌∷◌, length, take, drop, get_or, refl, ap, sym, ◌∙◌, arith, zero, suc, inl, inr, eqb, subst, add-zero, Option, Some, None}
use Rattle.std.proofs.lemmas.Str.{IsCharBoundary-before_ascii}
use Rattle.std.proofs.lemmas.Bool.{cases_Bool, cases_lt, false≢true}
use Rattle.std.proofs.lemmas.Bool.Decides.{nat_tests}
use Rattle.std.proofs.lemmas.List.{get_or-drop, get_or-take, length-take-le, length-drop}
use Rattle.std.proofs.lemmas.List.Sums.{prefix_len_stops, prefix_len-le-length}
use Rattle.std.specs.Str.{IsCharBoundary}
use Rattle.starlark_lexer.specs.declared.format.EscapeCurlyBrace.TheVariants.{Open, Close}
use Rattle.starlark_lexer.specs.declared.format.FormatErrorKind.TheVariants.{Standalone}
use Rattle.starlark_lexer.specs.declared.format.FormatConv.{FormatConv}
use Rattle.starlark_lexer.specs.declared.format.Turn.{Turn}
use Rattle.starlark_lexer.specs.declared.format.Turn.TheVariants.{Over, Text, Escape, Capture, Fault}
use Rattle.starlark_lexer.specs.declared.format.FormatError.{FormatError}
use Rattle.starlark_lexer.specs.Format.{Format, Part, text, capture, escape, with_part, plain, begins, name_len, conversion, IsOver, IsFirst, IsError}
use Rattle.starlark_lexer.specs.FormatScan.{by_conversion, opens, turn, by_turn, parsed}
use Rattle.starlark_lexer.proofs.Ascii.{is_low, at_next}

-- ---- where a text may be cut

low_brace : (b : ℕ) → not (eqb b 123 || eqb b 125) ≡ false → b < 128
low_brace b h = grind (arith, nat_tests)

low_bang : (b : ℕ) → not (eqb b 33) ≡ false → b < 128
low_bang b h = grind (arith, nat_tests)

pub plain_boundary : (xs : List ℕ) → IsCharBoundary xs (plain xs)
plain_boundary xs =
    (prefix_len-le-length (λ b. not (eqb b 123 || eqb b 125)) xs, λ lt high. absurd (omega (arith, low_brace (get_or xs (plain xs) 0) (prefix_len_stops (λ b. not (eqb b 123 || eqb b 125)) xs 0 lt))))

pub record IsText (xs : List ℕ) (n : ℕ) : Type 0 where
  pub moves : 0 < n
  pub within : n ≤ length xs
  pub whole : n ≡ plain xs

pub record IsEscape (xs : List ℕ) : Type 0 where
  pub within : 2 ≤ length xs
  pub low : get_or xs 1 0 < 128

pub record IsCapture (xs : List ℕ) (n len : ℕ) : Type 0 where
  pub first : get_or xs 0 0 < 128
  pub name : 1 + n < length xs
  pub behind : get_or xs (1 + n) 0 < 128
  pub moves : 0 < len
  pub within : len ≤ length xs
  pub last : get_or xs (len - 1) 0 < 128

abbrev pub Cuts : Turn → List ℕ → Type 0
Cuts Over xs = length xs ≡ 0
Cuts (Text n) xs = IsText xs n
Cuts (Escape e) xs = IsEscape xs
Cuts (Capture n conv len) xs = IsCapture xs n len
Cuts (Fault k) xs = 0 < length xs

begins_at : (c : ℕ) (xs : List ℕ) → begins c xs ≡ true → (0 < length xs) × (eqb (get_or xs 0 0) c ≡ true)
begins_at c [] h = absurd (false≢true h)
begins_at c (x ∷ xs) h = (omega arith, h)

pair : (c b : ℕ) (bs : List ℕ) → c < 128 → begins c bs ≡ true → IsEscape (b ∷ bs)
pair c b [] l h = absurd (false≢true h)
pair c b (x ∷ bs) l h = record { within = omega arith; low = is_low x c l h }

-- what stands behind a name, within the n bytes before the closing brace
behind_name : (bs : List ℕ) (n : ℕ) → n < length bs → get_or bs n 0 < 128 → get_or bs (name_len (take n bs)) 0 < 128
behind_name bs n lt low =
    let m = name_len (take n bs) in
    let long : length (take n bs) ≡ n = length-take-le n bs (omega (arith, lt)) in
    let most : m ≤ length (take n bs) = prefix_len-le-length (λ b. not (eqb b 33)) (take n bs) in
    elim (cases_lt m n) [
      | inl less ↦
          let stops_there : get_or (take n bs) m 0 < 128 = low_bang (get_or (take n bs) m 0) (prefix_len_stops (λ b. not (eqb b 33)) (take n bs) 0 (omega (arith, long, less))) in
          subst (λ b. b < 128) (get_or-take n bs m 0 less) stops_there
      | inr more ↦
          let e : n ≡ m = omega (arith, long, most, more) in
          subst (λ k. get_or bs k 0 < 128) e low
    ]

named_cuts : (b : ℕ) (bs : List ℕ) (n : ℕ) (o : Option FormatConv) → b < 128 → n < length bs → get_or bs n 0 < 128 → Cuts (by_conversion o (name_len (take n bs)) (length (take n bs) + 2)) (b ∷ bs)
named_cuts b bs n None l lt low = omega arith
named_cuts b bs n (Some c) l lt low =
    let m = name_len (take n bs) in
    let long : length (take n bs) ≡ n = length-take-le n bs (omega (arith, lt)) in
    let most : m ≤ length (take n bs) = prefix_len-le-length (λ b. not (eqb b 33)) (take n bs) in
    record { first = l; name = omega (arith, lt, long, most); behind = at_next b bs (1 + m) m (omega arith) (behind_name bs n lt low); moves = omega arith; within = omega (arith, lt, long); last = at_next b bs (length (take n bs) + 2 - 1) n (omega (arith, long)) low }

opens_cuts : (b : ℕ) (bs : List ℕ) → b < 128 → Cuts (opens bs) (b ∷ bs)
opens_cuts b bs l =
    let n = plain bs in
    let most : n ≤ length bs = prefix_len-le-length (λ b. not (eqb b 123 || eqb b 125)) bs in
    elim (cases_Bool (begins 125 (drop n bs))) [
      | inr e ↦ rw e (omega arith)
      | inl e ↦
          let at = begins_at 125 (drop n bs) e in
          let lt : n < length bs = omega (arith, at.0, length-drop n bs) in
          let same : get_or (drop n bs) 0 0 ≡ get_or bs n 0 = get_or-drop n bs 0 0 ∙ ap (λ k. get_or bs k 0) (add-zero n) in
          let low : get_or bs n 0 < 128 = subst (λ b. b < 128) same (is_low (get_or (drop n bs) 0 0) 125 (omega arith) at.1) in
          rw e (named_cuts b bs n (conversion (drop (name_len (take n bs)) (take n bs))) l lt low)
    ]

plain_some : (b : ℕ) (bs : List ℕ) → eqb b 123 ≡ false → eqb b 125 ≡ false → 0 < plain (b ∷ bs)
plain_some b bs e d = rw (e, d) (omega arith)

pub text_turn : (b : ℕ) (bs : List ℕ) → eqb b 123 ≡ false → eqb b 125 ≡ false → turn (b ∷ bs) ≡ Text (plain (b ∷ bs))
unfolding turn
text_turn b bs e f =
    let doubled = cond (begins 125 bs) (Escape Close) (Fault Standalone) in
    let rest = Text (plain (b ∷ bs)) in
    ap (λ c. cond c (cond (begins 123 bs) (Escape Open) (opens bs)) (cond (eqb b 125) doubled rest)) e ∙ ap (λ c. cond c doubled rest) f

pub turn_cuts : (xs : List ℕ) → Cuts (turn xs) xs
unfolding turn
turn_cuts [] = refl
turn_cuts (b ∷ bs) =
    elim (cases_Bool (eqb b 123)) [
      | inl e ↦ rw e (elim (cases_Bool (begins 123 bs)) [ inl d ↦ rw d (pair 123 b bs (omega arith) d) | inr d ↦ rw d (opens_cuts b bs (is_low b 123 (omega arith) e)) ])
      | inr e ↦ elim (cases_Bool (eqb b 125)) [
        | inl f ↦ rw (e, f) (elim (cases_Bool (begins 125 bs)) [ inl d ↦ rw d (pair 125 b bs (omega arith) d) | inr d ↦ rw d (omega arith) ])
        | inr f ↦ subst (λ t. Cuts t (b ∷ bs)) (sym (text_turn b bs e f)) (record { moves = plain_some b bs e f; within = prefix_len-le-length (λ b. not (eqb b 123 || eqb b 125)) (b ∷ bs); whole = refl })
      ]
    ]

pub cuts_of : (t : Turn) (xs : List ℕ) → turn xs ≡ t → Cuts t xs
cuts_of t xs e = subst (λ s. Cuts s xs) e (turn_cuts xs)

pub boundary_text : (xs : List ℕ) (n : ℕ) → turn xs ≡ Text n → IsCharBoundary xs n
boundary_text xs n e = subst (IsCharBoundary xs) (sym (cuts_of (Text n) xs e).whole) (plain_boundary xs)

pub boundary_name : (xs : List ℕ) (n len : ℕ) → IsCapture xs n len → IsCharBoundary xs (1 + n)
boundary_name xs n len c = IsCharBoundary-before_ascii xs (1 + n) c.name c.behind

-- ---- one step of the whole

skip : (i n : ℕ) (xs : List ℕ) → parsed i n xs ≡ parsed (i + n) 0 (drop n xs)
unfolding parsed
skip i zero xs = ap (λ k. parsed k 0 xs) (sym (add-zero i))
skip i (suc n) [] = refl
skip i (suc n) (b ∷ bs) = skip (i + 1) n bs ∙ ap (λ k. parsed k 0 (drop n bs)) (omega arith)

go_on : (i k b : ℕ) (bs : List ℕ) → 0 < k → parsed (i + 1) (k - 1) bs ≡ parsed (i + k) 0 (drop k (b ∷ bs))
go_on i zero b bs h = absurd (omega (arith, h))
go_on i (suc k) b bs h =
    let e : suc k - 1 ≡ k = omega arith in
    ap (λ j. parsed (i + 1) j bs) e ∙ skip (i + 1) k bs ∙ ap (λ j. parsed j 0 (drop k bs)) (omega arith)

by_same : (i b : ℕ) (bs : List ℕ) (t : Turn) → Cuts t (b ∷ bs) → by_turn t i (b ∷ bs) (λ k. parsed (i + 1) (k - 1) bs) ≡ by_turn t i (b ∷ bs) (λ k. parsed (i + k) 0 (drop k (b ∷ bs)))
by_same i b bs Over c = refl
by_same i b bs (Text n) c = ap (with_part (text (take n (b ∷ bs)))) (go_on i n b bs c.moves)
by_same i b bs (Escape e) c = ap (with_part (escape e)) (go_on i 2 b bs (omega arith))
by_same i b bs (Capture n conv len) c = ap (with_part (capture (take n bs) (i + 1) conv)) (go_on i len b bs c.moves)
by_same i b bs (Fault k) c = refl

pub step : (i : ℕ) (xs : List ℕ) (t : Turn) → turn xs ≡ t → parsed i 0 xs ≡ by_turn t i xs (λ k. parsed (i + k) 0 (drop k xs))
unfolding parsed turn
step i [] t e = ap (λ s. by_turn s i [] (λ k. parsed (i + k) 0 (drop k []))) e
step i (b ∷ bs) t e = ap (λ s. by_turn s i (b ∷ bs) (λ k. parsed (i + 1) (k - 1) bs)) e ∙ by_same i b bs t (cuts_of t (b ∷ bs) e)

-- ---- what a parser has before it

abbrev pub view : List ℕ → List ℕ → Format
view all rest = record { left = parsed (length all - length rest) 0 rest; text = all }

pub over : (old : Format) (all rest : List ℕ) → old ≡ view all rest → turn rest ≡ Over → IsOver old old
over old all rest v e = record { nothing_left = ap (λ f. f.left) v ∙ step (length all - length rest) rest Over e; same = refl }

pub fault : (old : Format) (all rest : List ℕ) (e : FormatError) → old ≡ view all rest → turn rest ≡ Fault e.kind → e.text.now ≡ all → IsError old e old
fault old all rest e v t a = record { error = ap (λ f. f.left) v ∙ step (length all - length rest) rest (Fault e.kind) t; text = a ∙ sym (ap (λ f. f.text) v); same = refl }

moved : (all rest after : List ℕ) (k : ℕ) → length rest ≤ length all → k ≤ length rest → after ≡ drop k rest → length all - length after ≡ length all - length rest + k
moved all rest after k a b e = omega (arith, a, b, ap length e, length-drop k rest)

pub first : (old : Format) (all rest after : List ℕ) (x : Part) (k : ℕ) → old ≡ view all rest → length rest ≤ length all → k ≤ length rest → after ≡ drop k rest
    → parsed (length all - length rest) 0 rest ≡ with_part x (parsed (length all - length rest + k) 0 (drop k rest)) → IsFirst old x (view all after)
first old all rest after x k v a b e s =
    record { first = ap (λ f. f.left) v ∙ s ∙ ap (with_part x) (λ j. parsed (sym (moved all rest after k a b e) j) 0 (sym e j)); text = sym (ap (λ f. f.text) v) }
