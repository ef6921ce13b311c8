-- No lexeme reaches over quotes that are put behind a text, where the text ends in a prefix and quotes, or in the brace that ends a field.
use Rattle.std.proofs.Common.{◌≡◌, ◌<◌, ◌≤◌, ◌⊎◌, ℕ, ◌+◌, ◌-◌, Bool, true, false, not, ◌&&◌, ◌||◌, List, [], ◌∷◌, ◌++◌, length, take, drop, get_or, refl, ap, sym, ◌∙◌, arith, suc, inl, inr, eqb, ltb, subst, append_assoc, length-append, length-drop, take-append-drop, IsAscii}
use Rattle.std.specs.Prelude.{Option, Some, None}
use Rattle.std.proofs.lemmas.Bool.{cases_Bool, cases_lt, false≢true}
use Rattle.std.proofs.lemmas.Bool.Decides.{nat_tests}
use Rattle.std.proofs.lemmas.List.{get_or-take, get_or-drop, get_or_append_left, get_or-append-add, length-take-le}
use Rattle.std.proofs.lemmas.List.Folds.{list_all_at}
use Rattle.std.proofs.lemmas.Str.Ascii.{IsAscii-nil, IsAscii-cons}
use Rattle.std.proofs.lemmas.List.Sums.{prefix_len_passes, prefix_len-le-length}
use Rattle.std.specs.List.{list_all}
use Rattle.std.specs.Char.{is_digit}
use Rattle.starlark_lexer.specs.declared.literal.Form.{Form}
use Rattle.starlark_lexer.specs.declared.literal.Sort.{Sort}
use Rattle.starlark_lexer.specs.declared.literal.Sort.TheVariants.{Text}
use Rattle.starlark_lexer.specs.declared.token.FStringQuote.{FStringQuote}
use Rattle.starlark_lexer.specs.declared.token.FStringQuote.TheVariants.{Single, Double, TripleSingle, TripleDouble}
use Rattle.starlark_lexer.specs.Literals.{is_mark, is_format, quotes, opening_of, opened, prefix_of, quote_of, letters}
use Rattle.starlark_lexer.specs.Classes.{meaning, is_word_byte, operators, operator_of, is_continuation}
use Rattle.starlark_lexer.proofs.Passing.{few_radices, no_row, row_not, none_passes}
use Rattle.starlark_lexer.proofs.Options.{none_some}
use Rattle.starlark_cutting.proofs.KeptLines.{Stops, past_none}

-- ---- classes without quotes

abbrev unmarked : ℕ → Bool
unmarked b = not (is_mark b)

word_unmarked : (b : ℕ) → is_word_byte b ≡ true → unmarked b ≡ true
word_unmarked b h = grind (arith, nat_tests)

sign_unmarked : (b : ℕ) → (eqb b 43 || (eqb b 45 || eqb b 46)) ≡ true → unmarked b ≡ true
sign_unmarked b h = grind (arith, nat_tests)

marked : (b : ℕ) → unmarked b ≡ false → (b ≡ 39) ⊎ (b ≡ 34)
marked b h = elim (cases_Bool (eqb b 39)) [
  | inl e ↦ inl (let t : b ≡ 39 = grind (arith, nat_tests) in t)
  | inr e ↦ inr (let t : b ≡ 34 = grind (arith, nat_tests) in t)
]

radix_unmarked : (r b : ℕ) → r ≤ 16 → is_digit b r ≡ true → unmarked b ≡ true
radix_unmarked r b le h = elim (cases_Bool (unmarked b)) [
  | inl c ↦ c
  | inr c ↦ elim (marked b c) [
    | inl e ↦ absurd (false≢true (sym (few_radices r le) ∙ ap (λ x. is_digit x r) (sym e) ∙ h))
    | inr e ↦ absurd (false≢true (sym (few_radices r le) ∙ ap (λ x. is_digit x r) (sym e) ∙ h))
  ]
]

high_unmarked : (b : ℕ) → ltb b 128 ≡ false → unmarked b ≡ true
high_unmarked b h = grind (arith, nat_tests)

goes_unmarked : (b : ℕ) → is_continuation b ≡ true → unmarked b ≡ true
goes_unmarked b h = grind (arith, nat_tests)

mark_none : (w : List ℕ) → 1 < length w → list_all unmarked w ≡ false → opening_of w ≡ None → meaning w ≡ None
unfolding operator_of
mark_none w some h f =
    none_passes unmarked word_unmarked sign_unmarked radix_unmarked high_unmarked goes_unmarked w some h f (no_row (list_all unmarked) w (λ r. row_not unmarked w r h) operators refl)

-- ---- a prefix and quotes

-- no bytes that stand in it but those
abbrev pub opens_with : ℕ → Bool
opens_with b = eqb b 39 || (eqb b 34 || (eqb b 114 || (eqb b 98 || eqb b 102)))

pub record IsOpened (w : List ℕ) (g : Form) : Type 0 where
  pub n : ℕ
  pub len : length w ≡ n + quotes g.quote
  pub front : (i : ℕ) → i < n → is_mark (get_or w i 0) ≡ false
  pub marks : (i : ℕ) → n ≤ i → i < length w → is_mark (get_or w i 0) ≡ true
  pub each : (i : ℕ) → i < length w → opens_with (get_or w i 0) ≡ true
  pub some : is_format g.sort ≡ true → 0 < n

module _ {A : Type 0} where
  some_same : (x y : A) → Some x ≡ Some y → x ≡ y
  some_same x y e = cc

quote_is : (ys : List ℕ) (q : FStringQuote) → quote_of ys ≡ Some q → (length ys ≡ quotes q) × (list_all is_mark ys ≡ true)
quote_is [] q h = absurd (none_some q h)
quote_is (a ∷ []) q h = elim (cases_Bool (eqb a 39)) [
  | inl e ↦ let s : Single ≡ q = some_same _ _ (rw e at h) in (ap quotes s, one_39 a e)
  | inr e ↦ elim (cases_Bool (eqb a 34)) [
    | inl f ↦ let s : Double ≡ q = some_same _ _ (rw (e, f) at h) in (ap quotes s, one_34 a f)
    | inr f ↦ absurd (none_some q (rw (e, f) at h))
  ]
]
  where
    one_39 : (a : ℕ) → eqb a 39 ≡ true → (is_mark a && true) ≡ true
    one_39 a h = grind (arith, nat_tests)

    one_34 : (a : ℕ) → eqb a 34 ≡ true → (is_mark a && true) ≡ true
    one_34 a h = grind (arith, nat_tests)
quote_is (a ∷ b ∷ []) q h = absurd (none_some q h)
quote_is (a ∷ b ∷ c ∷ []) q h = elim (cases_Bool (eqb a 39 && eqb b 39 && eqb c 39)) [
  | inl e ↦ let s : TripleSingle ≡ q = some_same _ _ (rw e at h) in (ap quotes s, three_39 a b c e)
  | inr e ↦ elim (cases_Bool (eqb a 34 && eqb b 34 && eqb c 34)) [
    | inl f ↦ let s : TripleDouble ≡ q = some_same _ _ (rw (e, f) at h) in (ap quotes s, three_34 a b c f)
    | inr f ↦ absurd (none_some q (rw (e, f) at h))
  ]
]
  where
    three_39 : (a b c : ℕ) → (eqb a 39 && eqb b 39 && eqb c 39) ≡ true → list_all is_mark (a ∷ b ∷ c ∷ []) ≡ true
    three_39 a b c h = grind (arith, nat_tests)

    three_34 : (a b c : ℕ) → (eqb a 34 && eqb b 34 && eqb c 34) ≡ true → list_all is_mark (a ∷ b ∷ c ∷ []) ≡ true
    three_34 a b c h = grind (arith, nat_tests)
quote_is (a ∷ b ∷ c ∷ d ∷ w) q h = absurd (none_some q h)

prefix_is : (xs : List ℕ) (p : Sort × Bool) → prefix_of xs ≡ Some p → (list_all opens_with xs ≡ true) × (is_format p.0 ≡ true → 0 < length xs)
prefix_is [] p h = let s : (Text, false) ≡ p = some_same _ _ h in (refl, λ t. absurd (false≢true (ap (λ r. is_format r.0) s ∙ t)))
prefix_is (a ∷ []) p h = (one, λ t. omega arith)
  where
    found : (a : ℕ) → eqb a 114 ≡ false → eqb a 98 ≡ false → eqb a 102 ≡ false → prefix_of (a ∷ []) ≡ None
    found a e f g = rw (e, f, g) refl

    one : (opens_with a && true) ≡ true
    one = elim (cases_Bool (opens_with a)) [
      | inl t ↦ rw t refl
      | inr t ↦
          let e : eqb a 114 ≡ false = grind (arith, nat_tests) in
          let f : eqb a 98 ≡ false = grind (arith, nat_tests) in
          let g : eqb a 102 ≡ false = grind (arith, nat_tests) in
          absurd (none_some p (sym (found a e f g) ∙ h))
    ]
prefix_is (a ∷ b ∷ []) p h = (two, λ t. omega arith)
  where
    first : (a b : ℕ) → ((eqb a 114 && eqb b 98) || (eqb a 98 && eqb b 114)) ≡ true → list_all opens_with (a ∷ b ∷ []) ≡ true
    first a b h = grind (arith, nat_tests)

    second : (a b : ℕ) → ((eqb a 102 && eqb b 114) || (eqb a 114 && eqb b 102)) ≡ true → list_all opens_with (a ∷ b ∷ []) ≡ true
    second a b h = grind (arith, nat_tests)

    two : list_all opens_with (a ∷ b ∷ []) ≡ true
    two = elim (cases_Bool ((eqb a 114 && eqb b 98) || (eqb a 98 && eqb b 114))) [
      | inl e ↦ first a b e
      | inr e ↦ elim (cases_Bool ((eqb a 102 && eqb b 114) || (eqb a 114 && eqb b 102))) [
        | inl f ↦ second a b f
        | inr f ↦ absurd (none_some p (rw (e, f) at h))
      ]
    ]
prefix_is (a ∷ b ∷ c ∷ w) p h = absurd (none_some p h)

all_at : (p : ℕ → Bool) (xs : List ℕ) (i : ℕ) → list_all p xs ≡ true → i < length xs → p (get_or xs i 0) ≡ true
all_at p xs i h lt = elim (cases_Bool (p (get_or xs i 0))) [ inl e ↦ e | inr e ↦ absurd (false≢true (sym (list_all_at p xs i 0 lt e) ∙ h)) ]

not_mark : (b : ℕ) → unmarked b ≡ true → is_mark b ≡ false
not_mark b h = grind (arith, nat_tests)

mark_opens : (b : ℕ) → is_mark b ≡ true → opens_with b ≡ true
mark_opens b h = grind (arith, nat_tests)

opened_by : (w : List ℕ) (o : Option (Sort × Bool)) (r : Option FStringQuote) (g : Form) → prefix_of (take (letters w) w) ≡ o → quote_of (drop (letters w) w) ≡ r → opened o r ≡ Some g → IsOpened w g
opened_by w None r g h k e = absurd (none_some g e)
opened_by w (Some p) None g h k e = absurd (none_some g e)
opened_by w (Some p) (Some q) g h k e =
    let n = letters w in
    let le : n ≤ length w = prefix_len-le-length unmarked w in
    let s : record { sort = p.0; raw = p.1; quote = q } ≡ g = some_same _ _ e in
    let x = quote_is (drop n w) q k in
    let y = prefix_is (take n w) p h in
    let len : length w ≡ n + quotes g.quote = omega (arith, le, x.0, length-drop n w, ap (λ f. quotes f.quote) s) in
    let marks : (i : ℕ) → n ≤ i → i < length w → is_mark (get_or w i 0) ≡ true = λ i low lt.
    let at : n + (i - n) ≡ i = omega (arith, low) in
    ap is_mark (ap (λ j. get_or w j 0) (sym at) ∙ sym (get_or-drop n w (i - n) 0)) ∙ all_at is_mark (drop n w) (i - n) x.1 (omega (arith, low, lt, length-drop n w)) in
    record {
      n = n;
      len = len;
      front = λ i lt. not_mark (get_or w i 0) (prefix_len_passes unmarked w i 0 lt);
      marks = marks;
      each = λ i lt. elim (cases_lt i n) [
        | inl a ↦ ap opens_with (sym (get_or-take n w i 0 a)) ∙ all_at opens_with (take n w) i y.0 (omega (arith, a, length-take-le n w le))
        | inr a ↦ mark_opens (get_or w i 0) (marks i (omega (arith, a)) lt)
      ];
      some = λ t. omega (arith, y.1 (ap (λ f. is_format f.sort) s ∙ t), length-take-le n w le);
    }

pub is_opened : (w : List ℕ) (g : Form) → opening_of w ≡ Some g → IsOpened w g
unfolding opening_of
is_opened w g e = opened_by w (prefix_of (take (letters w) w)) (quote_of (drop (letters w) w)) g refl refl e

-- ---- quotes

abbrev pub marks_of : FStringQuote → List ℕ
marks_of Single = 39 ∷ []
marks_of Double = 34 ∷ []
marks_of TripleSingle = 39 ∷ 39 ∷ 39 ∷ []
marks_of TripleDouble = 34 ∷ 34 ∷ 34 ∷ []

pub marks_len : (q : FStringQuote) → length (marks_of q) ≡ quotes q
marks_len Single = omega arith
marks_len Double = omega arith
marks_len TripleSingle = omega arith
marks_len TripleDouble = omega arith

pub marks_ascii : (q : FStringQuote) → IsAscii (marks_of q)
marks_ascii Single = IsAscii-cons 39 [] (omega arith) IsAscii-nil
marks_ascii Double = IsAscii-cons 34 [] (omega arith) IsAscii-nil
marks_ascii TripleSingle = IsAscii-cons 39 (39 ∷ 39 ∷ []) (omega arith) (IsAscii-cons 39 (39 ∷ []) (omega arith) (IsAscii-cons 39 [] (omega arith) IsAscii-nil))
marks_ascii TripleDouble = IsAscii-cons 34 (34 ∷ 34 ∷ []) (omega arith) (IsAscii-cons 34 (34 ∷ []) (omega arith) (IsAscii-cons 34 [] (omega arith) IsAscii-nil))

first_mark : (q : FStringQuote) (o : List ℕ) → is_mark (get_or (marks_of q ++ o) 0 0) ≡ true
first_mark Single o = refl
first_mark Double o = refl
first_mark TripleSingle o = refl
first_mark TripleDouble o = refl

one_or_three : (q : FStringQuote) → (quotes q ≡ 1) ⊎ (quotes q ≡ 3)
one_or_three Single = inl refl
one_or_three Double = inl refl
one_or_three TripleSingle = inr refl
one_or_three TripleDouble = inr refl

-- no front of u and o that is longer than u, whatever stands before u, is a lexeme
abbrev pub Barrier : List ℕ → List ℕ → Type 0
Barrier u o = (w : List ℕ) (k : ℕ) → length (w ++ u) < k → k ≤ length ((w ++ u) ++ o) → meaning (take k ((w ++ u) ++ o)) ≡ None

pub barrier_stops : (u o : List ℕ) → Stops o → Barrier u o
barrier_stops u o h w k far fits = past_none (w ++ u) o k (inl h) far fits

-- what stands behind the front of a text
pub barrier_drop : (n : ℕ) (u o : List ℕ) → Barrier (drop n u) o → Barrier u o
barrier_drop n u o h w k far fits =
    let e : (w ++ take n u) ++ drop n u ≡ w ++ u = append_assoc w (take n u) (drop n u) ∙ ap (λ x. w ++ x) (take-append-drop n u) in
    subst (λ x. length x < k → k ≤ length (x ++ o) → meaning (take k (x ++ o)) ≡ None) e (h (w ++ take n u) k) far fits

module _ (u : List ℕ) (q : FStringQuote) (o : List ℕ) (stop : Stops o) (some : 0 < length u)
    (none : (w : List ℕ) (k : ℕ) (f : Form) → length (w ++ u) < k → k ≤ length (w ++ u) + quotes q → IsOpened (take k ((w ++ u) ++ (marks_of q ++ o))) f → ⊥) where
  no_opening : (w : List ℕ) (k : ℕ) → length (w ++ u) < k → k ≤ length (w ++ u) + quotes q → (r : Option Form) → opening_of (take k ((w ++ u) ++ (marks_of q ++ o))) ≡ r → r ≡ None
  no_opening w k far near None e = refl
  no_opening w k far near (Some f) e = absurd (none w k f far near (is_opened (take k ((w ++ u) ++ (marks_of q ++ o))) f e))

  marks_barrier : Barrier u (marks_of q ++ o)
  marks_barrier w k far fits = elim (cases_lt (length (w ++ u) + quotes q) k) [
    | inl past ↦
        let e : ((w ++ u) ++ marks_of q) ++ o ≡ (w ++ u) ++ (marks_of q ++ o) = append_assoc (w ++ u) (marks_of q) o in
        let len = length-append (w ++ u) (marks_of q) in
        subst (λ x. meaning (take k x) ≡ None) e (past_none ((w ++ u) ++ marks_of q) o k (inl stop) (omega (arith, len, marks_len q, past)) (omega (arith, fits, ap length e)))
    | inr near ↦
        let x = take k ((w ++ u) ++ (marks_of q ++ o)) in
        let len = length-take-le k ((w ++ u) ++ (marks_of q ++ o)) fits in
        let m : is_mark (get_or x (length (w ++ u)) 0) ≡ true =
        ap is_mark (get_or-take k ((w ++ u) ++ (marks_of q ++ o)) (length (w ++ u)) 0 far
        ∙ ap (λ i. get_or ((w ++ u) ++ (marks_of q ++ o)) i 0) (plus_none (length (w ++ u)))
        ∙ get_or-append-add (w ++ u) (marks_of q ++ o) 0 0) ∙ first_mark q o in
        mark_none x (omega (arith, len, far, length-append w u, some)) (list_all_at unmarked x (length (w ++ u)) 0 (omega (arith, len, far)) (ap not m))
        (no_opening w k far (omega (arith, near)) (opening_of x) refl)
  ]
    where
      plus_none : (n : ℕ) → n ≡ n + 0
      plus_none n = omega arith

-- the byte of u that so many bytes stand behind
byte_at : (w u o : List ℕ) (k j : ℕ) → j < length u → length w + j < k → get_or (take k ((w ++ u) ++ o)) (length w + j) 0 ≡ get_or u j 0
byte_at w u o k j lt below =
    get_or-take k ((w ++ u) ++ o) (length w + j) 0 below ∙ get_or_append_left (w ++ u) o 0 (length w + j) (omega (arith, length-append w u, lt)) ∙ get_or-append-add w u j 0

below_n : (x : List ℕ) (f : Form) (b : IsOpened x f) (i : ℕ) → is_mark (get_or x i 0) ≡ true → b.n ≤ i
below_n x f b i m = elim (cases_lt i b.n) [ inr h ↦ omega (arith, h) | inl h ↦ absurd (false≢true (sym (b.front i h) ∙ m)) ]

-- quotes of two marks are none
two_marks : (x : List ℕ) (f : Form) → IsOpened x f → (i : ℕ) → length x ≡ suc i + 2 → is_mark (get_or x (suc i) 0) ≡ true → is_mark (get_or x i 0) ≡ false → ⊥
two_marks x f b i len m clear =
    let low = below_n x f b (suc i) m in
    let l = b.len in
    elim (one_or_three f.quote) [
      | inl one ↦ omega (arith, l, len, low, one)
      | inr three ↦ false≢true (sym clear ∙ b.marks i (omega (arith, l, len, three)) (omega (arith, len)))
    ]

-- and so are such of four
four_marks : (x : List ℕ) (f : Form) → IsOpened x f → (i : ℕ) → i + 4 ≤ length x → is_mark (get_or x i 0) ≡ true → ⊥
four_marks x f b i len m =
    let low = below_n x f b i m in
    let l = b.len in
    elim (one_or_three f.quote) [ inl one ↦ omega (arith, l, len, low, one) | inr three ↦ omega (arith, l, len, low, three) ]

-- behind a prefix and quotes
pub opening_barrier : (u : List ℕ) (g : Form) (o : List ℕ) → opening_of u ≡ Some g → is_format g.sort ≡ true → Stops o → Barrier u (marks_of g.quote ++ o)
opening_barrier u g o e t stop =
    let a = is_opened u g e in
    let pos : 0 < a.n = a.some t in
    let al : length u ≡ a.n + quotes g.quote = a.len in
    marks_barrier u g.quote o stop (omega (arith, al, pos)) (λ w k f far near b.
    let x = take k ((w ++ u) ++ (marks_of g.quote ++ o)) in
    let len : length x ≡ k = length-take-le k ((w ++ u) ++ (marks_of g.quote ++ o)) (omega (arith, near, length-append (w ++ u) (marks_of g.quote ++ o), length-append (marks_of g.quote) o, marks_len g.quote)) in
    let wu = length-append w u in
    let at : (j : ℕ) → j < length u → length w + j < k → get_or x (length w + j) 0 ≡ get_or u j 0 = byte_at w u (marks_of g.quote ++ o) k in
    elim (one_or_three g.quote) [
      | inl one ↦
          let i = length w + (a.n - 1) in
          let here : suc i ≡ length w + a.n = omega (arith, pos) in
          two_marks x f b i (omega (arith, len, far, near, wu, al, one, pos))
          (ap is_mark (ap (λ j. get_or x j 0) here ∙ at a.n (omega (arith, al, one)) (omega (arith, far, wu, al, one))) ∙ a.marks a.n (omega arith) (omega (arith, al, one)))
          (ap is_mark (at (a.n - 1) (omega (arith, al, pos)) (omega (arith, far, wu, al, pos))) ∙ a.front (a.n - 1) (omega (arith, pos)))
      | inr three ↦
          let j = k - 4 - length w in
          let low : a.n ≤ j = omega (arith, far, wu, al, three) in
          let lt : j < length u = omega (arith, near, wu, al, three, pos) in
          four_marks x f b (length w + j) (omega (arith, len, far, wu, al, three)) (ap is_mark (at j lt (omega (arith, far, wu, lt))) ∙ a.marks j low lt)
    ])

-- behind a brace
pub brace_barrier : (q : FStringQuote) (o : List ℕ) → Stops o → Barrier (125 ∷ []) (marks_of q ++ o)
brace_barrier q o stop = marks_barrier (125 ∷ []) q o stop (omega arith) (λ w k f far near b.
    let u = 125 ∷ [] in
    let wu = length-append w u in
    let x = take k ((w ++ u) ++ (marks_of q ++ o)) in
    let len : length x ≡ k = length-take-le k ((w ++ u) ++ (marks_of q ++ o)) (omega (arith, near, length-append (w ++ u) (marks_of q ++ o), length-append (marks_of q) o, marks_len q)) in
    let at : get_or x (length w + 0) 0 ≡ 125 = byte_at w u (marks_of q ++ o) k 0 (omega arith) (omega (arith, far, wu)) in
    false≢true (sym (ap opens_with at) ∙ b.each (length w + 0) (omega (arith, len, far, wu))))
