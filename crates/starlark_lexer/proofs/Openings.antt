-- The prefix and quotes at the front of a text.
use Rattle.std.proofs.Common.{◌≡◌, ◌<◌, ◌≤◌, ℕ, ◌+◌, ◌-◌, Bool, true, false, cond, not, ◌&&◌, ◌||◌, List, [], ◌∷◌, length, take, drop, get_or, refl, ap, sym, ◌∙◌, arith, zero, suc, ◌⊎◌, inl, inr, eqb, subst, one-add, Option, Some, None}
use Rattle.std.proofs.lemmas.Bool.{cases_Bool, false≢true, and_parts}
use Rattle.std.proofs.lemmas.Bool.Decides.{nat_tests}
use Rattle.std.proofs.lemmas.List.{get_or-drop, length-take-le, length-drop, take_rest, take-take, drop-take, drop_all}
use Rattle.std.proofs.lemmas.List.Sums.{prefix_len-le-length}
use Rattle.starlark_lexer.specs.declared.literal.Form.{Form}
use Rattle.starlark_lexer.specs.declared.literal.Sort.{Sort}
use Rattle.starlark_lexer.specs.declared.token.FStringQuote.{FStringQuote}
use Rattle.starlark_lexer.specs.declared.token.FStringQuote.TheVariants.{Single, Double, TripleSingle, TripleDouble}
use Rattle.starlark_lexer.specs.Fronts.{quote_front, front_of, opening_front, may_open}
use Rattle.starlark_lexer.specs.Literals.{is_mark, quotes, prefix_of, quote_of, letters, opened, opening_of, begins}
use Rattle.starlark_lexer.proofs.Options.{none_some}

-- ---- quotes

pub record IsQuote (ys : List ℕ) (q : FStringQuote) : Type 0 where
  pub within : quotes q ≤ length ys
  pub means : quote_of (take (quotes q) ys) ≡ Some q
  pub longest : (j : ℕ) → quotes q < j → j ≤ length ys → quote_of (take j ys) ≡ None

abbrev Fits : Option FStringQuote → List ℕ → Type 0
Fits None ys = (j : ℕ) → j ≤ length ys → quote_of (take j ys) ≡ None
Fits (Some q) ys = IsQuote ys q

either : (ys : List ℕ) (t : Bool) (p q : Option FStringQuote) → (t ≡ true → Fits p ys) → (t ≡ false → Fits q ys) → Fits (cond t p q) ys
either ys true p q h k = h refl
either ys false p q h k = k refl

-- a mark and two more, of one kind
pub record IsTriple (m a : ℕ) (w : List ℕ) : Type 0 where
  pub second : ℕ
  pub third : ℕ
  pub rest : List ℕ
  pub is : w ≡ second ∷ third ∷ rest
  pub marks : (eqb a m && eqb second m && eqb third m) ≡ true

triple_from : (m a : ℕ) (w : List ℕ) → eqb a m ≡ true → (begins m w && begins m (drop 1 w)) ≡ true → IsTriple m a w
triple_from m a [] e h = absurd (false≢true h)
triple_from m a (b ∷ []) e h = absurd (false≢true (and_parts (eqb b m) false h).1)
triple_from m a (b ∷ c ∷ v) e h =
    let p = and_parts (eqb b m) (eqb c m) h in
    record { second = b; third = c; rest = v; is = refl; marks = rw (e, p.0, p.1) refl }

four_none : (a b c : ℕ) (v : List ℕ) (j : ℕ) → 3 < j → j ≤ length (a ∷ b ∷ c ∷ v) → quote_of (take j (a ∷ b ∷ c ∷ v)) ≡ None
four_none a b c v zero h le = absurd (omega (arith, h))
four_none a b c v (suc zero) h le = absurd (omega (arith, h))
four_none a b c v (suc (suc zero)) h le = absurd (omega (arith, h))
four_none a b c v (suc (suc (suc zero))) h le = absurd (omega (arith, h))
four_none a b c [] (suc (suc (suc (suc j)))) h le = absurd (omega (arith, le))
four_none a b c (d ∷ v) (suc (suc (suc (suc j)))) h le = refl

triple_single : (a b c : ℕ) (v : List ℕ) → (eqb a 39 && eqb b 39 && eqb c 39) ≡ true → IsQuote (a ∷ b ∷ c ∷ v) TripleSingle
triple_single a b c v h = record { within = omega arith; means = rw h refl; longest = four_none a b c v }

differ : (a : ℕ) → eqb a 34 ≡ true → eqb a 39 ≡ false
differ a h = grind (arith, nat_tests)

first_of : (a b c : Bool) → (a && b && c) ≡ true → a ≡ true
first_of true b c h = refl
first_of false b c h = absurd (false≢true h)

triple_double : (a b c : ℕ) (v : List ℕ) → (eqb a 34 && eqb b 34 && eqb c 34) ≡ true → IsQuote (a ∷ b ∷ c ∷ v) TripleDouble
triple_double a b c v h =
    let d : eqb a 39 ≡ false = differ a (first_of (eqb a 34) (eqb b 34) (eqb c 34) h) in
    record { within = omega arith; means = rw d (rw h refl); longest = four_none a b c v }

-- behind one mark there are not two more of its kind
longer_none : (a : ℕ) (w : List ℕ) → ((b c : ℕ) (v : List ℕ) → w ≡ b ∷ c ∷ v → quote_of (a ∷ b ∷ c ∷ []) ≡ None) → (j : ℕ) → 1 < j → j ≤ length (a ∷ w) → quote_of (take j (a ∷ w)) ≡ None
longer_none a w h zero l le = absurd (omega (arith, l))
longer_none a w h (suc zero) l le = absurd (omega (arith, l))
longer_none a [] h (suc (suc j)) l le = absurd (omega (arith, le))
longer_none a (b ∷ w) h (suc (suc zero)) l le = refl
longer_none a (b ∷ []) h (suc (suc (suc j))) l le = absurd (omega (arith, le))
longer_none a (b ∷ c ∷ v) h (suc (suc (suc zero))) l le = h b c v refl
longer_none a (b ∷ c ∷ []) h (suc (suc (suc (suc j)))) l le = absurd (omega (arith, le))
longer_none a (b ∷ c ∷ d ∷ v) h (suc (suc (suc (suc j)))) l le = refl

neither : (x y z : Bool) → (y && z) ≡ false → (x && y && z) ≡ false
neither true true z h = h
neither true false z h = refl
neither false y z h = refl

not_first : (x y z : Bool) → x ≡ false → (x && y && z) ≡ false
not_first true y z h = absurd (false≢true (sym h))
not_first false y z h = refl

no_triple : (a b c : ℕ) → (eqb a 39 && eqb b 39 && eqb c 39) ≡ false → (eqb a 34 && eqb b 34 && eqb c 34) ≡ false → quote_of (a ∷ b ∷ c ∷ []) ≡ None
no_triple a b c e d = λ j. cond (e j) (Some TripleSingle) (cond (d j) (Some TripleDouble) None)

other_mark : (a : ℕ) → eqb a 39 ≡ true → eqb a 34 ≡ false
other_mark a h = grind (arith, nat_tests)

three_39 : (a : ℕ) (w : List ℕ) → eqb a 39 ≡ true → (begins 39 w && begins 39 (drop 1 w)) ≡ false → (b c : ℕ) (v : List ℕ) → w ≡ b ∷ c ∷ v → quote_of (a ∷ b ∷ c ∷ []) ≡ None
three_39 a w e h b c v is =
    let two : (eqb b 39 && eqb c 39) ≡ false = ap (λ x. begins 39 x && begins 39 (drop 1 x)) (sym is) ∙ h in
    no_triple a b c (neither (eqb a 39) (eqb b 39) (eqb c 39) two) (not_first (eqb a 34) (eqb b 34) (eqb c 34) (other_mark a e))

three_34 : (a : ℕ) (w : List ℕ) → eqb a 39 ≡ false → (begins 34 w && begins 34 (drop 1 w)) ≡ false → (b c : ℕ) (v : List ℕ) → w ≡ b ∷ c ∷ v → quote_of (a ∷ b ∷ c ∷ []) ≡ None
three_34 a w e h b c v is =
    let two : (eqb b 34 && eqb c 34) ≡ false = ap (λ x. begins 34 x && begins 34 (drop 1 x)) (sym is) ∙ h in
    no_triple a b c (not_first (eqb a 39) (eqb b 39) (eqb c 39) e) (neither (eqb a 34) (eqb b 34) (eqb c 34) two)

none_mark : (a : ℕ) (w : List ℕ) → eqb a 39 ≡ false → eqb a 34 ≡ false → (j : ℕ) → j ≤ length (a ∷ w) → quote_of (take j (a ∷ w)) ≡ None
none_mark a w e d zero le = refl
none_mark a w e d (suc zero) le = rw (e, d) refl
none_mark a w e d (suc (suc j)) le =
    longer_none a w (λ b c v is. no_triple a b c (not_first (eqb a 39) (eqb b 39) (eqb c 39) e) (not_first (eqb a 34) (eqb b 34) (eqb c 34) d)) (suc (suc j)) (omega arith) le

triple_39 : (a : ℕ) (w : List ℕ) → IsTriple 39 a w → IsQuote (a ∷ w) TripleSingle
triple_39 a w t = subst (λ x. IsQuote (a ∷ x) TripleSingle) (sym t.is) (triple_single a t.second t.third t.rest t.marks)

triple_34 : (a : ℕ) (w : List ℕ) → IsTriple 34 a w → IsQuote (a ∷ w) TripleDouble
triple_34 a w t = subst (λ x. IsQuote (a ∷ x) TripleDouble) (sym t.is) (triple_double a t.second t.third t.rest t.marks)

empty_fits : Fits None []
empty_fits zero le = refl
empty_fits (suc j) le = refl

quote_fits : (ys : List ℕ) → Fits (quote_front ys) ys
quote_fits [] = empty_fits
quote_fits (a ∷ w) =
    either (a ∷ w) (eqb a 39) _ _
    (λ e. either (a ∷ w) (begins 39 w && begins 39 (drop 1 w)) _ _ (λ h. triple_39 a w (triple_from 39 a w e h))
    (λ h. record { within = omega arith; means = rw e refl; longest = longer_none a w (three_39 a w e h) }))
    (λ e. either (a ∷ w) (eqb a 34) _ _
    (λ d. either (a ∷ w) (begins 34 w && begins 34 (drop 1 w)) _ _ (λ h. triple_34 a w (triple_from 34 a w d h))
    (λ h. record { within = omega arith; means = rw (e, d) refl; longest = longer_none a w (three_34 a w e h) }))
    (none_mark a w e))

-- ---- the letters before them

cons_letters : (k : ℕ) (t : Bool) (m n : ℕ) → ((n ≤ k) × (m ≡ n)) ⊎ ((k ≤ n) × (m ≡ k)) → ((cond t (1 + n) 0 ≤ suc k) × (cond t (1 + m) 0 ≡ cond t (1 + n) 0)) ⊎ ((suc k ≤ cond t (1 + n) 0) × (cond t (1 + m) 0 ≡ suc k))
cons_letters k true m n (inl h) = inl (omega (arith, h.0), ap (λ x. 1 + x) h.1)
cons_letters k true m n (inr h) = inr (omega (arith, h.0), omega (arith, h.1))
cons_letters k false m n h = inl (omega arith, refl)

letters_take : (k : ℕ) (xs : List ℕ) → ((letters xs ≤ k) × (letters (take k xs) ≡ letters xs)) ⊎ ((k ≤ letters xs) × (letters (take k xs) ≡ k))
letters_take zero xs = inr (omega arith, refl)
letters_take (suc k) [] = inl (omega arith, refl)
letters_take (suc k) (b ∷ bs) = cons_letters k (not (is_mark b)) (letters (take k bs)) (letters bs) (letters_take k bs)

prefix_long : (w : List ℕ) → 3 ≤ length w → prefix_of w ≡ None
prefix_long [] h = absurd (omega (arith, h))
prefix_long (a ∷ []) h = absurd (omega (arith, h))
prefix_long (a ∷ b ∷ []) h = absurd (omega (arith, h))
prefix_long (a ∷ b ∷ c ∷ w) h = refl

letters_within : (xs : List ℕ) → letters xs ≤ length xs
letters_within xs = prefix_len-le-length (λ b. not (is_mark b)) xs

front_none : (o : Option FStringQuote) (n : ℕ) → front_of None o n ≡ None
front_none None n = refl
front_none (Some q) n = refl

front_same : (xs : List ℕ) → opening_front xs ≡ front_of (prefix_of (take (letters xs) xs)) (quote_front (drop (letters xs) xs)) (letters xs)
unfolding opening_front
front_same xs =
    let most : letters xs ≤ length xs = letters_within xs in
    elim (letters_take 3 xs) [
      | inl h ↦ ap (λ n. front_of (prefix_of (take n xs)) (quote_front (drop n xs)) n) h.1
      | inr h ↦
          let short : letters (take 3 xs) ≤ length xs = omega (arith, h.1, h.0, most) in
          let here : prefix_of (take (letters (take 3 xs)) xs) ≡ None = prefix_long (take (letters (take 3 xs)) xs) (omega (arith, h.1, length-take-le (letters (take 3 xs)) xs short)) in
          let there : prefix_of (take (letters xs) xs) ≡ None = prefix_long (take (letters xs) xs) (omega (arith, h.0, length-take-le (letters xs) xs most)) in
          (ap (λ p. front_of p (quote_front (drop (letters (take 3 xs)) xs)) (letters (take 3 xs))) here ∙ front_none (quote_front (drop (letters (take 3 xs)) xs)) (letters (take 3 xs)))
          ∙ sym (ap (λ p. front_of p (quote_front (drop (letters xs) xs)) (letters xs)) there ∙ front_none (quote_front (drop (letters xs) xs)) (letters xs))
    ]

-- ---- what the code finds

pub at_front : (w letters_of : List ℕ) (n : ℕ) (p : Option (Sort × Bool)) (o : Option FStringQuote) → letters_of ≡ take 3 w → n ≡ letters letters_of → p ≡ prefix_of (take n w) → o ≡ quote_front (take (length w - n) (drop n w)) → opening_front w ≡ front_of p o n
unfolding opening_front
at_front w l n p o e h d q =
    let is : letters (take 3 w) ≡ n = ap letters (sym e) ∙ sym h in
    ap (λ k. front_of (prefix_of (take k w)) (quote_front (drop k w)) k) is
    ∙ (λ j. front_of (sym d j) ((ap quote_front (sym (take_rest w n)) ∙ sym q) j) n)

pub no_prefix : (w letters_of : List ℕ) (n : ℕ) (p : Option (Sort × Bool)) → letters_of ≡ take 3 w → n ≡ letters letters_of → p ≡ prefix_of (take n w) → p ≡ None → opening_front w ≡ None
no_prefix w l n p e h d x =
    let o = quote_front (take (length w - n) (drop n w)) in
    at_front w l n p o e h d refl ∙ ap (λ r. front_of r o n) x ∙ front_none o n

-- ---- the longest opening

pub record IsOpening (xs : List ℕ) (f : Form) (n : ℕ) : Type 0 where
  pub nonempty : 0 < n
  pub within : n ≤ length xs
  pub means : opening_of (take n xs) ≡ Some f
  pub longest : (k : ℕ) → n < k → k ≤ length xs → opening_of (take k xs) ≡ None

unquoted : (p : Option (Sort × Bool)) → opened p None ≡ None
unquoted None = refl
unquoted (Some p) = refl

cut_letters : (k : ℕ) (xs : List ℕ) → letters xs ≤ k → drop (letters xs) (take k xs) ≡ take (k - letters xs) (drop (letters xs) xs)
cut_letters k xs le =
    let same : k ≡ letters xs + (k - letters xs) = omega (arith, le) in
    ap (λ m. drop (letters xs) (take m xs)) same ∙ drop-take (letters xs) (k - letters xs) xs

-- the first k bytes: those behind the letters are the quotes
opening_of_take : (k : ℕ) (xs : List ℕ) → k ≤ length xs
    → ((letters xs ≤ k) × (opening_of (take k xs) ≡ opened (prefix_of (take (letters xs) xs)) (quote_of (take (k - letters xs) (drop (letters xs) xs))))) ⊎ ((k ≤ letters xs) × (opening_of (take k xs) ≡ None))
unfolding opening_of
opening_of_take k xs le =
    elim (letters_take k xs) [
      | inl h ↦ inl (
        h.0,
        (λ j. opened (prefix_of (take (h.1 j) (take k xs))) (quote_of (drop (h.1 j) (take k xs))))
            ∙ (λ j. opened (prefix_of (take-take (letters xs) k xs h.0 j)) (quote_of (cut_letters k xs h.0 j))),
      )
      | inr h ↦
          let past : drop (letters (take k xs)) (take k xs) ≡ [] = drop_all (letters (take k xs)) (take k xs) (omega (arith, h.1, length-take-le k xs le)) in
          inr (h.0, ap (λ w. opened (prefix_of (take (letters (take k xs)) (take k xs))) (quote_of w)) past ∙ unquoted (prefix_of (take (letters (take k xs)) (take k xs))))
    ]

fits_of : (o : Option FStringQuote) (ys : List ℕ) → quote_front ys ≡ o → Fits o ys
fits_of o ys e = subst (λ q. Fits q ys) e (quote_fits ys)

none_by : (p : Option (Sort × Bool)) (o : Option FStringQuote) (ys : List ℕ) (n : ℕ) → quote_front ys ≡ o → front_of p o n ≡ None → (j : ℕ) → j ≤ length ys → opened p (quote_of (take j ys)) ≡ None
none_by None o ys n e h j le = refl
none_by (Some p) None ys n e h j le = ap (opened (Some p)) (fits_of None ys e j le)
none_by (Some p) (Some q) ys n e h j le = cc

pub opening_none : (xs : List ℕ) → opening_front xs ≡ None → (k : ℕ) → k ≤ length xs → opening_of (take k xs) ≡ None
opening_none xs e k le =
    let n = letters xs in
    elim (opening_of_take k xs le) [
      | inl h ↦ h.1 ∙ none_by (prefix_of (take n xs)) (quote_front (drop n xs)) (drop n xs) n refl (sym (front_same xs) ∙ e) (k - n) (omega (arith, le, length-drop n xs))
      | inr h ↦ h.1
    ]

pub quotes_some : (q : FStringQuote) → 0 < quotes q
quotes_some Single = omega arith
quotes_some Double = omega arith
quotes_some TripleSingle = omega arith
quotes_some TripleDouble = omega arith

-- a prefix and quotes that stand
abbrev form_in : Option (Form × ℕ) → Form → Option Form
form_in None f = Some f
form_in (Some r) f = Some r.0

abbrev len_in : Option (Form × ℕ) → ℕ → ℕ
len_in None n = n
len_in (Some r) n = r.1

unlettered : (o : Option FStringQuote) → opened None o ≡ None
unlettered o = refl

record IsFound (p : Option (Sort × Bool)) (ys : List ℕ) (n : ℕ) (f : Form) (m : ℕ) : Type 0 where
  quote : FStringQuote
  is : IsQuote ys quote
  form : opened p (Some quote) ≡ Some f
  len : m ≡ n + quotes quote

found_by : (p : Option (Sort × Bool)) (o : Option FStringQuote) (ys : List ℕ) (n : ℕ) (f : Form) (m : ℕ) → quote_front ys ≡ o → front_of p o n ≡ Some (f, m) → IsFound p ys n f m
found_by None o ys n f m e h = absurd (none_some (f, m) (sym (front_none o n) ∙ h))
found_by (Some p) None ys n f m e h = absurd (none_some (f, m) h)
found_by (Some p) (Some q) ys n f m e h = record { quote = q; is = fits_of (Some q) ys e; form = ap (λ r. form_in r f) h; len = sym (ap (λ r. len_in r 0) h) }

pub opening_some : (xs : List ℕ) (f : Form) (n : ℕ) → opening_front xs ≡ Some (f, n) → IsOpening xs f n
opening_some xs f n e =
    let k = letters xs in
    let found : IsFound (prefix_of (take k xs)) (drop k xs) k f n = found_by (prefix_of (take k xs)) (quote_front (drop k xs)) (drop k xs) k f n refl (sym (front_same xs) ∙ e) in
    let most : k ≤ length xs = letters_within xs in
    let some : 0 < quotes found.quote = quotes_some found.quote in
    let within : n ≤ length xs = omega (arith, found.len, found.is.within, length-drop k xs, most) in
    record {
      nonempty = omega (arith, found.len, some);
      within = within;
      means = elim (opening_of_take n xs within) [
        | inl h ↦ let same : n - k ≡ quotes found.quote = omega (arith, found.len) in h.1 ∙ ap (λ j. opened (prefix_of (take k xs)) (quote_of (take j (drop k xs)))) same ∙ ap (opened (prefix_of (take k xs))) found.is.means ∙ found.form
        | inr h ↦ absurd (omega (arith, h.0, found.len, some))
      ];
      longest = λ j lt le. elim (opening_of_take j xs le) [
        | inl h ↦ h.1 ∙ ap (opened (prefix_of (take k xs))) (found.is.longest (j - k) (omega (arith, lt, found.len)) (omega (arith, le, length-drop k xs))) ∙ unquoted (prefix_of (take k xs))
        | inr h ↦ h.1
      ];
    }

-- ---- the first byte and the last

abbrev pub begins_opening : ℕ → Bool
begins_opening b = eqb b 34 || eqb b 39 || eqb b 98 || eqb b 102 || eqb b 114

prefix_first : (b : ℕ) (w : List ℕ) → begins_opening b ≡ false → prefix_of (b ∷ w) ≡ None
prefix_first b [] h =
    let e : eqb b 114 ≡ false = grind (arith, nat_tests) in
    let d : eqb b 98 ≡ false = grind (arith, nat_tests) in
    let g : eqb b 102 ≡ false = grind (arith, nat_tests) in
    rw (e, d, g) refl
prefix_first b (c ∷ []) h =
    let e : eqb b 114 ≡ false = grind (arith, nat_tests) in
    let d : eqb b 98 ≡ false = grind (arith, nat_tests) in
    let g : eqb b 102 ≡ false = grind (arith, nat_tests) in
    rw (e, d, g) refl
prefix_first b (c ∷ d ∷ w) h = refl

not_mark : (b : ℕ) → begins_opening b ≡ false → not (is_mark b) ≡ true
not_mark b h = grind (arith, nat_tests)

pub none_first : (b : ℕ) (bs : List ℕ) → begins_opening b ≡ false → opening_of (b ∷ bs) ≡ None
unfolding opening_of
none_first b bs h =
    let n = letters bs in
    let is : letters (b ∷ bs) ≡ suc n = ap (λ t. cond t (1 + n) 0) (not_mark b h) ∙ one-add n in
    ap (λ k. opened (prefix_of (take k (b ∷ bs))) (quote_of (drop k (b ∷ bs)))) is ∙ ap (λ p. opened p (quote_of (drop n bs))) (prefix_first b (take n bs) h) ∙ unlettered (quote_of (drop n bs))

-- the same of what the code finds
pub unopened : (xs : List ℕ) → may_open xs ≡ false → opening_front xs ≡ None
unopened [] h = front_same []
unopened (b ∷ bs) h =
    let n = letters bs in
    let is : letters (b ∷ bs) ≡ suc n = ap (λ t. cond t (1 + n) 0) (not_mark b h) ∙ one-add n in
    front_same (b ∷ bs) ∙ ap (λ k. front_of (prefix_of (take k (b ∷ bs))) (quote_front (drop k (b ∷ bs))) k) is
    ∙ ap (λ p. front_of p (quote_front (drop n bs)) (suc n)) (prefix_first b (take n bs) h) ∙ front_none (quote_front (drop n bs)) (suc n)

pub opening_first : (b : ℕ) (bs : List ℕ) (f : Form) → opening_of (b ∷ bs) ≡ Some f → begins_opening b ≡ true
opening_first b bs f e =
    elim (cases_Bool (begins_opening b)) [ inl h ↦ h | inr h ↦ absurd (none_some f (sym (none_first b bs h) ∙ e)) ]

no_quote_one : (a : ℕ) → is_mark a ≡ false → quote_of (a ∷ []) ≡ None
no_quote_one a h =
    let e : eqb a 39 ≡ false = grind (arith, nat_tests) in
    let d : eqb a 34 ≡ false = grind (arith, nat_tests) in
    rw (e, d) refl

not_last : (x y z : Bool) → z ≡ false → (x && y && z) ≡ false
not_last true true z h = h
not_last true false z h = refl
not_last false y z h = refl

no_quote_three : (a b c : ℕ) → is_mark c ≡ false → quote_of (a ∷ b ∷ c ∷ []) ≡ None
no_quote_three a b c h =
    let e : eqb c 39 ≡ false = grind (arith, nat_tests) in
    let d : eqb c 34 ≡ false = grind (arith, nat_tests) in
    no_triple a b c (not_last (eqb a 39) (eqb b 39) (eqb c 39) e) (not_last (eqb a 34) (eqb b 34) (eqb c 34) d)

record HasLast (ys : List ℕ) : Type 0 where
  some : 0 < length ys
  last : is_mark (get_or ys (length ys - 1) 0) ≡ true

quote_last : (ys : List ℕ) (q : FStringQuote) → quote_of ys ≡ Some q → HasLast ys
quote_last [] q e = absurd (none_some q e)
quote_last (a ∷ []) q e = record { some = omega arith; last = elim (cases_Bool (is_mark a)) [ inl h ↦ h | inr h ↦ absurd (none_some q (sym (no_quote_one a h) ∙ e)) ] }
quote_last (a ∷ b ∷ []) q e = absurd (none_some q e)
quote_last (a ∷ b ∷ c ∷ []) q e = record { some = omega arith; last = elim (cases_Bool (is_mark c)) [ inl h ↦ h | inr h ↦ absurd (none_some q (sym (no_quote_three a b c h) ∙ e)) ] }
quote_last (a ∷ b ∷ c ∷ d ∷ w) q e = absurd (none_some q e)

last_by : (p : Option (Sort × Bool)) (ys : List ℕ) (o : Option FStringQuote) (f : Form) → quote_of ys ≡ o → opened p o ≡ Some f → HasLast ys
last_by p ys None f e h = absurd (none_some f (sym (unquoted p) ∙ h))
last_by p ys (Some q) f e h = quote_last ys q e

pub opening_last : (w : List ℕ) (f : Form) → opening_of w ≡ Some f → is_mark (get_or w (length w - 1) 0) ≡ true
unfolding opening_of
opening_last w f e =
    let n = letters w in
    let h : HasLast (drop n w) = last_by (prefix_of (take n w)) (drop n w) (quote_of (drop n w)) f refl e in
    let same : n + (length (drop n w) - 1) ≡ length w - 1 = omega (arith, h.some, length-drop n w) in
    subst (λ b. is_mark b ≡ true) (get_or-drop n w (length (drop n w) - 1) 0 ∙ ap (λ k. get_or w k 0) same) h.last
