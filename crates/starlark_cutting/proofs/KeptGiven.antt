-- How a line end, a Dedent and an Indent are given.
use Rattle.std.proofs.Common.{◌≡◌, ◌<◌, ℕ, ◌+◌, Bool, true, false, List, [], ◌∷◌, ◌++◌, length, take, drop, refl, ap, sym, ◌∙◌, arith, zero, suc, inl, inr, subst, length-append}
use Rattle.std.proofs.lemmas.Bool.{false≢true, cases_Bool}
use Rattle.std.proofs.lemmas.List.{append-nil}
use Rattle.starlark_lexer.specs.declared.literal.Sort.{Sort}
use Rattle.starlark_lexer.specs.declared.literal.Sort.TheVariants as sort
use Rattle.starlark_lexer.specs.Items.{Lexeme, Item, item, newline, indent, dedent, dedents, is_newline}
use Rattle.starlark_lexer.specs.Literals.{value}
use Rattle.starlark_lexer.specs.Widths.{IsDeeper, IsOpen, Closes}
use Rattle.starlark_lexer.specs.Classes.{leading, width, blanks, has_tab}
use Rattle.starlark_lexer.specs.Lex.{Past, Move, Step, on, over, IsMeasured, literal_lexeme}
use Rattle.starlark_lexer.specs.Lex as rules
use Rattle.starlark_lexer.specs.Joining.{is_indent, is_dedent}
use Rattle.starlark_lexer.proofs.JoinedTokens.{token_neutral}
use Rattle.starlark_lexer.proofs.Widths.{IsStack}
use Rattle.starlark_lexer.proofs.Widths as widths
use Rattle.starlark_lexer.proofs.Stacks.{same_closes}
use Rattle.starlark_cutting.proofs.KeptTracks.{parts}
use Rattle.starlark_cutting.proofs.KeptTexts.{single}

abbrev pub layout : Lexeme → Bool
layout newline = true
layout indent = true
layout dedent = true
layout _ = false

-- a line closes widths
pub record Falls (p : Past) (rest : List ℕ) (xs : List Item) : Type 0 where
  pub closed : List ℕ
  pub is : xs ≡ dedents p.place (length closed)
  pub stays : IsOpen p.lines (width rest)
  pub shuts : Closes p.lines (width rest) closed

-- an item of a step, with those of the step before it
pub data Given (p : Past) (rest : List ℕ) (xs : List Item) (q : Past) (first : List Item) (z : Item) : Type 0 where
  line : first ≡ [] → xs ≡ z ∷ [] → z.lexeme ≡ newline → z.end ≡ q.place → q.fresh ≡ true → z.end ≡ z.begin + 1 → Given p rest xs q first z
  shallower : (n : ℕ) → first ≡ dedents p.place n → z ≡ item p.place dedent p.place → IsMeasured p rest → ((ws : List ℕ) → IsStack p.lines ws → n < length ws) → Falls p rest xs → Given p rest xs q first z
  deeper : first ≡ [] → z ≡ item p.place indent (p.place + leading rest) → IsMeasured p rest → has_tab (blanks rest) ≡ false → IsDeeper p.lines (width rest) → Given p rest xs q first z
  other : layout z.lexeme ≡ false → Given p rest xs q first z

abbrev pub Gives : Past → List ℕ → Move → Type 0
Gives p rest (on xs q left) = (first : List Item) (z : Item) (ws : List Item) → xs ≡ first ++ z ∷ ws → Given p rest xs q first z
Gives p rest (over l) = (first : List Item) (z : Item) (ws : List Item) → l.items ≡ first ++ z ∷ ws → (z.end ≡ p.place + length rest) × ((z.begin ≡ z.end) × (is_indent z.lexeme ≡ false))

module _ (p : Past) (rest : List ℕ) (q : Past) where
  a_line : (it : Item) → it.lexeme ≡ newline → it.end ≡ q.place → q.fresh ≡ true → it.end ≡ it.begin + 1 → (first : List Item) (z : Item) (ws : List Item) → it ∷ [] ≡ first ++ z ∷ ws → Given p rest (it ∷ []) q first z
  a_line it n at f wide first z ws e =
      let s = single it z first ws e in
      line s.0 (ap (λ x. x ∷ []) (sym s.1.0)) (ap (λ x. x.lexeme) s.1.0 ∙ n) (ap (λ x. x.end) s.1.0 ∙ at) f (subst (λ x. x.end ≡ x.begin + 1) (sym s.1.0) wide)

  another : (it : Item) → layout it.lexeme ≡ false → (first : List Item) (z : Item) (ws : List Item) → it ∷ [] ≡ first ++ z ∷ ws → Given p rest (it ∷ []) q first z
  another it n first z ws e = let s = single it z first ws e in other (ap (λ x. layout x.lexeme) s.1.0 ∙ n)

  none : (first : List Item) (z : Item) (ws : List Item) → [] ≡ first ++ z ∷ ws → Given p rest [] q first z
  none first z ws e = absurd (omega (arith, ap length e, length-append first (z ∷ ws)))

of_dedents : (i n : ℕ) (first : List Item) (z : Item) (ws : List Item) → dedents i n ≡ first ++ z ∷ ws → (first ≡ dedents i (length first)) × ((z ≡ item i dedent i) × (length first < n))
of_dedents i zero first z ws e = absurd (omega (arith, ap length e, length-append first (z ∷ ws)))
of_dedents i (suc n) [] z ws e = let s : z ≡ item i dedent i = cc in (refl, (s, omega arith))
of_dedents i (suc n) (y ∷ first) z ws e =
    let s : dedents i n ≡ first ++ z ∷ ws = cc in
    let t : y ≡ item i dedent i = cc in
    let h = of_dedents i n first z ws s in
    let len : length (y ∷ first) ≡ suc (length first) = omega arith in
    ((λ j. t j ∷ h.0 j) ∙ ap (dedents i) (sym len), (h.1.0, omega (arith, h.1.1)))

both_not : (x : Lexeme) → is_indent x ≡ true → is_dedent x ≡ true → ⊥
both_not indent h k = false≢true k
both_not _ h k = false≢true h

no_layout : (x : Lexeme) → is_newline x ≡ false → is_indent x ≡ false → is_dedent x ≡ false → layout x ≡ false
no_layout newline h k l = absurd (false≢true (sym h))
no_layout indent h k l = absurd (false≢true (sym k))
no_layout dedent h k l = absurd (false≢true (sym l))
no_layout _ h k l = refl

token_not : (x : Lexeme) → is_newline x ≡ false → is_indent x ≡ is_dedent x → layout x ≡ false
token_not x h e = elim (cases_Bool (is_indent x)) [
  | inl t ↦ absurd (both_not x t (sym e ∙ t))
  | inr f ↦ no_layout x h f (sym e ∙ f)
]

literal_not : (s : Sort) (v : List ℕ) → layout (literal_lexeme s v) ≡ false
literal_not sort.Text v = refl
literal_not sort.Bytes v = refl
literal_not sort.Format v = refl

fewer : (lines ws : List ℕ) (w : ℕ) (closed : List ℕ) (n : ℕ) → IsStack lines ws → IsOpen lines w → Closes lines w closed → n < length closed → n < length ws
fewer lines ws w closed n s o c lt = let mine = widths.closes lines ws s w in omega (arith, parts ws w, same_closes lines w _ closed mine c, lt)

none_over : (i : ℕ) (first : List Item) (z : Item) (ws : List Item) → [] ≡ first ++ z ∷ ws → (z.end ≡ i) × ((z.begin ≡ z.end) × (is_indent z.lexeme ≡ false))
none_over i first z ws e = absurd (omega (arith, ap length e, length-append first (z ∷ ws)))

end_over : (i j n : ℕ) → i ≡ j → (first : List Item) (z : Item) (ws : List Item) → item i newline i ∷ (dedents i n ++ []) ≡ first ++ z ∷ ws → (z.end ≡ j) × ((z.begin ≡ z.end) × (is_indent z.lexeme ≡ false))
end_over i j n at [] z ws e = let s : z ≡ item i newline i = cc in (ap (λ x. x.end) s ∙ at, (ap (λ x. x.begin) s ∙ sym (ap (λ x. x.end) s), ap (λ x. is_indent x.lexeme) s))
end_over i j n at (y ∷ first) z ws e =
    let r : dedents i n ++ [] ≡ first ++ z ∷ ws = cc in
    let s = (of_dedents i n first z ws (sym (append-nil (dedents i n)) ∙ r)).1.0 in
    (ap (λ x. x.end) s ∙ at, (ap (λ x. x.begin) s ∙ sym (ap (λ x. x.end) s), ap (λ x. is_indent x.lexeme) s))

pub given : {p : Past} {rest : List ℕ} {m : Move} → Step p rest m → Gives p rest m
given (rules.blank_line p rest more f e) = a_line p rest _ _ refl (omega arith) refl refl
given (rules.remark_line p rest more f e) = another p rest _ _ refl
given (rules.last_line p rest closed f e c) = end_over (p.place + length rest) (p.place + length rest) (length closed) refl
given (rules.tabbed p rest m t) = none_over (p.place + length rest)
given (rules.deepens p rest m t d) = λ first z ws e. let s = single _ z first ws e in deeper s.0 s.1.0 m t d
given (rules.fits p rest closed m t o c) = λ first z ws e. let s = of_dedents p.place (length closed) first z ws e in shallower (length first) s.0 s.1.0 m (λ ls st. fewer p.lines ls (width rest) closed (length first) st o c s.1.1) (record { closed = closed; is = refl; stays = o; shuts = c })
given (rules.misfits p rest m t d o) = none_over (p.place + length rest)
given (rules.passes p b rest f c d) = none p (b ∷ rest) _
given (rules.escapes p rest f c d) = none p rest _
given (rules.joins p rest f d) = none p (10 ∷ rest) _
given (rules.ends_line p rest f c d) = a_line p (10 ∷ rest) _ _ refl (omega arith) refl refl
given (rules.remark p rest f c) = another p (35 ∷ rest) _ _ refl
given (rules.lexeme p rest n x v l) = let t = token_neutral (take n rest) x l.means in another p rest _ _ (token_not x t.no_line t.level)
given (rules.faults p rest n e v l) = none_over (p.place + length rest)
given (rules.ends_text p closed f c d) = end_over p.place (p.place + 0) (length closed) (omega arith)
given (rules.literal p rest n g k v l t e) = another p rest _ _ (literal_not g.sort (value g (take k (drop n rest))))
given (rules.unclosed p rest n g k v l t e) = none_over (p.place + length rest)
given (rules.misspelt p rest n g k m v l t e) = none_over (p.place + length rest)
given (rules.enters p rest n g v l t) = another p rest _ _ refl
given (rules.texts p b g rest k f c some e) = another p rest _ _ refl
given (rules.leaves p b g rest f c e) = another p rest _ _ refl
given (rules.opens_field p b g rest f c e) = another p rest _ _ refl
given (rules.unfinished p b g rest k f c e) = none_over (p.place + length rest)
given (rules.misspells p b g rest k m f c e) = none_over (p.place + length rest)
given (rules.shuts p b g bs rest f c d) = another p (125 ∷ rest) _ _ refl
given (rules.bangs p b g bs rest f c d e) = another p (33 ∷ rest) _ _ refl
