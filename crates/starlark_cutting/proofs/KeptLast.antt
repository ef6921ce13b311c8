-- The end of a text: how it is given, and the step that leads there to a line's beginning.
use Rattle.std.proofs.Common.{◌≡◌, ◌≤◌, ℕ, ◌+◌, true, false, List, [], ◌∷◌, ◌++◌, length, take, drop, refl, ap, sym, ◌∙◌, arith, zero, suc, length-append, length-drop}
use Rattle.std.proofs.lemmas.Bool.{false≢true}
use Rattle.std.proofs.lemmas.List.{append-nil}
use Rattle.starlark_lexer.specs.declared.literal.Sort.{Sort}
use Rattle.starlark_lexer.specs.declared.literal.Sort.TheVariants as sort
use Rattle.starlark_lexer.specs.Items.{Item, item, newline, dedent, dedents, is_newline}
use Rattle.starlark_lexer.specs.Literals.{value}
use Rattle.starlark_lexer.specs.Classes.{leading, line_len}
use Rattle.starlark_lexer.specs.Lex.{Past, Move, Step, on, over, is_inside, literal_lexeme}
use Rattle.starlark_lexer.specs.Lex as rules
use Rattle.starlark_lexer.proofs.JoinedTokens.{token_neutral}
use Rattle.starlark_lexer.proofs.Gaps.{line_len_within, line_end_within}
use Rattle.starlark_cutting.specs.Cutting.{tokens_of}
use Rattle.starlark_cutting.proofs.KeptSteps.{remark_len}
use Rattle.starlark_cutting.proofs.KeptReach.{is_line}

-- ---- a line end of no width

-- the text ends here, at a line's beginning or within a line
pub data AtEnd (p : Past) (rest : List ℕ) : Type 0 where
  begins : p.fresh ≡ true → leading rest ≡ length rest → AtEnd p rest
  within : p.fresh ≡ false → is_inside p.mode ≡ false → rest ≡ [] → AtEnd p rest

abbrev pub Closing : Past → List ℕ → Move → Type 0
Closing p rest (on xs q left) = (first : List Item) (z : Item) (ws : List Item) → xs ≡ first ++ z ∷ ws → z.lexeme ≡ newline → z.end ≡ z.begin + 1
Closing p rest (over l) = (first : List Item) (z : Item) (ws : List Item) → l.items ≡ first ++ z ∷ ws → z.lexeme ≡ newline → (first ≡ []) × AtEnd p rest

no_item : (first : List Item) (z : Item) (ws : List Item) → [] ≡ first ++ z ∷ ws → ⊥
no_item first z ws e = omega (arith, ap length e, length-append first (z ∷ ws))

only : (it : Item) (first : List Item) (z : Item) (ws : List Item) → it ∷ [] ≡ first ++ z ∷ ws → z ≡ it
only it [] z ws e = let s : z ≡ it = cc in s
only it (y ∷ first) z ws e = absurd (omega (arith, ap length e, length-append first (z ∷ ws)))

wide : (it : Item) → it.end ≡ it.begin + 1 → (first : List Item) (z : Item) (ws : List Item) → it ∷ [] ≡ first ++ z ∷ ws → z.lexeme ≡ newline → z.end ≡ z.begin + 1
wide it one first z ws e n = let s = only it first z ws e in omega (arith, ap (λ x. x.end) s, ap (λ x. x.begin) s, one)

another : (it : Item) → is_newline it.lexeme ≡ false → (first : List Item) (z : Item) (ws : List Item) → it ∷ [] ≡ first ++ z ∷ ws → z.lexeme ≡ newline → z.end ≡ z.begin + 1
another it h first z ws e n = absurd (false≢true (sym h ∙ ap (λ x. is_newline x.lexeme) (sym (only it first z ws e)) ∙ ap is_newline n))

none_on : (first : List Item) (z : Item) (ws : List Item) → [] ≡ first ++ z ∷ ws → z.lexeme ≡ newline → z.end ≡ z.begin + 1
none_on first z ws e n = absurd (no_item first z ws e)

no_line : (i n : ℕ) (first : List Item) (z : Item) (ws : List Item) → dedents i n ≡ first ++ z ∷ ws → is_newline z.lexeme ≡ false
no_line i zero first z ws e = absurd (no_item first z ws e)
no_line i (suc n) [] z ws e = let s : z ≡ item i dedent i = cc in ap (λ x. is_newline x.lexeme) s
no_line i (suc n) (y ∷ first) z ws e = let s : dedents i n ≡ first ++ z ∷ ws = cc in no_line i n first z ws s

none_over : (p : Past) (rest : List ℕ) (first : List Item) (z : Item) (ws : List Item) → [] ≡ first ++ z ∷ ws → z.lexeme ≡ newline → (first ≡ []) × AtEnd p rest
none_over p rest first z ws e n = absurd (no_item first z ws e)

first_over : (i n : ℕ) (first : List Item) (z : Item) (ws : List Item) → item i newline i ∷ (dedents i n ++ []) ≡ first ++ z ∷ ws → z.lexeme ≡ newline → first ≡ []
first_over i n [] z ws e h = refl
first_over i n (y ∷ first) z ws e h =
    let s : dedents i n ++ [] ≡ first ++ z ∷ ws = cc in
    absurd (false≢true (sym (no_line i n first z ws (sym (append-nil (dedents i n)) ∙ s)) ∙ ap is_newline h))

literal_not : (s : Sort) (v : List ℕ) → is_newline (literal_lexeme s v) ≡ false
literal_not sort.Text v = refl
literal_not sort.Bytes v = refl
literal_not sort.Format v = refl

pub closing : {p : Past} {rest : List ℕ} {m : Move} → Step p rest m → Closing p rest m
closing (rules.blank_line p rest more f e) = wide _ refl
closing (rules.remark_line p rest more f e) = another _ refl
closing (rules.last_line p rest closed f e c) = λ first z ws is n. (first_over (p.place + length rest) (length closed) first z ws is n, begins f e)
closing (rules.tabbed p rest m t) = none_over p rest
closing (rules.deepens p rest m t d) = another _ refl
closing (rules.fits p rest closed m t o c) = λ first z ws e n. absurd (false≢true (sym (no_line p.place (length closed) first z ws e) ∙ ap is_newline n))
closing (rules.misfits p rest m t d o) = none_over p rest
closing (rules.passes p b rest f c d) = none_on
closing (rules.escapes p rest f c d) = none_on
closing (rules.joins p rest f d) = none_on
closing (rules.ends_line p rest f c d) = wide _ refl
closing (rules.remark p rest f c) = another _ refl
closing (rules.lexeme p rest n x v l) = another _ (token_neutral (take n rest) x l.means).no_line
closing (rules.faults p rest n e v l) = none_over p rest
closing (rules.ends_text p closed f c d) = λ first z ws is n. (first_over p.place (length closed) first z ws is n, within f c refl)
closing (rules.literal p rest n g k v l t e) = another _ (literal_not g.sort (value g (take k (drop n rest))))
closing (rules.unclosed p rest n g k v l t e) = none_over p rest
closing (rules.misspelt p rest n g k m v l t e) = none_over p rest
closing (rules.enters p rest n g v l t) = another _ refl
closing (rules.texts p b g rest k f c some e) = another _ refl
closing (rules.leaves p b g rest f c e) = another _ refl
closing (rules.opens_field p b g rest f c e) = another _ refl
closing (rules.unfinished p b g rest k f c e) = none_over p rest
closing (rules.misspells p b g rest k m f c e) = none_over p rest
closing (rules.shuts p b g bs rest f c d) = another _ refl
closing (rules.bangs p b g bs rest f c d e) = another _ refl

-- ---- a line's beginning at the text's end

pub data Begins (p : Past) (rest : List ℕ) (xs : List Item) : Type 0 where
  line : is_line xs ≡ true → Begins p rest xs
  remark : (c : List ℕ) → p.fresh ≡ true → drop (leading rest) rest ≡ 35 ∷ c → tokens_of xs ≡ [] → remark_len rest c ≡ length rest → Begins p rest xs

abbrev pub Begun : Past → List ℕ → Move → Type 0
Begun p rest (on xs q left) = q.fresh ≡ true → left ≡ [] → Begins p rest xs
Begun p rest (over l) = Unit {0}

remark_all : (rest c : List ℕ) → drop (leading rest) rest ≡ 35 ∷ c → drop (remark_len rest c) rest ≡ [] → remark_len rest c ≡ length rest
remark_all rest c e h =
    let most : remark_len rest c ≤ length rest = omega (arith, ap length e, length-drop (leading rest) rest, line_len_within c, line_end_within (drop (line_len c) c), length-drop (line_len c) c) in
    omega (arith, most, ap length h, length-drop (remark_len rest c) rest)

pub begins_last : {p : Past} {rest : List ℕ} {m : Move} → Step p rest m → Begun p rest m
begins_last (rules.blank_line p rest more f e) = λ fresh none. line refl
begins_last (rules.remark_line p rest more f e) = λ fresh none. remark more f e refl (remark_all rest more e none)
begins_last (rules.last_line p rest closed f e c) = tt
begins_last (rules.tabbed p rest m t) = tt
begins_last (rules.deepens p rest m t d) = λ fresh none. absurd (false≢true fresh)
begins_last (rules.fits p rest closed m t o c) = λ fresh none. absurd (false≢true fresh)
begins_last (rules.misfits p rest m t d o) = tt
begins_last (rules.passes p b rest f c d) = λ fresh none. absurd (false≢true fresh)
begins_last (rules.escapes p rest f c d) = λ fresh none. absurd (false≢true fresh)
begins_last (rules.joins p rest f d) = λ fresh none. absurd (false≢true fresh)
begins_last (rules.ends_line p rest f c d) = λ fresh none. line refl
begins_last (rules.remark p rest f c) = λ fresh none. absurd (false≢true fresh)
begins_last (rules.lexeme p rest n x v l) = λ fresh none. absurd (false≢true fresh)
begins_last (rules.faults p rest n e v l) = tt
begins_last (rules.ends_text p closed f c d) = tt
begins_last (rules.literal p rest n g k v l t e) = λ fresh none. absurd (false≢true fresh)
begins_last (rules.unclosed p rest n g k v l t e) = tt
begins_last (rules.misspelt p rest n g k m v l t e) = tt
begins_last (rules.enters p rest n g v l t) = λ fresh none. absurd (false≢true fresh)
begins_last (rules.texts p b g rest k f c some e) = λ fresh none. absurd (false≢true fresh)
begins_last (rules.leaves p b g rest f c e) = λ fresh none. absurd (false≢true fresh)
begins_last (rules.opens_field p b g rest f c e) = λ fresh none. absurd (false≢true fresh)
begins_last (rules.unfinished p b g rest k f c e) = tt
begins_last (rules.misspells p b g rest k m f c e) = tt
begins_last (rules.shuts p b g bs rest f c d) = λ fresh none. absurd (false≢true fresh)
begins_last (rules.bangs p b g bs rest f c d e) = λ fresh none. absurd (false≢true fresh)
