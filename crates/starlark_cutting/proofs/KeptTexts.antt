-- Where a text is cut into items of which one is a lexeme, it is cut step by step up to that one.
use Rattle.std.proofs.Common.{◌≡◌, ◌≤◌, ◌⊎◌, ℕ, ◌+◌, true, false, List, [], ◌∷◌, ◌++◌, length, refl, ap, sym, ◌∙◌, arith, zero, suc, inl, inr, subst, append_assoc, length-append}
use Rattle.std.proofs.lemmas.List.{append-nil}
use Rattle.std.proofs.lemmas.Bool.{false≢true}
use Rattle.starlark_lexer.specs.Items.{Item, item, Lexed, newline, dedent, dedents}
use Rattle.starlark_lexer.specs.Lex.{Past, Move, Step, Lex, on, over, goes_on, is_over, start}
use Rattle.starlark_lexer.specs.Lex as rules
use Rattle.starlark_cutting.specs.Cutting.{inner}
use Rattle.starlark_cutting.proofs.KeptSteps.{goes}
use Rattle.starlark_cutting.proofs.KeptMoves.{Fresh}
use Rattle.starlark_cutting.proofs.KeptTracks.{tracks}
use Rattle.starlark_cutting.proofs.KeptFinal.{one_inner}
use Rattle.starlark_cutting.proofs.KeptCut.{Upto, here, there}
use Rattle.starlark_lexer.proofs.Joined.{Nest}

-- items end behind a place
abbrev From : ℕ → List Item → Type 0
From a [] = Unit {0}
From a (x ∷ xs) = (a ≤ x.end) × From a xs

from_more : (a b : ℕ) (xs : List Item) → a ≤ b → From b xs → From a xs
from_more a b [] le h = tt
from_more a b (x ∷ xs) le h = (omega (arith, le, h.0), from_more a b xs le h.1)

from_append : (a : ℕ) (xs ys : List Item) → From a xs → From a ys → From a (xs ++ ys)
from_append a [] ys h k = k
from_append a (x ∷ xs) ys h k = (h.0, from_append a xs ys h.1 k)

from_dedents : (a i n : ℕ) → a ≤ i → From a (dedents i n)
from_dedents a i zero le = tt
from_dedents a i (suc n) le = (le, from_dedents a i n le)

from_at : (a : ℕ) (zs : List Item) (z : Item) (ys : List Item) → From a (zs ++ z ∷ ys) → a ≤ z.end
from_at a [] z ys h = h.0
from_at a (x ∷ zs) z ys h = from_at a zs z ys h.1

from_ends : (a i n : ℕ) → a ≤ i → From a (item i newline i ∷ (dedents i n ++ []))
from_ends a i n le = (le, from_append a (dedents i n) [] (from_dedents a i n le) tt)

-- ---- one item of a step

pub single : (it z : Item) (zs ys : List Item) → it ∷ [] ≡ zs ++ z ∷ ys → (zs ≡ []) × ((z ≡ it) × (ys ≡ []))
single it z [] ys e = let a : z ≡ it = cc in let b : ys ≡ [] = cc in (refl, (a, b))
single it z (y ∷ zs) ys e = absurd (omega (arith, ap length e, length-append zs (z ∷ ys)))

-- the item is the only one, and ends where it goes on
record Alone (xs : List Item) (q : Past) (zs : List Item) (z : Item) : Type 0 where
  is : xs ≡ zs ++ z ∷ []
  one : one_inner xs ≡ true
  end : z.end ≡ q.place

abbrev Inner_one : Past → Move → Type 0
Inner_one p (on xs q more) = From p.place xs × ((zs : List Item) (z : Item) (ys : List Item) → xs ≡ zs ++ z ∷ ys → inner z.lexeme ≡ true → Alone xs q zs z)
Inner_one p (over l) = From p.place l.items

alone : (it : Item) (q : Past) → it.end ≡ q.place → (zs : List Item) (z : Item) (ys : List Item) → it ∷ [] ≡ zs ++ z ∷ ys → inner z.lexeme ≡ true → Alone (it ∷ []) q zs z
alone it q at zs z ys e i =
    let s = single it z zs ys e in
    record { is = e ∙ ap (λ w. zs ++ z ∷ w) s.1.1; one = ap (λ x. inner x.lexeme) (sym s.1.0) ∙ i; end = ap (λ x. x.end) s.1.0 ∙ at }

-- a line end, a comment or an Indent
no_inner : (it : Item) (q : Past) → inner it.lexeme ≡ false → (zs : List Item) (z : Item) (ys : List Item) → it ∷ [] ≡ zs ++ z ∷ ys → inner z.lexeme ≡ true → Alone (it ∷ []) q zs z
no_inner it q n zs z ys e i = let s = single it z zs ys e in absurd (false≢true (sym n ∙ ap (λ x. inner x.lexeme) (sym s.1.0) ∙ i))

nothing_inner : (q : Past) (zs : List Item) (z : Item) (ys : List Item) → [] ≡ zs ++ z ∷ ys → inner z.lexeme ≡ true → Alone [] q zs z
nothing_inner q zs z ys e i = absurd (omega (arith, ap length e, length-append zs (z ∷ ys)))

dedents_inner : (a n : ℕ) (q : Past) (zs : List Item) (z : Item) (ys : List Item) → dedents a n ≡ zs ++ z ∷ ys → inner z.lexeme ≡ false
dedents_inner a zero q zs z ys e = absurd (omega (arith, ap length e, length-append zs (z ∷ ys)))
dedents_inner a (suc n) q [] z ys e = let s : z ≡ item a dedent a = cc in ap (λ x. inner x.lexeme) s
dedents_inner a (suc n) q (y ∷ zs) z ys e = let s : dedents a n ≡ zs ++ z ∷ ys = cc in dedents_inner a n q zs z ys s

inner_one : {p : Past} {rest : List ℕ} {m : Move} → Step p rest m → Inner_one p m
inner_one (rules.blank_line p rest more f e) = ((omega arith, tt), no_inner _ _ refl)
inner_one (rules.remark_line p rest more f e) = ((omega arith, tt), no_inner _ _ refl)
inner_one (rules.last_line p rest closed f e c) = from_ends p.place (p.place + length rest) (length closed) (omega arith)
inner_one (rules.tabbed p rest m t) = tt
inner_one (rules.deepens p rest m t d) = ((omega arith, tt), no_inner _ _ refl)
inner_one (rules.fits p rest closed m t o c) = (from_dedents p.place p.place (length closed) (omega arith), λ zs z ys e i. absurd (false≢true (sym (dedents_inner p.place (length closed) p zs z ys e) ∙ i)))
inner_one (rules.misfits p rest m t d o) = tt
inner_one (rules.passes p b rest f c d) = (tt, nothing_inner _)
inner_one (rules.escapes p rest f c d) = (tt, nothing_inner _)
inner_one (rules.joins p rest f d) = (tt, nothing_inner _)
inner_one (rules.ends_line p rest f c d) = ((omega arith, tt), no_inner _ _ refl)
inner_one (rules.remark p rest f c) = ((omega arith, tt), no_inner _ _ refl)
inner_one (rules.lexeme p rest n x v l) = ((omega arith, tt), alone _ _ (omega arith))
inner_one (rules.faults p rest n e v l) = tt
inner_one (rules.ends_text p closed f c d) = from_ends p.place p.place (length closed) (omega arith)
inner_one (rules.literal p rest n g k v l t e) = ((omega arith, tt), alone _ _ (omega arith))
inner_one (rules.unclosed p rest n g k v l t e) = tt
inner_one (rules.misspelt p rest n g k m v l t e) = tt
inner_one (rules.enters p rest n g v l t) = ((omega arith, tt), alone _ _ (omega arith))
inner_one (rules.texts p b g rest k f c some e) = ((omega arith, tt), alone _ _ (omega arith))
inner_one (rules.leaves p b g rest f c e) = ((omega arith, tt), alone _ _ (omega arith))
inner_one (rules.opens_field p b g rest f c e) = ((omega arith, tt), alone _ _ (omega arith))
inner_one (rules.unfinished p b g rest k f c e) = tt
inner_one (rules.misspells p b g rest k m f c e) = tt
inner_one (rules.shuts p b g bs rest f c d) = ((omega arith, tt), alone _ _ (omega arith))
inner_one (rules.bangs p b g bs rest f c d e) = ((omega arith, tt), alone _ _ (omega arith))

none_inner : (zs : List Item) (z : Item) (ys : List Item) → [] ≡ zs ++ z ∷ ys → inner z.lexeme ≡ false
none_inner zs z ys e = absurd (omega (arith, ap length e, length-append zs (z ∷ ys)))

end_inner : (a n : ℕ) (zs : List Item) (z : Item) (ys : List Item) → item a newline a ∷ (dedents a n ++ []) ≡ zs ++ z ∷ ys → inner z.lexeme ≡ false
end_inner a n [] z ys e = let s : z ≡ item a newline a = cc in ap (λ x. inner x.lexeme) s
end_inner a n (y ∷ zs) z ys e = let s : dedents a n ++ [] ≡ zs ++ z ∷ ys = cc in dedents_inner a n start zs z ys (sym (append-nil (dedents a n)) ∙ s)

-- ---- all steps

-- the item is one of the first or of those behind them
pub split : (xs bs zs : List Item) (z : Item) (ys : List Item) → xs ++ bs ≡ zs ++ z ∷ ys → ((ws : List Item) × ((zs ≡ xs ++ ws) × (bs ≡ ws ++ z ∷ ys))) ⊎ ((ws : List Item) × (xs ≡ zs ++ z ∷ ws))
split [] bs zs z ys e = inl (zs, (refl, e))
split (x ∷ xs) bs [] z ys e = let a : x ≡ z = cc in inr (xs, λ i. a i ∷ xs)
split (x ∷ xs) bs (y ∷ zs) z ys e =
    let a : x ≡ y = cc in
    let b : xs ++ bs ≡ zs ++ z ∷ ys = cc in
    elim (split xs bs zs z ys b) [
      | inl h ↦ inl (h.0, ((λ i. sym a i ∷ h.1.0 i), h.1.1))
      | inr h ↦ inr (h.0, λ i. a i ∷ h.1 i)
    ]

from_lex : {p : Past} {rest : List ℕ} {l : Lexed} → Lex p rest l → Fresh p → Nest p.mode p.outer → From p.place l.items
from_lex (goes_on p rest xs q more l step d) fr nest =
    let k = goes step fr in
    let t = tracks step nest fr in
    from_append p.place xs l.items (inner_one step).0 (from_more p.place q.place l.items (omega (arith, k.place)) (from_lex d t.fresh t.nest))
from_lex (is_over p rest l step) fr nest = inner_one step

no_items : {p : Past} {rest : List ℕ} {l : Lexed} → Step p rest (over l) → (zs : List Item) (z : Item) (ys : List Item) → l.items ≡ zs ++ z ∷ ys → inner z.lexeme ≡ false
no_items (rules.last_line p rest closed f e c) zs z ys is = end_inner (p.place + length rest) (length closed) zs z ys is
no_items (rules.ends_text p closed f c d) zs z ys is = end_inner p.place (length closed) zs z ys is
no_items (rules.tabbed p rest m t) zs z ys is = none_inner zs z ys is
no_items (rules.misfits p rest m t d o) zs z ys is = none_inner zs z ys is
no_items (rules.faults p rest n e v l) zs z ys is = none_inner zs z ys is
no_items (rules.unclosed p rest n g k v l t e) zs z ys is = none_inner zs z ys is
no_items (rules.misspelt p rest n g k m v l t e) zs z ys is = none_inner zs z ys is
no_items (rules.unfinished p b g rest k f c e) zs z ys is = none_inner zs z ys is
no_items (rules.misspells p b g rest k m f c e) zs z ys is = none_inner zs z ys is

pub upto : {p : Past} {rest : List ℕ} {l : Lexed} → Lex p rest l → (zs : List Item) (z : Item) (ys : List Item) → l.items ≡ zs ++ z ∷ ys → inner z.lexeme ≡ true → Fresh p → Nest p.mode p.outer → Upto p rest (zs ++ z ∷ []) z.end
upto (goes_on p rest xs q more l step d) zs z ys e i fr nest =
    let t = tracks step nest fr in
    elim (split xs l.items zs z ys e) [
      | inl h ↦
          let le : q.place ≤ z.end = from_at q.place h.0 z ys (subst (From q.place) h.1.1 (from_lex d t.fresh t.nest)) in
          let far = upto d h.0 z ys h.1.1 i t.fresh t.nest in
          subst (λ w. Upto p rest w z.end) (sym (append_assoc xs h.0 (z ∷ [])) ∙ ap (λ w. w ++ z ∷ []) (sym h.1.0)) (there p rest xs q more (h.0 ++ z ∷ []) z.end step le far)
      | inr h ↦
          let a = (inner_one step).1 zs z h.0 h.1 i in
          subst (λ w. Upto p rest w z.end) a.is (subst (Upto p rest xs) (sym a.end) (here p rest xs q more step a.one))
    ]
upto (is_over p rest l step) zs z ys e i fr nest = absurd (false≢true (sym (no_items step zs z ys e) ∙ i))
