-- Each item that a step gives begins with an ASCII byte, but for layout and what stands in an f-string.
use Rattle.std.proofs.Common.{◌≡◌, ◌<◌, ℕ, ◌+◌, Bool, true, false, List, [], ◌∷◌, ◌++◌, length, take, drop, get_or, refl, ap, sym, ◌∙◌, arith, zero, suc, inl, inr, ltb, true≢false}
use Rattle.std.specs.Prelude.{Option, Some}
use Rattle.std.proofs.lemmas.Bool.{cases_Bool}
use Rattle.std.proofs.lemmas.Bool.Decides.{nat_tests}
use Rattle.std.proofs.lemmas.List.{drop-drop, get_or-drop}
use Rattle.starlark_lexer.specs.declared.token.LexemeError.{LexemeError}
use Rattle.starlark_lexer.specs.declared.token.LexemeError.TheVariants.{InvalidInput}
use Rattle.starlark_lexer.specs.declared.literal.Form.{Form}
use Rattle.starlark_lexer.specs.Items.{Lexeme, Item, Lexed, newline, comment, fstring_start, fstring_text, fstring_expr_start, fstring_expr_end, fstring_bang, fstring_end, dedents}
use Rattle.starlark_lexer.specs.Literals.{quotes, value}
use Rattle.starlark_lexer.specs.Classes.{Meaning, token, refused, opens, when, is_other, leading, line_len, line_end, escaped, IsLexeme}
use Rattle.starlark_lexer.specs.Lex.{Past, Mode, Move, on, over, Step, Lex, goes_on, is_over, start, gives, turns, literal_lexeme}
use Rattle.starlark_lexer.specs.Lex as rules
use Rattle.starlark_lexer.proofs.Firm.{high_rule}
use Rattle.starlark_order.specs.Ordered.{BeginPlainly, is_inner}

-- ---- a lexeme

-- a token, or what opens a literal
data IsMeant : Meaning → Type 0 where
  a_token : {x : Lexeme} → IsMeant (token x)
  a_literal : {g : Form} → IsMeant (opens g)

not_refused : {e : LexemeError} {m : Meaning} → IsMeant m → m ≡ refused e → ⊥
not_refused a_token h = cc
not_refused a_literal h = cc

no_meaning : (t : Bool) (m : Meaning) (o : Option Meaning) → IsMeant m → o ≡ when t (refused InvalidInput) → o ≡ Some m → ⊥
no_meaning true m o d h k = not_refused {e = InvalidInput} d cc
no_meaning false m o d h k = cc

first_ascii : (rest : List ℕ) (n : ℕ) (m : Meaning) → IsMeant m → IsLexeme rest n m → get_or rest 0 0 < 128
first_ascii [] n m d h = absurd (omega (arith, h.nonempty, h.within))
first_ascii (b ∷ bs) zero m d h = absurd (omega (arith, h.nonempty))
first_ascii (b ∷ bs) (suc n) m d h = elim (cases_Bool (ltb b 128)) [
  | inl a ↦ grind (arith, nat_tests)
  | inr a ↦ absurd (no_meaning (is_other (b ∷ take n bs)) m _ d (high_rule b (take n bs) a) h.means)
]

-- ---- a step

append : (text : List ℕ) (xs ys : List Item) → BeginPlainly text xs → BeginPlainly text ys → BeginPlainly text (xs ++ ys)
append text [] ys h k = k
append text (x ∷ xs) ys h k = (h.0, append text xs ys h.1 k)

all_dedents : (text : List ℕ) (i n : ℕ) → BeginPlainly text (dedents i n)
all_dedents text i zero = tt
all_dedents text i (suc n) = (λ h. absurd (true≢false h), all_dedents text i n)

-- what a step gives, and that the rest stands behind it
abbrev Firsts : List ℕ → Move → Type 0
Firsts text (on xs q more) = BeginPlainly text xs × (drop q.place text ≡ more)
Firsts text (over l) = BeginPlainly text l.items

module _ (text : List ℕ) (p : Past) (rest : List ℕ) (at : drop p.place text ≡ rest) where
  behind : (k : ℕ) → drop (p.place + k) text ≡ drop k rest
  behind k = sym (drop-drop k p.place text) ∙ ap (drop k) at

  byte : (s : ℕ) → get_or text (p.place + s) 0 ≡ get_or rest s 0
  byte s = sym (get_or-drop p.place text s 0) ∙ ap (λ t. get_or t s 0) at

  byte_here : get_or text p.place 0 ≡ get_or rest 0 0
  byte_here = let e : p.place + 0 ≡ p.place = omega arith in ap (λ i. get_or text i 0) (sym e) ∙ byte 0

  gives_it : (s : ℕ) (x : Lexeme) (n k : ℕ) (f : Bool) → (is_inner x ≡ false → get_or rest s 0 < 128) → Firsts text (gives p s x n k f rest)
  gives_it s x n k f h = ((λ y. omega (arith, h y, byte s), tt), behind k)

  turns_it : (x : Lexeme) (n : ℕ) (m : Mode) (os : List Mode) → (is_inner x ≡ false → get_or rest 0 0 < 128) → Firsts text (turns p x n m os rest)
  turns_it x n m os h = ((λ y. omega (arith, h y, byte_here), tt), behind n)

remark_byte : (n : ℕ) (rest more : List ℕ) → drop n rest ≡ 35 ∷ more → get_or rest n 0 < 128
remark_byte n rest more e =
    let z : n + 0 ≡ n = omega arith in
    let f : get_or rest n 0 ≡ 35 = ap (λ i. get_or rest i 0) (sym z) ∙ sym (get_or-drop n rest 0 0) ∙ ap (λ t. get_or t 0 0) e in
    omega (arith, f)

firsts : (text : List ℕ) {p : Past} {rest : List ℕ} {m : Move} → Step p rest m → drop p.place text ≡ rest → Firsts text m
firsts text (rules.blank_line p rest more f d) e = gives_it text p rest e (leading rest) newline 1 (leading rest + 1) true (λ h. absurd (true≢false h))
firsts text (rules.remark_line p rest more f d) e =
    gives_it text p rest e (leading rest) (comment (take (line_len more) more)) (1 + line_len more) (leading rest + (1 + line_len more) + line_end (drop (line_len more) more)) true (λ h. remark_byte (leading rest) rest more d)
firsts text (rules.last_line p rest closed f d c) e = (λ h. absurd (true≢false h), append text (dedents (p.place + length rest) (length closed)) [] (all_dedents text (p.place + length rest) (length closed)) tt)
firsts text (rules.tabbed p rest m t) e = tt
firsts text (rules.deepens p rest m t d) e = ((λ h. absurd (true≢false h), tt), behind text p rest e (leading rest))
firsts text (rules.fits p rest closed m t o c) e = (all_dedents text p.place (length closed), behind text p rest e (leading rest))
firsts text (rules.misfits p rest m t d o) e = tt
firsts text (rules.passes p b rest f o c) e = (tt, behind text p (b ∷ rest) e 1)
firsts text (rules.escapes p rest f o c) e = (tt, behind text p rest e (escaped rest))
firsts text (rules.joins p rest f d) e = (tt, behind text p (10 ∷ rest) e 1)
firsts text (rules.ends_line p rest f m d) e = gives_it text p (10 ∷ rest) e 0 newline 1 1 true (λ h. absurd (true≢false h))
firsts text (rules.remark p rest f o) e = gives_it text p (35 ∷ rest) e 0 (comment (take (line_len rest) rest)) (1 + line_len rest) (1 + line_len rest) false (λ h. omega arith)
firsts text (rules.lexeme p rest n x f d) e = gives_it text p rest e 0 x n n false (λ h. first_ascii rest n (token x) a_token d)
firsts text (rules.faults p rest n x f d) e = tt
firsts text (rules.ends_text p closed f o c) e = (λ h. absurd (true≢false h), append text (dedents p.place (length closed)) [] (all_dedents text p.place (length closed)) tt)
firsts text (rules.literal p rest n g k f d s b) e =
    gives_it text p rest e 0 (literal_lexeme g.sort (value g (take k (drop n rest)))) (n + k + quotes g.quote) (n + k + quotes g.quote) false (λ h. first_ascii rest n (opens g) a_literal d)
firsts text (rules.unclosed p rest n g k f d s b) e = tt
firsts text (rules.misspelt p rest n g k m f d s b) e = tt
firsts text (rules.enters p rest n g f d s) e = turns_it text p rest e (fstring_start g.quote) n (rules.inside p.place g) (p.mode ∷ p.outer) (λ h. first_ascii rest n (opens g) a_literal d)
firsts text (rules.texts p b g rest k f m some ends) e = gives_it text p rest e 0 (fstring_text (value g (take k rest))) k k false (λ h. absurd (true≢false h))
firsts text (rules.leaves p b g rest f m ends) e = turns_it text p rest e fstring_end (quotes g.quote) (rules.below p.outer) (drop 1 p.outer) (λ h. absurd (true≢false h))
firsts text (rules.opens_field p b g rest f m ends) e = turns_it text p rest e fstring_expr_start 1 (rules.field b g []) p.outer (λ h. absurd (true≢false h))
firsts text (rules.unfinished p b g rest k f m ends) e = tt
firsts text (rules.misspells p b g rest k n f m ends) e = tt
firsts text (rules.shuts p b g bs rest f m d) e = turns_it text p (125 ∷ rest) e fstring_expr_end 1 (rules.inside b g) p.outer (λ h. absurd (true≢false h))
firsts text (rules.bangs p b g bs rest f m d c) e = gives_it text p (33 ∷ rest) e 0 fstring_bang 1 1 false (λ h. absurd (true≢false h))

all_firsts : (text : List ℕ) {p : Past} {rest : List ℕ} {l : Lexed} → Lex p rest l → drop p.place text ≡ rest → BeginPlainly text l.items
all_firsts text (goes_on p rest xs q more l step d) e = let s = firsts text step e in append text xs l.items s.0 (all_firsts text d s.1)
all_firsts text (is_over p rest l step) e = firsts text step e

pub all_begin : (text : List ℕ) (l : Lexed) → Lex start text l → BeginPlainly text l.items
all_begin text l d = all_firsts text d refl
