-- Identifiers and integers have bytes, the first of which is an ASCII byte.
use Rattle.std.proofs.Common.{◌≡◌, ◌<◌, ℕ, ◌+◌, Bool, true, false, List, [], ◌∷◌, ◌++◌, length, take, drop, get_or, refl, ap, sym, ◌∙◌, arith, zero, suc, inl, inr, eqb, ltb}
use Rattle.std.specs.Prelude.{Option, Some, None}
use Rattle.std.specs.Char.{is_ascii_digit}
use Rattle.std.proofs.lemmas.Bool.{cases_Bool}
use Rattle.std.proofs.lemmas.Bool.Decides.{nat_tests}
use Rattle.std.proofs.lemmas.List.{drop-drop, get_or-drop}
use Rattle.starlark_lexer.specs.declared.token.LexemeError.TheVariants.{InvalidInput}
use Rattle.starlark_lexer.specs.declared.literal.Sort.{Sort}
use Rattle.starlark_lexer.specs.declared.literal.Sort.TheVariants as sort
use Rattle.starlark_lexer.specs.Items.{Lexeme, Item, Lexed, newline, comment, fstring_start, fstring_text, fstring_expr_start, fstring_expr_end, fstring_bang, fstring_end, dedents}
use Rattle.starlark_lexer.specs.Literals.{opening_of, quotes, value}
use Rattle.starlark_lexer.specs.Classes.{Meaning, token, refused, when, meaning, begins_word, operator_of, is_other, leading, line_len, line_end, escaped, IsLexeme}
use Rattle.starlark_lexer.specs.Lex.{Past, Mode, Move, on, over, Step, Lex, goes_on, is_over, start, gives, turns, literal_lexeme}
use Rattle.starlark_lexer.specs.Lex as rules
use Rattle.starlark_lexer.specs.Order.{IsName, AreFirm}
use Rattle.starlark_lexer.proofs.Openings.{begins_opening, none_first}
use Rattle.starlark_lexer.proofs.Tables.{begins_operator, no_operator}

-- another byte begins nothing that has a meaning
pub high_rule : (b : ℕ) (ys : List ℕ) → ltb b 128 ≡ false → meaning (b ∷ ys) ≡ when (is_other (b ∷ ys)) (refused InvalidInput)
unfolding meaning
high_rule b ys h =
    let w : begins_word b ≡ false = grind (arith, nat_tests) in
    let d : is_ascii_digit b ≡ false = grind (arith, nat_tests) in
    let z : eqb b 48 ≡ false = grind (arith, nat_tests) in
    let p : eqb b 46 ≡ false = grind (arith, nat_tests) in
    let o : begins_operator b ≡ false = grind (arith, nat_tests) in
    let n : operator_of (b ∷ ys) ≡ None = no_operator b ys o in
    let q : begins_opening b ≡ false = grind (arith, nat_tests) in
    let f : opening_of (b ∷ ys) ≡ None = none_first b ys q in
    rw (w, d, z, p, f, n) refl

no_token : (t : Bool) (x : Lexeme) (o : Option Meaning) → o ≡ when t (refused InvalidInput) → o ≡ Some (token x) → ⊥
no_token true x o h k = cc
no_token false x o h k = cc

token_ascii : (b : ℕ) (ys : List ℕ) (x : Lexeme) → meaning (b ∷ ys) ≡ Some (token x) → b < 128
token_ascii b ys x h = elim (cases_Bool (ltb b 128)) [
  | inl a ↦ grind (arith, nat_tests)
  | inr a ↦ absurd (no_token (is_other (b ∷ ys)) x _ (high_rule b ys a) h)
]

lexeme_ascii : (rest : List ℕ) (n : ℕ) (x : Lexeme) → IsLexeme rest n (token x) → get_or rest 0 0 < 128
lexeme_ascii [] n x h = absurd (omega (arith, h.nonempty, h.within))
lexeme_ascii (b ∷ bs) zero x h = absurd (omega (arith, h.nonempty))
lexeme_ascii (b ∷ bs) (suc n) x h = token_ascii b (take n bs) x h.means

firm_append : (text : List ℕ) (xs ys : List Item) → AreFirm text xs → AreFirm text ys → AreFirm text (xs ++ ys)
firm_append text [] ys h k = k
firm_append text (x ∷ xs) ys h k = (h.0, firm_append text xs ys h.1 k)

firm_dedents : (text : List ℕ) (i n : ℕ) → AreFirm text (dedents i n)
firm_dedents text i zero = tt
firm_dedents text i (suc n) = (λ h. elim h [ ], firm_dedents text i n)

literal_no_name : (s : Sort) (v : List ℕ) → IsName (literal_lexeme s v) → ⊥
literal_no_name sort.Text v h = elim h [ ]
literal_no_name sort.Bytes v h = elim h [ ]
literal_no_name sort.Format v h = elim h [ ]

-- what a step gives, and that the rest stands behind it
abbrev Firms : List ℕ → Move → Type 0
Firms text (on xs q more) = AreFirm text xs × (drop q.place text ≡ more)
Firms text (over l) = AreFirm text l.items

behind : (text : List ℕ) (i k : ℕ) (rest : List ℕ) → drop i text ≡ rest → drop (i + k) text ≡ drop k rest
behind text i k rest e = sym (drop-drop k i text) ∙ ap (drop k) e

gives_it : (text : List ℕ) (p : Past) (s : ℕ) (x : Lexeme) (n k : ℕ) (f : Bool) (rest : List ℕ) → drop p.place text ≡ rest → (IsName x → ⊥) → Firms text (gives p s x n k f rest)
gives_it text p s x n k f rest e h = ((λ y. absurd (h y), tt), behind text p.place k rest e)

turns_it : (text : List ℕ) (p : Past) (x : Lexeme) (n : ℕ) (m : Mode) (os : List Mode) (rest : List ℕ) → drop p.place text ≡ rest → (IsName x → ⊥) → Firms text (turns p x n m os rest)
turns_it text p x n m os rest e h = ((λ y. absurd (h y), tt), behind text p.place n rest e)

firms : (text : List ℕ) {p : Past} {rest : List ℕ} {m : Move} → Step p rest m → drop p.place text ≡ rest → Firms text m
firms text (rules.blank_line p rest more f d) e = gives_it text p (leading rest) newline 1 (leading rest + 1) true rest e (λ h. elim h [ ])
firms text (rules.remark_line p rest more f d) e = gives_it text p (leading rest) (comment (take (line_len more) more)) (1 + line_len more) (leading rest + (1 + line_len more) + line_end (drop (line_len more) more)) true rest e (λ h. elim h [ ])
firms text (rules.last_line p rest closed f d c) e = (λ h. elim h [ ], firm_append text (dedents (p.place + length rest) (length closed)) [] (firm_dedents text (p.place + length rest) (length closed)) tt)
firms text (rules.tabbed p rest m t) e = tt
firms text (rules.deepens p rest m t d) e = ((λ h. elim h [ ], tt), behind text p.place (leading rest) rest e)
firms text (rules.fits p rest closed m t o c) e = (firm_dedents text p.place (length closed), behind text p.place (leading rest) rest e)
firms text (rules.misfits p rest m t d o) e = tt
firms text (rules.passes p b rest f o c) e = (tt, behind text p.place 1 (b ∷ rest) e)
firms text (rules.escapes p rest f o c) e = (tt, behind text p.place (escaped rest) rest e)
firms text (rules.joins p rest f d) e = (tt, behind text p.place 1 (10 ∷ rest) e)
firms text (rules.ends_line p rest f m d) e = gives_it text p 0 newline 1 1 true (10 ∷ rest) e (λ h. elim h [ ])
firms text (rules.remark p rest f o) e = gives_it text p 0 (comment (take (line_len rest) rest)) (1 + line_len rest) (1 + line_len rest) false (35 ∷ rest) e (λ h. elim h [ ])
firms text (rules.lexeme p rest n x f d) e =
    let at : get_or text (p.place + 0) 0 ≡ get_or rest 0 0 = sym (get_or-drop p.place text 0 0) ∙ ap (λ t. get_or t 0 0) e in
    ((λ h. (omega (arith, d.nonempty), omega (arith, at, lexeme_ascii rest n x d)), tt), behind text p.place n rest e)
firms text (rules.faults p rest n x f d) e = tt
firms text (rules.ends_text p closed f o c) e = (λ h. elim h [ ], firm_append text (dedents p.place (length closed)) [] (firm_dedents text p.place (length closed)) tt)
firms text (rules.literal p rest n g k f d s b) e = gives_it text p 0 (literal_lexeme g.sort (value g (take k (drop n rest)))) (n + k + quotes g.quote) (n + k + quotes g.quote) false rest e (literal_no_name g.sort (value g (take k (drop n rest))))
firms text (rules.unclosed p rest n g k f d s b) e = tt
firms text (rules.misspelt p rest n g k m f d s b) e = tt
firms text (rules.enters p rest n g f d s) e = turns_it text p (fstring_start g.quote) n (rules.inside p.place g) (p.mode ∷ p.outer) rest e (λ h. elim h [ ])
firms text (rules.texts p b g rest k f m some ends) e = gives_it text p 0 (fstring_text (value g (take k rest))) k k false rest e (λ h. elim h [ ])
firms text (rules.leaves p b g rest f m ends) e = turns_it text p fstring_end (quotes g.quote) (rules.below p.outer) (drop 1 p.outer) rest e (λ h. elim h [ ])
firms text (rules.opens_field p b g rest f m ends) e = turns_it text p fstring_expr_start 1 (rules.field b g []) p.outer rest e (λ h. elim h [ ])
firms text (rules.unfinished p b g rest k f m ends) e = tt
firms text (rules.misspells p b g rest k n f m ends) e = tt
firms text (rules.shuts p b g bs rest f m d) e = turns_it text p fstring_expr_end 1 (rules.inside b g) p.outer (125 ∷ rest) e (λ h. elim h [ ])
firms text (rules.bangs p b g bs rest f m d c) e = gives_it text p 0 fstring_bang 1 1 false (33 ∷ rest) e (λ h. elim h [ ])

firm : (text : List ℕ) {p : Past} {rest : List ℕ} {l : Lexed} → Lex p rest l → drop p.place text ≡ rest → AreFirm text l.items
firm text (goes_on p rest xs q more l step d) e = let s = firms text step e in firm_append text xs l.items s.0 (firm text d s.1)
firm text (is_over p rest l step) e = firms text step e

pub firm_items : (text : List ℕ) (l : Lexed) → Lex start text l → AreFirm text l.items
firm_items text l d = firm text d refl
