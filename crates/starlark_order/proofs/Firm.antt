-- Each item that a step gives has bytes, but for layout.
use Rattle.std.proofs.Common.{ℕ, ◌<◌, ◌+◌, List, [], ◌∷◌, ◌++◌, length, take, true≢false, arith, zero, suc}
use Rattle.starlark_lexer.specs.Items.{Lexeme, Item, item, Lexed, dedents, fstring_start, fstring_text, fstring_end}
use Rattle.starlark_lexer.specs.Literals.{quotes, value}
use Rattle.starlark_lexer.specs.Lex.{Past, Move, Step, Lex, on, over, start, goes_on, is_over}
use Rattle.starlark_lexer.specs.Lex as rules
use Rattle.starlark_lexer.proofs.Openings.{quotes_some}
use Rattle.starlark_order.specs.Ordered.{HaveBytes}

-- what a step gives
abbrev Given : Move → Type 0
Given (on xs q more) = HaveBytes xs
Given (over l) = HaveBytes l.items

both : (xs ys : List Item) → HaveBytes xs → HaveBytes ys → HaveBytes (xs ++ ys)
both [] ys h k = k
both (x ∷ xs) ys h k = (h.0, both xs ys h.1 k)

all_dedents : (i n : ℕ) → HaveBytes (dedents i n)
all_dedents i zero = tt
all_dedents i (suc n) = (λ h. absurd (true≢false h), all_dedents i n)

one : (p s n : ℕ) (x : Lexeme) → 0 < n → HaveBytes (item (p + s) x (p + s + n) ∷ [])
one p s n x h = (λ c. omega (arith, h), tt)

one_here : (p n : ℕ) (x : Lexeme) → 0 < n → HaveBytes (item p x (p + n) ∷ [])
one_here p n x h = (λ c. omega (arith, h), tt)

firm_step : {p : Past} {rest : List ℕ} {m : Move} → Step p rest m → Given m
firm_step (rules.blank_line p rest more f e) = (λ h. absurd (true≢false h), tt)
firm_step (rules.remark_line p rest more f e) = (λ h. omega arith, tt)
firm_step (rules.last_line p rest closed f e c) = (λ h. absurd (true≢false h), both (dedents (p.place + length rest) (length closed)) [] (all_dedents (p.place + length rest) (length closed)) tt)
firm_step (rules.tabbed p rest m t) = tt
firm_step (rules.deepens p rest m t d) = (λ h. absurd (true≢false h), tt)
firm_step (rules.fits p rest closed m t o c) = all_dedents p.place (length closed)
firm_step (rules.misfits p rest m t d o) = tt
firm_step (rules.passes p b rest f o c) = tt
firm_step (rules.escapes p rest f o c) = tt
firm_step (rules.joins p rest f d) = tt
firm_step (rules.ends_line p rest f c d) = (λ h. absurd (true≢false h), tt)
firm_step (rules.remark p rest f c) = (λ h. omega arith, tt)
firm_step (rules.lexeme p rest n x f d) = one p.place 0 n x d.nonempty
firm_step (rules.faults p rest n e f d) = tt
firm_step (rules.ends_text p closed f o c) = (λ h. absurd (true≢false h), both (dedents p.place (length closed)) [] (all_dedents p.place (length closed)) tt)
firm_step (rules.literal p rest n g k f d s e) = (λ h. omega (arith, d.nonempty), tt)
firm_step (rules.unclosed p rest n g k f d s e) = tt
firm_step (rules.misspelt p rest n g k m f d s e) = tt
firm_step (rules.enters p rest n g f d s) = one_here p.place n (fstring_start g.quote) d.nonempty
firm_step (rules.texts p b g rest k f c some e) = one p.place 0 k (fstring_text (value g (take k rest))) some
firm_step (rules.leaves p b g rest f c e) = one_here p.place (quotes g.quote) fstring_end (quotes_some g.quote)
firm_step (rules.opens_field p b g rest f c e) = (λ h. omega arith, tt)
firm_step (rules.unfinished p b g rest k f c e) = tt
firm_step (rules.misspells p b g rest k m f c e) = tt
firm_step (rules.shuts p b g bs rest f c d) = (λ h. omega arith, tt)
firm_step (rules.bangs p b g bs rest f c d e) = (λ h. omega arith, tt)

firm_lex : {p : Past} {rest : List ℕ} {l : Lexed} → Lex p rest l → HaveBytes l.items
firm_lex (goes_on p rest xs q more l s d) = both xs l.items (firm_step s) (firm_lex d)
firm_lex (is_over p rest l s) = firm_step s

pub all_have : (text : List ℕ) (l : Lexed) → Lex start text l → HaveBytes l.items
all_have text l d = firm_lex d
