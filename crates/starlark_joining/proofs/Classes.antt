-- What lexemes do to the brackets and f-strings that are open, and which ones the grammar's tables speak of.
use Rattle.std.proofs.Common.{ℕ, ◌≡◌, ◌+◌, ◌-◌, ◌∷◌, ◌∙◌, suc, List, Option, Some, None, Bool, true, false, cond, refl, ap, subst}
use Rattle.std.specs.Prelude.{count_by}
use Rattle.std.proofs.lemmas.List.Sums.{sum_by-cons}
use Rattle.starlark_lexer.specs.Items.{Lexeme, newline, fstring_start, fstring_end, opening_round, opening_square, opening_curly, closing_round, closing_square, closing_curly, is_opening, is_closing, Item, item, opening_item, closing_item}
use Rattle.starlark_lexer.specs.Joining.{nested, outside, open_behind}
use Rattle.starlark_ast.specs.declared.ast.AssignOp.{AssignOp}
use Rattle.starlark_grammar.specs.Tables.{Beginning, bracket, quoted, beginning, Suffix, indexed, called, suffix, Bracket, round, square, curly, closing_bracket, assigner}

-- what a lexeme does
pub data Class : Type 0 where
  plain : Class
  opens : Class
  closes : Class
  starts : Class
  finishes : Class

abbrev pub class : Lexeme → Class
class (fstring_start q) = starts
class fstring_end = finishes
class opening_round = opens
class opening_square = opens
class opening_curly = opens
class closing_round = closes
class closing_square = closes
class closing_curly = closes
class _ = plain

abbrev pub depth_behind : Class → ℕ → ℕ
depth_behind starts n = suc n
depth_behind finishes n = n - 1
depth_behind _ n = n

abbrev pub opens_one : Class → Bool
opens_one opens = true
opens_one _ = false

abbrev pub closes_one : Class → Bool
closes_one closes = true
closes_one _ = false

nested_by : (x : Lexeme) (n : ℕ) → nested n x ≡ depth_behind (class x) n
nested_by newline n = refl
nested_by _ n = refl

opening_by : (x : Lexeme) → is_opening x ≡ opens_one (class x)
opening_by newline = refl
opening_by _ = refl

closing_by : (x : Lexeme) → is_closing x ≡ closes_one (class x)
closing_by newline = refl
closing_by _ = refl

-- how many items that pass stand outside all f-strings, where n are open before them
abbrev pub weight : (Item → Bool) → ℕ → List Item → ℕ
weight p n a = count_by p (outside n a)

weight_zero : (p : Item → Bool) (x : Item) (a : List Item) → weight p 0 (x ∷ a) ≡ cond (p x) 1 0 + weight p (nested 0 x.lexeme) a
weight_zero p x a = sum_by-cons (λ y. cond (p y) 1 0) x (outside (nested 0 x.lexeme) a)

-- where that lexeme stands first
pub open_first : (x : Lexeme) (c : Class) → class x ≡ c → (n i j : ℕ) (a : List Item) → open_behind n (item i x j ∷ a) ≡ open_behind (depth_behind c n) a
open_first x c h n i j a = ap (λ m. open_behind m a) (nested_by x n ∙ ap (λ d. depth_behind d n) h)

pub opened_first : (x : Lexeme) (c : Class) → class x ≡ c → (i j : ℕ) (a : List Item) → weight opening_item 0 (item i x j ∷ a) ≡ cond (opens_one c) 1 0 + weight opening_item (depth_behind c 0) a
opened_first x c h i j a = weight_zero opening_item (item i x j) a ∙ ap (λ b. cond b 1 0 + weight opening_item (nested 0 x) a) (opening_by x ∙ ap opens_one h) ∙ ap (λ m. cond (opens_one c) 1 0 + weight opening_item m a) (nested_by x 0 ∙ ap (λ d. depth_behind d 0) h)

pub closed_first : (x : Lexeme) (c : Class) → class x ≡ c → (i j : ℕ) (a : List Item) → weight closing_item 0 (item i x j ∷ a) ≡ cond (closes_one c) 1 0 + weight closing_item (depth_behind c 0) a
closed_first x c h i j a = weight_zero closing_item (item i x j) a ∙ ap (λ b. cond b 1 0 + weight closing_item (nested 0 x) a) (closing_by x ∙ ap closes_one h) ∙ ap (λ m. cond (closes_one c) 1 0 + weight closing_item m a) (nested_by x 0 ∙ ap (λ d. depth_behind d 0) h)

pub weight_within : (p : Item → Bool) (x : Lexeme) (c : Class) → class x ≡ c → (n i j : ℕ) (a : List Item) → weight p (suc n) (item i x j ∷ a) ≡ weight p (depth_behind c (suc n)) a
weight_within p x c h n i j a = ap (λ m. weight p m a) (nested_by x (suc n) ∙ ap (λ d. depth_behind d (suc n)) h)

-- ---- the tables

abbrev pub begins_class : Beginning → Class
begins_class (bracket p) = opens
begins_class quoted = starts
begins_class _ = plain

abbrev pub suffix_class : Suffix → Class
suffix_class indexed = opens
suffix_class called = opens
suffix_class _ = plain

abbrev Agrees : {A : Type 0} → (A → Class) → Lexeme → Option A → Type 0
Agrees f x None = class x ≡ class x
Agrees f x (Some b) = class x ≡ f b

beginning_agrees : (x : Lexeme) → Agrees begins_class x (beginning x)
beginning_agrees newline = refl
beginning_agrees _ = refl

suffix_agrees : (x : Lexeme) → Agrees suffix_class x (suffix x)
suffix_agrees newline = refl
suffix_agrees _ = refl

assigner_agrees : (x : Lexeme) → Agrees (λ o. plain) x (assigner x)
assigner_agrees newline = refl
assigner_agrees _ = refl

pub beginning_is : (x : Lexeme) {b : Beginning} → beginning x ≡ Some b → class x ≡ begins_class b
beginning_is x {b} h = subst (Agrees begins_class x) h (beginning_agrees x)

pub suffix_is : (x : Lexeme) {s : Suffix} → suffix x ≡ Some s → class x ≡ suffix_class s
suffix_is x {s} h = subst (Agrees suffix_class x) h (suffix_agrees x)

pub assigner_is : (x : Lexeme) {o : Option AssignOp} → assigner x ≡ Some o → class x ≡ plain
assigner_is x {o} h = subst (Agrees (λ o. plain) x) h (assigner_agrees x)

pub closing_is : (p : Bracket) → class (closing_bracket p) ≡ closes
closing_is round = refl
closing_is square = refl
closing_is curly = refl
