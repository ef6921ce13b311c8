-- Where the tokens without comments are a program, f-strings and brackets are closed.
use Rattle.std.proofs.Common.{ℕ, ◌≡◌, ◌+◌, ◌∷◌, ◌∙◌, [], zero, suc, List, cond, refl, ap, sym, arith}
use Rattle.starlark_lexer.specs.Items.{Lexeme, comment, Item, item, opening_item, closing_item}
use Rattle.starlark_lexer.specs.Joining.{IsEven, open_behind}
use Rattle.starlark_ast.specs.Tree.{Statement}
use Rattle.starlark_grammar.specs.Grammar.{Derives}
use Rattle.starlark_grammar.specs.Language.{without_comments}
use Rattle.starlark_joining.proofs.Classes.{plain, class, depth_behind, opens_one, closes_one, weight, open_first, opened_first, closed_first, weight_within}
use Rattle.starlark_joining.proofs.Balanced.{Balanced}
use Rattle.starlark_joining.proofs.EvenStatements.{program}

-- tokens among which comments count for nothing
record Uncounted (a b : List Item) : Type 0 where
  strings : (n : ℕ) → open_behind n a ≡ open_behind n b
  opened : (n : ℕ) → weight opening_item n a ≡ weight opening_item n b
  closed : (n : ℕ) → weight closing_item n a ≡ weight closing_item n b

none_more : (u v : ℕ) → u ≡ 0 + v → u ≡ v
none_more u v e = omega (arith, e)

-- a comment more
skipped : (x : Lexeme) (i j : ℕ) (a b : List Item) → class x ≡ plain → Uncounted a b → Uncounted a (item i x j ∷ b)
skipped x i j a b h d = record {
  strings = λ n. d.strings n ∙ sym (open_first x plain h n i j b);
  opened = by_opened;
  closed = by_closed;
}
  where
    by_opened : (n : ℕ) → weight opening_item n a ≡ weight opening_item n (item i x j ∷ b)
    by_opened zero = d.opened 0 ∙ sym (none_more _ _ (opened_first x plain h i j b))
    by_opened (suc n) = d.opened (suc n) ∙ sym (weight_within opening_item x plain h n i j b)

    by_closed : (n : ℕ) → weight closing_item n a ≡ weight closing_item n (item i x j ∷ b)
    by_closed zero = d.closed 0 ∙ sym (none_more _ _ (closed_first x plain h i j b))
    by_closed (suc n) = d.closed (suc n) ∙ sym (weight_within closing_item x plain h n i j b)

-- the same token more
kept : (x : Lexeme) (i j : ℕ) (a b : List Item) → Uncounted a b → Uncounted (item i x j ∷ a) (item i x j ∷ b)
kept x i j a b d = record {
  strings = λ n. open_first x (class x) refl n i j a ∙ d.strings (depth_behind (class x) n) ∙ sym (open_first x (class x) refl n i j b);
  opened = by_opened;
  closed = by_closed;
}
  where
    by_opened : (n : ℕ) → weight opening_item n (item i x j ∷ a) ≡ weight opening_item n (item i x j ∷ b)
    by_opened zero = opened_first x (class x) refl i j a ∙ ap (λ m. cond (opens_one (class x)) 1 0 + m) (d.opened (depth_behind (class x) 0)) ∙ sym (opened_first x (class x) refl i j b)
    by_opened (suc n) = weight_within opening_item x (class x) refl n i j a ∙ d.opened (depth_behind (class x) (suc n)) ∙ sym (weight_within opening_item x (class x) refl n i j b)

    by_closed : (n : ℕ) → weight closing_item n (item i x j ∷ a) ≡ weight closing_item n (item i x j ∷ b)
    by_closed zero = closed_first x (class x) refl i j a ∙ ap (λ m. cond (closes_one (class x)) 1 0 + m) (d.closed (depth_behind (class x) 0)) ∙ sym (closed_first x (class x) refl i j b)
    by_closed (suc n) = weight_within closing_item x (class x) refl n i j a ∙ d.closed (depth_behind (class x) (suc n)) ∙ sym (weight_within closing_item x (class x) refl n i j b)

uncounted : (xs : List Item) → Uncounted (without_comments xs) xs
uncounted [] = record { strings = λ n. refl; opened = λ n. refl; closed = λ n. refl }
uncounted (x ∷ xs) = by x.lexeme x.begin x.end (uncounted xs)
  where
    by : (y : Lexeme) (i j : ℕ) → Uncounted (without_comments xs) xs → Uncounted (without_comments (item i y j ∷ xs)) (item i y j ∷ xs)
    by (comment t) i j d = skipped (comment t) i j (without_comments xs) xs refl d
    by y i j d = kept y i j (without_comments xs) xs d

pub even_program : (items : List Item) (raw : Statement) → Derives (without_comments items) raw → IsEven items
even_program items raw d = record {
  strings = sym (u.strings 0) ∙ b.strings 0;
  brackets = sum _ _ _ _ (u.opened 0) (u.closed 0) (b.brackets 0);
}
  where
    u : Uncounted (without_comments items) items
    u = uncounted items

    b : Balanced (without_comments items) []
    b = program d

    sum : (o c p q : ℕ) → o ≡ p → c ≡ q → o + 0 ≡ c + 0 → p ≡ q
    sum o c p q e f g = omega (arith, e, f, g)
