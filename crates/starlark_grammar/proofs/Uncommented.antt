-- Tokens without comments, of lists one behind the other and of Dedents.
use Rattle.std.proofs.Common.{ℕ, ◌≡◌, ◌∷◌, ◌++◌, [], zero, suc, List, Bool, true, false, cond, refl, ap}
use Rattle.starlark_lexer.specs.Items.{dedent, dedents, Item, item}
use Rattle.starlark_grammar.specs.Language.{without_comments, is_comment}

pub without_append : (xs ys : List Item) → without_comments (xs ++ ys) ≡ without_comments xs ++ without_comments ys
without_append [] ys = refl
without_append (x ∷ xs) ys = by (is_comment x.lexeme) (without_append xs ys)
  where
    by : (b : Bool) → without_comments (xs ++ ys) ≡ without_comments xs ++ without_comments ys → cond b (without_comments (xs ++ ys)) (x ∷ without_comments (xs ++ ys)) ≡ cond b (without_comments xs) (x ∷ without_comments xs) ++ without_comments ys
    by true h = h
    by false h = ap (λ zs. x ∷ zs) h

pub without_dedents : (p count : ℕ) → without_comments (dedents p count) ≡ dedents p count
without_dedents p zero = refl
without_dedents p (suc count) = ap (λ zs. item p dedent p ∷ zs) (without_dedents p count)
