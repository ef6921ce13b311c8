-- Comments left out: of lists one behind the other, and what is counted without them.
use Rattle.std.proofs.Common.{ℕ, ◌≡◌, ◌+◌, ◌∷◌, ◌∙◌, [], zero, suc, List, Bool, true, false, cond, refl, ap, sym, arith, count_by}
use Rattle.std.proofs.lemmas.Bool.{false≢true}
use Rattle.std.proofs.lemmas.List.Sums.{sum_by-cons}
use Rattle.starlark_lexer.specs.Items.{Lexeme, comment, indent, dedent, fstring_start, fstring_end, opening_round, opening_square, opening_curly, closing_round, closing_square, closing_curly, is_opening, is_closing, Item, item}
use Rattle.starlark_lexer.specs.Joining.{is_indent, is_dedent, dedent_item, nested, outside, open_behind, IsEven}
use Rattle.starlark_grammar.specs.Language.{bare, without_comments, is_comment}
use Rattle.starlark_cutting.specs.Cutting.{indent_item, tokens_of}

-- one that is no comment
pub kept : (x : Item) → is_comment x.lexeme ≡ false → (xs : List Item) → without_comments (x ∷ xs) ≡ x ∷ without_comments xs
kept x q xs = ap (λ b. cond b (without_comments xs) (x ∷ without_comments xs)) q

pub tokens_bare : (xs : List Item) → tokens_of xs ≡ bare (without_comments xs)
tokens_bare [] = refl
tokens_bare (x ∷ xs) = by x.lexeme x.begin x.end (tokens_bare xs)
  where
    by : (y : Lexeme) (i j : ℕ) → tokens_of xs ≡ bare (without_comments xs) → tokens_of (item i y j ∷ xs) ≡ bare (without_comments (item i y j ∷ xs))
    by (comment t) i j h = h
    by y i j h = ap (λ zs. y ∷ zs) h

-- a count that no comment adds to
abbrev one : Bool → ℕ
one b = cond b 1 0

counted : (f : Lexeme → Bool) (x : Item) (xs : List Item) → count_by (λ (y : Item). f y.lexeme) (x ∷ xs) ≡ one (f x.lexeme) + count_by (λ (y : Item). f y.lexeme) xs
counted f x xs = sum_by-cons (λ (y : Item). one (f y.lexeme)) x xs

pub count_bare : (f : Lexeme → Bool) (xs : List Item) → count_by (λ (y : Item). f y.lexeme) xs ≡ count_by f (bare xs)
count_bare f [] = refl
count_bare f (x ∷ xs) = counted f x xs ∙ ap (λ n. one (f x.lexeme) + n) (count_bare f xs) ∙ sym (sum_by-cons (λ (y : Lexeme). one (f y)) x.lexeme (bare xs))

left_zero : (n : ℕ) → 0 + n ≡ n
left_zero n = omega arith

pub count_kept : (f : Lexeme → Bool) → ((y : Lexeme) → is_comment y ≡ true → f y ≡ false) → (xs : List Item) → count_by (λ (y : Item). f y.lexeme) (without_comments xs) ≡ count_by (λ (y : Item). f y.lexeme) xs
count_kept f none [] = refl
count_kept f none (x ∷ xs) = by (is_comment x.lexeme) refl (count_kept f none xs)
  where
    by : (b : Bool) → is_comment x.lexeme ≡ b → count_by (λ (y : Item). f y.lexeme) (without_comments xs) ≡ count_by (λ (y : Item). f y.lexeme) xs
        → count_by (λ (y : Item). f y.lexeme) (cond b (without_comments xs) (x ∷ without_comments xs)) ≡ count_by (λ (y : Item). f y.lexeme) (x ∷ xs)
    by true q h = h ∙ sym (counted f x xs ∙ ap (λ b. one b + count_by (λ (y : Item). f y.lexeme) xs) (none x.lexeme q) ∙ left_zero _)
    by false q h = counted f x (without_comments xs) ∙ ap (λ n. one (f x.lexeme) + n) h ∙ sym (counted f x xs)

no_indent : (y : Lexeme) → is_comment y ≡ true → is_indent y ≡ false
no_indent indent q = absurd (false≢true q)
no_indent _ q = refl

no_dedent : (y : Lexeme) → is_comment y ≡ true → is_dedent y ≡ false
no_dedent dedent q = absurd (false≢true q)
no_dedent _ q = refl

pub indents_kept : (xs : List Item) → count_by indent_item (without_comments xs) ≡ count_by indent_item xs
indents_kept = count_kept is_indent no_indent

pub dedents_kept : (xs : List Item) → count_by dedent_item (without_comments xs) ≡ count_by dedent_item xs
dedents_kept = count_kept is_dedent no_dedent

-- f-strings, and what stands outside them
nested_kept : (y : Lexeme) (n : ℕ) → is_comment y ≡ true → nested n y ≡ n
nested_kept (fstring_start s) n q = absurd (false≢true q)
nested_kept fstring_end n q = absurd (false≢true q)
nested_kept _ n q = refl

pub open_kept : (n : ℕ) (xs : List Item) → open_behind n (without_comments xs) ≡ open_behind n xs
open_kept n [] = refl
open_kept n (x ∷ xs) = by (is_comment x.lexeme) refl (λ m. open_kept m xs)
  where
    by : (b : Bool) → is_comment x.lexeme ≡ b → ((m : ℕ) → open_behind m (without_comments xs) ≡ open_behind m xs) → open_behind n (cond b (without_comments xs) (x ∷ without_comments xs)) ≡ open_behind (nested n x.lexeme) xs
    by true q h = h n ∙ ap (λ m. open_behind m xs) (sym (nested_kept x.lexeme n q))
    by false q h = h (nested n x.lexeme)

no_opening : (y : Lexeme) → is_comment y ≡ true → is_opening y ≡ false
no_opening opening_round q = absurd (false≢true q)
no_opening opening_square q = absurd (false≢true q)
no_opening opening_curly q = absurd (false≢true q)
no_opening _ q = refl

no_closing : (y : Lexeme) → is_comment y ≡ true → is_closing y ≡ false
no_closing closing_round q = absurd (false≢true q)
no_closing closing_square q = absurd (false≢true q)
no_closing closing_curly q = absurd (false≢true q)
no_closing _ q = refl

-- outside of f-strings
pub outside_kept : (f : Lexeme → Bool) → ((y : Lexeme) → is_comment y ≡ true → f y ≡ false) → (n : ℕ) (xs : List Item) → count_by (λ (y : Item). f y.lexeme) (outside n (without_comments xs)) ≡ count_by (λ (y : Item). f y.lexeme) (outside n xs)
outside_kept f none zero [] = refl
outside_kept f none (suc n) [] = refl
outside_kept f none zero (x ∷ xs) = by (is_comment x.lexeme) refl (λ m. outside_kept f none m xs)
  where
    by : (b : Bool) → is_comment x.lexeme ≡ b → ((m : ℕ) → count_by (λ (y : Item). f y.lexeme) (outside m (without_comments xs)) ≡ count_by (λ (y : Item). f y.lexeme) (outside m xs))
        → count_by (λ (y : Item). f y.lexeme) (outside 0 (cond b (without_comments xs) (x ∷ without_comments xs))) ≡ count_by (λ (y : Item). f y.lexeme) (x ∷ outside (nested 0 x.lexeme) xs)
    by true q h = h 0 ∙ ap (λ m. count_by (λ (y : Item). f y.lexeme) (outside m xs)) (sym (nested_kept x.lexeme 0 q)) ∙ sym (counted f x (outside (nested 0 x.lexeme) xs) ∙ ap (λ b. one b + count_by (λ (y : Item). f y.lexeme) (outside (nested 0 x.lexeme) xs)) (none x.lexeme q) ∙ left_zero _)
    by false q h = counted f x (outside (nested 0 x.lexeme) (without_comments xs)) ∙ ap (λ n. one (f x.lexeme) + n) (h (nested 0 x.lexeme)) ∙ sym (counted f x (outside (nested 0 x.lexeme) xs))
outside_kept f none (suc n) (x ∷ xs) = by (is_comment x.lexeme) refl (λ m. outside_kept f none m xs)
  where
    by : (b : Bool) → is_comment x.lexeme ≡ b → ((m : ℕ) → count_by (λ (y : Item). f y.lexeme) (outside m (without_comments xs)) ≡ count_by (λ (y : Item). f y.lexeme) (outside m xs))
        → count_by (λ (y : Item). f y.lexeme) (outside (suc n) (cond b (without_comments xs) (x ∷ without_comments xs))) ≡ count_by (λ (y : Item). f y.lexeme) (outside (nested (suc n) x.lexeme) xs)
    by true q h = h (suc n) ∙ ap (λ m. count_by (λ (y : Item). f y.lexeme) (outside m xs)) (sym (nested_kept x.lexeme (suc n) q))
    by false q h = h (nested (suc n) x.lexeme)

-- so they are even with comments where they are without
pub even_with : (xs : List Item) → IsEven (without_comments xs) → IsEven xs
even_with xs e = record {
  strings = sym (open_kept 0 xs) ∙ e.strings;
  brackets = sym (outside_kept is_opening no_opening 0 xs) ∙ e.brackets ∙ outside_kept is_closing no_closing 0 xs;
}
