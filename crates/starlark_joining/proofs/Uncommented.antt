-- Tokens without comments: of those n bytes on, of line ends, and of Dedents n bytes on.
use Rattle.std.proofs.Common.{ℕ, ◌≡◌, ◌+◌, ◌∷◌, ◌∙◌, ◌&&◌, [], zero, suc, List, Bool, true, false, cond, map, refl, ap}
use Rattle.std.specs.List.{list_all}
use Rattle.std.proofs.lemmas.Bool.{false≢true}
use Rattle.starlark_lexer.specs.Items.{Lexeme, newline, comment, dedent, dedents, Item, item}
use Rattle.starlark_lexer.specs.Joining.{begins_line, item_on, line_item}
use Rattle.starlark_grammar.specs.Language.{without_comments, is_comment}
use Rattle.starlark_joining.specs.Joined.{SameItems, no_items, and_item}
use Rattle.starlark_joining.specs.Kept.{Moved}
use Rattle.starlark_joining.proofs.Coming.{ends_line}
use Rattle.starlark_joining.proofs.FirstPart.{AreLines, a_line, no_lines}

pub without_on : (n : ℕ) (xs : List Item) → without_comments (map (item_on n) xs) ≡ map (item_on n) (without_comments xs)
without_on n [] = refl
without_on n (x ∷ xs) = by (is_comment x.lexeme) (without_on n xs)
  where
    by : (b : Bool) → without_comments (map (item_on n) xs) ≡ map (item_on n) (without_comments xs) → cond b (without_comments (map (item_on n) xs)) (item_on n x ∷ without_comments (map (item_on n) xs)) ≡ map (item_on n) (cond b (without_comments xs) (x ∷ without_comments xs))
    by true h = h
    by false h = ap (λ zs. item_on n x ∷ zs) h

pub dedents_on : (n p count : ℕ) → map (item_on n) (dedents p count) ≡ dedents (n + p) count
dedents_on n p zero = refl
dedents_on n p (suc count) = ap (λ zs. item (n + p) dedent (n + p) ∷ zs) (dedents_on n p count)

-- a line begins behind them where a line end stands last
pub line_ends : (f : Bool) (xs : List Item) → begins_line f xs ≡ ends_line f (without_comments xs)
line_ends f [] = refl
line_ends f (x ∷ xs) = by x.lexeme x.begin x.end (λ b. line_ends b xs)
  where
    none : (f : Bool) → f && false ≡ false
    none true = refl
    none false = refl

    all : (f : Bool) → f && true ≡ f
    all true = refl
    all false = refl

    by : (y : Lexeme) (i j : ℕ) → ((b : Bool) → begins_line b xs ≡ ends_line b (without_comments xs)) → begins_line f (item i y j ∷ xs) ≡ ends_line f (without_comments (item i y j ∷ xs))
    by newline i j go = go true
    by (comment t) i j go = ap (λ b. begins_line b xs) (all f) ∙ go f
    by y i j go = ap (λ b. begins_line b xs) (none f) ∙ go false

-- line ends and comments, n bytes on
pub lines_on : (n : ℕ) (xs : List Item) → list_all line_item xs ≡ true → AreLines (without_comments (map (item_on n) xs))
lines_on n [] a = no_lines
lines_on n (x ∷ xs) a = by x.lexeme x.begin x.end a (lines_on n xs)
  where
    by : (y : Lexeme) (i j : ℕ) → list_all line_item (item i y j ∷ xs) ≡ true → (list_all line_item xs ≡ true → AreLines (without_comments (map (item_on n) xs))) → AreLines (without_comments (map (item_on n) (item i y j ∷ xs)))
    by newline i j a go = a_line (go a)
    by (comment t) i j a go = go a
    by y i j a go = absurd (false≢true a)

-- the same where they stand
pub all_lines : (xs : List Item) → list_all line_item xs ≡ true → AreLines (without_comments xs)
all_lines [] a = no_lines
all_lines (x ∷ xs) a = by x.lexeme x.begin x.end a (all_lines xs)
  where
    by : (y : Lexeme) (i j : ℕ) → list_all line_item (item i y j ∷ xs) ≡ true → (list_all line_item xs ≡ true → AreLines (without_comments xs)) → AreLines (without_comments (item i y j ∷ xs))
    by newline i j a go = a_line (go a)
    by (comment t) i j a go = go a
    by y i j a go = absurd (false≢true a)

pub items_on : (n : ℕ) (xs : List Item) → SameItems (Moved n) xs (map (item_on n) xs)
items_on n [] = no_items
items_on n (x ∷ xs) = and_item refl refl (items_on n xs)
