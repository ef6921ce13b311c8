-- A token of a sort that has no payload is the one of that sort.
use Rattle.std.proofs.Common.{ℕ, ◌≡◌, ◌⊎◌, ◌∷◌, ◌∙◌, [], zero, suc, inl, inr, List, Bool, true, false, nat_eq, cond, refl, ap, sym, arith}
use Rattle.starlark_lexer.specs.Items.{Lexeme, newline, indent, dedent, comment, identifier, integer, float, string, bytes, fstring_start, fstring_text, fstring_expr_start, fstring_bang, fstring_expr_end, fstring_end, keyword_and, keyword_break, keyword_continue, keyword_def, keyword_elif, keyword_else, keyword_for, keyword_if, keyword_in, keyword_lambda, keyword_load, keyword_not, keyword_or, keyword_pass, keyword_return, comma, semicolon, colon, equal, plus_equal, minus_equal, star_equal, slash_equal, slash_slash_equal, percent_equal, ampersand_equal, pipe_equal, caret_equal, less_less_equal, greater_greater_equal, equal_equal, bang_equal, less_than, greater_than, less_equal, greater_equal, plus, minus, star, star_star, slash, slash_slash, percent, ampersand, pipe, caret, less_less, greater_greater, tilde, dot, ellipsis, minus_greater, opening_round, closing_round, opening_square, closing_square, opening_curly, closing_curly}
use Rattle.starlark_grammar.specs.Sorts.{sort}

abbrev sorts : List Lexeme
sorts = newline ∷ newline ∷ indent ∷ dedent ∷ fstring_expr_start ∷ fstring_bang ∷ fstring_expr_end ∷ fstring_end ∷ keyword_and ∷ keyword_break ∷ keyword_continue ∷ keyword_def ∷ keyword_elif ∷ keyword_else ∷ keyword_for ∷ keyword_if ∷ keyword_in ∷ keyword_lambda ∷ keyword_load ∷ keyword_not ∷ keyword_or ∷ keyword_pass ∷ keyword_return ∷ comma ∷ semicolon ∷ colon ∷ equal ∷ plus_equal ∷ minus_equal ∷ star_equal ∷ slash_equal ∷ slash_slash_equal ∷ percent_equal ∷ ampersand_equal ∷ pipe_equal ∷ caret_equal ∷ less_less_equal ∷ greater_greater_equal ∷ equal_equal ∷ bang_equal ∷ less_than ∷ greater_than ∷ less_equal ∷ greater_equal ∷ plus ∷ minus ∷ star ∷ star_star ∷ slash ∷ slash_slash ∷ percent ∷ ampersand ∷ pipe ∷ caret ∷ less_less ∷ greater_greater ∷ tilde ∷ dot ∷ ellipsis ∷ minus_greater ∷ opening_round ∷ closing_round ∷ opening_square ∷ closing_square ∷ opening_curly ∷ closing_curly ∷ []

abbrev nth : List Lexeme → ℕ → Lexeme
nth [] n = newline
nth (x ∷ xs) zero = x
nth (x ∷ xs) (suc n) = nth xs n

-- the token of that sort
abbrev pub of_sort : ℕ → Lexeme
of_sort n = nth sorts n

is_of_sort : (x : Lexeme) → (of_sort (sort x) ≡ x) ⊎ (sort x ≡ 0)
is_of_sort (comment t) = inr refl
is_of_sort (identifier n) = inr refl
is_of_sort (integer n) = inr refl
is_of_sort (float n) = inr refl
is_of_sort (string t) = inr refl
is_of_sort (bytes t) = inr refl
is_of_sort (fstring_start q) = inr refl
is_of_sort (fstring_text t) = inr refl
is_of_sort _ = inl refl

-- it has no payload
abbrev pub Plain : Lexeme → Type 0
Plain y = (of_sort (sort y) ≡ y) × (nat_eq (sort y) 0 ≡ false)

pub same_sort : (y x : Lexeme) → Plain y → nat_eq (sort y) (sort x) ≡ true → x ≡ y
same_sort y x p e = go (is_of_sort x)
  where
    same : sort y ≡ sort x
    same = grind arith

    go : (of_sort (sort x) ≡ x) ⊎ (sort x ≡ 0) → x ≡ y
    go (inl h) = sym h ∙ ap of_sort (sym same) ∙ p.0
    go (inr z) = absurd (let w : nat_eq (sort y) 0 ≡ false = p.1 in let v : sort y ≡ 0 = same ∙ z in grind arith)

pub by_cases : {A : Type 0} (P : A → Type 0) (b : Bool) (here other : A) → (b ≡ true → P here) → (b ≡ false → P other) → P (cond b here other)
by_cases P true here other f g = f refl
by_cases P false here other f g = g refl
