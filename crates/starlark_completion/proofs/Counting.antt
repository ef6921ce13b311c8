-- Tokens on a way among f-strings and brackets are counted as the lexer counts them.
use Rattle.std.proofs.Common.{ℕ, ◌≡◌, ◌+◌, ◌∷◌, ◌∙◌, [], zero, suc, List, Bool, cond, refl, ap, sym, arith, count_by}
use Rattle.std.proofs.lemmas.List.Sums.{sum_by-cons}
use Rattle.starlark_lexer.specs.Items.{Lexeme, comment, fstring_start, fstring_text, fstring_expr_start, fstring_bang, fstring_expr_end, fstring_end, opening_round, opening_square, opening_curly, closing_round, closing_square, closing_curly, is_opening, is_closing, opening_item, closing_item, Item}
use Rattle.starlark_lexer.specs.Joining as joining
use Rattle.starlark_lexer.specs.Joining.{nested, open_behind, IsEven}
use Rattle.starlark_grammar.specs.Language.{bare}
use Rattle.starlark_cutting.specs.Opened.{Nest, outside, in_field, in_text, deeper, Goes_to, Way}
use Rattle.starlark_completion.specs.Counts.{strings_open, brackets_open}

abbrev one : Bool → ℕ
one b = cond b 1 0

-- f-strings at a token
deeper_strings : (r : Nest) → strings_open (deeper r) ≡ strings_open r
deeper_strings (outside n) = refl
deeper_strings (in_field n m) = refl
deeper_strings (in_text m) = refl

opens_string : (r t : Nest) → t ≡ deeper r → strings_open t ≡ strings_open r
opens_string r t h = ap strings_open h ∙ deeper_strings r

closes_string : (r t : Nest) → r ≡ deeper t → strings_open t ≡ strings_open r
closes_string r t h = sym (opens_string t r h)

pub strings_turn : (x : Lexeme) (r t : Nest) → Goes_to x r t → strings_open t ≡ nested (strings_open r) x
strings_turn opening_round r t h = opens_string r t h.1
strings_turn opening_square r t h = opens_string r t h.1
strings_turn opening_curly r t h = opens_string r t h.1
strings_turn closing_round r t h = closes_string r t h.1
strings_turn closing_square r t h = closes_string r t h.1
strings_turn closing_curly r t h = closes_string r t h.1
strings_turn (fstring_start q) r t h = ap strings_open h.1
strings_turn (fstring_text v) r t h = ap strings_open h.1
strings_turn fstring_expr_start r t h = ap strings_open h.1.1 ∙ sym (ap strings_open h.1.0)
strings_turn fstring_bang r t h = ap strings_open h.1.1
strings_turn fstring_expr_end r t h = ap strings_open h.1.1 ∙ sym (ap strings_open h.1.0)
strings_turn fstring_end r t h = let e : strings_open r ≡ suc (strings_open t) = ap strings_open h in omega (arith, e)
strings_turn (comment v) r t h = ap strings_open h
strings_turn _ r t h = ap strings_open h.1

-- brackets at a token outside of f-strings, and inside
deeper_out : (r : Nest) → strings_open r ≡ 0 → brackets_open (deeper r) ≡ suc (brackets_open r)
deeper_out (outside n) q = refl
deeper_out (in_field n m) q = absurd (omega (arith, q))
deeper_out (in_text m) q = absurd (omega (arith, q))

deeper_in : (n : ℕ) (r : Nest) → strings_open r ≡ suc n → brackets_open (deeper r) ≡ brackets_open r
deeper_in n (outside m) q = absurd (omega (arith, q))
deeper_in n (in_field k m) q = refl
deeper_in n (in_text m) q = refl

opens_one : (r t : Nest) → strings_open r ≡ 0 → t ≡ deeper r → brackets_open t + 0 ≡ brackets_open r + 1
opens_one r t q h = let e = ap brackets_open h ∙ deeper_out r q in omega (arith, e)

closes_one : (r t : Nest) → strings_open r ≡ 0 → r ≡ deeper t → brackets_open t + 1 ≡ brackets_open r + 0
closes_one r t q h = let e = ap brackets_open h ∙ deeper_out t (closes_string r t h ∙ q) in omega (arith, e)

stays : (r t : Nest) → brackets_open t ≡ brackets_open r → brackets_open t + 0 ≡ brackets_open r + 0
stays r t e = ap (λ n. n + 0) e

outer_turn : (x : Lexeme) (r t : Nest) → strings_open r ≡ 0 → Goes_to x r t → brackets_open t + one (is_closing x) ≡ brackets_open r + one (is_opening x)
outer_turn opening_round r t q h = opens_one r t q h.1
outer_turn opening_square r t q h = opens_one r t q h.1
outer_turn opening_curly r t q h = opens_one r t q h.1
outer_turn closing_round r t q h = closes_one r t q h.1
outer_turn closing_square r t q h = closes_one r t q h.1
outer_turn closing_curly r t q h = closes_one r t q h.1
outer_turn (fstring_start s) r t q h = stays r t (ap brackets_open h.1)
outer_turn (fstring_text v) r t q h = stays r t (ap brackets_open h.1)
outer_turn fstring_expr_start r t q h = stays r t (ap brackets_open h.1.1 ∙ sym (ap brackets_open h.1.0))
outer_turn fstring_bang r t q h = stays r t (ap brackets_open h.1.1)
outer_turn fstring_expr_end r t q h = stays r t (ap brackets_open h.1.1 ∙ sym (ap brackets_open h.1.0))
outer_turn fstring_end r t q h = stays r t (sym (ap brackets_open h))
outer_turn (comment v) r t q h = stays r t (ap brackets_open h)
outer_turn _ r t q h = stays r t (ap brackets_open h.1)

opens_none : (n : ℕ) (r t : Nest) → strings_open r ≡ suc n → t ≡ deeper r → brackets_open t ≡ brackets_open r
opens_none n r t q h = ap brackets_open h ∙ deeper_in n r q

closes_none : (n : ℕ) (r t : Nest) → strings_open r ≡ suc n → r ≡ deeper t → brackets_open t ≡ brackets_open r
closes_none n r t q h = sym (opens_none n t r (closes_string r t h ∙ q) h)

inner_turn : (x : Lexeme) (n : ℕ) (r t : Nest) → strings_open r ≡ suc n → Goes_to x r t → brackets_open t ≡ brackets_open r
inner_turn opening_round n r t q h = opens_none n r t q h.1
inner_turn opening_square n r t q h = opens_none n r t q h.1
inner_turn opening_curly n r t q h = opens_none n r t q h.1
inner_turn closing_round n r t q h = closes_none n r t q h.1
inner_turn closing_square n r t q h = closes_none n r t q h.1
inner_turn closing_curly n r t q h = closes_none n r t q h.1
inner_turn (fstring_start s) n r t q h = ap brackets_open h.1
inner_turn (fstring_text v) n r t q h = ap brackets_open h.1
inner_turn fstring_expr_start n r t q h = ap brackets_open h.1.1 ∙ sym (ap brackets_open h.1.0)
inner_turn fstring_bang n r t q h = ap brackets_open h.1.1
inner_turn fstring_expr_end n r t q h = ap brackets_open h.1.1 ∙ sym (ap brackets_open h.1.0)
inner_turn fstring_end n r t q h = sym (ap brackets_open h)
inner_turn (comment v) n r t q h = ap brackets_open h
inner_turn _ n r t q h = ap brackets_open h.1

-- all f-strings, and the brackets outside of them
pub strings_count : (v : List Item) (n : ℕ) (r t : Nest) → strings_open r ≡ n → Way r (bare v) t → strings_open t ≡ open_behind n v
strings_count [] n r t q c = sym (ap strings_open c) ∙ q
strings_count (x ∷ v) n r t q c = strings_count v (nested n x.lexeme) c.0 t (strings_turn x.lexeme r c.0 c.1.0 ∙ ap (λ m. nested m x.lexeme) q) c.1.1

pub brackets_count : (v : List Item) (n : ℕ) (r t : Nest) → strings_open r ≡ n → Way r (bare v) t → brackets_open t + count_by closing_item (joining.outside n v) ≡ brackets_open r + count_by opening_item (joining.outside n v)
brackets_count [] zero r t q c = ap (λ s. brackets_open s + 0) (sym c)
brackets_count [] (suc n) r t q c = ap (λ s. brackets_open s + 0) (sym c)
brackets_count (x ∷ v) zero r t q c =
    let w = brackets_count v (nested 0 x.lexeme) c.0 t (strings_turn x.lexeme r c.0 c.1.0 ∙ ap (λ m. nested m x.lexeme) q) c.1.1 in
    let o = outer_turn x.lexeme r c.0 q c.1.0 in
    omega (arith, w, o, sum_by-cons (λ y. one (closing_item y)) x (joining.outside (nested 0 x.lexeme) v), sum_by-cons (λ y. one (opening_item y)) x (joining.outside (nested 0 x.lexeme) v))
brackets_count (x ∷ v) (suc n) r t q c =
    let w = brackets_count v (nested (suc n) x.lexeme) c.0 t (strings_turn x.lexeme r c.0 c.1.0 ∙ ap (λ m. nested m x.lexeme) q) c.1.1 in
    let o = inner_turn x.lexeme n r c.0 q c.1.0 in
    omega (arith, w, o)

-- where nothing is open before and behind them, tokens are even
pub even : (v : List Item) → Way (outside 0) (bare v) (outside 0) → IsEven v
even v c = record { strings = sym (strings_count v 0 (outside 0) (outside 0) refl c); brackets = let w = brackets_count v 0 (outside 0) (outside 0) refl c in omega (arith, w) }
