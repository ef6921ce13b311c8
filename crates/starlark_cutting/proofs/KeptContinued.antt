-- A line feed that is put behind a text, and what the text is cut into then.
use Rattle.std.proofs.Common.{◌≡◌, ℕ, ◌+◌, true, cond, List, [], ◌∷◌, ◌++◌, length, drop, refl, ap, sym, ◌∙◌, arith, inl, inr, subst, length-append, IsAscii}
use Rattle.std.proofs.Math.Seq.{drop-append_seam}
use Rattle.std.proofs.lemmas.Bool.{cases_Bool, and_parts}
use Rattle.std.proofs.lemmas.List.{append-nil}
use Rattle.starlark_lexer.specs.Items.{Item, item, newline, dedents, Lexed, nothing, with_items}
use Rattle.starlark_lexer.specs.Joining.{is_comment}
use Rattle.starlark_lexer.specs.Widths.{Closes}
use Rattle.starlark_lexer.specs.Classes.{is_blank, leading}
use Rattle.starlark_lexer.specs.Lex.{Past, Step, Lex, on, is_inside, moved, recorded, mode_behind, IsBalanced, goes_on, is_over, start}
use Rattle.starlark_lexer.specs.Lex as rules
use Rattle.starlark_cutting.specs.Cutting.{tokens_of, IsContinued}
use Rattle.starlark_cutting.proofs.KeptPuts.{Among, end_line}
use Rattle.starlark_cutting.proofs.KeptFeeds.{all_blank, lead_before}

-- ---- tokens

pub tokens_append : (xs ys : List Item) → tokens_of (xs ++ ys) ≡ tokens_of xs ++ tokens_of ys
tokens_append [] ys = refl
tokens_append (x ∷ xs) ys = elim (cases_Bool (is_comment x.lexeme)) [
  | inl t ↦ rw t (tokens_append xs ys)
  | inr f ↦ rw f (ap (λ y. x.lexeme ∷ y) (tokens_append xs ys))
]

pub tokens_line : (z : Item) → z.lexeme ≡ newline → tokens_of (z ∷ []) ≡ newline ∷ []
tokens_line z e = ap (λ x. cond (is_comment x) [] (x ∷ [])) e

pub same_tokens : (xs ys zs : List Item) (a b : Item) → tokens_of xs ≡ tokens_of ys → a.lexeme ≡ newline → b.lexeme ≡ newline → tokens_of ((zs ++ xs) ++ a ∷ []) ≡ tokens_of ((zs ++ ys) ++ b ∷ [])
same_tokens xs ys zs a b e f g =
    tokens_append (zs ++ xs) (a ∷ []) ∙ (λ i. (tokens_append zs xs ∙ ap (λ y. tokens_of zs ++ y) e ∙ sym (tokens_append zs ys)) i ++ (tokens_line a f ∙ sym (tokens_line b g)) i)
    ∙ sym (tokens_append (zs ++ ys) (b ∷ []))

-- ---- the line end and the end of the text

abbrev pub fed_lexed : ℕ → ℕ → Lexed
fed_lexed n k = with_items (item n newline (n + 1) ∷ []) (with_items (item (n + 1) newline (n + 1) ∷ dedents (n + 1) k) nothing)

-- behind blanks within a line
pub feed_within : (bs : List ℕ) (p : Past) (closed : List ℕ) (n : ℕ) → n ≡ p.place + length bs → Among p → IsBalanced p → Closes p.lines 0 closed → all_blank bs ≡ true → Lex p (bs ++ 10 ∷ []) (fed_lexed n (length closed))
feed_within [] p closed n at a even shut blank =
    let e : p.place + 0 ≡ n = omega (arith, at) in
    let f : p.place + 1 + 0 ≡ n + 1 = omega (arith, at) in
    subst (Lex p (10 ∷ [])) (λ i. with_items (item (e i) newline (e i + 1) ∷ []) (with_items (item (f i) newline (f i) ∷ dedents (f i) (length closed)) nothing)) (end_line p closed a even shut)
feed_within (b ∷ bs) p closed n at a even shut blank =
    let k = and_parts (is_blank b) (all_blank bs) blank in
    goes_on p (b ∷ bs ++ 10 ∷ []) [] (moved p 1) (bs ++ 10 ∷ []) (fed_lexed n (length closed)) (rules.passes p b (bs ++ 10 ∷ []) a.fresh (ap is_inside a.mode) k.0)
    (feed_within bs (moved p 1) closed n (omega (arith, at)) (record { fresh = refl; mode = a.mode }) even shut k.1)

-- behind blanks where a line begins
pub feed_line : (bs : List ℕ) (p : Past) (closed : List ℕ) (n : ℕ) → n ≡ p.place + length bs → p.fresh ≡ true → Closes p.lines 0 closed → all_blank bs ≡ true → Lex p (bs ++ 10 ∷ []) (fed_lexed n (length closed))
feed_line bs p closed n at fresh shut blank =
    let rest = bs ++ 10 ∷ [] in
    let lead : leading rest ≡ length bs = lead_before bs 10 [] refl blank in
    let stands : drop (leading rest) rest ≡ 10 ∷ [] = ap (λ k. drop k rest) lead ∙ drop-append_seam bs (10 ∷ []) in
    let len : leading rest + 1 ≡ length rest = omega (arith, lead, length-append bs (10 ∷ [])) in
    let none : drop (leading rest + 1) rest ≡ [] = ap (λ k. drop k rest) len ∙ ap (drop (length rest)) (sym (append-nil rest)) ∙ drop-append_seam rest [] in
    let it : Item = item (p.place + leading rest) newline (p.place + leading rest + 1) in
    let q : Past = record { place = p.place + (leading rest + 1); items = recorded p.mode it p.items; lines = p.lines; fresh = true; mode = mode_behind p.mode newline; outer = p.outer } in
    let step : Step p rest (on (it ∷ []) q []) = subst (λ y. Step p rest (on (it ∷ []) q y)) none (rules.blank_line p rest [] fresh stands) in
    let e : p.place + leading rest ≡ n = omega (arith, at, lead) in
    let f : p.place + (leading rest + 1) + 0 ≡ n + 1 = omega (arith, at, lead) in
    subst (Lex p rest) (λ i. with_items (item (e i) newline (e i + 1) ∷ []) (with_items (item (f i) newline (f i) ∷ dedents (f i) (length closed)) nothing))
    (goes_on p rest (it ∷ []) q [] _ step (is_over q [] _ (rules.last_line q [] closed refl refl shut)))

-- ---- the text

pub continued : (u more : List ℕ) (xs front : List Item) (n k : ℕ) → IsAscii more → Lex start (u ++ more) (with_items xs (fed_lexed n k)) → length (u ++ more) ≡ n + 1 → tokens_of (xs ++ item n newline (n + 1) ∷ []) ≡ tokens_of front → IsContinued u front
continued u more xs front n k ascii d len same = record {
  more = more;
  ascii = ascii;
  before = xs;
  z = item n newline (n + 1);
  behind = item (n + 1) newline (n + 1) ∷ (dedents (n + 1) k ++ []);
  cut = record { fault = (with_items xs (fed_lexed n k)).fault; lex = subst (λ t. Lex start t (with_items xs (fed_lexed n k))) (sym (append-nil (u ++ more))) d; length_is = len };
  line_end = refl;
  real = refl;
  same = same;
}
