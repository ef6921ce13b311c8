-- What the machine leaves is in the relation, and all that is in it.
use Rattle.std.proofs.Common.{◌≡◌, ◌<◌, ℕ, List, [], ap, sym, ◌∙◌, arith, zero, suc, subst}
use Rattle.starlark_lexer.specs.Items.{Lexed, Item, with_items}
use Rattle.starlark_lexer.specs.Lex.{Past, Move, on, over, Step, Lex, goes_on, is_over, start}
use Rattle.starlark_lexer.specs.Scan.{Act, goes, stops, step, follow, size, left_at}
use Rattle.starlark_lexer.proofs.Machine.{left_step, Shorter, shorter}
use Rattle.starlark_lexer.proofs.Widths.{IsStack, no_lines}
use Rattle.starlark_lexer.proofs.Rules.{at, Same, same, total}

abbrev Sound : ℕ → Type 0
Sound n = (p : Past) (ws rest : List ℕ) → size (at p ws rest) < n → IsStack p.lines ws → Lex p rest (left_at (at p ws rest))

finish : (n : ℕ) (p : Past) (ws rest : List ℕ) (m : Move) (a : Act) → Sound n → size (at p ws rest) < suc n → Step p rest m → Same m a → Shorter (at p ws rest) a → Lex p rest (follow a left_at)
finish n p ws rest (on xs q more) (goes ys d) sound lt rule (items, (vs, (stack, is))) less =
    let here : d ≡ at q vs more = is in
    let found : Lex q more (left_at (at q vs more)) = sound q vs more (omega (arith, ap size here)) stack in
    let both : with_items xs (left_at (at q vs more)) ≡ with_items ys (left_at d) = λ i. with_items (items i) (left_at (sym here i)) in
    subst (Lex p rest) both (goes_on p rest xs q more _ rule found)
finish n p ws rest (on xs q more) (stops l) sound lt rule h less = absurd h
finish n p ws rest (over l) (goes ys d) sound lt rule h less = absurd h
finish n p ws rest (over l) (stops m) sound lt rule h less = subst (Lex p rest) h (is_over p rest l rule)

sounds : (n : ℕ) → Sound n
sounds zero p ws rest lt stack = absurd (omega arith)
sounds (suc n) p ws rest lt stack =
    let rule = total p ws rest stack in
    subst (Lex p rest) (sym (left_step (at p ws rest))) (finish n p ws rest rule.0 (step (at p ws rest)) (sounds n) lt rule.1 (same rule.1 ws stack) (shorter (at p ws rest)))

pub sound : (text : List ℕ) → Lex start text (left_at (at start [] text))
sound text = sounds (suc (size (at start [] text))) start [] text (omega arith) no_lines

-- ---- one reading

agree : (xs : List Item) (q : Past) (more : List ℕ) (l : Lexed) (a : Act) → Same (on xs q more) a → ((vs : List ℕ) → IsStack q.lines vs → left_at (at q vs more) ≡ l) → follow a left_at ≡ with_items xs l
agree xs q more l (goes ys d) (items, (vs, (stack, is))) later = (λ i. with_items (sym items i) (left_at (is i))) ∙ ap (with_items xs) (later vs stack)
agree xs q more l (stops m) h later = absurd h

stop : (l : Lexed) (a : Act) → Same (over l) a → follow a left_at ≡ l
stop l (goes ys d) h = absurd h
stop l (stops m) h = sym h

pub complete : {p : Past} {rest : List ℕ} {l : Lexed} → Lex p rest l → (ws : List ℕ) → IsStack p.lines ws → left_at (at p ws rest) ≡ l
complete (goes_on p rest xs q more l rule d) ws stack = left_step (at p ws rest) ∙ agree xs q more l (step (at p ws rest)) (same rule ws stack) (λ vs s. complete d vs s)
complete (is_over p rest l rule) ws stack = left_step (at p ws rest) ∙ stop l (step (at p ws rest)) (same rule ws stack)

pub one_result : (text : List ℕ) (l m : Lexed) → Lex start text l → Lex start text m → l ≡ m
one_result text l m a b = sym (complete a [] no_lines) ∙ complete b [] no_lines
