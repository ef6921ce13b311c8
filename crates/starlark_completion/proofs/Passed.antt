-- Where what is put behind a text, a line end and Dedents are accepted, they are with more line ends.
use Rattle.std.proofs.Common.{ℕ, ◌≡◌, ◌+◌, ◌∷◌, ◌++◌, ◌∙◌, [], zero, suc, List, true, false, refl, ap, subst, arith}
use Rattle.starlark_lexer.specs.Items.{Lexeme, newline, dedent, dedents, keyword_pass, Item, item}
use Rattle.starlark_grammar.specs.Frames.{State}
use Rattle.starlark_grammar.specs.Completion.{spelled}
use Rattle.starlark_grammar.specs.Language.{bare}
use Rattle.starlark_cutting.specs.Spelling.{Plain, a_name, an_else, an_in, a_pass, a_comma, a_colon, an_equal, an_opening, a_round, a_square, a_curly, a_string, lexeme_of}
use Rattle.starlark_cutting.specs.Opened.{Put, plain, a_letter, field_end, string_end, put_lexeme, put_lexemes}
use Rattle.starlark_completion.specs.Shapes.{depth, Stage, within, at_beginning, in_block, before_block, stage, is_within}
use Rattle.starlark_completion.specs.Moves.{Deeper}
use Rattle.starlark_completion.specs.Ending.{copies}
use Rattle.starlark_completion.proofs.Running.{Accepted, accepted_step, accepted_steps}
use Rattle.starlark_completion.proofs.Lined.{newlines, lined, passed, blank_not, before_not}
use Rattle.starlark_completion.proofs.Ways.{step_moves}

plain_deeper : (p : Plain) (m n : ℕ) → Deeper (lexeme_of p) m n → n ≡ m
plain_deeper a_name m n h = h
plain_deeper an_else m n h = h
plain_deeper an_in m n h = h
plain_deeper a_pass m n h = h
plain_deeper a_comma m n h = h
plain_deeper a_colon m n h = h
plain_deeper an_equal m n h = h
plain_deeper an_opening m n h = h
plain_deeper a_round m n h = h
plain_deeper a_square m n h = h
plain_deeper a_curly m n h = h
plain_deeper a_string m n h = h

put_deeper : (p : Put) (m n : ℕ) → Deeper (put_lexeme p) m n → n ≡ m
put_deeper (plain p) m n h = plain_deeper p m n h
put_deeper a_letter m n h = h
put_deeper field_end m n h = h
put_deeper string_end m n h = h

-- behind a line end, where Dedents are accepted
more_lines : (s : State) (k n : ℕ) → depth s ≡ k → is_within (stage s) ≡ false → Accepted s (dedents 0 k) → Accepted s (newlines n (dedents 0 k))
more_lines s k n q w a = go (stage s) refl w
  where
    go : (g : Stage) → stage s ≡ g → is_within g ≡ false → Accepted s (newlines n (dedents 0 k))
    go within e w = absurd (let z : true ≡ false = w in (cc))
    go at_beginning e w = subst (λ d. Accepted s (newlines n (dedents 0 d))) q (lined s e n)
    go in_block e w = absurd (blank_not s e k a)
    go before_block e w = absurd (before_not s e k a)

pub pass_lines : (l : List Put) (s : State) (k n : ℕ) → depth s ≡ k → Accepted s (spelled 0 (put_lexemes l) (item 0 newline 0 ∷ dedents 0 k)) → Accepted s (spelled 0 (put_lexemes l) (item 0 newline 0 ∷ newlines n (dedents 0 k)))
pass_lines [] s k n q a =
    let h = accepted_steps s (item 0 newline 0) (dedents 0 k) a in
    let m = step_moves s h.state (item 0 newline 0) h.steps in
    accepted_step s h.state (item 0 newline 0) (newlines n (dedents 0 k)) h.steps (more_lines h.state k n (m.1 ∙ q) m.2 h.accepted)
pass_lines (p ∷ l) s k n q a =
    let x = item 0 (put_lexeme p) 0 in
    let h = accepted_steps s x (spelled 0 (put_lexemes l) (item 0 newline 0 ∷ dedents 0 k)) a in
    let m = step_moves s h.state x h.steps in
    accepted_step s h.state x (spelled 0 (put_lexemes l) (item 0 newline 0 ∷ newlines n (dedents 0 k))) h.steps (pass_lines l h.state k n (put_deeper p (depth s) (depth h.state) m.1 ∙ q) h.accepted)

-- behind some of the Dedents that are accepted, a line `pass` is
pub falls : (j k n : ℕ) (s : State) → stage s ≡ at_beginning → depth s ≡ j + k → Accepted s (dedents 0 j ++ item 0 keyword_pass 0 ∷ item 0 newline 0 ∷ newlines n (dedents 0 k))
falls zero k n s g d =
    let e : depth s ≡ k = omega (arith, d) in
    subst (λ m. Accepted s (item 0 keyword_pass 0 ∷ item 0 newline 0 ∷ newlines n (dedents 0 m))) e (passed s g n)
falls (suc j) k n s g d =
    let x = item 0 dedent 0 in
    let e : depth s ≡ suc (j + k) = omega (arith, d) in
    let h = accepted_steps s x (dedents 0 (j + k)) (subst (λ m. Accepted s (dedents 0 m)) e (lined s g 0)) in
    let m = step_moves s h.state x h.steps in
    let f : depth h.state ≡ j + k = let a : depth s ≡ suc (depth h.state) = m.1 in omega (arith, a, e) in
    accepted_step s h.state x (dedents 0 j ++ item 0 keyword_pass 0 ∷ item 0 newline 0 ∷ newlines n (dedents 0 k)) h.steps (falls j k n h.state m.2 f)

-- their lexemes
pub spelled_bare : (xs : List Lexeme) (ts : List Item) → bare (spelled 0 xs ts) ≡ xs ++ bare ts
spelled_bare [] ts = refl
spelled_bare (x ∷ xs) ts = ap (λ ys. x ∷ ys) (spelled_bare xs ts)

pub dedents_bare : (n : ℕ) → bare (dedents 0 n) ≡ copies n dedent
dedents_bare zero = refl
dedents_bare (suc n) = ap (λ ys. dedent ∷ ys) (dedents_bare n)

pub newlines_bare : (n : ℕ) (ts : List Item) → bare (newlines n ts) ≡ copies n newline ++ bare ts
newlines_bare zero ts = refl
newlines_bare (suc n) ts = ap (λ ys. newline ∷ ys) (newlines_bare n ts)

pub lines_bare : (n k : ℕ) → bare (newlines n (dedents 0 k)) ≡ copies n newline ++ copies k dedent
lines_bare n k = newlines_bare n (dedents 0 k) ∙ ap (λ ys. copies n newline ++ ys) (dedents_bare k)
