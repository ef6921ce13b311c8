-- Steps of the machine where a small statement begins.
use Rattle.std.proofs.Common.{ℕ, ◌≡◌, ◌≢◌, Option, Some, None, true, false, refl, ap, sym, subst, ◌∙◌}
use Rattle.starlark_lexer.specs.Items.{Lexeme, item, newline, semicolon, comma, keyword_break, keyword_continue, keyword_load, keyword_pass, keyword_return}
use Rattle.starlark_lexer.specs.declared.dialect.Dialect.{Dialect}
use Rattle.starlark_ast.specs.Tree as tree
use Rattle.starlark_grammar.specs.Nodes.{start}
use Rattle.starlark_grammar.specs.Sorts.{is_some}
use Rattle.starlark_grammar.specs.Spans.{stretch}
use Rattle.starlark_grammar.specs.Tables.{Beginning, beginning}
use Rattle.starlark_grammar.specs.Frames.{Line, line, behind_return, behind_small, first, has, listed, load_opens, returned, spot, wants, wants_list, wants_small}
use Rattle.starlark_grammar.specs.Machine.{begin_with, move}
use Rattle.starlark_grammar.specs.Runs.{met}
use Rattle.starlark_grammar.specs.Verdicts.{begins_test}
use Rattle.starlark_read.specs.Reads.{Left, first_lexeme, Passes, Goes}
use Rattle.starlark_grammar.proofs.Steps.{at_token}
use Rattle.starlark_read.proofs.Exits.{goes, runs_as, state_is, not_next}

-- a statement of one word
pub break_begins : {d : Dialect} (b : ℕ) (k : Line) {ts us : Left} → b ≡ start ts.items → Passes ts (item (start ts.items) keyword_break us.last) us → Goes d (wants_small k) ts (behind_small (tree.break (stretch b us.last)) k) us
break_begins b (line done k) {us = us} h p = state_is (goes p refl refl) (ap (λ z. behind_small (tree.break (stretch z us.last)) (line done k)) (sym h))

pub continue_begins : {d : Dialect} (b : ℕ) (k : Line) {ts us : Left} → b ≡ start ts.items → Passes ts (item (start ts.items) keyword_continue us.last) us → Goes d (wants_small k) ts (behind_small (tree.continue (stretch b us.last)) k) us
continue_begins b (line done k) {us = us} h p = state_is (goes p refl refl) (ap (λ z. behind_small (tree.continue (stretch z us.last)) (line done k)) (sym h))

pub pass_begins : {d : Dialect} (b : ℕ) (k : Line) {ts us : Left} → b ≡ start ts.items → Passes ts (item (start ts.items) keyword_pass us.last) us → Goes d (wants_small k) ts (behind_small (tree.pass (stretch b us.last)) k) us
pass_begins b (line done k) {us = us} h p = state_is (goes p refl refl) (ap (λ z. behind_small (tree.pass (stretch z us.last)) (line done k)) (sym h))

-- the first word of another
pub load_begins : {d : Dialect} (b : ℕ) (k : Line) {ts us : Left} → b ≡ start ts.items → Passes ts (item (start ts.items) keyword_load us.last) us → Goes d (wants_small k) ts (load_opens b k) us
load_begins b (line done k) {us = us} h p = state_is (goes p refl refl) (ap (λ z. load_opens z (line done k)) (sym h))

pub return_begins : {d : Dialect} (b : ℕ) (k : Line) {ts us : Left} → b ≡ start ts.items → Passes ts (item (start ts.items) keyword_return us.last) us → Goes d (wants_small k) ts (behind_return b us.last k) us
return_begins b (line done k) {us = us} h p = state_is (goes p refl refl) (ap (λ z. behind_return z us.last (line done k)) (sym h))

-- a statement that begins with an expression
expression_there : {d : Dialect} (k : Line) (ts : Left) → first_lexeme ts.items ≢ Some newline → first_lexeme ts.items ≢ Some keyword_return → first_lexeme ts.items ≢ Some keyword_break → first_lexeme ts.items ≢ Some keyword_continue → first_lexeme ts.items ≢ Some keyword_pass → first_lexeme ts.items ≢ Some keyword_load → Goes d (wants_small k) ts (wants 12 (spot (first (start ts.items) k))) ts
expression_there (line done k) ts n r b c p l = runs_as (at_token (wants_small (line done k)) (wants 12 (spot (first (start ts.items) (line done k)))) ts.items refl refl (λ x xs z. (one x.lexeme x.begin x.end (not_next ts x xs newline n z) (not_next ts x xs keyword_return r z) (not_next ts x xs keyword_break b z) (not_next ts x xs keyword_continue c z) (not_next ts x xs keyword_pass p z) (not_next ts x xs keyword_load l z) ∙ ap (λ i. begin_with (beginning x.lexeme) 12 x.begin x.end (spot (first i (line done k)))) (sym (ap start z)), refl)))
  where
    one : (y : Lexeme) (i j : ℕ) → y ≢ newline → y ≢ keyword_return → y ≢ keyword_break → y ≢ keyword_continue → y ≢ keyword_pass → y ≢ keyword_load → move (wants_small (line done k)) y i j ≡ begin_with (beginning y) 12 i j (spot (first i (line done k)))
    one newline i j n r b c p l = absurd (n refl)
    one keyword_return i j n r b c p l = absurd (r refl)
    one keyword_break i j n r b c p l = absurd (b refl)
    one keyword_continue i j n r b c p l = absurd (c refl)
    one keyword_pass i j n r b c p l = absurd (p refl)
    one keyword_load i j n r b c p l = absurd (l refl)
    one _ i j n r b c p l = refl

pub expression_begins : {d : Dialect} (k : Line) (ts us : Left) → us ≡ ts → first_lexeme ts.items ≢ Some newline → first_lexeme ts.items ≢ Some keyword_return → first_lexeme ts.items ≢ Some keyword_break → first_lexeme ts.items ≢ Some keyword_continue → first_lexeme ts.items ≢ Some keyword_pass → first_lexeme ts.items ≢ Some keyword_load → Goes d (wants_small k) ts (wants 12 (spot (first (start us.items) k))) us
expression_begins {d} k ts us h n r b c p l = subst (λ vs. Goes d (wants_small k) ts (wants 12 (spot (first (start vs.items) k))) vs) (sym h) (expression_there k ts n r b c p l)

-- no value behind a `return`
pub returns_none : {d : Dialect} (p e : ℕ) (k : Line) (ts : Left) → begins_test ts.items ≡ false → Goes d (behind_return p e k) ts (behind_small (tree.return None (stretch p e)) k) ts
returns_none p e (line done k) ts h = runs_as (at_token (behind_return p e (line done k)) (behind_small (tree.return None (stretch p e)) (line done k)) ts.items refl refl (λ x xs z. (one x.lexeme x.begin x.end (sym (ap begins_test z) ∙ h), refl)))
  where
    none : (o : Option Beginning) (i j : ℕ) (f : _) → is_some o ≡ false → begin_with o 12 i j f ≡ None
    none None i j f w = refl
    none (Some b) i j f w = absurd (cc)

    one : (y : Lexeme) (i j : ℕ) → is_some (beginning y) ≡ false → move (behind_return p e (line done k)) y i j ≡ move (behind_small (tree.return None (stretch p e)) (line done k)) y i j
    one semicolon i j w = refl
    one newline i j w = refl
    one y i j w = none (beginning y) i j (listed tree.none i (returned p (line done k))) w

-- a value behind it
pub return_opens : {d : Dialect} (p e : ℕ) (k : Line) (ts : Left) → begins_test ts.items ≡ true → Goes d (behind_return p e k) ts (wants_list (returned p k)) ts
return_opens p e k ts h = runs_as (at_token (behind_return p e k) (wants_list (returned p k)) ts.items refl refl (λ x xs z. (one x.lexeme x.begin x.end (sym (ap begins_test z) ∙ h), refl)))
  where
    one : (y : Lexeme) (i j : ℕ) → is_some (beginning y) ≡ true → move (behind_return p e k) y i j ≡ move (wants_list (returned p k)) y i j
    one semicolon i j w = absurd (cc)
    one newline i j w = absurd (cc)
    one _ i j w = refl

pub returns_some : {d : Dialect} (q : tree.Expr) (e f p : ℕ) (k : Line) (ts : Left) → first_lexeme ts.items ≢ Some comma → Goes d (has q e (listed tree.none f (returned p k))) ts (behind_small (tree.return (Some q) (stretch p e)) k) ts
returns_some q e f p k ts n = runs_as (at_token (has q e (listed tree.none f (returned p k))) (behind_small (tree.return (Some q) (stretch p e)) k) ts.items refl refl (λ x xs z. one x.lexeme x.begin x.end (not_next ts x xs comma n z)))
  where
    one : (y : Lexeme) (i j : ℕ) → y ≢ comma → (move (has q e (listed tree.none f (returned p k))) y i j ≡ move (behind_small (tree.return (Some q) (stretch p e)) k) y i j) × (met (has q e (listed tree.none f (returned p k))) (Some y) ≡ met (behind_small (tree.return (Some q) (stretch p e)) k) (Some y))
    one comma i j n = absurd (n refl)
    one _ i j n = (refl, refl)
