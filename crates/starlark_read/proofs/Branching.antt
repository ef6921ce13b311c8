-- Steps of the machine in statements that have a suite.
use Rattle.std.proofs.Common.{◌≡◌, ◌≢◌, ℕ, List, [], ◌∷◌, Option, Some, None, refl, ap, sym, subst, ◌∙◌, length}
use Rattle.starlark_place.specs.Place.{Extent}
use Rattle.starlark_place.specs.declared.pos.Spanned.{Spanned}
use Rattle.starlark_lexer.specs.Items.{Lexeme, Item, item, identifier, comma, colon, keyword_elif, keyword_else, keyword_in}
use Rattle.starlark_lexer.specs.declared.dialect.Dialect.{Dialect}
use Rattle.starlark_ast.specs.Tree as tree
use Rattle.starlark_ast.specs.Tree.{Expr, Statement, name_at, when}
use Rattle.starlark_rulebook.specs.declared.rule.Rule.{Rule}
use Rattle.starlark_rulebook.specs.Targets.{target_fault}
use Rattle.starlark_rulebook.specs.View.{finding_of, maybe_finding}
use Rattle.starlark_grammar.specs.Events.{looped}
use Rattle.starlark_grammar.specs.Nodes.{start}
use Rattle.starlark_grammar.specs.Sorts.{name_of}
use Rattle.starlark_grammar.specs.Spans.{stretch}
use Rattle.starlark_grammar.specs.Frames.{Blocks, Ifs, at_elif, Suites, of_else, target, listed, spot, State, has, at_line, behind_for, behind_if, wants, wants_colon, test, source, def_name, def_opens, head}
use Rattle.starlark_grammar.specs.Machine.{accept, feed, move, push, settled, step}
use Rattle.starlark_grammar.specs.Runs.{end_line, ends, run}
use Rattle.starlark_grammar.specs.Verdicts.{Broken, answer, judge}
use Rattle.starlark_read.specs.Reads.{Left, first_lexeme, name_ahead, Passes, Goes, Sticks, Answers}
use Rattle.starlark_grammar.proofs.Steps.{arrive, runs, runs_end, at_token}
use Rattle.starlark_read.proofs.Exits.{broken, goes, runs_as, same_end, state_is, stops, not_next}
use Rattle.starlark_read.proofs.Gathering.{before}

-- no colon is behind a test, behind what a `for` goes over, behind `else`
pub no_test_end : {d : Dialect} (p : ℕ) (k : Ifs) (q : Expr) (e : ℕ) (ts : Left) → first_lexeme ts.items ≢ Some colon → Sticks d (has q e (spot (test p k))) ts ts
no_test_end p k q e ts c = stops (has q e (spot (test p k))) ts refl refl (λ x xs w. here x.lexeme x.end (not_next ts x xs colon c w))
  where
    here : (y : Lexeme) (j : ℕ) → y ≢ colon → accept (test p k) q e y j ≡ None
    here colon j h = absurd (h refl)
    here _ j h = refl

pub no_source_end : {d : Dialect} (l : Expr) (p : ℕ) (k : Blocks) (q : Expr) (e : ℕ) (ts : Left) → first_lexeme ts.items ≢ Some colon → Sticks d (has q e (spot (source l p k))) ts ts
no_source_end l p k q e ts c = stops (has q e (spot (source l p k))) ts refl refl (λ x xs w. here x.lexeme x.end (not_next ts x xs colon c w))
  where
    here : (y : Lexeme) (j : ℕ) → y ≢ colon → accept (source l p k) q e y j ≡ None
    here colon j h = absurd (h refl)
    here _ j h = refl

pub no_colon_next : {d : Dialect} (k : Suites) (ts : Left) → first_lexeme ts.items ≢ Some colon → Sticks d (wants_colon k) ts ts
no_colon_next k ts c = stops (wants_colon k) ts refl refl (λ x xs w. here x.lexeme x.begin x.end (not_next ts x xs colon c w))
  where
    here : (y : Lexeme) (i j : ℕ) → y ≢ colon → move (wants_colon k) y i j ≡ None
    here colon i j h = absurd (h refl)
    here _ i j h = refl

-- `elif` behind a suite, and its tree as what else is done
pub elif_begins : {d : Dialect} (q : Expr) (s : Statement) (p e b : ℕ) (k : Ifs) (ts us : Left) → b ≡ start ts.items → Passes ts (item (start ts.items) keyword_elif us.last) us → Goes d (behind_if q s p e k) ts (wants 12 (spot (test b (at_elif q s p k)))) us
elif_begins q s p e b k ts us w h = state_is (goes h refl refl) (ap (λ i. wants 12 (spot (test i (at_elif q s p k)))) (sym w))

pub else_begins : {d : Dialect} (q : Expr) (s : Statement) (p e : ℕ) (k : Ifs) (ts us vs : Left) → us ≡ ts → Passes us (item (start us.items) keyword_else vs.last) vs → Goes d (behind_if q s p e k) ts (wants_colon (of_else q s p k)) vs
else_begins {d} q s p e k ts us vs w h = subst (λ z. Goes d (behind_if q s p e k) z (wants_colon (of_else q s p k)) vs) w (goes h refl refl)

-- the same tree by another name
pub settled_as : {d : Dialect} {s : State} {ts us : Left} (k : Ifs) (x y : Statement) → Goes d s ts (at_line (settled k y us.last) us.last) us → x ≡ y → Goes d s ts (at_line (settled k x us.last) us.last) us
settled_as {us = us} k x y g h = state_is g (ap (λ z. at_line (settled k z us.last) us.last) (sym h))

pub pushed_as : {d : Dialect} {s : State} {ts us : Left} (k : Blocks) (x y : Statement) → Goes d s ts (at_line (push k y) us.last) us → x ≡ y → Goes d s ts (at_line (push k x) us.last) us
pushed_as {us = us} k x y g h = state_is g (ap (λ z. at_line (push k z) us.last) (sym h))

-- neither `elif` nor `else` is behind a suite
pub if_ends : {d : Dialect} (q : Expr) (s : Statement) (p e : ℕ) (k : Ifs) (ts : Left) → first_lexeme ts.items ≢ Some keyword_elif → first_lexeme ts.items ≢ Some keyword_else → Goes d (behind_if q s p e k) ts (at_line (settled k (when q s (stretch p e)) e) e) ts
if_ends q s p e k ts a b = runs_as (at_token (behind_if q s p e k) (at_line (settled k (when q s (stretch p e)) e) e) ts.items refl refl (λ x xs w. (here x.lexeme x.begin x.end (not_next ts x xs keyword_elif a w) (not_next ts x xs keyword_else b w), refl)))
  where
    here : (y : Lexeme) (i j : ℕ) → y ≢ keyword_elif → y ≢ keyword_else → move (behind_if q s p e k) y i j ≡ move (at_line (settled k (when q s (stretch p e)) e) e) y i j
    here keyword_elif i j a b = absurd (a refl)
    here keyword_else i j a b = absurd (b refl)
    here _ i j a b = refl

-- the same, where the tokens stay
pub if_is : {d : Dialect} (q : Expr) (s x : Statement) (p : ℕ) (k : Ifs) {ts us vs : Left} → (us ≡ ts) × (first_lexeme ts.items ≢ Some keyword_elif) → (vs ≡ us) × (first_lexeme us.items ≢ Some keyword_else) → x ≡ when q s (stretch p vs.last) → Goes d (behind_if q s p ts.last k) ts (at_line (settled k x vs.last) vs.last) vs
if_is {d} q s x p k {ts} {us} {vs} g h w = subst (λ zs. x ≡ when q s (stretch p zs.last) → Goes d (behind_if q s p ts.last k) ts (at_line (settled k x zs.last) zs.last) zs) (sym (h.0 ∙ g.0)) (λ v. settled_as k x (when q s (stretch p ts.last)) (if_ends q s p ts.last k ts g.1 (before g.0 h.1)) v) w

-- no `in` is behind the targets of a `for`
pub no_target_end : {d : Dialect} (p f : ℕ) (k : Blocks) (q : Expr) (e : ℕ) (ts : Left) → first_lexeme ts.items ≢ Some comma → first_lexeme ts.items ≢ Some keyword_in → Sticks d (has q e (listed tree.none f (target p k))) ts ts
no_target_end p f k q e ts a b = stops (has q e (listed tree.none f (target p k))) ts (none_met (first_lexeme ts.items)) refl (λ x xs w. here x.lexeme x.begin x.end (not_next ts x xs comma a w) (not_next ts x xs keyword_in b w))
  where
    none_met : (o : Option Lexeme) → ends (listed tree.none f (target p k)) q e o ≡ None
    none_met None = refl
    none_met (Some comma) = refl
    none_met (Some _) = refl

    here : (y : Lexeme) (i j : ℕ) → y ≢ comma → y ≢ keyword_in → feed (listed tree.none f (target p k)) q e y i j ≡ None
    here comma i j a b = absurd (a refl)
    here keyword_in i j a b = absurd (b refl)
    here _ i j a b = refl

-- a `for` statement is whole
pub loop_ends : {d : Dialect} (l : Expr) (k : Blocks) (e : ℕ) (ts : Left) → target_fault l ≡ None → Goes d (behind_for l k e) ts (at_line k e) ts
loop_ends {d} l k e ts h = record { same = go ts.items; behind = same_end }
  where
    go : (xs : List Item) → judge d (run (behind_for l k e) xs) ≡ judge d (run (at_line k e) xs)
    go [] = ap (judge d) (runs_end (behind_for l k e)) ∙ ap (λ o. answer o 0 (judge d (end_line k e))) h ∙ ap (judge d) (sym (runs_end (at_line k e)))
    go (x ∷ xs) = ap (judge d) (runs (behind_for l k e) x xs) ∙ ap (λ o. answer o (length (x ∷ xs)) (judge d (arrive x xs None (step (at_line k e) x)))) h ∙ ap (judge d) (sym (runs (at_line k e) x xs))

pub loop_broken : {d : Dialect} (l : Expr) (k : Blocks) (e : ℕ) (ts : Left) (o : Option (Spanned Rule)) (g : Spanned Rule) → o ≡ Some g → maybe_finding o ≡ target_fault l → Answers d (behind_for l k e) ts (Broken (finding_of g) (length ts.items)) ts
loop_broken l k e ts o g w h = broken ts (looped l) (finding_of g) refl (sym h ∙ ap maybe_finding w)

-- the name of a `def`
pub def_named : {d : Dialect} (p : ℕ) (k : Blocks) (n : List ℕ) (s : Extent) (ts us : Left) → (s ≡ stretch (start ts.items) us.last) × Passes ts (item (start ts.items) (identifier n) us.last) us → Goes d (def_name p k) ts (def_opens (head p (name_at n s) k)) us
def_named p k n s ts us h = state_is (goes h.1 refl refl) (ap (λ z. def_opens (head p (name_at n z) k)) (sym h.0))

pub no_def_name : {d : Dialect} (p : ℕ) (k : Blocks) (ts : Left) → name_ahead ts.items ≡ None → Sticks d (def_name p k) ts ts
no_def_name p k ts n = stops (def_name p k) ts refl refl (λ x xs w. here x.lexeme x.begin x.end (sym (ap name_ahead w) ∙ n))
  where
    here : (y : Lexeme) (i j : ℕ) → name_of y ≡ None → move (def_name p k) y i j ≡ None
    here (identifier n) i j h = absurd (let w : Some n ≡ None = h in (cc))
    here _ i j h = refl
