-- Steps of the machine in assignments.
use Rattle.std.proofs.Common.{ℕ, ◌≡◌, ◌≢◌, ◌⊎◌, inl, inr, List, [], ◌∷◌, Option, Some, None, Result, MatchOption, refl, ap, sym, subst, ◌∙◌, length}
use Rattle.starlark_place.specs.declared.pos.Spanned.{Spanned}
use Rattle.starlark_lexer.specs.Items.{Lexeme, Item, item, newline, comma, colon, semicolon, equal, plus_equal, minus_equal, star_equal, slash_equal, slash_slash_equal, percent_equal, ampersand_equal, pipe_equal, caret_equal, less_less_equal, greater_greater_equal}
use Rattle.starlark_lexer.specs.declared.dialect.Dialect.{Dialect}
use Rattle.starlark_ast.specs.declared.ast.AssignOp.{AssignOp}
use Rattle.starlark_ast.specs.Tree as tree
use Rattle.starlark_rulebook.specs.declared.rule.Rule.{Rule}
use Rattle.starlark_rulebook.specs.Targets.{assignment_fault, target_of}
use Rattle.starlark_rulebook.specs.Types.{type_fault}
use Rattle.starlark_rulebook.specs.View.{finding_of, maybe_finding}
use Rattle.starlark_read.specs.declared.error.Error.{Error}
use Rattle.starlark_read.specs.Assigning.{IsWhole, assign_op_ahead, behind_left, operation_of}
use Rattle.starlark_grammar.specs.Events.{assigned, typed}
use Rattle.starlark_grammar.specs.Nodes.{start, type_at}
use Rattle.starlark_grammar.specs.Spans.{stretch}
use Rattle.starlark_grammar.specs.Tables.{assigner}
use Rattle.starlark_grammar.specs.Frames.{Line, State, annotation, behind_small, first, has, left, listed, right, spot, wants, wants_list}
use Rattle.starlark_grammar.specs.Machine.{begin_right, move, step}
use Rattle.starlark_grammar.specs.Runs.{Stuck, met, run}
use Rattle.starlark_grammar.specs.Verdicts.{Broken, Unexpected, answer, judge}
use Rattle.starlark_read.specs.Reads.{Left, first_lexeme, type_read, IsType, Passes, Goes, Sticks, Answers, Comes}
use Rattle.starlark_grammar.proofs.Steps.{arrive, at_token, runs, runs_end}
use Rattle.starlark_read.proofs.Exits.{broken, goes, goes_past, runs_as, same_end, state_is, stops, not_next}

-- the operators that assign
operates_as : (y : Lexeme) (o : AssignOp) → operation_of (assigner y) ≡ Some o → assigner y ≡ Some (Some o)
operates_as y o h = go (assigner y) refl
  where
    go : (z : Option (Option AssignOp)) → assigner y ≡ z → assigner y ≡ Some (Some o)
    go None w = absurd (let v : None ≡ Some o = sym (ap operation_of w) ∙ h in (cc))
    go (Some z) w = w ∙ ap Some (sym (ap operation_of w) ∙ h)

no_assigner : (y : Lexeme) → y ≢ equal → operation_of (assigner y) ≡ None → assigner y ≡ None
no_assigner equal a h = absurd (a refl)
no_assigner plus_equal a h = absurd (cc)
no_assigner minus_equal a h = absurd (cc)
no_assigner star_equal a h = absurd (cc)
no_assigner slash_equal a h = absurd (cc)
no_assigner slash_slash_equal a h = absurd (cc)
no_assigner percent_equal a h = absurd (cc)
no_assigner ampersand_equal a h = absurd (cc)
no_assigner pipe_equal a h = absurd (cc)
no_assigner caret_equal a h = absurd (cc)
no_assigner less_less_equal a h = absurd (cc)
no_assigner greater_greater_equal a h = absurd (cc)
no_assigner _ a h = refl

-- a type that breaks no rule
typed_right : (d : Dialect) (t : tree.Expr) (s : _) → IsType d (tree.typed t s) → type_fault d t ≡ None
typed_right d t s h = h.right

typed_whole : {d : Dialect} (t : tree.Expr) (s : _) → IsType d (tree.typed t s) → type_at t ≡ tree.typed t s
typed_whole t s h = sym h.is

-- an operator behind a left side and its type
untyped_step : (l : tree.Expr) (e p : ℕ) (k : Line) (y : Lexeme) (i j : ℕ) → y ≢ comma → y ≢ colon → move (has l e (listed tree.none p (left p k))) y i j ≡ begin_right (assigner y) l tree.untyped p k
untyped_step l e p k comma i j a b = absurd (a refl)
untyped_step l e p k colon i j a b = absurd (b refl)
untyped_step l e p k _ i j a b = refl

untyped_met : (l : tree.Expr) (e p : ℕ) (k : Line) (o : Option Lexeme) → met (has l e (listed tree.none p (left p k))) o ≡ None
untyped_met l e p k None = refl
untyped_met l e p k (Some comma) = refl
untyped_met l e p k (Some _) = refl

assigns_not : (y w : Lexeme) (o : Option AssignOp) → assigner y ≡ Some o → assigner w ≡ None → y ≢ w
assigns_not y w o h g e = absurd (let v : Some o ≡ None = sym h ∙ ap assigner e ∙ g in (cc))

pub assigns : {d : Dialect} (l : tree.Expr) (t : tree.Annotation) (e p : ℕ) (k : Line) (o : Option AssignOp) {x : Item} {ts us : Left} → IsWhole d t ts.items → Passes ts x us → assigner x.lexeme ≡ Some o → Goes d (behind_left l t e p k) ts (wants_list (right l t o p k)) us
assigns l tree.untyped e p k o {x} w q h = goes q (untyped_met l e p k (Some x.lexeme)) (untyped_step l e p k x.lexeme x.begin x.end (assigns_not _ comma o h refl) (assigns_not _ colon o h refl) ∙ ap (λ z. begin_right z l tree.untyped p k) h)
assigns {d} l (tree.typed t s) e p k o {x} w q h = goes_past (typed t) q refl (typed_right d t s w) (ap (λ z. begin_right (assigner x.lexeme) l z p k) (typed_whole t s w) ∙ ap (λ z. begin_right z l (tree.typed t s) p k) h)

pub assigns_next : {d : Dialect} {X : Type 0} (f : X → Item) (l : tree.Expr) (t : tree.Annotation) (e p : ℕ) (k : Line) (o : AssignOp) {ts us : Left} (r : Option X) → IsWhole d t ts.items → MatchOption r ((ts.items ≡ []) × (us ≡ ts)) (λ x. Passes ts (f x) us) → assign_op_ahead ts.items ≡ Some o → Goes d (behind_left l t e p k) ts (wants_list (right l t (Some o) p k)) us
assigns_next f l t e p k o None w h a = absurd (let v : None ≡ Some o = sym (ap assign_op_ahead h.0) ∙ a in (cc))
assigns_next f l t e p k o (Some x) w h a = assigns l t e p k (Some o) w h (operates_as _ o (sym (ap assign_op_ahead h.items) ∙ a))

-- no operator is there
pub no_operator : {d : Dialect} (l : tree.Expr) (t : tree.Annotation) (e p : ℕ) (k : Line) (ts : Left) → IsWhole d t ts.items → first_lexeme ts.items ≢ Some equal → assign_op_ahead ts.items ≡ None → Sticks d (behind_left l t e p k) ts ts
no_operator l tree.untyped e p k ts w a h = stops (has l e (listed tree.none p (left p k))) ts (untyped_met l e p k _) refl (λ x xs z. untyped_step l e p k x.lexeme x.begin x.end (not_next ts x xs comma w.0 z) (not_next ts x xs colon w.1 z) ∙ ap (λ o. begin_right o l tree.untyped p k) (no_assigner x.lexeme (not_next ts x xs equal a z) (sym (ap assign_op_ahead z) ∙ h)))
no_operator {d} l (tree.typed t s) e p k ts w a h = record { same = go ts.items a h; behind = same_end }
  where
    go : (xs : List Item) → first_lexeme xs ≢ Some equal → assign_op_ahead xs ≡ None → judge d (run (has t e (spot (annotation l p k))) xs) ≡ Unexpected xs
    go [] a h = ap (judge d) (runs_end (has t e (spot (annotation l p k)))) ∙ ap (λ o. answer o 0 (judge d (Stuck []))) (typed_right d t s w)
    go (x ∷ xs) a h =
        let none : step (has t e (spot (annotation l p k))) x ≡ None = ap (λ o. begin_right o l (type_at t) p k) (no_assigner x.lexeme (λ v. a (ap Some v)) h) in
        ap (judge d) (runs (has t e (spot (annotation l p k))) x xs)
        ∙ ap (λ o. answer o (length (x ∷ xs)) (judge d (arrive x xs None (step (has t e (spot (annotation l p k))) x)))) (typed_right d t s w)
        ∙ ap (λ o. judge d (arrive x xs None o)) none

pub whole_there : (d : Dialect) (t : tree.Annotation) {ts us : Left} → us ≡ ts → IsWhole d t ts.items → IsWhole d t us.items
whole_there d t h w = subst (λ vs. IsWhole d t vs.items) (sym h) w

-- a type behind a left side
pub type_begins : {d : Dialect} (l : tree.Expr) (e p : ℕ) (k : Line) {ts us : Left} → Passes ts (item (start ts.items) colon us.last) us → Goes d (has l e (listed tree.none p (left p k))) ts (wants 12 (spot (annotation l p k))) us
type_begins l e p k q = goes q refl refl

pub type_ends : {d : Dialect} (l : tree.Expr) (t : tree.Annotation) (e p : ℕ) (k : Line) {s : State} {ts us : Left} → IsType d t → Goes d s ts (has (type_read t) e (spot (annotation l p k))) us → Goes d s ts (behind_left l t e p k) us
type_ends l tree.untyped e p k h g = absurd (let w : tree.untyped ≡ type_at (type_read tree.untyped) = h.is in (cc))
type_ends l (tree.typed t s) e p k h g = g

-- an expression that is the whole statement
pub statement_ends : {d : Dialect} (q : tree.Expr) (e p : ℕ) (k : Line) (ts : Left) → (first_lexeme ts.items ≡ Some semicolon) ⊎ (first_lexeme ts.items ≡ Some newline) → Goes d (has q e (spot (first p k))) ts (behind_small (tree.expression q (stretch p e)) k) ts
statement_ends q e p k ts h = runs_as (at_token (has q e (spot (first p k))) (behind_small (tree.expression q (stretch p e)) k) ts.items refl refl (λ x xs z. (one x.lexeme x.begin x.end (subst (λ ys. (first_lexeme ys ≡ Some semicolon) ⊎ (first_lexeme ys ≡ Some newline)) z h), refl)))
  where
    one : (y : Lexeme) (i j : ℕ) → (Some y ≡ Some semicolon) ⊎ (Some y ≡ Some newline) → move (has q e (spot (first p k))) y i j ≡ move (behind_small (tree.expression q (stretch p e)) k) y i j
    one semicolon i j h = refl
    one newline i j h = refl
    one _ i j (inl h) = absurd (cc)
    one _ i j (inr h) = absurd (cc)

-- an expression that is not
pub left_begins : {d : Dialect} (q : tree.Expr) (e p : ℕ) (k : Line) (ts : Left) → first_lexeme ts.items ≢ Some semicolon → first_lexeme ts.items ≢ Some newline → Goes d (has q e (spot (first p k))) ts (has q e (listed tree.none p (left p k))) ts
left_begins q e p k ts a b = runs_as (at_token (has q e (spot (first p k))) (has q e (listed tree.none p (left p k))) ts.items refl refl (λ x xs z. (one x.lexeme x.begin x.end (not_next ts x xs semicolon a z) (not_next ts x xs newline b z), sym (untyped_met q e p k (Some x.lexeme)))))
  where
    one : (y : Lexeme) (i j : ℕ) → y ≢ semicolon → y ≢ newline → move (has q e (spot (first p k))) y i j ≡ move (has q e (listed tree.none p (left p k))) y i j
    one semicolon i j a b = absurd (a refl)
    one newline i j a b = absurd (b refl)
    one _ i j a b = refl

-- a right side
right_met : (l : tree.Expr) (t : tree.Annotation) (o : Option AssignOp) (q : tree.Expr) (e f p : ℕ) (k : Line) (y : Option Lexeme) → y ≢ Some comma → met (has q e (listed tree.none f (right l t o p k))) y ≡ Some (assigned l t o)
right_met l t o q e f p k None n = refl
right_met l t o q e f p k (Some comma) n = absurd (n refl)
right_met l t o q e f p k (Some _) n = refl

right_step : (l : tree.Expr) (t : tree.Annotation) (o : Option AssignOp) (q : tree.Expr) (e f p : ℕ) (k : Line) (y : Lexeme) (i j : ℕ) → y ≢ comma → move (has q e (listed tree.none f (right l t o p k))) y i j ≡ move (behind_small (tree.assign (target_of l) t o q (stretch p e)) k) y i j
right_step l t o q e f p k comma i j n = absurd (n refl)
right_step l t o q e f p k _ i j n = refl

pub right_ends : {d : Dialect} (l : tree.Expr) (t : tree.Annotation) (o : Option AssignOp) (q : tree.Expr) (e f p : ℕ) (k : Line) (ts : Left) → assignment_fault l t o ≡ None → first_lexeme ts.items ≢ Some comma → Goes d (has q e (listed tree.none f (right l t o p k))) ts (behind_small (tree.assign (target_of l) t o q (stretch p e)) k) ts
right_ends {d} l t o q e f p k ts h n = record { same = go ts.items n; behind = same_end }
  where
    go : (xs : List Item) → first_lexeme xs ≢ Some comma → judge d (run (has q e (listed tree.none f (right l t o p k))) xs) ≡ judge d (run (behind_small (tree.assign (target_of l) t o q (stretch p e)) k) xs)
    go [] n =
        ap (judge d) (runs_end (has q e (listed tree.none f (right l t o p k))))
        ∙ ap (λ z. answer z 0 (judge d (Stuck []))) h
        ∙ ap (judge d) (sym (runs_end (behind_small (tree.assign (target_of l) t o q (stretch p e)) k)))
    go (x ∷ xs) n =
        ap (judge d) (runs (has q e (listed tree.none f (right l t o p k))) x xs ∙ ap (λ z. arrive x xs z (step (has q e (listed tree.none f (right l t o p k))) x)) (right_met l t o q e f p k (Some x.lexeme) n))
        ∙ ap (λ z. answer z (length (x ∷ xs)) (judge d (arrive x xs None (step (has q e (listed tree.none f (right l t o p k))) x)))) h
        ∙ ap (λ z. judge d (arrive x xs None z)) (right_step l t o q e f p k x.lexeme x.begin x.end (λ v. n (ap Some v)))
        ∙ ap (judge d) (sym (runs (behind_small (tree.assign (target_of l) t o q (stretch p e)) k) x xs))

pub right_broken : {d : Dialect} (l : tree.Expr) (t : tree.Annotation) (o : Option AssignOp) (q : tree.Expr) (e f p : ℕ) (k : Line) (ts : Left) (r : Option (Spanned Rule)) (g : Spanned Rule) → r ≡ Some g → maybe_finding r ≡ assignment_fault l t o → first_lexeme ts.items ≢ Some comma → Answers d (has q e (listed tree.none f (right l t o p k))) ts (Broken (finding_of g) (length ts.items)) ts
right_broken l t o q e f p k ts r g w h n = broken ts (assigned l t o) (finding_of g) (right_met l t o q e f p k (first_lexeme ts.items) n) (sym h ∙ ap maybe_finding w)

-- what was assigned, by another name
pub assigned_as : {d : Dialect} {s : State} {ts us : Left} {v : tree.Statement} {k : Line} (w : tree.Statement) → Goes d s ts (behind_small v k) us → w ≡ v → Goes d s ts (behind_small w k) us
assigned_as {k = k} w g h = state_is g (ap (λ z. behind_small z k) (sym h))

-- the place where a statement begins, by another name
pub begins_at : {d : Dialect} {A : Type 0} {t : A → State} {r : Result A Error} {us : Left} (b : ℕ) (k : Line) (ts : Left) → b ≡ start ts.items → Comes d (wants 12 (spot (first b k))) t ts r us → Comes d (wants 12 (spot (first (start ts.items) k))) t ts r us
begins_at {d} {A} {t} {r} {us} b k ts h g = subst (λ z. Comes d (wants 12 (spot (first z k))) t ts r us) h g
