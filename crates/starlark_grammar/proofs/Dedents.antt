-- No Dedent stands within an expression or within a small statement.
use Rattle.std.proofs.Common.{ℕ, ◌≡◌, ◌∙◌, Option, None, refl, ap}
use Rattle.starlark_lexer.specs.Items.{dedent}
use Rattle.starlark_ast.specs.Tree as tree
use Rattle.starlark_ast.specs.Tree.{Expr}
use Rattle.starlark_grammar.specs.Tables.{round, square, curly}
use Rattle.starlark_grammar.specs.Points.{Place, brackets, behind, before_body, targets_in, member, operand, behind_sign, otherwise, body, over, filter, Point, member_wanted, member_read, clauses_read, behind_member, turn, opens}
use Rattle.starlark_grammar.specs.Frames.{Line, line, Spots, first, annotation, test, source, param_type, param_default, result_type, Lists, left, right, returned, target, Frames, tail, inside, listed, spot, State}
use Rattle.starlark_grammar.specs.Machine.{accept, accept_list, feed, goes, end_small, opened, else_state, perhaps}

-- between two parts of an expression
behind_none : (w : Place) (ms : tree.Members) (e f j : ℕ) → behind_member w ms e f dedent j ≡ None
behind_none (brackets round b) ms e f j = refl
behind_none (brackets square b) ms e f j = refl
behind_none (brackets curly b) ms e f j = refl
behind_none (behind q) ms e f j = refl
behind_none (before_body b) ms e f j = refl
behind_none (targets_in p b m cs) ms e f j = refl

turn_none : (p : Point) (i j : ℕ) → turn p dedent i j ≡ None
turn_none (member_wanted (brackets round b) ms t e f) i j = refl
turn_none (member_wanted (brackets square b) ms t e f) i j = refl
turn_none (member_wanted (brackets curly b) ms t e f) i j = refl
turn_none (member_wanted (behind q) ms t e f) i j = refl
turn_none (member_wanted (before_body b) ms t e f) i j = refl
turn_none (member_wanted (targets_in p b m cs) ms t e f) i j = refl
turn_none (member_read w ms e f) i j = behind_none w ms e f j
turn_none (clauses_read round b m cs) i j = refl
turn_none (clauses_read square b m cs) i j = refl
turn_none (clauses_read curly b m cs) i j = refl
turn_none _ i j = refl

-- behind an expression, and behind a small statement
pub small_none : (k : Line) (s : tree.Statement) (j : ℕ) → end_small k s dedent j ≡ None
small_none (line done k) s j = refl

accept_none : (k : Spots) (q : Expr) (e j : ℕ) → accept k q e dedent j ≡ None
accept_none (first p k) q e j = refl
accept_none (annotation l p k) q e j = refl
accept_none (test p k) q e j = refl
accept_none (source l p k) q e j = refl
accept_none (param_type h ps y n p) q e j = refl
accept_none (param_default h ps n t p) q e j = refl
accept_none (result_type h ps) q e j = refl

list_none : (k : Lists) (q : Expr) (e j : ℕ) → accept_list k q e dedent j ≡ None
list_none (left p k) q e j = refl
list_none (right l t o p k) q e j = small_none k _ j
list_none (returned p k) q e j = small_none k _ j
list_none (target p k) q e j = refl

pub goes_none : (p : Point) (i j : ℕ) (k : Frames) → goes k (turn p dedent i j) ≡ None
goes_none p i j k = ap (goes k) (turn_none p i j)

pub feed_none : (k : Frames) (q : Expr) (e i j : ℕ) → feed k q e dedent i j ≡ None
feed_none (tail n k) q e i j = feed_none k q e i j
feed_none (inside (member w ms f b part) k) q e i j = goes_none (member_read w _ e f) i j k
feed_none (inside (operand l o) k) q e i j = feed_none k _ e i j
feed_none (inside (behind_sign s b) k) q e i j = feed_none k _ e i j
feed_none (inside (otherwise t c) k) q e i j = feed_none k _ e i j
feed_none (inside (body ms b) k) q e i j = feed_none k _ e i j
feed_none (inside (over p b m cs t) k) q e i j = goes_none (clauses_read p b m _) i j k
feed_none (inside (filter p b m cs) k) q e i j = goes_none (clauses_read p b m _) i j k
feed_none (inside _ k) q e i j = refl
feed_none (listed ms p k) q e i j = list_none k _ e j
feed_none (spot k) q e i j = accept_none k q e j

-- where an expression may begin
pub opened_none : (p : Point) (i j : ℕ) (k : Frames) → opened (opens p i) dedent i j k ≡ None
opened_none (member_wanted (brackets round b) ms t e f) i j k = refl
opened_none (member_wanted (brackets square b) ms t e f) i j k = refl
opened_none (member_wanted (brackets curly b) ms t e f) i j k = refl
opened_none (member_wanted (behind q) ms t e f) i j k = refl
opened_none (member_wanted (before_body b) ms t e f) i j k = refl
opened_none (member_wanted (targets_in p b m cs) ms t e f) i j k = refl
opened_none _ i j k = refl

pub perhaps_none : (p : Point) (i j : ℕ) (k : Frames) → perhaps p dedent i j k ≡ None
perhaps_none (member_wanted (brackets p b) ms t e f) i j k = refl
perhaps_none (member_wanted (behind q) ms t e f) i j k = refl
perhaps_none (member_wanted (before_body b) ms t e f) i j k = refl
perhaps_none (member_wanted (targets_in p b m cs) ms t e f) i j k = refl
perhaps_none _ i j k = refl

pub else_none : (a c : Option State) → a ≡ None → c ≡ None → else_state a c ≡ None
else_none a c g h = ap (λ o. else_state o c) g ∙ h
