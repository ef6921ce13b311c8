-- A token behind an expression, and at a point where one may come, opens and closes what it tells.
use Rattle.std.proofs.Common.{ℕ, Option, Some, None, refl}
use Rattle.starlark_lexer.specs.Items.{Lexeme, newline, identifier, keyword_in, comma, semicolon, colon, equal, plus_equal, minus_equal, star_equal, slash_equal, slash_slash_equal, percent_equal, ampersand_equal, pipe_equal, caret_equal, less_less_equal, greater_greater_equal, closing_round}
use Rattle.starlark_ast.specs.Tree as tree
use Rattle.starlark_grammar.specs.Tables.{round, square, curly, suffix}
use Rattle.starlark_grammar.specs.Points.{brackets, behind, before_body, targets_in, member, key, bound, second, operand, behind_sign, condition, otherwise, body, over, filter, field, Point, member_wanted, member_read, key_read, bound_wanted, bound_read, second_read, condition_read, clauses_read, field_read, opens}
use Rattle.starlark_grammar.specs.Frames.{Spots, first, annotation, test, source, param_type, param_default, result_type, Lists, left, right, returned, target, Frames, tail, inside, listed, spot, State}
use Rattle.starlark_grammar.specs.Machine.{accept, accept_list, list_of, feed, opened, else_state, perhaps}
use Rattle.starlark_cutting.specs.Opened.{Nest, outside}
use Rattle.starlark_completion.specs.Shapes.{at_point, in_frames, spot_depth, in_spot, list_depth, frames_depth}
use Rattle.starlark_completion.specs.Moves.{Moves}
use Rattle.starlark_completion.proofs.MovingPoints.{turn_moves}
use Rattle.starlark_completion.proofs.MovingFrames.{with_moves, enter_moves, on_moves, small_moves, param_moves, default_moves}

-- behind an expression of a statement
accept_moves : (k : Spots) (q : tree.Expr) (e : ℕ) (x : Lexeme) (j : ℕ) → Moves (in_spot k) (spot_depth k) x (accept k q e x j)
accept_moves (first p k) q e comma j = (refl, refl, refl)
accept_moves (first p k) q e colon j = (refl, refl, refl)
accept_moves (first p k) q e semicolon j = small_moves k _ semicolon j
accept_moves (first p k) q e newline j = small_moves k _ newline j
accept_moves (first p k) q e equal j = (refl, refl, refl)
accept_moves (first p k) q e plus_equal j = (refl, refl, refl)
accept_moves (first p k) q e minus_equal j = (refl, refl, refl)
accept_moves (first p k) q e star_equal j = (refl, refl, refl)
accept_moves (first p k) q e slash_equal j = (refl, refl, refl)
accept_moves (first p k) q e slash_slash_equal j = (refl, refl, refl)
accept_moves (first p k) q e percent_equal j = (refl, refl, refl)
accept_moves (first p k) q e ampersand_equal j = (refl, refl, refl)
accept_moves (first p k) q e pipe_equal j = (refl, refl, refl)
accept_moves (first p k) q e caret_equal j = (refl, refl, refl)
accept_moves (first p k) q e less_less_equal j = (refl, refl, refl)
accept_moves (first p k) q e greater_greater_equal j = (refl, refl, refl)
accept_moves (first p k) q e _ j = tt
accept_moves (annotation l p k) q e equal j = (refl, refl, refl)
accept_moves (annotation l p k) q e plus_equal j = (refl, refl, refl)
accept_moves (annotation l p k) q e minus_equal j = (refl, refl, refl)
accept_moves (annotation l p k) q e star_equal j = (refl, refl, refl)
accept_moves (annotation l p k) q e slash_equal j = (refl, refl, refl)
accept_moves (annotation l p k) q e slash_slash_equal j = (refl, refl, refl)
accept_moves (annotation l p k) q e percent_equal j = (refl, refl, refl)
accept_moves (annotation l p k) q e ampersand_equal j = (refl, refl, refl)
accept_moves (annotation l p k) q e pipe_equal j = (refl, refl, refl)
accept_moves (annotation l p k) q e caret_equal j = (refl, refl, refl)
accept_moves (annotation l p k) q e less_less_equal j = (refl, refl, refl)
accept_moves (annotation l p k) q e greater_greater_equal j = (refl, refl, refl)
accept_moves (annotation l p k) q e _ j = tt
accept_moves (test p k) q e colon j = (refl, refl, refl)
accept_moves (test p k) q e _ j = tt
accept_moves (source l p k) q e colon j = (refl, refl, refl)
accept_moves (source l p k) q e _ j = tt
accept_moves (param_type h ps y n p) t e equal j = default_moves h ps y n _ p
accept_moves (param_type h ps y n p) t e comma j = (refl, refl, refl)
accept_moves (param_type h ps y n p) t e closing_round j = (refl, refl, refl)
accept_moves (param_type h ps y n p) t e _ j = tt
accept_moves (param_default h ps n t p) q e x j = param_moves h _ x
accept_moves (result_type h ps) t e colon j = (refl, refl, refl)
accept_moves (result_type h ps) t e _ j = tt

list_moves : (k : Lists) (l : tree.Expr) (e : ℕ) (x : Lexeme) (j : ℕ) → Moves (outside 0) (list_depth k) x (accept_list k l e x j)
list_moves (left p k) l e colon j = (refl, refl, refl)
list_moves (left p k) q e equal j = (refl, refl, refl)
list_moves (left p k) q e plus_equal j = (refl, refl, refl)
list_moves (left p k) q e minus_equal j = (refl, refl, refl)
list_moves (left p k) q e star_equal j = (refl, refl, refl)
list_moves (left p k) q e slash_equal j = (refl, refl, refl)
list_moves (left p k) q e slash_slash_equal j = (refl, refl, refl)
list_moves (left p k) q e percent_equal j = (refl, refl, refl)
list_moves (left p k) q e ampersand_equal j = (refl, refl, refl)
list_moves (left p k) q e pipe_equal j = (refl, refl, refl)
list_moves (left p k) q e caret_equal j = (refl, refl, refl)
list_moves (left p k) q e less_less_equal j = (refl, refl, refl)
list_moves (left p k) q e greater_greater_equal j = (refl, refl, refl)
list_moves (left p k) l e _ j = tt
list_moves (right l t o p k) q e x j = small_moves k _ x j
list_moves (returned p k) q e x j = small_moves k _ x j
list_moves (target p k) l e keyword_in j = (refl, refl, refl)
list_moves (target p k) l e _ j = tt

-- and of any construct
pub feed_moves : (k : Frames) (q : tree.Expr) (e : ℕ) (x : Lexeme) (i j : ℕ) → Moves (in_frames k) (frames_depth k) x (feed k q e x i j)
feed_moves (tail n k) q e x i j = on_moves (in_frames k) (frames_depth k) x (suffix x) n q k (feed k q e x i j) (enter_moves x q k) (feed_moves k q e x i j)
feed_moves (inside (member w ms f b part) k) q e x i j = turn_moves (member_read w _ e f) x i j k
feed_moves (inside (key b ms f g) k) q e x i j = turn_moves (key_read b ms f g q) x i j k
feed_moves (inside (bound l bs) k) q e x i j = turn_moves (bound_read l bs q) x i j k
feed_moves (inside (second l s) k) q e x i j = turn_moves (second_read l s q) x i j k
feed_moves (inside (operand l o) k) q e x i j = feed_moves k _ e x i j
feed_moves (inside (behind_sign s b) k) q e x i j = feed_moves k _ e x i j
feed_moves (inside (condition t) k) q e x i j = turn_moves (condition_read t q) x i j k
feed_moves (inside (otherwise t c) k) q e x i j = feed_moves k _ e x i j
feed_moves (inside (body ms b) k) q e x i j = feed_moves k _ e x i j
feed_moves (inside (over p b m cs t) k) q e x i j = turn_moves (clauses_read p b m _) x i j k
feed_moves (inside (filter p b m cs) k) q e x i j = turn_moves (clauses_read p b m _) x i j k
feed_moves (inside (field b f ms) k) q e x i j = turn_moves (field_read b f ms q) x i j k
feed_moves (listed ms p k) q e comma i j = (refl, refl, refl)
feed_moves (listed ms p k) q e x i j = list_moves k (list_of ms q p e) e x j
feed_moves (spot k) q e x i j = accept_moves k q e x j

-- at a point where an expression may come
pub opened_moves : (p : Point) (x : Lexeme) (i j : ℕ) (k : Frames) → Moves (at_point p (in_frames k)) (frames_depth k) x (opened (opens p i) x i j k)
opened_moves (member_wanted (brackets round b) ms t e f) x i j k = with_moves x 12 i j _
opened_moves (member_wanted (brackets square b) ms t e f) x i j k = with_moves x 12 i j _
opened_moves (member_wanted (brackets curly b) ms t e f) x i j k = with_moves x 12 i j _
opened_moves (member_wanted (behind q) ms t e f) x i j k = with_moves x 12 i j _
opened_moves (member_wanted (before_body b) ms t e f) x i j k = tt
opened_moves (member_wanted (targets_in p b m cs) ms t e f) x i j k = with_moves x 7 i j _
opened_moves (bound_wanted q bs) x i j k = with_moves x 12 i j (inside (bound q bs) k)
opened_moves _ x i j k = tt

pub perhaps_moves : (p : Point) (x : Lexeme) (i j : ℕ) (k : Frames) → Moves (at_point p (in_frames k)) (frames_depth k) x (perhaps p x i j k)
perhaps_moves (member_wanted (behind q) ms t e f) (identifier n) i j k = (refl, refl, refl)
perhaps_moves (member_wanted (behind q) ms t e f) _ i j k = tt
perhaps_moves (member_wanted (brackets p b) ms t e f) x i j k = tt
perhaps_moves (member_wanted (before_body b) ms t e f) x i j k = tt
perhaps_moves (member_wanted (targets_in p b m cs) ms t e f) x i j k = tt
perhaps_moves _ x i j k = tt

pub else_moves : (r : Nest) (d : ℕ) (x : Lexeme) (a c : Option State) → Moves r d x a → Moves r d x c → Moves r d x (else_state a c)
else_moves r d x None c g h = h
else_moves r d x (Some s) c g h = g
