-- Each token opens and closes what it tells, in each state of the machine.
use Rattle.std.proofs.Common.{ℕ, ◌≡◌, suc, Option, Some, nat_eq, cond, refl, ap, sym, subst}
use Rattle.starlark_lexer.specs.Items.{Lexeme, newline, indent, dedent, identifier, string, keyword_break, keyword_continue, keyword_def, keyword_elif, keyword_else, keyword_for, keyword_if, keyword_load, keyword_pass, keyword_return, comma, semicolon, colon, equal, star, star_star, slash, minus_greater, opening_round, closing_round}
use Rattle.starlark_ast.specs.Tree as tree
use Rattle.starlark_ast.specs.Tree.{Name, Symbol, Symbols, add_statement, no_statements, when}
use Rattle.starlark_grammar.specs.Spans.{stretch}
use Rattle.starlark_grammar.specs.Nodes.{leaf_at, named}
use Rattle.starlark_grammar.specs.Sorts.{sort}
use Rattle.starlark_grammar.specs.Tables.{level_of}
use Rattle.starlark_grammar.specs.Points.{behind, an_argument, a_named, member, turn, opens}
use Rattle.starlark_grammar.specs.Frames.{Blocks, outer, inner, at_block, at_suite, Line, line, first, returned, kind_listed, inside, listed, spot, State, wants, has, stands, perhaps_named, wants_list, wants_next, at_line, behind_for, behind_if, wants_colon, wants_suite, wants_indent, behind_small, wants_small, behind_return, load_opens, load_module, load_named, load_symbol, load_equal, load_other, load_behind, def_name, def_opens, wants_param, behind_star, behind_stars, behind_name, behind_param, wants_result}
use Rattle.starlark_grammar.specs.Machine.{settled, tails, goes, begin_small, begin_line, feed, opened, else_state, perhaps, end_symbol, move}
use Rattle.starlark_cutting.specs.Opened.{Nest, outside, deeper}
use Rattle.starlark_completion.specs.Shapes.{at_point, in_frames, block_depth, if_depth, line_depth, frames_depth, depth, nest}
use Rattle.starlark_completion.specs.Moves.{Moves}
use Rattle.starlark_completion.proofs.MovingPoints.{turn_moves}
use Rattle.starlark_completion.proofs.MovingFrames.{with_moves, settled_depth, close_nest, close_depth, close_stage, row_moves, small_moves, param_moves, default_moves}
use Rattle.starlark_completion.proofs.MovingSpots.{feed_moves, opened_moves, perhaps_moves, else_moves}

-- at `=`, and at others
equal_moves : (r : Nest) (d : ℕ) (x : Lexeme) (a c : Option State) → Moves r d equal a → Moves r d x c → Moves r d x (cond (nat_eq (sort equal) (sort x)) a c)
equal_moves r d equal a c g h = g
equal_moves r d _ a c g h = h

-- a small statement begins
begin_small_moves : (k : Line) (x : Lexeme) (i j : ℕ) → Moves (outside 0) (line_depth k) x (begin_small k x i j)
begin_small_moves k keyword_return i j = (refl, refl, refl)
begin_small_moves k keyword_break i j = (refl, refl, refl)
begin_small_moves k keyword_continue i j = (refl, refl, refl)
begin_small_moves k keyword_pass i j = (refl, refl, refl)
begin_small_moves k keyword_load i j = (refl, refl, refl)
begin_small_moves k x i j = with_moves x 12 i j (spot (first i k))

-- a line does
begin_line_moves : (k : Blocks) (e : ℕ) (x : Lexeme) (i j : ℕ) → Moves (outside 0) (block_depth k) x (begin_line k e x i j)
begin_line_moves (outer ss) e newline i j = (refl, refl, refl)
begin_line_moves (inner no_statements k) e newline i j = (refl, refl, refl)
begin_line_moves (inner (add_statement ss s) k) e newline i j = (refl, refl, refl)
begin_line_moves k e keyword_if i j = (refl, refl, refl)
begin_line_moves k e keyword_for i j = (refl, refl, refl)
begin_line_moves k e keyword_def i j = (refl, refl, refl)
begin_line_moves (outer ss) e dedent i j = tt
begin_line_moves (inner no_statements k) e dedent i j = tt
begin_line_moves (inner (add_statement ss s) k) e dedent i j = (close_nest k _ j, ap suc (sym (close_depth k _ j)), close_stage k _ j)
begin_line_moves k e x i j = begin_small_moves (line no_statements (at_block k)) x i j

-- behind an `if`
line_moves : (k : Blocks) (d e : ℕ) (x : Lexeme) (i j : ℕ) → block_depth k ≡ d → Moves (outside 0) d x (begin_line k e x i j)
line_moves k d e x i j q = subst (λ n. Moves (outside 0) n x (begin_line k e x i j)) q (begin_line_moves k e x i j)

symbol_moves : (p : ℕ) (m : Name) (ss : Symbols) (s : Symbol) (k : Line) (x : Lexeme) (i j : ℕ) → Moves (outside 1) (line_depth k) x (end_symbol p m ss s k x i j)
symbol_moves p m ss s k comma i j = (refl, refl, refl)
symbol_moves p m ss s k closing_round i j = (refl, refl, refl)
symbol_moves p m ss s k _ i j = tt

pub move_moves : (s : State) (x : Lexeme) (i j : ℕ) → Moves (nest s) (depth s) x (move s x i j)
move_moves (wants n k) x i j = with_moves x n i j k
move_moves (has q e k) x i j = feed_moves k q e x i j
move_moves (stands p k) x i j = else_moves (at_point p (in_frames k)) (frames_depth k) x (goes k (turn p x i j)) (else_state (perhaps p x i j k) (opened (opens p i) x i j k)) (turn_moves p x i j k) (else_moves (at_point p (in_frames k)) (frames_depth k) x (perhaps p x i j k) (opened (opens p i) x i j k) (perhaps_moves p x i j k) (opened_moves p x i j k))
move_moves (perhaps_named q ms f n g h k) x i j = equal_moves (deeper (in_frames k)) (frames_depth k) x (Some (wants 12 (inside (member (behind q) ms f g (a_named n (stretch g h))) k))) (feed (tails 13 0 (inside (member (behind q) ms f g an_argument) k)) (leaf_at (tree.name n) (stretch g h)) h x i j) (refl, refl, refl) (feed_moves (tails 13 0 (inside (member (behind q) ms f g an_argument) k)) (leaf_at (tree.name n) (stretch g h)) h x i j)
move_moves (wants_list k) x i j = with_moves x (level_of (kind_listed k)) i j (listed tree.none i k)
move_moves (wants_next ms p m k) x i j = with_moves x (level_of (kind_listed k)) i j (listed ms p k)
move_moves (at_line k e) x i j = begin_line_moves k e x i j
move_moves (behind_for l k e) x i j = begin_line_moves k e x i j
move_moves (behind_if q s p e k) keyword_else i j = (refl, refl, refl)
move_moves (behind_if q s p e k) keyword_elif i j = (refl, refl, refl)
move_moves (behind_if q s p e k) x i j = line_moves (settled k (when q s (stretch p e)) e) (if_depth k) e x i j (settled_depth k (when q s (stretch p e)) e)
move_moves (wants_colon k) colon i j = (refl, refl, refl)
move_moves (wants_colon k) _ i j = tt
move_moves (wants_suite k) newline i j = (refl, refl, refl)
move_moves (wants_suite k) x i j = begin_small_moves (line no_statements (at_suite k)) x i j
move_moves (wants_indent k) newline i j = (refl, refl, refl)
move_moves (wants_indent k) indent i j = (refl, refl, refl)
move_moves (wants_indent k) _ i j = tt
move_moves (behind_small s k) x i j = small_moves k s x j
move_moves (wants_small (line done k)) newline i j = row_moves k _ j
move_moves (wants_small (line done k)) x i j = begin_small_moves (line done k) x i j
move_moves (behind_return p e k) semicolon i j = small_moves k _ semicolon j
move_moves (behind_return p e k) newline i j = small_moves k _ newline j
move_moves (behind_return p e k) x i j = with_moves x 12 i j (listed tree.none i (returned p k))
move_moves (load_opens p k) opening_round i j = (refl, refl, refl)
move_moves (load_opens p k) _ i j = tt
move_moves (load_module p k) (string m) i j = (refl, refl, refl)
move_moves (load_module p k) _ i j = tt
move_moves (load_named p m k) comma i j = (refl, refl, refl)
move_moves (load_named p m k) closing_round i j = (refl, refl, refl)
move_moves (load_named p m k) _ i j = tt
move_moves (load_symbol p m ss k) (string n) i j = (refl, refl, refl)
move_moves (load_symbol p m ss k) (identifier n) i j = (refl, refl, refl)
move_moves (load_symbol p m ss k) closing_round i j = (refl, refl, refl)
move_moves (load_symbol p m ss k) _ i j = tt
move_moves (load_equal p m ss n k) equal i j = (refl, refl, refl)
move_moves (load_equal p m ss n k) _ i j = tt
move_moves (load_other p m ss n k) (string o) i j = (refl, refl, refl)
move_moves (load_other p m ss n k) _ i j = tt
move_moves (load_behind p m ss s k) x i j = symbol_moves p m ss s k x i j
move_moves (def_name p k) (identifier n) i j = (refl, refl, refl)
move_moves (def_name p k) _ i j = tt
move_moves (def_opens h) opening_round i j = (refl, refl, refl)
move_moves (def_opens h) _ i j = tt
move_moves (wants_param h ps) closing_round i j = (refl, refl, refl)
move_moves (wants_param h ps) slash i j = (refl, refl, refl)
move_moves (wants_param h ps) star i j = (refl, refl, refl)
move_moves (wants_param h ps) star_star i j = (refl, refl, refl)
move_moves (wants_param h ps) (identifier n) i j = (refl, refl, refl)
move_moves (wants_param h ps) _ i j = tt
move_moves (behind_star h ps p e) (identifier n) i j = (refl, refl, refl)
move_moves (behind_star h ps p e) x i j = param_moves h (tree.more ps (tree.no_args (stretch p e))) x
move_moves (behind_stars h ps p) (identifier n) i j = (refl, refl, refl)
move_moves (behind_stars h ps p) _ i j = tt
move_moves (behind_name h ps y n p e) colon i j = (refl, refl, refl)
move_moves (behind_name h ps y n p e) equal i j = default_moves h ps y n tree.untyped p
move_moves (behind_name h ps y n p e) x i j = param_moves h (tree.more ps (named y n tree.untyped tree.absent (stretch p e))) x
move_moves (behind_param h ps) x i j = param_moves h ps x
move_moves (wants_result h ps) colon i j = (refl, refl, refl)
move_moves (wants_result h ps) minus_greater i j = (refl, refl, refl)
move_moves (wants_result h ps) _ i j = tt
