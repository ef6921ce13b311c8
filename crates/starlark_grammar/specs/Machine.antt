-- The parser as a machine that reads a token at each step.
use Rattle.std.specs.Prelude.{ℕ, [], if◌then◌else◌, zero, suc, Option, Some, None, false, nat_eq}
use Rattle.starlark_rulebook.specs.Targets.{target_of}
use Rattle.starlark_grammar.specs.Spans.{stretch}
use Rattle.starlark_lexer.specs.Items.{Lexeme, newline, indent, dedent, identifier, string, keyword_break, keyword_continue, keyword_def, keyword_elif, keyword_else, keyword_for, keyword_if, keyword_in, keyword_load, keyword_pass, keyword_return, comma, semicolon, colon, equal, star, star_star, slash, minus_greater, opening_round, closing_round, Item}
use Rattle.starlark_ast.specs.declared.ast.AssignOp.{AssignOp}
use Rattle.starlark_ast.specs.Tree as tree
use Rattle.starlark_ast.specs.Tree.{Annotation, Expr, Members, Name, Stars, Statement, Symbol, Symbols, add_statement, add_symbol, assign, break, continue, define, double_starred, either, expression, load, name_at, no_statements, no_symbols, pass, plain, repeat, return, starred, symbol, when}
use Rattle.starlark_grammar.specs.Nodes.{block_of, leaf_at, named, targeted, type_at}
use Rattle.starlark_grammar.specs.Sorts.{sort, name_of}
use Rattle.starlark_grammar.specs.Tables.{Beginning, leaf, bracket, quoted, signed, lambda, beginning, sign_level, begins_at, Suffix, dotted, indexed, called, joined, negated, chosen, suffix, below, associates, grade, level_of, assigner}
use Rattle.starlark_grammar.specs.Points.{brackets, behind, before_body, an_argument, a_named, at_first, Frame, member, operand, behind_sign, condition, Point, member_wanted, bound_wanted, attribute_wanted, not_read, piece_wanted, Outcome, reach, want, made, After, becomes, goes_to, after, first_at, turn, opens}
use Rattle.starlark_grammar.specs.Frames.{Blocks, outer, inner, Ifs, at_if, at_elif, Suites, of_if, of_else, of_for, of_def, Head, head, Rows, at_block, at_suite, Line, line, Spots, first, annotation, test, source, param_type, param_default, result_type, Lists, left, right, returned, target, kind_listed, Frames, tail, inside, listed, spot, State, wants, has, stands, perhaps_named, wants_list, wants_next, at_line, behind_for, behind_if, wants_colon, wants_suite, wants_indent, behind_small, wants_small, behind_return, load_opens, load_module, load_named, load_symbol, load_equal, load_other, load_behind, def_name, def_opens, wants_param, behind_star, behind_stars, behind_name, behind_param, wants_result}

-- a statement more
abbrev pub push : Blocks → Statement → Blocks
push (outer ss) s = outer (add_statement ss s)
push (inner ss k) s = inner (add_statement ss s) k

-- the line behind an `if` or `elif` with that tree, whose last token ends at e
abbrev pub settled : Ifs → Statement → ℕ → Blocks
settled (at_if k) s e = push k s
settled (at_elif q r p k) s e = settled k (either q r s (stretch p e)) e

-- behind a suite whose last token ends at e
abbrev pub close : Suites → Statement → ℕ → State
close (of_if q p k) s e = behind_if q s p e k
close (of_else q r p k) s e = at_line (settled k (either q r s (stretch p e)) e) e
close (of_for l q p k) s e = behind_for l (push k (repeat (target_of l) q s (stretch p e))) e
close (of_def (head p n k) ps t) s e = at_line (push k (define n ps t s (stretch p e))) e

-- behind small statements and their line end, which ends at e
abbrev pub end_row : Rows → Statement → ℕ → State
end_row (at_block k) s e = at_line (push k s) e
end_row (at_suite k) s e = close k s e

-- the tails from a level on, so many
abbrev pub tails : ℕ → ℕ → Frames → Frames
tails zero n k = k
tails (suc c) n k = tail n (tails c (suc n) k)

-- behind a small statement
abbrev pub end_small : Line → Statement → Lexeme → ℕ → Option State
end_small (line done k) s semicolon j = Some (wants_small (line (add_statement done s) k))
end_small (line done k) s newline j = Some (end_row k (block_of (add_statement done s) j) j)
end_small (line done k) s _ j = None

abbrev pub go : Frames → Outcome → State
go k (reach p) = stands p k
go k (want n f) = wants n (inside f k)
go k (made q e) = has q e k

abbrev pub goes : Frames → Option Outcome → Option State
goes k None = None
goes k (Some o) = Some (go k o)

-- a suffix or an operator
abbrev pub enter : Suffix → tree.Expr → Frames → State
enter dotted q k = stands (attribute_wanted q) (tail 0 k)
enter indexed q k = stands (bound_wanted q at_first) (tail 0 k)
enter called q k = stands (member_wanted (behind q) tree.none false 0 0) (tail 0 k)
enter (joined o) q k = wants (below o) (inside (operand q o) (if associates (suc (below o)) then tail (suc (below o)) k else k))
enter negated q k = stands (not_read q) k
enter chosen q k = wants 11 (inside (condition q) k)

abbrev pub goes_on : Option Suffix → ℕ → tree.Expr → Frames → Option State → Option State
goes_on None n q k other = other
goes_on (Some s) n q k other = if nat_eq (grade s) n then Some (enter s q k) else other

-- an expression begins with a token from i to j
abbrev pub begun : Beginning → ℕ → ℕ → Frames → State
begun (leaf l) i j k = has (leaf_at l (stretch i j)) j (tail 0 k)
begun (bracket p) i j k = stands (member_wanted (brackets p i) tree.none false 0 0) (tail 0 k)
begun quoted i j k = stands (piece_wanted i [] tree.none) (tail 0 k)
begun (signed s) i j k = wants (sign_level s) (inside (behind_sign s i) (tail (sign_level s) k))
begun lambda i j k = stands (member_wanted (before_body i) tree.none false 0 0) k

-- an expression of that level does
abbrev pub begin : ℕ → Beginning → ℕ → ℕ → Frames → Option State
begin zero b i j k = if nat_eq (begins_at b) 0 then Some (begun b i j k) else None
begin (suc n) b i j k = if nat_eq (begins_at b) (suc n) then Some (begun b i j k) else begin n b i j (tail (suc n) k)

abbrev pub begin_with : Option Beginning → ℕ → ℕ → ℕ → Frames → Option State
begin_with None n i j k = None
begin_with (Some b) n i j k = begin n b i j k

-- a small statement begins
abbrev pub begin_small : Line → Lexeme → ℕ → ℕ → Option State
begin_small k keyword_return i j = Some (behind_return i j k)
begin_small k keyword_break i j = Some (behind_small (break (stretch i j)) k)
begin_small k keyword_continue i j = Some (behind_small (continue (stretch i j)) k)
begin_small k keyword_pass i j = Some (behind_small (pass (stretch i j)) k)
begin_small k keyword_load i j = Some (load_opens i k)
begin_small k x i j = begin_with (beginning x) 12 i j (spot (first i k))

-- a line begins, behind a token that ends at e
abbrev pub begin_line : Blocks → ℕ → Lexeme → ℕ → ℕ → Option State
begin_line k e newline i j = Some (at_line k j)
begin_line k e keyword_if i j = Some (wants 12 (spot (test i (at_if k))))
begin_line k e keyword_for i j = Some (wants_list (target i k))
begin_line k e keyword_def i j = Some (def_name i k)
begin_line (inner (add_statement ss s) k) e dedent i j = Some (close k (block_of (add_statement ss s) e) j)
begin_line k e x i j = begin_small (line no_statements (at_block k)) x i j

-- behind a parameter that is whole
abbrev pub end_param : Head → Members → Lexeme → Option State
end_param h ps comma = Some (wants_param h ps)
end_param h ps closing_round = Some (wants_result h ps)
end_param h ps _ = None

-- an operator that assigns, or none
abbrev pub begin_right : Option (Option AssignOp) → Expr → Annotation → ℕ → Line → Option State
begin_right None l t p k = None
begin_right (Some o) l t p k = Some (wants_list (right l t o p k))

-- the default of a plain parameter
abbrev pub begin_default : Head → Members → Stars → Name → Annotation → ℕ → Option State
begin_default h ps plain n t p = Some (wants 12 (spot (param_default h ps n t p)))
begin_default h ps _ n t p = None

-- an expression that ends at e was read in a statement, and the next token is x, which ends at j
abbrev pub accept : Spots → Expr → ℕ → Lexeme → ℕ → Option State
accept (first p k) q e comma j = Some (wants_next (tree.more tree.none (tree.item q)) p j (left p k))
accept (first p k) q e colon j = Some (wants 12 (spot (annotation q p k)))
accept (first p k) q e semicolon j = end_small k (expression q (stretch p e)) semicolon j
accept (first p k) q e newline j = end_small k (expression q (stretch p e)) newline j
accept (first p k) q e x j = begin_right (assigner x) q tree.untyped p k
accept (annotation l p k) t e x j = begin_right (assigner x) l (type_at t) p k
accept (test p k) q e colon j = Some (wants_suite (of_if q p k))
accept (test p k) q e _ j = None
accept (source l p k) q e colon j = Some (wants_suite (of_for l q p k))
accept (source l p k) q e _ j = None
accept (param_type h ps y n p) t e equal j = begin_default h ps y n (type_at t) p
accept (param_type h ps y n p) t e x j = end_param h (tree.more ps (named y n (type_at t) tree.absent (stretch p e))) x
accept (param_default h ps n t p) q e x j = end_param h (tree.more ps (named plain n t (tree.present q) (stretch p e))) x
accept (result_type h ps) t e colon j = Some (wants_suite (of_def h ps (type_at t)))
accept (result_type h ps) t e _ j = None

-- the same with a list of them
abbrev pub accept_list : Lists → Expr → ℕ → Lexeme → ℕ → Option State
accept_list (left p k) l e colon j = Some (wants 12 (spot (annotation l p k)))
accept_list (left p k) l e x j = begin_right (assigner x) l tree.untyped p k
accept_list (right l t o p k) q e x j = end_small k (assign (target_of l) t o q (stretch p e)) x j
accept_list (returned p k) q e x j = end_small k (return (Some q) (stretch p e)) x j
accept_list (target p k) l e keyword_in j = Some (wants 12 (spot (source l p k)))
accept_list (target p k) l e _ j = None

-- behind an expression in a frame
abbrev pub fed : After → (tree.Expr → Option State) → Frames → Lexeme → ℕ → ℕ → Option State
fed (becomes s) again k x i j = again s
fed (goes_to p) again k x i j = goes k (turn p x i j)

-- those so far and one more, without brackets
abbrev pub list_of : Members → Expr → ℕ → ℕ → Expr
list_of ms q p e = targeted (tree.more ms (tree.item q)) (stretch p e)

-- an expression that ends at e was read, and the next token is x, from i to j
abbrev pub feed : Frames → Expr → ℕ → Lexeme → ℕ → ℕ → Option State
feed (tail n k) q e x i j = goes_on (suffix x) n q k (feed k q e x i j)
feed (inside f k) q e x i j = fed (after f q e) (λ s. feed k s e x i j) k x i j
feed (listed ms p k) q e comma i j = Some (wants_next (tree.more ms (tree.item q)) p j k)
feed (listed ms p k) q e x i j = accept_list k (list_of ms q p e) e x j
feed (spot k) q e x i j = accept k q e x j

-- what may open there does
abbrev pub opened : Option (ℕ × Frame) → Lexeme → ℕ → ℕ → Frames → Option State
opened None x i j k = None
opened (Some o) x i j k = begin_with (beginning x) o.0 i j (inside o.1 k)

abbrev pub else_state : Option State → Option State → Option State
else_state None b = b
else_state (Some s) b = Some s

abbrev pub some_state : {A : Type 0} → Option A → (A → State) → Option State
some_state None f = None
some_state (Some a) f = Some (f a)

-- an identifier at the beginning of an argument
abbrev pub perhaps : Point → Lexeme → ℕ → ℕ → Frames → Option State
perhaps (member_wanted (behind q) ms t e f) x i j k = some_state (name_of x) (λ n. perhaps_named q ms (first_at ms f i) n i j k)
perhaps p x i j k = None

-- behind a load's symbol
abbrev pub end_symbol : ℕ → Name → Symbols → Symbol → Line → Lexeme → ℕ → ℕ → Option State
end_symbol p m ss s k comma i j = Some (load_symbol p m (add_symbol ss s (Some (stretch i j))) k)
end_symbol p m ss s k closing_round i j = Some (behind_small (load m (add_symbol ss s None) (stretch p j)) k)
end_symbol p m ss s k _ i j = None

abbrev pub move : State → Lexeme → ℕ → ℕ → Option State
move (wants n k) x i j = begin_with (beginning x) n i j k
move (has q e k) x i j = feed k q e x i j
move (stands p k) x i j = else_state (goes k (turn p x i j)) (else_state (perhaps p x i j k) (opened (opens p i) x i j k))
move (perhaps_named q ms f n g h k) x i j =
    if nat_eq (sort equal) (sort x) then Some (wants 12 (inside (member (behind q) ms f g (a_named n (stretch g h))) k))
    else feed (tails 13 0 (inside (member (behind q) ms f g an_argument) k)) (leaf_at (tree.name n) (stretch g h)) h x i j
move (wants_list k) x i j = begin_with (beginning x) (level_of (kind_listed k)) i j (listed tree.none i k)
move (wants_next ms p m k) x i j = begin_with (beginning x) (level_of (kind_listed k)) i j (listed ms p k)
move (at_line k e) x i j = begin_line k e x i j
move (behind_for l k e) x i j = begin_line k e x i j
move (behind_if q s p e k) keyword_else i j = Some (wants_colon (of_else q s p k))
move (behind_if q s p e k) keyword_elif i j = Some (wants 12 (spot (test i (at_elif q s p k))))
move (behind_if q s p e k) x i j = begin_line (settled k (when q s (stretch p e)) e) e x i j
move (wants_colon k) colon i j = Some (wants_suite k)
move (wants_colon k) _ i j = None
move (wants_suite k) newline i j = Some (wants_indent k)
move (wants_suite k) x i j = begin_small (line no_statements (at_suite k)) x i j
move (wants_indent k) newline i j = Some (wants_indent k)
move (wants_indent k) indent i j = Some (at_line (inner no_statements k) 0)
move (wants_indent k) _ i j = None
move (behind_small s k) x i j = end_small k s x j
move (wants_small (line done k)) newline i j = Some (end_row k (block_of done j) j)
move (wants_small k) x i j = begin_small k x i j
move (behind_return p e k) semicolon i j = end_small k (return None (stretch p e)) semicolon j
move (behind_return p e k) newline i j = end_small k (return None (stretch p e)) newline j
move (behind_return p e k) x i j = begin_with (beginning x) 12 i j (listed tree.none i (returned p k))
move (load_opens p k) opening_round i j = Some (load_module p k)
move (load_opens p k) _ i j = None
move (load_module p k) (string m) i j = Some (load_named p (name_at m (stretch i j)) k)
move (load_module p k) _ i j = None
move (load_named p m k) comma i j = Some (load_symbol p m no_symbols k)
move (load_named p m k) closing_round i j = Some (behind_small (load m no_symbols (stretch p j)) k)
move (load_named p m k) _ i j = None
move (load_symbol p m ss k) (string n) i j = Some (load_behind p m ss (symbol (name_at n (stretch i j)) (name_at n (stretch i j))) k)
move (load_symbol p m ss k) (identifier n) i j = Some (load_equal p m ss (name_at n (stretch i j)) k)
move (load_symbol p m ss k) closing_round i j = Some (behind_small (load m ss (stretch p j)) k)
move (load_symbol p m ss k) _ i j = None
move (load_equal p m ss n k) equal i j = Some (load_other p m ss n k)
move (load_equal p m ss n k) _ i j = None
move (load_other p m ss n k) (string o) i j = Some (load_behind p m ss (symbol n (name_at o (stretch i j))) k)
move (load_other p m ss n k) _ i j = None
move (load_behind p m ss s k) x i j = end_symbol p m ss s k x i j
move (def_name p k) (identifier n) i j = Some (def_opens (head p (name_at n (stretch i j)) k))
move (def_name p k) _ i j = None
move (def_opens h) opening_round i j = Some (wants_param h tree.none)
move (def_opens h) _ i j = None
move (wants_param h ps) closing_round i j = Some (wants_result h ps)
move (wants_param h ps) slash i j = Some (behind_param h (tree.more ps (tree.slash (stretch i j))))
move (wants_param h ps) star i j = Some (behind_star h ps i j)
move (wants_param h ps) star_star i j = Some (behind_stars h ps i)
move (wants_param h ps) (identifier n) i j = Some (behind_name h ps plain (name_at n (stretch i j)) i j)
move (wants_param h ps) _ i j = None
move (behind_star h ps p e) (identifier n) i j = Some (behind_name h ps starred (name_at n (stretch i j)) p j)
move (behind_star h ps p e) x i j = end_param h (tree.more ps (tree.no_args (stretch p e))) x
move (behind_stars h ps p) (identifier n) i j = Some (behind_name h ps double_starred (name_at n (stretch i j)) p j)
move (behind_stars h ps p) _ i j = None
move (behind_name h ps y n p e) colon i j = Some (wants 12 (spot (param_type h ps y n p)))
move (behind_name h ps y n p e) equal i j = begin_default h ps y n tree.untyped p
move (behind_name h ps y n p e) x i j = end_param h (tree.more ps (named y n tree.untyped tree.absent (stretch p e))) x
move (behind_param h ps) x i j = end_param h ps x
move (wants_result h ps) colon i j = Some (wants_suite (of_def h ps tree.untyped))
move (wants_result h ps) minus_greater i j = Some (wants 12 (spot (result_type h ps)))
move (wants_result h ps) _ i j = None

abbrev pub step : State → Item → Option State
step s x = move s x.lexeme x.begin x.end
