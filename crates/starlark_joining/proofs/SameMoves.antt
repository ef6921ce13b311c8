-- The machine's steps at tokens and states that are the same but for places.
use Rattle.std.proofs.Common.{ℕ, nat_eq}
use Rattle.starlark_lexer.specs.Items.{Lexeme, newline, indent, dedent, identifier, string, keyword_break, keyword_continue, keyword_def, keyword_elif, keyword_else, keyword_for, keyword_if, keyword_load, keyword_pass, keyword_return, comma, semicolon, colon, equal, star, star_star, slash, minus_greater, opening_round, closing_round}
use Rattle.starlark_ast.specs.Tree.{Name, Sequence, Symbol, Symbols, no_statements}
use Rattle.starlark_grammar.specs.Sorts.{sort}
use Rattle.starlark_grammar.specs.Tables.{beginning}
use Rattle.starlark_grammar.specs.Frames.{Blocks, at_block, at_suite, Line, line, State}
use Rattle.starlark_grammar.specs.Machine.{begin_small, begin_line, end_symbol, move}
use Rattle.starlark_joining.specs.Same.{same_none, same_more, same_slash, same_no_args, same_absent, same_untyped, SameName, same_name, SameSymbol, same_symbol, no_comma, same_comma, SameSymbols, same_no_symbols, same_add_symbol, no_value, same_break, same_continue, same_pass, same_return, same_load, same_when, same_no_statements, same_add_statement}
use Rattle.starlark_joining.specs.Joined.{Greater}
use Rattle.starlark_joining.proofs.SameNodes.{stretch_same, leaf_same, named_same, block_same}
use Rattle.starlark_joining.proofs.SamePoints.{p_behind, k_argument, k_named, f_member}
use Rattle.starlark_joining.proofs.SameTurns.{turn_same, opens_same}
use Rattle.starlark_joining.proofs.SameFrames.{SameBlocks, b_outer, b_inner, i_if, i_elif, u_else, u_def, d_head, r_block, r_suite, SameLine, n_line, o_first, o_test, o_type, o_result, o_returned, o_target, l_inside, l_spot, SameEnd, e_empty, e_inner, SameState, s_wants, s_has, s_stands, s_named, s_list, s_next, s_line, s_for, s_if, s_colon, s_suite, s_indent, s_small, s_semicolon, s_return, s_load_opens, s_load_module, s_load_named, s_load_symbol, s_load_equal, s_load_other, s_load_behind, s_def_name, s_def_opens, s_param, s_star, s_stars, s_name, s_behind_param, s_result, SameStep, both_stop, both_go}
use Rattle.starlark_joining.proofs.SameParts.{end_of_block, settled_same, close_same, row_same, small_same, param_same, default_same}
use Rattle.starlark_joining.proofs.SameFeeds.{goes_same, choice, feed_same, with_same, opened_same, or_same, perhaps_same, tails_same, level_same}

begin_small_same : {R : ℕ → ℕ → Type 0} (z : Greater R) {base : Sequence} {k j : Line} (x : Lexeme) {i p s u : ℕ} → SameLine R base k j → R i s → R p u → SameStep R base (begin_small k x i p) (begin_small j x s u)
begin_small_same z keyword_return l i p = both_go (s_return i p l)
begin_small_same z keyword_break l i p = both_go (s_small (same_break (stretch_same z i p)) l)
begin_small_same z keyword_continue l i p = both_go (s_small (same_continue (stretch_same z i p)) l)
begin_small_same z keyword_pass l i p = both_go (s_small (same_pass (stretch_same z i p)) l)
begin_small_same z keyword_load l i p = both_go (s_load_opens i l)
begin_small_same z x l i p = with_same z (beginning x) 12 (l_spot (o_first i l)) i p

begin_line_same : {R : ℕ → ℕ → Type 0} (z : Greater R) {base : Sequence} {k j : Blocks} (x : Lexeme) {e f i p s u : ℕ} → SameBlocks R base k j → SameEnd R k e f → R i s → R p u → SameStep R base (begin_line k e x i p) (begin_line j f x s u)
begin_line_same z newline l e i p = both_go (s_line l (end_of_block _ p))
begin_line_same z keyword_if l e i p = both_go (s_wants (l_spot (o_test i (i_if l))))
begin_line_same z keyword_for l e i p = both_go (s_list (o_target i l))
begin_line_same z keyword_def l e i p = both_go (s_def_name i l)
begin_line_same z dedent (b_outer q) e i p = both_stop
begin_line_same z dedent (b_inner same_no_statements l) e i p = both_stop
begin_line_same z dedent (b_inner (same_add_statement q s) l) (e_inner e) i p = both_go (close_same z l (block_same z (same_add_statement q s) e) p)
begin_line_same z {k} {j} x l e i p = begin_small_same z {k = line no_statements (at_block k)} {j = line no_statements (at_block j)} x (n_line same_no_statements (r_block l)) i p

symbol_same : {R : ℕ → ℕ → Type 0} (z : Greater R) {base : Sequence} {k j : Line} (x : Lexeme) {m n : ℕ} {a b : Name} {ss rs : Symbols} {s r : Symbol} {i p o u : ℕ} → R m n → SameName R a b → SameSymbols R ss rs → SameSymbol R s r → SameLine R base k j → R i o → R p u → SameStep R base (end_symbol m a ss s k x i p) (end_symbol n b rs r j x o u)
symbol_same z comma m a ss s l i p = both_go (s_load_symbol m a (same_add_symbol ss s (same_comma (stretch_same z i p))) l)
symbol_same z closing_round m a ss s l i p = both_go (s_small (same_load a (same_add_symbol ss s no_comma) (stretch_same z m p)) l)
symbol_same z _ m a ss s l i p = both_stop

pub move_same : {R : ℕ → ℕ → Type 0} (z : Greater R) {base : Sequence} {a b : State} (x : Lexeme) {i p s u : ℕ} → SameState R base a b → R i s → R p u → SameStep R base (move a x i p) (move b x s u)
move_same z x (s_wants {n} l) i p = with_same z (beginning x) n l i p
move_same z x (s_has q e l) i p = feed_same z x q e l i p
move_same z x (s_stands t l) i p = or_same (goes_same l (turn_same z x t i p)) (or_same (perhaps_same x t l i p) (opened_same z x (opens_same t i) l i p))
move_same {R} z {base} x (s_named q m f g h l) i p = choice R base (nat_eq (sort equal) (sort x)) _ _ _ _ (both_go (s_wants (l_inside (f_member (p_behind q) m f g (k_named (stretch_same z g h))) l))) (feed_same z x (leaf_same _ (stretch_same z g h)) h (tails_same 13 0 (l_inside (f_member (p_behind q) m f g k_argument) l)) i p)
move_same {R} z {base} x (s_list l) i p = level_same R base (beginning x) z l same_none i i p
move_same {R} z {base} x (s_next m n e l) i p = level_same R base (beginning x) z l m n i p
move_same z x (s_line l e) i p = begin_line_same z x l e i p
move_same z x (s_for q l e) i p = begin_line_same z x l (end_of_block _ e) i p
move_same z keyword_else (s_if q s m e l) i p = both_go (s_colon (u_else q s m l))
move_same z keyword_elif (s_if q s m e l) i p = both_go (s_wants (l_spot (o_test i (i_elif q s m l))))
move_same z x (s_if q s m e l) i p = begin_line_same z x (settled_same z l (same_when q s (stretch_same z m e)) e) (end_of_block _ e) i p
move_same z colon (s_colon l) i p = both_go (s_suite l)
move_same z _ (s_colon l) i p = both_stop
move_same z newline (s_suite l) i p = both_go (s_indent l)
move_same z x (s_suite {k} {j} l) i p = begin_small_same z {k = line no_statements (at_suite k)} {j = line no_statements (at_suite j)} x (n_line same_no_statements (r_suite l)) i p
move_same z newline (s_indent l) i p = both_go (s_indent l)
move_same z indent (s_indent l) i p = both_go (s_line (b_inner same_no_statements l) e_empty)
move_same z _ (s_indent l) i p = both_stop
move_same z x (s_small s l) i p = small_same z x l s p
move_same z newline (s_semicolon (n_line q l)) i p = both_go (row_same z l (block_same z q p) p)
move_same z x (s_semicolon (n_line {ss} {rs} {k} {j} q l)) i p = begin_small_same z {k = line ss k} {j = line rs j} x (n_line q l) i p
move_same z semicolon (s_return m e l) i p = small_same z semicolon l (same_return no_value (stretch_same z m e)) p
move_same z newline (s_return m e l) i p = small_same z newline l (same_return no_value (stretch_same z m e)) p
move_same {R} z {base} x (s_return m e l) i p = level_same R base (beginning x) z (o_returned m l) same_none i i p
move_same z opening_round (s_load_opens m l) i p = both_go (s_load_module m l)
move_same z _ (s_load_opens m l) i p = both_stop
move_same z (string n) (s_load_module m l) i p = both_go (s_load_named m (same_name (stretch_same z i p)) l)
move_same z _ (s_load_module m l) i p = both_stop
move_same z comma (s_load_named m n l) i p = both_go (s_load_symbol m n same_no_symbols l)
move_same z closing_round (s_load_named m n l) i p = both_go (s_small (same_load n same_no_symbols (stretch_same z m p)) l)
move_same z _ (s_load_named m n l) i p = both_stop
move_same z (string n) (s_load_symbol m a ss l) i p = both_go (s_load_behind m a ss (same_symbol (same_name (stretch_same z i p)) (same_name (stretch_same z i p))) l)
move_same z (identifier n) (s_load_symbol m a ss l) i p = both_go (s_load_equal m a ss (same_name (stretch_same z i p)) l)
move_same z closing_round (s_load_symbol m a ss l) i p = both_go (s_small (same_load a ss (stretch_same z m p)) l)
move_same z _ (s_load_symbol m a ss l) i p = both_stop
move_same z equal (s_load_equal m a ss n l) i p = both_go (s_load_other m a ss n l)
move_same z _ (s_load_equal m a ss n l) i p = both_stop
move_same z (string o) (s_load_other m a ss n l) i p = both_go (s_load_behind m a ss (same_symbol n (same_name (stretch_same z i p))) l)
move_same z _ (s_load_other m a ss n l) i p = both_stop
move_same z x (s_load_behind m a ss s l) i p = symbol_same z x m a ss s l i p
move_same z (identifier n) (s_def_name m l) i p = both_go (s_def_opens (d_head m (same_name (stretch_same z i p)) l))
move_same z _ (s_def_name m l) i p = both_stop
move_same z opening_round (s_def_opens l) i p = both_go (s_param l same_none)
move_same z _ (s_def_opens l) i p = both_stop
move_same z closing_round (s_param l ps) i p = both_go (s_result l ps)
move_same z slash (s_param l ps) i p = both_go (s_behind_param l (same_more ps (same_slash (stretch_same z i p))))
move_same z star (s_param l ps) i p = both_go (s_star l ps i p)
move_same z star_star (s_param l ps) i p = both_go (s_stars l ps i)
move_same z (identifier n) (s_param l ps) i p = both_go (s_name l ps (same_name (stretch_same z i p)) i p)
move_same z _ (s_param l ps) i p = both_stop
move_same z (identifier n) (s_star l ps m e) i p = both_go (s_name l ps (same_name (stretch_same z i p)) m p)
move_same z x (s_star l ps m e) i p = param_same x l (same_more ps (same_no_args (stretch_same z m e)))
move_same z (identifier n) (s_stars l ps m) i p = both_go (s_name l ps (same_name (stretch_same z i p)) m p)
move_same z _ (s_stars l ps m) i p = both_stop
move_same z colon (s_name l ps n m e) i p = both_go (s_wants (l_spot (o_type l ps n m)))
move_same z equal (s_name {y} l ps n m e) i p = default_same y l ps n same_untyped m
move_same z x (s_name {y} l ps n m e) i p = param_same x l (same_more ps (named_same y n same_untyped same_absent (stretch_same z m e)))
move_same z x (s_behind_param l ps) i p = param_same x l ps
move_same z colon (s_result l ps) i p = both_go (s_suite (u_def l ps same_untyped))
move_same z minus_greater (s_result l ps) i p = both_go (s_wants (l_spot (o_result l ps)))
move_same z _ (s_result l ps) i p = both_stop
