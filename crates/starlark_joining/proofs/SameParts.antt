-- Steps behind statements and their parts that are the same but for places.
use Rattle.std.proofs.Common.{ℕ, Option, Some, None}
use Rattle.starlark_lexer.specs.Items.{Lexeme, newline, keyword_in, comma, semicolon, colon, equal, closing_round}
use Rattle.starlark_ast.specs.declared.ast.AssignOp.{AssignOp}
use Rattle.starlark_ast.specs.Tree.{Expr, Members, Name, Sequence, Stars, Statement, Annotation, no_statements, add_statement, plain, starred, double_starred}
use Rattle.starlark_grammar.specs.Tables.{assigner}
use Rattle.starlark_grammar.specs.Frames.{Blocks, outer, inner, Ifs, Suites, Head, Rows, Line, Spots, Lists}
use Rattle.starlark_grammar.specs.Machine.{push, settled, close, end_row, end_small, end_param, begin_right, begin_default, accept, accept_list}
use Rattle.starlark_joining.specs.Same.{SameExpr, same_item, SameMembers, same_none, same_more, same_absent, same_present, SameAnnotation, same_untyped, SameName, same_value, SameStatement, same_return, same_expression, same_assign, same_either, same_repeat, same_define, same_add_statement}
use Rattle.starlark_joining.specs.Joined.{Greater}
use Rattle.starlark_joining.proofs.SameNodes.{stretch_same, type_same, named_same, target_same, block_same}
use Rattle.starlark_joining.proofs.SameFrames.{SameBlocks, b_outer, b_inner, SameIfs, i_if, i_elif, SameSuites, u_if, u_else, u_for, u_def, SameHead, d_head, SameRows, r_block, r_suite, SameLine, n_line, SameSpots, o_first, o_annotation, o_test, o_source, o_type, o_default, o_result, SameLists, o_left, o_right, o_returned, o_target, l_spot, SameEnd, e_outer, e_empty, e_inner, SameState, s_wants, s_list, s_next, s_line, s_for, s_if, s_suite, s_semicolon, s_param, s_result, SameStep, both_stop, both_go}

pub end_of_block : {R : ℕ → ℕ → Type 0} (k : Blocks) {e f : ℕ} → R e f → SameEnd R k e f
end_of_block (outer ss) r = e_outer
end_of_block (inner no_statements k) r = e_empty
end_of_block (inner (add_statement ss s) k) r = e_inner r

pub push_same : {R : ℕ → ℕ → Type 0} {base : Sequence} {k j : Blocks} {s r : Statement} → SameBlocks R base k j → SameStatement R s r → SameBlocks R base (push k s) (push j r)
push_same (b_outer q) s = b_outer (same_add_statement q s)
push_same (b_inner q k) s = b_inner (same_add_statement q s) k

pub settled_same : {R : ℕ → ℕ → Type 0} (z : Greater R) {base : Sequence} {k j : Ifs} {s r : Statement} {e f : ℕ} → SameIfs R base k j → SameStatement R s r → R e f → SameBlocks R base (settled k s e) (settled j r f)
settled_same z (i_if l) s e = push_same l s
settled_same z (i_elif q a m l) s e = settled_same z l (same_either q a s (stretch_same z m e)) e

pub close_same : {R : ℕ → ℕ → Type 0} (z : Greater R) {base : Sequence} {k j : Suites} {s r : Statement} {e f : ℕ} → SameSuites R base k j → SameStatement R s r → R e f → SameState R base (close k s e) (close j r f)
close_same z (u_if q m l) s e = s_if q s m e l
close_same z (u_else q a m l) s e = s_line (settled_same z l (same_either q a s (stretch_same z m e)) e) (end_of_block _ e)
close_same z (u_for l q m k) s e = s_for l (push_same k (same_repeat (target_same l) q s (stretch_same z m e))) e
close_same z (u_def (d_head m n k) ps t) s e = s_line (push_same k (same_define n ps t s (stretch_same z m e))) (end_of_block _ e)

pub row_same : {R : ℕ → ℕ → Type 0} (z : Greater R) {base : Sequence} {k j : Rows} {s r : Statement} {e f : ℕ} → SameRows R base k j → SameStatement R s r → R e f → SameState R base (end_row k s e) (end_row j r f)
row_same z (r_block l) s e = s_line (push_same l s) (end_of_block _ e)
row_same z (r_suite l) s e = close_same z l s e

pub small_same : {R : ℕ → ℕ → Type 0} (z : Greater R) {base : Sequence} {k j : Line} (x : Lexeme) {s r : Statement} {d e : ℕ} → SameLine R base k j → SameStatement R s r → R d e → SameStep R base (end_small k s x d) (end_small j r x e)
small_same z semicolon (n_line q l) s d = both_go (s_semicolon (n_line (same_add_statement q s) l))
small_same z newline (n_line q l) s d = both_go (row_same z l (block_same z (same_add_statement q s) d) d)
small_same z _ (n_line q l) s d = both_stop

pub param_same : {R : ℕ → ℕ → Type 0} {base : Sequence} {f g : Head} (x : Lexeme) {ps qs : Members} → SameHead R base f g → SameMembers R ps qs → SameStep R base (end_param f ps x) (end_param g qs x)
param_same comma l ps = both_go (s_param l ps)
param_same closing_round l ps = both_go (s_result l ps)
param_same _ l ps = both_stop

pub right_same : {R : ℕ → ℕ → Type 0} {base : Sequence} {k j : Line} (o : Option (Option AssignOp)) {l m : Expr} {t r : Annotation} {p q : ℕ} → SameExpr R l m → SameAnnotation R t r → R p q → SameLine R base k j → SameStep R base (begin_right o l t p k) (begin_right o m r q j)
right_same None l t p h = both_stop
right_same (Some o) l t p h = both_go (s_list (o_right l t p h))

pub default_same : {R : ℕ → ℕ → Type 0} {base : Sequence} {f g : Head} (y : Stars) {ps qs : Members} {n m : Name} {t r : Annotation} {p q : ℕ} → SameHead R base f g → SameMembers R ps qs → SameName R n m → SameAnnotation R t r → R p q → SameStep R base (begin_default f ps y n t p) (begin_default g qs y m r q)
default_same plain l ps n t p = both_go (s_wants (l_spot (o_default l ps n t p)))
default_same starred l ps n t p = both_stop
default_same double_starred l ps n t p = both_stop

pub accept_same : {R : ℕ → ℕ → Type 0} (z : Greater R) {base : Sequence} {k j : Spots} (x : Lexeme) {s u : ℕ} {r q : Expr} {e f : ℕ} → SameSpots R base k j → SameExpr R r q → R e f → R s u → SameStep R base (accept k r e x s) (accept j q f x u)
accept_same z comma (o_first m l) q e j = both_go (s_next (same_more same_none (same_item q)) m j (o_left m l))
accept_same z colon (o_first m l) q e j = both_go (s_wants (l_spot (o_annotation q m l)))
accept_same z semicolon (o_first m l) q e j = small_same z semicolon l (same_expression q (stretch_same z m e)) j
accept_same z newline (o_first m l) q e j = small_same z newline l (same_expression q (stretch_same z m e)) j
accept_same z x (o_first m l) q e j = right_same (assigner x) q same_untyped m l
accept_same z x (o_annotation l m h) q e j = right_same (assigner x) l (type_same q) m h
accept_same z colon (o_test m l) q e j = both_go (s_suite (u_if q m l))
accept_same z _ (o_test m l) q e j = both_stop
accept_same z colon (o_source l m k) q e j = both_go (s_suite (u_for l q m k))
accept_same z _ (o_source l m k) q e j = both_stop
accept_same z equal (o_type {y} l ps n m) q e j = default_same y l ps n (type_same q) m
accept_same z x (o_type {y} l ps n m) q e j = param_same x l (same_more ps (named_same y n (type_same q) same_absent (stretch_same z m e)))
accept_same z x (o_default l ps n t m) q e j = param_same x l (same_more ps (named_same plain n t (same_present q) (stretch_same z m e)))
accept_same z colon (o_result l ps) q e j = both_go (s_suite (u_def l ps (type_same q)))
accept_same z _ (o_result l ps) q e j = both_stop

pub accept_list_same : {R : ℕ → ℕ → Type 0} (z : Greater R) {base : Sequence} {k j : Lists} (x : Lexeme) {s u : ℕ} {r q : Expr} {e f : ℕ} → SameLists R base k j → SameExpr R r q → R e f → R s u → SameStep R base (accept_list k r e x s) (accept_list j q f x u)
accept_list_same z colon (o_left m l) q e j = both_go (s_wants (l_spot (o_annotation q m l)))
accept_list_same z x (o_left m l) q e j = right_same (assigner x) q same_untyped m l
accept_list_same z x (o_right l t m h) q e j = small_same z x h (same_assign (target_same l) t q (stretch_same z m e)) j
accept_list_same z x (o_returned m l) q e j = small_same z x l (same_return (same_value q) (stretch_same z m e)) j
accept_list_same z keyword_in (o_target m l) q e j = both_go (s_wants (l_spot (o_source q m l)))
accept_list_same z _ (o_target m l) q e j = both_stop
