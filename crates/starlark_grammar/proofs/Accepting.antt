-- The next token behind a part of a statement.
use Rattle.std.proofs.Common.{ℕ, ◌≡◌, ◌∷◌, List, Option, Some, None, refl}
use Rattle.starlark_lexer.specs.Items.{Lexeme, newline, keyword_in, comma, semicolon, colon, equal, closing_round, Item, item}
use Rattle.starlark_ast.specs.declared.ast.AssignOp.{AssignOp}
use Rattle.starlark_ast.specs.Tree as tree
use Rattle.starlark_ast.specs.Tree.{Expr, Member, Members, Statement}
use Rattle.starlark_grammar.specs.Nodes.{start, type_at}
use Rattle.starlark_grammar.specs.Tables.{loose, level_of, assigner}
use Rattle.starlark_grammar.specs.Expressions as g
use Rattle.starlark_grammar.specs.Expressions.{Level, Listing, listing}
use Rattle.starlark_grammar.specs.Simple.{Small, returns_it, evaluates, assigns, annotates, one_small, next_small, Simple, row}
use Rattle.starlark_grammar.specs.Parameters.{by_itself, named_behind_star, named_behind_stars, Parameter, a_type, a_default, a_type_default, SomeParams, next_param, without_last_comma, a_result}
use Rattle.starlark_grammar.specs.Grammar.{Stmt, simple, branches, loops, defines, Tail, or_else, or_if, Suite, same_line, next_stmt}
use Rattle.starlark_grammar.specs.Frames.{Blocks, Ifs, Suites, Head, Rows, Line, Spots, Lists, left, kind_listed}
use Rattle.starlark_grammar.specs.Machine.{push, settled, close, end_row, end_small, end_param, begin_right, accept, accept_list, list_of}
use Rattle.starlark_grammar.proofs.Reached.{comma_behind, one_more}
use Rattle.starlark_grammar.proofs.Waiting.{WaitsLine, w_outer, w_inner, WaitsIf, w_if, w_elif, WaitsSuite, w_then, w_else, w_for, w_def, WaitsDef, w_head, WaitsRow, w_block, w_suite, WaitsSmall, w_first, w_next, WaitsAt, w_small, w_annotation, w_test, w_source, w_type, w_default, w_type_default, w_result, WaitsList, w_right, w_typed_right, w_return, w_target, WaitsNext, w_list, w_left, w_spot, Holds, h_wants, h_list, h_next, h_line, h_for, h_if, h_suite, h_semicolon, h_param, h_result, Held, holds_none, holds}

-- a statement, an `if`, a suite
pub push_holds : {T a b : List Item} {k : Blocks} {s : Statement} {d e : ℕ} → WaitsLine T k a d → Stmt a b s e → WaitsLine T (push k s) b e
push_holds (w_outer ds) d = w_outer (next_stmt ds d)
push_holds (w_inner w l ds) d = w_inner w l (next_stmt ds d)

pub settled_holds : {T a b : List Item} {k : Ifs} {p : ℕ} {s : Statement} {e : ℕ} → WaitsIf T k p a → Tail p a b s e → WaitsLine T (settled k s e) b e
settled_holds (w_if w) t = push_holds w (branches t)
settled_holds (w_elif w q s) t = settled_holds w (or_if q s t)

pub close_holds : {T a b : List Item} {k : Suites} {s : Statement} {e : ℕ} → WaitsSuite T k a → Suite a b s e → Holds T (close k s e) b
close_holds (w_then w q) s = h_if w q s
close_holds (w_else w q s) r = h_line (settled_holds w (or_else q s r))
close_holds (w_for w l q) s = h_for (push_holds w (loops l q s))
close_holds (w_def (w_head w) ps t) s = h_line (push_holds w (defines ps t s))

pub end_row_holds : {T a b : List Item} {k : Rows} {s : Statement} {e : ℕ} → WaitsRow T k a → Simple a b s e → Holds T (end_row k s e) b
end_row_holds (w_block w) d = h_line (push_holds w (simple d))
end_row_holds (w_suite w) d = close_holds w (same_line d)

-- behind a small statement
pub end_small_holds : {T a xs : List Item} {k : Line} {s : Statement} {e i j : ℕ} (x : Lexeme) → WaitsSmall T k a → Small a (item i x j ∷ xs) s e → Held T xs (end_small k s x j)
end_small_holds semicolon (w_first w) d = holds (h_semicolon w (one_small d))
end_small_holds semicolon (w_next w ds) d = holds (h_semicolon w (next_small ds d))
end_small_holds newline (w_first w) d = holds (end_row_holds w (row (one_small d)))
end_small_holds newline (w_next w ds) d = holds (end_row_holds w (row (next_small ds d)))
end_small_holds _ (w_first w) d = holds_none
end_small_holds _ (w_next w ds) d = holds_none

-- behind a parameter
pub param_holds : {T a b xs : List Item} {f : Head} {ps : Members} {p : Member} {i j : ℕ} (x : Lexeme) → WaitsDef T f a → SomeParams a b ps → Parameter b (item i x j ∷ xs) p → Held T xs (end_param f (tree.more ps p) x)
param_holds comma w ps p = holds (h_param w (next_param ps p))
param_holds closing_round w ps p = holds (h_result w (without_last_comma ps p))
param_holds _ w ps p = holds_none

-- an operator that assigns
pub right_holds : {T a xs : List Item} {k : Line} {l : Expr} {d i j : ℕ} (x : Lexeme) (o : Option (Option AssignOp)) → assigner x ≡ o → WaitsSmall T k a → Listing loose a (item i x j ∷ xs) l d → Held T xs (begin_right o l tree.untyped (start a) k)
right_holds x None q w d = holds_none
right_holds x (Some o) q w d = holds (h_list (w_right w d q))

pub typed_right_holds : {T a b xs : List Item} {k : Line} {l t : Expr} {d e g h i j : ℕ} (x : Lexeme) (o : Option (Option AssignOp)) → assigner x ≡ o → WaitsSmall T k a → Listing loose a (item g colon h ∷ b) l d → Level 12 b (item i x j ∷ xs) t e → Held T xs (begin_right o l (type_at t) (start a) k)
typed_right_holds x None q w d f = holds_none
typed_right_holds x (Some o) q w d f = holds (h_list (w_typed_right w d f q))

-- behind an expression of a statement
pub accept_holds : {T a xs : List Item} {k : Spots} {n e i j : ℕ} {q : Expr} (x : Lexeme) → WaitsAt T k n a → Level n a (item i x j ∷ xs) q e → Held T xs (accept k q e x j)
accept_holds comma (w_small w) d = holds (h_next (w_left w (g.one (g.loose_test d))))
accept_holds colon (w_small w) d = holds (h_wants (w_spot (w_annotation w (listing (g.one (g.loose_test d))))))
accept_holds semicolon (w_small w) d = end_small_holds semicolon w (evaluates d)
accept_holds newline (w_small w) d = end_small_holds newline w (evaluates d)
accept_holds x (w_small w) d = right_holds x (assigner x) refl w (listing (g.one (g.loose_test d)))
accept_holds x (w_annotation w l) d = typed_right_holds x (assigner x) refl w l d
accept_holds colon (w_test w) d = holds (h_suite (w_then w d))
accept_holds _ (w_test w) d = holds_none
accept_holds colon (w_source w l) d = holds (h_suite (w_for w l d))
accept_holds _ (w_source w l) d = holds_none
accept_holds equal (w_type w ps by_itself) d = holds (h_wants (w_spot (w_type_default w ps by_itself d)))
accept_holds equal (w_type w ps named_behind_star) d = holds_none
accept_holds equal (w_type w ps named_behind_stars) d = holds_none
accept_holds x (w_type w ps n) d = param_holds x w ps (a_type n d)
accept_holds x (w_default w ps n) d = param_holds x w ps (a_default n d)
accept_holds x (w_type_default w ps n t) d = param_holds x w ps (a_type_default n t d)
accept_holds colon (w_result w ps) d = holds (h_suite (w_def w ps (a_result d)))
accept_holds _ (w_result w ps) d = holds_none

pub list_holds : {T a xs : List Item} {k : Lists} {e i j : ℕ} {q : Expr} (x : Lexeme) → WaitsList T k a → Listing (kind_listed k) a (item i x j ∷ xs) q e → Held T xs (accept_list k q e x j)
list_holds x (w_right w l q) d = end_small_holds x w (assigns l q d)
list_holds x (w_typed_right w l t q) d = end_small_holds x w (annotates l t q d)
list_holds x (w_return w) d = end_small_holds x w (returns_it d)
list_holds keyword_in (w_target w) d = holds (h_wants (w_spot (w_source w d)))
list_holds _ (w_target w) d = holds_none

pub left_holds : {T a xs : List Item} {k : Line} {e i j : ℕ} {q : Expr} (x : Lexeme) → WaitsSmall T k a → Listing loose a (item i x j ∷ xs) q e → Held T xs (accept_list (left (start a) k) q e x j)
left_holds colon w d = holds (h_wants (w_spot (w_annotation w d)))
left_holds x w d = right_holds x (assigner x) refl w d

-- one more of a list without brackets
pub list_member : {T a c d : List Item} {k : Lists} {e : ℕ} {q : Expr} → WaitsList T k a → Level (level_of (kind_listed k)) c d q e → g.Member (kind_listed k) c d (tree.item q) e
list_member (w_right w l q) d = g.loose_test d
list_member (w_typed_right w l t q) d = g.loose_test d
list_member (w_return w) d = g.loose_test d
list_member (w_target w) d = g.target d

pub next_comma : {T a c d : List Item} {k : Lists} {ms : Members} {i j e : ℕ} {q : Expr} → WaitsNext T k a c ms → Level (level_of (kind_listed k)) c (item i comma j ∷ d) q e → WaitsNext T k a d (tree.more ms (tree.item q))
next_comma (w_list w ms) d = w_list w (comma_behind (one_more ms (list_member w d)) refl)
next_comma (w_left w ms) d = w_left w (g.next ms (g.loose_test d))

pub next_holds : {T a c xs : List Item} {k : Lists} {ms : Members} {i j e : ℕ} {q : Expr} (x : Lexeme) → WaitsNext T k a c ms → Level (level_of (kind_listed k)) c (item i x j ∷ xs) q e → Held T xs (accept_list k (list_of ms q (start a) e) e x j)
next_holds x (w_list w ms) d = list_holds x w (listing (one_more ms (list_member w d)))
next_holds x (w_left w ms) d = left_holds x w (listing (g.next ms (g.loose_test d)))
