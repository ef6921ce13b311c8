-- Where each place stands to itself, each tree is the same as itself.
use Rattle.std.proofs.Common.{ℕ, Option, Some, None}
use Rattle.starlark_place.specs.Place.{Extent}
use Rattle.starlark_ast.specs.Tree as t
use Rattle.starlark_ast.specs.Tree.{Expr, Member, Members, Bound, Annotation, Subscript, Clause, Clauses, Name, Symbol, Symbols, Statement, Sequence}
use Rattle.starlark_joining.specs.Same.{SameSpan, SameExpr, same_leaf, same_tuple, same_list, same_dict, same_comprehension, same_dot, same_index, same_call, same_lambda, same_signed, same_operation, same_choice, same_fstring, SameMember, same_item, same_pair, same_positional, same_named, same_args, same_kwargs, same_slash, same_no_args, same_parameter, SameMembers, same_none, same_more, SameBound, same_absent, same_present, SameAnnotation, same_untyped, same_typed, SameSubscript, same_single, same_double, same_slice, SameClause, same_for_clause, same_if_clause, SameClauses, same_no_clauses, same_and_clause, SameName, same_name, SameSymbol, same_symbol, SameComma, no_comma, same_comma, SameSymbols, same_no_symbols, same_add_symbol, SameValue, no_value, same_value, SameStatement, same_break, same_continue, same_pass, same_return, same_load, same_expression, same_assign, same_when, same_either, same_repeat, same_define, same_block, SameSequence, same_no_statements, same_add_statement}

pub same_span_self : {R : ℕ → ℕ → Type 0} → ((n : ℕ) → R n n) → (s : Extent) → SameSpan R s s
same_span_self h s = record { begins = h s.begin; ends = h s.end }

mutual
  pub same_expr_self : {R : ℕ → ℕ → Type 0} → ((n : ℕ) → R n n) → (x : Expr) → SameExpr R x x
  same_expr_self h (t.leaf l u s) = same_leaf (same_span_self h u) (same_span_self h s)
  same_expr_self h (t.tuple ms s) = same_tuple (same_members_self h ms) (same_span_self h s)
  same_expr_self h (t.list ms s) = same_list (same_members_self h ms) (same_span_self h s)
  same_expr_self h (t.dict ms s) = same_dict (same_members_self h ms) (same_span_self h s)
  same_expr_self h (t.comprehension m cs s) = same_comprehension (same_member_self h m) (same_clauses_self h cs) (same_span_self h s)
  same_expr_self h (t.dot x n u s) = same_dot (same_expr_self h x) (same_span_self h u) (same_span_self h s)
  same_expr_self h (t.index x b s) = same_index (same_expr_self h x) (same_subscript_self h b) (same_span_self h s)
  same_expr_self h (t.call x ms s) = same_call (same_expr_self h x) (same_members_self h ms) (same_span_self h s)
  same_expr_self h (t.lambda ms x s) = same_lambda (same_members_self h ms) (same_expr_self h x) (same_span_self h s)
  same_expr_self h (t.signed o x s) = same_signed (same_expr_self h x) (same_span_self h s)
  same_expr_self h (t.operation x o y s) = same_operation (same_expr_self h x) (same_expr_self h y) (same_span_self h s)
  same_expr_self h (t.choice a x y s) = same_choice (same_expr_self h a) (same_expr_self h x) (same_expr_self h y) (same_span_self h s)
  same_expr_self h (t.fstring f u ms v s) = same_fstring (same_span_self h u) (same_members_self h ms) (same_span_self h v) (same_span_self h s)

  pub same_member_self : {R : ℕ → ℕ → Type 0} → ((n : ℕ) → R n n) → (m : Member) → SameMember R m m
  same_member_self h (t.item x) = same_item (same_expr_self h x)
  same_member_self h (t.pair x y) = same_pair (same_expr_self h x) (same_expr_self h y)
  same_member_self h (t.positional x s) = same_positional (same_expr_self h x) (same_span_self h s)
  same_member_self h (t.named n u x s) = same_named (same_span_self h u) (same_expr_self h x) (same_span_self h s)
  same_member_self h (t.args x s) = same_args (same_expr_self h x) (same_span_self h s)
  same_member_self h (t.kwargs x s) = same_kwargs (same_expr_self h x) (same_span_self h s)
  same_member_self h (t.slash s) = same_slash (same_span_self h s)
  same_member_self h (t.no_args s) = same_no_args (same_span_self h s)
  same_member_self h (t.parameter k n u a b s) = same_parameter (same_span_self h u) (same_annotation_self h a) (same_bound_self h b) (same_span_self h s)

  pub same_members_self : {R : ℕ → ℕ → Type 0} → ((n : ℕ) → R n n) → (ms : Members) → SameMembers R ms ms
  same_members_self h t.none = same_none
  same_members_self h (t.more ms m) = same_more (same_members_self h ms) (same_member_self h m)

  pub same_bound_self : {R : ℕ → ℕ → Type 0} → ((n : ℕ) → R n n) → (b : Bound) → SameBound R b b
  same_bound_self h t.absent = same_absent
  same_bound_self h (t.present x) = same_present (same_expr_self h x)

  pub same_annotation_self : {R : ℕ → ℕ → Type 0} → ((n : ℕ) → R n n) → (a : Annotation) → SameAnnotation R a a
  same_annotation_self h t.untyped = same_untyped
  same_annotation_self h (t.typed x s) = same_typed (same_expr_self h x) (same_span_self h s)

  pub same_subscript_self : {R : ℕ → ℕ → Type 0} → ((n : ℕ) → R n n) → (b : Subscript) → SameSubscript R b b
  same_subscript_self h (t.single x) = same_single (same_expr_self h x)
  same_subscript_self h (t.double x y) = same_double (same_expr_self h x) (same_expr_self h y)
  same_subscript_self h (t.slice a b c) = same_slice (same_bound_self h a) (same_bound_self h b) (same_bound_self h c)

  pub same_clause_self : {R : ℕ → ℕ → Type 0} → ((n : ℕ) → R n n) → (c : Clause) → SameClause R c c
  same_clause_self h (t.for_clause x y) = same_for_clause (same_expr_self h x) (same_expr_self h y)
  same_clause_self h (t.if_clause x) = same_if_clause (same_expr_self h x)

  pub same_clauses_self : {R : ℕ → ℕ → Type 0} → ((n : ℕ) → R n n) → (cs : Clauses) → SameClauses R cs cs
  same_clauses_self h t.no_clauses = same_no_clauses
  same_clauses_self h (t.and_clause cs c) = same_and_clause (same_clauses_self h cs) (same_clause_self h c)

pub same_name_self : {R : ℕ → ℕ → Type 0} → ((n : ℕ) → R n n) → (n : Name) → SameName R n n
same_name_self h (t.name_at n s) = same_name (same_span_self h s)

pub same_symbol_self : {R : ℕ → ℕ → Type 0} → ((n : ℕ) → R n n) → (s : Symbol) → SameSymbol R s s
same_symbol_self h (t.symbol a b) = same_symbol (same_name_self h a) (same_name_self h b)

pub same_comma_self : {R : ℕ → ℕ → Type 0} → ((n : ℕ) → R n n) → (o : Option Extent) → SameComma R o o
same_comma_self h None = no_comma
same_comma_self h (Some s) = same_comma (same_span_self h s)

pub same_symbols_self : {R : ℕ → ℕ → Type 0} → ((n : ℕ) → R n n) → (ss : Symbols) → SameSymbols R ss ss
same_symbols_self h t.no_symbols = same_no_symbols
same_symbols_self h (t.add_symbol ss s o) = same_add_symbol (same_symbols_self h ss) (same_symbol_self h s) (same_comma_self h o)

pub same_value_self : {R : ℕ → ℕ → Type 0} → ((n : ℕ) → R n n) → (x : Option Expr) → SameValue R x x
same_value_self h None = no_value
same_value_self h (Some x) = same_value (same_expr_self h x)

mutual
  pub same_statement_self : {R : ℕ → ℕ → Type 0} → ((n : ℕ) → R n n) → (a : Statement) → SameStatement R a a
  same_statement_self h (t.break s) = same_break (same_span_self h s)
  same_statement_self h (t.continue s) = same_continue (same_span_self h s)
  same_statement_self h (t.pass s) = same_pass (same_span_self h s)
  same_statement_self h (t.return x s) = same_return (same_value_self h x) (same_span_self h s)
  same_statement_self h (t.load m ss s) = same_load (same_name_self h m) (same_symbols_self h ss) (same_span_self h s)
  same_statement_self h (t.expression x s) = same_expression (same_expr_self h x) (same_span_self h s)
  same_statement_self h (t.assign x a o y s) = same_assign (same_expr_self h x) (same_annotation_self h a) (same_expr_self h y) (same_span_self h s)
  same_statement_self h (t.when x a s) = same_when (same_expr_self h x) (same_statement_self h a) (same_span_self h s)
  same_statement_self h (t.either x a b s) = same_either (same_expr_self h x) (same_statement_self h a) (same_statement_self h b) (same_span_self h s)
  same_statement_self h (t.repeat x y a s) = same_repeat (same_expr_self h x) (same_expr_self h y) (same_statement_self h a) (same_span_self h s)
  same_statement_self h (t.define n ps a b s) = same_define (same_name_self h n) (same_members_self h ps) (same_annotation_self h a) (same_statement_self h b) (same_span_self h s)
  same_statement_self h (t.block ss s) = same_block (same_sequence_self h ss) (same_span_self h s)

  pub same_sequence_self : {R : ℕ → ℕ → Type 0} → ((n : ℕ) → R n n) → (ss : Sequence) → SameSequence R ss ss
  same_sequence_self h t.no_statements = same_no_statements
  same_sequence_self h (t.add_statement ss a) = same_add_statement (same_sequence_self h ss) (same_statement_self h a)
