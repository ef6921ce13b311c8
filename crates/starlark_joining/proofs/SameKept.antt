-- The rules that are kept until the end do not depend on places.
use Rattle.std.proofs.Common.{ℕ, Option}
use Rattle.starlark_lexer.specs.declared.dialect.Dialect.{Dialect}
use Rattle.starlark_ast.specs.Tree.{Expr, Member, Members, Bound, Annotation, Subscript, Clauses, Statement, Sequence}
use Rattle.starlark_rulebook.specs.Kept.{kept_expr, kept_member, kept_members, kept_bound, kept_annotation, kept_subscript, kept_clauses, kept_some, kept_rules, kept_sequence}
use Rattle.starlark_joining.specs.Same.{SameExpr, same_leaf, same_tuple, same_list, same_dict, same_comprehension, same_dot, same_index, same_call, same_lambda, same_signed, same_operation, same_choice, same_fstring, SameMember, same_item, same_pair, same_positional, same_named, same_args, same_kwargs, same_slash, same_no_args, same_parameter, SameMembers, same_none, same_more, SameBound, same_absent, same_present, SameAnnotation, same_untyped, same_typed, SameSubscript, same_single, same_double, same_slice, same_for_clause, same_if_clause, SameClauses, same_no_clauses, same_and_clause, same_name, same_no_symbols, same_add_symbol, SameValue, no_value, same_value, SameStatement, same_break, same_continue, same_pass, same_return, same_load, same_expression, same_assign, same_when, same_either, same_repeat, same_define, same_block, SameSequence, same_no_statements, same_add_statement}
use Rattle.starlark_joining.proofs.LikeFindings.{truth_self, both_none, both_some, found_choice, LikeFindings, no_findings, and_finding, like_both, like_three, like_listed}
use Rattle.starlark_joining.proofs.SameArguments.{call_same}

module _ {R : ℕ → ℕ → Type 0} (d : Dialect) where
  mutual
    kept_expr_same : {x y : Expr} → SameExpr R x y → LikeFindings (kept_expr d x) (kept_expr d y)
    kept_expr_same (same_leaf u s) = no_findings
    kept_expr_same (same_tuple m s) = kept_members_same m
    kept_expr_same (same_list m s) = kept_members_same m
    kept_expr_same (same_dict m s) = kept_members_same m
    kept_expr_same (same_comprehension m c s) = like_both (kept_member_same m) (kept_clauses_same c)
    kept_expr_same (same_dot x u s) = kept_expr_same x
    kept_expr_same (same_index x b s) = like_both (kept_expr_same x) (kept_subscript_same b)
    kept_expr_same (same_call x m s) = like_three (kept_expr_same x) (kept_members_same m) (like_listed (call_same m))
    kept_expr_same (same_lambda m x s) = like_both (kept_members_same m) (kept_expr_same x)
    kept_expr_same (same_signed x s) = kept_expr_same x
    kept_expr_same (same_operation x y s) = like_both (kept_expr_same x) (kept_expr_same y)
    kept_expr_same (same_choice x y z s) = like_three (kept_expr_same y) (kept_expr_same x) (kept_expr_same z)
    kept_expr_same (same_fstring u m v s) = like_both (kept_members_same m) (like_listed (found_choice (truth_self d.enable_f_strings) both_none both_some))

    kept_member_same : {m n : Member} → SameMember R m n → LikeFindings (kept_member d m) (kept_member d n)
    kept_member_same (same_item x) = kept_expr_same x
    kept_member_same (same_pair x y) = like_both (kept_expr_same x) (kept_expr_same y)
    kept_member_same (same_positional x s) = kept_expr_same x
    kept_member_same (same_named u x s) = kept_expr_same x
    kept_member_same (same_args x s) = kept_expr_same x
    kept_member_same (same_kwargs x s) = kept_expr_same x
    kept_member_same (same_slash s) = no_findings
    kept_member_same (same_no_args s) = no_findings
    kept_member_same (same_parameter u a b s) = like_both (kept_annotation_same a) (kept_bound_same b)

    kept_members_same : {ms ns : Members} → SameMembers R ms ns → LikeFindings (kept_members d ms) (kept_members d ns)
    kept_members_same same_none = no_findings
    kept_members_same (same_more ms m) = like_both (kept_members_same ms) (kept_member_same m)

    kept_bound_same : {a b : Bound} → SameBound R a b → LikeFindings (kept_bound d a) (kept_bound d b)
    kept_bound_same same_absent = no_findings
    kept_bound_same (same_present x) = kept_expr_same x

    kept_annotation_same : {a b : Annotation} → SameAnnotation R a b → LikeFindings (kept_annotation d a) (kept_annotation d b)
    kept_annotation_same same_untyped = no_findings
    kept_annotation_same (same_typed x s) = kept_expr_same x

    kept_subscript_same : {a b : Subscript} → SameSubscript R a b → LikeFindings (kept_subscript d a) (kept_subscript d b)
    kept_subscript_same (same_single x) = kept_expr_same x
    kept_subscript_same (same_double x y) = like_both (kept_expr_same x) (kept_expr_same y)
    kept_subscript_same (same_slice a b c) = like_three (kept_bound_same a) (kept_bound_same b) (kept_bound_same c)

    kept_clauses_same : {a b : Clauses} → SameClauses R a b → LikeFindings (kept_clauses d a) (kept_clauses d b)
    kept_clauses_same same_no_clauses = no_findings
    kept_clauses_same (same_and_clause c (same_for_clause x y)) = like_three (kept_clauses_same c) (kept_expr_same x) (kept_expr_same y)
    kept_clauses_same (same_and_clause c (same_if_clause x)) = like_both (kept_clauses_same c) (kept_expr_same x)

  kept_some_same : {x y : Option Expr} → SameValue R x y → LikeFindings (kept_some d x) (kept_some d y)
  kept_some_same no_value = no_findings
  kept_some_same (same_value x) = kept_expr_same x

  mutual
    pub kept_same : {a b : Statement} → SameStatement R a b → LikeFindings (kept_rules d a) (kept_rules d b)
    kept_same (same_break s) = no_findings
    kept_same (same_continue s) = no_findings
    kept_same (same_pass s) = no_findings
    kept_same (same_return x s) = kept_some_same x
    kept_same (same_load (same_name n) same_no_symbols s) = and_finding no_findings
    kept_same (same_load n (same_add_symbol ss x o) s) = no_findings
    kept_same (same_expression x s) = kept_expr_same x
    kept_same (same_assign x a y s) = like_three (kept_expr_same x) (kept_annotation_same a) (kept_expr_same y)
    kept_same (same_when x a s) = like_both (kept_expr_same x) (kept_same a)
    kept_same (same_either x a b s) = like_three (kept_expr_same x) (kept_same a) (kept_same b)
    kept_same (same_repeat x y a s) = like_three (kept_expr_same x) (kept_expr_same y) (kept_same a)
    kept_same (same_define n ps a b s) = like_three (kept_members_same ps) (kept_annotation_same a) (kept_same b)
    kept_same (same_block ss s) = kept_sequence_same ss

    pub kept_sequence_same : {a b : Sequence} → SameSequence R a b → LikeFindings (kept_sequence d a) (kept_sequence d b)
    kept_sequence_same same_no_statements = no_findings
    kept_sequence_same (same_add_statement ss a) = like_both (kept_sequence_same ss) (kept_same a)
