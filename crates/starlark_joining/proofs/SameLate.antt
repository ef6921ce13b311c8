-- The rules on the whole tree do not depend on places.
use Rattle.std.proofs.Common.{ℕ, Option}
use Rattle.starlark_place.specs.Place.{Extent}
use Rattle.starlark_lexer.specs.declared.dialect.Dialect.{Dialect}
use Rattle.starlark_ast.specs.Tree as t
use Rattle.starlark_ast.specs.Tree.{Leaf, Expr, Member, Members, Bound, Annotation, Subscript, Clause, Clauses, Statement, Sequence}
use Rattle.starlark_rulebook.specs.Rules.{DefDisabled, BreakOutsideFor, ContinueOutsideFor, ReturnOutsideDef, LoadNotTop, LoadDisabled, EllipsisDisabled, LambdaDisabled}
use Rattle.starlark_rulebook.specs.Types.{has_types}
use Rattle.starlark_rulebook.specs.Late.{one_star, star_rules, one_slash, slash_rules, parameter_rules, Standing, in_def_body, in_for_body, in_if_body, may_nest, statement_rules, sequence_rules, leaf_rules, expr_rules, one_rules, member_rules, bound_rules, annotation_rules, subscript_rules, clause_rules, one_clause_rules, some_rules, expressions_rules, inner_rules}
use Rattle.starlark_joining.specs.Same.{SameExpr, same_leaf, same_tuple, same_list, same_dict, same_comprehension, same_dot, same_index, same_call, same_lambda, same_signed, same_operation, same_choice, same_fstring, SameMember, same_item, same_pair, same_positional, same_named, same_args, same_kwargs, same_slash, same_no_args, same_parameter, SameMembers, same_none, same_more, SameBound, same_absent, same_present, SameAnnotation, same_untyped, same_typed, SameSubscript, same_single, same_double, same_slice, SameClause, same_for_clause, same_if_clause, SameClauses, same_no_clauses, same_and_clause, SameValue, no_value, same_value, SameStatement, same_break, same_continue, same_pass, same_return, same_load, same_expression, same_assign, same_when, same_either, same_repeat, same_define, same_block, SameSequence, same_no_statements, same_add_statement}
use Rattle.starlark_joining.proofs.LikeFindings.{LikeFindings, no_findings, and_finding, like_both, like_three, like_listed, like_unless, findings_choice}
use Rattle.starlark_joining.proofs.SameParameters.{parameters_same}

leaf_same : (d : Dialect) (l : Leaf) (s r : Extent) → LikeFindings (leaf_rules d l s) (leaf_rules d l r)
leaf_same d t.ellipsis s r = like_unless (has_types d.enable_types) EllipsisDisabled s r
leaf_same d l s r = no_findings

module _ {R : ℕ → ℕ → Type 0} (d : Dialect) where
  -- ---- parameters

  one_star_same : {m n : Member} → SameMember R m n → LikeFindings (one_star m) (one_star n)
  one_star_same (same_no_args s) = and_finding no_findings
  one_star_same m = no_findings

  stars_same : {ms ns : Members} → SameMembers R ms ns → LikeFindings (star_rules ms) (star_rules ns)
  stars_same same_none = no_findings
  stars_same (same_more ms m) = like_both (stars_same ms) (one_star_same m)

  one_slash_same : {m n : Member} → SameMember R m n → LikeFindings (one_slash m) (one_slash n)
  one_slash_same (same_slash s) = and_finding no_findings
  one_slash_same m = no_findings

  slashes_same : {ms ns : Members} → SameMembers R ms ns → LikeFindings (slash_rules ms) (slash_rules ns)
  slashes_same same_none = no_findings
  slashes_same (same_more ms m) = like_both (slashes_same ms) (one_slash_same m)

  parameter_rules_same : {ms ns : Members} → SameMembers R ms ns → LikeFindings (parameter_rules d ms) (parameter_rules d ns)
  parameter_rules_same ms = like_three (findings_choice d.enable_keyword_only_arguments no_findings (stars_same ms)) (findings_choice d.enable_positional_only_arguments no_findings (slashes_same ms)) (like_listed (parameters_same ms))

  -- ---- statements

  mutual
    pub statement_rules_same : {a b : Statement} (p : Standing) → SameStatement R a b → LikeFindings (statement_rules d p a) (statement_rules d p b)
    statement_rules_same p (same_break {s} {r} z) = like_unless p.in_for BreakOutsideFor s r
    statement_rules_same p (same_continue {s} {r} z) = like_unless p.in_for ContinueOutsideFor s r
    statement_rules_same p (same_return {s} {r} x z) = like_unless p.in_def ReturnOutsideDef s r
    statement_rules_same p (same_load {s} {r} n ss z) = like_both (like_unless p.at_top LoadNotTop s r) (like_unless d.enable_load LoadDisabled s r)
    statement_rules_same p (same_when x a s) = findings_choice (may_nest d p) (statement_rules_same (in_if_body p) a) (and_finding no_findings)
    statement_rules_same p (same_either x a b s) = findings_choice (may_nest d p) (like_both (statement_rules_same (in_if_body p) a) (statement_rules_same (in_if_body p) b)) (and_finding no_findings)
    statement_rules_same p (same_repeat x y a s) = findings_choice (may_nest d p) (statement_rules_same (in_for_body p) a) (and_finding no_findings)
    statement_rules_same p (same_define {s} {r} n ps a b z) = like_three (like_unless d.enable_def DefDisabled s r) (parameter_rules_same ps) (statement_rules_same in_def_body b)
    statement_rules_same p (same_block ss s) = sequence_rules_same p ss
    statement_rules_same p (same_pass s) = no_findings
    statement_rules_same p (same_expression x s) = no_findings
    statement_rules_same p (same_assign x a y s) = no_findings

    pub sequence_rules_same : {a b : Sequence} (p : Standing) → SameSequence R a b → LikeFindings (sequence_rules d p a) (sequence_rules d p b)
    sequence_rules_same p same_no_statements = no_findings
    sequence_rules_same p (same_add_statement ss a) = like_both (sequence_rules_same p ss) (statement_rules_same p a)

  -- ---- expressions

  mutual
    expr_rules_same : {x y : Expr} → SameExpr R x y → LikeFindings (expr_rules d x) (expr_rules d y)
    expr_rules_same (same_leaf {l} {s} {r} u z) = leaf_same d l s r
    expr_rules_same (same_tuple m s) = member_rules_same m
    expr_rules_same (same_list m s) = member_rules_same m
    expr_rules_same (same_dict m s) = member_rules_same m
    expr_rules_same (same_comprehension m c s) = like_both (clause_rules_same c) (one_rules_same m)
    expr_rules_same (same_dot x u s) = expr_rules_same x
    expr_rules_same (same_index x b s) = like_both (expr_rules_same x) (subscript_rules_same b)
    expr_rules_same (same_call x m s) = like_both (expr_rules_same x) (member_rules_same m)
    expr_rules_same (same_lambda {s} {r} m x z) = like_both (like_three (like_unless d.enable_lambda LambdaDisabled s r) (parameter_rules_same m) (member_rules_same m)) (expr_rules_same x)
    expr_rules_same (same_signed x s) = expr_rules_same x
    expr_rules_same (same_operation x y s) = like_both (expr_rules_same x) (expr_rules_same y)
    expr_rules_same (same_choice x y z s) = like_three (expr_rules_same x) (expr_rules_same y) (expr_rules_same z)
    expr_rules_same (same_fstring u m v s) = member_rules_same m

    one_rules_same : {m n : Member} → SameMember R m n → LikeFindings (one_rules d m) (one_rules d n)
    one_rules_same (same_item x) = expr_rules_same x
    one_rules_same (same_pair x y) = like_both (expr_rules_same x) (expr_rules_same y)
    one_rules_same (same_positional x s) = expr_rules_same x
    one_rules_same (same_named u x s) = expr_rules_same x
    one_rules_same (same_args x s) = expr_rules_same x
    one_rules_same (same_kwargs x s) = expr_rules_same x
    one_rules_same (same_slash s) = no_findings
    one_rules_same (same_no_args s) = no_findings
    one_rules_same (same_parameter u a b s) = like_both (annotation_rules_same a) (bound_rules_same b)

    member_rules_same : {ms ns : Members} → SameMembers R ms ns → LikeFindings (member_rules d ms) (member_rules d ns)
    member_rules_same same_none = no_findings
    member_rules_same (same_more ms m) = like_both (member_rules_same ms) (one_rules_same m)

    bound_rules_same : {a b : Bound} → SameBound R a b → LikeFindings (bound_rules d a) (bound_rules d b)
    bound_rules_same same_absent = no_findings
    bound_rules_same (same_present x) = expr_rules_same x

    annotation_rules_same : {a b : Annotation} → SameAnnotation R a b → LikeFindings (annotation_rules d a) (annotation_rules d b)
    annotation_rules_same same_untyped = no_findings
    annotation_rules_same (same_typed x s) = expr_rules_same x

    subscript_rules_same : {a b : Subscript} → SameSubscript R a b → LikeFindings (subscript_rules d a) (subscript_rules d b)
    subscript_rules_same (same_single x) = expr_rules_same x
    subscript_rules_same (same_double x y) = like_both (expr_rules_same x) (expr_rules_same y)
    subscript_rules_same (same_slice a b c) = like_three (bound_rules_same a) (bound_rules_same b) (bound_rules_same c)

    clause_rules_same : {a b : Clauses} → SameClauses R a b → LikeFindings (clause_rules d a) (clause_rules d b)
    clause_rules_same same_no_clauses = no_findings
    clause_rules_same (same_and_clause cs c) = like_both (clause_rules_same cs) (one_clause_rules_same c)

    one_clause_rules_same : {a b : Clause} → SameClause R a b → LikeFindings (one_clause_rules d a) (one_clause_rules d b)
    one_clause_rules_same (same_for_clause x y) = like_both (expr_rules_same x) (expr_rules_same y)
    one_clause_rules_same (same_if_clause x) = expr_rules_same x

  some_rules_same : {x y : Option Expr} → SameValue R x y → LikeFindings (some_rules d x) (some_rules d y)
  some_rules_same no_value = no_findings
  some_rules_same (same_value x) = expr_rules_same x

  mutual
    pub expressions_rules_same : {a b : Statement} → SameStatement R a b → LikeFindings (expressions_rules d a) (expressions_rules d b)
    expressions_rules_same (same_break s) = no_findings
    expressions_rules_same (same_continue s) = no_findings
    expressions_rules_same (same_pass s) = no_findings
    expressions_rules_same (same_return x s) = some_rules_same x
    expressions_rules_same (same_load n ss s) = no_findings
    expressions_rules_same (same_expression x s) = expr_rules_same x
    expressions_rules_same (same_assign x a y s) = like_three (expr_rules_same x) (annotation_rules_same a) (expr_rules_same y)
    expressions_rules_same (same_when x a s) = like_both (expr_rules_same x) (expressions_rules_same a)
    expressions_rules_same (same_either x a b s) = like_three (expr_rules_same x) (expressions_rules_same a) (expressions_rules_same b)
    expressions_rules_same (same_repeat x y a s) = like_three (expr_rules_same x) (expr_rules_same y) (expressions_rules_same a)
    expressions_rules_same (same_define n ps a b s) = like_three (member_rules_same ps) (annotation_rules_same a) (expressions_rules_same b)
    expressions_rules_same (same_block ss s) = inner_rules_same ss

    pub inner_rules_same : {a b : Sequence} → SameSequence R a b → LikeFindings (inner_rules d a) (inner_rules d b)
    inner_rules_same same_no_statements = no_findings
    inner_rules_same (same_add_statement ss a) = like_both (inner_rules_same ss) (expressions_rules_same a)
