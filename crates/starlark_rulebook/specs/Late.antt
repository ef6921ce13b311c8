-- The rules that count last, on the whole tree.
use Rattle.std.specs.Prelude.{List, [], ◌∷◌, ◌++◌, not, ◌||◌, if◌then◌else◌, Bool, true, false, Option, Some, None}
use Rattle.starlark_place.specs.Place.{Extent}
use Rattle.starlark_lexer.specs.declared.dialect.Dialect.{Dialect}
use Rattle.starlark_ast.specs.Tree as t
use Rattle.starlark_ast.specs.Tree.{Leaf, Expr, Member, Members, Bound, Annotation, Subscript, Clause, Clauses, Statement, Sequence}
use Rattle.starlark_rulebook.specs.Rules.{Rule, DefDisabled, ForOutsideDef, IfOutsideDef, BreakOutsideFor, ContinueOutsideFor, ReturnOutsideDef, LoadNotTop, LoadDisabled, EllipsisDisabled, LambdaDisabled, KeywordOnlyDisabled, PositionalOnlyDisabled, Finding, breaks, listed}
use Rattle.starlark_rulebook.specs.Types.{has_types}
use Rattle.starlark_rulebook.specs.Parameters.{first_parameter_fault}

-- broken unless it is allowed
abbrev pub unless : Bool → Rule → Extent → List Finding
unless allowed r s = if allowed then [] else breaks r s ∷ []

abbrev pub one_star : Member → List Finding
one_star (t.no_args s) = breaks KeywordOnlyDisabled s ∷ []
one_star m = []

-- each `*`
abbrev pub star_rules : Members → List Finding
star_rules t.none = []
star_rules (t.more ms m) = star_rules ms ++ one_star m

abbrev pub one_slash : Member → List Finding
one_slash (t.slash s) = breaks PositionalOnlyDisabled s ∷ []
one_slash m = []

-- each `/`
abbrev pub slash_rules : Members → List Finding
slash_rules t.none = []
slash_rules (t.more ms m) = slash_rules ms ++ one_slash m

-- Parameters: each `*` and then each `/` where they are off, then the first fault (docs/LANGUAGE.md, Rules).
abbrev pub parameter_rules : Dialect → Members → List Finding
parameter_rules d ms = (if d.enable_keyword_only_arguments then [] else star_rules ms) ++ (if d.enable_positional_only_arguments then [] else slash_rules ms) ++ listed (first_parameter_fault ms)

-- ---- first on statements, parents first

-- where a statement stands: in no other one but a list, in a `for` of the same `def`, in a `def`
pub record Standing : Type 0 where
  pub at_top : Bool
  pub in_for : Bool
  pub in_def : Bool

abbrev pub at_top_level : Standing
at_top_level = record { at_top = true; in_for = false; in_def = false }

-- the body of a `def`, which ends the `for` around it
abbrev pub in_def_body : Standing
in_def_body = record { at_top = false; in_for = false; in_def = true }

abbrev pub in_for_body : Standing → Standing
in_for_body p = record p { at_top = false; in_for = true }

abbrev pub in_if_body : Standing → Standing
in_if_body p = record p { at_top = false }

-- a `for` or an `if` may stand there
abbrev pub may_nest : Dialect → Standing → Bool
may_nest d p = not p.at_top || d.enable_top_level_stmt

abbrev mutual
  pub statement_rules : Dialect → Standing → Statement → List Finding
  statement_rules d p (t.break s) = unless p.in_for BreakOutsideFor s
  statement_rules d p (t.continue s) = unless p.in_for ContinueOutsideFor s
  statement_rules d p (t.return x s) = unless p.in_def ReturnOutsideDef s
  statement_rules d p (t.load m ss s) = unless p.at_top LoadNotTop s ++ unless d.enable_load LoadDisabled s
  statement_rules d p (t.when x a s) = if may_nest d p then statement_rules d (in_if_body p) a else breaks IfOutsideDef s ∷ []
  statement_rules d p (t.either x a b s) = if may_nest d p then statement_rules d (in_if_body p) a ++ statement_rules d (in_if_body p) b else breaks IfOutsideDef s ∷ []
  statement_rules d p (t.repeat x y a s) = if may_nest d p then statement_rules d (in_for_body p) a else breaks ForOutsideDef s ∷ []
  statement_rules d p (t.define n ps a b s) = unless d.enable_def DefDisabled s ++ parameter_rules d ps ++ statement_rules d in_def_body b
  statement_rules d p (t.block ss s) = sequence_rules d p ss
  statement_rules d p (t.pass s) = []
  statement_rules d p (t.expression x s) = []
  statement_rules d p (t.assign x a o y s) = []

  pub sequence_rules : Dialect → Standing → Sequence → List Finding
  sequence_rules d p t.no_statements = []
  sequence_rules d p (t.add_statement ss a) = sequence_rules d p ss ++ statement_rules d p a

-- ---- then on expressions, parents first

abbrev pub leaf_rules : Dialect → Leaf → Extent → List Finding
leaf_rules d t.ellipsis s = unless (has_types d.enable_types) EllipsisDisabled s
leaf_rules d l s = []

abbrev mutual
  pub expr_rules : Dialect → Expr → List Finding
  expr_rules d (t.leaf l u s) = leaf_rules d l s
  expr_rules d (t.tuple ms s) = member_rules d ms
  expr_rules d (t.list ms s) = member_rules d ms
  expr_rules d (t.dict ms s) = member_rules d ms
  expr_rules d (t.comprehension m cs s) = clause_rules d cs ++ one_rules d m
  expr_rules d (t.dot x n u s) = expr_rules d x
  expr_rules d (t.index x b s) = expr_rules d x ++ subscript_rules d b
  expr_rules d (t.call x ms s) = expr_rules d x ++ member_rules d ms
  expr_rules d (t.lambda ms x s) = unless d.enable_lambda LambdaDisabled s ++ parameter_rules d ms ++ member_rules d ms ++ expr_rules d x
  expr_rules d (t.signed o x s) = expr_rules d x
  expr_rules d (t.operation x o y s) = expr_rules d x ++ expr_rules d y
  expr_rules d (t.choice x y z s) = expr_rules d x ++ expr_rules d y ++ expr_rules d z
  expr_rules d (t.fstring f u ms v s) = member_rules d ms

  pub one_rules : Dialect → Member → List Finding
  one_rules d (t.item x) = expr_rules d x
  one_rules d (t.pair x y) = expr_rules d x ++ expr_rules d y
  one_rules d (t.positional x s) = expr_rules d x
  one_rules d (t.named n u x s) = expr_rules d x
  one_rules d (t.args x s) = expr_rules d x
  one_rules d (t.kwargs x s) = expr_rules d x
  one_rules d (t.slash s) = []
  one_rules d (t.no_args s) = []
  one_rules d (t.parameter k n u a b s) = annotation_rules d a ++ bound_rules d b

  pub member_rules : Dialect → Members → List Finding
  member_rules d t.none = []
  member_rules d (t.more ms m) = member_rules d ms ++ one_rules d m

  pub bound_rules : Dialect → Bound → List Finding
  bound_rules d t.absent = []
  bound_rules d (t.present x) = expr_rules d x

  pub annotation_rules : Dialect → Annotation → List Finding
  annotation_rules d t.untyped = []
  annotation_rules d (t.typed x s) = expr_rules d x

  pub subscript_rules : Dialect → Subscript → List Finding
  subscript_rules d (t.single x) = expr_rules d x
  subscript_rules d (t.double x y) = expr_rules d x ++ expr_rules d y
  subscript_rules d (t.slice a b c) = bound_rules d a ++ bound_rules d b ++ bound_rules d c

  pub clause_rules : Dialect → Clauses → List Finding
  clause_rules d t.no_clauses = []
  clause_rules d (t.and_clause cs c) = clause_rules d cs ++ one_clause_rules d c

  pub one_clause_rules : Dialect → Clause → List Finding
  one_clause_rules d (t.for_clause x y) = expr_rules d x ++ expr_rules d y
  one_clause_rules d (t.if_clause x) = expr_rules d x

abbrev pub some_rules : Dialect → Option Expr → List Finding
some_rules d None = []
some_rules d (Some x) = expr_rules d x

-- of the expressions in a statement and in those within it
abbrev mutual
  pub expressions_rules : Dialect → Statement → List Finding
  expressions_rules d (t.break s) = []
  expressions_rules d (t.continue s) = []
  expressions_rules d (t.pass s) = []
  expressions_rules d (t.return x s) = some_rules d x
  expressions_rules d (t.load m ss s) = []
  expressions_rules d (t.expression x s) = expr_rules d x
  expressions_rules d (t.assign x a o y s) = expr_rules d x ++ annotation_rules d a ++ expr_rules d y
  expressions_rules d (t.when x a s) = expr_rules d x ++ expressions_rules d a
  expressions_rules d (t.either x a b s) = expr_rules d x ++ expressions_rules d a ++ expressions_rules d b
  expressions_rules d (t.repeat x y a s) = expr_rules d x ++ expr_rules d y ++ expressions_rules d a
  expressions_rules d (t.define n ps a b s) = member_rules d ps ++ annotation_rules d a ++ expressions_rules d b
  expressions_rules d (t.block ss s) = inner_rules d ss

  pub inner_rules : Dialect → Sequence → List Finding
  inner_rules d t.no_statements = []
  inner_rules d (t.add_statement ss a) = inner_rules d ss ++ expressions_rules d a

-- What a whole tree breaks: its statements, then its expressions (docs/LANGUAGE.md, Rules).
abbrev pub late_rules : Dialect → Statement → List Finding
late_rules d a = statement_rules d at_top_level a ++ expressions_rules d a
