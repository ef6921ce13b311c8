-- The rules that are kept until all tokens are read, at most one for each call, f-string and load, in the order of the last tokens of these.
use Rattle.std.specs.Prelude.{List, [], ◌∷◌, ◌++◌, Option, Some, None, if◌then◌else◌}
use Rattle.starlark_place.specs.Place.{Extent}
use Rattle.starlark_lexer.specs.declared.dialect.Dialect.{Dialect}
use Rattle.starlark_ast.specs.Tree as t
use Rattle.starlark_ast.specs.Tree.{Expr, Member, Members, Bound, Annotation, Subscript, Clauses, Name, Symbols, Statement, Sequence}
use Rattle.starlark_rulebook.specs.Rules.{LoadRequiresTwo, FStringsDisabled, Finding, breaks, listed}
use Rattle.starlark_rulebook.specs.Calls.{first_call_fault}

-- an f-string where they are off
abbrev pub fstring_fault : Dialect → Extent → Option Finding
fstring_fault d s = if d.enable_f_strings then None else Some (breaks FStringsDisabled s)

abbrev mutual
  pub kept_expr : Dialect → Expr → List Finding
  kept_expr d (t.leaf l u s) = []
  kept_expr d (t.tuple ms s) = kept_members d ms
  kept_expr d (t.list ms s) = kept_members d ms
  kept_expr d (t.dict ms s) = kept_members d ms
  kept_expr d (t.comprehension m cs s) = kept_member d m ++ kept_clauses d cs
  kept_expr d (t.dot x n u s) = kept_expr d x
  kept_expr d (t.index x b s) = kept_expr d x ++ kept_subscript d b
  kept_expr d (t.call x ms s) = kept_expr d x ++ kept_members d ms ++ listed (first_call_fault ms)
  kept_expr d (t.lambda ms x s) = kept_members d ms ++ kept_expr d x
  kept_expr d (t.signed o x s) = kept_expr d x
  kept_expr d (t.operation x o y s) = kept_expr d x ++ kept_expr d y
  kept_expr d (t.choice x y z s) = kept_expr d y ++ kept_expr d x ++ kept_expr d z
  kept_expr d (t.fstring f u ms v s) = kept_members d ms ++ listed (fstring_fault d v)

  pub kept_member : Dialect → Member → List Finding
  kept_member d (t.item x) = kept_expr d x
  kept_member d (t.pair x y) = kept_expr d x ++ kept_expr d y
  kept_member d (t.positional x s) = kept_expr d x
  kept_member d (t.named n u x s) = kept_expr d x
  kept_member d (t.args x s) = kept_expr d x
  kept_member d (t.kwargs x s) = kept_expr d x
  kept_member d (t.slash s) = []
  kept_member d (t.no_args s) = []
  kept_member d (t.parameter k n u a b s) = kept_annotation d a ++ kept_bound d b

  pub kept_members : Dialect → Members → List Finding
  kept_members d t.none = []
  kept_members d (t.more ms m) = kept_members d ms ++ kept_member d m

  pub kept_bound : Dialect → Bound → List Finding
  kept_bound d t.absent = []
  kept_bound d (t.present x) = kept_expr d x

  pub kept_annotation : Dialect → Annotation → List Finding
  kept_annotation d t.untyped = []
  kept_annotation d (t.typed x s) = kept_expr d x

  pub kept_subscript : Dialect → Subscript → List Finding
  kept_subscript d (t.single x) = kept_expr d x
  kept_subscript d (t.double x y) = kept_expr d x ++ kept_expr d y
  kept_subscript d (t.slice a b c) = kept_bound d a ++ kept_bound d b ++ kept_bound d c

  pub kept_clauses : Dialect → Clauses → List Finding
  kept_clauses d t.no_clauses = []
  kept_clauses d (t.and_clause cs (t.for_clause x y)) = kept_clauses d cs ++ kept_expr d x ++ kept_expr d y
  kept_clauses d (t.and_clause cs (t.if_clause x)) = kept_clauses d cs ++ kept_expr d x

abbrev pub kept_some : Dialect → Option Expr → List Finding
kept_some d None = []
kept_some d (Some x) = kept_expr d x

-- a load that binds nothing, at its module
abbrev pub kept_load : Name → Symbols → List Finding
kept_load (t.name_at n s) t.no_symbols = breaks LoadRequiresTwo s ∷ []
kept_load m (t.add_symbol ss x o) = []

-- At most one for each call, f-string and load: the first fault of the call's arguments, an f-string where they are off, a load without symbols (docs/LANGUAGE.md, Rules).
abbrev mutual
  pub kept_rules : Dialect → Statement → List Finding
  kept_rules d (t.break s) = []
  kept_rules d (t.continue s) = []
  kept_rules d (t.pass s) = []
  kept_rules d (t.return x s) = kept_some d x
  kept_rules d (t.load m ss s) = kept_load m ss
  kept_rules d (t.expression x s) = kept_expr d x
  kept_rules d (t.assign x a o y s) = kept_expr d x ++ kept_annotation d a ++ kept_expr d y
  kept_rules d (t.when x a s) = kept_expr d x ++ kept_rules d a
  kept_rules d (t.either x a b s) = kept_expr d x ++ kept_rules d a ++ kept_rules d b
  kept_rules d (t.repeat x y a s) = kept_expr d x ++ kept_expr d y ++ kept_rules d a
  kept_rules d (t.define n ps a b s) = kept_members d ps ++ kept_annotation d a ++ kept_rules d b
  kept_rules d (t.block ss s) = kept_sequence d ss

  pub kept_sequence : Dialect → Sequence → List Finding
  kept_sequence d t.no_statements = []
  kept_sequence d (t.add_statement ss a) = kept_sequence d ss ++ kept_rules d a
