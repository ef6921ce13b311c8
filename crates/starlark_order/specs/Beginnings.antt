-- Where a tree begins, and each part of it that has a place: all these places in one list, each before those that stand in it.
use Rattle.std.specs.Prelude.{ℕ, List, [], ◌∷◌, ◌++◌, Option, Some, None}
use Rattle.starlark_place.specs.Place.{Extent}
use Rattle.starlark_ast.specs.Tree as t
use Rattle.starlark_ast.specs.Tree.{Expr, Member, Members, Bound, Annotation, Subscript, Clause, Clauses, Name, Symbol, Symbols, Statement, Sequence}

abbrev mutual
  -- an expression and its parts
  pub expr_begins : Expr → List ℕ
  expr_begins (t.leaf l u s) = s.begin ∷ u.begin ∷ []
  expr_begins (t.tuple ms s) = s.begin ∷ members_begin ms
  expr_begins (t.list ms s) = s.begin ∷ members_begin ms
  expr_begins (t.dict ms s) = s.begin ∷ members_begin ms
  expr_begins (t.comprehension m cs s) = s.begin ∷ member_begins m ++ clauses_begin cs
  expr_begins (t.dot x n u s) = s.begin ∷ u.begin ∷ expr_begins x
  expr_begins (t.index x b s) = s.begin ∷ expr_begins x ++ subscript_begins b
  expr_begins (t.call x ms s) = s.begin ∷ expr_begins x ++ members_begin ms
  expr_begins (t.lambda ms x s) = s.begin ∷ members_begin ms ++ expr_begins x
  expr_begins (t.signed o x s) = s.begin ∷ expr_begins x
  expr_begins (t.operation x o y s) = s.begin ∷ expr_begins x ++ expr_begins y
  expr_begins (t.choice x y z s) = s.begin ∷ expr_begins x ++ expr_begins y ++ expr_begins z
  expr_begins (t.fstring f u ms v s) = s.begin ∷ u.begin ∷ v.begin ∷ members_begin ms

  pub member_begins : Member → List ℕ
  member_begins (t.item x) = expr_begins x
  member_begins (t.pair x y) = expr_begins x ++ expr_begins y
  member_begins (t.positional x s) = s.begin ∷ expr_begins x
  member_begins (t.named n u x s) = s.begin ∷ u.begin ∷ expr_begins x
  member_begins (t.args x s) = s.begin ∷ expr_begins x
  member_begins (t.kwargs x s) = s.begin ∷ expr_begins x
  member_begins (t.slash s) = s.begin ∷ []
  member_begins (t.no_args s) = s.begin ∷ []
  member_begins (t.parameter k n u a b s) = s.begin ∷ u.begin ∷ annotation_begins a ++ bound_begins b

  pub members_begin : Members → List ℕ
  members_begin t.none = []
  members_begin (t.more ms m) = members_begin ms ++ member_begins m

  pub bound_begins : Bound → List ℕ
  bound_begins t.absent = []
  bound_begins (t.present x) = expr_begins x

  pub annotation_begins : Annotation → List ℕ
  annotation_begins t.untyped = []
  annotation_begins (t.typed x s) = s.begin ∷ expr_begins x

  pub subscript_begins : Subscript → List ℕ
  subscript_begins (t.single x) = expr_begins x
  subscript_begins (t.double x y) = expr_begins x ++ expr_begins y
  subscript_begins (t.slice x y z) = bound_begins x ++ bound_begins y ++ bound_begins z

  pub clause_begins : Clause → List ℕ
  clause_begins (t.for_clause x y) = expr_begins x ++ expr_begins y
  clause_begins (t.if_clause x) = expr_begins x

  pub clauses_begin : Clauses → List ℕ
  clauses_begin t.no_clauses = []
  clauses_begin (t.and_clause cs c) = clauses_begin cs ++ clause_begins c

-- a name, what a load binds, a value where there is one
abbrev pub name_begins : Name → List ℕ
name_begins (t.name_at n u) = u.begin ∷ []

abbrev pub comma_begins : Option Extent → List ℕ
comma_begins None = []
comma_begins (Some u) = u.begin ∷ []

abbrev pub symbol_begins : Symbol → List ℕ
symbol_begins (t.symbol n m) = name_begins n ++ name_begins m

abbrev pub symbols_begin : Symbols → List ℕ
symbols_begin t.no_symbols = []
symbols_begin (t.add_symbol ss s c) = symbols_begin ss ++ symbol_begins s ++ comma_begins c

abbrev pub value_begins : Option Expr → List ℕ
value_begins None = []
value_begins (Some x) = expr_begins x

abbrev mutual
  -- a statement and its parts
  pub statement_begins : Statement → List ℕ
  statement_begins (t.break s) = s.begin ∷ []
  statement_begins (t.continue s) = s.begin ∷ []
  statement_begins (t.pass s) = s.begin ∷ []
  statement_begins (t.return x s) = s.begin ∷ value_begins x
  statement_begins (t.load m ss s) = s.begin ∷ name_begins m ++ symbols_begin ss
  statement_begins (t.expression x s) = s.begin ∷ expr_begins x
  statement_begins (t.assign x a o y s) = s.begin ∷ expr_begins x ++ annotation_begins a ++ expr_begins y
  statement_begins (t.when x a s) = s.begin ∷ expr_begins x ++ statement_begins a
  statement_begins (t.either x a b s) = s.begin ∷ expr_begins x ++ statement_begins a ++ statement_begins b
  statement_begins (t.repeat x y a s) = s.begin ∷ expr_begins x ++ expr_begins y ++ statement_begins a
  statement_begins (t.define n ps a b s) = s.begin ∷ name_begins n ++ members_begin ps ++ annotation_begins a ++ statement_begins b
  statement_begins (t.block ss s) = s.begin ∷ sequence_begins ss

  pub sequence_begins : Sequence → List ℕ
  sequence_begins t.no_statements = []
  sequence_begins (t.add_statement ss a) = sequence_begins ss ++ statement_begins a

-- the same of the tree of a text, but for the place of the list of all its statements
abbrev pub tree_begins : Statement → List ℕ
tree_begins (t.block ss s) = sequence_begins ss
tree_begins a = statement_begins a
