-- Places in a tree: each part lies in the node around it.
use Rattle.std.specs.Prelude.{◌≤◌, Option, Some, None}
use Rattle.starlark_place.specs.Place.{Extent}
use Rattle.starlark_ast.specs.Tree as t
use Rattle.starlark_ast.specs.Tree.{Expr, Member, Members, Bound, Annotation, Subscript, Clause, Clauses, Name, Symbol, Symbols, Statement, Sequence, place, statement_place}

-- the second place lies in the first, and begins before it ends
pub record Lies (s u : Extent) : Type 0 where
  pub from : s.begin ≤ u.begin
  pub runs : u.begin ≤ u.end
  pub to : u.end ≤ s.end

-- the parts of an expression lie in its place, and their parts in theirs
abbrev mutual
  pub Inner : Expr → Type 0
  Inner (t.leaf l u s) = Lies s u
  Inner (t.tuple ms s) = MembersIn s ms
  Inner (t.list ms s) = MembersIn s ms
  Inner (t.dict ms s) = MembersIn s ms
  Inner (t.comprehension m cs s) = MemberIn s m × ClausesIn s cs
  Inner (t.dot x n u s) = Lies s (place x) × Inner x × Lies s u
  Inner (t.index x b s) = Lies s (place x) × Inner x × SubscriptIn s b
  Inner (t.call x ms s) = Lies s (place x) × Inner x × MembersIn s ms
  Inner (t.lambda ms x s) = MembersIn s ms × Lies s (place x) × Inner x
  Inner (t.signed o x s) = Lies s (place x) × Inner x
  Inner (t.operation x o y s) = Lies s (place x) × Inner x × Lies s (place y) × Inner y
  Inner (t.choice x y z s) = Lies s (place x) × Inner x × Lies s (place y) × Inner y × Lies s (place z) × Inner z
  Inner (t.fstring f u ms v s) = Lies s v × Lies v u × MembersIn v ms

  pub MemberIn : Extent → Member → Type 0
  MemberIn o (t.item x) = Lies o (place x) × Inner x
  MemberIn o (t.pair x y) = Lies o (place x) × Inner x × Lies o (place y) × Inner y
  MemberIn o (t.positional x s) = Lies o s × Lies s (place x) × Inner x
  MemberIn o (t.named n u x s) = Lies o s × Lies s u × Lies s (place x) × Inner x
  MemberIn o (t.args x s) = Lies o s × Lies s (place x) × Inner x
  MemberIn o (t.kwargs x s) = Lies o s × Lies s (place x) × Inner x
  MemberIn o (t.slash s) = Lies o s
  MemberIn o (t.no_args s) = Lies o s
  MemberIn o (t.parameter k n u a b s) = Lies o s × Lies s u × AnnotationIn s a × BoundIn s b

  pub MembersIn : Extent → Members → Type 0
  MembersIn o t.none = Unit {0}
  MembersIn o (t.more ms m) = MembersIn o ms × MemberIn o m

  pub BoundIn : Extent → Bound → Type 0
  BoundIn o t.absent = Unit {0}
  BoundIn o (t.present x) = Lies o (place x) × Inner x

  pub AnnotationIn : Extent → Annotation → Type 0
  AnnotationIn o t.untyped = Unit {0}
  AnnotationIn o (t.typed x s) = Lies o s × Lies s (place x) × Inner x

  pub SubscriptIn : Extent → Subscript → Type 0
  SubscriptIn o (t.single x) = Lies o (place x) × Inner x
  SubscriptIn o (t.double x y) = Lies o (place x) × Inner x × Lies o (place y) × Inner y
  SubscriptIn o (t.slice x y z) = BoundIn o x × BoundIn o y × BoundIn o z

  pub ClauseIn : Extent → Clause → Type 0
  ClauseIn o (t.for_clause x y) = Lies o (place x) × Inner x × Lies o (place y) × Inner y
  ClauseIn o (t.if_clause x) = Lies o (place x) × Inner x

  pub ClausesIn : Extent → Clauses → Type 0
  ClausesIn o t.no_clauses = Unit {0}
  ClausesIn o (t.and_clause cs c) = ClausesIn o cs × ClauseIn o c

-- an expression, a name, what a load binds
abbrev pub ExprIn : Extent → Expr → Type 0
ExprIn o x = Lies o (place x) × Inner x

abbrev pub NameIn : Extent → Name → Type 0
NameIn o (t.name_at n u) = Lies o u

abbrev pub CommaIn : Extent → Option Extent → Type 0
CommaIn o None = Unit {0}
CommaIn o (Some u) = Lies o u

abbrev pub SymbolIn : Extent → Symbol → Type 0
SymbolIn o (t.symbol n m) = NameIn o n × NameIn o m

abbrev pub SymbolsIn : Extent → Symbols → Type 0
SymbolsIn o t.no_symbols = Unit {0}
SymbolsIn o (t.add_symbol ss s c) = SymbolsIn o ss × SymbolIn o s × CommaIn o c

abbrev pub SomeIn : Extent → Option Expr → Type 0
SomeIn o None = Unit {0}
SomeIn o (Some x) = ExprIn o x

-- the same of statements
abbrev mutual
  pub InnerStatement : Statement → Type 0
  InnerStatement (t.break s) = Unit {0}
  InnerStatement (t.continue s) = Unit {0}
  InnerStatement (t.pass s) = Unit {0}
  InnerStatement (t.return x s) = SomeIn s x
  InnerStatement (t.load m ss s) = NameIn s m × SymbolsIn s ss
  InnerStatement (t.expression x s) = ExprIn s x
  InnerStatement (t.assign x a o y s) = ExprIn s x × AnnotationIn s a × ExprIn s y
  InnerStatement (t.when x a s) = ExprIn s x × Lies s (statement_place a) × InnerStatement a
  InnerStatement (t.either x a b s) = ExprIn s x × Lies s (statement_place a) × InnerStatement a × Lies s (statement_place b) × InnerStatement b
  InnerStatement (t.repeat x y a s) = ExprIn s x × ExprIn s y × Lies s (statement_place a) × InnerStatement a
  InnerStatement (t.define n ps a b s) = NameIn s n × MembersIn s ps × AnnotationIn s a × Lies s (statement_place b) × InnerStatement b
  InnerStatement (t.block ss s) = SequenceIn s ss

  pub SequenceIn : Extent → Sequence → Type 0
  SequenceIn o t.no_statements = Unit {0}
  SequenceIn o (t.add_statement ss a) = SequenceIn o ss × Lies o (statement_place a) × InnerStatement a

-- a statement lies there, and its parts in it
abbrev pub StatementIn : Extent → Statement → Type 0
StatementIn o a = Lies o (statement_place a) × InnerStatement a
