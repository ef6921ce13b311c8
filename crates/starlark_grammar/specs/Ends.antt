-- Where the places in a tree begin and end: each at places of one kind, such as those between two characters.
use Rattle.std.specs.Prelude.{ℕ, Option, Some, None}
use Rattle.starlark_place.specs.Place.{Extent}
use Rattle.starlark_ast.specs.Tree as t
use Rattle.starlark_ast.specs.Tree.{Expr, Member, Members, Bound, Annotation, Subscript, Clause, Clauses, Name, Symbol, Symbols, Statement, Sequence}

-- it begins and ends at such a place
abbrev pub At : (ℕ → Type 0) → Extent → Type 0
At B s = B s.begin × B s.end

-- the place of an expression, and all in it
abbrev mutual
  pub ExprAt : (ℕ → Type 0) → Expr → Type 0
  ExprAt B (t.leaf l u s) = At B s × At B u
  ExprAt B (t.tuple ms s) = At B s × MembersAt B ms
  ExprAt B (t.list ms s) = At B s × MembersAt B ms
  ExprAt B (t.dict ms s) = At B s × MembersAt B ms
  ExprAt B (t.comprehension m cs s) = At B s × MemberAt B m × ClausesAt B cs
  ExprAt B (t.dot x n u s) = At B s × ExprAt B x × At B u
  ExprAt B (t.index x b s) = At B s × ExprAt B x × SubscriptAt B b
  ExprAt B (t.call x ms s) = At B s × ExprAt B x × MembersAt B ms
  ExprAt B (t.lambda ms x s) = At B s × MembersAt B ms × ExprAt B x
  ExprAt B (t.signed o x s) = At B s × ExprAt B x
  ExprAt B (t.operation x o y s) = At B s × ExprAt B x × ExprAt B y
  ExprAt B (t.choice x y z s) = At B s × ExprAt B x × ExprAt B y × ExprAt B z
  ExprAt B (t.fstring f u ms v s) = At B s × At B u × MembersAt B ms × At B v

  pub MemberAt : (ℕ → Type 0) → Member → Type 0
  MemberAt B (t.item x) = ExprAt B x
  MemberAt B (t.pair x y) = ExprAt B x × ExprAt B y
  MemberAt B (t.positional x s) = At B s × ExprAt B x
  MemberAt B (t.named n u x s) = At B s × At B u × ExprAt B x
  MemberAt B (t.args x s) = At B s × ExprAt B x
  MemberAt B (t.kwargs x s) = At B s × ExprAt B x
  MemberAt B (t.slash s) = At B s
  MemberAt B (t.no_args s) = At B s
  MemberAt B (t.parameter k n u a b s) = At B s × At B u × AnnotationAt B a × BoundAt B b

  pub MembersAt : (ℕ → Type 0) → Members → Type 0
  MembersAt B t.none = Unit {0}
  MembersAt B (t.more ms m) = MembersAt B ms × MemberAt B m

  pub BoundAt : (ℕ → Type 0) → Bound → Type 0
  BoundAt B t.absent = Unit {0}
  BoundAt B (t.present x) = ExprAt B x

  pub AnnotationAt : (ℕ → Type 0) → Annotation → Type 0
  AnnotationAt B t.untyped = Unit {0}
  AnnotationAt B (t.typed x s) = At B s × ExprAt B x

  pub SubscriptAt : (ℕ → Type 0) → Subscript → Type 0
  SubscriptAt B (t.single x) = ExprAt B x
  SubscriptAt B (t.double x y) = ExprAt B x × ExprAt B y
  SubscriptAt B (t.slice x y z) = BoundAt B x × BoundAt B y × BoundAt B z

  pub ClauseAt : (ℕ → Type 0) → Clause → Type 0
  ClauseAt B (t.for_clause x y) = ExprAt B x × ExprAt B y
  ClauseAt B (t.if_clause x) = ExprAt B x

  pub ClausesAt : (ℕ → Type 0) → Clauses → Type 0
  ClausesAt B t.no_clauses = Unit {0}
  ClausesAt B (t.and_clause cs c) = ClausesAt B cs × ClauseAt B c

-- a name, what a load binds
abbrev pub NameAt : (ℕ → Type 0) → Name → Type 0
NameAt B (t.name_at n u) = At B u

abbrev pub CommaAt : (ℕ → Type 0) → Option Extent → Type 0
CommaAt B None = Unit {0}
CommaAt B (Some u) = At B u

abbrev pub SymbolAt : (ℕ → Type 0) → Symbol → Type 0
SymbolAt B (t.symbol n m) = NameAt B n × NameAt B m

abbrev pub SymbolsAt : (ℕ → Type 0) → Symbols → Type 0
SymbolsAt B t.no_symbols = Unit {0}
SymbolsAt B (t.add_symbol ss s c) = SymbolsAt B ss × SymbolAt B s × CommaAt B c

abbrev pub SomeAt : (ℕ → Type 0) → Option Expr → Type 0
SomeAt B None = Unit {0}
SomeAt B (Some x) = ExprAt B x

-- the place of a statement, and all in it
abbrev mutual
  pub StatementAt : (ℕ → Type 0) → Statement → Type 0
  StatementAt B (t.break s) = At B s
  StatementAt B (t.continue s) = At B s
  StatementAt B (t.pass s) = At B s
  StatementAt B (t.return x s) = At B s × SomeAt B x
  StatementAt B (t.load m ss s) = At B s × NameAt B m × SymbolsAt B ss
  StatementAt B (t.expression x s) = At B s × ExprAt B x
  StatementAt B (t.assign x a o y s) = At B s × ExprAt B x × AnnotationAt B a × ExprAt B y
  StatementAt B (t.when x a s) = At B s × ExprAt B x × StatementAt B a
  StatementAt B (t.either x a b s) = At B s × ExprAt B x × StatementAt B a × StatementAt B b
  StatementAt B (t.repeat x y a s) = At B s × ExprAt B x × ExprAt B y × StatementAt B a
  StatementAt B (t.define n ps a b s) = At B s × NameAt B n × MembersAt B ps × AnnotationAt B a × StatementAt B b
  StatementAt B (t.block ss s) = At B s × SequenceAt B ss

  pub SequenceAt : (ℕ → Type 0) → Sequence → Type 0
  SequenceAt B t.no_statements = Unit {0}
  SequenceAt B (t.add_statement ss a) = SequenceAt B ss × StatementAt B a
