-- Each type of a tree as the plain data of Tree: what an expression, a target, a parameter or an argument is at a place, and what a statement is at a place. Payloads are left out, and so is the order in memory.
use Rattle.std.specs.Prelude.{List, fold, Option, Some, None, string_bytes}
use Rattle.std.specs.declared.alloc.Global.{Global}
use Rattle.std.specs.declared.boxed.Box.{Box}
use Rattle.std.specs.declared.string.String.{String}
use Rattle.starlark_place.specs.Place.{Extent}
use Rattle.starlark_place.specs.declared.pos.Spanned.{Spanned}
use Rattle.starlark_lexer.specs.Items.{number_of}
use Rattle.starlark_ast.specs.Tree.{Expr, Member, Members, Bound, Annotation, Clause, Clauses, Name, Symbols, Statement, Sequence}
use Rattle.starlark_ast.specs.Tree as tree
use Rattle.starlark_ast.specs.declared.ast.Comma.{Comma}
use Rattle.starlark_ast.specs.declared.ast.AstLiteral.{AstLiteral}
use Rattle.starlark_ast.specs.declared.ast.AstLiteral.TheVariants as literal
use Rattle.starlark_ast.specs.declared.ast.IdentP.{IdentP}
use Rattle.starlark_ast.specs.declared.ast.AssignIdentP.{AssignIdentP}
use Rattle.starlark_ast.specs.declared.ast.AssignP.{AssignP}
use Rattle.starlark_ast.specs.declared.ast.LoadArgP.{LoadArgP}
use Rattle.starlark_ast.specs.declared.ast.LoadP.{LoadP}
use Rattle.starlark_ast.specs.declared.ast.ArgumentP.{ArgumentP, ArgumentP-F, fold-ArgumentP}
use Rattle.starlark_ast.specs.declared.ast.AssignTargetP.{AssignTargetP, AssignTargetP-F, fold-AssignTargetP}
use Rattle.starlark_ast.specs.declared.ast.ClauseP.{ClauseP, ClauseP-F, fold-ClauseP}
use Rattle.starlark_ast.specs.declared.ast.ExprP.{ExprP, ExprP-F, fold-ExprP}
use Rattle.starlark_ast.specs.declared.ast.ParameterP.{ParameterP, ParameterP-F, fold-ParameterP}
use Rattle.starlark_ast.specs.declared.ast.CallArgsP.{CallArgsP, CallArgsP-F, fold-CallArgsP}
use Rattle.starlark_ast.specs.declared.ast.FStringP.{FStringP, FStringP-F, fold-FStringP}
use Rattle.starlark_ast.specs.declared.ast.ForClauseP.{ForClauseP, ForClauseP-F, fold-ForClauseP}
use Rattle.starlark_ast.specs.declared.ast.LambdaP.{LambdaP, LambdaP-F, fold-LambdaP}
use Rattle.starlark_ast.specs.declared.ast.TypeExprP.{TypeExprP, TypeExprP-F, fold-TypeExprP}
use Rattle.starlark_ast.specs.declared.ast.ArgumentP.TheOpen as layer
use Rattle.starlark_ast.specs.declared.ast.StmtP.{StmtP, StmtP-F, fold-StmtP}
use Rattle.starlark_ast.specs.declared.ast.DefP.{DefP, DefP-F, fold-DefP}
use Rattle.starlark_ast.specs.declared.ast.ForP.{ForP, ForP-F, fold-ForP}
use Rattle.starlark_ast.specs.declared.ast.StmtP.TheOpen as stmt

-- a value at its place
abbrev pub at : {X : Type 0} → Spanned (Extent → X) → X
at x = x.node x.span

-- a list, built at its end
abbrev pub members : {X : Type 0} → (X → Member) → List X → Members
members h xs = fold (λ ms x. tree.more ms (h x)) tree.none xs

abbrev pub items : List (Spanned (Extent → Expr)) → Members
items xs = members (λ x. tree.item (at x)) xs

abbrev pub pairs : List (Spanned (Extent → Expr) × Spanned (Extent → Expr)) → Members
pairs xs = members (λ x. tree.pair (at x.0) (at x.1)) xs

abbrev pub bound : Option (Box (Spanned (Extent → Expr)) Global) → Bound
bound None = tree.absent
bound (Some x) = tree.present (at x.value)

abbrev pub annotation : Option (Box (Spanned (Extent → Annotation)) Global) → Annotation
annotation None = tree.untyped
annotation (Some x) = at x.value

abbrev pub clauses_behind : Clause → List Clause → Clauses
clauses_behind first rest = fold tree.and_clause (tree.and_clause tree.no_clauses first) rest

abbrev pub sequence : List (Spanned (Extent → Statement)) → Sequence
sequence xs = fold (λ ss x. tree.add_statement ss (at x)) tree.no_statements xs

-- a literal as an expression
abbrev pub literal_view : AstLiteral → Extent → Expr
literal_view (literal.Int n) s = tree.leaf (tree.int (number_of n.node)) n.span s
literal_view (literal.Float x) s = tree.leaf (tree.float (string_bytes x.node)) x.span s
literal_view (literal.String x) s = tree.leaf (tree.string (string_bytes x.node)) x.span s
literal_view (literal.Bytes x) s = tree.leaf (tree.bytes x.node.items) x.span s
literal_view literal.Ellipsis s = tree.leaf tree.ellipsis s s

-- a text with its place
abbrev pub text_at : Spanned (String Global) → Name
text_at x = tree.name_at (string_bytes x.node) x.span

abbrev pub comma_at : Option (Spanned Comma) → Option Extent
comma_at None = None
comma_at (Some x) = Some x.span

module _ {P L I A D T : Type 0} where
  -- an identifier that is read, as an expression
  abbrev pub ident_view : Spanned (IdentP P L I A D T) → Extent → Expr
  ident_view x s = tree.leaf (tree.name (string_bytes x.node.ident)) x.span s

  -- an identifier that is assigned, with its place
  abbrev pub ident_at : Spanned (AssignIdentP P L I A D T) → Name
  ident_at x = tree.name_at (string_bytes x.node.ident) x.span

  -- the same as a target
  abbrev pub assigned_view : Spanned (AssignIdentP P L I A D T) → Extent → Expr
  assigned_view x s = tree.leaf (tree.name (string_bytes x.node.ident)) x.span s

  abbrev pub parameter_of : tree.Stars → Spanned (AssignIdentP P L I A D T) → Annotation → Bound → Extent → Member
  parameter_of stars x type default s = tree.parameter stars (string_bytes x.node.ident) x.span type default s

  -- one layer

  abbrev pub argument_step : ArgumentP-F P L I A D T (Extent → Member) (Extent → Expr) Clause (Extent → Expr) (Extent → Member) Members (Extent → Extent → Expr) Clause (Extent → Expr) (Extent → Annotation) → Extent → Member
  argument_step (layer.Positional x) s = tree.positional (at x) s
  argument_step (layer.Named name x) s = tree.named (string_bytes name.node) name.span (at x) s
  argument_step (layer.ArgumentP::Args x) s = tree.args (at x) s
  argument_step (layer.ArgumentP::KwArgs x) s = tree.kwargs (at x) s

  -- a target is the node of its form
  abbrev pub target_step : AssignTargetP-F P L I A D T (Extent → Member) (Extent → Expr) Clause (Extent → Expr) (Extent → Member) Members (Extent → Extent → Expr) Clause (Extent → Expr) (Extent → Annotation) → Extent → Expr
  target_step (layer.AssignTargetP::Tuple xs) s = tree.tuple (items xs.items) s
  target_step (layer.AssignTargetP::Index x) s = tree.index (at x.value.0) (tree.single (at x.value.1)) s
  target_step (layer.AssignTargetP::Dot x name) s = tree.dot (at x.value) (string_bytes name.node) name.span s
  target_step (layer.AssignTargetP::Identifier x) s = assigned_view x s

  abbrev pub clause_step : ClauseP-F P L I A D T (Extent → Member) (Extent → Expr) Clause (Extent → Expr) (Extent → Member) Members (Extent → Extent → Expr) Clause (Extent → Expr) (Extent → Annotation) → Clause
  clause_step (layer.For x) = x
  clause_step (layer.ClauseP::If x) = tree.if_clause (at x)

  abbrev pub expr_step : ExprP-F P L I A D T (Extent → Member) (Extent → Expr) Clause (Extent → Expr) (Extent → Member) Members (Extent → Extent → Expr) Clause (Extent → Expr) (Extent → Annotation) → Extent → Expr
  expr_step (layer.ExprP::Tuple xs) s = tree.tuple (items xs.items) s
  expr_step (layer.ExprP::Dot x name) s = tree.dot (at x.value) (string_bytes name.node) name.span s
  expr_step (layer.Call x args) s = tree.call (at x.value) args s
  expr_step (layer.ExprP::Index x) s = tree.index (at x.value.0) (tree.single (at x.value.1)) s
  expr_step (layer.Index2 x) s = tree.index (at x.value.0) (tree.double (at x.value.1) (at x.value.2)) s
  expr_step (layer.Slice x a b c) s = tree.index (at x.value) (tree.slice (bound a) (bound b) (bound c)) s
  expr_step (layer.ExprP::Identifier x) s = ident_view x s
  expr_step (layer.Lambda x) s = x s
  expr_step (layer.Literal x) s = literal_view x s
  expr_step (layer.Not x) s = tree.signed tree.Not (at x.value) s
  expr_step (layer.Minus x) s = tree.signed tree.Minus (at x.value) s
  expr_step (layer.Plus x) s = tree.signed tree.Plus (at x.value) s
  expr_step (layer.BitNot x) s = tree.signed tree.BitNot (at x.value) s
  expr_step (layer.Op x op y) s = tree.operation (at x.value) op (at y.value) s
  expr_step (layer.ExprP::If x) s = tree.choice (at x.value.0) (at x.value.1) (at x.value.2) s
  expr_step (layer.List xs) s = tree.list (items xs.items) s
  expr_step (layer.Dict xs) s = tree.dict (pairs xs.items) s
  expr_step (layer.ListComprehension x first rest) s = tree.comprehension (tree.item (at x.value)) (clauses_behind first.value rest.items) s
  expr_step (layer.DictComprehension x first rest) s = tree.comprehension (tree.pair (at x.value.0) (at x.value.1)) (clauses_behind first.value rest.items) s
  expr_step (layer.FString x) s = x.node x.span s

  abbrev pub parameter_step : ParameterP-F P L I A D T (Extent → Member) (Extent → Expr) Clause (Extent → Expr) (Extent → Member) Members (Extent → Extent → Expr) Clause (Extent → Expr) (Extent → Annotation) → Extent → Member
  parameter_step layer.Slash s = tree.slash s
  parameter_step (layer.Normal x type default) s = parameter_of tree.plain x (annotation type) (bound default) s
  parameter_step layer.NoArgs s = tree.no_args s
  parameter_step (layer.ParameterP::Args x type) s = parameter_of tree.starred x (annotation type) tree.absent s
  parameter_step (layer.ParameterP::KwArgs x type) s = parameter_of tree.double_starred x (annotation type) tree.absent s

  abbrev pub call_args_step : CallArgsP-F P L I A D T (Extent → Member) (Extent → Expr) Clause (Extent → Expr) (Extent → Member) Members (Extent → Extent → Expr) Clause (Extent → Expr) (Extent → Annotation) → Members
  call_args_step x = members at x.args.items

  -- at the place of the f-string, and that of the expression
  abbrev pub fstring_step : FStringP-F P L I A D T (Extent → Member) (Extent → Expr) Clause (Extent → Expr) (Extent → Member) Members (Extent → Extent → Expr) Clause (Extent → Expr) (Extent → Annotation) → Extent → Extent → Expr
  fstring_step x u s = tree.fstring (string_bytes x.format.node) x.format.span (items x.expressions.items) u s

  abbrev pub for_clause_step : ForClauseP-F P L I A D T (Extent → Member) (Extent → Expr) Clause (Extent → Expr) (Extent → Member) Members (Extent → Extent → Expr) Clause (Extent → Expr) (Extent → Annotation) → Clause
  for_clause_step x = tree.for_clause (at x.var) (at x.over)

  abbrev pub lambda_step : LambdaP-F P L I A D T (Extent → Member) (Extent → Expr) Clause (Extent → Expr) (Extent → Member) Members (Extent → Extent → Expr) Clause (Extent → Expr) (Extent → Annotation) → Extent → Expr
  lambda_step x s = tree.lambda (members at x.params.items) (at x.body.value) s

  abbrev pub type_step : TypeExprP-F P L I A D T (Extent → Member) (Extent → Expr) Clause (Extent → Expr) (Extent → Member) Members (Extent → Extent → Expr) Clause (Extent → Expr) (Extent → Annotation) → Extent → Annotation
  type_step x s = tree.typed (at x.expr) s

  abbrev pub argument_view : ArgumentP P L I A D T → Extent → Member
  argument_view = fold-ArgumentP P L I A D T _ _ _ _ _ _ _ _ _ _ argument_step target_step clause_step expr_step parameter_step call_args_step fstring_step for_clause_step lambda_step type_step

  abbrev pub target_view : AssignTargetP P L I A D T → Extent → Expr
  target_view = fold-AssignTargetP P L I A D T _ _ _ _ _ _ _ _ _ _ argument_step target_step clause_step expr_step parameter_step call_args_step fstring_step for_clause_step lambda_step type_step

  abbrev pub clause_view : ClauseP P L I A D T → Clause
  clause_view = fold-ClauseP P L I A D T _ _ _ _ _ _ _ _ _ _ argument_step target_step clause_step expr_step parameter_step call_args_step fstring_step for_clause_step lambda_step type_step

  abbrev pub expr_view : ExprP P L I A D T → Extent → Expr
  expr_view = fold-ExprP P L I A D T _ _ _ _ _ _ _ _ _ _ argument_step target_step clause_step expr_step parameter_step call_args_step fstring_step for_clause_step lambda_step type_step

  abbrev pub parameter_view : ParameterP P L I A D T → Extent → Member
  parameter_view = fold-ParameterP P L I A D T _ _ _ _ _ _ _ _ _ _ argument_step target_step clause_step expr_step parameter_step call_args_step fstring_step for_clause_step lambda_step type_step

  abbrev pub call_args_view : CallArgsP P L I A D T → Members
  call_args_view = fold-CallArgsP P L I A D T _ _ _ _ _ _ _ _ _ _ argument_step target_step clause_step expr_step parameter_step call_args_step fstring_step for_clause_step lambda_step type_step

  abbrev pub fstring_view : FStringP P L I A D T → Extent → Extent → Expr
  fstring_view = fold-FStringP P L I A D T _ _ _ _ _ _ _ _ _ _ argument_step target_step clause_step expr_step parameter_step call_args_step fstring_step for_clause_step lambda_step type_step

  abbrev pub for_clause_view : ForClauseP P L I A D T → Clause
  for_clause_view = fold-ForClauseP P L I A D T _ _ _ _ _ _ _ _ _ _ argument_step target_step clause_step expr_step parameter_step call_args_step fstring_step for_clause_step lambda_step type_step

  abbrev pub lambda_view : LambdaP P L I A D T → Extent → Expr
  lambda_view = fold-LambdaP P L I A D T _ _ _ _ _ _ _ _ _ _ argument_step target_step clause_step expr_step parameter_step call_args_step fstring_step for_clause_step lambda_step type_step

  abbrev pub type_view : TypeExprP P L I A D T → Extent → Annotation
  type_view = fold-TypeExprP P L I A D T _ _ _ _ _ _ _ _ _ _ argument_step target_step clause_step expr_step parameter_step call_args_step fstring_step for_clause_step lambda_step type_step

  -- with their places
  abbrev pub expr_at : Spanned (ExprP P L I A D T) → Expr
  expr_at x = expr_view x.node x.span

  abbrev pub target_at : Spanned (AssignTargetP P L I A D T) → Expr
  target_at x = target_view x.node x.span

  abbrev pub parameter_at : Spanned (ParameterP P L I A D T) → Member
  parameter_at x = parameter_view x.node x.span

  abbrev pub argument_at : Spanned (ArgumentP P L I A D T) → Member
  argument_at x = argument_view x.node x.span

  abbrev pub type_at : Spanned (TypeExprP P L I A D T) → Annotation
  type_at x = type_view x.node x.span

  abbrev pub maybe_type : Option (Spanned (TypeExprP P L I A D T)) → Annotation
  maybe_type None = tree.untyped
  maybe_type (Some x) = type_at x

  abbrev pub boxed_type : Option (Box (Spanned (TypeExprP P L I A D T)) Global) → Annotation
  boxed_type None = tree.untyped
  boxed_type (Some x) = type_at x.value

  abbrev pub boxed_expr : Option (Box (Spanned (ExprP P L I A D T)) Global) → Bound
  boxed_expr None = tree.absent
  boxed_expr (Some x) = tree.present (expr_at x.value)

  abbrev pub maybe_expr : Option (Spanned (ExprP P L I A D T)) → Option Expr
  maybe_expr None = None
  maybe_expr (Some x) = Some (expr_at x)

  -- what a load binds
  abbrev pub symbols : List (LoadArgP P L I A D T) → Symbols
  symbols xs = fold (λ ss x. tree.add_symbol ss (tree.symbol (ident_at x.local) (text_at x.their)) (comma_at x.comma)) tree.no_symbols xs

  abbrev pub load_view : LoadP P L I A D T → Extent → Statement
  load_view x s = tree.load (text_at x.module) (symbols x.args.items) s

  abbrev pub assign_view : AssignP P L I A D T → Extent → Statement
  assign_view x s = tree.assign (target_at x.lhs) (maybe_type x.ty) None (expr_at x.rhs) s

  abbrev pub stmt_step : StmtP-F P L I A D T (Extent → Statement) (Extent → Statement) (Extent → Statement) → Extent → Statement
  stmt_step stmt.Break s = tree.break s
  stmt_step stmt.Continue s = tree.continue s
  stmt_step stmt.Pass s = tree.pass s
  stmt_step (stmt.Return x) s = tree.return (maybe_expr x) s
  stmt_step (stmt.Expression x) s = tree.expression (expr_at x) s
  stmt_step (stmt.Assign x) s = assign_view x s
  stmt_step (stmt.AssignModify lhs op rhs) s = tree.assign (target_at lhs) tree.untyped (Some op) (expr_at rhs.value) s
  stmt_step (stmt.Statements xs) s = tree.block (sequence xs.items) s
  stmt_step (stmt.If c x) s = tree.when (expr_at c) (at x.value) s
  stmt_step (stmt.IfElse c x) s = tree.either (expr_at c) (at x.value.0) (at x.value.1) s
  stmt_step (stmt.For x) s = x s
  stmt_step (stmt.Def x) s = x s
  stmt_step (stmt.Load x) s = load_view x s

  abbrev pub def_step : DefP-F P L I A D T (Extent → Statement) (Extent → Statement) (Extent → Statement) → Extent → Statement
  def_step x s = tree.define (ident_at x.name) (members parameter_at x.params.items) (boxed_type x.return_type) (at x.body.value) s

  abbrev pub for_step : ForP-F P L I A D T (Extent → Statement) (Extent → Statement) (Extent → Statement) → Extent → Statement
  for_step x s = tree.repeat (target_at x.var) (expr_at x.over) (at x.body.value) s

  abbrev pub stmt_view : StmtP P L I A D T → Extent → Statement
  stmt_view = fold-StmtP P L I A D T _ _ _ stmt_step def_step for_step

  abbrev pub def_view : DefP P L I A D T → Extent → Statement
  def_view = fold-DefP P L I A D T _ _ _ stmt_step def_step for_step

  abbrev pub for_view : ForP P L I A D T → Extent → Statement
  for_view = fold-ForP P L I A D T _ _ _ stmt_step def_step for_step

  abbrev pub stmt_at : Spanned (StmtP P L I A D T) → Statement
  stmt_at x = stmt_view x.node x.span
