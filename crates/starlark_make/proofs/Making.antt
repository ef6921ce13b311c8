-- Nodes that are made of parts in boxes, as plain data.
use Rattle.std.proofs.Common.{◌≡◌, refl, ap, ◌∙◌, List, Option, Some, None}
use Rattle.std.specs.Prelude.{string_bytes}
use Rattle.std.specs.declared.alloc.Global.{Global}
use Rattle.std.specs.declared.boxed.Box.{Box}
use Rattle.std.specs.declared.string.String.{String}
use Rattle.std.specs.declared.vec.Vec.{Vec}
use Rattle.starlark_place.specs.Place.{Extent}
use Rattle.starlark_place.specs.declared.pos.Spanned.{Spanned}
use Rattle.starlark_ast.specs.Tree as tree
use Rattle.starlark_ast.specs.View.{argument_at, boxed_type, clause_view, expr_at, expr_view, members, parameter_at, stmt_at, stmt_view, target_at}
use Rattle.starlark_ast.specs.Views.{clauses_of, items_of, expr_view-Call, expr_view-DictComprehension, expr_view-FString, expr_view-Lambda, expr_view-ListComprehension, view-args, view-for_clause, view-fstring, view-lambda}
use Rattle.starlark_ast.specs.StatementViews.{stmt_view-Def, view-def}
use Rattle.starlark_ast.specs.declared.ast.ArgumentP.{ArgumentP}
use Rattle.starlark_ast.specs.declared.ast.CallArgsP.{CallArgsP}
use Rattle.starlark_ast.specs.declared.ast.ClauseP.{ClauseP}
use Rattle.starlark_ast.specs.declared.ast.DefP.{DefP}
use Rattle.starlark_ast.specs.declared.ast.ExprP.{ExprP}
use Rattle.starlark_ast.specs.declared.ast.ExprP.TheVariants as expr
use Rattle.starlark_ast.specs.declared.ast.FStringP.{FStringP}
use Rattle.starlark_ast.specs.declared.ast.ForClauseP.{ForClauseP}
use Rattle.starlark_ast.specs.declared.ast.LambdaP.{LambdaP}
use Rattle.starlark_ast.specs.declared.ast.ParameterP.{ParameterP}
use Rattle.starlark_ast.specs.declared.ast.StmtP.{StmtP}
use Rattle.starlark_ast.specs.declared.ast.StmtP.TheVariants as stmt
use Rattle.starlark_ast.specs.declared.ast.TypeExprP.{TypeExprP}
use Rattle.starlark_grammar.specs.Made as made
use Rattle.starlark_grammar.specs.Made.{annotation_of}
use Rattle.starlark_make.specs.Kept.{boxed_type_at}

module _ {P L I A D T : Type 0} where
  pub call_of : (x : Box (Spanned (ExprP P L I A D T)) Global) (args : CallArgsP P L I A D T) (s : Extent) (y : Spanned (ExprP P L I A D T)) (zs : Vec (Spanned (ArgumentP P L I A D T)) Global) → x.value ≡ y → args.args ≡ zs → expr_view (expr.Call x args) s ≡ tree.call (expr_at y) (members argument_at zs.items) s
  call_of x args s y zs e f =
      expr_view-Call x args s ∙ ap (λ q. tree.call (expr_at x.value) q s) (view-args args)
      ∙ ap (λ q. tree.call (expr_at q) (members argument_at args.args.items) s) e
      ∙ ap (λ q. tree.call (expr_at y) (members argument_at q.items) s) f

  pub lambda_of : (x : LambdaP P L I A D T) (s : Extent) (ps : Vec (Spanned (ParameterP P L I A D T)) Global) (y : Spanned (ExprP P L I A D T)) → x.params ≡ ps → x.body.value ≡ y → expr_view (expr.Lambda x) s ≡ tree.lambda (members parameter_at ps.items) (expr_at y) s
  lambda_of x s ps y e f =
      expr_view-Lambda x s ∙ view-lambda x s
      ∙ ap (λ q. tree.lambda (members parameter_at q.items) (expr_at x.body.value) s) e
      ∙ ap (λ q. tree.lambda (members parameter_at ps.items) (expr_at q) s) f

  -- the clauses of a comprehension, of which the first is known by its parts
  clauses_are : (c : ForClauseP P L I A D T) (cs : List (ClauseP P L I A D T)) → clauses_of c cs ≡ made.clauses_of (tree.for_clause (target_at c.var) (expr_at c.over)) clause_view cs
  clauses_are c cs = ap (λ q. made.clauses_of q clause_view cs) (view-for_clause c)

  pub list_comprehension_of : (x : Box (Spanned (ExprP P L I A D T)) Global) (c : Box (ForClauseP P L I A D T) Global) (cs : Vec (ClauseP P L I A D T) Global) (s : Extent) (y : Spanned (ExprP P L I A D T)) (d : ForClauseP P L I A D T) (ds : Vec (ClauseP P L I A D T) Global) → x.value ≡ y → c.value ≡ d → cs ≡ ds → expr_view (expr.ListComprehension x c cs) s ≡ tree.comprehension (tree.item (expr_at y)) (made.clauses_of (tree.for_clause (target_at d.var) (expr_at d.over)) clause_view ds.items) s
  list_comprehension_of x c cs s y d ds e f g =
      expr_view-ListComprehension x c cs s
      ∙ ap (λ q. tree.comprehension (tree.item (expr_at q)) (clauses_of c.value cs.items) s) e
      ∙ ap (λ q. tree.comprehension (tree.item (expr_at y)) (clauses_of q cs.items) s) f
      ∙ ap (λ q. tree.comprehension (tree.item (expr_at y)) (clauses_of d q.items) s) g
      ∙ ap (λ q. tree.comprehension (tree.item (expr_at y)) q s) (clauses_are d ds.items)

  pub dict_comprehension_of : (x : Box (Spanned (ExprP P L I A D T) × Spanned (ExprP P L I A D T)) Global) (c : Box (ForClauseP P L I A D T) Global) (cs : Vec (ClauseP P L I A D T) Global) (s : Extent) (y : Spanned (ExprP P L I A D T) × Spanned (ExprP P L I A D T)) (d : ForClauseP P L I A D T) (ds : Vec (ClauseP P L I A D T) Global) → x.value ≡ y → c.value ≡ d → cs ≡ ds → expr_view (expr.DictComprehension x c cs) s ≡ tree.comprehension (tree.pair (expr_at y.0) (expr_at y.1)) (made.clauses_of (tree.for_clause (target_at d.var) (expr_at d.over)) clause_view ds.items) s
  dict_comprehension_of x c cs s y d ds e f g =
      expr_view-DictComprehension x c cs s
      ∙ ap (λ q. tree.comprehension (tree.pair (expr_at q.0) (expr_at q.1)) (clauses_of c.value cs.items) s) e
      ∙ ap (λ q. tree.comprehension (tree.pair (expr_at y.0) (expr_at y.1)) (clauses_of q cs.items) s) f
      ∙ ap (λ q. tree.comprehension (tree.pair (expr_at y.0) (expr_at y.1)) (clauses_of d q.items) s) g
      ∙ ap (λ q. tree.comprehension (tree.pair (expr_at y.0) (expr_at y.1)) q s) (clauses_are d ds.items)

  type_as : (t : Option (Box (Spanned (TypeExprP P L I A D T)) Global)) → boxed_type t ≡ annotation_of boxed_type_at t
  type_as None = refl
  type_as (Some t) = refl

  pub def_of : (x : DefP P L I A D T) (s : Extent) (n : String Global) (u : Extent) (ps : Vec (Spanned (ParameterP P L I A D T)) Global) (t : Option (Box (Spanned (TypeExprP P L I A D T)) Global)) (a : Spanned (StmtP P L I A D T)) → x.name.node.ident ≡ n → x.name.span ≡ u → x.params ≡ ps → x.return_type ≡ t → x.body.value ≡ a → stmt_view (stmt.Def x) s ≡ tree.define (tree.name_at (string_bytes n) u) (members parameter_at ps.items) (annotation_of boxed_type_at t) (stmt_at a) s
  def_of x s n u ps t a e f g h i =
      stmt_view-Def x s ∙ view-def x s
      ∙ ap (λ q. tree.define (tree.name_at (string_bytes q) x.name.span) (members parameter_at x.params.items) (boxed_type x.return_type) (stmt_at x.body.value) s) e
      ∙ ap (λ q. tree.define (tree.name_at (string_bytes n) q) (members parameter_at x.params.items) (boxed_type x.return_type) (stmt_at x.body.value) s) f
      ∙ ap (λ q. tree.define (tree.name_at (string_bytes n) u) (members parameter_at q.items) (boxed_type x.return_type) (stmt_at x.body.value) s) g
      ∙ ap (λ q. tree.define (tree.name_at (string_bytes n) u) (members parameter_at ps.items) (boxed_type q) (stmt_at x.body.value) s) h
      ∙ ap (λ q. tree.define (tree.name_at (string_bytes n) u) (members parameter_at ps.items) (boxed_type t) (stmt_at q) s) i
      ∙ ap (λ q. tree.define (tree.name_at (string_bytes n) u) (members parameter_at ps.items) q (stmt_at a) s) (type_as t)

  pub fstring_of : (x : Spanned (FStringP P L I A D T)) (s : Extent) → expr_view (expr.FString x) s ≡ tree.fstring (string_bytes x.node.format.node) x.node.format.span (items_of x.node.expressions.items) x.span s
  fstring_of x s = expr_view-FString x s ∙ view-fstring x.node x.span s
