-- The form of a statement, and how many statements stand in it: what the maps of statements go down by.
use Rattle.std.specs.Prelude.{ℕ, suc, ◌+◌}
use Rattle.starlark_ast.specs.declared.ast.StmtP.{StmtP, StmtP-F, fold-StmtP, out-StmtP}
use Rattle.starlark_ast.specs.declared.ast.DefP.{DefP, DefP-F, fold-DefP}
use Rattle.starlark_ast.specs.declared.ast.ForP.{ForP, ForP-F, fold-ForP}
use Rattle.starlark_ast.specs.declared.ast.StmtP.TheOpen as stmt
use Rattle.starlark_payload.specs.Weights.{known, node_weight, total}
use Rattle.starlark_payload.specs.declared.statement_nodes.StmtShape.{StmtShape}
use Rattle.starlark_payload.specs.declared.statement_nodes.StmtShape.TheVariants as form

module _ {P L I A D T : Type 0} where
  abbrev pub stmt_shape_layer : StmtP-F P L I A D T (StmtP P L I A D T) (DefP P L I A D T) (ForP P L I A D T) → StmtShape
  stmt_shape_layer stmt.Break = form.Plain
  stmt_shape_layer stmt.Continue = form.Plain
  stmt_shape_layer stmt.Pass = form.Plain
  stmt_shape_layer (stmt.Return x) = form.Return
  stmt_shape_layer (stmt.Expression x) = form.Expression
  stmt_shape_layer (stmt.Assign x) = form.Assign
  stmt_shape_layer (stmt.AssignModify lhs op rhs) = form.AssignModify
  stmt_shape_layer (stmt.Statements xs) = form.Statements
  stmt_shape_layer (stmt.If c x) = form.If
  stmt_shape_layer (stmt.IfElse c x) = form.IfElse
  stmt_shape_layer (stmt.For x) = form.For
  stmt_shape_layer (stmt.Def x) = form.Def
  stmt_shape_layer (stmt.Load x) = form.Load

  abbrev pub stmt_shape : StmtP P L I A D T → StmtShape
  stmt_shape x = stmt_shape_layer (out-StmtP P L I A D T x)

  -- of a statement: the statements below it
  abbrev pub stmt_weights : StmtP-F P L I A D T ℕ ℕ ℕ → ℕ
  stmt_weights stmt.Break = 0
  stmt_weights stmt.Continue = 0
  stmt_weights stmt.Pass = 0
  stmt_weights (stmt.Return x) = 0
  stmt_weights (stmt.Expression x) = 0
  stmt_weights (stmt.Assign x) = 0
  stmt_weights (stmt.AssignModify lhs op rhs) = 0
  stmt_weights (stmt.Statements xs) = suc (total (node_weight known) xs.items)
  stmt_weights (stmt.If c x) = suc x.value.node
  stmt_weights (stmt.IfElse c x) = suc (x.value.0.node + x.value.1.node)
  stmt_weights (stmt.For x) = suc x
  stmt_weights (stmt.Def x) = suc x
  stmt_weights (stmt.Load x) = 0

  abbrev pub def_weights : DefP-F P L I A D T ℕ ℕ ℕ → ℕ
  def_weights x = suc x.body.value.node

  abbrev pub for_weights : ForP-F P L I A D T ℕ ℕ ℕ → ℕ
  for_weights x = suc x.body.value.node

  abbrev pub stmt_weight : StmtP P L I A D T → ℕ
  stmt_weight = fold-StmtP P L I A D T _ _ _ stmt_weights def_weights for_weights

  abbrev pub def_weight : DefP P L I A D T → ℕ
  def_weight = fold-DefP P L I A D T _ _ _ stmt_weights def_weights for_weights

  abbrev pub for_weight : ForP P L I A D T → ℕ
  for_weight = fold-ForP P L I A D T _ _ _ stmt_weights def_weights for_weights
