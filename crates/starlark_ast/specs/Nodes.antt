-- Statements and expressions as one kind of node, and the nodes right below one, in order.
use Rattle.std.specs.Prelude.{List, [], ◌∷◌, ◌++◌, map}
use Rattle.starlark_ast.specs.Places.{E, children}
use Rattle.starlark_ast.specs.Statements.{S, def_places, exprs_below, stmts_below}
use Rattle.starlark_ast.specs.declared.ast.DefP.{DefP, out-DefP}
use Rattle.starlark_ast.specs.declared.ast.StmtP.{StmtP}

-- a statement or an expression, each with its place
pub data Node (S X : Type 0) : Type 0 where
  statement : S → Node S X
  expression : X → Node S X

module _ {P L I A D T : Type 0} where
  -- the nodes right below a statement: the expressions, then the statements
  abbrev pub nodes_below : StmtP P L I A D T → List (Node (S P L I A D T) (E P L I A D T))
  nodes_below x = map expression (exprs_below x) ++ map statement (stmts_below x)

  -- of a `def` the types and defaults of its parameters, the type of what it returns, and its body
  abbrev pub def_nodes : DefP P L I A D T → List (Node (S P L I A D T) (E P L I A D T))
  def_nodes x = map expression (def_places x) ++ statement (out-DefP P L I A D T x).body.value ∷ []

  -- the nodes right below a node
  abbrev pub below : Node (S P L I A D T) (E P L I A D T) → List (Node (S P L I A D T) (E P L I A D T))
  below (statement x) = nodes_below x.node
  below (expression x) = map expression (children x.node)
