-- Between the left side of an assignment and its operator.
use Rattle.std.specs.Prelude.{ℕ, ◌≢◌, List, [], ◌∷◌, Option, Some, None}
use Rattle.starlark_lexer.specs.Items.{Item, comma, colon}
use Rattle.starlark_lexer.specs.declared.dialect.Dialect.{Dialect}
use Rattle.starlark_ast.specs.declared.ast.AssignOp.{AssignOp}
use Rattle.starlark_ast.specs.Tree as tree
use Rattle.starlark_ast.specs.Tree.{Annotation, Expr, typed, untyped}
use Rattle.starlark_grammar.specs.Tables.{assigner}
use Rattle.starlark_grammar.specs.Frames.{Line, annotation, left, listed, spot, State, has}
use Rattle.starlark_read.specs.Reads.{IsType, first_lexeme}

-- the operation of an operator that assigns
abbrev pub operation_of : Option (Option AssignOp) → Option AssignOp
operation_of None = None
operation_of (Some o) = o

-- the operation of the operator that the tokens begin with, if it is one that assigns and not `=`
abbrev pub assign_op_ahead : List Item → Option AssignOp
assign_op_ahead [] = None
assign_op_ahead (x ∷ xs) = operation_of (assigner x.lexeme)

-- behind the left side l of a statement that begins at p, and behind its type, if it has one, which ends at e
abbrev pub behind_left : Expr → Annotation → ℕ → ℕ → Line → State
behind_left l untyped e p k = has l e (listed tree.none p (left p k))
behind_left l (typed t s) e p k = has t e (spot (annotation l p k))

-- nothing but an operator can go on: the type is right, or there is none and the tokens begin with no comma and no colon
abbrev pub IsWhole : Dialect → Annotation → List Item → Type 0
IsWhole d untyped xs = (first_lexeme xs ≢ Some comma) × (first_lexeme xs ≢ Some colon)
IsWhole d (typed t s) xs = IsType d (typed t s)
