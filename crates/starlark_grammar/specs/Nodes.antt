-- How nodes are put together, with their places: the section "Spans" of docs/LANGUAGE.md.
use Rattle.std.specs.Prelude.{ℕ, List, [], ◌∷◌, Bool, false}
use Rattle.starlark_place.specs.Place.{Extent}
use Rattle.starlark_grammar.specs.Spans.{stretch}
use Rattle.starlark_lexer.specs.Items.{Item}
use Rattle.starlark_ast.specs.declared.ast.BinOp.{BinOp}
use Rattle.starlark_ast.specs.Tree.{Leaf, Stars, Expr, leaf, tuple, operation, Member, item, parameter, Members, none, more, Bound, Annotation, typed, Name, name_at, Statement, block, Sequence, no_statements, add_statement, place, statement_place}

-- where the first token begins
abbrev pub start : List Item → ℕ
start [] = 0
start (x ∷ xs) = x.begin

-- one token as an expression
abbrev pub leaf_at : Leaf → Extent → Expr
leaf_at l s = leaf l s s

-- a suffix begins where the expression before it does, and ends at e
abbrev pub from : Expr → ℕ → Extent
from x e = stretch (place x).begin e

-- an operation runs from its left operand to its right one
abbrev pub operated : Expr → BinOp → Expr → Expr
operated x o y = operation x o y (stretch (place x).begin (place y).end)

-- what stands in round brackets: the members that were read, whether a comma is behind the last, the place with the brackets and the one without them
abbrev pub grouped : Members → Bool → Extent → Extent → Expr
grouped none t outer inner = tuple none outer
grouped (more none (item x)) false outer inner = x
grouped ms t outer inner = tuple ms inner

-- a list without brackets, from its first token to its last: one expression is itself
abbrev pub targeted : Members → Extent → Expr
targeted (more none (item x)) s = x
targeted ms s = tuple ms s

-- a type has the place of its expression
abbrev pub type_at : Expr → Annotation
type_at x = typed x (place x)

-- a parameter with a name
abbrev pub named : Stars → Name → Annotation → Bound → Extent → Member
named k (name_at n t) a b s = parameter k n t a b s

-- where the first of some statements begins
abbrev pub first_begin : Sequence → ℕ
first_begin no_statements = 0
first_begin (add_statement no_statements s) = (statement_place s).begin
first_begin (add_statement (add_statement ss r) s) = first_begin (add_statement ss r)

-- Statements in a row, the last token behind which ends at e: one is itself, and none stand there.
abbrev pub block_of : Sequence → ℕ → Statement
block_of no_statements e = block no_statements (stretch e e)
block_of (add_statement no_statements s) e = s
block_of (add_statement (add_statement ss r) s) e = block (add_statement (add_statement ss r) s) (stretch (first_begin (add_statement ss r)) e)
