-- A number, and a literal, that holds nothing on the heap: a copy of it needs no memory.
use Rattle.starlark_lexer.specs.declared.token.TokenInt.{TokenInt}
use Rattle.starlark_lexer.specs.declared.token.TokenInt.TheVariants as number
use Rattle.starlark_ast.specs.declared.ast.AstLiteral.{AstLiteral}
use Rattle.starlark_ast.specs.declared.ast.AstLiteral.TheVariants as literal

abbrev pub IsSmall : TokenInt → Type 0
IsSmall (number.I32 n) = Unit {0}
IsSmall (number.BigInt digits negative radix) = ⊥

abbrev pub HoldsNothing : AstLiteral → Type 0
HoldsNothing (literal.Int n) = IsSmall n.node
HoldsNothing (literal.Float x) = ⊥
HoldsNothing (literal.String x) = ⊥
HoldsNothing (literal.Bytes x) = ⊥
HoldsNothing literal.Ellipsis = Unit {0}
