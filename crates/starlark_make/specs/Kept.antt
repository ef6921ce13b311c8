-- Parts of a tree without payload as plain data.
use Rattle.std.specs.declared.alloc.Global.{Global}
use Rattle.std.specs.declared.boxed.Box.{Box}
use Rattle.starlark_place.specs.declared.pos.Spanned.{Spanned}
use Rattle.starlark_ast.specs.Tree as tree
use Rattle.starlark_ast.specs.View.{type_at}
use Rattle.starlark_ast.specs.declared.ast.TypeExprP.{TypeExprP}

module _ {P L I A D T : Type 0} where
  -- a type with its place
  abbrev pub boxed_type_at : Box (Spanned (TypeExprP P L I A D T)) Global → tree.Annotation
  boxed_type_at x = type_at x.value
