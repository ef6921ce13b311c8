-- What the types of the code print: the texts of their plain data, which are the same at each place.
use Rattle.std.specs.Prelude.{ℕ, List, [], ◌++◌, codes, if◌then◌else◌, nat_eq}
use Rattle.starlark_place.specs.Place.{Extent, extent}
use Rattle.starlark_ast.specs.Printing.{expr_text}
use Rattle.starlark_ast.specs.Tree.{Bound, absent, present, Annotation, untyped, typed}
use Rattle.starlark_ast.specs.View.{literal_view}
use Rattle.starlark_ast.specs.declared.ast.AstLiteral.{AstLiteral}

-- the place of what is printed by itself
abbrev pub nowhere : Extent
nowhere = extent 0 0

abbrev pub literal_shown : AstLiteral → List ℕ
literal_shown x = expr_text (literal_view x nowhere)

-- behind the members of a tuple
abbrev pub tuple_end : ℕ → List ℕ
tuple_end n = if nat_eq n 1 then codes ",)" else codes ")"

-- an expression, or a type, behind a text; nothing where it is not there
abbrev pub behind : List ℕ → Bound → List ℕ
behind before absent = []
behind before (present x) = before ++ expr_text x

abbrev pub type_behind : List ℕ → Annotation → List ℕ
type_behind before untyped = []
type_behind before (typed x t) = before ++ expr_text x
