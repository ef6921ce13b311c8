-- What a module holds.
use Rattle.std.specs.Prelude.{ℕ, Bool, List, codes}
use Rattle.std.specs.Str.{chars}
use Rattle.starlark_place.specs.Place.{Extent, File}
use Rattle.starlark_place.specs.Strings.{stands_in}
use Rattle.starlark_lexer.specs.declared.dialect.Dialect.{Dialect}
use Rattle.starlark_ast.specs.Tree.{Statement}
use Rattle.starlark_ast.specs.View.{stmt_at}
use Rattle.starlark_parser.specs.declared.module.AstModule.{AstModule}

-- its named text
abbrev pub file_of : AstModule → File
file_of m = m.codemap

-- its tree
abbrev pub tree_of : AstModule → Statement
tree_of m = stmt_at m.statement

-- the dialect that it was read in
abbrev pub dialect_of : AstModule → Dialect
dialect_of m = m.dialect

-- where its comments stand, and for each whether the lexeme right before it is a comment, too
abbrev pub comments_of : AstModule → List Extent
comments_of m = m.comments.places.items

abbrev pub joined_of : AstModule → List Bool
joined_of m = m.comments.joined.items

-- whether a text asks for its types to be checked
abbrev pub asks_for_types : List ℕ → Bool
asks_for_types text = stands_in (chars (codes "@starlark-rust: typecheck")) (chars text)
