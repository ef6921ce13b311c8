-- What a line can begin with.
use Rattle.std.specs.Prelude.{List, [], ◌∷◌, Bool, true, false}
use Rattle.starlark_lexer.specs.Items.{Lexeme, dedent, Item}
use Rattle.starlark_read.specs.declared.kind.Kind.{Kind}
use Rattle.starlark_read.specs.declared.kind.Kind.TheVariants as kind

-- a line, blank or not, can begin there
abbrev pub begins_line : Lexeme → Bool
begins_line dedent = false
begins_line _ = true

abbrev pub line_ahead : List Item → Bool
line_ahead [] = false
line_ahead (x ∷ xs) = begins_line x.lexeme

-- the same by the kind
abbrev pub line_of : Kind → Bool
line_of kind.Dedent = false
line_of kind.End = false
line_of _ = true
