-- The order of tokens, and of the items of an outline.
use Rattle.std.specs.Prelude.{◌≡◌, ◌<◌, ℕ, slice_index, Bool, true, false, List, [], ◌∷◌}
use Rattle.starlark_place.specs.Resolved.{IsBefore}
use Rattle.starlark_place.specs.declared.resolved.ResolvedPos.{ResolvedPos}
use Rattle.starlark_lexer.specs.Items.{Lexeme, newline, indent, dedent, fstring_text, fstring_expr_start, fstring_expr_end, fstring_bang, fstring_end, Item}
use Rattle.starlark_parts.specs.declared.word.OutlineItem.{OutlineItem}

-- what the layout of lines gives
abbrev pub is_layout : Lexeme → Bool
is_layout newline = true
is_layout indent = true
is_layout dedent = true
is_layout _ = false

-- each other item has bytes
abbrev pub HaveBytes : List Item → Type 0
HaveBytes [] = Unit {0}
HaveBytes (x ∷ xs) = (is_layout x.lexeme ≡ false → x.begin < x.end) × HaveBytes xs

-- what begins no statement: layout, and what stands in an f-string
abbrev pub is_inner : Lexeme → Bool
is_inner newline = true
is_inner indent = true
is_inner dedent = true
is_inner (fstring_text s) = true
is_inner fstring_expr_start = true
is_inner fstring_expr_end = true
is_inner fstring_bang = true
is_inner fstring_end = true
is_inner _ = false

-- the first byte of each other item is an ASCII byte
abbrev pub BeginPlainly : List ℕ → List Item → Type 0
BeginPlainly text [] = Unit {0}
BeginPlainly text (x ∷ xs) = (is_inner x.lexeme ≡ false → slice_index text x.begin < 128) × BeginPlainly text xs

-- it begins before each of these
abbrev pub BeforeAll : ResolvedPos → List OutlineItem → Type 0
BeforeAll a [] = Unit {0}
BeforeAll a (x ∷ xs) = IsBefore a x.begin × BeforeAll a xs

-- of each two of them the earlier begins before the later
abbrev pub AreOrdered : List OutlineItem → Type 0
AreOrdered [] = Unit {0}
AreOrdered (x ∷ xs) = BeforeAll x.begin xs × AreOrdered xs
