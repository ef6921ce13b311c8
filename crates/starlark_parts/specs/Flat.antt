-- What a tree of a text is like at its top.
use Rattle.std.specs.Prelude.{◌≡◌, Bool, true, false, IsSome}
use Rattle.std.specs.List.{All}
use Rattle.starlark_ast.specs.Tree as t
use Rattle.starlark_ast.specs.Tree.{Statement, Sequence}
use Rattle.starlark_parts.specs.Tops.{top_level, word_of}

abbrev pub is_list : Statement → Bool
is_list (t.block ss s) = true
is_list _ = false

abbrev pub AllIn : (Statement → Type 0) → Sequence → Type 0
AllIn P t.no_statements = Unit {0}
AllIn P (t.add_statement ss a) = AllIn P ss × P a

-- one statement, or a list of statements that are no lists
abbrev pub IsRow : Statement → Type 0
IsRow (t.block ss s) = AllIn (λ a. is_list a ≡ false) ss
IsRow _ = Unit {0}

-- one line, or a list of lines
abbrev pub AreRows : Statement → Type 0
AreRows (t.block ss s) = AllIn IsRow ss
AreRows _ = Unit {0}

-- The tree is one line, or a list of lines; and a line is one statement, or a list of statements that are no lists.
pub record IsFlat (tree : Statement) : Type 0 where
  pub rows : AreRows tree

-- Each statement at the top has a word.
pub record AreWorded (tree : Statement) : Type 0 where
  pub words : All (λ s. IsSome (word_of s)) (top_level tree)
