-- The trees of two texts, alone and one behind the other.
use Rattle.std.specs.Prelude.{ℕ, ◌≡◌, ◌++◌, List, length}
use Rattle.starlark_lexer.specs.declared.dialect.Dialect.{Dialect}
use Rattle.starlark_ast.specs.Tree.{Sequence, Statement}
use Rattle.starlark_grammar.specs.Nodes.{block_of}
use Rattle.starlark_grammar.specs.Language.{Language}
use Rattle.starlark_joining.specs.Same.{SameSequence}
use Rattle.starlark_joining.specs.Joined.{behind}
use Rattle.starlark_joining.specs.Kept.{Kept, Moved, SameTops}

-- Both texts, one behind the other, are in the language. The statements of the first stay as they are, but for the last: it begins where it did, and each place in it that lies before the end of the first text stays. Behind them stand the statements of the second, moved on by the length of the first.
pub record AreJoined (dialect : Dialect) (a b : List ℕ) (first_tree second_tree : Statement) : Type 0 where
  pub tree : Statement
  pub language : Language dialect (a ++ b) tree
  pub first : Sequence
  pub first_there : Sequence
  pub second : Sequence
  pub second_there : Sequence
  pub first_end : ℕ
  pub second_end : ℕ
  pub end : ℕ
  pub is_first : first_tree ≡ block_of first first_end
  pub is_second : second_tree ≡ block_of second second_end
  pub is_both : tree ≡ block_of (behind first_there second_there) end
  pub stays : SameTops (Kept (length a)) first first_there
  pub moves : SameSequence (Moved (length a)) second second_there
