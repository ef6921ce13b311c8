-- Statements at the top of a tree, and their words: the section "Outlines" of docs/LANGUAGE.md.
use Rattle.std.specs.Prelude.{ℕ, List, [], ◌∷◌, ◌++◌, Option, Some, None, codes}
use Rattle.starlark_ast.specs.Tree as t
use Rattle.starlark_ast.specs.Tree.{Statement, Sequence}
use Rattle.starlark_parts.specs.declared.word.Word.{Word}
use Rattle.starlark_parts.specs.declared.word.Word.TheVariants as words

abbrev mutual
  -- the statements of a tree, with those of a list in its place, also of one in another
  pub top_level : Statement → List Statement
  top_level (t.block ss s) = all_top ss
  top_level (t.break s) = t.break s ∷ []
  top_level (t.continue s) = t.continue s ∷ []
  top_level (t.pass s) = t.pass s ∷ []
  top_level (t.return x s) = t.return x s ∷ []
  top_level (t.load m ss s) = t.load m ss s ∷ []
  top_level (t.expression x s) = t.expression x s ∷ []
  top_level (t.assign x a o y s) = t.assign x a o y s ∷ []
  top_level (t.when x a s) = t.when x a s ∷ []
  top_level (t.either x a b s) = t.either x a b s ∷ []
  top_level (t.repeat x y a s) = t.repeat x y a s ∷ []
  top_level (t.define n ps a b s) = t.define n ps a b s ∷ []

  pub all_top : Sequence → List Statement
  all_top t.no_statements = []
  all_top (t.add_statement ss a) = all_top ss ++ top_level a

-- The word of a statement. A `return`, a `break` and a `continue` have none: they are refused at the top of a text. Nor has a list.
abbrev pub word_of : Statement → Option Word
word_of (t.break s) = None
word_of (t.continue s) = None
word_of (t.pass s) = Some words.Pass
word_of (t.return x s) = None
word_of (t.load m ss s) = Some words.Load
word_of (t.expression x s) = Some words.Expression
word_of (t.assign x a None y s) = Some words.Assign
word_of (t.assign x a (Some o) y s) = Some words.Modify
word_of (t.when x a s) = Some words.If
word_of (t.either x a b s) = Some words.If
word_of (t.repeat x y a s) = Some words.For
word_of (t.define n ps a b s) = Some words.Def
word_of (t.block ss s) = None

-- how a word is written
abbrev pub word_text : Word → List ℕ
word_text words.Def = codes "def"
word_text words.Load = codes "load"
word_text words.Assign = codes "assign"
word_text words.Modify = codes "modify"
word_text words.If = codes "if"
word_text words.For = codes "for"
word_text words.Expression = codes "expression"
word_text words.Pass = codes "pass"
