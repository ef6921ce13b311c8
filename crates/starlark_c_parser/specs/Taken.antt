-- What is told of a text.
use Rattle.std.specs.Prelude.{◌≡◌, ℕ, List, Bool, true, if◌then◌else◌, Option, Some, None}
use Rattle.std.specs.Bool.{MatchBool}
use Rattle.starlark_lexer.specs.declared.dialect.Dialect.{Dialect}
use Rattle.starlark_lexer.specs.declared.dialect.DialectTypes.TheVariants.{Disable, Enable}
use Rattle.starlark_ast.specs.Tree.{Statement}
use Rattle.starlark_grammar.specs.Language.{Fault, Language}
use Rattle.starlark_completion.specs.GoesOn.{IsRefusedText}
use Rattle.starlark_parser.specs.Modules.{dialect_of as dialect_read, file_of, tree_of}
use Rattle.starlark_parser.specs.declared.module.AstModule.{AstModule}
use Rattle.starlark_c_parser.specs.declared.switches.Switches.{Switches}

-- the dialect of these switches
abbrev pub dialect_of : Switches → Dialect
dialect_of s = record {
  enable_def = s.enable_def;
  enable_lambda = s.enable_lambda;
  enable_load = s.enable_load;
  enable_keyword_only_arguments = s.enable_keyword_only_arguments;
  enable_positional_only_arguments = s.enable_positional_only_arguments;
  enable_types = if s.enable_types then Enable else Disable;
  enable_load_reexport = true;
  enable_top_level_stmt = s.enable_top_level_stmt;
  enable_f_strings = s.enable_f_strings;
}

-- the text is in the language of that dialect
pub record HasTree (dialect : Dialect) (text : List ℕ) : Type 0 where
  pub tree : Statement
  pub language : Language dialect text tree

-- there is a reason why it is not
pub record HasFault (dialect : Dialect) (text : List ℕ) : Type 0 where
  pub fault : Fault
  pub refused : IsRefusedText dialect text fault

-- it is taken, or it is not
abbrev pub IsTaken : Dialect → List ℕ → Bool → Type 0
IsTaken dialect text taken = MatchBool taken (HasTree dialect text) (HasFault dialect text)

-- the module is that of the text
pub record IsModule (dialect : Dialect) (text : List ℕ) (m : AstModule) : Type 0 where
  pub source : (file_of m).source ≡ text
  pub switches : dialect_read m ≡ dialect
  pub tree : Language dialect text (tree_of m)

-- the module of the text, or none where it is not taken
abbrev pub IsRead : Dialect → List ℕ → Option AstModule → Type 0
IsRead dialect text (Some m) = IsModule dialect text m
IsRead dialect text None = HasFault dialect text
