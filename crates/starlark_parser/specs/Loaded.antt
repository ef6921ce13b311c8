-- The loads at the top of a tree: the section "Modules" of docs/LANGUAGE.md.
use Rattle.std.specs.Prelude.{ℕ, List, [], ◌∷◌, ◌++◌, if◌then◌else◌}
use Rattle.std.specs.Str.{bytes_eq}
use Rattle.starlark_place.specs.Place.{File, FilePlace, file_place}
use Rattle.starlark_ast.specs.Tree as t
use Rattle.starlark_ast.specs.Tree.{Statement, Sequence, Symbols}

-- a name that a load binds, and what it stands for in the other module
pub record Binding : Type 0 where
  pub local : List ℕ
  pub their : List ℕ

-- one more: a name that is bound already keeps its place and stands for the later one
abbrev pub bound_too : List Binding → Binding → List Binding
bound_too [] b = b ∷ []
bound_too (x ∷ xs) b = if bytes_eq b.local x.local then record { local = x.local; their = b.their } ∷ xs else x ∷ bound_too xs b

-- what symbols bind, one after another
abbrev pub bindings : Symbols → List Binding
bindings t.no_symbols = []
bindings (t.add_symbol ss (t.symbol (t.name_at n u) (t.name_at m v)) c) = bound_too (bindings ss) (record { local = n; their = m })

-- a load: the name of the other module, where that stands, and what it binds
pub record Loaded : Type 0 where
  pub name : List ℕ
  pub at : FilePlace
  pub binds : List Binding

abbrev mutual
  -- the loads of the statements at the top of a file's tree, in order
  pub loads_in : File → Statement → List Loaded
  loads_in f (t.block ss s) = all_loads f ss
  loads_in f (t.load (t.name_at n u) ss s) = record { name = n; at = file_place f u; binds = bindings ss } ∷ []
  loads_in f (t.break s) = []
  loads_in f (t.continue s) = []
  loads_in f (t.pass s) = []
  loads_in f (t.return x s) = []
  loads_in f (t.expression x s) = []
  loads_in f (t.assign x a o y s) = []
  loads_in f (t.when x a s) = []
  loads_in f (t.either x a b s) = []
  loads_in f (t.repeat x y a s) = []
  loads_in f (t.define n ps a b s) = []

  pub all_loads : File → Sequence → List Loaded
  all_loads f t.no_statements = []
  all_loads f (t.add_statement ss a) = all_loads f ss ++ loads_in f a
