-- Where statements stand: the section "Modules" of docs/LANGUAGE.md.
use Rattle.std.specs.Prelude.{List, [], ◌∷◌, ◌++◌}
use Rattle.starlark_place.specs.Place.{Extent}
use Rattle.starlark_ast.specs.Tree as t
use Rattle.starlark_ast.specs.Tree.{Statement, Sequence}

abbrev mutual
  -- the places of all statements but lists, each before those in it
  pub locations : Statement → List Extent
  locations (t.break s) = s ∷ []
  locations (t.continue s) = s ∷ []
  locations (t.pass s) = s ∷ []
  locations (t.return x s) = s ∷ []
  locations (t.load m ss s) = s ∷ []
  locations (t.expression x s) = s ∷ []
  locations (t.assign x a o y s) = s ∷ []
  locations (t.when x a s) = s ∷ locations a
  locations (t.either x a b s) = s ∷ (locations a ++ locations b)
  locations (t.repeat x y a s) = s ∷ locations a
  locations (t.define n ps a b s) = s ∷ locations b
  locations (t.block ss s) = all_locations ss

  pub all_locations : Sequence → List Extent
  all_locations t.no_statements = []
  all_locations (t.add_statement ss a) = all_locations ss ++ locations a
