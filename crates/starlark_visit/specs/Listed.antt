-- The statements that lie together in one value that lends them.
use Rattle.std.specs.Prelude.{List, [], ◌∷◌}
use Rattle.starlark_visit.specs.declared.walk.StmtsBelow.{StmtsBelow}
use Rattle.starlark_visit.specs.declared.walk.StmtsBelow.TheVariants as below

abbrev pub listed : {S : Type 0} → StmtsBelow S → List S
listed below.Empty = []
listed (below.One x) = x.now ∷ []
listed (below.Two x y) = x.now ∷ y.now ∷ []
listed (below.Each xs) = xs.now
