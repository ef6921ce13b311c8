-- What a visitor does at nodes that it may write to: the nodes that it is called at, in order, and what it leaves there.
use Rattle.std.specs.Prelude.{◌≡◌, ◌⊎◌, List, [], ◌∷◌, Result, Ok, Err}
use Rattle.starlark_ast.specs.Nodes.{Node, expression, statement}
use Rattle.starlark_write.specs.declared.nodes_mut.VisitMutOf.{VisitMutOf}
use Rattle.starlark_write.specs.declared.nodes_mut.VisitMutOf.TheVariants as visit

-- the node that is lent
abbrev pub visited : {S X : Type 0} → VisitMutOf S X → Node S X
visited (visit.Stmt x) = statement x.now
visited (visit.Expr x) = expression x.now

module _ {V N : Type 0} (step : V → N → V → N → Type 0) where
  -- the visitor is called at each of these nodes, in order, leaves ys there, and is left as last
  abbrev pub NodesAll : V → List N → V → List N → Type 0
  NodesAll v [] last ys = (v ≡ last) × (ys ≡ [])
  NodesAll v (x ∷ xs) last [] = ⊥
  NodesAll v (x ∷ xs) last (y ∷ ys) = (mid : V) × step v x mid y × NodesAll mid xs last ys

  pub record NodesEach (v : V) (xs : List N) (last : V) (ys : List N) : Type 0 where
    pub told : NodesAll v xs last ys

module _ {V N E : Type 0} (step : V → N → Result (Unit {0}) E → V → N → Type 0) where
  -- the same up to the first Err, which is the answer; the nodes behind it stay
  abbrev pub NodesWhile : V → List N → Result (Unit {0}) E → V → List N → Type 0
  NodesWhile v [] result last ys = (result ≡ Ok tt) × (v ≡ last) × (ys ≡ [])
  NodesWhile v (x ∷ xs) result last [] = ⊥
  NodesWhile v (x ∷ xs) result last (y ∷ ys) = ((mid : V) × step v x (Ok tt) mid y × NodesWhile mid xs result last ys) ⊎ ((e : E) × step v x (Err e) last y × (result ≡ Err e) × (ys ≡ xs))

  pub record NodesUntil (v : V) (xs : List N) (result : Result (Unit {0}) E) (last : V) (ys : List N) : Type 0 where
    pub told : NodesWhile v xs result last ys
