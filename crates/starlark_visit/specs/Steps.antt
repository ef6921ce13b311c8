-- What a visitor of nodes does: the nodes that it is called at, in order.
use Rattle.std.specs.Prelude.{◌≡◌, ◌⊎◌, List, [], ◌∷◌, Result, Ok, Err}

module _ {V N E : Type 0} (step : V → N → Result (Unit {0}) E → V → Type 0) where
  -- the visitor is called at each of these nodes, in order, up to the first Err, which is the answer, and is left as last
  abbrev pub StepsWhile : V → List N → Result (Unit {0}) E → V → Type 0
  StepsWhile v [] result last = (result ≡ Ok tt) × (v ≡ last)
  StepsWhile v (x ∷ xs) result last = ((mid : V) × step v x (Ok tt) mid × StepsWhile mid xs result last) ⊎ ((e : E) × step v x (Err e) last × (result ≡ Err e))

  pub record StepsUntil (v : V) (xs : List N) (result : Result (Unit {0}) E) (last : V) : Type 0 where
    pub told : StepsWhile v xs result last
