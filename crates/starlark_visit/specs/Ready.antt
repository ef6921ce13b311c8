-- What is asked of a visitor: that it is ready for each node in turn, as far as the calls before it go on.
use Rattle.std.specs.Prelude.{List, [], ◌∷◌, Result, Ok}

module _ {V N E : Type 0} (ready : V → N → Type 0) (step : V → N → Result (Unit {0}) E → V → Type 0) where
  -- it is ready for each of these, in order, up to the first Err
  abbrev pub ReadyWhile : V → List N → Type 0
  ReadyWhile v [] = Unit {0}
  ReadyWhile v (x ∷ xs) = ready v x × ((mid : V) → step v x (Ok tt) mid → ReadyWhile mid xs)

  pub record ReadyFor (v : V) (xs : List N) : Type 0 where
    pub told : ReadyWhile v xs
