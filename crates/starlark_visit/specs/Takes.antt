-- What a visitor asks of a closure: that it may be called at each place in turn, as far as the calls before it go on.
use Rattle.std.specs.Prelude.{◌≡◌, List, [], ◌∷◌, Result, Ok}
use Rattle.std.specs.Fn.{Mut}
use Rattle.starlark_ast.specs.Calls.{CalledOn}

module _ {F X A E : Type 0} (show : X → A) (g : Mut F (X × Unit {0}) (Result (Unit {0}) E)) where
  -- it may be called at this place
  abbrev pub MayCall : F → A → Type 0
  MayCall f x = (shown : X) → show shown ≡ x → g.pre f (shown, tt)

  -- it may be called at each of these, in order, up to the first Err
  abbrev pub TakesWhile : F → List A → Type 0
  TakesWhile f [] = Unit {0}
  TakesWhile f (x ∷ xs) = MayCall f x × ((mid : F) → CalledOn show g f x (Ok tt) mid → TakesWhile mid xs)

  pub record Takes (f : F) (xs : List A) : Type 0 where
    pub told : TakesWhile f xs
