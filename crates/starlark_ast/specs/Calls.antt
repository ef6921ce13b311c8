-- What a visitor does with a closure: the places that it is called at, in order. A closure takes what lends a place, and `show` says which.
use Rattle.std.specs.Prelude.{◌≡◌, ◌⊎◌, List, [], ◌∷◌, Result, Ok, Err}
use Rattle.std.specs.Borrow.{Bor}
use Rattle.std.specs.Fn.{Called, Mut}

-- the place that a reference lends
abbrev pub lent : {A : Type 0} → Bor A → A
lent x = x.now

module _ {F X A R : Type 0} (show : X → A) (g : Mut F (X × Unit {0}) R) where
  -- a call at this place answers r, and leaves last
  pub record CalledOn (f : F) (x : A) (r : R) (last : F) : Type 0 where
    pub shown : X
    pub shows : show shown ≡ x
    pub called : Called g f (shown, tt) r last

module _ {F X A : Type 0} (show : X → A) (g : Mut F (X × Unit {0}) (Unit {0})) where
  -- the closure is called at each of these places, in order, and is left as last
  abbrev pub CallsAll : F → List A → F → Type 0
  CallsAll f [] last = f ≡ last
  CallsAll f (x ∷ xs) last = (mid : F) × CalledOn show g f x tt mid × CallsAll mid xs last

  pub record CallsEach (f : F) (xs : List A) (last : F) : Type 0 where
    pub told : CallsAll f xs last

module _ {F X A E : Type 0} (show : X → A) (g : Mut F (X × Unit {0}) (Result (Unit {0}) E)) where
  -- the same up to the first Err, which is the answer
  abbrev pub CallsUntil : F → List A → Result (Unit {0}) E → F → Type 0
  CallsUntil f [] result last = (result ≡ Ok tt) × (f ≡ last)
  CallsUntil f (x ∷ xs) result last = ((mid : F) × CalledOn show g f x (Ok tt) mid × CallsUntil mid xs result last) ⊎ ((e : E) × CalledOn show g f x (Err e) last × (result ≡ Err e))

  pub record StopsAtErr (f : F) (xs : List A) (result : Result (Unit {0}) E) (last : F) : Type 0 where
    pub told : CallsUntil f xs result last
