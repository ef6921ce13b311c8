-- What a visitor that writes does with a closure: the places that it is called at, in order, and what it leaves there.
use Rattle.std.specs.Prelude.{◌≡◌, ◌⊎◌, List, [], ◌∷◌, Result, Ok, Err}
use Rattle.std.specs.Borrow.{MutBor}
use Rattle.std.specs.Fn.{CalledAtMut, Mut}

module _ {F A : Type 0} (g : Mut F (MutBor A × Unit {0}) (Unit {0} × (MutBor A × Unit {0}))) where
  -- the closure is called at each of these places, in order, leaves ys there, and is left as last
  abbrev pub WritesAll : F → List A → F → List A → Type 0
  WritesAll f [] last ys = (f ≡ last) × (ys ≡ [])
  WritesAll f (x ∷ xs) last [] = ⊥
  WritesAll f (x ∷ xs) last (y ∷ ys) = (mid : F) × CalledAtMut g f x tt mid y × WritesAll mid xs last ys

  pub record WritesEach (f : F) (xs : List A) (last : F) (ys : List A) : Type 0 where
    pub told : WritesAll f xs last ys

module _ {F A E : Type 0} (g : Mut F (MutBor A × Unit {0}) (Result (Unit {0}) E × (MutBor A × Unit {0}))) where
  -- the same up to the first Err, which is the answer; the places behind it stay
  abbrev pub WritesWhile : F → List A → Result (Unit {0}) E → F → List A → Type 0
  WritesWhile f [] result last ys = (result ≡ Ok tt) × (f ≡ last) × (ys ≡ [])
  WritesWhile f (x ∷ xs) result last [] = ⊥
  WritesWhile f (x ∷ xs) result last (y ∷ ys) = ((mid : F) × CalledAtMut g f x (Ok tt) mid y × WritesWhile mid xs result last ys) ⊎ ((e : E) × CalledAtMut g f x (Err e) last y × (result ≡ Err e) × (ys ≡ xs))

  pub record WritesUntil (f : F) (xs : List A) (result : Result (Unit {0}) E) (last : F) (ys : List A) : Type 0 where
    pub told : WritesWhile f xs result last ys
