-- What holds of all of a list, in its parts.
use Rattle.std.proofs.Common.{◌<◌, ◌++◌, ℕ, zero, suc, List, [], ◌∷◌, flat_map, get_or, length, arith}
use Rattle.std.specs.List.{All}
use Rattle.std.proofs.lemmas.List.Elements.{All-cons, All-head, All-nil, All-tail}

pub All-front : {A : Type 0} (P : A → Type 0) (xs ys : List A) → All P (xs ++ ys) → All P xs
All-front P [] ys h = All-nil P
All-front P (x ∷ xs) ys h = All-cons P x xs (All-head P x (xs ++ ys) h) (All-front P xs ys (All-tail P x (xs ++ ys) h))

pub All-back : {A : Type 0} (P : A → Type 0) (xs ys : List A) → All P (xs ++ ys) → All P ys
All-back P [] ys h = h
All-back P (x ∷ xs) ys h = All-back P xs ys (All-tail P x (xs ++ ys) h)

-- in what one of a list gives
pub All-flat_map : {X A : Type 0} (P : A → Type 0) (f : X → List A) (xs : List X) (i : ℕ) (d : X) → i < length xs → All P (flat_map f xs) → All P (f (get_or xs i d))
All-flat_map P f [] i d below h = absurd (omega (arith, below))
All-flat_map P f (x ∷ xs) zero d below h = All-front P (f x) (flat_map f xs) h
All-flat_map P f (x ∷ xs) (suc i) d below h = All-flat_map P f xs i d (omega (arith, below)) (All-back P (f x) (flat_map f xs) h)
