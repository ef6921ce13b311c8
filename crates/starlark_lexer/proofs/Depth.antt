use Rattle.std.proofs.Common.{◌≡◌, ◌≤◌, ℕ, ◌+◌, ◌-◌, List, [], ◌∷◌, take, refl, arith, zero, suc, inl, inr}
use Rattle.std.proofs.lemmas.Bool.{cases_lt}
use Rattle.starlark_lexer.specs.Depth.{Bracket, opens, closes, neither, openings, closings, IsDepth, deeper}

none : (k : ℕ) → openings (take k []) ≤ closings (take k []) + 0
none zero = omega arith
none (suc k) = omega arith

pub no_depth : IsDepth [] 0
no_depth = record { reached = (0, refl); most = λ k. none k }

most_opens : (xs : List Bracket) (d : ℕ) → IsDepth xs d → (k : ℕ) → openings (take k (opens ∷ xs)) ≤ closings (take k (opens ∷ xs)) + (d + 1)
most_opens xs d h zero = omega arith
most_opens xs d h (suc k) = omega (arith, h.most k)

most_closes : (xs : List Bracket) (d : ℕ) → IsDepth xs d → (k : ℕ) → openings (take k (closes ∷ xs)) ≤ closings (take k (closes ∷ xs)) + (d - 1)
most_closes xs d h zero = omega arith
most_closes xs d h (suc k) = omega (arith, h.most k)

most_neither : (xs : List Bracket) (d : ℕ) → IsDepth xs d → (k : ℕ) → openings (take k (neither ∷ xs)) ≤ closings (take k (neither ∷ xs)) + d
most_neither xs d h zero = omega arith
most_neither xs d h (suc k) = h.most k

reached_closes : (xs : List Bracket) (d : ℕ) → IsDepth xs d → (k : ℕ) × (openings (take k (closes ∷ xs)) ≡ closings (take k (closes ∷ xs)) + (d - 1))
reached_closes xs d h =
    elim (cases_lt 0 d) [ inl p ↦ (suc h.reached.0, omega (arith, h.reached.1)) | inr z ↦ (0, omega arith) ]

pub one_more : (x : Bracket) (xs : List Bracket) (d : ℕ) → IsDepth xs d → IsDepth (x ∷ xs) (deeper x d)
one_more opens xs d h = record { reached = (suc h.reached.0, omega (arith, h.reached.1)); most = most_opens xs d h }
one_more closes xs d h = record { reached = reached_closes xs d h; most = most_closes xs d h }
one_more neither xs d h = record { reached = (suc h.reached.0, h.reached.1); most = most_neither xs d h }

-- ---- as the code counts

abbrev pub depth_in : List Bracket → ℕ
depth_in [] = 0
depth_in (x ∷ xs) = deeper x (depth_in xs)

pub depth_is : (xs : List Bracket) → IsDepth xs (depth_in xs)
depth_is [] = no_depth
depth_is (x ∷ xs) = one_more x xs (depth_in xs) (depth_is xs)

pub one_depth : (xs : List Bracket) (d e : ℕ) → IsDepth xs d → IsDepth xs e → d ≡ e
one_depth xs d e a b = omega (arith, a.reached.1, b.most a.reached.0, b.reached.1, a.most b.reached.0)
