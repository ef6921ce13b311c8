-- Calls of a visitor at nodes, one list of nodes behind another.
use Rattle.std.proofs.Common.{◌≡◌, refl, sym, ap, ◌∙◌, subst, List, [], ◌∷◌, ◌++◌, map, ℕ, inl, inr, Result, Ok, Err}
use Rattle.std.specs.Borrow.{Bor}
use Rattle.std.specs.Fn.{Mut}
use Rattle.starlark_ast.specs.Calls.{CalledOn, CallsUntil, StopsAtErr, lent}
use Rattle.starlark_visit.proofs.GoesOn.{ok_not_err}
use Rattle.starlark_visit.specs.Steps.{StepsUntil, StepsWhile}

pub map_same : {A : Type 0} (xs : List A) → map (λ x. x) xs ≡ xs
map_same [] = refl
map_same (x ∷ xs) = ap (λ ys. x ∷ ys) (map_same xs)

module _ {V N E : Type 0} (step : V → N → Result (Unit {0}) E → V → Type 0) where
  one_call : {v last : V} {x : N} (r : Result (Unit {0}) E) → step v x r last → StepsUntil step v (x ∷ []) r last
  one_call {v} {last} (Ok u) h = record { told = inl (last, h, (refl, refl)) }
  one_call (Err e) h = record { told = inr (e, h, refl) }

  -- a call, whose answer is the answer
  pub steps_one : {v last : V} {x : N} {r : Result (Unit {0}) E} → step v x r last → StepsUntil step v (x ∷ []) r last
  steps_one {v} {last} {x} {r} h = one_call r h

  pub steps_at : {v last : V} {r : Result (Unit {0}) E} {xs ys : List N} → xs ≡ ys → StepsUntil step v ys r last → StepsUntil step v xs r last
  steps_at {v} {last} {r} {xs} {ys} is h = subst (λ (l : List N). StepsUntil step v l r last) (sym is) h

  and_then : (xs ys : List N) (v mid last : V) (s r : Result (Unit {0}) E) → StepsWhile step v xs s mid → s ≡ Ok tt → StepsUntil step mid ys r last → StepsUntil step v (xs ++ ys) r last
  and_then [] ys v mid last s r h ok k = subst (λ (p : V). StepsUntil step p ys r last) (sym h.1) k
  and_then (x ∷ xs) ys v mid last s r h ok k =
      elim h [ inl c ↦ record { told = inl (c.0, c.1, (and_then xs ys c.0 mid last s r c.2 ok k).told) } | inr c ↦ absurd (ok_not_err ok c.2) ]

  -- calls that go on
  pub steps_then : {v mid last : V} {s r : Result (Unit {0}) E} {xs ys : List N} → StepsUntil step v xs s mid → s ≡ Ok tt → StepsUntil step mid ys r last → StepsUntil step v (xs ++ ys) r last
  steps_then {v} {mid} {last} {s} {r} {xs} {ys} h ok k = and_then xs ys v mid last s r h.told ok k

  stops_in : (xs ys : List N) (v last : V) (s r : Result (Unit {0}) E) (e : E) → StepsWhile step v xs s last → s ≡ Err e → r ≡ Err e → StepsUntil step v (xs ++ ys) r last
  stops_in [] ys v last s r e h err out = absurd (ok_not_err h.0 err)
  stops_in (x ∷ xs) ys v last s r e h err out =
      elim h [ inl c ↦ record { told = inl (c.0, c.1, (stops_in xs ys c.0 last s r e c.2 err out).told) } | inr c ↦ record { told = inr (c.0, c.1, out ∙ (sym err ∙ c.2)) } ]

  -- calls that stop
  pub steps_stop : {v last : V} {s r : Result (Unit {0}) E} {e : E} {xs : List N} (ys : List N) → StepsUntil step v xs s last → s ≡ Err e → r ≡ Err e → StepsUntil step v (xs ++ ys) r last
  steps_stop {v} {last} {s} {r} {e} {xs} ys h err out = stops_in xs ys v last s r e h.told err out

  pub step_at : {A : Type 0} (node : A → N) {v w : V} {r : Result (Unit {0}) E} {x y : A} → x ≡ y → step v (node x) r w → step v (node y) r w
  step_at node {v} {w} {r} {x} {y} is h = subst (λ q. step v (node q) r w) is h

  -- a closure k that calls the visitor at what it is lent, as a node, and leaves it ready
  module _ {G A : Type 0} (k : Mut G (Bor A × Unit {0}) (Result (Unit {0}) E)) (value : G → V) (name : G → ℕ) (node : A → N) (ready : V → Type 0) (each : (p q : G) (x : A) (r : Result (Unit {0}) E) → CalledOn lent k p x r q → step (value p) (node x) r (value q) × ready (value q) × (name q ≡ name p)) where
    carry : (xs : List A) (p q : G) (r : Result (Unit {0}) E) → ready (value p) → CallsUntil lent k p xs r q → StepsWhile step (value p) (map node xs) r (value q) × ready (value q) × (name q ≡ name p)
    carry [] p q r can h = ((h.0, ap value h.1), subst (λ s. ready (value s)) h.1 can, ap name (sym h.1))
    carry (x ∷ xs) p q r can h =
        elim h [
          | inl c ↦ (let one = each p c.0 x (Ok tt) c.1 in let others = carry xs c.0 q r one.1 c.2 in (inl (value c.0, one.0, others.0), others.1, others.2 ∙ one.2))
          | inr c ↦ (let one = each p q x (Err c.0) c.1 in (inr (c.0, one.0, c.2), one.1, one.2))
        ]

    -- where last is what it holds at the end
    pub carried : {xs : List A} {p q : G} {r : Result (Unit {0}) E} (last : V) → ready (value p) → StopsAtErr lent k p xs r q → (name q ≡ name p → value q ≡ last) → StepsUntil step (value p) (map node xs) r last × ready last
    carried {xs} {p} {q} {r} last can h is =
        let all = carry xs p q r can h.told in
        (record { told = subst (λ (s : V). StepsWhile step (value p) (map node xs) r s) (is all.2) all.0 }, subst ready (is all.2) all.1)

-- what a visitor that holds a closure does, as calls of that closure
module _ {V F X N E : Type 0} (step : V → N → Result (Unit {0}) E → V → Type 0) (show : X → N) (g : Mut F (X × Unit {0}) (Result (Unit {0}) E)) (value : V → F) (name : V → ℕ) (each : (p q : V) (x : N) (r : Result (Unit {0}) E) → step p x r q → CalledOn show g (value p) x r (value q) × (name q ≡ name p)) where
  carry_by : (xs : List N) (p q : V) (r : Result (Unit {0}) E) → StepsWhile step p xs r q → CallsUntil show g (value p) xs r (value q) × (name q ≡ name p)
  carry_by [] p q r h = ((h.0, ap value h.1), ap name (sym h.1))
  carry_by (x ∷ xs) p q r h =
      elim h [
        | inl c ↦ (let one = each p c.0 x (Ok tt) c.1 in let others = carry_by xs c.0 q r c.2 in (inl (value c.0, one.0, others.0), others.1 ∙ one.1))
        | inr c ↦ (let one = each p q x (Err c.0) c.1 in (inr (c.0, one.0, c.2), one.1))
      ]

  -- where last is what it holds at the end
  pub carried_by : {xs : List N} {p q : V} {r : Result (Unit {0}) E} (last : F) → StepsUntil step p xs r q → (name q ≡ name p → value q ≡ last) → StopsAtErr show g (value p) xs r last × (value q ≡ last)
  carried_by {xs} {p} {q} {r} last h is =
      let all = carry_by xs p q r h.told in
      (record { told = subst (λ (s : F). CallsUntil show g (value p) xs r s) (is all.1) all.0 }, is all.1)
