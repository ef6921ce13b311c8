-- What a closure finds, called at one place behind the other.
use Rattle.std.proofs.Common.{◌≡◌, sym, ap, ◌∙◌, subst, List, [], ◌∷◌, ◌++◌, append_assoc, append-nil, flat_map, ℕ, inl, inr, Result, Ok, Err, OnOk}
use Rattle.std.specs.Borrow.{Bor}
use Rattle.std.specs.Fn.{Mut}
use Rattle.starlark_ast.specs.Calls.{CalledOn, CallsUntil, StopsAtErr, lent}
use Rattle.starlark_place.specs.declared.pos.Spanned.{Spanned}
use Rattle.starlark_rulebook.specs.declared.rule.Rule.{Rule}
use Rattle.starlark_rulebook.specs.Found.{Adds, findings}
use Rattle.starlark_rulebook.specs.Rules.{Finding}

pub ok_on : {A E T U : Type 0} (r : Result A E) → (T → U) → OnOk r T → OnOk r U
ok_on (Ok a) f h = f h
ok_on (Err e) f h = h

ok_at : {E : Type 0} {r : Result (Unit {0}) E} {T : Type 0} → r ≡ Ok tt → T → OnOk r T
ok_at {E} {r} {T} is h = subst (λ (q : Result (Unit {0}) E). OnOk q T) (sym is) h

ok_stays : (T : Type 0) {E : Type 0} {r : Result (Unit {0}) E} {e : E} → r ≡ Err e → OnOk r T
ok_stays T {E} {r} {e} is = subst (λ (q : Result (Unit {0}) E). OnOk q T) (sym is) tt

-- more is found behind what was
found_then : {E : Type 0} (r : Result (Unit {0}) E) (a b c x y : List Finding) → b ≡ a ++ x → OnOk r (c ≡ b ++ y) → OnOk r (c ≡ a ++ (x ++ y))
found_then r a b c x y first h = ok_on r (λ e. e ∙ ap (λ q. q ++ y) first ∙ append_assoc a x y) h

-- a closure k that finds these at each place, as long as it holds what I says
module _ {G A S E : Type 0} (k : Mut G (Bor A × Unit {0}) (Result (Unit {0}) E)) (read : G → S) (name : G → ℕ) (value : S → List Finding) (found : A → List Finding) (I : G → Type 0) (each : (p q : G) (x : A) (r : Result (Unit {0}) E) → I p → CalledOn lent k p x r q → OnOk r (value (read q) ≡ value (read p) ++ found x) × (name q ≡ name p) × I q) where
  carry : (xs : List A) (p q : G) (r : Result (Unit {0}) E) → I p → CallsUntil lent k p xs r q → OnOk r (value (read q) ≡ value (read p) ++ flat_map found xs) × (name q ≡ name p) × I q
  carry [] p q r i h = (ok_at h.0 (ap (λ s. value (read s)) (sym h.1) ∙ sym (append-nil (value (read p)))), ap name (sym h.1), subst I h.1 i)
  carry (x ∷ xs) p q r i h =
      elim h [
        | inl c ↦ (let one = each p c.0 x (Ok tt) i c.1 in let others = carry xs c.0 q r one.2 c.2 in (found_then r (value (read p)) (value (read c.0)) (value (read q)) (found x) (flat_map found xs) one.0 others.0, others.1 ∙ one.1, others.2))
        | inr c ↦ (let one = each p q x (Err c.0) i c.1 in (ok_stays _ c.2, one.1, one.2))
      ]

  -- where last is what it holds at the end: what is found
  pub found_in : {xs : List A} {p q : G} {r : Result (Unit {0}) E} (last : S) → StopsAtErr lent k p xs r q → I p → (name q ≡ name p → read q ≡ last) → OnOk r (value last ≡ value (read p) ++ flat_map found xs)
  found_in {xs} {p} {q} {r} last h i is =
      let all = carry xs p q r i h.told in
      subst (λ s. OnOk r (value s ≡ value (read p) ++ flat_map found xs)) (is all.1) all.0

  -- and what J says of it
  pub kept_in : {xs : List A} {p q : G} {r : Result (Unit {0}) E} (J : S → Type 0) (tells : (s : G) → I s → J (read s)) (last : S) → StopsAtErr lent k p xs r q → I p → (name q ≡ name p → read q ≡ last) → J last
  kept_in {xs} {p} {q} {r} J tells last h i is =
      let all = carry xs p q r i h.told in
      subst J (is all.1) (tells q all.2)

-- both, told first what k did
pub all_found : {G A S E : Type 0} {k : Mut G (Bor A × Unit {0}) (Result (Unit {0}) E)} {xs : List A} {p q : G} {r : Result (Unit {0}) E} → StopsAtErr lent k p xs r q → (read : G → S) (name : G → ℕ) (value : S → List Finding) (found : A → List Finding) (I : G → Type 0) (each : (p q : G) (x : A) (r : Result (Unit {0}) E) → I p → CalledOn lent k p x r q → OnOk r (value (read q) ≡ value (read p) ++ found x) × (name q ≡ name p) × I q) (last : S) → I p → (name q ≡ name p → read q ≡ last) → OnOk r (value last ≡ value (read p) ++ flat_map found xs)
all_found {G} {A} {S} {E} {k} {xs} {p} {q} {r} h read name value found I each last i is = found_in k read name value found I each last h i is

pub all_kept : {G A S E : Type 0} {k : Mut G (Bor A × Unit {0}) (Result (Unit {0}) E)} {xs : List A} {p q : G} {r : Result (Unit {0}) E} → StopsAtErr lent k p xs r q → (read : G → S) (name : G → ℕ) (value : S → List Finding) (found : A → List Finding) (I : G → Type 0) (J : S → Type 0) (each : (p q : G) (x : A) (r : Result (Unit {0}) E) → I p → CalledOn lent k p x r q → OnOk r (value (read q) ≡ value (read p) ++ found x) × (name q ≡ name p) × I q) (tells : (s : G) → I s → J (read s)) (last : S) → I p → (name q ≡ name p → read q ≡ last) → J last
all_kept {G} {A} {S} {E} {k} {xs} {p} {q} {r} h read name value found I J each tells last i is = kept_in k read name value found I each J tells last h i is

pub adds_on : {E : Type 0} (before after : List (Spanned Rule)) (r : Result (Unit {0}) E) (a b : List Finding) → a ≡ b → OnOk r (findings after ≡ findings before ++ a) → OnOk r (Adds before b after)
adds_on {E} before after r a b is h = ok_on r (λ e. record { all = e ∙ ap (λ q. findings before ++ q) is }) h
