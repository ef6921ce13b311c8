-- A closure that calls another one at places that its own place gives.
use Rattle.std.proofs.lemmas.List.{flat_map_more, take_more}
use Rattle.std.proofs.Math.Seq.{take-length}
use Rattle.std.proofs.Common.{◌≡◌, refl, sym, ap, ◌∙◌, subst, List, [], ◌∷◌, ◌++◌, append_assoc, flat_map, take, get_or, length, ℕ, ◌+◌, ◌<◌, inl, inr, Result, Ok, Err}
use Rattle.std.specs.Fn.{Called, Mut}
use denote.Param.Always.{always_mut, mut_next}
use Rattle.starlark_ast.specs.Calls.{CalledOn, CallsAll, CallsEach, CallsUntil, StopsAtErr}
use Rattle.starlark_visit.proofs.GoesOn.{err_not_ok}
use Rattle.starlark_visit.proofs.Until.{until_stop, until_then}

pub singles : {A : Type 0} (xs : List A) → flat_map (λ x. x ∷ []) xs ≡ xs
singles [] = refl
singles (x ∷ xs) = ap (λ ys. x ∷ ys) (singles xs)

module _ {F X A : Type 0} (show : X → A) (g : Mut F (X × Unit {0}) (Unit {0})) where
  pub all_more : (xs ys : List A) (f mid last : F) → CallsAll show g f xs mid → CallsAll show g mid ys last → CallsAll show g f (xs ++ ys) last
  all_more [] ys f mid last h k = subst (λ p. CallsAll show g p ys last) (sym h) k
  all_more (x ∷ xs) ys f mid last h k = (h.0, h.1, all_more xs ys h.0 mid last h.2 k)

  pub all_none : {f : F} → CallsEach show g f [] f
  all_none = record { told = refl }

  pub all_then : {f mid last : F} {y : X} {r : Unit {0}} {x : A} {xs : List A} → Called g f (y, tt) r mid → show y ≡ x → CallsEach show g mid xs last → CallsEach show g f (x ∷ xs) last
  all_then {f} {mid} {last} {y} {r} {x} {xs} h is rest = record { told = (mid, record { shown = y; shows = is; called = h }, rest.told) }

  pub all_at : {f last : F} {ys xs : List A} → ys ≡ xs → CallsEach show g f xs last → CallsEach show g f ys last
  all_at {f} {last} {ys} {xs} is h = subst (λ (zs : List A). CallsEach show g f zs last) (sym is) h

  pub all_both : {f mid last : F} {xs ys : List A} → CallsEach show g f xs mid → CallsEach show g mid ys last → CallsEach show g f (xs ++ ys) last
  all_both {f} {mid} {last} {xs} {ys} h k = record { told = all_more xs ys f mid last h.told k.told }

  -- the places of one more item, behind those before all
  pub all_one_more : {B : Type 0} (h : B → List A) (zs : List A) (xs : List B) (i : ℕ) (x : B) {f mid last : F} → i < length xs → x ≡ get_or xs i x → CallsEach show g f (zs ++ flat_map h (take i xs)) mid → CallsEach show g mid (h x) last → CallsEach show g f (zs ++ flat_map h (take (i + 1) xs)) last
  all_one_more h zs xs i x below is front here =
      all_at (ap (λ q. zs ++ flat_map h q) (take_more xs i x below ∙ ap (λ y. take i xs ++ y ∷ []) (sym is)) ∙ ap (λ q. zs ++ q) (sym (flat_map_more h [] (take i xs) x)) ∙ sym (append_assoc zs (flat_map h (take i xs)) (h x))) (all_both front here)

  -- those of all items
  pub all_items : {B : Type 0} (h : B → List A) (zs : List A) (xs : List B) (n : ℕ) {f last : F} → n ≡ length xs → CallsEach show g f (zs ++ flat_map h (take n xs)) last → CallsEach show g f (zs ++ flat_map h xs) last
  all_items h zs xs n whole front = all_at (ap (λ q. zs ++ flat_map h q) (sym (take-length xs) ∙ ap (λ m. take m xs) (sym whole))) front

  -- after calls it may be called still
  pub all_callable : (xs : List A) (f last : F) → always_mut g f → CallsAll show g f xs last → always_mut g last
  all_callable [] f last can h = subst (always_mut g) h can
  all_callable (x ∷ xs) f last can h = all_callable xs h.0 last (mut_next g f (h.1.shown, tt) tt h.0 h.0 h.1.called refl can) h.2

module _ {F X A E : Type 0} (show : X → A) (g : Mut F (X × Unit {0}) (Result (Unit {0}) E)) where
  pub until_callable : (xs : List A) (f last : F) (r : Result (Unit {0}) E) → always_mut g f → CallsUntil show g f xs r last → always_mut g last
  until_callable [] f last r can h = subst (always_mut g) h.1 can
  until_callable (x ∷ xs) f last r can h =
      elim h [
        | inl c ↦ until_callable xs c.0 last r (mut_next g f (c.1.shown, tt) (Ok tt) c.0 c.0 c.1.called refl can) c.2
        | inr c ↦ mut_next g f (c.1.shown, tt) (Err c.0) last last c.1.called refl can
      ]

-- k calls g, which goes on at each place, at those that places gives
module _ {F G X Y A B E : Type 0} (shown : X → A) (g : Mut F (X × Unit {0}) (Unit {0})) (show : Y → B) (k : Mut G (Y × Unit {0}) (Result (Unit {0}) E)) (value : G → F) (name : G → ℕ) (places : B → List A) (each : (p q : G) (y : B) (r : Result (Unit {0}) E) → CalledOn show k p y r q → (r ≡ Ok tt) × CallsAll shown g (value p) (places y) (value q) × (name q ≡ name p)) where
  lift : (ys : List B) (p q : G) (r : Result (Unit {0}) E) → CallsUntil show k p ys r q → CallsAll shown g (value p) (flat_map places ys) (value q) × (name q ≡ name p)
  lift [] p q r h = (ap value h.1, ap name (sym h.1))
  lift (y ∷ ys) p q r h =
      elim h [
        | inl c ↦ (let one = each p c.0 y (Ok tt) c.1 in let others = lift ys c.0 q r c.2 in (all_more shown g (places y) (flat_map places ys) (value p) (value c.0) (value q) one.1 others.0, others.1 ∙ one.2))
        | inr c ↦ absurd (err_not_ok refl (each p q y (Err c.0) c.1).0)
      ]

  -- where last is what it holds at the end
  pub lifted : (ys : List B) {xs : List A} {p q : G} (r : Result (Unit {0}) E) (last : F) → CallsUntil show k p ys r q → (name q ≡ name p → value q ≡ last) → flat_map places ys ≡ xs → CallsEach shown g (value p) xs last
  lifted ys {xs} {p} {q} r last h is all =
      let both = lift ys p q r h in
      record { told = subst (λ (s : F). CallsAll shown g (value p) xs s) (is both.1) (subst (λ zs. CallsAll shown g (value p) zs (value q)) all both.0) }

-- the same, told first what k did
pub lifted_on : {F G X Y A B E : Type 0} {show : Y → B} {k : Mut G (Y × Unit {0}) (Result (Unit {0}) E)} {ys : List B} {p q : G} {r : Result (Unit {0}) E} → StopsAtErr show k p ys r q → (shown : X → A) (g : Mut F (X × Unit {0}) (Unit {0})) (value : G → F) (name : G → ℕ) (places : B → List A) (each : (p q : G) (y : B) (r : Result (Unit {0}) E) → CalledOn show k p y r q → (r ≡ Ok tt) × CallsAll shown g (value p) (places y) (value q) × (name q ≡ name p)) {xs : List A} (last : F) → (name q ≡ name p → value q ≡ last) → flat_map places ys ≡ xs → CallsEach shown g (value p) xs last
lifted_on {F} {G} {X} {Y} {A} {B} {E} {show} {k} {ys} {p} {q} {r} h shown g value name places each last is all = lifted shown g show k value name places each ys r last h.told is all

-- the same where g answers as k does
module _ {F G X Y A B E : Type 0} (shown : X → A) (g : Mut F (X × Unit {0}) (Result (Unit {0}) E)) (show : Y → B) (k : Mut G (Y × Unit {0}) (Result (Unit {0}) E)) (value : G → F) (name : G → ℕ) (places : B → List A) (each : (p q : G) (y : B) (r : Result (Unit {0}) E) → CalledOn show k p y r q → StopsAtErr shown g (value p) (places y) r (value q) × (name q ≡ name p)) where
  pass : (ys : List B) (p q : G) (r : Result (Unit {0}) E) → CallsUntil show k p ys r q → StopsAtErr shown g (value p) (flat_map places ys) r (value q) × (name q ≡ name p)
  pass [] p q r h = (record { told = (h.0, ap value h.1) }, ap name (sym h.1))
  pass (y ∷ ys) p q r h =
      elim h [
        | inl c ↦ (let one = each p c.0 y (Ok tt) c.1 in let others = pass ys c.0 q r c.2 in (until_then shown g one.0 refl others.0, others.1 ∙ one.1))
        | inr c ↦ (let one = each p q y (Err c.0) c.1 in (until_stop shown g (flat_map places ys) one.0 refl c.2, one.1))
      ]

-- the same where last is what it holds at the end, told first what k did
pub stops_on : {F G X Y A B E : Type 0} {show : Y → B} {k : Mut G (Y × Unit {0}) (Result (Unit {0}) E)} {ys : List B} {p q : G} {r : Result (Unit {0}) E} → StopsAtErr show k p ys r q → (shown : X → A) (g : Mut F (X × Unit {0}) (Result (Unit {0}) E)) (value : G → F) (name : G → ℕ) (places : B → List A) (each : (p q : G) (y : B) (r : Result (Unit {0}) E) → CalledOn show k p y r q → StopsAtErr shown g (value p) (places y) r (value q) × (name q ≡ name p)) (last : F) → (name q ≡ name p → value q ≡ last) → StopsAtErr shown g (value p) (flat_map places ys) r last
stops_on {F} {G} {X} {Y} {A} {B} {E} {show} {k} {ys} {p} {q} {r} h shown g value name places each last is =
    let both = pass shown g show k value name places each ys p q r h.told in
    subst (λ (s : F). StopsAtErr shown g (value p) (flat_map places ys) r s) (is both.1) both.0
