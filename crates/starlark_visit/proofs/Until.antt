-- Calls of a closure up to the first Err, one list of places behind another.
use Rattle.std.proofs.lemmas.Grind.{flat_map-append}
use Rattle.std.proofs.lemmas.List.{flat_map_more, take_more, take-append-drop}
use Rattle.std.proofs.Common.{flat_map, take, drop, get_or, length, ℕ, ◌+◌, ◌<◌, ◌≡◌, refl, sym, ap, ◌∙◌, subst, List, [], ◌∷◌, ◌++◌, inl, inr, Result, Ok, Err}
use Rattle.std.specs.Fn.{Called, Mut}
use Rattle.starlark_ast.specs.Calls.{StopsAtErr, CallsUntil}
use Rattle.starlark_visit.proofs.GoesOn.{ok_not_err}

module _ {F X A E : Type 0} (show : X → A) (g : Mut F (X × Unit {0}) (Result (Unit {0}) E)) where
  pub until_none : {f : F} {r : Result (Unit {0}) E} → r ≡ Ok tt → StopsAtErr show g f [] r f
  until_none h = record { told = (h, refl) }

  -- a call that goes on
  pub until_ok : {f mid last : F} {y : X} {s r : Result (Unit {0}) E} {x : A} {xs : List A} → Called g f (y, tt) s mid → s ≡ Ok tt → show y ≡ x → StopsAtErr show g mid xs r last → StopsAtErr show g f (x ∷ xs) r last
  until_ok {f} {mid} {last} {y} {s} {r} {x} {xs} h ok is rest =
      record { told = inl (mid, record { shown = y; shows = is; called = subst (λ (t : Result (Unit {0}) E). Called g f (y, tt) t mid) ok h }, rest.told) }

  -- the call that stops
  pub until_err : {f last : F} {y : X} {s r : Result (Unit {0}) E} {e : E} {x : A} {xs : List A} → Called g f (y, tt) s last → s ≡ Err e → r ≡ Err e → show y ≡ x → StopsAtErr show g f (x ∷ xs) r last
  until_err {f} {last} {y} {s} {r} {e} {x} {xs} h err out is =
      record { told = inr (e, record { shown = y; shows = is; called = subst (λ (t : Result (Unit {0}) E). Called g f (y, tt) t last) err h }, out) }

  last_call : {f last : F} {y : X} {x : A} (s : Result (Unit {0}) E) → Called g f (y, tt) s last → show y ≡ x → StopsAtErr show g f (x ∷ []) s last
  last_call (Ok u) h is = until_ok h refl is (until_none refl)
  last_call (Err e) h is = until_err h refl refl is

  -- a last call, whose answer is the answer
  pub until_last : {f last : F} {y : X} {s : Result (Unit {0}) E} {x : A} → Called g f (y, tt) s last → show y ≡ x → StopsAtErr show g f (x ∷ []) s last
  until_last {f} {last} {y} {s} {x} h is = last_call s h is

  pub until_at : {f last : F} {ys xs : List A} {r : Result (Unit {0}) E} → ys ≡ xs → StopsAtErr show g f xs r last → StopsAtErr show g f ys r last
  until_at {f} {last} {ys} {xs} {r} is h = subst (λ (zs : List A). StopsAtErr show g f zs r last) (sym is) h

  -- calls that go on
  and_then : (xs ys : List A) (f mid last : F) (s r : Result (Unit {0}) E) → CallsUntil show g f xs s mid → s ≡ Ok tt → StopsAtErr show g mid ys r last → StopsAtErr show g f (xs ++ ys) r last
  and_then [] ys f mid last s r h ok k = subst (λ (p : F). StopsAtErr show g p ys r last) (sym h.1) k
  and_then (x ∷ xs) ys f mid last s r h ok k =
      elim h [ inl c ↦ record { told = inl (c.0, c.1, (and_then xs ys c.0 mid last s r c.2 ok k).told) } | inr c ↦ absurd (ok_not_err ok c.2) ]

  pub until_then : {f mid last : F} {s r : Result (Unit {0}) E} {xs ys : List A} → StopsAtErr show g f xs s mid → s ≡ Ok tt → StopsAtErr show g mid ys r last → StopsAtErr show g f (xs ++ ys) r last
  until_then {f} {mid} {last} {s} {r} {xs} {ys} h ok k = and_then xs ys f mid last s r h.told ok k

  stops_in : (xs ys : List A) (f last : F) (s r : Result (Unit {0}) E) (e : E) → CallsUntil show g f xs s last → s ≡ Err e → r ≡ Err e → StopsAtErr show g f (xs ++ ys) r last
  stops_in [] ys f last s r e h err out = absurd (ok_not_err h.0 err)
  stops_in (x ∷ xs) ys f last s r e h err out =
      elim h [ inl c ↦ record { told = inl (c.0, c.1, (stops_in xs ys c.0 last s r e c.2 err out).told) } | inr c ↦ record { told = inr (c.0, c.1, out ∙ (sym err ∙ c.2)) } ]

  -- calls that stop
  pub until_stop : {f last : F} {s r : Result (Unit {0}) E} {e : E} {xs : List A} (ys : List A) → StopsAtErr show g f xs s last → s ≡ Err e → r ≡ Err e → StopsAtErr show g f (xs ++ ys) r last
  until_stop {f} {last} {s} {r} {e} {xs} ys h err out = stops_in xs ys f last s r e h.told err out

  -- the places of one more item
  pub until_more : {B : Type 0} (h : B → List A) (xs : List B) (i : ℕ) (x : B) {f mid last : F} {s r : Result (Unit {0}) E} → i < length xs → x ≡ get_or xs i x → StopsAtErr show g f (flat_map h (take i xs)) (Ok tt) mid → StopsAtErr show g mid (h x) s last → s ≡ r → StopsAtErr show g f (flat_map h (take (i + 1) xs)) r last
  until_more h xs i x {f} {mid} {last} {s} {r} below is front here answer =
      until_at (ap (flat_map h) (take_more xs i x below ∙ ap (λ y. take i xs ++ y ∷ []) (sym is)) ∙ sym (flat_map_more h [] (take i xs) x)) (until_then front refl (subst (λ (t : Result (Unit {0}) E). StopsAtErr show g mid (h x) t last) answer here))

  -- calls that stop before all items
  pub until_front : {B : Type 0} (h : B → List A) (xs : List B) (n : ℕ) {f last : F} {s r : Result (Unit {0}) E} {e : E} → StopsAtErr show g f (flat_map h (take n xs)) s last → s ≡ Err e → r ≡ Err e → StopsAtErr show g f (flat_map h xs) r last
  until_front h xs n {f} {last} {s} {r} {e} front err out =
      until_at (ap (flat_map h) (sym (take-append-drop n xs)) ∙ flat_map-append h (take n xs) (drop n xs)) (until_stop (flat_map h (drop n xs)) front err out)
