-- Calls of a closure that writes, one list of places behind another.
use Rattle.std.proofs.Common.{◌≡◌, refl, sym, ◌∙◌, subst, List, [], ◌∷◌, ◌++◌, inl, inr, Result, Ok, Err}
use Rattle.std.specs.Borrow.{MutBor}
use Rattle.std.specs.Fn.{Called, Mut}
use Rattle.starlark_visit.proofs.GoesOn.{ok_not_err}
use Rattle.starlark_write.specs.Writing.{WritesUntil, WritesWhile}

pub nil_not_cons : {A : Type 0} {y : A} {ys : List A} → (y ∷ ys) ≡ [] → ⊥
nil_not_cons h = cc

module _ {F A E : Type 0} (g : Mut F (MutBor A × Unit {0}) (Result (Unit {0}) E × (MutBor A × Unit {0}))) where
  pub writes_none : {f : F} {r : Result (Unit {0}) E} → r ≡ Ok tt → WritesUntil g f [] r f []
  writes_none h = record { told = (h, refl, refl) }

  -- a call that goes on
  pub writes_ok : {f mid last : F} {v w : MutBor A} {s r : Result (Unit {0}) E} {x y : A} {xs ys : List A} → Called g f (v, tt) (s, (w, tt)) mid → s ≡ Ok tt → v.now ≡ x → w.now ≡ y → WritesUntil g mid xs r last ys → WritesUntil g f (x ∷ xs) r last (y ∷ ys)
  writes_ok {f} {mid} {last} {v} {w} {s} {r} {x} {y} {xs} {ys} h ok is left rest =
      record { told = inl (mid, record { shown = v; shows = is; left = w; called = subst (λ (t : Result (Unit {0}) E). Called g f (v, tt) (t, (w, tt)) mid) ok h; leaves = left }, rest.told) }

  -- the call that stops
  pub writes_err : {f last : F} {v w : MutBor A} {s r : Result (Unit {0}) E} {e : E} {x y : A} {xs : List A} → Called g f (v, tt) (s, (w, tt)) last → s ≡ Err e → r ≡ Err e → v.now ≡ x → w.now ≡ y → WritesUntil g f (x ∷ xs) r last (y ∷ xs)
  writes_err {f} {last} {v} {w} {s} {r} {e} {x} {y} {xs} h err out is left =
      record { told = inr (e, record { shown = v; shows = is; left = w; called = subst (λ (t : Result (Unit {0}) E). Called g f (v, tt) (t, (w, tt)) last) err h; leaves = left }, out, refl) }

  last_call : {f last : F} {v w : MutBor A} {x y : A} (s : Result (Unit {0}) E) → Called g f (v, tt) (s, (w, tt)) last → v.now ≡ x → w.now ≡ y → WritesUntil g f (x ∷ []) s last (y ∷ [])
  last_call (Ok u) h is left = writes_ok h refl is left (writes_none refl)
  last_call (Err e) h is left = writes_err h refl refl is left

  -- a last call, whose answer is the answer
  pub writes_last : {f last : F} {v w : MutBor A} {s : Result (Unit {0}) E} {x y : A} → Called g f (v, tt) (s, (w, tt)) last → v.now ≡ x → w.now ≡ y → WritesUntil g f (x ∷ []) s last (y ∷ [])
  writes_last {f} {last} {v} {w} {s} {x} {y} h is left = last_call s h is left

  pub writes_at : {f last : F} {r : Result (Unit {0}) E} {xs ys zs ws : List A} → xs ≡ zs → ys ≡ ws → WritesUntil g f zs r last ws → WritesUntil g f xs r last ys
  writes_at {f} {last} {r} {xs} {ys} {zs} {ws} is are h = subst (λ (l : List A). WritesUntil g f l r last ys) (sym is) (subst (λ (l : List A). WritesUntil g f zs r last l) (sym are) h)

  -- calls that go on
  and_then : (xs ys zs ws : List A) (f mid last : F) (s r : Result (Unit {0}) E) → WritesWhile g f xs s mid ys → s ≡ Ok tt → WritesUntil g mid zs r last ws → WritesUntil g f (xs ++ zs) r last (ys ++ ws)
  and_then [] [] zs ws f mid last s r h ok k = subst (λ (p : F). WritesUntil g p zs r last ws) (sym h.1) k
  and_then [] (y ∷ ys) zs ws f mid last s r h ok k = absurd (nil_not_cons h.2)
  and_then (x ∷ xs) [] zs ws f mid last s r h ok k = absurd h
  and_then (x ∷ xs) (y ∷ ys) zs ws f mid last s r h ok k =
      elim h [ inl c ↦ record { told = inl (c.0, c.1, (and_then xs ys zs ws c.0 mid last s r c.2 ok k).told) } | inr c ↦ absurd (ok_not_err ok c.2) ]

  pub writes_then : {f mid last : F} {s r : Result (Unit {0}) E} {xs ys zs ws : List A} → WritesUntil g f xs s mid ys → s ≡ Ok tt → WritesUntil g mid zs r last ws → WritesUntil g f (xs ++ zs) r last (ys ++ ws)
  writes_then {f} {mid} {last} {s} {r} {xs} {ys} {zs} {ws} h ok k = and_then xs ys zs ws f mid last s r h.told ok k

  stops_in : (xs ys zs : List A) (f last : F) (s r : Result (Unit {0}) E) (e : E) → WritesWhile g f xs s last ys → s ≡ Err e → r ≡ Err e → WritesUntil g f (xs ++ zs) r last (ys ++ zs)
  stops_in [] ys zs f last s r e h err out = absurd (ok_not_err h.0 err)
  stops_in (x ∷ xs) [] zs f last s r e h err out = absurd h
  stops_in (x ∷ xs) (y ∷ ys) zs f last s r e h err out =
      elim h [
        | inl c ↦ record { told = inl (c.0, c.1, (stops_in xs ys zs c.0 last s r e c.2 err out).told) }
        | inr c ↦ record { told = inr (c.0, c.1, out ∙ (sym err ∙ c.2), subst (λ (l : List A). (l ++ zs) ≡ (xs ++ zs)) (sym c.3) refl) }
      ]

  -- calls that stop
  pub writes_stop : {f last : F} {s r : Result (Unit {0}) E} {e : E} {xs ys : List A} (zs : List A) → WritesUntil g f xs s last ys → s ≡ Err e → r ≡ Err e → WritesUntil g f (xs ++ zs) r last (ys ++ zs)
  writes_stop {f} {last} {s} {r} {e} {xs} {ys} zs h err out = stops_in xs ys zs f last s r e h.told err out
