-- Calls of a closure that writes and always goes on, one list of places behind another.
use Rattle.std.proofs.Common.{◌≡◌, refl, sym, subst, List, [], ◌∷◌, ◌++◌}
use Rattle.std.specs.Borrow.{MutBor}
use Rattle.std.specs.Fn.{Called, Mut}
use Rattle.starlark_write.specs.Writing.{WritesAll, WritesEach}
use Rattle.starlark_write.proofs.Writes.{nil_not_cons}

module _ {F A : Type 0} (g : Mut F (MutBor A × Unit {0}) (Unit {0} × (MutBor A × Unit {0}))) where
  pub each_none : {f : F} → WritesEach g f [] f []
  each_none = record { told = (refl, refl) }

  pub each_call : {f mid last : F} {v w : MutBor A} {x y : A} {xs ys : List A} → Called g f (v, tt) (tt, (w, tt)) mid → v.now ≡ x → w.now ≡ y → WritesEach g mid xs last ys → WritesEach g f (x ∷ xs) last (y ∷ ys)
  each_call {f} {mid} {last} {v} {w} {x} {y} {xs} {ys} h is left rest =
      record { told = (mid, record { shown = v; shows = is; left = w; called = h; leaves = left }, rest.told) }

  pub each_at : {f last : F} {xs ys zs ws : List A} → xs ≡ zs → ys ≡ ws → WritesEach g f zs last ws → WritesEach g f xs last ys
  each_at {f} {last} {xs} {ys} {zs} {ws} is are h = subst (λ (l : List A). WritesEach g f l last ys) (sym is) (subst (λ (l : List A). WritesEach g f zs last l) (sym are) h)

  and_then : (xs ys zs ws : List A) (f mid last : F) → WritesAll g f xs mid ys → WritesEach g mid zs last ws → WritesEach g f (xs ++ zs) last (ys ++ ws)
  and_then [] [] zs ws f mid last h k = subst (λ (p : F). WritesEach g p zs last ws) (sym h.0) k
  and_then [] (y ∷ ys) zs ws f mid last h k = absurd (nil_not_cons h.1)
  and_then (x ∷ xs) [] zs ws f mid last h k = absurd h
  and_then (x ∷ xs) (y ∷ ys) zs ws f mid last h k = record { told = (h.0, h.1, (and_then xs ys zs ws h.0 mid last h.2 k).told) }

  pub each_then : {f mid last : F} {xs ys zs ws : List A} → WritesEach g f xs mid ys → WritesEach g mid zs last ws → WritesEach g f (xs ++ zs) last (ys ++ ws)
  each_then {f} {mid} {last} {xs} {ys} {zs} {ws} h k = and_then xs ys zs ws f mid last h.told k
