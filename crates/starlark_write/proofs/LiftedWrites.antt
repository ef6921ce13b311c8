-- A closure that calls another one at what it is lent, and goes on.
use Rattle.std.proofs.Common.{◌≡◌, refl, sym, ap, ◌∙◌, subst, List, [], ◌∷◌, ℕ, inl, inr, Result, Ok, Err}
use Rattle.std.specs.Borrow.{MutBor}
use Rattle.std.specs.Fn.{CalledAtMut, Mut}
use denote.Param.Always.{always_mut, mut_next}
use Rattle.starlark_visit.proofs.GoesOn.{err_not_ok}
use Rattle.starlark_write.specs.Writing.{WritesAll, WritesEach, WritesUntil, WritesWhile}

module _ {F A : Type 0} (g : Mut F (MutBor A × Unit {0}) (Unit {0} × (MutBor A × Unit {0}))) where
  -- after calls it may be called still
  pub all_callable : (xs ys : List A) (f last : F) → always_mut g f → WritesAll g f xs last ys → always_mut g last
  all_callable [] ys f last can h = subst (always_mut g) h.0 can
  all_callable (x ∷ xs) [] f last can h = absurd h
  all_callable (x ∷ xs) (y ∷ ys) f last can h = all_callable xs ys h.0 last (mut_next g f (h.1.shown, tt) (tt, (h.1.left, tt)) h.0 h.0 h.1.called refl can) h.2

-- k calls g, and goes on at each place
module _ {F G A E : Type 0} (g : Mut F (MutBor A × Unit {0}) (Unit {0} × (MutBor A × Unit {0}))) (k : Mut G (MutBor A × Unit {0}) (Result (Unit {0}) E × (MutBor A × Unit {0}))) (value : G → F) (name : G → ℕ) (each : (p q : G) (x y : A) (r : Result (Unit {0}) E) → CalledAtMut k p x r q y → (r ≡ Ok tt) × CalledAtMut g (value p) x tt (value q) y × (name q ≡ name p)) where
  lift : (xs ys : List A) (p q : G) (r : Result (Unit {0}) E) → WritesWhile k p xs r q ys → WritesAll g (value p) xs (value q) ys × (name q ≡ name p)
  lift [] ys p q r h = ((ap value h.1, h.2), ap name (sym h.1))
  lift (x ∷ xs) [] p q r h = absurd h
  lift (x ∷ xs) (y ∷ ys) p q r h =
      elim h [
        | inl c ↦ (let one = each p c.0 x y (Ok tt) c.1 in let others = lift xs ys c.0 q r c.2 in ((value c.0, one.1, others.0), others.1 ∙ one.2))
        | inr c ↦ absurd (err_not_ok refl (each p q x y (Err c.0) c.1).0)
      ]

  -- where last is what it holds at the end
  pub lifted : {xs ys : List A} {p q : G} {r : Result (Unit {0}) E} (last : F) → WritesUntil k p xs r q ys → (name q ≡ name p → value q ≡ last) → WritesEach g (value p) xs last ys
  lifted {xs} {ys} {p} {q} {r} last h is =
      let all = lift xs ys p q r h.told in
      record { told = subst (λ (s : F). WritesAll g (value p) xs s ys) (is all.1) all.0 }
