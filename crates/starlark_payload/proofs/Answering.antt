-- Calls of a payload function, one list of payloads behind another.
use Rattle.std.proofs.Common.{◌≡◌, refl, sym, ap, ◌∙◌, subst, List, [], ◌∷◌, ◌++◌, append_assoc, append-nil, Result, Ok, Err, OnErr}
use Rattle.starlark_payload.specs.Payloads.{Answered, Answers, Begins}

module _ {S X Y : Type 0} (R : S → X → Y → S → Type 0) where
  pub answers_none : {s : S} → Answers R s [] s []
  answers_none = record { told = (refl, refl) }

  pub answers_one : {s t : S} {x : X} {y : Y} → R s x y t → Answers R s (x ∷ []) t (y ∷ [])
  answers_one {s} {t} {x} {y} h = record { told = (t, h, (refl, refl)) }

  cons_not_nil : {y : Y} {ys : List Y} → (y ∷ ys) ≡ [] → ⊥
  cons_not_nil h = cc

  append : (xs zs : List X) (ys ws : List Y) (s t u : S) → Answered R s xs t ys → Answers R t zs u ws → Answers R s (xs ++ zs) u (ys ++ ws)
  append [] zs [] ws s t u h k = subst (λ (p : S). Answers R p zs u ws) (sym h.0) k
  append [] zs (y ∷ ys) ws s t u h k = absurd (cons_not_nil h.1)
  append (x ∷ xs) zs [] ws s t u h k = absurd h
  append (x ∷ xs) zs (y ∷ ys) ws s t u h k = record { told = (h.0, h.1, (append xs zs ys ws h.0 t u h.2 k).told) }

  pub answers_append : {xs zs : List X} {ys ws : List Y} {s t u : S} → Answers R s xs t ys → Answers R t zs u ws → Answers R s (xs ++ zs) u (ys ++ ws)
  answers_append {xs} {zs} {ys} {ws} {s} {t} {u} h k = append xs zs ys ws s t u h.told k

  pub answers_at : {xs zs : List X} {ys ws : List Y} {s t : S} → xs ≡ zs → ys ≡ ws → Answers R s zs t ws → Answers R s xs t ys
  answers_at {xs} {zs} {ys} {ws} {s} {t} e d h = subst (λ (p : List X). Answers R s p t ys) (sym e) (subst (λ (q : List Y). Answers R s zs t q) (sym d) h)

  pub begins_all : {xs : List X} {ys : List Y} {s t : S} → Answers R s xs t ys → Begins R s xs t
  begins_all {xs} {ys} h = record { front = xs; back = []; whole = sym (append-nil xs); answers = ys; told = h }

  pub begins_none : {s : S} (xs : List X) → Begins R s xs s
  begins_none xs = record { front = []; back = xs; whole = refl; answers = []; told = answers_none }

  pub begins_more : {xs zs : List X} {ys : List Y} {s t u : S} → Answers R s xs t ys → Begins R t zs u → Begins R s (xs ++ zs) u
  begins_more {xs} {zs} {ys} h k =
      record { front = xs ++ k.front; back = k.back; whole = ap (λ q. xs ++ q) k.whole ∙ sym (append_assoc xs k.front k.back); answers = ys ++ k.answers; told = answers_append h k.told }

  pub begins_within : {xs : List X} {s t : S} (zs : List X) → Begins R s xs t → Begins R s (xs ++ zs) t
  begins_within {xs} zs k =
      record { front = k.front; back = k.back ++ zs; whole = ap (λ q. q ++ zs) k.whole ∙ append_assoc k.front k.back zs; answers = k.answers; told = k.told }

  pub begins_at : {xs zs : List X} {s t : S} → xs ≡ zs → Begins R s zs t → Begins R s xs t
  begins_at {xs} {zs} {s} {t} e h = subst (λ (p : List X). Begins R s p t) (sym e) h

-- what holds anyway holds at an Err
pub on_err : {T E P : Type 0} (r : Result T E) → P → OnErr r P
on_err (Ok x) p = tt
on_err (Err e) p = p
