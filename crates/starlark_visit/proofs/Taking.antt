-- What a closure may be called at: a front of the places, and those behind it.
use Rattle.std.proofs.lemmas.List.{drop_more}
use Rattle.std.proofs.Common.{◌≡◌, refl, sym, ap, ◌∙◌, subst, ℕ, ◌+◌, ◌<◌, length, drop, get_or, flat_map, List, [], ◌∷◌, ◌++◌, inl, inr, Result, Ok}
use Rattle.std.specs.Fn.{Called, Mut}
use denote.Param.Always.{always_mut, mut_next}
use Rattle.starlark_ast.specs.Calls.{CalledOn, CallsUntil, StopsAtErr}
use Rattle.starlark_visit.proofs.GoesOn.{err_not_ok}
use Rattle.starlark_visit.specs.Takes.{MayCall, Takes, TakesWhile}

-- P holds at each of these
abbrev pub AllOf : {A : Type 0} → (A → Type 0) → List A → Type 0
AllOf P [] = Unit {0}
AllOf P (x ∷ xs) = P x × AllOf P xs

module _ {F X A E : Type 0} (show : X → A) (g : Mut F (X × Unit {0}) (Result (Unit {0}) E)) where
  front : (xs ys : List A) (f : F) → TakesWhile show g f (xs ++ ys) → TakesWhile show g f xs
  front [] ys f can = tt
  front (x ∷ xs) ys f can = (can.0, λ mid c. front xs ys mid (can.1 mid c))

  -- those before others
  pub front_taken : {f : F} (xs ys : List A) → Takes show g f (xs ++ ys) → Takes show g f xs
  front_taken {f} xs ys can = record { told = front xs ys f can.told }

  rest : (xs ys : List A) (f mid : F) (s : Result (Unit {0}) E) → TakesWhile show g f (xs ++ ys) → CallsUntil show g f xs s mid → s ≡ Ok tt → TakesWhile show g mid ys
  rest [] ys f mid s can h ok = subst (λ p. TakesWhile show g p ys) h.1 can
  rest (x ∷ xs) ys f mid s can h ok =
      elim h [ inl c ↦ rest xs ys c.0 mid s (can.1 c.0 c.1) c.2 ok | inr c ↦ absurd (err_not_ok c.2 ok) ]

  -- those behind others, once these went on
  pub rest_taken : {f mid : F} {s : Result (Unit {0}) E} (xs ys : List A) → Takes show g f (xs ++ ys) → StopsAtErr show g f xs s mid → s ≡ Ok tt → Takes show g mid ys
  rest_taken {f} {mid} {s} xs ys can h ok = record { told = rest xs ys f mid s can.told h.told ok }

  -- those behind a first call
  pub next_taken : {f mid : F} {x : A} {xs : List A} {y : X} {s : Result (Unit {0}) E} → Takes show g f (x ∷ xs) → Called g f (y, tt) s mid → s ≡ Ok tt → show y ≡ x → Takes show g mid xs
  next_taken {f} {mid} {x} {xs} {y} {s} can h ok is =
      record { told = can.told.1 mid (record { shown = y; shows = is; called = subst (λ (t : Result (Unit {0}) E). Called g f (y, tt) t mid) ok h }) }

  -- the first of them
  pub first_taken : {f : F} {x : A} {xs : List A} {y : X} → Takes show g f (x ∷ xs) → show y ≡ x → g.pre f (y, tt)
  first_taken {f} {x} {xs} {y} can is = can.told.0 y is

  pub takes_at : {f : F} {xs ys : List A} → xs ≡ ys → Takes show g f xs → Takes show g f ys
  takes_at {f} {xs} {ys} is can = subst (λ (zs : List A). Takes show g f zs) is can

  -- the places of an item, and those of the items behind it
  pub more_taken : {B : Type 0} {f : F} (h : B → List A) (xs : List B) (i : ℕ) (x : B) → i < length xs → x ≡ get_or xs i x → Takes show g f (flat_map h (drop i xs)) → Takes show g f (h x ++ flat_map h (drop (i + 1) xs))
  more_taken {B} {f} h xs i x below is can = takes_at (ap (flat_map h) (drop_more xs i x below ∙ ap (λ y. y ∷ drop (i + 1) xs) (sym is))) can

  by_each : (I : F → Type 0) (P : A → Type 0) (asks : (s : F) (x : A) → I s → P x → MayCall show g s x) (keeps : (s t : F) (x : A) → I s → CalledOn show g s x (Ok tt) t → I t) (xs : List A) (f : F) → I f → AllOf P xs → TakesWhile show g f xs
  by_each I P asks keeps [] f i all = tt
  by_each I P asks keeps (x ∷ xs) f i all = (asks f x i all.0, λ mid c. by_each I P asks keeps xs mid (keeps f mid x i c) all.1)

  -- a closure that may be called where P holds, as long as it keeps what I says of it
  pub takes_by : {f : F} {xs : List A} (I : F → Type 0) (P : A → Type 0) (asks : (s : F) (x : A) → I s → P x → MayCall show g s x) (keeps : (s t : F) (x : A) → I s → CalledOn show g s x (Ok tt) t → I t) → I f → AllOf P xs → Takes show g f xs
  takes_by {f} {xs} I P asks keeps i all = record { told = by_each I P asks keeps xs f i all }

  always : (xs : List A) (f : F) → always_mut g f → TakesWhile show g f xs
  always [] f can = tt
  always (x ∷ xs) f can = (λ shown is. (can.at ((shown, tt) ∷ [])).0, λ mid c. always xs mid (mut_next g f (c.shown, tt) (Ok tt) mid mid c.called refl can))

  -- a closure that may always be called
  pub always_takes : {f : F} {xs : List A} → always_mut g f → Takes show g f xs
  always_takes {f} {xs} can = record { told = always xs f can }
