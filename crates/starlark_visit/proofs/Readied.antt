-- What a closure may be called at, and what a visitor is ready for, where one calls the other.
use Rattle.std.proofs.Common.{List, [], ◌∷◌, Result, Ok}
use Rattle.std.specs.Fn.{Mut}
use Rattle.starlark_ast.specs.Calls.{CalledOn}
use Rattle.starlark_visit.specs.Ready.{ReadyFor, ReadyWhile}
use Rattle.starlark_visit.specs.Takes.{MayCall, Takes, TakesWhile}

module _ {F V X N E : Type 0} (ready : V → N → Type 0) (step : V → N → Result (Unit {0}) E → V → Type 0) (show : X → N) (g : Mut F (X × Unit {0}) (Result (Unit {0}) E)) where
  -- a closure that calls the visitor that it holds
  module _ (value : F → V) (asks : (p : F) (x : N) → ready (value p) x → MayCall show g p x) (tells : (p q : F) (x : N) → CalledOn show g p x (Ok tt) q → step (value p) x (Ok tt) (value q)) where
    takes : (xs : List N) (p : F) → ReadyWhile ready step (value p) xs → TakesWhile show g p xs
    takes [] p can = tt
    takes (x ∷ xs) p can = (asks p x can.0, λ mid c. takes xs mid (can.1 (value mid) (tells p mid x c)))

    pub ready_taken : {p : F} {xs : List N} → ReadyFor ready step (value p) xs → Takes show g p xs
    ready_taken {p} {xs} can = record { told = takes xs p can.told }

  -- a visitor that calls the closure that it holds
  module _ (value : V → F) (asks : (p : V) (x : N) → MayCall show g (value p) x → ready p x) (tells : (p q : V) (x : N) → step p x (Ok tt) q → CalledOn show g (value p) x (Ok tt) (value q)) where
    readies : (xs : List N) (p : V) → TakesWhile show g (value p) xs → ReadyWhile ready step p xs
    readies [] p can = tt
    readies (x ∷ xs) p can = (asks p x can.0, λ mid c. readies xs mid (can.1 (value mid) (tells p mid x c)))

    pub taken_ready : {p : V} {xs : List N} → Takes show g (value p) xs → ReadyFor ready step p xs
    taken_ready {p} {xs} can = record { told = readies xs p can.told }
