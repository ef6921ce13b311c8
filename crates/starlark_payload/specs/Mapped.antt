-- What a map makes of a node: the same plain data, and the answers to its payloads.
use Rattle.std.specs.Prelude.{◌≡◌, List, Result, Ok, Err}
use Rattle.std.specs.declared.alloc.Global.{Global}
use Rattle.std.specs.declared.boxed.Box.{Box}
use Rattle.starlark_place.specs.Place.{Extent}
use Rattle.starlark_place.specs.declared.pos.Spanned.{Spanned}
use Rattle.starlark_payload.specs.Payloads.{Answers, Begins}

-- a node as it is at its place
abbrev pub seen : {X V : Type 0} → (X → Extent → V) → Spanned X → V
seen v x = v x.node x.span

-- that of what a box holds
abbrev pub held : {X V : Type 0} → (X → V) → Box X Global → V
held v x = v x.value

-- what is made has the same plain data, and the answers as its payloads
pub record Mapped {S X Y V : Type 0} (R : S → X → Y → S → Type 0) (s : S) (xs : List X) (v : V) (t : S) (ys : List Y) (w : V) : Type 0 where
  pub kept : w ≡ v
  pub called : Answers R s xs t ys

-- where memory runs out the function was called at the first payloads alone
abbrev pub Maps : {S X Y V Z E : Type 0} → (S → X → Y → S → Type 0) → S → List X → V → S → (Z → List Y) → (Z → V) → Result Z E → Type 0
Maps R s xs v t p w (Ok z) = Mapped R s xs v t (p z) (w z)
Maps R s xs v t p w (Err e) = Begins R s xs t
