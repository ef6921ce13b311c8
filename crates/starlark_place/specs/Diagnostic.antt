-- Errors with their places.
use Rattle.std.specs.Prelude.{◌≡◌, ℕ, List, [], ◌++◌, Option, Some, None, codes, string_bytes, IfSome, IsSome}
use Rattle.starlark_place.specs.Resolved.{resolved_span}
use Rattle.starlark_place.specs.Shown.{shown_place}
use Rattle.starlark_place.specs.declared.resolved.ResolvedFileSpan.{ResolvedFileSpan}
use Rattle.starlark_place.specs.Place.{FilePlace}
use Rattle.starlark_place.specs.declared.diagnostic.WithDiagnostic.{WithDiagnostic}
use Rattle.starlark_place.specs.declared.diagnostic.Frame.{Frame}
use Rattle.starlark_place.specs.declared.diagnostic.Refusal.{Refusal}
use Rattle.starlark_place.specs.declared.diagnostic.Refusal.TheVariants.{Fault, Memory}

-- the value
abbrev pub inner_of : {T : Type 0} → WithDiagnostic T → T
inner_of w = w.inner

-- its place, if one is set
abbrev pub span_of : {T : Type 0} → WithDiagnostic T → Option FilePlace
span_of w = w.diagnostic.value.span

-- the calls that led there
abbrev pub frames_of : {T : Type 0} → WithDiagnostic T → List Frame
frames_of w = w.diagnostic.value.call_stack.frames.items

-- a refusal for an error at a place, with no calls, unless memory ran out
abbrev pub Refuses : {T : Type 0} → T → FilePlace → Refusal T → Type 0
Refuses error place (Fault w) = (inner_of w ≡ error) × (span_of w ≡ Some place) × (frames_of w ≡ [])
Refuses error place Memory = Unit {0}

-- the place of a refusal, if it has one
abbrev pub place_of : {T : Type 0} → Refusal T → Option FilePlace
place_of (Fault w) = span_of w
place_of Memory = None

-- what is printed behind a message
abbrev pub shown_behind : Option FilePlace → List ℕ
shown_behind None = []
shown_behind (Some p) = codes ": " ++ shown_place p

-- the lines and columns of a place, if there is one
abbrev pub IsResolved : Option FilePlace → Option ResolvedFileSpan → Type 0
IsResolved None found = found ≡ None
IsResolved (Some p) found = IfSome found (λ r. (string_bytes r.file ≡ p.file.name) × (r.span ≡ resolved_span p.file.source p.extent)) × IsSome found
