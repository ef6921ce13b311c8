use Rattle.std.proofs.Common.{◌≡◌, ℕ, List, length, refl}
use Rattle.std.specs.Str.{IsUtf8}
use Rattle.std.proofs.lemmas.Str.{IsCharBoundary-start, IsCharBoundary-end}
use Rattle.starlark_place.specs.Place.{Holds, extent}
use Rattle.starlark_place.proofs.codemap.CodeMap.full_span.Goals as goal

all : (text : List ℕ) → IsUtf8 text → Holds text (extent 0 (length text))
all text u = record { begin = IsCharBoundary-start text u; end = IsCharBoundary-end text }

pub returns-clause-holds : goal.returns-clause-holds
returns-clause-holds c =
    let e : c.new-3.result ≡ extent 0 (length c.source.result.now) = rw (c.new-3.ensures, c.new.ensures, c.new-2.ensures) refl in
    rw (e, ← c.source.ensures.is) (all c.source.result.now c.source.utf8)
