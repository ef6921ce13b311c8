use Rattle.std.proofs.Common.{◌≡◌, ◌<◌, ◌≤◌, ◌+◌, ℕ, List, arith, get_or, length, ◌∙◌, sym, add-one}
use Rattle.std.specs.Str.{IsUtf8}
use Rattle.starlark_place.specs.Place.{Holds, extent, line_feeds, line_begin}
use Rattle.starlark_place.specs.Lines.{line_begins}
use Rattle.starlark_place.proofs.Lines.{begins-length, begins-at, line_begin-past, line_begin-more, line_begin-boundary}
use Rattle.starlark_place.proofs.codemap.line_ends.Goals as goal
use Rattle.starlark_place.proofs.codemap.line_ends.Goals.{then-line-begins, else-line-begins}

below : (source begins : List ℕ) (line : ℕ) → begins ≡ line_begins source → line ≤ line_feeds source → line < length begins
below source begins line b l = rw b (let h = begins-length source 0 in omega arith)

begin_is : (source begins : List ℕ) (line : ℕ) → begins ≡ line_begins source → line ≤ line_feeds source → get_or begins line 0 ≡ line_begin line source
begin_is source begins line b l = rw b (begins-at source 0 line l ∙ omega arith)

end_is : (source begins : List ℕ) (line : ℕ) → begins ≡ line_begins source → line + 1 < length begins → get_or begins (line + 1) 0 ≡ line_begin (line + 1) source
end_is source begins line b = rw b (λ l. begins-at source 0 (line + 1) (let h = begins-length source 0 in omega arith) ∙ omega arith)

end_past : (source begins : List ℕ) (line : ℕ) → begins ≡ line_begins source → length begins ≤ line + 1 → length source ≡ line_begin (line + 1) source
end_past source begins line b = rw b (λ l. sym (line_begin-past source (line + 1) (let h = begins-length source 0 in omega arith)))

pub bounds-begins-line-2 : goal.bounds-begins-line-2
bounds-begins-line-2 c = below c.args.source.now c.args.begins.now c.args.line c.requires.begins c.requires.line

pub returns-clause-begin : goal.returns-clause-begin
returns-clause-begin c = begin_is c.args.source.now c.args.begins.now c.args.line c.requires.begins c.requires.line

last_is : (source begins : List ℕ) (line : ℕ) → begins ≡ line_begins source → line + 1 < length begins → (end : ℕ) → end ≡ get_or begins (line + 1) 0 → end ≡ line_begin (line + 1) source
last_is source begins line b h end e = e ∙ end_is source begins line b h

pub returns-clause-end : goal.returns-clause-end
returns-clause-end c =
    elim c.if-line-begins.branch [
      | then-line-begins w ↦ last_is c.args.source.now c.args.begins.now c.args.line c.requires.begins w.if-line-begins.true c.if-line-begins.end w.end-is
      | else-line-begins w ↦ w.end-is ∙ end_past c.args.source.now c.args.begins.now c.args.line c.requires.begins w.if-line-begins.false
    ]

holds_line : (source : List ℕ) (line : ℕ) → IsUtf8 source → Holds source (extent (line_begin line source) (line_begin (line + 1) source))
holds_line source line u = record { begin = line_begin-boundary source line u; end = line_begin-boundary source (line + 1) u }

pub returns-clause-order : goal.returns-clause-order
returns-clause-order c = rw (returns-clause-begin c, returns-clause-end c, add-one) (line_begin-more c.args.source.now c.args.line)

pub returns-clause-holds : goal.returns-clause-holds
returns-clause-holds c = rw (returns-clause-begin c, returns-clause-end c) (holds_line c.args.source.now c.args.line c.utf8.source)
