use Rattle.std.proofs.Common.{◌≡◌, ◌<◌, ◌≤◌, ℕ, List, arith, rules, ap, get_or, length, ◌∙◌, sym}
use Rattle.starlark_place.specs.Place.{line_at, characters}
use Rattle.starlark_place.specs.Lines.{line_begins}
use Rattle.starlark_place.proofs.Lines.{lines_enough, line_start, IsLineStart}
use Rattle.starlark_place.proofs.codemap.column.Goals as goal

below : (source begins : List ℕ) (line pos : ℕ) → begins ≡ line_begins source → line ≡ line_at source pos → line < length begins
below source begins line pos b l = rw l (lines_enough source begins pos b)

start_is : (source begins : List ℕ) (line pos : ℕ) → begins ≡ line_begins source → line ≡ line_at source pos → pos ≤ length source → IsLineStart source pos (get_or begins line 0)
start_is source begins line pos b l h = line_start source begins pos (get_or begins line 0) b (ap (λ n. get_or begins n 0) l) h

pub bounds-begins-line : goal.bounds-begins-line
bounds-begins-line c = below c.args.source.now c.args.begins.now c.args.line c.args.pos c.requires.begins c.requires.line

pub offset_bounds-begins-line : goal.offset_bounds-begins-line
offset_bounds-begins-line c =
    let h = below c.args.source.now c.args.begins.now c.args.line c.args.pos c.requires.begins c.requires.line in omega arith

pub slice_bounds-char_count-count : goal.slice_bounds-char_count-count
slice_bounds-char_count-count c = (start_is c.args.source.now c.args.begins.now c.args.line c.args.pos c.requires.begins c.requires.line c.requires.within).before

pub slice_bounds-char_count-start : goal.slice_bounds-char_count-start
slice_bounds-char_count-start c =
    let h = (start_is c.args.source.now c.args.begins.now c.args.line c.args.pos c.requires.begins c.requires.line c.requires.within).before in
    let w = c.requires.within in
    search rules

pub returns : goal.returns
returns c =
    let h = (start_is c.args.source.now c.args.begins.now c.args.line c.args.pos c.requires.begins c.requires.line c.requires.within).last in
    c.char_count.ensures ∙ ap characters (sym h)
