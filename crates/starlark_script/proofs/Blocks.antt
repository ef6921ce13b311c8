-- Outlines, written block by block.
use Rattle.std.proofs.Common.{◌≡◌, ℕ, length, List, [], ◌∷◌, ◌++◌, refl, sym, ◌∙◌, ap, append_assoc, Option}
use Rattle.std.proofs.lemmas.List.{append-nil}
use Rattle.std.specs.Io.KnownBytes.{Appends}
use Rattle.starlark_parts.specs.declared.word.OutlineItem.{OutlineItem}
use Rattle.starlark_script.specs.Device.{AppendsFront}
use Rattle.starlark_script.specs.Printed.{count_line, item_line, item_lines, outline_lines}
use Rattle.starlark_script.proofs.Known.{appends_more, front_left, front_right, nothing_yet}

-- some of an outline was written, and a block and the lines of the items left stand behind that
pub record Told (a b : Option (List ℕ)) (items : List OutlineItem) (block : List ℕ) (left : List OutlineItem) : Type 0 where
  pub done : List ℕ
  pub parts : outline_lines items ≡ done ++ (block ++ item_lines left)
  pub told : Appends a b done

pub begun : (a : Option (List ℕ)) (items : List OutlineItem) → Told a a items (count_line (length items)) items
begun a items = record { done = []; parts = refl; told = nothing_yet a }

-- the block was written
pub block_written : (a b c : Option (List ℕ)) (items : List OutlineItem) (block : List ℕ) (left : List OutlineItem) → Told a b items block left → Appends b c block → Told a c items [] left
block_written a b c items block left t h = record { done = t.done ++ block; parts = t.parts ∙ sym (append_assoc t.done block (item_lines left)); told = appends_more a b c t.done block t.told h }

-- one line more is in the block
pub line_put : (a b : Option (List ℕ)) (items : List OutlineItem) (block : List ℕ) (x : OutlineItem) (left : List OutlineItem) → Told a b items block (x ∷ left) → Told a b items (block ++ item_line x) left
line_put a b items block x left t = record { done = t.done; parts = t.parts ∙ ap (λ z. t.done ++ z) (sym (append_assoc block (item_line x) (item_lines left))); told = t.told }

-- the block was written in part
pub block_broken : (a b c : Option (List ℕ)) (items : List OutlineItem) (block : List ℕ) (left : List OutlineItem) → Told a b items block left → AppendsFront b c block → AppendsFront a c (outline_lines items)
block_broken a b c items block left t h =
    let e : outline_lines items ≡ (t.done ++ block) ++ item_lines left = t.parts ∙ sym (append_assoc t.done block (item_lines left)) in
    rw e (front_left a c (t.done ++ block) (item_lines left) (front_right a b c t.done block t.told h))

-- the last block was written
pub all_written : (a b c : Option (List ℕ)) (items : List OutlineItem) (block : List ℕ) → Told a b items block [] → Appends b c block → Appends a c (outline_lines items)
all_written a b c items block t h =
    let e : outline_lines items ≡ t.done ++ block = t.parts ∙ ap (λ z. t.done ++ z) (append-nil block) in
    rw e (appends_more a b c t.done block t.told h)
