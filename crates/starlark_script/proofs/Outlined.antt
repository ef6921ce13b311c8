-- Texts that have outlines, and what edits make of them.
use Rattle.std.proofs.Common.{◌≡◌, ◌<◌, ℕ, ◌+◌, zero, suc, true, List, [], ◌∷◌, ◌++◌, length, map, take, drop, set, get_or, Option, Some, None, Result, Ok, Err, refl, arith}
use Rattle.std.specs.Prelude.{is_some}
use Rattle.std.specs.List.{All, insert, remove}
use Rattle.std.proofs.lemmas.List.Elements.{All-cons, All-nil}
use Rattle.starlark_place.specs.Place.{line_feeds}
use Rattle.starlark_lexer.specs.Joining.{IsClosed}
use Rattle.starlark_lexer.specs.declared.dialect.Dialect.{Dialect}
use Rattle.starlark_ast.specs.Tree.{Statement}
use Rattle.starlark_grammar.specs.Language.{Language}
use Rattle.starlark_parts.specs.Edits.{Answers, IsPartText, Takes}
use Rattle.starlark_parts.specs.Flat.{AreWorded}
use Rattle.starlark_parts.specs.Kept.{Edit, Kept, edited, inserts, joined, replaces, removes, moves, text_of}
use Rattle.starlark_parts.specs.Outlines.{AreOutlines, IsOutline, beginning, items_down, no_texts, and_text}
use Rattle.starlark_parts.specs.Tops.{top_level, word_of}
use Rattle.starlark_parts.specs.declared.fault.PartFault.{PartFault}
use Rattle.starlark_parts.specs.declared.word.OutlineItem.{OutlineItem}
use Rattle.starlark_parts.specs.declared.word.Word.{Word}
use Rattle.starlark_script.specs.Engine.{HasOutline, HaveOutlines}

-- the laws that this stands on
abbrev pub JoinedOutline : Type 0
JoinedOutline = (dialect : Dialect) (texts : List (List ℕ)) (items : List OutlineItem) → All IsClosed texts → AreOutlines dialect 0 texts items → IsOutline dialect (joined texts) items

abbrev pub Worded : Type 0
Worded = (dialect : Dialect) (text : List ℕ) (tree : Statement) → Language dialect text tree → AreWorded tree

the_word : (o : Option Word) → is_some o ≡ true → (w : Word) × (Some w ≡ o)
the_word None h = absurd (cc)
the_word (Some w) h = (w, refl)

-- the items of some statements
items_for : (text : List ℕ) (ss : List Statement) → All (λ s. is_some (word_of s) ≡ true) ss
    → (items : List OutlineItem) × (map (λ x. Some x.word) items ≡ map word_of ss) × (map (λ x. x.begin) items ≡ map (beginning text) ss)
items_for text [] h = ([], refl, refl)
items_for text (s ∷ ss) h =
    let w = the_word (word_of s) (h 0 s (omega arith)) in
    let more = items_for text ss (λ k d l. h (suc k) d (omega (arith, l))) in
    let item : OutlineItem = record { word = w.0; begin = beginning text s } in
    (item ∷ more.0, λ i. w.1 i ∷ more.1 i, λ i. beginning text s ∷ more.2 i)

text_outline : Worded → (dialect : Dialect) (text : List ℕ) → IsPartText dialect text → HasOutline dialect text
text_outline worded dialect text h =
    let found = items_for text (top_level h.tree) (worded dialect text h.tree h.language).words in
    record { closed = h.closed; items = found.0; is = record { tree = h.tree; language = h.language; all = record { words = found.1; begins = found.2 } } }

-- the outlines of all texts, one behind another
outlines_from : (dialect : Dialect) (n : ℕ) (texts : List (List ℕ)) → HaveOutlines dialect texts → (items : List OutlineItem) × AreOutlines dialect n texts items
outlines_from dialect n [] h = ([], no_texts)
outlines_from dialect n (t ∷ ts) h =
    let rest = outlines_from dialect (n + line_feeds t) ts h.1 in
    (items_down n h.0.items ++ rest.0, and_text h.0.is rest.1)

all_closed : (dialect : Dialect) (texts : List (List ℕ)) → HaveOutlines dialect texts → All IsClosed texts
all_closed dialect [] h = All-nil IsClosed
all_closed dialect (t ∷ ts) h = All-cons IsClosed t ts h.0.closed (all_closed dialect ts h.1)

-- the outline of the joined text
pub all_outlines : JoinedOutline → (dialect : Dialect) (texts : List (List ℕ)) → HaveOutlines dialect texts → (items : List OutlineItem) × IsOutline dialect (joined texts) items
all_outlines law dialect texts h =
    let found = outlines_from dialect 0 texts h in
    (found.0, law dialect texts found.0 (all_closed dialect texts h) found.1)

-- ---- edits

have_take : (dialect : Dialect) (k : ℕ) (ts : List (List ℕ)) → HaveOutlines dialect ts → HaveOutlines dialect (take k ts)
have_take dialect zero ts h = tt
have_take dialect (suc k) [] h = tt
have_take dialect (suc k) (t ∷ ts) h = (h.0, have_take dialect k ts h.1)

have_drop : (dialect : Dialect) (k : ℕ) (ts : List (List ℕ)) → HaveOutlines dialect ts → HaveOutlines dialect (drop k ts)
have_drop dialect zero ts h = h
have_drop dialect (suc k) [] h = tt
have_drop dialect (suc k) (t ∷ ts) h = have_drop dialect k ts h.1

have_append : (dialect : Dialect) (ts us : List (List ℕ)) → HaveOutlines dialect ts → HaveOutlines dialect us → HaveOutlines dialect (ts ++ us)
have_append dialect [] us h k = k
have_append dialect (t ∷ ts) us h k = (h.0, have_append dialect ts us h.1 k)

have_inserted : (dialect : Dialect) (ts : List (List ℕ)) (k : ℕ) (t : List ℕ) → HaveOutlines dialect ts → HasOutline dialect t → HaveOutlines dialect (insert ts k t)
have_inserted dialect ts k t h o = have_append dialect (take k ts) (t ∷ drop k ts) (have_take dialect k ts h) (o, have_drop dialect k ts h)

have_removed : (dialect : Dialect) (ts : List (List ℕ)) (k : ℕ) → HaveOutlines dialect ts → HaveOutlines dialect (remove ts k)
have_removed dialect ts k h = have_append dialect (take k ts) (drop (suc k) ts) (have_take dialect k ts h) (have_drop dialect (suc k) ts h)

have_set : (dialect : Dialect) (ts : List (List ℕ)) (k : ℕ) (t : List ℕ) → HaveOutlines dialect ts → HasOutline dialect t → HaveOutlines dialect (set ts k t)
have_set dialect [] k t h o = tt
have_set dialect (u ∷ ts) zero t h o = (o, h.1)
have_set dialect (u ∷ ts) (suc k) t h o = (h.0, have_set dialect ts k t h.1 o)

has_at : (dialect : Dialect) (ts : List (List ℕ)) (k : ℕ) → k < length ts → HaveOutlines dialect ts → HasOutline dialect (get_or ts k [])
has_at dialect [] k l h = absurd (omega (arith, l))
has_at dialect (t ∷ ts) zero l h = h.0
has_at dialect (t ∷ ts) (suc k) l h = has_at dialect ts k (omega (arith, l)) h.1

-- an edit without a text leaves texts with outlines
pub have_textless : (dialect : Dialect) (limit : ℕ) (texts : List (List ℕ)) (edit : Edit) → text_of edit ≡ None → Takes dialect limit texts edit → HaveOutlines dialect texts → HaveOutlines dialect (edited texts edit)
have_textless dialect limit texts (inserts k text) e t h = absurd (cc)
have_textless dialect limit texts (replaces k text) e t h = absurd (cc)
have_textless dialect limit texts (removes k) e t h = have_removed dialect texts k h
have_textless dialect limit texts (moves k j) e t h = let i = t.index in have_inserted dialect (remove texts k) j (get_or texts k []) (have_removed dialect texts k h) (has_at dialect texts k i.0 h)

-- and so does each that is taken
pub have_edited : Worded → (dialect : Dialect) (limit : ℕ) (texts : List (List ℕ)) (edit : Edit) → Takes dialect limit texts edit → HaveOutlines dialect texts → HaveOutlines dialect (edited texts edit)
have_edited worded dialect limit texts (inserts k text) t h = have_inserted dialect texts k text h (text_outline worded dialect text (t.reads text refl))
have_edited worded dialect limit texts (replaces k text) t h = have_set dialect texts k text h (text_outline worded dialect text (t.reads text refl))
have_edited worded dialect limit texts (removes k) t h = have_textless dialect limit texts (removes k) refl t h
have_edited worded dialect limit texts (moves k j) t h = have_textless dialect limit texts (moves k j) refl t h

-- and each that is answered
pub have_after : Worded → (kept : Kept) (edit : Edit) (done : Result (Unit {0}) PartFault) (left : List (List ℕ)) → Answers kept edit done left → HaveOutlines kept.dialect kept.texts
    → HaveOutlines kept.dialect left
have_after worded kept edit (Ok x) left a h = rw a.1 (have_edited worded kept.dialect kept.limit kept.texts edit a.0 h)
have_after worded kept edit (Err f) left a h = rw a.1 h
