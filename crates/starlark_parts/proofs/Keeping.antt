-- What edits do to the parts that are held.
use Rattle.std.proofs.Common.{◌≡◌, ◌<◌, ◌≤◌, ℕ, ◌+◌, ◌-◌, suc, List, [], ◌∷◌, ◌++◌, length, take, drop, get_or, set, add-one, length-append, refl, ap, sym, ◌∙◌, arith, subst}
use Rattle.std.specs.Prelude.{Some, None, sum_by}
use Rattle.std.specs.List.{insert, remove}
use Rattle.std.specs.Str.{IsUtf8}
use Rattle.std.proofs.lemmas.List.{drop-map, get_or-map, length-map, map-append, map-set, take-map}
use Rattle.std.proofs.lemmas.List.Elements.{All-append, All-cons, All-drop, All-get_or, All-head, All-set, All-tail, All-take}
use Rattle.std.proofs.lemmas.List.Sums.{count_by-le-length, sum_by-append, sum_by-cons, sum_by-drop_more, sum_by-set, sum_by-take-drop}
use Rattle.starlark_place.specs.Place.{is_feed}
use Rattle.starlark_lexer.specs.declared.dialect.Dialect.{Dialect}
use Rattle.starlark_parts.specs.Edits.{Fits, IsAddressed, IsPartText, Refuses, Takes}
use Rattle.starlark_parts.specs.Edits as edits
use Rattle.starlark_parts.specs.Held.{AreParts, IsPart, IsRead, RefusesBytes, all_feeds, text_of, texts_of}
use Rattle.starlark_parts.specs.Holding.{IsHeld, kept}
use Rattle.starlark_parts.specs.Kept.{Edit, HasIndex, Kept, edited, joined}
use Rattle.starlark_parts.specs.Kept as edit
use Rattle.starlark_parts.specs.declared.fault.PartFault.{PartFault}
use Rattle.starlark_parts.specs.declared.fault.PartFault.TheVariants as faults
use Rattle.starlark_parts.specs.declared.part.Part.{Part}
use Rattle.starlark_parts.specs.declared.parts.Parts.TheInside.{Inside}

-- ---- the bytes of all texts

joined_length : (ts : List (List ℕ)) → length (joined ts) ≡ sum_by length ts
joined_length [] = refl
joined_length (t ∷ ts) = omega (arith, length-append t (joined ts), joined_length ts, sum_by-cons length t ts)

inserted_length : (k : ℕ) (t : List ℕ) (ts : List (List ℕ)) → length (joined (insert ts k t)) ≡ length (joined ts) + length t
inserted_length k t ts = omega (arith, joined_length ts, joined_length (insert ts k t), sum_by-append length (take k ts) (t ∷ drop k ts), sum_by-cons length t (drop k ts), sum_by-take-drop length ts k)

set_length : (k : ℕ) (t : List ℕ) (ts : List (List ℕ)) → k < length ts → length (joined (set ts k t)) + length (get_or ts k []) ≡ length (joined ts) + length t
set_length k t ts lt = omega (arith, joined_length ts, joined_length (set ts k t), sum_by-set length ts k t [] lt)

removed_length : (k : ℕ) (ts : List (List ℕ)) → k < length ts → length (joined (remove ts k)) + length (get_or ts k []) ≡ length (joined ts)
removed_length k ts lt =
    let more : sum_by length (drop k ts) ≡ length (get_or ts k []) + sum_by length (drop (suc k) ts) = sum_by-drop_more length ts k [] lt ∙ ap (λ n. length (get_or ts k []) + sum_by length (drop n ts)) (add-one k) in
    omega (arith, joined_length ts, joined_length (remove ts k), sum_by-append length (take k ts) (drop (suc k) ts), sum_by-take-drop length ts k, more)

moved_length : (k j : ℕ) (ts : List (List ℕ)) → k < length ts → length (joined (insert (remove ts k) j (get_or ts k []))) ≡ length (joined ts)
moved_length k j ts lt = omega (arith, inserted_length j (get_or ts k []) (remove ts k), removed_length k ts lt)

-- ---- parts and their texts

texts_insert : (k : ℕ) (ps : List Part) (p : Part) → texts_of (insert ps k p) ≡ insert (texts_of ps) k (text_of p)
texts_insert k ps p = map-append text_of (take k ps) (p ∷ drop k ps) ∙ (λ i. sym (take-map text_of k ps) i ++ text_of p ∷ sym (drop-map text_of k ps) i)

texts_remove : (k : ℕ) (ps : List Part) → texts_of (remove ps k) ≡ remove (texts_of ps) k
texts_remove k ps = map-append text_of (take k ps) (drop (suc k) ps) ∙ (λ i. sym (take-map text_of k ps) i ++ sym (drop-map text_of (suc k) ps) i)

texts_move : (k j : ℕ) (ps qs : List Part) → k < length ps → ((d : Part) → qs ≡ insert (remove ps k) j (get_or ps k d)) → texts_of qs ≡ insert (remove (texts_of ps) k) j (get_or (texts_of ps) k [])
texts_move k j [] qs lt h = absurd (omega (arith, lt))
texts_move k j (p ∷ ps) qs lt h =
    ap texts_of (h p) ∙ texts_insert j (remove (p ∷ ps) k) (get_or (p ∷ ps) k p)
    ∙ (λ i. insert (texts_remove k (p ∷ ps) i) j (sym (get_or-map text_of (p ∷ ps) k p [] lt) i))

parts_insert : (dialect : Dialect) (k : ℕ) (ps : List Part) (p : Part) → AreParts dialect ps → IsPart dialect p → AreParts dialect (insert ps k p)
parts_insert dialect k ps p h i = All-append (IsPart dialect) (take k ps) (p ∷ drop k ps) (All-take (IsPart dialect) k ps h) (All-cons (IsPart dialect) p (drop k ps) i (All-drop (IsPart dialect) k ps h))

parts_remove : (dialect : Dialect) (k : ℕ) (ps : List Part) → AreParts dialect ps → AreParts dialect (remove ps k)
parts_remove dialect k ps h = All-append (IsPart dialect) (take k ps) (drop (suc k) ps) (All-take (IsPart dialect) k ps h) (All-drop (IsPart dialect) (suc k) ps h)

parts_move : (dialect : Dialect) (k j : ℕ) (ps qs : List Part) → k < length ps → ((d : Part) → qs ≡ insert (remove ps k) j (get_or ps k d)) → AreParts dialect ps → AreParts dialect qs
parts_move dialect k j [] qs lt e h = absurd (omega (arith, lt))
parts_move dialect k j (p ∷ ps) qs lt e h =
    subst (AreParts dialect) (sym (e p)) (parts_insert dialect j (remove (p ∷ ps) k) (get_or (p ∷ ps) k p) (parts_remove dialect k (p ∷ ps) h) (All-get_or (IsPart dialect) (p ∷ ps) k p lt h))

part_text : (k : ℕ) (ps : List Part) (d : Part) → k < length ps → text_of (get_or ps k d) ≡ get_or (texts_of ps) k []
part_text k ps d lt = sym (get_or-map text_of ps k d [] lt)

-- all line feeds are bytes of the joined text
pub few_feeds : (dialect : Dialect) (ps : List Part) → AreParts dialect ps → all_feeds ps ≤ length (joined (texts_of ps))
few_feeds dialect [] h = omega arith
few_feeds dialect (p ∷ ps) h =
    let part : IsPart dialect p = All-head (IsPart dialect) p ps h in
    omega (arith, sum_by-cons (λ p. p.feeds) p ps, few_feeds dialect ps (All-tail (IsPart dialect) p ps h), part.feeds, count_by-le-length is_feed (text_of p), length-append (text_of p) (joined (texts_of ps)))

-- ---- an edit with a text, for which there is so much room beside the others

same_some : (s t : List ℕ) → Some s ≡ Some t → s ≡ t
same_some s t h = cc

module _ (dialect : Dialect) (limit : ℕ) (texts : List (List ℕ)) (e : Edit) (text : List ℕ) (room others : ℕ) (index : HasIndex texts e) (brings : edit.text_of e ≡ Some text) (size : length (joined (edited texts e)) ≡ others + length text) (short : others ≤ limit) (is : room ≡ limit - others) where
  fits : IsUtf8 text → length text ≤ room → Fits limit (edited texts e) text
  fits u le = record { utf8 = u; short = omega (arith, size, short, is, le) }

  addressed : IsUtf8 text → length text ≤ room → IsAddressed limit texts e text
  addressed u le = record { index = index; brings = brings; fits = fits u le }

  pub refused : (f : PartFault) → RefusesBytes dialect room text f → Refuses dialect limit texts e f
  refused faults.Index h = absurd h
  refused faults.Utf8 h = edits.utf8 index brings h
  refused faults.Long h = edits.long index brings h.0 (omega (arith, size, short, is, h.1))
  refused (faults.Parse error place) (u, le, (g, r, t)) = edits.parse g (addressed u le) r t
  refused faults.Open (u, le, (tree, l, c)) = edits.not_closed tree (addressed u le) l c
  refused faults.Memory (u, le, h) = edits.memory (addressed u le)

  pub lacks_memory : (p : Part) → IsRead dialect room text p → Refuses dialect limit texts e faults.Memory
  lacks_memory p h = edits.memory (addressed h.utf8 h.fits)

  pub taken : (p : Part) → IsRead dialect room text p → Takes dialect limit texts e
  taken p h = record {
    index = index;
    fits = λ t here. subst (Fits limit (edited texts e)) (same_some text t (sym brings ∙ here)) (fits h.utf8 h.fits);
    reads = λ t here. subst (IsPartText dialect) (h.same ∙ same_some text t (sym brings ∙ here)) (record { tree = _; language = h.part.language; closed = h.part.closed });
  }

none_some : (t : List ℕ) → None ≡ Some t → ⊥
none_some t e = absurd (cc)

-- ---- the fields

module _ (a : Inside) (v : Kept) (view : kept a ≡ v) (h : IsHeld a) where
  pub count : length v.texts ≡ length a.parts.items
  count = ap (λ u. length u.texts) (sym view) ∙ length-map a.parts.items text_of

  pub size_is : a.size ≡ length (joined v.texts)
  size_is = h.size ∙ ap (λ u. length (joined u.texts)) view

  pub limit_is : a.limit ≡ v.limit
  limit_is = ap (λ u. u.limit) view

  pub dialect_is : a.dialect ≡ v.dialect
  dialect_is = ap (λ u. u.dialect) view

  pub texts_are : texts_of a.parts.items ≡ v.texts
  texts_are = ap (λ u. u.texts) view

  -- the text of a part
  pub text_at : (k : ℕ) (p : Part) → k < length a.parts.items → p ≡ get_or a.parts.items k p → text_of p ≡ get_or v.texts k []
  text_at k p lt is = ap text_of is ∙ part_text k a.parts.items p lt ∙ ap (λ ts. get_or ts k []) texts_are

  pub text_short : (k : ℕ) → k < length a.parts.items → length (get_or v.texts k []) ≤ a.size
  text_short k lt = omega (arith, size_is, removed_length k v.texts (omega (arith, lt, count)))

  pub insert_size : (k : ℕ) (text : List ℕ) → length (joined (insert v.texts k text)) ≡ a.size + length text
  insert_size k text = omega (arith, inserted_length k text v.texts, size_is)

  pub replace_size : (k : ℕ) (text : List ℕ) → k < length a.parts.items → length (joined (set v.texts k text)) ≡ (a.size - length (get_or v.texts k [])) + length text
  replace_size k text lt = omega (arith, set_length k text v.texts (omega (arith, lt, count)), size_is, text_short k lt)

  pub no_insert : (k : ℕ) (text : List ℕ) → length a.parts.items < k → Refuses v.dialect v.limit v.texts (edit.inserts k text) faults.Index
  no_insert k text lt = edits.index (λ (i : k ≤ length v.texts). omega (arith, count, i, lt))

  pub no_replace : (k : ℕ) (text : List ℕ) → length a.parts.items ≤ k → Refuses v.dialect v.limit v.texts (edit.replaces k text) faults.Index
  no_replace k text le = edits.index (λ (i : k < length v.texts). omega (arith, count, i, le))

  pub no_remove : (k : ℕ) → length a.parts.items ≤ k → Refuses v.dialect v.limit v.texts (edit.removes k) faults.Index
  no_remove k le = edits.index (λ (i : k < length v.texts). omega (arith, count, i, le))

  pub no_move_from : (k j : ℕ) → length a.parts.items ≤ k → Refuses v.dialect v.limit v.texts (edit.moves k j) faults.Index
  no_move_from k j le = edits.index (λ (i : (k < length v.texts) × (j < length v.texts)). omega (arith, count, i.0, le))

  pub no_move_to : (k j : ℕ) → length a.parts.items ≤ j → Refuses v.dialect v.limit v.texts (edit.moves k j) faults.Index
  no_move_to k j le = edits.index (λ (i : (k < length v.texts) × (j < length v.texts)). omega (arith, count, i.1, le))

  pub remove_taken : (k : ℕ) → k < length a.parts.items → Takes v.dialect v.limit v.texts (edit.removes k)
  remove_taken k lt = record { index = omega (arith, count, lt); fits = λ t e. absurd (none_some t e); reads = λ t e. absurd (none_some t e) }

  pub move_taken : (k j : ℕ) → k < length a.parts.items → j < length a.parts.items → Takes v.dialect v.limit v.texts (edit.moves k j)
  move_taken k j lt lu = record { index = (omega (arith, count, lt), omega (arith, count, lu)); fits = λ t e. absurd (none_some t e); reads = λ t e. absurd (none_some t e) }

  -- an edit with a text
  module _ (k : ℕ) (text : List ℕ) (room : ℕ) (le : k ≤ length a.parts.items) (is : room ≡ a.limit - a.size) where
    at_insert : k ≤ length v.texts
    at_insert = omega (arith, le, count)

    room_insert : room ≡ v.limit - a.size
    room_insert = is ∙ ap (λ n. n - a.size) limit_is

    short_insert : a.size ≤ v.limit
    short_insert = omega (arith, h.short, limit_is)

    pub insert_refused : (f : PartFault) → RefusesBytes a.dialect room text f → Refuses v.dialect v.limit v.texts (edit.inserts k text) f
    insert_refused f why = refused v.dialect v.limit v.texts (edit.inserts k text) text room a.size at_insert refl (insert_size k text) short_insert room_insert f (subst (λ d. RefusesBytes d room text f) dialect_is why)

    pub insert_lacks : (p : Part) → IsRead a.dialect room text p → Refuses v.dialect v.limit v.texts (edit.inserts k text) faults.Memory
    insert_lacks p r = lacks_memory v.dialect v.limit v.texts (edit.inserts k text) text room a.size at_insert refl (insert_size k text) short_insert room_insert p (subst (λ d. IsRead d room text p) dialect_is r)

    pub insert_taken : (p : Part) → IsRead a.dialect room text p → Takes v.dialect v.limit v.texts (edit.inserts k text)
    insert_taken p r = taken v.dialect v.limit v.texts (edit.inserts k text) text room a.size at_insert refl (insert_size k text) short_insert room_insert p (subst (λ d. IsRead d room text p) dialect_is r)

  module _ (k : ℕ) (text : List ℕ) (room others : ℕ) (q : Part) (lt : k < length a.parts.items) (at : q ≡ get_or a.parts.items k q) (o : others ≡ a.size - length (text_of q)) (is : room ≡ a.limit - others) where
    at_replace : k < length v.texts
    at_replace = omega (arith, lt, count)

    others_are : others ≡ a.size - length (get_or v.texts k [])
    others_are = o ∙ ap (λ t. a.size - length t) (text_at k q lt at)

    size_replace : length (joined (set v.texts k text)) ≡ others + length text
    size_replace = replace_size k text lt ∙ ap (λ n. n + length text) (sym others_are)

    room_replace : room ≡ v.limit - others
    room_replace = is ∙ ap (λ n. n - others) limit_is

    short_replace : others ≤ v.limit
    short_replace = omega (arith, h.short, limit_is, o)

    pub replace_refused : (f : PartFault) → RefusesBytes a.dialect room text f → Refuses v.dialect v.limit v.texts (edit.replaces k text) f
    replace_refused f why = refused v.dialect v.limit v.texts (edit.replaces k text) text room others at_replace refl size_replace short_replace room_replace f (subst (λ d. RefusesBytes d room text f) dialect_is why)

    pub replace_taken : (p : Part) → IsRead a.dialect room text p → Takes v.dialect v.limit v.texts (edit.replaces k text)
    replace_taken p r = taken v.dialect v.limit v.texts (edit.replaces k text) text room others at_replace refl size_replace short_replace room_replace p (subst (λ d. IsRead d room text p) dialect_is r)

-- no more line feeds than 32 bits count
pub feeds_fit : (a : Inside) → IsHeld a → all_feeds a.parts.items ≤ 4294967295
feeds_fit a h = omega (arith, few_feeds a.dialect a.parts.items h.parts, h.size, h.short, h.fits)

-- ---- the fields after an edit

module _ (a b : Inside) (h : IsHeld a) (d : b.dialect ≡ a.dialect) (l : b.limit ≡ a.limit) where
  pub held_insert : (k : ℕ) (p : Part) (text : List ℕ) (room : ℕ) → IsRead a.dialect room text p → room ≡ a.limit - a.size → b.parts.items ≡ insert a.parts.items k p → b.size ≡ a.size + length text → IsHeld b
  held_insert k p text room r is ps size = record {
    parts = subst (λ t. AreParts t b.parts.items) (sym d) (subst (AreParts a.dialect) (sym ps) (parts_insert a.dialect k a.parts.items p h.parts r.part));
    size = omega (arith, size, h.size, ap (λ t. length (joined (texts_of t))) ps, ap (λ t. length (joined t)) (texts_insert k a.parts.items p), inserted_length k (text_of p) (texts_of a.parts.items), ap length r.same);
    short = omega (arith, size, l, h.short, is, r.fits);
    fits = omega (arith, l, h.fits);
  }

  pub held_set : (k : ℕ) (p q : Part) (text : List ℕ) (others room : ℕ) → k < length a.parts.items → q ≡ get_or a.parts.items k q → others ≡ a.size - length (text_of q) → IsRead a.dialect room text p → room ≡ a.limit - others → b.parts.items ≡ set a.parts.items k p → b.size ≡ others + length text → IsHeld b
  held_set k p q text others room lt at o r is ps size =
      let n : k < length (texts_of a.parts.items) = omega (arith, lt, length-map a.parts.items text_of) in
      let old : text_of q ≡ get_or (texts_of a.parts.items) k [] = ap text_of at ∙ part_text k a.parts.items q lt in
      record {
        parts = subst (λ t. AreParts t b.parts.items) (sym d) (subst (AreParts a.dialect) (sym ps) (All-set (IsPart a.dialect) a.parts.items k p r.part h.parts));
        size = omega (arith, size, h.size, o, ap length old, removed_length k (texts_of a.parts.items) n, ap (λ t. length (joined (texts_of t))) ps, ap (λ t. length (joined t)) (map-set text_of a.parts.items k p), set_length k (text_of p) (texts_of a.parts.items) n, ap length r.same);
        short = omega (arith, size, l, h.short, o, is, r.fits);
        fits = omega (arith, l, h.fits);
      }

  pub held_remove : (k : ℕ) (q : Part) → k < length a.parts.items → q ≡ get_or a.parts.items k q → b.parts.items ≡ remove a.parts.items k → b.size ≡ a.size - length (text_of q) → IsHeld b
  held_remove k q lt at ps size =
      let n : k < length (texts_of a.parts.items) = omega (arith, lt, length-map a.parts.items text_of) in
      let old : text_of q ≡ get_or (texts_of a.parts.items) k [] = ap text_of at ∙ part_text k a.parts.items q lt in
      record {
        parts = subst (λ t. AreParts t b.parts.items) (sym d) (subst (AreParts a.dialect) (sym ps) (parts_remove a.dialect k a.parts.items h.parts));
        size = omega (arith, size, h.size, ap length old, removed_length k (texts_of a.parts.items) n, ap (λ t. length (joined (texts_of t))) ps, ap (λ t. length (joined t)) (texts_remove k a.parts.items));
        short = omega (arith, size, l, h.short);
        fits = omega (arith, l, h.fits);
      }

  pub held_move : (k j : ℕ) → k < length a.parts.items → ((d : Part) → b.parts.items ≡ insert (remove a.parts.items k) j (get_or a.parts.items k d)) → b.size ≡ a.size → IsHeld b
  held_move k j lt ps size =
      let n : k < length (texts_of a.parts.items) = omega (arith, lt, length-map a.parts.items text_of) in
      record {
        parts = subst (λ t. AreParts t b.parts.items) (sym d) (parts_move a.dialect k j a.parts.items b.parts.items lt ps h.parts);
        size = omega (arith, size, h.size, ap (λ t. length (joined t)) (texts_move k j a.parts.items b.parts.items lt ps), moved_length k j (texts_of a.parts.items) n);
        short = omega (arith, size, l, h.short);
        fits = omega (arith, l, h.fits);
      }

-- the texts after an edit
pub insert_texts : (a : Inside) (v : Kept) → kept a ≡ v → (k : ℕ) (p : Part) (text : List ℕ) (qs : List Part) → qs ≡ insert a.parts.items k p → text_of p ≡ text → texts_of qs ≡ insert v.texts k text
insert_texts a v view k p text qs e same = ap texts_of e ∙ texts_insert k a.parts.items p ∙ (λ i. insert ((view i).texts) k (same i))

pub set_texts : (a : Inside) (v : Kept) → kept a ≡ v → (k : ℕ) (p : Part) (text : List ℕ) (qs : List Part) → qs ≡ set a.parts.items k p → text_of p ≡ text → texts_of qs ≡ set v.texts k text
set_texts a v view k p text qs e same = ap texts_of e ∙ map-set text_of a.parts.items k p ∙ (λ i. set ((view i).texts) k (same i))

pub remove_texts : (a : Inside) (v : Kept) → kept a ≡ v → (k : ℕ) (qs : List Part) → qs ≡ remove a.parts.items k → texts_of qs ≡ remove v.texts k
remove_texts a v view k qs e = ap texts_of e ∙ texts_remove k a.parts.items ∙ ap (λ u. remove u.texts k) view

pub move_texts : (a : Inside) (v : Kept) → kept a ≡ v → (k j : ℕ) (qs : List Part) → k < length a.parts.items → ((d : Part) → qs ≡ insert (remove a.parts.items k) j (get_or a.parts.items k d)) → texts_of qs ≡ insert (remove v.texts k) j (get_or v.texts k [])
move_texts a v view k j qs lt e = texts_move k j a.parts.items qs lt e ∙ ap (λ u. insert (remove u.texts k) j (get_or u.texts k [])) view
