-- The blocks of comments of a text, one comment after the other.
use Rattle.std.proofs.Common.{◌≡◌, ◌<◌, ◌≤◌, ℕ, zero, suc, List, [], ◌∷◌, ◌++◌, length, get_or, take, drop, true, false, Bool, ap, ◌∙◌, sym, refl, subst, arith, cond, ◌+◌, Option, Some, None, drop-cons, min, max}
use Rattle.std.specs.Prelude.{not, ◌||◌, ◌&&◌, count_by, map, nat_le}
use Rattle.std.specs.List.{fold, list_any}
use Rattle.std.specs.Option.{unwrap_or}
use Rattle.std.specs.Str.{IsCharBoundary}
use Rattle.std.proofs.lemmas.List.Sums.{fold-append, sum_by-cons}
use Rattle.std.proofs.lemmas.Bool.Decides.{nat_tests}
use Rattle.starlark_place.specs.Place.{Extent, extent, Holds, is_feed, line_at, line_begin, merged, merged_into}
use Rattle.starlark_parser.specs.declared.suppression.Tally.{Tally}
use Rattle.starlark_parser.specs.Suppressions.{blocks_from, counted, counts_for, covers, is_empty, is_several, line_of, lines_span, names_at, token_span}
use Rattle.starlark_parser.specs.Tallies.{IsWithin, has_name, still_suppressed, suppresses, tallied}

begins_behind_feed : (b : ℕ) (bs : List ℕ) (p n : ℕ) → is_feed b ≡ true → line_begin n bs ≤ p → line_begin (suc n) (b ∷ bs) ≤ suc p
begins_behind_feed b bs p n q h = subst (λ t. cond t (suc (line_begin n bs)) (suc (line_begin (suc n) bs)) ≤ suc p) (sym q) (omega arith)

begins_behind : (b : ℕ) (bs : List ℕ) (p n : ℕ) → is_feed b ≡ false → line_begin n bs ≤ p → line_begin n (b ∷ bs) ≤ suc p
begins_behind b bs p zero q h = omega arith
begins_behind b bs p (suc n) q h = subst (λ t. cond t (suc (line_begin n bs)) (suc (line_begin (suc n) bs)) ≤ suc p) (sym q) (omega arith)

-- a line begins at or before each place on it
line_before : (text : List ℕ) (p : ℕ) → line_begin (line_at text p) text ≤ p
line_before [] zero = omega arith
line_before [] (suc p) = omega arith
line_before (b ∷ bs) zero = omega arith
line_before (b ∷ bs) (suc p) =
    subst (λ n. line_begin n (b ∷ bs) ≤ suc p) (sym (sum_by-cons (λ x. cond (is_feed x) 1 0) b (take p bs)))
    (by (is_feed b) refl (count_by is_feed (take p bs)) (line_before bs p))
  where
    by : (t : Bool) → is_feed b ≡ t → (n : ℕ) → line_begin n bs ≤ p → line_begin (cond t 1 0 + n) (b ∷ bs) ≤ suc p
    by true q n h = subst (λ m. line_begin m (b ∷ bs) ≤ suc p) (let e : suc n ≡ 1 + n = omega arith in e) (begins_behind_feed b bs p n q h)
    by false q n h = subst (λ m. line_begin m (b ∷ bs) ≤ suc p) (let e : n ≡ 0 + n = omega arith in e) (begins_behind b bs p n q h)

-- what holds of two numbers holds of the least and of the greatest
either : (P : ℕ → Type 0) (a b : ℕ) → P a → P b → P (min a b) × P (max a b)
either P a b x y = by (nat_le a b) refl
  where
    by : (t : Bool) → nat_le a b ≡ t → P (min a b) × P (max a b)
    by true q = (subst P (let e : a ≡ min a b = grind (arith, nat_tests) in e) x, subst P (let e : b ≡ max a b = grind (arith, nat_tests) in e) y)
    by false q = (subst P (let e : b ≡ min a b = grind (arith, nat_tests) in e) y, subst P (let e : a ≡ max a b = grind (arith, nat_tests) in e) x)

pub sound_first : (text : List ℕ) (place lines : Extent) → Holds text place → Holds text lines → lines ≡ line_of text place → (t : Tally) → t.token ≡ place → t.lines ≡ lines → IsWithin text t
sound_first text place lines p l e t et el = record {
  token = subst (Holds text) (sym et) p;
  lines = subst (Holds text) (sym el) l;
  order = let q : t.lines.begin ≡ line_begin (line_at text place.begin) text = ap (λ s. s.begin) (el ∙ e) in
      let r : t.token.begin ≡ place.begin = ap (λ s. s.begin) et in
      omega (arith, line_before text place.begin);
}

held_merged : (text : List ℕ) (s t : Extent) → Holds text s → Holds text t → Holds text (merged s t)
held_merged text s t p q = record {
  begin = (either (IsCharBoundary text) s.begin t.begin p.begin q.begin).0;
  end = (either (IsCharBoundary text) s.end t.end p.end q.end).1;
}

pub sound_more : (text : List ℕ) (s : Tally) (place lines : Extent) → IsWithin text s → Holds text place → Holds text lines → lines ≡ line_of text place → (t : Tally) → t.token ≡ merged s.token place → t.lines ≡ merged s.lines lines → IsWithin text t
sound_more text s place lines w p l e t et el = record {
  token = subst (Holds text) (sym et) (held_merged text s.token place w.token p);
  lines = subst (Holds text) (sym el) (held_merged text s.lines lines w.lines l);
  order = let q : t.lines.begin ≡ min s.lines.begin lines.begin = ap (λ x. x.begin) el in
      let r : t.token.begin ≡ min s.token.begin place.begin = ap (λ x. x.begin) et in
      let b : lines.begin ≡ line_begin (line_at text place.begin) text = ap (λ x. x.begin) e in
      omega (arith, line_before text place.begin, w.order);
}

or_false : (b : Bool) → (b || false) ≡ b
or_false true = refl
or_false false = refl

or_true : (b : Bool) → (b || true) ≡ true
or_true true = refl
or_true false = refl

or_assoc : (a b c : Bool) → ((a || b) || c) ≡ (a || (b || c))
or_assoc true b c = refl
or_assoc false b c = refl

-- what is known of a block that began with these, from what was known of it before
abbrev gathered : List ℕ → List ℕ → Tally → List Extent → Tally
gathered text name t ps = record {
  token = unwrap_or (fold merged_into (Some t.token) ps) (extent 0 0);
  lines = unwrap_or (fold merged_into (Some t.lines) (map (line_of text) ps)) (extent 0 0);
  several = t.several || not (is_empty ps);
  named = t.named || list_any (has_name text name) ps;
}

abbrev tally : Extent → Extent → Bool → Bool → Option Tally
tally u v s n = Some (record { token = u; lines = v; several = s; named = n })

same_tally : (u v : Extent) (s s' n n' : Bool) → s ≡ s' → n ≡ n' → tally u v s n ≡ tally u v s' n'
same_tally u v s s' n n' e f = ap (λ x. tally u v x n) e ∙ ap (tally u v s') f

gathers : (text name : List ℕ) (t : Tally) (ps : List Extent) → fold (tallied text name) (Some t) ps ≡ Some (gathered text name t ps)
gathers text name t [] = same_tally t.token t.lines _ _ _ _ (sym (or_false t.several)) (sym (or_false t.named))
gathers text name t (p ∷ ps) =
    gathers text name (record { token = merged t.token p; lines = merged t.lines (line_of text p); several = true; named = t.named || has_name text name p }) ps
    ∙ same_tally _ _ _ _ _ _ (sym (or_true t.several)) (or_assoc t.named (has_name text name p) (list_any (has_name text name) ps))

several_are : (p : Extent) (ps : List Extent) → not (is_empty ps) ≡ is_several (p ∷ ps)
several_are p [] = refl
several_are p (q ∷ ps) = refl

-- of a whole block
counts : (text name : List ℕ) (finding : Extent) (block : List Extent) → counts_for text name finding (counted text block) ≡ suppresses text finding (fold (tallied text name) None block)
counts text name finding [] = refl
counts text name finding (p ∷ ps) = by (is_empty (names_at text p)) (counts text name finding ps)
  where
    by : (t : Bool) → counts_for text name finding (counted text ps) ≡ suppresses text finding (fold (tallied text name) None ps)
        → counts_for text name finding (cond t (counted text ps) (p ∷ ps)) ≡ suppresses text finding (fold (tallied text name) (cond t None (Some (record { token = p; lines = line_of text p; several = false; named = has_name text name p }))) ps)
    by true h = h
    by false h =
        ap (λ s. list_any (has_name text name) (p ∷ ps) && covers text s (token_span (p ∷ ps)) (lines_span text (p ∷ ps)) finding) (sym (several_are p ps))
        ∙ ap (suppresses text finding) (sym (gathers text name (record { token = p; lines = line_of text p; several = false; named = has_name text name p }) ps))

pub from_blocks : (text name : List ℕ) (finding : Extent) (block ps : List Extent) (joined : List Bool) → list_any (λ b. counts_for text name finding (counted text b)) (blocks_from block ps joined) ≡ still_suppressed text name finding (fold (tallied text name) None block) ps joined
from_blocks text name finding block [] joined = or_false _ ∙ counts text name finding block
from_blocks text name finding block (p ∷ ps) [] = or_false _ ∙ counts text name finding block
from_blocks text name finding block (p ∷ ps) (true ∷ joined) =
    from_blocks text name finding (block ++ p ∷ []) ps joined
    ∙ ap (λ s. still_suppressed text name finding s ps joined) (fold-append (tallied text name) None block (p ∷ []))
from_blocks text name finding block (p ∷ ps) (false ∷ joined) =
    ap (λ b. b || list_any (λ b. counts_for text name finding (counted text b)) (blocks_from (p ∷ []) ps joined)) (counts text name finding block)
    ∙ ap (λ b. suppresses text finding (fold (tallied text name) None block) || b) (from_blocks text name finding (p ∷ []) ps joined)

pub one_more : (text name : List ℕ) (finding : Extent) (block : Option Tally) (ps : List Extent) (joined : List Bool) (i : ℕ) (p : Extent) → i < length ps → length joined ≡ length ps → p ≡ get_or ps i p
    → still_suppressed text name finding block (drop i ps) (drop i joined) ≡ cond (get_or joined i false) (still_suppressed text name finding (tallied text name block p) (drop (i + 1) ps) (drop (i + 1) joined)) (suppresses text finding block || still_suppressed text name finding (tallied text name None p) (drop (i + 1) ps) (drop (i + 1) joined))
one_more text name finding block ps joined i p l e q =
    let k : i < length joined = omega arith in
    ap (λ xs. still_suppressed text name finding block xs (drop i joined)) (drop-cons ps i p l ∙ ap (λ x. x ∷ drop (suc i) ps) (sym q))
    ∙ ap (still_suppressed text name finding block (p ∷ drop (suc i) ps)) (drop-cons joined i false k)
    ∙ by (get_or joined i false) (drop (suc i) ps) (drop (suc i) joined) (drop (i + 1) ps) (drop (i + 1) joined) (ap (λ n. drop n ps) (let o : suc i ≡ i + 1 = omega arith in o)) (ap (λ n. drop n joined) (let o : suc i ≡ i + 1 = omega arith in o))
  where
    by : (t : Bool) (xs : List Extent) (fs : List Bool) (ys : List Extent) (gs : List Bool) → xs ≡ ys → fs ≡ gs
        → still_suppressed text name finding block (p ∷ xs) (t ∷ fs) ≡ cond t (still_suppressed text name finding (tallied text name block p) ys gs) (suppresses text finding block || still_suppressed text name finding (tallied text name None p) ys gs)
    by true xs fs ys gs e f = cc
    by false xs fs ys gs e f = cc

pub a_new_block : (text name : List ℕ) (finding : Extent) (block later : Option Tally) (ps : List Extent) (joined : List Bool) (i : ℕ) (p : Extent) (b : Bool) → i < length ps → length joined ≡ length ps → p ≡ get_or ps i p
    → get_or joined i false ≡ false → suppresses text finding block ≡ false → b ≡ still_suppressed text name finding block (drop i ps) (drop i joined)
    → later ≡ tallied text name None p → b ≡ still_suppressed text name finding later (drop (i + 1) ps) (drop (i + 1) joined)
a_new_block text name finding block later ps joined i p b l e q f n h t =
    h ∙ one_more text name finding block ps joined i p l e q
    ∙ ap (λ x. cond x (still_suppressed text name finding (tallied text name block p) (drop (i + 1) ps) (drop (i + 1) joined)) (suppresses text finding block || still_suppressed text name finding (tallied text name None p) (drop (i + 1) ps) (drop (i + 1) joined))) f
    ∙ ap (λ x. x || still_suppressed text name finding (tallied text name None p) (drop (i + 1) ps) (drop (i + 1) joined)) n
    ∙ ap (λ x. still_suppressed text name finding x (drop (i + 1) ps) (drop (i + 1) joined)) (sym t)

pub the_same_block : (text name : List ℕ) (finding : Extent) (block later : Option Tally) (ps : List Extent) (joined : List Bool) (i : ℕ) (p : Extent) (b : Bool) → i < length ps → length joined ≡ length ps → p ≡ get_or ps i p
    → get_or joined i false ≡ true → b ≡ still_suppressed text name finding block (drop i ps) (drop i joined)
    → later ≡ tallied text name block p → b ≡ still_suppressed text name finding later (drop (i + 1) ps) (drop (i + 1) joined)
the_same_block text name finding block later ps joined i p b l e q f h t =
    h ∙ one_more text name finding block ps joined i p l e q
    ∙ ap (λ x. cond x (still_suppressed text name finding (tallied text name block p) (drop (i + 1) ps) (drop (i + 1) joined)) (suppresses text finding block || still_suppressed text name finding (tallied text name None p) (drop (i + 1) ps) (drop (i + 1) joined))) f
    ∙ ap (λ x. still_suppressed text name finding x (drop (i + 1) ps) (drop (i + 1) joined)) (sym t)
