-- A text that is cut off behind one of its lexemes, in an f-string or outside, is cut into the same up to there.
use Rattle.std.proofs.Common.{◌≡◌, ◌<◌, ◌≤◌, ℕ, ◌+◌, Bool, true, false, List, [], ◌∷◌, ◌++◌, length, drop, refl, ap, ◌∙◌, arith, subst, length-append, length-drop}
use Rattle.std.proofs.lemmas.Bool.{false≢true}
use Rattle.std.proofs.lemmas.List.{drop-append-le}
use Rattle.starlark_lexer.specs.Items.{Item, Lexed, with_items}
use Rattle.starlark_lexer.specs.Lex.{Mode, Past, Step, Lex, on, goes_on, is_inside}
use Rattle.starlark_lexer.specs.Lex as rules
use Rattle.starlark_lexer.specs.Literals.{is_format}
use Rattle.starlark_lexer.proofs.Joined.{Nest}
use Rattle.starlark_cutting.specs.Opened.{Way, outside, in_field, in_text}
use Rattle.starlark_cutting.specs.Opened as opened
use Rattle.starlark_cutting.proofs.KeptMoves.{Fresh}
use Rattle.starlark_cutting.proofs.KeptTracks.{Tracks, tracks}
use Rattle.starlark_cutting.proofs.KeptFinal.{one_inner}
use Rattle.starlark_cutting.proofs.KeptCut.{Upto, here, there, joint_items, both_tracks}
use Rattle.starlark_cutting.proofs.KeptLinked.{Linked, links, names, way_append, names_append}
use Rattle.starlark_cutting.proofs.KeptMarks.{marks_of}
use Rattle.starlark_cutting.proofs.KeptOpen.{Stands}
use Rattle.starlark_cutting.proofs.KeptOpen as open_steps
use Rattle.starlark_cutting.proofs.KeptOnce.{Follows, last_text, Low, last_on}

linked_low : (p : Past) (n : opened.Nest) → Linked p.mode p.outer p.items n → Low p
linked_low p n h b g c = by_outer p.outer n (subst (λ m. Linked m p.outer p.items n) c h)
  where
    by_outer : (os : List Mode) (n : opened.Nest) → Linked (rules.inside b g) os p.items n → (is_format g.sort ≡ true) × (is_inside (rules.below os) ≡ false)
    by_outer [] n h = absurd h
    by_outer (m ∷ os) (outside i) h = absurd h
    by_outer (m ∷ os) (in_field i l) h = absurd h
    by_outer (m ∷ os) (in_text l) h = (h.0, h.1.0)

-- What stands behind the kept part u of a text, where v stood behind it, and the items before.
pub record CutOn (p : Past) (u v : List ℕ) (xs : List Item) (k : opened.Nest) : Type 0 where
  pub past : Past
  pub fresh : past.fresh ≡ false
  pub linked : Linked past.mode past.outer past.items k
  pub tracks : Tracks p xs past
  pub stands : (o : List ℕ) → Follows (last_text xs) past.mode o → Stands p u v o
  pub lex : (o : List ℕ) → Follows (last_text xs) past.mode o → (m : Lexed) → Lex past o m → Lex p (u ++ o) (with_items xs m)

-- such bytes
follows_some : (t : Bool) (m : Mode) → (o : List ℕ) × Follows t m o
follows_some t rules.code = (10 ∷ [], refl)
follows_some true (rules.inside b g) = (123 ∷ 10 ∷ [], (10 ∷ [], (refl, refl)))
follows_some false (rules.inside b g) = (marks_of g.quote ++ 10 ∷ [], (10 ∷ [], (refl, refl)))
follows_some t (rules.field b g bs) = (10 ∷ [], refl)

first_on : (p : Past) (rest : List ℕ) (xs : List Item) (q : Past) (more : List ℕ) (u v : List ℕ) (n k : opened.Nest) → Step p rest (on xs q more) → one_inner xs ≡ true → rest ≡ u ++ v → q.place ≡ p.place + length u
    → Linked p.mode p.outer p.items n → Way n (names xs) k → Nest p.mode p.outer → Fresh p → CutOn p u v xs k
first_on p rest xs q more u v n k step one is at linked way nest fr =
    let low = linked_low p n linked in
    let s = last_on step in
    let w = follows_some (last_text xs) q.mode in
    record {
      past = q;
      fresh = (s u v w.0 is at one low w.1).fresh;
      linked = links step fr n k linked way;
      tracks = tracks step nest fr;
      stands = λ o f. (s u v o is at one low f).stands;
      lex = λ o f m d. goes_on p (u ++ o) xs q o m (s u v o is at one low f).step d;
    }

one_some : (xs : List Item) → one_inner xs ≡ true → 0 < length xs
one_some [] e = absurd (false≢true e)
one_some (x ∷ xs) e = omega arith

upto_some : {p : Past} {rest : List ℕ} {xs : List Item} {i : ℕ} → Upto p rest xs i → 0 < length xs
upto_some (here p rest xs q more step one) = one_some xs one
upto_some (there p rest xs q more ys i step le far) = omega (arith, upto_some far, length-append xs ys)

last_append : (xs ys : List Item) → 0 < length ys → last_text (xs ++ ys) ≡ last_text ys
last_append xs [] some = absurd (omega (arith, some))
last_append [] (y ∷ ys) some = refl
last_append (x ∷ []) (y ∷ ys) some = refl
last_append (x ∷ z ∷ xs) (y ∷ ys) some = last_append (z ∷ xs) (y ∷ ys) some

pub cut_on : {p : Past} {rest : List ℕ} {xs : List Item} {i : ℕ} → Upto p rest xs i → (u v : List ℕ) → rest ≡ u ++ v → i ≡ p.place + length u
    → (n k : opened.Nest) → Linked p.mode p.outer p.items n → Way n (names xs) k → Nest p.mode p.outer → Fresh p → CutOn p u v xs k
cut_on (here p rest xs q more step one) u v is at n k linked way nest fr = first_on p rest xs q more u v n k step one is at linked way nest fr
cut_on (there p rest xs q more ys i step le far) u v is at n k linked way nest fr =
    let t = tracks step nest fr in
    let g = open_steps.goes_on step fr in
    let w = way_append (names xs) (names ys) n k (subst (λ zs. Way n zs k) (names_append xs ys) way) in
    let fits : g.k ≤ length u = omega (arith, g.place, le, at) in
    let left : more ≡ drop g.k u ++ v = g.is ∙ ap (drop g.k) is ∙ drop-append-le g.k u v fits in
    let c = cut_on far (drop g.k u) v left (omega (arith, at, g.place, fits, length-drop g.k u)) w.0 k (links step fr n w.0 linked w.1.0) w.1.1 t.nest t.fresh in
    let flag = last_append xs ys (upto_some far) in
    let go : (o : List ℕ) → Follows (last_text (xs ++ ys)) c.past.mode o → Stands p u v o × Step p (u ++ o) (on xs q (drop g.k u ++ o)) = λ o f. g.go u v o is fits (c.stands o (subst (λ b. Follows b c.past.mode o) flag f)) in
    record {
      past = c.past;
      fresh = c.fresh;
      linked = c.linked;
      tracks = both_tracks p xs q ys c.past t c.tracks;
      stands = λ o f. (go o f).0;
      lex = λ o f m d.
          subst (Lex p (u ++ o)) (joint_items xs ys m) (goes_on p (u ++ o) xs q (drop g.k u ++ o) (with_items ys m) (go o f).1 (c.lex o (subst (λ b. Follows b c.past.mode o) flag f) m d));
    }
