-- A text that is cut off where a line begins: it is cut into the same up to there, whatever stands behind.
use Rattle.std.proofs.Common.{◌≡◌, ◌<◌, ◌≤◌, ℕ, ◌+◌, true, List, [], ◌∷◌, ◌++◌, length, drop, refl, ap, sym, ◌∙◌, arith, inl, inr, subst, length-drop}
use Rattle.std.proofs.lemmas.List.{drop-append-le, append-nil, nil_from_length}
use Rattle.starlark_lexer.specs.Items.{Item, item, Lexed, nothing, newline, dedents, with_items}
use Rattle.starlark_lexer.specs.Widths.{Closes}
use Rattle.starlark_lexer.specs.Lex.{Past, Lex, goes_on, is_over, start, IsBalanced}
use Rattle.starlark_lexer.specs.Lex as rules
use Rattle.starlark_cutting.specs.Cutting.{IsClosedOff}
use Rattle.starlark_lexer.proofs.Widths.{IsStack, no_lines}
use Rattle.starlark_lexer.proofs.Joined.{Nest}
use Rattle.starlark_lexer.proofs.JoinedBodies.{Ended}
use Rattle.starlark_cutting.proofs.KeptMoves.{At, Fresh}
use Rattle.starlark_cutting.proofs.KeptSteps.{goes}
use Rattle.starlark_cutting.proofs.KeptTracks.{Tracks, tracks}
use Rattle.starlark_cutting.proofs.KeptCut.{joint_items, both_tracks}
use Rattle.starlark_cutting.proofs.KeptReach.{Reach, Lines, last, before, lines_of, far_lines}
use Rattle.starlark_cutting.proofs.KeptEnds.{behind_front, leads, Even, evens}

-- what stands before a line's beginning
pub record Begins (q : Past) : Type 0 where
  pub fresh : q.fresh ≡ true
  pub mode : q.mode ≡ rules.code
  pub even : IsBalanced q

pub record Lined (p : Past) (u v : List ℕ) (xs : List Item) (q : Past) : Type 0 where
  pub at : At p u v
  pub ended : Ended u
  pub begins : Begins q
  pub tracks : Tracks p xs q
  pub lex : (o : List ℕ) (m : Lexed) → Lex q o m → Lex p (u ++ o) (with_items xs m)

pub lined : {p : Past} {rest : List ℕ} {xs : List Item} {q : Past} {w : List ℕ} → Lines p rest xs q w → (u v : List ℕ) → rest ≡ u ++ v → q.place ≡ p.place + length u → Nest p.mode p.outer → Fresh p → Even p → Lined p u v xs q
lined (last p rest xs q left step f c) u v is at nest fr even =
    let t = tracks step nest fr in
    let e = leads step fr u v is at f c in
    record {
      at = e.at;
      ended = e.ended;
      begins = record { fresh = f; mode = t.fresh f; even = evens step fr even f };
      tracks = t;
      lex = λ o m d. goes_on p (u ++ o) xs q o m (e.step o) d;
    }
lined (before p rest xs q left ys r w step far) u v is at nest fr even =
    let t = tracks step nest fr in
    let k = goes step fr in
    let le : q.place ≤ r.place = far_lines far t.fresh t.nest in
    let fits : k.k ≤ length u = omega (arith, k.place, le, at) in
    let more : left ≡ drop k.k u ++ v = k.is ∙ ap (drop k.k) is ∙ drop-append-le k.k u v fits in
    let c = lined far (drop k.k u) v more (omega (arith, at, k.place, fits, length-drop k.k u)) t.nest t.fresh (evens step fr even) in
    let ended : Ended u = behind_front k.k u (drop k.k u) refl c.ended in
    record {
      at = (k.go u v [] is fits c.at (inr ended)).0;
      ended = ended;
      begins = c.begins;
      tracks = both_tracks p xs q ys r t c.tracks;
      lex = λ o m d.
          subst (Lex p (u ++ o)) (joint_items xs ys m) (goes_on p (u ++ o) xs q (drop k.k u ++ o) (with_items ys m) (k.go u v o is fits c.at (inr ended)).1 (c.lex o m d));
    }

-- ---- from the start

pub record Begun (u : List ℕ) (xs : List Item) (q : Past) : Type 0 where
  pub place : q.place ≡ length u
  pub begins : Begins q
  pub tracks : Tracks start xs q
  pub lex : (o : List ℕ) (m : Lexed) → Lex q o m → Lex start (u ++ o) (with_items xs m)

pub begun_lines : {text : List ℕ} {xs : List Item} {q : Past} {w : List ℕ} → Lines start text xs q w → (u v : List ℕ) → text ≡ u ++ v → q.place ≡ length u → Begun u xs q
begun_lines l u v is at =
    let c = lined l u v is (omega (arith, at)) tt (λ _. refl) (λ _. refl) in
    record { place = at; begins = c.begins; tracks = c.tracks; lex = c.lex }

pub nothing_yet : Begun [] [] start
nothing_yet = record {
  place = refl;
  begins = record { fresh = refl; mode = refl; even = refl };
  tracks = record { opened = refl; closed = refl; strings = refl; nest = tt; fresh = λ _. refl; widths = λ ws s. record { still = ws; stack = s; count = refl } };
  lex = λ o m d. d;
}

pub begun : {text : List ℕ} {xs : List Item} {q : Past} {w : List ℕ} → Reach start text xs q w → q.fresh ≡ true → 0 < length w → (u v : List ℕ) → text ≡ u ++ v → q.place ≡ length u → Begun u xs q
begun {text} {xs} {q} r f some u v is at = elim (lines_of r f some) [
  | inr l ↦ begun_lines l u v is at
  | inl e ↦
      let none : u ≡ [] = nil_from_length u (omega (arith, at, ap (λ p. p.place) e.1)) in
      subst (λ s. Begun s xs q) (sym none) (subst (λ ys. Begun [] ys q) (sym e.0) (subst (λ p. Begun [] [] p) (sym e.1) nothing_yet))
]

-- the text that ends there, and the widths that are open there
pub ended_with : (u : List ℕ) (xs : List Item) (q : Past) → Begun u xs q → (c : IsClosedOff u xs) × ((ws : List ℕ) × (IsStack q.lines ws × (c.count ≡ length ws)))
ended_with u xs q b =
    let w = b.tracks.widths [] no_lines in
    let shut : Closes q.lines 0 w.still = record { once = w.stack.once; each = λ x. w.stack.each x } in
    let n = length w.still in
    let at : q.place + 0 ≡ length u = omega (arith, b.place) in
    let d = is_over q [] _ (rules.last_line q [] w.still b.begins.fresh refl shut) in
    let e : Lex q [] (with_items (item (length u) newline (length u) ∷ dedents (length u) n) nothing) = subst (λ i. Lex q [] (with_items (item i newline i ∷ dedents i n) nothing)) at d in (
      record {
        count = n;
        layout = omega (arith, w.count);
        lex = subst (λ t. Lex start t (with_items xs (with_items (item (length u) newline (length u) ∷ dedents (length u) n) nothing))) (append-nil u) (b.lex [] _ e);
      },
      (w.still, (w.stack, refl)),
    )
