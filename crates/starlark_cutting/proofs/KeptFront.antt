-- Steps that lead to a place where something is kept of a text: they lead there too where other bytes stand behind that.
use Rattle.std.proofs.Common.{◌≡◌, ◌≤◌, ◌⊎◌, ℕ, List, [], ◌∷◌, ◌++◌, length, take, drop, refl, ap, sym, ◌∙◌, arith, inl, inr, subst, append_assoc, length-append}
use Rattle.std.specs.Prelude.{count_by}
use Rattle.std.proofs.Math.Seq.{drop-append_seam}
use Rattle.std.proofs.lemmas.List.{append-nil, take-append-drop, length-take-le}
use Rattle.starlark_lexer.specs.Items.{Item, Lexed, with_items, opening_item, closing_item}
use Rattle.starlark_lexer.specs.Lex.{Past, Step, Lex, on, goes_on}
use Rattle.starlark_lexer.proofs.Joined.{Nest, outside_nil}
use Rattle.starlark_cutting.proofs.KeptLines.{Stops}
use Rattle.starlark_cutting.proofs.KeptMoves.{At, Fresh}
use Rattle.starlark_cutting.proofs.KeptSteps.{goes}
use Rattle.starlark_cutting.proofs.KeptTracks.{Tracks, tracks}
use Rattle.starlark_cutting.proofs.KeptCut.{joint_items, both_tracks}
use Rattle.starlark_cutting.proofs.KeptReach.{Reach, stays, more}

-- u is kept at the first place, and w of it at the other
pub record Front (p : Past) (u v : List ℕ) (xs : List Item) (q : Past) (w : List ℕ) : Type 0 where
  pub at : At p u v
  pub lex : (o : List ℕ) → Stops o → (m : Lexed) → Lex q (w ++ o) m → Lex p (u ++ o) (with_items xs m)

pub fronts : {p : Past} {rest : List ℕ} {xs : List Item} {q : Past} {left : List ℕ} → Reach p rest xs q left → (w v : List ℕ) → left ≡ w ++ v → At q w v → Nest p.mode p.outer → Fresh p → (u : List ℕ) × ((rest ≡ u ++ v) × Front p u v xs q w)
fronts (stays p rest) w v is at nest fr = (w, (is, record { at = at; lex = λ o s m d. d }))
fronts (more p rest xs q left ys r x step far) w v is at nest fr =
    let t = tracks step nest fr in
    let k = goes step fr in
    let f = fronts far w v is at t.nest t.fresh in
    let n = k.k in
    let le = k.le in
    let a = take n rest in
    let u = a ++ f.0 in
    let whole : rest ≡ u ++ v = sym (take-append-drop n rest) ∙ ap (λ y. a ++ y) (sym k.is ∙ f.1.0) ∙ sym (append_assoc a f.0 v) in
    let len : length a ≡ n = length-take-le n rest le in
    let cut : drop n u ≡ f.0 = ap (λ j. drop j u) (sym len) ∙ drop-append_seam a f.0 in
    let fits : n ≤ length u = omega (arith, len, length-append a f.0) in
    let there : At q (drop n u) v = subst (λ y. At q y v) (sym cut) f.1.1.at in (
      u,
      (
        whole,
        record {
          at = (k.go u v (10 ∷ []) whole fits there (inl refl)).0;
          lex = λ o s m d.
              let first : Step p (u ++ o) (on xs q (f.0 ++ o)) = subst (λ y. Step p (u ++ o) (on xs q (y ++ o))) cut (k.go u v o whole fits there (inl s)).1 in
              subst (Lex p (u ++ o)) (joint_items xs ys m) (goes_on p (u ++ o) xs q (f.0 ++ o) (with_items ys m) first (f.1.1.lex o s m d));
        },
      ),
    )

pub all_tracks : {p : Past} {rest : List ℕ} {xs : List Item} {q : Past} {left : List ℕ} → Reach p rest xs q left → Nest p.mode p.outer → Fresh p → Tracks p xs q
all_tracks (stays p rest) nest fr = record {
  opened = omega (arith, ap (count_by opening_item) (outside_nil (length p.outer)));
  closed = omega (arith, ap (count_by closing_item) (outside_nil (length p.outer)));
  strings = refl;
  nest = nest;
  fresh = fr;
  widths = λ ws s. record { still = ws; stack = s; count = refl };
}
all_tracks (more p rest xs q left ys r x step far) nest fr = let t = tracks step nest fr in both_tracks p xs q ys r t (all_tracks far t.nest t.fresh)

-- the last step
pub record LastStep (p : Past) (rest : List ℕ) (xs : List Item) (q : Past) (left : List ℕ) : Type 0 where
  pub front : List Item
  pub past : Past
  pub bytes : List ℕ
  pub reach : Reach p rest front past bytes
  pub items : List Item
  pub step : Step past bytes (on items q left)
  pub is : xs ≡ front ++ items

behind : {p : Past} {rest : List ℕ} {xs : List Item} {q : Past} {left : List ℕ} {ys : List Item} {r : Past} {v : List ℕ} → Step p rest (on xs q left) → Reach q left ys r v → LastStep p rest (xs ++ ys) r v
behind {p} {rest} {xs} step (stays q left) = record { front = []; past = p; bytes = rest; reach = stays p rest; items = xs; step = step; is = append-nil xs }
behind {p} {rest} {xs} step (more q left zs q2 left2 ws r v next far) =
    let s = behind next far in
    record {
      front = xs ++ s.front;
      past = s.past;
      bytes = s.bytes;
      reach = more p rest xs q left s.front s.past s.bytes step s.reach;
      items = s.items;
      step = s.step;
      is = ap (λ y. xs ++ y) s.is ∙ sym (append_assoc xs s.front s.items);
    }

pub last_step : {p : Past} {rest : List ℕ} {xs : List Item} {q : Past} {left : List ℕ} → Reach p rest xs q left → ((xs ≡ []) × ((q ≡ p) × (left ≡ rest))) ⊎ LastStep p rest xs q left
last_step (stays p rest) = inl (refl, (refl, refl))
last_step (more p rest xs q left ys r v step far) = inr (behind step far)
