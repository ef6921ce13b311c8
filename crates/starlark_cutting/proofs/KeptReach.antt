-- The steps up to an item that stands behind a line's beginning, one by one.
use Rattle.std.proofs.Common.{◌≡◌, ◌<◌, ◌≤◌, ◌⊎◌, ℕ, ◌+◌, Bool, true, false, List, [], ◌∷◌, ◌++◌, length, refl, ap, sym, ◌∙◌, arith, inl, inr, subst, append_assoc, length-drop}
use Rattle.std.specs.Prelude.{Option}
use Rattle.std.proofs.lemmas.List.{append-nil}
use Rattle.starlark_lexer.specs.Items.{Item, Stop, Lexed, is_newline}
use Rattle.starlark_lexer.specs.Lex.{Past, Step, Lex, on, over, goes_on, is_over}
use Rattle.starlark_cutting.proofs.KeptMoves.{Fresh}
use Rattle.starlark_cutting.proofs.KeptSteps.{goes}
use Rattle.starlark_cutting.proofs.KeptTracks.{tracks}
use Rattle.starlark_cutting.proofs.KeptTexts.{split}
use Rattle.starlark_lexer.proofs.Joined.{Nest}

-- steps that give the items, from a place to another
pub data Reach : Past → List ℕ → List Item → Past → List ℕ → Type 0 where
  stays : (p : Past) (rest : List ℕ) → Reach p rest [] p rest
  more : (p : Past) (rest : List ℕ) (xs : List Item) (q : Past) (left : List ℕ) (ys : List Item) (r : Past) (v : List ℕ) → Step p rest (on xs q left) → Reach q left ys r v → Reach p rest (xs ++ ys) r v

-- one line end
abbrev pub is_line : List Item → Bool
is_line [] = false
is_line (x ∷ []) = is_newline x.lexeme
is_line (x ∷ y ∷ xs) = false

-- steps of which the last one leads to a line's beginning
pub data Lines : Past → List ℕ → List Item → Past → List ℕ → Type 0 where
  last : (p : Past) (rest : List ℕ) (xs : List Item) (q : Past) (left : List ℕ) → Step p rest (on xs q left) → q.fresh ≡ true → (0 < length left) ⊎ (is_line xs ≡ true) → Lines p rest xs q left
  before : (p : Past) (rest : List ℕ) (xs : List Item) (q : Past) (left : List ℕ) (ys : List Item) (r : Past) (v : List ℕ) → Step p rest (on xs q left) → Lines q left ys r v → Lines p rest (xs ++ ys) r v

pub behind : {p : Past} {rest : List ℕ} {xs : List Item} {q : Past} {left : List ℕ} {ys : List Item} {r : Past} {v : List ℕ} → Step p rest (on xs q left) → Reach q left ys r v → r.fresh ≡ true → 0 < length v → Lines p rest (xs ++ ys) r v
behind {p} {rest} {xs} step (stays q left) f some = subst (λ w. Lines p rest w q left) (sym (append-nil xs)) (last p rest xs q left step f (inl some))
behind {p} {rest} {xs} step (more q left zs q2 left2 ws r v step2 far) f some = before p rest xs q left (zs ++ ws) r v step (behind step2 far f some)

-- no steps, or such
pub lines_of : {p : Past} {rest : List ℕ} {xs : List Item} {q : Past} {v : List ℕ} → Reach p rest xs q v → q.fresh ≡ true → 0 < length v → ((xs ≡ []) × (q ≡ p)) ⊎ Lines p rest xs q v
lines_of (stays p rest) f some = inl (refl, refl)
lines_of (more p rest xs q left ys r v step far) f some = inr (behind step far f some)

-- a step to a line's beginning more
pub one_more : {p : Past} {rest : List ℕ} {xs : List Item} {q : Past} {left : List ℕ} {ys : List Item} {r : Past} {v : List ℕ} → Reach p rest xs q left → Step q left (on ys r v) → r.fresh ≡ true → is_line ys ≡ true → Lines p rest (xs ++ ys) r v
one_more {p} {rest} {xs} {q} {left} {ys} {r} {v} (stays _ _) step f l = last q left ys r v step f (inr l)
one_more {p} {rest} {xs} {q} {left} {ys} {r} {v} (more _ _ ws q2 left2 zs _ _ first far) step f l =
    subst (λ w. Lines p rest w r v) (sym (append_assoc ws zs ys)) (before p rest ws q2 left2 (zs ++ ys) r v first (one_more far step f l))

-- where an item is given, before what stands behind it
pub record Found (p : Past) (rest : List ℕ) (zs : List Item) (z : Item) (ys : List Item) (fault : Option Stop) : Type 0 where
  pub front : List Item
  pub first : List Item
  pub is : zs ≡ front ++ first
  pub past : Past
  pub left : List ℕ
  pub reach : Reach p rest front past left
  pub given : ((xs : List Item) × (q : Past) × (v : List ℕ) × (ws : List Item) × (Step past left (on xs q v) × (xs ≡ first ++ z ∷ ws))) ⊎ ((l : Lexed) × (Step past left (over l) × ((l.items ≡ first ++ z ∷ ys) × (l.fault ≡ fault))))

pub find : {p : Past} {rest : List ℕ} {l : Lexed} → Lex p rest l → (zs : List Item) (z : Item) (ys : List Item) → l.items ≡ zs ++ z ∷ ys → Found p rest zs z ys l.fault
find (is_over p rest l step) zs z ys e = record { front = []; first = zs; is = refl; past = p; left = rest; reach = stays p rest; given = inr (l, (step, (e, refl))) }
find (goes_on p rest xs q left l step d) zs z ys e = elim (split xs l.items zs z ys e) [
  | inr h ↦ record { front = []; first = zs; is = refl; past = p; left = rest; reach = stays p rest; given = inl (xs, q, left, h.0, (step, h.1)) }
  | inl h ↦
      let f = find d h.0 z ys h.1.1 in
      record {
        front = xs ++ f.front;
        first = f.first;
        is = h.1.0 ∙ ap (λ w. xs ++ w) f.is ∙ sym (append_assoc xs f.front f.first);
        past = f.past;
        left = f.left;
        reach = more p rest xs q left f.front f.past f.left step f.reach;
        given = f.given;
      }
]

-- how far the steps lead
pub far_reach : {p : Past} {rest : List ℕ} {xs : List Item} {q : Past} {v : List ℕ} → Reach p rest xs q v → Fresh p → Nest p.mode p.outer → (p.place ≤ q.place) × ((q.place + length v ≡ p.place + length rest) × Fresh q)
far_reach (stays p rest) fr nest = (omega arith, (refl, fr))
far_reach (more p rest xs q left ys r v step far) fr nest =
    let k = goes step fr in
    let t = tracks step nest fr in
    let h = far_reach far t.fresh t.nest in
    let le = k.le in
    (omega (arith, h.0, k.place), (omega (arith, h.1.0, k.place, le, ap length k.is, length-drop k.k rest), h.1.1))

pub far_lines : {p : Past} {rest : List ℕ} {xs : List Item} {q : Past} {v : List ℕ} → Lines p rest xs q v → Fresh p → Nest p.mode p.outer → p.place ≤ q.place
far_lines (last p rest xs q left step f c) fr nest = let k = goes step fr in omega (arith, k.place)
far_lines (before p rest xs q left ys r v step far) fr nest =
    let k = goes step fr in
    let t = tracks step nest fr in
    omega (arith, k.place, far_lines far t.fresh t.nest)
