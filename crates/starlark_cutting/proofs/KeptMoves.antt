-- A step within what is kept of a text, and what it needs of the bytes behind it.
use Rattle.std.proofs.Common.{◌≡◌, ◌<◌, ◌≤◌, ◌⊎◌, ℕ, ◌+◌, true, false, List, [], ◌∷◌, ◌++◌, length, take, drop, refl, ap, sym, ◌∙◌, arith, inl, inr, subst, length-drop}
use Rattle.std.proofs.lemmas.Bool.{false≢true}
use Rattle.std.proofs.lemmas.List.{drop-append-le}
use Rattle.starlark_lexer.specs.declared.literal.Form.{Form}
use Rattle.starlark_lexer.specs.declared.literal.Ending.{Ending}
use Rattle.starlark_lexer.specs.Items.{Item}
use Rattle.starlark_lexer.specs.Literals.{body}
use Rattle.starlark_lexer.specs.Depth.{Bracket}
use Rattle.starlark_lexer.specs.Classes.{Meaning, is_blank, leading, blanks, escaped, closes_field, IsLexeme}
use Rattle.starlark_lexer.specs.Lex.{Mode, Past, Step, on, is_inside, IsPlain, IsMeasured}
use Rattle.starlark_lexer.specs.Lex as rules
use Rattle.starlark_cutting.proofs.KeptBodies.{take_kept, run_same}
use Rattle.starlark_cutting.proofs.KeptReads.{Fits}
use Rattle.starlark_cutting.proofs.KeptLines.{Barred, Accepts, first_not, unescaped, closes_kept, Holds, holds_drop}

-- in an f-string, its text ends within what is kept
abbrev pub BodyFits : Mode → List ℕ → List ℕ → Type 0
BodyFits rules.code u v = Unit {0}
BodyFits (rules.inside b g) u v = (e : Ending) × ((body g 0 (u ++ v) ≡ e) × Fits g 0 u e)
BodyFits (rules.field b g bs) u v = Unit {0}

pub not_inside : (m : Mode) (u v : List ℕ) → is_inside m ≡ false → BodyFits m u v
not_inside rules.code u v e = tt
not_inside (rules.inside b g) u v e = absurd (false≢true (sym e))
not_inside (rules.field b g bs) u v e = tt

-- u is kept at a place, where v stood behind it
pub record At (p : Past) (u v : List ℕ) : Type 0 where
  pub holds : Holds u
  pub body : BodyFits p.mode u v

-- a line begins only among lexemes
abbrev pub Fresh : Past → Type 0
Fresh p = p.fresh ≡ true → p.mode ≡ rules.code

pub fresh_body : (p : Past) (u v : List ℕ) → Fresh p → p.fresh ≡ true → BodyFits p.mode u v
fresh_body p u v h f = subst (λ m. BodyFits m u v) (sym (h f)) tt

-- a step of k bytes: it is there too where what is kept of the text goes on
pub record Kept (p : Past) (rest : List ℕ) (xs : List Item) (q : Past) (more : List ℕ) : Type 0 where
  pub k : ℕ
  pub place : q.place ≡ p.place + k
  pub le : k ≤ length rest
  pub is : more ≡ drop k rest
  pub go : (u v o : List ℕ) → rest ≡ u ++ v → k ≤ length u → At q (drop k u) v → Barred u o → At p u v × Step p (u ++ o) (on xs q (drop k u ++ o))

pub kept : (p : Past) (rest : List ℕ) (xs : List Item) (q : Past) (k : ℕ) → q.place ≡ p.place + k → k ≤ length rest
    → ((u v o : List ℕ) → rest ≡ u ++ v → k ≤ length u → At q (drop k u) v → Barred u o → BodyFits p.mode u v × Step p (u ++ o) (on xs q (drop k (u ++ o))))
    → Kept p rest xs q (drop k rest)
kept p rest xs q k place le h = record {
  k = k;
  place = place;
  le = le;
  is = refl;
  go = λ u v o e l at bar.
      let r = h u v o e l at bar in (
        record { holds = holds_drop k u at.holds; body = r.0 },
        subst (λ w. Step p (u ++ o) (on xs q w)) (drop-append-le k u o l) r.1,
      );
}

-- something is left behind k bytes
pub left : (q : Past) (k : ℕ) (u v : List ℕ) → At q (drop k u) v → k < length u
left q k u v at = let h = at.holds in let s = h.some in omega (arith, s, length-drop k u)

-- ---- fronts

pub first_kept : (b : ℕ) (rest u v : List ℕ) → b ∷ rest ≡ u ++ v → 1 ≤ length u → (w : List ℕ) × ((u ≡ b ∷ w) × (rest ≡ w ++ v))
first_kept b rest [] v e le = absurd (omega (arith, le))
first_kept b rest (c ∷ w) v e le = let same : b ≡ c = cc in let more : rest ≡ w ++ v = cc in (w, ((λ i. sym same i ∷ w), more))

pub split_kept : (k : ℕ) (u v : List ℕ) (c : ℕ) (more : List ℕ) → k < length u → drop k (u ++ v) ≡ c ∷ more → (w : List ℕ) × ((drop k u ≡ c ∷ w) × (more ≡ w ++ v))
split_kept k u v c more lt e = first_kept c more (drop k u) v (sym e ∙ drop-append-le k u v (omega (arith, lt))) (omega (arith, lt, length-drop k u))

pub lead_kept : (rest u v o : List ℕ) → rest ≡ u ++ v → leading rest < length u → leading (u ++ o) ≡ leading rest
lead_kept rest u v o e lt = run_same is_blank u v o (omega (arith, lt, ap leading e)) ∙ ap leading (sym e)

-- what stands behind the blanks
pub stands_kept : (rest u v o : List ℕ) (c : ℕ) (more : List ℕ) → rest ≡ u ++ v → leading rest < length u → drop (leading rest) rest ≡ c ∷ more
    → (w : List ℕ) × ((drop (leading rest) u ≡ c ∷ w) × ((more ≡ w ++ v) × (drop (leading (u ++ o)) (u ++ o) ≡ c ∷ (w ++ o))))
stands_kept rest u v o c more e lt is =
    let s = split_kept (leading rest) u v c more lt (ap (drop (leading rest)) (sym e) ∙ is) in (
      s.0,
      (
        s.1.0,
        (s.1.1, ap (λ k. drop k (u ++ o)) (lead_kept rest u v o e lt) ∙ drop-append-le (leading rest) u o (omega (arith, lt)) ∙ ap (λ r. r ++ o) s.1.0),
      ),
    )

pub measured_kept : (p : Past) (rest u v o : List ℕ) → IsMeasured p rest → rest ≡ u ++ v → leading rest < length u → IsMeasured p (u ++ o)
measured_kept p rest u v o m e lt =
    let s = stands_kept rest u v o m.first m.more e lt m.stands in
    record { fresh = m.fresh; first = m.first; more = s.0 ++ o; stands = s.1.1.1; not_line = m.not_line; not_remark = m.not_remark }

pub blanks_kept : (rest u v o : List ℕ) → rest ≡ u ++ v → leading rest < length u → blanks (u ++ o) ≡ blanks rest
blanks_kept rest u v o e lt = ap (λ k. take k (u ++ o)) (lead_kept rest u v o e lt) ∙ take_kept rest u v o (leading rest) e (omega (arith, lt))

-- ---- lexemes

no_escape : (u v o : List ℕ) (n : ℕ) (m : Meaning) → IsLexeme (u ++ v) n m → Accepts m → 0 < length u → escaped (u ++ o) ≡ 0
no_escape [] v o n m l a h = absurd (omega (arith, h))
no_escape (b ∷ bs) v o n m l a h = unescaped b (bs ++ o) (first_not b (bs ++ v) n m l a)

pub field_code : (b : ℕ) (g : Form) (bs : List Bracket) → rules.field b g bs ≡ rules.code → ⊥
field_code b g bs e = cc

pub plain_kept : (p : Past) (rest u v o : List ℕ) (n : ℕ) (m : Meaning) → IsPlain p rest → IsLexeme rest n m → Accepts m → rest ≡ u ++ v → 0 < length u → (1 < length u) ⊎ (p.mode ≡ rules.code) → IsPlain p (u ++ o)
plain_kept p rest u v o n m h l a e some two = record {
  within = h.within;
  outside = h.outside;
  no_escape = no_escape u v o n m (subst (λ r. IsLexeme r n m) e l) a some;
  no_end = λ b g bs is d. elim two [
    | inl t ↦ closes_kept u v o t ∙ ap closes_field (sym e) ∙ h.no_end b g bs is d
    | inr c ↦ absurd (field_code b g bs (sym is ∙ c))
  ];
}
