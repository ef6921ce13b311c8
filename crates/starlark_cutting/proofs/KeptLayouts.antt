-- A text that is cut off behind a line end or a Dedent.
use Rattle.std.proofs.Common.{◌≡◌, ◌<◌, ℕ, ◌+◌, true, false, List, [], ◌∷◌, ◌++◌, length, drop, refl, ap, sym, ◌∙◌, arith, zero, suc, inl, inr, subst, length-append}
use Rattle.std.proofs.lemmas.Bool.{false≢true}
use Rattle.std.proofs.lemmas.List.{append-nil}
use Rattle.starlark_lexer.specs.Items.{Lexeme, Item, item, newline, dedent, dedents, is_newline}
use Rattle.starlark_lexer.specs.Classes.{leading}
use Rattle.starlark_lexer.specs.Lex.{Past, Step, on, IsMeasured}
use Rattle.starlark_lexer.specs.Joining.{is_dedent}
use Rattle.starlark_cutting.specs.Cutting.{IsCutAt, IsClosedOff, IsClosedBefore}
use Rattle.starlark_lexer.proofs.Widths.{IsStack}
use Rattle.starlark_cutting.proofs.KeptReach.{is_line, one_more, find, far_reach}
use Rattle.starlark_cutting.proofs.KeptFresh.{Begun, begun, begun_lines, ended_with}
use Rattle.starlark_cutting.proofs.KeptGiven.{Falls, Given, line, shallower, deeper, other, layout, given}

not_both : (x : Lexeme) → x ≡ newline → layout x ≡ false → ⊥
not_both x e f = false≢true (sym f ∙ ap layout e)

-- ---- a line end

pub record Ended (u : List ℕ) (xs : List Item) : Type 0 where
  pub past : Past
  pub begun : Begun u xs past

pub line_given : {p : Past} {rest : List ℕ} {xs : List Item} {q : Past} {v : List ℕ} (first : List Item) (z : Item) → Step p rest (on xs q v) → Given p rest xs q first z → z.lexeme ≡ newline → (first ≡ []) × ((xs ≡ z ∷ []) × ((z.end ≡ q.place) × ((q.fresh ≡ true) × (z.end ≡ z.begin + 1))))
line_given first z step (line a b c d e w) n = (a, (b, (d, (e, w))))
line_given first z step (shallower k a b m c f) n = absurd (false≢true (ap (λ x. is_newline x.lexeme) (sym b) ∙ ap is_newline n))
line_given first z step (deeper a b m t d) n = absurd (false≢true (ap (λ x. is_newline x.lexeme) (sym b) ∙ ap is_newline n))
line_given first z step (other a) n = absurd (not_both z.lexeme n a)

pub line_begun : (u v : List ℕ) (before : List Item) (z : Item) (behind : List Item) → IsCutAt u v before z behind → z.lexeme ≡ newline → z.end ≡ z.begin + 1 → Ended u (before ++ z ∷ [])
line_begun u v before z behind c n one =
    let f = find c.lex before z behind refl in
    elim f.given [
      | inr (l, (step, e)) ↦ absurd (omega (arith, one, (given step f.first z behind e.0).1.0))
      | inl (xs, q, w, ws, (step, e)) ↦
          let g = line_given f.first z step (given step f.first z ws e) n in
          let ls = one_more f.reach step g.1.1.1.0 (ap is_line g.1.0 ∙ ap is_newline n) in
          let all : f.front ++ xs ≡ before ++ z ∷ [] = ap (λ y. f.front ++ y) g.1.0 ∙ ap (λ y. y ++ z ∷ []) (sym (append-nil f.front) ∙ ap (λ y. f.front ++ y) (sym g.0) ∙ sym f.is) in
          record { past = q; begun = subst (λ y. Begun u y q) all (begun_lines ls u v refl (sym g.1.1.0 ∙ sym c.length_is)) }
    ]

pub behind_line : (u v : List ℕ) (before : List Item) (z : Item) (behind : List Item) → IsCutAt u v before z behind → z.lexeme ≡ newline → z.end ≡ z.begin + 1 → IsClosedOff u (before ++ z ∷ [])
behind_line u v before z behind c n one = let b = line_begun u v before z behind c n one in (ended_with u (before ++ z ∷ []) b.past b.begun).0

-- ---- a Dedent

pub measured_some : (p : Past) (rest : List ℕ) → IsMeasured p rest → 0 < length rest
measured_some p [] m = absurd (none (leading []) m.first m.more m.stands)
  where
    none : (k b : ℕ) (bs : List ℕ) → drop {A = ℕ} k [] ≡ b ∷ bs → ⊥
    none zero b bs e = omega (arith, ap length e)
    none (suc k) b bs e = omega (arith, ap length e)
measured_some p (b ∷ rest) m = omega arith

pub record Shallower (p : Past) (rest : List ℕ) (xs first : List Item) (z : Item) : Type 0 where
  pub some : ℕ
  pub first_is : first ≡ dedents p.place some
  pub is : z ≡ item p.place dedent p.place
  pub measured : IsMeasured p rest
  pub fewer : (ws : List ℕ) → IsStack p.lines ws → some < length ws
  pub falls : Falls p rest xs

pub dedent_given : {p : Past} {rest : List ℕ} {xs : List Item} {q : Past} {v : List ℕ} (first : List Item) (z : Item) → Step p rest (on xs q v) → Given p rest xs q first z → z.lexeme ≡ dedent → Shallower p rest xs first z
dedent_given first z step (line a b c d e w) n = absurd (false≢true (ap is_dedent (sym c) ∙ ap is_dedent n))
dedent_given first z step (shallower k a b m c f) n = record { some = k; first_is = a; is = b; measured = m; fewer = c; falls = f }
dedent_given first z step (deeper a b m t d) n = absurd (false≢true (ap (λ x. is_dedent x.lexeme) (sym b) ∙ ap is_dedent n))
dedent_given first z step (other a) n = absurd (false≢true (sym a ∙ ap layout n))

pub behind_dedent : (u v : List ℕ) (before : List Item) (z : Item) (behind : List Item) → IsCutAt u v before z behind → z.lexeme ≡ dedent → 0 < length v → IsClosedBefore u before
behind_dedent u v before z behind c n some =
    let f = find c.lex before z behind refl in
    let far = far_reach f.reach (λ _. refl) tt in
    elim f.given [
      | inr (l, (step, e)) ↦ absurd (omega (arith, (given step f.first z behind e.0).0, far.1.0, c.length_is, some, length-append u v))
      | inl (xs, q, w, ws, (step, e)) ↦
          let g = dedent_given f.first z step (given step f.first z ws e) n in
          let at : f.past.place ≡ length u = sym (ap (λ x. x.end) g.is) ∙ sym c.length_is in
          let b = begun f.reach g.measured.fresh (measured_some f.past f.left g.measured) u v refl at in
          let s = ended_with u f.front f.past b in
          record {
            front = f.front;
            some = g.some;
            is = f.is ∙ ap (λ y. f.front ++ y) (g.first_is ∙ ap (λ i. dedents i g.some) at);
            closed = s.0;
            fewer = omega (arith, g.fewer s.1.0 s.1.1.0, s.1.1.1);
          }
    ]
