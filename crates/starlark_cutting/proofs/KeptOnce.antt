-- The step whose item ends where what is kept of a text ends, in an f-string or outside.
use Rattle.std.proofs.Common.{◌≡◌, ◌<◌, ◌≤◌, ◌⊎◌, ℕ, ◌+◌, Bool, true, false, ◌||◌, List, [], ◌∷◌, ◌++◌, length, take, drop, get_or, refl, ap, sym, ◌∙◌, arith, inl, inr, eqb, subst}
use Rattle.std.specs.Prelude.{Some}
use Rattle.std.proofs.lemmas.Bool.{cases_Bool, false≢true}
use Rattle.std.proofs.lemmas.Bool.Decides.{nat_tests}
use Rattle.std.proofs.Math.Seq.{take-append_seam}
use Rattle.starlark_lexer.specs.declared.literal.Form.{Form}
use Rattle.starlark_lexer.specs.declared.literal.Ending.TheVariants as ending
use Rattle.starlark_lexer.specs.declared.token.LexemeError.TheVariants.{InvalidInput}
use Rattle.starlark_lexer.specs.Items.{Lexeme, Item, fstring_text, fstring_expr_end, fstring_bang}
use Rattle.starlark_lexer.specs.Literals.{body, quotes, value, is_format, opening_of}
use Rattle.starlark_lexer.specs.Classes.{meaning, token, refused, opens, closes_field, operator_of, IsLexeme}
use Rattle.starlark_lexer.specs.Lex.{Mode, Past, Move, Step, on, over, mode_behind, is_inside, below, gives, turns, literal_lexeme, IsPlain}
use Rattle.starlark_lexer.specs.Lex as rules
use Rattle.starlark_lexer.proofs.Openings.{quotes_some}
use Rattle.starlark_cutting.specs.Opened.{is_text}
use Rattle.starlark_cutting.proofs.KeptBodies.{take_kept}
use Rattle.starlark_lexer.proofs.Clean.{clean}
use Rattle.starlark_cutting.proofs.KeptLines.{Stops}
use Rattle.starlark_cutting.proofs.KeptMoves.{plain_kept}
use Rattle.starlark_cutting.proofs.KeptReads.{extent}
use Rattle.starlark_cutting.proofs.KeptFinal.{one_inner, behind_all, lexeme_cr, body_cr, dedents_not}
use Rattle.starlark_cutting.proofs.KeptMarks.{Barrier, barrier_stops, opening_barrier, brace_barrier, marks_of, is_opened}
use Rattle.starlark_cutting.proofs.KeptTails.{field_front, field_brace, stops_brace}
use Rattle.starlark_cutting.proofs.KeptOrdinary.{meaning_opening}
use Rattle.starlark_cutting.proofs.KeptOpen.{Bodies, none_inside, behind_same, Stands, lexeme_on, literal_on, leaves_on, more_text}
use Rattle.starlark_cutting.proofs.KeptBraces.{field_barrier, text_field}

-- the last of them is a piece of text
abbrev pub last_text : List Item → Bool
last_text [] = false
last_text (x ∷ []) = is_text x.lexeme
last_text (x ∷ y ∷ xs) = last_text (y ∷ xs)

-- What stands behind it: a space, a CR or a line feed among lexemes; in the text of an f-string its quotes, or a brace where a text stands before it; and one of these behind that.
abbrev pub Follows : Bool → Mode → List ℕ → Type 0
Follows t rules.code o = Stops o
Follows true (rules.inside b g) o = (r : List ℕ) × ((o ≡ 123 ∷ r) × Stops r)
Follows false (rules.inside b g) o = (r : List ℕ) × ((o ≡ marks_of g.quote ++ r) × Stops r)
Follows t (rules.field b g bs) o = Stops o

pub follows_stops : (t : Bool) (m : Mode) (o : List ℕ) → is_inside m ≡ false → Follows t m o → Stops o
follows_stops t rules.code o e h = h
follows_stops t (rules.inside b g) o e h = absurd (false≢true (sym e))
follows_stops t (rules.field b g bs) o e h = h

-- in the text of an f-string, that is one, and the place around it is in no text
abbrev pub Low : Past → Type 0
Low p = (b : ℕ) (g : Form) → p.mode ≡ rules.inside b g → (is_format g.sort ≡ true) × (is_inside (below p.outer) ≡ false)

pub record SteppedOn (p : Past) (xs : List Item) (q : Past) (u v o : List ℕ) : Type 0 where
  pub stands : Stands p u v o
  pub step : Step p (u ++ o) (on xs q o)
  pub fresh : q.fresh ≡ false

-- ---- a lexeme of one byte in a field

bang_refused : meaning (33 ∷ []) ≡ Some (refused InvalidInput)
unfolding meaning opening_of operator_of
bang_refused = refl

no_bang : (b : ℕ) (x : Lexeme) → meaning (b ∷ []) ≡ Some (token x) → eqb b 33 ≡ false
no_bang b x h = elim (cases_Bool (eqb b 33)) [
  | inr e ↦ e
  | inl e ↦
      let s : b ≡ 33 = grind (arith, nat_tests) in
      let r : Some (refused InvalidInput) ≡ Some (token x) = sym bang_refused ∙ ap (λ c. meaning (c ∷ [])) (sym s) ∙ h in
      absurd (cc)
]

closes_first : (b : ℕ) (w : List ℕ) → eqb b 33 ≡ false → closes_field (b ∷ w) ≡ (eqb b 125 || false)
closes_first b w e = rw e refl

plain_last : (p : Past) (rest u v o : List ℕ) (n : ℕ) (x : Lexeme) → IsPlain p rest → IsLexeme rest n (token x) → rest ≡ u ++ v → n ≡ length u → IsPlain p (u ++ o)
plain_last p rest [] v o n x h l e all = absurd (omega (arith, all, l.nonempty))
plain_last p rest (b ∷ c ∷ u) v o n x h l e all = plain_kept p rest (b ∷ c ∷ u) v o n (token x) h l tt e (omega arith) (inl (omega arith))
plain_last p rest (b ∷ []) v o n x h l e all =
    let one : n ≡ 1 = omega (arith, all) in
    let w : take n rest ≡ b ∷ [] = λ i. take (one i) (e i) in
    let f = no_bang b x (ap meaning (sym w) ∙ l.means) in
    let a = plain_kept (record { place = p.place; items = p.items; lines = p.lines; fresh = p.fresh; mode = rules.code; outer = p.outer }) rest (b ∷ []) v o n (token x)
    (record { within = h.within; outside = refl; no_escape = h.no_escape; no_end = λ i g bs z d. absurd (cc) }) l tt e (omega arith) (inr refl) in
    record {
      within = h.within;
      outside = h.outside;
      no_escape = a.no_escape;
      no_end = λ i g bs z d. closes_first b o f ∙ sym (closes_first b v f) ∙ ap closes_field (sym e) ∙ h.no_end i g bs z d;
    }

-- ---- the step

stops_equal : (o : List ℕ) → Stops o → closes_field (33 ∷ o) ≡ true
stops_equal [] h = absurd h
stops_equal (b ∷ o) h = elim (cases_Bool (eqb b 61)) [
  | inr e ↦ rw e refl
  | inl e ↦ let s : b ≡ 61 = grind (arith, nat_tests) in absurd (false≢true (sym h ∙ ap clean s))
]

abbrev pub Last_on : Past → List ℕ → Move → Type 0
Last_on p rest (on xs q more) = (u v o : List ℕ) → rest ≡ u ++ v → q.place ≡ p.place + length u → one_inner xs ≡ true → Low p → Follows (last_text xs) q.mode o → SteppedOn p xs q u v o
Last_on p rest (over l) = Unit {0}

ends_at : (g : Form) (rest u v : List ℕ) (k : ℕ) → rest ≡ u ++ v → k ≡ length u → (body g 0 rest ≡ ending.Closed k) ⊎ (body g 0 rest ≡ ending.Field k) → (body g 0 (u ++ v) ≡ ending.Closed (length u)) ⊎ (body g 0 (u ++ v) ≡ ending.Field (length u))
ends_at g rest u v k is all (inl e) = inl (ap (body g 0) (sym is) ∙ e ∙ ap ending.Closed all)
ends_at g rest u v k is all (inr e) = inr (ap (body g 0) (sym is) ∙ e ∙ ap ending.Field all)

extent_at : (g : Form) (rest u v : List ℕ) (k : ℕ) → rest ≡ u ++ v → (body g 0 rest ≡ ending.Closed k) ⊎ (body g 0 rest ≡ ending.Field k) → extent (body g 0 (u ++ v)) ≡ k
extent_at g rest u v k is (inl e) = ap (λ r. extent (body g 0 r)) (sym is) ∙ ap extent e
extent_at g rest u v k is (inr e) = ap (λ r. extent (body g 0 r)) (sym is) ∙ ap extent e

one_brace : (g : Form) (u v : List ℕ) → 1 ≡ length u → body g 0 (u ++ v) ≡ ending.Field 0 → u ≡ 123 ∷ []
one_brace g [] v all h = absurd (omega (arith, all))
one_brace g (a ∷ []) v all h = ap (λ b. b ∷ []) (field_front g a v h)
one_brace g (a ∷ c ∷ u) v all h = absurd (omega (arith, all))

one_byte : (b : ℕ) (rest u v : List ℕ) → b ∷ rest ≡ u ++ v → 1 ≡ length u → u ≡ b ∷ []
one_byte b rest [] v is all = absurd (omega (arith, all))
one_byte b rest (a ∷ []) v is all = let s : b ≡ a = cc in ap (λ x. x ∷ []) (sym s)
one_byte b rest (a ∷ c ∷ u) v is all = absurd (omega (arith, all))

other_byte : (b : ℕ) → eqb b 13 ≡ false → b ∷ [] ≡ 13 ∷ [] → ⊥
other_byte b e h = false≢true (sym e ∙ ap (λ x. eqb (get_or x 0 0) 13) h)

pub last_on : {p : Past} {rest : List ℕ} {m : Move} → Step p rest m → Last_on p rest m
last_on (rules.blank_line p rest more f e) = λ u v o is at i. absurd (false≢true i)
last_on (rules.remark_line p rest more f e) = λ u v o is at i. absurd (false≢true i)
last_on (rules.last_line p rest closed f e c) = tt
last_on (rules.tabbed p rest m t) = tt
last_on (rules.deepens p rest m t d) = λ u v o is at i. absurd (false≢true i)
last_on (rules.fits p rest closed m t n d) = λ u v o is at i. absurd (false≢true (sym (dedents_not p.place (length closed)) ∙ i))
last_on (rules.misfits p rest m t d o) = tt
last_on (rules.passes p b rest f c d) = λ u v o is at i. absurd (false≢true i)
last_on (rules.escapes p rest f c d) = λ u v o is at i. absurd (false≢true i)
last_on (rules.joins p rest f d) = λ u v o is at i. absurd (false≢true i)
last_on (rules.ends_line p rest f c d) = λ u v o is at i. absurd (false≢true i)
last_on (rules.remark p rest f c) = λ u v o is at i. absurd (false≢true i)
last_on (rules.lexeme p rest n x v l) = λ u w o is at i low h.
    let all : n ≡ length u = omega (arith, at) in
    let here = subst (λ r. IsLexeme r n (token x)) is l in
    let some = l.nonempty in
    let bars = barrier_stops u o (follows_stops (is_text x) (mode_behind p.mode x) o (behind_same p.mode x v.outside) h) in
    record {
      stands = record { some = omega (arith, all, some); not_cr = λ z. lexeme_cr u w n (token x) here all; body = none_inside p.mode u w o v.outside; bars = bars };
      step = behind_all p _ _ u o n all (rules.lexeme p (u ++ o) n x (plain_last p rest u w o n x v l is all) (lexeme_on u w o n (token x) here (omega (arith, all)) bars));
      fresh = refl;
    }
last_on (rules.faults p rest n e v l) = tt
last_on (rules.ends_text p closed f c d) = tt
last_on (rules.literal p rest n g k v l t e) = λ u w o is at i low h.
    let j = n + k + quotes g.quote in
    let all : j ≡ length u = omega (arith, at) in
    let some = l.nonempty in
    let more = quotes_some g.quote in
    let two : 1 < length u = omega (arith, all, some, more) in
    let x = literal_lexeme g.sort (value g (take k (drop n rest))) in
    let bars = barrier_stops u o (follows_stops (is_text x) (mode_behind p.mode x) o (behind_same p.mode x v.outside) h) in
    record {
      stands = record { some = omega (arith, two); not_cr = λ z r. omega (arith, two, ap length r); body = none_inside p.mode u w o v.outside; bars = bars };
      step = behind_all p _ _ u o j all (literal_on p rest u w o n g k v l t e is (omega (arith, all)) bars two);
      fresh = refl;
    }
last_on (rules.unclosed p rest n g k v l t e) = tt
last_on (rules.misspelt p rest n g k m v l t e) = tt
last_on (rules.enters p rest n g v l t) = λ u w o is at i low h.
    let all : n ≡ length u = omega (arith, at) in
    let here = subst (λ r. IsLexeme r n (opens g)) is l in
    let op : opening_of u ≡ Some g = meaning_opening u g (ap meaning (sym (ap (λ k. take k (u ++ w)) all ∙ take-append_seam u w)) ∙ here.means) in
    let a = is_opened u g op in
    let two : 1 < length u = omega (arith, a.len, a.some t, quotes_some g.quote) in
    let bars : Barrier u o = subst (Barrier u) (sym h.1.0) (opening_barrier u g h.0 op t h.1.1) in
    record {
      stands = record { some = omega (arith, two); not_cr = λ z r. omega (arith, two, ap length r); body = none_inside p.mode u w o v.outside; bars = bars };
      step = behind_all p _ _ u o n all (rules.enters p (u ++ o) n g (plain_kept p rest u w o n (opens g) v l tt is (omega (arith, two)) (inl two)) (lexeme_on u w o n (opens g) here (omega (arith, all)) bars) t);
      fresh = refl;
    }
last_on (rules.texts p b g rest k f c some e) = λ u w o is at i low h.
    let x = fstring_text (value g (take k rest)) in
    let all : k ≡ length u = omega (arith, at) in
    let l = low b g c in
    let r = subst (λ m. Follows true (mode_behind m x) o) c h in
    let same : ending.Field (length u) ≡ ending.Field k = ap ending.Field (sym all) in
    let there : body g 0 (u ++ o) ≡ ending.Field k = ap (λ y. body g 0 (u ++ y)) r.1.0 ∙ text_field g u w r.0 l.0 r.1.1 (ends_at g rest u w k is all e) ∙ same in
    record {
      stands = record {
        some = omega (arith, all, some);
        not_cr = λ z. absurd (false≢true (sym z ∙ ap is_inside c));
        body = more_text p b g u w o k c some (extent_at g rest u w k is e);
        bars = subst (Barrier u) (sym r.1.0) (field_barrier u r.0 (omega (arith, all, some)));
      };
      step = behind_all p _ _ u o k all
          (subst (λ y. Step p (u ++ o) (gives p 0 (fstring_text (value g y)) k k false (u ++ o))) (take_kept rest u w o k is (omega (arith, all))) (rules.texts p b g (u ++ o) k f c some (inr there)));
      fresh = refl;
    }
last_on (rules.leaves p b g rest f c e) = λ u w o is at i low h.
    let all : quotes g.quote ≡ length u = omega (arith, at) in
    let le : quotes g.quote ≤ length u = omega (arith, all) in
    let here : body g 0 (u ++ w) ≡ ending.Closed 0 = ap (body g 0) (sym is) ∙ e in
    let t = leaves_on p b g rest u w o f c e is le in
    record {
      stands = record {
        some = omega (arith, all, quotes_some g.quote);
        not_cr = λ z r. body_cr g w (ap (λ y. body g 0 (y ++ w)) (sym r) ∙ here);
        body = t.0;
        bars = barrier_stops u o (follows_stops false (below p.outer) o (low b g c).1 h);
      };
      step = behind_all p _ _ u o (quotes g.quote) all t.1;
      fresh = refl;
    }
last_on (rules.opens_field p b g rest f c e) = λ u w o is at i low h.
    let all : 1 ≡ length u = omega (arith, at) in
    let here : body g 0 (u ++ w) ≡ ending.Field 0 = ap (body g 0) (sym is) ∙ e in
    let a : u ≡ 123 ∷ [] = one_brace g u w all here in
    let there : body g 0 (u ++ o) ≡ ending.Field 0 = ap (λ y. body g 0 (y ++ o)) a ∙ field_brace g o (low b g c).0 (stops_brace o h) in
    record {
      stands = record {
        some = omega (arith, all);
        not_cr = λ z. absurd (false≢true (sym z ∙ ap is_inside c));
        body = subst (λ m. Bodies m u w o) (sym c) (inl (there ∙ sym here));
        bars = barrier_stops u o h;
      };
      step = behind_all p _ _ u o 1 all (rules.opens_field p b g (u ++ o) f c there);
      fresh = refl;
    }
last_on (rules.unfinished p b g rest k f c e) = tt
last_on (rules.misspells p b g rest k m f c e) = tt
last_on (rules.shuts p b g bs rest f c d) = λ u w o is at i low h.
    let all : 1 ≡ length u = omega (arith, at) in
    let a : u ≡ 125 ∷ [] = one_byte 125 rest u w is all in
    record {
      stands = record {
        some = omega (arith, all);
        not_cr = λ z r. other_byte 125 refl (sym a ∙ r);
        body = subst (λ m. Bodies m u w o) (sym c) tt;
        bars = subst (λ y. Barrier y o) (sym a) (subst (Barrier (125 ∷ [])) (sym h.1.0) (brace_barrier g.quote h.0 h.1.1));
      };
      step = subst (λ y. Step p (y ++ o) (turns p fstring_expr_end 1 (rules.inside b g) p.outer (125 ∷ o))) (sym a) (rules.shuts p b g bs o f c d);
      fresh = refl;
    }
last_on (rules.bangs p b g bs rest f c d e) = λ u w o is at i low h.
    let all : 1 ≡ length u = omega (arith, at) in
    let a : u ≡ 33 ∷ [] = one_byte 33 rest u w is all in
    let stop = follows_stops false (mode_behind p.mode fstring_bang) o (behind_same p.mode fstring_bang (ap is_inside c)) h in
    record {
      stands = record {
        some = omega (arith, all);
        not_cr = λ z r. other_byte 33 refl (sym a ∙ r);
        body = subst (λ m. Bodies m u w o) (sym c) tt;
        bars = barrier_stops u o stop;
      };
      step = subst (λ y. Step p (y ++ o) (gives p 0 fstring_bang 1 1 false (33 ∷ o))) (sym a) (rules.bangs p b g bs o f c d (stops_equal o stop));
      fresh = refl;
    }
