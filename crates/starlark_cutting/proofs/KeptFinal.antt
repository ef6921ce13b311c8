-- The step whose item ends where what is kept of a text ends: it is one there where a blank or a line feed stands behind.
use Rattle.std.proofs.Common.{◌≡◌, ◌≤◌, ℕ, ◌+◌, ◌-◌, Bool, false, List, [], ◌∷◌, ◌++◌, length, take, drop, refl, ap, sym, ◌∙◌, arith, zero, suc, inl, inr, eqb, subst}
use Rattle.std.specs.Prelude.{Option, Some, None}
use Rattle.std.proofs.Math.Seq.{drop-append_seam}
use Rattle.starlark_lexer.specs.declared.literal.Form.{Form}
use Rattle.starlark_lexer.specs.declared.literal.Ending.{Ending}
use Rattle.starlark_lexer.specs.declared.literal.Ending.TheVariants as ending
use Rattle.starlark_lexer.specs.declared.literal.Piece.TheVariants.{Nothing}
use Rattle.starlark_lexer.specs.declared.token.FStringQuote.{FStringQuote}
use Rattle.starlark_lexer.specs.declared.token.FStringQuote.TheVariants.{Single, Double, TripleSingle, TripleDouble}
use Rattle.starlark_lexer.specs.Items.{Lexeme, Item, dedents, fstring_end}
use Rattle.starlark_lexer.specs.Literals.{body, read, by_piece, piece, mark, later, quotes, value, is_format}
use Rattle.starlark_lexer.specs.Classes.{Meaning, meaning, token, opens, IsLexeme}
use Rattle.starlark_lexer.specs.Lex.{Mode, Past, Move, Step, on, over, mode_behind, below, gives, turns, literal_lexeme, IsPlain}
use Rattle.starlark_lexer.specs.Lex as rules
use Rattle.starlark_lexer.proofs.Openings.{quotes_some}
use Rattle.starlark_cutting.specs.Cutting.{inner}
use Rattle.starlark_lexer.proofs.Clean.{stop_none}
use Rattle.starlark_cutting.proofs.KeptLines.{Stops, lexeme_kept}
use Rattle.starlark_cutting.proofs.KeptMoves.{At, not_inside, plain_kept}
use Rattle.starlark_cutting.proofs.KeptSteps.{literal_kept, leaves_kept}

-- one such item
abbrev pub one_inner : List Item → Bool
one_inner [] = false
one_inner (x ∷ []) = inner x.lexeme
one_inner (x ∷ y ∷ xs) = false

pub dedents_not : (i n : ℕ) → one_inner (dedents i n) ≡ false
dedents_not i zero = refl
dedents_not i (suc zero) = refl
dedents_not i (suc (suc n)) = refl

pub code_behind : (m : Mode) (x : Lexeme) → mode_behind m x ≡ rules.code → m ≡ rules.code
code_behind rules.code x e = refl
code_behind (rules.inside b g) x e = absurd (cc)
code_behind (rules.field b g bs) x e = absurd (cc)

pub inside_code : (b : ℕ) (g : Form) → rules.inside b g ≡ rules.code → ⊥
inside_code b g e = cc

-- ---- a CR alone is no lexeme, and ends no literal

none_some : (o : Option Meaning) (m : Meaning) → o ≡ None → o ≡ Some m → ⊥
none_some o m h k = cc

pub lexeme_cr : (u v : List ℕ) (n : ℕ) (m : Meaning) → IsLexeme (u ++ v) n m → n ≡ length u → u ≡ 13 ∷ [] → ⊥
lexeme_cr u v n m l e is =
    let one : n ≡ 1 = omega (arith, e, ap length is) in
    let w : take n (u ++ v) ≡ 13 ∷ [] = (λ i. take (one i) (is i ++ v)) in
    none_some _ m (ap meaning w ∙ stop_none (13 ∷ []) 0 (omega arith) refl) l.means

later_not : (e : Ending) → later 1 e ≡ ending.Closed 0 → ⊥
later_not (ending.Closed k) h = let z : 1 + k ≡ 0 = cc in omega (arith, z)
later_not (ending.Field k) h = cc
later_not (ending.Unfinished k) h = cc
later_not (ending.Escape k m) h = cc

cr_mark : (q : FStringQuote) → eqb 13 (mark q) ≡ false
cr_mark Single = refl
cr_mark Double = refl
cr_mark TripleSingle = refl
cr_mark TripleDouble = refl

cr_piece : (g : Form) (v : List ℕ) → piece g (13 ∷ v) ≡ Nothing 1
unfolding piece
cr_piece g v = let m = cr_mark g.quote in rw m refl

pub body_cr : (g : Form) (v : List ℕ) → body g 0 (13 ∷ v) ≡ ending.Closed 0 → ⊥
unfolding read
body_cr g v e = later_not (read g 0 v).ending (ap (λ p. (by_piece p (13 ∷ v) (λ k. read g (k - 1) v)).ending) (sym (cr_piece g v)) ∙ e)

-- ---- the step

pub record Stepped (p : Past) (xs : List Item) (q : Past) (u v : List ℕ) : Type 0 where
  pub at : At p u v
  pub step : (o : List ℕ) → Stops o → Step p (u ++ o) (on xs q o)
  pub fresh : q.fresh ≡ false

pub behind_all : (p : Past) (xs : List Item) (q : Past) (u o : List ℕ) (k : ℕ) → k ≡ length u → Step p (u ++ o) (on xs q (drop k (u ++ o))) → Step p (u ++ o) (on xs q o)
behind_all p xs q u o k e step = subst (λ w. Step p (u ++ o) (on xs q w)) (ap (λ n. drop n (u ++ o)) e ∙ drop-append_seam u o) step

-- A step that ends where what is kept ends, among lexemes.
abbrev pub Ends : Past → List ℕ → Move → Type 0
Ends p rest (on xs q more) = (u v : List ℕ) → rest ≡ u ++ v → q.place ≡ p.place + length u → q.mode ≡ rules.code → Stepped p xs q u v
Ends p rest (over l) = Unit {0}

pub lexeme_ends : (p : Past) (rest : List ℕ) (n : ℕ) (x : Lexeme) → IsPlain p rest → IsLexeme rest n (token x) → Ends p rest (gives p 0 x n n false rest)
lexeme_ends p rest n x v l = λ u w is at c.
    let all : n ≡ length u = omega (arith, at) in
    let here = subst (λ r. IsLexeme r n (token x)) is l in
    let some = l.nonempty in
    record {
      at = record { holds = record { some = omega (arith, all, some); not_cr = lexeme_cr u w n (token x) here all }; body = not_inside p.mode u w v.outside };
      step = λ o s. behind_all p _ _ u o n all
          (rules.lexeme p (u ++ o) n x (plain_kept p rest u w o n (token x) v l tt is (omega (arith, all, some)) (inr (code_behind p.mode x c))) (lexeme_kept u w o n (token x) here (omega (arith, all)) (inl s)));
      fresh = refl;
    }

pub literal_ends : (p : Past) (rest : List ℕ) (n : ℕ) (g : Form) (k : ℕ) → IsPlain p rest → IsLexeme rest n (opens g) → is_format g.sort ≡ false → body g 0 (drop n rest) ≡ ending.Closed k
    → Ends p rest (gives p 0 (literal_lexeme g.sort (value g (take k (drop n rest)))) (n + k + quotes g.quote) (n + k + quotes g.quote) false rest)
literal_ends p rest n g k v l t e = λ u w is at c.
    let j = n + k + quotes g.quote in
    let all : j ≡ length u = omega (arith, at) in
    let some = l.nonempty in
    let more = quotes_some g.quote in
    record {
      at = record { holds = record { some = omega (arith, all, some); not_cr = λ r. omega (arith, all, some, more, ap length r) }; body = not_inside p.mode u w v.outside };
      step = λ o s. behind_all p _ _ u o j all (literal_kept p rest u w o n g k v l t e is (omega (arith, all)) (inl s) (inr (code_behind p.mode _ c)));
      fresh = refl;
    }

pub leaves_ends : (p : Past) (b : ℕ) (g : Form) (rest : List ℕ) → p.fresh ≡ false → p.mode ≡ rules.inside b g → body g 0 rest ≡ ending.Closed 0 → Ends p rest (turns p fstring_end (quotes g.quote) (below p.outer) (drop 1 p.outer) rest)
leaves_ends p b g rest f c e = λ u w is at d.
    let all : quotes g.quote ≡ length u = omega (arith, at) in
    let le : quotes g.quote ≤ length u = omega (arith, all) in
    let here : body g 0 (u ++ w) ≡ ending.Closed 0 = ap (body g 0) (sym is) ∙ e in
    record {
      at = record { holds = record { some = omega (arith, all, quotes_some g.quote); not_cr = λ r. body_cr g w (ap (λ y. body g 0 (y ++ w)) (sym r) ∙ here) }; body = (leaves_kept p b g rest u w [] f c e is le).0 };
      step = λ o s. behind_all p _ _ u o (quotes g.quote) all (leaves_kept p b g rest u w o f c e is le).1;
      fresh = refl;
    }
