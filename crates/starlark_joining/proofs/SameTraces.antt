-- What follows for the ends and the marks of two runs that come to the same but for places.
use Rattle.std.proofs.Common.{ℕ, ◌≡◌, ◌∷◌, [], List, None, refl}
use Rattle.starlark_lexer.specs.declared.dialect.Dialect.{Dialect}
use Rattle.starlark_ast.specs.Tree.{Sequence, Statement}
use Rattle.starlark_grammar.specs.Nodes.{block_of}
use Rattle.starlark_grammar.specs.Events.{Event, breaks_at_once}
use Rattle.starlark_grammar.specs.Marks.{Mark, mark, Clean}
use Rattle.starlark_grammar.specs.Runs.{Trace, Accepts, Stuck, bottom, marks_of}
use Rattle.starlark_joining.specs.Same.{SameSequence}
use Rattle.starlark_joining.specs.Joined.{SameEvent, behind}
use Rattle.starlark_joining.proofs.SameRuns.{SameTrace, same_accepts, same_stuck, same_note}

-- the second of two such runs ends where the first does, with its statements behind those that were read
pub record BothAccept (R : ℕ → ℕ → Type 0) (base : Sequence) (raw : Statement) (w : Trace) : Type 0 where
  pub first : Sequence
  pub second : Sequence
  pub first_end : ℕ
  pub second_end : ℕ
  pub same : SameSequence R first second
  pub is_first : raw ≡ block_of first first_end
  pub accepts : bottom w ≡ Accepts (block_of (behind base second) second_end)

pub both_accept : {R : ℕ → ℕ → Type 0} {base : Sequence} {v w : Trace} (raw : Statement) → SameTrace R base v w → bottom v ≡ Accepts raw → BothAccept R base raw w
both_accept raw (same_accepts ss rs e f q) p = record { first = ss; second = rs; first_end = e; second_end = f; same = q; is_first = (let w : Accepts (block_of ss e) ≡ Accepts raw = p in (cc)); accepts = refl }
both_accept raw (same_stuck {xs} {ys}) p = absurd (let n : Stuck xs ≡ Accepts raw = p in (cc))
both_accept raw (same_note e t) p =
    let b = both_accept raw t p in
    record { first = b.first; second = b.second; first_end = b.first_end; second_end = b.second_end; same = b.same; is_first = b.is_first; accepts = b.accepts }

-- marks that are the same but for places
pub data SameMarks (R : ℕ → ℕ → Type 0) : List Mark → List Mark → Type 0 where
  no_marks : SameMarks R [] []
  and_mark : {m n : ℕ} {e f : Event} {xs ys : List Mark} → SameEvent R e f → SameMarks R xs ys → SameMarks R (mark m e ∷ xs) (mark n f ∷ ys)

pub marks_same : {R : ℕ → ℕ → Type 0} {base : Sequence} {v w : Trace} → SameTrace R base v w → SameMarks R (marks_of v) (marks_of w)
marks_same (same_accepts ss rs e f q) = no_marks
marks_same same_stuck = no_marks
marks_same (same_note e t) = and_mark e (marks_same t)

-- where no construct of the one breaks a rule at once, none of the other does, if that holds of each
pub clean_same : {R : ℕ → ℕ → Type 0} (d : Dialect) → ((e f : Event) → SameEvent R e f → breaks_at_once d e ≡ None → breaks_at_once d f ≡ None) → {xs ys : List Mark} → SameMarks R xs ys → Clean d xs → Clean d ys
clean_same d h no_marks c = c
clean_same d h (and_mark e t) c = (h _ _ e c.0, clean_same d h t c.1)
