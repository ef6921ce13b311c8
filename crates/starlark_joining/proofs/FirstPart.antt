-- The machine at the end of the first text: alone it reads the closing line end and Dedents there and is over, and before a second text it reads that one's first line ends and the same Dedents, and a line begins.
use Rattle.std.proofs.Common.{ℕ, ◌≡◌, ◌≤◌, ◌⊎◌, ◌∷◌, ◌++◌, ◌∙◌, [], zero, suc, List, Option, Some, None, true, refl, ap, sym, subst, inl, inr}
use Rattle.starlark_grammar.specs.Spans.{stretch}
use Rattle.starlark_lexer.specs.Items.{newline, dedent, dedents, Item, item}
use Rattle.starlark_lexer.specs.declared.dialect.Dialect.{Dialect}
use Rattle.starlark_ast.specs.Tree.{Sequence, Statement, when}
use Rattle.starlark_grammar.specs.Events.{Event, looped}
use Rattle.starlark_grammar.specs.Nodes.{block_of}
use Rattle.starlark_grammar.specs.Language.{last_end}
use Rattle.starlark_grammar.specs.Marks.{Clean}
use Rattle.starlark_grammar.specs.Frames.{Blocks, outer, Suites, State, at_line, wants_indent}
use Rattle.starlark_grammar.specs.Machine.{settled}
use Rattle.starlark_grammar.specs.Runs.{Accepts, bottom, marks_of, note, run, initial}
use Rattle.starlark_joining.specs.Kept.{Kept, SameTops}
use Rattle.starlark_joining.specs.Relaid.{NoElse}
use Rattle.starlark_grammar.proofs.Sound.{bottom_note}
use Rattle.starlark_grammar.proofs.Steps.{runs_end}
use Rattle.starlark_joining.proofs.Walking.{CleanRun, runs_on, halts, clean_now, clean_then, clean_both}
use Rattle.starlark_joining.proofs.Level.{no_stuck}
use Rattle.starlark_joining.proofs.Rows.{Row, row_line, row_for, row_if, row_indent}
use Rattle.starlark_joining.proofs.Coming.{ends_line, Comes, Fails, comes}
use Rattle.starlark_joining.proofs.Tops.{blocks_self}
use Rattle.starlark_joining.proofs.Rowed.{for_runs, if_runs, newline_runs}
use Rattle.starlark_joining.proofs.ClosedParts.{Ends, ends_all, no_else_dedents}

-- line ends
pub data AreLines : List Item → Type 0 where
  no_lines : AreLines []
  a_line : {i j : ℕ} {xs : List Item} → AreLines xs → AreLines (item i newline j ∷ xs)

-- the first text is over alone, and the second goes on behind it at a line's beginning
pub record FirstPart (d : Dialect) (h n p count : ℕ) (u front : List Item) (raw : Statement) : Type 0 where
  pub ss : Sequence
  pub rs : Sequence
  pub end_alone : ℕ
  pub end_before : ℕ
  pub far_alone : h ≤ end_alone
  pub tree : raw ≡ block_of ss end_alone
  pub tops : SameTops (Kept h) ss rs
  pub same_end : (ys : List Item) → NoElse ys → bottom (run initial (u ++ (front ++ (dedents p count ++ ys)))) ≡ bottom (run (at_line (outer rs) end_before) ys)
  pub clean : CleanRun d initial (u ++ item n newline n ∷ dedents n count) → (ys : List Item) → NoElse ys → CleanRun d (at_line (outer rs) end_before) ys → CleanRun d initial (u ++ (front ++ (dedents p count ++ ys)))

-- a line begins there as any other does, and something may be met before
record Begins (e : ℕ) (s : State) : Type 0 where
  event : Option Event
  blocks : Blocks
  begun : (ys : List Item) → NoElse ys → run s ys ≡ note ys event (run (at_line blocks e) ys)

begins : {e : ℕ} {s : State} → Row e s → ((k : Suites) × (s ≡ wants_indent k)) ⊎ Begins e s
begins (row_line {k}) = inr (record { event = None; blocks = k; begun = λ ys h. refl })
begins {e} (row_for {l} {k}) = inr (record { event = Some (looped l); blocks = k; begun = λ ys h. for_runs l k e ys })
begins {e} (row_if {q} {s} {b} {k}) = inr (record { event = None; blocks = settled k (when q s (stretch b e)) e; begun = λ ys h. if_runs q s b e k ys h })
begins (row_indent {k}) = inl (k, refl)

-- before an Indent no text ends
no_indent : {P : Type 0} (k : Suites) (n count : ℕ) (raw : Statement) → bottom (run (wants_indent k) (item n newline n ∷ dedents n count)) ≡ Accepts raw → P
no_indent k n count raw h = by count (sym (ap bottom (runs_on (wants_indent k) (wants_indent k) (item n newline n) (dedents n count) refl)) ∙ h)
  where
    by : {P : Type 0} (c : ℕ) → bottom (run (wants_indent k) (dedents n c)) ≡ Accepts raw → P
    by zero g = no_stuck (ap bottom (runs_end (wants_indent k))) g
    by (suc c) g = no_stuck (halts (wants_indent k) (item n dedent n) (dedents n c) refl) g

no_else_lines : {front : List Item} → AreLines front → (ys : List Item) → NoElse ys → NoElse (front ++ ys)
no_else_lines no_lines ys z = z
no_else_lines (a_line l) ys z = refl

-- over line ends
pub record Lined (e : ℕ) (k : Blocks) (front : List Item) : Type 0 where
  pub end : ℕ
  pub over : (ys : List Item) → run (at_line k e) (front ++ ys) ≡ run (at_line k end) ys

pub lined : {front : List Item} (e : ℕ) (k : Blocks) → AreLines front → Lined e k front
lined e k no_lines = record { end = e; over = λ ys. refl }
lined e k (a_line {i = a} {j} {xs} ls) = let m = lined j k ls in record { end = m.end; over = λ ys. newline_runs k e a j (xs ++ ys) ∙ m.over ys }

-- the parts together
assembled : (d : Dialect) (h n p count : ℕ) (u front : List Item) (raw : Statement) (c : Comes d initial 0 true u) (b : Begins (last_end 0 u) c.state) (m : Lined (last_end 0 u) b.blocks front) → AreLines front → Ends d h n p count n m.end b.blocks b.blocks raw → FirstPart d h n p count u front raw
assembled d h n p count u front raw c b m far z = record {
  ss = z.ss;
  rs = z.rs;
  end_alone = z.end_alone;
  end_before = z.end_before;
  far_alone = z.far_alone;
  tree = z.tree;
  tops = z.tops;
  same_end = λ ys g. c.same_end (front ++ (dedents p count ++ ys)) ∙ ap bottom (both ys g) ∙ bottom_note _ b.event (run (at_line b.blocks m.end) (dedents p count ++ ys)) ∙ z.same_end ys g;
  clean = λ q ys g r.
      let alone = first q in
      c.whole (item n newline n ∷ dedents n count) (front ++ (dedents p count ++ ys)) q
      (subst (λ t. Clean d (marks_of t)) (sym (both ys g))
      (clean_both d (front ++ (dedents p count ++ ys)) b.event (run (at_line b.blocks m.end) (dedents p count ++ ys))
      (clean_now d (item n newline n ∷ dedents n count) b.event (run (at_line b.blocks n) (dedents n count)) alone)
      (z.clean (clean_then d (item n newline n ∷ dedents n count) b.event (run (at_line b.blocks n) (dedents n count)) alone) ys g r)));
}
  where
    both : (ys : List Item) → NoElse ys → run c.state (front ++ (dedents p count ++ ys)) ≡ note (front ++ (dedents p count ++ ys)) b.event (run (at_line b.blocks m.end) (dedents p count ++ ys))
    both ys g = b.begun (front ++ (dedents p count ++ ys)) (no_else_lines far (dedents p count ++ ys) (no_else_dedents p count ys g)) ∙ ap (note (front ++ (dedents p count ++ ys)) b.event) (m.over (dedents p count ++ ys))

    first : CleanRun d initial (u ++ item n newline n ∷ dedents n count) → Clean d (marks_of (note (item n newline n ∷ dedents n count) b.event (run (at_line b.blocks n) (dedents n count))))
    first q = subst (λ t. Clean d (marks_of t)) (b.begun (item n newline n ∷ dedents n count) refl ∙ ap (note (item n newline n ∷ dedents n count) b.event) (newline_runs b.blocks (last_end 0 u) n n (dedents n count))) (c.rest (item n newline n ∷ dedents n count) q)

pub first_part : (d : Dialect) (h n p count : ℕ) (u front : List Item) (raw : Statement) → ends_line true u ≡ true → h ≤ n → AreLines front → bottom (run initial (u ++ item n newline n ∷ dedents n count)) ≡ Accepts raw → FirstPart d h n p count u front raw
first_part d h n p count u front raw line j far g = by (comes d u initial 0 true (λ z. row_line))
  where
    -- what is left of the first text
    left : (c : Comes d initial 0 true u) → bottom (run c.state (item n newline n ∷ dedents n count)) ≡ Accepts raw
    left c = sym (c.same_end (item n newline n ∷ dedents n count)) ∙ g

    ended : (c : Comes d initial 0 true u) (b : Begins (last_end 0 u) c.state) → bottom (run (at_line b.blocks n) (dedents n count)) ≡ Accepts raw
    ended c b = sym (ap bottom (b.begun (item n newline n ∷ dedents n count) refl) ∙ bottom_note (item n newline n ∷ dedents n count) b.event (run (at_line b.blocks (last_end 0 u)) (item n newline n ∷ dedents n count)) ∙ ap bottom (newline_runs b.blocks (last_end 0 u) n n (dedents n count))) ∙ left c

    whole : (c : Comes d initial 0 true u) → ((k : Suites) × (c.state ≡ wants_indent k)) ⊎ Begins (last_end 0 u) c.state → FirstPart d h n p count u front raw
    whole c (inl q) = no_indent q.0 n count raw (subst (λ s. bottom (run s (item n newline n ∷ dedents n count)) ≡ Accepts raw) q.1 (left c))
    whole c (inr b) = let m = lined (last_end 0 u) b.blocks far in assembled d h n p count u front raw c b m far (ends_all d h n p j count n m.end b.blocks b.blocks raw j (blocks_self h b.blocks) (ended c b))

    by : Fails initial u ⊎ Comes d initial 0 true u → FirstPart d h n p count u front raw
    by (inl f) = absurd (f (item n newline n ∷ dedents n count) raw g)
    by (inr c) = whole c (begins (c.row line))
