-- Blocks whose last statement ends elsewhere, and what closes them.
use Rattle.std.proofs.Common.{ℕ, ◌≤◌, max, refl, inl, inr, arith, ◌++◌, ap}
use Rattle.starlark_rulebook.specs.Targets.{target_of}
use Rattle.starlark_grammar.specs.Spans.{stretch}
use Rattle.starlark_ast.specs.Tree.{Statement, Sequence, no_statements, add_statement, define, either, repeat, when}
use Rattle.starlark_grammar.specs.Nodes.{block_of, first_begin}
use Rattle.starlark_grammar.specs.Frames.{Blocks, outer, inner, Ifs, at_if, at_elif, Suites, of_if, of_else, of_for, of_def, head}
use Rattle.starlark_grammar.specs.Machine.{push, settled}
use Rattle.starlark_joining.specs.Same.{SameSpan, SameSequence, same_add_statement, same_when, same_either, same_repeat, same_define, same_block}
use Rattle.starlark_joining.specs.Kept.{Kept, SameFirst, SameTops, all_same, begins_in, but_last}
use Rattle.starlark_joining.proofs.SameSelf.{same_expr_self, same_members_self, same_annotation_self, same_name_self, same_statement_self, same_sequence_self}

pub kept_self : (h x : ℕ) → Kept h x x
kept_self h x = inl refl

-- from the same place to an end that is far
far : (h p e f : ℕ) → h ≤ e → Kept h (max p e) (max p f)
far h p e f i = inr (omega (arith, i))

span_far : (h p e f : ℕ) → h ≤ e → SameSpan (Kept h) (stretch p e) (stretch p f)
span_far h p e f i = record { begins = kept_self h p; ends = far h p e f i }

pub first_self : (h : ℕ) (s : Statement) → SameFirst (Kept h) s s
first_self h s = record { same = same_statement_self (kept_self h) s; begins = refl; inner = refl }

pub tops_same : {h : ℕ} {ss rs : Sequence} → SameTops (Kept h) ss rs → SameSequence (Kept h) ss rs
tops_same {h} {ss} all_same = same_sequence_self (kept_self h) ss
tops_same {h} (but_last {ss} t) = same_add_statement (same_sequence_self (kept_self h) ss) t.same

-- some statements in a row
row_first : (h e f : ℕ) (ss : Sequence) {s r : Statement} → h ≤ e → SameFirst (Kept h) s r → SameFirst (Kept h) (block_of (add_statement ss s) e) (block_of (add_statement ss r) f)
row_first h e f no_statements i t = t
row_first h e f (add_statement ss a) i t = record { same = same_block (same_add_statement (same_sequence_self (kept_self h) (add_statement ss a)) t.same) (span_far h (first_begin (add_statement ss a)) e f i); begins = refl; inner = ap (λ bs. begins_in (add_statement ss a) ++ bs) t.inner }

-- blocks that wait for the same, with such statements
pub data SameBlocks (h : ℕ) : Blocks → Blocks → Type 0 where
  in_outer : {ss rs : Sequence} → SameTops (Kept h) ss rs → SameBlocks h (outer ss) (outer rs)
  in_inner : {ss rs : Sequence} {k : Suites} → SameTops (Kept h) ss rs → SameBlocks h (inner ss k) (inner rs k)

pub blocks_self : (h : ℕ) (k : Blocks) → SameBlocks h k k
blocks_self h (outer ss) = in_outer all_same
blocks_self h (inner ss k) = in_inner all_same

push_same : (h : ℕ) (k : Blocks) {s r : Statement} → SameFirst (Kept h) s r → SameBlocks h (push k s) (push k r)
push_same h (outer ss) t = in_outer (but_last t)
push_same h (inner ss k) t = in_inner (but_last t)

settled_same : (h e f : ℕ) (k : Ifs) {s r : Statement} → h ≤ e → SameFirst (Kept h) s r → SameBlocks h (settled k s e) (settled k r f)
settled_same h e f (at_if k) i t = push_same h k t
settled_same h e f (at_elif q a p k) i t = settled_same h e f k i (record { same = same_either (same_expr_self (kept_self h) q) (same_statement_self (kept_self h) a) t.same (span_far h p e f i); begins = refl; inner = refl })

-- the blocks behind a suite
abbrev pub closed : Suites → Statement → ℕ → Blocks
closed (of_if q p k) s e = settled k (when q s (stretch p e)) e
closed (of_else q r p k) s e = settled k (either q r s (stretch p e)) e
closed (of_for l q p k) s e = push k (repeat (target_of l) q s (stretch p e))
closed (of_def (head p n k) ps t) s e = push k (define n ps t s (stretch p e))

closed_same : (h e f : ℕ) (k : Suites) {s r : Statement} → h ≤ e → SameFirst (Kept h) s r → SameBlocks h (closed k s e) (closed k r f)
closed_same h e f (of_if q p k) i t = settled_same h e f k i (record { same = same_when (same_expr_self (kept_self h) q) t.same (span_far h p e f i); begins = refl; inner = refl })
closed_same h e f (of_else q a p k) i t = settled_same h e f k i (record { same = same_either (same_expr_self (kept_self h) q) (same_statement_self (kept_self h) a) t.same (span_far h p e f i); begins = refl; inner = refl })
closed_same h e f (of_for l q p k) i t = push_same h k (record { same = same_repeat (same_expr_self (kept_self h) (target_of l)) (same_expr_self (kept_self h) q) t.same (span_far h p e f i); begins = refl; inner = refl })
closed_same h e f (of_def (head p n k) ps a) i t = push_same h k (record { same = same_define (same_name_self (kept_self h) n) (same_members_self (kept_self h) ps) (same_annotation_self (kept_self h) a) t.same (span_far h p e f i); begins = refl; inner = refl })

-- the suite's statements, behind a token that ends at e, and then a Dedent that ends at g
pub closed_row : (h e f g p : ℕ) (k : Suites) (ss : Sequence) {s r : Statement} → h ≤ e → h ≤ g → SameFirst (Kept h) s r → SameBlocks h (closed k (block_of (add_statement ss s) e) g) (closed k (block_of (add_statement ss r) f) p)
closed_row h e f g p k ss i l t = closed_same h g p k l (row_first h e f ss i t)
