-- Dedents close the blocks of the first text, alone and with a second one behind it.
use Rattle.std.proofs.Common.{ℕ, ◌≡◌, ◌≤◌, ◌∷◌, ◌++◌, ◌∙◌, zero, suc, List, refl, ap, sym, subst}
use Rattle.starlark_lexer.specs.Items.{dedent, dedents, Item, item}
use Rattle.starlark_lexer.specs.declared.dialect.Dialect.{Dialect}
use Rattle.starlark_ast.specs.Tree.{Sequence, Statement, no_statements, add_statement}
use Rattle.starlark_grammar.specs.Nodes.{block_of}
use Rattle.starlark_grammar.specs.Marks.{Clean}
use Rattle.starlark_grammar.specs.Frames.{Blocks, outer, inner, Suites, at_line}
use Rattle.starlark_grammar.specs.Runs.{Trace, Accepts, bottom, marks_of, note, run}
use Rattle.starlark_joining.specs.Kept.{Kept, SameTops, all_same, but_last}
use Rattle.starlark_joining.specs.Relaid.{NoElse}
use Rattle.starlark_grammar.proofs.Sound.{bottom_note}
use Rattle.starlark_grammar.proofs.Steps.{runs_end}
use Rattle.starlark_joining.proofs.Walking.{CleanRun, halts, clean_now, clean_then, clean_both}
use Rattle.starlark_joining.proofs.Level.{no_stuck}
use Rattle.starlark_joining.proofs.Tops.{SameBlocks, in_outer, in_inner, closed, closed_row, first_self}
use Rattle.starlark_joining.proofs.Rowed.{closing, dedent_runs}

-- the first text is over, and the second goes on at a line's beginning
pub record Ends (d : Dialect) (h n p count e f : ℕ) (k l : Blocks) (raw : Statement) : Type 0 where
  pub ss : Sequence
  pub rs : Sequence
  pub end_alone : ℕ
  pub end_before : ℕ
  pub far_alone : h ≤ end_alone
  pub tree : raw ≡ block_of ss end_alone
  pub tops : SameTops (Kept h) ss rs
  pub same_end : (ys : List Item) → NoElse ys → bottom (run (at_line l f) (dedents p count ++ ys)) ≡ bottom (run (at_line (outer rs) end_before) ys)
  pub clean : CleanRun d (at_line k e) (dedents n count) → (ys : List Item) → NoElse ys → CleanRun d (at_line (outer rs) end_before) ys → CleanRun d (at_line l f) (dedents p count ++ ys)

abbrev tree_in : Trace → Statement
tree_in (Accepts raw) = raw
tree_in _ = block_of no_statements 0

pub no_else_dedents : (p count : ℕ) (ys : List Item) → NoElse ys → NoElse (dedents p count ++ ys)
no_else_dedents p zero ys h = h
no_else_dedents p (suc count) ys h = refl

alone_else : (n c : ℕ) → NoElse (dedents n c)
alone_else n zero = tt
alone_else n (suc c) = refl

-- a Dedent less is accepted
left_behind : (n count : ℕ) (k : Suites) (ss : Sequence) (s : Statement) (e : ℕ) (raw : Statement) → bottom (run (at_line (inner (add_statement ss s) k) e) (dedents n (suc count))) ≡ Accepts raw → bottom (run (at_line (closed k (block_of (add_statement ss s) e) n) n) (dedents n count)) ≡ Accepts raw
left_behind n count k ss s e raw g = sym (ap bottom (dedent_runs ss s k e n n (dedents n count) (alone_else n count)) ∙ bottom_note (dedents n count) (closing k) (run (at_line (closed k (block_of (add_statement ss s) e) n) n) (dedents n count))) ∙ g

one_more : (d : Dialect) (h n p count e f : ℕ) (k : Suites) (ss : Sequence) (s r raw : Statement) → Ends d h n p count n p (closed k (block_of (add_statement ss s) e) n) (closed k (block_of (add_statement ss r) f) p) raw → Ends d h n p (suc count) e f (inner (add_statement ss s) k) (inner (add_statement ss r) k) raw
one_more d h n p count e f k ss s r raw m = record {
  ss = m.ss;
  rs = m.rs;
  end_alone = m.end_alone;
  end_before = m.end_before;
  far_alone = m.far_alone;
  tree = m.tree;
  tops = m.tops;
  same_end = λ ys z. ap bottom (both ys z) ∙ bottom_note (dedents p count ++ ys) (closing k) (run (at_line (closed k (block_of (add_statement ss r) f) p) p) (dedents p count ++ ys)) ∙ m.same_end ys z;
  clean = λ c ys z g. subst (λ t. Clean d (marks_of t)) (sym (both ys z)) (clean_both d (dedents p count ++ ys) (closing k) (run (at_line (closed k (block_of (add_statement ss r) f) p) p) (dedents p count ++ ys)) (clean_now d (dedents n count) (closing k) (run (at_line (closed k (block_of (add_statement ss s) e) n) n) (dedents n count)) (first c)) (m.clean (clean_then d (dedents n count) (closing k) (run (at_line (closed k (block_of (add_statement ss s) e) n) n) (dedents n count)) (first c)) ys z g));
}
  where
    both : (ys : List Item) → NoElse ys → run (at_line (inner (add_statement ss r) k) f) (item p dedent p ∷ dedents p count ++ ys) ≡ note (dedents p count ++ ys) (closing k) (run (at_line (closed k (block_of (add_statement ss r) f) p) p) (dedents p count ++ ys))
    both ys z = dedent_runs ss r k f p p (dedents p count ++ ys) (no_else_dedents p count ys z)

    first : CleanRun d (at_line (inner (add_statement ss s) k) e) (dedents n (suc count)) → Clean d (marks_of (note (dedents n count) (closing k) (run (at_line (closed k (block_of (add_statement ss s) e) n) n) (dedents n count))))
    first c = subst (λ t. Clean d (marks_of t)) (dedent_runs ss s k e n n (dedents n count) (alone_else n count)) c

pub ends_all : (d : Dialect) (h n p : ℕ) → h ≤ n → (count e f : ℕ) (k l : Blocks) (raw : Statement) → h ≤ e → SameBlocks h k l → bottom (run (at_line k e) (dedents n count)) ≡ Accepts raw → Ends d h n p count e f k l raw
ends_all d h n p i zero e f _ _ raw v (in_outer {ss} {rs} t) g = record {
  ss = ss;
  rs = rs;
  end_alone = e;
  end_before = f;
  far_alone = v;
  tree = ap tree_in (sym g ∙ ap bottom (runs_end (at_line (outer ss) e)));
  tops = t;
  same_end = λ ys z. refl;
  clean = λ c ys z q. q;
}
ends_all d h n p i zero e f _ _ raw v (in_inner {ss} {rs} {k} t) g = no_stuck (ap bottom (runs_end (at_line (inner ss k) e))) g
ends_all d h n p i (suc count) e f _ _ raw v (in_outer {ss} {rs} t) g = no_stuck (halts (at_line (outer ss) e) (item n dedent n) (dedents n count) refl) g
ends_all d h n p i (suc count) e f _ _ raw v (in_inner {k} (all_same {ss = no_statements})) g = no_stuck (halts (at_line (inner no_statements k) e) (item n dedent n) (dedents n count) refl) g
ends_all d h n p i (suc count) e f _ _ raw v (in_inner {k} (all_same {ss = add_statement ss s})) g = one_more d h n p count e f k ss s s raw (ends_all d h n p i count n p _ _ raw i (closed_row h e f n p k ss v i (first_self h s)) (left_behind n count k ss s e raw g))
ends_all d h n p i (suc count) e f _ _ raw v (in_inner {k} (but_last {ss} {s} {r} t)) g = one_more d h n p count e f k ss s r raw (ends_all d h n p i count n p _ _ raw i (closed_row h e f n p k ss v i t) (left_behind n count k ss s e raw g))
