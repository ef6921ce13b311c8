-- At a line's beginning line ends may come, and as many Dedents as blocks are open end the program.
use Rattle.std.proofs.Common.{ℕ, ◌≡◌, ◌∷◌, ◌∙◌, [], zero, suc, List, Some, None, refl, sym, subst}
use Rattle.starlark_rulebook.specs.Targets.{target_of}
use Rattle.starlark_grammar.specs.Spans.{stretch}
use Rattle.starlark_lexer.specs.Items.{newline, dedent, dedents, keyword_pass, Item, item}
use Rattle.starlark_ast.specs.Tree.{Statement, add_statement, define, either, no_statements, pass, repeat, when}
use Rattle.starlark_grammar.specs.Nodes.{block_of}
use Rattle.starlark_grammar.specs.Frames.{Blocks, outer, inner, Ifs, at_if, at_elif, Suites, of_if, of_else, of_for, of_def, head, at_block, line, State, at_line, behind_for, behind_if, behind_small, wants_indent}
use Rattle.starlark_grammar.specs.Machine.{push, settled, close, begin_line, step}
use Rattle.starlark_grammar.specs.Runs.{Accepts, finish}
use Rattle.starlark_grammar.proofs.Alike.{bottom_end}
use Rattle.starlark_completion.specs.Shapes.{block_depth, if_depth, suite_depth, depth, Stage, within, at_beginning, in_block, before_block, block_stage, stage}
use Rattle.starlark_completion.proofs.MovingFrames.{push_depth, push_stage, settled_depth, settled_stage}
use Rattle.starlark_completion.proofs.Running.{Accepted, accepted_now, accepted_step, accepted_steps, stuck_not}

-- what behaves at a Dedent and at the end as a line's beginning
as_line : (s u : State) (n : ℕ) → finish s ≡ finish u → step s (item 0 dedent 0) ≡ step u (item 0 dedent 0) → Accepted u (dedents 0 n) → Accepted s (dedents 0 n)
as_line s u zero f g a = accepted_now s a.0 (f ∙ sym (bottom_end u) ∙ a.1)
as_line s u (suc n) f g a = let h = accepted_steps u (item 0 dedent 0) (dedents 0 n) a in accepted_step s h.state (item 0 dedent 0) (dedents 0 n) (g ∙ h.steps) h.accepted

mutual
  block_ends : (k : Blocks) (s : Statement) (e : ℕ) → Accepted (at_line (push k s) e) (dedents 0 (block_depth k))
  block_ends (outer ss) s e = accepted_now _ _ refl
  block_ends (inner ss k) s e = accepted_step _ _ (item 0 dedent 0) (dedents 0 (suite_depth k)) refl (suite_ends k (block_of (add_statement ss s) e) 0)

  if_ends : (k : Ifs) (s : Statement) (e : ℕ) → Accepted (at_line (settled k s e) e) (dedents 0 (if_depth k))
  if_ends (at_if k) s e = block_ends k s e
  if_ends (at_elif q r p k) s e = if_ends k (either q r s (stretch p e)) e

  suite_ends : (k : Suites) (s : Statement) (e : ℕ) → Accepted (close k s e) (dedents 0 (suite_depth k))
  suite_ends (of_if q p k) s e = as_line (behind_if q s p e k) (at_line (settled k (when q s (stretch p e)) e) e) (if_depth k) refl refl (if_ends k (when q s (stretch p e)) e)
  suite_ends (of_else q r p k) s e = if_ends k (either q r s (stretch p e)) e
  suite_ends (of_for l q p k) s e = let b = push k (repeat (target_of l) q s (stretch p e)) in as_line (behind_for l b e) (at_line b e) (block_depth k) refl refl (block_ends k (repeat (target_of l) q s (stretch p e)) e)
  suite_ends (of_def (head p n k) ps t) s e = block_ends k (define n ps t s (stretch p e)) e

-- so many line ends before others
abbrev pub newlines : ℕ → List Item → List Item
newlines zero ts = ts
newlines (suc n) ts = item 0 newline 0 ∷ newlines n ts

not_begun : {P : Type 0} → in_block ≡ at_beginning → P
not_begun q = absurd (cc)

block_line : (k : Blocks) → block_stage k ≡ at_beginning → (e n : ℕ) → Accepted (at_line k e) (newlines n (dedents 0 (block_depth k)))
block_line (outer ss) q e zero = accepted_now _ _ refl
block_line (inner no_statements k) q e zero = not_begun q
block_line (inner (add_statement ss s) k) q e zero = block_ends (inner ss k) s e
block_line k q e (suc n) = accepted_step (at_line k e) (at_line k 0) (item 0 newline 0) (newlines n (dedents 0 (block_depth k))) refl (block_line k q 0 n)

-- each line's beginning
pub lined : (s : State) → stage s ≡ at_beginning → (n : ℕ) → Accepted s (newlines n (dedents 0 (depth s)))
lined (at_line k e) q n = block_line k q e n
lined (behind_for l k e) q zero = as_line (behind_for l k e) (at_line k e) (block_depth k) refl refl (block_line k q e 0)
lined (behind_for l k e) q (suc n) = accepted_step (behind_for l k e) (at_line k 0) (item 0 newline 0) (newlines n (dedents 0 (block_depth k))) refl (block_line k q 0 n)
lined (behind_if t s p e k) q zero = as_line (behind_if t s p e k) (at_line (settled k (when t s (stretch p e)) e) e) (if_depth k) refl refl (if_ends k (when t s (stretch p e)) e)
lined (behind_if t s p e k) q (suc n) =
    let b = settled k (when t s (stretch p e)) e in
    let a : Accepted (at_line b 0) (newlines n (dedents 0 (if_depth k))) = subst (λ d. Accepted (at_line b 0) (newlines n (dedents 0 d))) (settled_depth k (when t s (stretch p e)) e) (block_line b (settled_stage k (when t s (stretch p e)) e) 0 n) in
    accepted_step (behind_if t s p e k) (at_line b 0) (item 0 newline 0) (newlines n (dedents 0 (if_depth k))) refl a
lined (wants_indent k) q n = absurd (let z : before_block ≡ at_beginning = q in (cc))
lined _ q n = absurd (let z : within ≡ at_beginning = q in (cc))

-- and a line `pass`
abbrev a_pass : Blocks → State
a_pass k = behind_small (pass (stretch 0 0)) (line no_statements (at_block k))

pass_begins : (k : Blocks) (e : ℕ) → begin_line k e keyword_pass 0 0 ≡ Some (a_pass k)
pass_begins (outer ss) e = refl
pass_begins (inner no_statements k) e = refl
pass_begins (inner (add_statement ss s) k) e = refl

pass_ends : (k : Blocks) (n : ℕ) → Accepted (a_pass k) (item 0 newline 0 ∷ newlines n (dedents 0 (block_depth k)))
pass_ends k n =
    let s = block_of (add_statement no_statements (pass (stretch 0 0))) 0 in
    let b = push k s in
    let a : Accepted (at_line b 0) (newlines n (dedents 0 (block_depth k))) = subst (λ d. Accepted (at_line b 0) (newlines n (dedents 0 d))) (push_depth k s) (block_line b (push_stage k s) 0 n) in
    accepted_step (a_pass k) (at_line b 0) (item 0 newline 0) (newlines n (dedents 0 (block_depth k))) refl a

pub passed : (s : State) → stage s ≡ at_beginning → (n : ℕ) → Accepted s (item 0 keyword_pass 0 ∷ item 0 newline 0 ∷ newlines n (dedents 0 (depth s)))
passed (at_line k e) q n = accepted_step (at_line k e) (a_pass k) (item 0 keyword_pass 0) (item 0 newline 0 ∷ newlines n (dedents 0 (block_depth k))) (pass_begins k e) (pass_ends k n)
passed (behind_for l k e) q n = accepted_step (behind_for l k e) (a_pass k) (item 0 keyword_pass 0) (item 0 newline 0 ∷ newlines n (dedents 0 (block_depth k))) (pass_begins k e) (pass_ends k n)
passed (behind_if t s p e k) q n =
    let b = settled k (when t s (stretch p e)) e in
    let a : Accepted (a_pass b) (item 0 newline 0 ∷ newlines n (dedents 0 (if_depth k))) = subst (λ d. Accepted (a_pass b) (item 0 newline 0 ∷ newlines n (dedents 0 d))) (settled_depth k (when t s (stretch p e)) e) (pass_ends b n) in
    accepted_step (behind_if t s p e k) (a_pass b) (item 0 keyword_pass 0) (item 0 newline 0 ∷ newlines n (dedents 0 (if_depth k))) (pass_begins b e) a
passed (wants_indent k) q n = absurd (let z : before_block ≡ at_beginning = q in (cc))
passed _ q n = absurd (let z : within ≡ at_beginning = q in (cc))

-- an open block has a statement
abbrev Blank : Stage → Type 0
Blank in_block = Unit {0}
Blank before_block = Unit {0}
Blank g = ⊥

blank_line : (s : State) → ((raw : Statement) → finish s ≡ Accepts raw → ⊥) → step s (item 0 dedent 0) ≡ None → (n : ℕ) → Accepted s (dedents 0 n) → ⊥
blank_line s f g zero a = f a.0 (sym (bottom_end s) ∙ a.1)
blank_line s f g (suc n) a = let h = accepted_steps s (item 0 dedent 0) (dedents 0 n) a in let z : None ≡ Some h.state = sym g ∙ h.steps in absurd (cc)

not_blank : (s : State) → Blank (stage s) → (n : ℕ) → Accepted s (dedents 0 n) → ⊥
not_blank (at_line (inner no_statements k) e) b n a = blank_line _ (λ raw q. stuck_not [] raw q) refl n a
not_blank (behind_for l (inner no_statements k) e) b n a = blank_line _ (λ raw q. stuck_not [] raw q) refl n a
not_blank (wants_indent k) b n a = blank_line _ (λ raw q. stuck_not [] raw q) refl n a
not_blank _ b n a = elim b [ ]

pub blank_not : (s : State) → (stage s ≡ in_block) → (n : ℕ) → Accepted s (dedents 0 n) → ⊥
blank_not s q n a = not_blank s (subst Blank (sym q) tt) n a

pub before_not : (s : State) → (stage s ≡ before_block) → (n : ℕ) → Accepted s (dedents 0 n) → ⊥
before_not s q n a = not_blank s (subst Blank (sym q) tt) n a
