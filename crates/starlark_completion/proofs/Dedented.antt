-- A Dedent is accepted at a line's beginning alone.
use Rattle.std.proofs.Common.{ℕ, ◌≡◌, ◌∙◌, Option, Some, None, refl, ap, sym, subst}
use Rattle.starlark_lexer.specs.Items.{dedent, Item}
use Rattle.starlark_ast.specs.Tree as tree
use Rattle.starlark_ast.specs.Tree.{add_statement, no_statements}
use Rattle.starlark_grammar.specs.Frames.{outer, inner, line, State, has, stands, perhaps_named, at_line, behind_for, behind_if, wants_small, behind_small}
use Rattle.starlark_grammar.specs.Machine.{move, step}
use Rattle.starlark_completion.specs.Shapes.{Stage, within, at_beginning, in_block, before_block, stage}
use Rattle.starlark_grammar.proofs.Dedents.{else_none, feed_none, goes_none, opened_none, perhaps_none, small_none}

-- elsewhere there is no step
abbrev Begun : Stage → Option State → Type 0
Begun at_beginning o = Unit {0}
Begun g o = o ≡ None

move_begun : (s : State) (i j : ℕ) → Begun (stage s) (move s dedent i j)
move_begun (has q e k) i j = feed_none k q e i j
move_begun (stands p k) i j = else_none _ _ (goes_none p i j k) (else_none _ _ (perhaps_none p i j k) (opened_none p i j k))
move_begun (perhaps_named q ms f n g h k) i j = refl
move_begun (at_line (outer ss) e) i j = tt
move_begun (at_line (inner no_statements k) e) i j = refl
move_begun (at_line (inner (add_statement ss s) k) e) i j = tt
move_begun (behind_for l (outer ss) e) i j = tt
move_begun (behind_for l (inner no_statements k) e) i j = refl
move_begun (behind_for l (inner (add_statement ss s) k) e) i j = tt
move_begun (behind_if q s p e k) i j = tt
move_begun (behind_small s k) i j = small_none k s j
move_begun (wants_small (line done k)) i j = refl
move_begun _ i j = refl

begun_stage : (g : Stage) (u : State) → Begun g (Some u) → g ≡ at_beginning
begun_stage at_beginning u b = refl
begun_stage within u b = absurd (let z : Some u ≡ None = b in (cc))
begun_stage in_block u b = absurd (let z : Some u ≡ None = b in (cc))
begun_stage before_block u b = absurd (let z : Some u ≡ None = b in (cc))

pub dedent_begins : (s u : State) (z : Item) → z.lexeme ≡ dedent → step s z ≡ Some u → stage s ≡ at_beginning
dedent_begins s u z q h = begun_stage (stage s) u (subst (Begun (stage s)) (ap (λ x. move s x z.begin z.end) (sym q) ∙ h) (move_begun s z.begin z.end))
