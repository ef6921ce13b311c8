-- What is open, how many blocks are and where in its line a state is, by the tokens on the way to it.
use Rattle.std.proofs.Common.{inl, inr, ◌⊎◌, ℕ, ◌≡◌, ◌+◌, List, Some, true, false, cond, refl, subst, arith, count_by}
use Rattle.std.proofs.lemmas.List.Sums.{sum_by-cons}
use Rattle.starlark_lexer.specs.Items.{Lexeme, newline, indent, dedent, Item}
use Rattle.starlark_lexer.specs.Joining.{is_indent, is_dedent, dedent_item}
use Rattle.starlark_grammar.specs.Frames.{State}
use Rattle.starlark_grammar.specs.Machine.{step}
use Rattle.starlark_grammar.specs.Language.{bare}
use Rattle.starlark_cutting.specs.Cutting.{indent_item}
use Rattle.starlark_cutting.specs.Opened.{Goes_to, Way, within_text}
use Rattle.starlark_completion.specs.Shapes.{nest, depth, Stage, within, at_beginning, in_block, before_block, stage, is_within}
use Rattle.starlark_completion.specs.Moves.{Moves, Turned, Deeper, Staged}
use Rattle.starlark_completion.specs.Ending.{Last, no_token, a_line_end, a_dedent, an_indent, another, kind_of, last_of, goes_on_line, at_beginning_of_line, begins_block}
use Rattle.starlark_completion.proofs.Moving.{move_moves}
use Rattle.starlark_completion.proofs.Nests.{InPiece, in_piece, state_text, turns_outside, turns_inside}
use Rattle.starlark_grammar.proofs.Behind.{Path, no_step, a_step}

pub step_moves : (s u : State) (x : Item) → step s x ≡ Some u → Turned x.lexeme (nest s) (nest u) × Deeper x.lexeme (depth s) (depth u) × Staged x.lexeme (stage u)
step_moves s u x q = subst (Moves (nest s) (depth s) x.lexeme) q (move_moves s x.lexeme x.begin x.end)

-- brackets and f-strings
pub step_goes : (s u : State) (x : Item) → step s x ≡ Some u → Goes_to x.lexeme (nest s) (nest u)
step_goes s u x q = go s q (step_moves s u x q).0 (state_text s)
  where
    go : (s : State) → step s x ≡ Some u → Turned x.lexeme (nest s) (nest u) → (within_text (nest s) ≡ false) ⊎ InPiece s → Goes_to x.lexeme (nest s) (nest u)
    go s q h (inl z) = turns_outside x.lexeme (nest s) (nest u) z h
    go s q h (inr (in_piece b f ms k)) = turns_inside x.lexeme b f ms k x.begin x.end u q h

pub path_way : {s t : State} {w : List Item} → Path s w t → Way (nest s) (bare w) (nest t)
path_way no_step = refl
path_way (a_step {s} {u} {x} q p) = (nest u, (step_goes s u x q, path_way p))

-- blocks
deeper_by : (x : Lexeme) (m n : ℕ) → Deeper x m n → n + cond (is_dedent x) 1 0 ≡ m + cond (is_indent x) 1 0
deeper_by indent m n h = omega (arith, h)
deeper_by dedent m n h = omega (arith, h)
deeper_by _ m n h = omega (arith, h)

pub path_depth : {s t : State} {w : List Item} → Path s w t → depth t + count_by dedent_item w ≡ depth s + count_by indent_item w
path_depth no_step = refl
path_depth {t} (a_step {s} {u} {x} {w} q p) =
    let h = path_depth p in
    let d = deeper_by x.lexeme (depth s) (depth u) (step_moves s u x q).1 in
    omega (arith, h, d, sum_by-cons (λ (y : Item). cond (dedent_item y) 1 0) x w, sum_by-cons (λ (y : Item). cond (indent_item y) 1 0) x w)

-- where in its line a state is behind that
abbrev pub Fits : Last → Stage → Type 0
Fits no_token g = g ≡ at_beginning
Fits a_line_end g = is_within g ≡ false
Fits a_dedent g = g ≡ at_beginning
Fits an_indent g = g ≡ in_block
Fits another g = g ≡ within

staged_fits : (x : Lexeme) (g : Stage) → Staged x g → Fits (kind_of x) g
staged_fits newline g h = h
staged_fits indent g h = h
staged_fits dedent g h = h
staged_fits _ g h = h

pub path_stage : {s t : State} {w : List Item} (l : Last) → Path s w t → Fits l (stage s) → Fits (last_of l w) (stage t)
path_stage l no_step f = f
path_stage l (a_step {s} {u} {x} q p) f = path_stage (kind_of x.lexeme) p (staged_fits x.lexeme (stage u) (step_moves s u x q).2)

pub data Where (l : Last) (g : Stage) : Type 0 where
  a_line : goes_on_line l ≡ true → g ≡ within → Where l g
  a_beginning : at_beginning_of_line l ≡ true → g ≡ at_beginning → Where l g
  a_block : l ≡ a_line_end → g ≡ before_block → Where l g
  a_blank : begins_block l ≡ true → g ≡ in_block → Where l g

behind_line_end : (g : Stage) → is_within g ≡ false → Where a_line_end g
behind_line_end within q = absurd (let z : true ≡ false = q in (cc))
behind_line_end at_beginning q = a_beginning refl refl
behind_line_end in_block q = a_blank refl refl
behind_line_end before_block q = a_block refl refl

pub where_it_is : (l : Last) (g : Stage) → Fits l g → Where l g
where_it_is no_token g f = a_beginning refl f
where_it_is a_line_end g f = behind_line_end g f
where_it_is a_dedent g f = a_beginning refl f
where_it_is an_indent g f = a_blank refl f
where_it_is another g f = a_line refl f
