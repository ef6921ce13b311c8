-- The completion of a state within a line is lexemes that close what is open, a line end and as many Dedents as blocks are open.
use Rattle.std.proofs.Common.{ℕ, ◌≡◌, ◌∷◌, List, refl, ap, sym, subst}
use Rattle.starlark_lexer.specs.Items.{newline, dedent, keyword_pass, colon, closing_round, Item}
use Rattle.starlark_ast.specs.Tree.{add_statement, no_statements}
use Rattle.starlark_grammar.specs.Frames.{Blocks, outer, inner, Ifs, at_if, at_elif, Suites, of_if, of_else, of_for, of_def, Head, head, Rows, at_block, at_suite, Line, line, Spots, first, annotation, test, source, param_type, param_default, result_type, Lists, left, right, returned, target, Frames, tail, inside, listed, spot, State, wants, has, stands, perhaps_named, wants_list, wants_next, at_line, behind_for, behind_if, wants_colon, wants_suite, wants_indent, behind_small, wants_small, behind_return, load_opens, load_module, load_named, load_symbol, load_equal, load_other, load_behind, def_name, def_opens, wants_param, behind_star, behind_stars, behind_name, behind_param, wants_result}
use Rattle.starlark_grammar.specs.Completion.{block_rest, if_rest, suite_rest, head_rest, row_rest, small_rest, result_rest, spot_rest, list_rest, more_rest, closing, completion}
use Rattle.starlark_grammar.specs.Language.{bare}
use Rattle.starlark_cutting.specs.Opened.{outside}
use Rattle.starlark_completion.specs.Shapes.{in_spot, in_frames, block_depth, if_depth, suite_depth, head_depth, row_depth, line_depth, spot_depth, list_depth, frames_depth, depth, nest, Stage, within, stage}
use Rattle.starlark_completion.specs.Ending.{copies}
use Rattle.starlark_completion.specs.Closes.{Closes, line_ends}
use Rattle.starlark_completion.proofs.Closed.{by_name, by_in, by_pass, by_comma, by_colon, by_equal, by_string, by_opening, by_round, point_closes, frame_closes}
use Rattle.starlark_completion.proofs.Nests.{frames_text}

-- behind a statement Dedents alone
mutual
  block_bare : (k : Blocks) → bare (block_rest 0 k) ≡ copies (block_depth k) dedent
  block_bare (outer ss) = refl
  block_bare (inner ss k) = ap (λ xs. dedent ∷ xs) (suite_bare k)

  if_bare : (k : Ifs) → bare (if_rest 0 k) ≡ copies (if_depth k) dedent
  if_bare (at_if k) = block_bare k
  if_bare (at_elif q r p k) = if_bare k

  suite_bare : (k : Suites) → bare (suite_rest 0 k) ≡ copies (suite_depth k) dedent
  suite_bare (of_if q p k) = if_bare k
  suite_bare (of_else q r p k) = if_bare k
  suite_bare (of_for l q p k) = block_bare k
  suite_bare (of_def h ps t) = head_bare h

  head_bare : (h : Head) → bare (head_rest 0 h) ≡ copies (head_depth h) dedent
  head_bare (head p n k) = block_bare k

row_bare : (k : Rows) → bare (row_rest 0 k) ≡ copies (row_depth k) dedent
row_bare (at_block k) = block_bare k
row_bare (at_suite k) = suite_bare k

-- a line end, and the line `pass`
ends_line : (d : ℕ) (ts : List Item) → bare ts ≡ copies d dedent → Closes d (outside 0) (newline ∷ bare ts)
ends_line d ts q = subst (λ xs. Closes d (outside 0) (newline ∷ xs)) (sym q) line_ends

pass_row : (d : ℕ) (ts : List Item) → bare ts ≡ copies d dedent → Closes d (outside 0) (keyword_pass ∷ newline ∷ bare ts)
pass_row d ts q = by_pass refl (ends_line d ts q)

small_closes : (k : Line) → Closes (line_depth k) (outside 0) (bare (small_rest 0 k))
small_closes (line done k) = ends_line (row_depth k) (row_rest 0 k) (row_bare k)

result_closes : (h : Head) → Closes (head_depth h) (outside 0) (bare (result_rest 0 h))
result_closes h = by_colon refl (pass_row (head_depth h) (head_rest 0 h) (head_bare h))

param_closes : (h : Head) → Closes (head_depth h) (outside 1) (closing_round ∷ bare (result_rest 0 h))
param_closes h = by_round refl (result_closes h)

target_closes : (k : Blocks) → Closes (block_depth k) (outside 0) (colon ∷ keyword_pass ∷ newline ∷ bare (block_rest 0 k))
target_closes k = by_colon refl (pass_row (block_depth k) (block_rest 0 k) (block_bare k))

spot_closes : (k : Spots) → Closes (spot_depth k) (in_spot k) (bare (spot_rest 0 k))
spot_closes (first p k) = small_closes k
spot_closes (annotation l p k) = by_equal refl (by_name refl (small_closes k))
spot_closes (test p k) = by_colon refl (pass_row (if_depth k) (if_rest 0 k) (if_bare k))
spot_closes (source l p k) = target_closes k
spot_closes (param_type h ps y n p) = param_closes h
spot_closes (param_default h ps n t p) = param_closes h
spot_closes (result_type h ps) = result_closes h

list_closes : (k : Lists) → Closes (list_depth k) (outside 0) (bare (list_rest 0 k))
list_closes (left p k) = by_equal refl (by_name refl (small_closes k))
list_closes (right l t o p k) = small_closes k
list_closes (returned p k) = small_closes k
list_closes (target p k) = by_in refl (by_name refl (target_closes k))

more_closes : (k : Lists) → Closes (list_depth k) (outside 0) (bare (more_rest 0 k))
more_closes (left p k) = list_closes (left p k)
more_closes (right l t o p k) = small_closes k
more_closes (returned p k) = small_closes k
more_closes (target p k) = by_comma refl (by_name refl (list_closes (target p k)))

frames_close : (k : Frames) → Closes (frames_depth k) (in_frames k) (bare (closing 0 k))
frames_close (tail n k) = frames_close k
frames_close (inside f k) = frame_closes (in_frames k) f (closing 0 k) (frames_text k) (frames_close k)
frames_close (listed ms p k) = more_closes k
frames_close (spot k) = spot_closes k

load_closes : (k : Line) → Closes (line_depth k) (outside 1) (closing_round ∷ bare (small_rest 0 k))
load_closes k = by_round refl (small_closes k)

-- within a line
abbrev pub InLine : Stage → Type 0
InLine within = Unit {0}
InLine g = ⊥

pub closes : (s : State) → InLine (stage s) → Closes (depth s) (nest s) (bare (completion s))
closes (wants n k) i = by_name (frames_text k) (frames_close k)
closes (has q e k) i = frames_close k
closes (stands p k) i = point_closes (in_frames k) p (closing 0 k) (frames_text k) (frames_close k)
closes (perhaps_named q ms f n u v k) i = by_round (frames_text k) (frames_close k)
closes (wants_list k) i = by_name refl (list_closes k)
closes (wants_next ms p m k) i = by_name refl (list_closes k)
closes (at_line (inner no_statements k) e) i = elim i [ ]
closes (at_line (inner (add_statement ss s) k) e) i = elim i [ ]
closes (at_line (outer ss) e) i = elim i [ ]
closes (behind_for l (inner no_statements k) e) i = elim i [ ]
closes (behind_for l (inner (add_statement ss s) k) e) i = elim i [ ]
closes (behind_for l (outer ss) e) i = elim i [ ]
closes (behind_if q s p e k) i = elim i [ ]
closes (wants_colon k) i = by_colon refl (pass_row (suite_depth k) (suite_rest 0 k) (suite_bare k))
closes (wants_suite k) i = pass_row (suite_depth k) (suite_rest 0 k) (suite_bare k)
closes (wants_indent k) i = elim i [ ]
closes (behind_small s k) i = small_closes k
closes (wants_small k) i = by_pass refl (small_closes k)
closes (behind_return p e k) i = small_closes k
closes (load_opens p k) i = by_opening refl (by_string refl (load_closes k))
closes (load_module p k) i = by_string refl (load_closes k)
closes (load_named p m k) i = load_closes k
closes (load_symbol p m ss k) i = load_closes k
closes (load_equal p m ss n k) i = by_equal refl (by_string refl (load_closes k))
closes (load_other p m ss n k) i = by_string refl (load_closes k)
closes (load_behind p m ss s k) i = load_closes k
closes (def_name p k) i = by_name refl (by_opening refl (by_round refl (target_closes k)))
closes (def_opens h) i = by_opening refl (param_closes h)
closes (wants_param h ps) i = param_closes h
closes (behind_star h ps p e) i = param_closes h
closes (behind_stars h ps p) i = by_name refl (param_closes h)
closes (behind_name h ps y n p e) i = param_closes h
closes (behind_param h ps) i = param_closes h
closes (wants_result h ps) i = result_closes h
