-- The tokens that end what has begun stand in order.
use Rattle.std.proofs.Common.{ℕ, ◌∷◌, [], List}
use Rattle.std.proofs.Math.Nat.{le_refl}
use Rattle.starlark_lexer.specs.Items.{Lexeme, Item}
use Rattle.starlark_ast.specs.Tree.{add_statement, no_statements}
use Rattle.starlark_grammar.specs.Frames.{Blocks, outer, inner, Ifs, at_if, at_elif, Suites, of_if, of_else, of_for, of_def, Head, head, Rows, at_block, at_suite, Line, line, Spots, first, annotation, test, source, param_type, param_default, result_type, Lists, left, right, returned, target, Frames, tail, inside, listed, spot, State, wants, has, stands, perhaps_named, wants_list, wants_next, at_line, behind_for, behind_if, wants_colon, wants_suite, wants_indent, behind_small, wants_small, behind_return, load_opens, load_module, load_named, load_symbol, load_equal, load_other, load_behind, def_name, def_opens, wants_param, behind_star, behind_stars, behind_name, behind_param, wants_result}
use Rattle.starlark_grammar.specs.Completion.{point_end, frame_end, spelled, put, block_rest, if_rest, suite_rest, head_rest, line_rest, row_rest, small_rest, result_rest, spot_rest, list_rest, more_rest, closing, completion_at}
use Rattle.starlark_grammar.specs.Longer.{InOrder, no_token, one_token}

on : (i : ℕ) (x : Lexeme) {ts : List Item} → InOrder i ts → InOrder i (put i x ts)
on i x h = one_token (le_refl i) (le_refl i) h

mutual
  block_order : (i : ℕ) (k : Blocks) → InOrder i (block_rest i k)
  block_order i (outer ss) = no_token
  block_order i (inner ss k) = on i _ (suite_order i k)

  if_order : (i : ℕ) (k : Ifs) → InOrder i (if_rest i k)
  if_order i (at_if k) = block_order i k
  if_order i (at_elif q r p k) = if_order i k

  suite_order : (i : ℕ) (k : Suites) → InOrder i (suite_rest i k)
  suite_order i (of_if q p k) = if_order i k
  suite_order i (of_else q r p k) = if_order i k
  suite_order i (of_for l q p k) = block_order i k
  suite_order i (of_def h ps t) = head_order i h

  head_order : (i : ℕ) (h : Head) → InOrder i (head_rest i h)
  head_order i (head p n k) = block_order i k

line_order : (i : ℕ) (k : Blocks) → InOrder i (line_rest i k)
line_order i (outer ss) = no_token
line_order i (inner no_statements k) = on i _ (on i _ (on i _ (suite_order i k)))
line_order i (inner (add_statement ss s) k) = on i _ (suite_order i k)

row_order : (i : ℕ) (k : Rows) → InOrder i (row_rest i k)
row_order i (at_block k) = block_order i k
row_order i (at_suite k) = suite_order i k

small_order : (i : ℕ) (k : Line) → InOrder i (small_rest i k)
small_order i (line done k) = on i _ (row_order i k)

result_order : (i : ℕ) (h : Head) → InOrder i (result_rest i h)
result_order i h = on i _ (on i _ (on i _ (head_order i h)))

spot_order : (i : ℕ) (k : Spots) → InOrder i (spot_rest i k)
spot_order i (first p k) = small_order i k
spot_order i (annotation l p k) = on i _ (on i _ (small_order i k))
spot_order i (test p k) = on i _ (on i _ (on i _ (if_order i k)))
spot_order i (source l p k) = on i _ (on i _ (on i _ (block_order i k)))
spot_order i (param_type h ps y n p) = on i _ (result_order i h)
spot_order i (param_default h ps n t p) = on i _ (result_order i h)
spot_order i (result_type h ps) = on i _ (on i _ (on i _ (head_order i h)))

list_order : (i : ℕ) (k : Lists) → InOrder i (list_rest i k)
list_order i (left p k) = on i _ (on i _ (small_order i k))
list_order i (right l t o p k) = small_order i k
list_order i (returned p k) = small_order i k
list_order i (target p k) = on i _ (on i _ (on i _ (on i _ (on i _ (block_order i k)))))

more_order : (i : ℕ) (k : Lists) → InOrder i (more_rest i k)
more_order i (left p k) = list_order i (left p k)
more_order i (right l t o p k) = list_order i (right l t o p k)
more_order i (returned p k) = list_order i (returned p k)
more_order i (target p k) = on i _ (on i _ (list_order i (target p k)))

spelled_order : (i : ℕ) (xs : List Lexeme) {ts : List Item} → InOrder i ts → InOrder i (spelled i xs ts)
spelled_order i [] h = h
spelled_order i (x ∷ xs) h = on i x (spelled_order i xs h)

closing_order : (i : ℕ) (k : Frames) → InOrder i (closing i k)
closing_order i (tail n k) = closing_order i k
closing_order i (inside f k) = spelled_order i (frame_end f) (closing_order i k)
closing_order i (listed ms p k) = more_order i k
closing_order i (spot k) = spot_order i k

pub completion_order : (i : ℕ) (s : State) → InOrder i (completion_at i s)
completion_order i (wants n k) = on i _ (closing_order i k)
completion_order i (has q e k) = closing_order i k
completion_order i (stands p k) = spelled_order i (point_end p) (closing_order i k)
completion_order i (perhaps_named q ms f n u v k) = on i _ (closing_order i k)
completion_order i (wants_list k) = on i _ (list_order i k)
completion_order i (wants_next ms p m k) = on i _ (list_order i k)
completion_order i (at_line k e) = line_order i k
completion_order i (behind_for l k e) = line_order i k
completion_order i (behind_if q s p e k) = if_order i k
completion_order i (wants_colon k) = on i _ (on i _ (on i _ (suite_order i k)))
completion_order i (wants_suite k) = on i _ (on i _ (suite_order i k))
completion_order i (wants_indent k) = on i _ (on i _ (on i _ (on i _ (suite_order i k))))
completion_order i (behind_small s k) = small_order i k
completion_order i (wants_small k) = on i _ (small_order i k)
completion_order i (behind_return p e k) = small_order i k
completion_order i (load_opens p k) = on i _ (on i _ (on i _ (small_order i k)))
completion_order i (load_module p k) = on i _ (on i _ (small_order i k))
completion_order i (load_named p m k) = on i _ (small_order i k)
completion_order i (load_symbol p m ss k) = on i _ (small_order i k)
completion_order i (load_equal p m ss n k) = on i _ (on i _ (on i _ (small_order i k)))
completion_order i (load_other p m ss n k) = on i _ (on i _ (small_order i k))
completion_order i (load_behind p m ss s k) = on i _ (small_order i k)
completion_order i (def_name p k) = on i _ (on i _ (on i _ (on i _ (on i _ (on i _ (block_order i k))))))
completion_order i (def_opens h) = on i _ (on i _ (result_order i h))
completion_order i (wants_param h ps) = on i _ (result_order i h)
completion_order i (behind_star h ps p e) = on i _ (result_order i h)
completion_order i (behind_stars h ps p) = on i _ (on i _ (result_order i h))
completion_order i (behind_name h ps y n p e) = on i _ (result_order i h)
completion_order i (behind_param h ps) = on i _ (result_order i h)
completion_order i (wants_result h ps) = result_order i h
