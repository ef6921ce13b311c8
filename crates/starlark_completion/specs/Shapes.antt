-- Where a state of the machine is: among f-strings and brackets that are open, within how many blocks, and where in its line.
use Rattle.std.specs.Prelude.{ℕ, suc, Bool, true, false}
use Rattle.starlark_ast.specs.Tree.{no_statements}
use Rattle.starlark_grammar.specs.Points.{Place, before_body, Frame, member, key, bound, second, over, filter, field, Point, member_wanted, member_read, key_read, bound_wanted, bound_read, second_read, clauses_read, piece_wanted, field_read, letter_wanted, letter_read}
use Rattle.starlark_grammar.specs.Frames.{Blocks, outer, inner, Ifs, at_if, at_elif, Suites, of_if, of_else, of_for, of_def, Head, head, Rows, at_block, at_suite, Line, line, Spots, first, annotation, test, source, param_type, param_default, result_type, Lists, left, right, returned, target, Frames, tail, inside, listed, spot, State, wants, has, stands, perhaps_named, wants_list, wants_next, at_line, behind_for, behind_if, wants_colon, wants_suite, wants_indent, behind_small, wants_small, behind_return, load_opens, load_module, load_named, load_symbol, load_equal, load_other, load_behind, def_name, def_opens, wants_param, behind_star, behind_stars, behind_name, behind_param, wants_result}
use Rattle.starlark_cutting.specs.Opened.{Nest, outside, in_field, in_text, deeper}

-- in a construct of an expression, where that stands there
abbrev pub in_place : Place → Nest → Nest
in_place (before_body b) r = r
in_place w r = deeper r

abbrev pub in_frame : Frame → Nest → Nest
in_frame (member w ms f b o) r = in_place w r
in_frame (key b ms f g) r = deeper r
in_frame (bound l bs) r = deeper r
in_frame (second l s) r = deeper r
in_frame (over p b m cs t) r = deeper r
in_frame (filter p b m cs) r = deeper r
in_frame (field b f ms) r = in_field 0 r
in_frame f r = r

abbrev pub at_point : Point → Nest → Nest
at_point (member_wanted w ms t e f) r = in_place w r
at_point (member_read w ms e f) r = in_place w r
at_point (key_read b ms f g q) r = deeper r
at_point (bound_wanted q bs) r = deeper r
at_point (bound_read q bs s) r = deeper r
at_point (second_read q s t) r = deeper r
at_point (clauses_read p b m cs) r = deeper r
at_point (piece_wanted b f ms) r = in_text r
at_point (field_read b f ms q) r = in_field 0 r
at_point (letter_wanted b f ms q g h) r = in_field 0 r
at_point (letter_read b f ms) r = in_field 0 r
at_point p r = r

abbrev pub in_spot : Spots → Nest
in_spot (param_type h ps y n p) = outside 1
in_spot (param_default h ps n t p) = outside 1
in_spot k = outside 0

abbrev pub in_frames : Frames → Nest
in_frames (tail n k) = in_frames k
in_frames (inside f k) = in_frame f (in_frames k)
in_frames (listed ms p k) = outside 0
in_frames (spot k) = in_spot k

abbrev pub nest : State → Nest
nest (wants n k) = in_frames k
nest (has q e k) = in_frames k
nest (stands p k) = at_point p (in_frames k)
nest (perhaps_named q ms f n u v k) = deeper (in_frames k)
nest (load_module p k) = outside 1
nest (load_named p m k) = outside 1
nest (load_symbol p m ss k) = outside 1
nest (load_equal p m ss n k) = outside 1
nest (load_other p m ss n k) = outside 1
nest (load_behind p m ss s k) = outside 1
nest (wants_param h ps) = outside 1
nest (behind_star h ps p e) = outside 1
nest (behind_stars h ps p) = outside 1
nest (behind_name h ps y n p e) = outside 1
nest (behind_param h ps) = outside 1
nest s = outside 0

-- how many indented suites are around
abbrev mutual
  pub block_depth : Blocks → ℕ
  block_depth (outer ss) = 0
  block_depth (inner ss k) = suc (suite_depth k)

  pub if_depth : Ifs → ℕ
  if_depth (at_if k) = block_depth k
  if_depth (at_elif q r p k) = if_depth k

  pub suite_depth : Suites → ℕ
  suite_depth (of_if q p k) = if_depth k
  suite_depth (of_else q r p k) = if_depth k
  suite_depth (of_for l q p k) = block_depth k
  suite_depth (of_def h ps t) = head_depth h

  pub head_depth : Head → ℕ
  head_depth (head p n k) = block_depth k

abbrev pub row_depth : Rows → ℕ
row_depth (at_block k) = block_depth k
row_depth (at_suite k) = suite_depth k

abbrev pub line_depth : Line → ℕ
line_depth (line done k) = row_depth k

abbrev pub spot_depth : Spots → ℕ
spot_depth (first p k) = line_depth k
spot_depth (annotation l p k) = line_depth k
spot_depth (test p k) = if_depth k
spot_depth (source l p k) = block_depth k
spot_depth (param_type h ps y n p) = head_depth h
spot_depth (param_default h ps n t p) = head_depth h
spot_depth (result_type h ps) = head_depth h

abbrev pub list_depth : Lists → ℕ
list_depth (left p k) = line_depth k
list_depth (right l t o p k) = line_depth k
list_depth (returned p k) = line_depth k
list_depth (target p k) = block_depth k

abbrev pub frames_depth : Frames → ℕ
frames_depth (tail n k) = frames_depth k
frames_depth (inside f k) = frames_depth k
frames_depth (listed ms p k) = list_depth k
frames_depth (spot k) = spot_depth k

abbrev pub depth : State → ℕ
depth (wants n k) = frames_depth k
depth (has q e k) = frames_depth k
depth (stands p k) = frames_depth k
depth (perhaps_named q ms f n u v k) = frames_depth k
depth (wants_list k) = list_depth k
depth (wants_next ms p m k) = list_depth k
depth (at_line k e) = block_depth k
depth (behind_for l k e) = block_depth k
depth (behind_if q s p e k) = if_depth k
depth (wants_colon k) = suite_depth k
depth (wants_suite k) = suite_depth k
depth (wants_indent k) = suite_depth k
depth (behind_small s k) = line_depth k
depth (wants_small k) = line_depth k
depth (behind_return p e k) = line_depth k
depth (load_opens p k) = line_depth k
depth (load_module p k) = line_depth k
depth (load_named p m k) = line_depth k
depth (load_symbol p m ss k) = line_depth k
depth (load_equal p m ss n k) = line_depth k
depth (load_other p m ss n k) = line_depth k
depth (load_behind p m ss s k) = line_depth k
depth (def_name p k) = block_depth k
depth (def_opens h) = head_depth h
depth (wants_param h ps) = head_depth h
depth (behind_star h ps p e) = head_depth h
depth (behind_stars h ps p) = head_depth h
depth (behind_name h ps y n p e) = head_depth h
depth (behind_param h ps) = head_depth h
depth (wants_result h ps) = head_depth h

-- Where in its line a state is: within it, at its beginning, there in a suite that has no statement yet, or before the suite's Indent.
pub data Stage : Type 0 where
  within at_beginning in_block before_block : Stage

abbrev pub block_stage : Blocks → Stage
block_stage (inner no_statements k) = in_block
block_stage k = at_beginning

abbrev pub stage : State → Stage
stage (at_line k e) = block_stage k
stage (behind_for l k e) = block_stage k
stage (behind_if q s p e k) = at_beginning
stage (wants_indent k) = before_block
stage s = within

abbrev pub is_within : Stage → Bool
is_within within = true
is_within g = false
