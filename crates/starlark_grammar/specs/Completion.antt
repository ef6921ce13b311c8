-- Tokens that end what has begun.
use Rattle.std.specs.Prelude.{ℕ, ◌∷◌, [], List}
use Rattle.starlark_lexer.specs.Items.{Lexeme, newline, indent, dedent, identifier, string, fstring_expr_end, fstring_end, keyword_else, keyword_in, keyword_pass, comma, colon, equal, opening_round, closing_round, closing_square, closing_curly, Item, item}
use Rattle.starlark_ast.specs.Tree.{no_statements}
use Rattle.starlark_grammar.specs.Tables.{closing_bracket}
use Rattle.starlark_grammar.specs.Points.{Place, brackets, behind, before_body, targets_in, at_first, Frame, member, key, bound, second, condition, over, filter, field, Point, member_wanted, member_read, key_read, star_read, stars_read, name_read, bound_wanted, bound_read, second_read, attribute_wanted, not_read, condition_read, clauses_read, piece_wanted, field_read, letter_wanted, letter_read}
use Rattle.starlark_grammar.specs.Frames.{Blocks, outer, inner, Ifs, at_if, at_elif, Suites, of_if, of_else, of_for, of_def, Head, head, Rows, at_block, at_suite, Line, line, Spots, first, annotation, test, source, param_type, param_default, result_type, Lists, left, right, returned, target, Frames, tail, inside, listed, spot, State, wants, has, stands, perhaps_named, wants_list, wants_next, at_line, behind_for, behind_if, wants_colon, wants_suite, wants_indent, behind_small, wants_small, behind_return, load_opens, load_module, load_named, load_symbol, load_equal, load_other, load_behind, def_name, def_opens, wants_param, behind_star, behind_stars, behind_name, behind_param, wants_result}

-- an identifier
abbrev pub some_name : Lexeme
some_name = identifier (120 ∷ [])

-- tokens that end members at a place, behind one
abbrev pub place_end : Place → List Lexeme
place_end (brackets p b) = closing_bracket p ∷ []
place_end (behind q) = closing_round ∷ []
place_end (before_body b) = colon ∷ some_name ∷ []
place_end (targets_in p b m cs) = comma ∷ some_name ∷ keyword_in ∷ some_name ∷ closing_bracket p ∷ []

-- and at a point
abbrev pub point_end : Point → List Lexeme
point_end (member_wanted (targets_in p b m cs) ms t e f) = some_name ∷ keyword_in ∷ some_name ∷ closing_bracket p ∷ []
point_end (member_wanted w ms t e f) = place_end w
point_end (member_read w ms e f) = place_end w
point_end (key_read b ms f g q) = colon ∷ some_name ∷ closing_curly ∷ []
point_end (star_read b ms f g h) = colon ∷ some_name ∷ []
point_end (stars_read b ms f g) = some_name ∷ colon ∷ some_name ∷ []
point_end (name_read b ms f n g h) = colon ∷ some_name ∷ []
point_end (bound_wanted q at_first) = colon ∷ closing_square ∷ []
point_end (bound_wanted q bs) = closing_square ∷ []
point_end (bound_read q bs s) = closing_square ∷ []
point_end (second_read q s t) = closing_square ∷ []
point_end (attribute_wanted q) = some_name ∷ []
point_end (not_read q) = keyword_in ∷ some_name ∷ []
point_end (condition_read t c) = keyword_else ∷ some_name ∷ []
point_end (clauses_read p b m cs) = closing_bracket p ∷ []
point_end (piece_wanted b f ms) = fstring_end ∷ []
point_end (field_read b f ms q) = fstring_expr_end ∷ fstring_end ∷ []
point_end (letter_wanted b f ms q g h) = identifier (115 ∷ []) ∷ fstring_expr_end ∷ fstring_end ∷ []
point_end (letter_read b f ms) = fstring_expr_end ∷ fstring_end ∷ []

-- and behind an expression in a frame
abbrev pub frame_end : Frame → List Lexeme
frame_end (member w ms f b o) = place_end w
frame_end (key b ms f g) = colon ∷ some_name ∷ closing_curly ∷ []
frame_end (bound l bs) = closing_square ∷ []
frame_end (second l s) = closing_square ∷ []
frame_end (condition t) = keyword_else ∷ some_name ∷ []
frame_end (over p b m cs t) = closing_bracket p ∷ []
frame_end (filter p b m cs) = closing_bracket p ∷ []
frame_end (field b f ms) = fstring_expr_end ∷ fstring_end ∷ []
frame_end f = []

-- those tokens at that place, and then others
abbrev pub spelled : ℕ → List Lexeme → List Item → List Item
spelled i [] ts = ts
spelled i (x ∷ xs) ts = item i x i ∷ spelled i xs ts

-- a token at that place, and then those
abbrev pub put : ℕ → Lexeme → List Item → List Item
put i x ts = item i x i ∷ ts

abbrev pub put_name : ℕ → List Item → List Item
put_name i ts = put i (some_name) ts

abbrev pub put_row : ℕ → List Item → List Item
put_row i ts = put i keyword_pass (put i newline ts)

-- behind a statement of a block, behind an `if`, behind a suite
abbrev mutual
  pub block_rest : ℕ → Blocks → List Item
  block_rest i (outer ss) = []
  block_rest i (inner ss k) = put i dedent (suite_rest i k)

  pub if_rest : ℕ → Ifs → List Item
  if_rest i (at_if k) = block_rest i k
  if_rest i (at_elif q r p k) = if_rest i k

  pub suite_rest : ℕ → Suites → List Item
  suite_rest i (of_if q p k) = if_rest i k
  suite_rest i (of_else q r p k) = if_rest i k
  suite_rest i (of_for l q p k) = block_rest i k
  suite_rest i (of_def h ps t) = head_rest i h

  pub head_rest : ℕ → Head → List Item
  head_rest i (head p n k) = block_rest i k

-- at a line's beginning
abbrev pub line_rest : ℕ → Blocks → List Item
line_rest i (inner no_statements k) = put_row i (put i dedent (suite_rest i k))
line_rest i k = block_rest i k

abbrev pub row_rest : ℕ → Rows → List Item
row_rest i (at_block k) = block_rest i k
row_rest i (at_suite k) = suite_rest i k

-- behind a small statement
abbrev pub small_rest : ℕ → Line → List Item
small_rest i (line done k) = put i newline (row_rest i k)

-- behind the ")" of a `def`, and behind an expression of a statement
abbrev pub result_rest : ℕ → Head → List Item
result_rest i h = put i colon (put_row i (head_rest i h))

abbrev pub spot_rest : ℕ → Spots → List Item
spot_rest i (first p k) = small_rest i k
spot_rest i (annotation l p k) = put i equal (put_name i (small_rest i k))
spot_rest i (test p k) = put i colon (put_row i (if_rest i k))
spot_rest i (source l p k) = put i colon (put_row i (block_rest i k))
spot_rest i (param_type h ps y n p) = put i closing_round (result_rest i h)
spot_rest i (param_default h ps n t p) = put i closing_round (result_rest i h)
spot_rest i (result_type h ps) = put i colon (put_row i (head_rest i h))

-- behind one of a list without brackets
abbrev pub list_rest : ℕ → Lists → List Item
list_rest i (left p k) = put i equal (put_name i (small_rest i k))
list_rest i (right l t o p k) = small_rest i k
list_rest i (returned p k) = small_rest i k
list_rest i (target p k) = put i keyword_in (put_name i (put i colon (put_row i (block_rest i k))))

-- the same, where it begins with no operator
abbrev pub more_rest : ℕ → Lists → List Item
more_rest i (target p k) = put i comma (put_name i (list_rest i (target p k)))
more_rest i k = list_rest i k

abbrev pub closing : ℕ → Frames → List Item
closing i (tail n k) = closing i k
closing i (inside f k) = spelled i (frame_end f) (closing i k)
closing i (listed ms p k) = more_rest i k
closing i (spot k) = spot_rest i k

-- tokens at that place with which the state comes to the end of a program
abbrev pub completion_at : ℕ → State → List Item
completion_at i (wants n k) = put_name i (closing i k)
completion_at i (has r e k) = closing i k
completion_at i (stands p k) = spelled i (point_end p) (closing i k)
completion_at i (perhaps_named q ms f n u v k) = put i closing_round (closing i k)
completion_at i (wants_list k) = put_name i (list_rest i k)
completion_at i (wants_next ms p m k) = put_name i (list_rest i k)
completion_at i (at_line k e) = line_rest i k
completion_at i (behind_for l k e) = line_rest i k
completion_at i (behind_if q s p e k) = if_rest i k
completion_at i (wants_colon k) = put i colon (put_row i (suite_rest i k))
completion_at i (wants_suite k) = put_row i (suite_rest i k)
completion_at i (wants_indent k) = put i indent (put_row i (put i dedent (suite_rest i k)))
completion_at i (behind_small s k) = small_rest i k
completion_at i (wants_small k) = put i keyword_pass (small_rest i k)
completion_at i (behind_return p e k) = small_rest i k
completion_at i (load_opens p k) = put i opening_round (put i (string []) (put i closing_round (small_rest i k)))
completion_at i (load_module p k) = put i (string []) (put i closing_round (small_rest i k))
completion_at i (load_named p m k) = put i closing_round (small_rest i k)
completion_at i (load_symbol p m ss k) = put i closing_round (small_rest i k)
completion_at i (load_equal p m ss n k) = put i equal (put i (string []) (put i closing_round (small_rest i k)))
completion_at i (load_other p m ss n k) = put i (string []) (put i closing_round (small_rest i k))
completion_at i (load_behind p m ss s k) = put i closing_round (small_rest i k)
completion_at i (def_name p k) = put_name i (put i opening_round (put i closing_round (put i colon (put_row i (block_rest i k)))))
completion_at i (def_opens h) = put i opening_round (put i closing_round (result_rest i h))
completion_at i (wants_param h ps) = put i closing_round (result_rest i h)
completion_at i (behind_star h ps p e) = put i closing_round (result_rest i h)
completion_at i (behind_stars h ps p) = put_name i (put i closing_round (result_rest i h))
completion_at i (behind_name h ps y n p e) = put i closing_round (result_rest i h)
completion_at i (behind_param h ps) = put i closing_round (result_rest i h)
completion_at i (wants_result h ps) = result_rest i h

abbrev pub completion : State → List Item
completion s = completion_at 0 s
