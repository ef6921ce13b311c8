-- Rules: at once, kept, late.
use Rattle.std.proofs.Common.{Some, None, ◌≡◌, ◌∷◌, [], false, refl, Err}
use Rattle.starlark_grammar.specs.Spans.{stretch}
use Rattle.starlark_lexer.specs.Items.{big, newline, indent, comment, identifier, integer, string, keyword_break, keyword_def, keyword_else, keyword_for, keyword_in, keyword_lambda, keyword_load, keyword_not, keyword_pass, keyword_return, comma, colon, equal, plus_equal, equal_equal, star, opening_round, closing_round, opening_square, closing_square, item}
use Rattle.starlark_lexer.specs.Dialects.{standard, extended}
use Rattle.starlark_lexer.specs.declared.token.LexemeError.TheVariants as lexeme_error
use Rattle.starlark_rulebook.specs.Rules.{InvalidType, InvalidModifyLhs, InvalidLhs, TypeAnnotationOnAssignOp, TypeAnnotationOnTupleAssign, TypesDisabled, TypeForm, TrailingComma, LoadIdentifier, LoadRequiresTwo, ForOutsideDef, ReturnOutsideDef, KeywordOnlyDisabled, DuplicatedName, StarLast}
use Rattle.starlark_grammar.specs.Runs.{run}
use Rattle.starlark_grammar.specs.Language.{by_lexer, unexpected, unexpected_end, by_rule}
use Rattle.starlark_grammar.proofs.Examples.{reading, stop}

-- standard: def f(x: int): pass
example_0 : reading standard (item 0 keyword_def 3 ∷ item 4 (identifier (102 ∷ [])) 5 ∷ item 5 opening_round 6 ∷ item 6 (identifier (120 ∷ [])) 7 ∷ item 7 colon 8 ∷ item 9 (identifier (105 ∷ 110 ∷ 116 ∷ [])) 12 ∷ item 12 closing_round 13 ∷ item 13 colon 14 ∷ item 15 keyword_pass 19 ∷ item 19 newline 19 ∷ []) None ≡ (Err (by_rule TypesDisabled (stretch 9 12)))
unfolding run
example_0 = refl

-- standard: load("m")
example_1 : reading standard (item 0 keyword_load 4 ∷ item 4 opening_round 5 ∷ item 5 (string (109 ∷ [])) 8 ∷ item 8 closing_round 9 ∷ item 9 newline 9 ∷ []) None ≡ (Err (by_rule LoadRequiresTwo (stretch 5 8)))
unfolding run
example_1 = refl

-- standard: load("m", a)
example_2 : reading standard (item 0 keyword_load 4 ∷ item 4 opening_round 5 ∷ item 5 (string (109 ∷ [])) 8 ∷ item 8 comma 9 ∷ item 10 (identifier (97 ∷ [])) 11 ∷ item 11 closing_round 12 ∷ item 12 newline 12 ∷ []) None ≡ (Err (by_rule LoadIdentifier (stretch 10 11)))
unfolding run
example_2 = refl

-- standard: load("m", a $
example_3 : reading standard (item 0 keyword_load 4 ∷ item 4 opening_round 5 ∷ item 5 (string (109 ∷ [])) 8 ∷ item 8 comma 9 ∷ item 10 (identifier (97 ∷ [])) 11 ∷ []) (Some (stop 12 lexeme_error.InvalidInput 13)) ≡ (Err (by_rule LoadIdentifier (stretch 10 11)))
unfolding run
example_3 = refl

-- standard: load("m", a = $
example_4 : reading standard (item 0 keyword_load 4 ∷ item 4 opening_round 5 ∷ item 5 (string (109 ∷ [])) 8 ∷ item 8 comma 9 ∷ item 10 (identifier (97 ∷ [])) 11 ∷ item 12 equal 13 ∷ []) (Some (stop 14 lexeme_error.InvalidInput 15)) ≡ (Err (by_lexer lexeme_error.InvalidInput (stretch 14 15)))
unfolding run
example_4 = refl

-- standard: for x in y: break\n
example_5 : reading standard (item 0 keyword_for 3 ∷ item 4 (identifier (120 ∷ [])) 5 ∷ item 6 keyword_in 8 ∷ item 9 (identifier (121 ∷ [])) 10 ∷ item 10 colon 11 ∷ item 12 keyword_break 17 ∷ item 17 newline 18 ∷ item 18 newline 18 ∷ []) None ≡ (Err (by_rule ForOutsideDef (stretch 0 18)))
unfolding run
example_5 = refl

-- standard: def f(): return 1,
example_6 : reading standard (item 0 keyword_def 3 ∷ item 4 (identifier (102 ∷ [])) 5 ∷ item 5 opening_round 6 ∷ item 6 closing_round 7 ∷ item 7 colon 8 ∷ item 9 keyword_return 15 ∷ item 16 (integer (big (49 ∷ []) false 10)) 17 ∷ item 17 comma 18 ∷ item 18 newline 18 ∷ []) None ≡ (Err (by_rule TrailingComma (stretch 16 18)))
unfolding run
example_6 = refl

-- standard: def f(*): pass
example_7 : reading standard (item 0 keyword_def 3 ∷ item 4 (identifier (102 ∷ [])) 5 ∷ item 5 opening_round 6 ∷ item 6 star 7 ∷ item 7 closing_round 8 ∷ item 8 colon 9 ∷ item 10 keyword_pass 14 ∷ item 14 newline 14 ∷ []) None ≡ (Err (by_rule KeywordOnlyDisabled (stretch 6 7)))
unfolding run
example_7 = refl

-- extended: def f(*): pass
example_8 : reading extended (item 0 keyword_def 3 ∷ item 4 (identifier (102 ∷ [])) 5 ∷ item 5 opening_round 6 ∷ item 6 star 7 ∷ item 7 closing_round 8 ∷ item 8 colon 9 ∷ item 10 keyword_pass 14 ∷ item 14 newline 14 ∷ []) None ≡ (Err (by_rule StarLast (stretch 6 7)))
unfolding run
example_8 = refl

-- standard: def f(a, a): pass
example_9 : reading standard (item 0 keyword_def 3 ∷ item 4 (identifier (102 ∷ [])) 5 ∷ item 5 opening_round 6 ∷ item 6 (identifier (97 ∷ [])) 7 ∷ item 7 comma 8 ∷ item 9 (identifier (97 ∷ [])) 10 ∷ item 10 closing_round 11 ∷ item 11 colon 12 ∷ item 13 keyword_pass 17 ∷ item 17 newline 17 ∷ []) None ≡ (Err (by_rule DuplicatedName (stretch 9 10)))
unfolding run
example_9 = refl

-- standard: return
example_10 : reading standard (item 0 keyword_return 6 ∷ item 6 newline 6 ∷ []) None ≡ (Err (by_rule ReturnOutsideDef (stretch 0 6)))
unfolding run
example_10 = refl

-- standard: ) $
example_11 : reading standard (item 0 closing_round 1 ∷ []) (Some (stop 2 lexeme_error.InvalidInput 3)) ≡ (Err (unexpected (stretch 0 1)))
unfolding run
example_11 = refl

-- standard: 1 = 2 $
example_12 : reading standard (item 0 (integer (big (49 ∷ []) false 10)) 1 ∷ item 2 equal 3 ∷ item 4 (integer (big (50 ∷ []) false 10)) 5 ∷ []) (Some (stop 6 lexeme_error.InvalidInput 7)) ≡ (Err (by_rule InvalidLhs (stretch 0 1)))
unfolding run
example_12 = refl

-- standard: 1 = 2 )
example_13 : reading standard (item 0 (integer (big (49 ∷ []) false 10)) 1 ∷ item 2 equal 3 ∷ item 4 (integer (big (50 ∷ []) false 10)) 5 ∷ item 6 closing_round 7 ∷ item 7 newline 7 ∷ []) None ≡ (Err (by_rule InvalidLhs (stretch 0 1)))
unfolding run
example_13 = refl

-- standard: x = 1, $
example_14 : reading standard (item 0 (identifier (120 ∷ [])) 1 ∷ item 2 equal 3 ∷ item 4 (integer (big (49 ∷ []) false 10)) 5 ∷ item 5 comma 6 ∷ []) (Some (stop 7 lexeme_error.InvalidInput 8)) ≡ (Err (by_rule TrailingComma (stretch 4 6)))
unfolding run
example_14 = refl

-- standard: x = 1,\n
example_15 : reading standard (item 0 (identifier (120 ∷ [])) 1 ∷ item 2 equal 3 ∷ item 4 (integer (big (49 ∷ []) false 10)) 5 ∷ item 5 comma 6 ∷ item 6 newline 7 ∷ item 7 newline 7 ∷ []) None ≡ (Err (by_rule TrailingComma (stretch 4 6)))
unfolding run
example_15 = refl

-- standard: 1 = 2 == 3 == 4
example_16 : reading standard (item 0 (integer (big (49 ∷ []) false 10)) 1 ∷ item 2 equal 3 ∷ item 4 (integer (big (50 ∷ []) false 10)) 5 ∷ item 6 equal_equal 8 ∷ item 9 (integer (big (51 ∷ []) false 10)) 10 ∷ item 11 equal_equal 13 ∷ item 14 (integer (big (52 ∷ []) false 10)) 15 ∷ item 15 newline 15 ∷ []) None ≡ (Err (by_rule InvalidLhs (stretch 0 1)))
unfolding run
example_16 = refl

-- standard: 1 = 2,
example_17 : reading standard (item 0 (integer (big (49 ∷ []) false 10)) 1 ∷ item 2 equal 3 ∷ item 4 (integer (big (50 ∷ []) false 10)) 5 ∷ item 5 comma 6 ∷ item 6 newline 6 ∷ []) None ≡ (Err (by_rule TrailingComma (stretch 4 6)))
unfolding run
example_17 = refl

-- standard: 1, = 2
example_18 : reading standard (item 0 (integer (big (49 ∷ []) false 10)) 1 ∷ item 1 comma 2 ∷ item 3 equal 4 ∷ item 5 (integer (big (50 ∷ []) false 10)) 6 ∷ item 6 newline 6 ∷ []) None ≡ (Err (by_rule TrailingComma (stretch 0 2)))
unfolding run
example_18 = refl

-- standard: for 1 in x:\n  y\n  $
example_19 : reading standard (item 0 keyword_for 3 ∷ item 4 (integer (big (49 ∷ []) false 10)) 5 ∷ item 6 keyword_in 8 ∷ item 9 (identifier (120 ∷ [])) 10 ∷ item 10 colon 11 ∷ item 11 newline 12 ∷ item 12 indent 14 ∷ item 14 (identifier (121 ∷ [])) 15 ∷ item 15 newline 16 ∷ []) (Some (stop 18 lexeme_error.InvalidInput 19)) ≡ (Err (by_lexer lexeme_error.InvalidInput (stretch 18 19)))
unfolding run
example_19 = refl

-- standard: for a, not b in c: pass
example_20 : reading standard (item 0 keyword_for 3 ∷ item 4 (identifier (97 ∷ [])) 5 ∷ item 5 comma 6 ∷ item 7 keyword_not 10 ∷ item 11 (identifier (98 ∷ [])) 12 ∷ item 13 keyword_in 15 ∷ item 16 (identifier (99 ∷ [])) 17 ∷ item 17 colon 18 ∷ item 19 keyword_pass 23 ∷ item 23 newline 23 ∷ []) None ≡ (Err (unexpected (stretch 7 10)))
unfolding run
example_20 = refl

-- standard: for a, lambda: b in c: pass
example_21 : reading standard (item 0 keyword_for 3 ∷ item 4 (identifier (97 ∷ [])) 5 ∷ item 5 comma 6 ∷ item 7 keyword_lambda 13 ∷ item 13 colon 14 ∷ item 15 (identifier (98 ∷ [])) 16 ∷ item 17 keyword_in 19 ∷ item 20 (identifier (99 ∷ [])) 21 ∷ item 21 colon 22 ∷ item 23 keyword_pass 27 ∷ item 27 newline 27 ∷ []) None ≡ (Err (unexpected (stretch 7 13)))
unfolding run
example_21 = refl

-- standard: for a, in c: pass
example_22 : reading standard (item 0 keyword_for 3 ∷ item 4 (identifier (97 ∷ [])) 5 ∷ item 5 comma 6 ∷ item 7 keyword_in 9 ∷ item 10 (identifier (99 ∷ [])) 11 ∷ item 11 colon 12 ∷ item 13 keyword_pass 17 ∷ item 17 newline 17 ∷ []) None ≡ (Err (by_rule TrailingComma (stretch 4 6)))
unfolding run
example_22 = refl

-- standard: for a, $
example_23 : reading standard (item 0 keyword_for 3 ∷ item 4 (identifier (97 ∷ [])) 5 ∷ item 5 comma 6 ∷ []) (Some (stop 7 lexeme_error.InvalidInput 8)) ≡ (Err (by_rule TrailingComma (stretch 4 6)))
unfolding run
example_23 = refl

-- standard: for 1 in x: pass )\n
example_24 : reading standard (item 0 keyword_for 3 ∷ item 4 (integer (big (49 ∷ []) false 10)) 5 ∷ item 6 keyword_in 8 ∷ item 9 (identifier (120 ∷ [])) 10 ∷ item 10 colon 11 ∷ item 12 keyword_pass 16 ∷ item 17 closing_round 18 ∷ item 19 newline 19 ∷ []) None ≡ (Err (unexpected (stretch 17 18)))
unfolding run
example_24 = refl

-- standard: for 1 in x: 2 = 3 $
example_25 : reading standard (item 0 keyword_for 3 ∷ item 4 (integer (big (49 ∷ []) false 10)) 5 ∷ item 6 keyword_in 8 ∷ item 9 (identifier (120 ∷ [])) 10 ∷ item 10 colon 11 ∷ item 12 (integer (big (50 ∷ []) false 10)) 13 ∷ item 14 equal 15 ∷ item 16 (integer (big (51 ∷ []) false 10)) 17 ∷ []) (Some (stop 18 lexeme_error.InvalidInput 19)) ≡ (Err (by_rule InvalidLhs (stretch 12 13)))
unfolding run
example_25 = refl

-- extended: x: 'a' = 1
example_26 : reading extended (item 0 (identifier (120 ∷ [])) 1 ∷ item 1 colon 2 ∷ item 3 (string (97 ∷ [])) 6 ∷ item 7 equal 8 ∷ item 9 (integer (big (49 ∷ []) false 10)) 10 ∷ item 10 newline 10 ∷ []) None ≡ (Err (by_rule (TypeForm (InvalidType (115 ∷ 116 ∷ 114 ∷ 105 ∷ 110 ∷ 103 ∷ 32 ∷ 108 ∷ 105 ∷ 116 ∷ 101 ∷ 114 ∷ 97 ∷ 108 ∷ []))) (stretch 3 6)))
unfolding run
example_26 = refl

-- extended: (a, b): int = 1
example_27 : reading extended (item 0 opening_round 1 ∷ item 1 (identifier (97 ∷ [])) 2 ∷ item 2 comma 3 ∷ item 4 (identifier (98 ∷ [])) 5 ∷ item 5 closing_round 6 ∷ item 6 colon 7 ∷ item 8 (identifier (105 ∷ 110 ∷ 116 ∷ [])) 11 ∷ item 12 equal 13 ∷ item 14 (integer (big (49 ∷ []) false 10)) 15 ∷ item 15 newline 15 ∷ []) None ≡ (Err (by_rule TypeAnnotationOnTupleAssign (stretch 8 11)))
unfolding run
example_27 = refl

-- extended: x: int += 1
example_28 : reading extended (item 0 (identifier (120 ∷ [])) 1 ∷ item 1 colon 2 ∷ item 3 (identifier (105 ∷ 110 ∷ 116 ∷ [])) 6 ∷ item 7 plus_equal 9 ∷ item 10 (integer (big (49 ∷ []) false 10)) 11 ∷ item 11 newline 11 ∷ []) None ≡ (Err (by_rule TypeAnnotationOnAssignOp (stretch 3 6)))
unfolding run
example_28 = refl

-- standard: a, b += 1\n
example_29 : reading standard (item 0 (identifier (97 ∷ [])) 1 ∷ item 1 comma 2 ∷ item 3 (identifier (98 ∷ [])) 4 ∷ item 5 plus_equal 7 ∷ item 8 (integer (big (49 ∷ []) false 10)) 9 ∷ item 9 newline 10 ∷ item 10 newline 10 ∷ []) None ≡ (Err (by_rule InvalidModifyLhs (stretch 0 4)))
unfolding run
example_29 = refl

-- standard: (a, b) += 1
example_30 : reading standard (item 0 opening_round 1 ∷ item 1 (identifier (97 ∷ [])) 2 ∷ item 2 comma 3 ∷ item 4 (identifier (98 ∷ [])) 5 ∷ item 5 closing_round 6 ∷ item 7 plus_equal 9 ∷ item 10 (integer (big (49 ∷ []) false 10)) 11 ∷ item 11 newline 11 ∷ []) None ≡ (Err (by_rule InvalidModifyLhs (stretch 1 5)))
unfolding run
example_30 = refl

-- standard: else: pass\n
example_31 : reading standard (item 0 keyword_else 4 ∷ item 4 colon 5 ∷ item 6 keyword_pass 10 ∷ item 10 newline 11 ∷ item 11 newline 11 ∷ []) None ≡ (Err (unexpected (stretch 0 4)))
unfolding run
example_31 = refl

-- standard: def f():\n
example_32 : reading standard (item 0 keyword_def 3 ∷ item 4 (identifier (102 ∷ [])) 5 ∷ item 5 opening_round 6 ∷ item 6 closing_round 7 ∷ item 7 colon 8 ∷ item 8 newline 9 ∷ item 9 newline 9 ∷ []) None ≡ (Err (unexpected_end 9))
unfolding run
example_32 = refl

-- standard: x = # c\n
example_33 : reading standard (item 0 (identifier (120 ∷ [])) 1 ∷ item 2 equal 3 ∷ item 4 (comment (32 ∷ 99 ∷ [])) 7 ∷ item 7 newline 8 ∷ item 8 newline 8 ∷ []) None ≡ (Err (unexpected (stretch 7 8)))
unfolding run
example_33 = refl

-- standard: [1 for 2 in x] += $
example_34 : reading standard (item 0 opening_square 1 ∷ item 1 (integer (big (49 ∷ []) false 10)) 2 ∷ item 3 keyword_for 6 ∷ item 7 (integer (big (50 ∷ []) false 10)) 8 ∷ item 9 keyword_in 11 ∷ item 12 (identifier (120 ∷ [])) 13 ∷ item 13 closing_square 14 ∷ item 15 plus_equal 17 ∷ []) (Some (stop 18 lexeme_error.InvalidInput 19)) ≡ (Err (by_rule InvalidLhs (stretch 7 8)))
unfolding run
example_34 = refl
