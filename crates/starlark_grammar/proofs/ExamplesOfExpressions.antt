-- Expressions.
use Rattle.std.proofs.Common.{Some, None, ◌≡◌, ◌∷◌, [], false, refl, Ok, Err}
use Rattle.starlark_grammar.specs.Spans.{stretch}
use Rattle.starlark_lexer.specs.Items.{big, newline, identifier, integer, bytes, fstring_start, fstring_text, fstring_expr_start, fstring_bang, fstring_expr_end, fstring_end, keyword_for, keyword_if, keyword_in, keyword_lambda, keyword_not, keyword_or, comma, colon, equal, equal_equal, less_than, less_equal, plus, minus, star, star_star, tilde, dot, opening_round, closing_round, opening_square, closing_square, item}
use Rattle.starlark_lexer.specs.Dialects.{standard, all_options as all}
use Rattle.starlark_lexer.specs.declared.token.FStringQuote.TheVariants as quote
use Rattle.starlark_lexer.specs.declared.token.LexemeError.TheVariants as lexeme_error
use Rattle.starlark_ast.specs.declared.ast.BinOp.TheVariants as op
use Rattle.starlark_ast.specs.Tree as tree
use Rattle.starlark_rulebook.specs.Rules.{InvalidLhs, TrailingComma, FStringConversion, PositionalAfterNonPositional, NamedAfterStar, ArgsAfterStar, MultipleKwargs, RepeatedNamed}
use Rattle.starlark_grammar.specs.Runs.{run}
use Rattle.starlark_grammar.specs.Language.{unexpected, by_rule}
use Rattle.starlark_grammar.proofs.Examples.{reading, stop}

-- standard: a == not b
example_0 : reading standard (item 0 (identifier (97 ∷ [])) 1 ∷ item 2 equal_equal 4 ∷ item 5 keyword_not 8 ∷ item 9 (identifier (98 ∷ [])) 10 ∷ item 10 newline 10 ∷ []) None ≡ (Err (unexpected (stretch 5 8)))
unfolding run
example_0 = refl

-- standard: not x in y
example_1 : reading standard (item 0 keyword_not 3 ∷ item 4 (identifier (120 ∷ [])) 5 ∷ item 6 keyword_in 8 ∷ item 9 (identifier (121 ∷ [])) 10 ∷ item 10 newline 10 ∷ []) None ≡ (Ok (tree.expression (tree.signed tree.Not (tree.operation (tree.leaf (tree.name (120 ∷ [])) (stretch 4 5) (stretch 4 5)) op.In (tree.leaf (tree.name (121 ∷ [])) (stretch 9 10) (stretch 9 10)) (stretch 4 10)) (stretch 0 10)) (stretch 0 10)))
unfolding run
example_1 = refl

-- standard: (x)
example_2 : reading standard (item 0 opening_round 1 ∷ item 1 (identifier (120 ∷ [])) 2 ∷ item 2 closing_round 3 ∷ item 3 newline 3 ∷ []) None ≡ (Ok (tree.expression (tree.leaf (tree.name (120 ∷ [])) (stretch 1 2) (stretch 1 2)) (stretch 0 3)))
unfolding run
example_2 = refl

-- standard: (1, b"x")
example_3 : reading standard (item 0 opening_round 1 ∷ item 1 (integer (big (49 ∷ []) false 10)) 2 ∷ item 2 comma 3 ∷ item 4 (bytes (120 ∷ [])) 8 ∷ item 8 closing_round 9 ∷ item 9 newline 9 ∷ []) None ≡ (Ok (tree.expression (tree.tuple (tree.more (tree.more tree.none (tree.item (tree.leaf (tree.int (big (49 ∷ []) false 10)) (stretch 1 2) (stretch 1 2)))) (tree.item (tree.leaf (tree.bytes (120 ∷ [])) (stretch 4 8) (stretch 4 8)))) (stretch 1 8)) (stretch 0 9)))
unfolding run
example_3 = refl

-- standard: 1 or 2 or 3 or 4
example_4 : reading standard (item 0 (integer (big (49 ∷ []) false 10)) 1 ∷ item 2 keyword_or 4 ∷ item 5 (integer (big (50 ∷ []) false 10)) 6 ∷ item 7 keyword_or 9 ∷ item 10 (integer (big (51 ∷ []) false 10)) 11 ∷ item 12 keyword_or 14 ∷ item 15 (integer (big (52 ∷ []) false 10)) 16 ∷ item 16 newline 16 ∷ []) None ≡ (Ok (tree.expression (tree.operation (tree.operation (tree.operation (tree.leaf (tree.int (big (49 ∷ []) false 10)) (stretch 0 1) (stretch 0 1)) op.Or (tree.leaf (tree.int (big (50 ∷ []) false 10)) (stretch 5 6) (stretch 5 6)) (stretch 0 6)) op.Or (tree.leaf (tree.int (big (51 ∷ []) false 10)) (stretch 10 11) (stretch 10 11)) (stretch 0 11)) op.Or (tree.leaf (tree.int (big (52 ∷ []) false 10)) (stretch 15 16) (stretch 15 16)) (stretch 0 16)) (stretch 0 16)))
unfolding run
example_4 = refl

-- standard: 0 <= 1 < 2
example_5 : reading standard (item 0 (integer (big (48 ∷ []) false 10)) 1 ∷ item 2 less_equal 4 ∷ item 5 (integer (big (49 ∷ []) false 10)) 6 ∷ item 7 less_than 8 ∷ item 9 (integer (big (50 ∷ []) false 10)) 10 ∷ item 10 newline 10 ∷ []) None ≡ (Err (unexpected (stretch 7 8)))
unfolding run
example_5 = refl

-- standard: 1 + 2 )
example_6 : reading standard (item 0 (integer (big (49 ∷ []) false 10)) 1 ∷ item 2 plus 3 ∷ item 4 (integer (big (50 ∷ []) false 10)) 5 ∷ item 6 closing_round 7 ∷ item 7 newline 7 ∷ []) None ≡ (Err (unexpected (stretch 6 7)))
unfolding run
example_6 = refl

-- standard: x = -+~not a
example_7 : reading standard (item 0 (identifier (120 ∷ [])) 1 ∷ item 2 equal 3 ∷ item 4 minus 5 ∷ item 5 plus 6 ∷ item 6 tilde 7 ∷ item 7 keyword_not 10 ∷ item 11 (identifier (97 ∷ [])) 12 ∷ item 12 newline 12 ∷ []) None ≡ (Err (unexpected (stretch 7 10)))
unfolding run
example_7 = refl

-- standard: x = - + ~a ** b
example_8 : reading standard (item 0 (identifier (120 ∷ [])) 1 ∷ item 2 equal 3 ∷ item 4 minus 5 ∷ item 6 plus 7 ∷ item 8 tilde 9 ∷ item 9 (identifier (97 ∷ [])) 10 ∷ item 11 star_star 13 ∷ item 14 (identifier (98 ∷ [])) 15 ∷ item 15 newline 15 ∷ []) None ≡ (Err (unexpected (stretch 11 13)))
unfolding run
example_8 = refl

-- standard: a = (-1)
example_9 : reading standard (item 0 (identifier (97 ∷ [])) 1 ∷ item 2 equal 3 ∷ item 4 opening_round 5 ∷ item 5 minus 6 ∷ item 6 (integer (big (49 ∷ []) false 10)) 7 ∷ item 7 closing_round 8 ∷ item 8 newline 8 ∷ []) None ≡ (Ok (tree.assign (tree.leaf (tree.name (97 ∷ [])) (stretch 0 1) (stretch 0 1)) tree.untyped None (tree.signed tree.Minus (tree.leaf (tree.int (big (49 ∷ []) false 10)) (stretch 6 7) (stretch 6 7)) (stretch 5 7)) (stretch 0 8)))
unfolding run
example_9 = refl

-- standard: f(lambda x, y=1, *args, **kwargs: x + y + z)
example_10 : reading standard (item 0 (identifier (102 ∷ [])) 1 ∷ item 1 opening_round 2 ∷ item 2 keyword_lambda 8 ∷ item 9 (identifier (120 ∷ [])) 10 ∷ item 10 comma 11 ∷ item 12 (identifier (121 ∷ [])) 13 ∷ item 13 equal 14 ∷ item 14 (integer (big (49 ∷ []) false 10)) 15 ∷ item 15 comma 16 ∷ item 17 star 18 ∷ item 18 (identifier (97 ∷ 114 ∷ 103 ∷ 115 ∷ [])) 22 ∷ item 22 comma 23 ∷ item 24 star_star 26 ∷ item 26 (identifier (107 ∷ 119 ∷ 97 ∷ 114 ∷ 103 ∷ 115 ∷ [])) 32 ∷ item 32 colon 33 ∷ item 34 (identifier (120 ∷ [])) 35 ∷ item 36 plus 37 ∷ item 38 (identifier (121 ∷ [])) 39 ∷ item 40 plus 41 ∷ item 42 (identifier (122 ∷ [])) 43 ∷ item 43 closing_round 44 ∷ item 44 newline 44 ∷ []) None ≡ (Ok (tree.expression (tree.call (tree.leaf (tree.name (102 ∷ [])) (stretch 0 1) (stretch 0 1)) (tree.more tree.none (tree.positional (tree.lambda (tree.more (tree.more (tree.more (tree.more tree.none (tree.parameter tree.plain (120 ∷ []) (stretch 9 10) tree.untyped tree.absent (stretch 9 10))) (tree.parameter tree.plain (121 ∷ []) (stretch 12 13) tree.untyped (tree.present (tree.leaf (tree.int (big (49 ∷ []) false 10)) (stretch 14 15) (stretch 14 15))) (stretch 12 15))) (tree.parameter tree.starred (97 ∷ 114 ∷ 103 ∷ 115 ∷ []) (stretch 18 22) tree.untyped tree.absent (stretch 17 22))) (tree.parameter tree.double_starred (107 ∷ 119 ∷ 97 ∷ 114 ∷ 103 ∷ 115 ∷ []) (stretch 26 32) tree.untyped tree.absent (stretch 24 32))) (tree.operation (tree.operation (tree.leaf (tree.name (120 ∷ [])) (stretch 34 35) (stretch 34 35)) op.Add (tree.leaf (tree.name (121 ∷ [])) (stretch 38 39) (stretch 38 39)) (stretch 34 39)) op.Add (tree.leaf (tree.name (122 ∷ [])) (stretch 42 43) (stretch 42 43)) (stretch 34 43)) (stretch 2 43)) (stretch 2 43))) (stretch 0 44)) (stretch 0 44)))
unfolding run
example_10 = refl

-- standard: [a for a.b, c in d if e]
example_11 : reading standard (item 0 opening_square 1 ∷ item 1 (identifier (97 ∷ [])) 2 ∷ item 3 keyword_for 6 ∷ item 7 (identifier (97 ∷ [])) 8 ∷ item 8 dot 9 ∷ item 9 (identifier (98 ∷ [])) 10 ∷ item 10 comma 11 ∷ item 12 (identifier (99 ∷ [])) 13 ∷ item 14 keyword_in 16 ∷ item 17 (identifier (100 ∷ [])) 18 ∷ item 19 keyword_if 21 ∷ item 22 (identifier (101 ∷ [])) 23 ∷ item 23 closing_square 24 ∷ item 24 newline 24 ∷ []) None ≡ (Ok (tree.expression (tree.comprehension (tree.item (tree.leaf (tree.name (97 ∷ [])) (stretch 1 2) (stretch 1 2))) (tree.and_clause (tree.and_clause tree.no_clauses (tree.for_clause (tree.tuple (tree.more (tree.more tree.none (tree.item (tree.dot (tree.leaf (tree.name (97 ∷ [])) (stretch 7 8) (stretch 7 8)) (98 ∷ []) (stretch 9 10) (stretch 7 10)))) (tree.item (tree.leaf (tree.name (99 ∷ [])) (stretch 12 13) (stretch 12 13)))) (stretch 7 13)) (tree.leaf (tree.name (100 ∷ [])) (stretch 17 18) (stretch 17 18)))) (tree.if_clause (tree.leaf (tree.name (101 ∷ [])) (stretch 22 23) (stretch 22 23)))) (stretch 0 24)) (stretch 0 24)))
unfolding run
example_11 = refl

-- standard: [a for 1 in b]
example_12 : reading standard (item 0 opening_square 1 ∷ item 1 (identifier (97 ∷ [])) 2 ∷ item 3 keyword_for 6 ∷ item 7 (integer (big (49 ∷ []) false 10)) 8 ∷ item 9 keyword_in 11 ∷ item 12 (identifier (98 ∷ [])) 13 ∷ item 13 closing_square 14 ∷ item 14 newline 14 ∷ []) None ≡ (Err (by_rule InvalidLhs (stretch 7 8)))
unfolding run
example_12 = refl

-- standard: [a for b, in c]
example_13 : reading standard (item 0 opening_square 1 ∷ item 1 (identifier (97 ∷ [])) 2 ∷ item 3 keyword_for 6 ∷ item 7 (identifier (98 ∷ [])) 8 ∷ item 8 comma 9 ∷ item 10 keyword_in 12 ∷ item 13 (identifier (99 ∷ [])) 14 ∷ item 14 closing_square 15 ∷ item 15 newline 15 ∷ []) None ≡ (Err (by_rule TrailingComma (stretch 7 9)))
unfolding run
example_13 = refl

-- standard: [a for b, $
example_14 : reading standard (item 0 opening_square 1 ∷ item 1 (identifier (97 ∷ [])) 2 ∷ item 3 keyword_for 6 ∷ item 7 (identifier (98 ∷ [])) 8 ∷ item 8 comma 9 ∷ []) (Some (stop 10 lexeme_error.InvalidInput 11)) ≡ (Err (by_rule TrailingComma (stretch 7 9)))
unfolding run
example_14 = refl

-- standard: [a for b, not c in d]
example_15 : reading standard (item 0 opening_square 1 ∷ item 1 (identifier (97 ∷ [])) 2 ∷ item 3 keyword_for 6 ∷ item 7 (identifier (98 ∷ [])) 8 ∷ item 8 comma 9 ∷ item 10 keyword_not 13 ∷ item 14 (identifier (99 ∷ [])) 15 ∷ item 16 keyword_in 18 ∷ item 19 (identifier (100 ∷ [])) 20 ∷ item 20 closing_square 21 ∷ item 21 newline 21 ∷ []) None ≡ (Err (unexpected (stretch 10 13)))
unfolding run
example_15 = refl

-- all: f"a{x!r}"
example_16 : reading all (item 0 (fstring_start quote.Double) 2 ∷ item 2 (fstring_text (97 ∷ [])) 3 ∷ item 3 fstring_expr_start 4 ∷ item 4 (identifier (120 ∷ [])) 5 ∷ item 5 fstring_bang 6 ∷ item 6 (identifier (114 ∷ [])) 7 ∷ item 7 fstring_expr_end 8 ∷ item 8 fstring_end 9 ∷ item 9 newline 9 ∷ []) None ≡ (Ok (tree.expression (tree.fstring (97 ∷ 123 ∷ 33 ∷ 114 ∷ 125 ∷ []) (stretch 0 9) (tree.more tree.none (tree.item (tree.leaf (tree.name (120 ∷ [])) (stretch 4 5) (stretch 4 5)))) (stretch 0 9) (stretch 0 9)) (stretch 0 9)))
unfolding run
example_16 = refl

-- all: f"{x!q}"
example_17 : reading all (item 0 (fstring_start quote.Double) 2 ∷ item 2 fstring_expr_start 3 ∷ item 3 (identifier (120 ∷ [])) 4 ∷ item 4 fstring_bang 5 ∷ item 5 (identifier (113 ∷ [])) 6 ∷ item 6 fstring_expr_end 7 ∷ item 7 fstring_end 8 ∷ item 8 newline 8 ∷ []) None ≡ (Err (by_rule FStringConversion (stretch 4 6)))
unfolding run
example_17 = refl

-- all: f"{a!}"
example_18 : reading all (item 0 (fstring_start quote.Double) 2 ∷ item 2 fstring_expr_start 3 ∷ item 3 (identifier (97 ∷ [])) 4 ∷ item 4 fstring_bang 5 ∷ item 5 fstring_expr_end 6 ∷ item 6 fstring_end 7 ∷ item 7 newline 7 ∷ []) None ≡ (Err (by_rule FStringConversion (stretch 4 5)))
unfolding run
example_18 = refl

-- all: f"{a!\n b}"
example_19 : reading all (item 0 (fstring_start quote.Double) 2 ∷ item 2 fstring_expr_start 3 ∷ item 3 (identifier (97 ∷ [])) 4 ∷ item 4 fstring_bang 5 ∷ item 7 (identifier (98 ∷ [])) 8 ∷ item 8 fstring_expr_end 9 ∷ item 9 fstring_end 10 ∷ item 10 newline 10 ∷ []) None ≡ (Err (by_rule FStringConversion (stretch 4 8)))
unfolding run
example_19 = refl

-- all: f"{a! $}"
example_20 : reading all (item 0 (fstring_start quote.Double) 2 ∷ item 2 fstring_expr_start 3 ∷ item 3 (identifier (97 ∷ [])) 4 ∷ item 4 fstring_bang 5 ∷ []) (Some (stop 6 lexeme_error.InvalidInput 7)) ≡ (Err (by_rule FStringConversion (stretch 4 5)))
unfolding run
example_20 = refl

-- standard: f"{x
example_21 : reading standard (item 0 (fstring_start quote.Double) 2 ∷ item 2 fstring_expr_start 3 ∷ item 3 (identifier (120 ∷ [])) 4 ∷ item 4 newline 4 ∷ []) None ≡ (Err (unexpected (stretch 4 4)))
unfolding run
example_21 = refl

-- standard: f(a=1, 2)
example_22 : reading standard (item 0 (identifier (102 ∷ [])) 1 ∷ item 1 opening_round 2 ∷ item 2 (identifier (97 ∷ [])) 3 ∷ item 3 equal 4 ∷ item 4 (integer (big (49 ∷ []) false 10)) 5 ∷ item 5 comma 6 ∷ item 7 (integer (big (50 ∷ []) false 10)) 8 ∷ item 8 closing_round 9 ∷ item 9 newline 9 ∷ []) None ≡ (Err (by_rule PositionalAfterNonPositional (stretch 7 8)))
unfolding run
example_22 = refl

-- standard: f(a=1, 2) )
example_23 : reading standard (item 0 (identifier (102 ∷ [])) 1 ∷ item 1 opening_round 2 ∷ item 2 (identifier (97 ∷ [])) 3 ∷ item 3 equal 4 ∷ item 4 (integer (big (49 ∷ []) false 10)) 5 ∷ item 5 comma 6 ∷ item 7 (integer (big (50 ∷ []) false 10)) 8 ∷ item 8 closing_round 9 ∷ item 10 closing_round 11 ∷ item 11 newline 11 ∷ []) None ≡ (Err (unexpected (stretch 10 11)))
unfolding run
example_23 = refl

-- standard: f(*a, *b)
example_24 : reading standard (item 0 (identifier (102 ∷ [])) 1 ∷ item 1 opening_round 2 ∷ item 2 star 3 ∷ item 3 (identifier (97 ∷ [])) 4 ∷ item 4 comma 5 ∷ item 6 star 7 ∷ item 7 (identifier (98 ∷ [])) 8 ∷ item 8 closing_round 9 ∷ item 9 newline 9 ∷ []) None ≡ (Err (by_rule ArgsAfterStar (stretch 6 8)))
unfolding run
example_24 = refl

-- standard: f(**a, **b)
example_25 : reading standard (item 0 (identifier (102 ∷ [])) 1 ∷ item 1 opening_round 2 ∷ item 2 star_star 4 ∷ item 4 (identifier (97 ∷ [])) 5 ∷ item 5 comma 6 ∷ item 7 star_star 9 ∷ item 9 (identifier (98 ∷ [])) 10 ∷ item 10 closing_round 11 ∷ item 11 newline 11 ∷ []) None ≡ (Err (by_rule MultipleKwargs (stretch 7 10)))
unfolding run
example_25 = refl

-- standard: f(**a, b=1)
example_26 : reading standard (item 0 (identifier (102 ∷ [])) 1 ∷ item 1 opening_round 2 ∷ item 2 star_star 4 ∷ item 4 (identifier (97 ∷ [])) 5 ∷ item 5 comma 6 ∷ item 7 (identifier (98 ∷ [])) 8 ∷ item 8 equal 9 ∷ item 9 (integer (big (49 ∷ []) false 10)) 10 ∷ item 10 closing_round 11 ∷ item 11 newline 11 ∷ []) None ≡ (Err (by_rule NamedAfterStar (stretch 7 10)))
unfolding run
example_26 = refl

-- standard: f(a=1, a=2)
example_27 : reading standard (item 0 (identifier (102 ∷ [])) 1 ∷ item 1 opening_round 2 ∷ item 2 (identifier (97 ∷ [])) 3 ∷ item 3 equal 4 ∷ item 4 (integer (big (49 ∷ []) false 10)) 5 ∷ item 5 comma 6 ∷ item 7 (identifier (97 ∷ [])) 8 ∷ item 8 equal 9 ∷ item 9 (integer (big (50 ∷ []) false 10)) 10 ∷ item 10 closing_round 11 ∷ item 11 newline 11 ∷ []) None ≡ (Err (by_rule RepeatedNamed (stretch 7 8)))
unfolding run
example_27 = refl

-- standard: f(*a, b)
example_28 : reading standard (item 0 (identifier (102 ∷ [])) 1 ∷ item 1 opening_round 2 ∷ item 2 star 3 ∷ item 3 (identifier (97 ∷ [])) 4 ∷ item 4 comma 5 ∷ item 6 (identifier (98 ∷ [])) 7 ∷ item 7 closing_round 8 ∷ item 8 newline 8 ∷ []) None ≡ (Err (by_rule PositionalAfterNonPositional (stretch 6 7)))
unfolding run
example_28 = refl

-- standard: f(a=1, g(b=1, 2))
example_29 : reading standard (item 0 (identifier (102 ∷ [])) 1 ∷ item 1 opening_round 2 ∷ item 2 (identifier (97 ∷ [])) 3 ∷ item 3 equal 4 ∷ item 4 (integer (big (49 ∷ []) false 10)) 5 ∷ item 5 comma 6 ∷ item 7 (identifier (103 ∷ [])) 8 ∷ item 8 opening_round 9 ∷ item 9 (identifier (98 ∷ [])) 10 ∷ item 10 equal 11 ∷ item 11 (integer (big (49 ∷ []) false 10)) 12 ∷ item 12 comma 13 ∷ item 14 (integer (big (50 ∷ []) false 10)) 15 ∷ item 15 closing_round 16 ∷ item 16 closing_round 17 ∷ item 17 newline 17 ∷ []) None ≡ (Err (by_rule PositionalAfterNonPositional (stretch 14 15)))
unfolding run
example_29 = refl
