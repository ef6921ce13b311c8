-- Statements.
use Rattle.std.proofs.Common.{Some, None, ◌≡◌, ◌∷◌, [], false, refl, Ok}
use Rattle.starlark_grammar.specs.Spans.{stretch}
use Rattle.starlark_lexer.specs.Items.{big, newline, indent, dedent, identifier, integer, string, bytes, keyword_def, keyword_elif, keyword_else, keyword_if, keyword_load, keyword_pass, comma, semicolon, colon, equal, star, star_star, slash, pipe, dot, minus_greater, opening_round, closing_round, opening_square, closing_square, item}
use Rattle.starlark_lexer.specs.Dialects.{standard, extended}
use Rattle.starlark_ast.specs.declared.ast.BinOp.TheVariants as op
use Rattle.starlark_ast.specs.Tree as tree
use Rattle.starlark_grammar.specs.Runs.{run}
use Rattle.starlark_grammar.proofs.Examples.{reading}

-- standard:
example_0 : reading standard (item 0 newline 0 ∷ []) None ≡ (Ok (tree.block tree.no_statements (stretch 0 0)))
unfolding run
example_0 = refl

-- standard: \n\n
example_1 : reading standard (item 0 newline 1 ∷ item 1 newline 2 ∷ item 2 newline 2 ∷ []) None ≡ (Ok (tree.block tree.no_statements (stretch 2 2)))
unfolding run
example_1 = refl

-- standard: a; b\n
example_2 : reading standard (item 0 (identifier (97 ∷ [])) 1 ∷ item 1 semicolon 2 ∷ item 3 (identifier (98 ∷ [])) 4 ∷ item 4 newline 5 ∷ item 5 newline 5 ∷ []) None ≡ (Ok (tree.block (tree.add_statement (tree.add_statement tree.no_statements (tree.expression (tree.leaf (tree.name (97 ∷ [])) (stretch 0 1) (stretch 0 1)) (stretch 0 1))) (tree.expression (tree.leaf (tree.name (98 ∷ [])) (stretch 3 4) (stretch 3 4)) (stretch 3 4))) (stretch 0 5)))
unfolding run
example_2 = refl

-- standard: foo\ndef x():\n   pass
example_3 : reading standard (item 0 (identifier (102 ∷ 111 ∷ 111 ∷ [])) 3 ∷ item 3 newline 4 ∷ item 4 keyword_def 7 ∷ item 8 (identifier (120 ∷ [])) 9 ∷ item 9 opening_round 10 ∷ item 10 closing_round 11 ∷ item 11 colon 12 ∷ item 12 newline 13 ∷ item 13 indent 16 ∷ item 16 keyword_pass 20 ∷ item 20 newline 20 ∷ item 20 dedent 20 ∷ []) None ≡ (Ok (tree.block (tree.add_statement (tree.add_statement tree.no_statements (tree.expression (tree.leaf (tree.name (102 ∷ 111 ∷ 111 ∷ [])) (stretch 0 3) (stretch 0 3)) (stretch 0 3))) (tree.define (tree.name_at (120 ∷ []) (stretch 8 9)) tree.none tree.untyped (tree.pass (stretch 16 20)) (stretch 4 20))) (stretch 0 20)))
unfolding run
example_3 = refl

-- standard: x = 1, b"hi"\n
example_4 : reading standard (item 0 (identifier (120 ∷ [])) 1 ∷ item 2 equal 3 ∷ item 4 (integer (big (49 ∷ []) false 10)) 5 ∷ item 5 comma 6 ∷ item 7 (bytes (104 ∷ 105 ∷ [])) 12 ∷ item 12 newline 13 ∷ item 13 newline 13 ∷ []) None ≡ (Ok (tree.assign (tree.leaf (tree.name (120 ∷ [])) (stretch 0 1) (stretch 0 1)) tree.untyped None (tree.tuple (tree.more (tree.more tree.none (tree.item (tree.leaf (tree.int (big (49 ∷ []) false 10)) (stretch 4 5) (stretch 4 5)))) (tree.item (tree.leaf (tree.bytes (104 ∷ 105 ∷ [])) (stretch 7 12) (stretch 7 12)))) (stretch 4 12)) (stretch 0 12)))
unfolding run
example_4 = refl

-- standard: (a, [b, c.d], e[0]) = g
example_5 : reading standard (item 0 opening_round 1 ∷ item 1 (identifier (97 ∷ [])) 2 ∷ item 2 comma 3 ∷ item 4 opening_square 5 ∷ item 5 (identifier (98 ∷ [])) 6 ∷ item 6 comma 7 ∷ item 8 (identifier (99 ∷ [])) 9 ∷ item 9 dot 10 ∷ item 10 (identifier (100 ∷ [])) 11 ∷ item 11 closing_square 12 ∷ item 12 comma 13 ∷ item 14 (identifier (101 ∷ [])) 15 ∷ item 15 opening_square 16 ∷ item 16 (integer (big (48 ∷ []) false 10)) 17 ∷ item 17 closing_square 18 ∷ item 18 closing_round 19 ∷ item 20 equal 21 ∷ item 22 (identifier (103 ∷ [])) 23 ∷ item 23 newline 23 ∷ []) None ≡ (Ok (tree.assign (tree.tuple (tree.more (tree.more (tree.more tree.none (tree.item (tree.leaf (tree.name (97 ∷ [])) (stretch 1 2) (stretch 1 2)))) (tree.item (tree.tuple (tree.more (tree.more tree.none (tree.item (tree.leaf (tree.name (98 ∷ [])) (stretch 5 6) (stretch 5 6)))) (tree.item (tree.dot (tree.leaf (tree.name (99 ∷ [])) (stretch 8 9) (stretch 8 9)) (100 ∷ []) (stretch 10 11) (stretch 8 11)))) (stretch 4 12)))) (tree.item (tree.index (tree.leaf (tree.name (101 ∷ [])) (stretch 14 15) (stretch 14 15)) (tree.single (tree.leaf (tree.int (big (48 ∷ []) false 10)) (stretch 16 17) (stretch 16 17))) (stretch 14 18)))) (stretch 1 18)) tree.untyped None (tree.leaf (tree.name (103 ∷ [])) (stretch 22 23) (stretch 22 23)) (stretch 0 23)))
unfolding run
example_5 = refl

-- standard: load("m", "a", b="c")\n
example_6 : reading standard (item 0 keyword_load 4 ∷ item 4 opening_round 5 ∷ item 5 (string (109 ∷ [])) 8 ∷ item 8 comma 9 ∷ item 10 (string (97 ∷ [])) 13 ∷ item 13 comma 14 ∷ item 15 (identifier (98 ∷ [])) 16 ∷ item 16 equal 17 ∷ item 17 (string (99 ∷ [])) 20 ∷ item 20 closing_round 21 ∷ item 21 newline 22 ∷ item 22 newline 22 ∷ []) None ≡ (Ok (tree.load (tree.name_at (109 ∷ []) (stretch 5 8)) (tree.add_symbol (tree.add_symbol tree.no_symbols (tree.symbol (tree.name_at (97 ∷ []) (stretch 10 13)) (tree.name_at (97 ∷ []) (stretch 10 13))) (Some (stretch 13 14))) (tree.symbol (tree.name_at (98 ∷ []) (stretch 15 16)) (tree.name_at (99 ∷ []) (stretch 17 20))) None) (stretch 0 21)))
unfolding run
example_6 = refl

-- extended: x: dict[a, [b, c]] | None = 1
example_7 : reading extended (item 0 (identifier (120 ∷ [])) 1 ∷ item 1 colon 2 ∷ item 3 (identifier (100 ∷ 105 ∷ 99 ∷ 116 ∷ [])) 7 ∷ item 7 opening_square 8 ∷ item 8 (identifier (97 ∷ [])) 9 ∷ item 9 comma 10 ∷ item 11 opening_square 12 ∷ item 12 (identifier (98 ∷ [])) 13 ∷ item 13 comma 14 ∷ item 15 (identifier (99 ∷ [])) 16 ∷ item 16 closing_square 17 ∷ item 17 closing_square 18 ∷ item 19 pipe 20 ∷ item 21 (identifier (78 ∷ 111 ∷ 110 ∷ 101 ∷ [])) 25 ∷ item 26 equal 27 ∷ item 28 (integer (big (49 ∷ []) false 10)) 29 ∷ item 29 newline 29 ∷ []) None ≡ (Ok (tree.assign (tree.leaf (tree.name (120 ∷ [])) (stretch 0 1) (stretch 0 1)) (tree.typed (tree.operation (tree.index (tree.leaf (tree.name (100 ∷ 105 ∷ 99 ∷ 116 ∷ [])) (stretch 3 7) (stretch 3 7)) (tree.double (tree.leaf (tree.name (97 ∷ [])) (stretch 8 9) (stretch 8 9)) (tree.list (tree.more (tree.more tree.none (tree.item (tree.leaf (tree.name (98 ∷ [])) (stretch 12 13) (stretch 12 13)))) (tree.item (tree.leaf (tree.name (99 ∷ [])) (stretch 15 16) (stretch 15 16)))) (stretch 11 17))) (stretch 3 18)) op.BitOr (tree.leaf (tree.name (78 ∷ 111 ∷ 110 ∷ 101 ∷ [])) (stretch 21 25) (stretch 21 25)) (stretch 3 25)) (stretch 3 25)) None (tree.leaf (tree.int (big (49 ∷ []) false 10)) (stretch 28 29) (stretch 28 29)) (stretch 0 29)))
unfolding run
example_7 = refl

-- extended: def f(a, /, b, *, c=1, **d): pass
example_8 : reading extended (item 0 keyword_def 3 ∷ item 4 (identifier (102 ∷ [])) 5 ∷ item 5 opening_round 6 ∷ item 6 (identifier (97 ∷ [])) 7 ∷ item 7 comma 8 ∷ item 9 slash 10 ∷ item 10 comma 11 ∷ item 12 (identifier (98 ∷ [])) 13 ∷ item 13 comma 14 ∷ item 15 star 16 ∷ item 16 comma 17 ∷ item 18 (identifier (99 ∷ [])) 19 ∷ item 19 equal 20 ∷ item 20 (integer (big (49 ∷ []) false 10)) 21 ∷ item 21 comma 22 ∷ item 23 star_star 25 ∷ item 25 (identifier (100 ∷ [])) 26 ∷ item 26 closing_round 27 ∷ item 27 colon 28 ∷ item 29 keyword_pass 33 ∷ item 33 newline 33 ∷ []) None ≡ (Ok (tree.define (tree.name_at (102 ∷ []) (stretch 4 5)) (tree.more (tree.more (tree.more (tree.more (tree.more (tree.more tree.none (tree.parameter tree.plain (97 ∷ []) (stretch 6 7) tree.untyped tree.absent (stretch 6 7))) (tree.slash (stretch 9 10))) (tree.parameter tree.plain (98 ∷ []) (stretch 12 13) tree.untyped tree.absent (stretch 12 13))) (tree.no_args (stretch 15 16))) (tree.parameter tree.plain (99 ∷ []) (stretch 18 19) tree.untyped (tree.present (tree.leaf (tree.int (big (49 ∷ []) false 10)) (stretch 20 21) (stretch 20 21))) (stretch 18 21))) (tree.parameter tree.double_starred (100 ∷ []) (stretch 25 26) tree.untyped tree.absent (stretch 23 26))) tree.untyped (tree.pass (stretch 29 33)) (stretch 0 33)))
unfolding run
example_8 = refl

-- extended: def f() -> int: pass\n
example_9 : reading extended (item 0 keyword_def 3 ∷ item 4 (identifier (102 ∷ [])) 5 ∷ item 5 opening_round 6 ∷ item 6 closing_round 7 ∷ item 8 minus_greater 10 ∷ item 11 (identifier (105 ∷ 110 ∷ 116 ∷ [])) 14 ∷ item 14 colon 15 ∷ item 16 keyword_pass 20 ∷ item 20 newline 21 ∷ item 21 newline 21 ∷ []) None ≡ (Ok (tree.define (tree.name_at (102 ∷ []) (stretch 4 5)) tree.none (tree.typed (tree.leaf (tree.name (105 ∷ 110 ∷ 116 ∷ [])) (stretch 11 14) (stretch 11 14)) (stretch 11 14)) (tree.pass (stretch 16 20)) (stretch 0 21)))
unfolding run
example_9 = refl

-- extended: if a: pass\nelif b: pass\nelse: pass
example_10 : reading extended (item 0 keyword_if 2 ∷ item 3 (identifier (97 ∷ [])) 4 ∷ item 4 colon 5 ∷ item 6 keyword_pass 10 ∷ item 10 newline 11 ∷ item 11 keyword_elif 15 ∷ item 16 (identifier (98 ∷ [])) 17 ∷ item 17 colon 18 ∷ item 19 keyword_pass 23 ∷ item 23 newline 24 ∷ item 24 keyword_else 28 ∷ item 28 colon 29 ∷ item 30 keyword_pass 34 ∷ item 34 newline 34 ∷ []) None ≡ (Ok (tree.either (tree.leaf (tree.name (97 ∷ [])) (stretch 3 4) (stretch 3 4)) (tree.pass (stretch 6 10)) (tree.either (tree.leaf (tree.name (98 ∷ [])) (stretch 16 17) (stretch 16 17)) (tree.pass (stretch 19 23)) (tree.pass (stretch 30 34)) (stretch 11 34)) (stretch 0 34)))
unfolding run
example_10 = refl
