-- What trees print.
use Rattle.std.specs.Prelude.{ℕ, zero, suc, ◌/◌, ◌%◌, List, [], ◌∷◌, ◌++◌, flat_map, codes, false, if◌then◌else◌, nat_eq, nat_lt, Option, Some, None}
use Rattle.std.specs.Char.{encode_utf8}
use Rattle.std.specs.Fmt.{digit_glyph, signed_decimal}
use Rattle.std.specs.Str.{chars}
use Rattle.starlark_lexer.specs.Display.{radix_text, sign_text}
use Rattle.starlark_lexer.specs.Items.{Number, small, big}
use Rattle.starlark_ast.specs.declared.ast.BinOp.{BinOp}
use Rattle.starlark_ast.specs.declared.ast.BinOp.TheVariants as operator
use Rattle.starlark_ast.specs.declared.ast.AssignOp.{AssignOp}
use Rattle.starlark_ast.specs.declared.ast.AssignOp.TheVariants as assigning
use Rattle.starlark_ast.specs.Tree.{Leaf, name, int, float, string, bytes, ellipsis, Sign, Not, Minus, Plus, BitNot, Stars, plain, starred, double_starred, Expr, leaf, tuple, list, dict, comprehension, dot, index, call, lambda, signed, operation, choice, fstring, Member, item, pair, positional, named, args, kwargs, slash, no_args, parameter, Members, none, more, Bound, absent, present, Annotation, untyped, typed, Subscript, single, double, slice, Clause, for_clause, if_clause, Clauses, no_clauses, and_clause, Name, name_at, Symbol, symbol, Symbols, no_symbols, add_symbol, Statement, break, continue, pass, return, load, expression, assign, when, either, repeat, define, block, Sequence, no_statements, add_statement}

-- an operator, with a space on each side
abbrev pub operator_text : BinOp → List ℕ
operator_text operator.Or = codes " or "
operator_text operator.And = codes " and "
operator_text operator.Equal = codes " == "
operator_text operator.NotEqual = codes " != "
operator_text operator.Less = codes " < "
operator_text operator.Greater = codes " > "
operator_text operator.LessOrEqual = codes " <= "
operator_text operator.GreaterOrEqual = codes " >= "
operator_text operator.In = codes " in "
operator_text operator.NotIn = codes " not in "
operator_text operator.Subtract = codes " - "
operator_text operator.Add = codes " + "
operator_text operator.Multiply = codes " * "
operator_text operator.Percent = codes " % "
operator_text operator.Divide = codes " / "
operator_text operator.FloorDivide = codes " // "
operator_text operator.BitAnd = codes " & "
operator_text operator.BitOr = codes " | "
operator_text operator.BitXor = codes " ^ "
operator_text operator.LeftShift = codes " << "
operator_text operator.RightShift = codes " >> "

abbrev pub assigning_text : AssignOp → List ℕ
assigning_text assigning.Add = codes " += "
assigning_text assigning.Subtract = codes " -= "
assigning_text assigning.Multiply = codes " *= "
assigning_text assigning.Divide = codes " /= "
assigning_text assigning.FloorDivide = codes " //= "
assigning_text assigning.Percent = codes " %= "
assigning_text assigning.BitAnd = codes " &= "
assigning_text assigning.BitOr = codes " |= "
assigning_text assigning.BitXor = codes " ^= "
assigning_text assigning.LeftShift = codes " <<= "
assigning_text assigning.RightShift = codes " >>= "

-- A character in quotes: LF, tab, CR, 0, `"` and a backslash behind a backslash, others as they are.
abbrev pub escaped : ℕ → List ℕ
escaped c =
    if nat_eq c 10 then 92 ∷ 110 ∷ [] else
    if nat_eq c 9 then 92 ∷ 116 ∷ [] else
    if nat_eq c 13 then 92 ∷ 114 ∷ [] else
    if nat_eq c 0 then 92 ∷ 48 ∷ [] else
    if nat_eq c 34 then 92 ∷ 34 ∷ [] else
    if nat_eq c 92 then 92 ∷ 92 ∷ [] else encode_utf8 c

-- a text in quotes
abbrev pub quoted : List ℕ → List ℕ
quoted text = 34 ∷ [] ++ flat_map escaped (chars text) ++ 34 ∷ []

-- two hexadecimal digits behind `\x`
abbrev pub hex_escape : ℕ → List ℕ
hex_escape b = 92 ∷ 120 ∷ [] ++ encode_utf8 (digit_glyph false (b / 16)) ++ encode_utf8 (digit_glyph false (b % 16))

-- A byte in quotes: `"`, a backslash, LF, CR and tab behind a backslash, other printable ones as they are, all others as two digits.
abbrev pub escaped_byte : ℕ → List ℕ
escaped_byte b =
    if nat_eq b 34 then 92 ∷ 34 ∷ [] else
    if nat_eq b 92 then 92 ∷ 92 ∷ [] else
    if nat_eq b 10 then 92 ∷ 110 ∷ [] else
    if nat_eq b 13 then 92 ∷ 114 ∷ [] else
    if nat_eq b 9 then 92 ∷ 116 ∷ [] else
    if nat_lt b 32 then hex_escape b else
    if nat_lt b 127 then encode_utf8 b else hex_escape b

-- bytes in quotes behind a `b`
abbrev pub quoted_bytes : List ℕ → List ℕ
quoted_bytes bs = 98 ∷ 34 ∷ [] ++ flat_map escaped_byte bs ++ 34 ∷ []

-- a small integer in decimal, another with its sign, its radix and its digits
abbrev pub integer_text : Number → List ℕ
integer_text (small n) = signed_decimal n
integer_text (big digits negative radix) = sign_text negative ++ radix_text radix ++ digits

abbrev pub leaf_text : Leaf → List ℕ
leaf_text (name n) = n
leaf_text (int n) = integer_text n
leaf_text (float t) = t
leaf_text (string t) = quoted t
leaf_text (bytes bs) = quoted_bytes bs
leaf_text ellipsis = codes "..."

abbrev pub before_operand : Sign → List ℕ
before_operand Not = codes "(not "
before_operand Minus = codes "-"
before_operand Plus = codes "+"
before_operand BitNot = codes "~"

abbrev pub behind_operand : Sign → List ℕ
behind_operand Not = codes ")"
behind_operand _ = []

abbrev pub stars_text : Stars → List ℕ
stars_text plain = []
stars_text starred = codes "*"
stars_text double_starred = codes "**"

-- a comma behind a member that is alone in a tuple
abbrev pub lone_comma : Members → List ℕ
lone_comma (more none m) = codes ","
lone_comma _ = []

-- the brackets of a comprehension
abbrev pub opening : Member → List ℕ
opening (pair k v) = codes "{"
opening _ = codes "["

abbrev pub closing : Member → List ℕ
closing (pair k v) = codes "}"
closing _ = codes "]"

-- an expression; members with a comma and a space between; clauses each with the space before it
abbrev mutual
  pub expr_text : Expr → List ℕ
  expr_text (leaf l t s) = leaf_text l
  expr_text (tuple ms s) = codes "(" ++ members_text ms ++ lone_comma ms ++ codes ")"
  expr_text (list ms s) = codes "[" ++ members_text ms ++ codes "]"
  expr_text (dict ms s) = codes "{" ++ members_text ms ++ codes "}"
  expr_text (comprehension m cs s) = opening m ++ member_text m ++ clauses_text cs ++ closing m
  expr_text (dot x n t s) = expr_text x ++ codes "." ++ n
  expr_text (index x b s) = expr_text x ++ subscript_text b
  expr_text (call x ms s) = expr_text x ++ codes "(" ++ members_text ms ++ codes ")"
  expr_text (lambda ms x s) = codes "(lambda " ++ members_text ms ++ codes ": " ++ expr_text x ++ codes ")"
  expr_text (signed o x s) = before_operand o ++ expr_text x ++ behind_operand o
  expr_text (operation x o y s) = codes "(" ++ expr_text x ++ operator_text o ++ expr_text y ++ codes ")"
  expr_text (choice c x y s) = codes "(" ++ expr_text x ++ codes " if " ++ expr_text c ++ codes " else " ++ expr_text y ++ codes ")"
  expr_text (fstring f t ms u s) = f ++ codes ".format(" ++ members_text ms ++ codes ")"

  pub member_text : Member → List ℕ
  member_text (item x) = expr_text x
  member_text (pair k v) = expr_text k ++ codes ": " ++ expr_text v
  member_text (positional x s) = expr_text x
  member_text (named n t x s) = n ++ codes " = " ++ expr_text x
  member_text (args x s) = codes "*" ++ expr_text x
  member_text (kwargs x s) = codes "**" ++ expr_text x
  member_text (slash s) = codes "/"
  member_text (no_args s) = codes "*"
  member_text (parameter k n t a b s) = stars_text k ++ n ++ annotation_text a ++ default_text b

  pub members_text : Members → List ℕ
  members_text none = []
  members_text (more none m) = member_text m
  members_text (more (more ms n) m) = members_text (more ms n) ++ codes ", " ++ member_text m

  pub bound_text : Bound → List ℕ
  bound_text absent = []
  bound_text (present x) = expr_text x

  pub default_text : Bound → List ℕ
  default_text absent = []
  default_text (present x) = codes " = " ++ expr_text x

  pub step_text : Bound → List ℕ
  step_text absent = []
  step_text (present x) = codes ":" ++ expr_text x

  pub annotation_text : Annotation → List ℕ
  annotation_text untyped = []
  annotation_text (typed x t) = codes ": " ++ expr_text x

  -- a slice behind empty brackets, a bound that is not there as nothing
  pub subscript_text : Subscript → List ℕ
  subscript_text (single x) = codes "[" ++ expr_text x ++ codes "]"
  subscript_text (double x y) = codes "[" ++ expr_text x ++ codes ", " ++ expr_text y ++ codes "]"
  subscript_text (slice a b c) = codes "[]" ++ bound_text a ++ codes ":" ++ bound_text b ++ step_text c

  pub clause_text : Clause → List ℕ
  clause_text (for_clause x y) = codes " for " ++ expr_text x ++ codes " in " ++ expr_text y
  clause_text (if_clause x) = codes " if " ++ expr_text x

  pub clauses_text : Clauses → List ℕ
  clauses_text no_clauses = []
  clauses_text (and_clause cs c) = clauses_text cs ++ clause_text c

-- two spaces for each depth
abbrev pub blanks : ℕ → List ℕ
blanks zero = []
blanks (suc d) = 32 ∷ 32 ∷ blanks d

abbrev pub name_text : Name → List ℕ
name_text (name_at n t) = n

abbrev pub symbol_text : Symbol → List ℕ
symbol_text (symbol n m) = name_text n ++ codes " = " ++ quoted (name_text m)

abbrev pub symbols_text : Symbols → List ℕ
symbols_text no_symbols = []
symbols_text (add_symbol no_symbols x c) = symbol_text x
symbols_text (add_symbol (add_symbol ss y d) x c) = symbols_text (add_symbol ss y d) ++ codes ", " ++ symbol_text x

abbrev pub returned_text : Option Expr → List ℕ
returned_text None = []
returned_text (Some x) = codes " " ++ expr_text x

-- the type of an assignment, and of a result
abbrev pub left_type_text : Annotation → List ℕ
left_type_text untyped = []
left_type_text (typed x t) = codes ": " ++ expr_text x ++ codes " "

abbrev pub result_text : Annotation → List ℕ
result_text untyped = []
result_text (typed x t) = codes " -> " ++ expr_text x

abbrev pub assignment_text : List ℕ → Annotation → Option AssignOp → List ℕ
assignment_text l a None = l ++ codes " " ++ left_type_text a ++ codes "= "
assignment_text l a (Some o) = l ++ assigning_text o

-- a statement at a depth, each line with its line feed
abbrev mutual
  pub statement_text : ℕ → Statement → List ℕ
  statement_text d (break s) = blanks d ++ codes "break\n"
  statement_text d (continue s) = blanks d ++ codes "continue\n"
  statement_text d (pass s) = blanks d ++ codes "pass\n"
  statement_text d (return x s) = blanks d ++ codes "return" ++ returned_text x ++ codes "\n"
  statement_text d (load m ss s) = blanks d ++ codes "load(" ++ quoted (name_text m) ++ codes ", " ++ symbols_text ss ++ codes ")\n"
  statement_text d (expression x s) = blanks d ++ expr_text x ++ codes "\n"
  statement_text d (assign x a o y s) = blanks d ++ assignment_text (expr_text x) a o ++ expr_text y ++ codes "\n"
  statement_text d (when c a s) = blanks d ++ codes "if " ++ expr_text c ++ codes ":\n" ++ statement_text (suc d) a
  statement_text d (either c a b s) = blanks d ++ codes "if " ++ expr_text c ++ codes ":\n" ++ statement_text (suc d) a ++ blanks d ++ codes "else:\n" ++ statement_text (suc d) b
  statement_text d (repeat x y a s) = blanks d ++ codes "for " ++ expr_text x ++ codes " in " ++ expr_text y ++ codes ":\n" ++ statement_text (suc d) a
  statement_text d (define n ps a b s) = blanks d ++ codes "def " ++ name_text n ++ codes "(" ++ members_text ps ++ codes ")" ++ result_text a ++ codes ":\n" ++ statement_text (suc d) b
  statement_text d (block ss s) = sequence_text d ss

  pub sequence_text : ℕ → Sequence → List ℕ
  sequence_text d no_statements = []
  sequence_text d (add_statement ss s) = sequence_text d ss ++ statement_text d s
