-- Trees that are the same but for places have as many of them, which stand to one another as the relation says.
use Rattle.std.proofs.Common.{ℕ, ◌∷◌, ◌++◌, [], List, Option}
use Rattle.starlark_place.specs.Place.{Extent}
use Rattle.starlark_ast.specs.Tree.{Expr, Member, Members, Bound, Annotation, Subscript, Clause, Clauses, Name, Symbol, Symbols, Statement, Sequence}
use Rattle.starlark_joining.specs.Same as same
use Rattle.starlark_joining.specs.Same.{SameExpr, SameMember, SameMembers, SameBound, SameAnnotation, SameSubscript, SameClause, SameClauses, SameName, SameSymbol, SameComma, SameSymbols, SameValue, SameStatement, SameSequence}
use Rattle.starlark_order.specs.Beginnings.{expr_begins, member_begins, members_begin, bound_begins, annotation_begins, subscript_begins, clause_begins, clauses_begin, name_begins, comma_begins, symbol_begins, symbols_begin, value_begins, statement_begins, sequence_begins}

-- as many, each of which stands so to that of the other list
pub data Alike (R : ℕ → ℕ → Type 0) : List ℕ → List ℕ → Type 0 where
  no_more : Alike R [] []
  and_more : {x y : ℕ} {xs ys : List ℕ} → R x y → Alike R xs ys → Alike R (x ∷ xs) (y ∷ ys)

infixl 5 ◌with◌
◌with◌ : {R : ℕ → ℕ → Type 0} {xs ys us vs : List ℕ} → Alike R xs ys → Alike R us vs → Alike R (xs ++ us) (ys ++ vs)
◌with◌ no_more q = q
◌with◌ (and_more h p) q = and_more h (p with q)

module _ {R : ℕ → ℕ → Type 0} where
  mutual
    expr_alike : {x y : Expr} → SameExpr R x y → Alike R (expr_begins x) (expr_begins y)
    expr_alike (same.same_leaf u s) = and_more s.begins (and_more u.begins no_more)
    expr_alike (same.same_tuple ms s) = and_more s.begins (members_alike ms)
    expr_alike (same.same_list ms s) = and_more s.begins (members_alike ms)
    expr_alike (same.same_dict ms s) = and_more s.begins (members_alike ms)
    expr_alike (same.same_comprehension m cs s) = and_more s.begins (member_alike m with clauses_alike cs)
    expr_alike (same.same_dot x u s) = and_more s.begins (and_more u.begins (expr_alike x))
    expr_alike (same.same_index x b s) = and_more s.begins (expr_alike x with subscript_alike b)
    expr_alike (same.same_call x ms s) = and_more s.begins (expr_alike x with members_alike ms)
    expr_alike (same.same_lambda ms x s) = and_more s.begins (members_alike ms with expr_alike x)
    expr_alike (same.same_signed x s) = and_more s.begins (expr_alike x)
    expr_alike (same.same_operation x y s) = and_more s.begins (expr_alike x with expr_alike y)
    expr_alike (same.same_choice x y z s) = and_more s.begins (expr_alike x with expr_alike y with expr_alike z)
    expr_alike (same.same_fstring u ms v s) = and_more s.begins (and_more u.begins (and_more v.begins (members_alike ms)))

    member_alike : {x y : Member} → SameMember R x y → Alike R (member_begins x) (member_begins y)
    member_alike (same.same_item x) = expr_alike x
    member_alike (same.same_pair x y) = expr_alike x with expr_alike y
    member_alike (same.same_positional x s) = and_more s.begins (expr_alike x)
    member_alike (same.same_named u x s) = and_more s.begins (and_more u.begins (expr_alike x))
    member_alike (same.same_args x s) = and_more s.begins (expr_alike x)
    member_alike (same.same_kwargs x s) = and_more s.begins (expr_alike x)
    member_alike (same.same_slash s) = and_more s.begins no_more
    member_alike (same.same_no_args s) = and_more s.begins no_more
    member_alike (same.same_parameter u a b s) = and_more s.begins (and_more u.begins (annotation_alike a with bound_alike b))

    members_alike : {x y : Members} → SameMembers R x y → Alike R (members_begin x) (members_begin y)
    members_alike same.same_none = no_more
    members_alike (same.same_more ms m) = members_alike ms with member_alike m

    bound_alike : {x y : Bound} → SameBound R x y → Alike R (bound_begins x) (bound_begins y)
    bound_alike same.same_absent = no_more
    bound_alike (same.same_present x) = expr_alike x

    annotation_alike : {x y : Annotation} → SameAnnotation R x y → Alike R (annotation_begins x) (annotation_begins y)
    annotation_alike same.same_untyped = no_more
    annotation_alike (same.same_typed x s) = and_more s.begins (expr_alike x)

    subscript_alike : {x y : Subscript} → SameSubscript R x y → Alike R (subscript_begins x) (subscript_begins y)
    subscript_alike (same.same_single x) = expr_alike x
    subscript_alike (same.same_double x y) = expr_alike x with expr_alike y
    subscript_alike (same.same_slice x y z) = bound_alike x with bound_alike y with bound_alike z

    clause_alike : {x y : Clause} → SameClause R x y → Alike R (clause_begins x) (clause_begins y)
    clause_alike (same.same_for_clause x y) = expr_alike x with expr_alike y
    clause_alike (same.same_if_clause x) = expr_alike x

    clauses_alike : {x y : Clauses} → SameClauses R x y → Alike R (clauses_begin x) (clauses_begin y)
    clauses_alike same.same_no_clauses = no_more
    clauses_alike (same.same_and_clause cs c) = clauses_alike cs with clause_alike c

  name_alike : {x y : Name} → SameName R x y → Alike R (name_begins x) (name_begins y)
  name_alike (same.same_name s) = and_more s.begins no_more

  symbol_alike : {x y : Symbol} → SameSymbol R x y → Alike R (symbol_begins x) (symbol_begins y)
  symbol_alike (same.same_symbol a b) = name_alike a with name_alike b

  comma_alike : {x y : Option Extent} → SameComma R x y → Alike R (comma_begins x) (comma_begins y)
  comma_alike same.no_comma = no_more
  comma_alike (same.same_comma s) = and_more s.begins no_more

  symbols_alike : {x y : Symbols} → SameSymbols R x y → Alike R (symbols_begin x) (symbols_begin y)
  symbols_alike same.same_no_symbols = no_more
  symbols_alike (same.same_add_symbol ss s c) = symbols_alike ss with symbol_alike s with comma_alike c

  value_alike : {x y : Option Expr} → SameValue R x y → Alike R (value_begins x) (value_begins y)
  value_alike same.no_value = no_more
  value_alike (same.same_value x) = expr_alike x

  mutual
    pub statement_alike : {x y : Statement} → SameStatement R x y → Alike R (statement_begins x) (statement_begins y)
    statement_alike (same.same_break s) = and_more s.begins no_more
    statement_alike (same.same_continue s) = and_more s.begins no_more
    statement_alike (same.same_pass s) = and_more s.begins no_more
    statement_alike (same.same_return x s) = and_more s.begins (value_alike x)
    statement_alike (same.same_load m ss s) = and_more s.begins (name_alike m with symbols_alike ss)
    statement_alike (same.same_expression x s) = and_more s.begins (expr_alike x)
    statement_alike (same.same_assign x a y s) = and_more s.begins (expr_alike x with annotation_alike a with expr_alike y)
    statement_alike (same.same_when x a s) = and_more s.begins (expr_alike x with statement_alike a)
    statement_alike (same.same_either x a b s) = and_more s.begins (expr_alike x with statement_alike a with statement_alike b)
    statement_alike (same.same_repeat x y a s) = and_more s.begins (expr_alike x with expr_alike y with statement_alike a)
    statement_alike (same.same_define n ps a b s) = and_more s.begins (name_alike n with members_alike ps with annotation_alike a with statement_alike b)
    statement_alike (same.same_block ss s) = and_more s.begins (sequence_alike ss)

    pub sequence_alike : {x y : Sequence} → SameSequence R x y → Alike R (sequence_begins x) (sequence_begins y)
    sequence_alike same.same_no_statements = no_more
    sequence_alike (same.same_add_statement ss s) = sequence_alike ss with statement_alike s
