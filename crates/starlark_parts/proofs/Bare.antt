-- Trees that are the same but for their places are the same without them.
use Rattle.std.proofs.Common.{◌≡◌, ◌∙◌, [], ◌∷◌, ◌++◌, map, refl, ap, sym, ℕ, Option, Some}
use Rattle.std.proofs.lemmas.List.{map-append}
use Rattle.starlark_place.specs.Place.{Extent}
use Rattle.starlark_ast.specs.Shown.{nowhere}
use Rattle.starlark_ast.specs.Tree as t
use Rattle.starlark_ast.specs.Tree.{Expr, Member, Members, Bound, Annotation, Subscript, Clause, Clauses, Name, Symbol, Symbols, Statement, Sequence}
use Rattle.starlark_joining.specs.Kept.{SameTops, all_same, but_last}
use Rattle.starlark_joining.specs.Same as same
use Rattle.starlark_joining.specs.Same.{SameExpr, SameMember, SameMembers, SameBound, SameAnnotation, SameSubscript, SameClause, SameClauses, SameName, SameSymbol, SameComma, SameSymbols, SameValue, SameStatement, SameSequence}
use Rattle.starlark_parts.specs.Bare.{bare, bare_annotation, bare_bound, bare_clause, bare_clauses, bare_comma, bare_expr, bare_member, bare_members, bare_name, bare_sequence, bare_subscript, bare_symbol, bare_symbols, bare_value}
use Rattle.starlark_parts.specs.Tops.{all_top, top_level}

module _ (R : ℕ → ℕ → Type 0) where
  mutual
    exprs : {x y : Expr} → SameExpr R x y → bare_expr x ≡ bare_expr y
    exprs (same.same_leaf u s) = refl
    exprs (same.same_tuple h s) = ap (λ q. t.tuple q nowhere) (lists h)
    exprs (same.same_list h s) = ap (λ q. t.list q nowhere) (lists h)
    exprs (same.same_dict h s) = ap (λ q. t.dict q nowhere) (lists h)
    exprs (same.same_comprehension h k s) = λ i. t.comprehension (members h i) (all_clauses k i) nowhere
    exprs (same.same_dot {x} {y} {n} h u s) = ap (λ q. t.dot q n nowhere nowhere) (exprs h)
    exprs (same.same_index h k s) = λ i. t.index (exprs h i) (subscripts k i) nowhere
    exprs (same.same_call h k s) = λ i. t.call (exprs h i) (lists k i) nowhere
    exprs (same.same_lambda h k s) = λ i. t.lambda (lists h i) (exprs k i) nowhere
    exprs (same.same_signed {o} h s) = ap (λ q. t.signed o q nowhere) (exprs h)
    exprs (same.same_operation {x} {y} {p} {q} {o} h k s) = λ i. t.operation (exprs h i) o (exprs k i) nowhere
    exprs (same.same_choice h k l s) = λ i. t.choice (exprs h i) (exprs k i) (exprs l i) nowhere
    exprs (same.same_fstring {f} u h v s) = ap (λ q. t.fstring f nowhere q nowhere nowhere) (lists h)

    members : {x y : Member} → SameMember R x y → bare_member x ≡ bare_member y
    members (same.same_item h) = ap t.item (exprs h)
    members (same.same_pair h k) = λ i. t.pair (exprs h i) (exprs k i)
    members (same.same_positional h s) = ap (λ q. t.positional q nowhere) (exprs h)
    members (same.same_named {n} u h s) = ap (λ q. t.named n nowhere q nowhere) (exprs h)
    members (same.same_args h s) = ap (λ q. t.args q nowhere) (exprs h)
    members (same.same_kwargs h s) = ap (λ q. t.kwargs q nowhere) (exprs h)
    members (same.same_slash s) = refl
    members (same.same_no_args s) = refl
    members (same.same_parameter {k} {n} u h l s) = λ i. t.parameter k n nowhere (annotations h i) (bounds l i) nowhere

    lists : {x y : Members} → SameMembers R x y → bare_members x ≡ bare_members y
    lists same.same_none = refl
    lists (same.same_more h k) = λ i. t.more (lists h i) (members k i)

    bounds : {x y : Bound} → SameBound R x y → bare_bound x ≡ bare_bound y
    bounds same.same_absent = refl
    bounds (same.same_present h) = ap t.present (exprs h)

    annotations : {x y : Annotation} → SameAnnotation R x y → bare_annotation x ≡ bare_annotation y
    annotations same.same_untyped = refl
    annotations (same.same_typed h s) = ap (λ q. t.typed q nowhere) (exprs h)

    subscripts : {x y : Subscript} → SameSubscript R x y → bare_subscript x ≡ bare_subscript y
    subscripts (same.same_single h) = ap t.single (exprs h)
    subscripts (same.same_double h k) = λ i. t.double (exprs h i) (exprs k i)
    subscripts (same.same_slice h k l) = λ i. t.slice (bounds h i) (bounds k i) (bounds l i)

    clauses : {x y : Clause} → SameClause R x y → bare_clause x ≡ bare_clause y
    clauses (same.same_for_clause h k) = λ i. t.for_clause (exprs h i) (exprs k i)
    clauses (same.same_if_clause h) = ap t.if_clause (exprs h)

    all_clauses : {x y : Clauses} → SameClauses R x y → bare_clauses x ≡ bare_clauses y
    all_clauses same.same_no_clauses = refl
    all_clauses (same.same_and_clause h k) = λ i. t.and_clause (all_clauses h i) (clauses k i)

  names : {x y : Name} → SameName R x y → bare_name x ≡ bare_name y
  names (same.same_name s) = refl

  one_symbol : {x y : Symbol} → SameSymbol R x y → bare_symbol x ≡ bare_symbol y
  one_symbol (same.same_symbol h k) = λ i. t.symbol (names h i) (names k i)

  commas : {x y : Option Extent} → SameComma R x y → bare_comma x ≡ bare_comma y
  commas same.no_comma = refl
  commas (same.same_comma s) = refl

  all_symbols : {x y : Symbols} → SameSymbols R x y → bare_symbols x ≡ bare_symbols y
  all_symbols same.same_no_symbols = refl
  all_symbols (same.same_add_symbol h k l) = λ i. t.add_symbol (all_symbols h i) (one_symbol k i) (commas l i)

  values : {x y : Option Expr} → SameValue R x y → bare_value x ≡ bare_value y
  values same.no_value = refl
  values (same.same_value h) = ap Some (exprs h)

  mutual
    statements : {x y : Statement} → SameStatement R x y → bare x ≡ bare y
    statements (same.same_break s) = refl
    statements (same.same_continue s) = refl
    statements (same.same_pass s) = refl
    statements (same.same_return h s) = ap (λ q. t.return q nowhere) (values h)
    statements (same.same_load h k s) = λ i. t.load (names h i) (all_symbols k i) nowhere
    statements (same.same_expression h s) = ap (λ q. t.expression q nowhere) (exprs h)
    statements (same.same_assign {x} {y} {p} {q} {a} {b} {o} h k l s) = λ i. t.assign (exprs h i) (annotations k i) o (exprs l i) nowhere
    statements (same.same_when h k s) = λ i. t.when (exprs h i) (statements k i) nowhere
    statements (same.same_either h k l s) = λ i. t.either (exprs h i) (statements k i) (statements l i) nowhere
    statements (same.same_repeat h k l s) = λ i. t.repeat (exprs h i) (exprs k i) (statements l i) nowhere
    statements (same.same_define h k l m s) = λ i. t.define (names h i) (lists k i) (annotations l i) (statements m i) nowhere
    statements (same.same_block h s) = ap (λ q. t.block q nowhere) (sequences h)

    sequences : {x y : Sequence} → SameSequence R x y → bare_sequence x ≡ bare_sequence y
    sequences same.same_no_statements = refl
    sequences (same.same_add_statement h k) = λ i. t.add_statement (sequences h i) (statements k i)

  -- those at the top
  mutual
    tops_one : {x y : Statement} → SameStatement R x y → map bare (top_level x) ≡ map bare (top_level y)
    tops_one (same.same_block h s) = tops_all h
    tops_one (same.same_break s) = refl
    tops_one (same.same_continue s) = refl
    tops_one (same.same_pass s) = refl
    tops_one (same.same_return h s) = ap (λ q. t.return q nowhere ∷ []) (values h)
    tops_one (same.same_load h k s) = λ i. t.load (names h i) (all_symbols k i) nowhere ∷ []
    tops_one (same.same_expression h s) = ap (λ q. t.expression q nowhere ∷ []) (exprs h)
    tops_one (same.same_assign {x} {y} {p} {q} {a} {b} {o} h k l s) = λ i. t.assign (exprs h i) (annotations k i) o (exprs l i) nowhere ∷ []
    tops_one (same.same_when h k s) = λ i. t.when (exprs h i) (statements k i) nowhere ∷ []
    tops_one (same.same_either h k l s) = λ i. t.either (exprs h i) (statements k i) (statements l i) nowhere ∷ []
    tops_one (same.same_repeat h k l s) = λ i. t.repeat (exprs h i) (exprs k i) (statements l i) nowhere ∷ []
    tops_one (same.same_define h k l m s) = λ i. t.define (names h i) (lists k i) (annotations l i) (statements m i) nowhere ∷ []

    pub tops_all : {xs ys : Sequence} → SameSequence R xs ys → map bare (all_top xs) ≡ map bare (all_top ys)
    tops_all same.same_no_statements = refl
    tops_all (same.same_add_statement {ss} {rs} {s} {r} h k) = map-append bare (all_top ss) (top_level s) ∙ (λ i. tops_all h i ++ tops_one k i) ∙ sym (map-append bare (all_top rs) (top_level r))

-- of statements of which the last may end elsewhere
pub tops_but_last : {R : ℕ → ℕ → Type 0} {ss rs : Sequence} → SameTops R ss rs → map bare (all_top ss) ≡ map bare (all_top rs)
tops_but_last all_same = refl
tops_but_last {R} (but_last {ss} {s} {r} h) = map-append bare (all_top ss) (top_level s) ∙ ap (λ q. map bare (all_top ss) ++ q) (tops_one R h.same) ∙ sym (map-append bare (all_top ss) (top_level r))
