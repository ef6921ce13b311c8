-- Trees that are the same but for their places. Of two places the relation R says how they stand to one another.
use Rattle.std.specs.Prelude.{ℕ, List, Option, Some, None}
use Rattle.starlark_place.specs.Place.{Extent}
use Rattle.starlark_ast.specs.declared.ast.AssignOp.{AssignOp}
use Rattle.starlark_ast.specs.declared.ast.BinOp.{BinOp}
use Rattle.starlark_ast.specs.Tree as t
use Rattle.starlark_ast.specs.Tree.{Leaf, Sign, Stars, Expr, Member, Members, Bound, Annotation, Subscript, Clause, Clauses, Name, Symbol, Symbols, Statement, Sequence}

-- both ends
pub record SameSpan (R : ℕ → ℕ → Type 0) (s u : Extent) : Type 0 where
  pub begins : R s.begin u.begin
  pub ends : R s.end u.end

mutual
  pub data SameExpr (R : ℕ → ℕ → Type 0) : Expr → Expr → Type 0 where
    same_leaf : {l : Leaf} {u s v r : Extent} → SameSpan R u v → SameSpan R s r → SameExpr R (t.leaf l u s) (t.leaf l v r)
    same_tuple : {ms ns : Members} {s r : Extent} → SameMembers R ms ns → SameSpan R s r → SameExpr R (t.tuple ms s) (t.tuple ns r)
    same_list : {ms ns : Members} {s r : Extent} → SameMembers R ms ns → SameSpan R s r → SameExpr R (t.list ms s) (t.list ns r)
    same_dict : {ms ns : Members} {s r : Extent} → SameMembers R ms ns → SameSpan R s r → SameExpr R (t.dict ms s) (t.dict ns r)
    same_comprehension : {m n : Member} {cs ds : Clauses} {s r : Extent} → SameMember R m n → SameClauses R cs ds → SameSpan R s r → SameExpr R (t.comprehension m cs s) (t.comprehension n ds r)
    same_dot : {x y : Expr} {n : List ℕ} {u s v r : Extent} → SameExpr R x y → SameSpan R u v → SameSpan R s r → SameExpr R (t.dot x n u s) (t.dot y n v r)
    same_index : {x y : Expr} {b c : Subscript} {s r : Extent} → SameExpr R x y → SameSubscript R b c → SameSpan R s r → SameExpr R (t.index x b s) (t.index y c r)
    same_call : {x y : Expr} {ms ns : Members} {s r : Extent} → SameExpr R x y → SameMembers R ms ns → SameSpan R s r → SameExpr R (t.call x ms s) (t.call y ns r)
    same_lambda : {ms ns : Members} {x y : Expr} {s r : Extent} → SameMembers R ms ns → SameExpr R x y → SameSpan R s r → SameExpr R (t.lambda ms x s) (t.lambda ns y r)
    same_signed : {o : Sign} {x y : Expr} {s r : Extent} → SameExpr R x y → SameSpan R s r → SameExpr R (t.signed o x s) (t.signed o y r)
    same_operation : {x y p q : Expr} {o : BinOp} {s r : Extent} → SameExpr R x y → SameExpr R p q → SameSpan R s r → SameExpr R (t.operation x o p s) (t.operation y o q r)
    same_choice : {a b x y p q : Expr} {s r : Extent} → SameExpr R a b → SameExpr R x y → SameExpr R p q → SameSpan R s r → SameExpr R (t.choice a x p s) (t.choice b y q r)
    same_fstring : {f : List ℕ} {ms ns : Members} {u v w z s r : Extent} → SameSpan R u w → SameMembers R ms ns → SameSpan R v z → SameSpan R s r → SameExpr R (t.fstring f u ms v s) (t.fstring f w ns z r)

  pub data SameMember (R : ℕ → ℕ → Type 0) : Member → Member → Type 0 where
    same_item : {x y : Expr} → SameExpr R x y → SameMember R (t.item x) (t.item y)
    same_pair : {x y p q : Expr} → SameExpr R x y → SameExpr R p q → SameMember R (t.pair x p) (t.pair y q)
    same_positional : {x y : Expr} {s r : Extent} → SameExpr R x y → SameSpan R s r → SameMember R (t.positional x s) (t.positional y r)
    same_named : {n : List ℕ} {x y : Expr} {u v s r : Extent} → SameSpan R u v → SameExpr R x y → SameSpan R s r → SameMember R (t.named n u x s) (t.named n v y r)
    same_args : {x y : Expr} {s r : Extent} → SameExpr R x y → SameSpan R s r → SameMember R (t.args x s) (t.args y r)
    same_kwargs : {x y : Expr} {s r : Extent} → SameExpr R x y → SameSpan R s r → SameMember R (t.kwargs x s) (t.kwargs y r)
    same_slash : {s r : Extent} → SameSpan R s r → SameMember R (t.slash s) (t.slash r)
    same_no_args : {s r : Extent} → SameSpan R s r → SameMember R (t.no_args s) (t.no_args r)
    same_parameter : {k : Stars} {n : List ℕ} {a c : Annotation} {b d : Bound} {u v s r : Extent} → SameSpan R u v → SameAnnotation R a c → SameBound R b d → SameSpan R s r → SameMember R (t.parameter k n u a b s) (t.parameter k n v c d r)

  pub data SameMembers (R : ℕ → ℕ → Type 0) : Members → Members → Type 0 where
    same_none : SameMembers R t.none t.none
    same_more : {ms ns : Members} {m n : Member} → SameMembers R ms ns → SameMember R m n → SameMembers R (t.more ms m) (t.more ns n)

  pub data SameBound (R : ℕ → ℕ → Type 0) : Bound → Bound → Type 0 where
    same_absent : SameBound R t.absent t.absent
    same_present : {x y : Expr} → SameExpr R x y → SameBound R (t.present x) (t.present y)

  pub data SameAnnotation (R : ℕ → ℕ → Type 0) : Annotation → Annotation → Type 0 where
    same_untyped : SameAnnotation R t.untyped t.untyped
    same_typed : {x y : Expr} {s r : Extent} → SameExpr R x y → SameSpan R s r → SameAnnotation R (t.typed x s) (t.typed y r)

  pub data SameSubscript (R : ℕ → ℕ → Type 0) : Subscript → Subscript → Type 0 where
    same_single : {x y : Expr} → SameExpr R x y → SameSubscript R (t.single x) (t.single y)
    same_double : {x y p q : Expr} → SameExpr R x y → SameExpr R p q → SameSubscript R (t.double x p) (t.double y q)
    same_slice : {a b c d e f : Bound} → SameBound R a b → SameBound R c d → SameBound R e f → SameSubscript R (t.slice a c e) (t.slice b d f)

  pub data SameClause (R : ℕ → ℕ → Type 0) : Clause → Clause → Type 0 where
    same_for_clause : {x y p q : Expr} → SameExpr R x y → SameExpr R p q → SameClause R (t.for_clause x p) (t.for_clause y q)
    same_if_clause : {x y : Expr} → SameExpr R x y → SameClause R (t.if_clause x) (t.if_clause y)

  pub data SameClauses (R : ℕ → ℕ → Type 0) : Clauses → Clauses → Type 0 where
    same_no_clauses : SameClauses R t.no_clauses t.no_clauses
    same_and_clause : {cs ds : Clauses} {c d : Clause} → SameClauses R cs ds → SameClause R c d → SameClauses R (t.and_clause cs c) (t.and_clause ds d)

pub data SameName (R : ℕ → ℕ → Type 0) : Name → Name → Type 0 where
  same_name : {n : List ℕ} {s r : Extent} → SameSpan R s r → SameName R (t.name_at n s) (t.name_at n r)

pub data SameSymbol (R : ℕ → ℕ → Type 0) : Symbol → Symbol → Type 0 where
  same_symbol : {a b c d : Name} → SameName R a b → SameName R c d → SameSymbol R (t.symbol a c) (t.symbol b d)

-- the place of a comma, if there is one
pub data SameComma (R : ℕ → ℕ → Type 0) : Option Extent → Option Extent → Type 0 where
  no_comma : SameComma R None None
  same_comma : {s r : Extent} → SameSpan R s r → SameComma R (Some s) (Some r)

pub data SameSymbols (R : ℕ → ℕ → Type 0) : Symbols → Symbols → Type 0 where
  same_no_symbols : SameSymbols R t.no_symbols t.no_symbols
  same_add_symbol : {ss rs : Symbols} {s r : Symbol} {o p : Option Extent} → SameSymbols R ss rs → SameSymbol R s r → SameComma R o p → SameSymbols R (t.add_symbol ss s o) (t.add_symbol rs r p)

-- an expression, if there is one
pub data SameValue (R : ℕ → ℕ → Type 0) : Option Expr → Option Expr → Type 0 where
  no_value : SameValue R None None
  same_value : {x y : Expr} → SameExpr R x y → SameValue R (Some x) (Some y)

mutual
  pub data SameStatement (R : ℕ → ℕ → Type 0) : Statement → Statement → Type 0 where
    same_break : {s r : Extent} → SameSpan R s r → SameStatement R (t.break s) (t.break r)
    same_continue : {s r : Extent} → SameSpan R s r → SameStatement R (t.continue s) (t.continue r)
    same_pass : {s r : Extent} → SameSpan R s r → SameStatement R (t.pass s) (t.pass r)
    same_return : {x y : Option Expr} {s r : Extent} → SameValue R x y → SameSpan R s r → SameStatement R (t.return x s) (t.return y r)
    same_load : {m n : Name} {ss rs : Symbols} {s r : Extent} → SameName R m n → SameSymbols R ss rs → SameSpan R s r → SameStatement R (t.load m ss s) (t.load n rs r)
    same_expression : {x y : Expr} {s r : Extent} → SameExpr R x y → SameSpan R s r → SameStatement R (t.expression x s) (t.expression y r)
    same_assign : {x y p q : Expr} {a b : Annotation} {o : Option AssignOp} {s r : Extent} → SameExpr R x y → SameAnnotation R a b → SameExpr R p q → SameSpan R s r → SameStatement R (t.assign x a o p s) (t.assign y b o q r)
    same_when : {x y : Expr} {a b : Statement} {s r : Extent} → SameExpr R x y → SameStatement R a b → SameSpan R s r → SameStatement R (t.when x a s) (t.when y b r)
    same_either : {x y : Expr} {a b c d : Statement} {s r : Extent} → SameExpr R x y → SameStatement R a b → SameStatement R c d → SameSpan R s r → SameStatement R (t.either x a c s) (t.either y b d r)
    same_repeat : {x y p q : Expr} {a b : Statement} {s r : Extent} → SameExpr R x y → SameExpr R p q → SameStatement R a b → SameSpan R s r → SameStatement R (t.repeat x p a s) (t.repeat y q b r)
    same_define : {n m : Name} {ps qs : Members} {a b : Annotation} {c d : Statement} {s r : Extent} → SameName R n m → SameMembers R ps qs → SameAnnotation R a b → SameStatement R c d → SameSpan R s r → SameStatement R (t.define n ps a c s) (t.define m qs b d r)
    same_block : {ss rs : Sequence} {s r : Extent} → SameSequence R ss rs → SameSpan R s r → SameStatement R (t.block ss s) (t.block rs r)

  pub data SameSequence (R : ℕ → ℕ → Type 0) : Sequence → Sequence → Type 0 where
    same_no_statements : SameSequence R t.no_statements t.no_statements
    same_add_statement : {ss rs : Sequence} {s r : Statement} → SameSequence R ss rs → SameStatement R s r → SameSequence R (t.add_statement ss s) (t.add_statement rs r)
