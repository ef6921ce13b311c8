-- The payloads of a tree, in the order in which a map comes to them, and what a map does with them: docs/LANGUAGE.md, Payloads.
use Rattle.std.specs.Prelude.{◌≡◌, ℕ, List, [], ◌∷◌, ◌++◌, flat_map, Option, Some, None, string_bytes}
use Rattle.std.specs.declared.alloc.Global.{Global}
use Rattle.std.specs.declared.boxed.Box.{Box}
use Rattle.starlark_place.specs.declared.pos.Spanned.{Spanned}
use Rattle.starlark_ast.specs.declared.ast.IdentP.{IdentP}
use Rattle.starlark_ast.specs.declared.ast.AssignIdentP.{AssignIdentP}
use Rattle.starlark_ast.specs.declared.ast.AssignP.{AssignP}
use Rattle.starlark_ast.specs.declared.ast.LoadArgP.{LoadArgP}
use Rattle.starlark_ast.specs.declared.ast.LoadP.{LoadP}
use Rattle.starlark_ast.specs.declared.ast.ArgumentP.{ArgumentP, ArgumentP-F, fold-ArgumentP}
use Rattle.starlark_ast.specs.declared.ast.AssignTargetP.{AssignTargetP, AssignTargetP-F, fold-AssignTargetP}
use Rattle.starlark_ast.specs.declared.ast.ClauseP.{ClauseP, ClauseP-F, fold-ClauseP}
use Rattle.starlark_ast.specs.declared.ast.ExprP.{ExprP, ExprP-F, fold-ExprP}
use Rattle.starlark_ast.specs.declared.ast.ParameterP.{ParameterP, ParameterP-F, fold-ParameterP}
use Rattle.starlark_ast.specs.declared.ast.CallArgsP.{CallArgsP-F}
use Rattle.starlark_ast.specs.declared.ast.FStringP.{FStringP, FStringP-F, fold-FStringP}
use Rattle.starlark_ast.specs.declared.ast.ForClauseP.{ForClauseP, ForClauseP-F, fold-ForClauseP}
use Rattle.starlark_ast.specs.declared.ast.LambdaP.{LambdaP-F}
use Rattle.starlark_ast.specs.declared.ast.TypeExprP.{TypeExprP, TypeExprP-F, fold-TypeExprP}
use Rattle.starlark_ast.specs.declared.ast.ArgumentP.TheOpen as layer
use Rattle.starlark_ast.specs.declared.ast.StmtP.{StmtP, StmtP-F, fold-StmtP}
use Rattle.starlark_ast.specs.declared.ast.DefP.{DefP, DefP-F, fold-DefP}
use Rattle.starlark_ast.specs.declared.ast.ForP.{ForP, ForP-F, fold-ForP}
use Rattle.starlark_ast.specs.declared.ast.StmtP.TheOpen as stmt

-- A payload with what its function is given: of a load also the path of its module.
pub data Payload (L I A D T : Type 0) : Type 0 where
  OfLoad : List ℕ → L → Payload L I A D T
  OfIdent : I → Payload L I A D T
  OfAssigned : A → Payload L I A D T
  OfDef : D → Payload L I A D T
  OfType : T → Payload L I A D T

-- those of what is in a box, if there is one
abbrev pub maybe_boxed : {X Y : Type 0} → (X → List Y) → Option (Box (Spanned X) Global) → List Y
maybe_boxed h None = []
maybe_boxed h (Some x) = h x.value.node

-- those of a node, if there is one
abbrev pub maybe_of : {X Y : Type 0} → (X → List Y) → Option (Spanned X) → List Y
maybe_of h None = []
maybe_of h (Some x) = h x.node

-- those of each
abbrev pub all_of : {X Y : Type 0} → (X → List Y) → List (Spanned X) → List Y
all_of h xs = flat_map (λ x. h x.node) xs

-- those of two and of three
abbrev pub both_of : {X Y : Type 0} → (X → List Y) → Spanned X × Spanned X → List Y
both_of h x = h x.0.node ++ h x.1.node

abbrev pub three_of : {X Y : Type 0} → (X → List Y) → Spanned X × Spanned X × Spanned X → List Y
three_of h x = h x.0.node ++ (h x.1.node ++ h x.2.node)

-- what was found below
abbrev pub found : {Y : Type 0} → List Y → List Y
found ys = ys

module _ {P L I A D T : Type 0} where
  abbrev pub ident_payloads : IdentP P L I A D T → List (Payload L I A D T)
  ident_payloads x = OfIdent x.payload ∷ []

  abbrev pub assigned_payloads : AssignIdentP P L I A D T → List (Payload L I A D T)
  assigned_payloads x = OfAssigned x.payload ∷ []

  -- one layer, from left to right: a comprehension's element before its clauses, a lambda's and a type's own payload last

  abbrev pub argument_step : ArgumentP-F P L I A D T (List (Payload L I A D T)) (List (Payload L I A D T)) (List (Payload L I A D T)) (List (Payload L I A D T)) (List (Payload L I A D T)) (List (Payload L I A D T)) (List (Payload L I A D T)) (List (Payload L I A D T)) (List (Payload L I A D T)) (List (Payload L I A D T)) → List (Payload L I A D T)
  argument_step (layer.Positional x) = x.node
  argument_step (layer.Named name x) = x.node
  argument_step (layer.ArgumentP::Args x) = x.node
  argument_step (layer.ArgumentP::KwArgs x) = x.node

  abbrev pub target_step : AssignTargetP-F P L I A D T (List (Payload L I A D T)) (List (Payload L I A D T)) (List (Payload L I A D T)) (List (Payload L I A D T)) (List (Payload L I A D T)) (List (Payload L I A D T)) (List (Payload L I A D T)) (List (Payload L I A D T)) (List (Payload L I A D T)) (List (Payload L I A D T)) → List (Payload L I A D T)
  target_step (layer.AssignTargetP::Tuple xs) = all_of found xs.items
  target_step (layer.AssignTargetP::Index x) = both_of found x.value
  target_step (layer.AssignTargetP::Dot x name) = x.value.node
  target_step (layer.AssignTargetP::Identifier x) = assigned_payloads x.node

  abbrev pub clause_step : ClauseP-F P L I A D T (List (Payload L I A D T)) (List (Payload L I A D T)) (List (Payload L I A D T)) (List (Payload L I A D T)) (List (Payload L I A D T)) (List (Payload L I A D T)) (List (Payload L I A D T)) (List (Payload L I A D T)) (List (Payload L I A D T)) (List (Payload L I A D T)) → List (Payload L I A D T)
  clause_step (layer.For x) = x
  clause_step (layer.ClauseP::If x) = x.node

  abbrev pub expr_step : ExprP-F P L I A D T (List (Payload L I A D T)) (List (Payload L I A D T)) (List (Payload L I A D T)) (List (Payload L I A D T)) (List (Payload L I A D T)) (List (Payload L I A D T)) (List (Payload L I A D T)) (List (Payload L I A D T)) (List (Payload L I A D T)) (List (Payload L I A D T)) → List (Payload L I A D T)
  expr_step (layer.ExprP::Tuple xs) = all_of found xs.items
  expr_step (layer.ExprP::Dot x name) = x.value.node
  expr_step (layer.Call x args) = x.value.node ++ args
  expr_step (layer.ExprP::Index x) = both_of found x.value
  expr_step (layer.Index2 x) = three_of found x.value
  expr_step (layer.Slice x a b c) = x.value.node ++ (maybe_boxed found a ++ (maybe_boxed found b ++ maybe_boxed found c))
  expr_step (layer.ExprP::Identifier x) = ident_payloads x.node
  expr_step (layer.Lambda x) = x
  expr_step (layer.Literal x) = []
  expr_step (layer.Not x) = x.value.node
  expr_step (layer.Minus x) = x.value.node
  expr_step (layer.Plus x) = x.value.node
  expr_step (layer.BitNot x) = x.value.node
  expr_step (layer.Op x op y) = x.value.node ++ y.value.node
  expr_step (layer.ExprP::If x) = three_of found x.value
  expr_step (layer.List xs) = all_of found xs.items
  expr_step (layer.Dict xs) = flat_map (both_of found) xs.items
  expr_step (layer.ListComprehension x first rest) = x.value.node ++ (first.value ++ flat_map found rest.items)
  expr_step (layer.DictComprehension x first rest) = both_of found x.value ++ (first.value ++ flat_map found rest.items)
  expr_step (layer.FString x) = x.node

  abbrev pub parameter_step : ParameterP-F P L I A D T (List (Payload L I A D T)) (List (Payload L I A D T)) (List (Payload L I A D T)) (List (Payload L I A D T)) (List (Payload L I A D T)) (List (Payload L I A D T)) (List (Payload L I A D T)) (List (Payload L I A D T)) (List (Payload L I A D T)) (List (Payload L I A D T)) → List (Payload L I A D T)
  parameter_step layer.Slash = []
  parameter_step (layer.Normal x type default) = assigned_payloads x.node ++ (maybe_boxed found type ++ maybe_boxed found default)
  parameter_step layer.NoArgs = []
  parameter_step (layer.ParameterP::Args x type) = assigned_payloads x.node ++ maybe_boxed found type
  parameter_step (layer.ParameterP::KwArgs x type) = assigned_payloads x.node ++ maybe_boxed found type

  abbrev pub call_args_step : CallArgsP-F P L I A D T (List (Payload L I A D T)) (List (Payload L I A D T)) (List (Payload L I A D T)) (List (Payload L I A D T)) (List (Payload L I A D T)) (List (Payload L I A D T)) (List (Payload L I A D T)) (List (Payload L I A D T)) (List (Payload L I A D T)) (List (Payload L I A D T)) → List (Payload L I A D T)
  call_args_step x = all_of found x.args.items

  abbrev pub fstring_step : FStringP-F P L I A D T (List (Payload L I A D T)) (List (Payload L I A D T)) (List (Payload L I A D T)) (List (Payload L I A D T)) (List (Payload L I A D T)) (List (Payload L I A D T)) (List (Payload L I A D T)) (List (Payload L I A D T)) (List (Payload L I A D T)) (List (Payload L I A D T)) → List (Payload L I A D T)
  fstring_step x = all_of found x.expressions.items

  abbrev pub for_clause_step : ForClauseP-F P L I A D T (List (Payload L I A D T)) (List (Payload L I A D T)) (List (Payload L I A D T)) (List (Payload L I A D T)) (List (Payload L I A D T)) (List (Payload L I A D T)) (List (Payload L I A D T)) (List (Payload L I A D T)) (List (Payload L I A D T)) (List (Payload L I A D T)) → List (Payload L I A D T)
  for_clause_step x = x.var.node ++ x.over.node

  abbrev pub lambda_step : LambdaP-F P L I A D T (List (Payload L I A D T)) (List (Payload L I A D T)) (List (Payload L I A D T)) (List (Payload L I A D T)) (List (Payload L I A D T)) (List (Payload L I A D T)) (List (Payload L I A D T)) (List (Payload L I A D T)) (List (Payload L I A D T)) (List (Payload L I A D T)) → List (Payload L I A D T)
  lambda_step x = all_of found x.params.items ++ (x.body.value.node ++ OfDef x.payload ∷ [])

  abbrev pub type_step : TypeExprP-F P L I A D T (List (Payload L I A D T)) (List (Payload L I A D T)) (List (Payload L I A D T)) (List (Payload L I A D T)) (List (Payload L I A D T)) (List (Payload L I A D T)) (List (Payload L I A D T)) (List (Payload L I A D T)) (List (Payload L I A D T)) (List (Payload L I A D T)) → List (Payload L I A D T)
  type_step x = x.expr.node ++ OfType x.payload ∷ []

  abbrev pub argument_payloads : ArgumentP P L I A D T → List (Payload L I A D T)
  argument_payloads = fold-ArgumentP P L I A D T _ _ _ _ _ _ _ _ _ _ argument_step target_step clause_step expr_step parameter_step call_args_step fstring_step for_clause_step lambda_step type_step

  abbrev pub target_payloads : AssignTargetP P L I A D T → List (Payload L I A D T)
  target_payloads = fold-AssignTargetP P L I A D T _ _ _ _ _ _ _ _ _ _ argument_step target_step clause_step expr_step parameter_step call_args_step fstring_step for_clause_step lambda_step type_step

  abbrev pub clause_payloads : ClauseP P L I A D T → List (Payload L I A D T)
  clause_payloads = fold-ClauseP P L I A D T _ _ _ _ _ _ _ _ _ _ argument_step target_step clause_step expr_step parameter_step call_args_step fstring_step for_clause_step lambda_step type_step

  abbrev pub expr_payloads : ExprP P L I A D T → List (Payload L I A D T)
  expr_payloads = fold-ExprP P L I A D T _ _ _ _ _ _ _ _ _ _ argument_step target_step clause_step expr_step parameter_step call_args_step fstring_step for_clause_step lambda_step type_step

  abbrev pub parameter_payloads : ParameterP P L I A D T → List (Payload L I A D T)
  parameter_payloads = fold-ParameterP P L I A D T _ _ _ _ _ _ _ _ _ _ argument_step target_step clause_step expr_step parameter_step call_args_step fstring_step for_clause_step lambda_step type_step

  abbrev pub fstring_payloads : FStringP P L I A D T → List (Payload L I A D T)
  fstring_payloads = fold-FStringP P L I A D T _ _ _ _ _ _ _ _ _ _ argument_step target_step clause_step expr_step parameter_step call_args_step fstring_step for_clause_step lambda_step type_step

  abbrev pub for_clause_payloads : ForClauseP P L I A D T → List (Payload L I A D T)
  for_clause_payloads = fold-ForClauseP P L I A D T _ _ _ _ _ _ _ _ _ _ argument_step target_step clause_step expr_step parameter_step call_args_step fstring_step for_clause_step lambda_step type_step

  abbrev pub type_payloads : TypeExprP P L I A D T → List (Payload L I A D T)
  type_payloads = fold-TypeExprP P L I A D T _ _ _ _ _ _ _ _ _ _ argument_step target_step clause_step expr_step parameter_step call_args_step fstring_step for_clause_step lambda_step type_step

  -- of an assignment: the target, the type, the right side
  abbrev pub maybe_type_payloads : Option (Spanned (TypeExprP P L I A D T)) → List (Payload L I A D T)
  maybe_type_payloads None = []
  maybe_type_payloads (Some x) = type_payloads x.node

  abbrev pub assign_payloads : AssignP P L I A D T → List (Payload L I A D T)
  assign_payloads x = target_payloads x.lhs.node ++ (maybe_type_payloads x.ty ++ expr_payloads x.rhs.node)

  abbrev pub load_arg_payloads : LoadArgP P L I A D T → List (Payload L I A D T)
  load_arg_payloads x = assigned_payloads x.local.node

  -- a load's own stands before those of what it binds
  abbrev pub load_payloads : LoadP P L I A D T → List (Payload L I A D T)
  load_payloads x = OfLoad (string_bytes x.module.node) x.payload ∷ flat_map load_arg_payloads x.args.items

  abbrev pub maybe_expr_payloads : Option (Spanned (ExprP P L I A D T)) → List (Payload L I A D T)
  maybe_expr_payloads None = []
  maybe_expr_payloads (Some x) = expr_payloads x.node

  abbrev pub stmt_step : StmtP-F P L I A D T (List (Payload L I A D T)) (List (Payload L I A D T)) (List (Payload L I A D T)) → List (Payload L I A D T)
  stmt_step stmt.Break = []
  stmt_step stmt.Continue = []
  stmt_step stmt.Pass = []
  stmt_step (stmt.Return x) = maybe_expr_payloads x
  stmt_step (stmt.Expression x) = expr_payloads x.node
  stmt_step (stmt.Assign x) = assign_payloads x
  stmt_step (stmt.AssignModify lhs op rhs) = target_payloads lhs.node ++ expr_payloads rhs.value.node
  stmt_step (stmt.Statements xs) = all_of found xs.items
  stmt_step (stmt.If c x) = expr_payloads c.node ++ x.value.node
  stmt_step (stmt.IfElse c x) = expr_payloads c.node ++ both_of found x.value
  stmt_step (stmt.For x) = x
  stmt_step (stmt.Def x) = x
  stmt_step (stmt.Load x) = load_payloads x

  -- a `def`'s own stands behind its body
  abbrev pub def_step : DefP-F P L I A D T (List (Payload L I A D T)) (List (Payload L I A D T)) (List (Payload L I A D T)) → List (Payload L I A D T)
  def_step x = assigned_payloads x.name.node ++ (all_of parameter_payloads x.params.items ++ (maybe_boxed type_payloads x.return_type ++ (x.body.value.node ++ OfDef x.payload ∷ [])))

  abbrev pub for_step : ForP-F P L I A D T (List (Payload L I A D T)) (List (Payload L I A D T)) (List (Payload L I A D T)) → List (Payload L I A D T)
  for_step x = target_payloads x.var.node ++ (expr_payloads x.over.node ++ x.body.value.node)

  abbrev pub stmt_payloads : StmtP P L I A D T → List (Payload L I A D T)
  stmt_payloads = fold-StmtP P L I A D T _ _ _ stmt_step def_step for_step

  abbrev pub def_payloads : DefP P L I A D T → List (Payload L I A D T)
  def_payloads = fold-DefP P L I A D T _ _ _ stmt_step def_step for_step

  abbrev pub for_payloads : ForP P L I A D T → List (Payload L I A D T)
  for_payloads = fold-ForP P L I A D T _ _ _ stmt_step def_step for_step

module _ {S L I A D T L' I' A' D' T' : Type 0} (load : S → List ℕ → L → L' → S → Type 0) (ident : S → I → I' → S → Type 0) (assigned : S → A → A' → S → Type 0) (def : S → D → D' → S → Type 0) (type : S → T → T' → S → Type 0) where
  -- what a payload function does to one payload: from one state to the next
  abbrev pub gives : S → Payload L I A D T → Payload L' I' A' D' T' → S → Type 0
  gives s (OfLoad p l) (OfLoad q m) t = (q ≡ p) × load s p l m t
  gives s (OfIdent i) (OfIdent j) t = ident s i j t
  gives s (OfAssigned a) (OfAssigned b) t = assigned s a b t
  gives s (OfDef d) (OfDef e) t = def s d e t
  gives s (OfType x) (OfType y) t = type s x y t
  gives s _ _ t = ⊥

module _ {S X Y : Type 0} (R : S → X → Y → S → Type 0) where
  -- called at each of these, in order, it answers ys, and is left as t
  abbrev pub Answered : S → List X → S → List Y → Type 0
  Answered s [] t ys = (s ≡ t) × (ys ≡ [])
  Answered s (x ∷ xs) t [] = ⊥
  Answered s (x ∷ xs) t (y ∷ ys) = (u : S) × R s x y u × Answered u xs t ys

  pub record Answers (s : S) (xs : List X) (t : S) (ys : List Y) : Type 0 where
    pub told : Answered s xs t ys

  -- called at the first of these alone, in order, it is left as t
  pub record Begins (s : S) (xs : List X) (t : S) : Type 0 where
    pub front : List X
    pub back : List X
    pub whole : xs ≡ front ++ back
    pub answers : List Y
    pub told : Answers s front t answers
