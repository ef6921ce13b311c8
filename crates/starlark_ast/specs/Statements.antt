-- The places right below a statement, and the outermost expressions in it.
use Rattle.std.specs.Prelude.{List, [], ◌∷◌, ◌++◌, flat_map, Option, Some, None}
use Rattle.starlark_place.specs.declared.pos.Spanned.{Spanned}
use Rattle.starlark_ast.specs.Places.{E, maybe_type_place, parameter_places, target_places, type_place}
use Rattle.starlark_ast.specs.declared.ast.AssignP.{AssignP}
use Rattle.starlark_ast.specs.declared.ast.TypeExprP.{TypeExprP}
use Rattle.starlark_ast.specs.declared.ast.DefP.{DefP, DefP-F, out-DefP}
use Rattle.starlark_ast.specs.declared.ast.ForP.{ForP, ForP-F, out-ForP}
use Rattle.starlark_ast.specs.declared.ast.StmtP.{StmtP, StmtP-F, out-StmtP, para-StmtP}
use Rattle.starlark_ast.specs.declared.ast.StmtP.TheOpen as stmt

-- a statement with its place
abbrev pub S : (P L I A D T : Type 0) → Type 0
S P L I A D T = Spanned (StmtP P L I A D T)

abbrev pub maybe_here : {X : Type 0} → Option X → List X
maybe_here None = []
maybe_here (Some x) = x ∷ []

module _ {P L I A D T : Type 0} where
  abbrev pub maybe_type_here : Option (Spanned (TypeExprP P L I A D T)) → List (E P L I A D T)
  maybe_type_here None = []
  maybe_type_here (Some x) = type_place x ∷ []

  -- of an assignment those in its target, that of its type, and the right side
  abbrev pub assign_places : AssignP P L I A D T → List (E P L I A D T)
  assign_places x = target_places x.lhs.node ++ (maybe_type_here x.ty ++ x.rhs ∷ [])

  -- of a `for` those in its target, and what it goes over
  abbrev pub for_places : ForP P L I A D T → List (E P L I A D T)
  for_places x = let s = out-ForP P L I A D T x in target_places s.var.node ++ s.over ∷ []

  -- of a `def` the types and defaults of its parameters, and the type of what it returns
  abbrev pub def_places : DefP P L I A D T → List (E P L I A D T)
  def_places x = let d = out-DefP P L I A D T x in flat_map (λ p. parameter_places p.node) d.params.items ++ maybe_type_place d.return_type

  abbrev pub exprs_layer : StmtP-F P L I A D T (StmtP P L I A D T) (DefP P L I A D T) (ForP P L I A D T) → List (E P L I A D T)
  exprs_layer stmt.Break = []
  exprs_layer stmt.Continue = []
  exprs_layer stmt.Pass = []
  exprs_layer (stmt.Return x) = maybe_here x
  exprs_layer (stmt.Expression x) = x ∷ []
  exprs_layer (stmt.Assign x) = assign_places x
  exprs_layer (stmt.AssignModify lhs op rhs) = target_places lhs.node ++ rhs.value ∷ []
  exprs_layer (stmt.Statements xs) = []
  exprs_layer (stmt.If c s) = c ∷ []
  exprs_layer (stmt.IfElse c s) = c ∷ []
  exprs_layer (stmt.For x) = for_places x
  exprs_layer (stmt.Def x) = def_places x
  exprs_layer (stmt.Load x) = []

  -- the expressions right below a statement, in order
  abbrev pub exprs_below : StmtP P L I A D T → List (E P L I A D T)
  exprs_below x = exprs_layer (out-StmtP P L I A D T x)

  abbrev pub stmts_layer : StmtP-F P L I A D T (StmtP P L I A D T) (DefP P L I A D T) (ForP P L I A D T) → List (S P L I A D T)
  stmts_layer stmt.Break = []
  stmts_layer stmt.Continue = []
  stmts_layer stmt.Pass = []
  stmts_layer (stmt.Return x) = []
  stmts_layer (stmt.Expression x) = []
  stmts_layer (stmt.Assign x) = []
  stmts_layer (stmt.AssignModify lhs op rhs) = []
  stmts_layer (stmt.Statements xs) = xs.items
  stmts_layer (stmt.If c s) = s.value ∷ []
  stmts_layer (stmt.IfElse c s) = s.value.0 ∷ s.value.1 ∷ []
  stmts_layer (stmt.For x) = (out-ForP P L I A D T x).body.value ∷ []
  stmts_layer (stmt.Def x) = (out-DefP P L I A D T x).body.value ∷ []
  stmts_layer (stmt.Load x) = []

  -- the statements right below a statement, in order
  abbrev pub stmts_below : StmtP P L I A D T → List (S P L I A D T)
  stmts_below x = stmts_layer (out-StmtP P L I A D T x)

  -- the expressions below those of a statement's own: those of each statement in it, and then those below these
  abbrev pub deeper : Spanned (StmtP P L I A D T × List (E P L I A D T)) → List (E P L I A D T)
  deeper x = exprs_below x.node.0 ++ x.node.1

  abbrev pub inner_layer : StmtP-F P L I A D T (StmtP P L I A D T × List (E P L I A D T)) (DefP P L I A D T × List (E P L I A D T)) (ForP P L I A D T × List (E P L I A D T)) → List (E P L I A D T)
  inner_layer (stmt.Statements xs) = flat_map deeper xs.items
  inner_layer (stmt.If c s) = deeper s.value
  inner_layer (stmt.IfElse c s) = deeper s.value.0 ++ deeper s.value.1
  inner_layer (stmt.For x) = x.1
  inner_layer (stmt.Def x) = x.1
  inner_layer _ = []

  abbrev pub inner_def : DefP-F P L I A D T (StmtP P L I A D T × List (E P L I A D T)) (DefP P L I A D T × List (E P L I A D T)) (ForP P L I A D T × List (E P L I A D T)) → List (E P L I A D T)
  inner_def x = deeper x.body.value

  abbrev pub inner_for : ForP-F P L I A D T (StmtP P L I A D T × List (E P L I A D T)) (DefP P L I A D T × List (E P L I A D T)) (ForP P L I A D T × List (E P L I A D T)) → List (E P L I A D T)
  inner_for x = deeper x.body.value

  abbrev pub inner_exprs : StmtP P L I A D T → List (E P L I A D T)
  inner_exprs = para-StmtP P L I A D T _ _ _ inner_layer inner_def inner_for

  -- the outermost expressions in a statement, in order
  abbrev pub outer_exprs : StmtP P L I A D T → List (E P L I A D T)
  outer_exprs x = exprs_below x ++ inner_exprs x
