-- What stays of a tree when the types in it are written: all else, and where its lists and boxes lie in memory. In each relation the second is what becomes of the first; `rest` and `same` stand where nothing is written, as behind an error.
use Rattle.std.specs.Prelude.{◌≡◌, List, ◌∷◌, Option, Some, None}
use Rattle.std.specs.Vec.{SameBlock}
use Rattle.std.specs.declared.alloc.Global.{Global}
use Rattle.std.specs.declared.boxed.Box.{Box}
use Rattle.std.specs.declared.string.String.{String}
use Rattle.std.specs.declared.vec.Vec.{Vec}
use Rattle.starlark_place.specs.Place.{Extent}
use Rattle.starlark_place.specs.declared.pos.Spanned.{Spanned}
use Rattle.starlark_ast.specs.Access.{argument_expr}
use Rattle.starlark_ast.specs.Places.{E}
use Rattle.starlark_ast.specs.declared.ast.AssignIdentP.{AssignIdentP}
use Rattle.starlark_ast.specs.declared.ast.AssignOp.{AssignOp}
use Rattle.starlark_ast.specs.declared.ast.AssignP.{AssignP}
use Rattle.starlark_ast.specs.declared.ast.BinOp.{BinOp}
use Rattle.starlark_ast.specs.declared.ast.ArgumentP.{ArgumentP}
use Rattle.starlark_ast.specs.declared.ast.AssignTargetP.{AssignTargetP}
use Rattle.starlark_ast.specs.declared.ast.ClauseP.{ClauseP}
use Rattle.starlark_ast.specs.declared.ast.ParameterP.{ParameterP}
use Rattle.starlark_ast.specs.declared.ast.CallArgsP.{CallArgsP, out-CallArgsP}
use Rattle.starlark_ast.specs.declared.ast.FStringP.{FStringP, out-FStringP}
use Rattle.starlark_ast.specs.declared.ast.ForClauseP.{ForClauseP, out-ForClauseP}
use Rattle.starlark_ast.specs.declared.ast.LambdaP.{LambdaP, out-LambdaP}
use Rattle.starlark_ast.specs.declared.ast.DefP.{DefP, out-DefP}
use Rattle.starlark_ast.specs.declared.ast.ForP.{ForP, out-ForP}
use Rattle.starlark_ast.specs.declared.ast.StmtP.{StmtP}
use Rattle.starlark_ast.specs.declared.ast.AssignTargetP.TheVariants as target
use Rattle.starlark_ast.specs.declared.ast.ClauseP.TheVariants as clause
use Rattle.starlark_ast.specs.declared.ast.ExprP.TheVariants as expr
use Rattle.starlark_ast.specs.declared.ast.ParameterP.TheVariants as parameter
use Rattle.starlark_ast.specs.declared.ast.StmtP.TheVariants as stmt
use Rattle.starlark_write.specs.Beside.{AtPlace, Each, KeepsArgument, SameBox, block_of, stands}
use Rattle.starlark_write.specs.TypePlaces.{Y}

module _ {P L I A D T : Type 0} where
  -- of a parameter all but its own type, and whether it has one, and where
  pub data KeepsOwn : ParameterP P L I A D T → ParameterP P L I A D T → Type 0 where
    slash : KeepsOwn parameter.Slash parameter.Slash
    normal : (name : Spanned (AssignIdentP P L I A D T)) (a b : Option (Box (Y P L I A D T) Global)) (default : Option (Box (E P L I A D T) Global)) → block_of b ≡ block_of a → KeepsOwn (parameter.Normal name a default) (parameter.Normal name b default)
    no_args : KeepsOwn parameter.NoArgs parameter.NoArgs
    args_own : (name : Spanned (AssignIdentP P L I A D T)) (a b : Option (Box (Y P L I A D T) Global)) → block_of b ≡ block_of a → KeepsOwn (parameter.Args name a) (parameter.Args name b)
    kwargs_own : (name : Spanned (AssignIdentP P L I A D T)) (a b : Option (Box (Y P L I A D T) Global)) → block_of b ≡ block_of a → KeepsOwn (parameter.KwArgs name a) (parameter.KwArgs name b)

  mutual
    -- of an expression all but the types in it
    pub data KeepsTypes : E P L I A D T → E P L I A D T → Type 0 where
      same : (x : E P L I A D T) → KeepsTypes x x
      tuple : (s : Extent) (xs ys : Vec (E P L I A D T) Global) → SameBlock xs ys → KeepsAll xs.items ys.items → KeepsTypes (record { span = s; node = expr.Tuple xs }) (record { span = s; node = expr.Tuple ys })
      dot : (s : Extent) (x y : Box (E P L I A D T) Global) (name : Spanned (String Global)) → SameBox x y → KeepsTypes x.value y.value → KeepsTypes (record { span = s; node = expr.Dot x name }) (record { span = s; node = expr.Dot y name })
      call : (s : Extent) (x y : Box (E P L I A D T) Global) (a b : CallArgsP P L I A D T) → SameBox x y → SameBlock (out-CallArgsP P L I A D T a).args (out-CallArgsP P L I A D T b).args → KeepsTypes x.value y.value → KeepsArguments (out-CallArgsP P L I A D T a).args.items (out-CallArgsP P L I A D T b).args.items → KeepsTypes (record { span = s; node = expr.Call x a }) (record { span = s; node = expr.Call y b })
      index : (s : Extent) (x y : Box (E P L I A D T × E P L I A D T) Global) → SameBox x y → KeepsTypes x.value.0 y.value.0 → KeepsTypes x.value.1 y.value.1 → KeepsTypes (record { span = s; node = expr.Index x }) (record { span = s; node = expr.Index y })
      index2 : (s : Extent) (x y : Box (E P L I A D T × E P L I A D T × E P L I A D T) Global) → SameBox x y → KeepsTypes x.value.0 y.value.0 → KeepsTypes x.value.1 y.value.1 → KeepsTypes x.value.2 y.value.2 → KeepsTypes (record { span = s; node = expr.Index2 x }) (record { span = s; node = expr.Index2 y })
      slice : (s : Extent) (x y : Box (E P L I A D T) Global) (a b c d e f : Option (Box (E P L I A D T) Global)) → SameBox x y → KeepsTypes x.value y.value → KeepsMaybe a d → KeepsMaybe b e → KeepsMaybe c f → KeepsTypes (record { span = s; node = expr.Slice x a b c }) (record { span = s; node = expr.Slice y d e f })
      lambda : (s : Extent) (x y : LambdaP P L I A D T) → KeepsLambda x y → KeepsTypes (record { span = s; node = expr.Lambda x }) (record { span = s; node = expr.Lambda y })
      not : (s : Extent) (x y : Box (E P L I A D T) Global) → SameBox x y → KeepsTypes x.value y.value → KeepsTypes (record { span = s; node = expr.Not x }) (record { span = s; node = expr.Not y })
      minus : (s : Extent) (x y : Box (E P L I A D T) Global) → SameBox x y → KeepsTypes x.value y.value → KeepsTypes (record { span = s; node = expr.Minus x }) (record { span = s; node = expr.Minus y })
      plus : (s : Extent) (x y : Box (E P L I A D T) Global) → SameBox x y → KeepsTypes x.value y.value → KeepsTypes (record { span = s; node = expr.Plus x }) (record { span = s; node = expr.Plus y })
      bit_not : (s : Extent) (x y : Box (E P L I A D T) Global) → SameBox x y → KeepsTypes x.value y.value → KeepsTypes (record { span = s; node = expr.BitNot x }) (record { span = s; node = expr.BitNot y })
      op : (s : Extent) (x y : Box (E P L I A D T) Global) (o : BinOp) (v w : Box (E P L I A D T) Global) → SameBox x y → SameBox v w → KeepsTypes x.value y.value → KeepsTypes v.value w.value → KeepsTypes (record { span = s; node = expr.Op x o v }) (record { span = s; node = expr.Op y o w })
      choice : (s : Extent) (x y : Box (E P L I A D T × E P L I A D T × E P L I A D T) Global) → SameBox x y → KeepsTypes x.value.0 y.value.0 → KeepsTypes x.value.1 y.value.1 → KeepsTypes x.value.2 y.value.2 → KeepsTypes (record { span = s; node = expr.If x }) (record { span = s; node = expr.If y })
      list : (s : Extent) (xs ys : Vec (E P L I A D T) Global) → SameBlock xs ys → KeepsAll xs.items ys.items → KeepsTypes (record { span = s; node = expr.List xs }) (record { span = s; node = expr.List ys })
      dict : (s : Extent) (xs ys : Vec (E P L I A D T × E P L I A D T) Global) → SameBlock xs ys → KeepsPairs xs.items ys.items → KeepsTypes (record { span = s; node = expr.Dict xs }) (record { span = s; node = expr.Dict ys })
      list_comprehension : (s : Extent) (x y : Box (E P L I A D T) Global) (a b : Box (ForClauseP P L I A D T) Global) (cs ds : Vec (ClauseP P L I A D T) Global) → SameBox x y → SameBox a b → SameBlock cs ds → KeepsFor a.value b.value → KeepsClauses cs.items ds.items → KeepsTypes x.value y.value → KeepsTypes (record { span = s; node = expr.ListComprehension x a cs }) (record { span = s; node = expr.ListComprehension y b ds })
      dict_comprehension : (s : Extent) (x y : Box (E P L I A D T × E P L I A D T) Global) (a b : Box (ForClauseP P L I A D T) Global) (cs ds : Vec (ClauseP P L I A D T) Global) → SameBox x y → SameBox a b → SameBlock cs ds → KeepsFor a.value b.value → KeepsClauses cs.items ds.items → KeepsTypes x.value.0 y.value.0 → KeepsTypes x.value.1 y.value.1 → KeepsTypes (record { span = s; node = expr.DictComprehension x a cs }) (record { span = s; node = expr.DictComprehension y b ds })
      fstring : (s : Extent) (x y : Spanned (FStringP P L I A D T)) → y.span ≡ x.span → (out-FStringP P L I A D T y.node).format ≡ (out-FStringP P L I A D T x.node).format → SameBlock (out-FStringP P L I A D T x.node).expressions (out-FStringP P L I A D T y.node).expressions → KeepsAll (out-FStringP P L I A D T x.node).expressions.items (out-FStringP P L I A D T y.node).expressions.items → KeepsTypes (record { span = s; node = expr.FString x }) (record { span = s; node = expr.FString y })

    pub data KeepsAll : List (E P L I A D T) → List (E P L I A D T) → Type 0 where
      all_rest : (xs : List (E P L I A D T)) → KeepsAll xs xs
      all_more : {x y : E P L I A D T} {xs ys : List (E P L I A D T)} → KeepsTypes x y → KeepsAll xs ys → KeepsAll (x ∷ xs) (y ∷ ys)

    pub data KeepsPairs : List (E P L I A D T × E P L I A D T) → List (E P L I A D T × E P L I A D T) → Type 0 where
      pairs_rest : (xs : List (E P L I A D T × E P L I A D T)) → KeepsPairs xs xs
      pairs_more : {x y : E P L I A D T × E P L I A D T} {xs ys : List (E P L I A D T × E P L I A D T)} → KeepsTypes x.0 y.0 → KeepsTypes x.1 y.1 → KeepsPairs xs ys → KeepsPairs (x ∷ xs) (y ∷ ys)

    -- an expression, or none
    pub data KeepsMaybe : Option (Box (E P L I A D T) Global) → Option (Box (E P L I A D T) Global) → Type 0 where
      absent : KeepsMaybe None None
      present : (x y : Box (E P L I A D T) Global) → SameBox x y → KeepsTypes x.value y.value → KeepsMaybe (Some x) (Some y)

    pub data KeepsArguments : List (Spanned (ArgumentP P L I A D T)) → List (Spanned (ArgumentP P L I A D T)) → Type 0 where
      arguments_rest : (xs : List (Spanned (ArgumentP P L I A D T))) → KeepsArguments xs xs
      arguments_more : {x y : Spanned (ArgumentP P L I A D T)} {xs ys : List (Spanned (ArgumentP P L I A D T))} → AtPlace KeepsArgument x y → KeepsTypes (argument_expr x.node) (argument_expr y.node) → KeepsArguments xs ys → KeepsArguments (x ∷ xs) (y ∷ ys)

    pub data KeepsTargetTypes : Spanned (AssignTargetP P L I A D T) → Spanned (AssignTargetP P L I A D T) → Type 0 where
      same_target : (x : Spanned (AssignTargetP P L I A D T)) → KeepsTargetTypes x x
      target_tuple : (s : Extent) (xs ys : Vec (Spanned (AssignTargetP P L I A D T)) Global) → SameBlock xs ys → KeepsTargetsTypes xs.items ys.items → KeepsTargetTypes (record { span = s; node = target.Tuple xs }) (record { span = s; node = target.Tuple ys })
      target_index : (s : Extent) (x y : Box (E P L I A D T × E P L I A D T) Global) → SameBox x y → KeepsTypes x.value.0 y.value.0 → KeepsTypes x.value.1 y.value.1 → KeepsTargetTypes (record { span = s; node = target.Index x }) (record { span = s; node = target.Index y })
      target_dot : (s : Extent) (x y : Box (E P L I A D T) Global) (name : Spanned (String Global)) → SameBox x y → KeepsTypes x.value y.value → KeepsTargetTypes (record { span = s; node = target.Dot x name }) (record { span = s; node = target.Dot y name })

    pub data KeepsTargetsTypes : List (Spanned (AssignTargetP P L I A D T)) → List (Spanned (AssignTargetP P L I A D T)) → Type 0 where
      targets_rest : (xs : List (Spanned (AssignTargetP P L I A D T))) → KeepsTargetsTypes xs xs
      targets_more : {x y : Spanned (AssignTargetP P L I A D T)} {xs ys : List (Spanned (AssignTargetP P L I A D T))} → KeepsTargetTypes x y → KeepsTargetsTypes xs ys → KeepsTargetsTypes (x ∷ xs) (y ∷ ys)

    pub data KeepsFor : ForClauseP P L I A D T → ForClauseP P L I A D T → Type 0 where
      for_parts : (x y : ForClauseP P L I A D T) → KeepsTargetTypes (out-ForClauseP P L I A D T x).var (out-ForClauseP P L I A D T y).var → KeepsTypes (out-ForClauseP P L I A D T x).over (out-ForClauseP P L I A D T y).over → KeepsFor x y

    pub data KeepsClauseTypes : ClauseP P L I A D T → ClauseP P L I A D T → Type 0 where
      for_clause : (x y : ForClauseP P L I A D T) → KeepsFor x y → KeepsClauseTypes (clause.For x) (clause.For y)
      if_clause : (x y : E P L I A D T) → KeepsTypes x y → KeepsClauseTypes (clause.If x) (clause.If y)

    pub data KeepsClauses : List (ClauseP P L I A D T) → List (ClauseP P L I A D T) → Type 0 where
      clauses_rest : (xs : List (ClauseP P L I A D T)) → KeepsClauses xs xs
      clauses_more : {x y : ClauseP P L I A D T} {xs ys : List (ClauseP P L I A D T)} → KeepsClauseTypes x y → KeepsClauses xs ys → KeepsClauses (x ∷ xs) (y ∷ ys)

    -- of a parameter all but the types in its default
    pub data KeepsDefault : Spanned (ParameterP P L I A D T) → Spanned (ParameterP P L I A D T) → Type 0 where
      same_parameter : (x : Spanned (ParameterP P L I A D T)) → KeepsDefault x x
      default : (s : Extent) (name : Spanned (AssignIdentP P L I A D T)) (t : Option (Box (Y P L I A D T) Global)) (a b : Option (Box (E P L I A D T) Global)) → KeepsMaybe a b → KeepsDefault (record { span = s; node = parameter.Normal name t a }) (record { span = s; node = parameter.Normal name t b })

    pub data KeepsDefaults : List (Spanned (ParameterP P L I A D T)) → List (Spanned (ParameterP P L I A D T)) → Type 0 where
      defaults_rest : (xs : List (Spanned (ParameterP P L I A D T))) → KeepsDefaults xs xs
      defaults_more : {x y : Spanned (ParameterP P L I A D T)} {xs ys : List (Spanned (ParameterP P L I A D T))} → KeepsDefault x y → KeepsDefaults xs ys → KeepsDefaults (x ∷ xs) (y ∷ ys)

    -- of a lambda; in the middle stand its parameters with their own types written
    pub data KeepsLambda : LambdaP P L I A D T → LambdaP P L I A D T → Type 0 where
      lambda_parts : (x y : LambdaP P L I A D T) (middle : List (Spanned (ParameterP P L I A D T))) → SameBlock (out-LambdaP P L I A D T x).params (out-LambdaP P L I A D T y).params → Each (AtPlace KeepsOwn) (out-LambdaP P L I A D T x).params.items middle → KeepsDefaults middle (out-LambdaP P L I A D T y).params.items → SameBox (out-LambdaP P L I A D T x).body (out-LambdaP P L I A D T y).body → KeepsTypes (out-LambdaP P L I A D T x).body.value (out-LambdaP P L I A D T y).body.value → (out-LambdaP P L I A D T y).payload ≡ (out-LambdaP P L I A D T x).payload → KeepsLambda x y

  pub data KeepsReturned : Option (E P L I A D T) → Option (E P L I A D T) → Type 0 where
    returns_nothing : KeepsReturned None None
    returns_value : (x y : E P L I A D T) → KeepsTypes x y → KeepsReturned (Some x) (Some y)

  -- of an assignment also whether it has a type
  pub record KeepsAssign (x y : AssignP P L I A D T) : Type 0 where
    pub ty : stands y.ty ≡ stands x.ty
    pub lhs : KeepsTargetTypes x.lhs y.lhs
    pub rhs : KeepsTypes x.rhs y.rhs

  mutual
    -- of a statement all but the types in it
    pub data KeepsStmtTypes : StmtP P L I A D T → StmtP P L I A D T → Type 0 where
      same_stmt : (x : StmtP P L I A D T) → KeepsStmtTypes x x
      return_stmt : (x y : Option (E P L I A D T)) → KeepsReturned x y → KeepsStmtTypes (stmt.Return x) (stmt.Return y)
      expression_stmt : (x y : E P L I A D T) → KeepsTypes x y → KeepsStmtTypes (stmt.Expression x) (stmt.Expression y)
      assign_stmt : (x y : AssignP P L I A D T) → KeepsAssign x y → KeepsStmtTypes (stmt.Assign x) (stmt.Assign y)
      modify_stmt : (x y : Spanned (AssignTargetP P L I A D T)) (o : AssignOp) (v w : Box (E P L I A D T) Global) → SameBox v w → KeepsTargetTypes x y → KeepsTypes v.value w.value → KeepsStmtTypes (stmt.AssignModify x o v) (stmt.AssignModify y o w)
      list_stmt : (xs ys : Vec (Spanned (StmtP P L I A D T)) Global) → SameBlock xs ys → KeepsStmtsTypes xs.items ys.items → KeepsStmtTypes (stmt.Statements xs) (stmt.Statements ys)
      if_stmt : (c d : E P L I A D T) (x y : Box (Spanned (StmtP P L I A D T)) Global) → SameBox x y → KeepsTypes c d → y.value.span ≡ x.value.span → KeepsStmtTypes x.value.node y.value.node → KeepsStmtTypes (stmt.If c x) (stmt.If d y)
      if_else_stmt : (c d : E P L I A D T) (x y : Box (Spanned (StmtP P L I A D T) × Spanned (StmtP P L I A D T)) Global) → SameBox x y → KeepsTypes c d → y.value.0.span ≡ x.value.0.span → KeepsStmtTypes x.value.0.node y.value.0.node → y.value.1.span ≡ x.value.1.span → KeepsStmtTypes x.value.1.node y.value.1.node → KeepsStmtTypes (stmt.IfElse c x) (stmt.IfElse d y)
      for_stmt : (x y : ForP P L I A D T) → KeepsForStmt x y → KeepsStmtTypes (stmt.For x) (stmt.For y)
      def_stmt : (x y : DefP P L I A D T) → KeepsDef x y → KeepsStmtTypes (stmt.Def x) (stmt.Def y)

    pub data KeepsStmtsTypes : List (Spanned (StmtP P L I A D T)) → List (Spanned (StmtP P L I A D T)) → Type 0 where
      stmts_rest : (xs : List (Spanned (StmtP P L I A D T))) → KeepsStmtsTypes xs xs
      stmts_more : {x y : Spanned (StmtP P L I A D T)} {xs ys : List (Spanned (StmtP P L I A D T))} → y.span ≡ x.span → KeepsStmtTypes x.node y.node → KeepsStmtsTypes xs ys → KeepsStmtsTypes (x ∷ xs) (y ∷ ys)

    pub data KeepsForStmt : ForP P L I A D T → ForP P L I A D T → Type 0 where
      for_stmt_parts : (x y : ForP P L I A D T) → KeepsTargetTypes (out-ForP P L I A D T x).var (out-ForP P L I A D T y).var → KeepsTypes (out-ForP P L I A D T x).over (out-ForP P L I A D T y).over → SameBox (out-ForP P L I A D T x).body (out-ForP P L I A D T y).body → (out-ForP P L I A D T y).body.value.span ≡ (out-ForP P L I A D T x).body.value.span → KeepsStmtTypes (out-ForP P L I A D T x).body.value.node (out-ForP P L I A D T y).body.value.node → KeepsForStmt x y

    -- of a `def` also whether what it returns has a type, and where; in the middle stand its parameters with their own types written
    pub data KeepsDef : DefP P L I A D T → DefP P L I A D T → Type 0 where
      def_parts : (x y : DefP P L I A D T) (middle : List (Spanned (ParameterP P L I A D T))) → (out-DefP P L I A D T y).name ≡ (out-DefP P L I A D T x).name → SameBlock (out-DefP P L I A D T x).params (out-DefP P L I A D T y).params → Each (AtPlace KeepsOwn) (out-DefP P L I A D T x).params.items middle → KeepsDefaults middle (out-DefP P L I A D T y).params.items → block_of (out-DefP P L I A D T y).return_type ≡ block_of (out-DefP P L I A D T x).return_type → SameBox (out-DefP P L I A D T x).body (out-DefP P L I A D T y).body → (out-DefP P L I A D T y).body.value.span ≡ (out-DefP P L I A D T x).body.value.span → KeepsStmtTypes (out-DefP P L I A D T x).body.value.node (out-DefP P L I A D T y).body.value.node → (out-DefP P L I A D T y).payload ≡ (out-DefP P L I A D T x).payload → KeepsDef x y
