-- What stays of a node when the places that a visitor lends are written: its variant, each name, operator, payload and span in it, and where its lists and boxes lie in memory. In each relation the second node is what becomes of the first.
use Rattle.std.specs.Prelude.{◌≡◌, Bool, true, false, List, [], ◌∷◌, ◌++◌, map, flat_map, length, Option, Some, None}
use denote.RawPtr.{Ptr}
use Rattle.std.specs.Vec.{SameBlock}
use Rattle.std.specs.declared.alloc.Global.{Global}
use Rattle.std.specs.declared.boxed.Box.{Box}
use Rattle.std.specs.declared.string.String.{String}
use Rattle.std.specs.declared.vec.Vec.{Vec}
use Rattle.starlark_place.specs.declared.pos.Spanned.{Spanned}
use Rattle.starlark_ast.specs.Places.{E, argument_place, parameter_places}
use Rattle.starlark_ast.specs.declared.ast.AssignIdentP.{AssignIdentP}
use Rattle.starlark_ast.specs.declared.ast.BinOp.{BinOp}
use Rattle.starlark_ast.specs.declared.ast.ArgumentP.{ArgumentP}
use Rattle.starlark_ast.specs.declared.ast.AssignTargetP.{AssignTargetP}
use Rattle.starlark_ast.specs.declared.ast.ClauseP.{ClauseP}
use Rattle.starlark_ast.specs.declared.ast.ExprP.{ExprP}
use Rattle.starlark_ast.specs.declared.ast.ParameterP.{ParameterP}
use Rattle.starlark_ast.specs.declared.ast.CallArgsP.{CallArgsP, out-CallArgsP}
use Rattle.starlark_ast.specs.declared.ast.FStringP.{FStringP, out-FStringP}
use Rattle.starlark_ast.specs.declared.ast.ForClauseP.{ForClauseP, out-ForClauseP}
use Rattle.starlark_ast.specs.declared.ast.LambdaP.{LambdaP, out-LambdaP}
use Rattle.starlark_ast.specs.declared.ast.TypeExprP.{TypeExprP, out-TypeExprP}
use Rattle.starlark_ast.specs.declared.ast.ArgumentP.TheVariants as argument
use Rattle.starlark_ast.specs.declared.ast.AssignTargetP.TheVariants as target
use Rattle.starlark_ast.specs.declared.ast.ClauseP.TheVariants as clause
use Rattle.starlark_ast.specs.declared.ast.ExprP.TheVariants as expr
use Rattle.starlark_ast.specs.declared.ast.ParameterP.TheVariants as parameter

-- an identifier that is assigned, with its place
abbrev pub Assigned : (P L I A D T : Type 0) → Type 0
Assigned P L I A D T = Spanned (AssignIdentP P L I A D T)

-- what holds of the items of two lists, one by one; behind some place the lists may be the same
pub data Each {X : Type 0} (R : X → X → Type 0) : List X → List X → Type 0 where
  rest : (xs : List X) → Each R xs xs
  more : {x y : X} {xs ys : List X} → R x y → Each R xs ys → Each R (x ∷ xs) (y ∷ ys)

-- what holds of two values at one place
pub record AtPlace {X : Type 0} (R : X → X → Type 0) (x y : Spanned X) : Type 0 where
  pub span : y.span ≡ x.span
  pub node : R x.node y.node

-- a box stays where it is in memory; of a vector `SameBlock` says so
abbrev pub SameBox : {X : Type 0} → Box X Global → Box X Global → Type 0
SameBox old new = new.ptr ≡ old.ptr

-- where a box is, if there is one
abbrev pub block_of : {X : Type 0} → Option (Box X Global) → Option Ptr
block_of None = None
block_of (Some x) = Some x.ptr

-- whether there is one
abbrev pub stands : {X : Type 0} → Option X → Bool
stands None = false
stands (Some x) = true

module _ {P L I A D T : Type 0} where
  -- the expressions of the arguments of a call
  abbrev pub args_places : CallArgsP P L I A D T → List (E P L I A D T)
  args_places x = map argument_place (out-CallArgsP P L I A D T x).args.items

  -- of a lambda those of its parameters, and its body
  abbrev pub lambda_places : LambdaP P L I A D T → List (E P L I A D T)
  lambda_places x = let l = out-LambdaP P L I A D T x in flat_map (λ p. parameter_places p.node) l.params.items ++ l.body.value ∷ []

  abbrev pub fstring_places : Spanned (FStringP P L I A D T) → List (E P L I A D T)
  fstring_places x = (out-FStringP P L I A D T x.node).expressions.items

  -- of a type its payload
  pub record KeepsType (x y : TypeExprP P L I A D T) : Type 0 where
    pub payload : (out-TypeExprP P L I A D T y).payload ≡ (out-TypeExprP P L I A D T x).payload

  pub data KeepsMaybeType : Option (Box (Spanned (TypeExprP P L I A D T)) Global) → Option (Box (Spanned (TypeExprP P L I A D T)) Global) → Type 0 where
    untyped : KeepsMaybeType None None
    typed : (x y : Box (Spanned (TypeExprP P L I A D T)) Global) → SameBox x y → AtPlace KeepsType x.value y.value → KeepsMaybeType (Some x) (Some y)

  -- of an argument its kind and its name
  pub data KeepsArgument : ArgumentP P L I A D T → ArgumentP P L I A D T → Type 0 where
    positional : (x y : E P L I A D T) → KeepsArgument (argument.Positional x) (argument.Positional y)
    named : (name : Spanned (String Global)) (x y : E P L I A D T) → KeepsArgument (argument.Named name x) (argument.Named name y)
    args : (x y : E P L I A D T) → KeepsArgument (argument.Args x) (argument.Args y)
    kwargs : (x y : E P L I A D T) → KeepsArgument (argument.KwArgs x) (argument.KwArgs y)

  pub record KeepsArgs (x y : CallArgsP P L I A D T) : Type 0 where
    pub block : SameBlock (out-CallArgsP P L I A D T x).args (out-CallArgsP P L I A D T y).args
    pub args : Each (AtPlace KeepsArgument) (out-CallArgsP P L I A D T x).args.items (out-CallArgsP P L I A D T y).args.items

  -- of a parameter its kind, its name, what its type keeps, and whether it has a default, and where
  pub data KeepsParameter : ParameterP P L I A D T → ParameterP P L I A D T → Type 0 where
    slash : KeepsParameter parameter.Slash parameter.Slash
    normal : (name : Spanned (AssignIdentP P L I A D T)) (a b : Option (Box (Spanned (TypeExprP P L I A D T)) Global)) (x y : Option (Box (E P L I A D T) Global)) → KeepsMaybeType a b → block_of y ≡ block_of x → KeepsParameter (parameter.Normal name a x) (parameter.Normal name b y)
    no_args : KeepsParameter parameter.NoArgs parameter.NoArgs
    args_parameter : (name : Spanned (AssignIdentP P L I A D T)) (a b : Option (Box (Spanned (TypeExprP P L I A D T)) Global)) → KeepsMaybeType a b → KeepsParameter (parameter.Args name a) (parameter.Args name b)
    kwargs_parameter : (name : Spanned (AssignIdentP P L I A D T)) (a b : Option (Box (Spanned (TypeExprP P L I A D T)) Global)) → KeepsMaybeType a b → KeepsParameter (parameter.KwArgs name a) (parameter.KwArgs name b)

  -- of a target all but the expressions in its Dot and Index members
  mutual
    pub data KeepsTarget : AssignTargetP P L I A D T → AssignTargetP P L I A D T → Type 0 where
      target_tuple : (xs ys : Vec (Spanned (AssignTargetP P L I A D T)) Global) → SameBlock xs ys → KeepsTargets xs.items ys.items → KeepsTarget (target.Tuple xs) (target.Tuple ys)
      target_index : (x y : Box (E P L I A D T × E P L I A D T) Global) → SameBox x y → KeepsTarget (target.Index x) (target.Index y)
      target_dot : (x y : Box (E P L I A D T) Global) (name : Spanned (String Global)) → SameBox x y → KeepsTarget (target.Dot x name) (target.Dot y name)
      target_identifier : (x : Spanned (AssignIdentP P L I A D T)) → KeepsTarget (target.Identifier x) (target.Identifier x)

    pub data KeepsTargets : List (Spanned (AssignTargetP P L I A D T)) → List (Spanned (AssignTargetP P L I A D T)) → Type 0 where
      targets_rest : (xs : List (Spanned (AssignTargetP P L I A D T))) → KeepsTargets xs xs
      targets_more : {x y : Spanned (AssignTargetP P L I A D T)} {xs ys : List (Spanned (AssignTargetP P L I A D T))} → y.span ≡ x.span → KeepsTarget x.node y.node → KeepsTargets xs ys → KeepsTargets (x ∷ xs) (y ∷ ys)

  -- of a target all but the identifiers that it assigns
  mutual
    pub data KeepsPlaces : AssignTargetP P L I A D T → AssignTargetP P L I A D T → Type 0 where
      places_tuple : (xs ys : Vec (Spanned (AssignTargetP P L I A D T)) Global) → SameBlock xs ys → KeepsAllPlaces xs.items ys.items → KeepsPlaces (target.Tuple xs) (target.Tuple ys)
      places_index : (x : Box (E P L I A D T × E P L I A D T) Global) → KeepsPlaces (target.Index x) (target.Index x)
      places_dot : (x : Box (E P L I A D T) Global) (name : Spanned (String Global)) → KeepsPlaces (target.Dot x name) (target.Dot x name)
      places_identifier : (x y : Spanned (AssignIdentP P L I A D T)) → KeepsPlaces (target.Identifier x) (target.Identifier y)

    pub data KeepsAllPlaces : List (Spanned (AssignTargetP P L I A D T)) → List (Spanned (AssignTargetP P L I A D T)) → Type 0 where
      all_places_rest : (xs : List (Spanned (AssignTargetP P L I A D T))) → KeepsAllPlaces xs xs
      all_places_more : {x y : Spanned (AssignTargetP P L I A D T)} {xs ys : List (Spanned (AssignTargetP P L I A D T))} → y.span ≡ x.span → KeepsPlaces x.node y.node → KeepsAllPlaces xs ys → KeepsAllPlaces (x ∷ xs) (y ∷ ys)

  -- of a clause that goes over values the span of its target, and what the target keeps
  pub record KeepsForClause (x y : ForClauseP P L I A D T) : Type 0 where
    pub var : AtPlace KeepsTarget (out-ForClauseP P L I A D T x).var (out-ForClauseP P L I A D T y).var

  pub data KeepsClause : ClauseP P L I A D T → ClauseP P L I A D T → Type 0 where
    for_clause : (x y : ForClauseP P L I A D T) → KeepsForClause x y → KeepsClause (clause.For x) (clause.For y)
    if_clause : (x y : E P L I A D T) → KeepsClause (clause.If x) (clause.If y)

  -- of a lambda its payload, and what its parameters keep
  pub record KeepsLambda (x y : LambdaP P L I A D T) : Type 0 where
    pub params_block : SameBlock (out-LambdaP P L I A D T x).params (out-LambdaP P L I A D T y).params
    pub params : Each (AtPlace KeepsParameter) (out-LambdaP P L I A D T x).params.items (out-LambdaP P L I A D T y).params.items
    pub body_block : SameBox (out-LambdaP P L I A D T x).body (out-LambdaP P L I A D T y).body
    pub payload : (out-LambdaP P L I A D T y).payload ≡ (out-LambdaP P L I A D T x).payload

  -- of an f-string its format, and the number of its expressions
  pub record KeepsFString (x y : FStringP P L I A D T) : Type 0 where
    pub format : (out-FStringP P L I A D T y).format ≡ (out-FStringP P L I A D T x).format
    pub block : SameBlock (out-FStringP P L I A D T x).expressions (out-FStringP P L I A D T y).expressions
    pub expressions : length (out-FStringP P L I A D T y).expressions.items ≡ length (out-FStringP P L I A D T x).expressions.items

  -- of an expression all but the expressions right below it
  pub data KeepsExpr : ExprP P L I A D T → ExprP P L I A D T → Type 0 where
    same : (x : ExprP P L I A D T) → KeepsExpr x x
    tuple : (xs ys : Vec (E P L I A D T) Global) → SameBlock xs ys → length ys.items ≡ length xs.items → KeepsExpr (expr.Tuple xs) (expr.Tuple ys)
    dot : (x y : Box (E P L I A D T) Global) (name : Spanned (String Global)) → SameBox x y → KeepsExpr (expr.Dot x name) (expr.Dot y name)
    call : (x y : Box (E P L I A D T) Global) (a b : CallArgsP P L I A D T) → SameBox x y → KeepsArgs a b → KeepsExpr (expr.Call x a) (expr.Call y b)
    index : (x y : Box (E P L I A D T × E P L I A D T) Global) → SameBox x y → KeepsExpr (expr.Index x) (expr.Index y)
    index2 : (x y : Box (E P L I A D T × E P L I A D T × E P L I A D T) Global) → SameBox x y → KeepsExpr (expr.Index2 x) (expr.Index2 y)
    slice : (x y : Box (E P L I A D T) Global) (a b c d e f : Option (Box (E P L I A D T) Global)) → SameBox x y → block_of d ≡ block_of a → block_of e ≡ block_of b → block_of f ≡ block_of c → KeepsExpr (expr.Slice x a b c) (expr.Slice y d e f)
    lambda : (x y : LambdaP P L I A D T) → KeepsLambda x y → KeepsExpr (expr.Lambda x) (expr.Lambda y)
    not : (x y : Box (E P L I A D T) Global) → SameBox x y → KeepsExpr (expr.Not x) (expr.Not y)
    minus : (x y : Box (E P L I A D T) Global) → SameBox x y → KeepsExpr (expr.Minus x) (expr.Minus y)
    plus : (x y : Box (E P L I A D T) Global) → SameBox x y → KeepsExpr (expr.Plus x) (expr.Plus y)
    bit_not : (x y : Box (E P L I A D T) Global) → SameBox x y → KeepsExpr (expr.BitNot x) (expr.BitNot y)
    op : (x y : Box (E P L I A D T) Global) (o : BinOp) (v w : Box (E P L I A D T) Global) → SameBox x y → SameBox v w → KeepsExpr (expr.Op x o v) (expr.Op y o w)
    choice : (x y : Box (E P L I A D T × E P L I A D T × E P L I A D T) Global) → SameBox x y → KeepsExpr (expr.If x) (expr.If y)
    list : (xs ys : Vec (E P L I A D T) Global) → SameBlock xs ys → length ys.items ≡ length xs.items → KeepsExpr (expr.List xs) (expr.List ys)
    dict : (xs ys : Vec (E P L I A D T × E P L I A D T) Global) → SameBlock xs ys → length ys.items ≡ length xs.items → KeepsExpr (expr.Dict xs) (expr.Dict ys)
    list_comprehension : (x y : Box (E P L I A D T) Global) (a b : Box (ForClauseP P L I A D T) Global) (cs ds : Vec (ClauseP P L I A D T) Global) → SameBox x y → SameBox a b → SameBlock cs ds → KeepsForClause a.value b.value → Each KeepsClause cs.items ds.items → KeepsExpr (expr.ListComprehension x a cs) (expr.ListComprehension y b ds)
    dict_comprehension : (x y : Box (E P L I A D T × E P L I A D T) Global) (a b : Box (ForClauseP P L I A D T) Global) (cs ds : Vec (ClauseP P L I A D T) Global) → SameBox x y → SameBox a b → SameBlock cs ds → KeepsForClause a.value b.value → Each KeepsClause cs.items ds.items → KeepsExpr (expr.DictComprehension x a cs) (expr.DictComprehension y b ds)
    fstring : (x y : Spanned (FStringP P L I A D T)) → AtPlace KeepsFString x y → KeepsExpr (expr.FString x) (expr.FString y)
