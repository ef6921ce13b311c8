-- What stays of a statement when places in it are written. In each relation the second node is what becomes of the first.
use Rattle.std.specs.Prelude.{◌≡◌, List, ◌∷◌, length, Option, Some, None}
use Rattle.std.specs.Vec.{SameBlock}
use Rattle.std.specs.declared.alloc.Global.{Global}
use Rattle.std.specs.declared.boxed.Box.{Box}
use Rattle.std.specs.declared.vec.Vec.{Vec}
use Rattle.starlark_place.specs.declared.pos.Spanned.{Spanned}
use Rattle.starlark_ast.specs.Places.{E}
use Rattle.starlark_ast.specs.Statements.{S, stmts_below}
use Rattle.starlark_ast.specs.declared.ast.AssignOp.{AssignOp}
use Rattle.starlark_ast.specs.declared.ast.AssignP.{AssignP}
use Rattle.starlark_ast.specs.declared.ast.AssignTargetP.{AssignTargetP}
use Rattle.starlark_ast.specs.declared.ast.DefP.{DefP, out-DefP}
use Rattle.starlark_ast.specs.declared.ast.ForP.{ForP, out-ForP}
use Rattle.starlark_ast.specs.declared.ast.StmtP.{StmtP}
use Rattle.starlark_ast.specs.declared.ast.TypeExprP.{TypeExprP}
use Rattle.starlark_ast.specs.declared.ast.StmtP.TheVariants as stmt
use Rattle.starlark_write.specs.Beside.{AtPlace, Each, KeepsMaybeType, KeepsParameter, KeepsTarget, KeepsType, SameBox, stands}

module _ {P L I A D T : Type 0} where
  pub data KeepsTypeHere : Option (Spanned (TypeExprP P L I A D T)) → Option (Spanned (TypeExprP P L I A D T)) → Type 0 where
    untyped : KeepsTypeHere None None
    typed : (x y : Spanned (TypeExprP P L I A D T)) → AtPlace KeepsType x y → KeepsTypeHere (Some x) (Some y)

  -- of an assignment what its target and its type keep
  pub record KeepsAssign (x y : AssignP P L I A D T) : Type 0 where
    pub lhs : AtPlace KeepsTarget x.lhs y.lhs
    pub ty : KeepsTypeHere x.ty y.ty

  -- of a `for` what its target keeps, and its body
  pub record KeepsFor (x y : ForP P L I A D T) : Type 0 where
    pub var : AtPlace KeepsTarget (out-ForP P L I A D T x).var (out-ForP P L I A D T y).var
    pub body : (out-ForP P L I A D T y).body ≡ (out-ForP P L I A D T x).body

  -- of a `def` its name, what its parameters and the type of what it returns keep, its body and its payload
  pub record KeepsDef (x y : DefP P L I A D T) : Type 0 where
    pub name : (out-DefP P L I A D T y).name ≡ (out-DefP P L I A D T x).name
    pub params_block : SameBlock (out-DefP P L I A D T x).params (out-DefP P L I A D T y).params
    pub params : Each (AtPlace KeepsParameter) (out-DefP P L I A D T x).params.items (out-DefP P L I A D T y).params.items
    pub return_type : KeepsMaybeType (out-DefP P L I A D T x).return_type (out-DefP P L I A D T y).return_type
    pub body : (out-DefP P L I A D T y).body ≡ (out-DefP P L I A D T x).body
    pub payload : (out-DefP P L I A D T y).payload ≡ (out-DefP P L I A D T x).payload

  -- of a statement all but the expressions right below it
  pub data KeepsStmt : StmtP P L I A D T → StmtP P L I A D T → Type 0 where
    same : (x : StmtP P L I A D T) → KeepsStmt x x
    returned : (x y : Option (E P L I A D T)) → stands y ≡ stands x → KeepsStmt (stmt.Return x) (stmt.Return y)
    expression : (x y : E P L I A D T) → KeepsStmt (stmt.Expression x) (stmt.Expression y)
    assign : (x y : AssignP P L I A D T) → KeepsAssign x y → KeepsStmt (stmt.Assign x) (stmt.Assign y)
    assign_modify : (x y : Spanned (AssignTargetP P L I A D T)) (op : AssignOp) (v w : Box (E P L I A D T) Global) → SameBox v w → AtPlace KeepsTarget x y → KeepsStmt (stmt.AssignModify x op v) (stmt.AssignModify y op w)
    condition : (c d : E P L I A D T) (s : Box (S P L I A D T) Global) → KeepsStmt (stmt.If c s) (stmt.If d s)
    choice : (c d : E P L I A D T) (s : Box (S P L I A D T × S P L I A D T) Global) → KeepsStmt (stmt.IfElse c s) (stmt.IfElse d s)
    repeat : (x y : ForP P L I A D T) → KeepsFor x y → KeepsStmt (stmt.For x) (stmt.For y)
    define : (x y : DefP P L I A D T) → KeepsDef x y → KeepsStmt (stmt.Def x) (stmt.Def y)

  abbrev pub for_body : ForP P L I A D T → S P L I A D T
  for_body x = (out-ForP P L I A D T x).body.value

  abbrev pub def_body : DefP P L I A D T → S P L I A D T
  def_body x = (out-DefP P L I A D T x).body.value

  -- of a `for` its target, what it goes over, and where its body lies
  pub record KeepsForHead (x y : ForP P L I A D T) : Type 0 where
    pub var : (out-ForP P L I A D T y).var ≡ (out-ForP P L I A D T x).var
    pub over : (out-ForP P L I A D T y).over ≡ (out-ForP P L I A D T x).over
    pub body_block : SameBox (out-ForP P L I A D T x).body (out-ForP P L I A D T y).body

  -- of a `def` all but its body, and where that lies
  pub record KeepsDefHead (x y : DefP P L I A D T) : Type 0 where
    pub name : (out-DefP P L I A D T y).name ≡ (out-DefP P L I A D T x).name
    pub params : (out-DefP P L I A D T y).params ≡ (out-DefP P L I A D T x).params
    pub return_type : (out-DefP P L I A D T y).return_type ≡ (out-DefP P L I A D T x).return_type
    pub body_block : SameBox (out-DefP P L I A D T x).body (out-DefP P L I A D T y).body
    pub payload : (out-DefP P L I A D T y).payload ≡ (out-DefP P L I A D T x).payload

  -- of a statement all but the statements right below it
  pub data KeepsHead : StmtP P L I A D T → StmtP P L I A D T → Type 0 where
    head_same : (x : StmtP P L I A D T) → KeepsHead x x
    head_statements : (xs ys : Vec (S P L I A D T) Global) → SameBlock xs ys → length ys.items ≡ length xs.items → KeepsHead (stmt.Statements xs) (stmt.Statements ys)
    head_condition : (c : E P L I A D T) (s t : Box (S P L I A D T) Global) → SameBox s t → KeepsHead (stmt.If c s) (stmt.If c t)
    head_choice : (c : E P L I A D T) (s t : Box (S P L I A D T × S P L I A D T) Global) → SameBox s t → KeepsHead (stmt.IfElse c s) (stmt.IfElse c t)
    head_repeat : (x y : ForP P L I A D T) → KeepsForHead x y → KeepsHead (stmt.For x) (stmt.For y)
    head_define : (x y : DefP P L I A D T) → KeepsDefHead x y → KeepsHead (stmt.Def x) (stmt.Def y)

  -- of a statement all but the expressions and the statements right below it
  pub data KeepsNodes : StmtP P L I A D T → StmtP P L I A D T → Type 0 where
    nodes : {x y z : StmtP P L I A D T} → KeepsStmt x y → KeepsHead y z → KeepsNodes x z

  -- of a statement all but the outermost expressions in it: first those right below it are written, and then those in the statements right below
  mutual
    pub data KeepsOuter : StmtP P L I A D T → StmtP P L I A D T → Type 0 where
      outer : {x y z : StmtP P L I A D T} → KeepsStmt x y → KeepsHead y z → KeepsOuters (stmts_below y) (stmts_below z) → KeepsOuter x z

    pub data KeepsOuters : List (S P L I A D T) → List (S P L I A D T) → Type 0 where
      outers_rest : (xs : List (S P L I A D T)) → KeepsOuters xs xs
      outers_more : {x y : S P L I A D T} {xs ys : List (S P L I A D T)} → y.span ≡ x.span → KeepsOuter x.node y.node → KeepsOuters xs ys → KeepsOuters (x ∷ xs) (y ∷ ys)
