-- What stands behind a `&mut` once a part that it lent has been written: the same with that part replaced.
use Rattle.std.specs.Prelude.{Option, Some, None}
use Rattle.std.specs.Borrow.{Lends, LendsIf, MutBor, Fml, RattleType}
use Rattle.std.specs.declared.alloc.Global.{Global}
use Rattle.std.specs.declared.boxed.Box.{Box}
use Rattle.std.specs.contracts.alloc.Global as global
use Rattle.std.specs.contracts.boxed.Box as box
use Rattle.std.specs.contracts.option.Option as option
use Rattle.std.specs.contracts.impls.GlobalAllocator.TheImpl.{ghosts}
use Rattle.starlark_place.specs.declared.pos.Spanned.{Spanned}
use Rattle.starlark_place.specs.contracts.pos.Spanned as spanned
use Rattle.starlark_ast.specs.declared.ast.AssignIdentP.{AssignIdentP}
use Rattle.starlark_ast.specs.declared.ast.ArgumentP.{ArgumentP, ArgumentP-F, out-ArgumentP}
use Rattle.starlark_ast.specs.declared.ast.AssignTargetP.{AssignTargetP}
use Rattle.starlark_ast.specs.declared.ast.ClauseP.{ClauseP}
use Rattle.starlark_ast.specs.declared.ast.ExprP.{ExprP}
use Rattle.starlark_ast.specs.declared.ast.ParameterP.{ParameterP, ParameterP-F, out-ParameterP}
use Rattle.starlark_ast.specs.declared.ast.CallArgsP.{CallArgsP}
use Rattle.starlark_ast.specs.declared.ast.FStringP.{FStringP}
use Rattle.starlark_ast.specs.declared.ast.ForClauseP.{ForClauseP}
use Rattle.starlark_ast.specs.declared.ast.LambdaP.{LambdaP}
use Rattle.starlark_ast.specs.declared.ast.TypeExprP.{TypeExprP}
use Rattle.starlark_ast.specs.declared.ast.ArgumentP.TheOpen as layer
use Rattle.starlark_ast.specs.declared.ast.ArgumentP.TheVariants as argument
use Rattle.starlark_ast.specs.declared.ast.ParameterP.TheVariants as parameter
use Rattle.starlark_ast.specs.contracts.ast.ArgumentP as arguments
use Rattle.starlark_ast.specs.contracts.ast.AssignIdentP as idents
use Rattle.starlark_ast.specs.contracts.ast.ExprP as exprs
use Rattle.starlark_ast.specs.contracts.ast.ParameterP as parameters
use Rattle.starlark_ast.specs.contracts.ast.TypeExprP as types

-- the box with another value in it, where there is one
abbrev pub with_held : {X : Type 0} → Option (Box X Global) → X → Option (Box X Global)
with_held None y = None
with_held (Some x) y = Some (record { ptr = x.ptr; alloc = x.alloc; value = y })

abbrev pub LendsHeld : (X : RattleType) → MutBor (Option (Box X.Denot Global)) → Option (MutBor X.Denot) → Fml
LendsHeld X s r = LendsIf (option.the_row (box.the_row X global.the_row ghosts)) X s r (with_held s.now) s.now

module _ {P L I A D T : Type 0} where
  abbrev pub with_expr_layer : ArgumentP-F P L I A D T (ArgumentP P L I A D T) (AssignTargetP P L I A D T) (ClauseP P L I A D T) (ExprP P L I A D T) (ParameterP P L I A D T) (CallArgsP P L I A D T) (FStringP P L I A D T) (ForClauseP P L I A D T) (LambdaP P L I A D T) (TypeExprP P L I A D T) → Spanned (ExprP P L I A D T) → ArgumentP P L I A D T
  with_expr_layer (layer.Positional x) y = argument.Positional y
  with_expr_layer (layer.Named name x) y = argument.Named name y
  with_expr_layer (layer.ArgumentP::Args x) y = argument.Args y
  with_expr_layer (layer.ArgumentP::KwArgs x) y = argument.KwArgs y

  -- an argument with another expression
  abbrev pub with_expr : ArgumentP P L I A D T → Spanned (ExprP P L I A D T) → ArgumentP P L I A D T
  with_expr x y = with_expr_layer (out-ArgumentP P L I A D T x) y

  abbrev pub with_ident_layer : ParameterP-F P L I A D T (ArgumentP P L I A D T) (AssignTargetP P L I A D T) (ClauseP P L I A D T) (ExprP P L I A D T) (ParameterP P L I A D T) (CallArgsP P L I A D T) (FStringP P L I A D T) (ForClauseP P L I A D T) (LambdaP P L I A D T) (TypeExprP P L I A D T) → Spanned (AssignIdentP P L I A D T) → ParameterP P L I A D T
  with_ident_layer layer.Slash y = parameter.Slash
  with_ident_layer (layer.Normal x type default) y = parameter.Normal y type default
  with_ident_layer layer.NoArgs y = parameter.NoArgs
  with_ident_layer (layer.ParameterP::Args x type) y = parameter.Args y type
  with_ident_layer (layer.ParameterP::KwArgs x type) y = parameter.KwArgs y type

  -- a parameter with another name, where it has one
  abbrev pub with_ident : ParameterP P L I A D T → Spanned (AssignIdentP P L I A D T) → ParameterP P L I A D T
  with_ident x y = with_ident_layer (out-ParameterP P L I A D T x) y

  abbrev pub with_type_layer : ParameterP-F P L I A D T (ArgumentP P L I A D T) (AssignTargetP P L I A D T) (ClauseP P L I A D T) (ExprP P L I A D T) (ParameterP P L I A D T) (CallArgsP P L I A D T) (FStringP P L I A D T) (ForClauseP P L I A D T) (LambdaP P L I A D T) (TypeExprP P L I A D T) → Spanned (TypeExprP P L I A D T) → ParameterP P L I A D T
  with_type_layer layer.Slash y = parameter.Slash
  with_type_layer (layer.Normal x type default) y = parameter.Normal x (with_held type y) default
  with_type_layer layer.NoArgs y = parameter.NoArgs
  with_type_layer (layer.ParameterP::Args x type) y = parameter.Args x (with_held type y)
  with_type_layer (layer.ParameterP::KwArgs x type) y = parameter.KwArgs x (with_held type y)

  -- a parameter with another type, where it has one
  abbrev pub with_type : ParameterP P L I A D T → Spanned (TypeExprP P L I A D T) → ParameterP P L I A D T
  with_type x y = with_type_layer (out-ParameterP P L I A D T x) y

  abbrev pub with_default_layer : ParameterP-F P L I A D T (ArgumentP P L I A D T) (AssignTargetP P L I A D T) (ClauseP P L I A D T) (ExprP P L I A D T) (ParameterP P L I A D T) (CallArgsP P L I A D T) (FStringP P L I A D T) (ForClauseP P L I A D T) (LambdaP P L I A D T) (TypeExprP P L I A D T) → Spanned (ExprP P L I A D T) → ParameterP P L I A D T
  with_default_layer layer.Slash y = parameter.Slash
  with_default_layer (layer.Normal x type default) y = parameter.Normal x type (with_held default y)
  with_default_layer layer.NoArgs y = parameter.NoArgs
  with_default_layer (layer.ParameterP::Args x type) y = parameter.Args x type
  with_default_layer (layer.ParameterP::KwArgs x type) y = parameter.KwArgs x type

  -- with another default, where it has one
  abbrev pub with_default : ParameterP P L I A D T → Spanned (ExprP P L I A D T) → ParameterP P L I A D T
  with_default x y = with_default_layer (out-ParameterP P L I A D T x) y

module _ (P L I A D T : RattleType) where
  abbrev pub LendsExpr : MutBor (ArgumentP P.Denot L.Denot I.Denot A.Denot D.Denot T.Denot) → MutBor (Spanned (ExprP P.Denot L.Denot I.Denot A.Denot D.Denot T.Denot)) → Fml
  LendsExpr s r = Lends (arguments.the_row P L I A D T) (spanned.the_row (exprs.the_row P L I A D T)) s r (with_expr s.now)

  abbrev pub LendsIdent : MutBor (ParameterP P.Denot L.Denot I.Denot A.Denot D.Denot T.Denot) → Option (MutBor (Spanned (AssignIdentP P.Denot L.Denot I.Denot A.Denot D.Denot T.Denot))) → Fml
  LendsIdent s r = LendsIf (parameters.the_row P L I A D T) (spanned.the_row (idents.the_row P L I A D T)) s r (with_ident s.now) s.now

  abbrev pub LendsType : MutBor (ParameterP P.Denot L.Denot I.Denot A.Denot D.Denot T.Denot) → Option (MutBor (Spanned (TypeExprP P.Denot L.Denot I.Denot A.Denot D.Denot T.Denot))) → Fml
  LendsType s r = LendsIf (parameters.the_row P L I A D T) (spanned.the_row (types.the_row P L I A D T)) s r (with_type s.now) s.now

  abbrev pub LendsDefault : MutBor (ParameterP P.Denot L.Denot I.Denot A.Denot D.Denot T.Denot) → Option (MutBor (Spanned (ExprP P.Denot L.Denot I.Denot A.Denot D.Denot T.Denot))) → Fml
  LendsDefault s r = LendsIf (parameters.the_row P L I A D T) (spanned.the_row (exprs.the_row P L I A D T)) s r (with_default s.now) s.now
