-- Parts of arguments, parameters and statements, and the places that signatures cover.
use Rattle.std.specs.Prelude.{ℕ, List, [], ◌∷◌, fold, flat_map, Option, Some, None, string_bytes}
use Rattle.std.specs.Option.{unwrap_or}
use Rattle.std.specs.declared.alloc.Global.{Global}
use Rattle.std.specs.declared.boxed.Box.{Box}
use Rattle.std.specs.declared.vec.Vec.{Vec}
use Rattle.starlark_place.specs.Place.{Extent, merged}
use Rattle.starlark_place.specs.declared.pos.Spanned.{Spanned}
use Rattle.starlark_ast.specs.declared.ast.AssignIdentP.{AssignIdentP}
use Rattle.starlark_ast.specs.declared.ast.Comma.{Comma}
use Rattle.starlark_ast.specs.declared.ast.LoadArgP.{LoadArgP}
use Rattle.starlark_ast.specs.declared.ast.ArgumentP.{ArgumentP, ArgumentP-F, out-ArgumentP}
use Rattle.starlark_ast.specs.declared.ast.AssignTargetP.{AssignTargetP}
use Rattle.starlark_ast.specs.declared.ast.ClauseP.{ClauseP}
use Rattle.starlark_ast.specs.declared.ast.ExprP.{ExprP}
use Rattle.starlark_ast.specs.declared.ast.ParameterP.{ParameterP, ParameterP-F, out-ParameterP}
use Rattle.starlark_ast.specs.declared.ast.CallArgsP.{CallArgsP}
use Rattle.starlark_ast.specs.declared.ast.FStringP.{FStringP}
use Rattle.starlark_ast.specs.declared.ast.ForClauseP.{ForClauseP}
use Rattle.starlark_ast.specs.declared.ast.LambdaP.{LambdaP, out-LambdaP}
use Rattle.starlark_ast.specs.declared.ast.TypeExprP.{TypeExprP}
use Rattle.starlark_ast.specs.declared.ast.ArgumentP.TheOpen as layer
use Rattle.starlark_ast.specs.declared.ast.DefP.{DefP, out-DefP}
use Rattle.starlark_ast.specs.declared.ast.ForP.{ForP}
use Rattle.starlark_ast.specs.declared.ast.StmtP.{StmtP, StmtP-F, para-StmtP}
use Rattle.starlark_ast.specs.declared.ast.StmtP.TheOpen as stmt
use Rattle.starlark_ast.specs.declared.ast.StmtP.TheVariants as variant

-- what a box holds, where there is one
abbrev pub unboxed : {X : Type 0} → Option (Box X Global) → Option X
unboxed None = None
unboxed (Some x) = Some x.value

-- from the least beginning to the greatest end of a place and others
abbrev pub merged_with : {X : Type 0} → Extent → List (Spanned X) → Extent
merged_with s xs = fold (λ t x. merged t x.span) s xs

-- that of all of a list, or s where there is none
abbrev pub merged_or : {X : Type 0} → Extent → List (Spanned X) → Extent
merged_or s [] = s
merged_or s (x ∷ xs) = merged_with x.span xs

abbrev pub merged_with_comma : Extent → Option (Spanned Comma) → Extent
merged_with_comma s None = s
merged_with_comma s (Some x) = merged s x.span

-- the only one of a list that has no other
abbrev pub alone : {X : Type 0} → List X → Option X
alone [] = None
alone (x ∷ []) = Some x
alone (x ∷ y ∷ xs) = None

module _ {P L I A D T : Type 0} where
  abbrev pub argument_expr_layer : ArgumentP-F P L I A D T (ArgumentP P L I A D T) (AssignTargetP P L I A D T) (ClauseP P L I A D T) (ExprP P L I A D T) (ParameterP P L I A D T) (CallArgsP P L I A D T) (FStringP P L I A D T) (ForClauseP P L I A D T) (LambdaP P L I A D T) (TypeExprP P L I A D T) → Spanned (ExprP P L I A D T)
  argument_expr_layer (layer.Positional x) = x
  argument_expr_layer (layer.Named name x) = x
  argument_expr_layer (layer.ArgumentP::Args x) = x
  argument_expr_layer (layer.ArgumentP::KwArgs x) = x

  -- the expression of an argument
  abbrev pub argument_expr : ArgumentP P L I A D T → Spanned (ExprP P L I A D T)
  argument_expr x = argument_expr_layer (out-ArgumentP P L I A D T x)

  abbrev pub argument_name_layer : ArgumentP-F P L I A D T (ArgumentP P L I A D T) (AssignTargetP P L I A D T) (ClauseP P L I A D T) (ExprP P L I A D T) (ParameterP P L I A D T) (CallArgsP P L I A D T) (FStringP P L I A D T) (ForClauseP P L I A D T) (LambdaP P L I A D T) (TypeExprP P L I A D T) → Option (List ℕ)
  argument_name_layer (layer.Positional x) = None
  argument_name_layer (layer.Named name x) = Some (string_bytes name.node)
  argument_name_layer (layer.ArgumentP::Args x) = None
  argument_name_layer (layer.ArgumentP::KwArgs x) = None

  -- the name of an argument that has one
  abbrev pub argument_name : ArgumentP P L I A D T → Option (List ℕ)
  argument_name x = argument_name_layer (out-ArgumentP P L I A D T x)

  abbrev pub parameter_ident_layer : ParameterP-F P L I A D T (ArgumentP P L I A D T) (AssignTargetP P L I A D T) (ClauseP P L I A D T) (ExprP P L I A D T) (ParameterP P L I A D T) (CallArgsP P L I A D T) (FStringP P L I A D T) (ForClauseP P L I A D T) (LambdaP P L I A D T) (TypeExprP P L I A D T) → Option (Spanned (AssignIdentP P L I A D T))
  parameter_ident_layer layer.Slash = None
  parameter_ident_layer (layer.Normal x type default) = Some x
  parameter_ident_layer layer.NoArgs = None
  parameter_ident_layer (layer.ParameterP::Args x type) = Some x
  parameter_ident_layer (layer.ParameterP::KwArgs x type) = Some x

  -- the name of a parameter that has one
  abbrev pub parameter_ident : ParameterP P L I A D T → Option (Spanned (AssignIdentP P L I A D T))
  parameter_ident x = parameter_ident_layer (out-ParameterP P L I A D T x)

  abbrev pub parameter_type_layer : ParameterP-F P L I A D T (ArgumentP P L I A D T) (AssignTargetP P L I A D T) (ClauseP P L I A D T) (ExprP P L I A D T) (ParameterP P L I A D T) (CallArgsP P L I A D T) (FStringP P L I A D T) (ForClauseP P L I A D T) (LambdaP P L I A D T) (TypeExprP P L I A D T) → Option (Spanned (TypeExprP P L I A D T))
  parameter_type_layer layer.Slash = None
  parameter_type_layer (layer.Normal x type default) = unboxed type
  parameter_type_layer layer.NoArgs = None
  parameter_type_layer (layer.ParameterP::Args x type) = unboxed type
  parameter_type_layer (layer.ParameterP::KwArgs x type) = unboxed type

  -- its type, where there is one
  abbrev pub parameter_type : ParameterP P L I A D T → Option (Spanned (TypeExprP P L I A D T))
  parameter_type x = parameter_type_layer (out-ParameterP P L I A D T x)

  abbrev pub parameter_default_layer : ParameterP-F P L I A D T (ArgumentP P L I A D T) (AssignTargetP P L I A D T) (ClauseP P L I A D T) (ExprP P L I A D T) (ParameterP P L I A D T) (CallArgsP P L I A D T) (FStringP P L I A D T) (ForClauseP P L I A D T) (LambdaP P L I A D T) (TypeExprP P L I A D T) → Option (Spanned (ExprP P L I A D T))
  parameter_default_layer layer.Slash = None
  parameter_default_layer (layer.Normal x type default) = unboxed default
  parameter_default_layer layer.NoArgs = None
  parameter_default_layer (layer.ParameterP::Args x type) = None
  parameter_default_layer (layer.ParameterP::KwArgs x type) = None

  -- its default, where there is one
  abbrev pub parameter_default : ParameterP P L I A D T → Option (Spanned (ExprP P L I A D T))
  parameter_default x = parameter_default_layer (out-ParameterP P L I A D T x)

  -- the parameters of a lambda, or its body where there are none
  abbrev pub lambda_signature : LambdaP P L I A D T → Extent
  lambda_signature x = let l = out-LambdaP P L I A D T x in merged_or l.body.value.span l.params.items

  abbrev pub merged_with_type : Extent → Option (Box (Spanned (TypeExprP P L I A D T)) Global) → Extent
  merged_with_type s None = s
  merged_with_type s (Some x) = merged s x.value.span

  -- the name, the parameters and the type of what is returned
  abbrev pub def_signature : DefP P L I A D T → Extent
  def_signature x = let d = out-DefP P L I A D T x in merged_with_type (merged_with d.name.span d.params.items) d.return_type

  -- what a load binds: the local name and that in the other module
  abbrev pub load_arg_span : LoadArgP P L I A D T → Extent
  load_arg_span x = merged x.local.span x.their.span

  -- and the comma behind it, where there is one
  abbrev pub load_arg_whole_span : LoadArgP P L I A D T → Extent
  load_arg_whole_span x = merged_with_comma (load_arg_span x) x.comma

  -- an only statement itself, or else a list of all at a place
  abbrev pub statements_at : Vec (Spanned (StmtP P L I A D T)) Global → Extent → Spanned (StmtP P L I A D T)
  statements_at xs s = unwrap_or (alone xs.items) (record { span = s; node = variant.Statements xs })

  abbrev pub opened : Spanned (StmtP P L I A D T × Option (List (Spanned (StmtP P L I A D T)))) → List (Spanned (StmtP P L I A D T))
  opened x = unwrap_or x.node.1 (record { span = x.span; node = x.node.0 } ∷ [])

  abbrev pub nested_layer : StmtP-F P L I A D T (StmtP P L I A D T × Option (List (Spanned (StmtP P L I A D T)))) (DefP P L I A D T × Unit {0}) (ForP P L I A D T × Unit {0}) → Option (List (Spanned (StmtP P L I A D T)))
  nested_layer (stmt.Statements xs) = Some (flat_map opened xs.items)
  nested_layer _ = None

  -- the statements of a list, with the lists among them opened; none of another statement
  abbrev pub nested : StmtP P L I A D T → Option (List (Spanned (StmtP P L I A D T)))
  nested = para-StmtP P L I A D T (Option (List (Spanned (StmtP P L I A D T)))) (Unit {0}) (Unit {0}) nested_layer (λ x. tt) (λ x. tt)

  -- the statements of a tree at its top: lists are opened, others stand for themselves
  abbrev pub top_level : Spanned (StmtP P L I A D T) → List (Spanned (StmtP P L I A D T))
  top_level x = unwrap_or (nested x.node) (x ∷ [])
