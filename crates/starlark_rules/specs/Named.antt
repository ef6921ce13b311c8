-- The parameters with a name, as the code has them.
use Rattle.std.specs.Prelude.{◌+◌, ◌<◌, ◌≤◌, ℕ, IfSome, List, [], ◌∷◌, Option, Some, None}
use Rattle.std.specs.Borrow.{Bor}
use Rattle.starlark_place.specs.Place.{Extent}
use Rattle.starlark_place.specs.declared.pos.Spanned.{Spanned}
use Rattle.starlark_ast.specs.declared.ast.ExprP.{ExprP}
use Rattle.starlark_ast.specs.declared.ast.TypeExprP.{TypeExprP}
use Rattle.starlark_ast.specs.Tree.{Bound, absent, present, Annotation, untyped}
use Rattle.starlark_ast.specs.View.{expr_at, ident_at, type_at}
use Rattle.starlark_rules.specs.ParameterKinds.{Kind, regular, args_kind, kwargs_kind, Param, param}
use Rattle.starlark_rules.specs.declared.def.DefParam.{DefParam}
use Rattle.starlark_rules.specs.declared.def.DefParamIndices.{DefParamIndices}
use Rattle.starlark_rules.specs.declared.def.DefParamKind.{DefParamKind}
use Rattle.starlark_rules.specs.declared.def.DefParamKind.TheVariants as kind

-- one past `*a`, or behind the positional ones where there is none
abbrev pub one_past : Option ℕ → ℕ → ℕ
one_past None n = n
one_past (Some i) n = i + 1

abbrev pub behind_args : DefParamIndices → ℕ
behind_args x = one_past x.args x.num_positional

-- stretches of so many parameters with a name
pub record AreWithin (x : DefParamIndices) (count : ℕ) : Type 0 where
  pub positional : x.num_positional ≤ count
  pub counted : count ≤ 4294967295
  pub args : IfSome x.args (λ i. i < count)
  pub kwargs : IfSome x.kwargs (λ i. i < count)

module _ {P L I A D T : Type 0} where
  -- a default that is lent, or none
  abbrev pub lent_bound : Option (Bor (Spanned (ExprP P L I A D T))) → Bound
  lent_bound None = absent
  lent_bound (Some x) = present (expr_at x.now)

  -- a type that is lent, or none
  abbrev pub lent_type : Option (Bor (Spanned (TypeExprP P L I A D T))) → Annotation
  lent_type None = untyped
  lent_type (Some x) = type_at x.now

  abbrev pub lent_kind : DefParamKind P L I A D T → Kind
  lent_kind (kind.Regular mode default) = regular mode (lent_bound default)
  lent_kind kind.Args = args_kind
  lent_kind kind.Kwargs = kwargs_kind

  -- a parameter with a name, and its place
  abbrev pub lent_at : Extent → DefParam P L I A D T → Param
  lent_at s x = param (ident_at x.ident.now) (lent_kind x.kind) (lent_type x.ty) s

  abbrev pub lent_param : Spanned (DefParam P L I A D T) → Param
  lent_param x = lent_at x.span x.node

  -- one that is there, or none
  abbrev pub lent_params : Extent → Option (DefParam P L I A D T) → List Param
  lent_params s None = []
  lent_params s (Some x) = lent_at s x ∷ []
