-- What parameters are, where they break no rule.
use Rattle.std.specs.Prelude.{ℕ, suc, ◌&&◌, not, if◌then◌else◌, List, [], ◌∷◌, ◌++◌, length, Option, Some, None, Bool, true, false}
use Rattle.starlark_place.specs.Place.{Extent}
use Rattle.starlark_ast.specs.Tree as t
use Rattle.starlark_ast.specs.Tree.{Stars, Member, Members, Bound, Annotation, Name}
use Rattle.starlark_rules.specs.declared.def.DefRegularParamMode.{DefRegularParamMode}
use Rattle.starlark_rules.specs.declared.def.DefRegularParamMode.TheVariants.{PosOnly, PosOrName, NameOnly}
use Rattle.starlark_rules.specs.declared.def.DefParamIndices.{DefParamIndices}
use Rattle.starlark_rulebook.specs.Calls.{any}
use Rattle.starlark_rulebook.specs.Parameters.{is_starred, is_plain}

-- What a parameter with a name is: a plain one with its mode and its default, `*args`, `**kwargs`.
pub data Kind : Type 0 where
  regular : DefRegularParamMode → Bound → Kind
  args_kind : Kind
  kwargs_kind : Kind

-- its name, what it is, its type and its place
pub data Param : Type 0 where
  param : Name → Kind → Annotation → Extent → Param

-- `*` or `*a`
abbrev pub is_args : Member → Bool
is_args (t.no_args s) = true
is_args (t.parameter t.starred n u a b s) = true
is_args m = false

-- before a `/`, behind `*` or `*a`, or neither
abbrev pub mode_of : Bool → Members → DefRegularParamMode
mode_of before ms = if before then PosOnly else if any is_args ms then NameOnly else PosOrName

abbrev pub kind_of : Bool → Members → Stars → Bound → Kind
kind_of before ms t.plain b = regular (mode_of before ms) b
kind_of before ms t.starred b = args_kind
kind_of before ms t.double_starred b = kwargs_kind

-- All but `/` and `*`. The flag says whether a `/` stands behind these.
abbrev pub params_before : Bool → Members → List Param
params_before before t.none = []
params_before before (t.more ms (t.slash s)) = params_before true ms
params_before before (t.more ms (t.parameter k n u a b s)) = params_before before ms ++ (param (t.name_at n u) (kind_of before ms k b) a s ∷ [])
params_before before (t.more ms m) = params_before before ms

abbrev pub params_of : Members → List Param
params_of ms = params_before false ms

-- those before `*`, `*a` and `**`
abbrev pub positional_count : Members → ℕ
positional_count t.none = 0
positional_count (t.more ms m) = if is_plain m && not (any is_starred ms) then suc (positional_count ms) else positional_count ms

-- those before the `/`
abbrev pub positional_only_count : Members → ℕ
positional_only_count t.none = 0
positional_only_count (t.more ms (t.slash s)) = length (params_of ms)
positional_only_count (t.more ms m) = positional_only_count ms

-- the place of `*a` among the parameters with a name
abbrev pub args_index : Members → Option ℕ
args_index t.none = None
args_index (t.more ms (t.parameter t.starred n u a b s)) = Some (length (params_of ms))
args_index (t.more ms m) = args_index ms

-- the place of `**` among them
abbrev pub kwargs_index : Members → Option ℕ
kwargs_index t.none = None
kwargs_index (t.more ms (t.parameter t.double_starred n u a b s)) = Some (length (params_of ms))
kwargs_index (t.more ms m) = kwargs_index ms

abbrev pub indices_of : Members → DefParamIndices
indices_of ms = record { num_positional = positional_count ms; num_positional_only = positional_only_count ms; args = args_index ms; kwargs = kwargs_index ms }
