-- What the code knows of the parameters so far.
use Rattle.std.specs.Prelude.{◌+◌, List, [], ◌∷◌, length, if◌then◌else◌, Some, true}
use Rattle.starlark_ast.specs.Tree as t
use Rattle.starlark_ast.specs.Tree.{Stars, Bound, Member, Members}
use Rattle.starlark_rules.specs.declared.def.DefRegularParamMode.{DefRegularParamMode}
use Rattle.starlark_rules.specs.declared.def.Tally.{Tally}
use Rattle.starlark_rulebook.specs.Calls.{any}
use Rattle.starlark_rulebook.specs.Parameters.{is_starred}
use Rattle.starlark_rules.specs.ParameterKinds.{Param, param, Kind, regular, args_kind, kwargs_kind, indices_of, params_of}

-- that of some parameters
abbrev pub tally_of : Members → Tally
tally_of ms = record { indices = indices_of ms; count = length (params_of ms); starred = any is_starred ms }

-- one more
abbrev pub with_member : Tally → Member → Tally
with_member a (t.slash s) = record a { indices = record a.indices { num_positional_only = a.count } }
with_member a (t.no_args s) = record a { starred = true }
with_member a (t.parameter t.plain n u c b s) = record a { indices = record a.indices { num_positional = a.indices.num_positional + (if a.starred then 0 else 1) }; count = a.count + 1 }
with_member a (t.parameter t.starred n u c b s) = record { indices = record a.indices { args = Some a.count }; count = a.count + 1; starred = true }
with_member a (t.parameter t.double_starred n u c b s) = record { indices = record a.indices { kwargs = Some a.count }; count = a.count + 1; starred = true }
with_member a m = a

-- what it is in a mode
abbrev pub kind_in : DefRegularParamMode → Stars → Bound → Kind
kind_in mode t.plain b = regular mode b
kind_in mode t.starred b = args_kind
kind_in mode t.double_starred b = kwargs_kind

-- a parameter in a mode, if it has a name
abbrev pub param_of : DefRegularParamMode → Member → List Param
param_of mode (t.parameter k n u a b s) = param (t.name_at n u) (kind_in mode k b) a s ∷ []
param_of mode m = []
