use Rattle.std.proofs.Common.{◌≡◌, ◌≤◌, ◌∙◌, sym, ap, subst, length, None, Some, Option, arith}
use Rattle.std.proofs.lemmas.List.{length-map}
use Rattle.starlark_ast.specs.View.{parameter_at, members}
use Rattle.starlark_rules.specs.declared.def.DefParamIndices.{DefParamIndices}
use Rattle.starlark_rules.specs.Named.{AreWithin, lent_param}
use Rattle.starlark_rulebook.specs.Parameters as parameters
use Rattle.starlark_rules.specs.ParameterKinds as kinds
use Rattle.starlark_rulebook.specs.Rules.{Finding}
use Rattle.starlark_rulebook.specs.View.{IsPlaced, RefusesFor, finding_of, maybe_finding}
use Rattle.starlark_faults.proofs.Prefixes.{count_members}
use Rattle.starlark_rules.proofs.ParameterLists.{few, ordered, are_within}
use Rattle.starlark_rules.proofs.def.DefParams.unpack.Goals as goal

pub refused-requires : goal.refused-requires
refused-requires g c =
    let is : parameters.first_parameter_fault (members parameter_at c.args.params.now) ≡ Some (finding_of c.in-Some.found) = sym c.parameter_fault.ensures ∙ ap maybe_finding c.in-Some.is in
    subst (λ (f : Option Finding). IsPlaced c.args.codemap.now.source f) is c.requires

pub returns-in-Some-clause-refused : goal.returns-in-Some-clause-refused
returns-in-Some-clause-refused g c =
    let is : parameters.first_parameter_fault (members parameter_at c.args.params.now) ≡ Some (finding_of c.in-Some.found) = sym c.parameter_fault.ensures ∙ ap maybe_finding c.in-Some.is in
    subst (λ (f : Option Finding). RefusesFor f c.args.codemap.now c.refused.result) (sym is) c.refused.ensures

pub indices-requires : goal.indices-requires
indices-requires g c =
    let xs = c.args.params.now in
    omega (arith, few (members parameter_at xs) (sym c.parameter_fault.ensures ∙ ap maybe_finding c.in_default.is), count_members parameter_at xs)

pub returns-clause-ordered : goal.returns-clause-ordered
returns-clause-ordered g c =
    let e : parameters.first_parameter_fault (members parameter_at c.args.params.now) ≡ None = sym c.parameter_fault.ensures ∙ ap maybe_finding c.in_default.is in
    subst (λ (i : DefParamIndices). i.num_positional_only ≤ i.num_positional) (sym c.indices.ensures) (ordered (members parameter_at c.args.params.now) e)

pub returns-clause-within : goal.returns-clause-within
returns-clause-within g c =
    let ms = members parameter_at c.args.params.now in
    let e : parameters.first_parameter_fault ms ≡ None = sym c.parameter_fault.ensures ∙ ap maybe_finding c.in_default.is in
    let n : length c.in-Ok.named.items ≡ length (kinds.params_of ms) = sym (length-map c.in-Ok.named.items lent_param) ∙ ap length c.in-Ok.ensures in
    subst (λ (i : DefParamIndices). AreWithin i (length c.in-Ok.named.items)) (sym c.indices.ensures) (are_within ms (length c.in-Ok.named.items) n (few ms e))
