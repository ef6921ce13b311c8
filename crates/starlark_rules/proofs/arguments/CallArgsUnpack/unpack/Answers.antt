use Rattle.std.proofs.Common.{◌≡◌, ◌∙◌, sym, ap, subst, Option, Some, None}
use Rattle.starlark_ast.specs.View.{argument_at, call_args_view, members}
use Rattle.starlark_ast.specs.Views.{view-args}
use Rattle.starlark_rulebook.specs.Calls.{first_call_fault}
use Rattle.starlark_rulebook.specs.Rules.{Finding}
use Rattle.starlark_rulebook.specs.View.{IsPlaced, RefusesFor, finding_of, maybe_finding}
use Rattle.starlark_rules.proofs.arguments.CallArgsUnpack.unpack.Goals as goal

pub refused-requires : goal.refused-requires
refused-requires g c =
    let is : first_call_fault (call_args_view c.args.args.now) ≡ Some (finding_of c.in-Some.found) = ap first_call_fault (view-args c.args.args.now) ∙ ap (λ xs. first_call_fault (members argument_at xs)) (sym c.deref.ensures.value) ∙ sym c.call_fault.ensures ∙ ap maybe_finding c.in-Some.is in
    subst (λ (f : Option Finding). IsPlaced c.args.codemap.now.source f) is c.requires

pub returns-in-Some-clause-refused : goal.returns-in-Some-clause-refused
returns-in-Some-clause-refused g c =
    let is : first_call_fault (call_args_view c.args.args.now) ≡ Some (finding_of c.in-Some.found) = ap first_call_fault (view-args c.args.args.now) ∙ ap (λ xs. first_call_fault (members argument_at xs)) (sym c.deref.ensures.value) ∙ sym c.call_fault.ensures ∙ ap maybe_finding c.in-Some.is in
    subst (λ (f : Option Finding). RefusesFor f c.args.codemap.now c.refused.result) (sym is) c.refused.ensures

pub returns-clause-clean : goal.returns-clause-clean
returns-clause-clean g c =
    ap first_call_fault (view-args c.args.args.now) ∙ ap (λ xs. first_call_fault (members argument_at xs)) (sym c.deref.ensures.value) ∙ sym c.call_fault.ensures ∙ ap maybe_finding c.in_default.is

pub returns-in-Some-clause-sure : goal.returns-in-Some-clause-sure
returns-in-Some-clause-sure g c =
    let is : first_call_fault (call_args_view c.args.args.now) ≡ Some (finding_of c.in-Some.found) = ap first_call_fault (view-args c.args.args.now) ∙ ap (λ xs. first_call_fault (members argument_at xs)) (sym c.deref.ensures.value) ∙ sym c.call_fault.ensures ∙ ap maybe_finding c.in-Some.is in
    λ none. absurd (let some : Some (finding_of c.in-Some.found) ≡ None = sym is ∙ none in cc)
