use Rattle.std.proofs.Common.{◌∙◌, ◌≡◌, sym, ap, cond, not, ◌&&◌, Bool, None, Some, Option}
use Rattle.starlark_ast.specs.Tree.{Bound}
use Rattle.starlark_place.specs.Place.{Extent}
use Rattle.starlark_ast.specs.View.{parameter_at, parameter_view, members, boxed_expr}
use Rattle.starlark_ast.specs.Views.{parameter_view-Normal, parameter_view-Args, parameter_view-KwArgs}
use Rattle.starlark_rulebook.specs.Parameters as parameters
use Rattle.starlark_rulebook.specs.Rules as r
use Rattle.starlark_rulebook.specs.Rules.{breaks, Finding, Rule, first_of as first}
use Rattle.starlark_faults.proofs.parameters.one_fault.Goals as goal

-- a rule that is broken where the flag is set
abbrev where_set : Rule → Extent → Bool → Option Finding
where_set r s b = cond b (Some (breaks r s)) None

-- the first of the same two
first_same : (o p q r : Option Finding) → o ≡ q → p ≡ r → first o p ≡ first q r
first_same o p q r e f = ap (λ x. first x p) e ∙ ap (λ x. first q x) f

required_same : (a b p q : Bool) (d : Bound) (s : Extent) → a ≡ p → b ≡ q → parameters.required_if (a && not b) d s ≡ parameters.required_if (p && not q) d s
required_same a b p q d s e f = ap (λ x. parameters.required_if (x && not b) d s) e ∙ ap (λ x. parameters.required_if (p && not x) d s) f

pub returns-in-Args : goal.returns-in-Args
returns-in-Args g c =
    let s = c.args.x.now.span in
    let before = members parameter_at c.args.before.now in
    let taken = c.broken_if-taken-in-Args.ensures ∙ ap (where_set r.DuplicatedName s) c.is_taken-in-Args.ensures in
    let again = c.broken_if-again.ensures ∙ ap (where_set r.ArgsAgain s) c.requires.stars in
    c.first_of-in-Args.ensures ∙ first_same _ _ _ _ taken again ∙ sym (ap (λ n. parameters.parameter_fault before (parameter_view n s)) c.in-Args.is ∙ ap (parameters.parameter_fault before) (parameter_view-Args c.in-Args.name c.in-Args.field-1 s))

pub returns-in-KwArgs : goal.returns-in-KwArgs
returns-in-KwArgs g c =
    let s = c.args.x.now.span in
    let before = members parameter_at c.args.before.now in
    let taken = c.broken_if-taken-in-KwArgs.ensures ∙ ap (where_set r.DuplicatedName s) c.is_taken-in-KwArgs.ensures in
    let again = c.broken_if-again-in-KwArgs.ensures ∙ ap (where_set r.KwargsAgain s) c.requires.doubles in
    c.first_of-in-KwArgs.ensures ∙ first_same _ _ _ _ taken again ∙ sym (ap (λ n. parameters.parameter_fault before (parameter_view n s)) c.in-KwArgs.is ∙ ap (parameters.parameter_fault before) (parameter_view-KwArgs c.in-KwArgs.name c.in-KwArgs.field-1 s))

pub returns-in-Normal : goal.returns-in-Normal
returns-in-Normal g c =
    let s = c.args.x.now.span in
    let before = members parameter_at c.args.before.now in
    let taken = c.broken_if-taken.ensures ∙ ap (where_set r.DuplicatedName s) c.is_taken.ensures in
    let after = c.broken_if-after.ensures ∙ ap (where_set r.AfterKwargs s) c.requires.doubles in
    let required = c.required_fault-required.ensures ∙ required_same _ _ _ _ (boxed_expr c.in-Normal.default) s c.requires.optionals c.requires.stars in
    c.first_of-in-Normal.ensures ∙ first_same _ _ _ _ taken (c.first_of.ensures ∙ first_same _ _ _ _ after required) ∙ sym (ap (λ n. parameters.parameter_fault before (parameter_view n s)) c.in-Normal.is ∙ ap (parameters.parameter_fault before) (parameter_view-Normal c.in-Normal.name c.in-Normal.field-1 c.in-Normal.default s))
