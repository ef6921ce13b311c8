use Rattle.std.proofs.Common.{◌∙◌, sym, ap, cond, Bool, None, Some, Option, string_bytes}
use Rattle.starlark_place.specs.Place.{Extent}
use Rattle.starlark_ast.specs.View.{argument_at, argument_view, members}
use Rattle.starlark_ast.specs.Views.{argument_view-Positional, argument_view-Named, argument_view-Args, argument_view-KwArgs}
use Rattle.starlark_rulebook.specs.Calls as calls
use Rattle.starlark_rulebook.specs.Rules as r
use Rattle.starlark_rulebook.specs.Rules.{breaks, Finding, Rule}
use Rattle.starlark_faults.proofs.call.argument_fault.Goals as goal

-- a rule that is broken where the flag is set
abbrev where_set : Rule → Extent → Bool → Option Finding
where_set r s b = cond b (Some (breaks r s)) None

-- what a named argument breaks, by its two flags
abbrev named : Extent → Extent → Bool → Bool → Option Finding
named s u star again = cond star (Some (breaks r.NamedAfterStar s)) (cond again (Some (breaks r.RepeatedNamed u)) None)

pub returns-in-Positional : goal.returns-in-Positional
returns-in-Positional g c =
    let s = c.args.x.now.span in
    let before = members argument_at c.args.before.now in
    c.broken_if.ensures ∙ ap (where_set r.PositionalAfterNonPositional s) c.requires.others ∙ sym (ap (λ n. calls.argument_fault before (argument_view n s)) c.in-Positional.is ∙ ap (calls.argument_fault before) (argument_view-Positional c.in-Positional.field-0 s))

pub returns-in-Args : goal.returns-in-Args
returns-in-Args g c =
    let s = c.args.x.now.span in
    let before = members argument_at c.args.before.now in
    c.broken_if-in-Args.ensures ∙ ap (where_set r.ArgsAfterStar s) c.requires.stars ∙ sym (ap (λ n. calls.argument_fault before (argument_view n s)) c.in-Args.is ∙ ap (calls.argument_fault before) (argument_view-Args c.in-Args.field-0 s))

pub returns-in-KwArgs : goal.returns-in-KwArgs
returns-in-KwArgs g c =
    let s = c.args.x.now.span in
    let before = members argument_at c.args.before.now in
    c.broken_if-in-KwArgs.ensures ∙ ap (where_set r.MultipleKwargs s) c.requires.kwargs ∙ sym (ap (λ n. calls.argument_fault before (argument_view n s)) c.in-KwArgs.is ∙ ap (calls.argument_fault before) (argument_view-KwArgs c.in-KwArgs.field-0 s))

pub returns-then-kinds : goal.returns-then-kinds
returns-then-kinds g c =
    let s = c.args.x.now.span in
    let before = members argument_at c.args.before.now in
    let name = c.in-Named.name in
    let again = calls.any (calls.has_name (string_bytes name.node)) before in
    c.broken.ensures ∙ ap (λ b. named s name.span b again) (sym c.if-kinds.true ∙ c.requires.stars) ∙ sym (ap (λ n. calls.argument_fault before (argument_view n s)) c.in-Named.is ∙ ap (calls.argument_fault before) (argument_view-Named name c.in-Named.field-1 s))

pub returns-else-kinds : goal.returns-else-kinds
returns-else-kinds g c =
    let s = c.args.x.now.span in
    let before = members argument_at c.args.before.now in
    let name = c.in-Named.name in
    let again = calls.any (calls.has_name (string_bytes name.node)) before in
    c.broken_if-in-Named.ensures ∙ ap (where_set r.RepeatedNamed name.span) (c.is_named-again.ensures ∙ ap (λ n. calls.any (calls.has_name n) before) c.deref.ensures) ∙ ap (λ b. named s name.span b again) (sym c.if-kinds.false ∙ c.requires.stars) ∙ sym (ap (λ n. calls.argument_fault before (argument_view n s)) c.in-Named.is ∙ ap (calls.argument_fault before) (argument_view-Named name c.in-Named.field-1 s))
