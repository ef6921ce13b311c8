use Rattle.std.proofs.Common.{sym, ap, ◌∙◌, ◌++◌, append-nil}
use Rattle.starlark_ast.specs.View.{members, parameter_at}
use Rattle.starlark_rulebook.specs.Found.{findings}
use Rattle.starlark_rulebook.specs.Late as late
use Rattle.starlark_rulebook.specs.Rules.{LambdaDisabled}
use Rattle.starlark_faults.proofs.Adding.{adds_as, ok_as, ok_then}
use Rattle.starlark_faults.proofs.Levels.{own_lambda, own_literal, own_none}
use Rattle.starlark_faults.proofs.expressions.own_rules.Goals as goal

pub returns-in_ok-add_unless-in-Lambda : goal.returns-in_ok-add_unless-in-Lambda
returns-in_ok-add_unless-in-Lambda g c =
    let d = c.args.dialect.now in
    ok_then _ _ _ _ c.parameter_rules.result c.in_ok-add_unless-in-Lambda.ensures c.parameter_rules.ensures
    (ap (λ q. late.unless d.enable_lambda LambdaDisabled c.args.x.now.span ++ late.parameter_rules d (members parameter_at q)) c.deref.ensures.value ∙ sym (own_lambda d c.args.x.now c.in-Lambda.inner c.in-Lambda.is))

pub returns-in-Literal : goal.returns-in-Literal
returns-in-Literal g c =
    ok_as c.args.out.now.items _ _ _ c.literal_rules.result (own_literal c.args.dialect.now c.args.x.now c.in-Literal.literal c.in-Literal.is) c.literal_rules.ensures

pub returns-in_default : goal.returns-in_default
returns-in_default g c =
    adds_as _ _ (sym (own_none c.args.dialect.now c.args.x.now c.in_default.not-Lambda c.in_default.not-Literal)) (record { all = sym (append-nil (findings c.args.out.now.items)) })
