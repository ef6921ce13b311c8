use Rattle.std.proofs.Common.{◌∙◌, sym, ap, map, ◌++◌}
use Rattle.std.proofs.lemmas.List.{map-append}
use Rattle.starlark_rules.specs.Named.{lent_param, lent_params}
use Rattle.starlark_rules.proofs.def.add_param.Goals as goal

pub returns-in_ok-push_at-in-Some : goal.returns-in_ok-push_at-in-Some
returns-in_ok-push_at-in-Some g c =
    ap (map lent_param) c.in_ok-push_at-in-Some.ensures ∙ map-append lent_param c.args.out.now.items _
    ∙ ap (λ q. map lent_param c.args.out.now.items ++ q) (sym (ap (lent_params c.args.x.now.span) c.in-Some.is) ∙ c.with_name.ensures)
