use Rattle.std.proofs.Common.{rules, sym, ◌∙◌}
use denote.Enum.Bare.{same_true, same_false}
use Rattle.starlark_read.specs.contracts.kind.Kind.{the_type}
use Rattle.starlark_read.proofs.Plain.{by_same}
use Rattle.starlark_read.proofs.tokens.Tokens.stands.Goals as goal

pub returns : goal.returns
returns c = by_same c.args.self.now.items c.kind.result c.args.want c.requires c.kind.ensures c.eq.result (λ e. same_true the_type (search rules) _ _ (sym c.eq.ensures ∙ e)) (λ e. same_false the_type _ _ (sym c.eq.ensures ∙ e))
