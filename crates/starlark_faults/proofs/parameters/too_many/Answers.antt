use Rattle.std.proofs.Common.{◌∙◌, ◌≡◌, sym, ap, length, nat_lt, true, false, Some, rules}
use Rattle.starlark_place.specs.Place.{merged_all}
use Rattle.starlark_ast.specs.View.{parameter_at, members}
use Rattle.starlark_rulebook.specs.Parameters as parameters
use Rattle.starlark_rulebook.specs.Rules.{breaks, TooManyParameters}
use Rattle.starlark_faults.proofs.Prefixes.{count_members}
use Rattle.starlark_faults.proofs.parameters.too_many.Goals as goal

pub returns-then-params-gt4294967295 : goal.returns-then-params-gt4294967295
returns-then-params-gt4294967295 g c =
    let ms = members parameter_at c.args.params.now in
    let many : parameters.member_count ms ≡ length c.args.params.now = count_members parameter_at c.args.params.now in
    let big : nat_lt 4294967295 (parameters.member_count ms) ≡ true = rw many (search rules) in
    c.broken.ensures ∙ ap (λ s. Some (breaks TooManyParameters s)) c.whole_span.ensures ∙ sym (ap (λ b. parameters.fault_if b (breaks TooManyParameters (merged_all (parameters.parameter_places ms)))) big)

pub returns : goal.returns
returns g c =
    let ms = members parameter_at c.args.params.now in
    let many : parameters.member_count ms ≡ length c.args.params.now = count_members parameter_at c.args.params.now in
    let small : nat_lt 4294967295 (parameters.member_count ms) ≡ false = rw many (search rules) in
    sym (ap (λ b. parameters.fault_if b (breaks TooManyParameters (merged_all (parameters.parameter_places ms)))) small)
