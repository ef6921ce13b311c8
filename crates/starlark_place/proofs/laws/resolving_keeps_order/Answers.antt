use Rattle.std.proofs.Common.{inl, inr}
use Rattle.starlark_place.specs.Place.{line_at}
use Rattle.std.proofs.lemmas.Bool.{cases_lt}
use Rattle.std.proofs.Common.{arith, ◌≡◌}
use Rattle.starlark_place.proofs.Lines.{feeds-more, columns-more}
use Rattle.starlark_place.proofs.Order.{before}
use Rattle.starlark_place.proofs.laws.resolving_keeps_order.Goals as goal

pub returns-clause-weak : goal.returns-clause-weak
returns-clause-weak c text i j h =
    let m = feeds-more text i j h in
    elim (cases_lt (line_at text i) (line_at text j)) [
      | inl less ↦ inl less
      | inr same ↦ (let e : line_at text i ≡ line_at text j = omega arith in inr (e, columns-more text i j h e))
    ]

pub returns-clause-strict : goal.returns-clause-strict
returns-clause-strict c = before
