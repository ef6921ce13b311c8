use Rattle.std.proofs.Common.{◌≡◌, ◌+◌, rules, subst}
use Rattle.starlark_read.specs.Asides.{counted}
use Rattle.starlark_read.specs.Reads.{Left, asks_left}
use Rattle.starlark_read.proofs.Asking.{still_asked}
use Rattle.starlark_read.proofs.tokens.Tokens.cost.Goals as goal

pub returns-clause-asks : goal.returns-clause-asks
returns-clause-asks c =
    let a = c.self.inside in
    rw c.cost.ensures.asks (subst (λ (t : Left). t.aside.asks ≡ counted (a.feed.asks + asks_left t.items t.unasked)) c.self.view_is (still_asked a.ahead a.feed (search rules)))
