use Rattle.std.proofs.Common.{◌≡◌, ◌<◌, length, arith, sym, ◌∙◌, eqb, false}
use Rattle.std.proofs.lemmas.Bool.Decides.{nat_tests}
use Rattle.starlark_lexer.specs.Classes.{begins}
use Rattle.starlark_lexer.proofs.Cuts.{scan_most}
use Rattle.starlark_lexer.proofs.Paid.{scan_some, two_at_most}
use Rattle.starlark_lexer.proofs.scan.here.Goals as goal

pub opens_turn-requires-clause-within : goal.opens_turn-requires-clause-within
opens_turn-requires-clause-within c =
    let e : eqb (length c.args.bytes.now) 0 ≡ false = sym c.is_empty.ensures ∙ c.if-is_empty.false in
    let some : 0 < length c.args.bytes.now = grind (arith, nat_tests) in
    omega (arith, c.scan-found.ensures.len, scan_most c.args.bytes.now some)

pub returns-in-Kind-clause-paid : goal.returns-in-Kind-clause-paid
returns-in-Kind-clause-paid c =
    let e : eqb (length c.args.bytes.now) 0 ≡ false = sym c.is_empty.ensures ∙ c.if-is_empty.false in
    let some : 0 < length c.args.bytes.now = grind (arith, nat_tests) in
    omega (arith, c.look.ensures.paid, c.look-2.ensures.paid, c.scan-found.ensures.len, c.scan-found.ensures.paid, scan_some c.args.bytes.now some, two_at_most (begins 92 c.args.bytes.now))

pub returns-in-Opens-clause-paid : goal.returns-in-Opens-clause-paid
returns-in-Opens-clause-paid c =
    let e : eqb (length c.args.bytes.now) 0 ≡ false = sym c.is_empty.ensures ∙ c.if-is_empty.false in
    let some : 0 < length c.args.bytes.now = grind (arith, nat_tests) in
    let from : 0 < c.scan-found.result.1 = omega (arith, c.scan-found.ensures.len, scan_some c.args.bytes.now some) in
    omega (arith, c.look.ensures.paid, c.look-2.ensures.paid, c.scan-found.ensures.paid, c.opens_turn.ensures.paid from, two_at_most (begins 92 c.args.bytes.now))
