use Rattle.std.proofs.Common.{◌≡◌, ◌<◌, ◌≤◌, ◌+◌, ◌*◌, eqb, false, arith, subst, sym, ◌∙◌}
use Rattle.std.specs.Prelude.{if◌then◌else◌}
use Rattle.std.proofs.lemmas.Bool.Decides.{nat_tests}
use Rattle.starlark_lexer.proofs.Paid.{pointed_aside, pointed_some}
use Rattle.starlark_lexer.proofs.scan.scan_more.Goals as goal

pub returns-then-is_pointed-clause-paid : goal.returns-then-is_pointed-clause-paid
returns-then-is_pointed-clause-paid c =
    let pointed = sym c.is_pointed.ensures.value ∙ c.if-is_pointed.true in
    let some : 0 < c.tail_len.result = omega (arith, c.tail_len.ensures.value, pointed_some c.args.bytes.now c.requires pointed) in
    let e : eqb c.tail_len.result 0 ≡ false = grind (arith, nat_tests) in
    let paid : c.tail_len.new.reads ≤ c.is_pointed.new.reads + 5 * c.tail_len.result + 1 = subst (λ t. c.tail_len.new.reads ≤ c.is_pointed.new.reads + 5 * c.tail_len.result + (if t then 5 else 1)) e c.tail_len.ensures.paid in
    omega (arith, c.look.ensures.paid, c.is_pointed.ensures.paid, paid, pointed_aside c.args.bytes.now c.requires pointed)
