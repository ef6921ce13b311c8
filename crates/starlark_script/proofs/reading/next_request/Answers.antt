use Rattle.std.proofs.Common.{arith, rules}
use Rattle.std.proofs.lemmas.Grind.{common_steps}
use Rattle.std.proofs.lemmas.List.{length-take}
use Rattle.std.proofs.lemmas.Result.{err_from_is_err_and}
use Rattle.starlark_script.proofs.Taking.{cut_in_line, cut_in_text, requested}
use Rattle.starlark_script.proofs.reading.next_request.Goals as goal

pub returns-in_err-next_line-clause-cut : goal.returns-in_err-next_line-clause-cut
returns-in_err-next_line-clause-cut g c =
    let p = err_from_is_err_and c.from_residual.result c.from_residual.ensures.1 in
    rw p.1 (cut_in_line _ _ c.in_err-next_line.ensures.cut)

pub returns-in_err-taken-in-Some-clause-cut : goal.returns-in_err-taken-in-Some-clause-cut
returns-in_err-taken-in-Some-clause-cut g c =
    let p = err_from_is_err_and c.from_residual-in_err-taken-in-Some.result c.from_residual-in_err-taken-in-Some.ensures.1 in
    rw p.1 (cut_in_text _ _ _ c.in-Of.n c.in-Some.head c.next_line.new.line (simp length-take (grind (arith, common_steps))) (search rules) (rw c.in-Of.is at c.in_ok-next_line.ensures.ok) (rw c.bytes.ensures at c.in_err-taken-in-Some.ensures.cut))

pub returns-in_ok-taken-in-Some-clause-ok : goal.returns-in_ok-taken-in-Some-clause-ok
returns-in_ok-taken-in-Some-clause-ok g c =
    rw c.with_bytes.ensures (requested _ _ _ c.in-Of.n c.in-Some.head _ c.next_line.new.line (search rules) (rw c.in-Of.is at c.in_ok-next_line.ensures.ok) (rw c.bytes.ensures at c.in_ok-taken-in-Some.ensures.ok))
