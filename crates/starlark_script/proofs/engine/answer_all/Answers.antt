use Rattle.std.proofs.Common.{arith, rules}
use Rattle.std.proofs.lemmas.Result.{err_from_is_err_and}
use Rattle.std.proofs.lemmas.Grind.{common_steps}
use Rattle.starlark_script.proofs.Runs.{going_on, going_whole, going_bad, going_unread, going_unwritten, going_unbroken, going_so_far, going_first}
use Rattle.starlark_script.proofs.engine.answer_all.Goals as goal

pub commands-init : goal.commands-init
commands-init g c = record {
  going = going_first c.args.parts.now.limit c.args.parts.now.dialect _ _ c.args.parts.now.texts c.args.ahead.now c.requires.parts c.requires.bytes;
  limit = first_of (search rules, grind (arith, common_steps));
  dialect = first_of (search rules, grind (arith, common_steps));
  outlined = rw c.requires.parts tt;
  reads = first_of (search rules, grind (arith, common_steps));
  writes = first_of (search rules, grind (arith, common_steps));
  still = first_of (search rules, grind (arith, common_steps));
  fewer = first_of (search rules, grind (arith, common_steps));
  count = first_of (search rules, grind (arith, common_steps));
  paid = first_of (search rules, grind (arith, common_steps));
  ends = first_of (search rules, grind (arith, common_steps));
}

pub returns-in_err-next_request-clause-front : goal.returns-in_err-next_request-clause-front
returns-in_err-next_request-clause-front g c =
    let p = err_from_is_err_and c.from_residual.result c.from_residual.ensures.1 in
    rw p.1 (going_unread c.joined_outline.ensures c.args.parts.now.limit c.args.parts.now.dialect _ _ c.commands.parts.texts _ _ (rw c.commands.invariant.dialect at c.commands.invariant.outlined) c.commands.invariant.going)

pub returns-in_err-next_request-clause-whole : goal.returns-in_err-next_request-clause-whole
returns-in_err-next_request-clause-whole g c =
    let p = err_from_is_err_and c.from_residual.result c.from_residual.ensures.1 in
    rw p.1 (λ e. going_so_far c.args.parts.now.limit c.args.parts.now.dialect _ _ c.commands.parts.texts _ _ _ c.commands.invariant.going c.in_err-next_request.ensures.cut)

pub returns-in-Whole-clause-ok : goal.returns-in-Whole-clause-ok
returns-in-Whole-clause-ok g c =
    going_whole c.args.parts.now.limit c.args.parts.now.dialect _ _ c.commands.parts.texts _ _ _ c.commands.invariant.going (rw c.in-Whole.is at c.in_ok-next_request.ensures.ok)

pub returns-in_err-write_all-in-Bad-clause-front : goal.returns-in_err-write_all-in-Bad-clause-front
returns-in_err-write_all-in-Bad-clause-front g c =
    let r = c.from_residual-in_err-write_all-in-Bad in
    let p = err_from_is_err_and r.result r.ensures.1 in
    rw p.1 (going_unbroken c.args.parts.now.limit c.args.parts.now.dialect _ _ c.commands.parts.texts _ _ _ _ c.commands.invariant.going (rw c.in-Bad.is at c.in_ok-next_request.ensures.ok) c.in_err-write_all-in-Bad.ensures.front)

pub returns-in-Bad-clause-ok : goal.returns-in-Bad-clause-ok
returns-in-Bad-clause-ok g c =
    going_bad c.args.parts.now.limit c.args.parts.now.dialect _ _ c.commands.parts.texts _ _ _ _ c.commands.invariant.going (rw c.in-Bad.is at c.in_ok-next_request.ensures.ok) c.in_ok-write_all-in-Bad.ensures.ok

pub returns-in_err-answer-in-Does-clause-front : goal.returns-in_err-answer-in-Does-clause-front
returns-in_err-answer-in-Does-clause-front g c =
    let r = c.from_residual-in_err-answer-in-Does in
    let p = err_from_is_err_and r.result r.ensures.1 in
    let f = rw (c.commands.invariant.limit, c.commands.invariant.dialect) at c.in_err-answer-in-Does.ensures.front in
    let o = rw (c.answer.ensures.dialect, c.commands.invariant.dialect) at c.answer.ensures.outlined in
    rw p.1 (going_unwritten c.joined_outline.ensures c.args.parts.now.limit c.args.parts.now.dialect _ _ c.commands.parts.texts c.answer.new.parts.texts _ _ _ _ c.in-Does.asked f.0 o c.commands.invariant.going (rw c.in-Does.is at c.in_ok-next_request.ensures.ok) f.1 f.2)

pub commands-preserved : goal.commands-preserved
commands-preserved g c =
    let f = rw (c.commands.invariant.limit, c.commands.invariant.dialect) at c.in_ok-answer-in-Does.ensures.ok in
    record {
      going = going_on c.args.parts.now.limit c.args.parts.now.dialect _ _ c.commands.parts.texts c.answer.new.parts.texts _ _ _ _ c.in-Does.asked f.0 c.commands.invariant.going (rw c.in-Does.is at c.in_ok-next_request.ensures.ok) f.1 f.2;
      limit = first_of (search rules, grind (arith, common_steps));
      dialect = first_of (search rules, grind (arith, common_steps));
      outlined = first_of (search rules, grind (arith, common_steps));
      reads = first_of (search rules, grind (arith, common_steps));
      writes = first_of (search rules, grind (arith, common_steps));
      still = first_of (search rules, grind (arith, common_steps));
      fewer = first_of (search rules, grind (arith, common_steps));
      count = first_of (search rules, grind (arith, common_steps));
      paid = first_of (search rules, grind (arith, common_steps));
      ends = first_of (search rules, grind (arith, common_steps));
    }
