use Rattle.std.proofs.Common.{◌≡◌, arith, rules, []}
use Rattle.std.proofs.lemmas.Result.{err_from_is_err_and, IfErr-weaker, IfOk-weaker}
use Rattle.std.proofs.lemmas.Grind.{common_steps}
use Rattle.starlark_script.proofs.Blocks.{begun, block_written, line_put, block_broken, all_written}
use Rattle.starlark_script.proofs.engine.write_outline.Goals.{then-is_full+in_ok-write_all, else-is_full}
use Rattle.starlark_script.proofs.engine.write_outline.Goals as goal

pub loop-item-init : goal.loop-item-init
loop-item-init g c =
    let same : c.into_iter-item-iterator.result ≡ c.args.items = search rules in
    record {
      told = rw (same, c.count-block.ensures, c.len.ensures) (begun _ c.args.items);
      sound = first_of (search rules, grind (arith, common_steps));
      still = first_of (search rules, grind (arith, common_steps));
    }

pub returns-in_err-write_all-clause-front : goal.returns-in_err-write_all-clause-front
returns-in_err-write_all-clause-front g c =
    let p = err_from_is_err_and c.from_residual.result c.from_residual.ensures.1 in
    rw p.1 (block_broken _ _ _ c.args.items c.loop-item.block _ c.loop-item.invariant.told (rw c.as_slice.ensures at c.in_err-write_all.ensures.front))

pub loop-item-preserved : goal.loop-item-preserved
loop-item-preserved g c =
    let left = rw c.in-Some.ensures.steps at c.loop-item.invariant.told in
    record {
      told = elim c.if-is_full.branch [
        | then-is_full+in_ok-write_all w ↦
            rw (c.push_statement.ensures, w.block-is, w.writer-is, w.clear.ensures)
            (line_put _ _ c.args.items [] c.in-Some.item _ (block_written _ _ _ c.args.items c.loop-item.block _ left (rw w.as_slice.ensures at w.in_ok-write_all.ensures.ok)))
        | else-is_full w ↦ rw (c.push_statement.ensures, w.block-is, w.writer-is) (line_put _ _ c.args.items c.loop-item.block c.in-Some.item _ left)
      ];
      sound = first_of (search rules, grind (arith, common_steps));
      still = first_of (search rules, grind (arith, common_steps));
    }

pub returns-clause-ok : goal.returns-clause-ok
returns-clause-ok g c =
    let left = rw c.in-None.ensures.steps.0 at c.loop-item.invariant.told in
    IfOk-weaker c.write_all-2.result _ _ (λ _ h. all_written _ _ _ c.args.items c.loop-item.block left (rw c.as_slice-2.ensures at h)) c.write_all-2.ensures.ok

pub returns-clause-front : goal.returns-clause-front
returns-clause-front g c =
    IfErr-weaker c.write_all-2.result _ _ (λ _ h. block_broken _ _ _ c.args.items c.loop-item.block _ c.loop-item.invariant.told (rw c.as_slice-2.ensures at h)) c.write_all-2.ensures.front
