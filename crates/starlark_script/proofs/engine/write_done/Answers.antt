use Rattle.std.proofs.lemmas.Result.{IfErr-weaker}
use Rattle.starlark_script.proofs.engine.write_done.Goals as goal

pub returns-in-Err-clause-front : goal.returns-in-Err-clause-front
returns-in-Err-clause-front g c = rw c.in-Err.is (IfErr-weaker c.write_all-in-Err.result _ _ (λ _ h. rw (c.as_slice.ensures, c.refusal.ensures) at h) c.write_all-in-Err.ensures.front)
