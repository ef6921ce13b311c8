use mathlib.Core.Path.{fun_ext}
use Rattle.starlark_payload.proofs.Parts.{late}
use Rattle.starlark_payload.proofs.statement_mapping.load.Goals as goal

pub returns : goal.returns
returns g c = record { kept = fun_ext (λ s. c.in_ok-parts.ensures.kept s); called = c.in_ok-parts.ensures.called }

pub returns-in_err-parts : goal.returns-in_err-parts
returns-in_err-parts g c = late _ _ _ _ _ c.from_residual.ensures.1 c.in_err-parts.ensures.stopped
