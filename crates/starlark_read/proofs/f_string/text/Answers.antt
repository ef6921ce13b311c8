use Rattle.starlark_read.proofs.Quoting.{put, text_read}
use Rattle.starlark_read.proofs.Texts.{text_taken}
use Rattle.starlark_read.proofs.f_string.text.Goals as goal

pub returns-clause-reads : goal.returns-clause-reads
returns-clause-reads c d b ms k = put _ _ _ _ k (text_read b _ _ ms k _ _ (text_taken _ _ _ _ _ c.in-Some.is c.in_ok-found.ensures)) c.in_ok-push_doubled.ensures
