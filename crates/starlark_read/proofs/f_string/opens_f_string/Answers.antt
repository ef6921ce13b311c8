use Rattle.std.proofs.Common.{refl, rules}
use Rattle.starlark_read.proofs.Exits.{goes}
use Rattle.starlark_read.proofs.Texts.{quote_there, skipped}
use Rattle.starlark_read.proofs.f_string.opens_f_string.Goals as goal

pub returns-clause-reads : goal.returns-clause-reads
returns-clause-reads c d k = goes (skipped _ _ _ _ _ (quote_there c.args.tokens.now.items (search rules)).1 c.in_ok-skip.ensures) refl refl
