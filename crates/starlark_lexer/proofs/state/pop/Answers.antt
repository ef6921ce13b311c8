use Rattle.std.proofs.Common.{ap, sym, ◌∙◌}
use Rattle.starlark_lexer.specs.Scan.{last_mode}
use Rattle.starlark_lexer.proofs.Modes.{last_more}
use Rattle.starlark_lexer.proofs.state.pop.Goals as goal

pub returns-in-Some-clause-mode : goal.returns-in-Some-clause-mode
returns-in-Some-clause-mode c = sym (ap last_mode c.in-Some.ensures.items ∙ last_more c.pop.new.self.items c.in-Some.mode)
