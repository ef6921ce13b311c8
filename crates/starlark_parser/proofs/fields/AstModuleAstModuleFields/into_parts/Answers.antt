use Rattle.std.proofs.Common.{ap, ◌∙◌}
use Rattle.starlark_parser.specs.Modules.{asks_for_types}
use Rattle.starlark_parser.proofs.fields.AstModuleAstModuleFields.into_parts.Goals as goal

pub returns-clause-types : goal.returns-clause-types
returns-clause-types c = c.contains-types.ensures ∙ ap asks_for_types c.source.ensures.is
