use Rattle.std.proofs.Common.{◌∙◌, ap, subst}
use Rattle.starlark_place.specs.Place.{line_at, trimmed_extent}
use Rattle.starlark_parser.specs.Tallies.{IsSound}
use Rattle.starlark_parser.specs.declared.suppression.Tally.{Tally}
use Rattle.starlark_parser.proofs.Tallying.{sound_first, sound_more}
use Rattle.starlark_parser.proofs.suppression.tallied.Goals as goal
use Rattle.starlark_parser.proofs.suppression.tallied.Goals.{in-None, in-Some}

pub returns-clause-sound : goal.returns-clause-sound
returns-clause-sound c = elim c.match-block.branch [
  | in-None w ↦ λ _. sound_first c.args.codemap.now.source c.args.comment c.line_span_trim_newline-lines.result c.requires c.line_span_trim_newline-lines.ensures.holds
      (c.line_span_trim_newline-lines.ensures.is ∙ ap (trimmed_extent c.args.codemap.now.source) (c.find_line.ensures ∙ ap (line_at c.args.codemap.now.source) c.begin.ensures.is))
      c.match-block.result (ap (λ (t : Tally). t.token) w.result-is) (ap (λ (t : Tally). t.lines) w.result-is)
  | in-Some w ↦ λ s. sound_more c.args.codemap.now.source w.in-Some.tally c.args.comment c.line_span_trim_newline-lines.result (subst (IsSound c.args.codemap.now.source) w.in-Some.is s) c.requires c.line_span_trim_newline-lines.ensures.holds
      (c.line_span_trim_newline-lines.ensures.is ∙ ap (trimmed_extent c.args.codemap.now.source) (c.find_line.ensures ∙ ap (line_at c.args.codemap.now.source) c.begin.ensures.is))
      c.match-block.result (ap (λ (t : Tally). t.token) w.result-is ∙ w.merge.ensures) (ap (λ (t : Tally). t.lines) w.result-is ∙ w.merge-in-Some.ensures)
]
