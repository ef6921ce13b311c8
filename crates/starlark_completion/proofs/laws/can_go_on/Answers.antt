use Rattle.starlark_completion.proofs.Texts.{can_go_on}
use Rattle.starlark_completion.proofs.laws.can_go_on.Goals as goal

pub returns : goal.returns
returns c = can_go_on (record { sound = c.sound.ensures; complete = c.complete.ensures.accepts; completes = c.goes_on.ensures; stuck_at_dead = c.stuck_at_dead.ensures }) (record {
  order = c.in_order.ensures.order;
  empty = c.empty_text.ensures;
  line = c.cut_off_fields.ensures.line;
  text = c.cut_off_fields.ensures.text;
  closed_line = c.cut_off_lines.ensures.line;
  deepened = c.cut_off_indents.ensures.line;
  indented = c.cut_off_indents.ensures.indent;
  filled = c.cut_off_blocks.ensures.line;
  filled_dedent = c.cut_off_blocks.ensures.dedent;
  ended_line = c.cut_off_whole.ensures.newline;
  ended_dedent = c.cut_off_whole.ensures.dedent;
  width = c.cut_off_kinds.ensures.newline_width;
  continued = c.cut_off_ends.ensures.newline;
})
