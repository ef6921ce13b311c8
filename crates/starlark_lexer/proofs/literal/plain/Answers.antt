use Rattle.std.proofs.Common.{sym, ◌∙◌, ap, subst}
use Rattle.std.specs.List.{prefix_len}
use Rattle.std.specs.Str.{IsCharBoundary}
use Rattle.starlark_lexer.specs.Fronts.{is_plain}
use Rattle.starlark_lexer.proofs.Values.{run_boundary}
use Rattle.starlark_lexer.proofs.literal.plain.Goals as goal

pub split_at-requires : goal.split_at-requires
split_at-requires c =
    subst (IsCharBoundary c.args.text.now) (sym (c.plain_len.ensures.value ∙ ap (prefix_len is_plain) c.as_bytes.ensures.value)) (run_boundary c.args.text.now)
