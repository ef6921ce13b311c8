use Rattle.std.proofs.Common.{sym, ◌∙◌, ap, subst, eqb}
use Rattle.std.specs.List.{prefix_len}
use Rattle.std.specs.Str.{IsCharBoundary}
use Rattle.starlark_lexer.proofs.Numbers.{zeros_boundary}
use Rattle.starlark_lexer.proofs.number.shortest.Goals as goal

pub range_from-requires : goal.range_from-requires
range_from-requires c =
    λ _. subst (IsCharBoundary c.args.digits.now) (sym (c.zeros.ensures ∙ ap (prefix_len (λ d. eqb d 48)) c.as_bytes.ensures.value)) (zeros_boundary c.args.digits.now c.utf8.digits)
