use Rattle.std.proofs.Common.{◌≡◌, ◌+◌, arith, ◌∙◌, ap, drop, length-drop}
use Rattle.std.specs.List.{prefix_len}
use Rattle.std.proofs.lemmas.List.{take_rest}
use Rattle.starlark_lexer.specs.Classes.{line_end, line_len}
use Rattle.starlark_lexer.specs.Fronts.{is_plain}
use Rattle.starlark_lexer.proofs.Gaps.{line_past_plain, line_on, line_stop, line_len_within}
use Rattle.starlark_lexer.proofs.scan.line_len.Goals as goal
use Rattle.starlark_lexer.proofs.scan.line_len.Goals.{then-end-bytes-via-then-end-bytes, then-end-bytes-via-else-end-bytes+then-line_end-gt0}

pub returns-then-end-bytes-clause-value : goal.returns-then-end-bytes-clause-value
returns-then-end-bytes-clause-value c =
    let xs = c.args.bytes.now in
    let at = c.loop-end.end + c.plain_len-len.result in
    let past = line_past_plain xs c.loop-end.end c.plain_len-len.result (c.plain_len-len.ensures.value ∙ ap (prefix_len is_plain) (take_rest xs c.loop-end.end)) in
    let stop : line_len (drop at xs) ≡ 0 =
    elim c.then-end-bytes.branch [
      | then-end-bytes-via-then-end-bytes w ↦ omega (arith, line_len_within (drop at xs), length-drop at xs, w.if-end-bytes.true)
      | then-end-bytes-via-else-end-bytes+then-line_end-gt0 w ↦ line_stop (drop at xs) (omega (arith, w.line_end.ensures.value ∙ ap line_end (take_rest xs at), w.if-line_end-gt0.true))
    ] in
    omega (arith, past, stop, c.loop-end.invariant.0)

pub loop-end-preserved : goal.loop-end-preserved
loop-end-preserved c =
    let xs = c.args.bytes.now in
    let at = c.loop-end.end + c.plain_len-len.result in
    let past = line_past_plain xs c.loop-end.end c.plain_len-len.result (c.plain_len-len.ensures.value ∙ ap (prefix_len is_plain) (take_rest xs c.loop-end.end)) in
    let is : c.line_end.result ≡ line_end (drop at xs) = c.line_end.ensures.value ∙ ap line_end (take_rest xs at) in
    (line_on xs at (omega arith) (omega (arith, is)) ∙ past ∙ c.loop-end.invariant.0, (omega arith, (omega arith, record { up = omega arith; least = omega arith })))
