use Rattle.std.proofs.Common.{◌≡◌, ap, ◌∙◌, rules, arith, length, max}
use Rattle.starlark_place.specs.Place.{extent}
use Rattle.starlark_ast.specs.Tree.{block}
use Rattle.starlark_grammar.specs.Made.{sequence_of}
use Rattle.starlark_read.proofs.Rows.{block_of_others}
use Rattle.starlark_read.proofs.block.block.Goals as goal

pub returns : goal.returns
returns g c =
    let f = g.B.Build.says in
    let xs = c.args.statements.items in
    let b = c.begin_of-begin.result in
    let end : c.max.result ≡ max b c.args.end = search rules in
    let same = c.deref.ensures.value in
    c.block.ensures ∙ ap (block (sequence_of f xs)) (c.new.ensures ∙ ap (extent b) end) ∙ block_of_others f xs b c.args.end (λ h. c.if-len-eq1.false (omega (arith, c.len.ensures, c.deref.ensures.len, ap length same, h))) (λ h. c.begin_of-begin.ensures.none (same ∙ h)) (λ x ys h. c.begin_of-begin.ensures.some x ys (same ∙ h))
