use Rattle.std.proofs.Common.{◌∙◌, [], ap, subst, sym}
use Rattle.starlark_parser.specs.Tallies.{IsSound, tallied}
use Rattle.starlark_parser.proofs.Tallying.{a_new_block, from_blocks, the_same_block}
use Rattle.starlark_parser.proofs.suppression.is_suppressed.Goals as goal
use Rattle.starlark_parser.proofs.suppression.is_suppressed.Goals.{then-not-joined-i+else-suppresses, else-not-joined-i}

pub loop-i-init : goal.loop-i-init
loop-i-init c = record { sound = tt; left = from_blocks c.args.codemap.now.source c.args.name.now c.args.finding [] c.args.comments.now c.args.joined.now }

pub loop-i-preserved : goal.loop-i-preserved
loop-i-preserved c = elim c.if-not-joined-i.branch [
  | then-not-joined-i+else-suppresses w ↦ record {
    sound = c.tallied-block.ensures.sound (subst (IsSound c.args.codemap.now.source) (sym w.block-is) tt);
    left = a_new_block c.args.codemap.now.source c.args.name.now c.args.finding c.loop-i.block c.tallied-block.result c.args.comments.now c.args.joined.now c.loop-i.i c.index-comments-i.result _ c.loop-i-test.true c.requires.paired c.index-comments-i.is
        w.if-not-joined-i.true (sym w.suppresses.ensures ∙ w.if-suppresses.false) c.loop-i.invariant.left
        (c.tallied-block.ensures.is ∙ ap (λ b. tallied c.args.codemap.now.source c.args.name.now b c.index-comments-i.result) w.block-is);
  }
  | else-not-joined-i w ↦ record {
    sound = c.tallied-block.ensures.sound (subst (IsSound c.args.codemap.now.source) (sym w.block-is) c.loop-i.invariant.sound);
    left = the_same_block c.args.codemap.now.source c.args.name.now c.args.finding c.loop-i.block c.tallied-block.result c.args.comments.now c.args.joined.now c.loop-i.i c.index-comments-i.result _ c.loop-i-test.true c.requires.paired c.index-comments-i.is
        w.if-not-joined-i.false c.loop-i.invariant.left
        (c.tallied-block.ensures.is ∙ ap (λ b. tallied c.args.codemap.now.source c.args.name.now b c.index-comments-i.result) w.block-is);
  }
]
