use Rattle.std.proofs.Common.{◌<◌, ◌-◌, ap, arith, length, refl}
use Rattle.starlark_parts.proofs.Keeping.{held_remove, no_remove, remove_taken, remove_texts, text_at, text_short, texts_are}
use Rattle.starlark_parts.proofs.parts.Parts.remove.Goals as goal

pub returns-then-index-len-clause-edit : goal.returns-then-index-len-clause-edit
returns-then-index-len-clause-edit c = (no_remove c.self.inside c.args.self.now c.self.view_is c.self.invariant c.args.index (omega (arith, c.if-index-len.true, c.len.ensures)), texts_are c.self.inside c.args.self.now c.self.view_is c.self.invariant)

pub overflow_sub-self : goal.overflow_sub-self
overflow_sub-self c =
    let lt : c.args.index < length c.self.inside.parts.items = omega (arith, c.if-index-len.false, c.len.ensures) in
    omega (arith, ap length c.text.ensures, ap length (text_at c.self.inside c.args.self.now c.self.view_is c.self.invariant c.args.index c.index.result.now lt c.index.ensures), text_short c.self.inside c.args.self.now c.self.view_is c.self.invariant c.args.index lt)

pub invariant_of-self-2 : goal.invariant_of-self-2
invariant_of-self-2 c =
    held_remove c.self.inside _ c.self.invariant refl refl c.args.index c.index.result.now (omega (arith, c.if-index-len.false, c.len.ensures)) c.index.ensures c.leave_out.ensures (ap (λ t. c.self.inside.size - length t) c.text.ensures)

pub returns-clause-edit : goal.returns-clause-edit
returns-clause-edit c = (
  remove_taken c.self.inside c.args.self.now c.self.view_is c.self.invariant c.args.index (omega (arith, c.if-index-len.false, c.len.ensures)),
  remove_texts c.self.inside c.args.self.now c.self.view_is c.args.index c.leave_out.new.xs.items c.leave_out.ensures,
)
