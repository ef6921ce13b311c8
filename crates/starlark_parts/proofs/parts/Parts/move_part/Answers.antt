use Rattle.std.proofs.Common.{arith, refl}
use Rattle.starlark_parts.proofs.Keeping.{held_move, move_taken, move_texts, no_move_from, no_move_to, texts_are}
use Rattle.starlark_parts.proofs.parts.Parts.move_part.Goals as goal

pub returns-then-from-len-clause-edit : goal.returns-then-from-len-clause-edit
returns-then-from-len-clause-edit c = (no_move_from c.self.inside c.args.self.now c.self.view_is c.self.invariant c.args.from c.args.to (omega (arith, c.if-from-len.true, c.len.ensures)), texts_are c.self.inside c.args.self.now c.self.view_is c.self.invariant)

pub returns-then-to-len-clause-edit : goal.returns-then-to-len-clause-edit
returns-then-to-len-clause-edit c = (no_move_to c.self.inside c.args.self.now c.self.view_is c.self.invariant c.args.from c.args.to (omega (arith, c.if-to-len.true, c.len-2.ensures)), texts_are c.self.inside c.args.self.now c.self.view_is c.self.invariant)

pub invariant_of-self-2 : goal.invariant_of-self-2
invariant_of-self-2 c = held_move c.self.inside _ c.self.invariant refl refl c.args.from c.args.to (omega (arith, c.if-from-len.false, c.len.ensures)) c.move_entry.ensures refl

pub returns-clause-edit : goal.returns-clause-edit
returns-clause-edit c = (
  move_taken c.self.inside c.args.self.now c.self.view_is c.self.invariant c.args.from c.args.to (omega (arith, c.if-from-len.false, c.len.ensures)) (omega (arith, c.if-to-len.false, c.len-2.ensures)),
  move_texts c.self.inside c.args.self.now c.self.view_is c.args.from c.args.to c.move_entry.new.xs.items (omega (arith, c.if-from-len.false, c.len.ensures)) c.move_entry.ensures,
)
