use Rattle.std.proofs.Common.{◌<◌, ◌-◌, ap, arith, length, refl, subst}
use Rattle.std.proofs.lemmas.Result.{err_from_is_err_and}
use Rattle.starlark_parts.proofs.Keeping.{held_set, no_replace, replace_refused, replace_taken, set_texts, text_at, text_short, texts_are}
use Rattle.starlark_parts.specs.Spent.{SpentUntil}
use Rattle.starlark_parts.proofs.parts.Parts.replace.Goals as goal

pub returns-then-index-len-clause-edit : goal.returns-then-index-len-clause-edit
returns-then-index-len-clause-edit c = (no_replace c.self.inside c.args.self.now c.self.view_is c.self.invariant c.args.index c.args.bytes.now (omega (arith, c.if-index-len.true, c.len.ensures)), texts_are c.self.inside c.args.self.now c.self.view_is c.self.invariant)

pub overflow_sub-others : goal.overflow_sub-others
overflow_sub-others c =
    let lt : c.args.index < length c.self.inside.parts.items = omega (arith, c.if-index-len.false, c.len.ensures) in
    omega (arith, ap length c.text.ensures, ap length (text_at c.self.inside c.args.self.now c.self.view_is c.self.invariant c.args.index c.index.result.now lt c.index.ensures), text_short c.self.inside c.args.self.now c.self.view_is c.self.invariant c.args.index lt)

pub returns-in_err-part-clause-edit : goal.returns-in_err-part-clause-edit
returns-in_err-part-clause-edit c =
    let p = err_from_is_err_and c.from_residual.result c.from_residual.ensures.1 in
    rw (p.1, p.2) (replace_refused c.self.inside c.args.self.now c.self.view_is c.self.invariant c.args.index c.args.bytes.now _ (c.self.inside.size - length c.text.result.now) c.index.result.now (omega (arith, c.if-index-len.false, c.len.ensures)) c.index.ensures (ap (λ t. c.self.inside.size - length t) c.text.ensures) refl c.in_err-part.field-0.0 c.in_err-part.ensures.err, texts_are c.self.inside c.args.self.now c.self.view_is c.self.invariant)

pub invariant_of-self-2 : goal.invariant_of-self-2
invariant_of-self-2 c =
    held_set c.self.inside _ c.self.invariant refl refl c.args.index c.in_ok-part.part c.index.result.now c.args.bytes.now (c.self.inside.size - length c.text.result.now) _ (omega (arith, c.if-index-len.false, c.len.ensures)) c.index.ensures (ap (λ t. c.self.inside.size - length t) c.text.ensures) c.in_ok-part.ensures.ok refl c.exchange.ensures refl

pub returns-clause-edit : goal.returns-clause-edit
returns-clause-edit c = (
  replace_taken c.self.inside c.args.self.now c.self.view_is c.self.invariant c.args.index c.args.bytes.now _ (c.self.inside.size - length c.text.result.now) c.index.result.now (omega (arith, c.if-index-len.false, c.len.ensures)) c.index.ensures (ap (λ t. c.self.inside.size - length t) c.text.ensures) refl c.in_ok-part.part c.in_ok-part.ensures.ok,
  set_texts c.self.inside c.args.self.now c.self.view_is c.args.index c.in_ok-part.part c.args.bytes.now c.exchange.new.xs.items c.exchange.ensures c.in_ok-part.ensures.ok.same,
)

pub returns-in_err-part-clause-cost : goal.returns-in_err-part-clause-cost
returns-in_err-part-clause-cost c =
    let p = err_from_is_err_and c.from_residual.result c.from_residual.ensures.1 in
    rw (p.1, p.2) (subst (λ v. SpentUntil v.dialect c.args.bytes.now c.in_err-part.field-0.0 c.read_part.new.cost) c.self.view_is c.in_err-part.ensures.cost)
