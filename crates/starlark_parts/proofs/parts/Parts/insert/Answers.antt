use Rattle.std.proofs.Common.{◌∙◌, ap, arith, refl, subst}
use Rattle.std.proofs.lemmas.Result.{err_from_is_err_and}
use Rattle.starlark_parts.specs.Held.{texts_of}
use Rattle.starlark_parts.proofs.Keeping.{held_insert, insert_lacks, insert_refused, insert_taken, insert_texts, no_insert, texts_are}
use Rattle.starlark_parts.proofs.Spending.{whole_bounded}
use Rattle.starlark_parts.specs.Spent.{SpentUntil}
use Rattle.starlark_parts.proofs.parts.Parts.insert.Goals as goal

pub returns-then-index-len-clause-edit : goal.returns-then-index-len-clause-edit
returns-then-index-len-clause-edit c = (no_insert c.self.inside c.args.self.now c.self.view_is c.self.invariant c.args.index c.args.bytes.now (omega (arith, c.if-index-len.true, c.len.ensures)), texts_are c.self.inside c.args.self.now c.self.view_is c.self.invariant)

pub returns-in_err-part-clause-edit : goal.returns-in_err-part-clause-edit
returns-in_err-part-clause-edit c =
    let p = err_from_is_err_and c.from_residual.result c.from_residual.ensures.1 in
    rw (p.1, p.2) (insert_refused c.self.inside c.args.self.now c.self.view_is c.self.invariant c.args.index c.args.bytes.now _ (omega (arith, c.if-index-len.false, c.len.ensures)) refl c.in_err-part.field-0.0 c.in_err-part.ensures.err, texts_are c.self.inside c.args.self.now c.self.view_is c.self.invariant)

pub returns-in_err-put-clause-edit : goal.returns-in_err-put-clause-edit
returns-in_err-put-clause-edit c =
    let p = err_from_is_err_and c.from_residual-in_err-put.result c.from_residual-in_err-put.ensures.1 in
    rw (p.1, p.2) (
      insert_lacks c.self.inside c.args.self.now c.self.view_is c.self.invariant c.args.index c.args.bytes.now _ (omega (arith, c.if-index-len.false, c.len.ensures)) refl c.in_ok-part.part c.in_ok-part.ensures.ok,
      ap texts_of c.in_err-put.ensures ∙ texts_are c.self.inside c.args.self.now c.self.view_is c.self.invariant,
    )

pub invariant_of-self-2 : goal.invariant_of-self-2
invariant_of-self-2 c = held_insert c.self.inside _ c.self.invariant refl refl c.args.index c.in_ok-part.part c.args.bytes.now _ c.in_ok-part.ensures.ok refl c.in_ok-put.ensures refl

pub returns-clause-edit : goal.returns-clause-edit
returns-clause-edit c = (
  insert_taken c.self.inside c.args.self.now c.self.view_is c.self.invariant c.args.index c.args.bytes.now _ (omega (arith, c.if-index-len.false, c.len.ensures)) refl c.in_ok-part.part c.in_ok-part.ensures.ok,
  insert_texts c.self.inside c.args.self.now c.self.view_is c.args.index c.in_ok-part.part c.args.bytes.now c.put.new.xs.items c.in_ok-put.ensures c.in_ok-part.ensures.ok.same,
)

pub returns-in_err-part-clause-cost : goal.returns-in_err-part-clause-cost
returns-in_err-part-clause-cost c =
    let p = err_from_is_err_and c.from_residual.result c.from_residual.ensures.1 in
    rw (p.1, p.2) (subst (λ v. SpentUntil v.dialect c.args.bytes.now c.in_err-part.field-0.0 c.read_part.new.cost) c.self.view_is c.in_err-part.ensures.cost)

pub returns-in_err-put-clause-cost : goal.returns-in_err-put-clause-cost
returns-in_err-put-clause-cost c =
    let p = err_from_is_err_and c.from_residual-in_err-put.result c.from_residual-in_err-put.ensures.1 in
    rw (p.1, p.2) (whole_bounded c.in_ok-part.ensures.cost)
