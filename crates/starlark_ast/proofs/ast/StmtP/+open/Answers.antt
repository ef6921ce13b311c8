use Rattle.std.proofs.Common.{rules, arith, ◌≡◌, refl, sym, ap, ◌∙◌, map, flat_map, ◌++◌, take, length, append_assoc}
use Rattle.std.proofs.Math.Seq.{take-length}
use Rattle.std.proofs.lemmas.List.{map-append}
use Rattle.starlark_ast.specs.Access.{top_level}
use Rattle.starlark_ast.proofs.Tops.{count_falls, top_level-other, top_level-Statements, top_level-more}
use Rattle.starlark_ast.proofs.ast.StmtP.+open.Goals as goal

pub returns-in_default : goal.returns-in_default
returns-in_default g t c =
    ap (map (λ x. x.now)) c.in_ok-push.ensures.items ∙ map-append (λ x. x.now) c.args.all.now.items _ ∙ ap (λ q. map (λ x. x.now) c.args.all.now.items ++ q) (sym (top_level-other c.args.whole.now (λ xs e. c.in_default.not-Statements xs (sym c.requires ∙ e))))

pub loop-x-preserved : goal.loop-x-preserved
loop-x-preserved g t c =
    c.in_ok-open.ensures ∙ ap (λ q. q ++ top_level c.x-item.result) c.loop-x.invariant ∙ append_assoc (map (λ x. x.now) c.args.all.now.items) _ _ ∙ ap (λ q. map (λ x. x.now) c.args.all.now.items ++ q) (sym (top_level-more c.deref-x-items.result.now c.loop-x.x-index c.x-item.result (search rules) c.x-item.is))

pub returns : goal.returns
returns g t c =
    let at_end : c.loop-x.x-index ≡ length c.deref-x-items.result.now = omega (arith, c.loop-x-test.false, c.loop-x.auto.x-index-end) in
    c.loop-x.invariant ∙ ap (λ q. map (λ x. x.now) c.args.all.now.items ++ q) (ap (flat_map top_level) (ap (λ n. take n c.deref-x-items.result.now) at_end ∙ take-length c.deref-x-items.result.now ∙ c.deref-x-items.ensures.value) ∙ sym (top_level-Statements c.args.whole.now c.in-Statements.xs (c.requires ∙ c.in-Statements.is)))

pub open-requires : goal.open-requires
open-requires g t c κs within = (count_falls c.args.self.now c.in-Statements.xs c.deref-x-items.result.now c.loop-x.x-index c.x-item.result t c.in-Statements.is c.deref-x-items.ensures.value c.loop-x-test.true c.x-item.is c.decreases, (within.0, (within.1.0, (within.1.1.0, (within.1.1.1.0, (within.1.1.1.1.0, (within.1.1.1.1.1, refl)))))))
