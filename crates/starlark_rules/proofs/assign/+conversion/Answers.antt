use Rattle.std.proofs.Common.{◌≡◌, ◌∙◌, ◌∷◌, [], ◌++◌, IfOk, sym, ap, subst, reverse, append_assoc, arith, rules}
use Rattle.std.proofs.lemmas.List.{reverse-append}
use Rattle.starlark_ast.specs.View.{expr_at, target_at}
use Rattle.starlark_rulebook.specs.Targets as targets
use Rattle.starlark_rules.proofs.Converting.{clean_member, lighter_member, converted_more}
use Rattle.starlark_rules.proofs.assign.+conversion.Goals as goal

pub several-target-requires : goal.several-target-requires
several-target-requires n c =
    let e = sym (ap (λ q. c.loop-x.invariant.0 ++ reverse q) c.in-Some.ensures.items ∙ ap (λ q. c.loop-x.invariant.0 ++ q) (reverse-append c.pop.new.self.items (c.in-Some.x ∷ []))) ∙ c.loop-x.invariant.1 in
    let l = lighter_member c.loop-x.invariant.0 c.in-Some.x (reverse c.pop.new.self.items) c.args.xs.items e in
    (first_of (omega (arith, l), search (rules, l), grind (arith, l)), clean_member c.loop-x.invariant.0 c.in-Some.x (reverse c.pop.new.self.items) c.args.xs.items e c.requires)

pub several-loop-x-preserved : goal.several-loop-x-preserved
several-loop-x-preserved n c =
    let front = c.loop-x.invariant.0 in
    let x = c.in-Some.x in
    let e = sym (ap (λ q. front ++ reverse q) c.in-Some.ensures.items ∙ ap (λ q. front ++ q) (reverse-append c.pop.new.self.items (x ∷ []))) ∙ c.loop-x.invariant.1 in
    let made = c.in_ok-more.ensures.more in
    let here = subst (λ r. IfOk r (λ t. target_at t ≡ targets.target_of (expr_at x))) made.1 c.target.ensures in (
      front ++ (x ∷ []),
      ap (λ r. (front ++ (x ∷ [])) ++ reverse r.items) c.in_ok-more.ensures.waiting ∙ append_assoc front (x ∷ []) (reverse c.pop.new.self.items) ∙ e,
      converted_more front x c.loop-x.done.items c.in_ok-more.more.items made.0 made.2 c.loop-x.invariant.2 here,
    )

pub target-several-requires : goal.target-several-requires
target-several-requires n c =
    let h = c.in-Several.ensures c.args.x.span in
    (first_of (omega (arith, h.less), search (rules, h.less), grind (arith, h.less)), sym h.fault ∙ c.requires)
