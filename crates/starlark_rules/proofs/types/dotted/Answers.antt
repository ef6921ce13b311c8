use Rattle.std.proofs.Common.{ℕ, ◌∙◌, List, ◌++◌, ◌∷◌, [], map, sym, ap, rules}
use Rattle.std.proofs.lemmas.List.{map-append}
use Rattle.starlark_ast.specs.Tree as t
use Rattle.starlark_ast.specs.View.{expr_at, expr_view}
use Rattle.starlark_ast.specs.Views.{expr_view-Identifier}
use Rattle.starlark_rules.specs.Forms.{attribute}
use Rattle.starlark_rulebook.specs.Types.{attributes}
use Rattle.starlark_rules.proofs.Misfits.{banned, stops_at, taken}
use Rattle.starlark_rules.proofs.types.dotted.Goals as goal

pub returns-then-eq : goal.returns-then-eq
returns-then-eq g c =
    let e = expr_at c.args.object.now in
    let bottom = c.root-bottom.result.now in
    let first = c.in-Identifier.first in
    stops_at _ _ _ c.fault-then-eq.ensures
    (banned e _ _ _ first.span bottom.span _
    (sym c.root-bottom.ensures ∙ ap (λ y. expr_view y bottom.span) c.in-Identifier.is ∙ expr_view-Identifier first bottom.span)
    (search rules)
    c.in_ok-path.ensures)

pub returns : goal.returns
returns g c =
    let e = expr_at c.args.object.now in
    let bottom = c.root-bottom.result.now in
    let first = c.in-Identifier.first in
    taken e _ _ first.span bottom.span _ _
    (sym c.root-bottom.ensures ∙ ap (λ y. expr_view y bottom.span) c.in-Identifier.is ∙ expr_view-Identifier first bottom.span)
    (search rules)
    (ap (map attribute) c.in_ok-push_at.ensures ∙ map-append attribute _ _
    ∙ ap (λ (ns : List t.Name). ns ++ (t.name_at c.as_str-2.result.now c.args.last.now.span ∷ [])) (c.in_ok-add_attributes.ensures ∙ ap (λ q. map attribute q ++ attributes e) c.new-rem.ensures.items)
    ∙ ap (λ (n : List ℕ). attributes e ++ (t.name_at n c.args.last.now.span ∷ [])) c.as_str-2.ensures.value)
