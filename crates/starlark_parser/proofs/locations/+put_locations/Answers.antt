use Rattle.std.proofs.Common.{arith, ◌∙◌, [], ◌∷◌, ◌++◌, ap, map}
use Rattle.starlark_place.specs.Place.{file_place}
use Rattle.starlark_ast.specs.View.{stmt_at}
use Rattle.starlark_parser.specs.Locations.{locations}
use Rattle.starlark_parser.proofs.Located.{all_of, behind, both, def_body, either_first, either_second, for_body, if_body, one_of, own_place}
use Rattle.starlark_grammar.proofs.Variants.{of_def, of_either, of_for, of_if}
use Rattle.starlark_parser.proofs.locations.+put_locations.Goals as goal

pub put_locations-requires : goal.put_locations-requires
put_locations-requires t c = one_of c.args.file.now.source c.args.statement.now c.in-Statements.xs c.deref-x-items.result.now c.loop-x.x-index c.x-item.result _ c.in-Statements.is c.deref-x-items.ensures.value (omega (arith, c.loop-x-test.true)) c.x-item.is c.decreases c.requires

pub returns-in-Statements : goal.returns-in-Statements
returns-in-Statements t c = all_of c.args.file.now c.args.statement.now c.in-Statements.xs c.deref-x-items.result.now c.loop-x.x-index c.args.places.now.items c.loop-x.places.items c.in-Statements.is c.deref-x-items.ensures.value (omega (arith, c.loop-x-test.false)) c.loop-x.invariant

pub file_span-requires : goal.file_span-requires
file_span-requires t c = own_place c.args.file.now.source c.args.statement.now c.in_default.not-Statements c.requires

pub put_locations-requires-in-If : goal.put_locations-requires-in-If
put_locations-requires-in-If t c = if_body c.args.file.now.source c.args.statement.now _ c.decreases c.requires c.in-If.field-0 c.in-If.body c.deref.result.now c.in-If.is c.deref.ensures

pub put_locations-requires-in-IfElse : goal.put_locations-requires-in-IfElse
put_locations-requires-in-IfElse t c = either_first c.args.file.now.source c.args.statement.now _ c.decreases c.requires c.in-IfElse.field-0 c.in-IfElse.bodies c.deref-in-IfElse.result.now c.in-IfElse.is c.deref-in-IfElse.ensures

pub put_locations-requires-in-IfElse-2 : goal.put_locations-requires-in-IfElse-2
put_locations-requires-in-IfElse-2 t c = either_second c.args.file.now.source c.args.statement.now _ c.decreases c.requires c.in-IfElse.field-0 c.in-IfElse.bodies c.deref-in-IfElse-2.result.now c.in-IfElse.is c.deref-in-IfElse-2.ensures

pub put_locations-requires-in-For : goal.put_locations-requires-in-For
put_locations-requires-in-For t c = for_body c.args.file.now.source c.args.statement.now _ c.decreases c.requires c.in-For.x c.deref-in-For.result.now c.in-For.is c.deref-in-For.ensures

pub put_locations-requires-in-Def : goal.put_locations-requires-in-Def
put_locations-requires-in-Def t c = def_body c.args.file.now.source c.args.statement.now _ c.decreases c.requires c.in-Def.x c.deref-in-Def.result.now c.in-Def.is c.deref-in-Def.ensures

pub returns-in_ok-put_locations-in-If : goal.returns-in_ok-put_locations-in-If
returns-in_ok-put_locations-in-If t c =
    behind c.args.file.now (stmt_at c.args.statement.now) c.args.statement.now.span (locations (stmt_at c.in-If.body.value)) c.args.places.now.items c.push.new.self.items c.put_locations-in-If.new.places.items (ap locations (of_if c.args.statement.now c.in-If.field-0 c.in-If.body c.in-If.is)) (c.in_ok-push.ensures.items ∙ ap (λ p. c.args.places.now.items ++ p ∷ []) c.in_ok-file_span.ensures) (c.in_ok-put_locations-in-If.ensures ∙ ap (λ y. c.push.new.self.items ++ map (file_place c.args.file.now) (locations (stmt_at y))) c.deref.ensures)

pub returns-in_ok-put_locations-in-IfElse-2 : goal.returns-in_ok-put_locations-in-IfElse-2
returns-in_ok-put_locations-in-IfElse-2 t c =
    behind c.args.file.now (stmt_at c.args.statement.now) c.args.statement.now.span _ c.args.places.now.items c.push.new.self.items c.put_locations-in-IfElse-2.new.places.items (ap locations (of_either c.args.statement.now c.in-IfElse.field-0 c.in-IfElse.bodies c.in-IfElse.is)) (c.in_ok-push.ensures.items ∙ ap (λ p. c.args.places.now.items ++ p ∷ []) c.in_ok-file_span.ensures)
    (both c.args.file.now _ _ c.push.new.self.items c.put_locations-in-IfElse.new.places.items c.put_locations-in-IfElse-2.new.places.items (c.in_ok-put_locations-in-IfElse.ensures ∙ ap (λ y. c.push.new.self.items ++ map (file_place c.args.file.now) (locations (stmt_at y.0))) c.deref-in-IfElse.ensures)
    (c.in_ok-put_locations-in-IfElse-2.ensures ∙ ap (λ y. c.put_locations-in-IfElse.new.places.items ++ map (file_place c.args.file.now) (locations (stmt_at y.1))) c.deref-in-IfElse-2.ensures))

pub returns-in_ok-put_locations-in-For : goal.returns-in_ok-put_locations-in-For
returns-in_ok-put_locations-in-For t c =
    behind c.args.file.now (stmt_at c.args.statement.now) c.args.statement.now.span _ c.args.places.now.items c.push.new.self.items c.put_locations-in-For.new.places.items (ap locations (of_for c.args.statement.now c.in-For.x c.in-For.is)) (c.in_ok-push.ensures.items ∙ ap (λ p. c.args.places.now.items ++ p ∷ []) c.in_ok-file_span.ensures) (c.in_ok-put_locations-in-For.ensures ∙ ap (λ y. c.push.new.self.items ++ map (file_place c.args.file.now) (locations (stmt_at y))) c.deref-in-For.ensures)

pub returns-in_ok-put_locations-in-Def : goal.returns-in_ok-put_locations-in-Def
returns-in_ok-put_locations-in-Def t c =
    behind c.args.file.now (stmt_at c.args.statement.now) c.args.statement.now.span _ c.args.places.now.items c.push.new.self.items c.put_locations-in-Def.new.places.items (ap locations (of_def c.args.statement.now c.in-Def.x c.in-Def.is)) (c.in_ok-push.ensures.items ∙ ap (λ p. c.args.places.now.items ++ p ∷ []) c.in_ok-file_span.ensures) (c.in_ok-put_locations-in-Def.ensures ∙ ap (λ y. c.push.new.self.items ++ map (file_place c.args.file.now) (locations (stmt_at y))) c.deref-in-Def.ensures)
