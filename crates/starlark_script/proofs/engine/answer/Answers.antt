use Rattle.std.specs.Prelude.{codes}
use Rattle.std.proofs.lemmas.Result.{IfErr-weaker, IfOk-weaker}
use Rattle.starlark_parts.specs.Kept.{inserts, replaces, removes, moves}
use Rattle.starlark_script.specs.Script.Does.{wanting, outlined}
use Rattle.starlark_script.specs.Printed.{edit_line, outline_lines}
use Rattle.starlark_script.proofs.Edits.{edit_does}
use Rattle.starlark_script.proofs.Outlined.{have_after}
use Rattle.starlark_script.proofs.engine.answer.Goals as goal

pub returns-in-Insert-clause-ok : goal.returns-in-Insert-clause-ok
returns-in-Insert-clause-ok g c =
    let d = rw c.as_slice.ensures.value at c.insert-done.ensures.edit in
    rw c.in-Insert.is (IfOk-weaker c.write_done.result _ _ (λ _ h. (edit_line c.insert-done.result, edit_does c.args.parts.now (inserts c.in-Insert.index c.in-Insert.text.items) c.insert-done.result c.insert-done.new.self.texts d, h)) c.write_done.ensures.ok)

pub returns-in-Insert-clause-front : goal.returns-in-Insert-clause-front
returns-in-Insert-clause-front g c =
    let d = rw c.as_slice.ensures.value at c.insert-done.ensures.edit in
    rw c.in-Insert.is (IfErr-weaker c.write_done.result _ _ (λ _ h. (edit_line c.insert-done.result, edit_does c.args.parts.now (inserts c.in-Insert.index c.in-Insert.text.items) c.insert-done.result c.insert-done.new.self.texts d, h)) c.write_done.ensures.front)

pub returns-in-Insert-clause-outlined : goal.returns-in-Insert-clause-outlined
returns-in-Insert-clause-outlined g c =
    let d = rw c.as_slice.ensures.value at c.insert-done.ensures.edit in
    rw c.insert-done.ensures.dialect (have_after c.good_trees.ensures.worded c.args.parts.now (inserts c.in-Insert.index c.in-Insert.text.items) c.insert-done.result c.insert-done.new.self.texts d c.requires.outlined)

pub returns-in-Replace-clause-ok : goal.returns-in-Replace-clause-ok
returns-in-Replace-clause-ok g c =
    let d = rw c.as_slice-in-Replace.ensures.value at c.replace-done.ensures.edit in
    rw c.in-Replace.is (IfOk-weaker c.write_done-in-Replace.result _ _ (λ _ h. (edit_line c.replace-done.result, edit_does c.args.parts.now (replaces c.in-Replace.index c.in-Replace.text.items) c.replace-done.result c.replace-done.new.self.texts d, h)) c.write_done-in-Replace.ensures.ok)

pub returns-in-Replace-clause-front : goal.returns-in-Replace-clause-front
returns-in-Replace-clause-front g c =
    let d = rw c.as_slice-in-Replace.ensures.value at c.replace-done.ensures.edit in
    rw c.in-Replace.is (IfErr-weaker c.write_done-in-Replace.result _ _ (λ _ h. (edit_line c.replace-done.result, edit_does c.args.parts.now (replaces c.in-Replace.index c.in-Replace.text.items) c.replace-done.result c.replace-done.new.self.texts d, h)) c.write_done-in-Replace.ensures.front)

pub returns-in-Replace-clause-outlined : goal.returns-in-Replace-clause-outlined
returns-in-Replace-clause-outlined g c =
    let d = rw c.as_slice-in-Replace.ensures.value at c.replace-done.ensures.edit in
    rw c.replace-done.ensures.dialect (have_after c.good_trees.ensures.worded c.args.parts.now (replaces c.in-Replace.index c.in-Replace.text.items) c.replace-done.result c.replace-done.new.self.texts d c.requires.outlined)

pub returns-in-Remove-clause-ok : goal.returns-in-Remove-clause-ok
returns-in-Remove-clause-ok g c =
    let d = c.remove-done.ensures.edit in
    rw c.in-Remove.is (IfOk-weaker c.write_done-in-Remove.result _ _ (λ _ h. (edit_line c.remove-done.result, edit_does c.args.parts.now (removes c.in-Remove.index) c.remove-done.result c.remove-done.new.self.texts d, h)) c.write_done-in-Remove.ensures.ok)

pub returns-in-Remove-clause-front : goal.returns-in-Remove-clause-front
returns-in-Remove-clause-front g c =
    let d = c.remove-done.ensures.edit in
    rw c.in-Remove.is (IfErr-weaker c.write_done-in-Remove.result _ _ (λ _ h. (edit_line c.remove-done.result, edit_does c.args.parts.now (removes c.in-Remove.index) c.remove-done.result c.remove-done.new.self.texts d, h)) c.write_done-in-Remove.ensures.front)

pub returns-in-Remove-clause-outlined : goal.returns-in-Remove-clause-outlined
returns-in-Remove-clause-outlined g c =
    let d = c.remove-done.ensures.edit in
    rw c.remove-done.ensures.dialect (have_after c.good_trees.ensures.worded c.args.parts.now (removes c.in-Remove.index) c.remove-done.result c.remove-done.new.self.texts d c.requires.outlined)

pub returns-in-Move-clause-ok : goal.returns-in-Move-clause-ok
returns-in-Move-clause-ok g c =
    let d = c.move_part-done.ensures.edit in
    rw c.in-Move.is (IfOk-weaker c.write_done-in-Move.result _ _ (λ _ h. (edit_line c.move_part-done.result, edit_does c.args.parts.now (moves c.in-Move.from c.in-Move.to) c.move_part-done.result c.move_part-done.new.self.texts d, h)) c.write_done-in-Move.ensures.ok)

pub returns-in-Move-clause-front : goal.returns-in-Move-clause-front
returns-in-Move-clause-front g c =
    let d = c.move_part-done.ensures.edit in
    rw c.in-Move.is (IfErr-weaker c.write_done-in-Move.result _ _ (λ _ h. (edit_line c.move_part-done.result, edit_does c.args.parts.now (moves c.in-Move.from c.in-Move.to) c.move_part-done.result c.move_part-done.new.self.texts d, h)) c.write_done-in-Move.ensures.front)

pub returns-in-Move-clause-outlined : goal.returns-in-Move-clause-outlined
returns-in-Move-clause-outlined g c =
    let d = c.move_part-done.ensures.edit in
    rw c.move_part-done.ensures.dialect (have_after c.good_trees.ensures.worded c.args.parts.now (moves c.in-Move.from c.in-Move.to) c.move_part-done.result c.move_part-done.new.self.texts d c.requires.outlined)

pub returns-in-Wanting-clause-ok : goal.returns-in-Wanting-clause-ok
returns-in-Wanting-clause-ok g c =
    rw c.in-Wanting.is (IfOk-weaker c.write_all.result _ _ (λ _ h. (codes "refused memory\n", (λ edit text e. wanting c.args.parts.now.texts edit text e), h)) c.write_all.ensures.ok)

pub returns-in-Wanting-clause-front : goal.returns-in-Wanting-clause-front
returns-in-Wanting-clause-front g c =
    rw c.in-Wanting.is (IfErr-weaker c.write_all.result _ _ (λ _ h. (codes "refused memory\n", (λ edit text e. wanting c.args.parts.now.texts edit text e), h)) c.write_all.ensures.front)

pub returns-in-Outline-clause-ok : goal.returns-in-Outline-clause-ok
returns-in-Outline-clause-ok g c =
    rw c.in-Outline.is (IfOk-weaker c.write_outline.result _ _ (λ _ h. (outline_lines c.items.result, outlined c.args.parts.now.texts c.items.result c.items.ensures, h)) c.write_outline.ensures.ok)

pub returns-in-Outline-clause-front : goal.returns-in-Outline-clause-front
returns-in-Outline-clause-front g c =
    rw c.in-Outline.is (IfErr-weaker c.write_outline.result _ _ (λ _ h. (outline_lines c.items.result, outlined c.args.parts.now.texts c.items.result c.items.ensures, h)) c.write_outline.ensures.front)
