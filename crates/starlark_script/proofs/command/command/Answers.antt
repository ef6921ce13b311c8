use Rattle.std.proofs.Common.{sym}
use Rattle.starlark_script.proofs.Lines.{four_words}
use Rattle.starlark_script.proofs.command.command.Goals as goal

pub returns-in-Some-split_once-2 : goal.returns-in-Some-split_once-2
returns-in-Some-split_once-2 c =
    let a = c.in-Some in
    let b = c.in-Some-split_once in
    let d = c.in-Some-split_once-2 in
    sym (four_words c.args.line.now a.word.now a.rest.now b.first.now b.second.now d.field-0.0.now d.field-0.1.now a.ensures b.ensures d.ensures)
