use Rattle.std.proofs.Common.{◌∙◌, ap, drop, subst, refl}
use Rattle.starlark_lexer.specs.declared.parts.Parts.{Parts}
use Rattle.starlark_lexer.specs.Scan.{turned}
use Rattle.starlark_lexer.specs.Turns.{Bounds}
use Rattle.starlark_lexer.proofs.Sounds.{leave_sound}
use Rattle.starlark_lexer.proofs.Hands.{leave_left}
use Rattle.starlark_lexer.proofs.parts.leave.Goals as goal

pub returns-clause-whole : goal.returns-clause-whole
returns-clause-whole c =
    let a = c.args.parts.now in
    let bounds = subst (Bounds (drop a.state.place a.codemap.source)) c.requires.is c.requires.comes.bounds in
    leave_sound a.codemap.source a.state a.outer.items a.margin c.requires.whole c.args.len bounds c.turned-parts.result c.pop-below.new.outer.items c.pop-below.result c.pop-below.ensures.mode c.turned-parts.ensures.value c.pop-below.ensures.rest

pub returns-clause-gives : goal.returns-clause-gives
returns-clause-gives c =
    let a = c.args.parts.now in
    let b : Parts = record a { outer = c.pop-below.new.outer; state = c.turned-parts.result } in
    leave_left a c.args.turn c.args.len c.requires.ready c.requires.comes c.requires.is b refl refl c.pop-below.ensures.rest (c.turned-parts.ensures.value ∙ ap (turned a.state c.args.len) c.pop-below.ensures.mode) c.requires.ready.none c.requires.ready.more
