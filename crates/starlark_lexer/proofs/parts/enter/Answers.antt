use Rattle.std.proofs.Common.{[], ◌∷◌, sym, ◌∙◌, drop, subst, refl}
use Rattle.starlark_lexer.specs.declared.parts.Parts.{Parts}
use Rattle.starlark_lexer.specs.Turns.{Bounds}
use Rattle.starlark_lexer.proofs.Sounds.{enter_sound}
use Rattle.starlark_lexer.proofs.Hands.{enter_left, enter_lacks, over_left, put}
use Rattle.starlark_lexer.proofs.parts.enter.Goals as goal

pub returns-then-is_err-clause-gives : goal.returns-then-is_err-clause-gives
returns-then-is_err-clause-gives c = (over_left c.args.parts.now.margin c.args.parts.now.pending c.requires.ready.none, enter_lacks c.args.parts.now c.args.turn c.args.form c.args.len c.requires.ready c.requires.comes c.requires.is)

pub returns-clause-whole : goal.returns-clause-whole
returns-clause-whole c =
    let a = c.args.parts.now in
    let bounds = subst (Bounds (drop a.state.place a.codemap.source)) c.requires.is c.requires.comes.bounds in
    let pushed = put c.push.result c.push.new.self.items a.outer.items (a.state.mode ∷ []) c.push.ensures.items (sym c.is_err.ensures.value ∙ c.if-is_err.false) in
    enter_sound a.codemap.source a.state a.outer.items a.margin c.requires.whole c.args.len c.args.form bounds.0 bounds.1 c.turned-parts.result c.push.new.self.items c.turned-parts.ensures.value pushed

pub returns-clause-gives : goal.returns-clause-gives
returns-clause-gives c =
    let a = c.args.parts.now in
    let b : Parts = record a { outer = c.push.new.self; state = c.turned-parts.result } in
    let pushed = put c.push.result c.push.new.self.items a.outer.items (a.state.mode ∷ []) c.push.ensures.items (sym c.is_err.ensures.value ∙ c.if-is_err.false) in
    enter_left a c.args.turn c.args.form c.args.len c.requires.ready c.requires.comes c.requires.is b refl refl pushed c.turned-parts.ensures.value c.requires.ready.none c.requires.ready.more
