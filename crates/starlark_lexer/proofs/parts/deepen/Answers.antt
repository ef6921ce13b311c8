use Rattle.std.proofs.Common.{[], ◌∷◌, sym, ◌∙◌, drop, subst, refl}
use Rattle.starlark_lexer.specs.declared.parts.Parts.{Parts}
use Rattle.starlark_lexer.specs.Turns.{Bounds}
use Rattle.starlark_lexer.proofs.Sounds.{mode_sound}
use Rattle.starlark_lexer.proofs.Hands.{deeper_left, deeper_lacks, over_left, put}
use Rattle.starlark_lexer.proofs.parts.deepen.Goals as goal

pub returns-then-is_err-clause-gives : goal.returns-then-is_err-clause-gives
returns-then-is_err-clause-gives c = (over_left c.args.parts.now.margin c.args.parts.now.pending c.requires.ready.none, deeper_lacks c.args.parts.now c.args.turn c.requires.ready c.requires.comes c.args.width c.args.gap c.requires.is)

pub returns-clause-whole : goal.returns-clause-whole
returns-clause-whole c =
    let a = c.args.parts.now in
    let bounds = subst (Bounds (drop a.state.place a.codemap.source)) c.requires.is c.requires.comes.bounds in
    mode_sound a.codemap.source a.state a.outer.items a.margin c.requires.whole c.args.gap a.state.mode a.state.mode bounds c.requires.whole.mode refl c.turned-parts.result c.turned-parts.ensures.value

pub returns-clause-gives : goal.returns-clause-gives
returns-clause-gives c =
    let a = c.args.parts.now in
    let b : Parts = record a { widths = c.push.new.self; state = c.turned-parts.result } in
    let pushed = put c.push.result c.push.new.self.items a.widths.items (c.args.width ∷ []) c.push.ensures.items (sym c.is_err.ensures.value ∙ c.if-is_err.false) in
    deeper_left a c.args.turn c.requires.ready c.requires.comes c.args.width c.args.gap c.requires.is b refl pushed refl c.turned-parts.ensures.value c.requires.ready.none c.requires.ready.more
