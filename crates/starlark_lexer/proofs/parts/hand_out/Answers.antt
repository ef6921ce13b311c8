use Rattle.std.proofs.Common.{◌+◌, ◌∙◌, sym, ap, drop, subst, refl}
use Rattle.starlark_lexer.specs.declared.parts.Parts.{Parts}
use Rattle.starlark_lexer.specs.Scan.{turned, field_of, body_of}
use Rattle.starlark_lexer.specs.declared.token.LexemeError.TheVariants.{UnfinishedStringLiteral}
use Rattle.starlark_lexer.specs.Items.{with_fault}
use Rattle.starlark_lexer.specs.Turns.{Bounds}
use Rattle.starlark_lexer.proofs.Sounds.{mode_sound, unfinished_stretch, field_mode, body_mode}
use Rattle.starlark_lexer.proofs.Hands.{tab_left, fault_left, unfinished_left, open_left, shut_left}
use Rattle.starlark_lexer.proofs.parts.hand_out.Goals as goal

pub refuse-requires-clause-is : goal.refuse-requires-clause-is
refuse-requires-clause-is c = tab_left c.args.parts.now c.args.turn _ c.requires.ready c.requires.comes c.in-Tab.is

pub refuse-requires-in-Fault-clause-is : goal.refuse-requires-in-Fault-clause-is
refuse-requires-in-Fault-clause-is c =
    let f = c.in-Fault in
    fault_left c.args.parts.now c.args.turn f.begin f.len f.error c.requires.ready c.requires.comes f.is

pub refuse-requires-in-Unfinished-clause-is : goal.refuse-requires-in-Unfinished-clause-is
refuse-requires-in-Unfinished-clause-is c =
    let a = c.args.parts.now in
    unfinished_left a c.args.turn c.in-Unfinished.len c.requires.ready c.requires.comes c.in-Unfinished.is ∙ ap (λ b. with_fault b UnfinishedStringLiteral (a.state.place + c.in-Unfinished.len)) (sym c.begin_of-begin.ensures)

pub refuse-requires-in-Unfinished-clause-stretch : goal.refuse-requires-in-Unfinished-clause-stretch
refuse-requires-in-Unfinished-clause-stretch c =
    let a = c.args.parts.now in
    let bounds = subst (Bounds (drop a.state.place a.codemap.source)) c.in-Unfinished.is c.requires.comes.bounds in
    unfinished_stretch a.codemap.source a.state a.outer.items a.margin c.requires.whole c.in-Unfinished.len a.state.mode c.requires.whole.mode c.begin_of-begin.result c.begin_of-begin.ensures bounds

pub returns-in-Open-clause-whole : goal.returns-in-Open-clause-whole
returns-in-Open-clause-whole c =
    let a = c.args.parts.now in
    let bounds = subst (Bounds (drop a.state.place a.codemap.source)) c.in-Open.is c.requires.comes.bounds in
    mode_sound a.codemap.source a.state a.outer.items a.margin c.requires.whole 1 c.field_of.result (field_of a.state.mode) bounds (field_mode a.codemap.source a.state.place a.state.mode c.requires.whole.mode) c.field_of.ensures c.turned-parts.result c.turned-parts.ensures.value

pub returns-in-Open-clause-gives : goal.returns-in-Open-clause-gives
returns-in-Open-clause-gives c =
    let a = c.args.parts.now in
    let b : Parts = record a { state = c.turned-parts.result } in
    open_left a c.args.turn c.requires.ready c.requires.comes c.in-Open.is b refl refl refl (c.turned-parts.ensures.value ∙ ap (turned a.state 1) c.field_of.ensures) c.requires.ready.none c.requires.ready.more

pub returns-in-Shut-clause-whole : goal.returns-in-Shut-clause-whole
returns-in-Shut-clause-whole c =
    let a = c.args.parts.now in
    let bounds = subst (Bounds (drop a.state.place a.codemap.source)) c.in-Shut.is c.requires.comes.bounds in
    mode_sound a.codemap.source a.state a.outer.items a.margin c.requires.whole 1 c.body_of.result (body_of a.state.mode) bounds (body_mode a.codemap.source a.state.place a.state.mode c.requires.whole.mode) c.body_of.ensures c.turned-parts-in-Shut.result c.turned-parts-in-Shut.ensures.value

pub returns-in-Shut-clause-gives : goal.returns-in-Shut-clause-gives
returns-in-Shut-clause-gives c =
    let a = c.args.parts.now in
    let b : Parts = record a { state = c.turned-parts-in-Shut.result } in
    shut_left a c.args.turn c.requires.ready c.requires.comes c.in-Shut.is b refl refl refl (c.turned-parts-in-Shut.ensures.value ∙ ap (turned a.state 1) c.body_of.ensures) c.requires.ready.none c.requires.ready.more
