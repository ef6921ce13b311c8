use Rattle.std.proofs.Common.{◌-◌, arith, drop, subst, ap, refl}
use Rattle.starlark_lexer.specs.declared.parts.Parts.{Parts}
use Rattle.starlark_lexer.specs.Turns.{Bounds}
use Rattle.starlark_lexer.proofs.Sounds.{mode_sound, with_margin}
use Rattle.starlark_lexer.proofs.Hands.{fits_left, fits_more}
use Rattle.starlark_lexer.proofs.parts.fit.Goals as goal

pub returns-then-closed-eq0-clause-whole : goal.returns-then-closed-eq0-clause-whole
returns-then-closed-eq0-clause-whole c =
    let a = c.args.parts.now in
    let bounds = subst (Bounds (drop a.state.place a.codemap.source)) c.requires.is c.requires.comes.bounds in
    mode_sound a.codemap.source a.state a.outer.items a.margin c.requires.whole c.args.gap a.state.mode a.state.mode bounds c.requires.whole.mode refl c.turned-parts.result c.turned-parts.ensures.value

pub returns-then-closed-eq0-clause-gives : goal.returns-then-closed-eq0-clause-gives
returns-then-closed-eq0-clause-gives c =
    let a = c.args.parts.now in
    let b : Parts = record a { widths = c.truncate.new.self; state = c.turned-parts.result } in (
      fits_left a c.args.turn c.requires.ready c.requires.comes c.args.kept c.args.gap c.requires.is (omega (arith, c.if-closed-eq0.true, c.len.ensures, a.widths.ok.0)) b refl c.truncate.ensures.items refl c.turned-parts.ensures.value c.requires.ready.none c.requires.ready.more,
      (record { none = c.requires.ready.none; more = c.requires.ready.more }, ap (λ s. s.fresh) c.turned-parts.ensures.value),
    )

pub returns-clause-whole : goal.returns-clause-whole
returns-clause-whole c =
    let a = c.args.parts.now in
    let bounds = subst (Bounds (drop a.state.place a.codemap.source)) c.requires.is c.requires.comes.bounds in
    with_margin a.codemap.source c.turned-parts.result a.outer.items a.margin a.state.place c.requires.whole.boundary (omega (arith, c.turned-parts.ensures.place))
    (mode_sound a.codemap.source a.state a.outer.items a.margin c.requires.whole c.args.gap a.state.mode a.state.mode bounds c.requires.whole.mode refl c.turned-parts.result c.turned-parts.ensures.value)

pub returns-clause-gives : goal.returns-clause-gives
returns-clause-gives c =
    let a = c.args.parts.now in
    let b : Parts = record a { widths = c.truncate.new.self; state = c.turned-parts.result; pending = c.len.result - c.args.kept - 1; margin = a.state.place } in
    fits_more a c.args.turn c.requires.ready c.requires.comes c.args.kept c.args.gap c.requires.is b (omega (arith, c.if-closed-eq0.false, c.len.ensures, a.widths.ok.0)) refl c.truncate.ensures.items refl c.turned-parts.ensures.value refl c.requires.ready.more
