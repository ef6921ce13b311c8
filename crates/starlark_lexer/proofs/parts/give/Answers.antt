use Rattle.std.proofs.Common.{◌≡◌, ◌+◌, ◌-◌, arith, sym, ◌∙◌, ap, drop, take, subst}
use Rattle.starlark_lexer.specs.Items.{takes_memory}
use Rattle.starlark_lexer.specs.Scan.{lexeme_from}
use Rattle.starlark_lexer.specs.Parts.{IsSound}
use Rattle.starlark_lexer.specs.Turns.{Cuts, Bounds}
use Rattle.starlark_lexer.proofs.Sounds.{after_sound}
use Rattle.starlark_lexer.proofs.Hands.{item_left, item_lacks, over_left}
use Rattle.starlark_lexer.proofs.parts.give.Goals as goal

pub returns-in-Ok-clause-whole : goal.returns-in-Ok-clause-whole
returns-in-Ok-clause-whole c =
    let a = c.args.parts.now in
    let cuts = subst (Cuts (drop a.state.place a.codemap.source)) c.requires.is c.requires.comes.cuts in
    let bounds = subst (Bounds (drop a.state.place a.codemap.source)) c.requires.is c.requires.comes.bounds in
    subst (λ s. IsSound a.codemap.source s a.outer.items a.margin) (sym c.pass_lexeme.ensures.value) (after_sound a.codemap.source a.state a.outer.items a.margin c.args.begin c.args.kind c.args.len c.args.next c.args.fresh c.requires.whole cuts bounds)

pub returns-in-Err-clause-whole : goal.returns-in-Err-clause-whole
returns-in-Err-clause-whole c =
    let a = c.args.parts.now in
    let cuts = subst (Cuts (drop a.state.place a.codemap.source)) c.requires.is c.requires.comes.cuts in
    let bounds = subst (Bounds (drop a.state.place a.codemap.source)) c.requires.is c.requires.comes.bounds in
    subst (λ s. IsSound a.codemap.source s a.outer.items a.margin) (sym c.pass_lexeme.ensures.value) (after_sound a.codemap.source a.state a.outer.items a.margin c.args.begin c.args.kind c.args.len c.args.next c.args.fresh c.requires.whole cuts bounds)

pub returns-in-Ok-clause-gives : goal.returns-in-Ok-clause-gives
returns-in-Ok-clause-gives c =
    let a = c.args.parts.now in
    let j : a.state.place + c.args.begin + c.args.len - (a.state.place + c.args.begin) ≡ c.args.len = omega arith in
    let text = c.range-text.ensures.value ∙ ap (λ t. take (a.state.place + c.args.begin + c.args.len - (a.state.place + c.args.begin)) (drop (a.state.place + c.args.begin) t)) c.source.ensures.is ∙ ap (λ k. take k (drop (a.state.place + c.args.begin) a.codemap.source)) j in
    item_left a c.args.turn c.args.begin c.args.kind c.args.len c.args.next c.args.fresh c.requires.ready c.requires.comes c.requires.is c.pass_lexeme.new.state _ c.pass_lexeme.ensures.value (c.in-Ok.ensures ∙ ap (lexeme_from c.args.kind) text)

pub returns-in-Err-clause-gives : goal.returns-in-Err-clause-gives
returns-in-Err-clause-gives c =
    let a = c.args.parts.now in
    let j : a.state.place + c.args.begin + c.args.len - (a.state.place + c.args.begin) ≡ c.args.len = omega arith in
    let text = c.range-text.ensures.value ∙ ap (λ t. take (a.state.place + c.args.begin + c.args.len - (a.state.place + c.args.begin)) (drop (a.state.place + c.args.begin) t)) c.source.ensures.is ∙ ap (λ k. take k (drop (a.state.place + c.args.begin) a.codemap.source)) j in
    (over_left a.margin a.pending c.requires.ready.none, item_lacks a c.args.turn c.args.begin c.args.kind c.args.len c.args.next c.args.fresh c.requires.ready c.requires.comes c.requires.is (ap (λ w. takes_memory (lexeme_from c.args.kind w)) (sym text) ∙ c.in-Err.ensures))
