use Rattle.std.proofs.Common.{rules, refl, ap, sym, ◌∙◌}
use Rattle.starlark_rulebook.specs.View.{maybe_finding}
use Rattle.starlark_grammar.specs.Events.{end_finding}
use Rattle.starlark_grammar.specs.Made.{sequence_of}
use Rattle.starlark_grammar.specs.Nodes.{block_of}
use Rattle.starlark_read.proofs.Answering.{broken_from, fault_is, fine_is, given, left_read, reached_read, read_as, read_from, spoilt_is, stuck_from}
use Rattle.starlark_read.proofs.Exits.{some_kept, still_there}
use Rattle.starlark_read.proofs.read.program.Goals as goal

pub returns-in-Err-Unexpected-clause-refused : goal.returns-in-Err-Unexpected-clause-refused
returns-in-Err-Unexpected-clause-refused g c l us a w = given c.refusal.ensures (stuck_from _ w (c.statements.ensures.reads.stuck (search rules)))

pub rule_refusal-requires : goal.rule_refusal-requires
rule_refusal-requires g c = some_kept (c.statements.ensures.reads.breaks (search rules)).kept

pub returns-in-Err-Broken-clause-refused : goal.returns-in-Err-Broken-clause-refused
returns-in-Err-Broken-clause-refused g c l us a w = broken_from w (c.statements.ensures.reads.breaks (search rules)) c.rule_refusal.ensures.rule

pub returns-in-Some-clause-refused : goal.returns-in-Some-clause-refused
returns-in-Some-clause-refused g c l us a w = given c.in-Some.ensures.1 (fault_is (read_from _ _ w (c.statements.ensures.reads.comes c.in-Ok.statements (search rules)) c.in-Ok.ensures.whole) c.in-Some.ensures.0)

pub returns-in-Some-2-clause-refused : goal.returns-in-Some-2-clause-refused
returns-in-Some-2-clause-refused g c l us a w =
    let ss = sequence_of g.B.Build.says c.in-Ok.statements.items.items in
    let r = read_as (g.B.Build.says c.block-tree.result) (read_from _ ss w (c.statements.ensures.reads.comes c.in-Ok.statements (search rules)) c.in-Ok.ensures.whole) (c.block-tree.ensures ∙ ap (block_of ss) c.last.ensures) in
    given refl (spoilt_is c.in-Some-2.rule r (c.in_default.ensures c.in-Ok.ensures.whole) (sym c.in_ok-rule.ensures ∙ ap maybe_finding c.in-Some-2.is))

pub returns-in-None-clause-whole : goal.returns-in-None-clause-whole
returns-in-None-clause-whole g c l us a w =
    let ss = sequence_of g.B.Build.says c.in-Ok.statements.items.items in
    let r = read_as (g.B.Build.says c.block-tree.result) (read_from _ ss w (c.statements.ensures.reads.comes c.in-Ok.statements (search rules)) c.in-Ok.ensures.whole) (c.block-tree.ensures ∙ ap (block_of ss) c.last.ensures) in
    fine_is r (c.in_default.ensures c.in-Ok.ensures.whole) (sym c.in_ok-rule.ensures ∙ ap maybe_finding c.in-None.is)

pub returns-then-are_clean-clause-whole : goal.returns-then-are_clean-clause-whole
returns-then-are_clean-clause-whole g c l us a w =
    let ss = sequence_of g.B.Build.says c.in-Ok.statements.items.items in
    let r = read_as (g.B.Build.says c.block-tree.result) (read_from _ ss w (c.statements.ensures.reads.comes c.in-Ok.statements (search rules)) c.in-Ok.ensures.whole) (c.block-tree.ensures ∙ ap (block_of ss) c.last.ensures) in
    fine_is r (c.in_default.ensures c.in-Ok.ensures.whole) (ap (end_finding _) c.block-tree.ensures ∙ c.in-Ok.ensures.clean c.if-are_clean.true _)

pub returns-then-are_clean-clause-ended : goal.returns-then-are_clean-clause-ended
returns-then-are_clean-clause-ended g c = (c.in-Ok.ensures.whole, (c.statements.ensures.reads.comes c.in-Ok.statements (search rules)).behind)

pub returns-in-None-clause-ended : goal.returns-in-None-clause-ended
returns-in-None-clause-ended g c = (c.in-Ok.ensures.whole, (c.statements.ensures.reads.comes c.in-Ok.statements (search rules)).behind)

pub returns-in-Err-Unexpected-clause-behind : goal.returns-in-Err-Unexpected-clause-behind
returns-in-Err-Unexpected-clause-behind g c h = (c.statements.ensures.reads.stuck (search rules)).behind

pub returns-in-Err-Broken-clause-behind : goal.returns-in-Err-Broken-clause-behind
returns-in-Err-Broken-clause-behind g c h = still_there (c.statements.ensures.reads.breaks (search rules)).answers.behind c.rule_refusal.ensures.kept

pub returns-in-Some-clause-behind : goal.returns-in-Some-clause-behind
returns-in-Some-clause-behind g c h = (c.statements.ensures.reads.comes c.in-Ok.statements (search rules)).behind

pub returns-in-Some-2-clause-behind : goal.returns-in-Some-2-clause-behind
returns-in-Some-2-clause-behind g c h = (c.statements.ensures.reads.comes c.in-Ok.statements (search rules)).behind

pub returns-in-Some-clause-left : goal.returns-in-Some-clause-left
returns-in-Some-clause-left g c l us a w h = left_read (read_from _ _ w (c.statements.ensures.reads.comes c.in-Ok.statements (search rules)) c.in-Ok.ensures.whole)

pub returns-in-Some-clause-reached : goal.returns-in-Some-clause-reached
returns-in-Some-clause-reached g c l us a w h = reached_read w (c.statements.ensures.reads.comes c.in-Ok.statements (search rules)).behind (read_from _ _ w (c.statements.ensures.reads.comes c.in-Ok.statements (search rules)) c.in-Ok.ensures.whole)

pub returns-in-Some-2-clause-left : goal.returns-in-Some-2-clause-left
returns-in-Some-2-clause-left g c l us a w h = left_read (read_from _ _ w (c.statements.ensures.reads.comes c.in-Ok.statements (search rules)) c.in-Ok.ensures.whole)

pub returns-in-Some-2-clause-reached : goal.returns-in-Some-2-clause-reached
returns-in-Some-2-clause-reached g c l us a w h = reached_read w (c.statements.ensures.reads.comes c.in-Ok.statements (search rules)).behind (read_from _ _ w (c.statements.ensures.reads.comes c.in-Ok.statements (search rules)) c.in-Ok.ensures.whole)
