use Rattle.std.proofs.Common.{◌≡◌, ◌∙◌, refl, ap, sym, rules, arith, length, string_bytes}
use Rattle.starlark_ast.specs.Tree.{add_statement, define, either, name_at, no_statements, repeat, when}
use Rattle.starlark_ast.specs.View.{members}
use Rattle.starlark_lexer.specs.Items.{keyword_def, keyword_elif, keyword_else, keyword_for, keyword_if, newline}
use Rattle.starlark_rulebook.specs.Targets.{target_of}
use Rattle.starlark_grammar.specs.Frames.{at_block, at_elif, at_if, at_suite, head, inner, of_def, of_else, of_for, of_if, source, spot, target, test}
use Rattle.starlark_grammar.specs.Made.{annotation_of, sequence_of}
use Rattle.starlark_grammar.specs.Nodes.{block_of}
use Rattle.starlark_read.specs.Reads.{in_statement}
use Rattle.starlark_grammar.specs.Spans.{stretch}
use Rattle.starlark_read.proofs.Branching.{def_named, elif_begins, else_begins, if_is, loop_broken, loop_ends, no_colon_next, no_def_name, no_source_end, no_target_end, no_test_end, pushed_as, settled_as}
use Rattle.starlark_read.proofs.Exits.{begins, ◌>>◌, renamed, exits, behind_it, read_it, left_it, gives, goes, sticks, missing, stays_there, answers, halts, refuses}
use Rattle.starlark_read.proofs.Gathering.{before, passes_from, still}
use Rattle.starlark_read.proofs.Listing.{right_target}
use Rattle.starlark_read.proofs.Naming.{named, unnamed}
use Rattle.starlark_read.proofs.Suites.{def_begins, first_line, for_begins, if_begins, is_line, lines_as, lines_end, no_first_line, no_indent, no_lines_end, none_counted, row_begins, some_counted, suite_in_line}
use Rattle.starlark_read.proofs.Rows.{statement_more}
use Rattle.starlark_read.proofs.+statement.Goals as goal

pub branches::branches-returns-in_err-condition-clause-reads : goal.branches::branches-returns-in_err-condition-clause-reads
branches::branches-returns-in_err-condition-clause-reads g met c k = exits (search rules) begins (c.in_err-condition.ensures.reads c.args.dialect (spot (test c.args.begin k)))

pub branches::branches-returns-in_err-expect-clause-reads : goal.branches::branches-returns-in_err-expect-clause-reads
branches::branches-returns-in_err-expect-clause-reads g met c k = missing (search rules) c.in_err-expect.ensures.unread c.in_err-expect.ensures.no_rule (λ h. sticks ((c.in_ok-condition.ensures.reads c.args.dialect (spot (test c.args.begin k))).comes _ refl) (stays_there h.0 (no_test_end c.args.begin k _ _ _ h.1)))

pub branches::branches-returns-in_err-body-clause-reads : goal.branches::branches-returns-in_err-body-clause-reads
branches::branches-returns-in_err-body-clause-reads g met c k = exits (search rules) ((c.in_ok-condition.ensures.reads c.args.dialect (spot (test c.args.begin k))).comes _ refl >> goes c.in_ok-expect.ensures.read refl refl) (c.in_err-body.ensures.reads (of_if (g.B.Make.means c.in_ok-condition.condition) c.args.begin k))

pub branches::branches-returns-in_err-otherwise-clause-reads : goal.branches::branches-returns-in_err-otherwise-clause-reads
branches::branches-returns-in_err-otherwise-clause-reads g met c k =
    let q = g.B.Make.means c.in_ok-condition.condition in
    let s = g.B.Build.says c.in_ok-body.body in
    let p = c.args.begin in
    exits (search rules) ((c.in_ok-condition.ensures.reads c.args.dialect (spot (test p k))).comes _ refl >> goes c.in_ok-expect.ensures.read refl refl >> (c.in_ok-body.ensures.reads (of_if q p k)).comes _ refl >> elif_begins q s p _ _ k _ _ c.begin-next.ensures (read_it _ _ keyword_elif _ c.if-branch.true c.in_ok-accept.ensures)) (c.in_err-otherwise.ensures.reads (at_elif q s p k))

pub branches::branches-returns-then-branch-clause-reads : goal.branches::branches-returns-then-branch-clause-reads
branches::branches-returns-then-branch-clause-reads g met c k =
    let q = g.B.Make.means c.in_ok-condition.condition in
    let s = g.B.Build.says c.in_ok-body.body in
    let r = g.B.Build.says c.in_ok-otherwise.otherwise in
    let p = c.args.begin in
    gives (settled_as k _ (either q s r (stretch p _)) ((c.in_ok-condition.ensures.reads c.args.dialect (spot (test p k))).comes _ refl >> goes c.in_ok-expect.ensures.read refl refl >> (c.in_ok-body.ensures.reads (of_if q p k)).comes _ refl >> elif_begins q s p _ _ k _ _ c.begin-next.ensures (read_it _ _ keyword_elif _ c.if-branch.true c.in_ok-accept.ensures) >> (c.in_ok-otherwise.ensures.reads (at_elif q s p k)).comes _ refl) (c.in_ok-if_else_statement.ensures ∙ ap (either q s r) c.since-span.ensures))

pub branches::branches-returns-in_err-expect-2-clause-reads : goal.branches::branches-returns-in_err-expect-2-clause-reads
branches::branches-returns-in_err-expect-2-clause-reads g met c k =
    let q = g.B.Make.means c.in_ok-condition.condition in
    let s = g.B.Build.says c.in_ok-body.body in
    let p = c.args.begin in
    let a = left_it _ _ keyword_elif _ c.if-branch.false c.in_ok-accept.ensures in
    missing (search rules) c.in_err-expect-2.ensures.unread c.in_err-expect-2.ensures.no_rule (λ h. sticks ((c.in_ok-condition.ensures.reads c.args.dialect (spot (test p k))).comes _ refl >> goes c.in_ok-expect.ensures.read refl refl >> (c.in_ok-body.ensures.reads (of_if q p k)).comes _ refl >> else_begins q s p _ k _ _ _ a.0 (read_it _ _ keyword_else _ c.if-branch-2.true c.in_ok-accept-2.ensures)) (stays_there h.0 (no_colon_next (of_else q s p k) _ h.1)))

pub branches::branches-returns-in_err-otherwise-2-clause-reads : goal.branches::branches-returns-in_err-otherwise-2-clause-reads
branches::branches-returns-in_err-otherwise-2-clause-reads g met c k =
    let q = g.B.Make.means c.in_ok-condition.condition in
    let s = g.B.Build.says c.in_ok-body.body in
    let p = c.args.begin in
    let a = left_it _ _ keyword_elif _ c.if-branch.false c.in_ok-accept.ensures in
    exits (search rules) ((c.in_ok-condition.ensures.reads c.args.dialect (spot (test p k))).comes _ refl >> goes c.in_ok-expect.ensures.read refl refl >> (c.in_ok-body.ensures.reads (of_if q p k)).comes _ refl >> else_begins q s p _ k _ _ _ a.0 (read_it _ _ keyword_else _ c.if-branch-2.true c.in_ok-accept-2.ensures) >> goes c.in_ok-expect-2.ensures.read refl refl) (c.in_err-otherwise-2.ensures.reads (of_else q s p k))

pub branches::branches-returns-then-branch-2-clause-reads : goal.branches::branches-returns-then-branch-2-clause-reads
branches::branches-returns-then-branch-2-clause-reads g met c k =
    let q = g.B.Make.means c.in_ok-condition.condition in
    let s = g.B.Build.says c.in_ok-body.body in
    let r = g.B.Build.says c.in_ok-otherwise-2.otherwise in
    let p = c.args.begin in
    let a = left_it _ _ keyword_elif _ c.if-branch.false c.in_ok-accept.ensures in
    gives (settled_as k _ (either q s r (stretch p _)) ((c.in_ok-condition.ensures.reads c.args.dialect (spot (test p k))).comes _ refl >> goes c.in_ok-expect.ensures.read refl refl >> (c.in_ok-body.ensures.reads (of_if q p k)).comes _ refl >> else_begins q s p _ k _ _ _ a.0 (read_it _ _ keyword_else _ c.if-branch-2.true c.in_ok-accept-2.ensures) >> goes c.in_ok-expect-2.ensures.read refl refl >> (c.in_ok-otherwise-2.ensures.reads (of_else q s p k)).comes _ refl) (c.in_ok-if_else_statement-2.ensures ∙ ap (either q s r) c.since-span-then-branch-2.ensures))

pub branches::branches-returns-clause-reads : goal.branches::branches-returns-clause-reads
branches::branches-returns-clause-reads g met c k =
    let q = g.B.Make.means c.in_ok-condition.condition in
    let s = g.B.Build.says c.in_ok-body.body in
    let p = c.args.begin in
    let a = left_it _ _ keyword_elif _ c.if-branch.false c.in_ok-accept.ensures in
    let b = left_it _ _ keyword_else _ c.if-branch-2.false c.in_ok-accept-2.ensures in
    gives ((c.in_ok-condition.ensures.reads c.args.dialect (spot (test p k))).comes _ refl >> goes c.in_ok-expect.ensures.read refl refl >> (c.in_ok-body.ensures.reads (of_if q p k)).comes _ refl >> if_is q s _ p k a b (c.in_ok-if_statement.ensures ∙ ap (when q s) c.since-span-2.ensures))

pub definition::definition-returns-in_default-clause-reads : goal.definition::definition-returns-in_default-clause-reads
definition::definition-returns-in_default-clause-reads g met c k =
    let u = unnamed _ _ _ c.in_default.is c.in_ok-name.ensures in
    refuses (stays_there u.0 (no_def_name c.args.begin k _ u.1))

pub definition::definition-returns-in_err-parameters-clause-reads : goal.definition::definition-returns-in_err-parameters-clause-reads
definition::definition-returns-in_err-parameters-clause-reads g met c k = exits (search rules) (def_named c.args.begin k _ _ _ _ (named _ _ _ _ c.in-Some.is c.in_ok-name.ensures)) (c.in_err-parameters.ensures.reads _)

pub definition::definition-returns-in_err-ty-clause-reads : goal.definition::definition-returns-in_err-ty-clause-reads
definition::definition-returns-in_err-ty-clause-reads g met c k = exits (search rules) (def_named c.args.begin k _ _ _ _ (named _ _ _ _ c.in-Some.is c.in_ok-name.ensures) >> (c.in_ok-parameters.ensures.reads _).comes _ refl) (c.in_err-ty.ensures.reads _ _)

pub definition::definition-returns-in_err-body-clause-reads : goal.definition::definition-returns-in_err-body-clause-reads
definition::definition-returns-in_err-body-clause-reads g met c k = exits (search rules) (def_named c.args.begin k _ _ _ _ (named _ _ _ _ c.in-Some.is c.in_ok-name.ensures) >> (c.in_ok-parameters.ensures.reads _).comes _ refl >> (c.in_ok-ty.ensures.reads _ _).comes _ refl) (c.in_err-body.ensures.reads _)

pub definition::definition-returns-clause-reads : goal.definition::definition-returns-clause-reads
definition::definition-returns-clause-reads g met c k =
    let n = name_at (string_bytes c.in-Some.name.node) c.in-Some.name.span in
    let ps = members g.B.Make.parameter_means c.in_ok-parameters.parameters.items in
    let t = annotation_of g.B.Build.type_means c.in_ok-ty.ty in
    let s = g.B.Build.says c.in_ok-body.body in
    let p = c.args.begin in
    gives (pushed_as k _ (define n ps t s (stretch p _)) (def_named p k _ _ _ _ (named _ _ _ _ c.in-Some.is c.in_ok-name.ensures) >> (c.in_ok-parameters.ensures.reads (head p n k)).comes _ refl >> (c.in_ok-ty.ensures.reads (head p n k) ps).comes _ refl >> (c.in_ok-body.ensures.reads (of_def (head p n k) ps t)).comes _ refl) (c.in_ok-def_statement.ensures ∙ ap (define n ps t s) c.since-span.ensures))

pub for_loop::for_loop-returns-in_err-targets-clause-reads : goal.for_loop::for_loop-returns-in_err-targets-clause-reads
for_loop::for_loop-returns-in_err-targets-clause-reads g met c k = exits (search rules) begins (c.in_err-targets.ensures.reads c.args.dialect (in_statement (target c.args.begin k)) refl)

pub for_loop::for_loop-returns-in_err-expect-clause-reads : goal.for_loop::for_loop-returns-in_err-expect-clause-reads
for_loop::for_loop-returns-in_err-expect-clause-reads g met c k = missing (search rules) c.in_err-expect.ensures.unread c.in_err-expect.ensures.no_rule (λ h. sticks ((c.in_ok-targets.ensures.reads c.args.dialect (in_statement (target c.args.begin k)) refl).comes _ refl) (stays_there h.0 (no_target_end c.args.begin _ k _ _ _ c.in_ok-targets.ensures.ends h.1)))

pub for_loop::for_loop-returns-in_err-over-clause-reads : goal.for_loop::for_loop-returns-in_err-over-clause-reads
for_loop::for_loop-returns-in_err-over-clause-reads g met c k = exits (search rules) ((c.in_ok-targets.ensures.reads c.args.dialect (in_statement (target c.args.begin k)) refl).comes _ refl >> goes c.in_ok-expect.ensures.read refl refl) (c.in_err-over.ensures.reads c.args.dialect (spot (source (g.B.Make.means c.in_ok-targets.targets) c.args.begin k)))

pub for_loop::for_loop-returns-in_err-expect-2-clause-reads : goal.for_loop::for_loop-returns-in_err-expect-2-clause-reads
for_loop::for_loop-returns-in_err-expect-2-clause-reads g met c k =
    let l = g.B.Make.means c.in_ok-targets.targets in
    let p = c.args.begin in
    missing (search rules) c.in_err-expect-2.ensures.unread c.in_err-expect-2.ensures.no_rule (λ h. sticks ((c.in_ok-targets.ensures.reads c.args.dialect (in_statement (target p k)) refl).comes _ refl >> goes c.in_ok-expect.ensures.read refl refl >> (c.in_ok-over.ensures.reads c.args.dialect (spot (source l p k))).comes _ refl) (stays_there h.0 (no_source_end l p k _ _ _ h.1)))

pub for_loop::for_loop-returns-in_err-body-clause-reads : goal.for_loop::for_loop-returns-in_err-body-clause-reads
for_loop::for_loop-returns-in_err-body-clause-reads g met c k =
    let l = g.B.Make.means c.in_ok-targets.targets in
    let q = g.B.Make.means c.in_ok-over.over in
    let p = c.args.begin in
    exits (search rules) ((c.in_ok-targets.ensures.reads c.args.dialect (in_statement (target p k)) refl).comes _ refl >> goes c.in_ok-expect.ensures.read refl refl >> (c.in_ok-over.ensures.reads c.args.dialect (spot (source l p k))).comes _ refl >> goes c.in_ok-expect-2.ensures.read refl refl) (c.in_err-body.ensures.reads (of_for l q p k))

pub for_loop::for_loop-returns-in-Some-clause-reads : goal.for_loop::for_loop-returns-in-Some-clause-reads
for_loop::for_loop-returns-in-Some-clause-reads g met c k =
    let l = g.B.Make.means c.in_ok-targets.targets in
    let q = g.B.Make.means c.in_ok-over.over in
    let p = c.args.begin in
    halts c.stop.ensures.broken c.stop.ensures.kept (answers ((c.in_ok-targets.ensures.reads c.args.dialect (in_statement (target p k)) refl).comes _ refl >> goes c.in_ok-expect.ensures.read refl refl >> (c.in_ok-over.ensures.reads c.args.dialect (spot (source l p k))).comes _ refl >> goes c.in_ok-expect-2.ensures.read refl refl >> (c.in_ok-body.ensures.reads (of_for l q p k)).comes _ refl) (loop_broken l _ _ _ _ _ c.in-Some.is c.target_fault.ensures))

pub for_loop::for_loop-returns-clause-reads : goal.for_loop::for_loop-returns-clause-reads
for_loop::for_loop-returns-clause-reads g met c k =
    let l = g.B.Make.means c.in_ok-targets.targets in
    let q = g.B.Make.means c.in_ok-over.over in
    let s = g.B.Build.says c.in_ok-body.body in
    let p = c.args.begin in
    gives (pushed_as k _ (repeat (target_of l) q s (stretch p _)) ((c.in_ok-targets.ensures.reads c.args.dialect (in_statement (target p k)) refl).comes _ refl >> goes c.in_ok-expect.ensures.read refl refl >> (c.in_ok-over.ensures.reads c.args.dialect (spot (source l p k))).comes _ refl >> goes c.in_ok-expect-2.ensures.read refl refl >> (c.in_ok-body.ensures.reads (of_for l q p k)).comes _ refl >> loop_ends l _ _ _ (right_target l _ c.in_default.is c.target_fault.ensures)) (c.in_ok-for_statement.ensures ∙ ap (repeat (target_of l) q s) c.since-span.ensures))

pub statement::statement-returns-then-branch-clause-reads : goal.statement::statement-returns-then-branch-clause-reads
statement::statement-returns-then-branch-clause-reads g met c k e z n d = behind_it (if_begins k e _ _ _ c.begin-begin.ensures (read_it _ _ keyword_if _ c.if-branch.true c.in_ok-accept.ensures)) (c.branches.ensures.reads (at_if k))

pub statement::statement-returns-then-branch-2-clause-reads : goal.statement::statement-returns-then-branch-2-clause-reads
statement::statement-returns-then-branch-2-clause-reads g met c k e z n d =
    let a = left_it _ _ keyword_if _ c.if-branch.false c.in_ok-accept.ensures in
    behind_it (for_begins k e _ _ _ c.begin-begin.ensures (passes_from keyword_for a.0 (read_it _ _ keyword_for _ c.if-branch-2.true c.in_ok-accept-2.ensures))) (c.for_loop.ensures.reads k)

pub statement::statement-returns-then-branch-3-clause-reads : goal.statement::statement-returns-then-branch-3-clause-reads
statement::statement-returns-then-branch-3-clause-reads g met c k e z n d =
    let a = left_it _ _ keyword_if _ c.if-branch.false c.in_ok-accept.ensures in
    let b = left_it _ _ keyword_for _ c.if-branch-2.false c.in_ok-accept-2.ensures in
    behind_it (def_begins k e _ _ _ c.begin-begin.ensures (passes_from keyword_def (b.0 ∙ a.0) (read_it _ _ keyword_def _ c.if-branch-3.true c.in_ok-accept-3.ensures))) (c.definition.ensures.reads k)

pub statement::statement-returns-clause-reads : goal.statement::statement-returns-clause-reads
statement::statement-returns-clause-reads g met c k e z n d =
    let a = left_it _ _ keyword_if _ c.if-branch.false c.in_ok-accept.ensures in
    let b = left_it _ _ keyword_for _ c.if-branch-2.false c.in_ok-accept-2.ensures in
    let f = left_it _ _ keyword_def _ c.if-branch-3.false c.in_ok-accept-3.ensures in
    behind_it (row_begins k e _ z n d a.1 (before a.0 b.1) (before (b.0 ∙ a.0) f.1) >> renamed (f.0 ∙ b.0 ∙ a.0)) (c.row.ensures.reads (at_block k) (still (f.0 ∙ b.0 ∙ a.0) n))

pub suite::suite-returns-then-branch-clause-reads : goal.suite::suite-returns-then-branch-clause-reads
suite::suite-returns-then-branch-clause-reads g met c k = behind_it (goes (read_it _ _ newline _ c.if-branch.true c.in_ok-accept.ensures) refl refl) (c.indented.ensures.reads k)

pub suite::suite-returns-clause-reads : goal.suite::suite-returns-clause-reads
suite::suite-returns-clause-reads g met c k =
    let a = left_it _ _ newline _ c.if-branch.false c.in_ok-accept.ensures in
    behind_it (suite_in_line k _ a.1 >> renamed a.0) (c.row.ensures.reads (at_suite k) (still a.0 a.1))

pub suite::indented-loop-init : goal.suite::indented-loop-init
suite::indented-loop-init g met c = record { reads = λ k. begins; shorter = omega arith }

pub suite::indented-loop-preserved : goal.suite::indented-loop-preserved
suite::indented-loop-preserved g met c =
    let p = read_it _ _ newline _ c.if-branch.true c.in_ok-accept.ensures in
    record { reads = λ k. c.loop.invariant.reads k >> goes p refl refl; shorter = omega (arith, c.loop.invariant.shorter, ap length p.items) }

pub suite::indented-returns-in_err-expect-clause-reads : goal.suite::indented-returns-in_err-expect-clause-reads
suite::indented-returns-in_err-expect-clause-reads g met c k =
    let a = left_it _ _ newline _ c.if-branch.false c.in_ok-accept.ensures in
    missing (search rules) c.in_err-expect.ensures.unread c.in_err-expect.ensures.no_rule (λ h. sticks (c.loop.invariant.reads k) (stays_there (h.0 ∙ a.0) (no_indent k _ a.1 (before a.0 h.1))))

pub suite::indented-returns-clause-reads : goal.suite::indented-returns-clause-reads
suite::indented-returns-clause-reads g met c k =
    let a = left_it _ _ newline _ c.if-branch.false c.in_ok-accept.ensures in
    behind_it (c.loop.invariant.reads k >> renamed a.0 >> goes c.in_ok-expect.ensures.read refl refl) (c.lines.ensures.reads k 0)

pub suite::lines-loop-statements-init : goal.suite::lines-loop-statements-init
suite::lines-loop-statements-init g met c = record {
  reads = λ k e. lines_as _ (first_line k e _ _) (ap (sequence_of g.B.Build.says) c.new-statements.ensures.items);
  empty = λ h. ap (sequence_of g.B.Build.says) c.new-statements.ensures.items;
  filled = λ h. absurd (h c.new-statements.ensures.len);
  shorter = omega arith;
}

pub suite::lines-loop-statements-preserved-then-branch : goal.suite::lines-loop-statements-preserved-then-branch
suite::lines-loop-statements-preserved-then-branch g met c =
    let p = read_it _ _ newline _ c.if-branch.true c.in_ok-accept.ensures in
    let v = c.loop-statements.invariant in
    record { reads = λ k e. v.reads k e >> goes p refl refl; empty = v.empty; filled = v.filled; shorter = omega (arith, v.shorter, ap length p.items) }

pub suite::lines-returns-in_err-next-clause-reads : goal.suite::lines-returns-in_err-next-clause-reads
suite::lines-returns-in_err-next-clause-reads g met c k e =
    let a = left_it _ _ newline _ c.if-branch.false c.in_ok-accept.ensures in
    let l = is_line _ (sym c.begins_line.ensures ∙ c.if-begins_line.true) in
    exits (search rules) (c.loop-statements.invariant.reads k e >> renamed a.0) (c.in_err-next.ensures.reads (inner (sequence_of g.B.Build.says c.loop-statements.statements.items) k) c.loop-statements.tokens.last l.0 (still a.0 a.1) l.1)

pub suite::lines-loop-statements-preserved : goal.suite::lines-loop-statements-preserved
suite::lines-loop-statements-preserved g met c =
    let a = left_it _ _ newline _ c.if-branch.false c.in_ok-accept.ensures in
    let l = is_line _ (sym c.begins_line.ensures ∙ c.if-begins_line.true) in
    let v = c.loop-statements.invariant in
    let ss = sequence_of g.B.Build.says c.loop-statements.statements.items in
    let one : sequence_of g.B.Build.says c.push.new.list.items ≡ add_statement ss (g.B.Build.says c.in_ok-next.next) = statement_more g.B.Build.says _ _ _ c.in_ok-push.ensures.items in
    record {
      reads = λ k e. lines_as _ (v.reads k e >> renamed a.0 >> (c.in_ok-next.ensures.reads (inner ss k) c.loop-statements.tokens.last l.0 (still a.0 a.1) l.1).comes _ refl) one;
      empty = λ h. absurd (omega (arith, h, c.in_ok-push.ensures.len));
      filled = λ h w. absurd (let n : add_statement ss (g.B.Build.says c.in_ok-next.next) ≡ no_statements = sym one ∙ w in (cc));
      shorter = omega (arith, v.shorter, ap (λ z. length z.items) a.0, c.in_ok-next.ensures.shorter);
    }

pub suite::lines-returns-then-is_empty-clause-reads : goal.suite::lines-returns-then-is_empty-clause-reads
suite::lines-returns-then-is_empty-clause-reads g met c k e =
    let a = left_it _ _ newline _ c.if-branch.false c.in_ok-accept.ensures in
    let v = c.loop-statements.invariant in
    refuses (sticks (v.reads k e >> renamed a.0) (no_first_line k _ _ _ (v.empty (none_counted _ (sym c.is_empty.ensures ∙ c.if-is_empty.true))) (sym c.begins_line.ensures ∙ c.if-begins_line.false)))

pub suite::lines-returns-in_err-expect-clause-reads : goal.suite::lines-returns-in_err-expect-clause-reads
suite::lines-returns-in_err-expect-clause-reads g met c k e =
    let a = left_it _ _ newline _ c.if-branch.false c.in_ok-accept.ensures in
    missing (search rules) c.in_err-expect.ensures.unread c.in_err-expect.ensures.no_rule (λ h. sticks (c.loop-statements.invariant.reads k e >> renamed a.0) (stays_there h.0 (no_lines_end k _ _ _ (sym c.begins_line.ensures ∙ c.if-begins_line.false) h.1)))

pub suite::lines-returns-else-is_empty-clause-reads : goal.suite::lines-returns-else-is_empty-clause-reads
suite::lines-returns-else-is_empty-clause-reads g met c k e =
    let a = left_it _ _ newline _ c.if-branch.false c.in_ok-accept.ensures in
    let v = c.loop-statements.invariant in
    let ss = sequence_of g.B.Build.says c.loop-statements.statements.items in
    gives (v.reads k e >> renamed a.0 >> lines_end k ss _ c.loop-statements.tokens.last _ _ (v.filled (some_counted _ (sym c.is_empty.ensures ∙ c.if-is_empty.false))) (c.block.ensures ∙ ap (block_of ss) c.last-end.ensures) c.in_ok-expect.ensures.read)
