use Rattle.std.proofs.Common.{◌≡◌, ◌∙◌, None, inl, inr, refl, ap, sym, rules}
use Rattle.starlark_ast.specs.Tree as tree
use Rattle.starlark_rulebook.specs.Targets.{assignment_fault, target_of}
use Rattle.starlark_rulebook.specs.View.{maybe_finding}
use Rattle.starlark_grammar.specs.Made.{annotation_of}
use Rattle.starlark_grammar.specs.Frames.{first, left, right, spot}
use Rattle.starlark_read.specs.Reads.{in_statement}
use Rattle.starlark_read.proofs.Exits.{◌>>◌, begins, gives, exits, halts, answers}
use Rattle.starlark_read.proofs.Assigning.{assigned_as, begins_at, left_begins, right_broken, right_ends, statement_ends}
use Rattle.starlark_read.proofs.assignment.assignment.Goals as goal
use Rattle.starlark_read.proofs.assignment.assignment.Goals.{then-stands-via-then-stands, then-stands-via-else-stands+then-stands-2}

pub returns-in_err-first-clause-reads : goal.returns-in_err-first-clause-reads
returns-in_err-first-clause-reads g c k = exits (search rules) begins (c.in_err-first.ensures.reads c.args.dialect (spot (first _ k)))

pub returns-then-stands-clause-reads : goal.returns-then-stands-clause-reads
returns-then-stands-clause-reads g c k =
    let one = (c.in_ok-first.ensures.reads c.args.dialect (spot (first c.begin-begin.result k))).comes _ refl in
    let all = one >> statement_ends _ _ _ k _ (elim c.then-stands.branch [ then-stands-via-then-stands w ↦ inl w.if-stands.ensures | then-stands-via-else-stands+then-stands-2 w ↦ inr w.if-stands-2.ensures ]) in
    begins_at _ k _ c.begin-begin.ensures (gives (assigned_as _ all (c.expression_statement.ensures ∙ ap (tree.expression (g.B.Make.means c.in_ok-first.first)) c.since-span.ensures)))

pub returns-in_err-left-clause-reads : goal.returns-in_err-left-clause-reads
returns-in_err-left-clause-reads g c k =
    let d = c.args.dialect in
    let p = c.begin-begin.result in
    let one = (c.in_ok-first.ensures.reads d (spot (first p k))).comes _ refl in
    begins_at p k _ c.begin-begin.ensures (exits (search rules) (one >> left_begins _ _ p k _ c.if-stands.ensures c.if-stands-2.ensures) (c.in_err-left.ensures.reads d (in_statement (left p k)) refl))

pub returns-in_err-ty-clause-reads : goal.returns-in_err-ty-clause-reads
returns-in_err-ty-clause-reads g c k =
    let d = c.args.dialect in
    let p = c.begin-begin.result in
    let one = (c.in_ok-first.ensures.reads d (spot (first p k))).comes _ refl in
    let all = one >> left_begins _ _ p k _ c.if-stands.ensures c.if-stands-2.ensures >> (c.in_ok-left.ensures.reads d (in_statement (left p k)) refl).comes _ refl in
    begins_at p k _ c.begin-begin.ensures (exits (search rules) all (c.in_err-ty.ensures.reads _ p k))

pub returns-in_err-op-clause-reads : goal.returns-in_err-op-clause-reads
returns-in_err-op-clause-reads g c k =
    let d = c.args.dialect in
    let p = c.begin-begin.result in
    let l = g.B.Make.means c.in_ok-left.left in
    let one = (c.in_ok-first.ensures.reads d (spot (first p k))).comes _ refl in
    let all = one >> left_begins _ _ p k _ c.if-stands.ensures c.if-stands-2.ensures >> (c.in_ok-left.ensures.reads d (in_statement (left p k)) refl).comes _ refl >> (c.in_ok-ty.ensures.reads l p k).comes _ refl in
    begins_at p k _ c.begin-begin.ensures (exits (search rules) all (c.in_err-op.ensures.reads d l _ p k (c.in_ok-ty.ensures.whole c.in_ok-left.ensures.ends)))

pub returns-in_err-right-clause-reads : goal.returns-in_err-right-clause-reads
returns-in_err-right-clause-reads g c k =
    let d = c.args.dialect in
    let p = c.begin-begin.result in
    let l = g.B.Make.means c.in_ok-left.left in
    let t = annotation_of g.B.Build.type_means c.in_ok-ty.ty in
    let one = (c.in_ok-first.ensures.reads d (spot (first p k))).comes _ refl in
    let all = one >> left_begins _ _ p k _ c.if-stands.ensures c.if-stands-2.ensures >> (c.in_ok-left.ensures.reads d (in_statement (left p k)) refl).comes _ refl >> (c.in_ok-ty.ensures.reads l p k).comes _ refl >> (c.in_ok-op.ensures.reads d l t p k (c.in_ok-ty.ensures.whole c.in_ok-left.ensures.ends)).comes _ refl in
    begins_at p k _ c.begin-begin.ensures (exits (search rules) all (c.in_err-right.ensures.reads d (in_statement (right l t c.in_ok-op.op p k)) refl))

pub returns-in-Some-clause-reads : goal.returns-in-Some-clause-reads
returns-in-Some-clause-reads g c k =
    let d = c.args.dialect in
    let p = c.begin-begin.result in
    let l = g.B.Make.means c.in_ok-left.left in
    let t = annotation_of g.B.Build.type_means c.in_ok-ty.ty in
    let o = c.in_ok-op.op in
    let one = (c.in_ok-first.ensures.reads d (spot (first p k))).comes _ refl in
    let all = one >> left_begins _ _ p k _ c.if-stands.ensures c.if-stands-2.ensures >> (c.in_ok-left.ensures.reads d (in_statement (left p k)) refl).comes _ refl >> (c.in_ok-ty.ensures.reads l p k).comes _ refl >> (c.in_ok-op.ensures.reads d l t p k (c.in_ok-ty.ensures.whole c.in_ok-left.ensures.ends)).comes _ refl >> (c.in_ok-right.ensures.reads d (in_statement (right l t o p k)) refl).comes _ refl in
    begins_at p k _ c.begin-begin.ensures (halts c.stop.ensures.broken c.stop.ensures.kept (answers all (right_broken l t o _ _ _ p k _ _ _ c.in-Some.is c.assignment_fault.ensures c.in_ok-right.ensures.ends)))

pub returns-clause-reads : goal.returns-clause-reads
returns-clause-reads g c k =
    let d = c.args.dialect in
    let p = c.begin-begin.result in
    let l = g.B.Make.means c.in_ok-left.left in
    let t = annotation_of g.B.Build.type_means c.in_ok-ty.ty in
    let o = c.in_ok-op.op in
    let q = g.B.Make.means c.in_ok-right.right in
    let none : assignment_fault l t o ≡ None = sym c.assignment_fault.ensures ∙ ap maybe_finding c.in_default.is in
    let one = (c.in_ok-first.ensures.reads d (spot (first p k))).comes _ refl in
    let all = one >> left_begins _ _ p k _ c.if-stands.ensures c.if-stands-2.ensures >> (c.in_ok-left.ensures.reads d (in_statement (left p k)) refl).comes _ refl >> (c.in_ok-ty.ensures.reads l p k).comes _ refl >> (c.in_ok-op.ensures.reads d l t p k (c.in_ok-ty.ensures.whole c.in_ok-left.ensures.ends)).comes _ refl >> (c.in_ok-right.ensures.reads d (in_statement (right l t o p k)) refl).comes _ refl in
    begins_at p k _ c.begin-begin.ensures (gives (assigned_as _ (all >> right_ends l t o q _ _ p k _ none c.in_ok-right.ensures.ends) (c.in_ok-assign.ensures ∙ ap (tree.assign (target_of l) t o q) c.since-span-2.ensures)))
