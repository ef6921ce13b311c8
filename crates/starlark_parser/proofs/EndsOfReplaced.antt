-- Where operations become calls no place is new: each begins and ends at a place of the same kind.
use Rattle.std.proofs.Common.{ℕ, List, Option, Some, None}
use Rattle.starlark_place.specs.Place.{Extent}
use Rattle.starlark_ast.specs.declared.ast.BinOp.{BinOp}
use Rattle.starlark_ast.specs.Tree as t
use Rattle.starlark_ast.specs.Tree.{Expr, Member, Members, Bound, Annotation, Subscript, Clause, Clauses, Statement, Sequence}
use Rattle.starlark_clone.specs.Replacing as r
use Rattle.starlark_clone.specs.Replacing.{Renaming, operated, replaced, replaced_statement}
use Rattle.starlark_grammar.specs.Ends.{At, ExprAt, MemberAt, MembersAt, BoundAt, AnnotationAt, SubscriptAt, ClauseAt, ClausesAt, SomeAt, StatementAt, SequenceAt}
use Rattle.starlark_grammar.proofs.EndsOfExpressions.{place_at}

module _ (B : ℕ → Type 0) (names : Renaming) where
  operated_at : (n : Option (List ℕ)) (x : Expr) (o : BinOp) (y : Expr) (s : Extent) → At B s → ExprAt B x → ExprAt B y → ExprAt B (operated n x o y s)
  operated_at None x o y s h k l = (h, k, l)
  operated_at (Some n) x o y s h k l = (h, (h, h), ((tt, (place_at B x k, k)), (place_at B y l, l)))

  mutual
    expr_at : (x : Expr) → ExprAt B x → ExprAt B (replaced names x)
    expr_at (t.leaf l u s) h = h
    expr_at (t.tuple ms s) h = (h.0, members_at ms h.1)
    expr_at (t.list ms s) h = (h.0, members_at ms h.1)
    expr_at (t.dict ms s) h = (h.0, members_at ms h.1)
    expr_at (t.comprehension m cs s) h = (h.0, member_at m h.1, clauses_at cs h.2)
    expr_at (t.dot x n u s) h = (h.0, expr_at x h.1, h.2)
    expr_at (t.index x b s) h = (h.0, expr_at x h.1, subscript_at b h.2)
    expr_at (t.call x ms s) h = (h.0, expr_at x h.1, members_at ms h.2)
    expr_at (t.lambda ms x s) h = (h.0, members_at ms h.1, expr_at x h.2)
    expr_at (t.signed o x s) h = (h.0, expr_at x h.1)
    expr_at (t.operation x o y s) h = operated_at (names o) (replaced names x) o (replaced names y) s h.0 (expr_at x h.1) (expr_at y h.2)
    expr_at (t.choice c x y s) h = (h.0, expr_at c h.1, expr_at x h.2, expr_at y h.3)
    expr_at (t.fstring f u ms v s) h = (h.0, h.1, members_at ms h.2, h.3)

    member_at : (m : Member) → MemberAt B m → MemberAt B (r.replaced_member names m)
    member_at (t.item x) h = expr_at x h
    member_at (t.pair x y) h = (expr_at x h.0, expr_at y h.1)
    member_at (t.positional x s) h = (h.0, expr_at x h.1)
    member_at (t.named n u x s) h = (h.0, h.1, expr_at x h.2)
    member_at (t.args x s) h = (h.0, expr_at x h.1)
    member_at (t.kwargs x s) h = (h.0, expr_at x h.1)
    member_at (t.slash s) h = h
    member_at (t.no_args s) h = h
    member_at (t.parameter k n u a b s) h = (h.0, h.1, type_at a h.2, bound_at b h.3)

    members_at : (ms : Members) → MembersAt B ms → MembersAt B (r.replaced_members names ms)
    members_at t.none h = tt
    members_at (t.more ms m) h = (members_at ms h.0, member_at m h.1)

    bound_at : (b : Bound) → BoundAt B b → BoundAt B (r.replaced_bound names b)
    bound_at t.absent h = tt
    bound_at (t.present x) h = expr_at x h

    type_at : (a : Annotation) → AnnotationAt B a → AnnotationAt B (r.replaced_type names a)
    type_at t.untyped h = tt
    type_at (t.typed x s) h = (h.0, expr_at x h.1)

    subscript_at : (b : Subscript) → SubscriptAt B b → SubscriptAt B (r.replaced_subscript names b)
    subscript_at (t.single x) h = expr_at x h
    subscript_at (t.double x y) h = (expr_at x h.0, expr_at y h.1)
    subscript_at (t.slice x y z) h = (bound_at x h.0, bound_at y h.1, bound_at z h.2)

    clause_at : (c : Clause) → ClauseAt B c → ClauseAt B (r.replaced_clause names c)
    clause_at (t.for_clause x y) h = (expr_at x h.0, expr_at y h.1)
    clause_at (t.if_clause x) h = expr_at x h

    clauses_at : (cs : Clauses) → ClausesAt B cs → ClausesAt B (r.replaced_clauses names cs)
    clauses_at t.no_clauses h = tt
    clauses_at (t.and_clause cs c) h = (clauses_at cs h.0, clause_at c h.1)

  value_at : (x : Option Expr) → SomeAt B x → SomeAt B (r.replaced_value names x)
  value_at None h = tt
  value_at (Some x) h = expr_at x h

  mutual
    pub replaced_at : (a : Statement) → StatementAt B a → StatementAt B (replaced_statement names a)
    replaced_at (t.break s) h = h
    replaced_at (t.continue s) h = h
    replaced_at (t.pass s) h = h
    replaced_at (t.return x s) h = (h.0, value_at x h.1)
    replaced_at (t.load m ss s) h = h
    replaced_at (t.expression x s) h = (h.0, expr_at x h.1)
    replaced_at (t.assign x a o y s) h = (h.0, expr_at x h.1, type_at a h.2, expr_at y h.3)
    replaced_at (t.when c a s) h = (h.0, expr_at c h.1, replaced_at a h.2)
    replaced_at (t.either c a b s) h = (h.0, expr_at c h.1, replaced_at a h.2, replaced_at b h.3)
    replaced_at (t.repeat x y a s) h = (h.0, expr_at x h.1, expr_at y h.2, replaced_at a h.3)
    replaced_at (t.define n ps a b s) h = (h.0, h.1, members_at ps h.2, type_at a h.3, replaced_at b h.4)
    replaced_at (t.block ss s) h = (h.0, sequence_at ss h.1)

    sequence_at : (ss : Sequence) → SequenceAt B ss → SequenceAt B (r.replaced_sequence names ss)
    sequence_at t.no_statements h = tt
    sequence_at (t.add_statement ss a) h = (sequence_at ss h.0, replaced_at a h.1)
