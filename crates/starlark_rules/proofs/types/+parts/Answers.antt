use Rattle.std.proofs.Common.{◌∙◌, sym, ap, arith, rules, Ok}
use Rattle.std.specs.Prelude.{string_bytes}
use Rattle.starlark_place.specs.Place.{Extent}
use Rattle.starlark_ast.specs.Tree as t
use Rattle.starlark_ast.specs.View.{expr_at, expr_view}
use Rattle.starlark_ast.specs.Views.{items_of, expr_view-Tuple, expr_view-Dot, expr_view-Op, expr_view-List, expr_view-Identifier, expr_view-Index, expr_view-Index2, expr_view-Literal}
use Rattle.starlark_rules.specs.Misfits.{forms_view, role_of}
use Rattle.starlark_rulebook.specs.Types.{alone, argument, form_of, forms_of, from, index2_of, root, attributes, dotted, path_of, path_form, tuple_form, add_form}
use Rattle.starlark_rules.proofs.Forms.{form_view-Index2}
use Rattle.starlark_rules.proofs.Misfits.{comes_as, exits, first_stops, forms_go_on, forms_stop, given, index2_comes, keeps_argument, keeps_second_argument, second_is, single_is, stops_for, union_is, union_of_two}
use Rattle.starlark_rules.proofs.Places.{place_at}
use Rattle.starlark_faults.proofs.Prefixes.{count_members}
use Rattle.starlark_faults.proofs.Within.{member_is_less}
use Rattle.starlark_rules.proofs.types.+parts.Goals as goal

-- ---- several

pub each_type-type_parts-requires : goal.each_type-type_parts-requires
each_type-type_parts-requires g n c κs within =
    let less = member_is_less (λ x. t.item (expr_at x)) c.args.xs.now c.loop-x.x-index c.x-item.result c.loop-x-test.true c.x-item.is in
    (omega (arith, less), within)

pub each_type-loop-x-preserved : goal.each_type-loop-x-preserved
each_type-loop-x-preserved g n c =
    forms_go_on (role_of c.args.role) expr_at c.args.xs.now c.loop-x.x-index c.x-item.result _ _ c.loop-x-test.true c.x-item.is c.loop-x.invariant (c.in_ok-add_part.ensures _ c.type_parts.ensures)

pub each_type-returns-in_err-add_part : goal.each_type-returns-in_err-add_part
each_type-returns-in_err-add_part g n c =
    exits _ _ _ _ _ (given _ _ c.from_residual.ensures.1)
    (forms_stop (role_of c.args.role) expr_at c.args.xs.now c.loop-x.x-index c.x-item.result _ c.loop-x-test.true c.x-item.is c.loop-x.invariant)
    (c.in_err-add_part.ensures _ c.type_parts.ensures)

-- ---- two types, a list

pub both_types-returns-in_err-add_part : goal.both_types-returns-in_err-add_part
both_types-returns-in_err-add_part g n c =
    exits _ _ _ _ _ (search rules)
    (λ e h. first_stops (form_of alone (expr_at c.args.x.now)) (form_of alone (expr_at c.args.y.now)) e (sym (ap (λ q. from (add_form (forms_view q)) (form_of alone (expr_at c.args.x.now))) c.new-both.ensures.items) ∙ h))
    (c.in_err-add_part.ensures _ c.type_parts.ensures)

pub both_types-returns-in_err-add_part-2 : goal.both_types-returns-in_err-add_part-2
both_types-returns-in_err-add_part-2 g n c =
    let r = form_of alone (expr_at c.args.x.now) in
    let q = form_of alone (expr_at c.args.y.now) in
    exits _ _ _ _ _ (search rules)
    (λ e h. second_is _ r q (sym (ap (λ v. from (add_form (forms_view v)) r) c.new-both.ensures.items) ∙ c.in_ok-add_part.ensures _ c.type_parts.ensures) ∙ h)
    (c.in_err-add_part-2.ensures _ c.type_parts-2.ensures)

pub both_types-returns : goal.both_types-returns
both_types-returns g n c =
    let r = form_of alone (expr_at c.args.x.now) in
    let q = form_of alone (expr_at c.args.y.now) in
    second_is _ r q (sym (ap (λ v. from (add_form (forms_view v)) r) c.new-both.ensures.items) ∙ c.in_ok-add_part.ensures _ c.type_parts.ensures) ∙ c.in_ok-add_part-2.ensures _ c.type_parts-2.ensures

pub operation_parts-returns-in-BitOr : goal.operation_parts-returns-in-BitOr
operation_parts-returns-in-BitOr g n c r =
    let s = c.args.span in
    let x = expr_at c.args.x.now in
    let y = expr_at c.args.y.now in
    comes_as _ _ _ _
    (union_of_two (form_of alone x) (form_of alone y) s ∙ sym (ap (λ o. form_of r (t.operation x o y s)) c.in-BitOr.is))
    (c.union_type.ensures _ s c.both_types.ensures)

pub list_parts-returns-in-Argument : goal.list_parts-returns-in-Argument
list_parts-returns-in-Argument g n c =
    let xs = items_of c.args.xs.now in
    let s = c.args.span in
    comes_as _ _ _ _ (sym (ap (λ q. form_of (role_of q) (t.list xs s)) c.in-Argument.is)) (c.list_type.ensures _ s c.each_type.ensures)

pub list_parts-returns-in-len1 : goal.list_parts-returns-in-len1
list_parts-returns-in-len1 g n c =
    let xs = c.args.xs.now in
    let s = c.args.span in
    let count = count_members (λ x. t.item (expr_at x)) xs in
    stops_for _ _ _ c.no_type.ensures (ap (λ q. form_of (role_of q) (t.list (items_of xs) s)) c.in-Alone.is ∙ single_is (items_of xs) s (omega (arith, count, c.in-len1.len_at_least, c.in-len1.len_below)))

pub list_parts-returns-in-len2-up : goal.list_parts-returns-in-len2-up
list_parts-returns-in-len2-up g n c =
    let xs = c.args.xs.now in
    let s = c.args.span in
    let count = count_members (λ x. t.item (expr_at x)) xs in
    comes_as _ _ _ _
    (sym (ap (λ q. form_of (role_of q) (t.list (items_of xs) s)) c.in-Alone.is ∙ union_is (items_of xs) s (omega (arith, count, c.in-len2-up.len_at_least))))
    (c.union_type.ensures _ s c.each_type-in-len2-up.ensures)

-- ---- what stands in brackets

pub index_parts-returns-in-Identifier : goal.index_parts-returns-in-Identifier
index_parts-returns-in-Identifier g n c r =
    let name = c.in-Identifier.name in
    let y = expr_at c.args.index.now in
    let s = c.args.span in
    let v = c.args.array.now.span in
    comes_as _ _ _ _
    (sym (ap (λ q. form_of r (t.index q (t.single y) s)) (ap (λ q. expr_view q v) c.in-Identifier.is ∙ expr_view-Identifier name v)))
    (c.index_type.ensures _ s (c.boxed_part.ensures _ c.type_parts.ensures))

pub index2_parts-returns-in_err-first : goal.index2_parts-returns-in_err-first
index2_parts-returns-in_err-first g n c s =
    exits _ _ _ _ _ (search rules) (keeps_argument c.args.array.now.span s _ _ _ (form_of argument (expr_at c.args.y.now)) c.in_ok-path.ensures) (c.in_err-first.ensures _ c.type_parts.ensures)

pub index2_parts-returns-in_err-second : goal.index2_parts-returns-in_err-second
index2_parts-returns-in_err-second g n c s =
    exits _ _ _ _ _ (search rules) (keeps_second_argument c.args.array.now.span s _ _ _ _ _ c.in_ok-path.ensures (c.in_ok-first.ensures _ c.type_parts.ensures)) (c.in_err-second.ensures _ c.type_parts-2.ensures)

pub index2_parts-returns : goal.index2_parts-returns
index2_parts-returns g n c s =
    index2_comes c.args.array.now.span s _ _ _ _ _ _ c.in_ok-path.ensures (c.in_ok-first.ensures _ c.type_parts.ensures) (c.in_ok-second.ensures _ c.type_parts-2.ensures)
    ∙ ap (λ q. Ok q) (sym (form_view-Index2 _ _ _ s))

-- ---- a type

pub type_parts-returns-in-Identifier : goal.type_parts-returns-in-Identifier
type_parts-returns-in-Identifier g n c =
    let s = c.args.x.now.span in
    let r = role_of c.args.role in
    let name = c.in-Identifier.field-0 in
    let same = ap (λ y. expr_view y s) c.in-Identifier.is ∙ expr_view-Identifier name s in
    comes_as _ _ _ _ (ap (λ q. from (λ p. path_form p s) (path_of q)) same ∙ sym (ap (form_of r) same)) (c.path_type.ensures _ s c.path_parts.ensures)

pub type_parts-returns-in-Dot : goal.type_parts-returns-in-Dot
type_parts-returns-in-Dot g n c =
    let s = c.args.x.now.span in
    let r = role_of c.args.role in
    let object = c.in-Dot.object in
    let name = c.in-Dot.name in
    comes_as _ _ _ _
    (ap (λ y. from (λ p. path_form p s) (dotted (root (expr_at y)) (attributes (expr_at y)) (string_bytes name.node) name.span)) c.deref.ensures
    ∙ sym (ap (λ y. form_of r (expr_view y s)) c.in-Dot.is ∙ ap (form_of r) (expr_view-Dot object name s)))
    (c.path_type-in-Dot.ensures _ s c.dotted.ensures)

pub type_parts-returns-in-Literal : goal.type_parts-returns-in-Literal
type_parts-returns-in-Literal g n c =
    let s = c.args.x.now.span in
    let r = role_of c.args.role in
    let x = c.in-Literal.literal in
    comes_as _ _ _ _ (sym (ap (λ y. form_of r (expr_view y s)) c.in-Literal.is ∙ ap (form_of r) (expr_view-Literal _ _ _ _ _ _ x s))) (c.literal_parts.ensures r)

pub type_parts-returns-in-Tuple : goal.type_parts-returns-in-Tuple
type_parts-returns-in-Tuple g n c =
    let s = c.args.x.now.span in
    let r = role_of c.args.role in
    let xs = c.in-Tuple.xs in
    comes_as _ _ _ _
    (ap (λ q. from (λ fs. tuple_form fs s) (forms_of alone (items_of q))) c.deref-in-Tuple.ensures.value
    ∙ sym (ap (λ y. form_of r (expr_view y s)) c.in-Tuple.is ∙ ap (form_of r) (expr_view-Tuple xs s)))
    (c.tuple_type.ensures _ s c.each_type.ensures)

pub type_parts-returns-in-List : goal.type_parts-returns-in-List
type_parts-returns-in-List g n c =
    let s = c.args.x.now.span in
    let r = role_of c.args.role in
    let xs = c.in-List.xs in
    comes_as _ _ _ _
    (ap (λ q. form_of r (t.list (items_of q) s)) c.deref-in-List.ensures.value
    ∙ sym (ap (λ y. form_of r (expr_view y s)) c.in-List.is ∙ ap (form_of r) (expr_view-List xs s)))
    c.list_parts.ensures

pub type_parts-returns-in-Op : goal.type_parts-returns-in-Op
type_parts-returns-in-Op g n c =
    let s = c.args.x.now.span in
    let r = role_of c.args.role in
    let left = c.in-Op.left in
    let operator = c.in-Op.operator in
    let right = c.in-Op.right in
    comes_as _ _ _ _
    (ap (λ y. form_of r (t.operation (expr_at y) operator (expr_at c.deref-in-Op-2.result.now) s)) c.deref-in-Op.ensures
    ∙ ap (λ y. form_of r (t.operation (expr_at left.value) operator (expr_at y) s)) c.deref-in-Op-2.ensures
    ∙ sym (ap (λ y. form_of r (expr_view y s)) c.in-Op.is ∙ ap (form_of r) (expr_view-Op left operator right s)))
    (c.operation_parts.ensures r)

pub type_parts-returns-in-Index : goal.type_parts-returns-in-Index
type_parts-returns-in-Index g n c =
    let s = c.args.x.now.span in
    let r = role_of c.args.role in
    let parts = c.in-Index.parts in
    comes_as _ _ _ _
    (ap (λ q. form_of r (t.index (expr_at q.0) (t.single (expr_at c.deref-in-Index-2.result.now.1)) s)) c.deref-in-Index.ensures
    ∙ ap (λ q. form_of r (t.index (expr_at parts.value.0) (t.single (expr_at q.1)) s)) c.deref-in-Index-2.ensures
    ∙ sym (ap (λ q. form_of r (expr_view q s)) c.in-Index.is ∙ ap (form_of r) (expr_view-Index parts s)))
    (c.index_parts.ensures r)

pub type_parts-returns-in-Index2 : goal.type_parts-returns-in-Index2
type_parts-returns-in-Index2 g n c =
    let s = c.args.x.now.span in
    let r = role_of c.args.role in
    let parts = c.in-Index2.parts in
    let p = parts.value.0 in
    let y = expr_at parts.value.1 in
    let z = expr_at parts.value.2 in
    comes_as _ _ _ _
    (ap (λ q. index2_of q.0.span s (path_of (expr_at q.0)) (form_of argument (expr_at c.deref-in-Index2-2.result.now.1)) (form_of argument (expr_at c.deref-in-Index2-3.result.now.2))) c.deref-in-Index2.ensures
    ∙ ap (λ q. index2_of p.span s (path_of (expr_at p)) (form_of argument (expr_at q.1)) (form_of argument (expr_at c.deref-in-Index2-3.result.now.2))) c.deref-in-Index2-2.ensures
    ∙ ap (λ q. index2_of p.span s (path_of (expr_at p)) (form_of argument y) (form_of argument (expr_at q.2))) c.deref-in-Index2-3.ensures
    ∙ ap (λ (v : Extent). index2_of v s (path_of (expr_at p)) (form_of argument y) (form_of argument z)) (sym (place_at p))
    ∙ sym (ap (λ q. form_of r (expr_view q s)) c.in-Index2.is ∙ ap (form_of r) (expr_view-Index2 parts s)))
    (c.index2_parts.ensures s)
