use Rattle.std.proofs.Common.{◌≡◌, ◌+◌, ◌*◌, ◌++◌, length, take, drop, flat_map, Ok}
use Rattle.std.specs.List.{sum_by}
use denote.Param.Always.{always_mut}
use Rattle.starlark_ast.specs.Access.{argument_expr}
use Rattle.starlark_write.specs.Beside.{AtPlace, KeepsArgument}
use Rattle.starlark_write.specs.BesideTypes.{KeepsClauseTypes, KeepsDefault, KeepsTargetTypes, KeepsTypes}
use Rattle.starlark_write.specs.TypePlaces.{argument_types, clause_types, default_types, expr_types, target_types}
use Rattle.starlark_write.specs.Writing.{WritesUntil}
use Rattle.starlark_write.proofs.Loops.{Both}
use Rattle.starlark_write.proofs.TypelessNodes.{argument_nodes, clause_nodes, default_nodes, expr_nodes, for_clause_nodes, lambda_nodes, maybe_nodes, target_nodes}
use Rattle.starlark_write.proofs.exprs.+exprs.Given as goal

abbrev pub decreases-expr : goal.decreases-expr
decreases-expr g l = 8 * expr_nodes l.x.now.node

abbrev pub decreases-boxed : goal.decreases-boxed
decreases-boxed g l = 8 * expr_nodes l.x.now.value.node + 1

abbrev pub decreases-named : goal.decreases-named
decreases-named g l = 8 * expr_nodes l.x.now.value.node + 2

abbrev pub decreases-both : goal.decreases-both
decreases-both g l = 8 * (expr_nodes l.x.now.node + expr_nodes l.y.now.node) + 1

abbrev pub decreases-operation : goal.decreases-operation
decreases-operation g l = 8 * (expr_nodes l.x.now.value.node + expr_nodes l.y.now.value.node) + 2

abbrev pub decreases-pair : goal.decreases-pair
decreases-pair g l = 8 * (expr_nodes l.x.now.value.0.node + expr_nodes l.x.now.value.1.node) + 2

abbrev pub decreases-three : goal.decreases-three
decreases-three g l = 8 * (expr_nodes l.x.now.node + expr_nodes l.y.now.node + expr_nodes l.z.now.node) + 2

abbrev pub decreases-triple : goal.decreases-triple
decreases-triple g l = 8 * (expr_nodes l.x.now.value.0.node + expr_nodes l.x.now.value.1.node + expr_nodes l.x.now.value.2.node) + 3

abbrev pub decreases-bound : goal.decreases-bound
decreases-bound g l = 8 * maybe_nodes l.x.now + 2

abbrev pub decreases-bounds : goal.decreases-bounds
decreases-bounds g l = 8 * (maybe_nodes l.a.now + maybe_nodes l.b.now + maybe_nodes l.c.now) + 3

abbrev pub decreases-slice : goal.decreases-slice
decreases-slice g l = 8 * (expr_nodes l.x.now.value.node + maybe_nodes l.a.now + maybe_nodes l.b.now + maybe_nodes l.c.now) + 4

abbrev pub decreases-call : goal.decreases-call
decreases-call g l = 8 * (expr_nodes l.x.now.value.node + sum_by (λ a. argument_nodes a.node) l.args.now.args.items) + 4

abbrev pub decreases-list : goal.decreases-list
decreases-list g l = 8 * sum_by (λ x. expr_nodes x.node) l.xs.now.items + 2

abbrev pub decreases-each : goal.decreases-each
decreases-each g l = 8 * sum_by (λ x. expr_nodes x.node) l.xs.now + 1

abbrev pub decreases-dict : goal.decreases-dict
decreases-dict g l = 8 * sum_by (λ x. expr_nodes x.0.node + expr_nodes x.1.node) l.xs.now.items + 4

abbrev pub decreases-pairs : goal.decreases-pairs
decreases-pairs g l = 8 * sum_by (λ x. expr_nodes x.0.node + expr_nodes x.1.node) l.xs.now + 3

abbrev pub decreases-entry : goal.decreases-entry
decreases-entry g l = 8 * (expr_nodes l.x.now.0.node + expr_nodes l.x.now.1.node) + 2

abbrev pub decreases-arguments : goal.decreases-arguments
decreases-arguments g l = 8 * sum_by (λ a. argument_nodes a.node) l.xs.now.items + 3

abbrev pub decreases-each_argument : goal.decreases-each_argument
decreases-each_argument g l = 8 * sum_by (λ a. argument_nodes a.node) l.xs.now + 2

abbrev pub decreases-argument : goal.decreases-argument
decreases-argument g l = 8 * argument_nodes l.x.now.node + 1

abbrev pub decreases-lambda : goal.decreases-lambda
decreases-lambda g l = 8 * lambda_nodes l.x.now + 7

abbrev pub decreases-defaults : goal.decreases-defaults
decreases-defaults g l = 8 * sum_by (λ p. default_nodes p.node) l.xs.now.items + 6

abbrev pub decreases-each_default : goal.decreases-each_default
decreases-each_default g l = 8 * sum_by (λ p. default_nodes p.node) l.xs.now + 5

abbrev pub decreases-default : goal.decreases-default
decreases-default g l = 8 * default_nodes l.x.now.node + 4

abbrev pub decreases-plain : goal.decreases-plain
decreases-plain g l = 8 * maybe_nodes l.x.now + 3

abbrev pub decreases-listed : goal.decreases-listed
decreases-listed g l = 8 * (for_clause_nodes l.first.now.value + sum_by clause_nodes l.rest.now.items + expr_nodes l.x.now.value.node) + 6

abbrev pub decreases-mapped : goal.decreases-mapped
decreases-mapped g l = 8 * (for_clause_nodes l.first.now.value + sum_by clause_nodes l.rest.now.items + (expr_nodes l.x.now.value.0.node + expr_nodes l.x.now.value.1.node)) + 6

abbrev pub decreases-clauses : goal.decreases-clauses
decreases-clauses g l = 8 * (for_clause_nodes l.first.now.value + sum_by clause_nodes l.rest.now.items) + 5

abbrev pub decreases-others : goal.decreases-others
decreases-others g l = 8 * sum_by clause_nodes l.xs.now.items + 4

abbrev pub decreases-each_clause : goal.decreases-each_clause
decreases-each_clause g l = 8 * sum_by clause_nodes l.xs.now + 3

abbrev pub decreases-clause : goal.decreases-clause
decreases-clause g l = 8 * clause_nodes l.x.now + 2

abbrev pub decreases-for_clause : goal.decreases-for_clause
decreases-for_clause g l = 8 * for_clause_nodes l.x.now + 1

abbrev pub decreases-target : goal.decreases-target
decreases-target g l = 8 * target_nodes l.x.now.node

abbrev pub decreases-targets : goal.decreases-targets
decreases-targets g l = 8 * sum_by (λ x. target_nodes x.node) l.xs.now.items + 2

abbrev pub decreases-all_targets : goal.decreases-all_targets
decreases-all_targets g l = 8 * sum_by (λ x. target_nodes x.node) l.xs.now + 1

abbrev pub decreases-fstring : goal.decreases-fstring
decreases-fstring g l = 8 * sum_by (λ y. expr_nodes y.node) l.x.now.node.expressions.items + 3

-- what was gone over is written, and the rest as it was
abbrev pub invariant-each-loop-i : goal.invariant-each-loop-i
invariant-each-loop-i g l =
    always_mut g.F.FnMut l.f
    × WritesUntil g.F.FnMut l.fn.f (flat_map (λ x. expr_types x.node) (take l.i l.fn.xs)) (Ok tt) l.f (flat_map (λ x. expr_types x.node) (take l.i l.xs))
    × Both KeepsTypes (take l.i l.fn.xs) (take l.i l.xs)
    × (length l.xs ≡ length l.fn.xs)
    × (drop l.i l.xs ≡ drop l.i l.fn.xs)

abbrev pub invariant-pairs-loop-i : goal.invariant-pairs-loop-i
invariant-pairs-loop-i g l =
    always_mut g.F.FnMut l.f
    × WritesUntil g.F.FnMut l.fn.f (flat_map (λ x. expr_types x.0.node ++ expr_types x.1.node) (take l.i l.fn.xs)) (Ok tt) l.f (flat_map (λ x. expr_types x.0.node ++ expr_types x.1.node) (take l.i l.xs))
    × Both (λ x y. KeepsTypes x.0 y.0 × KeepsTypes x.1 y.1) (take l.i l.fn.xs) (take l.i l.xs)
    × (length l.xs ≡ length l.fn.xs)
    × (drop l.i l.xs ≡ drop l.i l.fn.xs)

abbrev pub invariant-each_argument-loop-i : goal.invariant-each_argument-loop-i
invariant-each_argument-loop-i g l =
    always_mut g.F.FnMut l.f
    × WritesUntil g.F.FnMut l.fn.f (flat_map (λ a. argument_types a.node) (take l.i l.fn.xs)) (Ok tt) l.f (flat_map (λ a. argument_types a.node) (take l.i l.xs))
    × Both (λ x y. AtPlace KeepsArgument x y × KeepsTypes (argument_expr x.node) (argument_expr y.node)) (take l.i l.fn.xs) (take l.i l.xs)
    × (length l.xs ≡ length l.fn.xs)
    × (drop l.i l.xs ≡ drop l.i l.fn.xs)

abbrev pub invariant-each_default-loop-i : goal.invariant-each_default-loop-i
invariant-each_default-loop-i g l =
    always_mut g.F.FnMut l.f
    × WritesUntil g.F.FnMut l.fn.f (flat_map (λ p. default_types p.node) (take l.i l.fn.xs)) (Ok tt) l.f (flat_map (λ p. default_types p.node) (take l.i l.xs))
    × Both KeepsDefault (take l.i l.fn.xs) (take l.i l.xs)
    × (length l.xs ≡ length l.fn.xs)
    × (drop l.i l.xs ≡ drop l.i l.fn.xs)

abbrev pub invariant-each_clause-loop-i : goal.invariant-each_clause-loop-i
invariant-each_clause-loop-i g l =
    always_mut g.F.FnMut l.f
    × WritesUntil g.F.FnMut l.fn.f (flat_map clause_types (take l.i l.fn.xs)) (Ok tt) l.f (flat_map clause_types (take l.i l.xs))
    × Both KeepsClauseTypes (take l.i l.fn.xs) (take l.i l.xs)
    × (length l.xs ≡ length l.fn.xs)
    × (drop l.i l.xs ≡ drop l.i l.fn.xs)

abbrev pub invariant-all_targets-loop-i : goal.invariant-all_targets-loop-i
invariant-all_targets-loop-i g l =
    always_mut g.F.FnMut l.f
    × WritesUntil g.F.FnMut l.fn.f (flat_map (λ x. target_types x.node) (take l.i l.fn.xs)) (Ok tt) l.f (flat_map (λ x. target_types x.node) (take l.i l.xs))
    × Both KeepsTargetTypes (take l.i l.fn.xs) (take l.i l.xs)
    × (length l.xs ≡ length l.fn.xs)
    × (drop l.i l.xs ≡ drop l.i l.fn.xs)
