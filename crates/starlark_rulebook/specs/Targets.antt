-- What may be assigned to, and what an assignment breaks.
use Rattle.std.specs.Prelude.{Option, Some, None}
use Rattle.starlark_ast.specs.declared.ast.AssignOp.{AssignOp}
use Rattle.starlark_ast.specs.Tree as t
use Rattle.starlark_ast.specs.Tree.{Expr, Member, Members, Annotation, place}
use Rattle.starlark_rulebook.specs.Rules.{InvalidModifyLhs, InvalidLhs, TypeAnnotationOnAssignOp, TypeAnnotationOnTupleAssign, Finding, breaks, first_of}

-- The first member that is no identifier, attribute, element or list of such: `InvalidLhs` at it (docs/LANGUAGE.md, Rules).
abbrev mutual
  pub target_fault : Expr → Option Finding
  target_fault (t.leaf (t.name n) u s) = None
  target_fault (t.tuple ms s) = targets_fault ms
  target_fault (t.list ms s) = targets_fault ms
  target_fault (t.dot x n u s) = None
  target_fault (t.index x (t.single y) s) = None
  target_fault x = Some (breaks InvalidLhs (place x))

  pub targets_fault : Members → Option Finding
  targets_fault t.none = None
  targets_fault (t.more ms m) = first_of (targets_fault ms) (member_fault m)

  pub member_fault : Member → Option Finding
  member_fault (t.item x) = target_fault x
  member_fault m = None

-- Several targets before an operator other than `=`.
abbrev pub modify_fault : Expr → Option AssignOp → Option Finding
modify_fault x None = None
modify_fault (t.tuple ms s) (Some o) = Some (breaks InvalidModifyLhs s)
modify_fault (t.list ms s) (Some o) = Some (breaks InvalidModifyLhs s)
modify_fault x (Some o) = None

-- A type before an operator other than `=`, or of several targets.
abbrev pub annotation_fault : Expr → Annotation → Option AssignOp → Option Finding
annotation_fault x t.untyped o = None
annotation_fault x (t.typed y s) (Some o) = Some (breaks TypeAnnotationOnAssignOp s)
annotation_fault (t.tuple ms u) (t.typed y s) None = Some (breaks TypeAnnotationOnTupleAssign s)
annotation_fault (t.list ms u) (t.typed y s) None = Some (breaks TypeAnnotationOnTupleAssign s)
annotation_fault x (t.typed y s) None = None

-- The first fault of an assignment: of its operator, its left side, its type.
abbrev pub assignment_fault : Expr → Annotation → Option AssignOp → Option Finding
assignment_fault x a o = first_of (modify_fault x o) (first_of (target_fault x) (annotation_fault x a o))

-- What is assigned to: a list stands for a tuple.
abbrev mutual
  pub target_of : Expr → Expr
  target_of (t.tuple ms s) = t.tuple (targets_of ms) s
  target_of (t.list ms s) = t.tuple (targets_of ms) s
  target_of x = x

  pub targets_of : Members → Members
  targets_of t.none = t.none
  targets_of (t.more ms m) = t.more (targets_of ms) (member_target m)

  pub member_target : Member → Member
  member_target (t.item x) = t.item (target_of x)
  member_target m = m
