-- What an assignment breaks does not depend on places.
use Rattle.std.proofs.Common.{ℕ, Option, Some, None}
use Rattle.starlark_ast.specs.declared.ast.AssignOp.{AssignOp}
use Rattle.starlark_ast.specs.Tree as t
use Rattle.starlark_ast.specs.Tree.{Expr, Member, Members, Annotation}
use Rattle.starlark_rulebook.specs.Targets.{target_fault, targets_fault, member_fault, modify_fault, annotation_fault, assignment_fault}
use Rattle.starlark_joining.specs.Same.{SameExpr, same_leaf, same_tuple, same_list, same_dot, same_index, SameMember, same_item, SameMembers, same_none, same_more, SameAnnotation, same_untyped, same_typed, same_single}
use Rattle.starlark_joining.proofs.LikeFindings.{LikeFound, both_none, both_some, like_first}

module _ {R : ℕ → ℕ → Type 0} where
  mutual
    pub target_same : {x y : Expr} → SameExpr R x y → LikeFound (target_fault x) (target_fault y)
    target_same (same_leaf {l = t.name n} u s) = both_none
    target_same (same_tuple m s) = targets_same m
    target_same (same_list m s) = targets_same m
    target_same (same_dot x u s) = both_none
    target_same (same_index x (same_single y) s) = both_none
    target_same x = both_some

    targets_same : {ms ns : Members} → SameMembers R ms ns → LikeFound (targets_fault ms) (targets_fault ns)
    targets_same same_none = both_none
    targets_same (same_more ms m) = like_first (targets_same ms) (member_same m)

    member_same : {m n : Member} → SameMember R m n → LikeFound (member_fault m) (member_fault n)
    member_same (same_item x) = target_same x
    member_same m = both_none

  modify_same : {x y : Expr} (o : Option AssignOp) → SameExpr R x y → LikeFound (modify_fault x o) (modify_fault y o)
  modify_same None x = both_none
  modify_same (Some o) (same_tuple m s) = both_some
  modify_same (Some o) (same_list m s) = both_some
  modify_same o x = both_none

  annotation_same : {x y : Expr} {a b : Annotation} (o : Option AssignOp) → SameExpr R x y → SameAnnotation R a b → LikeFound (annotation_fault x a o) (annotation_fault y b o)
  annotation_same o x same_untyped = both_none
  annotation_same (Some o) x (same_typed z r) = both_some
  annotation_same None (same_tuple m s) (same_typed z r) = both_some
  annotation_same None (same_list m s) (same_typed z r) = both_some
  annotation_same None x (same_typed z r) = both_none

  pub assignment_same : {x y : Expr} {a b : Annotation} (o : Option AssignOp) → SameExpr R x y → SameAnnotation R a b → LikeFound (assignment_fault x a o) (assignment_fault y b o)
  assignment_same o x a = like_first (modify_same o x) (like_first (target_same x) (annotation_same o x a))
