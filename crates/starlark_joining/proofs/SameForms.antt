-- Whether an expression is a type, and why not, does not depend on places.
use Rattle.std.proofs.Common.{ℕ}
use Rattle.std.specs.Prelude.{Err}
use Rattle.starlark_lexer.specs.declared.dialect.Dialect.{Dialect}
use Rattle.starlark_ast.specs.declared.ast.BinOp.TheVariants as op
use Rattle.starlark_ast.specs.Tree as t
use Rattle.starlark_ast.specs.Tree.{Expr, Member, Members}
use Rattle.starlark_place.specs.Place.{Extent}
use Rattle.starlark_rulebook.specs.Rules.{InvalidType}
use Rattle.starlark_rulebook.specs.Types.{misfit, Form, Role, alone, argument, form_of, forms_of, comprehension_word, has_types, type_fault}
use Rattle.starlark_joining.specs.Same.{SameExpr, same_leaf, same_tuple, same_list, same_dict, same_comprehension, same_dot, same_index, same_call, same_lambda, same_signed, same_operation, same_choice, same_fstring, SameMember, same_item, same_pair, SameMembers, same_none, same_more, same_single, same_double, same_slice}
use Rattle.starlark_joining.proofs.LikeFindings.{truth_self, LikeFound, both_some, found_choice}
use Rattle.starlark_joining.proofs.SameTypes.{LikeResult, both_ok, both_err, from_like, from_both_like, index2_like, leaf_form_same, form_like, root_same, attributes_same, dotted_same, path_same}

module _ {R : ℕ → ℕ → Type 0} where
  comprehension_form : {m n : Member} (s r : Extent) → SameMember R m n → LikeResult {A = Form} {B = Form} (Err (misfit (InvalidType (comprehension_word m)) s)) (Err (misfit (InvalidType (comprehension_word n)) r))
  comprehension_form s r (same_pair x y) = both_err
  comprehension_form s r m = both_err

  mutual
    form_same : {x y : Expr} (r : Role) → SameExpr R x y → LikeResult (form_of r x) (form_of r y)
    form_same e (same_leaf {l} {u} {s} {v} {r} a b) = leaf_form_same l u s v r
    form_same r (same_dot {n} {u} {v} x z s) = from_like _ _ (dotted_same n u v (root_same x) (attributes_same x))
    form_same r (same_tuple m s) = from_like _ _ (forms_same alone m)
    form_same argument (same_list m s) = from_like _ _ (forms_same argument m)
    form_same alone (same_list same_none s) = both_err
    form_same alone (same_list (same_more same_none m) s) = both_err
    form_same alone (same_list (same_more (same_more ms k) m) s) = from_like _ _ (forms_same alone (same_more (same_more ms k) m))
    form_same r (same_operation {o = op.BitOr} x y s) = from_both_like _ _ (form_same alone x) (form_same alone y)
    form_same r (same_operation x y s) = both_err
    form_same r (same_index (same_leaf {l = t.name n} u v) (same_single y) s) = from_like _ _ (form_same alone y)
    form_same r (same_index x (same_single y) s) = both_err
    form_same r (same_index x (same_double y z) s) = index2_like _ _ _ _ (path_same x) (form_same argument y) (form_same argument z)
    form_same r (same_index x (same_slice a b c) s) = both_err
    form_same r (same_dict m s) = both_err
    form_same r (same_comprehension m c s) = comprehension_form _ _ m
    form_same r (same_call x m s) = both_err
    form_same r (same_lambda m x s) = both_err
    form_same r (same_signed x s) = both_err
    form_same r (same_choice x y z s) = both_err
    form_same r (same_fstring u m v s) = both_err

    forms_same : {ms ns : Members} (r : Role) → SameMembers R ms ns → LikeResult (forms_of r ms) (forms_of r ns)
    forms_same r same_none = both_ok
    forms_same r (same_more ms (same_item x)) = from_both_like _ _ (forms_same r ms) (form_same r x)
    forms_same r (same_more ms m) = forms_same r ms

  pub type_same : {x y : Expr} (d : Dialect) → SameExpr R x y → LikeFound (type_fault d x) (type_fault d y)
  type_same d x = found_choice (truth_self (has_types d.enable_types)) (form_like (form_same alone x)) both_some
