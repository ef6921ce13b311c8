-- What the arguments of a call break does not depend on places.
use Rattle.std.proofs.Common.{ℕ, List, Bool}
use Rattle.std.specs.Prelude.{bytes_eq}
use Rattle.starlark_ast.specs.Tree.{Member, Members}
use Rattle.starlark_rulebook.specs.Calls.{any, is_other, is_star, is_kwargs, has_name, argument_fault, first_call_fault}
use Rattle.starlark_joining.specs.Same.{SameMember, same_positional, same_named, same_args, same_kwargs, SameMembers, same_none, same_more}
use Rattle.starlark_joining.proofs.LikeFindings.{LikeTruth, both_true, both_false, truth_self, truth_choice, LikeFound, both_none, both_some, like_first, found_choice}

module _ {R : ℕ → ℕ → Type 0} where
  pub any_same : {ms ns : Members} (f : Member → Bool) → ((m n : Member) → SameMember R m n → LikeTruth (f m) (f n)) → SameMembers R ms ns → LikeTruth (any f ms) (any f ns)
  any_same f h same_none = both_false
  any_same f h (same_more {m} {n} ms s) = truth_choice (h m n s) both_true (any_same f h ms)

  other_same : {m n : Member} → SameMember R m n → LikeTruth (is_other m) (is_other n)
  other_same (same_positional x s) = both_false
  other_same m = both_true

  star_same : {m n : Member} → SameMember R m n → LikeTruth (is_star m) (is_star n)
  star_same (same_args x s) = both_true
  star_same (same_kwargs x s) = both_true
  star_same m = both_false

  kwargs_same : {m n : Member} → SameMember R m n → LikeTruth (is_kwargs m) (is_kwargs n)
  kwargs_same (same_kwargs x s) = both_true
  kwargs_same m = both_false

  name_same : {m n : Member} (l : List ℕ) → SameMember R m n → LikeTruth (has_name l m) (has_name l n)
  name_same l (same_named {n} u x s) = truth_self (bytes_eq l n)
  name_same l m = both_false

  argument_same : {ms ns : Members} {m n : Member} → SameMembers R ms ns → SameMember R m n → LikeFound (argument_fault ms m) (argument_fault ns n)
  argument_same ms (same_positional x s) = found_choice (any_same is_other (λ _ _ z. other_same z) ms) both_some both_none
  argument_same ms (same_named {n} u x s) = found_choice (any_same is_star (λ _ _ z. star_same z) ms) both_some (found_choice (any_same (has_name n) (λ _ _ z. name_same n z) ms) both_some both_none)
  argument_same ms (same_args x s) = found_choice (any_same is_star (λ _ _ z. star_same z) ms) both_some both_none
  argument_same ms (same_kwargs x s) = found_choice (any_same is_kwargs (λ _ _ z. kwargs_same z) ms) both_some both_none
  argument_same ms m = both_none

  pub call_same : {ms ns : Members} → SameMembers R ms ns → LikeFound (first_call_fault ms) (first_call_fault ns)
  call_same same_none = both_none
  call_same (same_more ms m) = like_first (call_same ms) (argument_same ms m)
