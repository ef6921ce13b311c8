-- What parameters break does not depend on places.
use Rattle.std.proofs.Common.{ℕ, ◌≡◌, suc, refl, ap, subst, List, Bool, Option, Some, None}
use Rattle.std.specs.Prelude.{bytes_eq, nat_lt}
use Rattle.starlark_place.specs.Place.{Extent, merged_all}
use Rattle.starlark_ast.specs.Tree as t
use Rattle.starlark_ast.specs.Tree.{Stars, Member, Members, Bound}
use Rattle.starlark_rulebook.specs.Rules.{TooManyParameters, AfterKwargs, RequiredAfterOptional, ArgsAgain, KwargsAgain, DuplicatedName, MultipleSlash, StarNotNamed}
use Rattle.starlark_rulebook.specs.Calls.{any}
use Rattle.starlark_rulebook.specs.Parameters.{is_parameter, is_starred, is_double_starred, is_slash, is_mark, is_plain, is_optional, required_if, named_fault, parameter_fault, parameters_fault, slash_fault, first_slash, parameter_place, star_place, ending_star, behind_star, unnamed_star, last_star, member_count, parameter_places, first_parameter_fault}
use Rattle.starlark_joining.specs.Same.{SameBound, same_absent, same_present, SameMember, same_slash, same_no_args, same_parameter, SameMembers, same_none, same_more}
use Rattle.starlark_joining.proofs.LikeFindings.{LikeTruth, both_true, both_false, truth_self, like_not, like_and, like_or, LikeFound, both_none, both_some, like_first, like_if}
use Rattle.starlark_joining.proofs.SameArguments.{any_same}

-- a place on both sides, or none
data LikePlace : Option Extent → Option Extent → Type 0 where
  no_place : LikePlace None None
  a_place : {s u : Extent} → LikePlace (Some s) (Some u)

last_star_same : {o p : Option Extent} → LikePlace o p → LikeFound (last_star o) (last_star p)
last_star_same no_place = both_none
last_star_same a_place = both_some

module _ {R : ℕ → ℕ → Type 0} where
  -- ---- what a parameter is

  parameter_named : {m n : Member} (l : List ℕ) → SameMember R m n → LikeTruth (is_parameter l m) (is_parameter l n)
  parameter_named l (same_parameter {n} u a b s) = truth_self (bytes_eq l n)
  parameter_named l m = both_false

  starred_same : {m n : Member} → SameMember R m n → LikeTruth (is_starred m) (is_starred n)
  starred_same (same_no_args s) = both_true
  starred_same (same_parameter {k = t.starred} u a b s) = both_true
  starred_same (same_parameter {k = t.double_starred} u a b s) = both_true
  starred_same m = both_false

  double_same : {m n : Member} → SameMember R m n → LikeTruth (is_double_starred m) (is_double_starred n)
  double_same (same_parameter {k = t.double_starred} u a b s) = both_true
  double_same m = both_false

  slash_same : {m n : Member} → SameMember R m n → LikeTruth (is_slash m) (is_slash n)
  slash_same (same_slash s) = both_true
  slash_same m = both_false

  mark_same : {m n : Member} → SameMember R m n → LikeTruth (is_mark m) (is_mark n)
  mark_same m = like_or (slash_same m) (starred_same m)

  plain_same : {m n : Member} → SameMember R m n → LikeTruth (is_plain m) (is_plain n)
  plain_same (same_parameter {k = t.plain} u a b s) = both_true
  plain_same m = both_false

  optional_same : {m n : Member} → SameMember R m n → LikeTruth (is_optional m) (is_optional n)
  optional_same (same_parameter {k = t.plain} u a (same_present x) s) = both_true
  optional_same m = both_false

  -- ---- each behind others

  any_starred : {ms ns : Members} → SameMembers R ms ns → LikeTruth (any is_starred ms) (any is_starred ns)
  any_starred ms = any_same is_starred (λ _ _ z. starred_same z) ms

  any_double : {ms ns : Members} → SameMembers R ms ns → LikeTruth (any is_double_starred ms) (any is_double_starred ns)
  any_double ms = any_same is_double_starred (λ _ _ z. double_same z) ms

  required_same : {v w : Bool} {b c : Bound} (s u : Extent) → LikeTruth v w → SameBound R b c → LikeFound (required_if v b s) (required_if w c u)
  required_same s u h same_absent = like_if RequiredAfterOptional s u h
  required_same s u h (same_present x) = both_none

  name_fault_same : {ms ns : Members} {b c : Bound} (k : Stars) (s u : Extent) → SameMembers R ms ns → SameBound R b c → LikeFound (named_fault ms k b s) (named_fault ns k c u)
  name_fault_same t.plain s u ms b = like_first (like_if AfterKwargs s u (any_double ms)) (required_same s u (like_and (any_same is_optional (λ _ _ z. optional_same z) ms) (like_not (any_starred ms))) b)
  name_fault_same t.starred s u ms b = like_if ArgsAgain s u (any_starred ms)
  name_fault_same t.double_starred s u ms b = like_if KwargsAgain s u (any_double ms)

  parameter_same : {ms ns : Members} {m n : Member} → SameMembers R ms ns → SameMember R m n → LikeFound (parameter_fault ms m) (parameter_fault ns n)
  parameter_same ms (same_parameter {k} {n} {s} {r} u a b z) = like_first (like_if DuplicatedName s r (any_same (is_parameter n) (λ _ _ q. parameter_named n q) ms)) (name_fault_same k s r ms b)
  parameter_same ms (same_no_args {s} {r} z) = like_if ArgsAgain s r (any_starred ms)
  parameter_same ms (same_slash {s} {r} z) = like_if MultipleSlash s r (any_same is_mark (λ _ _ q. mark_same q) ms)
  parameter_same ms m = both_none

  all_same : {ms ns : Members} → SameMembers R ms ns → LikeFound (parameters_fault ms) (parameters_fault ns)
  all_same same_none = both_none
  all_same (same_more ms m) = like_first (all_same ms) (parameter_same ms m)

  -- ---- `/` and `*`

  slash_fault_same : {m n : Member} → SameMember R m n → LikeFound (slash_fault m) (slash_fault n)
  slash_fault_same (same_slash s) = both_some
  slash_fault_same m = both_none

  first_slash_same : {ms ns : Members} → SameMembers R ms ns → LikeFound (first_slash ms) (first_slash ns)
  first_slash_same same_none = both_none
  first_slash_same (same_more same_none m) = slash_fault_same m
  first_slash_same (same_more (same_more ms k) m) = first_slash_same (same_more ms k)

  star_place_same : {m n : Member} → SameMember R m n → LikePlace (star_place m) (star_place n)
  star_place_same (same_no_args s) = a_place
  star_place_same m = no_place

  ending_same : {ms ns : Members} → SameMembers R ms ns → LikePlace (ending_star ms) (ending_star ns)
  ending_same same_none = no_place
  ending_same (same_more ms m) = star_place_same m

  behind_star_same : {o p : Option Extent} {m n : Member} → LikePlace o p → SameMember R m n → LikeFound (behind_star o m) (behind_star p n)
  behind_star_same no_place m = both_none
  behind_star_same {m = m} {n} a_place z = like_if StarNotNamed (parameter_place m) (parameter_place n) (like_not (plain_same z))

  unnamed_same : {ms ns : Members} → SameMembers R ms ns → LikeFound (unnamed_star ms) (unnamed_star ns)
  unnamed_same same_none = both_none
  unnamed_same (same_more ms m) = like_first (unnamed_same ms) (behind_star_same (ending_same ms) m)

  -- ---- their number, and all

  count_same : {ms ns : Members} → SameMembers R ms ns → member_count ms ≡ member_count ns
  count_same same_none = refl
  count_same (same_more ms m) = ap suc (count_same ms)

  many_same : {ms ns : Members} → SameMembers R ms ns → LikeTruth (nat_lt 4294967295 (member_count ms)) (nat_lt 4294967295 (member_count ns))
  many_same {ms} ss = subst (λ z. LikeTruth (nat_lt 4294967295 (member_count ms)) (nat_lt 4294967295 z)) (count_same ss) (truth_self (nat_lt 4294967295 (member_count ms)))

  pub parameters_same : {ms ns : Members} → SameMembers R ms ns → LikeFound (first_parameter_fault ms) (first_parameter_fault ns)
  parameters_same {ms} {ns} ss =
      like_first (like_if TooManyParameters (merged_all (parameter_places ms)) (merged_all (parameter_places ns)) (many_same ss))
      (like_first (first_slash_same ss)
      (like_first (all_same ss)
      (like_first (unnamed_same ss) (last_star_same (ending_same ss)))))
