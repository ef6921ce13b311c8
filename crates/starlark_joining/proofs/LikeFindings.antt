-- Findings that are the same but for their places: what keeps them so.
use Rattle.std.proofs.Common.{◌≡◌, ◌∷◌, ◌++◌, [], List, Option, Some, None, Bool, true, false, cond, refl}
use Rattle.std.specs.Prelude.{not, ◌&&◌, ◌||◌}
use Rattle.starlark_place.specs.Place.{Extent}
use Rattle.starlark_rulebook.specs.Rules.{Rule, Finding, breaks, first_of, listed}
use Rattle.starlark_rulebook.specs.Parameters.{fault_if}
use Rattle.starlark_rulebook.specs.Late.{unless}

-- the same truth
pub data LikeTruth : Bool → Bool → Type 0 where
  both_true : LikeTruth true true
  both_false : LikeTruth false false

-- the same rule, or none
pub data LikeFound : Option Finding → Option Finding → Type 0 where
  both_none : LikeFound None None
  both_some : {r : Rule} {s u : Extent} → LikeFound (Some (breaks r s)) (Some (breaks r u))

-- the same rules
pub data LikeFindings : List Finding → List Finding → Type 0 where
  no_findings : LikeFindings [] []
  and_finding : {r : Rule} {s u : Extent} {fs gs : List Finding} → LikeFindings fs gs → LikeFindings (breaks r s ∷ fs) (breaks r u ∷ gs)

-- ---- truths

pub truth_self : (b : Bool) → LikeTruth b b
truth_self true = both_true
truth_self false = both_false

pub truth_choice : {a b x y z w : Bool} → LikeTruth a b → LikeTruth x y → LikeTruth z w → LikeTruth (cond a x z) (cond b y w)
truth_choice both_true h k = h
truth_choice both_false h k = k

pub like_not : {a b : Bool} → LikeTruth a b → LikeTruth (not a) (not b)
like_not both_true = both_false
like_not both_false = both_true

pub like_and : {a b x y : Bool} → LikeTruth a b → LikeTruth x y → LikeTruth (a && x) (b && y)
like_and both_true h = h
like_and both_false h = both_false

pub like_or : {a b x y : Bool} → LikeTruth a b → LikeTruth x y → LikeTruth (a || x) (b || y)
like_or both_true h = both_true
like_or both_false h = h

-- ---- one finding or none

pub like_first : {a b c d : Option Finding} → LikeFound a b → LikeFound c d → LikeFound (first_of a c) (first_of b d)
like_first both_none k = k
like_first both_some k = both_some

pub found_choice : {a b : Bool} {x y z w : Option Finding} → LikeTruth a b → LikeFound x y → LikeFound z w → LikeFound (cond a x z) (cond b y w)
found_choice both_true h k = h
found_choice both_false h k = k

pub like_if : {a b : Bool} (r : Rule) (s u : Extent) → LikeTruth a b → LikeFound (fault_if a (breaks r s)) (fault_if b (breaks r u))
like_if r s u both_true = both_some
like_if r s u both_false = both_none

pub found_none : {a b : Option Finding} → LikeFound a b → a ≡ None → b ≡ None
found_none both_none e = refl
found_none (both_some {r} {s}) e = absurd (let n : Some (breaks r s) ≡ None = e in (cc))

-- ---- several findings

pub like_both : {fs gs hs is : List Finding} → LikeFindings fs gs → LikeFindings hs is → LikeFindings (fs ++ hs) (gs ++ is)
like_both no_findings k = k
like_both (and_finding h) k = and_finding (like_both h k)

pub like_three : {fs gs hs is js ks : List Finding} → LikeFindings fs gs → LikeFindings hs is → LikeFindings js ks → LikeFindings (fs ++ hs ++ js) (gs ++ is ++ ks)
like_three h k l = like_both (like_both h k) l

pub like_listed : {a b : Option Finding} → LikeFound a b → LikeFindings (listed a) (listed b)
like_listed both_none = no_findings
like_listed both_some = and_finding no_findings

pub like_unless : (c : Bool) (r : Rule) (s u : Extent) → LikeFindings (unless c r s) (unless c r u)
like_unless true r s u = no_findings
like_unless false r s u = and_finding no_findings

pub findings_choice : {fs gs hs is : List Finding} (c : Bool) → LikeFindings fs gs → LikeFindings hs is → LikeFindings (cond c fs hs) (cond c gs is)
findings_choice true h k = h
findings_choice false h k = k

pub like_empty : {fs gs : List Finding} → LikeFindings fs gs → fs ≡ [] → gs ≡ []
like_empty no_findings e = refl
like_empty (and_finding {r} {s} {fs = fs} h) e = absurd (let n : breaks r s ∷ fs ≡ [] = e in (cc))
