-- The first rule that the parameters of a `def` or a lambda break.
use Rattle.std.specs.Prelude.{ℕ, suc, ◌&&◌, ◌||◌, not, nat_lt, if◌then◌else◌, List, [], ◌∷◌, ◌++◌, Option, Some, None, Bool, true, false, bytes_eq}
use Rattle.starlark_place.specs.Place.{Extent, merged, merged_all}
use Rattle.starlark_ast.specs.Tree as t
use Rattle.starlark_ast.specs.Tree.{Stars, Member, Members, Bound, place}
use Rattle.starlark_rulebook.specs.Rules.{TooManyParameters, SlashFirst, DuplicatedName, AfterKwargs, RequiredAfterOptional, ArgsAgain, MultipleSlash, KwargsAgain, StarLast, StarNotNamed, Finding, breaks, first_of}
use Rattle.starlark_rulebook.specs.Calls.{any}

abbrev pub is_parameter : List ℕ → Member → Bool
is_parameter n (t.parameter k m u a b s) = bytes_eq n m
is_parameter n m = false

-- `*`, `*a` or `**`
abbrev pub is_starred : Member → Bool
is_starred (t.no_args s) = true
is_starred (t.parameter t.starred n u a b s) = true
is_starred (t.parameter t.double_starred n u a b s) = true
is_starred m = false

-- `**`
abbrev pub is_double_starred : Member → Bool
is_double_starred (t.parameter t.double_starred n u a b s) = true
is_double_starred m = false

abbrev pub is_slash : Member → Bool
is_slash (t.slash s) = true
is_slash m = false

-- `/`, `*`, `*a` or `**`
abbrev pub is_mark : Member → Bool
is_mark m = is_slash m || is_starred m

-- a plain one
abbrev pub is_plain : Member → Bool
is_plain (t.parameter t.plain n u a b s) = true
is_plain m = false

-- a plain one with a default
abbrev pub is_optional : Member → Bool
is_optional (t.parameter t.plain n u a (t.present x) s) = true
is_optional m = false

abbrev pub fault_if : Bool → Finding → Option Finding
fault_if b f = if b then Some f else None

-- a plain one without a default, where the flag is set
abbrev pub required_if : Bool → Bound → Extent → Option Finding
required_if wanted t.absent s = fault_if wanted (breaks RequiredAfterOptional s)
required_if wanted (t.present x) s = None

-- a plain one without a default, behind one with a default and no star
abbrev pub required_fault : Members → Bound → Extent → Option Finding
required_fault ms b s = required_if (any is_optional ms && not (any is_starred ms)) b s

-- one whose name is new
abbrev pub named_fault : Members → Stars → Bound → Extent → Option Finding
named_fault ms t.plain b s = first_of (fault_if (any is_double_starred ms) (breaks AfterKwargs s)) (required_fault ms b s)
named_fault ms t.starred b s = fault_if (any is_starred ms) (breaks ArgsAgain s)
named_fault ms t.double_starred b s = fault_if (any is_double_starred ms) (breaks KwargsAgain s)

-- What a parameter breaks behind others (docs/LANGUAGE.md, Rules).
abbrev pub parameter_fault : Members → Member → Option Finding
parameter_fault ms (t.parameter k n u a b s) = first_of (fault_if (any (is_parameter n) ms) (breaks DuplicatedName s)) (named_fault ms k b s)
parameter_fault ms (t.no_args s) = fault_if (any is_starred ms) (breaks ArgsAgain s)
parameter_fault ms (t.slash s) = fault_if (any is_mark ms) (breaks MultipleSlash s)
parameter_fault ms m = None

-- the first parameter that breaks a rule
abbrev pub parameters_fault : Members → Option Finding
parameters_fault t.none = None
parameters_fault (t.more ms m) = first_of (parameters_fault ms) (parameter_fault ms m)

-- a `/`, which may not stand first
abbrev pub slash_fault : Member → Option Finding
slash_fault (t.slash s) = Some (breaks SlashFirst s)
slash_fault m = None

-- a `/` in first place
abbrev pub first_slash : Members → Option Finding
first_slash t.none = None
first_slash (t.more t.none m) = slash_fault m
first_slash (t.more (t.more ms k) m) = first_slash (t.more ms k)

-- the place of a parameter
abbrev pub parameter_place : Member → Extent
parameter_place (t.slash s) = s
parameter_place (t.no_args s) = s
parameter_place (t.parameter k n u a b s) = s
parameter_place (t.item x) = place x
parameter_place (t.pair x y) = merged (place x) (place y)
parameter_place (t.positional x s) = s
parameter_place (t.named n u x s) = s
parameter_place (t.args x s) = s
parameter_place (t.kwargs x s) = s

-- the place of a `*` alone
abbrev pub star_place : Member → Option Extent
star_place (t.no_args s) = Some s
star_place m = None

-- the place of a `*` at the end
abbrev pub ending_star : Members → Option Extent
ending_star t.none = None
ending_star (t.more ms m) = star_place m

-- any but a plain one, which may not stand behind a `*`
abbrev pub unnamed_fault : Member → Option Finding
unnamed_fault m = fault_if (not (is_plain m)) (breaks StarNotNamed (parameter_place m))

-- a parameter, behind a `*` or not
abbrev pub behind_star : Option Extent → Member → Option Finding
behind_star None m = None
behind_star (Some s) m = unnamed_fault m

-- what stands right behind a `*` and is no plain parameter
abbrev pub unnamed_star : Members → Option Finding
unnamed_star t.none = None
unnamed_star (t.more ms m) = first_of (unnamed_star ms) (behind_star (ending_star ms) m)

-- a `*` at the end
abbrev pub last_star : Option Extent → Option Finding
last_star None = None
last_star (Some s) = Some (breaks StarLast s)

abbrev pub member_count : Members → ℕ
member_count t.none = 0
member_count (t.more ms m) = suc (member_count ms)

-- the places of all
abbrev pub parameter_places : Members → List Extent
parameter_places t.none = []
parameter_places (t.more ms m) = parameter_places ms ++ (parameter_place m ∷ [])

-- The first fault of all: their number, a `/` in first place, the first one that breaks a rule, a `*` without names behind it (docs/LANGUAGE.md, Rules).
abbrev pub first_parameter_fault : Members → Option Finding
first_parameter_fault ms = first_of (fault_if (nat_lt 4294967295 (member_count ms)) (breaks TooManyParameters (merged_all (parameter_places ms)))) (first_of (first_slash ms) (first_of (parameters_fault ms) (first_of (unnamed_star ms) (last_star (ending_star ms)))))
