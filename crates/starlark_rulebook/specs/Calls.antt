-- The first rule that the arguments of a call break.
use Rattle.std.specs.Prelude.{ℕ, if◌then◌else◌, List, Option, Some, None, Bool, true, false, bytes_eq}
use Rattle.starlark_ast.specs.Tree as t
use Rattle.starlark_ast.specs.Tree.{Member, Members}
use Rattle.starlark_rulebook.specs.Rules.{PositionalAfterNonPositional, NamedAfterStar, ArgsAfterStar, MultipleKwargs, RepeatedNamed, Finding, breaks, first_of}

-- some member passes
abbrev pub any : (Member → Bool) → Members → Bool
any f t.none = false
any f (t.more ms m) = if f m then true else any f ms

-- other than positional
abbrev pub is_other : Member → Bool
is_other (t.positional x s) = false
is_other m = true

abbrev pub is_star : Member → Bool
is_star (t.args x s) = true
is_star (t.kwargs x s) = true
is_star m = false

abbrev pub is_kwargs : Member → Bool
is_kwargs (t.kwargs x s) = true
is_kwargs m = false

abbrev pub has_name : List ℕ → Member → Bool
has_name n (t.named l u x s) = bytes_eq n l
has_name n m = false

-- What an argument breaks behind others (docs/LANGUAGE.md, Rules).
abbrev pub argument_fault : Members → Member → Option Finding
argument_fault ms (t.positional x s) = if any is_other ms then Some (breaks PositionalAfterNonPositional s) else None
argument_fault ms (t.named n u x s) = if any is_star ms then Some (breaks NamedAfterStar s) else if any (has_name n) ms then Some (breaks RepeatedNamed u) else None
argument_fault ms (t.args x s) = if any is_star ms then Some (breaks ArgsAfterStar s) else None
argument_fault ms (t.kwargs x s) = if any is_kwargs ms then Some (breaks MultipleKwargs s) else None
argument_fault ms m = None

-- The first argument that breaks a rule.
abbrev pub first_call_fault : Members → Option Finding
first_call_fault t.none = None
first_call_fault (t.more ms m) = first_of (first_call_fault ms) (argument_fault ms m)
