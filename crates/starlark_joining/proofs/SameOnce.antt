-- What a construct breaks at once does not depend on places.
use Rattle.std.proofs.Common.{ℕ, ◌≡◌, None}
use Rattle.starlark_lexer.specs.declared.dialect.Dialect.{Dialect}
use Rattle.starlark_grammar.specs.Events.{Event, breaks_at_once}
use Rattle.starlark_joining.specs.Joined.{SameEvent, same_typed, same_assigned, same_looped, same_shaped}
use Rattle.starlark_joining.proofs.LikeFindings.{LikeFound, both_none, found_none}
use Rattle.starlark_joining.proofs.SameTargets.{target_same, assignment_same}
use Rattle.starlark_joining.proofs.SameForms.{type_same}

pub at_once_like : (d : Dialect) {R : ℕ → ℕ → Type 0} {e f : Event} → SameEvent R e f → LikeFound (breaks_at_once d e) (breaks_at_once d f)
at_once_like d (same_typed x) = type_same d x
at_once_like d (same_assigned {o} x a) = assignment_same o x a
at_once_like d (same_looped x) = target_same x
at_once_like d (same_shaped s) = both_none

pub same_at_once : (d : Dialect) {R : ℕ → ℕ → Type 0} {e f : Event} → SameEvent R e f → breaks_at_once d e ≡ None → breaks_at_once d f ≡ None
same_at_once d s h = found_none (at_once_like d s) h
