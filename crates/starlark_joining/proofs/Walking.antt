-- Steps of the machine, and whether what it meets breaks a rule at once.
use Rattle.std.proofs.Common.{◌≡◌, ◌∷◌, ◌∙◌, List, Option, Some, None, ap}
use Rattle.starlark_lexer.specs.Items.{Item}
use Rattle.starlark_lexer.specs.declared.dialect.Dialect.{Dialect}
use Rattle.starlark_grammar.specs.Events.{Event, breaks_at_once}
use Rattle.starlark_grammar.specs.Marks.{Clean}
use Rattle.starlark_grammar.specs.Frames.{State}
use Rattle.starlark_grammar.specs.Machine.{step}
use Rattle.starlark_grammar.specs.Runs.{met, Trace, Stuck, bottom, marks_of, note, run}
use Rattle.starlark_grammar.proofs.Dead.{beyond}
use Rattle.starlark_grammar.proofs.Sound.{bottom_note}
use Rattle.starlark_grammar.proofs.Steps.{runs}

-- what is met breaks no rule
abbrev pub CleanHere : Dialect → Option Event → Type 0
CleanHere d None = Unit {0}
CleanHere d (Some e) = breaks_at_once d e ≡ None

abbrev pub CleanRun : Dialect → State → List Item → Type 0
CleanRun d s ts = Clean d (marks_of (run s ts))

pub clean_now : (d : Dialect) (xs : List Item) (m : Option Event) (v : Trace) → Clean d (marks_of (note xs m v)) → CleanHere d m
clean_now d xs None v c = tt
clean_now d xs (Some e) v c = c.0

pub clean_then : (d : Dialect) (xs : List Item) (m : Option Event) (v : Trace) → Clean d (marks_of (note xs m v)) → Clean d (marks_of v)
clean_then d xs None v c = c
clean_then d xs (Some e) v c = c.1

pub clean_both : (d : Dialect) (xs : List Item) (m : Option Event) (v : Trace) → CleanHere d m → Clean d (marks_of v) → Clean d (marks_of (note xs m v))
clean_both d xs None v h c = c
clean_both d xs (Some e) v h c = (h, c)

-- where a token leads to a state
pub runs_on : (s u : State) (x : Item) (xs : List Item) → step s x ≡ Some u → run s (x ∷ xs) ≡ note (x ∷ xs) (met s (Some x.lexeme)) (run u xs)
runs_on s u x xs e = runs s x xs ∙ ap (λ o. note (x ∷ xs) (met s (Some x.lexeme)) (beyond x xs o)) e

pub halts : (s : State) (x : Item) (xs : List Item) → step s x ≡ None → bottom (run s (x ∷ xs)) ≡ Stuck (x ∷ xs)
halts s x xs e = ap bottom (runs s x xs) ∙ bottom_note (x ∷ xs) (met s (Some x.lexeme)) (beyond x xs (step s x)) ∙ ap (λ o. bottom (beyond x xs o)) e
