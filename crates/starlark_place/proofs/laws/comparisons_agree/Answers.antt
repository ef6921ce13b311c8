use Rattle.std.proofs.Common.{◌≡◌, true, refl, ◌∙◌, sym, ap, is_eq, Ordering, Less, Equal, Greater}
use Rattle.std.proofs.lemmas.Bool.{false≢true}
use Rattle.starlark_place.specs.contracts.file_span.FileSpanOrd.TheImpl.Laws.{matches_eq-law}
use Rattle.starlark_place.proofs.laws.comparisons_agree.Goals as goal

equal_then : (o : Ordering) → is_eq o ≡ true → o ≡ Equal
equal_then Less h = absurd (false≢true h)
equal_then Equal h = refl
equal_then Greater h = absurd (false≢true h)

pub returns-clause-order : goal.returns-clause-order
returns-clause-order c s t = (λ h. equal_then _ (sym (matches_eq-law s t) ∙ h), λ h. matches_eq-law s t ∙ ap is_eq h)
