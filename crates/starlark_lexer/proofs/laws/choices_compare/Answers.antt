use Rattle.std.proofs.Common.{rules, ◌≡◌, true, Bool}
use Rattle.std.specs.Prelude.{◌&&◌}
use Rattle.std.proofs.lemmas.Bool.{and_from, and_parts}
use Rattle.std.specs.Cmp.{booleans_Decides}
use mathlib.Core.Path.{ap}
use Rattle.starlark_lexer.proofs.laws.choices_compare.Goals as goal

-- what two hold of, where both are true
both : {a b : Bool} {X : Type 0} → (a && b) ≡ true → (a ≡ true → b ≡ true → X) → X
both {a} {b} h k = k (and_parts a b h).0 (and_parts a b h).1

pub returns-clause-types : goal.returns-clause-types
returns-clause-types c x y = search rules

pub returns-clause-dialects : goal.returns-clause-dialects
returns-clause-dialects c x y = (
  λ h. both h (λ p h. both h (λ q h. both h (λ r h. both h (λ s h. both h (λ t h. both h (λ u h. both h (λ v h. both h (λ w z i. record {
    enable_def = (booleans_Decides x.enable_def y.enable_def).0 p i;
    enable_lambda = (booleans_Decides x.enable_lambda y.enable_lambda).0 q i;
    enable_load = (booleans_Decides x.enable_load y.enable_load).0 r i;
    enable_keyword_only_arguments = (booleans_Decides x.enable_keyword_only_arguments y.enable_keyword_only_arguments).0 s i;
    enable_positional_only_arguments = (booleans_Decides x.enable_positional_only_arguments y.enable_positional_only_arguments).0 t i;
    enable_types = (returns-clause-types c x.enable_types y.enable_types).0 u i;
    enable_load_reexport = (booleans_Decides x.enable_load_reexport y.enable_load_reexport).0 v i;
    enable_top_level_stmt = (booleans_Decides x.enable_top_level_stmt y.enable_top_level_stmt).0 w i;
    enable_f_strings = (booleans_Decides x.enable_f_strings y.enable_f_strings).0 z i;
  })))))))),
  λ e. and_from _ _ ((booleans_Decides x.enable_def y.enable_def).1 (ap (λ z. z.enable_def) e))
      (and_from _ _ ((booleans_Decides x.enable_lambda y.enable_lambda).1 (ap (λ z. z.enable_lambda) e))
      (and_from _ _ ((booleans_Decides x.enable_load y.enable_load).1 (ap (λ z. z.enable_load) e))
      (and_from _ _ ((booleans_Decides x.enable_keyword_only_arguments y.enable_keyword_only_arguments).1 (ap (λ z. z.enable_keyword_only_arguments) e))
      (and_from _ _ ((booleans_Decides x.enable_positional_only_arguments y.enable_positional_only_arguments).1 (ap (λ z. z.enable_positional_only_arguments) e))
      (and_from _ _ ((returns-clause-types c x.enable_types y.enable_types).1 (ap (λ z. z.enable_types) e))
      (and_from _ _ ((booleans_Decides x.enable_load_reexport y.enable_load_reexport).1 (ap (λ z. z.enable_load_reexport) e))
      (and_from _ _ ((booleans_Decides x.enable_top_level_stmt y.enable_top_level_stmt).1 (ap (λ z. z.enable_top_level_stmt) e))
      ((booleans_Decides x.enable_f_strings y.enable_f_strings).1 (ap (λ z. z.enable_f_strings) e))))))))),
)
