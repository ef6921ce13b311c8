-- Where a statement stands, as the definitions have it, and what those right below it break.
use Rattle.std.specs.Prelude.{ℕ, ◌<◌, List, [], ◌∷◌, flat_map, Option, Some, None}
use Rattle.starlark_ast.specs.Tree.{Statement}
use Rattle.starlark_lexer.specs.declared.dialect.Dialect.{Dialect}
use Rattle.starlark_faults.specs.declared.statements.Standing.{Standing as CodeStanding}
use Rattle.starlark_rulebook.specs.Late.{Standing, statement_rules}
use Rattle.starlark_rulebook.specs.Rules.{Finding}
use Rattle.starlark_visit.specs.Sizes.{statement_size}

abbrev pub standing_of : CodeStanding → Standing
standing_of p = record { at_top = p.at_top; in_for = p.in_for; in_def = p.in_def }

module _ {A : Type 0} where
  -- what these break where they stand there; nothing where they are not looked at
  abbrev pub rules_below : Dialect → Option CodeStanding → (A → Statement) → List A → List Finding
  rules_below d None plain xs = []
  rules_below d (Some p) plain xs = flat_map (λ x. statement_rules d (standing_of p) (plain x)) xs

  -- each of these is smaller than n
  abbrev pub AllSmaller : (A → Statement) → ℕ → List A → Type 0
  AllSmaller plain n [] = Unit {0}
  AllSmaller plain n (x ∷ xs) = (statement_size (plain x) < n) × AllSmaller plain n xs
