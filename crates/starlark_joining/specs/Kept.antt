-- What stays of the first of two texts, one behind the other.
use Rattle.std.specs.Prelude.{ℕ, ◌+◌, ◌≡◌, ◌≤◌, ◌⊎◌, List, [], ◌∷◌, ◌++◌}
use Rattle.starlark_ast.specs.Tree as t
use Rattle.starlark_ast.specs.Tree.{Statement, Sequence, add_statement, statement_place}
use Rattle.starlark_joining.specs.Same.{SameStatement}

-- the same place, where the first one is before h
abbrev pub Kept : ℕ → ℕ → ℕ → Type 0
Kept h x y = (x ≡ y) ⊎ (h ≤ x)

-- the second place n bytes behind the first
abbrev pub Moved : ℕ → ℕ → ℕ → Type 0
Moved n x y = y ≡ n + x

abbrev mutual
  -- where a statement begins; of a list, where those in it do
  pub begins_at : Statement → List ℕ
  begins_at (t.block ss s) = begins_in ss
  begins_at (t.break s) = s.begin ∷ []
  begins_at (t.continue s) = s.begin ∷ []
  begins_at (t.pass s) = s.begin ∷ []
  begins_at (t.return x s) = s.begin ∷ []
  begins_at (t.load m ss s) = s.begin ∷ []
  begins_at (t.expression x s) = s.begin ∷ []
  begins_at (t.assign x a o y s) = s.begin ∷ []
  begins_at (t.when x a s) = s.begin ∷ []
  begins_at (t.either x a b s) = s.begin ∷ []
  begins_at (t.repeat x y a s) = s.begin ∷ []
  begins_at (t.define n ps a b s) = s.begin ∷ []

  pub begins_in : Sequence → List ℕ
  begins_in t.no_statements = []
  begins_in (t.add_statement ss a) = begins_in ss ++ begins_at a

-- the same statement but for places as R says, which begins where the other one does, and so do those in it where it is a list
pub record SameFirst (R : ℕ → ℕ → Type 0) (s r : Statement) : Type 0 where
  pub same : SameStatement R s r
  pub begins : (statement_place s).begin ≡ (statement_place r).begin
  pub inner : begins_at s ≡ begins_at r

-- the same statements, but for the last, which begins where the other one does
pub data SameTops (R : ℕ → ℕ → Type 0) : Sequence → Sequence → Type 0 where
  all_same : {ss : Sequence} → SameTops R ss ss
  but_last : {ss : Sequence} {s r : Statement} → SameFirst R s r → SameTops R (add_statement ss s) (add_statement ss r)
