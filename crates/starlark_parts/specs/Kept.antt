-- Parts as a list of texts, and what edits make of it.
use Rattle.std.specs.Prelude.{◌<◌, ◌≤◌, ℕ, List, [], length, get_or, set, Option, Some, None}
use Rattle.std.specs.List.{flat_map, insert, remove}
use Rattle.starlark_lexer.specs.declared.dialect.Dialect.{Dialect}
use Rattle.starlark_read.specs.declared.cost.Cost.{Cost}

-- the parts' texts, how many bytes they may have together, the dialect that they are read in, and what the reading of the last edit took
pub record Kept : Type 0 where
  pub texts : List (List ℕ)
  pub limit : ℕ
  pub dialect : Dialect
  pub cost : Cost

-- the parts' texts joined
abbrev pub joined : List (List ℕ) → List ℕ
joined texts = flat_map (λ t. t) texts

pub data Edit : Type 0 where
  -- a text is put before the part at that index, or behind the last
  inserts : ℕ → List ℕ → Edit
  -- a text is put in the place of the part at that index
  replaces : ℕ → List ℕ → Edit
  -- the part at that index is left out
  removes : ℕ → Edit
  -- the part at the first index is taken out and put at the second one of what is left
  moves : ℕ → ℕ → Edit

-- the edit's indices exist
abbrev pub HasIndex : List (List ℕ) → Edit → Type 0
HasIndex texts (inserts k text) = k ≤ length texts
HasIndex texts (replaces k text) = k < length texts
HasIndex texts (removes k) = k < length texts
HasIndex texts (moves k j) = (k < length texts) × (j < length texts)

-- the list after the edit
abbrev pub edited : List (List ℕ) → Edit → List (List ℕ)
edited texts (inserts k text) = insert texts k text
edited texts (replaces k text) = set texts k text
edited texts (removes k) = remove texts k
edited texts (moves k j) = insert (remove texts k) j (get_or texts k [])

-- the text that the edit brings
abbrev pub text_of : Edit → Option (List ℕ)
text_of (inserts k text) = Some text
text_of (replaces k text) = Some text
text_of (removes k) = None
text_of (moves k j) = None
