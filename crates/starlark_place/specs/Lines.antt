-- Where the lines of a text begin.
use Rattle.std.specs.Prelude.{◌≡◌, ◌≤◌, ℕ, ◌+◌, if◌then◌else◌, List, [], ◌∷◌, length}
use Rattle.starlark_place.specs.Place.{is_feed}

-- behind each line feed of a text that stands i bytes into its source
abbrev pub behind_feeds : ℕ → List ℕ → List ℕ
behind_feeds i [] = []
behind_feeds i (b ∷ bs) = if is_feed b then (i + 1) ∷ behind_feeds (i + 1) bs else behind_feeds (i + 1) bs

-- the first line begins with the text, each other behind a line feed
abbrev pub line_begins : List ℕ → List ℕ
line_begins text = 0 ∷ behind_feeds 0 text

-- the places of a source fit 32 bits, and its lines are known
pub record IsIndexed (source begins : List ℕ) : Type 0 where
  pub fits : length source ≤ 4294967295
  pub lines : begins ≡ line_begins source
