-- What is left to a lexer.
use Rattle.std.specs.Prelude.{◌≡◌, ◌≤◌, ◌<◌, ◌+◌, ◌*◌, ℕ, true, false, if◌then◌else◌, List, length, take, drop}
use Rattle.std.specs.Str.{IsCharBoundary}
use Rattle.starlark_lexer.specs.Literals.{is_bytes, is_format}
use Rattle.starlark_lexer.specs.declared.scan.Kind.{Kind}
use Rattle.starlark_lexer.specs.declared.scan.Kind.TheVariants as kind
use Rattle.starlark_lexer.specs.declared.scan.Turn.{Turn}
use Rattle.starlark_lexer.specs.declared.scan.Turn.TheVariants as turns

-- how many bytes are passed at a turn: none at a fault
abbrev pub passed : Turn → ℕ
passed (turns.Gives i k n next f) = next
passed (turns.Deeper w g) = g
passed (turns.Fits n g) = g
passed (turns.End g) = g
passed (turns.Enter f n) = n
passed (turns.Leave n) = n
passed turns.Open = 1
passed turns.Shut = 1
passed _ = 0

-- the numbers of a turn lie within the rest
pub record IsWithin (rest : List ℕ) (i n next : ℕ) : Type 0 where
  pub some : 0 < n
  pub fits : i + n ≤ next
  pub within : next ≤ length rest

-- How many looks find a turn at most: 16 for each byte that is passed, or that a fault spans, with 2 for a line that has begun, and with 16 where the text is over.
abbrev pub room : Turn → ℕ
room (turns.Gives i k n next f) = 16 * next + (if f then 0 else 2)
room (turns.Deeper w g) = 16 * g + 2
room (turns.Fits n g) = 16 * g + 2
room (turns.End g) = 16 * g + 16
room (turns.Tab g) = 16 * g + 16
room (turns.Fault i e n) = 16 * (i + n) + 16
room (turns.Enter f n) = 16 * n + 2
room (turns.Leave n) = 16 * n + 2
room turns.Open = 18
room turns.Shut = 18
room (turns.Unfinished n) = 16 * n + 16

abbrev pub Cuts : List ℕ → Turn → Type 0
Cuts rest (turns.Gives i k n next f) = IsWithin rest i n next
Cuts rest (turns.Deeper w g) = g ≤ length rest
Cuts rest (turns.Fault i e n) = i + n ≤ length rest
Cuts rest (turns.Fits n g) = g ≤ length rest
Cuts rest (turns.End g) = g ≡ length rest
Cuts rest (turns.Tab g) = g ≤ length rest
Cuts rest (turns.Enter f n) = (0 < n) × (n ≤ length rest)
Cuts rest (turns.Leave n) = (0 < n) × (n ≤ length rest)
Cuts rest turns.Open = 1 ≤ length rest
Cuts rest turns.Shut = 1 ≤ length rest
Cuts rest (turns.Unfinished n) = n ≤ length rest

abbrev pub IsLexical : Turn → Type 0
IsLexical (turns.Deeper w g) = ⊥
IsLexical (turns.Fits n g) = ⊥
IsLexical _ = Unit {0}

abbrev pub Keeps : List ℕ → Turn → Type 0
Keeps ws (turns.Fits n g) = n ≤ length ws
Keeps ws _ = Unit {0}

-- where the text of a lexeme is cut
abbrev pub Slices : Kind → List ℕ → Type 0
Slices kind.Comment w = IsCharBoundary w 1
Slices (kind.Int n radix) w = IsCharBoundary w n × ((2 ≤ radix) × (radix ≤ 36))
Slices (kind.Literal f n k) w = IsCharBoundary w n × IsCharBoundary w (n + k)
Slices (kind.Text f) w = is_bytes f.sort ≡ false
Slices _ w = Unit {0}

-- the places of a turn are places of characters
abbrev pub Bounds : List ℕ → Turn → Type 0
Bounds rest (turns.Gives i k n next f) = IsCharBoundary rest i × IsCharBoundary rest (i + n) × IsCharBoundary rest next × Slices k (take n (drop i rest))
Bounds rest (turns.Deeper w g) = IsCharBoundary rest g
Bounds rest (turns.Fault i e n) = IsCharBoundary rest i × IsCharBoundary rest (i + n)
Bounds rest (turns.Fits n g) = IsCharBoundary rest g
Bounds rest (turns.End g) = Unit {0}
Bounds rest (turns.Tab g) = Unit {0}
Bounds rest (turns.Enter f n) = IsCharBoundary rest n × (is_format f.sort ≡ true)
Bounds rest (turns.Leave n) = IsCharBoundary rest n
Bounds rest turns.Open = IsCharBoundary rest 1
Bounds rest turns.Shut = IsCharBoundary rest 1
Bounds rest (turns.Unfinished n) = IsCharBoundary rest n
