-- What the calls that read hand out, where the bytes to come are known.
use Rattle.std.specs.Prelude.{◌≡◌, ◌≤◌, ◌<◌, ℕ, List, ◌++◌, Option, None, Some, Bool, true, false, length, take}
use Rattle.starlark_script.specs.Device.{CountsOn}
use Rattle.starlark_parts.specs.Kept.{Edit, inserts, replaces, removes, moves, text_of}
use Rattle.starlark_script.specs.Script.{Front, front, first_line, Command, IsCut, nothing, no_command, asking, editing, outlining, with_text, command_of}
use Rattle.starlark_script.specs.declared.command.Head.{Head}
use Rattle.starlark_script.specs.declared.command.Head.TheVariants as heads
use Rattle.starlark_script.specs.declared.reading.Line.{Line}
use Rattle.starlark_script.specs.declared.reading.Line.TheVariants as lines
use Rattle.starlark_script.specs.declared.reading.Taken.{Taken}
use Rattle.starlark_script.specs.declared.reading.Taken.TheVariants as texts
use Rattle.starlark_script.specs.declared.reading.Asked.{Asked}
use Rattle.starlark_script.specs.declared.reading.Asked.TheVariants as asks
use Rattle.starlark_script.specs.declared.reading.Request.{Request}
use Rattle.starlark_script.specs.declared.reading.Request.TheVariants as requests

-- what a line of the bytes to come is: none, as they are at their end; one that no command has; or n bytes in a buffer, with a line feed behind them
abbrev pub IsLine : Option (List ℕ) → Option (List ℕ) → List ℕ → Line → Type 0
IsLine None new buf l = Unit {0}
IsLine (Some xs) new buf lines.End = front xs ≡ nothing
IsLine (Some xs) new buf lines.Bad = front xs ≡ no_command
IsLine (Some xs) new buf (lines.Of n) = (rest : List ℕ) × (front xs ≡ with_text (command_of (take n buf)) rest) × (new ≡ Some rest) × (first_line xs ≡ Some (take n buf, rest))

-- it fits the buffer
abbrev pub LineFits : Line → Type 0
LineFits lines.End = Unit {0}
LineFits lines.Bad = Unit {0}
LineFits (lines.Of n) = n ≤ 64

-- whether a line was taken
abbrev pub line_goes : Line → Bool
line_goes lines.End = false
line_goes lines.Bad = false
line_goes (lines.Of n) = true

-- no read gave 0 bytes before a line was found, and at the end one did
abbrev pub LineEnds : ℕ → ℕ → Line → Type 0
LineEnds old new lines.End = CountsOn 1 old new
LineEnds old new lines.Bad = Unit {0}
LineEnds old new (lines.Of n) = new ≡ old

-- the reader failed behind a front of a line
abbrev pub StopsInLine : Option (List ℕ) → Option (List ℕ) → Type 0
StopsInLine None left = Unit {0}
StopsInLine (Some xs) None = ⊥
StopsInLine (Some xs) (Some ys) = (bs : List ℕ) × (xs ≡ bs ++ ys) × (first_line bs ≡ None) × (length bs ≤ 64)

-- n bytes were taken off, and kept or dropped, or there are fewer
abbrev pub IsTaken : Option (List ℕ) → Option (List ℕ) → ℕ → Taken → Type 0
IsTaken None new n t = Unit {0}
IsTaken (Some xs) new n (texts.Text v) = (rest : List ℕ) × (xs ≡ v.items ++ rest) × (length v.items ≡ n) × (new ≡ Some rest)
IsTaken (Some xs) new n texts.Wanting = (bs : List ℕ) × (rest : List ℕ) × (xs ≡ bs ++ rest) × (length bs ≡ n) × (new ≡ Some rest)
IsTaken (Some xs) new n texts.Short = length xs < n

-- n bytes were dropped, or there are fewer
abbrev pub IsSkipped : Option (List ℕ) → Option (List ℕ) → ℕ → Bool → Type 0
IsSkipped None new n b = Unit {0}
IsSkipped (Some xs) new n true = (bs : List ℕ) × (rest : List ℕ) × (xs ≡ bs ++ rest) × (length bs ≡ n) × (new ≡ Some rest)
IsSkipped (Some xs) new n false = length xs < n

-- whether all of them were there
abbrev pub text_goes : Taken → Bool
text_goes (texts.Text v) = true
text_goes texts.Wanting = true
text_goes texts.Short = false

-- no read gave 0 bytes before the last of the bytes
abbrev pub TextEnds : ℕ → ℕ → Taken → Type 0
TextEnds old new (texts.Text v) = new ≡ old
TextEnds old new texts.Wanting = new ≡ old
TextEnds old new texts.Short = Unit {0}

-- the reader failed behind fewer than n bytes
abbrev pub StopsBefore : ℕ → Option (List ℕ) → Option (List ℕ) → Type 0
StopsBefore n None left = Unit {0}
StopsBefore n (Some xs) None = ⊥
StopsBefore n (Some xs) (Some ys) = (bs : List ℕ) × (xs ≡ bs ++ ys) × (length bs < n)

-- that command stands there, and these bytes behind it
abbrev pub Goes : Front → Option (List ℕ) → Command → Type 0
Goes f new c = (rest : List ℕ) × (f ≡ asking c rest) × (new ≡ Some rest)

-- what is asked stands there: of an edit whose text found no memory only that it is one
abbrev pub IsAsked : Front → Option (List ℕ) → Asked → Type 0
IsAsked f new (asks.Insert k v) = Goes f new (editing (inserts k v.items))
IsAsked f new (asks.Replace k v) = Goes f new (editing (replaces k v.items))
IsAsked f new (asks.Remove k) = Goes f new (editing (removes k))
IsAsked f new (asks.Move k j) = Goes f new (editing (moves k j))
IsAsked f new asks.Wanting = (edit : Edit) × (text : List ℕ) × (text_of edit ≡ Some text) × Goes f new (editing edit)
IsAsked f new asks.Outline = Goes f new outlining

-- the request is what stands there
abbrev pub Meets : Front → Option (List ℕ) → Request → Type 0
Meets f new requests.Whole = f ≡ nothing
Meets f new requests.Bad = f ≡ no_command
Meets f new (requests.Does a) = IsAsked f new a

-- the request is what stands at the front of the bytes to come
abbrev pub IsRequest : Option (List ℕ) → Option (List ℕ) → Request → Type 0
IsRequest None new q = Unit {0}
IsRequest (Some xs) new q = Meets (front xs) new q

-- what a line asks, with what became of the bytes behind it
abbrev pub asked_of : Head → Taken → Request
asked_of h texts.Short = requests.Bad
asked_of (heads.Insert k n) (texts.Text v) = requests.Does (asks.Insert k v)
asked_of (heads.Insert k n) texts.Wanting = requests.Does asks.Wanting
asked_of (heads.Replace k n) (texts.Text v) = requests.Does (asks.Replace k v)
asked_of (heads.Replace k n) texts.Wanting = requests.Does asks.Wanting
asked_of (heads.Remove k) (texts.Text v) = requests.Does (asks.Remove k)
asked_of (heads.Remove k) texts.Wanting = requests.Does (asks.Remove k)
asked_of (heads.Move k j) (texts.Text v) = requests.Does (asks.Move k j)
asked_of (heads.Move k j) texts.Wanting = requests.Does (asks.Move k j)
asked_of heads.Outline (texts.Text v) = requests.Does asks.Outline
asked_of heads.Outline texts.Wanting = requests.Does asks.Outline

-- no read gave 0 bytes before a command was whole, and at the end one did
abbrev pub RequestEnds : ℕ → ℕ → Request → Type 0
RequestEnds old new requests.Whole = CountsOn 1 old new
RequestEnds old new requests.Bad = Unit {0}
RequestEnds old new (requests.Does a) = new ≡ old

-- the reader failed behind bytes with which no request is whole
abbrev pub StopsCut : Option (List ℕ) → Option (List ℕ) → Type 0
StopsCut None left = Unit {0}
StopsCut (Some xs) None = ⊥
StopsCut (Some xs) (Some ys) = (bs : List ℕ) × (xs ≡ bs ++ ys) × IsCut bs

-- whether the script goes on
abbrev pub goes_on : Request → Bool
goes_on requests.Whole = false
goes_on requests.Bad = false
goes_on (requests.Does a) = true
