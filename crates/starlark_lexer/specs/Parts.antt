-- What is left to a lexer, by its parts.
use Rattle.std.specs.Prelude.{◌≡◌, ◌≤◌, ◌+◌, ◌-◌, ◌*◌, ℕ, true, false, if◌then◌else◌, List, [], ◌∷◌, drop, length, Option, Some, None, Result, Ok, Err}
use Rattle.std.specs.Str.{IsCharBoundary}
use Rattle.starlark_lexer.specs.declared.token.Token.{Token}
use Rattle.starlark_lexer.specs.declared.scan.Mode.{Mode}
use Rattle.starlark_lexer.specs.declared.scan.Mode.TheVariants as mode
use Rattle.starlark_lexer.specs.declared.scan.State.{State}
use Rattle.starlark_lexer.specs.declared.scan.Turn.{Turn}
use Rattle.starlark_lexer.specs.declared.parts.Fault.{Fault}
use Rattle.starlark_lexer.specs.declared.parts.Fault.TheVariants as faults
use Rattle.starlark_lexer.specs.declared.parts.Parts.{Parts}
use Rattle.starlark_lexer.specs.Items.{Lexed, nothing, lexeme_of, with_item, with_items, with_fault, dedents, LacksMemory}
use Rattle.starlark_lexer.specs.Literals.{is_format}
use Rattle.starlark_lexer.specs.Scan.{At, left_at, act, step, pass, is_joined}
use Rattle.starlark_lexer.specs.Reads.{Grows}
use Rattle.starlark_lexer.specs.Turns.{Cuts, Bounds, Keeps, room}

abbrev pub at : Parts → At
at a = record { state = a.state; widths = a.widths.items; outer = a.outer.items; rest = drop a.state.place a.codemap.source }

-- what is still to be handed out
abbrev pub left : Parts → Lexed
left a = with_items (dedents a.margin a.pending) (if a.over then nothing else left_at (at a))

-- from i to j the text may be cut out
pub record IsStretch (text : List ℕ) (i j : ℕ) : Type 0 where
  pub ordered : i ≤ j
  pub begins : IsCharBoundary text i
  pub ends : IsCharBoundary text j

-- an f-string begins before the place, and its depth is at most the place
abbrev pub IsMode : List ℕ → ℕ → Mode → Type 0
IsMode text n mode.Code = Unit {0}
IsMode text n (mode.Inside b f) = IsStretch text b n × (is_format f.sort ≡ true)
IsMode text n (mode.Field b f d) = IsStretch text b n × (is_format f.sort ≡ true) × (d ≤ n)

abbrev pub AreModes : List ℕ → ℕ → List Mode → Type 0
AreModes text n [] = Unit {0}
AreModes text n (m ∷ ms) = IsMode text n m × AreModes text n ms

-- the state fits the text, and so do the modes around it and the place of dedents; each place has 32 bits
pub record IsSound (text : List ℕ) (s : State) (outer : List Mode) (margin : ℕ) : Type 0 where
  pub fits : length text ≤ 4294967295
  pub opened : s.opened ≤ s.place
  pub closed : s.closed ≤ s.place
  -- a character begins at the place
  pub boundary : IsCharBoundary text s.place
  pub line : IsStretch text s.line_begin s.line_end
  pub mode : IsMode text s.place s.mode
  pub around : AreModes text s.place outer
  pub dedents : IsCharBoundary text margin
  -- dedents stand at or before the place
  pub behind : margin ≤ s.place
  pub starts : IsCharBoundary text 0

abbrev pub IsWhole : Parts → Type 0
IsWhole a = IsSound a.codemap.source a.state a.outer.items a.margin

-- nothing that was found before is still to be handed out
pub record IsReady (a : Parts) : Type 0 where
  pub none : a.pending ≡ 0
  pub more : a.over ≡ false

-- the turn is what comes
pub record Comes (a : Parts) (t : Turn) : Type 0 where
  pub is : step (at a) ≡ act t (at a)
  pub cuts : Cuts (drop a.state.place a.codemap.source) t
  pub bounds : Bounds (drop a.state.place a.codemap.source) t
  pub kept : Keeps a.widths.items t

-- nothing is passed over here
pub record Stands (a : Parts) : Type 0 where
  pub within : a.state.fresh ≡ false
  pub none : pass (is_joined a.state) (drop a.state.place a.codemap.source) ≡ 0

-- What a refusal is given for. Memory is missed only where the next answer takes some.
abbrev pub Stops : Lexed → Fault → Type 0
Stops old (faults.Lexeme i e j) = old ≡ with_fault i e j
Stops old faults.Memory = LacksMemory old

-- What a call answers where `old` is left, and what is left behind it. Nothing is left behind a refusal.
abbrev pub Hands : Lexed → Option (Result (ℕ × Token × ℕ) Fault) → Lexed → Type 0
Hands old None new = (old ≡ nothing) × (new ≡ nothing)
Hands old (Some (Ok x)) new = old ≡ with_item x.0 (lexeme_of x.1) x.2 new
Hands old (Some (Err e)) new = (new ≡ nothing) × Stops old e

-- what is handed out spans a stretch of the text
abbrev pub Spans : List ℕ → Option (Result (ℕ × Token × ℕ) Fault) → Type 0
Spans text None = Unit {0}
Spans text (Some (Ok x)) = IsStretch text x.0 x.2
Spans text (Some (Err (faults.Lexeme i e j))) = IsStretch text i j
Spans text (Some (Err faults.Memory)) = Unit {0}

-- the place moves on by n bytes at most, and nothing is looked at
pub record Advances (a b : Parts) (n : ℕ) : Type 0 where
  pub on : a.state.place ≤ b.state.place
  pub most : b.state.place ≤ a.state.place + n
  pub reads : b.reads ≡ a.reads

-- the place moves on, and each byte that it passes is counted
pub record Moves (a b : Parts) : Type 0 where
  pub on : a.state.place ≤ b.state.place
  pub looked : Grows a.reads (b.state.place - a.state.place) b.reads

-- At most 16 looks were made for each byte that was passed, and 2 more within a line; 16 more of the whole text where it is over.
pub record IsPaid (a : Parts) : Type 0 where
  pub most : a.over ≡ false → a.reads + (if a.state.fresh then 2 else 0) ≤ 16 * a.state.place + 2
  pub all : a.reads ≤ 16 * length a.codemap.source + 16

-- so many looks were made for the turn that comes, too
abbrev pub Covers : Parts → Turn → Type 0
Covers a t = a.reads ≤ 16 * a.state.place + room t

-- an item that is handed out ends at or before the place
abbrev pub Reaches : Option (Result (ℕ × Token × ℕ) Fault) → ℕ → Type 0
Reaches (Some (Ok x)) place = x.2 ≤ place
Reaches _ place = Unit {0}

-- What a line's beginning hands out. Where it is nothing, what is left stays, within the line.
abbrev pub Begins : Parts → Option (Result (ℕ × Token × ℕ) Fault) → Parts → Type 0
Begins old None new = (left new ≡ left old) × (IsReady new × (new.state.fresh ≡ false))
Begins old (Some r) new = Hands (left old) (Some r) (left new)
