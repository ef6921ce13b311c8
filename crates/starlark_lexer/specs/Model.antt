-- The model of `Lexer`, and what a call of `next` answers.
use Rattle.std.specs.Prelude.{[], ◌≡◌, ◌≤◌, ◌-◌, ℕ, length, Option, Some, None, IfNone, Result, Ok, Err}
use Rattle.starlark_place.specs.Place.{File, extent, file_place}
use Rattle.starlark_place.specs.Diagnostic.{inner_of, span_of, frames_of}
use Rattle.starlark_place.specs.declared.diagnostic.WithDiagnostic.{WithDiagnostic}
use Rattle.starlark_place.specs.declared.diagnostic.Refusal.{Refusal}
use Rattle.starlark_place.specs.declared.diagnostic.Refusal.TheVariants.{Fault, Memory}
use Rattle.starlark_lexer.specs.declared.token.Token.{Token}
use Rattle.starlark_lexer.specs.declared.token.LexemeError.{LexemeError}
use Rattle.starlark_lexer.specs.declared.lexer.Lexer.TheInside.{Inside}
use Rattle.starlark_lexer.specs.Items.{Lexed, nothing, lexeme_of, with_item, Stop, LacksMemory}
use Rattle.starlark_lexer.specs.Parts.{left, IsWhole, IsPaid}
use Rattle.starlark_lexer.specs.Reads.{Grows}

-- a lexer as its callers see it
pub record Reading : Type 0 where
  -- what is still to be handed out
  pub left : Lexed
  -- the length of the text
  pub size : ℕ
  -- how much of the text is cut: what is left is looked for from here on
  pub place : ℕ
  -- the count of looks at bytes
  pub reads : ℕ
  -- the source that faults name
  pub file : File

-- a lexer as it is in memory
abbrev pub view_of : Inside → Reading
view_of a = record { left = left a.parts; size = length a.parts.codemap.source; place = a.parts.state.place; reads = a.parts.reads; file = a.parts.codemap }

-- what holds of a lexer in memory between calls
pub record IsLexer (a : Inside) : Type 0 where
  pub whole : IsWhole a.parts
  -- each byte that was passed is counted
  pub counted : a.parts.state.place ≤ a.parts.reads
  -- and not too often
  pub paid : IsPaid a.parts

-- the fault is what is left, at its place in the source, with no calls
pub record IsFault (file : File) (old : Lexed) (fault : WithDiagnostic LexemeError) : Type 0 where
  pub stop : Stop
  pub left : old ≡ record { items = []; fault = Some stop }
  pub inner : inner_of fault ≡ stop.error
  pub span : span_of fault ≡ Some (file_place file (extent stop.begin stop.end))
  pub calls : frames_of fault ≡ []

-- what a refusal is given for, which is want of memory only where the next answer takes some
abbrev pub Refuses : File → Lexed → Refusal LexemeError → Type 0
Refuses file old (Fault fault) = IsFault file old fault
Refuses file old Memory = LacksMemory old

-- What a call of `next` answers where `old` is left, and what is left behind it. Nothing is left behind a refusal.
abbrev pub Gives : File → Lexed → Option (Result (ℕ × Token × ℕ) (Refusal LexemeError)) → Lexed → Type 0
Gives file old None new = (old ≡ nothing) × (new ≡ nothing)
Gives file old (Some (Ok x)) new = old ≡ with_item x.0 (lexeme_of x.1) x.2 new
Gives file old (Some (Err e)) new = (new ≡ nothing) × Refuses file old e

-- an item's places lie in order in a text of so many bytes
abbrev pub Within : ℕ → Option (Result (ℕ × Token × ℕ) (Refusal LexemeError)) → Type 0
Within size (Some (Ok x)) = (x.0 ≤ x.2) × (x.2 ≤ size)
Within size _ = Unit {0}

-- an item ends at or before a place
abbrev pub Reaches : Option (Result (ℕ × Token × ℕ) (Refusal LexemeError)) → ℕ → Type 0
Reaches (Some (Ok x)) place = x.2 ≤ place
Reaches _ place = Unit {0}

-- The place moves on, behind the item that is given. The count never falls, and grows at least by the bytes that the
-- place passes: by those between the place before and the item's end, then.
pub record Counts (old : Reading) (item : Option (Result (ℕ × Token × ℕ) (Refusal LexemeError))) (new : Reading) : Type 0 where
  pub on : old.place ≤ new.place
  pub within : new.place ≤ new.size
  pub reaches : Reaches item new.place
  pub looked : Grows old.reads (new.place - old.place) new.reads

-- one call of `next`
pub record IsNext (old : Reading) (item : Option (Result (ℕ × Token × ℕ) (Refusal LexemeError))) (new : Reading) : Type 0 where
  pub gives : Gives old.file old.left item new.left
  pub within : Within old.size item
  pub counts : Counts old item new
  pub size : new.size ≡ old.size
  pub file : new.file ≡ old.file
  -- behind the end a call changes nothing
  pub idle : IfNone item (new ≡ old)
