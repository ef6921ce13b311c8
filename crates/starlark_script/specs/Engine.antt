-- What an answer and a run leave.
use Rattle.std.specs.Prelude.{◌≡◌, ℕ, List, [], ◌∷◌, ◌++◌, Option, None, Some, Result, Ok, Err, codes}
use Rattle.starlark_lexer.specs.Joining.{IsClosed}
use Rattle.starlark_parts.specs.Kept.{Edit, inserts, replaces, removes, moves, text_of}
use Rattle.starlark_parts.specs.Outlines.{IsOutline}
use Rattle.starlark_parts.specs.declared.word.OutlineItem.{OutlineItem}
use Rattle.starlark_script.specs.Script.{Does, Replies, SoFar, IsCut, editing, outlining}
use Rattle.starlark_script.specs.declared.fault.End.{End}
use Rattle.starlark_script.specs.declared.fault.End.TheVariants as ends
use Rattle.starlark_script.specs.declared.fault.RunFault.{RunFault}
use Rattle.starlark_script.specs.declared.fault.RunFault.TheVariants as faults
use Rattle.starlark_lexer.specs.declared.dialect.Dialect.{Dialect}
use Rattle.starlark_script.specs.declared.reading.Asked.{Asked}
use Rattle.starlark_script.specs.declared.reading.Asked.TheVariants as asks

-- What is asked may be answered by these bytes, and leaves these parts.
abbrev pub Answers : ℕ → Dialect → List (List ℕ) → Asked → List ℕ → List (List ℕ) → Type 0
Answers limit dialect parts (asks.Insert k v) reply left = Does limit dialect parts (editing (inserts k v.items)) reply left
Answers limit dialect parts (asks.Replace k v) reply left = Does limit dialect parts (editing (replaces k v.items)) reply left
Answers limit dialect parts (asks.Remove k) reply left = Does limit dialect parts (editing (removes k)) reply left
Answers limit dialect parts (asks.Move k j) reply left = Does limit dialect parts (editing (moves k j)) reply left
Answers limit dialect parts asks.Wanting reply left = (edit : Edit) (text : List ℕ) → text_of edit ≡ Some text → Does limit dialect parts (editing edit) reply left
Answers limit dialect parts asks.Outline reply left = Does limit dialect parts outlining reply left

-- the text is closed, and has an outline
pub record HasOutline (dialect : Dialect) (text : List ℕ) : Type 0 where
  pub closed : IsClosed text
  pub items : List OutlineItem
  pub is : IsOutline dialect text items

-- each of the texts has one
abbrev pub HaveOutlines : Dialect → List (List ℕ) → Type 0
HaveOutlines dialect [] = Unit {0}
HaveOutlines dialect (t ∷ ts) = HasOutline dialect t × HaveOutlines dialect ts

-- Replies to the whole script stand behind what was written before, and it ended so.
pub record IsAnswered (limit : ℕ) (dialect : Dialect) (script before : List ℕ) (after : Option (List ℕ)) (end : End) : Type 0 where
  pub replies : List ℕ
  pub given : Replies limit dialect [] script replies end
  pub written : after ≡ Some (before ++ replies)

-- A front of replies to the whole script stands behind what was written before.
pub record IsAnsweredInPart (limit : ℕ) (dialect : Dialect) (script before : List ℕ) (after : Option (List ℕ)) : Type 0 where
  pub front : List ℕ
  pub rest : List ℕ
  pub end : End
  pub given : Replies limit dialect [] script (front ++ rest) end
  pub written : after ≡ Some (before ++ front)

-- Whole replies to commands at the front of the script stand behind what was written before; of the rest some bytes were read, and no request is whole in them.
pub record IsAnsweredSoFar (limit : ℕ) (dialect : Dialect) (script before : List ℕ) (after left : Option (List ℕ)) : Type 0 where
  pub replies : List ℕ
  pub parts : List (List ℕ)
  pub rest : List ℕ
  pub given : SoFar limit dialect [] script replies parts rest
  pub written : after ≡ Some (before ++ replies)
  pub waiting : List ℕ
  pub cut : IsCut waiting
  pub unread : List ℕ
  pub behind : rest ≡ waiting ++ unread
  pub known : left ≡ Some unread

-- Where the script and what was written before are known, replies to the script were written, and it ended so.
abbrev pub Wrote : ℕ → Dialect → Option (List ℕ) → Option (List ℕ) → Option (List ℕ) → End → Type 0
Wrote limit dialect None before after end = Unit {0}
Wrote limit dialect (Some script) None after end = Unit {0}
Wrote limit dialect (Some script) (Some before) after end = IsAnswered limit dialect script before after end

-- Where both are known, a front of replies to the script was written.
abbrev pub WroteFront : ℕ → Dialect → Option (List ℕ) → Option (List ℕ) → Option (List ℕ) → Type 0
WroteFront limit dialect None before after = Unit {0}
WroteFront limit dialect (Some script) None after = Unit {0}
WroteFront limit dialect (Some script) (Some before) after = IsAnsweredInPart limit dialect script before after

-- Where both are known, whole replies to the commands that are whole in what was read were written, and nothing else.
abbrev pub WroteSoFar : ℕ → Dialect → Option (List ℕ) → Option (List ℕ) → Option (List ℕ) → Option (List ℕ) → Type 0
WroteSoFar limit dialect None before after left = Unit {0}
WroteSoFar limit dialect (Some script) None after left = Unit {0}
WroteSoFar limit dialect (Some script) (Some before) after left = IsAnsweredSoFar limit dialect script before after left

-- The status of the program: 0 where the script ended whole, 2 where it ended at what is no command, 1 at a fault.
abbrev pub status_of : Result End RunFault → ℕ
status_of (Ok ends.Whole) = 0
status_of (Ok ends.Bad) = 2
status_of (Err fault) = 1

-- What the program says of a fault.
abbrev pub fault_text : RunFault → List ℕ
fault_text faults.Read = codes "fault: read"
fault_text faults.Write = codes "fault: write"
fault_text faults.Memory = codes "fault: memory"

-- What the program says of the end of a run: the line of a fault, and nothing where there was none.
abbrev pub told : Result End RunFault → List ℕ
told (Ok end) = []
told (Err fault) = fault_text fault ++ 10 ∷ []
