-- Scripts: which replies may be given to which bytes.
use Rattle.std.specs.Prelude.{◌≡◌, ◌⊎◌, ◌<◌, ◌≤◌, ℕ, ◌+◌, ◌-◌, ◌*◌, List, [], ◌∷◌, ◌++◌, Bool, true, false, Option, None, Some, length, take, drop, codes, nat_eq, nat_lt, ◌&&◌, if◌then◌else◌}
use Rattle.std.specs.List.{list_all}
use Rattle.starlark_lexer.specs.declared.dialect.Dialect.{Dialect}
use Rattle.starlark_parts.specs.Kept.{Edit, inserts, replaces, removes, moves, edited, joined, text_of}
use Rattle.starlark_parts.specs.Edits.{Takes, Refuses}
use Rattle.starlark_parts.specs.Outlines.{IsOutline}
use Rattle.starlark_parts.specs.declared.word.OutlineItem.{OutlineItem}
use Rattle.starlark_parts.specs.declared.fault.PartFault.{PartFault}
use Rattle.starlark_script.specs.Printed.{refusal_line, outline_lines}
use Rattle.starlark_script.specs.declared.fault.End.{End}
use Rattle.starlark_script.specs.declared.fault.End.TheVariants.{Whole, Bad}
use Rattle.starlark_script.specs.declared.command.Head.{Head}
use Rattle.starlark_script.specs.declared.command.Head.TheVariants.{Insert, Replace, Remove, Move, Outline}

-- Numbers: one to ten digits, at most 4294967295.

-- a decimal digit
abbrev pub is_digit : ℕ → Bool
is_digit b = nat_lt 47 b && nat_lt b 58

-- the number that digits spell behind a number
abbrev pub value_from : ℕ → List ℕ → ℕ
value_from n [] = n
value_from n (b ∷ bs) = value_from (n * 10 + (b - 48)) bs

-- one to ten digits whose number is at most 4294967295
abbrev pub spells : List ℕ → Bool
spells bs = nat_lt 0 (length bs) && nat_lt (length bs) 11 && list_all is_digit bs && nat_lt (value_from 0 bs) 4294967296

-- the number that is spelled, if one is
abbrev pub number_of : List ℕ → Option ℕ
number_of bs = if spells bs then Some (value_from 0 bs) else None

-- Words: what stands between single spaces.

-- a byte in front of the first word
abbrev pub onto_first : ℕ → List (List ℕ) → List (List ℕ)
onto_first b [] = (b ∷ []) ∷ []
onto_first b (w ∷ ws) = (b ∷ w) ∷ ws

-- a text cut at each space
abbrev pub words : List ℕ → List (List ℕ)
words [] = [] ∷ []
words (b ∷ bs) = if nat_eq b 32 then [] ∷ words bs else onto_first b (words bs)

-- Commands.

-- whether two texts are the same
abbrev pub same_bytes : List ℕ → List ℕ → Bool
same_bytes [] [] = true
same_bytes [] (y ∷ ys) = false
same_bytes (x ∷ xs) [] = false
same_bytes (x ∷ xs) (y ∷ ys) = nat_eq x y && same_bytes xs ys

-- the command of a word and a number: `remove` with the number of a part
abbrev pub with_one : List ℕ → Option ℕ → Option Head
with_one w None = None
with_one w (Some k) = if same_bytes w (codes "remove") then Some (Remove k) else None

-- the command of a word and two numbers: `insert` or `replace` with the number of a part and the number of bytes that follow, or `move` with the numbers of two parts
abbrev pub with_two : List ℕ → Option ℕ → Option ℕ → Option Head
with_two w None n = None
with_two w (Some k) None = None
with_two w (Some k) (Some n) =
    if same_bytes w (codes "insert") then Some (Insert k n)
    else if same_bytes w (codes "replace") then Some (Replace k n)
    else if same_bytes w (codes "move") then Some (Move k n)
    else None

-- the command that a line's words say: `outline`, or a word with its numbers
abbrev pub command_of_words : List (List ℕ) → Option Head
command_of_words [] = None
command_of_words (w ∷ []) = if same_bytes w (codes "outline") then Some Outline else None
command_of_words (w ∷ k ∷ []) = with_one w (number_of k)
command_of_words (w ∷ k ∷ n ∷ []) = with_two w (number_of k) (number_of n)
command_of_words (w ∷ k ∷ n ∷ x ∷ xs) = None

-- the command that a line says, if it says one
abbrev pub command_of : List ℕ → Option Head
command_of line = command_of_words (words line)

-- What a script begins with.

-- a byte in front of a line
abbrev pub behind : ℕ → Option (List ℕ × List ℕ) → Option (List ℕ × List ℕ)
behind b None = None
behind b (Some p) = Some (b ∷ p.0, p.1)

-- the bytes before the first line feed, and those after it
abbrev pub first_line : List ℕ → Option (List ℕ × List ℕ)
first_line [] = None
first_line (b ∷ bs) = if nat_eq b 10 then Some ([], bs) else behind b (first_line bs)

-- a command with its bytes: an edit of the parts, or the question for the outline
pub data Command : Type 0 where
  editing : Edit → Command
  outlining : Command

-- what a script begins with: nothing, where it is empty; a line that is no command, or whose bytes are not all there; or a command, and what stands behind it
pub data Front : Type 0 where
  nothing : Front
  no_command : Front
  asking : (c : Command) (rest : List ℕ) → Front

-- how many bytes follow the line
abbrev pub bytes_of : Head → ℕ
bytes_of (Insert k n) = n
bytes_of (Replace k n) = n
bytes_of (Remove k) = 0
bytes_of (Move k j) = 0
bytes_of Outline = 0

-- the command of a line and the bytes that follow it
abbrev pub command_with : Head → List ℕ → Command
command_with (Insert k n) text = editing (inserts k text)
command_with (Replace k n) text = editing (replaces k text)
command_with (Remove k) text = editing (removes k)
command_with (Move k j) text = editing (moves k j)
command_with Outline text = outlining

-- a command with the bytes that it asks for, of those behind its line
abbrev pub with_text : Option Head → List ℕ → Front
with_text None rest = no_command
with_text (Some h) rest = if nat_lt (length rest) (bytes_of h) then no_command else asking (command_with h (take (bytes_of h) rest)) (drop (bytes_of h) rest)

-- a line has at most 64 bytes, and ends in a line feed
abbrev pub after_line : Option (List ℕ × List ℕ) → Front
after_line None = no_command
after_line (Some p) = if nat_lt 64 (length p.0) then no_command else with_text (command_of p.0) p.1

-- what stands at the front of a script
unfoldable pub front : List ℕ → Front
front [] = nothing
front (b ∷ bs) = after_line (first_line (b ∷ bs))

-- Bytes with which no request is whole yet: a line of at most 64 bytes whose line feed has not come, or the line of a command and fewer bytes behind it than it names.
pub data IsCut : List ℕ → Type 0 where
  in_line : (bs : List ℕ) → first_line bs ≡ None → length bs ≤ 64 → IsCut bs
  in_text : (bs line rest : List ℕ) (h : Head) → first_line bs ≡ Some (line, rest) → length line ≤ 64 → command_of line ≡ Some h → length rest < bytes_of h → IsCut bs

-- What stands at the front is whole: whatever comes behind, it is no command, or that command.
abbrev pub IsWhole : List ℕ → Type 0
IsWhole bs = ((more : List ℕ) → front (bs ++ more) ≡ no_command) ⊎ ((c : Command) × (rest : List ℕ) × ((more : List ℕ) → front (bs ++ more) ≡ asking c (rest ++ more)))

-- What a command may answer, and which parts it leaves then.
pub data Does (limit : ℕ) (dialect : Dialect) : List (List ℕ) → Command → List ℕ → List (List ℕ) → Type 0 where
  -- an edit that is taken is done
  taken : (parts : List (List ℕ)) (edit : Edit) → Takes dialect limit parts edit → Does limit dialect parts (editing edit) (codes "ok\n") (edited parts edit)
  -- one that is refused changes nothing
  refused : (parts : List (List ℕ)) (edit : Edit) (fault : PartFault) → Refuses dialect limit parts edit fault → Does limit dialect parts (editing edit) (refusal_line fault) parts
  -- memory may be wanting while the bytes of a text come, before anything is known of them
  wanting : (parts : List (List ℕ)) (edit : Edit) (text : List ℕ) → text_of edit ≡ Some text → Does limit dialect parts (editing edit) (codes "refused memory\n") parts
  -- the outline is that of the joined text
  outlined : (parts : List (List ℕ)) (items : List OutlineItem) → IsOutline dialect (joined parts) items → Does limit dialect parts outlining (outline_lines items) parts

-- These replies may be given to a script, over these parts, and it ends so.
pub data Replies (limit : ℕ) (dialect : Dialect) : List (List ℕ) → List ℕ → List ℕ → End → Type 0 where
  -- an empty script has no reply
  ends : (parts : List (List ℕ)) (script : List ℕ) → front script ≡ nothing → Replies limit dialect parts script [] Whole
  -- what is no command ends the script
  breaks : (parts : List (List ℕ)) (script : List ℕ) → front script ≡ no_command → Replies limit dialect parts script (codes "bad\n") Bad
  -- a command is answered, and the rest of the script over the parts that it leaves
  answers : (parts left : List (List ℕ)) (script rest reply replies : List ℕ) (c : Command) (end : End) → front script ≡ asking c rest
      → Does limit dialect parts c reply left → Replies limit dialect left rest replies end → Replies limit dialect parts script (reply ++ replies) end

-- These replies may be given to commands at the front of a script, one after the other, over these parts; they leave the parts and the rest of the script.
pub data SoFar (limit : ℕ) (dialect : Dialect) (parts : List (List ℕ)) (script : List ℕ) : List ℕ → List (List ℕ) → List ℕ → Type 0 where
  begins : SoFar limit dialect parts script [] parts script
  goes_on : {before after : List (List ℕ)} {rest next replies reply : List ℕ} {c : Command} → SoFar limit dialect parts script replies before rest → front rest ≡ asking c next
      → Does limit dialect before c reply after → SoFar limit dialect parts script (replies ++ reply) after next
