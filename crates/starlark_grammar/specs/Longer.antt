-- Constructs of the same kind at the same beginning, one longer than the other.
use Rattle.std.specs.Prelude.{ℕ, ◌≡◌, ◌≤◌, ◌<◌, true, ◌∷◌, ◌++◌, [], List, Option, Some, None, length}
use Rattle.starlark_lexer.specs.Items.{Lexeme, Item}
use Rattle.starlark_ast.specs.Tree.{Statement, place}
use Rattle.starlark_grammar.specs.Sorts.{is_some}
use Rattle.starlark_grammar.specs.Tables.{beginning}
use Rattle.starlark_grammar.specs.Events.{Event, assigned, looped, shaped, typed}
use Rattle.starlark_grammar.specs.Grammar.{Derives}
use Rattle.starlark_grammar.specs.Marks.{mark, marks_in, Has}

pub data Sort : Type 0 where
  type_sort : Sort
  assignment_sort : Sort
  for_sort : Sort

abbrev pub sort_of : Event → Option Sort
sort_of (typed t) = Some type_sort
sort_of (assigned l t o) = Some assignment_sort
sort_of (looped l) = Some for_sort
sort_of (shaped k s) = None

-- where a construct begins: its type, its left side, its target
abbrev pub begin_of : Event → ℕ
begin_of (typed t) = (place t).begin
begin_of (assigned l t o) = (place l).begin
begin_of (looped l) = (place l).begin
begin_of (shaped k s) = s.begin

-- a construct, and no shape
abbrev pub IsConstruct : Event → Type 0
IsConstruct (shaped k s) = ⊥
IsConstruct _ = Unit {0}

-- a token that begins a Test
abbrev pub BeginsTest : Lexeme → Type 0
BeginsTest x = is_some (beginning x) ≡ true

-- each of them has bytes
abbrev pub AreFirm : List Item → Type 0
AreFirm [] = Unit {0}
AreFirm (x ∷ xs) = (BeginsTest x.lexeme → x.begin < x.end) × AreFirm xs

-- the tokens stand one behind the other, from there on
pub data InOrder : ℕ → List Item → Type 0 where
  no_token : {m : ℕ} → InOrder m []
  one_token : {m : ℕ} {x : Item} {xs : List Item} → m ≤ x.begin → x.begin ≤ x.end → InOrder x.end xs → InOrder m (x ∷ xs)

-- in tokens of Module that begin with w and x, a construct of that kind at the same beginning ends behind x or later
pub record GoesLonger (w : List Item) (x : Item) (e : Event) : Type 0 where
  pub more : List Item
  pub raw : Statement
  pub derives : Derives (w ++ x ∷ more) raw
  pub in_order : InOrder x.end more
  pub longer : Event
  pub left : ℕ
  pub is_mark : Has (mark left longer) (marks_in derives)
  pub behind : left ≤ length more
  pub same_sort : sort_of longer ≡ sort_of e
  pub same_begin : begin_of longer ≡ begin_of e
