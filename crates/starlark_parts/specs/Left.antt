-- What iterators over all parts have before them.
use denote.Ref.{Bor}
use Rattle.std.specs.Prelude.{◌≤◌, ℕ, ◌+◌, List, [], ◌∷◌, ◌++◌, map}
use Rattle.std.specs.List.{All, flat_map}
use Rattle.starlark_place.specs.declared.resolved.ResolvedPos.{ResolvedPos}
use Rattle.starlark_ast.specs.Tree.{Statement}
use Rattle.starlark_ast.specs.View.{stmt_at}
use Rattle.starlark_parts.specs.Held.{AllAbove, IsAbove, all_feeds, outline_from, statements_of}
use Rattle.starlark_parts.specs.Outlines.{Placed, items_down}
use Rattle.starlark_parts.specs.Walk.{Stmt, left}
use Rattle.starlark_parts.specs.declared.items.Items.TheInside.{Inside}
use Rattle.starlark_parts.specs.declared.statements.Statements.{Statements}
use Rattle.starlark_parts.specs.declared.statements.AllTops.{AllTops}
use Rattle.starlark_parts.specs.declared.word.OutlineItem.{OutlineItem}

-- the items of the part that has begun, and those of the parts behind it
abbrev pub items_left : Inside → List OutlineItem
items_left a = items_down a.line a.items.now ++ outline_from a.behind a.parts.now

-- lines are few enough to be added
pub record AreFew (a : Inside) : Type 0 where
  pub feeds : ℕ
  pub above : AllAbove feeds a.items.now
  pub line : a.line + feeds ≤ 4294967295
  pub parts : All IsAbove a.parts.now
  pub behind : a.behind + all_feeds a.parts.now ≤ 4294967295

-- the statements of the part that has begun, and those of the parts behind it
abbrev pub tops_left : AllTops → List Stmt
tops_left a = left a.part ++ flat_map statements_of a.parts.now

-- each statement with the beginning of its item
abbrev pub zipped : List Statement → List OutlineItem → List Placed
zipped xs [] = []
zipped [] (y ∷ ys) = []
zipped (x ∷ xs) (y ∷ ys) = record { statement = x; begin = y.begin } ∷ zipped xs ys

-- the statements that are still to come, with their beginnings
abbrev pub statements_left : Statements → List Placed
statements_left s = zipped (map stmt_at (tops_left s.tops)) s.items

-- what an iterator over them gives
abbrev pub given : Bor Stmt × ResolvedPos → Placed
given x = record { statement = stmt_at x.0.now; begin = x.1 }
