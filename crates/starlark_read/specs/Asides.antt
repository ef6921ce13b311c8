-- What the code has told of a text beside its tokens: where its comments stand, how often the lexer was asked, and how long the text is.
use Rattle.std.specs.Prelude.{ℕ, suc, ◌+◌, min, ◌++◌, Bool, false, List, length}
use Rattle.starlark_place.specs.Place.{Extent}
use Rattle.starlark_lexer.specs.Items.{Item}
use Rattle.starlark_grammar.specs.Comments.{comments_in, joined_in}
use Rattle.starlark_read.specs.declared.feed.Feed.{Feed}
use Rattle.starlark_read.specs.declared.feed.Lookahead.{Lookahead}
use Rattle.starlark_read.specs.declared.feed.Lookahead.TheVariants as ahead

pub record Aside : Type 0 where
  pub comments : List Extent
  pub joined : List Bool
  pub asks : ℕ
  -- the length of the text in bytes
  pub size : ℕ

-- a count that stops at the greatest number that it holds
abbrev pub counted : ℕ → ℕ
counted n = min n 18446744073709551615

-- what is told in all once the lexer was asked to its end, which it answers without an item
abbrev pub in_all : Feed → Aside
in_all a = record { comments = a.comments.items ++ comments_in a.lexer.left.items; joined = a.joined.items ++ joined_in a.behind_comment a.lexer.left.items; asks = counted (a.asks + suc (length a.lexer.left.items)); size = a.lexer.size }

-- what was told so far
abbrev pub so_far : Feed → Aside
so_far a = record { comments = a.comments.items; joined = a.joined.items; asks = a.asks; size = a.lexer.size }

-- what is told in all where that was given last: behind a fault and the end nothing more is asked
abbrev pub aside_of : Lookahead → Feed → Aside
aside_of (ahead.Token s x) a = in_all a
aside_of ahead.End a = so_far a
aside_of (ahead.Fault e s) a = so_far a

-- of a whole text of n bytes
abbrev pub aside_in : ℕ → List Item → Aside
aside_in n xs = record { comments = comments_in xs; joined = joined_in false xs; asks = counted (suc (length xs)); size = n }

-- where what was given last ends
abbrev pub ahead_end : Lookahead → ℕ
ahead_end (ahead.Token s x) = s.end
ahead_end _ = 0
