-- The tokens that are left, as their callers see them.
use Rattle.std.specs.Prelude.{◌≡◌, ◌≤◌}
use Rattle.starlark_rulebook.specs.View.{maybe_finding}
use Rattle.starlark_lexer.specs.Items.{lexeme_of}
use Rattle.starlark_read.specs.declared.feed.Lookahead.{Lookahead}
use Rattle.starlark_read.specs.declared.feed.Lookahead.TheVariants as ahead
use Rattle.starlark_read.specs.declared.kind.Kind.{Kind}
use Rattle.starlark_read.specs.declared.kind.Kind.TheVariants as kind
use Rattle.starlark_read.specs.Kinds.{kind_of}
use Rattle.starlark_read.specs.declared.tokens.Tokens.TheInside.{Inside}
use Rattle.starlark_read.specs.Asides.{ahead_end, aside_of}
use Rattle.starlark_grammar.specs.Language.{uncommented}
use Rattle.starlark_read.specs.Reads.{Left, left_of, stopped, with_ahead}

-- the kind of what was given
abbrev pub kind_given : Lookahead → Kind
kind_given (ahead.Token s x) = kind_of (lexeme_of x)
kind_given ahead.End = kind.End
kind_given (ahead.Fault e s) = kind.End

-- those in memory
abbrev pub left_in : Inside → Left
left_in a = stopped (left_of a.last (with_ahead a.ahead (uncommented a.feed.lexer.left)) a.feed.lexer.left.items (aside_of a.ahead a.feed)) (maybe_finding a.broken)

-- What the lexer gave is behind it and of that kind.
pub record IsCounted (a : Inside) : Type 0 where
  pub read : a.last ≤ a.feed.lexer.place
  pub ahead : ahead_end a.ahead ≤ a.feed.lexer.place
  pub kind : a.kind ≡ kind_given a.ahead
