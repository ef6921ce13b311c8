-- The model of `FormatParser`: what is left of its format string.
use Rattle.std.specs.Prelude.{◌-◌, ◌≤◌, length}
use Rattle.starlark_lexer.specs.Format.{Format}
use Rattle.starlark_lexer.specs.FormatScan.{parsed}
use Rattle.starlark_lexer.specs.declared.format.FormatParser.TheInside.{Inside}

abbrev pub view_of : Inside → Format
view_of a = record { left = parsed (length a.text.now - length a.rest.now) 0 a.rest.now; text = a.text.now }

pub record IsParser (a : Inside) : Type 0 where
  pub within : length a.rest.now ≤ length a.text.now
