-- What a refusal says to a caller.
use Rattle.std.specs.Prelude.{◌≡◌, [], Option, Some, None}
use Rattle.starlark_place.specs.Place.{File, file_place}
use Rattle.starlark_place.specs.Diagnostic.{inner_of, span_of, frames_of}
use Rattle.starlark_place.specs.declared.diagnostic.WithDiagnostic.{WithDiagnostic}
use Rattle.starlark_lexer.specs.declared.token.LexemeError.{LexemeError}
use Rattle.starlark_lexer.specs.declared.dialect.Dialect.{Dialect}
use Rattle.starlark_rulebook.specs.Rules.{Rule}
use Rattle.starlark_rulebook.specs.View.{rule_view}
use Rattle.starlark_parser.specs.declared.fault.ParserError.{ParserError}
use Rattle.starlark_parser.specs.declared.fault.ParserError.TheVariants as error
use Rattle.starlark_parser.specs.declared.fault.ParserErrorKind.{ParserErrorKind}
use Rattle.starlark_parser.specs.declared.fault.ParserErrorKind.TheVariants as kind
use Rattle.starlark_parser.specs.declared.fault.EvalException.{EvalException}
use Rattle.starlark_parser.specs.declared.fault.EvalException.TheVariants as exception
use Rattle.starlark_grammar.specs.Language.{Fault, by_lexer, unexpected, unexpected_end, by_rule, place_of}
use Rattle.starlark_completion.specs.GoesOn.{IsRefusedText}

abbrev pub kind_of : ParserError → ParserErrorKind
kind_of (error.Lexer e) = kind.Lexer
kind_of error.Unexpected = kind.Syntax
kind_of error.UnexpectedEnd = kind.Syntax
kind_of (error.Rule r) = kind.Rule

-- a reason without its place
pub data Reason : Type 0 where
  of_lexer : LexemeError → Reason
  of_token : Reason
  of_end : Reason
  of_rule : Rule → Reason

abbrev pub reason_of : ParserError → Reason
reason_of (error.Lexer e) = of_lexer e
reason_of error.Unexpected = of_token
reason_of error.UnexpectedEnd = of_end
reason_of (error.Rule r) = of_rule (rule_view r)

-- the reason of a refusal
abbrev pub reason : Fault → Reason
reason (by_lexer e s) = of_lexer e
reason (unexpected s) = of_token
reason (unexpected_end n) = of_end
reason (by_rule r s) = of_rule r

-- The fault says the reason, at its place, and no calls.
pub record Shows (f : Fault) (file : File) (w : WithDiagnostic ParserError) : Type 0 where
  pub why : reason_of (inner_of w) ≡ reason f
  pub at : span_of w ≡ Some (file_place file (place_of f))
  pub calls : frames_of w ≡ []

-- what is answered for a refusal: that, unless memory runs out
abbrev pub Tells : Option Fault → File → EvalException → Type 0
Tells (Some f) file (exception.Fault w) = Shows f file w
Tells None file (exception.Fault w) = ⊥
Tells o file exception.TooLong = ⊥
Tells o file exception.Memory = Unit {0}

-- a fault of that reason
pub record Refuses (dialect : Dialect) (file : File) (w : WithDiagnostic ParserError) : Type 0 where
  pub fault : Fault
  pub refused : IsRefusedText dialect file.source fault
  pub shown : Shows fault file w

-- What is answered for a text that makes no module: the reason with its place; else it was too long, or memory ran out.
abbrev pub IsFault : Dialect → File → EvalException → Type 0
IsFault d file (exception.Fault w) = Refuses d file w
IsFault d file exception.TooLong = Unit {0}
IsFault d file exception.Memory = Unit {0}
