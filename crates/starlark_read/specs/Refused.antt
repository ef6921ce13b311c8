-- Why the code refuses, as the plain reasons.
use Rattle.std.specs.Prelude.{ℕ, ◌∷◌, [], List, Option, Some, None}
use Rattle.starlark_lexer.specs.Items.{Item, Stop}
use Rattle.starlark_rulebook.specs.View.{rule_view}
use Rattle.starlark_read.specs.declared.refused.Refused.{Refused}
use Rattle.starlark_read.specs.declared.refused.Refused.TheVariants as refused
use Rattle.starlark_grammar.specs.Spans.{stretch}
use Rattle.starlark_grammar.specs.Language.{Fault, by_lexer, unexpected, unexpected_end, by_rule}
use Rattle.starlark_read.specs.Reads.{Left}

-- the reason, or none where memory ran out
abbrev pub fault_of : Refused → Option Fault
fault_of (refused.Lexer e s) = Some (by_lexer e s)
fault_of (refused.Unexpected s) = Some (unexpected s)
fault_of (refused.UnexpectedEnd p) = Some (unexpected_end p)
fault_of (refused.Rule f) = Some (by_rule (rule_view f.node) f.span)
fault_of refused.Memory = None

-- the reason why reading stops before these tokens
abbrev pub fault_at : List Item → Option Stop → ℕ → Fault
fault_at (x ∷ xs) stop e = unexpected (stretch x.begin x.end)
fault_at [] (Some s) e = by_lexer s.error (stretch s.begin s.end)
fault_at [] None e = unexpected_end e

abbrev pub fault_ahead : Left → Fault
fault_ahead ts = fault_at ts.items ts.fault ts.last
