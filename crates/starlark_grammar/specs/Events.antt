-- The constructs that rules look at, and what each breaks.
use Rattle.std.specs.Prelude.{ℕ, List, [], ◌∷◌, Option, None, if◌then◌else◌}
use Rattle.starlark_place.specs.Place.{Extent}
use Rattle.starlark_grammar.specs.Spans.{stretch}
use Rattle.starlark_lexer.specs.Items.{Item}
use Rattle.starlark_lexer.specs.declared.dialect.Dialect.{Dialect}
use Rattle.starlark_ast.specs.declared.ast.AssignOp.{AssignOp}
use Rattle.starlark_ast.specs.Tree.{Expr, Annotation, Statement}
use Rattle.starlark_rulebook.specs.Rules.{TrailingComma, LoadIdentifier, FStringConversion, Finding, breaks, first_of, first_finding}
use Rattle.starlark_rulebook.specs.Targets.{target_fault, assignment_fault}
use Rattle.starlark_rulebook.specs.Types.{type_fault}
use Rattle.starlark_rulebook.specs.Kept.{kept_rules}
use Rattle.starlark_rulebook.specs.Late.{late_rules}
use Rattle.starlark_grammar.specs.Sorts.{name_of, is_some}

-- what wants a certain token next
pub data Shape : Type 0 where
  -- a comma of a list without brackets: a Test
  after_comma : Shape
  -- an identifier that begins a load's symbol: `=`
  after_symbol : Shape
  -- a `!` in an f-string: `s` or `r`
  after_bang : Shape

pub data Event : Type 0 where
  -- a type ended
  typed : Expr → Event
  -- an assignment ended: its left side, its type, its operator
  assigned : Expr → Annotation → Option AssignOp → Event
  -- a `for` statement or a clause with that target ended
  looped : Expr → Event
  -- a shape stands there
  shaped : Shape → Extent → Event

-- The first rule that a construct breaks at once: the section "Rules at once" of docs/LANGUAGE.md.
abbrev pub breaks_at_once : Dialect → Event → Option Finding
breaks_at_once d (typed x) = type_fault d x
breaks_at_once d (assigned x t o) = assignment_fault x t o
breaks_at_once d (looped x) = target_fault x
breaks_at_once d (shaped k s) = None

-- to the end of an identifier, or to the beginning of another token
abbrev pub conversion_end : ℕ → List Item → ℕ
conversion_end j [] = j
conversion_end j (x ∷ xs) = if is_some (name_of x.lexeme) then x.end else x.begin

-- the rule that a shape breaks where these tokens follow, and what it wants doesn't
abbrev pub shape_finding : Shape → Extent → List Item → Finding
shape_finding after_comma s xs = breaks TrailingComma s
shape_finding after_symbol s xs = breaks LoadIdentifier s
shape_finding after_bang s xs = breaks FStringConversion (stretch s.begin (conversion_end s.end xs))

-- the first rule that counts at the end of the tokens: of those that were kept, else of those that are looked for in the whole tree
abbrev pub end_finding : Dialect → Statement → Option Finding
end_finding d s = first_of (first_finding (kept_rules d s)) (first_finding (late_rules d s))
