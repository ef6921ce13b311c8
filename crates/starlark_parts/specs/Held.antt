-- What a part holds, and what a reading answers.
use Rattle.std.specs.Prelude.{◌≡◌, ◌≤◌, ◌<◌, ℕ, ◌+◌, List, [], ◌∷◌, ◌++◌, length, map, sum_by, string_bytes, Some}
use Rattle.std.specs.List.{All}
use Rattle.std.specs.Str.{IsUtf8}
use Rattle.starlark_place.specs.Place.{FilePlace, line_feeds}
use Rattle.starlark_place.specs.Resolved.{resolved_span}
use Rattle.starlark_place.specs.Diagnostic.{inner_of, span_of}
use Rattle.starlark_place.specs.declared.diagnostic.WithDiagnostic.{WithDiagnostic}
use Rattle.starlark_lexer.specs.Joining.{IsClosed}
use Rattle.starlark_lexer.specs.declared.dialect.Dialect.{Dialect}
use Rattle.starlark_ast.specs.Tree.{Statement}
use Rattle.starlark_ast.specs.View.{stmt_at}
use Rattle.starlark_grammar.specs.Language.{Fault, Language}
use Rattle.starlark_completion.specs.GoesOn.{IsRefusedText}
use Rattle.starlark_parser.specs.Modules.{file_of, tree_of}
use Rattle.starlark_parser.specs.declared.fault.ParserError.{ParserError}
use Rattle.starlark_parts.specs.Edits.{Tells}
use Rattle.starlark_parts.specs.Outlines.{AreItems, items_down}
use Rattle.starlark_parts.specs.Tops.{top_level}
use Rattle.starlark_parts.specs.Walk.{Stmt, tops_of}
use Rattle.starlark_parts.specs.declared.fault.PartFault.{PartFault}
use Rattle.starlark_parts.specs.declared.fault.PartFault.TheVariants as faults
use Rattle.starlark_parts.specs.declared.part.Part.{Part}
use Rattle.starlark_parts.specs.declared.word.OutlineItem.{OutlineItem}

-- the text of a part
abbrev pub text_of : Part → List ℕ
text_of p = (file_of p.read).source

-- its outline
abbrev pub items_of : Part → List OutlineItem
items_of p = p.items.items

-- the statements at the top of its tree
abbrev pub statements_of : Part → List Stmt
statements_of p = tops_of p.read.statement

-- each of the items begins behind so many line feeds at most
abbrev pub AllAbove : ℕ → List OutlineItem → Type 0
AllAbove n items = All (λ x. x.begin.line ≤ n) items

-- its items begin in it
abbrev pub IsAbove : Part → Type 0
IsAbove p = AllAbove p.feeds (items_of p)

-- a closed text with its tree, its own outline and its number of line feeds
pub record IsPart (dialect : Dialect) (p : Part) : Type 0 where
  pub language : Language dialect (text_of p) (tree_of p.read)
  pub closed : IsClosed (text_of p)
  pub outline : AreItems (text_of p) (tree_of p.read) (items_of p)
  pub statements : map stmt_at (statements_of p) ≡ top_level (tree_of p.read)
  pub feeds : p.feeds ≡ line_feeds (text_of p)
  pub above : IsAbove p

-- why the end of a text makes it no part, or want of memory
abbrev pub MissesEnd : List ℕ → PartFault → Type 0
MissesEnd text faults.Open = IsClosed text → ⊥
MissesEnd text faults.Memory = Unit {0}
MissesEnd text _ = ⊥

-- the fault with its place by lines and columns, or want of memory
abbrev pub Resolves : WithDiagnostic ParserError → PartFault → Type 0
Resolves w (faults.Parse error place) = (error ≡ inner_of w) × (p : FilePlace) × (span_of w ≡ Some p) × (string_bytes place.file ≡ p.file.name) × (place.span ≡ resolved_span p.file.source p.extent)
Resolves w faults.Memory = Unit {0}
Resolves w _ = ⊥

-- why the text alone is no part
abbrev pub RefusesText : Dialect → List ℕ → PartFault → Type 0
RefusesText dialect text (faults.Parse error place) = (f : Fault) × IsRefusedText dialect text f × Tells text f error place
RefusesText dialect text faults.Open = (tree : Statement) × Language dialect text tree × (IsClosed text → ⊥)
RefusesText dialect text faults.Memory = Unit {0}
RefusesText dialect text _ = ⊥

-- why bytes for which there is so much room are no part
abbrev pub RefusesBytes : Dialect → ℕ → List ℕ → PartFault → Type 0
RefusesBytes dialect room text faults.Index = ⊥
RefusesBytes dialect room text faults.Utf8 = IsUtf8 text → ⊥
RefusesBytes dialect room text faults.Long = IsUtf8 text × (room < length text)
RefusesBytes dialect room text f = IsUtf8 text × (length text ≤ room) × RefusesText dialect text f

-- bytes that are one: UTF-8, no more than there is room for
pub record IsRead (dialect : Dialect) (room : ℕ) (text : List ℕ) (p : Part) : Type 0 where
  pub utf8 : IsUtf8 text
  pub fits : length text ≤ room
  pub same : text_of p ≡ text
  pub part : IsPart dialect p

-- ---- all parts

abbrev pub AreParts : Dialect → List Part → Type 0
AreParts dialect ps = All (IsPart dialect) ps

-- the texts of parts
abbrev pub texts_of : List Part → List (List ℕ)
texts_of ps = map text_of ps

-- the line feeds of all parts
abbrev pub all_feeds : List Part → ℕ
all_feeds ps = sum_by (λ p. p.feeds) ps

-- the outlines of all parts, each behind the lines of those before it
abbrev pub outline_from : ℕ → List Part → List OutlineItem
outline_from n [] = []
outline_from n (p ∷ ps) = items_down n (items_of p) ++ outline_from (n + p.feeds) ps
