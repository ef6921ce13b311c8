-- Which edits are taken, and why one is refused: the section "Parts" of docs/LANGUAGE.md.
use Rattle.std.specs.Prelude.{◌≡◌, ◌≤◌, ◌<◌, ℕ, List, length, Some, Result, Ok, Err, codes, string_bytes}
use Rattle.std.specs.Str.{IsUtf8}
use Rattle.starlark_place.specs.Place.{Extent}
use Rattle.starlark_place.specs.Resolved.{resolved_span}
use Rattle.starlark_place.specs.declared.resolved.ResolvedFileSpan.{ResolvedFileSpan}
use Rattle.starlark_lexer.specs.Joining.{IsClosed}
use Rattle.starlark_lexer.specs.declared.dialect.Dialect.{Dialect}
use Rattle.starlark_ast.specs.Tree.{Statement}
use Rattle.starlark_grammar.specs.Language.{Fault, Language, place_of}
use Rattle.starlark_completion.specs.GoesOn.{IsRefusedText}
use Rattle.starlark_parser.specs.Faults.{reason, reason_of}
use Rattle.starlark_parser.specs.declared.fault.ParserError.{ParserError}
use Rattle.starlark_parts.specs.Kept.{Edit, HasIndex, Kept, edited, joined, text_of}
use Rattle.starlark_parts.specs.declared.fault.PartFault.{PartFault}
use Rattle.starlark_parts.specs.declared.fault.PartFault.TheVariants as faults

-- the text alone is in the language, and closed
pub record IsPartText (dialect : Dialect) (text : List ℕ) : Type 0 where
  pub tree : Statement
  pub language : Language dialect text tree
  pub closed : IsClosed text

-- the text is UTF-8, and with it the joined text keeps the limit
pub record Fits (limit : ℕ) (left : List (List ℕ)) (text : List ℕ) : Type 0 where
  pub utf8 : IsUtf8 text
  pub short : length (joined left) ≤ limit

-- The edit is taken: its indices exist; and where it brings a text, this is UTF-8, the joined text after the edit has at most `limit` bytes, and the text alone is in the language, and closed.
pub record Takes (dialect : Dialect) (limit : ℕ) (texts : List (List ℕ)) (edit : Edit) : Type 0 where
  pub index : HasIndex texts edit
  pub fits : (text : List ℕ) → text_of edit ≡ Some text → Fits limit (edited texts edit) text
  pub reads : (text : List ℕ) → text_of edit ≡ Some text → IsPartText dialect text

-- the edit brings that text, at an index that exists, which is UTF-8 and keeps the limit
pub record IsAddressed (limit : ℕ) (texts : List (List ℕ)) (edit : Edit) (text : List ℕ) : Type 0 where
  pub index : HasIndex texts edit
  pub brings : text_of edit ≡ Some text
  pub fits : Fits limit (edited texts edit) text

-- in a file named `part`, the lines and columns of a place of the text
pub record IsIn (text : List ℕ) (e : Extent) (place : ResolvedFileSpan) : Type 0 where
  pub file : string_bytes place.file ≡ codes "part"
  pub span : place.span ≡ resolved_span text e

-- The error and its place tell a refusal of the text: its reason, and its place.
pub record Tells (text : List ℕ) (f : Fault) (error : ParserError) (place : ResolvedFileSpan) : Type 0 where
  pub why : reason_of error ≡ reason f
  pub at : IsIn text (place_of f) place

-- Why the edit is not taken: the first reason in this order. Memory may be wanting wherever none of the first three holds and a text is to be read.
pub data Refuses (dialect : Dialect) (limit : ℕ) (texts : List (List ℕ)) (edit : Edit) : PartFault → Type 0 where
  index : (HasIndex texts edit → ⊥) → Refuses dialect limit texts edit faults.Index
  utf8 : {text : List ℕ} → HasIndex texts edit → text_of edit ≡ Some text → (IsUtf8 text → ⊥) → Refuses dialect limit texts edit faults.Utf8
  long : {text : List ℕ} → HasIndex texts edit → text_of edit ≡ Some text → IsUtf8 text → limit < length (joined (edited texts edit)) → Refuses dialect limit texts edit faults.Long
  -- the text is refused by reading
  parse : {text : List ℕ} {error : ParserError} {place : ResolvedFileSpan} (f : Fault) → IsAddressed limit texts edit text → IsRefusedText dialect text f → Tells text f error place → Refuses dialect limit texts edit (faults.Parse error place)
  -- the text is in the language, and not closed
  not_closed : {text : List ℕ} (tree : Statement) → IsAddressed limit texts edit text → Language dialect text tree → (IsClosed text → ⊥) → Refuses dialect limit texts edit faults.Open
  memory : {text : List ℕ} → IsAddressed limit texts edit text → Refuses dialect limit texts edit faults.Memory

-- what an answer to an edit says, and which texts are left: those after the edit, or those from before
abbrev pub Answers : Kept → Edit → Result (Unit {0}) PartFault → List (List ℕ) → Type 0
Answers kept edit (Ok x) left = Takes kept.dialect kept.limit kept.texts edit × (left ≡ edited kept.texts edit)
Answers kept edit (Err f) left = Refuses kept.dialect kept.limit kept.texts edit f × (left ≡ kept.texts)
