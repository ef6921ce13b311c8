-- What replies are made of. Lines and columns are printed from 1.
use Rattle.std.specs.Prelude.{ℕ, Result, Ok, Err, List, ◌++◌, codes, decimal, length}
use Rattle.std.specs.List.{flat_map}
use Rattle.starlark_place.specs.Shown.{shown_pos, shown_span}
use Rattle.starlark_parser.specs.Faults.{kind_of}
use Rattle.starlark_parser.specs.declared.fault.ParserErrorKind.{ParserErrorKind}
use Rattle.starlark_parser.specs.declared.fault.ParserErrorKind.TheVariants as kinds
use Rattle.starlark_parts.specs.Tops.{word_text}
use Rattle.starlark_parts.specs.declared.word.OutlineItem.{OutlineItem}
use Rattle.starlark_parts.specs.declared.fault.PartFault.{PartFault}
use Rattle.starlark_parts.specs.declared.fault.PartFault.TheVariants as faults

-- who refused a text
abbrev pub kind_text : ParserErrorKind → List ℕ
kind_text kinds.Lexer = codes " lexer\n"
kind_text kinds.Syntax = codes " syntax\n"
kind_text kinds.Rule = codes " rule\n"

-- the line that answers a refused edit
abbrev pub refusal_line : PartFault → List ℕ
refusal_line faults.Index = codes "refused index\n"
refusal_line faults.Utf8 = codes "refused utf8\n"
refusal_line faults.Long = codes "refused long\n"
refusal_line (faults.Parse error place) = codes "refused part:" ++ shown_span place.span ++ kind_text (kind_of error)
refusal_line faults.Open = codes "refused open\n"
refusal_line faults.Memory = codes "refused memory\n"

-- the line that answers an edit
abbrev pub edit_line : Result (Unit {0}) PartFault → List ℕ
edit_line (Ok x) = codes "ok\n"
edit_line (Err fault) = refusal_line fault

-- the line of a statement: where it begins, and its word
abbrev pub item_line : OutlineItem → List ℕ
item_line item = shown_pos item.begin ++ codes " " ++ word_text item.word ++ codes "\n"

-- the lines of some statements
abbrev pub item_lines : List OutlineItem → List ℕ
item_lines items = flat_map item_line items

-- the line that says how many statements there are
abbrev pub count_line : ℕ → List ℕ
count_line n = codes "statements " ++ decimal n ++ codes "\n"

-- the answer to `outline`
abbrev pub outline_lines : List OutlineItem → List ℕ
outline_lines items = count_line (length items) ++ item_lines items
