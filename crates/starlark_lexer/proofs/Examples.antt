-- The definitions of lexemes, literals, integers and format strings at some literals.
use Rattle.std.proofs.Common.{◌≡◌, [], ◌∷◌, refl, Some, None, true, false, arith}
use Rattle.std.specs.Prelude.{codes, negsuc}
use lib.Utf8.{encode}
use Rattle.starlark_lexer.specs.Items.{identifier, float, keyword_if, plus_equal, small, big}
use Rattle.starlark_lexer.specs.Classes.{meaning, keyword_of, is_reserved, token, refused, operator_of, line_end, line_len, escaped, width}
use Rattle.starlark_lexer.specs.Literals.{opening_of, read, piece, escape, raw_escape}
use Rattle.starlark_lexer.specs.Joining.{FirstLine, here, blank, remark}
use Rattle.starlark_lexer.specs.Joining as lines
use Rattle.starlark_lexer.specs.Number.{number}
use Rattle.starlark_lexer.specs.Format.{text, capture, escape as brace}
use Rattle.starlark_lexer.specs.FormatScan.{parsed, turn}
use Rattle.starlark_lexer.specs.declared.token.LexemeError.TheVariants.{ReservedKeyword, StartsZero}
use Rattle.starlark_lexer.specs.declared.literal.Form.{Form}
use Rattle.starlark_lexer.specs.declared.literal.Ending.TheVariants as ending
use Rattle.starlark_lexer.specs.declared.literal.Sort.TheVariants.{Text, Bytes}
use Rattle.starlark_lexer.specs.declared.token.FStringQuote.TheVariants.{Double}
use Rattle.starlark_lexer.specs.declared.format.EscapeCurlyBrace.TheVariants.{Close}
use Rattle.starlark_lexer.specs.declared.format.FormatConv.TheVariants.{Repr}
use Rattle.starlark_lexer.specs.declared.format.FormatErrorKind.TheVariants.{Unmatched}

keyword : meaning (codes "if") ≡ Some (token keyword_if)
unfolding meaning keyword_of
keyword = refl

front_of_a_keyword : meaning (codes "iffy") ≡ Some (token (identifier (codes "iffy")))
unfolding meaning keyword_of is_reserved
front_of_a_keyword = refl

reserved_word : meaning (codes "class") ≡ Some (refused ReservedKeyword)
unfolding meaning keyword_of is_reserved
reserved_word = refl

leading_zero : meaning (codes "01") ≡ Some (refused StartsZero)
unfolding meaning
leading_zero = refl

float_behind_zeros : meaning (codes "01e5") ≡ Some (token (float (codes "01e5")))
unfolding meaning
float_behind_zeros = refl

no_digits_of_the_radix : meaning (codes "0x") ≡ None
unfolding meaning opening_of operator_of
no_digits_of_the_radix = refl

operator : meaning (codes "+=") ≡ Some (token plus_equal)
unfolding meaning opening_of operator_of
operator = refl

least_integer : number true 10 (codes "2147483648") ≡ small (negsuc 2147483647)
unfolding number
least_integer = refl

digits_of_a_great_integer : number false 16 (codes "00FFFFFFFF") ≡ big (codes "ffffffff") false 16
unfolding number
digits_of_a_great_integer = refl

cr_before_a_line_feed : line_len (codes "c\r\n") ≡ 1
unfolding line_len line_end
cr_before_a_line_feed = refl

escaped_line_end : escaped (codes "\\\r\nx") ≡ 3
unfolding escaped line_end
escaped_line_end = refl

cr_has_no_width : width (codes " \r x") ≡ 2
cr_has_no_width = refl

-- a literal of text in double quotes, and one of bytes
abbrev text_form : Form
text_form = record { sort = Text; raw = false; quote = Double }

abbrev bytes_form : Form
bytes_form = record { sort = Bytes; raw = false; quote = Double }

abbrev raw_form : Form
raw_form = record { sort = Text; raw = true; quote = Double }

escapes_of_text : (read text_form 0 (codes "\\x41\\u00e9\"")).value ≡ 65 ∷ 195 ∷ 169 ∷ []
unfolding read piece escape encode
escapes_of_text = refl

where_that_body_ends : (read text_form 0 (codes "\\x41\\u00e9\"")).ending ≡ ending.Closed 10
unfolding read piece escape
where_that_body_ends = refl

byte_above_255 : (read bytes_form 0 (codes "\\xff\\777\"")).ending ≡ ending.Escape 4 2
unfolding read piece escape
byte_above_255 = refl

mark_behind_a_raw_backslash : (read raw_form 0 (codes "\\\"")).ending ≡ ending.Unfinished 2
unfolding read piece raw_escape
mark_behind_a_raw_backslash = refl

format_string : (parsed 0 0 (codes "a{b!r}}}")).parts ≡ text (codes "a") ∷ capture (codes "b") 2 Repr ∷ brace Close ∷ []
unfolding parsed turn
format_string = refl

unmatched_brace : (parsed 0 0 (codes "a{b")).error ≡ Some Unmatched
unfolding parsed turn
unmatched_brace = refl

line_behind_a_comment : FirstLine (codes "\n # c\r\nx") 7
unfolding line_end line_len
line_behind_a_comment = blank (codes "\n # c\r\nx") (codes " # c\r\nx") 6 refl (remark (codes " # c\r\nx") (codes " c\r\nx") 0 refl (here (codes "x") 120 [] refl (λ e. omega (arith, e)) (λ e. omega (arith, e))))

line_that_is_escaped : FirstLine (codes "\\\n# c\nx") 0
line_that_is_escaped = here (codes "\\\n# c\nx") 92 (codes "\n# c\nx") refl (λ e. omega (arith, e)) (λ e. omega (arith, e))

no_line_with_a_width : FirstLine (codes "# c\n  ") 6
unfolding line_end line_len
no_line_with_a_width = remark (codes "# c\n  ") (codes " c\n  ") 2 refl (lines.none (codes "  ") refl)
