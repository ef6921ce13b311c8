-- An empty literal that is put behind a text.
use Rattle.std.proofs.Common.{◌≡◌, ◌<◌, ◌≤◌, ℕ, false, List, [], ◌∷◌, length, take, refl, arith, zero, suc, inl}
use Rattle.std.specs.Prelude.{Some, None}
use Rattle.starlark_lexer.specs.declared.literal.Form.{Form}
use Rattle.starlark_lexer.specs.declared.literal.Ending.TheVariants as ending
use Rattle.starlark_lexer.specs.declared.literal.Sort.TheVariants.{Text}
use Rattle.starlark_lexer.specs.declared.token.FStringQuote.TheVariants.{Double}
use Rattle.starlark_lexer.specs.Classes.{meaning, opens, operator_of, IsLexeme}
use Rattle.starlark_lexer.specs.Literals.{opening_of, body, read, piece, value}
use Rattle.starlark_cutting.proofs.KeptLines.{Stops, past_none}

abbrev pub text_form : Form
text_form = record { sort = Text; raw = false; quote = Double }

one_mark : meaning (34 ∷ []) ≡ Some (opens text_form)
unfolding meaning opening_of
one_mark = refl

two_marks : meaning (34 ∷ 34 ∷ []) ≡ None
unfolding meaning opening_of operator_of
two_marks = refl

longer : (o : List ℕ) (k : ℕ) → Stops o → 1 < k → k ≤ length (34 ∷ 34 ∷ o) → meaning (take k (34 ∷ 34 ∷ o)) ≡ None
longer o zero stop h le = absurd (omega (arith, h))
longer o (suc zero) stop h le = absurd (omega (arith, h))
longer o (suc (suc zero)) stop h le = two_marks
longer o (suc (suc (suc k))) stop h le = past_none (34 ∷ 34 ∷ []) o (suc (suc (suc k))) (inl stop) (omega arith) le

pub string_lexeme : (o : List ℕ) → Stops o → IsLexeme (34 ∷ 34 ∷ o) 1 (opens text_form)
string_lexeme o stop = record { nonempty = omega arith; within = omega arith; means = one_mark; longest = λ k more le. longer o k stop more le }

pub string_body : (o : List ℕ) → body text_form 0 (34 ∷ o) ≡ ending.Closed 0
unfolding read piece
string_body o = refl

pub string_value : value text_form [] ≡ []
unfolding read
string_value = refl
