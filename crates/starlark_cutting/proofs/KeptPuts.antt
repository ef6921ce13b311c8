-- A lexeme that is put behind a text with a blank before it, and the line feed that ends the text.
use Rattle.std.proofs.Common.{◌≡◌, ◌<◌, ℕ, ◌+◌, Bool, cond, true, false, List, [], ◌∷◌, ◌++◌, length, refl, ap, sym, ◌∙◌, arith, inl, length-append}
use Rattle.std.specs.Prelude.{Some, count_by}
use Rattle.std.proofs.Math.Seq.{take-append_seam}
use Rattle.starlark_lexer.specs.Items.{Lexeme, Item, item, nothing, newline, dedents, with_items}
use Rattle.starlark_lexer.specs.Widths.{Closes}
use Rattle.starlark_lexer.specs.Classes.{meaning, token, IsLexeme}
use Rattle.starlark_lexer.specs.Lex.{Mode, Past, Lex, IsPlain, IsBalanced, recorded, mode_behind, is_inside, goes_on, is_over}
use Rattle.starlark_lexer.specs.Lex as rules
use Rattle.starlark_lexer.proofs.JoinedOn.{count_cons}
use Rattle.starlark_cutting.proofs.KeptLines.{Stops, past_none, first_not, unescaped}
use Rattle.starlark_cutting.proofs.KeptMoves.{field_code}

-- the text is the lexeme where a blank or a line feed stands behind it
pub alone_lexeme : (w o : List ℕ) (x : Lexeme) → 0 < length w → meaning w ≡ Some (token x) → Stops o → IsLexeme (w ++ o) (length w) (token x)
alone_lexeme w o x some means stop = record {
  nonempty = some;
  within = omega (arith, length-append w o);
  means = ap meaning (take-append_seam w o) ∙ means;
  longest = λ k more fits. past_none w o k (inl stop) more fits;
}

-- among lexemes, within a line
pub record Among (p : Past) : Type 0 where
  pub fresh : p.fresh ≡ false
  pub mode : p.mode ≡ rules.code

pub among_plain : (p : Past) (w o : List ℕ) (n : ℕ) (x : Lexeme) → Among p → 0 < length w → IsLexeme (w ++ o) n (token x) → IsPlain p (w ++ o)
among_plain p [] o n x a some l = absurd (omega (arith, some))
among_plain p (b ∷ w) o n x a some l = record {
  within = a.fresh;
  outside = ap is_inside a.mode;
  no_escape = unescaped b (w ++ o) (first_not b (w ++ o) n (token x) l tt);
  no_end = λ i g bs e d. absurd (field_code i g bs (sym e ∙ a.mode));
}

-- what stands behind it
abbrev pub put_past : Past → ℕ → Lexeme → Past
put_past p n x = record { place = p.place + 1 + n; items = recorded p.mode (item (p.place + 1 + 0) x (p.place + 1 + 0 + n)) p.items; lines = p.lines; fresh = false; mode = mode_behind p.mode x; outer = p.outer }

-- the line feed that ends the text, where brackets are balanced
pub end_line : (p : Past) (closed : List ℕ) → Among p → IsBalanced p → Closes p.lines 0 closed
    → Lex p (10 ∷ []) (with_items (item (p.place + 0) newline (p.place + 0 + 1) ∷ []) (with_items (item (p.place + 1 + 0) newline (p.place + 1 + 0) ∷ dedents (p.place + 1 + 0) (length closed)) nothing))
end_line p closed a even shut =
    let it : Item = item (p.place + 0) newline (p.place + 0 + 1) in
    let q : Past = record { place = p.place + 1; items = recorded p.mode it p.items; lines = p.lines; fresh = true; mode = mode_behind p.mode newline; outer = p.outer } in
    goes_on p (10 ∷ []) (it ∷ []) q [] _ (rules.ends_line p [] a.fresh a.mode even) (is_over q [] _ (rules.last_line q [] closed refl refl shut))

-- a lexeme among lexemes is counted where it stands
pub counted : (f : Item → Bool) (m : Mode) (it : Item) (xs : List Item) → m ≡ rules.code → count_by f (recorded m it xs) ≡ cond (f it) 1 0 + count_by f xs
counted f m it xs e = ap (λ k. count_by f (recorded k it xs)) e ∙ count_cons f it xs
