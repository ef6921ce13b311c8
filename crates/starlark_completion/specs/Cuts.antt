-- Laws of texts that are cut off, as they are cited here: starlark_cutting::laws and starlark_lexer::laws.
use Rattle.std.specs.Prelude.{ℕ, ◌≡◌, ◌<◌, ◌+◌, ◌⊎◌, ◌∷◌, ◌++◌, [], List, true, false, length, map}
use Rattle.starlark_lexer.specs.Items.{newline, indent, dedent, fstring_text, fstring_expr_start, Item, item, Lexed, nothing, with_items}
use Rattle.starlark_lexer.specs.Lex.{Lex, start}
use Rattle.starlark_lexer.specs.Joining.{open_behind}
use Rattle.starlark_lexer.specs.Order.{InOrder}
use Rattle.starlark_cutting.specs.Cutting.{EvenWith, inner, IsClosedOff, IsContinued, IsCutAt, IsDeepened, IsEnded, IsFilled, IsFilledBehind, IsIndented}
use Rattle.starlark_cutting.specs.Opened.{Nest, outside, in_field, in_text, Way, Put, put_lexemes, is_text, IsFinishedBy}

pub record Cuts : Type 0 where
  -- in_order, the clause `order`
  pub order : (text : List ℕ) (l : Lexed) → Lex start text l → InOrder 0 (length text) l.items l.fault
  -- empty_text
  pub empty : Lex start [] (with_items (item 0 newline 0 ∷ []) nothing)
  -- cut_off_fields
  pub line : (u v : List ℕ) (before : List Item) (z : Item) (behind : List Item) (n : Nest) (xs : List Put) → IsCutAt u v before z behind → inner z.lexeme ≡ true → is_text z.lexeme ≡ false
      → Way (outside 0) (map (λ x. x.lexeme) (before ++ z ∷ [])) n → Way n (put_lexemes xs) (outside 0) → IsFinishedBy u (before ++ z ∷ []) (put_lexemes xs)
  pub text : (u v : List ℕ) (before : List Item) (z : Item) (behind : List Item) (w : List ℕ) (m : Nest) (xs : List Put) → IsCutAt u v before z behind → z.lexeme ≡ fstring_text w
      → Way (outside 0) (map (λ x. x.lexeme) (before ++ z ∷ [])) (in_text m) → Way (in_field 0 m) (put_lexemes xs) (outside 0) → IsFinishedBy u (before ++ z ∷ []) (fstring_expr_start ∷ put_lexemes xs)
  -- cut_off_lines
  pub closed_line : (u v : List ℕ) (before : List Item) (z : Item) (behind : List Item) → IsCutAt u v before z behind → z.lexeme ≡ newline → z.end ≡ z.begin + 1 → IsClosedOff u (before ++ z ∷ [])
  -- cut_off_indents
  pub deepened : (u v : List ℕ) (before : List Item) (z : Item) (behind : List Item) → IsCutAt u v before z behind → z.lexeme ≡ newline → z.end ≡ z.begin + 1 → IsDeepened u (before ++ z ∷ [])
  pub indented : (u v : List ℕ) (before : List Item) (z : Item) (behind : List Item) → IsCutAt u v before z behind → z.lexeme ≡ indent → IsIndented u (32 ∷ []) before
  -- cut_off_blocks
  pub filled : (u v : List ℕ) (before : List Item) (z : Item) (behind : List Item) → IsCutAt u v before z behind → z.lexeme ≡ newline → z.end ≡ z.begin + 1 → IsFilled u (before ++ z ∷ [])
  pub filled_dedent : (u v : List ℕ) (before : List Item) (z : Item) (behind : List Item) → IsCutAt u v before z behind → z.lexeme ≡ dedent → 0 < length v → IsFilledBehind u (before ++ z ∷ [])
  -- cut_off_whole
  pub ended_line : (u v : List ℕ) (before : List Item) (z : Item) (behind : List Item) (c : IsCutAt u v before z behind) → z.lexeme ≡ newline → z.end ≡ z.begin → IsEnded u v before z behind c.fault
  pub ended_dedent : (u v : List ℕ) (before : List Item) (z : Item) (behind : List Item) (c : IsCutAt u v before z behind) → z.lexeme ≡ dedent → v ≡ [] → IsEnded u v before z behind c.fault
  -- cut_off_kinds
  pub width : (u v : List ℕ) (before : List Item) (z : Item) (behind : List Item) → IsCutAt u v before z behind → z.lexeme ≡ newline → (z.end ≡ z.begin) ⊎ (z.end ≡ z.begin + 1)
  -- cut_off_ends
  pub continued : (u v : List ℕ) (before : List Item) (z : Item) (behind : List Item) → IsCutAt u v before z behind → z.lexeme ≡ newline → z.end ≡ z.begin → open_behind 0 (before ++ z ∷ []) ≡ 0 → EvenWith (before ++ z ∷ []) [] → IsContinued u (before ++ z ∷ [])
