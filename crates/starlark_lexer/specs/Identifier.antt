-- A text that is one identifier with blanks around it.
use Rattle.std.specs.Prelude.{◌≡◌, Bool, true, false, not, ◌&&◌, ℕ, List, take, drop, Option, String}
use Rattle.std.specs.List.{list_all, prefix_len}
use Rattle.std.specs.Option.{is_some, MatchOption}
use Rattle.std.specs.String.{string_bytes}
use Rattle.starlark_lexer.specs.Classes.{is_blank, is_word_byte, is_word, keyword_of, is_reserved}

-- A word that is no keyword and not reserved.
abbrev pub is_identifier : List ℕ → Bool
is_identifier w = is_word w && not (is_some (keyword_of w)) && not (is_reserved w)

-- What stands behind the blanks at the front.
abbrev pub unblanked : List ℕ → List ℕ
unblanked text = drop (prefix_len is_blank text) text

-- The letters, digits and underscores there, and what stands behind them.
abbrev pub word_at : List ℕ → List ℕ
word_at text = take (prefix_len is_word_byte (unblanked text)) (unblanked text)

abbrev pub behind : List ℕ → List ℕ
behind text = drop (prefix_len is_word_byte (unblanked text)) (unblanked text)

-- Blanks, one identifier, and blanks.
abbrev pub is_one : List ℕ → Bool
is_one text = list_all is_blank (behind text) && is_identifier (word_at text)

-- The identifier of the text.
pub record IsOne (text w : List ℕ) : Type 0 where
  pub one : is_one text ≡ true
  pub word : w ≡ word_at text

-- What is answered for a text: the identifier exactly where it is one.
abbrev pub Answers : {A : Type 0} → List ℕ → Option (String A) → Type 0
Answers text o = MatchOption o (is_one text ≡ false) (λ t. IsOne text (string_bytes t))
