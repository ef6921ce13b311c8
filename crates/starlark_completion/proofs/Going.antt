-- Texts that go on, by how a text that is cut off goes on and how its tokens do.
use Rattle.std.proofs.Common.{ℕ, ◌≡◌, ◌+◌, ◌∷◌, ◌++◌, ◌∙◌, [], zero, suc, List, None, cond, map, length, refl, ap, sym, subst, arith, count_by, append-nil, append_assoc, IsAscii}
use Rattle.std.proofs.lemmas.List.{map-append}
use Rattle.std.proofs.lemmas.List.Sums.{sum_by-append}
use Rattle.std.proofs.lemmas.Str.{IsAscii-append}
use Rattle.std.proofs.lemmas.Str.Ascii.{IsAscii-nil, IsAscii-cons, IsAscii-push}
use Rattle.starlark_lexer.specs.Items.{Lexeme, newline, indent, dedent, keyword_pass, dedents, Item, item}
use Rattle.starlark_lexer.specs.Lex.{Lex, start}
use Rattle.starlark_lexer.specs.Joining.{is_indent, is_dedent, dedent_item}
use Rattle.starlark_grammar.specs.Language.{bare, without_comments}
use Rattle.starlark_grammar.proofs.Uncommented.{without_append, without_dedents}
use Rattle.starlark_cutting.proofs.KeptTracks.{dedents_count, dedents_indents}
use Rattle.starlark_cutting.specs.Cutting.{indent_item, blanks_of, IsClosedOff, IsIndented, IsFilled, IsFilledBehind, IsFinished}
use Rattle.starlark_completion.specs.Ending.{copies, Goes}
use Rattle.starlark_completion.specs.GoesOn.{CanGoOn}
use Rattle.starlark_completion.proofs.Tokens.{count_bare, indents_kept, dedents_kept}

-- the bytes that are put behind a text
pub blanks_ascii : (n : ℕ) → IsAscii (blanks_of n)
blanks_ascii zero = IsAscii-nil
blanks_ascii (suc n) = IsAscii-cons 32 (blanks_of n) (omega arith) (blanks_ascii n)

pass_ascii : IsAscii (112 ∷ 97 ∷ 115 ∷ 115 ∷ 10 ∷ [])
pass_ascii =
    IsAscii-cons 112 (97 ∷ 115 ∷ 115 ∷ 10 ∷ []) (omega arith) (IsAscii-cons 97 (115 ∷ 115 ∷ 10 ∷ []) (omega arith) (IsAscii-cons 115 (115 ∷ 10 ∷ []) (omega arith) (IsAscii-cons 115 (10 ∷ []) (omega arith) (IsAscii-cons 10 [] (omega arith) IsAscii-nil))))

-- tokens with those lexemes, behind w, make the text go on
pub goes : (text more : List ℕ) (items w : List Item) (xs : List Lexeme) → IsAscii more → Lex start (text ++ more) (record { items = items; fault = None }) → bare (without_comments items) ≡ bare w ++ xs → Goes (bare w ++ xs) → CanGoOn text w
goes text more items w xs ascii lex q g =
    let d = g (without_comments items) q in
    record { more = more; ascii = ascii; lexed = record { items = items; fault = None }; lexes = lex; no_fault = refl; rest = xs; keeps = q; raw = d.0; derives = d.1 }

bare_dedents : (p k : ℕ) → bare (dedents p k) ≡ copies k dedent
bare_dedents p zero = refl
bare_dedents p (suc k) = ap (λ xs. dedent ∷ xs) (bare_dedents p k)

-- lexemes of items of which the last are without comments
tokens_behind : (front rest : List Item) (xs : List Lexeme) → bare (without_comments rest) ≡ xs → bare (without_comments (front ++ rest)) ≡ bare (without_comments front) ++ xs
tokens_behind front rest xs q = ap bare (without_append front rest) ∙ map-append (λ (y : Item). y.lexeme) (without_comments front) (without_comments rest) ∙ ap (λ ys. bare (without_comments front) ++ ys) q

ending : (p k : ℕ) → bare (without_comments (dedents p k ++ [])) ≡ copies k dedent
ending p k = ap (λ xs. bare (without_comments xs)) (append-nil (dedents p k)) ∙ ap bare (without_dedents p k) ∙ bare_dedents p k

-- tokens with the same lexemes open and close as many blocks
pub indents_there : (front w : List Item) → bare (without_comments front) ≡ bare w → count_by indent_item w ≡ count_by indent_item front
indents_there front w q = count_bare is_indent w ∙ ap (count_by is_indent) (sym q) ∙ sym (count_bare is_indent (without_comments front)) ∙ indents_kept front

pub dedents_there : (front w : List Item) → bare (without_comments front) ≡ bare w → count_by dedent_item w ≡ count_by dedent_item front
dedents_there front w q = count_bare is_dedent w ∙ ap (count_by is_dedent) (sym q) ∙ sym (count_bare is_dedent (without_comments front)) ∙ dedents_kept front

-- the text behind which some more goes on
pub goes_behind : (u more : List ℕ) (w : List Item) → IsAscii more → CanGoOn (u ++ more) w → CanGoOn u w
goes_behind u more w ascii c = record { more = more ++ c.more; ascii = IsAscii-append more c.more ascii c.ascii; lexed = c.lexed; lexes = subst (λ t. Lex start t c.lexed) (append_assoc u more c.more) c.lexes; no_fault = c.no_fault; rest = c.rest; keeps = c.keeps; raw = c.raw; derives = c.derives }

-- the text is cut into the front, whose tokens are w
module _ (u : List ℕ) (front w : List Item) (depth : ℕ) (same : bare (without_comments front) ≡ bare w) where
  -- with that behind it, there
  behind : (more : List ℕ) (rest : List Item) (xs : List Lexeme) → IsAscii more → Lex start (u ++ more) (record { items = front ++ rest; fault = None }) → bare (without_comments rest) ≡ xs → Goes (bare w ++ xs) → CanGoOn u w
  behind more rest xs ascii lex q g = goes u more (front ++ rest) w xs ascii lex (tokens_behind front rest xs q ∙ ap (λ ys. ys ++ xs) same) g

  -- the text as it is
  pub by_nothing : count_by indent_item w ≡ depth + count_by dedent_item w → ((n : ℕ) → Goes (bare w ++ (copies n newline ++ copies depth dedent))) → (p count : ℕ) → count_by indent_item front ≡ count_by dedent_item front + count → Lex start u (record { items = front ++ dedents p count; fault = None }) → CanGoOn u w
  by_nothing blocks g p count layout lex =
      let k : count ≡ depth = omega (arith, indents_there front w same, dedents_there front w same, blocks, layout) in
      behind [] (dedents p count) (copies depth dedent) IsAscii-nil (subst (λ t. Lex start t (record { items = front ++ dedents p count; fault = None })) (sym (append-nil u)) lex) (ap bare (without_dedents p count) ∙ bare_dedents p count ∙ ap (λ n. copies n dedent) k) (g 0)

  -- at a line's beginning
  pub by_lines : count_by indent_item w ≡ depth + count_by dedent_item w → ((n : ℕ) → Goes (bare w ++ (copies n newline ++ copies depth dedent))) → IsClosedOff u front → CanGoOn u w
  by_lines blocks g c =
      let at = length u in
      let rest = item at newline at ∷ (dedents at c.count ++ []) in
      let k : c.count ≡ depth = omega (arith, indents_there front w same, dedents_there front w same, blocks, c.layout) in
      behind [] rest (newline ∷ copies depth dedent) IsAscii-nil (subst (λ t. Lex start t (record { items = front ++ rest; fault = None })) (sym (append-nil u)) c.lex) (ap (λ xs. newline ∷ xs) (ending at c.count ∙ ap (λ n. copies n dedent) k)) (g 1)

  -- in a block: by a line of its width
  pub by_block : count_by indent_item w ≡ depth + count_by dedent_item w → ((n : ℕ) → Goes (bare w ++ (keyword_pass ∷ newline ∷ (copies n newline ++ copies depth dedent)))) → IsFilled u front → CanGoOn u w
  by_block blocks g c =
      let at = c.place in
      let rest = item at keyword_pass (at + 4) ∷ item (at + 4) newline (at + 4 + 1) ∷ item (at + 4 + 1) newline (at + 4 + 1) ∷ (dedents (at + 4 + 1) c.count ++ []) in
      let k : c.count ≡ depth = omega (arith, indents_there front w same, dedents_there front w same, blocks, c.layout) in
      behind (blanks_of c.spaces ++ 112 ∷ 97 ∷ 115 ∷ 115 ∷ 10 ∷ []) rest (keyword_pass ∷ newline ∷ newline ∷ copies depth dedent) (IsAscii-append (blanks_of c.spaces) (112 ∷ 97 ∷ 115 ∷ 115 ∷ 10 ∷ []) (blanks_ascii c.spaces) pass_ascii) c.lex (ap (λ xs. keyword_pass ∷ newline ∷ newline ∷ xs) (ending (at + 4 + 1) c.count ∙ ap (λ n. copies n dedent) k)) (g 1)

  -- behind a Dedent: by those that are left, and a line of that width
  pub by_level : count_by indent_item w ≡ depth + count_by dedent_item w → ((j k n : ℕ) → depth ≡ j + k → Goes (bare w ++ (copies j dedent ++ (keyword_pass ∷ newline ∷ (copies n newline ++ copies k dedent))))) → IsFilledBehind u front → CanGoOn u w
  by_level blocks g f =
      let c = f.filled in
      let at = c.place in
      let them = dedents (length u) f.more in
      let line = item at keyword_pass (at + 4) ∷ item (at + 4) newline (at + 4 + 1) ∷ item (at + 4 + 1) newline (at + 4 + 1) ∷ (dedents (at + 4 + 1) c.count ++ []) in
      let bytes = blanks_of c.spaces ++ 112 ∷ 97 ∷ 115 ∷ 115 ∷ 10 ∷ [] in
      let i : count_by indent_item (front ++ them) ≡ count_by indent_item front + count_by indent_item them = sum_by-append (λ (y : Item). cond (indent_item y) 1 0) front them in
      let d : count_by dedent_item (front ++ them) ≡ count_by dedent_item front + count_by dedent_item them = sum_by-append (λ (y : Item). cond (dedent_item y) 1 0) front them in
      let k : depth ≡ f.more + c.count = omega (arith, indents_there front w same, dedents_there front w same, blocks, c.layout, i, d, dedents_indents (length u) f.more, dedents_count (length u) f.more) in
      let tail : bare (without_comments line) ≡ keyword_pass ∷ newline ∷ newline ∷ copies c.count dedent = ap (λ xs. keyword_pass ∷ newline ∷ newline ∷ xs) (ending (at + 4 + 1) c.count) in
      behind bytes (them ++ line) (copies f.more dedent ++ (keyword_pass ∷ newline ∷ newline ∷ copies c.count dedent)) (IsAscii-append (blanks_of c.spaces) (112 ∷ 97 ∷ 115 ∷ 115 ∷ 10 ∷ []) (blanks_ascii c.spaces) pass_ascii)
      (subst (λ xs. Lex start (u ++ bytes) (record { items = xs; fault = None })) (append_assoc front them line) c.lex)
      (tokens_behind them line (keyword_pass ∷ newline ∷ newline ∷ copies c.count dedent) tail ∙ ap (λ xs. xs ++ (keyword_pass ∷ newline ∷ newline ∷ copies c.count dedent)) (ap bare (without_dedents (length u) f.more) ∙ bare_dedents (length u) f.more))
      (g f.more c.count 1 k)

  -- before a block: by a deeper line; and of its tokens may be kept what is wanted
  pub by_deeper : (kept : List Item) (left : List Lexeme) → bare kept ++ left ≡ bare w ++ (indent ∷ keyword_pass ∷ newline ∷ newline ∷ copies depth dedent) → count_by indent_item w + 1 ≡ depth + count_by dedent_item w → ((n : ℕ) → Goes (bare w ++ (indent ∷ keyword_pass ∷ newline ∷ (copies n newline ++ copies depth dedent)))) → (blanks : List ℕ) → IsAscii blanks → IsIndented u blanks front → CanGoOn u kept
  by_deeper kept left parts blocks g blanks ascii c =
      let at = c.place in
      let rest = item c.begin indent at ∷ item at keyword_pass (at + 4) ∷ item (at + 4) newline (at + 4 + 1) ∷ item (at + 4 + 1) newline (at + 4 + 1) ∷ (dedents (at + 4 + 1) c.count ++ []) in
      let k : c.count ≡ depth = omega (arith, indents_there front w same, dedents_there front w same, blocks, c.layout) in
      let xs = indent ∷ keyword_pass ∷ newline ∷ newline ∷ copies depth dedent in
      let q : bare (without_comments rest) ≡ xs = ap (λ ys. indent ∷ keyword_pass ∷ newline ∷ newline ∷ ys) (ending (at + 4 + 1) c.count ∙ ap (λ n. copies n dedent) k) in
      goes u (blanks ++ 112 ∷ 97 ∷ 115 ∷ 115 ∷ 10 ∷ []) (front ++ rest) kept left (IsAscii-append blanks (112 ∷ 97 ∷ 115 ∷ 115 ∷ 10 ∷ []) ascii pass_ascii) c.lex (tokens_behind front rest xs q ∙ ap (λ ys. ys ++ xs) same ∙ sym parts) (subst Goes (sym parts) (g 1))

  -- within a line: by what closes it
  pub by_words : count_by indent_item w ≡ depth + count_by dedent_item w → (bytes : List ℕ) (xs : List Lexeme) → IsAscii bytes → ((put : List Item) → map (λ (y : Item). y.lexeme) put ≡ xs → without_comments put ≡ put) → ((n : ℕ) → Goes (bare w ++ (xs ++ newline ∷ (copies n newline ++ copies depth dedent)))) → IsFinished u bytes front xs → CanGoOn u w
  by_words blocks bytes xs ascii plain g c =
      let at = c.place in
      let end = item at newline (at + 1) ∷ (item (at + 1) newline (at + 1) ∷ (dedents (at + 1) c.count ++ [])) in
      let k : c.count ≡ depth = omega (arith, indents_there front w same, dedents_there front w same, blocks, c.layout) in
      let tail : bare (without_comments end) ≡ newline ∷ newline ∷ copies depth dedent = ap (λ ys. newline ∷ newline ∷ ys) (ending (at + 1) c.count ∙ ap (λ n. copies n dedent) k) in
      behind (bytes ++ 10 ∷ []) (c.put ++ end) (xs ++ (newline ∷ newline ∷ copies depth dedent)) (IsAscii-push bytes 10 ascii (omega arith)) c.lex
      (tokens_behind c.put end (newline ∷ newline ∷ copies depth dedent) tail ∙ ap (λ ys. ys ++ (newline ∷ newline ∷ copies depth dedent)) (ap bare (plain c.put c.names) ∙ c.names))
      (g 1)
