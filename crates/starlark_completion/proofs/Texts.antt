-- A text whose tokens go on to a program goes on itself.
use Rattle.std.proofs.Common.{ℕ, ◌≡◌, ◌<◌, ◌+◌, ◌⊎◌, ◌∷◌, ◌++◌, ◌∙◌, [], suc, List, None, true, false, cond, map, length, take, drop, refl, ap, sym, subst, arith, inl, inr, count_by, append-nil, append_assoc}
use Rattle.std.proofs.lemmas.Bool.{false≢true}
use Rattle.std.proofs.lemmas.List.{map-append}
use Rattle.std.proofs.lemmas.List.Sums.{sum_by-append}
use Rattle.std.proofs.lemmas.Str.Ascii.{IsAscii-nil}
use Rattle.starlark_lexer.specs.Items.{Lexeme, newline, indent, dedent, dedents, comment, keyword_pass, fstring_text, fstring_expr_start, Item, item, Lexed}
use Rattle.starlark_lexer.specs.Lex.{Lex, start}
use Rattle.starlark_lexer.specs.Joining.{is_indent, is_dedent, dedent_item, IsEven}
use Rattle.starlark_lexer.specs.declared.dialect.Dialect.{Dialect}
use Rattle.starlark_grammar.specs.Language.{bare, is_comment, last_end, without_comments, IsViable}
use Rattle.starlark_grammar.proofs.Uncommented.{without_append}
use Rattle.starlark_cutting.specs.Cutting.{blanks_of, indent_item, inner, IsFilledBehind, IsContinued, IsCutAt, IsEnded}
use Rattle.starlark_cutting.specs.Spelling.{Plain, a_name, an_else, an_in, a_pass, a_comma, a_colon, an_equal, an_opening, a_round, a_square, a_curly, a_string, lexeme_of}
use Rattle.starlark_cutting.specs.Opened.{Nest, outside, in_field, in_text, Way, Put, plain, a_letter, field_end, string_end, put_lexeme, put_lexemes, is_text}
use Rattle.starlark_completion.specs.Ending.{Last, no_token, a_line_end, a_dedent, an_indent, another, kind_of, last_of, goes_on_line, at_beginning_of_line, begins_block, copies, Goes, Ending, at_line, before_block, in_block}
use Rattle.starlark_completion.specs.Laws.{Laws}
use Rattle.starlark_completion.specs.Cuts.{Cuts}
use Rattle.starlark_completion.specs.GoesOn.{CanGoOn}
use Rattle.starlark_completion.proofs.Tokens.{kept, tokens_bare, even_with}
use Rattle.starlark_completion.proofs.Cutting.{snoc, last_there, end_there, parted, cut_there, with_comments, way_parts}
use Rattle.starlark_completion.proofs.Going.{blanks_ascii, goes, goes_behind, by_nothing, by_lines, by_block, by_level, by_deeper, by_words}
use Rattle.starlark_completion.proofs.Ended.{viable_block, viable_ends}
use Rattle.starlark_completion.proofs.Closing.{line_closes, text_closes}

-- ---- what is put is no comment

abbrev NoComments : List Lexeme → Type 0
NoComments [] = Unit {0}
NoComments (x ∷ xs) = (is_comment x ≡ false) × NoComments xs

all_kept : (put : List Item) (xs : List Lexeme) → NoComments xs → map (λ (y : Item). y.lexeme) put ≡ xs → without_comments put ≡ put
all_kept [] xs n q = refl
all_kept (y ∷ put) [] n q = absurd (cc)
all_kept (y ∷ put) (x ∷ xs) n q =
    let e : y.lexeme ≡ x = cc in
    let r : map (λ (y : Item). y.lexeme) put ≡ xs = cc in
    kept y (ap is_comment e ∙ n.0) put ∙ ap (λ ys. y ∷ ys) (all_kept put xs n.1 r)

word_kept : (p : Plain) → is_comment (lexeme_of p) ≡ false
word_kept a_name = refl
word_kept an_else = refl
word_kept an_in = refl
word_kept a_pass = refl
word_kept a_comma = refl
word_kept a_colon = refl
word_kept an_equal = refl
word_kept an_opening = refl
word_kept a_round = refl
word_kept a_square = refl
word_kept a_curly = refl
word_kept a_string = refl

put_kept : (p : Put) → is_comment (put_lexeme p) ≡ false
put_kept (plain p) = word_kept p
put_kept a_letter = refl
put_kept field_end = refl
put_kept string_end = refl

puts_kept : (xs : List Put) → NoComments (put_lexemes xs)
puts_kept [] = tt
puts_kept (x ∷ xs) = (put_kept x, puts_kept xs)

-- ---- kinds of tokens

is_inner : (x : Lexeme) → is_comment x ≡ false → kind_of x ≡ another → inner x ≡ true
is_inner newline c q = absurd (cc)
is_inner indent c q = absurd (cc)
is_inner dedent c q = absurd (cc)
is_inner (comment t) c q = absurd (false≢true (sym c))
is_inner _ c q = refl

-- ---- the text up to a token

-- the text of the tokens w and z behind them, which is cut off there
record At (dialect : Dialect) (u v : List ℕ) (before : List Item) (z : Item) (behind : List Item) (w : List Item) : Type 0 where
  cut : IsCutAt u v before z behind
  front : without_comments before ≡ w
  no_comment : is_comment z.lexeme ≡ false
  viable : IsViable dialect (w ++ z ∷ [])

module _ {dialect : Dialect} {u v : List ℕ} {before : List Item} {z : Item} {behind w : List Item} (at : At dialect u v before z behind w) where
  all_front : without_comments (before ++ z ∷ []) ≡ w ++ z ∷ []
  all_front = without_append before (z ∷ []) ∙ ap (λ xs. without_comments before ++ xs) (kept z at.no_comment []) ∙ ap (λ xs. xs ++ z ∷ []) at.front

  kind_there : (k : Last) → kind_of z.lexeme ≡ k → last_of no_token (w ++ z ∷ []) ≡ k
  kind_there k q = last_there no_token w z ∙ q

  ways : (n : Nest) → Way (outside 0) (bare (w ++ z ∷ [])) n → Way (outside 0) (map (λ (y : Item). y.lexeme) (before ++ z ∷ [])) n
  ways n h = with_comments (before ++ z ∷ []) (outside 0) n (subst (λ xs. Way (outside 0) (bare xs) n) (sym all_front) h)

  same_front : bare (without_comments (before ++ z ∷ [])) ≡ bare (w ++ z ∷ [])
  same_front = ap bare all_front

  -- within a line
  in_line : Laws → Cuts → kind_of z.lexeme ≡ another → is_text z.lexeme ≡ false → CanGoOn u (w ++ z ∷ [])
  in_line laws cuts k t =
      let c = line_closes laws dialect (w ++ z ∷ []) at.viable (kind_there another k) in
      let f = cuts.line u v before z behind c.nest c.puts at.cut (is_inner z.lexeme at.no_comment k) t (ways c.nest c.way) c.closes in
      by_words u (before ++ z ∷ []) (w ++ z ∷ []) c.depth same_front c.blocks f.bytes (put_lexemes c.puts) f.ascii (λ put. all_kept put (put_lexemes c.puts) (puts_kept c.puts)) c.goes f.finished

  -- behind a piece of text a field begins
  behind_text : Laws → Cuts → (t : List ℕ) → z.lexeme ≡ fstring_text t → CanGoOn u (w ++ z ∷ [])
  behind_text laws cuts t q =
      let e = item 0 fstring_expr_start 0 in
      let all = w ++ z ∷ [] in
      let c = text_closes laws dialect w z t q at.viable in
      let apart : bare (all ++ e ∷ []) ≡ bare all ++ fstring_expr_start ∷ [] = map-append (λ (y : Item). y.lexeme) all (e ∷ []) in
      let p = way_parts (outside 0) c.nest (bare all) (fstring_expr_start ∷ []) (subst (λ xs. Way (outside 0) xs c.nest) apart c.way) in
      let g = p.1.1.1.0 in
      let n : c.nest ≡ in_field 0 g.0 = sym p.1.1.1.1 ∙ g.1.1 in
      let f = cuts.text u v before z behind t g.0 c.puts at.cut q (ways (in_text g.0) (subst (λ m. Way (outside 0) (bare all) m) g.1.0 p.1.0)) (subst (λ m. Way m (put_lexemes c.puts) (outside 0)) n c.closes) in
      let i : count_by indent_item (all ++ e ∷ []) ≡ count_by indent_item all + 0 = sum_by-append (λ (y : Item). cond (indent_item y) 1 0) all (e ∷ []) in
      let d : count_by dedent_item (all ++ e ∷ []) ≡ count_by dedent_item all + 0 = sum_by-append (λ (y : Item). cond (dedent_item y) 1 0) all (e ∷ []) in
      by_words u (before ++ z ∷ []) all c.depth same_front (omega (arith, i, d, c.blocks)) f.bytes (fstring_expr_start ∷ put_lexemes c.puts) f.ascii (λ put. all_kept put (fstring_expr_start ∷ put_lexemes c.puts) (refl, puts_kept c.puts))
      (λ n. subst Goes (ap (λ xs. xs ++ (put_lexemes c.puts ++ newline ∷ (copies n newline ++ copies c.depth dedent))) apart ∙ append_assoc (bare all) (fstring_expr_start ∷ []) (put_lexemes c.puts ++ newline ∷ (copies n newline ++ copies c.depth dedent))) (c.goes n)) f.finished

  -- behind a line end that the text has
  behind_line : Cuts → z.lexeme ≡ newline → z.end ≡ z.begin + 1 → (depth : ℕ) → count_by indent_item (w ++ z ∷ []) ≡ depth + count_by dedent_item (w ++ z ∷ []) → Ending (w ++ z ∷ []) depth → CanGoOn u (w ++ z ∷ [])
  behind_line cuts nl real depth blocks (at_line q e g) = by_lines u (before ++ z ∷ []) (w ++ z ∷ []) depth same_front blocks g (cuts.closed_line u v before z behind at.cut nl real)
  behind_line cuts nl real depth blocks (before_block q e g) = let d = cuts.deepened u v before z behind at.cut nl real in by_deeper u (before ++ z ∷ []) (w ++ z ∷ []) (suc depth) same_front (w ++ z ∷ []) (indent ∷ keyword_pass ∷ newline ∷ newline ∷ copies (suc depth) dedent) refl (omega (arith, blocks)) g (blanks_of d.spaces) (blanks_ascii d.spaces) d.indented
  behind_line cuts nl real depth blocks (in_block q e g) = by_block u (before ++ z ∷ []) (w ++ z ∷ []) depth same_front blocks g (cuts.filled u v before z behind at.cut nl real)

  -- the whole text, where nothing stands behind but Dedents
  whole : (depth : ℕ) → count_by indent_item (w ++ z ∷ []) ≡ depth + count_by dedent_item (w ++ z ∷ []) → ((n : ℕ) → Goes (bare (w ++ z ∷ []) ++ (copies n newline ++ copies depth dedent))) → IsEnded u v before z behind at.cut.fault → CanGoOn u (w ++ z ∷ [])
  whole depth blocks g d =
      let a : Lex start u (record { items = before ++ z ∷ behind; fault = at.cut.fault }) = subst (λ t. Lex start t (record { items = before ++ z ∷ behind; fault = at.cut.fault })) (ap (λ t. u ++ t) d.whole ∙ append-nil u) at.cut.lex in
      let b : Lex start u (record { items = (before ++ z ∷ []) ++ dedents (length u) d.count; fault = None }) =
      subst (λ l. Lex start u l) (λ i. record { items = (ap (λ ys. before ++ z ∷ ys) d.rest ∙ sym (append_assoc before (z ∷ []) (dedents (length u) d.count))) i; fault = d.no_fault i }) a in
      by_nothing u (before ++ z ∷ []) (w ++ z ∷ []) depth same_front blocks g (length u) d.count d.layout b

  -- the text's end is put behind a line end that it has
  continued : Cuts → z.lexeme ≡ newline → z.end ≡ z.begin → IsEven (w ++ z ∷ []) → IsContinued u (before ++ z ∷ [])
  continued cuts nl none e =
      let f = even_with (before ++ z ∷ []) (subst IsEven (sym all_front) e) in
      cuts.continued u v before z behind at.cut nl none f.strings (ap (λ n. n + 0) f.brackets)

  -- behind the line end of no width at the text's end
  behind_end : Cuts → z.lexeme ≡ newline → z.end ≡ z.begin → (depth : ℕ) → count_by indent_item (w ++ z ∷ []) ≡ depth + count_by dedent_item (w ++ z ∷ []) → Ending (w ++ z ∷ []) depth → CanGoOn u (w ++ z ∷ [])
  behind_end cuts nl none depth blocks (at_line q e g) = whole depth blocks g (cuts.ended_line u v before z behind at.cut nl none)
  behind_end cuts nl none depth blocks (before_block q e g) =
      let k = continued cuts nl none e in
      let same : bare (without_comments (k.before ++ k.z ∷ [])) ≡ bare (w ++ z ∷ []) = sym (tokens_bare (k.before ++ k.z ∷ [])) ∙ k.same ∙ tokens_bare (before ++ z ∷ []) ∙ same_front in
      let d = cuts.deepened (u ++ k.more) [] k.before k.z k.behind k.cut k.line_end k.real in
      goes_behind u k.more (w ++ z ∷ []) k.ascii (by_deeper (u ++ k.more) (k.before ++ k.z ∷ []) (w ++ z ∷ []) (suc depth) same (w ++ z ∷ []) (indent ∷ keyword_pass ∷ newline ∷ newline ∷ copies (suc depth) dedent) refl (omega (arith, blocks)) g (blanks_of d.spaces) (blanks_ascii d.spaces) d.indented)
  behind_end cuts nl none depth blocks (in_block q e g) =
      let k = continued cuts nl none e in
      let same : bare (without_comments (k.before ++ k.z ∷ [])) ≡ bare (w ++ z ∷ []) = sym (tokens_bare (k.before ++ k.z ∷ [])) ∙ k.same ∙ tokens_bare (before ++ z ∷ []) ∙ same_front in
      goes_behind u k.more (w ++ z ∷ []) k.ascii (by_block (u ++ k.more) (k.before ++ k.z ∷ []) (w ++ z ∷ []) depth same blocks g (cuts.filled (u ++ k.more) [] k.before k.z k.behind k.cut k.line_end k.real))

  line_end : Laws → Cuts → z.lexeme ≡ newline → CanGoOn u (w ++ z ∷ [])
  line_end laws cuts nl =
      let c = viable_ends laws dialect (w ++ z ∷ []) at.viable (ap goes_on_line (kind_there a_line_end (ap kind_of nl))) in
      elim (cuts.width u v before z behind at.cut nl) [
        | inl none ↦ behind_end cuts nl none c.depth c.blocks c.ending
        | inr real ↦ behind_line cuts nl real c.depth c.blocks c.ending
      ]

  -- behind an Indent: a line of that width
  behind_indent : Cuts → z.lexeme ≡ indent → (depth : ℕ) → count_by indent_item (w ++ z ∷ []) ≡ depth + count_by dedent_item (w ++ z ∷ []) → Ending (w ++ z ∷ []) depth → CanGoOn u (w ++ z ∷ [])
  behind_indent cuts i depth blocks (at_line q e g) = absurd (false≢true (ap at_beginning_of_line (sym (kind_there an_indent (ap kind_of i))) ∙ q))
  behind_indent cuts i depth blocks (before_block q e g) = let h : an_indent ≡ a_line_end = sym (kind_there an_indent (ap kind_of i)) ∙ q in absurd (cc)
  behind_indent cuts i depth blocks (in_block q e g) =
      let apart : bare (w ++ z ∷ []) ≡ bare w ++ indent ∷ [] = map-append (λ (y : Item). y.lexeme) w (z ∷ []) ∙ ap (λ x. bare w ++ x ∷ []) i in
      let a : count_by indent_item (w ++ z ∷ []) ≡ count_by indent_item w + 1 = sum_by-append (λ (y : Item). cond (indent_item y) 1 0) w (z ∷ []) ∙ ap (λ x. count_by indent_item w + (0 + cond (is_indent x) 1 0)) i in
      let b : count_by dedent_item (w ++ z ∷ []) ≡ count_by dedent_item w + 0 = sum_by-append (λ (y : Item). cond (dedent_item y) 1 0) w (z ∷ []) ∙ ap (λ x. count_by dedent_item w + (0 + cond (is_dedent x) 1 0)) i in
      let parts : (xs : List Lexeme) → bare (w ++ z ∷ []) ++ xs ≡ bare w ++ indent ∷ xs = λ xs. ap (λ ys. ys ++ xs) apart ∙ append_assoc (bare w) (indent ∷ []) xs in
      by_deeper u before w depth (ap bare at.front) (w ++ z ∷ []) (keyword_pass ∷ newline ∷ newline ∷ copies depth dedent) (parts (keyword_pass ∷ newline ∷ newline ∷ copies depth dedent)) (omega (arith, a, b, blocks))
      (λ n. subst Goes (parts (keyword_pass ∷ newline ∷ (copies n newline ++ copies depth dedent))) (g n))
      (32 ∷ []) (blanks_ascii 1) (cuts.indented u v before z behind at.cut i)

  -- behind a Dedent
  no_bytes : (t : List ℕ) → (t ≡ []) ⊎ (0 < length t)
  no_bytes [] = inl refl
  no_bytes (b ∷ t) = inr (omega arith)

  behind_block : Laws → z.lexeme ≡ dedent → IsFilledBehind u (before ++ z ∷ []) → CanGoOn u (w ++ z ∷ [])
  behind_block laws d f = let c = viable_block laws dialect w z d at.viable in by_level u (before ++ z ∷ []) (w ++ z ∷ []) c.depth same_front c.blocks c.goes f

  at_the_end : Cuts → z.lexeme ≡ dedent → v ≡ [] → (depth : ℕ) → count_by indent_item (w ++ z ∷ []) ≡ depth + count_by dedent_item (w ++ z ∷ []) → Ending (w ++ z ∷ []) depth → CanGoOn u (w ++ z ∷ [])
  at_the_end cuts d nil depth blocks (at_line q e g) = whole depth blocks g (cuts.ended_dedent u v before z behind at.cut d nil)
  at_the_end cuts d nil depth blocks (before_block q e g) = let h : a_dedent ≡ a_line_end = sym (kind_there a_dedent (ap kind_of d)) ∙ q in absurd (cc)
  at_the_end cuts d nil depth blocks (in_block q e g) = absurd (false≢true (ap begins_block (sym (kind_there a_dedent (ap kind_of d))) ∙ q))

  behind_dedent : Laws → Cuts → z.lexeme ≡ dedent → CanGoOn u (w ++ z ∷ [])
  behind_dedent laws cuts d = elim (no_bytes v) [
    | inl nil ↦ let c = viable_ends laws dialect (w ++ z ∷ []) at.viable (ap goes_on_line (kind_there a_dedent (ap kind_of d))) in at_the_end cuts d nil c.depth c.blocks c.ending
    | inr some ↦ behind_block laws d (cuts.filled_dedent u v before z behind at.cut d some)
  ]

  -- behind any token
  by_kind : Laws → Cuts → (x : Lexeme) → z.lexeme ≡ x → CanGoOn u (w ++ z ∷ [])
  by_kind laws cuts newline q = line_end laws cuts q
  by_kind laws cuts indent q = let c = viable_ends laws dialect (w ++ z ∷ []) at.viable (ap goes_on_line (kind_there an_indent (ap kind_of q))) in behind_indent cuts q c.depth c.blocks c.ending
  by_kind laws cuts dedent q = behind_dedent laws cuts q
  by_kind laws cuts (fstring_text t) q = behind_text laws cuts t q
  by_kind laws cuts x q = in_line laws cuts (ap kind_of q) (ap is_text q)

-- ---- the whole

behind_none : Laws → Cuts → (dialect : Dialect) → IsViable dialect [] → CanGoOn [] []
behind_none laws cuts dialect i =
    let c = viable_ends laws dialect [] i refl in
    by c.depth c.blocks c.ending
  where
    by : (depth : ℕ) → 0 ≡ depth + 0 → Ending [] depth → CanGoOn [] []
    by depth blocks (at_line q e g) =
        let zero_depth : depth ≡ 0 = omega (arith, blocks) in
        goes [] [] (item 0 newline 0 ∷ []) [] (newline ∷ []) IsAscii-nil cuts.empty refl (subst (λ n. Goes (newline ∷ copies n dedent)) zero_depth (g 1))
    by depth blocks (before_block q e g) = let h : no_token ≡ a_line_end = q in absurd (cc)
    by depth blocks (in_block q e g) = absurd (false≢true q)

-- tokens with which a program begins, read from a text, go on in that text
pub can_go_on : Laws → Cuts → (dialect : Dialect) (text : List ℕ) (l : Lexed) (w rest : List Item) → Lex start text l → w ++ rest ≡ without_comments l.items → IsViable dialect w → CanGoOn (take (last_end 0 w) text) w
can_go_on laws cuts dialect text l w rest lex q i = by (snoc w)
  where
    by : (w ≡ []) ⊎ ((b : List Item) × ((z : Item) × (w ≡ b ++ z ∷ []))) → CanGoOn (take (last_end 0 w) text) w
    by (inl nil) = subst (λ x. CanGoOn (take (last_end 0 x) text) x) (sym nil) (behind_none laws cuts dialect (subst (IsViable dialect) nil i))
    by (inr (b, (z, h))) =
        let p = parted l.items b z rest (sym q ∙ ap (λ xs. xs ++ rest) h ∙ append_assoc b (z ∷ []) rest) in
        let c = cut_there text l lex (cuts.order text l lex) p.before z p.behind p.is in
        let at : At dialect (take z.end text) (drop z.end text) p.before z p.behind b = record { cut = c; front = p.front; no_comment = p.no_comment; viable = subst (IsViable dialect) h i } in
        subst (λ x. CanGoOn (take (last_end 0 x) text) x) (sym h) (subst (λ n. CanGoOn (take n text) (b ++ z ∷ [])) (sym (end_there 0 b z)) (by_kind at laws cuts z.lexeme refl))
