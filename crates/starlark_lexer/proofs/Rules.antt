-- Each rule says what the machine does, and some rule holds at each place.
use Rattle.std.proofs.Common.{◌≡◌, ◌<◌, ◌≤◌, ℕ, ◌+◌, ◌-◌, Bool, true, false, cond, not, ◌&&◌, List, [], ◌∷◌, ◌++◌, length, take, drop, get_or, refl, ap, sym, ◌∙◌, arith, zero, suc, inl, inr, eqb, ltb, leb, subst, one-add, add-zero, length-drop, eq-eqb}
use Rattle.std.specs.Prelude.{count_by, ◌⊎◌, Option, Some}
use Rattle.std.proofs.lemmas.Bool.{cases_Bool, false≢true, cases_lt, eqb-true, or_parts, ne_eqb}
use Rattle.std.proofs.lemmas.Bool.Decides.{nat_tests}
use Rattle.std.proofs.lemmas.List.{drop_all}
use Rattle.std.proofs.lemmas.List.Sums.{prefix_len-le-length, sum_by-cons}
use Rattle.std.specs.List.{filter}
use Rattle.starlark_lexer.specs.declared.scan.Kind.{Kind}
use Rattle.starlark_lexer.specs.declared.scan.Kind.TheVariants as kind
use Rattle.starlark_lexer.specs.declared.scan.Found.{Found}
use Rattle.starlark_lexer.specs.declared.scan.Found.TheVariants as found
use Rattle.starlark_lexer.specs.declared.scan.State.{State}
use Rattle.starlark_lexer.specs.declared.scan.Mode.{Mode}
use Rattle.starlark_lexer.specs.declared.scan.Mode.TheVariants as mode
use Rattle.starlark_lexer.specs.Depth.{Bracket, IsDepth, deeper}
use Rattle.starlark_lexer.proofs.Depth.{depth_in, depth_is, one_depth}
use Rattle.starlark_lexer.specs.declared.scan.Turn.{Turn}
use Rattle.starlark_lexer.specs.declared.scan.Turn.TheVariants as turns
use Rattle.starlark_lexer.specs.declared.token.LexemeError.{LexemeError}
use Rattle.starlark_lexer.specs.declared.token.LexemeError.TheVariants.{Indentation, InvalidTab, UnfinishedStringLiteral, InvalidEscapeSequence}
use Rattle.starlark_lexer.specs.declared.words.Operator.{Operator}
use Rattle.starlark_lexer.specs.declared.literal.Form.{Form}
use Rattle.starlark_lexer.specs.declared.literal.Sort.{Sort}
use Rattle.starlark_lexer.specs.declared.literal.Sort.TheVariants as sort
use Rattle.starlark_lexer.specs.declared.literal.Ending.{Ending}
use Rattle.starlark_lexer.specs.declared.literal.Ending.TheVariants as ending
use Rattle.starlark_lexer.specs.Literals.{body, quotes, is_format, value}
use Rattle.starlark_lexer.specs.declared.words.Keyword.{Keyword}
use Rattle.starlark_lexer.specs.declared.words.Keyword.TheVariants as keyword
use Rattle.starlark_lexer.specs.declared.words.Operator.TheVariants as operator
use Rattle.starlark_lexer.specs.Items as Items
use Rattle.starlark_lexer.specs.Items.{Lexeme, keyword_lexeme, newline, comment, fstring_start, fstring_text, fstring_expr_start, fstring_expr_end, fstring_bang, fstring_end, Item, item, nothing, with_items, with_fault, is_opening, is_closing, operator_lexeme, opening_item, closing_item, dedents, newline_span}
use Rattle.starlark_lexer.specs.Classes.{Meaning, token, refused, opens, meaning, is_blank, leading, blanks, has_tab, spaces, width, is_open, line_end, line_len, escaped, closes_field, IsLexeme}
use Rattle.starlark_lexer.specs.Widths.{IsOpen, IsDeeper, Closes}
use Rattle.starlark_lexer.specs.Lex as rules
use Rattle.starlark_lexer.specs.Lex.{Past, Move, on, over, gives, refuses, deepened, fitted, ends, moved, IsBalanced, IsMeasured, Step, literal_lexeme}
use Rattle.starlark_lexer.specs.Scan.{At, Act, goes, stops, act, skip, goes_by, here, text_turn, literal_turn, opens_turn, in_text, at_ground, joined_in, turned, last_mode, field_of, body_of, begin_of, scan, turn_of, line_from, line_turn, fits, kept, step, pass, is_joined, after, bit, closes, is_newline, lexeme_from}
use Rattle.starlark_lexer.specs.Scan as scans
use Rattle.starlark_lexer.proofs.Longest.{Scanned}
use Rattle.starlark_lexer.proofs.Scanned.{scan_lexeme, is_passed, passed_none}
use Rattle.starlark_lexer.proofs.Bodies.{field_format}
use Rattle.starlark_lexer.proofs.Modes.{last_more, take_more}
use Rattle.starlark_lexer.proofs.Machine.{step_fresh, step_within, step_text}
use Rattle.starlark_lexer.proofs.Widths as widths
use Rattle.starlark_lexer.proofs.Widths.{IsStack}
use Rattle.starlark_lexer.proofs.Stacks.{kept_filter, closes_count, none_above, same_closes}
use Rattle.starlark_lexer.proofs.Options.{none_some}
use Rattle.starlark_lexer.proofs.Dedents.{dedents_opened, dedents_closed, dedents_span}

abbrev pub mode_of : rules.Mode → Mode
mode_of rules.code = mode.Code
mode_of (rules.inside b g) = mode.Inside b g
mode_of (rules.field b g bs) = mode.Field b g (depth_in bs)

-- the code keeps the innermost last
abbrev pub outer_of : List rules.Mode → List Mode
outer_of [] = []
outer_of (m ∷ ms) = outer_of ms ++ mode_of m ∷ []

abbrev pub state_of : Past → State
state_of p = record { mode = mode_of p.mode; place = p.place; opened = count_by opening_item p.items; closed = count_by closing_item p.items; line_begin = (newline_span p.items).0; line_end = (newline_span p.items).1; fresh = p.fresh }

abbrev pub at : Past → List ℕ → List ℕ → At
at p ws rest = record { state = state_of p; widths = ws; outer = outer_of p.outer; rest = rest }

-- what the rules do and what the machine does
abbrev pub Same : Move → Act → Type 0
Same (on xs q more) (goes ys d) = (xs ≡ ys) × ((ws : List ℕ) × (IsStack q.lines ws × (d ≡ at q ws more)))
Same (over l) (stops m) = l ≡ m
Same (on xs q more) (stops m) = ⊥
Same (over l) (goes ys d) = ⊥

bit_opening : (t : Bool) (o : Lexeme) (i j : ℕ) (xs : List Item) → is_opening o ≡ t → count_by opening_item xs + bit t ≡ count_by opening_item (item i o j ∷ xs)
bit_opening true o i j xs e = let f : cond {A = ℕ} (is_opening o) 1 0 ≡ 1 = rw e refl in omega (arith, f, sum_by-cons (λ y. cond (opening_item y) 1 0) (item i o j) xs)
bit_opening false o i j xs e = rw e (omega arith)

bit_closing : (t : Bool) (o : Lexeme) (i j : ℕ) (xs : List Item) → is_closing o ≡ t → count_by closing_item xs + bit t ≡ count_by closing_item (item i o j ∷ xs)
bit_closing true o i j xs e = let f : cond {A = ℕ} (is_closing o) 1 0 ≡ 1 = rw e refl in omega (arith, f, sum_by-cons (λ y. cond (closing_item y) 1 0) (item i o j) xs)
bit_closing false o i j xs e = rw e (omega arith)

-- no lexeme of a literal is a bracket or a line end
record IsQuiet (x : Lexeme) : Type 0 where
  opening : is_opening x ≡ false
  closing : is_closing x ≡ false
  line : Items.is_newline x ≡ false

literal_quiet : (t : Sort) (v : List ℕ) → IsQuiet (literal_lexeme t v)
literal_quiet sort.Text v = record { opening = refl; closing = refl; line = refl }
literal_quiet sort.Bytes v = record { opening = refl; closing = refl; line = refl }
literal_quiet sort.Format v = record { opening = refl; closing = refl; line = refl }

keyword_quiet : (k : Keyword) → IsQuiet (keyword_lexeme k)
keyword_quiet keyword.And = record { opening = refl; closing = refl; line = refl }
keyword_quiet keyword.Break = record { opening = refl; closing = refl; line = refl }
keyword_quiet keyword.Continue = record { opening = refl; closing = refl; line = refl }
keyword_quiet keyword.Def = record { opening = refl; closing = refl; line = refl }
keyword_quiet keyword.Elif = record { opening = refl; closing = refl; line = refl }
keyword_quiet keyword.Else = record { opening = refl; closing = refl; line = refl }
keyword_quiet keyword.For = record { opening = refl; closing = refl; line = refl }
keyword_quiet keyword.If = record { opening = refl; closing = refl; line = refl }
keyword_quiet keyword.In = record { opening = refl; closing = refl; line = refl }
keyword_quiet keyword.Lambda = record { opening = refl; closing = refl; line = refl }
keyword_quiet keyword.Load = record { opening = refl; closing = refl; line = refl }
keyword_quiet keyword.Not = record { opening = refl; closing = refl; line = refl }
keyword_quiet keyword.Or = record { opening = refl; closing = refl; line = refl }
keyword_quiet keyword.Pass = record { opening = refl; closing = refl; line = refl }
keyword_quiet keyword.Return = record { opening = refl; closing = refl; line = refl }

opened_more : (k : Kind) (w : List ℕ) (i j : ℕ) (xs : List Item) → count_by opening_item xs + scans.opens k ≡ count_by opening_item (item i (lexeme_from k w) j ∷ xs)
opened_more (kind.Operator o) w i j xs = bit_opening (is_opening (operator_lexeme o)) (operator_lexeme o) i j xs refl
opened_more (kind.Literal g n m) w i j xs = bit_opening false (lexeme_from (kind.Literal g n m) w) i j xs (literal_quiet g.sort (value g (take m (drop n w)))).opening
opened_more (kind.Keyword q) w i j xs = bit_opening false (keyword_lexeme q) i j xs (keyword_quiet q).opening
opened_more kind.Newline w i j xs = omega arith
opened_more kind.Comment w i j xs = omega arith
opened_more kind.Word w i j xs = omega arith
opened_more (kind.Int f r) w i j xs = omega arith
opened_more kind.Float w i j xs = omega arith
opened_more (kind.Text g) w i j xs = omega arith
opened_more kind.Bang w i j xs = omega arith

closed_more : (k : Kind) (w : List ℕ) (i j : ℕ) (xs : List Item) → count_by closing_item xs + closes k ≡ count_by closing_item (item i (lexeme_from k w) j ∷ xs)
closed_more (kind.Operator o) w i j xs = bit_closing (is_closing (operator_lexeme o)) (operator_lexeme o) i j xs refl
closed_more (kind.Literal g n m) w i j xs = bit_closing false (lexeme_from (kind.Literal g n m) w) i j xs (literal_quiet g.sort (value g (take m (drop n w)))).closing
closed_more (kind.Keyword q) w i j xs = bit_closing false (keyword_lexeme q) i j xs (keyword_quiet q).closing
closed_more kind.Newline w i j xs = omega arith
closed_more kind.Comment w i j xs = omega arith
closed_more kind.Word w i j xs = omega arith
closed_more (kind.Int f r) w i j xs = omega arith
closed_more kind.Float w i j xs = omega arith
closed_more (kind.Text g) w i j xs = omega arith
closed_more kind.Bang w i j xs = omega arith

span_quiet : (x : Lexeme) (i j : ℕ) (xs : List Item) → Items.is_newline x ≡ false → ((newline_span xs).0 ≡ (newline_span (item i x j ∷ xs)).0) × ((newline_span xs).1 ≡ (newline_span (item i x j ∷ xs)).1)
span_quiet x i j xs e = (rw e refl, rw e refl)

operator_quiet : (o : Operator) → Items.is_newline (operator_lexeme o) ≡ false
operator_quiet operator.Comma = refl
operator_quiet operator.Semicolon = refl
operator_quiet operator.Colon = refl
operator_quiet operator.Equal = refl
operator_quiet operator.PlusEqual = refl
operator_quiet operator.MinusEqual = refl
operator_quiet operator.StarEqual = refl
operator_quiet operator.SlashEqual = refl
operator_quiet operator.SlashSlashEqual = refl
operator_quiet operator.PercentEqual = refl
operator_quiet operator.AmpersandEqual = refl
operator_quiet operator.PipeEqual = refl
operator_quiet operator.CaretEqual = refl
operator_quiet operator.LessLessEqual = refl
operator_quiet operator.GreaterGreaterEqual = refl
operator_quiet operator.EqualEqual = refl
operator_quiet operator.BangEqual = refl
operator_quiet operator.LessThan = refl
operator_quiet operator.GreaterThan = refl
operator_quiet operator.LessEqual = refl
operator_quiet operator.GreaterEqual = refl
operator_quiet operator.Plus = refl
operator_quiet operator.Minus = refl
operator_quiet operator.Star = refl
operator_quiet operator.StarStar = refl
operator_quiet operator.Slash = refl
operator_quiet operator.SlashSlash = refl
operator_quiet operator.Percent = refl
operator_quiet operator.Ampersand = refl
operator_quiet operator.Pipe = refl
operator_quiet operator.Caret = refl
operator_quiet operator.LessLess = refl
operator_quiet operator.GreaterGreater = refl
operator_quiet operator.Tilde = refl
operator_quiet operator.Dot = refl
operator_quiet operator.Ellipsis = refl
operator_quiet operator.MinusGreater = refl
operator_quiet operator.OpeningRound = refl
operator_quiet operator.ClosingRound = refl
operator_quiet operator.OpeningSquare = refl
operator_quiet operator.ClosingSquare = refl
operator_quiet operator.OpeningCurly = refl
operator_quiet operator.ClosingCurly = refl

span_more : (k : Kind) (w : List ℕ) (i j : ℕ) (xs : List Item) → (cond (is_newline k) i (newline_span xs).0 ≡ (newline_span (item i (lexeme_from k w) j ∷ xs)).0) × (cond (is_newline k) j (newline_span xs).1 ≡ (newline_span (item i (lexeme_from k w) j ∷ xs)).1)
span_more (kind.Operator o) w i j xs = span_quiet (operator_lexeme o) i j xs (operator_quiet o)
span_more (kind.Literal g n m) w i j xs = span_quiet (lexeme_from (kind.Literal g n m) w) i j xs (literal_quiet g.sort (value g (take m (drop n w)))).line
span_more (kind.Keyword q) w i j xs = span_quiet (keyword_lexeme q) i j xs (keyword_quiet q).line
span_more kind.Newline w i j xs = (refl, refl)
span_more kind.Comment w i j xs = (refl, refl)
span_more kind.Word w i j xs = (refl, refl)
span_more (kind.Int f r) w i j xs = (refl, refl)
span_more kind.Float w i j xs = (refl, refl)
span_more (kind.Text g) w i j xs = (refl, refl)
span_more kind.Bang w i j xs = (refl, refl)

bracket_quiet : (x : Lexeme) (d : ℕ) → IsQuiet x → d + 0 - 0 ≡ deeper (rules.bracket_of x) d
bracket_quiet x d h = rw (h.opening, h.closing) (omega arith)

bracket_operator : (x : Lexeme) (d : ℕ) → (is_opening x && is_closing x) ≡ false → d + bit (is_opening x) - bit (is_closing x) ≡ deeper (rules.bracket_of x) d
bracket_operator x d h =
    elim (cases_Bool (is_opening x)) [
      | inl o ↦ let c : is_closing x ≡ false = sym (ap (λ t. t && is_closing x) o) ∙ h in rw (o, c) (omega arith)
      | inr o ↦ elim (cases_Bool (is_closing x)) [ inl c ↦ rw (o, c) (omega arith) | inr c ↦ rw (o, c) (omega arith) ]
    ]

never_both : (o : Operator) → (is_opening (operator_lexeme o) && is_closing (operator_lexeme o)) ≡ false
never_both operator.Comma = refl
never_both operator.Semicolon = refl
never_both operator.Colon = refl
never_both operator.Equal = refl
never_both operator.PlusEqual = refl
never_both operator.MinusEqual = refl
never_both operator.StarEqual = refl
never_both operator.SlashEqual = refl
never_both operator.SlashSlashEqual = refl
never_both operator.PercentEqual = refl
never_both operator.AmpersandEqual = refl
never_both operator.PipeEqual = refl
never_both operator.CaretEqual = refl
never_both operator.LessLessEqual = refl
never_both operator.GreaterGreaterEqual = refl
never_both operator.EqualEqual = refl
never_both operator.BangEqual = refl
never_both operator.LessThan = refl
never_both operator.GreaterThan = refl
never_both operator.LessEqual = refl
never_both operator.GreaterEqual = refl
never_both operator.Plus = refl
never_both operator.Minus = refl
never_both operator.Star = refl
never_both operator.StarStar = refl
never_both operator.Slash = refl
never_both operator.SlashSlash = refl
never_both operator.Percent = refl
never_both operator.Ampersand = refl
never_both operator.Pipe = refl
never_both operator.Caret = refl
never_both operator.LessLess = refl
never_both operator.GreaterGreater = refl
never_both operator.Tilde = refl
never_both operator.Dot = refl
never_both operator.Ellipsis = refl
never_both operator.MinusGreater = refl
never_both operator.OpeningRound = refl
never_both operator.ClosingRound = refl
never_both operator.OpeningSquare = refl
never_both operator.ClosingSquare = refl
never_both operator.OpeningCurly = refl
never_both operator.ClosingCurly = refl

bracket_more : (k : Kind) (w : List ℕ) (d : ℕ) → d + scans.opens k - closes k ≡ deeper (rules.bracket_of (lexeme_from k w)) d
bracket_more (kind.Operator o) w d = bracket_operator (operator_lexeme o) d (never_both o)
bracket_more (kind.Literal g n m) w d = bracket_quiet (lexeme_from (kind.Literal g n m) w) d (literal_quiet g.sort (value g (take m (drop n w))))
bracket_more (kind.Keyword q) w d = bracket_quiet (keyword_lexeme q) d (keyword_quiet q)
bracket_more kind.Newline w d = omega arith
bracket_more kind.Comment w d = omega arith
bracket_more kind.Word w d = omega arith
bracket_more (kind.Int f r) w d = omega arith
bracket_more kind.Float w d = omega arith
bracket_more (kind.Text g) w d = omega arith
bracket_more kind.Bang w d = omega arith

-- the state behind a lexeme, in each mode
after_same : (m : rules.Mode) (place : ℕ) (items : List Item) (s : ℕ) (k : Kind) (w : List ℕ) (n next : ℕ) (f : Bool) (lines : List ℕ) (os : List rules.Mode) (g : Bool)
    → (let p : Past = record { place = place; items = items; lines = lines; fresh = g; mode = m; outer = os } in
    let it = item (place + s) (lexeme_from k w) (place + s + n) in
    let q : Past = record { place = place + next; items = rules.recorded m it items; lines = lines; fresh = f; mode = rules.mode_behind m (lexeme_from k w); outer = os } in
    after (state_of p) s k n next f ≡ state_of q)
after_same rules.code place items s k w n next f lines os g =
    let i = place + s in
    let j = place + s + n in
    let o = opened_more k w i j items in
    let c = closed_more k w i j items in
    let l = span_more k w i j items in
    λ d. record { place = place + next; opened = o d; closed = c d; line_begin = l.0 d; line_end = l.1 d; fresh = f; mode = mode.Code }
after_same (rules.inside b h) place items s k w n next f lines os g = refl
after_same (rules.field b h bs) place items s k w n next f lines os g =
    let e = bracket_more k w (depth_in bs) in
    λ d. record { place = place + next; opened = count_by opening_item items; closed = count_by closing_item items; line_begin = (newline_span items).0; line_end = (newline_span items).1; fresh = f; mode = mode.Field b h (e d) }

gives_kind : (p : Past) (ws rest : List ℕ) (s : ℕ) (k : Kind) (n next : ℕ) (f : Bool) → IsStack p.lines ws
    → Same (gives p s (lexeme_from k (take n (drop s rest))) n next f rest) (act (turns.Gives s k n next f) (at p ws rest))
gives_kind p ws rest s k n next f stack =
    let same = after_same p.mode p.place p.items s k (take n (drop s rest)) n next f p.lines p.outer p.fresh in
    (refl, (ws, (stack, λ d. record { state = same d; widths = ws; outer = outer_of p.outer; rest = drop next rest })))

gives_same : (p : Past) (ws rest : List ℕ) (s : ℕ) (k : Kind) (n next : ℕ) (f : Bool) (x : Lexeme) → IsStack p.lines ws → lexeme_from k (take n (drop s rest)) ≡ x
    → Same (gives p s x n next f rest) (act (turns.Gives s k n next f) (at p ws rest))
gives_same p ws rest s k n next f x stack e = subst (λ y. Same (gives p s y n next f rest) (act (turns.Gives s k n next f) (at p ws rest))) e (gives_kind p ws rest s k n next f stack)

-- ---- by the way that the machine takes

code_mode : (m : rules.Mode) → rules.is_inside m ≡ false → in_text (mode_of m) ≡ false
code_mode rules.code h = refl
code_mode (rules.inside b g) h = absurd (false≢true (sym h))
code_mode (rules.field b g bs) h = refl

module _ (p : Past) (ws rest : List ℕ) (m : Move) where
  by_line : p.fresh ≡ true → (t : Turn) → line_turn ws rest ≡ t → Same m (act t (at p ws rest)) → Same m (step (at p ws rest))
  by_line f t e h = subst (Same m) (sym (step_fresh (at p ws rest) f ∙ ap (λ t. act t (at p ws rest)) e)) h

  by_pass : p.fresh ≡ false → rules.is_inside p.mode ≡ false → (n : ℕ) → pass (is_joined (state_of p)) rest ≡ suc n → Same m (goes [] (skip (suc n) (at p ws rest))) → Same m (step (at p ws rest))
  by_pass f c n e h = subst (Same m) (sym (step_within (at p ws rest) f (code_mode p.mode c) ∙ ap (λ k. goes_by k (at p ws rest)) e)) h

  by_here : p.fresh ≡ false → rules.is_inside p.mode ≡ false → pass (is_joined (state_of p)) rest ≡ 0 → (t : Turn) → here (mode_of p.mode) rest ≡ t → Same m (act t (at p ws rest)) → Same m (step (at p ws rest))
  by_here f c none t e h = subst (Same m) (sym (step_within (at p ws rest) f (code_mode p.mode c) ∙ ap (λ k. goes_by k (at p ws rest)) none ∙ ap (λ t. act t (at p ws rest)) e)) h

  by_text : p.fresh ≡ false → (b : ℕ) (g : Form) → p.mode ≡ rules.inside b g → (x : Ending) → body g 0 rest ≡ x → Same m (act (text_turn g x) (at p ws rest)) → Same m (step (at p ws rest))
  by_text f b g c x e h = subst (Same m) (sym (step_text (at p ws rest) f b g (ap mode_of c) ∙ ap (λ x. act (text_turn g x) (at p ws rest)) e)) h

skip_same : (p : Past) (ws rest more : List ℕ) (n : ℕ) → IsStack p.lines ws → drop n rest ≡ more → Same (on [] (moved p n) more) (goes [] (skip n (at p ws rest)))
skip_same p ws rest more n stack e = (refl, (ws, (stack, λ d. record { state = state_of (moved p n); widths = ws; outer = outer_of p.outer; rest = e d })))

-- ---- line by line

no_widths : (p : Past) (ws rest closed : List ℕ) (i z : ℕ) → IsStack p.lines ws → Closes p.lines 0 closed → i ≡ p.place + length rest → Same (ends i (length closed)) (act (turns.End z) (at p ws rest))
no_widths p ws rest closed i z stack c e =
    let all : length ws ≡ length closed = same_closes p.lines 0 ws closed (record { once = stack.once; each = stack.each }) c in
    λ d. with_items (item (e d) newline (e d) ∷ dedents (e d) (sym all d)) nothing

line_lf : (ws bl more : List ℕ) (g : ℕ) → line_from ws bl g (10 ∷ more) ≡ turns.Gives g kind.Newline 1 (g + 1) true
unfolding line_from
line_lf ws bl more g = refl

line_remark : (ws bl more : List ℕ) (g : ℕ) → line_from ws bl g (35 ∷ more) ≡ turns.Gives g kind.Comment (1 + line_len more) (g + (1 + line_len more) + line_end (drop (line_len more) more)) true
unfolding line_from
line_remark ws bl more g = refl

line_none : (ws bl : List ℕ) (g : ℕ) → line_from ws bl g [] ≡ turns.End g
unfolding line_from
line_none ws bl g = refl

line_more : (ws bl more : List ℕ) (g b : ℕ) → (b ≡ 10 → ⊥) → (b ≡ 35 → ⊥) → line_from ws bl g (b ∷ more) ≡ cond (has_tab bl) (turns.Tab g) (fits ws (spaces bl) g)
unfolding line_from
line_more ws bl more g b h1 h2 = let e1 = ne_eqb b 10 h1 in let e2 = ne_eqb b 35 h2 in rw (e1, e2) refl

fits_open : (ws : List ℕ) (w g : ℕ) → is_open ws w ≡ true → fits ws w g ≡ turns.Fits (kept ws w) g
unfolding fits
fits_open ws w g h = rw h refl

fits_deeper : (ws : List ℕ) (w g : ℕ) → is_open ws w ≡ false → eqb (kept ws w) (length ws) ≡ true → fits ws w g ≡ turns.Deeper w g
unfolding fits
fits_deeper ws w g h k = rw (h, k) refl

fits_not : (ws : List ℕ) (w g : ℕ) → is_open ws w ≡ false → eqb (kept ws w) (length ws) ≡ false → fits ws w g ≡ turns.Fault 0 Indentation g
unfolding fits
fits_not ws w g h k = rw (h, k) refl

remark_text : (m : ℕ) (more rest : List ℕ) (s : ℕ) → drop s rest ≡ 35 ∷ more → lexeme_from kind.Comment (take (1 + m) (drop s rest)) ≡ comment (take m more)
remark_text m more rest s e = ap (λ xs. comment (drop 1 (take (1 + m) xs))) e ∙ ap (λ k. comment (drop 1 (take k (35 ∷ more)))) (one-add m)

-- ---- the widths

module _ (p : Past) (ws rest : List ℕ) (stack : IsStack p.lines ws) where
  deepened_same : (w g : ℕ) → is_open ws w ≡ false → kept ws w ≡ length ws → Same (deepened p w g rest) (act (turns.Deeper w g) (at p ws rest))
  deepened_same w g shut all =
      (refl, (ws ++ w ∷ [], (widths.pushed p.lines ws stack w (λ i z. none_above ws w stack.once all z i) shut, refl)))

  fitted_at : (vs : List ℕ) (n w g : ℕ) → (let q : Past = record { place = p.place + g; items = dedents p.place n ++ p.items; lines = w ∷ p.lines; fresh = false; mode = p.mode; outer = p.outer } in let d : At = record { state = (skip g (at p ws rest)).state; widths = vs; outer = outer_of p.outer; rest = drop g rest } in at q vs (drop g rest) ≡ d)
  fitted_at vs n w g =
      let o = dedents_opened p.place n p.items in
      let c = dedents_closed p.place n p.items in
      let l = dedents_span p.place n p.items in
      λ d. record { state = record { place = p.place + g; opened = o d; closed = c d; line_begin = (l d).0; line_end = (l d).1; fresh = false; mode = mode_of p.mode }; widths = vs; outer = outer_of p.outer; rest = drop g rest }

  fitted_same : (w g : ℕ) (closed : List ℕ) → is_open ws w ≡ true → Closes p.lines w closed → Same (fitted p w (length closed) g rest) (act (turns.Fits (kept ws w) g) (at p ws rest))
  fitted_same w g closed o c =
      let count : length ws - kept ws w ≡ length closed = closes_count p.lines ws w stack (widths.closes p.lines ws stack w) closed c in
      (ap (dedents p.place) (sym count), (take (kept ws w) ws, (subst (IsStack (w ∷ p.lines)) (sym (kept_filter ws w stack.once)) (widths.kept p.lines ws stack w o), sym (fitted_at (take (kept ws w) ws) (length closed) w g))))

-- ---- within a line

pass_blank : (j : Bool) (b : ℕ) (bs : List ℕ) → is_blank b ≡ true → pass j (b ∷ bs) ≡ 1
unfolding pass
pass_blank j b bs h = rw h refl

pass_line : (j : Bool) (bs : List ℕ) → pass j (10 ∷ bs) ≡ cond j 1 0
unfolding pass
pass_line j bs = refl

pass_remark : (j : Bool) (bs : List ℕ) → pass j (35 ∷ bs) ≡ 0
unfolding pass
pass_remark j bs = refl

pass_nil : (j : Bool) → pass j [] ≡ 0
unfolding pass
pass_nil j = refl

-- an escaped line end, and none
pass_escape : (j : Bool) (xs : List ℕ) → 0 < escaped xs → pass j xs ≡ escaped xs
unfolding pass escaped
pass_escape j [] = λ h. absurd (omega arith)
pass_escape j (b ∷ bs) =
    elim (cases_Bool (eqb b 92)) [
      | inr e ↦ rw e (λ h. absurd (omega arith))
      | inl e ↦
          let k : is_blank b ≡ false = grind (arith, nat_tests) in
          let l : eqb b 10 ≡ false = grind (arith, nat_tests) in
          elim (cases_Bool (ltb 0 (line_end bs))) [
            | inl t ↦ let z : eqb (line_end bs) 0 ≡ false = grind (arith, nat_tests) in rw (e, k, l, t, z) (λ h. refl)
            | inr t ↦ rw (e, t) (λ h. absurd (omega arith))
          ]
    ]

pass_none : (j : Bool) (b : ℕ) (bs : List ℕ) → escaped (b ∷ bs) ≡ 0 → is_blank b ≡ false → eqb b 10 ≡ false → pass j (b ∷ bs) ≡ 0
unfolding pass escaped
pass_none j b bs h k l =
    elim (cases_Bool (eqb b 92)) [
      | inr e ↦ rw (k, l, e) refl
      | inl e ↦ elim (cases_Bool (ltb 0 (line_end bs))) [
        | inl t ↦ absurd (omega (arith, rw (e, t) at h))
        | inr t ↦ let z : eqb (line_end bs) 0 ≡ true = grind (arith, nat_tests) in rw (e, k, l, z) refl
      ]
    ]

here_line : (m : Mode) (bs : List ℕ) → here m (10 ∷ bs) ≡ turns.Gives 0 kind.Newline 1 1 true
unfolding here
here_line m bs = refl

here_remark : (m : Mode) (bs : List ℕ) → here m (35 ∷ bs) ≡ turns.Gives 0 kind.Comment (1 + line_len bs) (1 + line_len bs) false
unfolding here
here_remark m bs = refl

here_nil : (m : Mode) → here m [] ≡ turns.End 0
unfolding here
here_nil m = refl

here_scan : (m : Mode) (b : ℕ) (bs : List ℕ) → eqb b 10 ≡ false → eqb b 35 ≡ false → (at_ground m && closes_field (b ∷ bs)) ≡ false → here m (b ∷ bs) ≡ turn_of (b ∷ bs) (scan (b ∷ bs))
unfolding here
here_scan m b bs h k z = rw (h, k, z) refl

-- ---- one lexeme at a place

pub one_length : (rest : List ℕ) (n k : ℕ) (m v : Meaning) → IsLexeme rest n m → IsLexeme rest k v → n ≡ k
one_length rest n k m v a b =
    elim (cases_lt n k) [
      | inl l ↦ absurd (none_some v (sym (a.longest k l b.within) ∙ b.means))
      | inr g ↦
          elim (cases_lt k n) [ inl l ↦ absurd (none_some m (sym (b.longest n l a.within) ∙ a.means)) | inr g2 ↦ omega arith ]
    ]

same_some : (m v : Meaning) (o : Option Meaning) → o ≡ Some m → o ≡ Some v → m ≡ v
same_some m v o a b = cc

one_meaning : (rest : List ℕ) (n k : ℕ) (m v : Meaning) → IsLexeme rest n m → IsLexeme rest k v → m ≡ v
one_meaning rest n k m v a b = same_some m v _ a.means (ap (λ i. meaning (take i rest)) (one_length rest n k m v a b) ∙ b.means)

pub stands : (b : ℕ) (bs : List ℕ) (n : ℕ) (m : Meaning) → IsLexeme (b ∷ bs) n m → is_passed b ≡ false
stands b bs zero m h = absurd (omega (arith, h.nonempty))
stands b bs (suc n) m h = elim (cases_Bool (is_passed b)) [ inr e ↦ e | inl e ↦ absurd (none_some m (sym (passed_none b e (take n bs)) ∙ h.means)) ]

token_same : (x y : Lexeme) → token x ≡ token y → x ≡ y
token_same x y h = cc

-- what a lexeme at a place means decides the turn
turn_token : (b : ℕ) (bs : List ℕ) (n : ℕ) (y : Lexeme) (x : Found × ℕ) → Scanned b bs x → IsLexeme (b ∷ bs) n (token y)
    → (k : Kind) × ((x ≡ (found.Kind k, n)) × (lexeme_from k (take n (b ∷ bs)) ≡ y))
turn_token b bs n y (found.Kind k, m) scanned lex =
    let len : m ≡ n = one_length (b ∷ bs) m n _ _ scanned lex in
    (k, ((λ i. (found.Kind k, len i)), subst (λ i. lexeme_from k (take i (b ∷ bs)) ≡ y) len (token_same _ y (one_meaning (b ∷ bs) m n _ _ scanned lex))))
turn_token b bs n y (found.Fault e, m) scanned lex = absurd (let t : refused e ≡ token y = one_meaning (b ∷ bs) m n _ _ scanned lex in cc)
turn_token b bs n y (found.Opens g, m) scanned lex = absurd (let t : opens g ≡ token y = one_meaning (b ∷ bs) m n _ _ scanned lex in cc)

turn_fault : (b : ℕ) (bs : List ℕ) (n : ℕ) (y : LexemeError) (x : Found × ℕ) → Scanned b bs x → IsLexeme (b ∷ bs) n (refused y) → x ≡ (found.Fault y, n)
turn_fault b bs n y (found.Kind k, m) scanned lex = absurd (let t : token (lexeme_from k (take m (b ∷ bs))) ≡ refused y = one_meaning (b ∷ bs) m n _ _ scanned lex in cc)
turn_fault b bs n y (found.Fault e, m) scanned lex =
    let len : m ≡ n = one_length (b ∷ bs) m n _ _ scanned lex in
    let err : e ≡ y = let t : refused e ≡ refused y = one_meaning (b ∷ bs) m n _ _ scanned lex in cc in
    λ d. (found.Fault (err d), len d)
turn_fault b bs n y (found.Opens g, m) scanned lex = absurd (let t : opens g ≡ refused y = one_meaning (b ∷ bs) m n _ _ scanned lex in cc)

turn_opens : (b : ℕ) (bs : List ℕ) (n : ℕ) (y : Form) (x : Found × ℕ) → Scanned b bs x → IsLexeme (b ∷ bs) n (opens y) → x ≡ (found.Opens y, n)
turn_opens b bs n y (found.Kind k, m) scanned lex = absurd (let t : token (lexeme_from k (take m (b ∷ bs))) ≡ opens y = one_meaning (b ∷ bs) m n _ _ scanned lex in cc)
turn_opens b bs n y (found.Fault e, m) scanned lex = absurd (let t : refused e ≡ opens y = one_meaning (b ∷ bs) m n _ _ scanned lex in cc)
turn_opens b bs n y (found.Opens g, m) scanned lex =
    let len : m ≡ n = one_length (b ∷ bs) m n _ _ scanned lex in
    let same : g ≡ y = let t : opens g ≡ opens y = one_meaning (b ∷ bs) m n _ _ scanned lex in cc in
    λ d. (found.Opens (same d), len d)

ground_none : (m : rules.Mode) (c : Bool) → ((b : ℕ) (g : Form) (bs : List Bracket) → m ≡ rules.field b g bs → IsDepth bs 0 → c ≡ false) → (at_ground (mode_of m) && c) ≡ false
ground_none rules.code c h = refl
ground_none (rules.inside b g) c h = refl
ground_none (rules.field b g bs) c h = elim (cases_Bool (eqb (depth_in bs) 0)) [ inr e ↦ rw e refl | inl e ↦ rw e (h b g bs refl (subst (IsDepth bs) (eqb-true _ _ e) (depth_is bs))) ]

-- where a lexeme stands, what is scanned is what comes
module _ (p : Past) (ws : List ℕ) (mv : Move) where
  by_scan : (rest : List ℕ) (n : ℕ) (m : Meaning) → rules.IsPlain p rest → IsLexeme rest n m
      → ((b : ℕ) (bs : List ℕ) → rest ≡ b ∷ bs → Scanned b bs (scan (b ∷ bs)) → Same mv (act (turn_of (b ∷ bs) (scan (b ∷ bs))) (at p ws (b ∷ bs)))) → Same mv (step (at p ws rest))
  by_scan [] n m z h go = absurd (omega (arith, h.nonempty, h.within))
  by_scan (b ∷ bs) n m z h go =
      let s = stands b bs n m h in
      let k = or_parts (is_blank b) _ s in
      let l = or_parts (eqb b 10) (eqb b 35) k.1 in
      by_here p ws (b ∷ bs) mv z.within z.outside (pass_none _ b bs z.no_escape k.0 l.0) _ (here_scan _ b bs l.0 l.1 (ground_none p.mode _ z.no_end)) (go b bs refl (scan_lexeme b bs k.0 l.0 l.1))

module _ (p : Past) (ws rest : List ℕ) (n : ℕ) (plain : rules.IsPlain p rest) where
  lexeme_same : (x : Lexeme) → IsStack p.lines ws → IsLexeme rest n (token x) → Same (gives p 0 x n n false rest) (step (at p ws rest))
  lexeme_same x stack h =
      by_scan p ws (gives p 0 x n n false rest) rest n (token x) plain h (λ b bs e scanned.
      let t = turn_token b bs n x (scan (b ∷ bs)) scanned (subst (λ xs. IsLexeme xs n (token x)) e h) in
      subst (λ xs. Same (gives p 0 x n n false xs) (act (turn_of (b ∷ bs) (scan (b ∷ bs))) (at p ws (b ∷ bs)))) (sym e)
      (subst (λ y. Same (gives p 0 x n n false (b ∷ bs)) (act (turn_of (b ∷ bs) y) (at p ws (b ∷ bs)))) (sym t.1.0)
      (gives_same p ws (b ∷ bs) 0 t.0 n n false x stack t.1.1)))

  faults_same : (y : LexemeError) → IsLexeme rest n (refused y) → Same (refuses p 0 y n) (step (at p ws rest))
  faults_same y h =
      by_scan p ws (refuses p 0 y n) rest n (refused y) plain h (λ b bs e scanned.
      let t = turn_fault b bs n y (scan (b ∷ bs)) scanned (subst (λ xs. IsLexeme xs n (refused y)) e h) in
      subst (λ z. Same (refuses p 0 y n) (act (turn_of (b ∷ bs) z) (at p ws (b ∷ bs)))) (sym t) refl)

  opens_same : (g : Form) (mv : Move) → IsLexeme rest n (opens g) → Same mv (act (opens_turn g n rest) (at p ws rest)) → Same mv (step (at p ws rest))
  opens_same g mv h go =
      by_scan p ws mv rest n (opens g) plain h (λ b bs e scanned.
      let t = turn_opens b bs n g (scan (b ∷ bs)) scanned (subst (λ xs. IsLexeme xs n (opens g)) e h) in
      subst (λ y. Same mv (act (turn_of (b ∷ bs) y) (at p ws (b ∷ bs)))) (sym t) (subst (λ xs. Same mv (act (opens_turn g n xs) (at p ws xs))) e go))

  opens_literal : (g : Form) (mv : Move) (x : Ending) → IsLexeme rest n (opens g) → is_format g.sort ≡ false → body g 0 (drop n rest) ≡ x → Same mv (act (literal_turn g n x) (at p ws rest)) → Same mv (step (at p ws rest))
  opens_literal g mv x h f e go =
      opens_same g mv h (subst (λ t. Same mv (act t (at p ws rest))) (sym (ap (λ t. cond t (turns.Enter g n) (literal_turn g n (body g 0 (drop n rest)))) f ∙ ap (literal_turn g n) e)) go)

-- ---- what a line's width says of the stack

kept_all : (ws : List ℕ) (w : ℕ) → ((k : ℕ) → k < length ws → get_or ws k 0 ≤ w) → kept ws w ≡ length ws
kept_all [] w h = refl
kept_all (x ∷ ws) w h = let a : x ≤ w = h 0 (omega arith) in let e : leb x w ≡ true = grind (arith, nat_tests) in rw (e, one-add) (ap suc (kept_all ws w (λ k lt. h (suc k) (omega arith))))

module _ (p : Past) (ws : List ℕ) (stack : IsStack p.lines ws) (w : ℕ) where
  pub deeper_shut : IsDeeper p.lines w → is_open ws w ≡ false
  deeper_shut h = elim (cases_Bool (is_open ws w)) [ inr e ↦ e | inl e ↦ absurd (omega (arith, h w (widths.open_test p.lines ws stack w e))) ]

  pub deeper_all : IsDeeper p.lines w → kept ws w ≡ length ws
  deeper_all h = kept_all ws w (λ k lt. let a : get_or ws k 0 < w = h (get_or ws k 0) ((stack.each (get_or ws k 0)).0 (widths.has_at ws k lt)).0 in omega arith)

  all_deeper : is_open ws w ≡ false → kept ws w ≡ length ws → IsDeeper p.lines w
  all_deeper shut all = widths.deeper p.lines ws stack w (λ i z. none_above ws w stack.once all z i) shut

  not_open : (IsOpen p.lines w → ⊥) → is_open ws w ≡ false
  not_open h = elim (cases_Bool (is_open ws w)) [ inr e ↦ e | inl e ↦ absurd (h (widths.open_test p.lines ws stack w e)) ]

  not_deeper : is_open ws w ≡ false → (IsDeeper p.lines w → ⊥) → eqb (kept ws w) (length ws) ≡ false
  not_deeper shut h = ne_eqb _ _ (λ e. h (all_deeper shut e))

-- ---- f-strings

pass_brace : (j : Bool) (bs : List ℕ) → pass j (125 ∷ bs) ≡ 0
unfolding pass
pass_brace j bs = refl

pass_bang : (j : Bool) (bs : List ℕ) → pass j (33 ∷ bs) ≡ 0
unfolding pass
pass_bang j bs = refl

here_shut : (m : Mode) (bs : List ℕ) → at_ground m ≡ true → here m (125 ∷ bs) ≡ turns.Shut
unfolding here
here_shut m bs h = rw h refl

here_bang : (m : Mode) (bs : List ℕ) → at_ground m ≡ true → closes_field (33 ∷ bs) ≡ true → here m (33 ∷ bs) ≡ turns.Gives 0 kind.Bang 1 1 false
unfolding here
here_bang m bs h k = rw (h, k) refl

ground_yes : (p : Past) (b : ℕ) (g : Form) (bs : List Bracket) → p.mode ≡ rules.field b g bs → IsDepth bs 0 → at_ground (mode_of p.mode) ≡ true
ground_yes p b g bs c h = ap (λ m. at_ground (mode_of m)) c ∙ eq-eqb _ _ (one_depth bs (depth_in bs) 0 (depth_is bs) h)

closed_text : (p : Past) (ws rest : List ℕ) (g : Form) (k : ℕ) → IsStack p.lines ws → 0 < k → Same (gives p 0 (fstring_text (value g (take k rest))) k k false rest) (act (text_turn g (ending.Closed k)) (at p ws rest))
closed_text p ws rest g zero stack pos = absurd (omega arith)
closed_text p ws rest g (suc k) stack pos = gives_same p ws rest 0 (kind.Text g) (suc k) (suc k) false (fstring_text (value g (take (suc k) rest))) stack refl

field_text : (p : Past) (ws rest : List ℕ) (g : Form) (k : ℕ) → IsStack p.lines ws → 0 < k → Same (gives p 0 (fstring_text (value g (take k rest))) k k false rest) (act (text_turn g (ending.Field k)) (at p ws rest))
field_text p ws rest g zero stack pos = absurd (omega arith)
field_text p ws rest g (suc k) stack pos = gives_same p ws rest 0 (kind.Text g) (suc k) (suc k) false (fstring_text (value g (take (suc k) rest))) stack refl

take_take : (k m : ℕ) (xs : List ℕ) → k ≤ m → take k (take m xs) ≡ take k xs
take_take zero m xs le = refl
take_take (suc k) zero xs le = absurd (omega arith)
take_take (suc k) (suc m) [] le = refl
take_take (suc k) (suc m) (x ∷ xs) le = ap (λ ys. x ∷ ys) (take_take k m xs (omega arith))

-- the body within the text of a literal
take_within : (k n m : ℕ) (xs : List ℕ) → n + k ≤ m → take k (drop n (take m xs)) ≡ take k (drop n xs)
take_within k zero m xs le = take_take k m xs (omega (arith, le))
take_within zero (suc n) m xs le = refl
take_within (suc k) (suc n) zero xs le = absurd (omega arith)
take_within (suc k) (suc n) (suc m) [] le = refl
take_within (suc k) (suc n) (suc m) (x ∷ xs) le = take_within (suc k) n m xs (omega arith)

last_of : (os : List rules.Mode) → last_mode (outer_of os) ≡ mode_of (rules.below os)
last_of [] = refl
last_of (m ∷ ms) = last_more (outer_of ms) (mode_of m)

rest_of : (os : List rules.Mode) → take (length (outer_of os) - 1) (outer_of os) ≡ outer_of (drop 1 os)
rest_of [] = refl
rest_of (m ∷ ms) = take_more (outer_of ms) (mode_of m)

-- ---- rule by rule

by_pass_by : (p : Past) (ws rest : List ℕ) (n : ℕ) → p.fresh ≡ false → rules.is_inside p.mode ≡ false → 0 < n → pass (is_joined (state_of p)) rest ≡ n → IsStack p.lines ws → Same (on [] (moved p n) (drop n rest)) (step (at p ws rest))
by_pass_by p ws rest zero f c pos e stack = absurd (omega arith)
by_pass_by p ws rest (suc n) f c pos e stack = by_pass p ws rest (on [] (moved p (suc n)) (drop (suc n) rest)) f c n e (skip_same p ws rest (drop (suc n) rest) (suc n) stack refl)

module _ (p : Past) (ws rest : List ℕ) (md : IsMeasured p rest) where
  measured_line : has_tab (blanks rest) ≡ false → line_turn ws rest ≡ fits ws (width rest) (leading rest)
  measured_line t = ap (line_from ws (blanks rest) (leading rest)) md.stands ∙ line_more ws (blanks rest) md.more (leading rest) md.first md.not_line md.not_remark ∙ ap (λ b. cond b (turns.Tab (leading rest)) (fits ws (width rest) (leading rest))) t

  tabbed_line : has_tab (blanks rest) ≡ true → line_turn ws rest ≡ turns.Tab (leading rest)
  tabbed_line t = ap (line_from ws (blanks rest) (leading rest)) md.stands ∙ line_more ws (blanks rest) md.more (leading rest) md.first md.not_line md.not_remark ∙ ap (λ b. cond b (turns.Tab (leading rest)) (fits ws (width rest) (leading rest))) t

joined_yes : (p : Past) → rules.IsJoined p → is_joined (state_of p) ≡ true
joined_yes p (inl (b, g, bs, e)) = ap (λ m. joined_in (mode_of m) (not (eqb (count_by opening_item p.items) (count_by closing_item p.items)))) e
joined_yes p (inr (e, odd)) = ap (λ m. joined_in (mode_of m) (not (eqb (count_by opening_item p.items) (count_by closing_item p.items)))) e ∙ ap not (ne_eqb _ _ odd)

joined_no : (p : Past) → p.mode ≡ rules.code → IsBalanced p → is_joined (state_of p) ≡ false
joined_no p e even = ap (λ m. joined_in (mode_of m) (not (eqb (count_by opening_item p.items) (count_by closing_item p.items)))) e ∙ ap not (eq-eqb _ _ even)

joined_code : (p : Past) → rules.IsJoined p → rules.is_inside p.mode ≡ false
joined_code p (inl (b, g, bs, e)) = ap rules.is_inside e
joined_code p (inr (e, odd)) = ap rules.is_inside e

pub same : {p : Past} {rest : List ℕ} {m : Move} → Step p rest m → (ws : List ℕ) → IsStack p.lines ws → Same m (step (at p ws rest))
same (rules.blank_line p rest more f e) ws stack =
    let g = leading rest in
    by_line p ws rest (gives p g newline 1 (g + 1) true rest) f _ (ap (line_from ws (blanks rest) g) e ∙ line_lf ws (blanks rest) more g) (gives_same p ws rest g kind.Newline 1 (g + 1) true newline stack refl)
same (rules.remark_line p rest more f e) ws stack =
    let g = leading rest in
    let n = line_len more in
    let next = g + (1 + n) + line_end (drop n more) in
    by_line p ws rest (gives p g (comment (take n more)) (1 + n) next true rest) f _ (ap (line_from ws (blanks rest) g) e ∙ line_remark ws (blanks rest) more g) (gives_same p ws rest g kind.Comment (1 + n) next true (comment (take n more)) stack (remark_text n more rest g e))
same (rules.last_line p rest closed f whole c) ws stack =
    let g = leading rest in
    let e : drop g rest ≡ [] = drop_all g rest (omega arith) in
    by_line p ws rest (ends (p.place + length rest) (length closed)) f _ (ap (line_from ws (blanks rest) g) e ∙ line_none ws (blanks rest) g) (no_widths p ws rest closed (p.place + length rest) (leading rest) stack c refl)
same (rules.tabbed p rest md t) ws stack = by_line p ws rest (over (with_fault (newline_span p.items).0 InvalidTab (newline_span p.items).1)) md.fresh _ (tabbed_line p ws rest md t) refl
same (rules.deepens p rest md t d) ws stack =
    let w = width rest in
    let shut = deeper_shut p ws stack w d in
    let all = deeper_all p ws stack w d in
    by_line p ws rest (deepened p w (leading rest) rest) md.fresh _ (measured_line p ws rest md t ∙ fits_deeper ws w (leading rest) shut (eq-eqb _ _ all)) (deepened_same p ws rest stack w (leading rest) shut all)
same (rules.fits p rest closed md t o c) ws stack =
    let w = width rest in
    let yes = widths.test_open p.lines ws stack w o in
    by_line p ws rest (fitted p w (length closed) (leading rest) rest) md.fresh _ (measured_line p ws rest md t ∙ fits_open ws w (leading rest) yes) (fitted_same p ws rest stack w (leading rest) closed yes c)
same (rules.misfits p rest md t d o) ws stack =
    let w = width rest in
    let shut = not_open p ws stack w o in
    by_line p ws rest (refuses p 0 Indentation (leading rest)) md.fresh _ (measured_line p ws rest md t ∙ fits_not ws w (leading rest) shut (not_deeper p ws stack w shut d)) refl
same (rules.passes p b rest f c h) ws stack = by_pass_by p ws (b ∷ rest) 1 f c (omega arith) (pass_blank _ b rest h) stack
same (rules.escapes p rest f c h) ws stack = by_pass_by p ws rest (escaped rest) f c h (pass_escape _ rest h) stack
same (rules.joins p rest f odd) ws stack = by_pass_by p ws (10 ∷ rest) 1 f (joined_code p odd) (omega arith) (pass_line _ rest ∙ ap {B = ℕ} (λ j. cond j 1 0) (joined_yes p odd)) stack
same (rules.ends_line p rest f c even) ws stack =
    by_here p ws (10 ∷ rest) (gives p 0 newline 1 1 true (10 ∷ rest)) f (ap rules.is_inside c) (pass_line _ rest ∙ ap {B = ℕ} (λ j. cond j 1 0) (joined_no p c even)) _ (here_line _ rest) (gives_same p ws (10 ∷ rest) 0 kind.Newline 1 1 true newline stack refl)
same (rules.remark p rest f c) ws stack =
    let n = line_len rest in
    by_here p ws (35 ∷ rest) (gives p 0 (comment (take n rest)) (1 + n) (1 + n) false (35 ∷ rest)) f c (pass_remark _ rest) _ (here_remark _ rest) (gives_same p ws (35 ∷ rest) 0 kind.Comment (1 + n) (1 + n) false (comment (take n rest)) stack (remark_text n rest (35 ∷ rest) 0 refl))
same (rules.lexeme p rest n x plain h) ws stack = lexeme_same p ws rest n plain x stack h
same (rules.faults p rest n e plain h) ws stack = faults_same p ws rest n plain e h
same (rules.ends_text p closed f c k) ws stack = by_here p ws [] (ends p.place (length closed)) f c (pass_nil _) _ (here_nil _) (no_widths p ws [] closed p.place 0 stack k (sym (add-zero p.place)))
same (rules.literal p rest n g k plain h f e) ws stack =
    let m = n + k + quotes g.quote in
    let v : lexeme_from (kind.Literal g n k) (take m rest) ≡ literal_lexeme g.sort (value g (take k (drop n rest))) = ap (λ w. literal_lexeme g.sort (value g w)) (take_within k n m rest (omega arith)) in
    opens_literal p ws rest n plain g (gives p 0 (literal_lexeme g.sort (value g (take k (drop n rest)))) m m false rest) (ending.Closed k) h f e
    (gives_same p ws rest 0 (kind.Literal g n k) m m false (literal_lexeme g.sort (value g (take k (drop n rest)))) stack v)
same (rules.unclosed p rest n g k plain h f e) ws stack = opens_literal p ws rest n plain g (refuses p 0 UnfinishedStringLiteral (n + k)) (ending.Unfinished k) h f e refl
same (rules.misspelt p rest n g k m plain h f e) ws stack = opens_literal p ws rest n plain g (refuses p (n + k) InvalidEscapeSequence m) (ending.Escape k m) h f e refl
same (rules.enters p rest n g plain h f) ws stack =
    let mv = rules.turns p (fstring_start g.quote) n (rules.inside p.place g) (p.mode ∷ p.outer) rest in
    let is : opens_turn g n rest ≡ turns.Enter g n = ap (λ t. cond t (turns.Enter g n) (literal_turn g n (body g 0 (drop n rest)))) f in
    opens_same p ws rest n plain g mv h (subst (λ t. Same mv (act t (at p ws rest))) (sym is) (refl, (ws, (stack, refl))))
same (rules.texts p b g rest k f c pos (inl e)) ws stack = by_text p ws rest (gives p 0 (fstring_text (value g (take k rest))) k k false rest) f b g c (ending.Closed k) e (closed_text p ws rest g k stack pos)
same (rules.texts p b g rest k f c pos (inr e)) ws stack = by_text p ws rest (gives p 0 (fstring_text (value g (take k rest))) k k false rest) f b g c (ending.Field k) e (field_text p ws rest g k stack pos)
same (rules.leaves p b g rest f c e) ws stack =
    by_text p ws rest (rules.turns p fstring_end (quotes g.quote) (rules.below p.outer) (drop 1 p.outer) rest) f b g c (ending.Closed 0) e
    (refl, (ws, (stack, λ d. record { state = turned (state_of p) (quotes g.quote) (last_of p.outer d); widths = ws; outer = rest_of p.outer d; rest = drop (quotes g.quote) rest })))
same (rules.opens_field p b g rest f c e) ws stack =
    by_text p ws rest (rules.turns p fstring_expr_start 1 (rules.field b g []) p.outer rest) f b g c (ending.Field 0) e
    (refl, (ws, (stack, λ d. record { state = turned (state_of p) 1 (field_of (mode_of (c d))); widths = ws; outer = outer_of p.outer; rest = drop 1 rest })))
same (rules.unfinished p b g rest k f c e) ws stack =
    by_text p ws rest (over (with_fault b UnfinishedStringLiteral (p.place + k))) f b g c (ending.Unfinished k) e (ap (λ m. with_fault (begin_of (mode_of m)) UnfinishedStringLiteral (p.place + k)) (sym c))
same (rules.misspells p b g rest k m f c e) ws stack = by_text p ws rest (refuses p k InvalidEscapeSequence m) f b g c (ending.Escape k m) e refl
same (rules.shuts p b g bs rest f c h) ws stack =
    by_here p ws (125 ∷ rest) (rules.turns p fstring_expr_end 1 (rules.inside b g) p.outer (125 ∷ rest)) f (ap rules.is_inside c) (pass_brace _ rest) turns.Shut (here_shut _ rest (ground_yes p b g bs c h)) (refl, (ws, (stack, λ d. record { state = turned (state_of p) 1 (body_of (mode_of (c d))); widths = ws; outer = outer_of p.outer; rest = drop 1 (125 ∷ rest) })))
same (rules.bangs p b g bs rest f c h k) ws stack =
    by_here p ws (33 ∷ rest) (gives p 0 fstring_bang 1 1 false (33 ∷ rest)) f (ap rules.is_inside c) (pass_bang _ rest) _ (here_bang _ rest (ground_yes p b g bs c h) k) (gives_same p ws (33 ∷ rest) 0 kind.Bang 1 1 false fstring_bang stack refl)

-- ---- some rule holds

abbrev pub Goes : Past → List ℕ → Type 0
Goes p rest = (m : Move) × Step p rest m

module _ (p : Past) (ws rest : List ℕ) (stack : IsStack p.lines ws) (f : p.fresh ≡ true) where
  goes_measured : (b : ℕ) (more : List ℕ) → drop (leading rest) rest ≡ b ∷ more → (b ≡ 10 → ⊥) → (b ≡ 35 → ⊥) → Goes p rest
  goes_measured b more e h1 h2 =
      let md : IsMeasured p rest = record { fresh = f; first = b; more = more; stands = e; not_line = h1; not_remark = h2 } in
      let w = width rest in
      elim (cases_Bool (has_tab (blanks rest))) [
        | inl t ↦ (_, rules.tabbed p rest md t)
        | inr t ↦ elim (cases_Bool (is_open ws w)) [
          | inl o ↦ (_, rules.fits p rest (filter (λ x. ltb w x) ws) md t (widths.open_test p.lines ws stack w o) (widths.closes p.lines ws stack w))
          | inr shut ↦ elim (cases_Bool (eqb (kept ws w) (length ws))) [
            | inl all ↦ (_, rules.deepens p rest md t (all_deeper p ws stack w shut (eqb-true _ _ all)))
            | inr less ↦ (_, rules.misfits p rest md t (λ d. false≢true (sym less ∙ eq-eqb _ _ (deeper_all p ws stack w d))) (λ o. false≢true (sym shut ∙ widths.test_open p.lines ws stack w o)))
          ]
        ]
      ]

  goes_line : (xs : List ℕ) → drop (leading rest) rest ≡ xs → Goes p rest
  goes_line [] e = (_, rules.last_line p rest ws f (omega (arith, ap length e, length-drop (leading rest) rest, prefix_len-le-length is_blank rest)) (record { once = stack.once; each = stack.each }))
  goes_line (b ∷ more) e =
      elim (cases_Bool (eqb b 10)) [
        | inl t ↦ (_, rules.blank_line p rest more f (e ∙ ap (λ x. x ∷ more) (eqb-true b 10 t)))
        | inr t ↦ elim (cases_Bool (eqb b 35)) [
          | inl u ↦ (_, rules.remark_line p rest more f (e ∙ ap (λ x. x ∷ more) (eqb-true b 35 u)))
          | inr u ↦ goes_measured b more e (λ q. false≢true (sym t ∙ eq-eqb b 10 q)) (λ q. false≢true (sym u ∙ eq-eqb b 35 q))
        ]
      ]

goes_literal : (p : Past) (rest : List ℕ) (n : ℕ) (g : Form) (x : Ending) → rules.IsPlain p rest → IsLexeme rest n (opens g) → is_format g.sort ≡ false → body g 0 (drop n rest) ≡ x → Goes p rest
goes_literal p rest n g (ending.Closed k) z h f e = (_, rules.literal p rest n g k z h f e)
goes_literal p rest n g (ending.Unfinished k) z h f e = (_, rules.unclosed p rest n g k z h f e)
goes_literal p rest n g (ending.Escape k m) z h f e = (_, rules.misspelt p rest n g k m z h f e)
goes_literal p rest n g (ending.Field k) z h f e = absurd (false≢true (sym f ∙ field_format g (drop n rest) k e))

goes_opens : (p : Past) (rest : List ℕ) (n : ℕ) (g : Form) → rules.IsPlain p rest → IsLexeme rest n (opens g) → Goes p rest
goes_opens p rest n g z h =
    elim (cases_Bool (is_format g.sort)) [
      | inl f ↦ (_, rules.enters p rest n g z h f)
      | inr f ↦ goes_literal p rest n g (body g 0 (drop n rest)) z h f refl
    ]

goes_found : (p : Past) (b : ℕ) (bs : List ℕ) (x : Found × ℕ) → rules.IsPlain p (b ∷ bs) → Scanned b bs x → Goes p (b ∷ bs)
goes_found p b bs (found.Kind k, n) z h = (_, rules.lexeme p (b ∷ bs) n _ z h)
goes_found p b bs (found.Fault e, n) z h = (_, rules.faults p (b ∷ bs) n e z h)
goes_found p b bs (found.Opens g, n) z h = goes_opens p (b ∷ bs) n g z h

mode_cases : (m : rules.Mode) → (m ≡ rules.code) ⊎ (((b : ℕ) × (g : Form) × (m ≡ rules.inside b g)) ⊎ ((b : ℕ) × (g : Form) × (bs : List Bracket) × (m ≡ rules.field b g bs)))
mode_cases rules.code = inl refl
mode_cases (rules.inside b g) = inr (inl (b, g, refl))
mode_cases (rules.field b g bs) = inr (inr (b, g, bs, refl))

field_same : (b c : ℕ) (g h : Form) (bs cs : List Bracket) → rules.field b g bs ≡ rules.field c h cs → bs ≡ cs
field_same b c g h bs cs e = cc

code_field : (b : ℕ) (g : Form) (bs : List Bracket) → rules.code ≡ rules.field b g bs → ⊥
code_field b g bs h = cc

-- a lexeme, where nothing closes the field
plain_goes : (p : Past) (b : ℕ) (bs : List ℕ) → p.fresh ≡ false → rules.is_inside p.mode ≡ false → is_blank b ≡ false → eqb b 10 ≡ false → eqb b 35 ≡ false
    → ((c : ℕ) (g : Form) (cs : List Bracket) → p.mode ≡ rules.field c g cs → IsDepth cs 0 → closes_field (b ∷ bs) ≡ false) → Goes p (b ∷ bs)
plain_goes p b bs f c k l r e =
    elim (cases_lt 0 (escaped (b ∷ bs))) [
      | inl some ↦ (_, rules.escapes p (b ∷ bs) f c some)
      | inr none ↦ goes_found p b bs (scan (b ∷ bs)) (record { within = f; outside = c; no_escape = omega arith; no_end = e }) (scan_lexeme b bs k l r)
    ]

closes_goes : (p : Past) (c : ℕ) (g : Form) (cs : List Bracket) (b : ℕ) (bs : List ℕ) → p.fresh ≡ false → p.mode ≡ rules.field c g cs → IsDepth cs 0 → closes_field (b ∷ bs) ≡ true → Goes p (b ∷ bs)
closes_goes p c g cs b bs f m h k =
    elim (cases_Bool (eqb b 125)) [
      | inl e ↦ subst (λ v. Goes p (v ∷ bs)) (sym (eqb-true b 125 e)) (_, rules.shuts p c g cs bs f m h)
      | inr e ↦
          let b33 : b ≡ 33 = grind (arith, nat_tests) in
          subst (λ v. Goes p (v ∷ bs)) (sym b33) (_, rules.bangs p c g cs bs f m h (subst (λ v. closes_field (v ∷ bs) ≡ true) b33 k))
    ]

-- among lexemes
code_goes : (p : Past) (ws rest : List ℕ) → IsStack p.lines ws → p.fresh ≡ false → rules.is_inside p.mode ≡ false → Goes p rest
code_goes p ws [] stack f c = (_, rules.ends_text p ws f c (record { once = stack.once; each = stack.each }))
code_goes p ws (b ∷ bs) stack f c =
    elim (cases_Bool (is_blank b)) [
      | inl k ↦ (_, rules.passes p b bs f c k)
      | inr k ↦
          elim (cases_Bool (eqb b 10)) [
            | inl l ↦ subst (λ v. Goes p (v ∷ bs)) (sym (eqb-true b 10 l)) (elim (mode_cases p.mode) [
              | inl m ↦ elim (cases_Bool (eqb (count_by opening_item p.items) (count_by closing_item p.items))) [
                | inl even ↦ (_, rules.ends_line p bs f m (eqb-true _ _ even))
                | inr odd ↦ (_, rules.joins p bs f (inr (m, (λ q. false≢true (sym odd ∙ eq-eqb _ _ q)))))
              ]
              | inr more ↦ elim more [
                | inl m ↦ absurd (false≢true (sym c ∙ ap rules.is_inside m.2))
                | inr m ↦ (_, rules.joins p bs f (inl m))
              ]
            ])
            | inr l ↦ elim (cases_Bool (eqb b 35)) [
              | inl r ↦ subst (λ v. Goes p (v ∷ bs)) (sym (eqb-true b 35 r)) (_, rules.remark p bs f c)
              | inr r ↦ elim (cases_Bool (closes_field (b ∷ bs))) [
                | inr e ↦ plain_goes p b bs f c k l r (λ v g vs m h. e)
                | inl e ↦ elim (mode_cases p.mode) [
                  | inl m ↦ plain_goes p b bs f c k l r (λ v g vs n h. absurd (code_field v g vs (sym m ∙ n)))
                  | inr more ↦ elim more [
                    | inl m ↦ absurd (false≢true (sym c ∙ ap rules.is_inside m.2))
                    | inr m ↦ elim (cases_Bool (eqb (depth_in m.2) 0)) [
                      | inl z ↦ closes_goes p m.0 m.1 m.2 b bs f m.3 (subst (IsDepth m.2) (eqb-true _ _ z) (depth_is m.2)) e
                      | inr z ↦ plain_goes p b bs f c k l r (λ v g vs n h. absurd (false≢true (sym z ∙ eq-eqb _ _ (one_depth m.2 (depth_in m.2) 0 (depth_is m.2) (subst (λ us. IsDepth us 0) (field_same v m.0 g m.1 vs m.2 (sym n ∙ m.3)) h)))))
                    ]
                  ]
                ]
              ]
            ]
          ]
    ]

-- in the text of an f-string
body_goes : (p : Past) (v : ℕ) (g : Form) (rest : List ℕ) (x : Ending) → p.fresh ≡ false → p.mode ≡ rules.inside v g → body g 0 rest ≡ x → Goes p rest
body_goes p v g rest (ending.Closed zero) f m e = (_, rules.leaves p v g rest f m e)
body_goes p v g rest (ending.Closed (suc k)) f m e = (_, rules.texts p v g rest (suc k) f m (omega arith) (inl e))
body_goes p v g rest (ending.Field zero) f m e = (_, rules.opens_field p v g rest f m e)
body_goes p v g rest (ending.Field (suc k)) f m e = (_, rules.texts p v g rest (suc k) f m (omega arith) (inr e))
body_goes p v g rest (ending.Unfinished k) f m e = (_, rules.unfinished p v g rest k f m e)
body_goes p v g rest (ending.Escape k j) f m e = (_, rules.misspells p v g rest k j f m e)

goes_within : (p : Past) (ws rest : List ℕ) → IsStack p.lines ws → p.fresh ≡ false → Goes p rest
goes_within p ws rest stack f =
    elim (mode_cases p.mode) [
      | inl m ↦ code_goes p ws rest stack f (ap rules.is_inside m)
      | inr more ↦ elim more [
        | inl m ↦ body_goes p m.0 m.1 rest (body m.1 0 rest) f m.2 refl
        | inr m ↦ code_goes p ws rest stack f (ap rules.is_inside m.3)
      ]
    ]

pub total : (p : Past) (ws rest : List ℕ) → IsStack p.lines ws → Goes p rest
total p ws rest stack = elim (cases_Bool p.fresh) [ inl f ↦ goes_line p ws rest stack f (drop (leading rest) rest) refl | inr f ↦ goes_within p ws rest stack f ]
