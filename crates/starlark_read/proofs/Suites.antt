-- Steps of the machine at lines, and in suites.
use Rattle.std.proofs.Common.{◌≡◌, ◌≢◌, ℕ, eqb, arith, List, [], ◌∷◌, Some, None, true, false, refl, ap, sym, subst, ◌∙◌}
use Rattle.std.proofs.lemmas.Bool.Decides.{nat_tests}
use Rattle.starlark_lexer.specs.Items.{Lexeme, Item, item, newline, indent, dedent, keyword_if, keyword_for, keyword_def}
use Rattle.starlark_lexer.specs.declared.dialect.Dialect.{Dialect}
use Rattle.starlark_ast.specs.Tree.{Sequence, Statement, add_statement, no_statements}
use Rattle.starlark_read.specs.Lines.{line_ahead}
use Rattle.starlark_grammar.specs.Nodes.{block_of, start}
use Rattle.starlark_grammar.specs.Frames.{Blocks, inner, Suites, at_block, at_suite, line, State, at_line, spot, test, at_if, target, def_name, wants, wants_list, wants_suite, wants_indent, wants_small}
use Rattle.starlark_grammar.specs.Machine.{close, move}
use Rattle.starlark_grammar.specs.Runs.{run}
use Rattle.starlark_read.specs.Reads.{Left, first_lexeme, Passes, Goes, Sticks}
use Rattle.starlark_grammar.proofs.Steps.{arrive, runs, at_token, same}
use Rattle.starlark_read.proofs.Exits.{goes, runs_as, state_is, stops, not_next}

-- a suite on the line
pub suite_in_line : {d : Dialect} (k : Suites) (ts : Left) → first_lexeme ts.items ≢ Some newline → Goes d (wants_suite k) ts (wants_small (line no_statements (at_suite k))) ts
suite_in_line k ts n = runs_as (at_token (wants_suite k) (wants_small (line no_statements (at_suite k))) ts.items refl refl (λ x xs w. (here x.lexeme x.begin x.end (not_next ts x xs newline n w), refl)))
  where
    here : (y : Lexeme) (i j : ℕ) → y ≢ newline → move (wants_suite k) y i j ≡ move (wants_small (line no_statements (at_suite k))) y i j
    here newline i j h = absurd (h refl)
    here _ i j h = refl

-- neither a line end nor lines further in are behind the line end of a suite
pub no_indent : {d : Dialect} (k : Suites) (ts : Left) → first_lexeme ts.items ≢ Some newline → first_lexeme ts.items ≢ Some indent → Sticks d (wants_indent k) ts ts
no_indent k ts n h = stops (wants_indent k) ts refl refl (λ x xs w. here x.lexeme x.begin x.end (not_next ts x xs newline n w) (not_next ts x xs indent h w))
  where
    here : (y : Lexeme) (i j : ℕ) → y ≢ newline → y ≢ indent → move (wants_indent k) y i j ≡ None
    here newline i j a b = absurd (a refl)
    here indent i j a b = absurd (b refl)
    here _ i j a b = refl

-- where nothing has been read, the end of the token before does not matter
pub first_line : {d : Dialect} (k : Suites) (e f : ℕ) (ts : Left) → Goes d (at_line (inner no_statements k) e) ts (at_line (inner no_statements k) f) ts
first_line k e f ts = runs_as (same (at_line (inner no_statements k) e) (at_line (inner no_statements k) f) refl (λ x. here x.lexeme x.begin x.end) (λ x. refl) ts.items)
  where
    here : (y : Lexeme) (i j : ℕ) → move (at_line (inner no_statements k) e) y i j ≡ move (at_line (inner no_statements k) f) y i j
    here newline i j = refl
    here keyword_if i j = refl
    here keyword_for i j = refl
    here keyword_def i j = refl
    here dedent i j = refl
    here _ i j = refl

-- the lines of a suite end
pub lines_end : {d : Dialect} (k : Suites) (ss : Sequence) (s : Statement) (e : ℕ) (ts us : Left) → ss ≢ no_statements → s ≡ block_of ss e → Passes ts (item (start ts.items) dedent us.last) us → Goes d (at_line (inner ss k) e) ts (close k s us.last) us
lines_end k no_statements s e ts us n w h = absurd (n refl)
lines_end k (add_statement ss r) s e ts us n w h = state_is (goes h refl refl) (ap (λ z. close k z us.last) (sym w))

-- what can begin a line
pub is_line : (xs : List Item) → line_ahead xs ≡ true → (first_lexeme xs ≢ None) × (first_lexeme xs ≢ Some dedent)
is_line [] h = absurd (cc)
is_line (x ∷ xs) h = (λ w. absurd (let n : Some x.lexeme ≡ None = w in (cc)), λ w. go x.lexeme h w)
  where
    go : (y : Lexeme) → line_ahead (item 0 y 0 ∷ []) ≡ true → Some y ≡ Some dedent → ⊥
    go dedent h w = absurd (cc)
    go y h w = let q : y ≡ dedent = cc in absurd (let n : line_ahead (item 0 dedent 0 ∷ []) ≡ true = subst (λ z. line_ahead (item 0 z 0 ∷ []) ≡ true) q h in (cc))

pub no_line : (x : Item) → line_ahead (x ∷ []) ≡ false → x.lexeme ≡ dedent
no_line x h = go x.lexeme h
  where
    go : (y : Lexeme) → line_ahead (item 0 y 0 ∷ []) ≡ false → y ≡ dedent
    go dedent h = refl
    go _ h = absurd (cc)

-- a suite has one statement at least
pub no_first_line : {d : Dialect} (k : Suites) (ss : Sequence) (e : ℕ) (ts : Left) → ss ≡ no_statements → line_ahead ts.items ≡ false → Sticks d (at_line (inner ss k) e) ts ts
no_first_line {d} k ss e ts w h = subst (λ z. Sticks d (at_line (inner z k) e) ts ts) (sym w) (stops (at_line (inner no_statements k) e) ts refl refl (λ x xs q. go x.lexeme x.begin x.end (no_line x (sym (ap line_ahead q) ∙ h))))
  where
    go : (y : Lexeme) (i j : ℕ) → y ≡ dedent → move (at_line (inner no_statements k) e) y i j ≡ None
    go y i j q = ap (λ z. move (at_line (inner no_statements k) e) z i j) q

-- the tokens end in a suite
pub no_lines_end : {d : Dialect} (k : Suites) (ss : Sequence) (e : ℕ) (ts : Left) → line_ahead ts.items ≡ false → first_lexeme ts.items ≢ Some dedent → Sticks d (at_line (inner ss k) e) ts ts
no_lines_end k ss e ts h n = stops (at_line (inner ss k) e) ts refl refl (λ x xs q. absurd (n (ap first_lexeme q ∙ ap Some (no_line x (sym (ap line_ahead q) ∙ h)))))

-- whether a list is empty
pub none_counted : (n : ℕ) → eqb n 0 ≡ true → n ≡ 0
none_counted n h = grind (arith, nat_tests)

pub some_counted : (n : ℕ) → eqb n 0 ≡ false → n ≢ 0
some_counted n h w = absurd (let e : eqb 0 0 ≡ false = subst (λ z. eqb z 0 ≡ false) w h in (cc))

pub lines_as : {d : Dialect} {s : State} {ts us : Left} {k : Suites} {ss : Sequence} {e : ℕ} (rs : Sequence) → Goes d s ts (at_line (inner ss k) e) us → rs ≡ ss → Goes d s ts (at_line (inner rs k) e) us
lines_as {k = k} {e = e} rs g h = state_is g (ap (λ z. at_line (inner z k) e) (sym h))

-- a statement at a line's beginning
pub if_begins : {d : Dialect} (k : Blocks) (e b : ℕ) (ts us : Left) → b ≡ start ts.items → Passes ts (item (start ts.items) keyword_if us.last) us → Goes d (at_line k e) ts (wants 12 (spot (test b (at_if k)))) us
if_begins k e b ts us w h = state_is (goes h refl refl) (ap (λ i. wants 12 (spot (test i (at_if k)))) (sym w))

pub for_begins : {d : Dialect} (k : Blocks) (e b : ℕ) (ts us : Left) → b ≡ start ts.items → Passes ts (item (start ts.items) keyword_for us.last) us → Goes d (at_line k e) ts (wants_list (target b k)) us
for_begins k e b ts us w h = state_is (goes h refl refl) (ap (λ i. wants_list (target i k)) (sym w))

pub def_begins : {d : Dialect} (k : Blocks) (e b : ℕ) (ts us : Left) → b ≡ start ts.items → Passes ts (item (start ts.items) keyword_def us.last) us → Goes d (at_line k e) ts (def_name b k) us
def_begins k e b ts us w h = state_is (goes h refl refl) (ap (λ i. def_name i k) (sym w))

pub row_begins : {d : Dialect} (k : Blocks) (e : ℕ) (ts : Left) → first_lexeme ts.items ≢ None → first_lexeme ts.items ≢ Some newline → first_lexeme ts.items ≢ Some dedent → first_lexeme ts.items ≢ Some keyword_if → first_lexeme ts.items ≢ Some keyword_for → first_lexeme ts.items ≢ Some keyword_def → Goes d (at_line k e) ts (wants_small (line no_statements (at_block k))) ts
row_begins k e ts z n b i f g = runs_as (go ts.items refl)
  where
    here : (y : Lexeme) (i j : ℕ) → y ≢ newline → y ≢ dedent → y ≢ keyword_if → y ≢ keyword_for → y ≢ keyword_def → move (at_line k e) y i j ≡ move (wants_small (line no_statements (at_block k))) y i j
    here newline i j a b c d e = absurd (a refl)
    here dedent i j a b c d e = absurd (b refl)
    here keyword_if i j a b c d e = absurd (c refl)
    here keyword_for i j a b c d e = absurd (d refl)
    here keyword_def i j a b c d e = absurd (e refl)
    here _ i j a b c d e = refl

    go : (xs : List Item) → ts.items ≡ xs → run (at_line k e) xs ≡ run (wants_small (line no_statements (at_block k))) xs
    go [] q = absurd (z (ap first_lexeme q))
    go (x ∷ xs) q = runs (at_line k e) x xs ∙ ap (arrive x xs None) (here x.lexeme x.begin x.end (not_next ts x xs newline n q) (not_next ts x xs dedent b q) (not_next ts x xs keyword_if i q) (not_next ts x xs keyword_for f q) (not_next ts x xs keyword_def g q)) ∙ sym (runs (wants_small (line no_statements (at_block k))) x xs)
