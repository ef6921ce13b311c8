-- Statements in a row.
use Rattle.std.proofs.Common.{◌≡◌, ◌≢◌, subst, ℕ, List, [], ◌∷◌, ◌++◌, Some, None, Bool, true, false, if◌then◌else◌, length, fold, refl, ap, sym, ◌∙◌}
use Rattle.std.proofs.lemmas.List.Sums.{fold-append}
use Rattle.std.specs.Bool.{MatchBool}
use Rattle.starlark_lexer.specs.Items.{Lexeme, Item, item, dedent, newline, semicolon}
use Rattle.starlark_lexer.specs.declared.dialect.Dialect.{Dialect}
use Rattle.starlark_ast.specs.Tree.{Statement, Sequence, add_statement, no_statements, block, statement_place}
use Rattle.starlark_read.specs.declared.kind.Kind.TheVariants as kind
use Rattle.starlark_read.specs.Kinds.{kind_ahead}
use Rattle.starlark_grammar.specs.Frames.{Rows, State, at_line, behind_small, line, outer}
use Rattle.starlark_grammar.specs.Machine.{end_row, end_small, move}
use Rattle.starlark_grammar.specs.Runs.{run}
use Rattle.starlark_grammar.specs.Verdicts.{Unexpected, judge}
use Rattle.starlark_grammar.specs.Made.{sequence_of}
use Rattle.starlark_grammar.specs.Nodes.{block_of, first_begin, start}
use Rattle.starlark_read.specs.Reads.{Left, first_lexeme, Passes, Goes, Sticks}
use Rattle.starlark_grammar.specs.Spans.{stretch}
use Rattle.starlark_read.proofs.Exits.{◌>>◌, goes, not_next, renamed, same_end, state_is, stops}
use Rattle.starlark_grammar.proofs.Steps.{stays_at}

module _ {X : Type 0} (f : X → Statement) where
  behind_two : (ss : Sequence) (r s : Statement) (zs : List X) (e : ℕ) → let all = fold (λ ss x. add_statement ss (f x)) (add_statement (add_statement ss r) s) zs in block_of all e ≡ block all (stretch (first_begin (add_statement (add_statement ss r) s)) e)
  behind_two ss r s [] e = refl
  behind_two ss r s (z ∷ zs) e = behind_two (add_statement ss r) s (f z) zs e

  -- none or several
  pub block_of_others : (xs : List X) (b e : ℕ) → length xs ≢ 1 → (xs ≡ [] → b ≡ e) → ((x : X) (ys : List X) → xs ≡ x ∷ ys → b ≡ (statement_place (f x)).begin) → block (sequence_of f xs) (stretch b e) ≡ block_of (sequence_of f xs) e
  block_of_others [] b e h n s = ap (λ z. block no_statements (stretch z e)) (n refl)
  block_of_others (x ∷ []) b e h n s = absurd (h refl)
  block_of_others (x ∷ y ∷ ys) b e h n s = ap (λ z. block (sequence_of f (x ∷ y ∷ ys)) (stretch z e)) (s x (y ∷ ys) refl) ∙ sym (behind_two no_statements (f x) (f y) ys e)

  -- one more
  pub statement_more : (xs ys : List X) (x : X) → ys ≡ xs ++ x ∷ [] → sequence_of f ys ≡ add_statement (sequence_of f xs) (f x)
  statement_more xs ys x w = ap (sequence_of f) w ∙ fold-append (λ ss y. add_statement ss (f y)) no_statements xs (x ∷ [])

-- what stands behind a small statement ends its line, or not
pub row_over : {d : Dialect} {s : State} (u v : State) {b : Bool} {ts us : Left} → b ≡ true → Goes d s ts (if b then u else v) us → Goes d s ts u us
row_over u v h g = state_is g (ap (λ z. if z then u else v) h)

pub row_goes_on : {d : Dialect} {s : State} (u v : State) {b : Bool} {ts us : Left} → b ≡ false → Goes d s ts (if b then u else v) us → Goes d s ts v us
row_goes_on u v h g = state_is g (ap (λ z. if z then u else v) h)

-- a line ends, behind a semicolon or not
pub row_ends : {d : Dialect} (s : Statement) (done : Sequence) (k : Rows) (ts us vs : Left) (b : Bool) → MatchBool b (Passes ts (item (start ts.items) semicolon us.last) us) ((us ≡ ts) × (first_lexeme ts.items ≢ Some semicolon)) → Passes us (item (start us.items) newline vs.last) vs → Goes d (behind_small s (line done k)) ts (end_row k (block_of (add_statement done s) vs.last) vs.last) vs
row_ends s done k ts us vs true h p = goes h refl refl >> goes p refl refl
row_ends s done k ts us vs false h p = renamed h.0 >> goes p refl refl

-- the same line by another name
pub row_is : {d : Dialect} {s : State} (k : Rows) (ss ns : Sequence) (x : Statement) (b e : ℕ) {ts us : Left} → Goes d s ts (end_row k (block_of ss e) e) us → x ≡ block_of ns b → ns ≡ ss → b ≡ e → Goes d s ts (end_row k x e) us
row_is k ss ns x b e g h n q = state_is g (ap (λ z. end_row k z e) (sym (h ∙ ap (λ z. block_of z b) n ∙ ap (block_of ss) q)))

pub no_row_end : {d : Dialect} (s : Statement) (done : Sequence) (k : Rows) (ts : Left) → first_lexeme ts.items ≢ Some semicolon → first_lexeme ts.items ≢ Some newline → Sticks d (behind_small s (line done k)) ts ts
no_row_end s done k ts a b = stops (behind_small s (line done k)) ts refl refl (λ x xs q. here x.lexeme x.end (not_next ts x xs semicolon a q) (not_next ts x xs newline b q))
  where
    here : (y : Lexeme) (j : ℕ) → y ≢ semicolon → y ≢ newline → end_small (line done k) s y j ≡ None
    here semicolon j a b = absurd (a refl)
    here newline j a b = absurd (b refl)
    here _ j a b = refl

pub some_there : (xs : List Item) → kind_ahead xs ≢ kind.End → first_lexeme xs ≢ None
some_there [] h w = h refl
some_there (x ∷ xs) h w = absurd (let n : Some x.lexeme ≡ None = w in (cc))

-- at the beginning of a line of the module no suite ends
pub no_suite_end : {d : Dialect} (ss : Sequence) (e : ℕ) (ts : Left) → first_lexeme ts.items ≡ Some dedent → Sticks d (at_line (outer ss) e) ts ts
no_suite_end {d} ss e ts h = record { same = go ts.items h; behind = same_end }
  where
    here : (y : Lexeme) (i j : ℕ) → y ≡ dedent → move (at_line (outer ss) e) y i j ≡ None
    here y i j w = subst (λ z. move (at_line (outer ss) e) z i j ≡ None) (sym w) refl

    go : (xs : List Item) → first_lexeme xs ≡ Some dedent → judge d (run (at_line (outer ss) e) xs) ≡ Unexpected xs
    go [] h = absurd (let n : None ≡ Some dedent = h in (cc))
    go (x ∷ xs) h = ap (judge d) (stays_at (at_line (outer ss) e) x xs refl (here x.lexeme x.begin x.end (let n : Some x.lexeme ≡ Some dedent = h in (cc))))
