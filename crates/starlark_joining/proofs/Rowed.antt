-- A line that may begin behind a suite begins as any other line, but for `else` and `elif`.
use Rattle.std.proofs.Common.{ℕ, ◌≡◌, ◌∷◌, ◌∙◌, [], List, Option, Some, None, false, refl, ap, sym, true≢false}
use Rattle.starlark_grammar.specs.Spans.{stretch}
use Rattle.starlark_lexer.specs.Items.{Lexeme, newline, dedent, keyword_elif, keyword_else, Item, item}
use Rattle.starlark_ast.specs.Tree.{Expr, Sequence, Statement, add_statement, when}
use Rattle.starlark_grammar.specs.Events.{Event, looped}
use Rattle.starlark_grammar.specs.Nodes.{block_of}
use Rattle.starlark_grammar.specs.Frames.{Blocks, inner, Ifs, Suites, of_if, of_else, of_for, of_def, head, at_line, behind_for, behind_if}
use Rattle.starlark_grammar.specs.Machine.{settled, close}
use Rattle.starlark_grammar.specs.Runs.{note, run}
use Rattle.starlark_grammar.proofs.Steps.{runs, runs_end}
use Rattle.starlark_joining.specs.Relaid.{NoElse, is_else}
use Rattle.starlark_joining.proofs.Walking.{runs_on}
use Rattle.starlark_joining.proofs.Tops.{closed}

pub for_runs : (l : Expr) (k : Blocks) (e : ℕ) (ys : List Item) → run (behind_for l k e) ys ≡ note ys (Some (looped l)) (run (at_line k e) ys)
for_runs l k e [] = runs_end (behind_for l k e) ∙ ap (note [] (Some (looped l))) (sym (runs_end (at_line k e)))
for_runs l k e (x ∷ xs) = runs (behind_for l k e) x xs ∙ ap (note (x ∷ xs) (Some (looped l))) (sym (runs (at_line k e) x xs))

pub if_runs : (q : Expr) (s : Statement) (p e : ℕ) (k : Ifs) (ys : List Item) → NoElse ys → run (behind_if q s p e k) ys ≡ run (at_line (settled k (when q s (stretch p e)) e) e) ys
if_runs q s p e k [] h = runs_end (behind_if q s p e k) ∙ sym (runs_end (at_line (settled k (when q s (stretch p e)) e) e))
if_runs q s p e k (x ∷ xs) h = by x.lexeme x.begin x.end h
  where
    by : (y : Lexeme) (i j : ℕ) → is_else y ≡ false → run (behind_if q s p e k) (item i y j ∷ xs) ≡ run (at_line (settled k (when q s (stretch p e)) e) e) (item i y j ∷ xs)
    by keyword_else i j h = absurd (true≢false h)
    by keyword_elif i j h = absurd (true≢false h)
    by y i j h = runs (behind_if q s p e k) (item i y j) xs ∙ sym (runs (at_line (settled k (when q s (stretch p e)) e) e) (item i y j) xs)

-- what is met behind a suite
abbrev pub closing : Suites → Option Event
closing (of_for l q p k) = Some (looped l)
closing _ = None

close_runs : (k : Suites) (s : Statement) (e : ℕ) (ys : List Item) → NoElse ys → run (close k s e) ys ≡ note ys (closing k) (run (at_line (closed k s e) e) ys)
close_runs (of_if q p k) s e ys h = if_runs q s p e k ys h
close_runs (of_else q r p k) s e ys h = refl
close_runs (of_for l q p k) s e ys h = for_runs l _ e ys
close_runs (of_def (head p n k) ps t) s e ys h = refl

-- a Dedent
pub dedent_runs : (ss : Sequence) (s : Statement) (k : Suites) (e i j : ℕ) (ys : List Item) → NoElse ys → run (at_line (inner (add_statement ss s) k) e) (item i dedent j ∷ ys) ≡ note ys (closing k) (run (at_line (closed k (block_of (add_statement ss s) e) j) j) ys)
dedent_runs ss s k e i j ys h = runs_on (at_line (inner (add_statement ss s) k) e) (close k (block_of (add_statement ss s) e) j) (item i dedent j) ys refl ∙ close_runs k (block_of (add_statement ss s) e) j ys h

-- a line end
pub newline_runs : (k : Blocks) (e i j : ℕ) (ys : List Item) → run (at_line k e) (item i newline j ∷ ys) ≡ run (at_line k j) ys
newline_runs k e i j ys = runs_on (at_line k e) (at_line k j) (item i newline j) ys refl
