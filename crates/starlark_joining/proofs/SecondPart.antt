-- The second text behind statements of the first: the machine reads what it reads alone.
use Rattle.std.proofs.Common.{ℕ, ◌≡◌, ◌∷◌, ◌++◌, ◌∙◌, [], List, None, true, false, map, refl, ap, sym, subst, arith}
use Rattle.std.specs.List.{list_all}
use Rattle.starlark_lexer.specs.Items.{Lexeme, keyword_elif, keyword_else, Item, item}
use Rattle.starlark_lexer.specs.Joining.{item_on, line_item}
use Rattle.starlark_lexer.specs.declared.dialect.Dialect.{Dialect}
use Rattle.starlark_ast.specs.Tree.{Sequence, Statement, no_statements}
use Rattle.starlark_grammar.specs.Events.{Event, breaks_at_once}
use Rattle.starlark_grammar.specs.Nodes.{block_of}
use Rattle.starlark_grammar.specs.Language.{without_comments}
use Rattle.starlark_grammar.specs.Marks.{Clean}
use Rattle.starlark_grammar.specs.Frames.{outer, at_line}
use Rattle.starlark_grammar.specs.Runs.{Accepts, bottom, marks_of, run, initial}
use Rattle.starlark_joining.specs.Same.{SameSequence}
use Rattle.starlark_joining.specs.Joined.{SameEvent, behind, Greater}
use Rattle.starlark_joining.specs.Kept.{Moved}
use Rattle.starlark_joining.specs.Relaid.{NoElse, is_else}
use Rattle.starlark_joining.proofs.Walking.{CleanRun, halts}
use Rattle.starlark_joining.proofs.Level.{no_stuck}
use Rattle.starlark_joining.proofs.FirstPart.{Lined, lined}
use Rattle.starlark_grammar.proofs.Uncommented.{without_append}
use Rattle.starlark_joining.proofs.Uncommented.{without_on, all_lines, items_on}
use Rattle.starlark_joining.proofs.SameRuns.{SameTrace, same_runs}
use Rattle.starlark_joining.proofs.SameTraces.{BothAccept, both_accept, marks_same, clean_same}

pub moved_greater : (n : ℕ) → Greater (Moved n)
moved_greater n i j u v p q = omega (arith, p, q)

-- those tokens behind statements, behind a token that ends at f
pub record SecondPart (d : Dialect) (n f : ℕ) (base : Sequence) (us : List Item) (raw : Statement) : Type 0 where
  pub no_else : NoElse us
  pub second : Sequence
  pub second_there : Sequence
  pub end_alone : ℕ
  pub end : ℕ
  pub same : SameSequence (Moved n) second second_there
  pub tree : raw ≡ block_of second end_alone
  pub accepts : bottom (run (at_line (outer base) f) us) ≡ Accepts (block_of (behind base second_there) end)
  pub clean : CleanRun d (at_line (outer base) f) us

-- the first token of what is accepted at a line's beginning
no_else_first : (n : ℕ) (xs : List Item) (e : ℕ) (raw : Statement) → bottom (run (at_line (outer no_statements) e) xs) ≡ Accepts raw → NoElse (map (item_on n) xs)
no_else_first n [] e raw h = tt
no_else_first n (x ∷ xs) e raw h = by x.lexeme x.begin x.end h
  where
    by : (y : Lexeme) (i j : ℕ) → bottom (run (at_line (outer no_statements) e) (item i y j ∷ xs)) ≡ Accepts raw → is_else y ≡ false
    by keyword_else i j h = no_stuck (halts (at_line (outer no_statements) e) (item i keyword_else j) xs refl) h
    by keyword_elif i j h = no_stuck (halts (at_line (outer no_statements) e) (item i keyword_elif j) xs refl) h
    by y i j h = refl

pub second_part : (d : Dialect) (n : ℕ) → ((e f : Event) → SameEvent (Moved n) e f → breaks_at_once d e ≡ None → breaks_at_once d f ≡ None) → (items front more : List Item) (raw : Statement) → items ≡ front ++ more → list_all line_item front ≡ true → bottom (run initial (without_comments items)) ≡ Accepts raw → CleanRun d initial (without_comments items) → (base : Sequence) (f : ℕ) → SecondPart d n f base (without_comments (map (item_on n) more)) raw
second_part d n at_once items front more raw parts lines h c base f = go (lined 0 (outer no_statements) (all_lines front lines))
  where
    tokens : without_comments items ≡ without_comments front ++ without_comments more
    tokens = ap without_comments parts ∙ without_append front more

    go : Lined 0 (outer no_statements) (without_comments front) → SecondPart d n f base (without_comments (map (item_on n) more)) raw
    go m = subst (λ us. SecondPart d n f base us raw) (sym (without_on n more)) (record {
      no_else = no_else_first n (without_comments more) m.end raw alone;
      second = b.first;
      second_there = b.second;
      end_alone = b.first_end;
      end = b.second_end;
      same = b.same;
      tree = b.is_first;
      accepts = b.accepts;
      clean = clean_same d at_once (marks_same trace) (subst (λ t. Clean d (marks_of t)) over c);
    })
      where
        over : run initial (without_comments items) ≡ run (at_line (outer no_statements) m.end) (without_comments more)
        over = ap (run initial) tokens ∙ m.over (without_comments more)

        alone : bottom (run (at_line (outer no_statements) m.end) (without_comments more)) ≡ Accepts raw
        alone = sym (ap bottom over) ∙ h

        trace : SameTrace (Moved n) base (run (at_line (outer no_statements) m.end) (without_comments more)) (run (at_line (outer base) f) (map (item_on n) (without_comments more)))
        trace = same_runs (Moved n) (moved_greater n) base m.end f (items_on n (without_comments more))

        b : BothAccept (Moved n) base raw (run (at_line (outer base) f) (map (item_on n) (without_comments more)))
        b = both_accept raw trace alone
