-- Tokens that go on to a program at a line's beginning do so by line ends, a line `pass` and Dedents.
use Rattle.std.proofs.Common.{ℕ, ◌≡◌, ◌+◌, ◌∷◌, ◌++◌, ◌∙◌, [], suc, List, Some, true, false, refl, ap, sym, subst, arith, count_by}
use Rattle.std.proofs.lemmas.Bool.{false≢true}
use Rattle.std.proofs.lemmas.List.{map-append, append_assoc}
use Rattle.starlark_grammar.specs.Spans.{stretch}
use Rattle.starlark_lexer.specs.Items.{Lexeme, newline, indent, dedent, dedents, keyword_pass, Item, item}
use Rattle.starlark_lexer.specs.declared.dialect.Dialect.{Dialect}
use Rattle.starlark_lexer.specs.Joining.{dedent_item, IsEven}
use Rattle.starlark_ast.specs.Tree.{Statement, no_statements, pass}
use Rattle.starlark_grammar.specs.Grammar.{Derives}
use Rattle.starlark_grammar.specs.Frames.{inner, Suites, at_block, line, State, at_line, behind_for, behind_if, wants_indent, behind_small}
use Rattle.starlark_grammar.specs.Machine.{step}
use Rattle.starlark_grammar.specs.Runs.{initial}
use Rattle.starlark_grammar.specs.Completion.{spelled, completion}
use Rattle.starlark_grammar.specs.Language.{bare, IsViable}
use Rattle.starlark_cutting.specs.Cutting.{indent_item}
use Rattle.starlark_cutting.specs.Opened.{outside, Way, Put, put_lexemes}
use Rattle.starlark_completion.specs.Shapes.{depth, nest, Stage, at_beginning, in_block, before_block, stage, is_within}
use Rattle.starlark_completion.specs.Ending.{no_token, a_dedent, kind_of, last_of, goes_on_line, copies, Goes, Ending, CanEnd, IsAtLine, IsBehindBlock}
use Rattle.starlark_completion.specs.Ending as ending
use Rattle.starlark_completion.specs.Laws.{Laws}
use Rattle.starlark_completion.proofs.Counting.{even}
use Rattle.starlark_grammar.proofs.Behind.{Path}
use Rattle.starlark_completion.proofs.Running.{Accepted, accepted_step, accepted_steps, reached, runs_on, path_same, goes_by}
use Rattle.starlark_completion.proofs.Lined.{newlines, lined}
use Rattle.starlark_completion.proofs.Closed.{front_of}
use Rattle.starlark_completion.proofs.Completed.{InLine, closes}
use Rattle.starlark_completion.proofs.Ways.{Fits, path_way, path_depth, path_stage, Where, a_line, a_beginning, a_block, a_blank, where_it_is}
use Rattle.starlark_completion.proofs.Passed.{falls, pass_lines, spelled_bare, dedents_bare, lines_bare}
use Rattle.starlark_completion.proofs.Dedented.{dedent_begins}
use Rattle.starlark_completion.proofs.Cutting.{last_there}

-- in a line
pub record InLineEnding (w : List Item) (s : State) : Type 0 where
  pub front : List Put
  pub way : Way (nest s) (put_lexemes front) (outside 0)
  pub goes : (n : ℕ) → Goes (bare w ++ (put_lexemes front ++ newline ∷ (copies n newline ++ copies (depth s) dedent)))

lexemes_behind : (w ts : List Item) (xs : List Lexeme) → bare ts ≡ xs → bare (w ++ ts) ≡ bare w ++ xs
lexemes_behind w ts xs q = map-append (λ (y : Item). y.lexeme) w ts ∙ ap (λ ys. bare w ++ ys) q

pub in_a_line : Laws → {w : List Item} {s : State} → Path initial w s → InLine (stage s) → InLineEnding w s
in_a_line laws {w} {s} p i =
    let k = depth s in
    let f = front_of (closes s i) in
    let t = spelled 0 (put_lexemes f.front) (item 0 newline 0 ∷ dedents 0 k) in
    let spelled_t : bare t ≡ bare (completion s) = spelled_bare (put_lexemes f.front) (item 0 newline 0 ∷ dedents 0 k) ∙ ap (λ ys. put_lexemes f.front ++ newline ∷ ys) (dedents_bare k) ∙ sym f.parts in
    let whole : Goes (bare (w ++ completion s)) = goes_by laws (w ++ completion s) (bare (w ++ completion s)) (runs_on p (completion s) (laws.completes s)) refl in
    let d = whole (w ++ t) (lexemes_behind w t (bare (completion s)) spelled_t ∙ sym (map-append (λ (y : Item). y.lexeme) w (completion s))) in
    let a : Accepted s t = (d.0, sym (path_same p t) ∙ laws.complete (w ++ t) d.0 d.1) in
    record {
      front = f.front;
      way = f.way;
      goes = λ n.
          let u = spelled 0 (put_lexemes f.front) (item 0 newline 0 ∷ newlines n (dedents 0 k)) in
          goes_by laws (w ++ u) (bare w ++ (put_lexemes f.front ++ newline ∷ (copies n newline ++ copies k dedent))) (runs_on p u (pass_lines f.front s k n refl a))
          (lexemes_behind w u (put_lexemes f.front ++ newline ∷ (copies n newline ++ copies k dedent)) (spelled_bare (put_lexemes f.front) (item 0 newline 0 ∷ newlines n (dedents 0 k)) ∙ ap (λ ys. put_lexemes f.front ++ newline ∷ ys) (lines_bare n k)));
    }

-- at a line's beginning nothing is open
line_nest : (s : State) → is_within (stage s) ≡ false → nest s ≡ outside 0
line_nest (at_line k e) q = refl
line_nest (behind_for l k e) q = refl
line_nest (behind_if t s p e k) q = refl
line_nest (wants_indent k) q = refl
line_nest _ q = absurd (let z : true ≡ false = q in (cc))

line_even : {w : List Item} {s : State} → Path initial w s → is_within (stage s) ≡ false → IsEven w
line_even {w} {s} p q = even w (subst (λ r. Way (outside 0) (bare w) r) (line_nest s q) (path_way p))

-- there line ends and Dedents go on
line_goes : Laws → {w : List Item} {s : State} → Path initial w s → stage s ≡ at_beginning → (n : ℕ) → Goes (bare w ++ (copies n newline ++ copies (depth s) dedent))
line_goes laws {w} {s} p g n = let u = newlines n (dedents 0 (depth s)) in goes_by laws (w ++ u) _ (runs_on p u (lined s g n)) (lexemes_behind w u _ (lines_bare n (depth s)))

-- a line `pass` in a block that has no statement yet
abbrev IsBlock : Stage → Type 0
IsBlock in_block = Unit {0}
IsBlock g = ⊥

abbrev IsBefore : Stage → Type 0
IsBefore before_block = Unit {0}
IsBefore g = ⊥

pass_line : (s : State) (k : Suites) (n : ℕ) → step s (item 0 keyword_pass 0) ≡ Some (behind_small (pass (stretch 0 0)) (line no_statements (at_block (inner no_statements k)))) → Accepted s (item 0 keyword_pass 0 ∷ item 0 newline 0 ∷ newlines n (dedents 0 (depth (at_line (inner no_statements k) 0))))
pass_line s k n q = accepted_step s _ (item 0 keyword_pass 0) (item 0 newline 0 ∷ newlines n (dedents 0 (depth (at_line (inner no_statements k) 0)))) q (accepted_step (behind_small (pass (stretch 0 0)) (line no_statements (at_block (inner no_statements k)))) _ (item 0 newline 0) (newlines n (dedents 0 (depth (at_line (inner no_statements k) 0)))) refl (lined _ refl n))

in_a_block : (s : State) → IsBlock (stage s) → (n : ℕ) → Accepted s (item 0 keyword_pass 0 ∷ item 0 newline 0 ∷ newlines n (dedents 0 (depth s)))
in_a_block (at_line (inner no_statements k) e) b n = pass_line (at_line (inner no_statements k) e) k n refl
in_a_block (behind_for l (inner no_statements k) e) b n = pass_line (behind_for l (inner no_statements k) e) k n refl
in_a_block _ b n = elim b [ ]

before_a_block : (s : State) → IsBefore (stage s) → (n : ℕ) → Accepted s (item 0 indent 0 ∷ item 0 keyword_pass 0 ∷ item 0 newline 0 ∷ newlines n (dedents 0 (suc (depth s))))
before_a_block (wants_indent k) b n = accepted_step (wants_indent k) (at_line (inner no_statements k) 0) (item 0 indent 0) (item 0 keyword_pass 0 ∷ item 0 newline 0 ∷ newlines n (dedents 0 (suc (depth (wants_indent k))))) refl (in_a_block (at_line (inner no_statements k) 0) tt n)
before_a_block (at_line (inner no_statements k) e) b n = elim b [ ]
before_a_block (behind_for l (inner no_statements k) e) b n = elim b [ ]
before_a_block _ b n = elim b [ ]

-- the three
by_place : Laws → {w : List Item} {s : State} → Path initial w s → Where (last_of no_token w) (stage s) → goes_on_line (last_of no_token w) ≡ false → Ending w (depth s)
by_place laws p (a_line q g) z = absurd (false≢true (sym z ∙ q))
by_place laws p (a_beginning q g) z = ending.at_line q (line_even p (ap is_within g)) (line_goes laws p g)
by_place laws {w} {s} p (a_block q g) z =
    ending.before_block q (line_even p (ap is_within g))
    (λ n.
    let u = newlines n (dedents 0 (suc (depth s))) in
    let v = item 0 indent 0 ∷ item 0 keyword_pass 0 ∷ item 0 newline 0 ∷ u in
    goes_by laws (w ++ v) _ (runs_on p v (before_a_block s (subst IsBefore (sym g) tt) n)) (lexemes_behind w v _ (ap (λ ys. indent ∷ keyword_pass ∷ newline ∷ ys) (lines_bare n (suc (depth s))))))
by_place laws {w} {s} p (a_blank q g) z =
    ending.in_block q (line_even p (ap is_within g))
    (λ n.
    let u = newlines n (dedents 0 (depth s)) in
    let v = item 0 keyword_pass 0 ∷ item 0 newline 0 ∷ u in
    goes_by laws (w ++ v) _ (runs_on p v (in_a_block s (subst IsBlock (sym g) tt) n)) (lexemes_behind w v _ (ap (λ ys. keyword_pass ∷ newline ∷ ys) (lines_bare n (depth s)))))

-- so many blocks are open
blocks_open : {w : List Item} {s : State} → Path initial w s → count_by indent_item w ≡ depth s + count_by dedent_item w
blocks_open p = let h = path_depth p in omega (arith, h)

pub can_end : Laws → (w rest : List Item) (raw : Statement) → Derives (w ++ rest) raw → goes_on_line (last_of no_token w) ≡ false → CanEnd w
can_end laws w rest raw d q =
    let r = reached w rest initial (raw, laws.complete (w ++ rest) raw d) in
    record { depth = depth r.state; blocks = blocks_open r.path; ending = by_place laws r.path (where_it_is (last_of no_token w) (stage r.state) (path_stage no_token r.path refl)) q }

-- before a Dedent a line begins
pub before_dedent : Laws → (w rest : List Item) (z : Item) (raw : Statement) → Derives (w ++ z ∷ rest) raw → z.lexeme ≡ dedent → IsAtLine w
before_dedent laws w rest z raw d q =
    let r = reached w (z ∷ rest) initial (raw, laws.complete (w ++ z ∷ rest) raw d) in
    let h = accepted_steps r.state z rest r.accepted in
    let g = dedent_begins r.state h.state z q h.steps in
    record { depth = depth r.state; blocks = blocks_open r.path; even = line_even r.path (ap is_within g); goes = line_goes laws r.path g }

-- behind a Dedent one begins too
pub behind_dedent : Laws → (w rest : List Item) (raw : Statement) → Derives (w ++ rest) raw → last_of no_token w ≡ a_dedent → IsBehindBlock w
behind_dedent laws w rest raw d q =
    let r = reached w rest initial (raw, laws.complete (w ++ rest) raw d) in
    let s = r.state in
    let g : stage s ≡ at_beginning = subst (λ l. Fits l (stage s)) q (path_stage no_token r.path refl) in
    record {
      depth = depth s;
      blocks = blocks_open r.path;
      goes = λ j k n e.
          let u = item 0 keyword_pass 0 ∷ item 0 newline 0 ∷ newlines n (dedents 0 k) in
          let v = dedents 0 j ++ u in
          goes_by laws (w ++ v) _ (runs_on r.path v (falls j k n s g e))
          (lexemes_behind w v _ (lexemes_behind (dedents 0 j) u _ (ap (λ ys. keyword_pass ∷ newline ∷ ys) (lines_bare n k)) ∙ ap (λ ys. ys ++ (keyword_pass ∷ newline ∷ (copies n newline ++ copies k dedent))) (dedents_bare j)));
    }

-- where a rule does not matter
pub viable_ends : Laws → (dialect : Dialect) (w : List Item) → IsViable dialect w → goes_on_line (last_of no_token w) ≡ false → CanEnd w
viable_ends laws dialect w v q = can_end laws w v.rest v.raw v.derives q

pub viable_line : Laws → (dialect : Dialect) (w : List Item) (z : Item) → z.lexeme ≡ dedent → IsViable dialect (w ++ z ∷ []) → IsAtLine w
viable_line laws dialect w z q v = before_dedent laws w v.rest z v.raw (subst (λ u. Derives u v.raw) (append_assoc w (z ∷ []) v.rest) v.derives) q

pub viable_block : Laws → (dialect : Dialect) (w : List Item) (z : Item) → z.lexeme ≡ dedent → IsViable dialect (w ++ z ∷ []) → IsBehindBlock (w ++ z ∷ [])
viable_block laws dialect w z q v = behind_dedent laws (w ++ z ∷ []) v.rest v.raw v.derives (last_there no_token w z ∙ ap kind_of q)
