-- Behind a line end the machine is at a line's beginning, behind a suite, or before an Indent.
use Rattle.std.proofs.Common.{ℕ, ◌≡◌, Option, Some, None, refl, sym, subst}
use Rattle.starlark_lexer.specs.Items.{newline}
use Rattle.starlark_ast.specs.Tree as tree
use Rattle.starlark_ast.specs.Tree.{Expr, Statement}
use Rattle.starlark_grammar.specs.Spans.{stretch}
use Rattle.starlark_grammar.specs.Nodes.{leaf_at}
use Rattle.starlark_grammar.specs.Tables.{round, square, curly}
use Rattle.starlark_grammar.specs.Points as p
use Rattle.starlark_grammar.specs.Points.{Frame, Point, After, becomes, goes_to, after, turn, opens}
use Rattle.starlark_grammar.specs.Frames as f
use Rattle.starlark_grammar.specs.Frames.{Blocks, Ifs, Suites, Rows, Line, Spots, Lists, Frames, State}
use Rattle.starlark_grammar.specs.Machine.{close, end_row, end_small, accept, accept_list, fed, feed, opened, else_state, perhaps, move, tails, goes}

-- where a line may begin, behind a token that ends there
pub data Row (e : ℕ) : State → Type 0 where
  row_line : {k : Blocks} → Row e (f.at_line k e)
  row_for : {l : Expr} {k : Blocks} → Row e (f.behind_for l k e)
  row_if : {q : Expr} {s : Statement} {b : ℕ} {k : Ifs} → Row e (f.behind_if q s b e k)
  row_indent : {k : Suites} → Row e (f.wants_indent k)

abbrev pub RowOr : ℕ → Option State → Type 0
RowOr e None = Unit {0}
RowOr e (Some s) = Row e s

pub close_row : (k : Suites) (s : Statement) (e : ℕ) → Row e (close k s e)
close_row (f.of_if q b k) s e = row_if
close_row (f.of_else q r b k) s e = row_line
close_row (f.of_for l q b k) s e = row_for
close_row (f.of_def (f.head b n k) ps t) s e = row_line

end_row_row : (k : Rows) (s : Statement) (e : ℕ) → Row e (end_row k s e)
end_row_row (f.at_block k) s e = row_line
end_row_row (f.at_suite k) s e = close_row k s e

small_row : (k : Line) (s : Statement) (j : ℕ) → RowOr j (end_small k s newline j)
small_row (f.line done k) s j = end_row_row k _ j

-- no line end stands in an expression
turn_none : (t : Point) (i j : ℕ) → turn t newline i j ≡ None
turn_none (p.member_wanted (p.brackets round b) ms t e g) i j = refl
turn_none (p.member_wanted (p.brackets square b) ms t e g) i j = refl
turn_none (p.member_wanted (p.brackets curly b) ms t e g) i j = refl
turn_none (p.member_wanted (p.behind q) ms t e g) i j = refl
turn_none (p.member_wanted (p.before_body b) ms t e g) i j = refl
turn_none (p.member_wanted (p.targets_in c b m cs) ms t e g) i j = refl
turn_none (p.member_read (p.brackets round b) ms e g) i j = refl
turn_none (p.member_read (p.brackets square b) ms e g) i j = refl
turn_none (p.member_read (p.brackets curly b) ms e g) i j = refl
turn_none (p.member_read (p.behind q) ms e g) i j = refl
turn_none (p.member_read (p.before_body b) ms e g) i j = refl
turn_none (p.member_read (p.targets_in c b m cs) ms e g) i j = refl
turn_none (p.clauses_read round b m cs) i j = refl
turn_none (p.clauses_read square b m cs) i j = refl
turn_none (p.clauses_read curly b m cs) i j = refl
turn_none (p.key_read b ms e g q) i j = refl
turn_none (p.star_read b ms e g h) i j = refl
turn_none (p.stars_read b ms e g) i j = refl
turn_none (p.name_read b ms e n g h) i j = refl
turn_none (p.bound_wanted q bs) i j = refl
turn_none (p.bound_read q bs s) i j = refl
turn_none (p.second_read q s t) i j = refl
turn_none (p.attribute_wanted q) i j = refl
turn_none (p.not_read l) i j = refl
turn_none (p.condition_read t c) i j = refl
turn_none (p.piece_wanted b x ms) i j = refl
turn_none (p.field_read b x ms q) i j = refl
turn_none (p.letter_wanted b x ms q g h) i j = refl
turn_none (p.letter_read b x ms) i j = refl

goes_row : (t : Point) (k : Frames) (i j : ℕ) → RowOr j (goes k (turn t newline i j))
goes_row t k i j = subst (λ o. RowOr j (goes k o)) (sym (turn_none t i j)) tt

accept_row : (k : Spots) (q : Expr) (e j : ℕ) → RowOr j (accept k q e newline j)
accept_row (f.first b k) q e j = small_row k _ j
accept_row (f.annotation l b k) q e j = tt
accept_row (f.test b k) q e j = tt
accept_row (f.source l b k) q e j = tt
accept_row (f.param_type h ps y n b) q e j = tt
accept_row (f.param_default h ps n t b) q e j = tt
accept_row (f.result_type h ps) q e j = tt

accept_list_row : (k : Lists) (q : Expr) (e j : ℕ) → RowOr j (accept_list k q e newline j)
accept_list_row (f.left b k) q e j = tt
accept_list_row (f.right l t o b k) q e j = small_row k _ j
accept_list_row (f.returned b k) q e j = small_row k _ j
accept_list_row (f.target b k) q e j = tt

feed_row : (k : Frames) (q : Expr) (e i j : ℕ) → RowOr j (feed k q e newline i j)
feed_row (f.tail n k) q e i j = feed_row k q e i j
feed_row (f.inside g k) q e i j = by (after g q e) (λ s. feed_row k s e i j)
  where
    by : (a : After) → ((s : Expr) → RowOr j (feed k s e newline i j)) → RowOr j (fed a (λ s. feed k s e newline i j) k newline i j)
    by (becomes s) again = again s
    by (goes_to t) again = goes_row t k i j
feed_row (f.listed ms b k) q e i j = accept_list_row k _ e j
feed_row (f.spot k) q e i j = accept_row k q e j

perhaps_row : (t : Point) (i j : ℕ) (k : Frames) → RowOr j (perhaps t newline i j k)
perhaps_row (p.member_wanted (p.behind q) ms t e g) i j k = tt
perhaps_row _ i j k = tt

opened_row : (o : Option (ℕ × Frame)) (i j : ℕ) (k : Frames) → RowOr j (opened o newline i j k)
opened_row None i j k = tt
opened_row (Some o) i j k = tt

or_row : (j : ℕ) (a b : Option State) → RowOr j a → RowOr j b → RowOr j (else_state a b)
or_row j None b h k = k
or_row j (Some s) b h k = h

pub newline_row : (s : State) (i j : ℕ) → RowOr j (move s newline i j)
newline_row (f.wants n k) i j = tt
newline_row (f.has q e k) i j = feed_row k q e i j
newline_row (f.stands t k) i j = or_row j (goes k (turn t newline i j)) _ (goes_row t k i j) (or_row j (perhaps t newline i j k) (opened (opens t i) newline i j k) (perhaps_row t i j k) (opened_row (opens t i) i j k))
newline_row (f.perhaps_named q ms g n b h k) i j = feed_row (tails 13 0 (f.inside (p.member (p.behind q) ms g b p.an_argument) k)) (leaf_at (tree.name n) (stretch b h)) h i j
newline_row (f.wants_list k) i j = tt
newline_row (f.wants_next ms b m k) i j = tt
newline_row (f.at_line k e) i j = row_line
newline_row (f.behind_for l k e) i j = row_line
newline_row (f.behind_if q s b e k) i j = row_line
newline_row (f.wants_colon k) i j = tt
newline_row (f.wants_suite k) i j = row_indent
newline_row (f.wants_indent k) i j = row_indent
newline_row (f.behind_small s k) i j = small_row k s j
newline_row (f.wants_small (f.line done k)) i j = end_row_row k _ j
newline_row (f.behind_return b e k) i j = small_row k _ j
newline_row (f.load_opens b k) i j = tt
newline_row (f.load_module b k) i j = tt
newline_row (f.load_named b m k) i j = tt
newline_row (f.load_symbol b m ss k) i j = tt
newline_row (f.load_equal b m ss n k) i j = tt
newline_row (f.load_other b m ss n k) i j = tt
newline_row (f.load_behind b m ss s k) i j = tt
newline_row (f.def_name b k) i j = tt
newline_row (f.def_opens h) i j = tt
newline_row (f.wants_param h ps) i j = tt
newline_row (f.behind_star h ps b e) i j = tt
newline_row (f.behind_stars h ps b) i j = tt
newline_row (f.behind_name h ps y n b e) i j = tt
newline_row (f.behind_param h ps) i j = tt
newline_row (f.wants_result h ps) i j = tt
