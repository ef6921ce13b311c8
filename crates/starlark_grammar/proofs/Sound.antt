-- What the machine accepts, marks aside, is derived by the grammar.
use Rattle.std.proofs.Common.{ℕ, ◌≡◌, ◌+◌, ◌-◌, ◌≤◌, ◌∷◌, ◌∙◌, [], zero, suc, List, Option, Some, None, Bool, true, false, nat_eq, cond, refl, ap, sym, subst, arith}
use Rattle.std.proofs.Math.Nat.{le_refl}
use Rattle.starlark_grammar.specs.Spans.{stretch}
use Rattle.starlark_lexer.specs.Items.{Lexeme, newline, indent, dedent, identifier, string, keyword_break, keyword_continue, keyword_def, keyword_elif, keyword_else, keyword_for, keyword_if, keyword_load, keyword_pass, keyword_return, comma, semicolon, colon, equal, star, star_star, slash, minus_greater, opening_round, closing_round, Item, item}
use Rattle.starlark_ast.specs.Tree as tree
use Rattle.starlark_ast.specs.Tree.{Expr, Statement, add_statement, no_statements, when}
use Rattle.starlark_grammar.specs.Nodes.{block_of}
use Rattle.starlark_grammar.specs.Events.{Event}
use Rattle.starlark_grammar.specs.Sorts.{sort, name_of}
use Rattle.starlark_grammar.specs.Tables.{Beginning, leaf, bracket, quoted, signed, lambda, beginning, begins_at, Suffix, dotted, indexed, called, joined, negated, chosen, suffix, below, associates, left_of, grade, arguments, level_of}
use Rattle.starlark_grammar.specs.Expressions as g
use Rattle.starlark_grammar.specs.Expressions.{Level}
use Rattle.starlark_grammar.specs.Loads.{own_name, other_name, no_symbol, next_symbol, alone, with_comma, without_comma}
use Rattle.starlark_grammar.specs.Simple.{returns, breaks_off, continues, passes, loads, row_semicolon}
use Rattle.starlark_grammar.specs.Parameters.{by_itself, named_behind_star, named_behind_stars, a_slash, a_star, a_name, no_param, with_last_comma, untyped}
use Rattle.starlark_grammar.specs.Grammar.{no_line, a_line, only, indented, nothing, blank, Derives, whole}
use Rattle.starlark_grammar.specs.Points.{behind, an_argument, a_named, Frame, member, Point, Outcome, After, after, first_at}
use Rattle.starlark_grammar.specs.Frames.{Blocks, outer, inner, Line, kind_listed, Frames, tail, inside, State, wants, perhaps_named, at_line, behind_for, behind_if}
use Rattle.starlark_grammar.specs.Machine.{settled, tails, goes, enter, goes_on, begun, begin, begin_with, begin_small, begin_line, fed, feed, opened, else_state, some_state, perhaps, move, step}
use Rattle.starlark_grammar.specs.Runs.{met, Trace, Accepts, Stuck, bottom, note, end_line, finish, run, initial}
use Rattle.starlark_grammar.proofs.Sorts.{same_sort, by_cases}
use Rattle.starlark_grammar.proofs.Steps.{arrive, runs, runs_end}
use Rattle.starlark_grammar.proofs.Reached.{Given, no_members, Within, in_brackets, in_call, in_lambda, none_yet, Reached, r_wanted, r_member, r_bound, r_attribute, r_not, r_condition, r_piece, Followed, f_becomes, f_goes, Began, began, Leads, l_none, l_reach, l_want, l_made, as_second_given, one_more, first_is, turn_leads, Opens, o_none, o_some, opens_hold}
use Rattle.starlark_grammar.proofs.Waiting.{WaitsLine, w_outer, w_inner, w_if, w_elif, w_else, w_def, w_head, w_block, w_suite, WaitsSmall, w_first, w_next, w_small, w_test, w_type, w_default, w_result, w_return, w_target, w_list, Waits, w_tail, w_inside, w_listed, w_spot, Holds, h_wants, h_has, h_stands, h_named, h_list, h_next, h_line, h_for, h_if, h_colon, h_suite, h_indent, h_small, h_semicolon, h_return, h_load_opens, h_load_module, h_load_named, h_load_symbol, h_load_equal, h_load_other, h_load_behind, h_def_name, h_def_opens, h_param, h_star, h_stars, h_name, h_behind_param, h_result, Held, holds_none, holds}
use Rattle.starlark_grammar.proofs.Accepting.{settled_holds, close_holds, end_row_holds, end_small_holds, param_holds, accept_holds, next_comma, next_holds}

pub bottom_note : (n : List Item) (m : Option Event) (v : Trace) → bottom (note n m v) ≡ bottom v
bottom_note n None v = refl
bottom_note n (Some e) v = refl

-- an expression is one of each higher level
pub raise_by : {n e : ℕ} {a b : List Item} {q : tree.Expr} (d : ℕ) → g.Level n a b q e → g.Level (d + n) a b q e
raise_by {n} {e} {a} {b} {q} zero l = subst (λ m. g.Level m a b q e) (zero_add n) l
  where
    zero_add : (n : ℕ) → n ≡ 0 + n
    zero_add n = omega arith
raise_by {n} {e} {a} {b} {q} (suc d) l = subst (λ m. g.Level m a b q e) (suc_add n) (g.above (raise_by d l))
  where
    suc_add : (n : ℕ) → suc (d + n) ≡ suc d + n
    suc_add n = omega arith

pub raise : {n e : ℕ} {a b : List Item} {r : tree.Expr} (q : ℕ) → n ≤ q → g.Level n a b r e → g.Level q a b r e
raise {n} {e} {a} {b} {r} q le l = let w : (q - n) + n ≡ q = omega arith in subst (λ m. g.Level m a b r e) w (raise_by (q - n) l)

-- what stands before an operator is of its level at most
pub left_le : (n : ℕ) → left_of n ≤ n
left_le n = go (associates n)
  where
    go : (b : Bool) → cond b n (n - 1) ≤ n
    go true = omega arith
    go false = omega arith

pub below_left : (n : ℕ) → n ≤ left_of (suc n)
below_left n = go (associates (suc n))
  where
    go : (b : Bool) → n ≤ cond b (suc n) (suc n - 1)
    go true = omega arith
    go false = omega arith

goes_hold : {T a xs : List Item} {k : Frames} {m n : ℕ} {o : Option Outcome} → Waits T k n a → m ≤ n → Leads m a xs o → Held T xs (goes k o)
goes_hold w le l_none = holds_none
goes_hold w le (l_reach p) = holds (h_stands w le p)
goes_hold w le (l_want b) = holds (h_wants (w_inside w le b))
goes_hold {n} w le (l_made d) = holds (h_has w (raise n le d))

-- the frames behind an operator of that level
joined_holds : {T a xs : List Item} {k : Frames} {q : ℕ} {f : Frame} {n : ℕ} (m : ℕ) (b : Bool) → associates m ≡ b → Waits T k q a → m ≤ q → Began f m a n xs → Holds T (wants n (inside f (cond b (tail m k) k))) xs
joined_holds {k} m true e w le b = h_wants (w_inside (w_tail w le (let h : left_of m ≡ m = ap (λ z. cond z m (m - 1)) e in omega arith)) (le_refl m) b)
joined_holds m false e w le b = h_wants (w_inside w le b)

enter_holds : {T a xs : List Item} {k : Frames} {q d i j : ℕ} {l : tree.Expr} {x : Lexeme} (s : Suffix) → suffix x ≡ Some s → grade s ≤ q → Waits T k q a → g.Level (left_of (grade s)) a (item i x j ∷ xs) l d → Holds T (enter s l k) xs
enter_holds dotted h le w d = h_stands (w_tail {m = 0} {n = 0} w le (omega arith)) (omega arith) (r_attribute h d)
enter_holds indexed h le w d = h_stands (w_tail {m = 0} {n = 0} w le (omega arith)) (omega arith) (r_bound h d none_yet)
enter_holds called h le w d = h_stands (w_tail {m = 0} {n = 0} w le (omega arith)) (omega arith) (r_wanted (in_call h d) no_members)
enter_holds (joined o) h le w d = joined_holds (suc (below o)) (associates (suc (below o))) refl w le (began (λ z q e l. f_becomes (g.operate h d l)))
enter_holds negated h le w d = h_stands w le (r_not h d)
enter_holds chosen h le w d = h_wants (w_inside w le (began (λ z q e l. f_goes (r_condition h d l))))

at_level : {n e : ℕ} {a b : List Item} {r : tree.Expr} (q : ℕ) → n ≡ q → g.Level n a b r e → g.Level q a b r e
at_level {n} {e} {a} {b} {r} q w l = subst (λ m. g.Level m a b r e) w l

goes_on_holds : {T a xs : List Item} {k : Frames} {q n m e i j : ℕ} {l : tree.Expr} {other : Option State} (x : Lexeme) (o : Option Suffix) → suffix x ≡ o → Waits T k q a → m ≤ q → n ≤ left_of m → g.Level n a (item i x j ∷ xs) l e → Held T xs other → Held T xs (goes_on o m l k other)
goes_on_holds x None h w high low d f = f
goes_on_holds {T} {xs} {k} {m} {l} {other} x (Some s) h w high low d f = by_cases (Held T xs) (nat_eq (grade s) m) (Some (enter s l k)) other (λ z. let g : grade s ≡ m = grind arith in holds (enter_holds s h (omega arith) w (at_level (left_of (grade s)) (ap left_of (sym g)) (raise (left_of m) low d)))) (λ z. f)

fed_holds : {T a xs : List Item} {k : Frames} {m q e i j : ℕ} {x : Lexeme} (o : After) (again : tree.Expr → Option State) → Followed o m a (item i x j ∷ xs) e → Waits T k q a → m ≤ q → ((s : tree.Expr) → g.Level q a (item i x j ∷ xs) s e → Held T xs (again s)) → Held T xs (fed o again k x i j)
fed_holds {q} o again (f_becomes {q = s} d) w le f = f s (raise q le d)
fed_holds {x} o again (f_goes p) w le f = goes_hold w le (turn_leads x p)

pub feed_holds : {T a xs : List Item} {k : Frames} {n e i j : ℕ} {q : Expr} (x : Lexeme) → Waits T k n a → Level n a (item i x j ∷ xs) q e → Held T xs (feed k q e x i j)
feed_holds x (w_tail {m} {q} w high low) d = goes_on_holds x (suffix x) refl w high low d (feed_holds x w (raise q (omega (arith, left_le m)) d))
feed_holds {e} {i} {j} {q = s} x (w_inside {k} {f} w le (began h)) d = fed_holds (after f s e) (λ z. feed k z e x i j) (h _ s e d) w le (λ z l. feed_holds x w l)
feed_holds comma (w_listed w) d = holds (h_next (next_comma w d))
feed_holds x (w_listed w) d = next_holds x w d
feed_holds x (w_spot w) d = accept_holds x w d

begun_holds : {T xs : List Item} {k : Frames} {q i j : ℕ} {x : Lexeme} (b : Beginning) → beginning x ≡ Some b → Waits T k q (item i x j ∷ xs) → begins_at b ≤ q → Holds T (begun b i j k) xs
begun_holds (leaf l) h w le = h_has (w_tail {m = 0} {n = 0} w le (omega arith)) (g.by_itself h)
begun_holds (bracket p) h w le = h_stands (w_tail {m = 0} {n = 0} w le (omega arith)) (omega arith) (r_wanted (in_brackets h) no_members)
begun_holds quoted h w le = h_stands (w_tail {m = 0} {n = 0} w le (omega arith)) (omega arith) (r_piece h g.no_piece)
begun_holds (signed tree.Not) h w le = h_wants (w_inside {m = 9} (w_tail {m = 9} {n = 9} w le (omega arith)) (omega arith) (began (λ z q e l. f_becomes (g.sign h l))))
begun_holds (signed tree.Minus) h w le = h_wants (w_inside {m = 1} (w_tail {m = 1} {n = 1} w le (omega arith)) (omega arith) (began (λ z q e l. f_becomes (g.sign h l))))
begun_holds (signed tree.Plus) h w le = h_wants (w_inside {m = 1} (w_tail {m = 1} {n = 1} w le (omega arith)) (omega arith) (began (λ z q e l. f_becomes (g.sign h l))))
begun_holds (signed tree.BitNot) h w le = h_wants (w_inside {m = 1} (w_tail {m = 1} {n = 1} w le (omega arith)) (omega arith) (began (λ z q e l. f_becomes (g.sign h l))))
begun_holds lambda h w le = h_stands w le (r_wanted (in_lambda h) no_members)

pub begin_holds : {T xs : List Item} {k : Frames} {q i j : ℕ} {x : Lexeme} (n : ℕ) (b : Beginning) → beginning x ≡ Some b → Waits T k q (item i x j ∷ xs) → n ≤ q → Held T xs (begin n b i j k)
begin_holds {T} {xs} {k} {i} {j} zero b h w le = by_cases (Held T xs) (nat_eq (begins_at b) 0) (Some (begun b i j k)) None (λ e. let z : begins_at b ≡ 0 = grind arith in holds (begun_holds b h w (omega arith))) (λ e. holds_none)
begin_holds {T} {xs} {k} {i} {j} (suc n) b h w le = by_cases (Held T xs) (nat_eq (begins_at b) (suc n)) (Some (begun b i j k)) (begin n b i j (tail (suc n) k)) (λ e. let z : begins_at b ≡ suc n = grind arith in holds (begun_holds b h w (omega arith))) (λ e. begin_holds n b h (w_tail w le (below_left n)) (le_refl n))

pub begin_with_holds : {T xs : List Item} {k : Frames} {q i j : ℕ} {x : Lexeme} (n : ℕ) (o : Option Beginning) → beginning x ≡ o → Waits T k q (item i x j ∷ xs) → n ≤ q → Held T xs (begin_with o n i j k)
begin_with_holds n None h w le = holds_none
begin_with_holds n (Some b) h w le = begin_holds n b h w le

opened_holds : {T a xs : List Item} {k : Frames} {m q i j : ℕ} {x : Lexeme} {o : Option (ℕ × Frame)} → Waits T k q a → m ≤ q → Opens m a (item i x j ∷ xs) o → Held T xs (opened o x i j k)
opened_holds w le o_none = holds_none
opened_holds {x} w le (o_some {n} b) = begin_with_holds n (beginning x) refl (w_inside w le b) (le_refl n)

or_else_holds : {T xs : List Item} {a b : Option State} → Held T xs a → Held T xs b → Held T xs (else_state a b)
or_else_holds holds_none h = h
or_else_holds (holds g) h = holds g

name_holds : {T a b xs : List Item} {k : Frames} {m l e f i j : ℕ} {q : tree.Expr} {ms : tree.Members} {t : Bool} (x : Lexeme) → Waits T k l a → m ≤ l → Within (behind q) m a b → Given arguments b (item i x j ∷ xs) ms t e f → Held T xs (some_state (name_of x) (λ n. perhaps_named q ms (first_at ms f i) n i j k))
name_holds (identifier n) w le p d = holds (h_named w le p d (first_is d))
name_holds _ w le p d = holds_none

perhaps_holds : {T a xs : List Item} {k : Frames} {m l i j : ℕ} {p : Point} (x : Lexeme) → Waits T k l a → m ≤ l → Reached p m a (item i x j ∷ xs) → Held T xs (perhaps p x i j k)
perhaps_holds x w le (r_wanted (in_call h o) d) = name_holds x w le (in_call h o) d
perhaps_holds x w le _ = holds_none

tails_wait : {T a : List Item} {k : Frames} → Waits T k 12 a → Waits T (tails 13 0 k) 0 a
tails_wait w = w_tail {m = 0} {n = 0} (w_tail {m = 1} {n = 1} (w_tail {m = 2} {n = 2} (w_tail {m = 3} {n = 3} (w_tail {m = 4} {n = 4} (w_tail {m = 5} {n = 5} (w_tail {m = 6} {n = 6} (w_tail {m = 7} {n = 7} (w_tail {m = 8} {n = 7} (w_tail {m = 9} {n = 9} (w_tail {m = 10} {n = 10} (w_tail {m = 11} {n = 11} (w_tail {m = 12} {n = 11} w (omega arith) (omega arith)) (omega arith) (omega arith)) (omega arith) (omega arith)) (omega arith) (omega arith)) (omega arith) (omega arith)) (omega arith) (omega arith)) (omega arith) (omega arith)) (omega arith) (omega arith)) (omega arith) (omega arith)) (omega arith) (omega arith)) (omega arith) (omega arith)) (omega arith) (omega arith)) (omega arith) (omega arith)

begin_small_holds : {T : List Item} {k : Line} {i j : ℕ} {xs : List Item} (x : Lexeme) → WaitsSmall T k (item i x j ∷ xs) → Held T xs (begin_small k x i j)
begin_small_holds keyword_return w = holds (h_return w)
begin_small_holds keyword_break w = holds (h_small w breaks_off)
begin_small_holds keyword_continue w = holds (h_small w continues)
begin_small_holds keyword_pass w = holds (h_small w passes)
begin_small_holds keyword_load w = holds (h_load_opens w)
begin_small_holds x w = begin_with_holds 12 (beginning x) refl (w_spot (w_small w)) (le_refl 12)

begin_line_holds : {T : List Item} {k : Blocks} {e i j : ℕ} {xs : List Item} (x : Lexeme) → WaitsLine T k (item i x j ∷ xs) e → Held T xs (begin_line k e x i j)
begin_line_holds newline (w_outer d) = holds (h_line (w_outer (blank d)))
begin_line_holds newline (w_inner w l d) = holds (h_line (w_inner w l (blank d)))
begin_line_holds keyword_if w = holds (h_wants (w_spot (w_test (w_if w))))
begin_line_holds keyword_for w = holds (h_list (w_target w))
begin_line_holds keyword_def w = holds (h_def_name w)
begin_line_holds dedent (w_outer d) = holds_none
begin_line_holds dedent (w_inner {ss = no_statements} w l d) = holds_none
begin_line_holds dedent (w_inner {ss = add_statement ss s} w l d) = holds (close_holds w (indented l d))
begin_line_holds x w = begin_small_holds x (w_first (w_block w))

pub move_holds : {T : List Item} {u : State} {i j : ℕ} {xs : List Item} (x : Lexeme) → Holds T u (item i x j ∷ xs) → Held T xs (move u x i j)
move_holds x (h_wants {n} w) = begin_with_holds n (beginning x) refl w (le_refl n)
move_holds x (h_has w d) = feed_holds x w d
move_holds x (h_stands w le p) = or_else_holds (goes_hold w le (turn_leads x p)) (or_else_holds (perhaps_holds x w le p) (opened_holds w le (opens_hold p)))
move_holds {T} {i} {j} {xs} x (h_named {i = u} {j = v} {f} {k} {n} {q} {ms} w le p d e) =
    by_cases (Held T xs) (nat_eq (sort equal) (sort x)) (Some (wants 12 (inside (member (behind q) ms f u (a_named n (stretch u v))) k))) (feed (tails 13 0 (inside (member (behind q) ms f u an_argument) k)) (tree.leaf (tree.name n) (stretch u v) (stretch u v)) v x i j)
    (λ h. holds (h_wants (w_inside w le (began (λ z s y o. f_goes (r_member p (one_more (as_second_given (same_sort equal x (refl, refl) h) d) (g.keyword o)) e))))))
    (λ h. feed_holds x (tails_wait (w_inside w le (began (λ z s y o. f_goes (r_member p (one_more d (g.plain o)) e))))) (g.by_itself refl))
move_holds x (h_list {k} w) = begin_with_holds (level_of (kind_listed k)) (beginning x) refl (w_listed (w_list w no_members)) (le_refl (level_of (kind_listed k)))
move_holds x (h_next {k} w) = begin_with_holds (level_of (kind_listed k)) (beginning x) refl (w_listed w) (le_refl (level_of (kind_listed k)))
move_holds x (h_line w) = begin_line_holds x w
move_holds x (h_for w) = begin_line_holds x w
move_holds keyword_else (h_if w q s) = holds (h_colon w q s)
move_holds keyword_elif (h_if w q s) = holds (h_wants (w_spot (w_test (w_elif w q s))))
move_holds x (h_if w q s) = begin_line_holds x (settled_holds w (only q s))
move_holds colon (h_colon w q s) = holds (h_suite (w_else w q s))
move_holds _ (h_colon w q s) = holds_none
move_holds newline (h_suite w) = holds (h_indent w no_line)
move_holds x (h_suite w) = begin_small_holds x (w_first (w_suite w))
move_holds newline (h_indent w l) = holds (h_indent w (a_line l))
move_holds indent (h_indent w l) = holds (h_line (w_inner w l nothing))
move_holds _ (h_indent w l) = holds_none
move_holds x (h_small w d) = end_small_holds x w d
move_holds newline (h_semicolon w ds) = holds (end_row_holds w (row_semicolon ds))
move_holds x (h_semicolon w ds) = begin_small_holds x (w_next w ds)
move_holds semicolon (h_return w) = end_small_holds semicolon w returns
move_holds newline (h_return w) = end_small_holds newline w returns
move_holds x (h_return w) = begin_with_holds 12 (beginning x) refl (w_listed (w_list (w_return w) no_members)) (le_refl 12)
move_holds opening_round (h_load_opens w) = holds (h_load_module w)
move_holds _ (h_load_opens w) = holds_none
move_holds (string n) (h_load_module w) = holds (h_load_named w)
move_holds _ (h_load_module w) = holds_none
move_holds comma (h_load_named w) = holds (h_load_symbol w no_symbol)
move_holds closing_round (h_load_named w) = holds (h_small w (loads alone))
move_holds _ (h_load_named w) = holds_none
move_holds (string n) (h_load_symbol w ss) = holds (h_load_behind w ss own_name)
move_holds (identifier n) (h_load_symbol w ss) = holds (h_load_equal w ss)
move_holds closing_round (h_load_symbol w ss) = holds (h_small w (loads (with_comma ss)))
move_holds _ (h_load_symbol w ss) = holds_none
move_holds equal (h_load_equal w ss) = holds (h_load_other w ss)
move_holds _ (h_load_equal w ss) = holds_none
move_holds (string n) (h_load_other w ss) = holds (h_load_behind w ss other_name)
move_holds _ (h_load_other w ss) = holds_none
move_holds comma (h_load_behind w ss s) = holds (h_load_symbol w (next_symbol ss s))
move_holds closing_round (h_load_behind w ss s) = holds (h_small w (loads (without_comma ss s)))
move_holds _ (h_load_behind w ss s) = holds_none
move_holds (identifier n) (h_def_name w) = holds (h_def_opens w)
move_holds _ (h_def_name w) = holds_none
move_holds opening_round (h_def_opens w) = holds (h_param (w_head w) no_param)
move_holds _ (h_def_opens w) = holds_none
move_holds closing_round (h_param w ps) = holds (h_result w (with_last_comma ps))
move_holds slash (h_param w ps) = holds (h_behind_param w ps a_slash)
move_holds star (h_param w ps) = holds (h_star w ps)
move_holds star_star (h_param w ps) = holds (h_stars w ps)
move_holds (identifier n) (h_param w ps) = holds (h_name w ps by_itself)
move_holds _ (h_param w ps) = holds_none
move_holds (identifier n) (h_star w ps) = holds (h_name w ps named_behind_star)
move_holds x (h_star w ps) = param_holds x w ps a_star
move_holds (identifier n) (h_stars w ps) = holds (h_name w ps named_behind_stars)
move_holds _ (h_stars w ps) = holds_none
move_holds colon (h_name w ps n) = holds (h_wants (w_spot (w_type w ps n)))
move_holds equal (h_name w ps by_itself) = holds (h_wants (w_spot (w_default w ps by_itself)))
move_holds equal (h_name w ps named_behind_star) = holds_none
move_holds equal (h_name w ps named_behind_stars) = holds_none
move_holds x (h_name w ps n) = param_holds x w ps (a_name n)
move_holds x (h_behind_param w ps p) = param_holds x w ps p
move_holds colon (h_result w ps) = holds (h_suite (w_def w ps untyped))
move_holds minus_greater (h_result w ps) = holds (h_wants (w_spot (w_result w ps)))
move_holds _ (h_result w ps) = holds_none

accepts_same : (a b : Statement) → Accepts a ≡ Accepts b → a ≡ b
accepts_same a b e = cc

line_holds : {T : List Item} {k : Blocks} {e : ℕ} {raw : Statement} → WaitsLine T k [] e → end_line k e ≡ Accepts raw → Derives T raw
line_holds {T} {raw} (w_outer {e} {ss} d) q = subst (Derives T) (accepts_same (block_of ss e) raw q) (whole d)
line_holds {raw} (w_inner w l d) q = absurd (let n : Stuck [] ≡ Accepts raw = q in (cc))

finish_holds : {T : List Item} {s : State} {raw : Statement} → Holds T s [] → finish s ≡ Accepts raw → Derives T raw
finish_holds (h_line w) q = line_holds w q
finish_holds (h_for w) q = line_holds w q
finish_holds (h_if w t s) q = line_holds (settled_holds w (only t s)) q
finish_holds {raw} _ q = absurd (let n : Stuck [] ≡ Accepts raw = q in (cc))

pub bottom_finish : (s : State) → bottom (finish s) ≡ finish s
bottom_finish (at_line (outer ss) e) = refl
bottom_finish (at_line (inner ss k) e) = refl
bottom_finish (behind_for l (outer ss) e) = refl
bottom_finish (behind_for l (inner ss k) e) = refl
bottom_finish (behind_if q s p e k) = of_line (settled k (when q s (stretch p e)) e)
  where
    of_line : (b : Blocks) → bottom (end_line b e) ≡ end_line b e
    of_line (outer ss) = refl
    of_line (inner ss k) = refl
bottom_finish _ = refl

pub run_holds : {T : List Item} (ts : List Item) (s : State) (raw : Statement) → Holds T s ts → bottom (run s ts) ≡ Accepts raw → Derives T raw
run_holds [] s raw h e = finish_holds h (sym (ap bottom (runs_end s) ∙ bottom_note [] (met s None) (finish s) ∙ bottom_finish s) ∙ e)
run_holds {T} (x ∷ xs) s raw h e = go (step s x) (move_holds x.lexeme h) (sym (ap bottom (runs s x xs) ∙ bottom_note (x ∷ xs) (met s (Some x.lexeme)) _) ∙ e) (λ u hu eu. run_holds xs u raw hu eu)
  where
    go : (o : Option State) → Held T xs o → bottom (arrive x xs None o) ≡ Accepts raw → ((u : State) → Holds T u xs → bottom (run u xs) ≡ Accepts raw → Derives T raw) → Derives T raw
    go None h e f = absurd (let n : Stuck (x ∷ xs) ≡ Accepts raw = e in (cc))
    go (Some u) (holds h) e f = f u h e

-- what the machine accepts, marks aside, is of Module, with that tree
pub sound : (ts : List Item) (raw : Statement) → bottom (run initial ts) ≡ Accepts raw → Derives ts raw
sound ts raw e = run_holds ts initial raw (h_line (w_outer nothing)) e
