-- The machine's steps do not depend on places, nor on the trees that were read.
use Rattle.std.proofs.Common.{ℕ, ◌≡◌, ◌∷◌, ◌∙◌, [], zero, suc, List, Option, Some, None, Bool, true, false, nat_eq, cond, refl, ap, sym, subst}
use Rattle.starlark_grammar.specs.Spans.{stretch}
use Rattle.starlark_lexer.specs.Items.{Lexeme, newline, indent, dedent, identifier, string, keyword_break, keyword_continue, keyword_def, keyword_elif, keyword_else, keyword_for, keyword_if, keyword_load, keyword_pass, keyword_return, comma, semicolon, colon, equal, star, star_star, slash, minus_greater, opening_round, closing_round, Item}
use Rattle.starlark_ast.specs.Tree as tree
use Rattle.starlark_ast.specs.Tree.{Members, Name, Statement, Symbol, Symbols, no_statements, return, when}
use Rattle.starlark_grammar.specs.Sorts.{sort, name_of}
use Rattle.starlark_grammar.specs.Tables.{Beginning, leaf, bracket, quoted, signed, lambda, beginning, begins_at, Suffix, dotted, indexed, called, joined, negated, chosen, suffix, below, associates, grade, level_of}
use Rattle.starlark_grammar.specs.Points.{Frame, Point, Outcome, After}
use Rattle.starlark_grammar.specs.Frames.{Blocks, at_block, at_suite, Line, line, Lists, returned, kind_listed, Frames, tail, inside, listed, State, wants}
use Rattle.starlark_grammar.specs.Machine.{tails, goes, enter, goes_on, begun, begin, begin_with, begin_small, begin_line, fed, list_of, feed, opened, else_state, some_state, perhaps, end_symbol, move, step}
use Rattle.starlark_grammar.specs.Runs.{met, Accepts, Stuck, bottom, end_line, finish, run}
use Rattle.starlark_grammar.specs.Language.{bare}
use Rattle.starlark_grammar.specs.Nodes.{named}
use Rattle.starlark_grammar.proofs.Steps.{arrive, runs, runs_end}
use Rattle.starlark_grammar.proofs.Sound.{bottom_note, bottom_finish}
use Rattle.starlark_grammar.proofs.AlikePoints.{m_none, p_brackets, p_behind, p_body, p_targets, b_first, LikeFrame, f_member, f_operand, f_sign, f_condition, LikePoint, t_wanted, t_member, t_key, t_star, t_stars, t_name, t_bound, t_bound_read, t_second, t_attribute, t_not, t_condition, t_clauses, t_piece, t_field, t_letter, t_letter_read, LikeAfter, a_becomes, a_goes, LikeOutcome, n_none, n_reach, n_want, n_made, after_like, turn_like, LikeOpens, no_opening, an_opening, opens_like}
use Rattle.starlark_grammar.proofs.AlikeFrames.{LikeBlocks, b_outer, b_empty, b_inner, i_if, i_elif, u_else, u_def, d_head, r_block, r_suite, LikeLine, n_line, o_first, o_test, o_type, o_result, LikeLists, o_left, o_right, o_returned, o_target, Like, l_tail, l_inside, l_listed, l_spot, LikeState, s_wants, s_has, s_stands, s_named, s_list, s_next, s_line, s_for, s_if, s_colon, s_suite, s_indent, s_small, s_semicolon, s_return, s_load_opens, s_load_module, s_load_named, s_load_symbol, s_load_equal, s_load_other, s_load_behind, s_def_name, s_def_opens, s_param, s_star, s_stars, s_name, s_behind_param, s_result, LikeStep, both_stop, both_go, settled_like, close_like, end_row_like, end_small_like, end_param_like, begin_default_like, accept_like, accept_list_like}

goes_like : {k j : Frames} {o p : Option Outcome} → Like k j → LikeOutcome o p → LikeStep (goes k o) (goes j p)
goes_like l n_none = both_stop
goes_like l (n_reach p) = both_go (s_stands p l)
goes_like l (n_want f) = both_go (s_wants (l_inside f l))
goes_like l n_made = both_go (s_has l)

choice : (z : Bool) (a b c d : Option State) → LikeStep a b → LikeStep c d → LikeStep (cond z a c) (cond z b d)
choice true a b c d g h = g
choice false a b c d g h = h

joined_like : {k j : Frames} {f g : Frame} {n : ℕ} (z : Bool) (m : ℕ) → LikeFrame f g → Like k j → LikeState (wants n (inside f (cond z (tail m k) k))) (wants n (inside g (cond z (tail m j) j)))
joined_like true m f l = s_wants (l_inside f (l_tail l))
joined_like false m f l = s_wants (l_inside f l)

enter_like : {k j : Frames} (s : Suffix) (q t : tree.Expr) → Like k j → LikeState (enter s q k) (enter s t j)
enter_like dotted q t l = s_stands t_attribute (l_tail l)
enter_like indexed q t l = s_stands (t_bound b_first) (l_tail l)
enter_like called q t l = s_stands (t_wanted p_behind m_none) (l_tail l)
enter_like (joined o) q t l = joined_like (associates (suc (below o))) (suc (below o)) f_operand l
enter_like negated q t l = s_stands t_not l
enter_like chosen q t l = s_wants (l_inside f_condition l)

on_like_state : {k j : Frames} {a b : Option State} (o : Option Suffix) (n : ℕ) (q t : tree.Expr) → Like k j → LikeStep a b → LikeStep (goes_on o n q k a) (goes_on o n t j b)
on_like_state None n q t l h = h
on_like_state {k} {j} {a} {b} (Some s) n q t l h = choice (nat_eq (grade s) n) (Some (enter s q k)) (Some (enter s t j)) a b (both_go (enter_like s q t l)) h

fed_like : {k j : Frames} {a b : After} (f g : tree.Expr → Option State) (x : Lexeme) (i p u v : ℕ) → LikeAfter a b → Like k j → ((q s : tree.Expr) → LikeStep (f q) (g s)) → LikeStep (fed a f k x i p) (fed b g j x u v)
fed_like f g x i p u v (a_becomes {q} {s}) l h = h q s
fed_like f g x i p u v (a_goes t) l h = goes_like l (turn_like x i p u v t)

feed_like : {k j : Frames} (x : Lexeme) (i p u v : ℕ) (q t : tree.Expr) (e f : ℕ) → Like k j → LikeStep (feed k q e x i p) (feed j t f x u v)
feed_like x i p u v q t e f (l_tail {n} l) = on_like_state (suffix x) n q t l (feed_like x i p u v q t e f l)
feed_like x i p u v q t e f (l_inside {k} {j} g l) = fed_like (λ s. feed k s e x i p) (λ s. feed j s f x u v) x i p u v (after_like q t e f g) l (λ s z. feed_like x i p u v s z e f l)
feed_like comma i p u v q t e f (l_listed l) = both_go (s_next l)
feed_like x i p u v q t e f (l_listed {p = a} {q = b} {ms} {ns} l) = accept_list_like x p v (list_of ms q a e) (list_of ns t b f) e f l
feed_like x i p u v q t e f (l_spot l) = accept_like x p v q t e f l

begun_like : {k j : Frames} (b : Beginning) (i p u v : ℕ) → Like k j → LikeState (begun b i p k) (begun b u v j)
begun_like (leaf l) i p u v h = s_has (l_tail h)
begun_like (bracket b) i p u v h = s_stands (t_wanted p_brackets m_none) (l_tail h)
begun_like quoted i p u v h = s_stands t_piece (l_tail h)
begun_like (signed s) i p u v h = s_wants (l_inside f_sign (l_tail h))
begun_like lambda i p u v h = s_stands (t_wanted p_body m_none) h

begin_like : {k j : Frames} (n : ℕ) (b : Beginning) (i p u v : ℕ) → Like k j → LikeStep (begin n b i p k) (begin n b u v j)
begin_like {k} {j} zero b i p u v l = choice (nat_eq (begins_at b) 0) (Some (begun b i p k)) (Some (begun b u v j)) None None (both_go (begun_like b i p u v l)) both_stop
begin_like {k} {j} (suc n) b i p u v l = choice (nat_eq (begins_at b) (suc n)) (Some (begun b i p k)) (Some (begun b u v j)) (begin n b i p (tail (suc n) k)) (begin n b u v (tail (suc n) j)) (both_go (begun_like b i p u v l)) (begin_like n b i p u v (l_tail l))

with_like : {k j : Frames} (o : Option Beginning) (n : ℕ) (i p u v : ℕ) → Like k j → LikeStep (begin_with o n i p k) (begin_with o n u v j)
with_like None n i p u v l = both_stop
with_like (Some b) n i p u v l = begin_like n b i p u v l

opened_like : {k j : Frames} {o q : Option (ℕ × Frame)} (x : Lexeme) (i p u v : ℕ) → LikeOpens o q → Like k j → LikeStep (opened o x i p k) (opened q x u v j)
opened_like x i p u v no_opening l = both_stop
opened_like x i p u v (an_opening {n} f) l = with_like (beginning x) n i p u v (l_inside f l)

or_like : {a b c d : Option State} → LikeStep a b → LikeStep c d → LikeStep (else_state a c) (else_state b d)
or_like both_stop h = h
or_like (both_go s) h = both_go s

named_like : {A : Type 0} (o : Option A) (f g : A → State) → ((a : A) → LikeState (f a) (g a)) → LikeStep (some_state o f) (some_state o g)
named_like None f g h = both_stop
named_like (Some a) f g h = both_go (h a)

perhaps_like : {p q : Point} {k j : Frames} (x : Lexeme) (i s u v : ℕ) → LikePoint p q → Like k j → LikeStep (perhaps p x i s k) (perhaps q x u v j)
perhaps_like x i s u v (t_wanted p_behind m) l = named_like (name_of x) _ _ (λ n. s_named m l)
perhaps_like x i s u v (t_wanted p_brackets m) l = both_stop
perhaps_like x i s u v (t_wanted p_body m) l = both_stop
perhaps_like x i s u v (t_wanted p_targets m) l = both_stop
perhaps_like x i s u v (t_bound b) l = both_stop
perhaps_like x i s u v (t_member p m) l = both_stop
perhaps_like x i s u v (t_key m) l = both_stop
perhaps_like x i s u v (t_star m) l = both_stop
perhaps_like x i s u v (t_stars m) l = both_stop
perhaps_like x i s u v (t_name m) l = both_stop
perhaps_like x i s u v (t_bound_read b) l = both_stop
perhaps_like x i s u v t_second l = both_stop
perhaps_like x i s u v t_attribute l = both_stop
perhaps_like x i s u v t_not l = both_stop
perhaps_like x i s u v t_condition l = both_stop
perhaps_like x i s u v t_clauses l = both_stop
perhaps_like x i s u v t_piece l = both_stop
perhaps_like x i s u v t_field l = both_stop
perhaps_like x i s u v t_letter l = both_stop
perhaps_like x i s u v t_letter_read l = both_stop

tails_like : (c n : ℕ) {k j : Frames} → Like k j → Like (tails c n k) (tails c n j)
tails_like zero n l = l
tails_like (suc c) n l = l_tail (tails_like c (suc n) l)

kind_like : {k j : Lists} → LikeLists k j → kind_listed k ≡ kind_listed j
kind_like (o_left l) = refl
kind_like (o_right l) = refl
kind_like (o_returned l) = refl
kind_like (o_target l) = refl

list_like : {k j : Lists} (x : Lexeme) (ms ns : Members) (a b i p s u : ℕ) → LikeLists k j → LikeStep (begin_with (beginning x) (level_of (kind_listed k)) i p (listed ms a k)) (begin_with (beginning x) (level_of (kind_listed j)) s u (listed ns b j))
list_like {k} {j} x ms ns a b i p s u l = subst (λ z. LikeStep (begin_with (beginning x) (level_of (kind_listed k)) i p (listed ms a k)) (begin_with (beginning x) (level_of z) s u (listed ns b j))) (kind_like l) (with_like (beginning x) (level_of (kind_listed k)) i p s u (l_listed l))

begin_small_like : {k j : Line} (x : Lexeme) (i p s u : ℕ) → LikeLine k j → LikeStep (begin_small k x i p) (begin_small j x s u)
begin_small_like keyword_return i p s u l = both_go (s_return l)
begin_small_like keyword_break i p s u l = both_go (s_small l)
begin_small_like keyword_continue i p s u l = both_go (s_small l)
begin_small_like keyword_pass i p s u l = both_go (s_small l)
begin_small_like keyword_load i p s u l = both_go (s_load_opens l)
begin_small_like {k} {j} x i p s u l = with_like (beginning x) 12 i p s u (l_spot (o_first {m = i} {n = s} l))

begin_line_like : {k j : Blocks} (x : Lexeme) (e f i p s u : ℕ) → LikeBlocks k j → LikeStep (begin_line k e x i p) (begin_line j f x s u)
begin_line_like newline e f i p s u l = both_go (s_line l)
begin_line_like keyword_if e f i p s u l = both_go (s_wants (l_spot (o_test (i_if l))))
begin_line_like keyword_for e f i p s u l = both_go (s_list (o_target l))
begin_line_like keyword_def e f i p s u l = both_go (s_def_name l)
begin_line_like dedent e f i p s u b_outer = both_stop
begin_line_like dedent e f i p s u (b_empty l) = both_stop
begin_line_like dedent e f i p s u (b_inner l) = both_go (close_like _ _ p u l)
begin_line_like {k} {j} x e f i p s u l = begin_small_like {k = line no_statements (at_block k)} {j = line no_statements (at_block j)} x i p s u (n_line (r_block l))

end_symbol_like : {k j : Line} (x : Lexeme) (m n : ℕ) (y z : Name) (ss rs : Symbols) (s r : Symbol) (i p o u : ℕ) → LikeLine k j → LikeStep (end_symbol m y ss s k x i p) (end_symbol n z rs r j x o u)
end_symbol_like comma m n y z ss rs s r i p o u l = both_go (s_load_symbol l)
end_symbol_like closing_round m n y z ss rs s r i p o u l = both_go (s_small l)
end_symbol_like _ m n y z ss rs s r i p o u l = both_stop

move_like : {a b : State} (x : Lexeme) (i p s u : ℕ) → LikeState a b → LikeStep (move a x i p) (move b x s u)
move_like x i p s u (s_wants {n} l) = with_like (beginning x) n i p s u l
move_like x i p s u (s_has {r} {q} {e} {f} l) = feed_like x i p s u r q e f l
move_like x i p s u (s_stands t l) = or_like (goes_like l (turn_like x i p s u t)) (or_like (perhaps_like x i p s u t l) (opened_like x i p s u (opens_like i s t) l))
move_like x i p s u (s_named {b} {d} m l) = choice (nat_eq (sort equal) (sort x)) _ _ _ _ (both_go (s_wants (l_inside (f_member p_behind m) l))) (feed_like x i p s u _ _ b d (tails_like 13 0 (l_inside (f_member p_behind m) l)))
move_like x i p s u (s_list {k} {j} l) = list_like x tree.none tree.none i s i p s u l
move_like x i p s u (s_next {p = a} {q = b} {ms} {ns} l) = list_like x ms ns a b i p s u l
move_like x i p s u (s_line {e} {f} l) = begin_line_like x e f i p s u l
move_like x i p s u (s_for {e} {f} l) = begin_line_like x e f i p s u l
move_like keyword_else i p s u (s_if l) = both_go (s_colon (u_else l))
move_like keyword_elif i p s u (s_if l) = both_go (s_wants (l_spot (o_test (i_elif l))))
move_like x i p s u (s_if {q} {r} {s = v} {t} {m} {n} {e} {f} l) = begin_line_like x e f i p s u (settled_like (when q v (stretch m e)) (when r t (stretch n f)) e f l)
move_like colon i p s u (s_colon l) = both_go (s_suite l)
move_like _ i p s u (s_colon l) = both_stop
move_like newline i p s u (s_suite l) = both_go (s_indent l)
move_like x i p s u (s_suite {k} {j} l) = begin_small_like {k = line no_statements (at_suite k)} {j = line no_statements (at_suite j)} x i p s u (n_line (r_suite l))
move_like newline i p s u (s_indent l) = both_go (s_indent l)
move_like indent i p s u (s_indent l) = both_go (s_line (b_empty l))
move_like _ i p s u (s_indent l) = both_stop
move_like x i p s u (s_small {s = v} {r} l) = end_small_like x v r p u l
move_like newline i p s u (s_semicolon (n_line l)) = both_go (end_row_like _ _ p u l)
move_like x i p s u (s_semicolon (n_line {ss} {rs} {k} {j} l)) = begin_small_like {k = line ss k} {j = line rs j} x i p s u (n_line l)
move_like semicolon i p s u (s_return {m} {n} {e} {f} l) = end_small_like semicolon (return None (stretch m e)) (return None (stretch n f)) p u l
move_like newline i p s u (s_return {m} {n} {e} {f} l) = end_small_like newline (return None (stretch m e)) (return None (stretch n f)) p u l
move_like x i p s u (s_return {m} {n} {k} {j} l) = list_like {k = returned m k} {j = returned n j} x tree.none tree.none i s i p s u (o_returned l)
move_like opening_round i p s u (s_load_opens l) = both_go (s_load_module l)
move_like _ i p s u (s_load_opens l) = both_stop
move_like (string n) i p s u (s_load_module l) = both_go (s_load_named l)
move_like _ i p s u (s_load_module l) = both_stop
move_like comma i p s u (s_load_named l) = both_go (s_load_symbol l)
move_like closing_round i p s u (s_load_named l) = both_go (s_small l)
move_like _ i p s u (s_load_named l) = both_stop
move_like (string n) i p s u (s_load_symbol l) = both_go (s_load_behind l)
move_like (identifier n) i p s u (s_load_symbol l) = both_go (s_load_equal l)
move_like closing_round i p s u (s_load_symbol l) = both_go (s_small l)
move_like _ i p s u (s_load_symbol l) = both_stop
move_like equal i p s u (s_load_equal l) = both_go (s_load_other l)
move_like _ i p s u (s_load_equal l) = both_stop
move_like (string n) i p s u (s_load_other l) = both_go (s_load_behind l)
move_like _ i p s u (s_load_other l) = both_stop
move_like x i p s u (s_load_behind {m} {n} {x = a} {y} {ss} {rs} {z} {w} l) = end_symbol_like x m n a y ss rs z w i p s u l
move_like (identifier n) i p s u (s_def_name l) = both_go (s_def_opens (d_head l))
move_like _ i p s u (s_def_name l) = both_stop
move_like opening_round i p s u (s_def_opens l) = both_go (s_param l)
move_like _ i p s u (s_def_opens l) = both_stop
move_like closing_round i p s u (s_param l) = both_go (s_result l)
move_like slash i p s u (s_param l) = both_go (s_behind_param l)
move_like star i p s u (s_param l) = both_go (s_star l)
move_like star_star i p s u (s_param l) = both_go (s_stars l)
move_like (identifier n) i p s u (s_param l) = both_go (s_name l)
move_like _ i p s u (s_param l) = both_stop
move_like (identifier n) i p s u (s_star l) = both_go (s_name l)
move_like x i p s u (s_star {ps} {qs} {m} {n} {d} {e} l) = end_param_like x (tree.more ps (tree.no_args (stretch m d))) (tree.more qs (tree.no_args (stretch n e))) l
move_like (identifier n) i p s u (s_stars l) = both_go (s_name l)
move_like _ i p s u (s_stars l) = both_stop
move_like colon i p s u (s_name l) = both_go (s_wants (l_spot (o_type l)))
move_like equal i p s u (s_name {ps} {qs} {y} {x} {z} {m} {n} l) = begin_default_like y ps qs x z tree.untyped tree.untyped m n l
move_like x i p s u (s_name {ps} {qs} {y} {x = a} {z} {m} {n} {d} {e} l) = end_param_like x (tree.more ps (named y a tree.untyped tree.absent (stretch m d))) (tree.more qs (named y z tree.untyped tree.absent (stretch n e))) l
move_like x i p s u (s_behind_param {ps} {qs} l) = end_param_like x ps qs l
move_like colon i p s u (s_result l) = both_go (s_suite (u_def l))
move_like minus_greater i p s u (s_result l) = both_go (s_wants (l_spot (o_result l)))
move_like _ i p s u (s_result l) = both_stop

-- the machine accepts the tokens, marks aside
pub record Ends (s : State) (ts : List Item) : Type 0 where
  pub raw : Statement
  pub ends : bottom (run s ts) ≡ Accepts raw

-- the end of the tokens, marks aside
pub bottom_end : (s : State) → bottom (run s []) ≡ finish s
bottom_end s = ap bottom (runs_end s) ∙ bottom_note [] (met s None) (finish s) ∙ bottom_finish s

pub ends_now : (s : State) (raw : Statement) → finish s ≡ Accepts raw → Ends s []
ends_now s raw e = record { raw = raw; ends = bottom_end s ∙ e }

line_like : {k j : Blocks} (e f : ℕ) → LikeBlocks k j → (raw : Statement) → end_line k e ≡ Accepts raw → (z : Statement) × (end_line j f ≡ Accepts z)
line_like e f b_outer raw q = (_, refl)
line_like e f (b_empty l) raw q = absurd (let n : Stuck [] ≡ Accepts raw = q in (cc))
line_like e f (b_inner l) raw q = absurd (let n : Stuck [] ≡ Accepts raw = q in (cc))

finish_like : {a b : State} → LikeState a b → (raw : Statement) → finish a ≡ Accepts raw → Ends b []
finish_like {b} (s_line {e} {f} l) raw q = let p = line_like e f l raw q in ends_now b p.0 p.1
finish_like {b} (s_for {e} {f} l) raw q = let p = line_like e f l raw q in ends_now b p.0 p.1
finish_like {b} (s_if {e} {f} l) raw q = let p = line_like e f (settled_like _ _ e f l) raw q in ends_now b p.0 p.1
finish_like _ raw q = absurd (let n : Stuck [] ≡ Accepts raw = q in (cc))

-- behind a token
pub step_ends : (s u : State) (x : Item) (xs : List Item) → step s x ≡ Some u → Ends u xs → Ends s (x ∷ xs)
step_ends s u x xs e h = record { raw = h.raw; ends = ap bottom (runs s x xs) ∙ bottom_note (x ∷ xs) (met s (Some x.lexeme)) _ ∙ ap (λ o. bottom (arrive x xs None o)) e ∙ h.ends }

pub like : (ts us : List Item) (a b : State) → LikeState a b → bare ts ≡ bare us → (raw : Statement) → bottom (run a ts) ≡ Accepts raw → Ends b us
like [] [] a b l q raw e = finish_like l raw (sym (bottom_end a) ∙ e)
like [] (y ∷ us) a b l q raw e = absurd (let n : ◌≡◌ {A = List Lexeme} [] (y.lexeme ∷ bare us) = q in (cc))
like (x ∷ ts) [] a b l q raw e = absurd (let n : ◌≡◌ {A = List Lexeme} (x.lexeme ∷ bare ts) [] = q in (cc))
like (x ∷ ts) (y ∷ us) a b l q raw e =
    let c : ◌≡◌ {A = List Lexeme} (x.lexeme ∷ bare ts) (y.lexeme ∷ bare us) = q in
    let same : x.lexeme ≡ y.lexeme = cc in
    let rest : bare ts ≡ bare us = cc in
    with_step (step a x) (step b y) refl (subst (λ z. LikeStep (step a x) (move b z y.begin y.end)) same (move_like x.lexeme x.begin x.end y.begin y.end l)) (sym (ap bottom (runs a x ts) ∙ bottom_note (x ∷ ts) (met a (Some x.lexeme)) _) ∙ e) (λ u v m w. like ts us u v m rest raw w)
  where
    with_step : (o p : Option State) → step b y ≡ p → LikeStep o p → bottom (arrive x ts None o) ≡ Accepts raw → ((u v : State) → LikeState u v → bottom (run u ts) ≡ Accepts raw → Ends v us) → Ends b (y ∷ us)
    with_step None None z both_stop w f = absurd (let n : Stuck (x ∷ ts) ≡ Accepts raw = w in (cc))
    with_step (Some u) (Some v) z (both_go m) w f = step_ends b v y us z (f u v m w)
    with_step None (Some v) z h w f = elim h [ ]
    with_step (Some u) None z h w f = elim h [ ]
