-- Steps in expressions that are the same but for places.
use Rattle.std.proofs.Common.{ℕ, zero, suc, Option, Some, None, Bool, true, false, nat_eq, cond}
use Rattle.starlark_lexer.specs.Items.{Lexeme, comma}
use Rattle.starlark_ast.specs.Tree.{Expr, Members, Sequence}
use Rattle.starlark_grammar.specs.Sorts.{name_of}
use Rattle.starlark_grammar.specs.Tables.{Beginning, leaf, bracket, quoted, signed, lambda, beginning, begins_at, Suffix, dotted, indexed, called, joined, negated, chosen, suffix, below, associates, grade, level_of}
use Rattle.starlark_grammar.specs.Points.{Frame, Point, Outcome, After}
use Rattle.starlark_grammar.specs.Frames.{Lists, kind_listed, Frames, tail, inside, listed, State, wants}
use Rattle.starlark_grammar.specs.Machine.{tails, goes, enter, goes_on, begun, begin, begin_with, fed, feed, opened, else_state, some_state, perhaps}
use Rattle.starlark_joining.specs.Same.{SameExpr, same_item, SameMembers, same_none, same_more}
use Rattle.starlark_joining.specs.Joined.{Greater}
use Rattle.starlark_joining.proofs.SameNodes.{stretch_same, leaf_same, lists_same, no_place}
use Rattle.starlark_joining.proofs.SamePoints.{p_brackets, p_behind, p_body, p_targets, b_first, SameFrame, f_operand, f_sign, f_condition, SamePoint, t_wanted, t_member, t_key, t_star, t_stars, t_name, t_bound, t_bound_read, t_second, t_attribute, t_not, t_condition, t_clauses, t_piece, t_field, t_letter, t_letter_read, SameAfter, a_becomes, a_goes, SameOutcome, n_none, n_reach, n_want, n_made, first_at_same, after_same}
use Rattle.starlark_joining.proofs.SameTurns.{turn_same, SameOpens, no_opening, an_opening}
use Rattle.starlark_joining.proofs.SameFrames.{SameLists, o_left, o_right, o_returned, o_target, SameFrames, l_tail, l_inside, l_listed, l_spot, SameState, s_wants, s_has, s_stands, s_named, s_next, SameStep, both_stop, both_go}
use Rattle.starlark_joining.proofs.SameParts.{accept_same, accept_list_same}

pub goes_same : {R : ℕ → ℕ → Type 0} {base : Sequence} {k j : Frames} {o p : Option Outcome} → SameFrames R base k j → SameOutcome R o p → SameStep R base (goes k o) (goes j p)
goes_same l n_none = both_stop
goes_same l (n_reach p) = both_go (s_stands p l)
goes_same l (n_want f) = both_go (s_wants (l_inside f l))
goes_same l (n_made q e) = both_go (s_has q e l)

pub choice : (R : ℕ → ℕ → Type 0) (base : Sequence) (z : Bool) (a b c d : Option State) → SameStep R base a b → SameStep R base c d → SameStep R base (cond z a c) (cond z b d)
choice R base true a b c d g h = g
choice R base false a b c d g h = h

joined_same : {R : ℕ → ℕ → Type 0} {base : Sequence} {k j : Frames} {f g : Frame} {n : ℕ} (z : Bool) (m : ℕ) → SameFrame R f g → SameFrames R base k j → SameState R base (wants n (inside f (cond z (tail m k) k))) (wants n (inside g (cond z (tail m j) j)))
joined_same true m f l = s_wants (l_inside f (l_tail l))
joined_same false m f l = s_wants (l_inside f l)

enter_same : {R : ℕ → ℕ → Type 0} {base : Sequence} {k j : Frames} (s : Suffix) {q t : Expr} → SameExpr R q t → SameFrames R base k j → SameState R base (enter s q k) (enter s t j)
enter_same dotted q l = s_stands (t_attribute q) (l_tail l)
enter_same indexed q l = s_stands (t_bound q b_first) (l_tail l)
enter_same called q l = s_stands (t_wanted (p_behind q) same_none no_place no_place) (l_tail l)
enter_same (joined o) q l = joined_same (associates (suc (below o))) (suc (below o)) (f_operand q) l
enter_same negated q l = s_stands (t_not q) l
enter_same chosen q l = s_wants (l_inside (f_condition q) l)

goes_on_same : {R : ℕ → ℕ → Type 0} {base : Sequence} {k j : Frames} {a b : Option State} (o : Option Suffix) (n : ℕ) {q t : Expr} → SameExpr R q t → SameFrames R base k j → SameStep R base a b → SameStep R base (goes_on o n q k a) (goes_on o n t j b)
goes_on_same None n q l h = h
goes_on_same {R} {base} {k} {j} {a} {b} (Some s) n {q} {t} w l h = choice R base (nat_eq (grade s) n) (Some (enter s q k)) (Some (enter s t j)) a b (both_go (enter_same s w l)) h

fed_same : {R : ℕ → ℕ → Type 0} (z : Greater R) {base : Sequence} {k j : Frames} {a b : After} (f g : Expr → Option State) (x : Lexeme) {i p u v : ℕ} → SameAfter R a b → SameFrames R base k j → R i u → R p v → ((q s : Expr) → SameExpr R q s → SameStep R base (f q) (g s)) → SameStep R base (fed a f k x i p) (fed b g j x u v)
fed_same z f g x (a_becomes {q} {s} w) l i p h = h q s w
fed_same z f g x (a_goes t) l i p h = goes_same l (turn_same z x t i p)

pub feed_same : {R : ℕ → ℕ → Type 0} (z : Greater R) {base : Sequence} {k j : Frames} (x : Lexeme) {i p u v : ℕ} {q t : Expr} {e f : ℕ} → SameExpr R q t → R e f → SameFrames R base k j → R i u → R p v → SameStep R base (feed k q e x i p) (feed j t f x u v)
feed_same z x q e (l_tail {n} l) i p = goes_on_same (suffix x) n q l (feed_same z x q e l i p)
feed_same z x {i = a} {p = b} {u} {v} {e = c} {f = d} q e (l_inside {k} {j} g l) i p = fed_same z (λ s. feed k s c x a b) (λ s. feed j s d x u v) x (after_same z g q e) l i p (λ s r w. feed_same z x w e l i p)
feed_same z comma q e (l_listed m n l) i p = both_go (s_next (same_more m (same_item q)) n p l)
feed_same z x q e (l_listed m n l) i p = accept_list_same z x l (lists_same (same_more m (same_item q)) (stretch_same z n e)) e p
feed_same z x q e (l_spot l) i p = accept_same z x l q e p

begun_same : {R : ℕ → ℕ → Type 0} (z : Greater R) {base : Sequence} {k j : Frames} (b : Beginning) {i p u v : ℕ} → SameFrames R base k j → R i u → R p v → SameState R base (begun b i p k) (begun b u v j)
begun_same z (leaf l) h i p = s_has (leaf_same l (stretch_same z i p)) p (l_tail h)
begun_same z (bracket b) h i p = s_stands (t_wanted (p_brackets i) same_none no_place no_place) (l_tail h)
begun_same z quoted h i p = s_stands (t_piece i same_none) (l_tail h)
begun_same z (signed s) h i p = s_wants (l_inside (f_sign i) (l_tail h))
begun_same z lambda h i p = s_stands (t_wanted (p_body i) same_none no_place no_place) h

begin_same : {R : ℕ → ℕ → Type 0} (z : Greater R) {base : Sequence} {k j : Frames} (n : ℕ) (b : Beginning) {i p u v : ℕ} → SameFrames R base k j → R i u → R p v → SameStep R base (begin n b i p k) (begin n b u v j)
begin_same {R} z {base} {k} {j} zero b {i} {p} {u} {v} l f g = choice R base (nat_eq (begins_at b) 0) (Some (begun b i p k)) (Some (begun b u v j)) None None (both_go (begun_same z b l f g)) both_stop
begin_same {R} z {base} {k} {j} (suc n) b {i} {p} {u} {v} l f g = choice R base (nat_eq (begins_at b) (suc n)) (Some (begun b i p k)) (Some (begun b u v j)) (begin n b i p (tail (suc n) k)) (begin n b u v (tail (suc n) j)) (both_go (begun_same z b l f g)) (begin_same z n b (l_tail l) f g)

pub with_same : {R : ℕ → ℕ → Type 0} (z : Greater R) {base : Sequence} {k j : Frames} (o : Option Beginning) (n : ℕ) {i p u v : ℕ} → SameFrames R base k j → R i u → R p v → SameStep R base (begin_with o n i p k) (begin_with o n u v j)
with_same z None n l i p = both_stop
with_same z (Some b) n l i p = begin_same z n b l i p

pub opened_same : {R : ℕ → ℕ → Type 0} (z : Greater R) {base : Sequence} {k j : Frames} {o q : Option (ℕ × Frame)} (x : Lexeme) {i p u v : ℕ} → SameOpens R o q → SameFrames R base k j → R i u → R p v → SameStep R base (opened o x i p k) (opened q x u v j)
opened_same z x no_opening l i p = both_stop
opened_same z x (an_opening {n} f) l i p = with_same z (beginning x) n (l_inside f l) i p

pub or_same : {R : ℕ → ℕ → Type 0} {base : Sequence} {a b c d : Option State} → SameStep R base a b → SameStep R base c d → SameStep R base (else_state a c) (else_state b d)
or_same both_stop h = h
or_same (both_go s) h = both_go s

name_same : {R : ℕ → ℕ → Type 0} {base : Sequence} {A : Type 0} (o : Option A) (f g : A → State) → ((a : A) → SameState R base (f a) (g a)) → SameStep R base (some_state o f) (some_state o g)
name_same None f g h = both_stop
name_same (Some a) f g h = both_go (h a)

pub perhaps_same : {R : ℕ → ℕ → Type 0} {base : Sequence} {p q : Point} {k j : Frames} (x : Lexeme) {i s u v : ℕ} → SamePoint R p q → SameFrames R base k j → R i u → R s v → SameStep R base (perhaps p x i s k) (perhaps q x u v j)
perhaps_same x (t_wanted (p_behind q) m e f) l i s = name_same (name_of x) _ _ (λ n. s_named q m (first_at_same m f i) i s l)
perhaps_same x (t_wanted (p_brackets b) m e f) l i s = both_stop
perhaps_same x (t_wanted (p_body b) m e f) l i s = both_stop
perhaps_same x (t_wanted (p_targets b n c) m e f) l i s = both_stop
perhaps_same x (t_bound q b) l i s = both_stop
perhaps_same x (t_member p m e f) l i s = both_stop
perhaps_same x (t_key b m f g q) l i s = both_stop
perhaps_same x (t_star b m f g h) l i s = both_stop
perhaps_same x (t_stars b m f g) l i s = both_stop
perhaps_same x (t_name b m f g h) l i s = both_stop
perhaps_same x (t_bound_read q b t) l i s = both_stop
perhaps_same x (t_second q r t) l i s = both_stop
perhaps_same x (t_attribute q) l i s = both_stop
perhaps_same x (t_not q) l i s = both_stop
perhaps_same x (t_condition q t) l i s = both_stop
perhaps_same x (t_clauses b m c) l i s = both_stop
perhaps_same x (t_piece b m) l i s = both_stop
perhaps_same x (t_field b m q) l i s = both_stop
perhaps_same x (t_letter b m q g h) l i s = both_stop
perhaps_same x (t_letter_read b m) l i s = both_stop

pub tails_same : {R : ℕ → ℕ → Type 0} {base : Sequence} (c n : ℕ) {k j : Frames} → SameFrames R base k j → SameFrames R base (tails c n k) (tails c n j)
tails_same zero n l = l
tails_same (suc c) n l = l_tail (tails_same c (suc n) l)

-- lists without brackets
pub level_same : (R : ℕ → ℕ → Type 0) (base : Sequence) {k j : Lists} (o : Option Beginning) {ms ns : Members} {a b i p s u : ℕ} → (z : Greater R) → SameLists R base k j → SameMembers R ms ns → R a b → R i s → R p u → SameStep R base (begin_with o (level_of (kind_listed k)) i p (listed ms a k)) (begin_with o (level_of (kind_listed j)) s u (listed ns b j))
level_same R base o z (o_left m l) ms a i p = with_same z o 12 (l_listed ms a (o_left m l)) i p
level_same R base o z (o_right q t m l) ms a i p = with_same z o 12 (l_listed ms a (o_right q t m l)) i p
level_same R base o z (o_returned m l) ms a i p = with_same z o 12 (l_listed ms a (o_returned m l)) i p
level_same R base o z (o_target m l) ms a i p = with_same z o 7 (l_listed ms a (o_target m l)) i p
