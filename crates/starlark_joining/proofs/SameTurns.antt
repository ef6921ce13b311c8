-- The turns of expressions that are the same but for places.
use Rattle.std.proofs.Common.{ℕ, Option, Some, None, Bool, true, false, nat_eq, cond}
use Rattle.starlark_lexer.specs.Items.{Lexeme, fstring_expr_start, fstring_bang, fstring_expr_end, fstring_end, keyword_else, keyword_for, keyword_if, keyword_in, comma, colon, equal, star, star_star, slash, closing_square}
use Rattle.starlark_ast.specs.Tree as tree
use Rattle.starlark_grammar.specs.Sorts.{sort, text_of, name_of}
use Rattle.starlark_grammar.specs.Tables.{round, square, curly, closing_bracket, comprises, conversion}
use Rattle.starlark_grammar.specs.Points.{Place, behind, close_of, Bounds, Frame, Point, member_wanted, Outcome, on, on_some, closed, clause_behind, behind_member, next_bound, sliced, second_bound, turn, opens}
use Rattle.starlark_joining.specs.Same.{SameExpr, same_comprehension, same_dot, same_index, same_call, same_fstring, same_item, same_slash, same_no_args, same_parameter, SameMembers, same_none, same_more, SameBound, same_absent, same_present, same_untyped, same_single, same_double, same_slice, same_no_clauses}
use Rattle.starlark_joining.specs.Joined.{Greater}
use Rattle.starlark_joining.proofs.SameNodes.{stretch_same, from_same, lists_same, enclosed_same, SameWhere, no_place, where_same}
use Rattle.starlark_joining.proofs.SamePoints.{SamePlace, p_brackets, p_behind, p_body, p_targets, k_item, k_value, k_argument, k_args, k_kwargs, k_parameter, SameBounds, b_first, b_second, b_third, SameFrame, f_member, f_key, f_bound, f_second, f_operand, f_otherwise, f_body, f_over, f_filter, f_field, SamePoint, t_wanted, t_member, t_key, t_star, t_stars, t_name, t_bound, t_bound_read, t_second, t_attribute, t_not, t_condition, t_clauses, t_piece, t_field, t_letter, t_letter_read, SameOutcome, n_none, n_reach, n_want, n_made, first_at_same}

either_same : (R : ℕ → ℕ → Type 0) (z : Bool) (a b c d : Option Outcome) → SameOutcome R a b → SameOutcome R c d → SameOutcome R (cond z a c) (cond z b d)
either_same R true a b c d g h = g
either_same R false a b c d g h = h

on_same : {R : ℕ → ℕ → Type 0} {a b c d : Option Outcome} (y x : Lexeme) → SameOutcome R a b → SameOutcome R c d → SameOutcome R (on y x a c) (on y x b d)
on_same {R} {a} {b} {c} {d} y x g h = either_same R (nat_eq (sort y) (sort x)) a b c d g h

some_same : {R : ℕ → ℕ → Type 0} {A : Type 0} {c d : Option Outcome} (o : Option A) (f g : A → Option Outcome) → ((a : A) → SameOutcome R (f a) (g a)) → SameOutcome R c d → SameOutcome R (on_some o f c) (on_some o g d)
some_same None f g h l = l
some_same (Some a) f g h l = h a

end_same : {R : ℕ → ℕ → Type 0} {w v : Place} {a b c d : Option Outcome} (x : Lexeme) → SamePlace R w v → SameOutcome R a b → SameOutcome R c d → SameOutcome R (on (close_of w) x a c) (on (close_of v) x b d)
end_same x (p_brackets {p} l) g h = on_same (closing_bracket p) x g h
end_same x (p_behind {q} l) g h = on_same (close_of (behind q)) x g h
end_same x (p_body l) g h = on_same colon x g h
end_same x (p_targets l m c) g h = on_same keyword_in x g h

closed_same : {R : ℕ → ℕ → Type 0} (z : Greater R) {w v : Place} {ms ns : tree.Members} (t : Bool) {e f j a b c : ℕ} → SamePlace R w v → SameMembers R ms ns → R e a → R f b → R j c → SameOutcome R (Some (closed w ms t e f j)) (Some (closed v ns t a b c))
closed_same z {ms} t (p_brackets {p} l) m e f j = n_made (enclosed_same z p t m (where_same ms e) (where_same ms f) (stretch_same z l j)) j
closed_same z t (p_behind q) m e f j = n_made (same_call q m (from_same z q j)) j
closed_same z t (p_body l) m e f j = n_want (f_body m l)
closed_same z t (p_targets l n c) m e f j = n_want (f_over l n c (lists_same m (stretch_same z f e)))

clause_same : {R : ℕ → ℕ → Type 0} {w v : Place} {ms ns : tree.Members} → SamePlace R w v → SameMembers R ms ns → SameOutcome R (clause_behind w ms) (clause_behind v ns)
clause_same {R} (p_brackets {p} l) (same_more same_none m) = either_same R (comprises p) _ _ None None (n_reach (t_wanted (p_targets l m same_no_clauses) same_none no_place no_place)) n_none
clause_same (p_brackets l) (same_more (same_more n o) m) = n_none
clause_same (p_brackets l) same_none = n_none
clause_same (p_behind l) m = n_none
clause_same (p_body l) m = n_none
clause_same (p_targets l n c) m = n_none

behind_same : {R : ℕ → ℕ → Type 0} (z : Greater R) {w v : Place} {ms ns : tree.Members} (x : Lexeme) {e f j a b c : ℕ} → SamePlace R w v → SameMembers R ms ns → R e a → R f b → R j c → SameOutcome R (behind_member w ms e f x j) (behind_member v ns a b x c)
behind_same z {ms} x l m e f j = on_same comma x (n_reach (t_wanted l m (where_same ms j) (where_same ms f))) (end_same x l (closed_same z false l m e f j) (on_same keyword_for x (clause_same l m) n_none))

wanted_same : {R : ℕ → ℕ → Type 0} (z : Greater R) {w v : Place} {ms ns : tree.Members} (x : Lexeme) (t : Bool) {e f g h i j u k : ℕ} → SamePlace R w v → SameMembers R ms ns → SameWhere R ms e g → SameWhere R ms f h → R i u → R j k → SameOutcome R (turn (member_wanted w ms t e f) x i j) (turn (member_wanted v ns t g h) x u k)
wanted_same z x t (p_brackets {p} l) m e f i j = on_same (closing_bracket p) x (n_made (enclosed_same z p t m e f (stretch_same z l j)) j) n_none
wanted_same z x t (p_behind q) m e f i j = end_same x (p_behind q) (n_made (same_call q m (from_same z q j)) j) (on_same star x (n_want (f_member (p_behind q) m (first_at_same m f i) i k_args)) (on_same star_star x (n_want (f_member (p_behind q) m (first_at_same m f i) i k_kwargs)) n_none))
wanted_same z x t (p_body l) m e f i j =
    let first = first_at_same m f i in
    on_same colon x (n_want (f_body m l))
    (on_same slash x (n_reach (t_member (p_body l) (same_more m (same_slash (stretch_same z i j))) j first))
    (on_same star x (n_reach (t_star l m first i j))
    (on_same star_star x (n_reach (t_stars l m first i)) (some_same (name_of x) _ _ (λ n. n_reach (t_name l m first i j)) n_none))))
wanted_same z x t (p_targets l n c) m e f i j = n_none

next_same : {R : ℕ → ℕ → Type 0} {q s : tree.Expr} {bs cs : Bounds} {o p : tree.Bound} → SameExpr R q s → SameBounds R bs cs → SameBound R o p → SameOutcome R (next_bound q bs o) (next_bound s cs p)
next_same q b_first o = n_reach (t_bound q (b_second o))
next_same q (b_second p) o = n_reach (t_bound q (b_third p o))
next_same q (b_third p r) o = n_none

sliced_same : {R : ℕ → ℕ → Type 0} (z : Greater R) {q s : tree.Expr} {bs cs : Bounds} {o p : tree.Bound} {i j : ℕ} → SameExpr R q s → SameBounds R bs cs → SameBound R o p → R i j → SameOutcome R (sliced q bs o i) (sliced s cs p j)
sliced_same z q b_first (same_present o) i = n_made (same_index q (same_single o) (from_same z q i)) i
sliced_same z q b_first same_absent i = n_none
sliced_same z q (b_second p) o i = n_made (same_index q (same_slice p o same_absent) (from_same z q i)) i
sliced_same z q (b_third p r) o i = n_made (same_index q (same_slice p r o) (from_same z q i)) i

second_same : {R : ℕ → ℕ → Type 0} {q s : tree.Expr} {bs cs : Bounds} {o p : tree.Expr} → SameExpr R q s → SameBounds R bs cs → SameExpr R o p → SameOutcome R (second_bound q bs o) (second_bound s cs p)
second_same q b_first o = n_want (f_second q o)
second_same q (b_second p) o = n_none
second_same q (b_third p r) o = n_none

pub turn_same : {R : ℕ → ℕ → Type 0} (z : Greater R) {p q : Point} (x : Lexeme) {i j u k : ℕ} → SamePoint R p q → R i u → R j k → SameOutcome R (turn p x i j) (turn q x u k)
turn_same z x (t_wanted {t} l m e f) i j = wanted_same z x t l m e f i j
turn_same z x (t_member l m e f) i j = behind_same z x l m e f j
turn_same z x (t_key b m f g q) i j = on_same colon x (n_want (f_member (p_brackets b) m f g (k_value q))) n_none
turn_same z x (t_star b m f g h) i j = some_same (name_of x) _ _ (λ n. n_reach (t_member (p_body b) (same_more m (same_parameter (stretch_same z i j) same_untyped same_absent (stretch_same z g j))) j f)) (behind_same z x (p_body b) (same_more m (same_no_args (stretch_same z g h))) h f j)
turn_same z x (t_stars b m f g) i j = some_same (name_of x) _ _ (λ n. n_reach (t_member (p_body b) (same_more m (same_parameter (stretch_same z i j) same_untyped same_absent (stretch_same z g j))) j f)) n_none
turn_same z x (t_name b m f g h) i j = on_same equal x (n_want (f_member (p_body b) m f g (k_parameter (stretch_same z g h)))) (behind_same z x (p_body b) (same_more m (same_parameter (stretch_same z g h) same_untyped same_absent (stretch_same z g h))) h f j)
turn_same z x (t_bound q b) i j = on_same colon x (next_same q b same_absent) (on_same closing_square x (sliced_same z q b same_absent j) n_none)
turn_same z x (t_bound_read q b s) i j = on_same colon x (next_same q b (same_present s)) (on_same closing_square x (sliced_same z q b (same_present s) j) (on_same comma x (second_same q b s) n_none))
turn_same z x (t_second q s t) i j = on_same closing_square x (n_made (same_index q (same_double s t) (from_same z q j)) j) n_none
turn_same z x (t_attribute q) i j = some_same (name_of x) _ _ (λ n. n_made (same_dot q (stretch_same z i j) (from_same z q j)) j) n_none
turn_same z x (t_not l) i j = on_same keyword_in x (n_want (f_operand l)) n_none
turn_same z x (t_condition t c) i j = on_same keyword_else x (n_want (f_otherwise t c)) n_none
turn_same z x (t_clauses {p} b m c) i j = on_same keyword_for x (n_reach (t_wanted (p_targets b m c) same_none no_place no_place)) (on_same keyword_if x (n_want (f_filter b m c)) (on_same (closing_bracket p) x (n_made (same_comprehension m c (stretch_same z b j)) j) n_none))
turn_same z x (t_piece b m) i j = some_same (text_of x) _ _ (λ t. n_reach (t_piece b m)) (on_same fstring_expr_start x (n_want (f_field b m)) (on_same fstring_end x (n_made (same_fstring (stretch_same z b j) m (stretch_same z b j) (stretch_same z b j)) j) n_none))
turn_same z x (t_field b m q) i j = on_same fstring_expr_end x (n_reach (t_piece b (same_more m (same_item q)))) (on_same fstring_bang x (n_reach (t_letter b m q i j)) n_none)
turn_same z x (t_letter b m q g h) i j = some_same (name_of x) _ _ (λ n. some_same (conversion n) _ _ (λ s. n_reach (t_letter_read b (same_more m (same_item q)))) n_none) n_none
turn_same z x (t_letter_read b m) i j = on_same fstring_expr_end x (n_reach (t_piece b m)) n_none

pub data SameOpens (R : ℕ → ℕ → Type 0) : Option (ℕ × Frame) → Option (ℕ × Frame) → Type 0 where
  no_opening : SameOpens R None None
  an_opening : {n : ℕ} {f g : Frame} → SameFrame R f g → SameOpens R (Some (n, f)) (Some (n, g))

opens_wanted : {R : ℕ → ℕ → Type 0} {w v : Place} {ms ns : tree.Members} (t : Bool) (e g : ℕ) {f h i u : ℕ} → SamePlace R w v → SameMembers R ms ns → SameWhere R ms f h → R i u → SameOpens R (opens (member_wanted w ms t e f) i) (opens (member_wanted v ns t g h) u)
opens_wanted t e g (p_brackets {p = round} b) m f i = an_opening (f_member (p_brackets b) m (first_at_same m f i) i k_item)
opens_wanted t e g (p_brackets {p = square} b) m f i = an_opening (f_member (p_brackets b) m (first_at_same m f i) i k_item)
opens_wanted t e g (p_brackets {p = curly} b) m f i = an_opening (f_key b m (first_at_same m f i) i)
opens_wanted t e g (p_behind q) m f i = an_opening (f_member (p_behind q) m (first_at_same m f i) i k_argument)
opens_wanted t e g (p_body b) m f i = no_opening
opens_wanted t e g (p_targets b n c) m f i = an_opening (f_member (p_targets b n c) m (first_at_same m f i) i k_item)

pub opens_same : {R : ℕ → ℕ → Type 0} {p q : Point} {i u : ℕ} → SamePoint R p q → R i u → SameOpens R (opens p i) (opens q u)
opens_same (t_wanted {t} {e} {g} l m a f) i = opens_wanted t e g l m f i
opens_same (t_bound q b) i = an_opening (f_bound q b)
opens_same (t_member l m e f) i = no_opening
opens_same (t_key b m f g q) i = no_opening
opens_same (t_star b m f g h) i = no_opening
opens_same (t_stars b m f g) i = no_opening
opens_same (t_name b m f g h) i = no_opening
opens_same (t_bound_read q b s) i = no_opening
opens_same (t_second q s t) i = no_opening
opens_same (t_attribute q) i = no_opening
opens_same (t_not q) i = no_opening
opens_same (t_condition q s) i = no_opening
opens_same (t_clauses b m c) i = no_opening
opens_same (t_piece b m) i = no_opening
opens_same (t_field b m q) i = no_opening
opens_same (t_letter b m q g h) i = no_opening
opens_same (t_letter_read b m) i = no_opening
