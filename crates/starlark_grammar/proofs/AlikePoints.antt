-- The turns of expressions do not depend on places, nor on the trees that were read.
use Rattle.std.proofs.Common.{ℕ, List, Option, Some, None, Bool, true, false, nat_eq, cond}
use Rattle.starlark_lexer.specs.Items.{Lexeme, fstring_expr_start, fstring_bang, fstring_expr_end, fstring_end, keyword_else, keyword_for, keyword_if, keyword_in, comma, colon, equal, star, star_star, slash, closing_square}
use Rattle.starlark_ast.specs.declared.ast.BinOp.{BinOp}
use Rattle.starlark_ast.specs.Tree as tree
use Rattle.starlark_grammar.specs.Sorts.{sort, text_of, name_of}
use Rattle.starlark_grammar.specs.Tables.{Bracket, round, square, curly, closing_bracket, comprises, conversion}
use Rattle.starlark_grammar.specs.Points.{Place, brackets, behind, before_body, targets_in, close_of, Part, Bounds, at_first, at_second, at_third, Frame, member, key, bound, second, operand, behind_sign, condition, otherwise, body, over, filter, field, Point, member_wanted, member_read, key_read, star_read, stars_read, name_read, bound_wanted, bound_read, second_read, attribute_wanted, not_read, condition_read, clauses_read, piece_wanted, field_read, letter_wanted, letter_read, Outcome, reach, want, made, After, becomes, goes_to, after, on, on_some, closed, clause_behind, behind_member, next_bound, sliced, second_bound, turn, opens}

-- as many members
pub data LikeMembers : tree.Members → tree.Members → Type 0 where
  m_none : LikeMembers tree.none tree.none
  m_more : {ms ns : tree.Members} {m n : tree.Member} → LikeMembers ms ns → LikeMembers (tree.more ms m) (tree.more ns n)

pub data LikePlace : Place → Place → Type 0 where
  p_brackets : {p : Bracket} {b c : ℕ} → LikePlace (brackets p b) (brackets p c)
  p_behind : {q s : tree.Expr} → LikePlace (behind q) (behind s)
  p_body : {b c : ℕ} → LikePlace (before_body b) (before_body c)
  p_targets : {p : Bracket} {b c : ℕ} {m n : tree.Member} {cs ds : tree.Clauses} → LikePlace (targets_in p b m cs) (targets_in p c n ds)

pub data LikeBounds : Bounds → Bounds → Type 0 where
  b_first : LikeBounds at_first at_first
  b_second : {o p : tree.Bound} → LikeBounds (at_second o) (at_second p)
  b_third : {o p s t : tree.Bound} → LikeBounds (at_third o p) (at_third s t)

-- the same, places and trees aside
pub data LikeFrame : Frame → Frame → Type 0 where
  f_member : {w v : Place} {ms ns : tree.Members} {f g b c : ℕ} {o u : Part} → LikePlace w v → LikeMembers ms ns → LikeFrame (member w ms f b o) (member v ns g c u)
  f_key : {b c f g i j : ℕ} {ms ns : tree.Members} → LikeMembers ms ns → LikeFrame (key b ms f i) (key c ns g j)
  f_bound : {l s : tree.Expr} {bs cs : Bounds} → LikeBounds bs cs → LikeFrame (bound l bs) (bound s cs)
  f_second : {l s t z : tree.Expr} → LikeFrame (second l s) (second t z)
  f_operand : {l s : tree.Expr} {o u : BinOp} → LikeFrame (operand l o) (operand s u)
  f_sign : {s t : tree.Sign} {b c : ℕ} → LikeFrame (behind_sign s b) (behind_sign t c)
  f_condition : {l s : tree.Expr} → LikeFrame (condition l) (condition s)
  f_otherwise : {l s t z : tree.Expr} → LikeFrame (otherwise l s) (otherwise t z)
  f_body : {ms ns : tree.Members} {b c : ℕ} → LikeFrame (body ms b) (body ns c)
  f_over : {p : Bracket} {b c : ℕ} {m n : tree.Member} {cs ds : tree.Clauses} {s t : tree.Expr} → LikeFrame (over p b m cs s) (over p c n ds t)
  f_filter : {p : Bracket} {b c : ℕ} {m n : tree.Member} {cs ds : tree.Clauses} → LikeFrame (filter p b m cs) (filter p c n ds)
  f_field : {b c : ℕ} {f g : List ℕ} {ms ns : tree.Members} → LikeFrame (field b f ms) (field c g ns)

pub data LikePoint : Point → Point → Type 0 where
  t_wanted : {w v : Place} {ms ns : tree.Members} {t z : Bool} {e f g h : ℕ} → LikePlace w v → LikeMembers ms ns → LikePoint (member_wanted w ms t e f) (member_wanted v ns z g h)
  t_member : {w v : Place} {ms ns : tree.Members} {e f g h : ℕ} → LikePlace w v → LikeMembers ms ns → LikePoint (member_read w ms e f) (member_read v ns g h)
  t_key : {b c f g i j : ℕ} {ms ns : tree.Members} {q s : tree.Expr} → LikeMembers ms ns → LikePoint (key_read b ms f i q) (key_read c ns g j s)
  t_star : {b c f g h i j k : ℕ} {ms ns : tree.Members} → LikeMembers ms ns → LikePoint (star_read b ms f g h) (star_read c ns i j k)
  t_stars : {b c f g i j : ℕ} {ms ns : tree.Members} → LikeMembers ms ns → LikePoint (stars_read b ms f g) (stars_read c ns i j)
  t_name : {b c f g h i j k : ℕ} {n l : List ℕ} {ms ns : tree.Members} → LikeMembers ms ns → LikePoint (name_read b ms f n g h) (name_read c ns i l j k)
  t_bound : {q s : tree.Expr} {bs cs : Bounds} → LikeBounds bs cs → LikePoint (bound_wanted q bs) (bound_wanted s cs)
  t_bound_read : {q s t z : tree.Expr} {bs cs : Bounds} → LikeBounds bs cs → LikePoint (bound_read q bs s) (bound_read t cs z)
  t_second : {a b c d e f : tree.Expr} → LikePoint (second_read a b c) (second_read d e f)
  t_attribute : {q s : tree.Expr} → LikePoint (attribute_wanted q) (attribute_wanted s)
  t_not : {q s : tree.Expr} → LikePoint (not_read q) (not_read s)
  t_condition : {a b c d : tree.Expr} → LikePoint (condition_read a b) (condition_read c d)
  t_clauses : {p : Bracket} {b c : ℕ} {m n : tree.Member} {cs ds : tree.Clauses} → LikePoint (clauses_read p b m cs) (clauses_read p c n ds)
  t_piece : {b c : ℕ} {f g : List ℕ} {ms ns : tree.Members} → LikePoint (piece_wanted b f ms) (piece_wanted c g ns)
  t_field : {b c : ℕ} {f g : List ℕ} {ms ns : tree.Members} {q s : tree.Expr} → LikePoint (field_read b f ms q) (field_read c g ns s)
  t_letter : {b c i j k l : ℕ} {f g : List ℕ} {ms ns : tree.Members} {q s : tree.Expr} → LikePoint (letter_wanted b f ms q i j) (letter_wanted c g ns s k l)
  t_letter_read : {b c : ℕ} {f g : List ℕ} {ms ns : tree.Members} → LikePoint (letter_read b f ms) (letter_read c g ns)

pub data LikeAfter : After → After → Type 0 where
  a_becomes : {q s : tree.Expr} → LikeAfter (becomes q) (becomes s)
  a_goes : {p q : Point} → LikePoint p q → LikeAfter (goes_to p) (goes_to q)

pub data LikeOutcome : Option Outcome → Option Outcome → Type 0 where
  n_none : LikeOutcome None None
  n_reach : {p q : Point} → LikePoint p q → LikeOutcome (Some (reach p)) (Some (reach q))
  n_want : {n : ℕ} {f g : Frame} → LikeFrame f g → LikeOutcome (Some (want n f)) (Some (want n g))
  n_made : {q s : tree.Expr} {e f : ℕ} → LikeOutcome (Some (made q e)) (Some (made s f))

pub after_like : {f g : Frame} (q s : tree.Expr) (e u : ℕ) → LikeFrame f g → LikeAfter (after f q e) (after g s u)
after_like q s e u (f_member w m) = a_goes (t_member w (m_more m))
after_like q s e u (f_key m) = a_goes (t_key m)
after_like q s e u (f_bound b) = a_goes (t_bound_read b)
after_like q s e u f_second = a_goes t_second
after_like q s e u f_operand = a_becomes
after_like q s e u f_sign = a_becomes
after_like q s e u f_condition = a_goes t_condition
after_like q s e u f_otherwise = a_becomes
after_like q s e u f_body = a_becomes
after_like q s e u f_over = a_goes t_clauses
after_like q s e u f_filter = a_goes t_clauses
after_like q s e u f_field = a_goes t_field

pub either_like : (z : Bool) (a b c d : Option Outcome) → LikeOutcome a b → LikeOutcome c d → LikeOutcome (cond z a c) (cond z b d)
either_like true a b c d g h = g
either_like false a b c d g h = h

pub on_like : {a b c d : Option Outcome} (y x : Lexeme) → LikeOutcome a b → LikeOutcome c d → LikeOutcome (on y x a c) (on y x b d)
on_like {a} {b} {c} {d} y x g h = either_like (nat_eq (sort y) (sort x)) a b c d g h

pub some_like : {A : Type 0} {c d : Option Outcome} (o : Option A) (f g : A → Option Outcome) → ((a : A) → LikeOutcome (f a) (g a)) → LikeOutcome c d → LikeOutcome (on_some o f c) (on_some o g d)
some_like None f g h l = l
some_like (Some a) f g h l = h a

pub end_like : {w v : Place} {a b c d : Option Outcome} (x : Lexeme) → LikePlace w v → LikeOutcome a b → LikeOutcome c d → LikeOutcome (on (close_of w) x a c) (on (close_of v) x b d)
end_like x (p_brackets {p}) g h = on_like (closing_bracket p) x g h
end_like x (p_behind {q}) g h = on_like (close_of (behind q)) x g h
end_like x p_body g h = on_like colon x g h
end_like x p_targets g h = on_like keyword_in x g h

pub closed_like : {w v : Place} (ms ns : tree.Members) (t z : Bool) (e f j a b c : ℕ) → LikePlace w v → LikeOutcome (Some (closed w ms t e f j)) (Some (closed v ns z a b c))
closed_like ms ns t z e f j a b c p_brackets = n_made
closed_like ms ns t z e f j a b c p_behind = n_made
closed_like ms ns t z e f j a b c p_body = n_want f_body
closed_like ms ns t z e f j a b c p_targets = n_want f_over

pub clause_like : {w v : Place} {ms ns : tree.Members} → LikePlace w v → LikeMembers ms ns → LikeOutcome (clause_behind w ms) (clause_behind v ns)
clause_like (p_brackets {p}) (m_more m_none) = either_like (comprises p) _ _ None None (n_reach (t_wanted p_targets m_none)) n_none
clause_like p_brackets (m_more (m_more m)) = n_none
clause_like p_brackets m_none = n_none
clause_like p_behind m = n_none
clause_like p_body m = n_none
clause_like p_targets m = n_none

pub behind_like : {w v : Place} {ms ns : tree.Members} (x : Lexeme) (e f j a b c : ℕ) → LikePlace w v → LikeMembers ms ns → LikeOutcome (behind_member w ms e f x j) (behind_member v ns a b x c)
behind_like x e f j a b c l m = on_like comma x (n_reach (t_wanted l m)) (end_like x l (closed_like _ _ false false e f j a b c l) (on_like keyword_for x (clause_like l m) n_none))

pub wanted_like : {w v : Place} {ms ns : tree.Members} (x : Lexeme) (t z : Bool) (e f g h i j u k : ℕ) → LikePlace w v → LikeMembers ms ns → LikeOutcome (turn (member_wanted w ms t e f) x i j) (turn (member_wanted v ns z g h) x u k)
wanted_like x t z e f g h i j u k (p_brackets {p}) m = on_like (closing_bracket p) x n_made n_none
wanted_like x t z e f g h i j u k (p_behind {q} {s}) m = end_like x (p_behind {q = q} {s = s}) n_made (on_like star x (n_want (f_member p_behind m)) (on_like star_star x (n_want (f_member p_behind m)) n_none))
wanted_like x t z e f g h i j u k p_body m =
    on_like colon x (n_want f_body)
    (on_like slash x (n_reach (t_member p_body (m_more m)))
    (on_like star x (n_reach (t_star m))
    (on_like star_star x (n_reach (t_stars m)) (some_like (name_of x) _ _ (λ n. n_reach (t_name m)) n_none))))
wanted_like x t z e f g h i j u k p_targets m = n_none

pub next_like : (q s : tree.Expr) {bs cs : Bounds} (o p : tree.Bound) → LikeBounds bs cs → LikeOutcome (next_bound q bs o) (next_bound s cs p)
next_like q s o p b_first = n_reach (t_bound b_second)
next_like q s o p b_second = n_reach (t_bound b_third)
next_like q s o p b_third = n_none

pub sliced_present : (q s : tree.Expr) {bs cs : Bounds} (o p : tree.Expr) (i j : ℕ) → LikeBounds bs cs → LikeOutcome (sliced q bs (tree.present o) i) (sliced s cs (tree.present p) j)
sliced_present q s o p i j b_first = n_made
sliced_present q s o p i j b_second = n_made
sliced_present q s o p i j b_third = n_made

pub sliced_absent : (q s : tree.Expr) {bs cs : Bounds} (i j : ℕ) → LikeBounds bs cs → LikeOutcome (sliced q bs tree.absent i) (sliced s cs tree.absent j)
sliced_absent q s i j b_first = n_none
sliced_absent q s i j b_second = n_made
sliced_absent q s i j b_third = n_made

pub second_like : (q s : tree.Expr) {bs cs : Bounds} (o p : tree.Expr) → LikeBounds bs cs → LikeOutcome (second_bound q bs o) (second_bound s cs p)
second_like q s o p b_first = n_want f_second
second_like q s o p b_second = n_none
second_like q s o p b_third = n_none

pub turn_like : {p q : Point} (x : Lexeme) (i j u k : ℕ) → LikePoint p q → LikeOutcome (turn p x i j) (turn q x u k)
turn_like x i j u k (t_wanted {t} {z} {e} {f} {g} {h} l m) = wanted_like x t z e f g h i j u k l m
turn_like x i j u k (t_member {e} {f} {g} {h} l m) = behind_like x e f j g h k l m
turn_like x i j u k (t_key m) = on_like colon x (n_want (f_member p_brackets m)) n_none
turn_like x i j u k (t_star {f} {h} {i = g} {k = l} m) = some_like (name_of x) _ _ (λ n. n_reach (t_member p_body (m_more m))) (behind_like x h f j l g k p_body (m_more m))
turn_like x i j u k (t_stars m) = some_like (name_of x) _ _ (λ n. n_reach (t_member p_body (m_more m))) n_none
turn_like x i j u k (t_name {f} {h} {i = g} {k = l} m) = on_like equal x (n_want (f_member p_body m)) (behind_like x h f j l g k p_body (m_more m))
turn_like x i j u k (t_bound b) = on_like colon x (next_like _ _ tree.absent tree.absent b) (on_like closing_square x (sliced_absent _ _ j k b) n_none)
turn_like x i j u k (t_bound_read {s} {z} b) = on_like colon x (next_like _ _ (tree.present s) (tree.present z) b) (on_like closing_square x (sliced_present _ _ s z j k b) (on_like comma x (second_like _ _ s z b) n_none))
turn_like x i j u k t_second = on_like closing_square x n_made n_none
turn_like x i j u k t_attribute = some_like (name_of x) _ _ (λ n. n_made) n_none
turn_like x i j u k t_not = on_like keyword_in x (n_want f_operand) n_none
turn_like x i j u k t_condition = on_like keyword_else x (n_want f_otherwise) n_none
turn_like x i j u k (t_clauses {p}) = on_like keyword_for x (n_reach (t_wanted p_targets m_none)) (on_like keyword_if x (n_want f_filter) (on_like (closing_bracket p) x n_made n_none))
turn_like x i j u k t_piece = some_like (text_of x) _ _ (λ t. n_reach t_piece) (on_like fstring_expr_start x (n_want f_field) (on_like fstring_end x n_made n_none))
turn_like x i j u k t_field = on_like fstring_expr_end x (n_reach t_piece) (on_like fstring_bang x (n_reach t_letter) n_none)
turn_like x i j u k t_letter = some_like (name_of x) _ _ (λ n. some_like (conversion n) _ _ (λ s. n_reach t_letter_read) n_none) n_none
turn_like x i j u k t_letter_read = on_like fstring_expr_end x (n_reach t_piece) n_none

pub data LikeOpens : Option (ℕ × Frame) → Option (ℕ × Frame) → Type 0 where
  no_opening : LikeOpens None None
  an_opening : {n : ℕ} {f g : Frame} → LikeFrame f g → LikeOpens (Some (n, f)) (Some (n, g))

pub opens_wanted : {w v : Place} {ms ns : tree.Members} (t z : Bool) (e f g h i u : ℕ) → LikePlace w v → LikeMembers ms ns → LikeOpens (opens (member_wanted w ms t e f) i) (opens (member_wanted v ns z g h) u)
opens_wanted t z e f g h i u (p_brackets {p = round}) m = an_opening (f_member p_brackets m)
opens_wanted t z e f g h i u (p_brackets {p = square}) m = an_opening (f_member p_brackets m)
opens_wanted t z e f g h i u (p_brackets {p = curly}) m = an_opening (f_key m)
opens_wanted t z e f g h i u p_behind m = an_opening (f_member p_behind m)
opens_wanted t z e f g h i u p_body m = no_opening
opens_wanted t z e f g h i u p_targets m = an_opening (f_member p_targets m)

pub opens_like : {p q : Point} (i u : ℕ) → LikePoint p q → LikeOpens (opens p i) (opens q u)
opens_like i u (t_wanted l m) = opens_wanted _ _ _ _ _ _ i u l m
opens_like i u (t_bound b) = an_opening (f_bound b)
opens_like i u (t_member l m) = no_opening
opens_like i u (t_key m) = no_opening
opens_like i u (t_star m) = no_opening
opens_like i u (t_stars m) = no_opening
opens_like i u (t_name m) = no_opening
opens_like i u (t_bound_read b) = no_opening
opens_like i u t_second = no_opening
opens_like i u t_attribute = no_opening
opens_like i u t_not = no_opening
opens_like i u t_condition = no_opening
opens_like i u t_clauses = no_opening
opens_like i u t_piece = no_opening
opens_like i u t_field = no_opening
opens_like i u t_letter = no_opening
opens_like i u t_letter_read = no_opening
