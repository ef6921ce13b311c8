-- The frames and points of expressions that are the same but for places.
use Rattle.std.proofs.Common.{ℕ, List, Option, Some, None, Bool}
use Rattle.starlark_place.specs.Place.{Extent}
use Rattle.starlark_ast.specs.declared.ast.BinOp.{BinOp}
use Rattle.starlark_ast.specs.Tree as tree
use Rattle.starlark_grammar.specs.Tables.{Bracket}
use Rattle.starlark_grammar.specs.Points.{Place, brackets, behind, before_body, targets_in, Part, an_item, a_value, an_argument, a_named, an_args, a_kwargs, a_parameter, member_of, Bounds, at_first, at_second, at_third, Frame, member, key, bound, second, operand, behind_sign, condition, otherwise, body, over, filter, field, Point, member_wanted, member_read, key_read, star_read, stars_read, name_read, bound_wanted, bound_read, second_read, attribute_wanted, not_read, condition_read, clauses_read, piece_wanted, field_read, letter_wanted, letter_read, Outcome, reach, want, made, After, becomes, goes_to, after, first_at}
use Rattle.starlark_joining.specs.Same.{SameSpan, SameExpr, same_choice, same_lambda, same_signed, SameMember, same_item, same_pair, same_positional, same_named, same_args, same_kwargs, same_parameter, SameMembers, same_none, same_more, SameBound, same_present, same_untyped, SameClauses, same_and_clause, same_for_clause, same_if_clause}
use Rattle.starlark_joining.specs.Joined.{Greater}
use Rattle.starlark_joining.proofs.SameNodes.{stretch_same, from_same, operated_same, target_same, SameWhere, one_place}

pub data SamePlace (R : ℕ → ℕ → Type 0) : Place → Place → Type 0 where
  p_brackets : {p : Bracket} {b c : ℕ} → R b c → SamePlace R (brackets p b) (brackets p c)
  p_behind : {q s : tree.Expr} → SameExpr R q s → SamePlace R (behind q) (behind s)
  p_body : {b c : ℕ} → R b c → SamePlace R (before_body b) (before_body c)
  p_targets : {p : Bracket} {b c : ℕ} {m n : tree.Member} {cs ds : tree.Clauses} → R b c → SameMember R m n → SameClauses R cs ds → SamePlace R (targets_in p b m cs) (targets_in p c n ds)

pub data SamePart (R : ℕ → ℕ → Type 0) : Part → Part → Type 0 where
  k_item : SamePart R an_item an_item
  k_value : {q s : tree.Expr} → SameExpr R q s → SamePart R (a_value q) (a_value s)
  k_argument : SamePart R an_argument an_argument
  k_named : {n : List ℕ} {s r : Extent} → SameSpan R s r → SamePart R (a_named n s) (a_named n r)
  k_args : SamePart R an_args an_args
  k_kwargs : SamePart R a_kwargs a_kwargs
  k_parameter : {n : List ℕ} {s r : Extent} → SameSpan R s r → SamePart R (a_parameter n s) (a_parameter n r)

pub data SameBounds (R : ℕ → ℕ → Type 0) : Bounds → Bounds → Type 0 where
  b_first : SameBounds R at_first at_first
  b_second : {o p : tree.Bound} → SameBound R o p → SameBounds R (at_second o) (at_second p)
  b_third : {o p s t : tree.Bound} → SameBound R o s → SameBound R p t → SameBounds R (at_third o p) (at_third s t)

pub data SameFrame (R : ℕ → ℕ → Type 0) : Frame → Frame → Type 0 where
  f_member : {w v : Place} {ms ns : tree.Members} {f g b c : ℕ} {o u : Part} → SamePlace R w v → SameMembers R ms ns → R f g → R b c → SamePart R o u → SameFrame R (member w ms f b o) (member v ns g c u)
  f_key : {b c f g i j : ℕ} {ms ns : tree.Members} → R b c → SameMembers R ms ns → R f g → R i j → SameFrame R (key b ms f i) (key c ns g j)
  f_bound : {l s : tree.Expr} {bs cs : Bounds} → SameExpr R l s → SameBounds R bs cs → SameFrame R (bound l bs) (bound s cs)
  f_second : {l s t z : tree.Expr} → SameExpr R l t → SameExpr R s z → SameFrame R (second l s) (second t z)
  f_operand : {l s : tree.Expr} {o : BinOp} → SameExpr R l s → SameFrame R (operand l o) (operand s o)
  f_sign : {s : tree.Sign} {b c : ℕ} → R b c → SameFrame R (behind_sign s b) (behind_sign s c)
  f_condition : {l s : tree.Expr} → SameExpr R l s → SameFrame R (condition l) (condition s)
  f_otherwise : {l s t z : tree.Expr} → SameExpr R l t → SameExpr R s z → SameFrame R (otherwise l s) (otherwise t z)
  f_body : {ms ns : tree.Members} {b c : ℕ} → SameMembers R ms ns → R b c → SameFrame R (body ms b) (body ns c)
  f_over : {p : Bracket} {b c : ℕ} {m n : tree.Member} {cs ds : tree.Clauses} {s t : tree.Expr} → R b c → SameMember R m n → SameClauses R cs ds → SameExpr R s t → SameFrame R (over p b m cs s) (over p c n ds t)
  f_filter : {p : Bracket} {b c : ℕ} {m n : tree.Member} {cs ds : tree.Clauses} → R b c → SameMember R m n → SameClauses R cs ds → SameFrame R (filter p b m cs) (filter p c n ds)
  f_field : {b c : ℕ} {f : List ℕ} {ms ns : tree.Members} → R b c → SameMembers R ms ns → SameFrame R (field b f ms) (field c f ns)

pub data SamePoint (R : ℕ → ℕ → Type 0) : Point → Point → Type 0 where
  t_wanted : {w v : Place} {ms ns : tree.Members} {t : Bool} {e f g h : ℕ} → SamePlace R w v → SameMembers R ms ns → SameWhere R ms e g → SameWhere R ms f h → SamePoint R (member_wanted w ms t e f) (member_wanted v ns t g h)
  t_member : {w v : Place} {ms ns : tree.Members} {e f g h : ℕ} → SamePlace R w v → SameMembers R ms ns → R e g → R f h → SamePoint R (member_read w ms e f) (member_read v ns g h)
  t_key : {b c f g i j : ℕ} {ms ns : tree.Members} {q s : tree.Expr} → R b c → SameMembers R ms ns → R f g → R i j → SameExpr R q s → SamePoint R (key_read b ms f i q) (key_read c ns g j s)
  t_star : {b c f g h i j k : ℕ} {ms ns : tree.Members} → R b c → SameMembers R ms ns → R f i → R g j → R h k → SamePoint R (star_read b ms f g h) (star_read c ns i j k)
  t_stars : {b c f g i j : ℕ} {ms ns : tree.Members} → R b c → SameMembers R ms ns → R f i → R g j → SamePoint R (stars_read b ms f g) (stars_read c ns i j)
  t_name : {b c f g h i j k : ℕ} {n : List ℕ} {ms ns : tree.Members} → R b c → SameMembers R ms ns → R f i → R g j → R h k → SamePoint R (name_read b ms f n g h) (name_read c ns i n j k)
  t_bound : {q s : tree.Expr} {bs cs : Bounds} → SameExpr R q s → SameBounds R bs cs → SamePoint R (bound_wanted q bs) (bound_wanted s cs)
  t_bound_read : {q s t z : tree.Expr} {bs cs : Bounds} → SameExpr R q t → SameBounds R bs cs → SameExpr R s z → SamePoint R (bound_read q bs s) (bound_read t cs z)
  t_second : {a b c d e f : tree.Expr} → SameExpr R a d → SameExpr R b e → SameExpr R c f → SamePoint R (second_read a b c) (second_read d e f)
  t_attribute : {q s : tree.Expr} → SameExpr R q s → SamePoint R (attribute_wanted q) (attribute_wanted s)
  t_not : {q s : tree.Expr} → SameExpr R q s → SamePoint R (not_read q) (not_read s)
  t_condition : {a b c d : tree.Expr} → SameExpr R a c → SameExpr R b d → SamePoint R (condition_read a b) (condition_read c d)
  t_clauses : {p : Bracket} {b c : ℕ} {m n : tree.Member} {cs ds : tree.Clauses} → R b c → SameMember R m n → SameClauses R cs ds → SamePoint R (clauses_read p b m cs) (clauses_read p c n ds)
  t_piece : {b c : ℕ} {f : List ℕ} {ms ns : tree.Members} → R b c → SameMembers R ms ns → SamePoint R (piece_wanted b f ms) (piece_wanted c f ns)
  t_field : {b c : ℕ} {f : List ℕ} {ms ns : tree.Members} {q s : tree.Expr} → R b c → SameMembers R ms ns → SameExpr R q s → SamePoint R (field_read b f ms q) (field_read c f ns s)
  t_letter : {b c i j k l : ℕ} {f : List ℕ} {ms ns : tree.Members} {q s : tree.Expr} → R b c → SameMembers R ms ns → SameExpr R q s → R i k → R j l → SamePoint R (letter_wanted b f ms q i j) (letter_wanted c f ns s k l)
  t_letter_read : {b c : ℕ} {f : List ℕ} {ms ns : tree.Members} → R b c → SameMembers R ms ns → SamePoint R (letter_read b f ms) (letter_read c f ns)

pub data SameAfter (R : ℕ → ℕ → Type 0) : After → After → Type 0 where
  a_becomes : {q s : tree.Expr} → SameExpr R q s → SameAfter R (becomes q) (becomes s)
  a_goes : {p q : Point} → SamePoint R p q → SameAfter R (goes_to p) (goes_to q)

pub data SameOutcome (R : ℕ → ℕ → Type 0) : Option Outcome → Option Outcome → Type 0 where
  n_none : SameOutcome R None None
  n_reach : {p q : Point} → SamePoint R p q → SameOutcome R (Some (reach p)) (Some (reach q))
  n_want : {n : ℕ} {f g : Frame} → SameFrame R f g → SameOutcome R (Some (want n f)) (Some (want n g))
  n_made : {q s : tree.Expr} {e f : ℕ} → SameExpr R q s → R e f → SameOutcome R (Some (made q e)) (Some (made s f))

pub member_same : {R : ℕ → ℕ → Type 0} {o u : Part} {q s : tree.Expr} {a b : Extent} → SamePart R o u → SameExpr R q s → SameSpan R a b → SameMember R (member_of o q a) (member_of u s b)
member_same k_item q s = same_item q
member_same (k_value k) q s = same_pair k q
member_same k_argument q s = same_positional q s
member_same (k_named u) q s = same_named u q s
member_same k_args q s = same_args q s
member_same k_kwargs q s = same_kwargs q s
member_same (k_parameter u) q s = same_parameter u same_untyped (same_present q) s

pub first_at_same : {R : ℕ → ℕ → Type 0} {ms ns : tree.Members} {f g i j : ℕ} → SameMembers R ms ns → SameWhere R ms f g → R i j → R (first_at ms f i) (first_at ns g j)
first_at_same same_none a r = r
first_at_same (same_more ms m) (one_place a) r = a

pub after_same : {R : ℕ → ℕ → Type 0} (z : Greater R) {f g : Frame} {q s : tree.Expr} {e u : ℕ} → SameFrame R f g → SameExpr R q s → R e u → SameAfter R (after f q e) (after g s u)
after_same z (f_member w m f b o) q e = a_goes (t_member w (same_more m (member_same o q (stretch_same z b e))) e f)
after_same z (f_key b m f i) q e = a_goes (t_key b m f i q)
after_same z (f_bound l b) q e = a_goes (t_bound_read l b q)
after_same z (f_second l s) q e = a_goes (t_second l s q)
after_same z (f_operand {o} l) q e = a_becomes (operated_same z o l q)
after_same z (f_sign b) q e = a_becomes (same_signed q (stretch_same z b e))
after_same z (f_condition l) q e = a_goes (t_condition l q)
after_same z (f_otherwise l s) q e = a_becomes (same_choice s l q (from_same z l e))
after_same z (f_body m b) q e = a_becomes (same_lambda m q (stretch_same z b e))
after_same z (f_over b m c t) q e = a_goes (t_clauses b m (same_and_clause c (same_for_clause (target_same t) q)))
after_same z (f_filter b m c) q e = a_goes (t_clauses b m (same_and_clause c (same_if_clause q)))
after_same z (f_field b m) q e = a_goes (t_field b m q)
