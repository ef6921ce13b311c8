-- What is met at states that are the same but for places.
use Rattle.std.proofs.Common.{ℕ, Option, Some, None, Bool, true, false, cond}
use Rattle.starlark_lexer.specs.Items.{Lexeme, comma}
use Rattle.starlark_ast.specs.Tree.{Expr, Sequence}
use Rattle.starlark_grammar.specs.Events.{Event}
use Rattle.starlark_grammar.specs.Tables.{suffix}
use Rattle.starlark_grammar.specs.Points.{Frame, Point, after}
use Rattle.starlark_grammar.specs.Frames.{Spots, Lists, Frames, State}
use Rattle.starlark_grammar.specs.Runs.{ended_by, list_ended_by, operates, ends_in, ends, met_at, met}
use Rattle.starlark_joining.specs.Same.{SameExpr, same_choice, same_lambda, same_signed, same_name, same_none, same_more}
use Rattle.starlark_joining.specs.Joined.{SameEvent, same_typed, same_assigned, same_looped, same_shaped, Greater}
use Rattle.starlark_joining.proofs.SameNodes.{stretch_same, from_same, operated_same, one_place}
use Rattle.starlark_joining.proofs.SamePoints.{p_brackets, p_behind, p_body, p_targets, SameFrame, f_member, f_key, f_bound, f_second, f_operand, f_sign, f_condition, f_otherwise, f_body, f_over, f_filter, f_field, SamePoint, t_wanted, t_member, t_key, t_star, t_stars, t_name, t_bound, t_bound_read, t_second, t_attribute, t_not, t_condition, t_clauses, t_piece, t_field, t_letter, t_letter_read}
use Rattle.starlark_joining.proofs.SameFrames.{SameSpots, o_first, o_annotation, o_test, o_source, o_type, o_default, o_result, SameLists, o_left, o_right, o_returned, o_target, SameFrames, l_tail, l_inside, l_listed, l_spot, SameState, s_wants, s_has, s_stands, s_named, s_list, s_next, s_line, s_for, s_if, s_colon, s_suite, s_indent, s_small, s_semicolon, s_return, s_load_opens, s_load_module, s_load_named, s_load_symbol, s_load_equal, s_load_other, s_load_behind, s_def_name, s_def_opens, s_param, s_star, s_stars, s_name, s_behind_param, s_result}

-- nothing, or the same
pub data SameMet (R : ℕ → ℕ → Type 0) : Option Event → Option Event → Type 0 where
  no_event : SameMet R None None
  an_event : {e f : Event} → SameEvent R e f → SameMet R (Some e) (Some f)

ended_same : {R : ℕ → ℕ → Type 0} {base : Sequence} {k j : Spots} {q s : Expr} → SameSpots R base k j → SameExpr R q s → SameMet R (ended_by k q) (ended_by j s)
ended_same (o_annotation l m k) q = an_event (same_typed q)
ended_same (o_type l ps n m) q = an_event (same_typed q)
ended_same (o_result l ps) q = an_event (same_typed q)
ended_same (o_first m l) q = no_event
ended_same (o_test m l) q = no_event
ended_same (o_source l m k) q = no_event
ended_same (o_default l ps n t m) q = no_event

list_ended_same : {R : ℕ → ℕ → Type 0} {base : Sequence} {k j : Lists} → SameLists R base k j → SameMet R (list_ended_by k) (list_ended_by j)
list_ended_same (o_right l t m k) = an_event (same_assigned l t)
list_ended_same (o_left m l) = no_event
list_ended_same (o_returned m l) = no_event
list_ended_same (o_target m l) = no_event

in_same : {R : ℕ → ℕ → Type 0} (z : Greater R) {f g : Frame} {q s : Expr} {e u : ℕ} (a b : Expr → Option Event) → SameFrame R f g → SameExpr R q s → R e u → ((q s : Expr) → SameExpr R q s → SameMet R (a q) (b s)) → SameMet R (ends_in f (after f q e) a) (ends_in g (after g s u) b)
in_same z a b (f_over l m c t) q e h = an_event (same_looped t)
in_same z a b (f_member w m f g o) q e h = no_event
in_same z a b (f_key l m f g) q e h = no_event
in_same z a b (f_bound l o) q e h = no_event
in_same z a b (f_second l s) q e h = no_event
in_same z a b (f_operand {o} l) q e h = h _ _ (operated_same z o l q)
in_same z a b (f_sign l) q e h = h _ _ (same_signed q (stretch_same z l e))
in_same z a b (f_condition l) q e h = no_event
in_same z a b (f_otherwise l s) q e h = h _ _ (same_choice s l q (from_same z l e))
in_same z a b (f_body m l) q e h = h _ _ (same_lambda m q (stretch_same z l e))
in_same z a b (f_filter l m c) q e h = no_event
in_same z a b (f_field l m) q e h = no_event

unless_same : (R : ℕ → ℕ → Type 0) (z : Bool) (a b : Option Event) → SameMet R a b → SameMet R (cond z None a) (cond z None b)
unless_same R true a b h = no_event
unless_same R false a b h = h

ends_same : {R : ℕ → ℕ → Type 0} (z : Greater R) {base : Sequence} {k j : Frames} {q s : Expr} {e f : ℕ} (x : Option Lexeme) → SameFrames R base k j → SameExpr R q s → R e f → SameMet R (ends k q e x) (ends j s f x)
ends_same z None (l_tail l) q e = ends_same z None l q e
ends_same {R} z {q = a} {s = b} {e = c} {f = d} (Some x) (l_tail {n} {k} {j} l) q e = unless_same R (operates (suffix x) n) (ends k a c (Some x)) (ends j b d (Some x)) (ends_same z (Some x) l q e)
ends_same z {e = c} {f = d} x (l_inside {k} {j} g l) q e = in_same z (λ s. ends k s c x) (λ s. ends j s d x) g q e (λ s r w. ends_same z x l w e)
ends_same z (Some comma) (l_listed m n l) q e = no_event
ends_same z x (l_listed m n l) q e = list_ended_same l
ends_same z x (l_spot l) q e = ended_same l q

met_at_same : {R : ℕ → ℕ → Type 0} (z : Greater R) {p q : Point} → SamePoint R p q → SameMet R (met_at p) (met_at q)
met_at_same z (t_wanted (p_targets b n c) same_none e f) = no_event
met_at_same z (t_wanted (p_targets b n c) (same_more ms m) (one_place e) (one_place f)) = an_event (same_shaped (stretch_same z f e))
met_at_same z (t_wanted (p_brackets b) m e f) = no_event
met_at_same z (t_wanted (p_behind q) m e f) = no_event
met_at_same z (t_wanted (p_body b) m e f) = no_event
met_at_same z (t_letter b m q i j) = an_event (same_shaped (stretch_same z i j))
met_at_same z (t_bound q b) = no_event
met_at_same z (t_member p m e f) = no_event
met_at_same z (t_key b m f g q) = no_event
met_at_same z (t_star b m f g h) = no_event
met_at_same z (t_stars b m f g) = no_event
met_at_same z (t_name b m f g h) = no_event
met_at_same z (t_bound_read q b t) = no_event
met_at_same z (t_second q r t) = no_event
met_at_same z (t_attribute q) = no_event
met_at_same z (t_not q) = no_event
met_at_same z (t_condition q t) = no_event
met_at_same z (t_clauses b m c) = no_event
met_at_same z (t_piece b m) = no_event
met_at_same z (t_field b m q) = no_event
met_at_same z (t_letter_read b m) = no_event

pub met_same : {R : ℕ → ℕ → Type 0} (z : Greater R) {base : Sequence} {a b : State} (x : Option Lexeme) → SameState R base a b → SameMet R (met a x) (met b x)
met_same z x (s_has q e l) = ends_same z x l q e
met_same z x (s_stands t l) = met_at_same z t
met_same z x (s_next m p e l) = an_event (same_shaped (stretch_same z p e))
met_same z x (s_load_equal m a ss (same_name u) l) = an_event (same_shaped u)
met_same z x (s_for q l e) = an_event (same_looped q)
met_same z x (s_wants l) = no_event
met_same z x (s_named q m f g h l) = no_event
met_same z x (s_list l) = no_event
met_same z x (s_line l e) = no_event
met_same z x (s_if q s m e l) = no_event
met_same z x (s_colon l) = no_event
met_same z x (s_suite l) = no_event
met_same z x (s_indent l) = no_event
met_same z x (s_small s l) = no_event
met_same z x (s_semicolon l) = no_event
met_same z x (s_return m e l) = no_event
met_same z x (s_load_opens m l) = no_event
met_same z x (s_load_module m l) = no_event
met_same z x (s_load_named m n l) = no_event
met_same z x (s_load_symbol m n ss l) = no_event
met_same z x (s_load_other m n ss o l) = no_event
met_same z x (s_load_behind m n ss s l) = no_event
met_same z x (s_def_name m l) = no_event
met_same z x (s_def_opens l) = no_event
met_same z x (s_param l ps) = no_event
met_same z x (s_star l ps m e) = no_event
met_same z x (s_stars l ps m) = no_event
met_same z x (s_name l ps n m e) = no_event
met_same z x (s_behind_param l ps) = no_event
met_same z x (s_result l ps) = no_event
