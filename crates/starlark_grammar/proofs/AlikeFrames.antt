-- What waits for statements and their parts, places and trees aside.
use Rattle.std.proofs.Common.{ℕ, List, Option, Some, None}
use Rattle.starlark_rulebook.specs.Targets.{target_of}
use Rattle.starlark_grammar.specs.Spans.{stretch}
use Rattle.starlark_lexer.specs.Items.{Lexeme, newline, keyword_in, comma, semicolon, colon, equal, closing_round}
use Rattle.starlark_ast.specs.declared.ast.AssignOp.{AssignOp}
use Rattle.starlark_ast.specs.Tree as tree
use Rattle.starlark_ast.specs.Tree.{Expr, Members, Name, Sequence, Stars, Statement, Symbol, Symbols, add_statement, assign, double_starred, expression, no_statements, plain, return, starred, Annotation}
use Rattle.starlark_grammar.specs.Tables.{assigner}
use Rattle.starlark_grammar.specs.Points.{Frame, Point}
use Rattle.starlark_grammar.specs.Frames.{Blocks, outer, inner, Ifs, at_if, at_elif, Suites, of_if, of_else, of_for, of_def, Head, head, Rows, at_block, at_suite, Line, line, Spots, first, annotation, test, source, param_type, param_default, result_type, Lists, left, right, returned, target, Frames, tail, inside, listed, spot, State, wants, has, stands, perhaps_named, wants_list, wants_next, at_line, behind_for, behind_if, wants_colon, wants_suite, wants_indent, behind_small, wants_small, behind_return, load_opens, load_module, load_named, load_symbol, load_equal, load_other, load_behind, def_name, def_opens, wants_param, behind_star, behind_stars, behind_name, behind_param, wants_result}
use Rattle.starlark_grammar.specs.Machine.{push, settled, close, end_row, end_small, end_param, begin_right, begin_default, accept, accept_list}
use Rattle.starlark_grammar.specs.Nodes.{named, type_at}
use Rattle.starlark_grammar.proofs.AlikePoints.{LikeMembers, LikeFrame, LikePoint}

-- the same frames, places and trees aside
mutual
  pub data LikeBlocks : Blocks → Blocks → Type 0 where
    b_outer : {ss rs : Sequence} → LikeBlocks (outer ss) (outer rs)
    b_empty : {k j : Suites} → LikeSuites k j → LikeBlocks (inner no_statements k) (inner no_statements j)
    b_inner : {ss rs : Sequence} {s r : Statement} {k j : Suites} → LikeSuites k j → LikeBlocks (inner (add_statement ss s) k) (inner (add_statement rs r) j)

  pub data LikeIfs : Ifs → Ifs → Type 0 where
    i_if : {k j : Blocks} → LikeBlocks k j → LikeIfs (at_if k) (at_if j)
    i_elif : {q r : Expr} {s t : Statement} {m n : ℕ} {k j : Ifs} → LikeIfs k j → LikeIfs (at_elif q s m k) (at_elif r t n j)

  pub data LikeSuites : Suites → Suites → Type 0 where
    u_if : {q r : Expr} {m n : ℕ} {k j : Ifs} → LikeIfs k j → LikeSuites (of_if q m k) (of_if r n j)
    u_else : {q r : Expr} {s t : Statement} {m n : ℕ} {k j : Ifs} → LikeIfs k j → LikeSuites (of_else q s m k) (of_else r t n j)
    u_for : {l o q r : Expr} {m n : ℕ} {k j : Blocks} → LikeBlocks k j → LikeSuites (of_for l q m k) (of_for o r n j)
    u_def : {f g : Head} {ps qs : Members} {t r : Annotation} → LikeHead f g → LikeSuites (of_def f ps t) (of_def g qs r)

  pub data LikeHead : Head → Head → Type 0 where
    d_head : {m n : ℕ} {x y : Name} {k j : Blocks} → LikeBlocks k j → LikeHead (head m x k) (head n y j)

pub data LikeRows : Rows → Rows → Type 0 where
  r_block : {k j : Blocks} → LikeBlocks k j → LikeRows (at_block k) (at_block j)
  r_suite : {k j : Suites} → LikeSuites k j → LikeRows (at_suite k) (at_suite j)

pub data LikeLine : Line → Line → Type 0 where
  n_line : {ss rs : Sequence} {k j : Rows} → LikeRows k j → LikeLine (line ss k) (line rs j)

pub data LikeSpots : Spots → Spots → Type 0 where
  o_first : {m n : ℕ} {k j : Line} → LikeLine k j → LikeSpots (first m k) (first n j)
  o_annotation : {l o : Expr} {m n : ℕ} {k j : Line} → LikeLine k j → LikeSpots (annotation l m k) (annotation o n j)
  o_test : {m n : ℕ} {k j : Ifs} → LikeIfs k j → LikeSpots (test m k) (test n j)
  o_source : {l o : Expr} {m n : ℕ} {k j : Blocks} → LikeBlocks k j → LikeSpots (source l m k) (source o n j)
  o_type : {f g : Head} {ps qs : Members} {y : Stars} {x z : Name} {m n : ℕ} → LikeHead f g → LikeSpots (param_type f ps y x m) (param_type g qs y z n)
  o_default : {f g : Head} {ps qs : Members} {x z : Name} {t r : Annotation} {m n : ℕ} → LikeHead f g → LikeSpots (param_default f ps x t m) (param_default g qs z r n)
  o_result : {f g : Head} {ps qs : Members} → LikeHead f g → LikeSpots (result_type f ps) (result_type g qs)

pub data LikeLists : Lists → Lists → Type 0 where
  o_left : {m n : ℕ} {k j : Line} → LikeLine k j → LikeLists (left m k) (left n j)
  o_right : {l o : Expr} {t r : Annotation} {x y : Option AssignOp} {m n : ℕ} {k j : Line} → LikeLine k j → LikeLists (right l t x m k) (right o r y n j)
  o_returned : {m n : ℕ} {k j : Line} → LikeLine k j → LikeLists (returned m k) (returned n j)
  o_target : {m n : ℕ} {k j : Blocks} → LikeBlocks k j → LikeLists (target m k) (target n j)

pub data Like : Frames → Frames → Type 0 where
  l_tail : {n : ℕ} {k j : Frames} → Like k j → Like (tail n k) (tail n j)
  l_inside : {f g : Frame} {k j : Frames} → LikeFrame f g → Like k j → Like (inside f k) (inside g j)
  l_listed : {p q : ℕ} {ms ns : Members} {k j : Lists} → LikeLists k j → Like (listed ms p k) (listed ns q j)
  l_spot : {k j : Spots} → LikeSpots k j → Like (spot k) (spot j)

pub data LikeState : State → State → Type 0 where
  s_wants : {n : ℕ} {k j : Frames} → Like k j → LikeState (wants n k) (wants n j)
  s_has : {r q : Expr} {e f : ℕ} {k j : Frames} → Like k j → LikeState (has r e k) (has q f j)
  s_stands : {p q : Point} {k j : Frames} → LikePoint p q → Like k j → LikeState (stands p k) (stands q j)
  s_named : {q s : Expr} {ms ns : Members} {f g a b c d : ℕ} {n l : List ℕ} {k j : Frames} → LikeMembers ms ns → Like k j → LikeState (perhaps_named q ms f n a b k) (perhaps_named s ns g l c d j)
  s_list : {k j : Lists} → LikeLists k j → LikeState (wants_list k) (wants_list j)
  s_next : {p q e f : ℕ} {ms ns : Members} {k j : Lists} → LikeLists k j → LikeState (wants_next ms p e k) (wants_next ns q f j)
  s_line : {e f : ℕ} {k j : Blocks} → LikeBlocks k j → LikeState (at_line k e) (at_line j f)
  s_for : {l o : Expr} {e f : ℕ} {k j : Blocks} → LikeBlocks k j → LikeState (behind_for l k e) (behind_for o j f)
  s_if : {q r : Expr} {s t : Statement} {m n e f : ℕ} {k j : Ifs} → LikeIfs k j → LikeState (behind_if q s m e k) (behind_if r t n f j)
  s_colon : {k j : Suites} → LikeSuites k j → LikeState (wants_colon k) (wants_colon j)
  s_suite : {k j : Suites} → LikeSuites k j → LikeState (wants_suite k) (wants_suite j)
  s_indent : {k j : Suites} → LikeSuites k j → LikeState (wants_indent k) (wants_indent j)
  s_small : {s r : Statement} {k j : Line} → LikeLine k j → LikeState (behind_small s k) (behind_small r j)
  s_semicolon : {k j : Line} → LikeLine k j → LikeState (wants_small k) (wants_small j)
  s_return : {m n e f : ℕ} {k j : Line} → LikeLine k j → LikeState (behind_return m e k) (behind_return n f j)
  s_load_opens : {m n : ℕ} {k j : Line} → LikeLine k j → LikeState (load_opens m k) (load_opens n j)
  s_load_module : {m n : ℕ} {k j : Line} → LikeLine k j → LikeState (load_module m k) (load_module n j)
  s_load_named : {m n : ℕ} {x y : Name} {k j : Line} → LikeLine k j → LikeState (load_named m x k) (load_named n y j)
  s_load_symbol : {m n : ℕ} {x y : Name} {ss rs : Symbols} {k j : Line} → LikeLine k j → LikeState (load_symbol m x ss k) (load_symbol n y rs j)
  s_load_equal : {m n : ℕ} {x y z w : Name} {ss rs : Symbols} {k j : Line} → LikeLine k j → LikeState (load_equal m x ss z k) (load_equal n y rs w j)
  s_load_other : {m n : ℕ} {x y z w : Name} {ss rs : Symbols} {k j : Line} → LikeLine k j → LikeState (load_other m x ss z k) (load_other n y rs w j)
  s_load_behind : {m n : ℕ} {x y : Name} {ss rs : Symbols} {z w : Symbol} {k j : Line} → LikeLine k j → LikeState (load_behind m x ss z k) (load_behind n y rs w j)
  s_def_name : {m n : ℕ} {k j : Blocks} → LikeBlocks k j → LikeState (def_name m k) (def_name n j)
  s_def_opens : {f g : Head} → LikeHead f g → LikeState (def_opens f) (def_opens g)
  s_param : {f g : Head} {ps qs : Members} → LikeHead f g → LikeState (wants_param f ps) (wants_param g qs)
  s_star : {f g : Head} {ps qs : Members} {m n d e : ℕ} → LikeHead f g → LikeState (behind_star f ps m d) (behind_star g qs n e)
  s_stars : {f g : Head} {ps qs : Members} {m n : ℕ} → LikeHead f g → LikeState (behind_stars f ps m) (behind_stars g qs n)
  s_name : {f g : Head} {ps qs : Members} {y : Stars} {x z : Name} {m n d e : ℕ} → LikeHead f g → LikeState (behind_name f ps y x m d) (behind_name g qs y z n e)
  s_behind_param : {f g : Head} {ps qs : Members} → LikeHead f g → LikeState (behind_param f ps) (behind_param g qs)
  s_result : {f g : Head} {ps qs : Members} → LikeHead f g → LikeState (wants_result f ps) (wants_result g qs)

pub data LikeStep : Option State → Option State → Type 0 where
  both_stop : LikeStep None None
  both_go : {s u : State} → LikeState s u → LikeStep (Some s) (Some u)

-- statements, and what is behind their parts
pub push_like : {k j : Blocks} (s r : Statement) → LikeBlocks k j → LikeBlocks (push k s) (push j r)
push_like s r b_outer = b_outer
push_like s r (b_empty l) = b_inner l
push_like s r (b_inner l) = b_inner l

pub settled_like : {k j : Ifs} (s r : Statement) (e f : ℕ) → LikeIfs k j → LikeBlocks (settled k s e) (settled j r f)
settled_like s r e f (i_if l) = push_like s r l
settled_like s r e f (i_elif l) = settled_like _ _ e f l

pub close_like : {k j : Suites} (s r : Statement) (e f : ℕ) → LikeSuites k j → LikeState (close k s e) (close j r f)
close_like s r e f (u_if l) = s_if l
close_like s r e f (u_else l) = s_line (settled_like _ _ e f l)
close_like s r e f (u_for l) = s_for (push_like _ _ l)
close_like s r e f (u_def (d_head l)) = s_line (push_like _ _ l)

pub end_row_like : {k j : Rows} (s r : Statement) (e f : ℕ) → LikeRows k j → LikeState (end_row k s e) (end_row j r f)
end_row_like s r e f (r_block l) = s_line (push_like s r l)
end_row_like s r e f (r_suite l) = close_like s r e f l

pub end_small_like : {k j : Line} (x : Lexeme) (s r : Statement) (d e : ℕ) → LikeLine k j → LikeStep (end_small k s x d) (end_small j r x e)
end_small_like semicolon s r d e (n_line l) = both_go (s_semicolon (n_line l))
end_small_like newline s r d e (n_line l) = both_go (end_row_like _ _ d e l)
end_small_like _ s r d e (n_line l) = both_stop

pub end_param_like : {f g : Head} (x : Lexeme) (ps qs : Members) → LikeHead f g → LikeStep (end_param f ps x) (end_param g qs x)
end_param_like comma ps qs l = both_go (s_param l)
end_param_like closing_round ps qs l = both_go (s_result l)
end_param_like _ ps qs l = both_stop

pub begin_right_like : {k j : Line} (o : Option (Option AssignOp)) (l m : Expr) (t r : Annotation) (p q : ℕ) → LikeLine k j → LikeStep (begin_right o l t p k) (begin_right o m r q j)
begin_right_like None l m t r p q h = both_stop
begin_right_like (Some o) l m t r p q h = both_go (s_list (o_right h))

pub begin_default_like : {f g : Head} (y : Stars) (ps qs : Members) (n m : Name) (t r : Annotation) (p q : ℕ) → LikeHead f g → LikeStep (begin_default f ps y n t p) (begin_default g qs y m r q)
begin_default_like plain ps qs n m t r p q l = both_go (s_wants (l_spot (o_default l)))
begin_default_like starred ps qs n m t r p q l = both_stop
begin_default_like double_starred ps qs n m t r p q l = both_stop

pub accept_like : {k j : Spots} (x : Lexeme) (s u : ℕ) (r q : Expr) (e f : ℕ) → LikeSpots k j → LikeStep (accept k r e x s) (accept j q f x u)
accept_like comma s u r q e f (o_first l) = both_go (s_next (o_left l))
accept_like colon s u r q e f (o_first l) = both_go (s_wants (l_spot (o_annotation l)))
accept_like semicolon s u r q e f (o_first {m} {n} l) = end_small_like semicolon (expression r (stretch m e)) (expression q (stretch n f)) s u l
accept_like newline s u r q e f (o_first {m} {n} l) = end_small_like newline (expression r (stretch m e)) (expression q (stretch n f)) s u l
accept_like x s u r q e f (o_first {m} {n} l) = begin_right_like (assigner x) r q tree.untyped tree.untyped m n l
accept_like x s u r q e f (o_annotation {l} {o} {m} {n} h) = begin_right_like (assigner x) l o (type_at r) (type_at q) m n h
accept_like colon s u r q e f (o_test l) = both_go (s_suite (u_if l))
accept_like _ s u r q e f (o_test l) = both_stop
accept_like colon s u r q e f (o_source l) = both_go (s_suite (u_for l))
accept_like _ s u r q e f (o_source l) = both_stop
accept_like equal s u r q e f (o_type {ps} {qs} {y} {x} {z} {m} {n} l) = begin_default_like y ps qs x z (type_at r) (type_at q) m n l
accept_like x s u r q e f (o_type {ps} {qs} {y} {x = a} {z} {m} {n} l) = end_param_like x (tree.more ps (named y a (type_at r) tree.absent (stretch m e))) (tree.more qs (named y z (type_at q) tree.absent (stretch n f))) l
accept_like x s u r q e f (o_default {ps} {qs} {x = a} {z} {t} {r = w} {m} {n} l) = end_param_like x (tree.more ps (named plain a t (tree.present r) (stretch m e))) (tree.more qs (named plain z w (tree.present q) (stretch n f))) l
accept_like colon s u r q e f (o_result l) = both_go (s_suite (u_def l))
accept_like _ s u r q e f (o_result l) = both_stop

pub accept_list_like : {k j : Lists} (x : Lexeme) (s u : ℕ) (r q : Expr) (e f : ℕ) → LikeLists k j → LikeStep (accept_list k r e x s) (accept_list j q f x u)
accept_list_like colon s u r q e f (o_left l) = both_go (s_wants (l_spot (o_annotation l)))
accept_list_like x s u r q e f (o_left {m} {n} l) = begin_right_like (assigner x) r q tree.untyped tree.untyped m n l
accept_list_like x s u r q e f (o_right {l} {o} {t} {r = w} {x = a} {y = b} {m} {n} h) = end_small_like x (assign (target_of l) t a r (stretch m e)) (assign (target_of o) w b q (stretch n f)) s u h
accept_list_like x s u r q e f (o_returned {m} {n} l) = end_small_like x (return (Some r) (stretch m e)) (return (Some q) (stretch n f)) s u l
accept_list_like keyword_in s u r q e f (o_target l) = both_go (s_wants (l_spot (o_source l)))
accept_list_like _ s u r q e f (o_target l) = both_stop
