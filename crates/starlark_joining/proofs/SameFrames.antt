-- What waits for statements and their parts, the same but for places and for the statements that one of the two began with.
use Rattle.std.proofs.Common.{ℕ, List, Option, Some, None}
use Rattle.starlark_ast.specs.declared.ast.AssignOp.{AssignOp}
use Rattle.starlark_ast.specs.Tree.{Expr, Members, Name, Sequence, Stars, Statement, Symbol, Symbols, Annotation, no_statements, add_statement}
use Rattle.starlark_grammar.specs.Points.{Frame, Point}
use Rattle.starlark_grammar.specs.Frames.{Blocks, outer, inner, Ifs, at_if, at_elif, Suites, of_if, of_else, of_for, of_def, Head, head, Rows, at_block, at_suite, Line, line, Spots, first, annotation, test, source, param_type, param_default, result_type, Lists, left, right, returned, target, Frames, tail, inside, listed, spot, State, wants, has, stands, perhaps_named, wants_list, wants_next, at_line, behind_for, behind_if, wants_colon, wants_suite, wants_indent, behind_small, wants_small, behind_return, load_opens, load_module, load_named, load_symbol, load_equal, load_other, load_behind, def_name, def_opens, wants_param, behind_star, behind_stars, behind_name, behind_param, wants_result}
use Rattle.starlark_joining.specs.Same.{SameExpr, SameMembers, SameAnnotation, SameName, SameSymbol, SameSymbols, SameStatement, SameSequence}
use Rattle.starlark_joining.specs.Joined.{behind}
use Rattle.starlark_joining.proofs.SamePoints.{SameFrame, SamePoint}

mutual
  pub data SameBlocks (R : ℕ → ℕ → Type 0) (base : Sequence) : Blocks → Blocks → Type 0 where
    b_outer : {ss rs : Sequence} → SameSequence R ss rs → SameBlocks R base (outer ss) (outer (behind base rs))
    b_inner : {ss rs : Sequence} {k j : Suites} → SameSequence R ss rs → SameSuites R base k j → SameBlocks R base (inner ss k) (inner rs j)

  pub data SameIfs (R : ℕ → ℕ → Type 0) (base : Sequence) : Ifs → Ifs → Type 0 where
    i_if : {k j : Blocks} → SameBlocks R base k j → SameIfs R base (at_if k) (at_if j)
    i_elif : {q r : Expr} {s t : Statement} {m n : ℕ} {k j : Ifs} → SameExpr R q r → SameStatement R s t → R m n → SameIfs R base k j → SameIfs R base (at_elif q s m k) (at_elif r t n j)

  pub data SameSuites (R : ℕ → ℕ → Type 0) (base : Sequence) : Suites → Suites → Type 0 where
    u_if : {q r : Expr} {m n : ℕ} {k j : Ifs} → SameExpr R q r → R m n → SameIfs R base k j → SameSuites R base (of_if q m k) (of_if r n j)
    u_else : {q r : Expr} {s t : Statement} {m n : ℕ} {k j : Ifs} → SameExpr R q r → SameStatement R s t → R m n → SameIfs R base k j → SameSuites R base (of_else q s m k) (of_else r t n j)
    u_for : {l o q r : Expr} {m n : ℕ} {k j : Blocks} → SameExpr R l o → SameExpr R q r → R m n → SameBlocks R base k j → SameSuites R base (of_for l q m k) (of_for o r n j)
    u_def : {f g : Head} {ps qs : Members} {t r : Annotation} → SameHead R base f g → SameMembers R ps qs → SameAnnotation R t r → SameSuites R base (of_def f ps t) (of_def g qs r)

  pub data SameHead (R : ℕ → ℕ → Type 0) (base : Sequence) : Head → Head → Type 0 where
    d_head : {m n : ℕ} {x y : Name} {k j : Blocks} → R m n → SameName R x y → SameBlocks R base k j → SameHead R base (head m x k) (head n y j)

pub data SameRows (R : ℕ → ℕ → Type 0) (base : Sequence) : Rows → Rows → Type 0 where
  r_block : {k j : Blocks} → SameBlocks R base k j → SameRows R base (at_block k) (at_block j)
  r_suite : {k j : Suites} → SameSuites R base k j → SameRows R base (at_suite k) (at_suite j)

pub data SameLine (R : ℕ → ℕ → Type 0) (base : Sequence) : Line → Line → Type 0 where
  n_line : {ss rs : Sequence} {k j : Rows} → SameSequence R ss rs → SameRows R base k j → SameLine R base (line ss k) (line rs j)

pub data SameSpots (R : ℕ → ℕ → Type 0) (base : Sequence) : Spots → Spots → Type 0 where
  o_first : {m n : ℕ} {k j : Line} → R m n → SameLine R base k j → SameSpots R base (first m k) (first n j)
  o_annotation : {l o : Expr} {m n : ℕ} {k j : Line} → SameExpr R l o → R m n → SameLine R base k j → SameSpots R base (annotation l m k) (annotation o n j)
  o_test : {m n : ℕ} {k j : Ifs} → R m n → SameIfs R base k j → SameSpots R base (test m k) (test n j)
  o_source : {l o : Expr} {m n : ℕ} {k j : Blocks} → SameExpr R l o → R m n → SameBlocks R base k j → SameSpots R base (source l m k) (source o n j)
  o_type : {f g : Head} {ps qs : Members} {y : Stars} {x z : Name} {m n : ℕ} → SameHead R base f g → SameMembers R ps qs → SameName R x z → R m n → SameSpots R base (param_type f ps y x m) (param_type g qs y z n)
  o_default : {f g : Head} {ps qs : Members} {x z : Name} {t r : Annotation} {m n : ℕ} → SameHead R base f g → SameMembers R ps qs → SameName R x z → SameAnnotation R t r → R m n → SameSpots R base (param_default f ps x t m) (param_default g qs z r n)
  o_result : {f g : Head} {ps qs : Members} → SameHead R base f g → SameMembers R ps qs → SameSpots R base (result_type f ps) (result_type g qs)

pub data SameLists (R : ℕ → ℕ → Type 0) (base : Sequence) : Lists → Lists → Type 0 where
  o_left : {m n : ℕ} {k j : Line} → R m n → SameLine R base k j → SameLists R base (left m k) (left n j)
  o_right : {l o : Expr} {t r : Annotation} {x : Option AssignOp} {m n : ℕ} {k j : Line} → SameExpr R l o → SameAnnotation R t r → R m n → SameLine R base k j → SameLists R base (right l t x m k) (right o r x n j)
  o_returned : {m n : ℕ} {k j : Line} → R m n → SameLine R base k j → SameLists R base (returned m k) (returned n j)
  o_target : {m n : ℕ} {k j : Blocks} → R m n → SameBlocks R base k j → SameLists R base (target m k) (target n j)

pub data SameFrames (R : ℕ → ℕ → Type 0) (base : Sequence) : Frames → Frames → Type 0 where
  l_tail : {n : ℕ} {k j : Frames} → SameFrames R base k j → SameFrames R base (tail n k) (tail n j)
  l_inside : {f g : Frame} {k j : Frames} → SameFrame R f g → SameFrames R base k j → SameFrames R base (inside f k) (inside g j)
  l_listed : {p q : ℕ} {ms ns : Members} {k j : Lists} → SameMembers R ms ns → R p q → SameLists R base k j → SameFrames R base (listed ms p k) (listed ns q j)
  l_spot : {k j : Spots} → SameSpots R base k j → SameFrames R base (spot k) (spot j)

-- the end of a block's last statement, where one is read that counts
pub data SameEnd (R : ℕ → ℕ → Type 0) : Blocks → ℕ → ℕ → Type 0 where
  e_outer : {ss : Sequence} {e f : ℕ} → SameEnd R (outer ss) e f
  e_empty : {k : Suites} {e f : ℕ} → SameEnd R (inner no_statements k) e f
  e_inner : {ss : Sequence} {s : Statement} {k : Suites} {e f : ℕ} → R e f → SameEnd R (inner (add_statement ss s) k) e f

pub data SameState (R : ℕ → ℕ → Type 0) (base : Sequence) : State → State → Type 0 where
  s_wants : {n : ℕ} {k j : Frames} → SameFrames R base k j → SameState R base (wants n k) (wants n j)
  s_has : {r q : Expr} {e f : ℕ} {k j : Frames} → SameExpr R r q → R e f → SameFrames R base k j → SameState R base (has r e k) (has q f j)
  s_stands : {p q : Point} {k j : Frames} → SamePoint R p q → SameFrames R base k j → SameState R base (stands p k) (stands q j)
  s_named : {q s : Expr} {ms ns : Members} {f g a b c d : ℕ} {n : List ℕ} {k j : Frames} → SameExpr R q s → SameMembers R ms ns → R f g → R a c → R b d → SameFrames R base k j → SameState R base (perhaps_named q ms f n a b k) (perhaps_named s ns g n c d j)
  s_list : {k j : Lists} → SameLists R base k j → SameState R base (wants_list k) (wants_list j)
  s_next : {p q e f : ℕ} {ms ns : Members} {k j : Lists} → SameMembers R ms ns → R p q → R e f → SameLists R base k j → SameState R base (wants_next ms p e k) (wants_next ns q f j)
  s_line : {e f : ℕ} {k j : Blocks} → SameBlocks R base k j → SameEnd R k e f → SameState R base (at_line k e) (at_line j f)
  s_for : {l o : Expr} {e f : ℕ} {k j : Blocks} → SameExpr R l o → SameBlocks R base k j → R e f → SameState R base (behind_for l k e) (behind_for o j f)
  s_if : {q r : Expr} {s t : Statement} {m n e f : ℕ} {k j : Ifs} → SameExpr R q r → SameStatement R s t → R m n → R e f → SameIfs R base k j → SameState R base (behind_if q s m e k) (behind_if r t n f j)
  s_colon : {k j : Suites} → SameSuites R base k j → SameState R base (wants_colon k) (wants_colon j)
  s_suite : {k j : Suites} → SameSuites R base k j → SameState R base (wants_suite k) (wants_suite j)
  s_indent : {k j : Suites} → SameSuites R base k j → SameState R base (wants_indent k) (wants_indent j)
  s_small : {s r : Statement} {k j : Line} → SameStatement R s r → SameLine R base k j → SameState R base (behind_small s k) (behind_small r j)
  s_semicolon : {k j : Line} → SameLine R base k j → SameState R base (wants_small k) (wants_small j)
  s_return : {m n e f : ℕ} {k j : Line} → R m n → R e f → SameLine R base k j → SameState R base (behind_return m e k) (behind_return n f j)
  s_load_opens : {m n : ℕ} {k j : Line} → R m n → SameLine R base k j → SameState R base (load_opens m k) (load_opens n j)
  s_load_module : {m n : ℕ} {k j : Line} → R m n → SameLine R base k j → SameState R base (load_module m k) (load_module n j)
  s_load_named : {m n : ℕ} {x y : Name} {k j : Line} → R m n → SameName R x y → SameLine R base k j → SameState R base (load_named m x k) (load_named n y j)
  s_load_symbol : {m n : ℕ} {x y : Name} {ss rs : Symbols} {k j : Line} → R m n → SameName R x y → SameSymbols R ss rs → SameLine R base k j → SameState R base (load_symbol m x ss k) (load_symbol n y rs j)
  s_load_equal : {m n : ℕ} {x y z w : Name} {ss rs : Symbols} {k j : Line} → R m n → SameName R x y → SameSymbols R ss rs → SameName R z w → SameLine R base k j → SameState R base (load_equal m x ss z k) (load_equal n y rs w j)
  s_load_other : {m n : ℕ} {x y z w : Name} {ss rs : Symbols} {k j : Line} → R m n → SameName R x y → SameSymbols R ss rs → SameName R z w → SameLine R base k j → SameState R base (load_other m x ss z k) (load_other n y rs w j)
  s_load_behind : {m n : ℕ} {x y : Name} {ss rs : Symbols} {z w : Symbol} {k j : Line} → R m n → SameName R x y → SameSymbols R ss rs → SameSymbol R z w → SameLine R base k j → SameState R base (load_behind m x ss z k) (load_behind n y rs w j)
  s_def_name : {m n : ℕ} {k j : Blocks} → R m n → SameBlocks R base k j → SameState R base (def_name m k) (def_name n j)
  s_def_opens : {f g : Head} → SameHead R base f g → SameState R base (def_opens f) (def_opens g)
  s_param : {f g : Head} {ps qs : Members} → SameHead R base f g → SameMembers R ps qs → SameState R base (wants_param f ps) (wants_param g qs)
  s_star : {f g : Head} {ps qs : Members} {m n d e : ℕ} → SameHead R base f g → SameMembers R ps qs → R m n → R d e → SameState R base (behind_star f ps m d) (behind_star g qs n e)
  s_stars : {f g : Head} {ps qs : Members} {m n : ℕ} → SameHead R base f g → SameMembers R ps qs → R m n → SameState R base (behind_stars f ps m) (behind_stars g qs n)
  s_name : {f g : Head} {ps qs : Members} {y : Stars} {x z : Name} {m n d e : ℕ} → SameHead R base f g → SameMembers R ps qs → SameName R x z → R m n → R d e → SameState R base (behind_name f ps y x m d) (behind_name g qs y z n e)
  s_behind_param : {f g : Head} {ps qs : Members} → SameHead R base f g → SameMembers R ps qs → SameState R base (behind_param f ps) (behind_param g qs)
  s_result : {f g : Head} {ps qs : Members} → SameHead R base f g → SameMembers R ps qs → SameState R base (wants_result f ps) (wants_result g qs)

pub data SameStep (R : ℕ → ℕ → Type 0) (base : Sequence) : Option State → Option State → Type 0 where
  both_stop : SameStep R base None None
  both_go : {s u : State} → SameState R base s u → SameStep R base (Some s) (Some u)
