-- What the frames and states of the machine have read is derived by the grammar, and what they wait for.
use Rattle.std.proofs.Common.{ℕ, ◌≡◌, ◌≤◌, ◌∷◌, List, Option, Some, None, Bool}
use Rattle.starlark_grammar.specs.Spans.{stretch}
use Rattle.starlark_lexer.specs.Items.{Lexeme, newline, indent, identifier, string, keyword_def, keyword_elif, keyword_else, keyword_for, keyword_if, keyword_in, keyword_load, keyword_return, comma, semicolon, colon, equal, star, star_star, minus_greater, opening_round, Item, item}
use Rattle.starlark_ast.specs.declared.ast.AssignOp.{AssignOp}
use Rattle.starlark_ast.specs.Tree as tree
use Rattle.starlark_ast.specs.Tree.{Expr, Member, Members, Name, Sequence, Stars, Statement, Symbol, Symbols, name_at, no_statements, plain, Annotation}
use Rattle.starlark_grammar.specs.Nodes.{start, type_at}
use Rattle.starlark_grammar.specs.Tables.{left_of, arguments, loose, targets, level_of, assigner}
use Rattle.starlark_grammar.specs.Expressions as g
use Rattle.starlark_grammar.specs.Expressions.{Level, Listing}
use Rattle.starlark_grammar.specs.Loads.{OneSymbol, SomeSymbols}
use Rattle.starlark_grammar.specs.Simple.{Small, Smalls}
use Rattle.starlark_grammar.specs.Parameters.{Naming, Parameter, SomeParams, Parameters, Result}
use Rattle.starlark_grammar.specs.Grammar.{Lines, Suite, Statements}
use Rattle.starlark_grammar.specs.Points.{behind, Frame, Point}
use Rattle.starlark_grammar.specs.Frames.{Blocks, outer, inner, Ifs, at_if, at_elif, Suites, of_if, of_else, of_for, of_def, Head, head, Rows, at_block, at_suite, Line, line, Spots, first, annotation, test, source, param_type, param_default, result_type, Lists, left, right, returned, target, kind_listed, Frames, tail, inside, listed, spot, State, wants, has, stands, perhaps_named, wants_list, wants_next, at_line, behind_for, behind_if, wants_colon, wants_suite, wants_indent, behind_small, wants_small, behind_return, load_opens, load_module, load_named, load_symbol, load_equal, load_other, load_behind, def_name, def_opens, wants_param, behind_star, behind_stars, behind_name, behind_param, wants_result}
use Rattle.starlark_grammar.proofs.Reached.{Given, Within, Reached, Began}

mutual
  -- a block waits for a statement at those tokens, behind a token that ends at e
  pub data WaitsLine (T : List Item) : Blocks → List Item → ℕ → Type 0 where
    w_outer : {e : ℕ} {a : List Item} {ss : Sequence} → Statements T a ss e → WaitsLine T (outer ss) a e
    w_inner : {i j g h e : ℕ} {k : Suites} {a b c : List Item} {ss : Sequence} → WaitsSuite T k (item i newline j ∷ a) → Lines a (item g indent h ∷ b) → Statements b c ss e → WaitsLine T (inner ss k) c e

  -- the rest of an `if` or `elif` that begins at p is waited for
  pub data WaitsIf (T : List Item) : Ifs → ℕ → List Item → Type 0 where
    w_if : {i j e : ℕ} {k : Blocks} {a : List Item} → WaitsLine T k (item i keyword_if j ∷ a) e → WaitsIf T (at_if k) i a
    w_elif : {p i j g h d f : ℕ} {k : Ifs} {a b c : List Item} {q : Expr} {s : Statement} → WaitsIf T k p a → Level 12 a (item i colon j ∷ b) q d → Suite b (item g keyword_elif h ∷ c) s f → WaitsIf T (at_elif q s p k) g c

  pub data WaitsSuite (T : List Item) : Suites → List Item → Type 0 where
    w_then : {p i j d : ℕ} {k : Ifs} {a b : List Item} {q : Expr} → WaitsIf T k p a → Level 12 a (item i colon j ∷ b) q d → WaitsSuite T (of_if q p k) b
    w_else : {p i j g h m n d f : ℕ} {k : Ifs} {a b c : List Item} {q : Expr} {s : Statement} → WaitsIf T k p a → Level 12 a (item i colon j ∷ b) q d → Suite b (item g keyword_else h ∷ item m colon n ∷ c) s f → WaitsSuite T (of_else q s p k) c
    w_for : {i j g h m n d f e : ℕ} {k : Blocks} {a b c : List Item} {l q : Expr} → WaitsLine T k (item i keyword_for j ∷ a) e → Listing targets a (item g keyword_in h ∷ b) l d → Level 12 b (item m colon n ∷ c) q f → WaitsSuite T (of_for l q i k) c
    w_def : {a b c : List Item} {h : Head} {ps : Members} {t : Annotation} → WaitsDef T h a → Parameters a b ps → Result b c t → WaitsSuite T (of_def h ps t) c

  -- the parameters of a `def` are waited for
  pub data WaitsDef (T : List Item) : Head → List Item → Type 0 where
    w_head : {n : List ℕ} {i j g h m p e : ℕ} {k : Blocks} {a : List Item} → WaitsLine T k (item i keyword_def j ∷ item g (identifier n) h ∷ item m opening_round p ∷ a) e → WaitsDef T (head i (name_at n (stretch g h)) k) a

-- the first small statement of a line
pub data WaitsRow (T : List Item) : Rows → List Item → Type 0 where
  w_block : {e : ℕ} {k : Blocks} {a : List Item} → WaitsLine T k a e → WaitsRow T (at_block k) a
  w_suite : {k : Suites} {a : List Item} → WaitsSuite T k a → WaitsRow T (at_suite k) a

-- a small statement
pub data WaitsSmall (T : List Item) : Line → List Item → Type 0 where
  w_first : {k : Rows} {a : List Item} → WaitsRow T k a → WaitsSmall T (line no_statements k) a
  w_next : {i j d : ℕ} {k : Rows} {a b : List Item} {ss : Sequence} → WaitsRow T k a → Smalls a (item i semicolon j ∷ b) ss d → WaitsSmall T (line ss k) b

-- an expression of a statement, of that level
pub data WaitsAt (T : List Item) : Spots → ℕ → List Item → Type 0 where
  w_small : {k : Line} {a : List Item} → WaitsSmall T k a → WaitsAt T (first (start a) k) 12 a
  w_annotation : {g h d : ℕ} {k : Line} {a b : List Item} {l : Expr} → WaitsSmall T k a → Listing loose a (item g colon h ∷ b) l d → WaitsAt T (annotation l (start a) k) 12 b
  w_test : {p : ℕ} {k : Ifs} {a : List Item} → WaitsIf T k p a → WaitsAt T (test p k) 12 a
  w_source : {i j g h d e : ℕ} {k : Blocks} {a b : List Item} {l : Expr} → WaitsLine T k (item i keyword_for j ∷ a) e → Listing targets a (item g keyword_in h ∷ b) l d → WaitsAt T (source l i k) 12 b
  w_type : {p d g h : ℕ} {a b c : List Item} {f : Head} {ps : Members} {y : Stars} {n : Name} → WaitsDef T f a → SomeParams a b ps → Naming b (item g colon h ∷ c) y n p d → WaitsAt T (param_type f ps y n p) 12 c
  w_default : {p d g h : ℕ} {a b c : List Item} {f : Head} {ps : Members} {n : Name} → WaitsDef T f a → SomeParams a b ps → Naming b (item g equal h ∷ c) plain n p d → WaitsAt T (param_default f ps n tree.untyped p) 12 c
  w_type_default : {p d g h i j e : ℕ} {a b c z : List Item} {f : Head} {ps : Members} {n : Name} {t : Expr} → WaitsDef T f a → SomeParams a b ps → Naming b (item g colon h ∷ c) plain n p d → Level 12 c (item i equal j ∷ z) t e → WaitsAt T (param_default f ps n (type_at t) p) 12 z
  w_result : {g h : ℕ} {a b : List Item} {f : Head} {ps : Members} → WaitsDef T f a → Parameters a (item g minus_greater h ∷ b) ps → WaitsAt T (result_type f ps) 12 b

-- a list of them without brackets
pub data WaitsList (T : List Item) : Lists → List Item → Type 0 where
  w_right : {i j d : ℕ} {x : Lexeme} {o : Option AssignOp} {k : Line} {a b : List Item} {l : Expr} → WaitsSmall T k a → Listing loose a (item i x j ∷ b) l d → assigner x ≡ Some o → WaitsList T (right l tree.untyped o (start a) k) b
  w_typed_right : {g h i j d f : ℕ} {x : Lexeme} {o : Option AssignOp} {k : Line} {a b c : List Item} {l t : Expr} → WaitsSmall T k a → Listing loose a (item g colon h ∷ b) l d → Level 12 b (item i x j ∷ c) t f → assigner x ≡ Some o → WaitsList T (right l (type_at t) o (start a) k) c
  w_return : {i j : ℕ} {k : Line} {a : List Item} → WaitsSmall T k (item i keyword_return j ∷ a) → WaitsList T (returned i k) a
  w_target : {i j e : ℕ} {k : Blocks} {a : List Item} → WaitsLine T k (item i keyword_for j ∷ a) e → WaitsList T (target i k) a

-- one more of a list that begins at the first tokens: those so far
pub data WaitsNext (T : List Item) : Lists → List Item → List Item → Members → Type 0 where
  w_list : {e f : ℕ} {k : Lists} {a b : List Item} {ms : Members} {t : Bool} → WaitsList T k a → Given (kind_listed k) a b ms t e f → WaitsNext T k a b ms
  -- the left side of an assignment, behind its first comma
  w_left : {u v d : ℕ} {k : Line} {a b : List Item} {ms : Members} → WaitsSmall T k a → g.Members loose a (item u comma v ∷ b) ms d → WaitsNext T (left (start a) k) a b ms

-- the frames wait for an expression of that level that begins at those tokens
pub data Waits (T : List Item) : Frames → ℕ → List Item → Type 0 where
  w_tail : {k : Frames} {m n q : ℕ} {a : List Item} → Waits T k q a → m ≤ q → n ≤ left_of m → Waits T (tail m k) n a
  w_inside : {k : Frames} {f : Frame} {m n q : ℕ} {a c : List Item} → Waits T k q a → m ≤ q → Began f m a n c → Waits T (inside f k) n c
  w_listed : {k : Lists} {a b : List Item} {ms : Members} → WaitsNext T k a b ms → Waits T (listed ms (start a) k) (level_of (kind_listed k)) b
  w_spot : {n : ℕ} {k : Spots} {a : List Item} → WaitsAt T k n a → Waits T (spot k) n a

pub data Holds (T : List Item) : State → List Item → Type 0 where
  h_wants : {n : ℕ} {k : Frames} {a : List Item} → Waits T k n a → Holds T (wants n k) a
  h_has : {n e : ℕ} {k : Frames} {a b : List Item} {r : Expr} → Waits T k n a → Level n a b r e → Holds T (has r e k) b
  h_stands : {m n : ℕ} {k : Frames} {a b : List Item} {p : Point} → Waits T k n a → m ≤ n → Reached p m a b → Holds T (stands p k) b
  h_named : {m l i j e f h : ℕ} {k : Frames} {a b c : List Item} {n : List ℕ} {q : Expr} {ms : Members} {t : Bool} → Waits T k l a → m ≤ l → Within (behind q) m a b → Given arguments b (item i (identifier n) j ∷ c) ms t e h → f ≡ start b → Holds T (perhaps_named q ms f n i j k) c
  h_list : {k : Lists} {a : List Item} → WaitsList T k a → Holds T (wants_list k) a
  h_next : {m : ℕ} {k : Lists} {a b : List Item} {ms : Members} → WaitsNext T k a b ms → Holds T (wants_next ms (start a) m k) b
  h_line : {e : ℕ} {k : Blocks} {a : List Item} → WaitsLine T k a e → Holds T (at_line k e) a
  h_for : {e : ℕ} {k : Blocks} {a : List Item} {l : Expr} → WaitsLine T k a e → Holds T (behind_for l k e) a
  h_if : {p i j d e : ℕ} {k : Ifs} {a b c : List Item} {q : Expr} {s : Statement} → WaitsIf T k p a → Level 12 a (item i colon j ∷ b) q d → Suite b c s e → Holds T (behind_if q s p e k) c
  h_colon : {p i j g h d f : ℕ} {k : Ifs} {a b c : List Item} {q : Expr} {s : Statement} → WaitsIf T k p a → Level 12 a (item i colon j ∷ b) q d → Suite b (item g keyword_else h ∷ c) s f → Holds T (wants_colon (of_else q s p k)) c
  h_suite : {k : Suites} {a : List Item} → WaitsSuite T k a → Holds T (wants_suite k) a
  h_indent : {i j : ℕ} {k : Suites} {a b : List Item} → WaitsSuite T k (item i newline j ∷ a) → Lines a b → Holds T (wants_indent k) b
  h_small : {e : ℕ} {k : Line} {a b : List Item} {s : Statement} → WaitsSmall T k a → Small a b s e → Holds T (behind_small s k) b
  h_semicolon : {i j d : ℕ} {k : Rows} {a b : List Item} {ss : Sequence} → WaitsRow T k a → Smalls a (item i semicolon j ∷ b) ss d → Holds T (wants_small (line ss k)) b
  h_return : {i j : ℕ} {k : Line} {a : List Item} → WaitsSmall T k (item i keyword_return j ∷ a) → Holds T (behind_return i j k) a
  h_load_opens : {i j : ℕ} {k : Line} {a : List Item} → WaitsSmall T k (item i keyword_load j ∷ a) → Holds T (load_opens i k) a
  h_load_module : {i j g h : ℕ} {k : Line} {a : List Item} → WaitsSmall T k (item i keyword_load j ∷ item g opening_round h ∷ a) → Holds T (load_module i k) a
  h_load_named : {n : List ℕ} {i j g h l m : ℕ} {k : Line} {a : List Item} → WaitsSmall T k (item i keyword_load j ∷ item g opening_round h ∷ item l (string n) m ∷ a) → Holds T (load_named i (name_at n (stretch l m)) k) a
  h_load_symbol : {n : List ℕ} {i j g h l m e f : ℕ} {k : Line} {a b : List Item} {ss : Symbols} → WaitsSmall T k (item i keyword_load j ∷ item g opening_round h ∷ item l (string n) m ∷ item e comma f ∷ a) → SomeSymbols a b ss → Holds T (load_symbol i (name_at n (stretch l m)) ss k) b
  h_load_equal : {n o : List ℕ} {i j g h l m e f c d : ℕ} {k : Line} {a b : List Item} {ss : Symbols} → WaitsSmall T k (item i keyword_load j ∷ item g opening_round h ∷ item l (string n) m ∷ item e comma f ∷ a) → SomeSymbols a (item c (identifier o) d ∷ b) ss → Holds T (load_equal i (name_at n (stretch l m)) ss (name_at o (stretch c d)) k) b
  h_load_other : {n o : List ℕ} {i j g h l m e f c d p q : ℕ} {k : Line} {a b : List Item} {ss : Symbols} → WaitsSmall T k (item i keyword_load j ∷ item g opening_round h ∷ item l (string n) m ∷ item e comma f ∷ a) → SomeSymbols a (item c (identifier o) d ∷ item p equal q ∷ b) ss → Holds T (load_other i (name_at n (stretch l m)) ss (name_at o (stretch c d)) k) b
  h_load_behind : {n : List ℕ} {i j g h l m e f : ℕ} {k : Line} {a b c : List Item} {ss : Symbols} {s : Symbol} → WaitsSmall T k (item i keyword_load j ∷ item g opening_round h ∷ item l (string n) m ∷ item e comma f ∷ a) → SomeSymbols a b ss → OneSymbol b c s → Holds T (load_behind i (name_at n (stretch l m)) ss s k) c
  h_def_name : {i j e : ℕ} {k : Blocks} {a : List Item} → WaitsLine T k (item i keyword_def j ∷ a) e → Holds T (def_name i k) a
  h_def_opens : {n : List ℕ} {i j g h e : ℕ} {k : Blocks} {a : List Item} → WaitsLine T k (item i keyword_def j ∷ item g (identifier n) h ∷ a) e → Holds T (def_opens (head i (name_at n (stretch g h)) k)) a
  h_param : {f : Head} {a b : List Item} {ps : Members} → WaitsDef T f a → SomeParams a b ps → Holds T (wants_param f ps) b
  h_star : {i j : ℕ} {f : Head} {a b : List Item} {ps : Members} → WaitsDef T f a → SomeParams a (item i star j ∷ b) ps → Holds T (behind_star f ps i j) b
  h_stars : {i j : ℕ} {f : Head} {a b : List Item} {ps : Members} → WaitsDef T f a → SomeParams a (item i star_star j ∷ b) ps → Holds T (behind_stars f ps i) b
  h_name : {p e : ℕ} {f : Head} {a b c : List Item} {ps : Members} {y : Stars} {n : Name} → WaitsDef T f a → SomeParams a b ps → Naming b c y n p e → Holds T (behind_name f ps y n p e) c
  h_behind_param : {f : Head} {a b c : List Item} {ps : Members} {p : Member} → WaitsDef T f a → SomeParams a b ps → Parameter b c p → Holds T (behind_param f (tree.more ps p)) c
  h_result : {f : Head} {a b : List Item} {ps : Members} → WaitsDef T f a → Parameters a b ps → Holds T (wants_result f ps) b

pub data Held (T : List Item) (ts : List Item) : Option State → Type 0 where
  holds_none : Held T ts None
  holds : {s : State} → Holds T s ts → Held T ts (Some s)
