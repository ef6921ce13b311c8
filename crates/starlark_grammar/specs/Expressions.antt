-- The grammar of expressions and of lists (docs/LANGUAGE.md, Grammar).
--
-- In all files of the grammar a relation takes the tokens from the first one that is read on, those behind the last, what
-- they make, and, where a span needs it, the end of the last token that is read. Pairs of small letters are the places of
-- tokens; a, b, c and z are tokens; d, e and f are mostly ends.
use Rattle.std.specs.Prelude.{◌≡◌, ℕ, suc, List, [], ◌∷◌, ◌++◌, Some, Bool, true, false}
use Rattle.starlark_rulebook.specs.Targets.{target_of}
use Rattle.starlark_grammar.specs.Spans.{stretch}
use Rattle.starlark_lexer.specs.Items.{Lexeme, Item, item, identifier, keyword_else, keyword_for, keyword_if, keyword_in, comma, colon, equal, star, star_star, slash, fstring_text, fstring_expr_start, fstring_bang, fstring_expr_end, fstring_end, closing_round, closing_square}
use Rattle.starlark_ast.specs.declared.ast.BinOp.{BinOp}
use Rattle.starlark_ast.specs.declared.ast.BinOp.TheVariants as op
use Rattle.starlark_ast.specs.Tree as tree
use Rattle.starlark_ast.specs.Tree.{Leaf, Sign}
use Rattle.starlark_grammar.specs.Nodes.{from, leaf_at, operated, start, targeted}
use Rattle.starlark_grammar.specs.Tables.{beginning, leaf, Bracket, bracket, quoted, signed, lambda, sign_level, suffix, dotted, indexed, called, joined, negated, chosen, below, left_of, closing_bracket, Kind, tests, pairs, arguments, parameters, loose, targets, kind_in, comprises, enclosed, doubled, field_format, conversion}

mutual
  -- 0 Prim, 1 Unary, 2 Prod, 3 Sum, 4 Shift, 5 Band, 6 Xor, 7 Bor, 8 Cmp, 9 Not, 10 And, 11 Or, 12 Test
  pub data Level : ℕ → List Item → List Item → tree.Expr → ℕ → Type 0 where
    -- Ident | Int | Float | String | Bytes | "..."
    by_itself : {i j : ℕ} {x : Lexeme} {l : Leaf} {a : List Item} → beginning x ≡ Some (leaf l) → Level 0 (item i x j ∷ a) a (leaf_at l (stretch i j)) j
    -- "(" [Test ("," Test)* [","]] ")", and with "[" and "{"
    in_brackets : {i j g h e : ℕ} {x : Lexeme} {p : Bracket} {a b : List Item} {ms : tree.Members} {t : Bool} → beginning x ≡ Some (bracket p) → Listed (kind_in p) a (item g (closing_bracket p) h ∷ b) ms t e → Level 0 (item i x j ∷ a) b (enclosed p ms t (stretch i h) (stretch (start a) e)) h
    -- "[" Test Comp "]" | "{" Pair Comp "}"
    comprehend : {i j g h d : ℕ} {x : Lexeme} {p : Bracket} {a b c : List Item} {m : tree.Member} {cs : tree.Clauses} → beginning x ≡ Some (bracket p) → comprises p ≡ true → Member (kind_in p) a b m d → Clauses b (item g (closing_bracket p) h ∷ c) cs → Level 0 (item i x j ∷ a) c (tree.comprehension m cs (stretch i h)) h
    -- FStringStart .. FStringEnd
    format : {i j g h : ℕ} {x : Lexeme} {a b : List Item} {f : List ℕ} {ms : tree.Members} → beginning x ≡ Some quoted → Pieces a (item g fstring_end h ∷ b) f ms → Level 0 (item i x j ∷ a) b (tree.fstring f (stretch i h) ms (stretch i h) (stretch i h)) h
    -- Prim "." Ident
    attribute : {i j g h d : ℕ} {x : Lexeme} {n : List ℕ} {a b : List Item} {q : tree.Expr} → suffix x ≡ Some dotted → Level 0 a (item i x j ∷ item g (identifier n) h ∷ b) q d → Level 0 a b (tree.dot q n (stretch g h) (from q h)) h
    -- Prim "[" Sub "]"
    subscript : {i j g h d : ℕ} {x : Lexeme} {a b c : List Item} {q : tree.Expr} {s : tree.Subscript} → suffix x ≡ Some indexed → Level 0 a (item i x j ∷ b) q d → Subscript b (item g closing_square h ∷ c) s → Level 0 a c (tree.index q s (from q h)) h
    -- Prim "(" [Arg ("," Arg)* [","]] ")"
    apply : {i j g h d e : ℕ} {x : Lexeme} {a b c : List Item} {q : tree.Expr} {ms : tree.Members} {t : Bool} → suffix x ≡ Some called → Level 0 a (item i x j ∷ b) q d → Listed arguments b (item g closing_round h ∷ c) ms t e → Level 0 a c (tree.call q ms (from q h)) h
    -- ("+" | "-" | "~") Unary | "not" Not
    sign : {i j e : ℕ} {x : Lexeme} {s : Sign} {a b : List Item} {q : tree.Expr} → beginning x ≡ Some (signed s) → Level (sign_level s) a b q e → Level (sign_level s) (item i x j ∷ a) b (tree.signed s q (stretch i e)) e
    -- as Sum "+" Prod, and Bor "<" Bor
    operate : {i j d e : ℕ} {x : Lexeme} {o : BinOp} {a b c : List Item} {l q : tree.Expr} → suffix x ≡ Some (joined o) → Level (left_of (suc (below o))) a (item i x j ∷ b) l d → Level (below o) b c q e → Level (suc (below o)) a c (operated l o q) e
    -- Bor "not" "in" Bor
    not_in : {i j g h d e : ℕ} {x : Lexeme} {a b c : List Item} {l q : tree.Expr} → suffix x ≡ Some negated → Level 7 a (item i x j ∷ item g keyword_in h ∷ b) l d → Level 7 b c q e → Level 8 a c (operated l op.NotIn q) e
    -- Or "if" Or "else" Test
    ternary : {i j g h d e f : ℕ} {x : Lexeme} {a b c z : List Item} {t q s : tree.Expr} → suffix x ≡ Some chosen → Level 11 a (item i x j ∷ b) t d → Level 11 b (item g keyword_else h ∷ c) q e → Level 12 c z s f → Level 12 a z (tree.choice q t s (from t f)) f
    -- "lambda" [LParam ("," LParam)* [","]] ":" Test
    abstraction : {i j g h d e : ℕ} {x : Lexeme} {a b c : List Item} {ms : tree.Members} {t : Bool} {q : tree.Expr} → beginning x ≡ Some lambda → Listed parameters a (item g colon h ∷ b) ms t d → Level 12 b c q e → Level 12 (item i x j ∷ a) c (tree.lambda ms q (stretch i e)) e
    above : {n e : ℕ} {a b : List Item} {q : tree.Expr} → Level n a b q e → Level (suc n) a b q e

  pub data Member : Kind → List Item → List Item → tree.Member → ℕ → Type 0 where
    -- Test
    test : {e : ℕ} {a b : List Item} {q : tree.Expr} → Level 12 a b q e → Member tests a b (tree.item q) e
    loose_test : {e : ℕ} {a b : List Item} {q : tree.Expr} → Level 12 a b q e → Member loose a b (tree.item q) e
    -- Bor
    target : {e : ℕ} {a b : List Item} {q : tree.Expr} → Level 7 a b q e → Member targets a b (tree.item q) e
    -- Test ":" Test
    entry : {i j d e : ℕ} {a b c : List Item} {q v : tree.Expr} → Level 12 a (item i colon j ∷ b) q d → Level 12 b c v e → Member pairs a c (tree.pair q v) e
    -- Test | Ident "=" Test | "*" Test | "**" Test
    plain : {e : ℕ} {a b : List Item} {q : tree.Expr} → Level 12 a b q e → Member arguments a b (tree.positional q (stretch (start a) e)) e
    keyword : {i j g h e : ℕ} {n : List ℕ} {a b : List Item} {q : tree.Expr} → Level 12 a b q e → Member arguments (item i (identifier n) j ∷ item g equal h ∷ a) b (tree.named n (stretch i j) q (stretch i e)) e
    spread : {i j e : ℕ} {a b : List Item} {q : tree.Expr} → Level 12 a b q e → Member arguments (item i star j ∷ a) b (tree.args q (stretch i e)) e
    spread_named : {i j e : ℕ} {a b : List Item} {q : tree.Expr} → Level 12 a b q e → Member arguments (item i star_star j ∷ a) b (tree.kwargs q (stretch i e)) e
    -- "/" | "*" [Ident] | "**" Ident | Ident ["=" Test]
    lone_slash : {i j : ℕ} {a : List Item} → Member parameters (item i slash j ∷ a) a (tree.slash (stretch i j)) j
    lone_star : {i j : ℕ} {a : List Item} → Member parameters (item i star j ∷ a) a (tree.no_args (stretch i j)) j
    star_name : {i j g h : ℕ} {n : List ℕ} {a : List Item} → Member parameters (item i star j ∷ item g (identifier n) h ∷ a) a (tree.parameter tree.starred n (stretch g h) tree.untyped tree.absent (stretch i h)) h
    stars_name : {i j g h : ℕ} {n : List ℕ} {a : List Item} → Member parameters (item i star_star j ∷ item g (identifier n) h ∷ a) a (tree.parameter tree.double_starred n (stretch g h) tree.untyped tree.absent (stretch i h)) h
    parameter : {i j : ℕ} {n : List ℕ} {a : List Item} → Member parameters (item i (identifier n) j ∷ a) a (tree.parameter tree.plain n (stretch i j) tree.untyped tree.absent (stretch i j)) j
    default : {i j g h e : ℕ} {n : List ℕ} {a b : List Item} {q : tree.Expr} → Level 12 a b q e → Member parameters (item i (identifier n) j ∷ item g equal h ∷ a) b (tree.parameter tree.plain n (stretch i j) tree.untyped (tree.present q) (stretch i e)) e

  -- X ("," X)*
  pub data Members : Kind → List Item → List Item → tree.Members → ℕ → Type 0 where
    one : {n : Kind} {e : ℕ} {a b : List Item} {m : tree.Member} → Member n a b m e → Members n a b (tree.more tree.none m) e
    next : {n : Kind} {g h d e : ℕ} {a b c : List Item} {ms : tree.Members} {m : tree.Member} → Members n a (item g comma h ∷ b) ms d → Member n b c m e → Members n a c (tree.more ms m) e

  -- [X ("," X)* [","]], and whether the last comma is there
  pub data Listed : Kind → List Item → List Item → tree.Members → Bool → ℕ → Type 0 where
    nothing : {n : Kind} {a : List Item} → Listed n a a tree.none false 0
    some : {n : Kind} {e : ℕ} {a b : List Item} {ms : tree.Members} → Members n a b ms e → Listed n a b ms false e
    trailing : {n : Kind} {g h e : ℕ} {a b : List Item} {ms : tree.Members} → Members n a (item g comma h ∷ b) ms e → Listed n a b ms true h

  -- Test | Test "," Test | [Test] ":" [Test] [":" [Test]]
  pub data Subscript : List Item → List Item → tree.Subscript → Type 0 where
    single : {e : ℕ} {a b : List Item} {q : tree.Expr} → Level 12 a b q e → Subscript a b (tree.single q)
    double : {i j d e : ℕ} {a b c : List Item} {q s : tree.Expr} → Level 12 a (item i comma j ∷ b) q d → Level 12 b c s e → Subscript a c (tree.double q s)
    slice : {i j : ℕ} {a b c : List Item} {o p : tree.Bound} → Bound a (item i colon j ∷ b) o → Bound b c p → Subscript a c (tree.slice o p tree.absent)
    slice_step : {i j g h : ℕ} {a b c d : List Item} {o p s : tree.Bound} → Bound a (item i colon j ∷ b) o → Bound b (item g colon h ∷ c) p → Bound c d s → Subscript a d (tree.slice o p s)

  -- [Test]
  pub data Bound : List Item → List Item → tree.Bound → Type 0 where
    absent : {a : List Item} → Bound a a tree.absent
    present : {e : ℕ} {a b : List Item} {q : tree.Expr} → Level 12 a b q e → Bound a b (tree.present q)

  -- "for" ExprList "in" Or
  pub data ForClause : List Item → List Item → tree.Clause → Type 0 where
    for_in : {i j g h d e : ℕ} {a b c : List Item} {ms : tree.Members} {q : tree.Expr} → Members targets a (item g keyword_in h ∷ b) ms d → Level 11 b c q e → ForClause (item i keyword_for j ∷ a) c (tree.for_clause (target_of (targeted ms (stretch (start a) d))) q)

  -- Clause (Clause | "if" Or)*
  pub data Clauses : List Item → List Item → tree.Clauses → Type 0 where
    first : {a b : List Item} {m : tree.Clause} → ForClause a b m → Clauses a b (tree.and_clause tree.no_clauses m)
    and_for : {a b c : List Item} {cs : tree.Clauses} {m : tree.Clause} → Clauses a b cs → ForClause b c m → Clauses a c (tree.and_clause cs m)
    and_if : {i j e : ℕ} {a b c : List Item} {cs : tree.Clauses} {q : tree.Expr} → Clauses a (item i keyword_if j ∷ b) cs → Level 11 b c q e → Clauses a c (tree.and_clause cs (tree.if_clause q))

  -- (FStringText | FStringExprStart Test [FStringBang Ident] FStringExprEnd)*
  pub data Pieces : List Item → List Item → List ℕ → tree.Members → Type 0 where
    no_piece : {a : List Item} → Pieces a a [] tree.none
    text : {i j : ℕ} {t f : List ℕ} {a b : List Item} {ms : tree.Members} → Pieces a (item i (fstring_text t) j ∷ b) f ms → Pieces a b (f ++ doubled t) ms
    field : {i j g h e : ℕ} {f : List ℕ} {a b c : List Item} {ms : tree.Members} {q : tree.Expr} → Pieces a (item i fstring_expr_start j ∷ b) f ms → Level 12 b (item g fstring_expr_end h ∷ c) q e → Pieces a c (f ++ field_format) (tree.more ms (tree.item q))
    converted : {i j g h k l u v e : ℕ} {f n s : List ℕ} {a b c : List Item} {ms : tree.Members} {q : tree.Expr} → Pieces a (item i fstring_expr_start j ∷ b) f ms → Level 12 b (item g fstring_bang h ∷ item k (identifier n) l ∷ item u fstring_expr_end v ∷ c) q e → conversion n ≡ Some s → Pieces a c (f ++ s) (tree.more ms (tree.item q))

-- the same without brackets: of the kind `loose` a TestList, of the kind `targets` an ExprList
pub data Listing : Kind → List Item → List Item → tree.Expr → ℕ → Type 0 where
  listing : {n : Kind} {e : ℕ} {a b : List Item} {ms : tree.Members} → Members n a b ms e → Listing n a b (targeted ms (stretch (start a) e)) e
