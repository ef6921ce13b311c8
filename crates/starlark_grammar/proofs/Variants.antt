-- Statements of the code, variant by variant: how many statements are in one.
use Rattle.std.proofs.Common.{◌≡◌, ◌<◌, ◌+◌, ℕ, suc, List, [], ◌∷◌, length, fold, get_or, add_assoc, ap, sym, ◌∙◌, arith}
use Rattle.std.specs.List.{sum_by}
use Rattle.std.specs.declared.alloc.Global.{Global}
use Rattle.std.specs.declared.boxed.Box.{Box}
use Rattle.std.specs.declared.vec.Vec.{Vec}
use Rattle.std.proofs.lemmas.List.Sums.{get_or-le-sum_by, sum_by-cons}
use Rattle.starlark_place.specs.declared.pos.Spanned.{Spanned}
use Rattle.starlark_ast.specs.StatementViews.{statements_of, stmt_view-Def, stmt_view-For, stmt_view-If, stmt_view-IfElse, stmt_view-Load, stmt_view-Statements, view-def, view-for}
use Rattle.starlark_ast.specs.Tree as t
use Rattle.starlark_ast.specs.Tree.{Sequence, Statement}
use Rattle.starlark_ast.specs.View.{boxed_type, expr_at, ident_at, load_view, members, parameter_at, stmt_at, stmt_view, target_at}
use Rattle.starlark_ast.specs.declared.ast.AstNoPayload.{AstNoPayload}
use Rattle.starlark_ast.specs.declared.ast.DefP.{DefP, out-DefP}
use Rattle.starlark_ast.specs.declared.ast.ExprP.{ExprP}
use Rattle.starlark_ast.specs.declared.ast.ForP.{ForP, out-ForP}
use Rattle.starlark_ast.specs.declared.ast.LoadP.{LoadP}
use Rattle.starlark_ast.specs.declared.ast.StmtP.{StmtP}
use Rattle.starlark_ast.specs.declared.ast.StmtP.TheVariants as variant

abbrev mutual
  -- how many statements that hold others there are in one, itself among them
  pub count : Statement → ℕ
  count (t.break s) = 0
  count (t.continue s) = 0
  count (t.pass s) = 0
  count (t.return x s) = 0
  count (t.load m ss s) = 0
  count (t.expression x s) = 0
  count (t.assign x a o y s) = 0
  count (t.when x a s) = suc (count a)
  count (t.either x a b s) = suc (count a + count b)
  count (t.repeat x y a s) = suc (count a)
  count (t.define n ps a b s) = suc (count b)
  count (t.block ss s) = suc (count_all ss)

  pub count_all : Sequence → ℕ
  count_all t.no_statements = 0
  count_all (t.add_statement ss a) = count_all ss + count a

abbrev pub Node : Type 0
Node = StmtP AstNoPayload (Unit {0}) (Unit {0}) (Unit {0}) (Unit {0}) (Unit {0})

abbrev pub Stmt : Type 0
Stmt = Spanned Node

abbrev pub For : Type 0
For = ForP AstNoPayload (Unit {0}) (Unit {0}) (Unit {0}) (Unit {0}) (Unit {0})

abbrev pub Def : Type 0
Def = DefP AstNoPayload (Unit {0}) (Unit {0}) (Unit {0}) (Unit {0}) (Unit {0})

abbrev pub Expr : Type 0
Expr = Spanned (ExprP AstNoPayload (Unit {0}) (Unit {0}) (Unit {0}) (Unit {0}) (Unit {0}))

abbrev pub Load : Type 0
Load = LoadP AstNoPayload (Unit {0}) (Unit {0}) (Unit {0}) (Unit {0}) (Unit {0})

-- ---- what a statement of each variant is

module _ (s : Stmt) where
  pub of_block : (xs : Vec Stmt Global) → s.node ≡ variant.Statements xs → stmt_at s ≡ t.block (statements_of xs.items) s.span
  of_block xs is = ap (λ n. stmt_view n s.span) is ∙ stmt_view-Statements xs s.span

  pub of_if : (c : Expr) (x : Box Stmt Global) → s.node ≡ variant.If c x → stmt_at s ≡ t.when (expr_at c) (stmt_at x.value) s.span
  of_if c x is = ap (λ n. stmt_view n s.span) is ∙ stmt_view-If c x s.span

  pub of_either : (c : Expr) (x : Box (Stmt × Stmt) Global) → s.node ≡ variant.IfElse c x → stmt_at s ≡ t.either (expr_at c) (stmt_at x.value.0) (stmt_at x.value.1) s.span
  of_either c x is = ap (λ n. stmt_view n s.span) is ∙ stmt_view-IfElse c x s.span

  pub of_for : (x : For) → s.node ≡ variant.For x → (let x' = out-ForP AstNoPayload (Unit {0}) (Unit {0}) (Unit {0}) (Unit {0}) (Unit {0}) x in stmt_at s ≡ t.repeat (target_at x'.var) (expr_at x'.over) (stmt_at x'.body.value) s.span)
  of_for x is = ap (λ n. stmt_view n s.span) is ∙ stmt_view-For x s.span ∙ view-for x s.span

  pub of_def : (x : Def) → s.node ≡ variant.Def x → (let x' = out-DefP AstNoPayload (Unit {0}) (Unit {0}) (Unit {0}) (Unit {0}) (Unit {0}) x in stmt_at s ≡ t.define (ident_at x'.name) (members parameter_at x'.params.items) (boxed_type x'.return_type) (stmt_at x'.body.value) s.span)
  of_def x is = ap (λ n. stmt_view n s.span) is ∙ stmt_view-Def x s.span ∙ view-def x s.span

  pub of_load : (x : Load) → s.node ≡ variant.Load x → stmt_at s ≡ load_view x s.span
  of_load x is = ap (λ n. stmt_view n s.span) is ∙ stmt_view-Load x s.span

-- ---- those in a list are fewer

count_more : (ss : Sequence) (xs : List Stmt) → count_all (fold (λ ss x. t.add_statement ss (stmt_at x)) ss xs) ≡ count_all ss + sum_by (λ x. count (stmt_at x)) xs
count_more ss [] = omega arith
count_more ss (x ∷ xs) =
    let more : count_all (fold (λ ss x. t.add_statement ss (stmt_at x)) ss (x ∷ xs)) ≡ (count_all ss + count (stmt_at x)) + sum_by (λ x. count (stmt_at x)) xs = count_more (t.add_statement ss (stmt_at x)) xs in
    more ∙ add_assoc (count_all ss) (count (stmt_at x)) (sum_by (λ x. count (stmt_at x)) xs) ∙ ap (λ n. count_all ss + n) (sym (sum_by-cons (λ x. count (stmt_at x)) x xs))

pub falls : (s : Stmt) (xs : Vec Stmt Global) (ys : List Stmt) (i : ℕ) (x : Stmt) (n : ℕ) → s.node ≡ variant.Statements xs → ys ≡ xs.items → i < length ys → x ≡ get_or ys i x → count (stmt_at s) ≡ n → count (stmt_at x) < n
falls s xs ys i x n is all below here measure =
    let le = get_or-le-sum_by (λ x. count (stmt_at x)) ys i x below in
    let at_x : count (stmt_at x) ≡ count (stmt_at (get_or ys i x)) = ap (λ y. count (stmt_at y)) here in
    let whole : n ≡ suc (count_all (statements_of xs.items)) = sym measure ∙ ap count (of_block s xs is) in
    let same : sum_by (λ x. count (stmt_at x)) ys ≡ sum_by (λ x. count (stmt_at x)) xs.items = ap (sum_by (λ x. count (stmt_at x))) all in
    let more : count_all (statements_of xs.items) ≡ 0 + sum_by (λ x. count (stmt_at x)) xs.items = count_more t.no_statements xs.items in
    omega (arith, le, at_x, whole, same, more)
