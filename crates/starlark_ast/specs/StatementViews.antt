-- The view of each variant of a statement: equations of View.
use Rattle.std.proofs.Common.{◌≡◌, refl, sym, ap, ◌∙◌, List, [], ◌∷◌, map, fold, Option, Some}
use Rattle.std.specs.declared.alloc.Global.{Global}
use Rattle.std.specs.declared.boxed.Box.{Box}
use Rattle.std.specs.declared.vec.Vec.{Vec}
use Rattle.starlark_place.specs.Place.{Extent}
use Rattle.starlark_place.specs.declared.pos.Spanned.{Spanned}
use Rattle.starlark_ast.specs.Tree as tree
use Rattle.starlark_ast.specs.View.{stmt_step, def_step, for_step, stmt_view, stmt_at, def_view, for_view, expr_at, target_at, parameter_at, ident_at, members, boxed_type, maybe_expr, assign_view, load_view}
use Rattle.starlark_ast.specs.declared.ast.AssignOp.{AssignOp}
use Rattle.starlark_ast.specs.declared.ast.AssignP.{AssignP}
use Rattle.starlark_ast.specs.declared.ast.AssignTargetP.{AssignTargetP}
use Rattle.starlark_ast.specs.declared.ast.ExprP.{ExprP}
use Rattle.starlark_ast.specs.declared.ast.LoadP.{LoadP}
use Rattle.starlark_ast.specs.declared.ast.DefP.{DefP, fold_out-DefP}
use Rattle.starlark_ast.specs.declared.ast.ForP.{ForP, fold_out-ForP}
use Rattle.starlark_ast.specs.declared.ast.StmtP.{StmtP, fold-roll-StmtP}
use Rattle.starlark_ast.specs.declared.ast.StmtP.TheVariants as stmt
use Rattle.starlark_ast.specs.declared.ast.StmtP.TheOpen as layer

-- a list of what was made of each
pub sequence-map : {X Y : Type 0} (h : Y → tree.Statement) (f : X → Y) (ss : tree.Sequence) (xs : List X) → fold (λ ss x. tree.add_statement ss (h x)) ss (map f xs) ≡ fold (λ ss x. tree.add_statement ss (h (f x))) ss xs
sequence-map h f ss [] = refl
sequence-map h f ss (x ∷ xs) = sequence-map h f (tree.add_statement ss (h (f x))) xs

module _ {P L I A D T : Type 0} where
  abbrev pub statements_of : List (Spanned (StmtP P L I A D T)) → tree.Sequence
  statements_of xs = fold (λ ss x. tree.add_statement ss (stmt_at x)) tree.no_statements xs

  pub stmt_view-Return : (x : Option (Spanned (ExprP P L I A D T))) (s : Extent) → stmt_view (stmt.Return x) s ≡ tree.return (maybe_expr x) s
  stmt_view-Return x s = ap (λ q. stmt_view q s) (sym (stmt.rolls-Return x)) ∙ ap (λ q. q s) (fold-roll-StmtP P L I A D T _ _ _ stmt_step def_step for_step (layer.Return x))

  pub stmt_view-Expression : (x : Spanned (ExprP P L I A D T)) (s : Extent) → stmt_view (stmt.Expression x) s ≡ tree.expression (expr_at x) s
  stmt_view-Expression x s = ap (λ q. stmt_view q s) (sym (stmt.rolls-Expression x)) ∙ ap (λ q. q s) (fold-roll-StmtP P L I A D T _ _ _ stmt_step def_step for_step (layer.Expression x))

  pub stmt_view-Assign : (x : AssignP P L I A D T) (s : Extent) → stmt_view (stmt.Assign x) s ≡ assign_view x s
  stmt_view-Assign x s = ap (λ q. stmt_view q s) (sym (stmt.rolls-Assign x)) ∙ ap (λ q. q s) (fold-roll-StmtP P L I A D T _ _ _ stmt_step def_step for_step (layer.Assign x))

  pub stmt_view-AssignModify : (x : Spanned (AssignTargetP P L I A D T)) (o : AssignOp) (y : Box (Spanned (ExprP P L I A D T)) Global) (s : Extent) → stmt_view (stmt.AssignModify x o y) s ≡ tree.assign (target_at x) tree.untyped (Some o) (expr_at y.value) s
  stmt_view-AssignModify x o y s = ap (λ q. stmt_view q s) (sym (stmt.rolls-AssignModify x o y)) ∙ ap (λ q. q s) (fold-roll-StmtP P L I A D T _ _ _ stmt_step def_step for_step (layer.AssignModify x o y))

  pub stmt_view-Statements : (xs : Vec (Spanned (StmtP P L I A D T)) Global) (s : Extent) → stmt_view (stmt.Statements xs) s ≡ tree.block (statements_of xs.items) s
  stmt_view-Statements xs s = ap (λ q. stmt_view q s) (sym (stmt.rolls-Statements xs)) ∙ ap (λ q. q s) (fold-roll-StmtP P L I A D T _ _ _ stmt_step def_step for_step (layer.Statements xs)) ∙ ap (λ q. tree.block q s) (sequence-map _ _ tree.no_statements xs.items)

  pub stmt_view-If : (c : Spanned (ExprP P L I A D T)) (x : Box (Spanned (StmtP P L I A D T)) Global) (s : Extent) → stmt_view (stmt.If c x) s ≡ tree.when (expr_at c) (stmt_at x.value) s
  stmt_view-If c x s = ap (λ q. stmt_view q s) (sym (stmt.rolls-If c x)) ∙ ap (λ q. q s) (fold-roll-StmtP P L I A D T _ _ _ stmt_step def_step for_step (layer.If c x))

  pub stmt_view-IfElse : (c : Spanned (ExprP P L I A D T)) (x : Box (Spanned (StmtP P L I A D T) × Spanned (StmtP P L I A D T)) Global) (s : Extent) → stmt_view (stmt.IfElse c x) s ≡ tree.either (expr_at c) (stmt_at x.value.0) (stmt_at x.value.1) s
  stmt_view-IfElse c x s = ap (λ q. stmt_view q s) (sym (stmt.rolls-IfElse c x)) ∙ ap (λ q. q s) (fold-roll-StmtP P L I A D T _ _ _ stmt_step def_step for_step (layer.IfElse c x))

  pub stmt_view-For : (x : ForP P L I A D T) (s : Extent) → stmt_view (stmt.For x) s ≡ for_view x s
  stmt_view-For x s = ap (λ q. stmt_view q s) (sym (stmt.rolls-For x)) ∙ ap (λ q. q s) (fold-roll-StmtP P L I A D T _ _ _ stmt_step def_step for_step (layer.For x))

  pub stmt_view-Def : (x : DefP P L I A D T) (s : Extent) → stmt_view (stmt.Def x) s ≡ def_view x s
  stmt_view-Def x s = ap (λ q. stmt_view q s) (sym (stmt.rolls-Def x)) ∙ ap (λ q. q s) (fold-roll-StmtP P L I A D T _ _ _ stmt_step def_step for_step (layer.Def x))

  pub stmt_view-Load : (x : LoadP P L I A D T) (s : Extent) → stmt_view (stmt.Load x) s ≡ load_view x s
  stmt_view-Load x s = ap (λ q. stmt_view q s) (sym (stmt.rolls-Load x)) ∙ ap (λ q. q s) (fold-roll-StmtP P L I A D T _ _ _ stmt_step def_step for_step (layer.Load x))

  pub view-def : (x : DefP P L I A D T) (s : Extent) → def_view x s ≡ tree.define (ident_at x.name) (members parameter_at x.params.items) (boxed_type x.return_type) (stmt_at x.body.value) s
  view-def x s = ap (λ q. q s) (fold_out-DefP P L I A D T _ _ _ stmt_step def_step for_step x)

  pub view-for : (x : ForP P L I A D T) (s : Extent) → for_view x s ≡ tree.repeat (target_at x.var) (expr_at x.over) (stmt_at x.body.value) s
  view-for x s = ap (λ q. q s) (fold_out-ForP P L I A D T _ _ _ stmt_step def_step for_step x)

-- without a part that names the payloads
module _ (P L I A D T : Type 0) where
  pub stmt_view-Break : (s : Extent) → stmt_view {P = P} {L = L} {I = I} {A = A} {D = D} {T = T} stmt.Break s ≡ tree.break s
  stmt_view-Break s = ap (λ q. stmt_view {P = P} {L = L} {I = I} {A = A} {D = D} {T = T} q s) (sym stmt.rolls-Break) ∙ ap (λ q. q s) (fold-roll-StmtP P L I A D T _ _ _ stmt_step def_step for_step layer.Break)

  pub stmt_view-Continue : (s : Extent) → stmt_view {P = P} {L = L} {I = I} {A = A} {D = D} {T = T} stmt.Continue s ≡ tree.continue s
  stmt_view-Continue s = ap (λ q. stmt_view {P = P} {L = L} {I = I} {A = A} {D = D} {T = T} q s) (sym stmt.rolls-Continue) ∙ ap (λ q. q s) (fold-roll-StmtP P L I A D T _ _ _ stmt_step def_step for_step layer.Continue)

  pub stmt_view-Pass : (s : Extent) → stmt_view {P = P} {L = L} {I = I} {A = A} {D = D} {T = T} stmt.Pass s ≡ tree.pass s
  stmt_view-Pass s = ap (λ q. stmt_view {P = P} {L = L} {I = I} {A = A} {D = D} {T = T} q s) (sym stmt.rolls-Pass) ∙ ap (λ q. q s) (fold-roll-StmtP P L I A D T _ _ _ stmt_step def_step for_step layer.Pass)
