-- The types in each variant of a statement: equations of TypePlaces.
use Rattle.std.proofs.Common.{◌≡◌, sym, ap, ◌∙◌, ◌+◌, [], ◌++◌, flat_map, Option}
use Rattle.std.proofs.lemmas.List.Folds.{flat_map-map}
use Rattle.std.specs.declared.alloc.Global.{Global}
use Rattle.std.specs.declared.boxed.Box.{Box}
use Rattle.std.specs.declared.vec.Vec.{Vec}
use Rattle.starlark_place.specs.declared.pos.Spanned.{Spanned}
use Rattle.starlark_ast.specs.Places.{E, maybe_place}
use Rattle.starlark_ast.specs.declared.ast.AssignOp.{AssignOp}
use Rattle.starlark_ast.specs.declared.ast.AssignP.{AssignP}
use Rattle.starlark_ast.specs.declared.ast.AssignTargetP.{AssignTargetP}
use Rattle.starlark_ast.specs.declared.ast.LoadP.{LoadP}
use Rattle.starlark_ast.specs.declared.ast.DefP.{DefP, out-DefP, roll-out-DefP, fold-roll-DefP}
use Rattle.starlark_ast.specs.declared.ast.ForP.{ForP, out-ForP, roll-out-ForP, fold-roll-ForP}
use Rattle.starlark_ast.specs.declared.ast.StmtP.{StmtP, fold-roll-StmtP}
use Rattle.starlark_ast.specs.declared.ast.StmtP.TheOpen as layer
use Rattle.starlark_ast.specs.declared.ast.StmtP.TheVariants as stmt
use Rattle.starlark_ast.proofs.Tops.{count, count_def, count_for, count_step}
use Rattle.starlark_write.specs.TypePlaces.{assign_types, def_step, def_types, default_types, expr_types, for_step, for_types, own_type, returned_types, stmt_step, stmt_types, target_types}

module _ {P L I A D T : Type 0} where
  pub stmt_types-Return : (x : Option (E P L I A D T)) → stmt_types (stmt.Return x) ≡ returned_types x
  stmt_types-Return x = ap stmt_types (sym (stmt.rolls-Return x)) ∙ fold-roll-StmtP P L I A D T _ _ _ stmt_step def_step for_step (layer.Return x)

  pub stmt_types-Expression : (x : E P L I A D T) → stmt_types (stmt.Expression x) ≡ expr_types x.node
  stmt_types-Expression x = ap stmt_types (sym (stmt.rolls-Expression x)) ∙ fold-roll-StmtP P L I A D T _ _ _ stmt_step def_step for_step (layer.Expression x)

  pub stmt_types-Assign : (x : AssignP P L I A D T) → stmt_types (stmt.Assign x) ≡ assign_types x
  stmt_types-Assign x = ap stmt_types (sym (stmt.rolls-Assign x)) ∙ fold-roll-StmtP P L I A D T _ _ _ stmt_step def_step for_step (layer.Assign x)

  pub stmt_types-AssignModify : (x : Spanned (AssignTargetP P L I A D T)) (o : AssignOp) (y : Box (E P L I A D T) Global) → stmt_types (stmt.AssignModify x o y) ≡ target_types x.node ++ expr_types y.value.node
  stmt_types-AssignModify x o y = ap stmt_types (sym (stmt.rolls-AssignModify x o y)) ∙ fold-roll-StmtP P L I A D T _ _ _ stmt_step def_step for_step (layer.AssignModify x o y)

  pub stmt_types-Statements : (xs : Vec (Spanned (StmtP P L I A D T)) Global) → stmt_types (stmt.Statements xs) ≡ flat_map (λ x. stmt_types x.node) xs.items
  stmt_types-Statements xs = ap stmt_types (sym (stmt.rolls-Statements xs)) ∙ fold-roll-StmtP P L I A D T _ _ _ stmt_step def_step for_step (layer.Statements xs) ∙ flat_map-map _ _ xs.items

  pub stmt_types-If : (c : E P L I A D T) (x : Box (Spanned (StmtP P L I A D T)) Global) → stmt_types (stmt.If c x) ≡ expr_types c.node ++ stmt_types x.value.node
  stmt_types-If c x = ap stmt_types (sym (stmt.rolls-If c x)) ∙ fold-roll-StmtP P L I A D T _ _ _ stmt_step def_step for_step (layer.If c x)

  pub stmt_types-IfElse : (c : E P L I A D T) (x : Box (Spanned (StmtP P L I A D T) × Spanned (StmtP P L I A D T)) Global) → stmt_types (stmt.IfElse c x) ≡ expr_types c.node ++ (stmt_types x.value.0.node ++ stmt_types x.value.1.node)
  stmt_types-IfElse c x = ap stmt_types (sym (stmt.rolls-IfElse c x)) ∙ fold-roll-StmtP P L I A D T _ _ _ stmt_step def_step for_step (layer.IfElse c x)

  pub stmt_types-For : (x : ForP P L I A D T) → stmt_types (stmt.For x) ≡ for_types x
  stmt_types-For x = ap stmt_types (sym (stmt.rolls-For x)) ∙ fold-roll-StmtP P L I A D T _ _ _ stmt_step def_step for_step (layer.For x)

  pub stmt_types-Def : (x : DefP P L I A D T) → stmt_types (stmt.Def x) ≡ def_types x
  stmt_types-Def x = ap stmt_types (sym (stmt.rolls-Def x)) ∙ fold-roll-StmtP P L I A D T _ _ _ stmt_step def_step for_step (layer.Def x)

  pub stmt_types-Load : (x : LoadP P L I A D T) → stmt_types (stmt.Load x) ≡ []
  stmt_types-Load x = ap stmt_types (sym (stmt.rolls-Load x)) ∙ fold-roll-StmtP P L I A D T _ _ _ stmt_step def_step for_step (layer.Load x)

  pub for_types-parts : (x : ForP P L I A D T) → for_types x ≡ target_types (out-ForP P L I A D T x).var.node ++ (expr_types (out-ForP P L I A D T x).over.node ++ stmt_types (out-ForP P L I A D T x).body.value.node)
  for_types-parts x = ap for_types (sym (roll-out-ForP P L I A D T x)) ∙ fold-roll-ForP P L I A D T _ _ _ stmt_step def_step for_step (out-ForP P L I A D T x)

  pub def_types-parts : (x : DefP P L I A D T) → def_types x ≡ flat_map (λ p. own_type p.node) (out-DefP P L I A D T x).params.items ++ (maybe_place (out-DefP P L I A D T x).return_type ++ (flat_map (λ p. default_types p.node) (out-DefP P L I A D T x).params.items ++ stmt_types (out-DefP P L I A D T x).body.value.node))
  def_types-parts x = ap def_types (sym (roll-out-DefP P L I A D T x)) ∙ fold-roll-DefP P L I A D T _ _ _ stmt_step def_step for_step (out-DefP P L I A D T x)

  pub count-IfElse : (s : StmtP P L I A D T) (c : E P L I A D T) (x : Box (Spanned (StmtP P L I A D T) × Spanned (StmtP P L I A D T)) Global) → s ≡ stmt.IfElse c x → count s ≡ count x.value.0.node + count x.value.1.node + 1
  count-IfElse s c x is = ap count (is ∙ sym (stmt.rolls-IfElse c x)) ∙ fold-roll-StmtP P L I A D T _ _ _ count_step count_def count_for (layer.IfElse c x)

-- without a part that names the payloads
module _ (P L I A D T : Type 0) where
  pub stmt_types-Break : stmt_types {P = P} {L = L} {I = I} {A = A} {D = D} {T = T} stmt.Break ≡ []
  stmt_types-Break = ap (stmt_types {P = P} {L = L} {I = I} {A = A} {D = D} {T = T}) (sym stmt.rolls-Break) ∙ fold-roll-StmtP P L I A D T _ _ _ stmt_step def_step for_step layer.Break

  pub stmt_types-Continue : stmt_types {P = P} {L = L} {I = I} {A = A} {D = D} {T = T} stmt.Continue ≡ []
  stmt_types-Continue = ap (stmt_types {P = P} {L = L} {I = I} {A = A} {D = D} {T = T}) (sym stmt.rolls-Continue) ∙ fold-roll-StmtP P L I A D T _ _ _ stmt_step def_step for_step layer.Continue

  pub stmt_types-Pass : stmt_types {P = P} {L = L} {I = I} {A = A} {D = D} {T = T} stmt.Pass ≡ []
  stmt_types-Pass = ap (stmt_types {P = P} {L = L} {I = I} {A = A} {D = D} {T = T}) (sym stmt.rolls-Pass) ∙ fold-roll-StmtP P L I A D T _ _ _ stmt_step def_step for_step layer.Pass
