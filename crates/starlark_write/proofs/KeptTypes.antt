-- What stays where types are written: of lists, arguments and parameters.
use Rattle.std.proofs.Common.{◌≡◌, refl, sym, ap, ◌∙◌, ℕ, ◌+◌, ◌<◌, ◌≤◌, List, ◌++◌, flat_map, length, drop, get_or, Option, Some, None, arith, ap₂}
use Rattle.std.proofs.lemmas.List.Sums.{get_or-le-sum_by, sum_by-cons}
use Rattle.std.specs.List.{sum_by}
use Rattle.std.specs.Vec.{SameBlock}
use Rattle.std.specs.declared.alloc.Global.{Global}
use Rattle.std.specs.declared.boxed.Box.{Box}
use Rattle.std.specs.declared.vec.Vec.{Vec}
use Rattle.starlark_place.specs.declared.pos.Spanned.{Spanned}
use Rattle.starlark_ast.specs.Access.{argument_expr, argument_expr_layer}
use Rattle.starlark_ast.specs.Places.{E}
use Rattle.starlark_ast.specs.declared.ast.ArgumentP.{ArgumentP, ArgumentP-F, out-ArgumentP, roll-ArgumentP, roll-out-ArgumentP}
use Rattle.starlark_ast.specs.declared.ast.AssignTargetP.{AssignTargetP}
use Rattle.starlark_ast.specs.declared.ast.ClauseP.{ClauseP}
use Rattle.starlark_ast.specs.declared.ast.ExprP.{ExprP}
use Rattle.starlark_ast.specs.declared.ast.ParameterP.{ParameterP}
use Rattle.starlark_ast.specs.declared.ast.CallArgsP.{CallArgsP}
use Rattle.starlark_ast.specs.declared.ast.FStringP.{FStringP}
use Rattle.starlark_ast.specs.declared.ast.ForClauseP.{ForClauseP}
use Rattle.starlark_ast.specs.declared.ast.LambdaP.{LambdaP}
use Rattle.starlark_ast.specs.declared.ast.TypeExprP.{TypeExprP}
use Rattle.starlark_ast.specs.declared.ast.StmtP.{StmtP}
use Rattle.starlark_ast.specs.declared.ast.ArgumentP.TheOpen as layer
use Rattle.starlark_ast.specs.declared.ast.ArgumentP.TheVariants as argument
use Rattle.starlark_ast.specs.declared.ast.ParameterP.TheVariants as parameter
use Rattle.starlark_write.specs.Beside as beside
use Rattle.starlark_write.specs.Beside.{AtPlace, Each, KeepsArgument}
use Rattle.starlark_write.specs.BesideTypes as kept
use Rattle.starlark_write.specs.BesideTypes.{KeepsAll, KeepsArguments, KeepsClauseTypes, KeepsClauses, KeepsDefault, KeepsDefaults, KeepsMaybe, KeepsOwn, KeepsPairs, KeepsStmtTypes, KeepsStmtsTypes, KeepsTargetTypes, KeepsTargetsTypes, KeepsTypes}
use Rattle.starlark_write.specs.TypePlaces.{argument_types, default_types, expr_types, own_layer, own_type}
use Rattle.starlark_write.proofs.Loops as loops
use Rattle.starlark_write.proofs.Loops.{Both, head_same}
use Rattle.starlark_write.proofs.TypeParts.{argument_types-Args, argument_types-KwArgs, argument_types-Named, argument_types-Positional, default_types-Args, default_types-KwArgs, default_types-Normal}
use Rattle.starlark_write.proofs.TypelessNodes.{argument_nodes, argument_nodes-Args, argument_nodes-KwArgs, argument_nodes-Named, argument_nodes-Positional, default_nodes, default_nodes-Args, default_nodes-KwArgs, default_nodes-Normal, expr_nodes}

-- a vector that is written to twice
pub blocks_then : {X : Type 0} (xs ys zs : Vec X Global) → SameBlock xs ys → SameBlock ys zs → SameBlock xs zs
blocks_then xs ys zs h k = (k.0 ∙ h.0, (k.1.0 ∙ h.1.0, k.1.1 ∙ h.1.1))

-- one of a list counts no more than all, also where those before it were written
pub fewer : {X : Type 0} (h : X → ℕ) (old xs : List X) (i : ℕ) (x : X) → i < length xs → length xs ≡ length old → drop i xs ≡ drop i old → h (get_or xs i x) ≤ sum_by h old
fewer h old xs i x below lengths front =
    let same : h (get_or xs i x) ≡ h (get_or old i x) = ap h (head_same xs old i x below front) in
    let le : h (get_or old i x) ≤ sum_by h old = get_or-le-sum_by h old i x (omega (arith, below, lengths)) in
    omega (arith, same, le)

each_flat : {X Z : Type 0} (R : X → X → Type 0) (h : X → List Z) → ((x y : X) → R x y → h x ≡ h y) → {xs ys : List X} → Each R xs ys → flat_map h xs ≡ flat_map h ys
each_flat R h same (beside.rest xs) = refl
each_flat R h same (beside.more k hs) = ap₂ (λ p q. p ++ q) (same _ _ k) (each_flat R h same hs)

each_sum : {X : Type 0} (R : X → X → Type 0) (h : X → ℕ) → ((x y : X) → R x y → h x ≡ h y) → {xs ys : List X} → Each R xs ys → sum_by h xs ≡ sum_by h ys
each_sum R h same (beside.rest xs) = refl
each_sum R h same (beside.more {x = x} {y = y} {xs = xs} {ys = ys} k hs) =
    sum_by-cons h x xs ∙ ap₂ (λ p q. p + q) (same x y k) (each_sum R h same hs) ∙ sym (sum_by-cons h y ys)

module _ {P L I A D T : Type 0} where
  pub all_back : (xs ys zs : List (E P L I A D T)) → Both KeepsTypes xs ys → KeepsAll (xs ++ zs) (ys ++ zs)
  all_back xs ys zs loops.none = kept.all_rest zs
  all_back xs ys zs (loops.more k h) = kept.all_more k (all_back _ _ zs h)

  -- of a pair ap₂
  abbrev pub KeepsPair : E P L I A D T × E P L I A D T → E P L I A D T × E P L I A D T → Type 0
  KeepsPair x y = KeepsTypes x.0 y.0 × KeepsTypes x.1 y.1

  pub pairs_back : (xs ys zs : List (E P L I A D T × E P L I A D T)) → Both KeepsPair xs ys → KeepsPairs (xs ++ zs) (ys ++ zs)
  pairs_back xs ys zs loops.none = kept.pairs_rest zs
  pairs_back xs ys zs (loops.more k h) = kept.pairs_more k.0 k.1 (pairs_back _ _ zs h)

  pub arguments_back : (xs ys zs : List (Spanned (ArgumentP P L I A D T))) → Both (λ x y. AtPlace KeepsArgument x y × KeepsTypes (argument_expr x.node) (argument_expr y.node)) xs ys → KeepsArguments (xs ++ zs) (ys ++ zs)
  arguments_back xs ys zs loops.none = kept.arguments_rest zs
  arguments_back xs ys zs (loops.more k h) = kept.arguments_more k.0 k.1 (arguments_back _ _ zs h)

  pub defaults_back : (xs ys zs : List (Spanned (ParameterP P L I A D T))) → Both KeepsDefault xs ys → KeepsDefaults (xs ++ zs) (ys ++ zs)
  defaults_back xs ys zs loops.none = kept.defaults_rest zs
  defaults_back xs ys zs (loops.more k h) = kept.defaults_more k (defaults_back _ _ zs h)

  pub clauses_back : (xs ys zs : List (ClauseP P L I A D T)) → Both KeepsClauseTypes xs ys → KeepsClauses (xs ++ zs) (ys ++ zs)
  clauses_back xs ys zs loops.none = kept.clauses_rest zs
  clauses_back xs ys zs (loops.more k h) = kept.clauses_more k (clauses_back _ _ zs h)

  pub targets_back : (xs ys zs : List (Spanned (AssignTargetP P L I A D T))) → Both KeepsTargetTypes xs ys → KeepsTargetsTypes (xs ++ zs) (ys ++ zs)
  targets_back xs ys zs loops.none = kept.targets_rest zs
  targets_back xs ys zs (loops.more k h) = kept.targets_more k (targets_back _ _ zs h)

  pub stmts_back : (xs ys zs : List (Spanned (StmtP P L I A D T))) → Both (AtPlace KeepsStmtTypes) xs ys → KeepsStmtsTypes (xs ++ zs) (ys ++ zs)
  stmts_back xs ys zs loops.none = kept.stmts_rest zs
  stmts_back xs ys zs (loops.more k h) = kept.stmts_more k.span k.node (stmts_back _ _ zs h)

  pub maybe_same : (x : Option (Box (E P L I A D T) Global)) → KeepsMaybe x x
  maybe_same None = kept.absent
  maybe_same (Some x) = kept.present x x refl (kept.same x.value)

  -- an argument has the types of its expression
  layer_types : (l : ArgumentP-F P L I A D T (ArgumentP P L I A D T) (AssignTargetP P L I A D T) (ClauseP P L I A D T) (ExprP P L I A D T) (ParameterP P L I A D T) (CallArgsP P L I A D T) (FStringP P L I A D T) (ForClauseP P L I A D T) (LambdaP P L I A D T) (TypeExprP P L I A D T)) → (argument_types (roll-ArgumentP P L I A D T l) ≡ expr_types (argument_expr_layer l).node) × (argument_nodes (roll-ArgumentP P L I A D T l) ≡ expr_nodes (argument_expr_layer l).node)
  layer_types (layer.Positional x) = (ap argument_types (argument.rolls-Positional x) ∙ argument_types-Positional x, ap argument_nodes (argument.rolls-Positional x) ∙ argument_nodes-Positional x)
  layer_types (layer.Named name x) = (ap argument_types (argument.rolls-Named name x) ∙ argument_types-Named name x, ap argument_nodes (argument.rolls-Named name x) ∙ argument_nodes-Named name x)
  layer_types (layer.ArgumentP::Args x) = (ap argument_types (argument.rolls-Args x) ∙ argument_types-Args x, ap argument_nodes (argument.rolls-Args x) ∙ argument_nodes-Args x)
  layer_types (layer.ArgumentP::KwArgs x) = (ap argument_types (argument.rolls-KwArgs x) ∙ argument_types-KwArgs x, ap argument_nodes (argument.rolls-KwArgs x) ∙ argument_nodes-KwArgs x)

  pub argument_types_of : (x : ArgumentP P L I A D T) → argument_types x ≡ expr_types (argument_expr x).node
  argument_types_of x = ap argument_types (sym (roll-out-ArgumentP P L I A D T x)) ∙ (layer_types (out-ArgumentP P L I A D T x)).0

  pub argument_nodes_of : (x : ArgumentP P L I A D T) → argument_nodes x ≡ expr_nodes (argument_expr x).node
  argument_nodes_of x = ap argument_nodes (sym (roll-out-ArgumentP P L I A D T x)) ∙ (layer_types (out-ArgumentP P L I A D T x)).1

  -- a parameter whose own type was written
  own_kept : (x y : ParameterP P L I A D T) → KeepsOwn x y → (default_types x ≡ default_types y) × (default_nodes x ≡ default_nodes y)
  own_kept x y kept.slash = (refl, refl)
  own_kept x y (kept.normal n a b d e) = (default_types-Normal n a d ∙ sym (default_types-Normal n b d), default_nodes-Normal n a d ∙ sym (default_nodes-Normal n b d))
  own_kept x y kept.no_args = (refl, refl)
  own_kept x y (kept.args_own n a b e) = (default_types-Args n a ∙ sym (default_types-Args n b), default_nodes-Args n a ∙ sym (default_nodes-Args n b))
  own_kept x y (kept.kwargs_own n a b e) = (default_types-KwArgs n a ∙ sym (default_types-KwArgs n b), default_nodes-KwArgs n a ∙ sym (default_nodes-KwArgs n b))

  pub same_defaults : {xs ys : List (Spanned (ParameterP P L I A D T))} → Each (AtPlace KeepsOwn) xs ys → flat_map (λ p. default_types p.node) xs ≡ flat_map (λ p. default_types p.node) ys
  same_defaults {xs} {ys} h = each_flat (AtPlace KeepsOwn) (λ p. default_types p.node) (λ x y k. (own_kept x.node y.node k.node).0) h

  pub same_default_nodes : {xs ys : List (Spanned (ParameterP P L I A D T))} → Each (AtPlace KeepsOwn) xs ys → sum_by (λ p. default_nodes p.node) xs ≡ sum_by (λ p. default_nodes p.node) ys
  same_default_nodes {xs} {ys} h = each_sum (AtPlace KeepsOwn) (λ p. default_nodes p.node) (λ x y k. (own_kept x.node y.node k.node).1) h

  -- a parameter whose default was written
  default_kept : (x y : Spanned (ParameterP P L I A D T)) → KeepsDefault x y → own_type x.node ≡ own_type y.node
  default_kept x y (kept.same_parameter z) = refl
  default_kept x y (kept.default s n t a b h) = ap own_layer (parameter.outs-Normal n t a) ∙ sym (ap own_layer (parameter.outs-Normal n t b))

  pub same_own : {xs ys : List (Spanned (ParameterP P L I A D T))} → KeepsDefaults xs ys → flat_map (λ p. own_type p.node) xs ≡ flat_map (λ p. own_type p.node) ys
  same_own (kept.defaults_rest xs) = refl
  same_own (kept.defaults_more k h) = ap₂ (λ p q. p ++ q) (default_kept _ _ k) (same_own h)
