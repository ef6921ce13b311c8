-- One more statement behind those that were made again.
use Rattle.std.proofs.Common.{ℕ, ◌+◌, ◌<◌, ◌≡◌, refl, sym, ap, ◌∙◌, List, [], ◌∷◌, ◌++◌, Option, Some, None, length, take, get_or, fold, ap₂}
use Rattle.std.proofs.lemmas.List.Sums.{fold-append}
use Rattle.std.specs.declared.alloc.Global.{Global}
use Rattle.std.specs.declared.boxed.Box.{Box}
use Rattle.starlark_place.specs.declared.pos.Spanned.{Spanned}
use Rattle.starlark_clone.specs.Copies.{maybe_type_by, type_by}
use Rattle.starlark_clone.specs.Replacing.{Renaming, replaced_sequence, replaced_statement}
use Rattle.starlark_ast.specs.StatementViews.{statements_of}
use Rattle.starlark_ast.specs.Tree as t
use Rattle.starlark_ast.specs.Tree.{Statement}
use Rattle.starlark_ast.specs.View.{boxed_type, maybe_type, stmt_at, type_view}
use Rattle.starlark_ast.specs.declared.ast.StmtP.{StmtP}
use Rattle.starlark_ast.specs.declared.ast.TypeExprP.{TypeExprP}
use Rattle.starlark_ast.proofs.Blocks.{statements_more}
use Rattle.starlark_clone.proofs.Made.{as_three}

-- a function of four equal things
pub as_four : {A B C D E : Type 0} (f : A → B → C → D → E) {a b : A} {x y : B} {p q : C} {u v : D} → a ≡ b → x ≡ y → p ≡ q → u ≡ v → f a x p u ≡ f b y q v
as_four f {a} {b} {x} {y} {p} {q} {u} {v} e h k l = ap (λ z. f z x p u) e ∙ as_three (f b) h k l

module _ {P L I A D T : Type 0} where
  pub statement_again : {Y : Type 0} (r : Renaming) (h : Y → Statement) (ys zs : List Y) (y : Y) (xs : List (Spanned (StmtP P L I A D T))) (i : ℕ) (x : Spanned (StmtP P L I A D T)) → zs ≡ ys ++ y ∷ [] → i < length xs → x ≡ get_or xs i x → fold (λ ss q. t.add_statement ss (h q)) t.no_statements ys ≡ replaced_sequence r (statements_of (take i xs)) → h y ≡ replaced_statement r (stmt_at x) → fold (λ ss q. t.add_statement ss (h q)) t.no_statements zs ≡ replaced_sequence r (statements_of (take (i + 1) xs))
  statement_again r h ys zs y xs i x more below is so_far here =
      ap (fold (λ ss q. t.add_statement ss (h q)) t.no_statements) more
      ∙ fold-append (λ ss q. t.add_statement ss (h q)) t.no_statements ys (y ∷ [])
      ∙ ap₂ t.add_statement so_far here
      ∙ sym (ap (replaced_sequence r) (statements_more xs i x below is))

  -- a type is made as it is read
  pub type_same : (x : Option (Box (Spanned (TypeExprP P L I A D T)) Global)) → boxed_type x ≡ type_by type_view x
  type_same None = refl
  type_same (Some x) = refl

  pub maybe_type_same : (x : Option (Spanned (TypeExprP P L I A D T))) → maybe_type x ≡ maybe_type_by type_view x
  maybe_type_same None = refl
  maybe_type_same (Some x) = refl
