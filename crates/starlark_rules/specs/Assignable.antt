-- What the code finds out of an expression that is to be assigned to.
use Rattle.std.specs.Prelude.{◌≡◌, ℕ, suc, ◌+◌, Some, string_bytes}
use Rattle.starlark_place.specs.Place.{Extent}
use Rattle.starlark_ast.specs.Tree as t
use Rattle.starlark_ast.specs.Tree.{Expr}
use Rattle.starlark_ast.specs.View.{expr_at, assigned_view}
use Rattle.starlark_ast.specs.Views.{items_of}
use Rattle.starlark_rules.specs.declared.assign.Assignable.{Assignable}
use Rattle.starlark_rules.specs.declared.assign.Assignable.TheVariants as form
use Rattle.starlark_rulebook.specs.Rules.{InvalidLhs, breaks}
use Rattle.starlark_rulebook.specs.Targets as targets

-- how many members are within it
abbrev mutual
  pub weight : Expr → ℕ
  weight (t.tuple ms s) = suc (weights ms)
  weight (t.list ms s) = suc (weights ms)
  weight x = 0

  pub weights : t.Members → ℕ
  weights t.none = 0
  weights (t.more ms m) = suc (weights ms + member_weight m)

  pub member_weight : t.Member → ℕ
  member_weight (t.item x) = weight x
  member_weight m = 0

-- members of which each is to be one
pub record AreMembers (xs : t.Members) (s : Extent) (x : Expr) : Type 0 where
  pub less : weight x ≡ suc (weights xs)
  pub target : targets.target_of x ≡ t.tuple (targets.targets_of xs) s
  pub fault : targets.target_fault x ≡ targets.targets_fault xs

-- an expression at a place, by its form
abbrev pub IsAssignable : Assignable → Extent → Expr → Type 0
IsAssignable (form.Several xs) s x = AreMembers (items_of xs.items) s x
IsAssignable (form.Index p) s x = targets.target_of x ≡ t.index (expr_at p.value.0) (t.single (expr_at p.value.1)) s
IsAssignable (form.Dot p n) s x = targets.target_of x ≡ t.dot (expr_at p.value) (string_bytes n.node) n.span s
IsAssignable (form.Name n) s x = targets.target_of x ≡ assigned_view n s
IsAssignable (form.No y) s x = targets.target_fault x ≡ Some (breaks InvalidLhs s)
