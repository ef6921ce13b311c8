-- Types as the code takes them apart.
use Rattle.std.specs.Prelude.{◌≡◌, ℕ, List, [], ◌++◌, codes, fold, Option, Some, None, Result, Ok, Err}
use Rattle.starlark_place.specs.declared.pos.Spanned.{Spanned}
use Rattle.starlark_ast.specs.Tree as t
use Rattle.starlark_ast.specs.Tree.{Expr}
use Rattle.starlark_rules.specs.Forms.{form_at}
use Rattle.starlark_rulebook.specs.Types.{Misfit, misfit, Forms, no_forms, add_form}
use Rattle.starlark_rulebook.specs.Types as types
use Rattle.starlark_rulebook.specs.View.{type_fault_view}
use Rattle.starlark_rules.specs.declared.types.Role.{Role}
use Rattle.starlark_rules.specs.declared.types.Role.TheVariants.{Alone, Argument}
use Rattle.starlark_rules.specs.declared.types.Stop.{Stop}
use Rattle.starlark_rules.specs.declared.types.Stop.TheVariants.{NoType, Memory}
use Rattle.starlark_rules.specs.declared.type_expr.TypeExprUnpackP.{TypeExprUnpackP}

-- the fault, if it is one
abbrev pub stop_for : Stop → Option Misfit
stop_for (NoType x) = Some (misfit (type_fault_view x.node) x.span)
stop_for Memory = None

-- What the code makes is so much as plain data, or it stops at the same fault, or memory ran out.
abbrev pub Stops : {A : Type 0} → Result A Misfit → Stop → Type 0
Stops r (NoType x) = r ≡ Err (misfit (type_fault_view x.node) x.span)
Stops r Memory = Unit {0}

abbrev pub Comes : {A U : Type 0} → (U → A) → Result A Misfit → Result U Stop → Type 0
Comes v r (Ok u) = r ≡ Ok (v u)
Comes v r (Err stop) = Stops r stop

-- an identifier and the attributes behind it, joined by dots
abbrev pub path_text : Expr → List ℕ
path_text (t.leaf (t.name n) u s) = n
path_text (t.dot x n u s) = path_text x ++ codes "." ++ n
path_text x = []

-- where an expression stands, as the code names it
abbrev pub role_of : Role → types.Role
role_of Alone = types.alone
role_of Argument = types.argument

module _ {P L I A D T : Type 0} where
  -- types in a row
  abbrev pub forms_view : List (Spanned (TypeExprUnpackP P L I A D T)) → Forms
  forms_view xs = fold (λ fs x. add_form fs (form_at x)) no_forms xs
