-- What the code makes of a type, as the plain data of types.
use Rattle.std.specs.Prelude.{◌≡◌, ℕ, List, [], fold, map, Some, Result, Ok, Err, string_bytes}
use Rattle.std.specs.Borrow.{Bor}
use Rattle.starlark_place.specs.Diagnostic.{inner_of, span_of, frames_of}
use Rattle.starlark_place.specs.Place.{Extent, File, file_place}
use Rattle.starlark_place.specs.declared.diagnostic.Refusal.{Refusal}
use Rattle.starlark_place.specs.declared.diagnostic.Refusal.TheVariants.{Fault, Memory}
use Rattle.starlark_place.specs.declared.diagnostic.WithDiagnostic.{WithDiagnostic}
use Rattle.starlark_place.specs.declared.pos.Spanned.{Spanned}
use Rattle.starlark_ast.specs.Tree as t
use Rattle.starlark_ast.specs.Tree.{Name}
use Rattle.starlark_ast.specs.View.{at}
use Rattle.starlark_ast.specs.declared.ast.IdentP.{IdentP}
use Rattle.starlark_rulebook.specs.Types.{Misfit, misfit, Path, path, Form, Forms, ellipsis_form, path_form, index_form, index2_form, list_form, union_form, tuple_form, no_forms, add_form}
use Rattle.starlark_rulebook.specs.View.{type_fault_view}
use Rattle.starlark_rulebook.specs.declared.rule.TypeExprUnpackError.{TypeExprUnpackError}
use Rattle.starlark_rules.specs.declared.type_expr.TypePathP.{TypePathP}
use Rattle.starlark_rules.specs.declared.type_expr.TypeExprUnpackP.{TypeExprUnpackP, TypeExprUnpackP-F, fold-TypeExprUnpackP}
use Rattle.starlark_rules.specs.declared.type_expr.TypeExprUnpackP.TheOpen as layer

-- an attribute, with its place
abbrev pub attribute : Spanned (Bor (List ℕ)) → Name
attribute x = t.name_at x.node.now x.span

-- types in a row
abbrev pub row : List (Spanned (Extent → Form)) → Forms
row xs = fold (λ fs x. add_form fs (at x)) no_forms xs

module _ {P L I A D T : Type 0} where
  -- an identifier that is read, with its place
  abbrev pub read_at : Spanned (IdentP P L I A D T) → Name
  read_at x = t.name_at (string_bytes x.node.ident) x.span

  abbrev pub path_view : TypePathP P L I A D T → Path
  path_view x = path (read_at x.first.now) (map attribute x.rem.items)

  -- one layer
  abbrev pub form_step : TypeExprUnpackP-F P L I A D T (Extent → Form) → Extent → Form
  form_step layer.Ellipsis s = ellipsis_form s
  form_step (layer.Path p) s = path_form (path_view p) s
  form_step (layer.Index x y) s = index_form (read_at x.now) (at y.value) s
  form_step (layer.Index2 p x y) s = index2_form (path_view p.node) p.span (at x.value) (at y.value) s
  form_step (layer.List xs) s = list_form (row xs.items) s
  form_step (layer.Union xs) s = union_form (row xs.items) s
  form_step (layer.Tuple xs) s = tuple_form (row xs.items) s

  abbrev pub form_view : TypeExprUnpackP P L I A D T → Extent → Form
  form_view = fold-TypeExprUnpackP P L I A D T _ form_step

  -- a type by its parts, with its place
  abbrev pub form_at : Spanned (TypeExprUnpackP P L I A D T) → Form
  form_at x = form_view x.node x.span

-- A fault that says why an expression is no type, at its place, and no calls.
abbrev pub SaysMisfit : Result Form Misfit → File → WithDiagnostic TypeExprUnpackError → Type 0
SaysMisfit (Ok f) file w = ⊥
SaysMisfit (Err (misfit f s)) file w = (type_fault_view (inner_of w) ≡ f) × (span_of w ≡ Some (file_place file s)) × (frames_of w ≡ [])

-- A refusal for the first fault of a type, unless memory ran out.
abbrev pub RefusesType : Result Form Misfit → File → Refusal TypeExprUnpackError → Type 0
RefusesType r file (Fault w) = SaysMisfit r file w
RefusesType r file Memory = Unit {0}
