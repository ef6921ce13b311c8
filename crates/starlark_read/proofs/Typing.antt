-- Types.
use Rattle.std.proofs.Common.{◌≡◌, Option, Some, None, true, false, cond, ap, sym, ◌∙◌}
use Rattle.starlark_place.specs.Place.{Extent}
use Rattle.starlark_lexer.specs.declared.dialect.Dialect.{Dialect}
use Rattle.starlark_ast.specs.Tree as tree
use Rattle.starlark_rulebook.specs.Rules.{TypesDisabled, Finding, breaks}
use Rattle.starlark_rulebook.specs.Types.{first_type_fault, has_types, type_fault}
use Rattle.starlark_grammar.specs.Nodes.{type_at}
use Rattle.starlark_read.specs.Reads.{IsType, type_read}

-- types are off
pub types_off : (d : Dialect) (q : tree.Expr) (s : Extent) → has_types d.enable_types ≡ false → s ≡ tree.place q → type_fault d q ≡ Some (breaks TypesDisabled s)
types_off d q s h w = ap (λ b. cond b (first_type_fault q) (Some (breaks TypesDisabled (tree.place q)))) h ∙ ap (λ z. Some (breaks TypesDisabled z)) (sym w)

-- types are on
pub types_on : (d : Dialect) (q : tree.Expr) (o : Option Finding) → has_types d.enable_types ≡ true → o ≡ first_type_fault q → type_fault d q ≡ o
types_on d q o h w = ap (λ b. cond b (first_type_fault q) (Some (breaks TypesDisabled (tree.place q)))) h ∙ sym w

pub is_type : (d : Dialect) (q : tree.Expr) (t : tree.Annotation) → t ≡ type_at q → type_fault d q ≡ None → IsType d t
is_type d q t e h = record { is = e ∙ ap (λ z. type_at (type_read z)) (sym e); right = ap (λ z. type_fault d (type_read z)) e ∙ h }
