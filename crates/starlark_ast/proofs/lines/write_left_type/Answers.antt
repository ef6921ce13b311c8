use Rattle.std.proofs.Common.{◌++◌, ◌∙◌, ap, codes, sym}
use Rattle.starlark_ast.specs.Printing.{left_type_text}
use Rattle.starlark_ast.specs.View.{maybe_type}
use Rattle.starlark_ast.specs.Views.{view-type}
use Rattle.starlark_ast.proofs.Written.{reads_as}
use Rattle.starlark_ast.proofs.lines.write_left_type.Goals as goal

pub returns-in-Some : goal.returns-in-Some
returns-in-Some g c = λ plain ok.
    let x = c.in-Some.x in
    reads_as (ap (λ a. codes " " ++ left_type_text a) (sym (view-type x.node x.span)) ∙ sym (ap (λ b. codes " " ++ left_type_text (maybe_type b)) c.in-Some.is)) (c.write_between.ensures plain ok)
