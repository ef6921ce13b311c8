use Rattle.std.proofs.Common.{◌++◌, ◌∙◌, ap, codes, refl}
use Rattle.std.specs.Prelude.{string_bytes}
use Rattle.starlark_ast.specs.Printing.{blanks, members_text}
use Rattle.starlark_ast.specs.Shown.{type_behind}
use Rattle.starlark_ast.specs.View.{boxed_type, members, parameter_at}
use Rattle.starlark_ast.proofs.Blocks.{results_same}
use Rattle.starlark_ast.proofs.Written.{last_writes, reads_as, then_writes}
use Rattle.starlark_ast.proofs.lines.write_def_line.Goals as goal

pub returns : goal.returns
returns g c = λ plain ok.
    let x = c.args.x.now in
    let before_name = blanks c.args.depth ++ codes "def " in
    let before_type = before_name ++ string_bytes x.name.node.ident ++ codes "(" ++ members_text (members parameter_at x.params.items) ++ codes ")" in
    let all = last_writes (then_writes (then_writes (then_writes (then_writes (then_writes (c.in_ok-write_text.ensures plain refl) c.in_ok-write_str.ensures.writes) c.in_ok-write_str-2.ensures.writes) c.in_ok-write_parameters.ensures) c.in_ok-write_str-3.ensures.writes) c.in_ok-write_type_behind.ensures) c.write_str-4.ensures.writes ok in
    reads_as
    (ap (λ q. before_name ++ q ++ codes "(" ++ members_text (members parameter_at c.deref-2.result.now) ++ codes ")" ++ type_behind (codes " -> ") (boxed_type x.return_type) ++ codes ":\n") c.deref.ensures
    ∙ ap (λ q. before_name ++ string_bytes x.name.node.ident ++ codes "(" ++ members_text (members parameter_at q) ++ codes ")" ++ type_behind (codes " -> ") (boxed_type x.return_type) ++ codes ":\n") c.deref-2.ensures.value
    ∙ ap (λ q. before_type ++ q ++ codes ":\n") (results_same (boxed_type x.return_type)))
    all
