use Rattle.std.proofs.Common.{◌++◌, ◌∙◌, ap, codes, refl}
use Rattle.std.specs.Prelude.{string_bytes}
use Rattle.starlark_ast.specs.Printing.{blanks, quoted, symbols_text}
use Rattle.starlark_ast.specs.View.{symbols}
use Rattle.starlark_ast.proofs.Written.{last_writes, reads_as, then_writes}
use Rattle.starlark_ast.proofs.lines.write_load.Goals as goal

pub returns : goal.returns
returns g c = λ plain ok.
    let x = c.args.x.now in
    let before = blanks c.args.depth ++ codes "load(" in
    let all = last_writes (then_writes (then_writes (then_writes (c.in_ok-write_text.ensures plain refl) c.in_ok-write_quoted.ensures) c.in_ok-write_str.ensures.writes) c.in_ok-write_symbols.ensures) c.write_str-2.ensures.writes ok in
    reads_as
    (ap (λ q. before ++ quoted q ++ codes ", " ++ symbols_text (symbols c.deref-2.result.now) ++ codes ")\n") c.deref.ensures
    ∙ ap (λ q. before ++ quoted (string_bytes x.module.node) ++ codes ", " ++ symbols_text (symbols q) ++ codes ")\n") c.deref-2.ensures.value)
    all
