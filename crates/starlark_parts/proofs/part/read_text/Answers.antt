use Rattle.std.proofs.Common.{◌≡◌, subst}
use Rattle.std.specs.Prelude.{IfOk, Result, string_bytes}
use Rattle.starlark_parser.specs.Costs.{Costs, IsWhole}
use Rattle.starlark_grammar.specs.Language.{Language}
use Rattle.starlark_parser.specs.Modules.{file_of, tree_of}
use Rattle.starlark_parser.specs.declared.fault.EvalException.{EvalException}
use Rattle.starlark_parser.specs.declared.module.AstModule.{AstModule}
use Rattle.starlark_parts.proofs.Held.{ok_part, source_of}
use Rattle.starlark_parts.proofs.Spending.{whole_spent}
use Rattle.starlark_parts.proofs.part.read_text.Goals as goal

pub returns-in-Ok-clause-ok : goal.returns-in-Ok-clause-ok
returns-in-Ok-clause-ok c =
    let m = c.in-Ok.module in
    let text = string_bytes c.in_ok-content.content in
    let language : Language c.args.dialect.now text (tree_of m) = subst (λ (r : Result AstModule EvalException). IfOk r (λ m. Language c.args.dialect.now text (tree_of m))) c.in-Ok.is c.parse_counted-module.ensures.tree in
    let source : (file_of m).source ≡ text = source_of c.parse_counted-module.result.0 m _ c.in-Ok.is c.parse_counted-module.ensures.file in
    ok_part c.args.dialect.now m text c.closed.result source language (c.good_trees.ensures.flat c.args.dialect.now text (tree_of m) language) c.closed.ensures.read c.closed.ensures.closed c.closed.ensures.items c.closed.ensures.feeds

pub returns-in-Ok-clause-cost : goal.returns-in-Ok-clause-cost
returns-in-Ok-clause-cost c =
    let whole : IsWhole (string_bytes c.in_ok-content.content) c.parse_counted-module.result.1 = subst (λ (r : Result AstModule EvalException). Costs c.args.dialect.now (string_bytes c.in_ok-content.content) r c.parse_counted-module.result.1) c.in-Ok.is c.parse_counted-module.ensures.cost in
    whole_spent c.args.dialect.now c.args.text.now (file_of c.in-Ok.module).source c.closed.result c.parse_counted-module.result.1 (subst (λ t. IsWhole t c.parse_counted-module.result.1) c.in_ok-content.ensures.ok whole) c.closed.ensures.err
