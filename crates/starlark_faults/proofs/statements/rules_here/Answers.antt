use Rattle.std.proofs.Common.{sym}
use Rattle.starlark_ast.specs.StatementViews.{stmt_view-Load}
use Rattle.starlark_faults.specs.Standings.{standing_of}
use Rattle.starlark_faults.proofs.Adding.{adds_then}
use Rattle.starlark_faults.proofs.StatementLevels.{alone, below_alone, in_list, rules_as}
use Rattle.starlark_faults.proofs.statements.rules_here.Goals as goal

pub returns-in-Statements : goal.returns-in-Statements
returns-in-Statements g c = below_alone c.args.out.now.items (in_list c.args.dialect.now (standing_of c.args.place) c.args.x.now c.in-Statements.field-0 c.in-Statements.is)

pub returns-in_ok-add_unless-in-Load-2 : goal.returns-in_ok-add_unless-in-Load-2
returns-in_ok-add_unless-in-Load-2 g c =
    alone (adds_then _ _ c.in_ok-add_unless-in-Load.ensures c.in_ok-add_unless-in-Load-2.ensures) (sym (rules_as c.args.dialect.now (standing_of c.args.place) c.args.x.now c.in-Load.is (stmt_view-Load c.in-Load.field-0 c.args.x.now.span)))
