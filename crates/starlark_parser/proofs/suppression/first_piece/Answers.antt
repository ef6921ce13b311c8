use Rattle.std.proofs.Common.{rules, arith, refl}
use Rattle.std.proofs.lemmas.Str.{IsCharBoundary-after_ascii}
use Rattle.starlark_parser.proofs.Pieces.{names_cut, names_whole, parts_ascii}
use Rattle.starlark_parser.proofs.suppression.first_piece.Goals as goal

pub returns-then-end-list-clause-pieces : goal.returns-then-end-list-clause-pieces
returns-then-end-list-clause-pieces c = names_whole c.args.list.now _ (λ j w. c.first_cut-end.ensures.before j (omega arith)) refl

pub range_from-requires : goal.range_from-requires
range_from-requires c = λ _. IsCharBoundary-after_ascii c.args.list.now c.first_cut-end.result c.utf8.list (omega arith) (parts_ascii _ (c.first_cut-end.ensures.there (omega arith)))

pub returns-clause-pieces : goal.returns-clause-pieces
returns-clause-pieces c = names_cut c.args.list.now c.range.result.now c.range_from.result.now c.first_cut-end.result (omega arith) c.first_cut-end.ensures.before (c.first_cut-end.ensures.there (omega arith)) (search rules) (search rules)
