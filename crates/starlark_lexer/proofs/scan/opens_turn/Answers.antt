use Rattle.std.proofs.Common.{◌-◌, length, take, drop, sym, subst}
use Rattle.std.proofs.lemmas.List.{take_rest}
use Rattle.starlark_lexer.specs.Scan.{IsEnding}
use Rattle.starlark_lexer.proofs.Cuts.{ending_small}
use Rattle.starlark_lexer.proofs.scan.opens_turn.Goals as goal

pub literal_turn-requires : goal.literal_turn-requires
literal_turn-requires c =
    let xs = c.args.bytes.now in
    subst (IsEnding c.args.from) (sym c.body.ensures.value) (ending_small c.args.form xs (take (length xs - c.args.from) (drop c.args.from xs)) c.args.from c.requires.within c.requires.short (take_rest xs c.args.from))
