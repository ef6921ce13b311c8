use Rattle.std.proofs.Common.{length, drop, arith, sym, ◌∙◌, ap}
use Rattle.std.proofs.lemmas.Bool.{eqb-true}
use Rattle.std.specs.Option.{is_some}
use Rattle.starlark_lexer.specs.Fronts.{width}
use Rattle.starlark_lexer.specs.Literals.{value}
use Rattle.starlark_lexer.proofs.Pieces.{IsCut}
use Rattle.starlark_lexer.proofs.Values.{turn_ends, turn_goes, turn_cut, turn_less, is_bytes_of, goes, at_end_of, front_is, back_is}
use Rattle.starlark_lexer.proofs.literal.bytes_value.Goals as goal

pub returns-then-is_some : goal.returns-then-is_some
returns-then-is_some c = turn_ends c.args.form (c.loop-rest.value.items) (c.extend_from_slice.new.self.items) c.split_at.result.0.now c.loop-rest.rest.now c.split_at.result.1.now (value c.args.form c.args.text.now) c.next_piece-piece.result c.loop-rest.invariant (front_is c.loop-rest.rest.now c.split_at.result.0.now c.plain_len.result c.split_at.ensures.front c.plain_len.ensures.value) (back_is c.loop-rest.rest.now c.split_at.result.1.now c.plain_len.result c.split_at.ensures.back c.plain_len.ensures.value) c.in_ok-extend_from_slice.ensures.items (sym c.next_piece-piece.ensures.value) (ap is_some (sym c.ending_at.ensures) ∙ sym c.is_some.ensures ∙ c.if-is_some.true)

pub put_bytes-requires : goal.put_bytes-requires
put_bytes-requires c = is_bytes_of c.args.form c.next_piece-piece.result c.split_at.result.1.now c.requires (sym c.next_piece-piece.ensures.value)

pub split_at-requires-in-loop-rest : goal.split_at-requires-in-loop-rest
split_at-requires-in-loop-rest c = let cut : IsCut c.split_at.result.1.now (width c.next_piece-piece.result) = turn_cut c.args.form (c.loop-rest.value.items) (c.extend_from_slice.new.self.items) c.split_at.result.0.now c.loop-rest.rest.now c.split_at.result.1.now (value c.args.form c.args.text.now) c.next_piece-piece.result c.loop-rest.invariant (front_is c.loop-rest.rest.now c.split_at.result.0.now c.plain_len.result c.split_at.ensures.front c.plain_len.ensures.value) (back_is c.loop-rest.rest.now c.split_at.result.1.now c.plain_len.result c.split_at.ensures.back c.plain_len.ensures.value) c.in_ok-extend_from_slice.ensures.items (sym c.next_piece-piece.ensures.value) (goes c.next_piece-piece.result (sym (ap is_some (sym c.ending_at.ensures) ∙ sym c.is_some.ensures ∙ c.if-is_some.false))) in omega (arith, cut.within, c.width.ensures)

pub loop-rest-smaller : goal.loop-rest-smaller
loop-rest-smaller c = turn_less c.args.form (c.loop-rest.value.items) (c.extend_from_slice.new.self.items) c.split_at.result.0.now c.loop-rest.rest.now c.split_at.result.1.now (value c.args.form c.args.text.now) c.next_piece-piece.result c.loop-rest.invariant (front_is c.loop-rest.rest.now c.split_at.result.0.now c.plain_len.result c.split_at.ensures.front c.plain_len.ensures.value) (back_is c.loop-rest.rest.now c.split_at.result.1.now c.plain_len.result c.split_at.ensures.back c.plain_len.ensures.value) c.in_ok-extend_from_slice.ensures.items (sym c.next_piece-piece.ensures.value) (goes c.next_piece-piece.result (sym (ap is_some (sym c.ending_at.ensures) ∙ sym c.is_some.ensures ∙ c.if-is_some.false))) c.split_at-in-loop-rest.result.1.now (c.split_at-in-loop-rest.ensures.back ∙ ap (λ k. drop k c.split_at.result.1.now) c.width.ensures)

pub loop-rest-preserved : goal.loop-rest-preserved
loop-rest-preserved c = turn_goes c.args.form (c.loop-rest.value.items) (c.extend_from_slice.new.self.items) c.split_at.result.0.now c.loop-rest.rest.now c.split_at.result.1.now (value c.args.form c.args.text.now) c.next_piece-piece.result c.loop-rest.invariant (front_is c.loop-rest.rest.now c.split_at.result.0.now c.plain_len.result c.split_at.ensures.front c.plain_len.ensures.value) (back_is c.loop-rest.rest.now c.split_at.result.1.now c.plain_len.result c.split_at.ensures.back c.plain_len.ensures.value) c.in_ok-extend_from_slice.ensures.items (sym c.next_piece-piece.ensures.value) (goes c.next_piece-piece.result (sym (ap is_some (sym c.ending_at.ensures) ∙ sym c.is_some.ensures ∙ c.if-is_some.false))) c.put_bytes.new.value.items c.split_at-in-loop-rest.result.1.now c.in_ok-put_bytes.ensures (c.split_at-in-loop-rest.ensures.back ∙ ap (λ k. drop k c.split_at.result.1.now) c.width.ensures)

pub returns : goal.returns
returns c = at_end_of c.args.form (c.loop-rest.value.items) c.loop-rest.rest.now (value c.args.form c.args.text.now) c.loop-rest.invariant (eqb-true (length c.loop-rest.rest.now) 0 (sym c.is_empty.ensures ∙ c.loop-rest-test.false))
