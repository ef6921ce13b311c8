use Rattle.std.proofs.Common.{length, drop, sym, ◌∙◌, ap, subst, IsUtf8}
use Rattle.std.proofs.lemmas.Bool.{eqb-true}
use Rattle.std.specs.Option.{is_some}
use Rattle.std.specs.Str.{IsCharBoundary}
use Rattle.std.specs.String.{string_bytes}
use Rattle.starlark_lexer.specs.Literals.{piece, value}
use Rattle.starlark_lexer.proofs.Values.{turn_ends, turn_goes, turn_boundary, turn_less, is_text, goes, at_end_of}
use Rattle.starlark_lexer.proofs.literal.text_value.Goals as goal

pub returns-then-is_some : goal.returns-then-is_some
returns-then-is_some c = turn_ends c.args.form (string_bytes c.loop-rest.value) (string_bytes c.push_str.new.self) c.plain.result.0.now c.loop-rest.rest.now c.plain.result.1.now (value c.args.form c.args.text.now) c.next_piece-piece.result c.loop-rest.invariant.1 c.plain.ensures.front c.plain.ensures.rest c.in_ok-push_str.ensures.bytes (ap (piece c.args.form) (sym c.as_bytes.ensures.value) ∙ sym c.next_piece-piece.ensures.value) (ap is_some (sym c.ending_at.ensures) ∙ sym c.is_some.ensures ∙ c.if-is_some.true)

pub put_text-requires : goal.put_text-requires
put_text-requires c = is_text c.args.form c.next_piece-piece.result c.plain.result.1.now c.requires (ap (piece c.args.form) (sym c.as_bytes.ensures.value) ∙ sym c.next_piece-piece.ensures.value) (turn_boundary c.args.form (string_bytes c.loop-rest.value) (string_bytes c.push_str.new.self) c.plain.result.0.now c.loop-rest.rest.now c.plain.result.1.now (value c.args.form c.args.text.now) c.next_piece-piece.result c.loop-rest.invariant.1 c.plain.ensures.front c.plain.ensures.rest c.in_ok-push_str.ensures.bytes (ap (piece c.args.form) (sym c.as_bytes.ensures.value) ∙ sym c.next_piece-piece.ensures.value) (goes c.next_piece-piece.result (sym (ap is_some (sym c.ending_at.ensures) ∙ sym c.is_some.ensures ∙ c.if-is_some.false))) (subst IsUtf8 c.as_bytes.ensures.value c.as_bytes.ensures.utf8))

pub range_from-rest-requires : goal.range_from-rest-requires
range_from-rest-requires c = λ _. subst (IsCharBoundary c.plain.result.1.now) (sym c.width.ensures) (turn_boundary c.args.form (string_bytes c.loop-rest.value) (string_bytes c.push_str.new.self) c.plain.result.0.now c.loop-rest.rest.now c.plain.result.1.now (value c.args.form c.args.text.now) c.next_piece-piece.result c.loop-rest.invariant.1 c.plain.ensures.front c.plain.ensures.rest c.in_ok-push_str.ensures.bytes (ap (piece c.args.form) (sym c.as_bytes.ensures.value) ∙ sym c.next_piece-piece.ensures.value) (goes c.next_piece-piece.result (sym (ap is_some (sym c.ending_at.ensures) ∙ sym c.is_some.ensures ∙ c.if-is_some.false))) (subst IsUtf8 c.as_bytes.ensures.value c.as_bytes.ensures.utf8))

pub loop-rest-smaller : goal.loop-rest-smaller
loop-rest-smaller c = turn_less c.args.form (string_bytes c.loop-rest.value) (string_bytes c.push_str.new.self) c.plain.result.0.now c.loop-rest.rest.now c.plain.result.1.now (value c.args.form c.args.text.now) c.next_piece-piece.result c.loop-rest.invariant.1 c.plain.ensures.front c.plain.ensures.rest c.in_ok-push_str.ensures.bytes (ap (piece c.args.form) (sym c.as_bytes.ensures.value) ∙ sym c.next_piece-piece.ensures.value) (goes c.next_piece-piece.result (sym (ap is_some (sym c.ending_at.ensures) ∙ sym c.is_some.ensures ∙ c.if-is_some.false))) c.range_from-rest.result.now (c.range_from-rest.ensures.value ∙ ap (λ k. drop k c.plain.result.1.now) c.width.ensures)

pub loop-rest-preserved : goal.loop-rest-preserved
loop-rest-preserved c = (c.range_from-rest.utf8, turn_goes c.args.form (string_bytes c.loop-rest.value) (string_bytes c.push_str.new.self) c.plain.result.0.now c.loop-rest.rest.now c.plain.result.1.now (value c.args.form c.args.text.now) c.next_piece-piece.result c.loop-rest.invariant.1 c.plain.ensures.front c.plain.ensures.rest c.in_ok-push_str.ensures.bytes (ap (piece c.args.form) (sym c.as_bytes.ensures.value) ∙ sym c.next_piece-piece.ensures.value) (goes c.next_piece-piece.result (sym (ap is_some (sym c.ending_at.ensures) ∙ sym c.is_some.ensures ∙ c.if-is_some.false))) (string_bytes c.put_text.new.value) c.range_from-rest.result.now c.in_ok-put_text.ensures (c.range_from-rest.ensures.value ∙ ap (λ k. drop k c.plain.result.1.now) c.width.ensures))

pub returns : goal.returns
returns c = at_end_of c.args.form (string_bytes c.loop-rest.value) c.loop-rest.rest.now (value c.args.form c.args.text.now) c.loop-rest.invariant.1 (eqb-true (length c.loop-rest.rest.now) 0 (sym c.is_empty.ensures ∙ c.loop-rest-test.false))
