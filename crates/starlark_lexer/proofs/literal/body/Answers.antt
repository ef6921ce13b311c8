use Rattle.std.proofs.Common.{◌≡◌, ◌+◌, drop, arith, ap, sym, ◌∙◌, None}
use Rattle.std.proofs.lemmas.List.{length-drop, drop-drop, take_rest}
use Rattle.std.specs.List.{prefix_len}
use Rattle.starlark_lexer.specs.Fronts.{ending_at, is_plain, passed, width}
use Rattle.starlark_lexer.specs.Literals.{body, later, piece}
use Rattle.starlark_lexer.proofs.Looks.{on_passed, item_due, end_owed}
use Rattle.starlark_lexer.proofs.Pieces.{IsCut}
use Rattle.starlark_lexer.proofs.Bodies.{piece_is, at_end, past_piece, width_of, at_text_end}
use Rattle.starlark_lexer.proofs.Values.{past_run}
use Rattle.starlark_lexer.proofs.literal.body.Goals as goal

pub overflow_add-at-in-loop-at : goal.overflow_add-at-in-loop-at
overflow_add-at-in-loop-at c =
    let f = c.args.form in
    let i = c.loop-at.at + c.plain_run-at.result in
    let rest = drop i c.args.bytes.now in
    let cut : IsCut rest (width c.next_piece-piece.result) = width_of f i rest c.next_piece-piece.result (piece_is f i c.args.bytes.now c.next_piece-piece.result c.next_piece-piece.ensures.value) (sym c.ending_at.ensures ∙ c.in_default.is) in
    omega (arith, cut.within, c.width-at.ensures, length-drop i c.args.bytes.now)

pub returns-in-Some-clause-value : goal.returns-in-Some-clause-value
returns-in-Some-clause-value c =
    let f = c.args.form in
    let i = c.loop-at.at + c.plain_run-at.result in
    let bytes = c.args.bytes.now in
    let run = c.plain_run-at.ensures.value ∙ ap (prefix_len is_plain) (take_rest bytes c.loop-at.at) in
    let front = past_run f c.loop-at.at c.plain_run-at.result bytes (body f 0 bytes) c.loop-at.invariant.rest run in
    at_end f i (drop i bytes) c.next_piece-piece.result c.in-Some.ending (body f 0 bytes) front (piece_is f i bytes c.next_piece-piece.result c.next_piece-piece.ensures.value) (sym c.ending_at.ensures ∙ c.in-Some.is)

pub loop-at-smaller : goal.loop-at-smaller
loop-at-smaller c =
    let f = c.args.form in
    let i = c.loop-at.at + c.plain_run-at.result in
    let rest = drop i c.args.bytes.now in
    let cut : IsCut rest (width c.next_piece-piece.result) = width_of f i rest c.next_piece-piece.result (piece_is f i c.args.bytes.now c.next_piece-piece.result c.next_piece-piece.ensures.value) (sym c.ending_at.ensures ∙ c.in_default.is) in
    omega (arith, cut.moves, cut.within, c.width-at.ensures, length-drop i c.args.bytes.now)

pub loop-at-preserved : goal.loop-at-preserved
loop-at-preserved c =
    let f = c.args.form in
    let p = c.next_piece-piece.result in
    let i = c.loop-at.at + c.plain_run-at.result in
    let bytes = c.args.bytes.now in
    let rest = drop i bytes in
    let run = c.plain_run-at.ensures.value ∙ ap (prefix_len is_plain) (take_rest bytes c.loop-at.at) in
    let front = past_run f c.loop-at.at c.plain_run-at.result bytes (body f 0 bytes) c.loop-at.invariant.rest run in
    let is : piece f rest ≡ p = piece_is f i bytes p c.next_piece-piece.ensures.value in
    let on : ending_at i p ≡ None = sym c.ending_at.ensures ∙ c.in_default.is in
    let cut : IsCut rest (width p) = width_of f i rest p is on in
    let n = c.width-at.ensures in
    record {
      rest = (λ j. later (i + n j) (body f 0 (drop (i + n j) bytes))) ∙ past_piece f i rest (drop (i + width p) bytes) p (body f 0 bytes) front is on (sym (drop-drop (width p) i bytes));
      within = omega (arith, cut.within, n, length-drop i bytes);
      paid = omega (arith, n, cut.moves, c.plain_run-at.ensures.paid, c.next_piece-piece.ensures.paid, item_due i p on, c.loop-at.invariant.paid);
      looked = let past : passed f.quote p ≡ width p = on_passed f.quote i p on in record { up = omega arith; least = omega (arith, n) };
    }

pub returns-clause-value : goal.returns-clause-value
returns-clause-value c =
    let f = c.args.form in
    let i = c.loop-at.at in
    let bytes = c.args.bytes.now in
    at_text_end f i (drop i bytes) (body f 0 bytes) c.loop-at.invariant.rest (omega (arith, length-drop i bytes))

pub returns-in-Some-clause-paid : goal.returns-in-Some-clause-paid
returns-in-Some-clause-paid c =
    omega (arith, c.plain_run-at.ensures.paid, c.next_piece-piece.ensures.paid, c.loop-at.invariant.paid, end_owed (c.loop-at.at + c.plain_run-at.result) c.next_piece-piece.result c.in-Some.ending (sym c.ending_at.ensures ∙ c.in-Some.is))
