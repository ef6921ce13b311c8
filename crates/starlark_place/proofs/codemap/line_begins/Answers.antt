use Rattle.std.proofs.Common.{◌≡◌, ◌+◌, ◌++◌, ◌∷◌, [], not, drop, sym, ap, ◌∙◌, arith}
use Rattle.std.specs.List.{prefix_len}
use Rattle.std.proofs.lemmas.List.{append_assoc, append-nil, take_rest}
use Rattle.starlark_place.specs.Place.{is_feed}
use Rattle.starlark_place.specs.Lines.{behind_feeds}
use Rattle.starlark_place.proofs.Feeds.{feeds_on, feeds_end}
use Rattle.starlark_place.proofs.codemap.line_begins.Goals as goal

pub returns-then-at-text : goal.returns-then-at-text
returns-then-at-text c =
    let text = c.args.text.now in
    let at = c.loop-at.at in
    let run : c.line_len-at.result ≡ prefix_len (λ b. not (is_feed b)) (drop at text) = c.line_len-at.ensures.value ∙ ap (prefix_len (λ b. not (is_feed b))) (take_rest text at) in
    sym (append-nil c.loop-at.begins.items) ∙ ap (λ rest. c.loop-at.begins.items ++ rest) (sym (feeds_end text at c.line_len-at.result run c.if-at-text.true)) ∙ c.loop-at.invariant.0

pub loop-at-preserved : goal.loop-at-preserved
loop-at-preserved c =
    let text = c.args.text.now in
    let at = c.loop-at.at in
    let next = at + c.line_len-at.result + 1 in
    let run : c.line_len-at.result ≡ prefix_len (λ b. not (is_feed b)) (drop at text) = c.line_len-at.ensures.value ∙ ap (prefix_len (λ b. not (is_feed b))) (take_rest text at) in
    let on = feeds_on text at c.line_len-at.result run (omega arith) in (
      ap (λ items. items ++ behind_feeds next (drop next text)) c.in_ok-push-2.ensures.items
          ∙ append_assoc c.loop-at.begins.items (next ∷ []) (behind_feeds next (drop next text))
          ∙ ap (λ rest. c.loop-at.begins.items ++ rest) (sym on)
          ∙ c.loop-at.invariant.0,
      omega arith,
    )
