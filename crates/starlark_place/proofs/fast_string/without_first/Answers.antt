use Rattle.std.proofs.Common.{◌++◌, ◌∙◌, sym, ap}
use lib.Utf8.{encode}
use Rattle.std.proofs.lemmas.Str.{chars_past_char}
use Rattle.starlark_place.proofs.fast_string.without_first.Goals as goal

pub returns-in-Some-clause-rest : goal.returns-in-Some-clause-rest
returns-in-Some-clause-rest c =
    (c.in-Some._first, chars_past_char c.args.text.now c.as_str.result.now c.in-Some._first c.utf8.text (sym c.chars-chars.ensures.rest ∙ (c.in-Some.ensures.steps.0 ∙ ap (λ r. encode c.in-Some._first ++ r) (sym c.as_str.ensures))))
