use Rattle.std.proofs.Common.{◌≡◌, ◌<◌, ◌-◌, length, ◌++◌, ℕ, List, take, drop, ap, ◌∙◌, arith}
use Rattle.std.specs.Str.{chars}
use Rattle.std.proofs.lemmas.List.{take-append-drop}
use Rattle.starlark_place.proofs.Counts.{characters-chars}
use Rattle.starlark_place.proofs.Characters.{offset_is}
use Rattle.starlark_place.proofs.fast_string.split_at.Goals as goal

pub returns-in_err-offset-clause-is : goal.returns-in_err-offset-clause-is
returns-in_err-offset-clause-is c =
    let e = characters-chars c.args.text.now c.utf8.text in
    let h : length (chars c.args.text.now) < c.args.i.0 = let g = c.in_err-offset.ensures in omega arith in
    rw c.from_residual.ensures h

from_start : (text : List ℕ) (n : ℕ) → take (n - 0) (drop 0 text) ≡ take n text
from_start text n = ap (λ m. take m text) (omega arith)

joined : (text x y : List ℕ) (n : ℕ) → x ≡ take n text → y ≡ drop n text → x ++ y ≡ text
joined text x y n p q = rw (p, q) (take-append-drop n text)

pub returns-clause-is : goal.returns-clause-is
returns-clause-is c =
    let cut = offset_is c.args.text.now c.args.i.0 c.in_ok-offset.offset c.utf8.text c.in_ok-offset.ensures.0 c.in_ok-offset.ensures.1 in
    let front : c.range.result.now ≡ take c.in_ok-offset.offset c.args.text.now = c.range.ensures.value ∙ from_start c.args.text.now c.in_ok-offset.offset in
    (ap chars front ∙ cut.front, ap chars c.range_from.ensures.value ∙ cut.back, joined c.args.text.now c.range.result.now c.range_from.result.now c.in_ok-offset.offset front c.range_from.ensures.value)

pub returns-clause-within : goal.returns-clause-within
returns-clause-within c = (offset_is c.args.text.now c.args.i.0 c.in_ok-offset.offset c.utf8.text c.in_ok-offset.ensures.0 c.in_ok-offset.ensures.1).within
