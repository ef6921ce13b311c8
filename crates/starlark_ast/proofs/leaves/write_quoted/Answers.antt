use Rattle.std.proofs.Common.{rules, sym, ap, ◌∙◌, ◌++◌, ◌∷◌, [], flat_map}
use Rattle.std.proofs.lemmas.Grind.{put_two}
use Rattle.std.proofs.lemmas.Iterator.{YieldsList-from_chars}
use Rattle.std.proofs.lemmas.Iterator.Consumers.{YieldsList-end}
use Rattle.std.proofs.lemmas.List.{map-id}
use Rattle.starlark_ast.specs.Printing.{escaped}
use Rattle.starlark_ast.proofs.leaves.write_quoted.Goals as goal

pub returns : goal.returns
returns g c = λ plain ok.
    let all = YieldsList-end (YieldsList-from_chars c.args.text.now c.utf8.text cc) c.loop-c.yielded _ c.loop-c.yielded_by _ _ c.in-None.is c.next.ensures.steps in
    let same = sym (map-id c.loop-c.yielded) ∙ all.0 in
    put_two _ _ _ _ _ (34 ∷ []) _ (c.loop-c.invariant plain) (search rules) (ap (λ t. 34 ∷ (flat_map escaped t ++ 34 ∷ [])) same)
