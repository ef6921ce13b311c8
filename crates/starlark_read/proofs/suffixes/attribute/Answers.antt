use Rattle.std.proofs.Common.{◌∙◌, refl, ap, sym, string_bytes}
use Rattle.starlark_ast.specs.Tree as tree
use Rattle.starlark_grammar.specs.Nodes.{from}
use Rattle.starlark_grammar.specs.Spans.{stretch}
use Rattle.starlark_read.proofs.Exits.{goes, seen_as, state_is, gives, refuses}
use Rattle.starlark_grammar.specs.Frames.{has}
use Rattle.starlark_read.proofs.Suffixing.{in_order, no_attribute, none_of, some_of}
use Rattle.starlark_read.proofs.suffixes.attribute.Goals as goal

pub returns-in_default-clause-reads : goal.returns-in_default-clause-reads
returns-in_default-clause-reads g c d k = refuses (no_attribute _ k _ _ (none_of _ _ _ c.in_default.is c.in_ok-name.ensures))

pub returns-clause-reads : goal.returns-clause-reads
returns-clause-reads g c d k =
    let q = g.B.Make.means c.args.object in
    let n = string_bytes c.in-Some.name.node in
    let p = some_of _ _ _ _ c.in-Some.is c.in_ok-name.ensures in
    gives (seen_as (state_is (goes p refl refl) (ap (λ e. has (tree.dot q n (stretch c.in-Some.name.span.begin c.in-Some.name.span.end) (from q c.in-Some.name.span.end)) e k) (sym p.last))) (c.in_ok-dot.ensures ∙ ap (tree.dot q n c.in-Some.name.span) (c.both-span.ensures.is ∙ ap (λ z. stretch z.begin c.in-Some.name.span.end) c.place.ensures) ∙ ap (λ s. tree.dot q n s (from q c.in-Some.name.span.end)) (sym (in_order c.in-Some.name.span c.both-span.ensures.order))))
