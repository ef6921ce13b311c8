use Rattle.std.proofs.Common.{◌∙◌, None, refl, ap, sym, rules}
use Rattle.starlark_rulebook.specs.View.{maybe_finding}
use Rattle.starlark_grammar.specs.Events.{typed}
use Rattle.starlark_grammar.specs.Frames.{spot}
use Rattle.starlark_read.specs.Reads.{type_read}
use Rattle.starlark_read.proofs.Exits.{begins, answers, broken, halts, seen_as, gives, exits}
use Rattle.starlark_read.proofs.Typing.{is_type, types_off, types_on}
use Rattle.starlark_read.proofs.types.type_expression.Goals as goal

pub returns-in_err-found-clause-reads : goal.returns-in_err-found-clause-reads
returns-in_err-found-clause-reads g c k w = exits (search rules) begins (c.in_err-found.ensures.reads c.args.dialect (spot k))

pub returns-then-not-has_types-clause-reads : goal.returns-then-not-has_types-clause-reads
returns-then-not-has_types-clause-reads g c k w =
    let q = g.B.Make.means c.in_ok-found.found in
    let d = c.args.dialect in
    halts c.stop.ensures.broken c.stop.ensures.kept (answers ((c.in_ok-found.ensures.reads d (spot k)).comes _ refl) (broken _ (typed q) _ (w q) (types_off d q _ (sym c.has_types.ensures ∙ c.if-not-has_types.true) c.place-span.ensures)))

pub returns-in-Some-clause-reads : goal.returns-in-Some-clause-reads
returns-in-Some-clause-reads g c k w =
    let q = g.B.Make.means c.in_ok-found.found in
    let d = c.args.dialect in
    halts c.stop-in-Some.ensures.broken c.stop-in-Some.ensures.kept (answers ((c.in_ok-found.ensures.reads d (spot k)).comes _ refl) (broken _ (typed q) _ (w q) (types_on d q _ (sym c.has_types.ensures ∙ c.if-not-has_types.false) (sym (ap maybe_finding c.in-Some.is) ∙ c.in_ok-fault.ensures))))

pub type_of-requires : goal.type_of-requires
type_of-requires g c = sym c.in_ok-fault.ensures ∙ ap maybe_finding c.in_default.is

pub returns-clause-reads : goal.returns-clause-reads
returns-clause-reads g c k w = gives (seen_as ((c.in_ok-found.ensures.reads c.args.dialect (spot k)).comes _ refl) (ap type_read c.in_ok-type_of.ensures))

pub returns-clause-right : goal.returns-clause-right
returns-clause-right g c =
    let q = g.B.Make.means c.in_ok-found.found in
    let d = c.args.dialect in
    let none = types_on d q None (sym c.has_types.ensures ∙ c.if-not-has_types.false) (sym (ap maybe_finding c.in_default.is) ∙ c.in_ok-fault.ensures) in
    is_type d q _ c.in_ok-type_of.ensures none
