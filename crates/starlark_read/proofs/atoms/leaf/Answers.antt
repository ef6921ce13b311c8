use Rattle.std.proofs.Common.{◌∙◌, ap, sym, refl}
use Rattle.starlark_grammar.specs.Nodes.{leaf_at}
use Rattle.starlark_read.proofs.Exits.{gives, refuses}
use Rattle.starlark_read.proofs.Gathering.{took, no_leaf, leaf_read, placed}
use Rattle.starlark_read.proofs.atoms.leaf.Goals as goal

pub returns-then-not-begins_leaf-clause-reads : goal.returns-then-not-begins_leaf-clause-reads
returns-then-not-begins_leaf-clause-reads g c d k h = refuses (no_leaf k _ (sym c.if-not-begins_leaf.ensures) h)

pub returns-in-Identifier-clause-reads : goal.returns-in-Identifier-clause-reads
returns-in-Identifier-clause-reads g c d k h = gives (leaf_read k _ _ _ (took _ _ _ _ _ _ c.in-Some.is c.in-Identifier.is c.in_ok-token.ensures) refl (c.name.ensures ∙ ap (leaf_at _) (placed _ _ _ c.since-span.ensures c.begin-begin.ensures)))

pub returns-in-Int-clause-reads : goal.returns-in-Int-clause-reads
returns-in-Int-clause-reads g c d k h = gives (leaf_read k _ _ _ (took _ _ _ _ _ _ c.in-Some.is c.in-Int.is c.in_ok-token.ensures) refl (c.int.ensures ∙ ap (leaf_at _) (placed _ _ _ c.since-span.ensures c.begin-begin.ensures)))

pub returns-in-Float-clause-reads : goal.returns-in-Float-clause-reads
returns-in-Float-clause-reads g c d k h = gives (leaf_read k _ _ _ (took _ _ _ _ _ _ c.in-Some.is c.in-Float.is c.in_ok-token.ensures) refl (c.float.ensures ∙ ap (leaf_at _) (placed _ _ _ c.since-span.ensures c.begin-begin.ensures)))

pub returns-in-String-clause-reads : goal.returns-in-String-clause-reads
returns-in-String-clause-reads g c d k h = gives (leaf_read k _ _ _ (took _ _ _ _ _ _ c.in-Some.is c.in-String.is c.in_ok-token.ensures) refl (c.string.ensures ∙ ap (leaf_at _) (placed _ _ _ c.since-span.ensures c.begin-begin.ensures)))

pub returns-in-Bytes-clause-reads : goal.returns-in-Bytes-clause-reads
returns-in-Bytes-clause-reads g c d k h = gives (leaf_read k _ _ _ (took _ _ _ _ _ _ c.in-Some.is c.in-Bytes.is c.in_ok-token.ensures) refl (c.bytes.ensures ∙ ap (leaf_at _) (placed _ _ _ c.since-span.ensures c.begin-begin.ensures)))

pub returns-in-Ellipsis-clause-reads : goal.returns-in-Ellipsis-clause-reads
returns-in-Ellipsis-clause-reads g c d k h = gives (leaf_read k _ _ _ (took _ _ _ _ _ _ c.in-Some.is c.in-Ellipsis.is c.in_ok-token.ensures) refl (c.ellipsis.ensures ∙ ap (leaf_at _) (placed _ _ _ c.since-span.ensures c.begin-begin.ensures)))
