-- What stands around the parts of a statement, and what it makes of them: the plain data of Tree.
use Rattle.std.specs.Prelude.{List, fold}
use Rattle.starlark_place.specs.Place.{Extent}
use Rattle.starlark_place.specs.declared.pos.Spanned.{Spanned}
use Rattle.starlark_ast.specs.Tree.{Sequence, Statement}
use Rattle.starlark_ast.specs.Tree as tree
use Rattle.starlark_payload.specs.declared.statement_nodes.Plain.{Plain}
use Rattle.starlark_payload.specs.declared.statement_nodes.Plain.TheVariants as plain

-- a statement of one word
abbrev pub plain_view : Plain → Extent → Statement
plain_view plain.Break s = tree.break s
plain_view plain.Continue s = tree.continue s
plain_view plain.Pass s = tree.pass s

-- statements, one behind the other
abbrev pub sequence_of : List Statement → Sequence
sequence_of xs = fold tree.add_statement tree.no_statements xs

-- two bodies, each at its place
abbrev pub both_seen : {X : Type 0} → (X → Extent → Statement) → Spanned X × Spanned X → Statement × Statement
both_seen v x = (v x.0.node x.0.span, v x.1.node x.1.span)
