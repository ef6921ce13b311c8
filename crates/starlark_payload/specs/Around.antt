-- What stands around the parts of a node, and what it makes of them: the plain data of Tree.
use Rattle.std.specs.Prelude.{List, fold, Option, Some, None, string_bytes}
use Rattle.starlark_place.specs.Place.{Extent}
use Rattle.starlark_place.specs.declared.pos.Spanned.{Spanned}
use Rattle.starlark_ast.specs.Tree.{Expr, Member, Bound, Annotation, Clause, Clauses, Stars}
use Rattle.starlark_ast.specs.Tree as tree
use Rattle.starlark_ast.specs.View.{members}
use Rattle.starlark_payload.specs.declared.nodes.AroundOne.{AroundOne}
use Rattle.starlark_payload.specs.declared.nodes.AroundOne.TheVariants as one
use Rattle.starlark_payload.specs.declared.nodes.AroundThree.{AroundThree}
use Rattle.starlark_payload.specs.declared.nodes.AroundThree.TheVariants as three
use Rattle.starlark_payload.specs.declared.nodes.AroundMany.{AroundMany}
use Rattle.starlark_payload.specs.declared.nodes.AroundMany.TheVariants as many
use Rattle.starlark_payload.specs.declared.nodes.AroundArgument.{AroundArgument}
use Rattle.starlark_payload.specs.declared.nodes.AroundArgument.TheVariants as argument
use Rattle.starlark_payload.specs.declared.nodes.Marker.{Marker}
use Rattle.starlark_payload.specs.declared.nodes.Marker.TheVariants as marker
use Rattle.starlark_payload.specs.declared.nodes.Starred.{Starred}
use Rattle.starlark_payload.specs.declared.nodes.Starred.TheVariants as starred

-- one expression
abbrev pub one_view : AroundOne → Expr → Extent → Expr
one_view (one.Dot name) x s = tree.dot x (string_bytes name.node) name.span s
one_view one.Not x s = tree.signed tree.Not x s
one_view one.Minus x s = tree.signed tree.Minus x s
one_view one.Plus x s = tree.signed tree.Plus x s
one_view one.BitNot x s = tree.signed tree.BitNot x s

-- one behind the other in brackets
abbrev pub index_of : Expr × Expr → Extent → Expr
index_of x s = tree.index x.0 (tree.single x.1) s

-- three
abbrev pub three_view : AroundThree → Expr × Expr × Expr → Extent → Expr
three_view three.Index2 x s = tree.index x.0 (tree.double x.1 x.2) s
three_view three.If x s = tree.choice x.0 x.1 x.2 s

-- as many as there are
abbrev pub many_view : AroundMany → List Expr → Extent → Expr
many_view many.Tuple xs s = tree.tuple (members tree.item xs) s
many_view many.List xs s = tree.list (members tree.item xs) s
many_view (many.FString u format) xs s = tree.fstring (string_bytes format.node) format.span (members tree.item xs) u s

-- an argument around its value
abbrev pub argument_of : AroundArgument → Expr → Extent → Member
argument_of argument.Positional x s = tree.positional x s
argument_of (argument.Named name) x s = tree.named (string_bytes name.node) name.span x s
argument_of argument.Args x s = tree.args x s
argument_of argument.KwArgs x s = tree.kwargs x s

abbrev pub marker_of : Marker → Extent → Member
marker_of marker.Slash s = tree.slash s
marker_of marker.NoArgs s = tree.no_args s

abbrev pub stars_of : Starred → Stars
stars_of starred.Args = tree.starred
stars_of starred.KwArgs = tree.double_starred

abbrev pub bound_of : Option Expr → Bound
bound_of None = tree.absent
bound_of (Some x) = tree.present x

-- a type, if there is one
abbrev pub annotation_of : Option Annotation → Annotation
annotation_of None = tree.untyped
annotation_of (Some t) = t

-- a clause and those behind it
abbrev pub clauses_of : Clause → List Clause → Clauses
clauses_of first rest = fold tree.and_clause (tree.and_clause tree.no_clauses first) rest

abbrev pub both_view : Expr × Expr → Member
both_view x = tree.pair x.0 x.1

-- arguments or parameters
abbrev pub same_member : Member → Member
same_member m = m

-- two, each at its place
abbrev pub both_at : {X : Type 0} → (X → Extent → Expr) → Spanned X × Spanned X → Expr × Expr
both_at v x = (v x.0.node x.0.span, v x.1.node x.1.span)

-- three, each at its place
abbrev pub three_at : {X : Type 0} → (X → Extent → Expr) → Spanned X × Spanned X × Spanned X → Expr × Expr × Expr
three_at v x = (v x.0.node x.0.span, v x.1.node x.1.span, v x.2.node x.2.span)
