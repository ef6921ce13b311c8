use Rattle.std.proofs.Common.{length, ◌<◌}
use Rattle.starlark_ast.specs.View.{members}
use Rattle.starlark_grammar.specs.Frames.{Head, def_opens, wants_param}
use Rattle.starlark_read.specs.Reads.{Goes}
use Rattle.starlark_read.proofs.signature.def_parameters.Given as goal

abbrev pub invariant-loop-found : goal.invariant-loop-found
invariant-loop-found g l = record {
  reads : (h : Head) → Goes l.fn.dialect (def_opens h) l.fn.tokens (wants_param h (members g.B.Make.parameter_means l.found.items)) l.tokens;
  shorter : length l.tokens.items < length l.fn.tokens.items;
}

abbrev pub decreases-loop-found : goal.decreases-loop-found
decreases-loop-found g l = length l.tokens.items
