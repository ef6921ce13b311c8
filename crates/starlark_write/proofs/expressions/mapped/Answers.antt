use Rattle.std.proofs.Common.{sym, append_assoc, [], ◌∷◌, flat_map}
use Rattle.starlark_ast.specs.Places.{clause_places, for_clause_places}
use Rattle.starlark_visit.proofs.GoesOn.{out_err}
use Rattle.starlark_write.proofs.Writes.{writes_at, writes_stop, writes_then}
use Rattle.starlark_write.proofs.expressions.mapped.Goals as goal

pub returns-in_err-clauses-clause-calls : goal.returns-in_err-clauses-clause-calls
returns-in_err-clauses-clause-calls g c =
    writes_at g.F.FnMut (sym (append_assoc (for_clause_places c.args.first.now.value) (flat_map clause_places c.args.rest.now.items) (c.args.x.now.value.0 ∷ c.args.x.now.value.1 ∷ []))) (sym (append_assoc (for_clause_places c.clauses.new.first.value) (flat_map clause_places c.clauses.new.rest.items) (c.args.x.now.value.0 ∷ c.args.x.now.value.1 ∷ []))) (writes_stop g.F.FnMut (c.args.x.now.value.0 ∷ c.args.x.now.value.1 ∷ []) c.clauses.ensures.calls c.in_err-clauses.was (out_err c.from_residual.result c.from_residual.ensures.1))

pub returns-clause-calls : goal.returns-clause-calls
returns-clause-calls g c =
    writes_at g.F.FnMut (sym (append_assoc (for_clause_places c.args.first.now.value) (flat_map clause_places c.args.rest.now.items) (c.args.x.now.value.0 ∷ c.args.x.now.value.1 ∷ []))) (sym (append_assoc (for_clause_places c.clauses.new.first.value) (flat_map clause_places c.clauses.new.rest.items) (c.pair.new.x.value.0 ∷ c.pair.new.x.value.1 ∷ []))) (writes_then g.F.FnMut c.clauses.ensures.calls c.in_ok-clauses.was c.pair.ensures.calls)
