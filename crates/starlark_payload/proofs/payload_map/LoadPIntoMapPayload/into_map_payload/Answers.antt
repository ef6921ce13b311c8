use Rattle.std.proofs.Common.{refl, subst, List, ℕ, string_bytes}
use Rattle.starlark_payload.specs.Payloads.{OfLoad, gives}
use Rattle.starlark_payload.proofs.Answering.{answers_one, begins_more, on_err}
use Rattle.starlark_payload.proofs.payload_map.LoadPIntoMapPayload.into_map_payload.Goals as goal

pub returns-in_err-args-clause-stopped : goal.returns-in_err-args-clause-stopped
returns-in_err-args-clause-stopped g c =
    let path = string_bytes c.args.self.module.node in
    let gives_load = g.F.AstPayloadFunction.gives_load in
    on_err _ (begins_more (gives g.F.AstPayloadFunction.gives_load g.F.AstPayloadFunction.gives_ident g.F.AstPayloadFunction.gives_ident_assign g.F.AstPayloadFunction.gives_def g.F.AstPayloadFunction.gives_type_expr)
    (answers_one (gives g.F.AstPayloadFunction.gives_load g.F.AstPayloadFunction.gives_ident g.F.AstPayloadFunction.gives_ident_assign g.F.AstPayloadFunction.gives_def g.F.AstPayloadFunction.gives_type_expr) {x = OfLoad path c.args.self.payload} {y = OfLoad path c.map_load-payload.result}
    (refl, subst (λ (p : List ℕ). gives_load c.args.f.now p c.args.self.payload c.map_load-payload.result c.map_load-payload.new.self) c.as_str.ensures.value c.map_load-payload.ensures))
    c.in_err-args.ensures.stopped)
