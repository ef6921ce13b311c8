use Rattle.std.proofs.Common.{refl, sym, ap, ◌∙◌, [], ◌∷◌, ◌++◌, flat_map, reverse, append_assoc}
use Rattle.std.proofs.lemmas.List.{reverse-append, reverse-reverse}
use Rattle.starlark_ast.specs.View.{symbols}
use Rattle.starlark_payload.specs.Payloads.{gives, load_arg_payloads}
use Rattle.starlark_payload.proofs.Answering.{answers_append, answers_at, answers_none, begins_all, begins_at, begins_more, begins_within, on_err}
use Rattle.starlark_payload.proofs.Listed.{flat_map_last, flat_map_split, symbols_last}
use Rattle.starlark_payload.proofs.payload_map.load_args.Goals as goal

pub loop-x-init : goal.loop-x-init
loop-x-init g c = (
  [],
  ap reverse c.reverse.ensures.items ∙ reverse-reverse c.args.xs.items,
  ap symbols c.new-done.ensures.items,
  answers_at (gives g.F.AstPayloadFunction.gives_load g.F.AstPayloadFunction.gives_ident g.F.AstPayloadFunction.gives_ident_assign g.F.AstPayloadFunction.gives_def g.F.AstPayloadFunction.gives_type_expr) refl (ap (flat_map load_arg_payloads) c.new-done.ensures.items) (answers_none (gives g.F.AstPayloadFunction.gives_load g.F.AstPayloadFunction.gives_ident g.F.AstPayloadFunction.gives_ident_assign g.F.AstPayloadFunction.gives_def g.F.AstPayloadFunction.gives_type_expr)),
)

pub loop-x-preserved : goal.loop-x-preserved
loop-x-preserved g c =
    let i = c.loop-x.invariant in (
      i.0 ++ (c.in-Some.x ∷ []),
      append_assoc i.0 (c.in-Some.x ∷ []) (reverse c.pop.new.self.items) ∙ sym (sym c.loop-x.invariant.1 ∙ (ap (λ q. c.loop-x.invariant.0 ++ reverse q) c.in-Some.ensures.items ∙ ap (λ q. c.loop-x.invariant.0 ++ q) (reverse-append c.pop.new.self.items (c.in-Some.x ∷ [])))),
      ap symbols c.in_ok-push.ensures.items ∙ symbols_last i.0 c.in-Some.x c.loop-x.done.items c.load_arg-x.result i.2 c.load_arg-x.ensures.local c.load_arg-x.ensures.their c.load_arg-x.ensures.comma,
      answers_at (gives g.F.AstPayloadFunction.gives_load g.F.AstPayloadFunction.gives_ident g.F.AstPayloadFunction.gives_ident_assign g.F.AstPayloadFunction.gives_def g.F.AstPayloadFunction.gives_type_expr) (flat_map_last load_arg_payloads i.0 c.in-Some.x) (ap (flat_map load_arg_payloads) c.in_ok-push.ensures.items ∙ flat_map_last load_arg_payloads c.loop-x.done.items c.load_arg-x.result)
          (answers_append (gives g.F.AstPayloadFunction.gives_load g.F.AstPayloadFunction.gives_ident g.F.AstPayloadFunction.gives_ident_assign g.F.AstPayloadFunction.gives_def g.F.AstPayloadFunction.gives_type_expr) i.3 c.load_arg-x.ensures.called),
    )

pub returns-in_err-push-clause-stopped : goal.returns-in_err-push-clause-stopped
returns-in_err-push-clause-stopped g c =
    on_err _ (begins_at (gives g.F.AstPayloadFunction.gives_load g.F.AstPayloadFunction.gives_ident g.F.AstPayloadFunction.gives_ident_assign g.F.AstPayloadFunction.gives_def g.F.AstPayloadFunction.gives_type_expr) (ap (flat_map load_arg_payloads) (sym c.loop-x.invariant.1 ∙ (ap (λ q. c.loop-x.invariant.0 ++ reverse q) c.in-Some.ensures.items ∙ ap (λ q. c.loop-x.invariant.0 ++ q) (reverse-append c.pop.new.self.items (c.in-Some.x ∷ [])))) ∙ flat_map_split load_arg_payloads c.loop-x.invariant.0 c.in-Some.x (reverse c.pop.new.self.items))
    (begins_more (gives g.F.AstPayloadFunction.gives_load g.F.AstPayloadFunction.gives_ident g.F.AstPayloadFunction.gives_ident_assign g.F.AstPayloadFunction.gives_def g.F.AstPayloadFunction.gives_type_expr) c.loop-x.invariant.3 (begins_within (gives g.F.AstPayloadFunction.gives_load g.F.AstPayloadFunction.gives_ident g.F.AstPayloadFunction.gives_ident_assign g.F.AstPayloadFunction.gives_def g.F.AstPayloadFunction.gives_type_expr) (flat_map load_arg_payloads (reverse c.pop.new.self.items)) (begins_all (gives g.F.AstPayloadFunction.gives_load g.F.AstPayloadFunction.gives_ident g.F.AstPayloadFunction.gives_ident_assign g.F.AstPayloadFunction.gives_def g.F.AstPayloadFunction.gives_type_expr) c.load_arg-x.ensures.called))))
