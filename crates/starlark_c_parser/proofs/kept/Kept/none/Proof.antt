-- `none` makes an owner of none at null.
use Rattle.std.proofs.Common.{◌≡◌, [], ◌∷◌, refl}
use mir.Val.{Val}
use base.Logic.{SProp, emp}
use base.Fml.{ftrue}
use types.Kit.{‵, raw, ◌⊛◌, ◌$◌, ◌∵◌, !, qed, by, keep, split, fpack, use0}
use types.Run.{lit, no_more, and_then, returns, enter}
use types.ByLocal.{alloc_all, pass_all, free_all, look_at, sets}
use types.Part.{agg}
use contract.Monad.{fact, fact_i}
use contract.Running.{tables}
use denote.RawPtr.{null_ptr}
use denote.Steps.{nothing}
use denote.Triple.Walked.{walk_of}
use denote.Triple.Entry.{alive}
use Rattle.core.specs.declared.option.Option.TheVariants.{None}
use Rattle.std.proofs.raw_atomic.Walks.{proved_at, leaves}
use Rattle.starlark_c_parser.specs.contracts.kept.Kept as kept
use Rattle.starlark_c_parser.proofs.Owners.{word, word_good, kept_in}
use Rattle.starlark_c_parser.specs.contracts.kept.Kept.none.{ended, clauses}
use Rattle.starlark_c_parser.specs.contracts.kept.Kept.none.Key.{name as #self}
use Rattle.starlark_c_parser.proofs.kept.Kept.none.Statement.{statement}
use Rattle.starlark_c_parser.proofs.kept.Kept.none.Code as code

pub none_spec : {M : Type 1} → statement M
none_spec 𝓤 𝓛 𝓜 𝓡 wired =
    let H = 𝓛.H in let 𝓣 = tables 𝓤 H 𝓜 𝓡 𝓡.env in let c = clauses 𝓛 𝓜.mem 𝓡.returns in let r : kept.the_row.Denot = record { at = null_ptr; tree = None } in
    proved_at 𝓛 ended tt c 𝓜 𝓡 tt #self code.function (code.unfolded 𝓤 H 𝓜 𝓡 wired) (λ z are.
    let Post : Val → SProp 𝓤 = (walk_of 𝓛 ended tt c).post z in
    qed 𝓛 ((raw (alive 𝓛 ended.signature z.0.0 z.0.1) ⊛ ‵ ftrue) ∷ raw ((c z.0.0 z.0.3).requires z.1) ∷ []) ∵ split ! $ keep ! (0 ∷ []) $
    enter ! 𝓣.C 𝓣.Λ code.function [] Post $ alloc_all ! (λ l. pass_all ! refl tt $
    sets ! (agg ! (and_then ! (lit ! tt) (no_more !))) refl (word_good null_ptr) $
    use0 𝓛 (raw (fact 𝓤 (r.tree ≡ r.tree))) (fact_i 𝓤 (r.tree ≡ r.tree) (emp 𝓤) refl) $
    nothing ! $ fpack ! (r.at ≡ null_ptr) (λ _. ftrue) refl $ kept_in ! null_ptr None $ nothing ! $
    returns ! (look_at ! 0 refl) $ free_all ! refl $ keep ! (3 ∷ 0 ∷ 1 ∷ 2 ∷ []) $ by ! (leaves 𝓛 ended tt c z (word null_ptr) r tt tt)))
