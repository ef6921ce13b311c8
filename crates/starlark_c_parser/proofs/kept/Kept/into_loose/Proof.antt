-- `into_loose` reads the pointer, and has the box back where it is not null.
use Rattle.std.proofs.Common.{◌≡◌, List, [], ◌∷◌, ◌++◌, refl, sym, ap, ◌∙◌, subst, lit<}
use mir.Val.{Val, vptr, vcons, vnil}
use base.Logic.{SProp, ent, emp, id⊢}
use prog.Wp.{WpFn}
use types.Kit.{‵, raw, ◌⊛◌, at_ret, ◌$◌, ◌∵◌, !, qed, by, move, keep, drop, split, fsplit, fjoin, suffices, use0, use1, rewrite}
use types.Run.{stop, fld, lit, of_opd, bin, no_more, and_then, first, branches, exec, returns, enter}
use types.ByLocal.{alloc_all, pass_all, free_all, look_at, get, get_in, sets, sets_last, env}
use types.Part.{agg, sub, whole}
use types.Match.{live}
use contract.Monad.{fact, fact_i}
use contract.Running.{tables}
use denote.Exit.{yes}
use denote.RattleType.{RattleType, owns}
use denote.Signature.{types_at, type_at, plain}
use denote.Param.{layout}
use denote.RawPtr.{Ptr, block_ptr, null_ptr, tests_null}
use denote.Steps.{nothing}
use denote.Triple.Walked.{Stays, stay_dropped, walk_of, Goes-dropped}
use denote.Triple.Entry.{alive}
use Rattle.core.proofs.alloc.Shapes.{after}
use Rattle.core.proofs.atomic.Steps.{Ptr-Good}
use Rattle.std_alloc.proofs.ResultValues.{and_tt}
use Rattle.core.proofs.cell.Inside.{Good, one}
use Rattle.core.proofs.option.Made.{Some-of, none_of}
use Rattle.core.specs.declared.option.Option.TheVariants.{None, Some}
use Rattle.std.specs.contracts.alloc.Global as heap
use Rattle.std.proofs.alloc.Global.TheLaws as heap_laws
use Rattle.std.specs.contracts.impls.GlobalAllocator.TheImpl.{ghosts}
use Rattle.std.proofs.raw_atomic.Walks.{proved_at, leaves}
use Rattle.starlark_c_parser.specs.contracts.kept.Kept as kept
use Rattle.starlark_c_parser.specs.Kept.{held_row as Whole}
use Rattle.starlark_c_parser.proofs.Owners.{word, word_good, kept_out, either_kept}
use Rattle.starlark_c_parser.proofs.Values.{both, Loose, loose_good, loose_in}
use Rattle.starlark_c_parser.specs.contracts.kept.Kept.into_loose.{ended, clauses}
use Rattle.starlark_c_parser.specs.contracts.kept.Kept.into_loose.Key.{name as #self}
use Rattle.starlark_c_parser.proofs.kept.Kept.into_loose.Statement.{statement}
use Rattle.starlark_c_parser.proofs.kept.Kept.into_loose.Code as code

pub into_loose_spec : {M : Type 1} → statement M
into_loose_spec 𝓤 𝓛 𝓜 𝓡 wired =
    let H = 𝓛.H in let 𝓣 = tables 𝓤 H 𝓜 𝓡 𝓡.env in let c = clauses 𝓛 𝓜.mem 𝓡.returns in let Z : RattleType = heap.the_row in let LZ = heap_laws.the_row_laws in let Lr : RattleType = Loose Whole Z LZ ghosts in
    let hs : Stays ended.signature.params ended.kept = (stay_dropped (plain (λ _. kept.the_row)) yes, (stay_dropped (plain (λ _. Z)) yes, tt)) in
    proved_at 𝓛 ended hs c 𝓜 𝓡 (Goes-dropped 𝓛 0 (plain (λ _. kept.the_row)) yes (λ κs x f. refl), (Goes-dropped 𝓛 0 (plain (λ _. Z)) yes (λ κs x f. refl), tt)) #self code.function (code.unfolded 𝓤 H 𝓜 𝓡 wired) (λ z are.
    let d = z.0.3.0 in let a = z.0.3.1.0 in let Post : Val → SProp 𝓤 = (walk_of 𝓛 ended hs c).post z in let Run : List Val → SProp 𝓤 = λ ws. WpFn 𝓤 H 𝓣.C 𝓣.Λ code.function ws Post in let Out : RattleType = type_at ended.signature.result z.0.0 in
    let hv = one (layout Z) z.0.4.1.0 ((LZ.lawful 𝓛).typed a z.0.4.1.0 are.1.0) in let h = hv.0 in
    qed 𝓛 ((raw (alive 𝓛 ended.signature z.0.0 z.0.1) ⊛ ‵ (owns (types_at ended.signature.params z.0.0) z.0.3 z.0.4)) ∷ raw ((c z.0.0 z.0.3).requires z.1) ∷ []) ∵ split ! $ move ! (1 ∷ []) $ fsplit ! $ move ! (1 ∷ []) $ fsplit ! $ move ! (2 ∷ []) $
    kept_out ! d z.0.4.0 (λ ws. keep ! (0 ∷ 1 ∷ 3 ∷ []) $ rewrite ! 1 (λ (us : List Val). ‵ (Z.own_val a us)) hv.1 refl $
    either_kept a ! d.at d.tree
    (λ is empty. let w : Val = word null_ptr in let none : Val = live 0 vnil in
    suffices ! (Run (w ∷ h ∷ [])) (subst (λ (us : List Val). ent 𝓤 (Run (w ∷ h ∷ [])) (Run us)) (sym (λ i. (ws ∙ ap (λ (p : Ptr). word p ∷ []) is) i ++ (hv.1 i ++ []))) (id⊢ 𝓤 (Run (w ∷ h ∷ [])))) $
    drop ! $ enter ! 𝓣.C 𝓣.Λ code.function (w ∷ h ∷ []) Post $ alloc_all ! (λ l. pass_all ! refl (word_good null_ptr, (hv.2, tt)) $ let Ev = env code.function.locals l in
    sets ! (of_opd ! (get_in ! (fld ! refl (stop !)) (sub ! 0 refl (whole !)))) refl (Ptr-Good null_ptr) $ sets ! (bin ! (get ! refl) (lit ! tt) tt) refl (tt, tt) $ first ! $ branches ! (get ! refl)
    (λ _. sets_last ! (agg ! (and_then ! (lit ! tt) (no_more !))) refl (tt, (record { fits = lit< tt }, tt)) $ exec ! 𝓣.C 𝓣.Λ Ev (after 3 code.function.body) (at_ret Ev Post) $
    sets ! (of_opd ! (get ! refl)) refl (tt, (record { fits = lit< tt }, tt)) $ use0 𝓛 (raw (fact 𝓤 (d.tree ≡ None))) (fact_i 𝓤 (d.tree ≡ None) (emp 𝓤) empty) $
    use0 𝓛 (‵ (Out.own_val None (none ∷ []))) (none_of 𝓛 Lr) $ nothing ! $ nothing ! $ fjoin ! $ nothing ! $ fjoin ! $
    returns ! (look_at ! 0 refl) $ free_all ! refl $ keep ! (3 ∷ 0 ∷ 1 ∷ 2 ∷ []) $ by ! (leaves 𝓛 ended hs c z none None (tt, (tt, tt)) (tt, (tt, tt))))
    (λ wrong. absurd wrong)))
    (λ b o m is full s. let w : Val = word (block_ptr b o) in let made : Val = both (vptr b o) h in let typed = loose_good Whole Z LZ ghosts b o h hv.2 in let some : Val = live 1 (vcons made vnil) in
    let r : Lr.Denot = record { at = block_ptr b o; alloc = a; value = record { value = m } } in let good : Good (layout Out) some = (and_tt _ typed.0, (record { fits = lit< tt }, (typed.1, tt))) in
    suffices ! (Run (w ∷ h ∷ [])) (subst (λ (us : List Val). ent 𝓤 (Run (w ∷ h ∷ [])) (Run us)) (sym (λ i. (ws ∙ ap (λ (p : Ptr). word p ∷ []) is) i ++ (hv.1 i ++ []))) (id⊢ 𝓤 (Run (w ∷ h ∷ [])))) $
    enter ! 𝓣.C 𝓣.Λ code.function (w ∷ h ∷ []) Post $ alloc_all ! (λ l. pass_all ! refl (word_good (block_ptr b o), (hv.2, tt)) $ let Ev = env code.function.locals l in
    sets ! (of_opd ! (get_in ! (fld ! refl (stop !)) (sub ! 0 refl (whole !)))) refl (tt, tt) $ sets ! (bin ! (get ! refl) (lit ! tt) (tests_null (block_ptr b o) s)) refl (tt, tt) $ first ! $ branches ! (get ! refl)
    (λ wrong. absurd wrong)
    (λ _. sets ! (of_opd ! (get ! refl)) refl (tt, tt) $ sets ! (agg ! (and_then ! (get ! refl) (and_then ! (get ! refl) (no_more !)))) refl typed $
    sets_last ! (agg ! (and_then ! (lit ! tt) (and_then ! (get ! refl) (no_more !)))) refl good $ exec ! 𝓣.C 𝓣.Λ Ev (after 3 code.function.body) (at_ret Ev Post) $ sets ! (of_opd ! (get ! refl)) refl good $
    loose_in Whole Z LZ ghosts ! b o h a (record { value = m }) $ use1 𝓛 (‵ (Out.own_val (Some r) (some ∷ []))) (Some-of 𝓛 Lr r made) $
    use0 𝓛 (raw (fact 𝓤 (d.tree ≡ Some m))) (fact_i 𝓤 (d.tree ≡ Some m) (emp 𝓤) full) $ nothing ! $ nothing ! $ fjoin ! $ nothing ! $ fjoin ! $
    returns ! (look_at ! 0 refl) $ free_all ! refl $ keep ! (3 ∷ 0 ∷ 2 ∷ 1 ∷ []) $ by ! (leaves 𝓛 ended hs c z some (Some r) (tt, (tt, tt)) (tt, (tt, tt))))))))
