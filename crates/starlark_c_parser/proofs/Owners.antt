-- The machine value of a `Kept`, and what it owns. Assumes `Logic`.
use Rattle.std.proofs.Common.{◌≡◌, ℕ, List, [], ◌∷◌, ◌++◌, refl, subst, lit<}
use seplogic.Ra.Ura.{Ura}
use base.Fraction.{full_share}
use mir.Raw.{raw as bare}
use mir.Val.{Val, vstruct, vcons, vnil, of_list}
use base.Logic.{ent, guard, via, never, fst∗, snd∗, guard_i}
use types.Logic.{Logic, sem}
use types.Kit.{Item, Goal, Seq, Step, step, ‵, given, ◌$◌, drop, fsplit, fjoin, fpick, fpack, feq_i, feq_l, use1, learn}
use contract.Monad.{fact_use}
use denote.RattleType.{RattleType, Valss}
use denote.Memory.{lone}
use denote.Builtin.{RawPtr}
use denote.RawPtr.{Ptr, block_ptr, null_ptr, ptr_val, in_a_block, lies_at, Testable}
use denote.Steps.{nothing}
use denote.Param.{layout}
use denote.Struct.Struct.{within}
use denote.Struct.Owning.{shape}
use Rattle.core.proofs.cell.Inside.{Good}
use Rattle.std.specs.declared.alloc.Global.{Global}
use Rattle.std.proofs.GlobalToken.{dealloc_token-Testable}
use Rattle.std.specs.declared.option.Option.{Option}
use Rattle.std.specs.declared.option.Option.TheVariants.{None, Some}
use Rattle.std_alloc.specs.Box.Ownership.{box_owns}
use Rattle.starlark_parser.specs.declared.module.AstModule.{AstModule}
use Rattle.starlark_c_parser.specs.contracts.kept.Kept as kept
use Rattle.starlark_c_parser.specs.Kept.{kept_owns, heap_token, held_row as Whole}

-- the word of a pointer in a struct of its own
abbrev pub word : Ptr → Val
word p = vstruct (vcons (ptr_val p) vnil)

pub word_good : (p : Ptr) → Good (layout kept.the_row) (word p)
word_good (block_ptr b o) = (tt, (tt, tt))
word_good null_ptr = (tt, (record { fits = lit< tt }, tt))

module _ {M : Type 1} {𝓤 : Ura M} {𝓛 : Logic 𝓤} {K : Type 0} {Γ : List (Item 𝓤)} {G : Goal 𝓤 𝓛.H} where
  pub kept_out : K → (d : kept.the_row.Denot) (vs : List Val)
      → (vs ≡ word d.at ∷ [] → Seq K 𝓛 (‵ (kept_owns d.at d.tree) ∷ Γ) G) → Seq K 𝓛 (‵ (kept.the_row.own_val d vs) ∷ Γ) G
  kept_out t d vs k = fsplit t $ fpick t (λ vss. fsplit t $ feq_l t (λ ev. fsplit t $ feq_l t (λ ep. drop t $
      k (subst (λ (ps : List Val). vs ≡ vstruct (of_list (ps ++ [])) ∷ []) ep ev))))

  pub kept_in : K → (p : Ptr) (x : Option AstModule)
      → Step K 𝓛 (‵ (kept.the_row.own_val (record { at = p; tree = x }) (word p ∷ [])) ∷ Γ) G (‵ (kept_owns p x) ∷ Γ) G
  kept_in t p x = step (λ s. nothing t $ feq_i t (List Val) (ptr_val p ∷ []) (ptr_val p ∷ []) refl $ fjoin t $
      feq_i t (List Val) (word p ∷ []) (word p ∷ []) refl $ fjoin t $
      fpack t (Valss (RawPtr ∷ [])) (within (shape kept.the_type) (p, tt) (word p ∷ [])) (ptr_val p ∷ [], tt) $ fjoin t $ s)

module _ (R : RattleType) {M : Type 1} {𝓤 : Ura M} (𝓛 : Logic 𝓤) (a : Global) where
  tested : (p : Ptr) (x : R.Denot) → ent 𝓤 (sem 𝓛 (box_owns heap_token R p x)) (guard 𝓤 (Testable p) (sem 𝓛 (box_owns heap_token R p x)))
  tested p x = fact_use 𝓤 (Testable p) (via 𝓤 _ (snd∗ 𝓤 (sem 𝓛 (lies_at R full_share p x)) (sem 𝓛 (heap_token (bare (lone R.mir)) p))) (dealloc_token-Testable 𝓛 a (bare (lone R.mir)) p))
      (guard_i 𝓤 (Testable p) (sem 𝓛 (box_owns heap_token R p x)))

module _ (a : Global) {M : Type 1} {𝓤 : Ura M} {𝓛 : Logic 𝓤} {K : Type 0} {Γ : List (Item 𝓤)} {G : Goal 𝓤 𝓛.H} where
  -- there is none, and the pointer is null, or there is one in the block that the pointer begins
  pub either_kept : K → (p : Ptr) (x : Option AstModule) → (p ≡ null_ptr → x ≡ None → Seq K 𝓛 Γ G)
      → ((b o : ℕ) (m : AstModule) → p ≡ block_ptr b o → x ≡ Some m → Testable (block_ptr b o) → Seq K 𝓛 (‵ (box_owns heap_token Whole (block_ptr b o) (record { value = m })) ∷ Γ) G)
      → Seq K 𝓛 (‵ (kept_owns p x) ∷ Γ) G
  either_kept t p None none one = fpick t (λ e. drop t $ none e refl)
  either_kept t p (Some m) none one = in_a_block t p (λ q. box_owns heap_token Whole q (record { value = m })) (fst∗ 𝓤 (never 𝓤) (sem 𝓛 (heap_token (bare (lone Whole.mir)) null_ptr))) (λ b o e.
      use1 𝓛 (given (Testable (block_ptr b o)) (‵ (box_owns heap_token Whole (block_ptr b o) (record { value = m })))) (tested Whole 𝓛 a (block_ptr b o) (record { value = m })) $ learn t (λ s. one b o m e refl s))
