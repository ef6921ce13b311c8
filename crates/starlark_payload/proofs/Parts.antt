-- Maps of nodes, one of their parts behind another.
use Rattle.std.proofs.Common.{◌≡◌, refl, sym, ap, ◌∙◌, List, [], ◌∷◌, ◌++◌, Result, Ok, Err, IfOk}
use Rattle.std.specs.Result.{IsErrAnd}
use Rattle.starlark_place.specs.Place.{Extent}
use Rattle.starlark_ast.specs.Tree.{Annotation, Bound, Expr, Member, Name, Stars}
use Rattle.starlark_ast.specs.Tree as tree
use Rattle.starlark_payload.specs.Payloads.{Begins}
use Rattle.std.specs.declared.alloc.Global.{Global}
use Rattle.std.specs.declared.boxed.Box.{Box}
use Rattle.starlark_payload.specs.Mapped.{Mapped, Maps, held}
use Rattle.starlark_payload.proofs.Answering.{answers_append, answers_at, answers_none, answers_one, begins_all, begins_at, begins_more, begins_within}

beside : (V W : Type 0) (a b : V) (c d : W) → b ≡ a → d ≡ c → ◌≡◌ {A = V × W} (b, d) (a, c)
beside V W a b c d e f =
    let first : V → V × W = λ q. (q, d) in
    let second : W → V × W = λ q. (a, q) in
    ap first e ∙ ap second f

module _ {S X Y : Type 0} {R : S → X → Y → S → Type 0} where
  -- no payload
  pub plain : {V : Type 0} {s : S} (v : V) → Mapped R s [] v s [] v
  plain v = record { kept = refl; called = answers_none R }

  -- one part behind another
  pub both : {V W : Type 0} {s t u : S} {xs zs : List X} {ys ws : List Y} {a b : V} {c d : W} → Mapped R s xs a t ys b → Mapped R t zs c u ws d → Mapped {V = V × W} R s (xs ++ zs) (a, c) u (ys ++ ws) (b, d)
  both {V} {W} {s} {t} {u} {xs} {zs} {ys} {ws} {a} {b} {c} {d} m n = record {
    kept = beside V W a b c d m.kept n.kept;
    called = answers_append R m.called n.called;
  }

  -- a part that has no payload beside one that has
  pub with : {V W : Type 0} {s t : S} {xs : List X} {ys : List Y} {a b : V} (h : V → W) → Mapped R s xs a t ys b → Mapped R s xs (h a) t ys (h b)
  with h m = record { kept = ap h m.kept; called = m.called }

  -- what is made of the parts
  pub made : {V W Z : Type 0} {s t : S} {xs zs : List X} {ys : List Y} {a b : V} {v : W} (w : Z → W) (p : Z → List Y) (z : Z) (h : V → W) → Mapped R s zs a t ys b → v ≡ h a → xs ≡ zs → w z ≡ h b → p z ≡ ys → Mapped R s xs v t (p z) (w z)
  made w p z h m e d f g = record { kept = f ∙ (ap h m.kept ∙ sym e); called = answers_at R d g m.called }

  -- what is made of a part stands in a box
  pub made_held : {V Z E : Type 0} {s t : S} {xs : List X} {v : V} (w : Z → V) (p : Z → List Y) (z : Z) (r : Result (Box Z Global) E) → Mapped R s xs v t (p z) (w z) → IfOk r (λ b. b.value ≡ z) → Maps R s xs v t (held p) (held w) r
  made_held w p z (Ok b) m e = record { kept = ap w e ∙ m.kept; called = answers_at R refl (ap p e) m.called }
  made_held w p z (Err _) m e = begins_all R m.called

  -- a part that was taken out of its box
  pub taken : {V N : Type 0} {s t : S} {ys : List Y} {w : V} (h : N → List X) (v : N → V) (a b : N) → b ≡ a → Mapped R s (h b) (v b) t ys w → Mapped R s (h a) (v a) t ys w
  taken h v a b e m = record { kept = m.kept ∙ ap v e; called = answers_at R (ap h (sym e)) refl m.called }

  -- memory runs out in the first part
  pub stops : {s t : S} {xs zs : List X} → xs ≡ zs → Begins R s zs t → Begins R s xs t
  stops e b = begins_at R e b

  pub stops_first : {s t : S} {xs : List X} (zs : List X) → Begins R s xs t → Begins R s (xs ++ zs) t
  stops_first zs b = begins_within R zs b

  -- memory runs out in a part behind another
  pub stops_behind : {V : Type 0} {s t u : S} {xs zs : List X} {ys : List Y} {a b : V} → Mapped R s xs a t ys b → Begins R t zs u → Begins R s (xs ++ zs) u
  stops_behind m b = begins_more R m.called b

  -- a payload of its own behind the parts
  pub behind : {V : Type 0} {s t u : S} {xs : List X} {ys : List Y} {a b : V} (x : X) (y : Y) → Mapped R s xs a t ys b → R t x y u → Mapped R s (xs ++ x ∷ []) a u (ys ++ y ∷ []) b
  behind x y m h = record { kept = m.kept; called = answers_append R m.called (answers_one R h) }

  -- an early return
  pub late : {V Z E : Type 0} {s t : S} {xs : List X} (Q : E → Type 0) (v : V) (p : Z → List Y) (w : Z → V) (r : Result Z E) → IsErrAnd r Q → Begins R s xs t → Maps R s xs v t p w r
  late Q v p w (Ok z) h b = absurd h
  late Q v p w (Err _) h b = b

-- a parameter with its name
abbrev pub named : Stars → Name → Annotation → Bound → Extent → Member
named k (tree.name_at b p) t d s = tree.parameter k b p t d s

-- a name as a target
abbrev pub name_leaf : Name → Extent → Expr
name_leaf (tree.name_at b p) s = tree.leaf (tree.name b) p s
