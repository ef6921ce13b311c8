-- A list that is mapped from its first member to its last, what is left of it last first.
use Rattle.std.proofs.Common.{◌≡◌, refl, sym, ap, ◌∙◌, List, [], ◌∷◌, ◌++◌, ℕ, suc, ◌+◌, ◌≤◌, flat_map, map, reverse, append_assoc, append-nil, arith}
use Rattle.std.proofs.lemmas.List.{reverse-append, reverse-reverse, map-append}
use Rattle.starlark_payload.specs.Payloads.{Answers, Begins}
use Rattle.starlark_payload.specs.Weights.{total}
use Rattle.starlark_payload.proofs.Answering.{answers_append, answers_at, answers_none, begins_at, begins_more, begins_none, begins_within}
use Rattle.starlark_payload.proofs.Listed.{flat_map_last, flat_map_split}

total_append : {X : Type 0} (n : X → ℕ) (xs ys : List X) → total n (xs ++ ys) ≡ total n xs + total n ys
total_append n [] ys = omega arith
total_append n (x ∷ xs) ys = let h = total_append n xs ys in omega (arith, h)

-- what is done was mapped, and what is left stands behind it
pub record Done {S PA PB V X Y : Type 0} (R : S → PA → PB → S → Type 0) (h : X → List PA) (k : Y → List PB) (v : X → V) (w : Y → V) (s : S) (xs rest : List X) (t : S) (done : List Y) : Type 0 where
  pub front : List X
  pub whole : front ++ reverse rest ≡ xs
  pub kept : map w done ≡ map v front
  pub called : Answers R s (flat_map h front) t (flat_map k done)

module _ {S PA PB V X Y : Type 0} {R : S → PA → PB → S → Type 0} {h : X → List PA} {k : Y → List PB} {v : X → V} {w : Y → V} where
  pub done_none : {s : S} {xs rest : List X} {done : List Y} → rest ≡ reverse xs → done ≡ [] → Done R h k v w s xs rest s done
  done_none {s} {xs} {rest} {done} e d = record {
    front = [];
    whole = ap reverse e ∙ reverse-reverse xs;
    kept = ap (map w) d;
    called = answers_at R refl (ap (flat_map k) d) (answers_none R);
  }

  split : {s t : S} {xs rest : List X} {done : List Y} (x : X) (back : List X) (d : Done R h k v w s xs rest t done) → rest ≡ back ++ x ∷ [] → xs ≡ d.front ++ x ∷ reverse back
  split x back d e = sym d.whole ∙ (ap (λ q. d.front ++ reverse q) e ∙ ap (λ q. d.front ++ q) (reverse-append back (x ∷ [])))

  pub done_more : {s t u : S} {xs rest : List X} {done more : List Y} {x : X} {y : Y} (back : List X) → Done R h k v w s xs rest t done → rest ≡ back ++ x ∷ [] → w y ≡ v x → Answers R t (h x) u (k y) → more ≡ done ++ y ∷ [] → Done R h k v w s xs back u more
  done_more {s} {t} {u} {xs} {rest} {done} {more} {x} {y} back d e same called is = record {
    front = d.front ++ x ∷ [];
    whole = append_assoc d.front (x ∷ []) (reverse back) ∙ sym (split x back d e);
    kept = ap (map w) is ∙ (map-append w done (y ∷ []) ∙ (ap (λ q. q ++ w y ∷ []) d.kept ∙ (ap (λ q. map v d.front ++ q ∷ []) same ∙ sym (map-append v d.front (x ∷ [])))));
    called = answers_at R (flat_map_last h d.front x) (ap (flat_map k) is ∙ flat_map_last k done y) (answers_append R d.called called);
  }

  pub done_stops : {s t u : S} {xs rest : List X} {done : List Y} {x : X} (back : List X) → Done R h k v w s xs rest t done → rest ≡ back ++ x ∷ [] → Begins R t (h x) u → Begins R s (flat_map h xs) u
  done_stops {s} {t} {u} {xs} {rest} {done} {x} back d e b =
      begins_at R (ap (flat_map h) (split x back d e) ∙ flat_map_split h d.front x (reverse back)) (begins_more R d.called (begins_within R (flat_map h (reverse back)) b))

  pub done_waits : {s t : S} {xs rest : List X} {done : List Y} (x : X) (back : List X) → Done R h k v w s xs rest t done → rest ≡ back ++ x ∷ [] → Begins R s (flat_map h xs) t
  done_waits x back d e = done_stops back d e (begins_none R (h x))

  pub done_weighs : {s t : S} {xs rest : List X} {done : List Y} {x : X} (back : List X) (n : X → ℕ) → Done R h k v w s xs rest t done → rest ≡ back ++ x ∷ [] → suc (n x) ≤ total n xs
  done_weighs {s} {t} {xs} {rest} {done} {x} back n d e =
      let all : total n xs ≡ total n d.front + suc (n x + total n (reverse back)) = ap (total n) (split x back d e) ∙ total_append n d.front (x ∷ reverse back) in
      omega (arith, all)

  pub done_kept : {s t : S} {xs rest : List X} {done : List Y} → Done R h k v w s xs rest t done → rest ≡ [] → map w done ≡ map v xs
  done_kept d e = d.kept ∙ ap (map v) (sym (append-nil d.front) ∙ (ap (λ q. d.front ++ reverse q) (sym e) ∙ d.whole))

  pub done_called : {s t : S} {xs rest : List X} {done : List Y} → Done R h k v w s xs rest t done → rest ≡ [] → Answers R s (flat_map h xs) t (flat_map k done)
  done_called d e = answers_at R (ap (flat_map h) (sym d.whole ∙ (ap (λ q. d.front ++ reverse q) e ∙ append-nil d.front))) refl d.called
