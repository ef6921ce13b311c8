-- Lists whose items are written one behind the other.
use Rattle.std.proofs.Math.ListN.{set}
use Rattle.std.proofs.Math.Seq.{take-length}
use Rattle.std.proofs.lemmas.Grind.{flat_map-append}
use Rattle.std.proofs.lemmas.List.{drop-drop, flat_map_more, get_or-drop, take_more, take_more_set, take-append-le, drop-set-lt}
use Rattle.std.proofs.Common.{ℕ, suc, ◌+◌, ◌<◌, ◌≡◌, refl, sym, ap, ◌∙◌, subst, List, [], ◌∷◌, ◌++◌, flat_map, take, drop, take-append-drop, length, get_or, length-set, append-nil, Result, Ok, Err, arith}
use Rattle.std.specs.Borrow.{MutBor}
use Rattle.std.specs.Fn.{Mut}
use Rattle.starlark_write.specs.Beside as beside
use Rattle.starlark_write.specs.Beside.{Each}
use Rattle.starlark_write.specs.Writing.{WritesUntil}
use Rattle.starlark_write.proofs.Writes.{writes_at, writes_then, writes_stop}

-- what holds of all items of two lists, one by one
pub data Both {X : Type 0} (R : X → X → Type 0) : List X → List X → Type 0 where
  none : Both R [] []
  more : {x y : X} {xs ys : List X} → R x y → Both R xs ys → Both R (x ∷ xs) (y ∷ ys)

module _ {X : Type 0} (R : X → X → Type 0) where
  pub both_snoc : {xs ys : List X} {x y : X} → Both R xs ys → R x y → Both R (xs ++ x ∷ []) (ys ++ y ∷ [])
  both_snoc none r = more r none
  both_snoc (more k h) r = more k (both_snoc h r)

  pub both_rest : (xs ys zs : List X) → Both R xs ys → Each R (xs ++ zs) (ys ++ zs)
  both_rest xs ys zs none = beside.rest zs
  both_rest xs ys zs (more k h) = beside.more k (both_rest _ _ zs h)

at_front : {X : Type 0} (xs : List X) (i : ℕ) (d : X) → get_or (drop i xs) 0 d ≡ get_or xs i d
at_front xs i d =
    let none : i + 0 ≡ i = omega arith in
    get_or-drop i xs 0 d ∙ ap (λ k. get_or xs k d) none

pub head_same : {X : Type 0} (xs old : List X) (i : ℕ) (d : X) → i < length xs → drop i xs ≡ drop i old → get_or xs i d ≡ get_or old i d
head_same xs old i d below e = sym (at_front xs i d) ∙ ap (λ q. get_or q 0 d) e ∙ at_front old i d

pub tail_same : {X : Type 0} (xs old : List X) (i : ℕ) → drop i xs ≡ drop i old → drop (i + 1) xs ≡ drop (i + 1) old
tail_same xs old i e = sym (drop-drop 1 i xs) ∙ ap (λ q. drop 1 q) e ∙ drop-drop 1 i old

-- the item at i is written
module _ {X : Type 0} (old xs : List X) (i : ℕ) (x y : X) (below : i < length xs) (lengths : length xs ≡ length old) (is : x ≡ get_or xs i x) (front : drop i xs ≡ drop i old) where
  pub is_old : x ≡ get_or old i x
  is_old = is ∙ head_same xs old i x below front

  pub front_more : drop (i + 1) (set xs i y) ≡ drop (i + 1) old
  front_more = drop-set-lt (i + 1) xs i y (omega arith) ∙ tail_same xs old i front

  pub lengths_more : length (set xs i y) ≡ length old
  lengths_more = length-set xs i y ∙ lengths

  pub old_more : take (i + 1) old ≡ take i old ++ x ∷ []
  old_more = take_more old i x (omega (arith, below, lengths)) ∙ ap (λ q. take i old ++ q ∷ []) (sym is_old)

  append_one : (vs : List X) (z : X) (zs : List X) → (vs ++ z ∷ []) ++ zs ≡ vs ++ z ∷ zs
  append_one [] z zs = refl
  append_one (v ∷ vs) z zs = ap (λ q. v ∷ q) (append_one vs z zs)

  pub old_split : old ≡ take i old ++ x ∷ drop (i + 1) old
  old_split = sym (take-append-drop (i + 1) old) ∙ ap (λ q. q ++ drop (i + 1) old) old_more ∙ append_one (take i old) x (drop (i + 1) old)

  pub new_split : set xs i y ≡ take i xs ++ y ∷ drop (i + 1) old
  new_split = sym (take-append-drop (i + 1) (set xs i y)) ∙ ap (λ q. q ++ drop (i + 1) (set xs i y)) (take_more_set xs i y below) ∙ append_one (take i xs) y (drop (i + 1) (set xs i y)) ∙ ap (λ q. take i xs ++ y ∷ q) front_more

  pub both_more : (R : X → X → Type 0) → Both R (take i old) (take i xs) → R x y → Both R (take (i + 1) old) (take (i + 1) (set xs i y))
  both_more R h r = subst (λ q. Both R q (take (i + 1) (set xs i y))) (sym old_more) (subst (λ q. Both R (take i old ++ x ∷ []) q) (sym (take_more_set xs i y below)) (both_snoc R h r))

  -- what holds of the whole lists once no more is written
  pub stop_in : (R : X → X → Type 0) (Q : List X → List X → Type 0) → ((vs ws zs : List X) → Both R vs ws → Q (vs ++ zs) (ws ++ zs)) → Both R (take i old) (take i xs) → R x y → Q old (set xs i y)
  stop_in R Q close h r =
      let here : Q ((take i old ++ x ∷ []) ++ drop (i + 1) old) ((take i xs ++ y ∷ []) ++ drop (i + 1) old) = close _ _ (drop (i + 1) old) (both_snoc R h r) in
      let front : Q (take i old ++ x ∷ drop (i + 1) old) ((take i xs ++ y ∷ []) ++ drop (i + 1) old) = subst (λ q. Q q ((take i xs ++ y ∷ []) ++ drop (i + 1) old)) (append_one (take i old) x (drop (i + 1) old)) here in
      let back : Q (take i old ++ x ∷ drop (i + 1) old) (take i xs ++ y ∷ drop (i + 1) old) = subst (λ q. Q (take i old ++ x ∷ drop (i + 1) old) q) (append_one (take i xs) y (drop (i + 1) old)) front in
      subst (λ q. Q q (set xs i y)) (sym old_split) (subst (λ q. Q (take i old ++ x ∷ drop (i + 1) old) q) (sym new_split) back)

  module _ {F A E : Type 0} (g : Mut F (MutBor A × Unit {0}) (Result (Unit {0}) E × (MutBor A × Unit {0}))) (h : X → List A) {f mid last : F} {s : Result (Unit {0}) E} (done : WritesUntil g f (flat_map h (take i old)) (Ok tt) mid (flat_map h (take i xs))) (here : WritesUntil g mid (h x) s last (h y)) where
    one_more : (vs : List X) (z : X) → flat_map h (vs ++ z ∷ []) ≡ flat_map h vs ++ h z
    one_more vs z = sym (flat_map_more h [] vs z)

    pub writes_more : s ≡ Ok tt → WritesUntil g f (flat_map h (take (i + 1) old)) (Ok tt) last (flat_map h (take (i + 1) (set xs i y)))
    writes_more ok =
        writes_at g (ap (flat_map h) old_more ∙ one_more (take i old) x) (ap (flat_map h) (take_more_set xs i y below) ∙ one_more (take i xs) y) (writes_then g done refl (subst (λ (t : Result (Unit {0}) E). WritesUntil g mid (h x) t last (h y)) ok here))

    pub writes_stop_here : {r : Result (Unit {0}) E} {e : E} → s ≡ Err e → r ≡ Err e → WritesUntil g f (flat_map h old) r last (flat_map h (set xs i y))
    writes_stop_here {r} {e} err out =
        writes_at g (ap (flat_map h) old_split ∙ flat_map-append h (take i old) (x ∷ drop (i + 1) old)) (ap (flat_map h) new_split ∙ flat_map-append h (take i xs) (y ∷ drop (i + 1) old))
        (writes_then g done refl (writes_stop g (flat_map h (drop (i + 1) old)) here err out))

-- at the end all is done
pub whole : {X : Type 0} (xs : List X) (n : ℕ) → n ≡ length xs → xs ≡ take n xs
whole xs n is = sym (take-length xs) ∙ ap (λ k. take k xs) (sym is)

-- the front of a list that all was put in front of
pub take_back : {X : Type 0} (xs zs : List X) (n : ℕ) → n ≡ length xs → take n (xs ++ zs) ≡ xs
take_back xs zs n is = take-append-le n xs zs (omega (arith, is)) ∙ sym (whole xs n is)

-- what holds of the whole lists once all is written
pub end_in : {X : Type 0} (R : X → X → Type 0) (Q : List X → List X → Type 0) → ((vs ws zs : List X) → Both R vs ws → Q (vs ++ zs) (ws ++ zs)) → (old xs : List X) (n : ℕ) → n ≡ length old → n ≡ length xs → Both R (take n old) (take n xs) → Q old xs
end_in R Q close old xs n all_old is h =
    subst (λ q. Q q xs) (append-nil (take n old) ∙ sym (whole old n all_old)) (subst (λ q. Q (take n old ++ []) q) (append-nil (take n xs) ∙ sym (whole xs n is)) (close _ _ [] h))

pub each_length : {X : Type 0} (R : X → X → Type 0) {xs ys : List X} → Each R xs ys → length ys ≡ length xs
each_length R (beside.rest xs) = refl
each_length R (beside.more k h) = ap (λ n. suc n) (each_length R h)
