-- Writes to the statements at the top of trees, one tree behind another.
use Rattle.std.proofs.Math.ListN.{set}
use Rattle.std.proofs.lemmas.List.{flat_map_more, take_more_set}
use Rattle.std.proofs.lemmas.List.Folds.{fold-map}
use Rattle.std.proofs.lemmas.List.Sums.{get_or-le-sum_by}
use Rattle.std.proofs.Common.{ℕ, ◌+◌, ◌<◌, ◌≤◌, ◌≡◌, refl, sym, ap, ◌∙◌, subst, arith, List, [], ◌∷◌, ◌++◌, flat_map, take, drop, length, get_or, append-nil, append_assoc}
use Rattle.std.specs.Borrow.{MutBor}
use Rattle.std.specs.Fn.{Called, Mut}
use Rattle.std.specs.List.{sum_by}
use Rattle.std.specs.Vec.{SameBlock}
use Rattle.std.specs.declared.alloc.Global.{Global}
use Rattle.std.specs.declared.vec.Vec.{Vec}
use Rattle.starlark_place.specs.Place.{Extent}
use Rattle.starlark_ast.specs.Access.{top_level}
use Rattle.starlark_ast.specs.Statements.{S}
use Rattle.starlark_ast.specs.declared.ast.StmtP.{StmtP, fold-roll-StmtP}
use Rattle.starlark_ast.specs.declared.ast.StmtP.TheOpen as stmt
use Rattle.starlark_ast.specs.declared.ast.StmtP.TheVariants as variant
use Rattle.starlark_ast.proofs.Tops.{count, count_def, count_for, count_step, top_level-other, top_level-Statements}
use Rattle.starlark_write.specs.Tops as tops
use Rattle.starlark_write.specs.Tops.{Becomes, EachBecomes, IsNoList, WritesEachTop, WritesTops}
use Rattle.starlark_write.specs.Writing.{WritesAll}
use Rattle.starlark_write.proofs.Loops.{head_same, old_more, take_back, whole}

module _ {F A : Type 0} (g : Mut F (MutBor A × Unit {0}) (Unit {0} × (MutBor A × Unit {0}))) where
  -- calls at some places, and then at others
  all_then : (xs ys zs ws : List A) (f mid last : F) → WritesAll g f xs mid ys → WritesAll g mid zs last ws → WritesAll g f (xs ++ zs) last (ys ++ ws)
  all_then [] [] zs ws f mid last h k = subst (λ (p : F). WritesAll g p zs last ws) (sym h.0) k
  all_then [] (y ∷ ys) zs ws f mid last h k = absurd (cc h.1)
  all_then (x ∷ xs) [] zs ws f mid last h k = absurd h
  all_then (x ∷ xs) (y ∷ ys) zs ws f mid last h k = (h.0, h.1, all_then xs ys zs ws h.0 mid last h.2 k)

module _ {P L I A D T : Type 0} where
  becomes_more : (xs us zs vs : List (S P L I A D T)) (x z : S P L I A D T) → EachBecomes xs us zs → Becomes x vs z → EachBecomes (xs ++ x ∷ []) (us ++ vs) (zs ++ z ∷ [])
  becomes_more xs us zs vs x z tops.none k = subst (λ q. EachBecomes (x ∷ []) q (z ∷ [])) (append-nil vs) (tops.more k tops.none)
  becomes_more xs us zs vs x z (tops.more {x = a} {z = b} {us = ps} {xs = bs} {ys = cs} {zs = ds} h hs) k =
      subst (λ q. EachBecomes (a ∷ (bs ++ x ∷ [])) q (b ∷ (ds ++ z ∷ []))) (sym (append_assoc ps cs vs)) (tops.more h (becomes_more bs cs ds vs x z hs k))

  -- the statements in a list that hold others
  abbrev pub counts : List (S P L I A D T) → ℕ
  counts xs = sum_by (λ x. count x.node) xs

  pub counts_list : (s : StmtP P L I A D T) (xs : Vec (S P L I A D T) Global) → s ≡ variant.Statements xs → count s ≡ counts xs.items + 1
  counts_list s xs is =
      ap count (is ∙ sym (variant.rolls-Statements xs)) ∙ fold-roll-StmtP P L I A D T _ _ _ count_step count_def count_for (stmt.Statements xs) ∙ ap (λ n. n + 1) (fold-map _ _ 0 xs.items)

  pub counts_one : (old xs : List (S P L I A D T)) (i : ℕ) (x : S P L I A D T) → i < length xs → length xs ≡ length old → drop i xs ≡ drop i old → count (get_or xs i x).node ≤ counts old
  counts_one old xs i x below lengths front =
      let same : count (get_or xs i x).node ≡ count (get_or old i x).node = ap (λ y. count y.node) (head_same xs old i x below front) in
      let le : count (get_or old i x).node ≤ counts old = get_or-le-sum_by (λ y. count y.node) old i x (omega (arith, below, lengths)) in
      omega (arith, same, le)

module _ {P L I A D T F : Type 0} (g : Mut F (MutBor (S P L I A D T) × Unit {0}) (Unit {0} × (MutBor (S P L I A D T) × Unit {0}))) where
  pub tops_none : {f : F} → WritesEachTop g f [] f []
  tops_none = record { left = []; calls = record { told = (refl, refl) }; becomes = tops.none }

  tops_then : (xs zs : List (S P L I A D T)) (x z : S P L I A D T) {f mid last : F} → WritesEachTop g f xs mid zs → WritesTops g mid x last z → WritesEachTop g f (xs ++ x ∷ []) last (zs ++ z ∷ [])
  tops_then xs zs x z {f} {mid} {last} h k =
      record {
        left = h.left ++ k.left;
        calls = record { told = subst (λ q. WritesAll g f q last (h.left ++ k.left)) (flat_map_more top_level [] xs x) (all_then g (flat_map top_level xs) h.left (top_level x) k.left f mid last h.calls.told k.calls.told) };
        becomes = becomes_more xs h.left zs k.left x z h.becomes k.becomes;
      }

  -- the tree at i is written
  pub tops_more : (old xs : List (S P L I A D T)) (i : ℕ) (x y : S P L I A D T) → i < length xs → length xs ≡ length old → x ≡ get_or xs i x → drop i xs ≡ drop i old → {f mid last : F} → WritesEachTop g f (take i old) mid (take i xs) → WritesTops g mid x last y → WritesEachTop g f (take (i + 1) old) last (take (i + 1) (set xs i y))
  tops_more old xs i x y below lengths is front {f} {mid} {last} h k =
      subst (λ q. WritesEachTop g f q last (take (i + 1) (set xs i y))) (sym (old_more old xs i x y below lengths is front))
      (subst (λ q. WritesEachTop g f (take i old ++ x ∷ []) last q) (sym (take_more_set xs i y below)) (tops_then (take i old) (take i xs) x y h k))

  -- all are written
  pub tops_whole : (old xs : List (S P L I A D T)) (n : ℕ) → n ≡ length old → n ≡ length xs → {f last : F} → WritesEachTop g f (take n old) last (take n xs) → WritesEachTop g f old last xs
  tops_whole old xs n all_old all {f} {last} h =
      subst (λ q. WritesEachTop g f q last xs) (sym (whole old n all_old)) (subst (λ q. WritesEachTop g f (take n old) last q) (sym (whole xs n all)) h)

  pub tops_back : (xs : List (S P L I A D T)) (n : ℕ) (rest : List (S P L I A D T)) → {old : List (S P L I A D T)} → n ≡ length xs → {f last : F} → WritesEachTop g f old last xs → WritesEachTop g f old last (take n (xs ++ rest))
  tops_back xs n rest {old} all {f} {last} h =
      subst (λ q. WritesEachTop g f old last q) (sym (take_back xs rest n all)) h

  -- those of a list
  pub tops_list : (s : Extent) (xs zs : Vec (S P L I A D T) Global) {f last : F} → SameBlock xs zs → WritesEachTop g f xs.items last zs.items → WritesTops g f (record { span = s; node = variant.Statements xs }) last (record { span = s; node = variant.Statements zs })
  tops_list s xs zs {f} {last} b h =
      record {
        left = h.left;
        calls = record { told = subst (λ q. WritesAll g f q last h.left) (sym (top_level-Statements (record { span = s; node = variant.Statements xs }) xs refl)) h.calls.told };
        becomes = tops.list s xs zs h.left b h.becomes;
      }

  -- one that is no list
  pub tops_one : {x y : S P L I A D T} {f last : F} {v w : MutBor (S P L I A D T)} → IsNoList x → Called g f (v, tt) (tt, (w, tt)) last → v.now ≡ x → w.now ≡ y → WritesTops g f x last y
  tops_one {x} {y} {f} {last} {v} {w} alone h is left_there =
      record {
        left = y ∷ [];
        calls = record { told = subst (λ q. WritesAll g f q last (y ∷ [])) (sym (top_level-other x alone)) (last, record { shown = v; shows = is; left = w; called = h; leaves = left_there }, (refl, refl)) };
        becomes = tops.other x y alone;
      }
