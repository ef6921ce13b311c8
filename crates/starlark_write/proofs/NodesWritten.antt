-- Calls of a visitor at nodes that it may write to, one list of nodes behind another.
use Rattle.std.proofs.Common.{◌≡◌, refl, sym, ap, ◌∙◌, subst, List, [], ◌∷◌, ◌++◌, map, ℕ, ◌+◌, ◌<◌, length, take, drop, get_or, inl, inr, Result, Ok, Err}
use Rattle.std.proofs.Math.ListN.{set}
use Rattle.std.proofs.lemmas.List.{map-append, take_more_set}
use Rattle.std.specs.Borrow.{MutBor}
use Rattle.std.specs.Fn.{CalledAtMut, Mut}
use Rattle.starlark_ast.specs.Nodes.{Node, expression, nodes_below, statement}
use Rattle.starlark_ast.specs.Places.{E}
use Rattle.starlark_ast.specs.Statements.{S, exprs_below, stmts_below}
use Rattle.starlark_ast.specs.declared.ast.StmtP.{StmtP}
use Rattle.starlark_write.specs.BesideStatements.{KeepsHead, KeepsStmt}
use Rattle.starlark_write.specs.Writing.{WritesUntil, WritesWhile}
use Rattle.starlark_write.specs.WritingNodes.{NodesAll, NodesEach, NodesUntil, NodesWhile}
use Rattle.starlark_write.proofs.KeptStatements.{exprs_kept, stmts_kept}
use Rattle.starlark_visit.proofs.GoesOn.{ok_not_err}
use Rattle.starlark_write.proofs.Loops.{new_split, old_more, old_split}
use Rattle.starlark_write.proofs.Writes.{nil_not_cons}

module _ {V N E : Type 0} (step : V → N → Result (Unit {0}) E → V → N → Type 0) where
  pub nodes_none : {v : V} {r : Result (Unit {0}) E} → r ≡ Ok tt → NodesUntil step v [] r v []
  nodes_none h = record { told = (h, refl, refl) }

  one_call : {v last : V} {x y : N} (r : Result (Unit {0}) E) → step v x r last y → NodesUntil step v (x ∷ []) r last (y ∷ [])
  one_call {v} {last} (Ok u) h = record { told = inl (last, h, (refl, refl, refl)) }
  one_call (Err e) h = record { told = inr (e, h, refl, refl) }

  -- a call, whose answer is the answer
  pub nodes_one : {v last : V} {x y : N} {r : Result (Unit {0}) E} → step v x r last y → NodesUntil step v (x ∷ []) r last (y ∷ [])
  nodes_one {v} {last} {x} {y} {r} h = one_call r h

  pub nodes_at : {v last : V} {r : Result (Unit {0}) E} {xs ys zs ws : List N} → xs ≡ zs → ys ≡ ws → NodesUntil step v zs r last ws → NodesUntil step v xs r last ys
  nodes_at {v} {last} {r} {xs} {ys} {zs} {ws} is are h = subst (λ (l : List N). NodesUntil step v l r last ys) (sym is) (subst (λ (l : List N). NodesUntil step v zs r last l) (sym are) h)

  and_then : (xs ys zs ws : List N) (v mid last : V) (s r : Result (Unit {0}) E) → NodesWhile step v xs s mid ys → s ≡ Ok tt → NodesUntil step mid zs r last ws → NodesUntil step v (xs ++ zs) r last (ys ++ ws)
  and_then [] [] zs ws v mid last s r h ok k = subst (λ (p : V). NodesUntil step p zs r last ws) (sym h.1) k
  and_then [] (y ∷ ys) zs ws v mid last s r h ok k = absurd (nil_not_cons h.2)
  and_then (x ∷ xs) [] zs ws v mid last s r h ok k = absurd h
  and_then (x ∷ xs) (y ∷ ys) zs ws v mid last s r h ok k =
      elim h [ inl c ↦ record { told = inl (c.0, c.1, (and_then xs ys zs ws c.0 mid last s r c.2 ok k).told) } | inr c ↦ absurd (ok_not_err ok c.2) ]

  -- calls that go on
  pub nodes_then : {v mid last : V} {s r : Result (Unit {0}) E} {xs ys zs ws : List N} → NodesUntil step v xs s mid ys → s ≡ Ok tt → NodesUntil step mid zs r last ws → NodesUntil step v (xs ++ zs) r last (ys ++ ws)
  nodes_then {v} {mid} {last} {s} {r} {xs} {ys} {zs} {ws} h ok k = and_then xs ys zs ws v mid last s r h.told ok k

  stops_in : (xs ys zs : List N) (v last : V) (s r : Result (Unit {0}) E) (e : E) → NodesWhile step v xs s last ys → s ≡ Err e → r ≡ Err e → NodesUntil step v (xs ++ zs) r last (ys ++ zs)
  stops_in [] ys zs v last s r e h err out = absurd (ok_not_err h.0 err)
  stops_in (x ∷ xs) [] zs v last s r e h err out = absurd h
  stops_in (x ∷ xs) (y ∷ ys) zs v last s r e h err out =
      elim h [
        | inl c ↦ record { told = inl (c.0, c.1, (stops_in xs ys zs c.0 last s r e c.2 err out).told) }
        | inr c ↦ record { told = inr (c.0, c.1, out ∙ (sym err ∙ c.2), ap (λ (l : List N). l ++ zs) c.3) }
      ]

  -- calls that stop
  pub nodes_stop : {v last : V} {s r : Result (Unit {0}) E} {e : E} {xs ys : List N} (zs : List N) → NodesUntil step v xs s last ys → s ≡ Err e → r ≡ Err e → NodesUntil step v (xs ++ zs) r last (ys ++ zs)
  nodes_stop {v} {last} {s} {r} {e} {xs} {ys} zs h err out = stops_in xs ys zs v last s r e h.told err out

  pub step_at : {A : Type 0} (node : A → N) {v w : V} {r : Result (Unit {0}) E} {a b x y : A} → a ≡ x → b ≡ y → step v (node a) r w (node b) → step v (node x) r w (node y)
  step_at node {v} {w} {r} {a} {b} {x} {y} is are h = subst (λ q. step v (node x) r w (node q)) are (subst (λ q. step v (node q) r w (node b)) is h)

  -- a closure k that calls the visitor at what it is lent, as a node, and leaves it ready
  module _ {G A : Type 0} (k : Mut G (MutBor A × Unit {0}) (Result (Unit {0}) E × (MutBor A × Unit {0}))) (value : G → V) (name : G → ℕ) (node : A → N) (ready : V → Type 0) (each : (p q : G) (x y : A) (r : Result (Unit {0}) E) → CalledAtMut k p x r q y → step (value p) (node x) r (value q) (node y) × ready (value q) × (name q ≡ name p)) where
    carry : (xs ys : List A) (p q : G) (r : Result (Unit {0}) E) → ready (value p) → WritesWhile k p xs r q ys → NodesWhile step (value p) (map node xs) r (value q) (map node ys) × ready (value q) × (name q ≡ name p)
    carry [] ys p q r can h = ((h.0, ap value h.1, ap (map node) h.2), subst (λ s. ready (value s)) h.1 can, ap name (sym h.1))
    carry (x ∷ xs) [] p q r can h = absurd h
    carry (x ∷ xs) (y ∷ ys) p q r can h =
        elim h [
          | inl c ↦ (let one = each p c.0 x y (Ok tt) c.1 in let others = carry xs ys c.0 q r one.1 c.2 in (inl (value c.0, one.0, others.0), others.1, others.2 ∙ one.2))
          | inr c ↦ (let one = each p q x y (Err c.0) c.1 in (inr (c.0, one.0, c.2, ap (map node) c.3), one.1, one.2))
        ]

    -- where last is what it holds at the end
    pub carried : {xs ys : List A} {p q : G} {r : Result (Unit {0}) E} (last : V) → ready (value p) → WritesUntil k p xs r q ys → (name q ≡ name p → value q ≡ last) → NodesUntil step (value p) (map node xs) r last (map node ys) × ready last
    carried {xs} {ys} {p} {q} {r} last can h is =
        let all = carry xs ys p q r can h.told in
        (record { told = subst (λ (s : V). NodesWhile step (value p) (map node xs) r s (map node ys)) (is all.2) all.0 }, subst ready (is all.2) all.1)

-- what a visitor that holds another one does, as what that one does
module _ {V W N E : Type 0} (step : V → N → Result (Unit {0}) E → V → N → Type 0) (other : W → N → Result (Unit {0}) E → W → N → Type 0) (value : V → W) (name : V → ℕ) (each : (p q : V) (x y : N) (r : Result (Unit {0}) E) → step p x r q y → other (value p) x r (value q) y × (name q ≡ name p)) where
  carry_by : (xs ys : List N) (p q : V) (r : Result (Unit {0}) E) → NodesWhile step p xs r q ys → NodesWhile other (value p) xs r (value q) ys × (name q ≡ name p)
  carry_by [] ys p q r h = ((h.0, ap value h.1, h.2), ap name (sym h.1))
  carry_by (x ∷ xs) [] p q r h = absurd h
  carry_by (x ∷ xs) (y ∷ ys) p q r h =
      elim h [
        | inl c ↦ (let one = each p c.0 x y (Ok tt) c.1 in let others = carry_by xs ys c.0 q r c.2 in (inl (value c.0, one.0, others.0), others.1 ∙ one.1))
        | inr c ↦ (let one = each p q x y (Err c.0) c.1 in (inr (c.0, one.0, c.2, c.3), one.1))
      ]

  -- where last is what it holds at the end
  pub carried_by : {xs ys : List N} {p q : V} {r : Result (Unit {0}) E} (last : W) → NodesUntil step p xs r q ys → (name q ≡ name p → value q ≡ last) → NodesUntil other (value p) xs r last ys × (value q ≡ last)
  carried_by {xs} {ys} {p} {q} {r} last h is =
      let all = carry_by xs ys p q r h.told in
      (record { told = subst (λ (s : W). NodesWhile other (value p) xs r s ys) (is all.1) all.0 }, is all.1)

-- the same where it always goes on
module _ {V W N E : Type 0} (step : V → N → Result (Unit {0}) E → V → N → Type 0) (other : W → N → W → N → Type 0) (value : V → W) (name : V → ℕ) (each : (p q : V) (x y : N) (r : Result (Unit {0}) E) → step p x r q y → (r ≡ Ok tt) × other (value p) x (value q) y × (name q ≡ name p)) where
  carry_on : (xs ys : List N) (p q : V) (r : Result (Unit {0}) E) → NodesWhile step p xs r q ys → NodesAll other (value p) xs (value q) ys × (name q ≡ name p)
  carry_on [] ys p q r h = ((ap value h.1, h.2), ap name (sym h.1))
  carry_on (x ∷ xs) [] p q r h = absurd h
  carry_on (x ∷ xs) (y ∷ ys) p q r h =
      elim h [
        | inl c ↦ (let one = each p c.0 x y (Ok tt) c.1 in let others = carry_on xs ys c.0 q r c.2 in ((value c.0, one.1, others.0), others.1 ∙ one.2))
        | inr c ↦ absurd (ok_not_err (each p q x y (Err c.0) c.1).0 refl)
      ]

  pub carried_on : {xs ys : List N} {p q : V} {r : Result (Unit {0}) E} (last : W) → NodesUntil step p xs r q ys → (name q ≡ name p → value q ≡ last) → NodesEach other (value p) xs last ys × (value q ≡ last)
  carried_on {xs} {ys} {p} {q} {r} last h is =
      let all = carry_on xs ys p q r h.told in
      (record { told = subst (λ (s : W). NodesAll other (value p) xs s ys) (is all.1) all.0 }, is all.1)

-- the item at i is written
module _ {V N E X : Type 0} (step : V → N → Result (Unit {0}) E → V → N → Type 0) (node : X → N) (old xs : List X) (i : ℕ) (x y : X) (below : i < length xs) (lengths : length xs ≡ length old) (is : x ≡ get_or xs i x) (front : drop i xs ≡ drop i old) {v mid last : V} {s : Result (Unit {0}) E} (done : NodesUntil step v (map node (take i old)) (Ok tt) mid (map node (take i xs))) (here : NodesUntil step mid (node x ∷ []) s last (node y ∷ [])) where
  pub nodes_more : s ≡ Ok tt → NodesUntil step v (map node (take (i + 1) old)) (Ok tt) last (map node (take (i + 1) (set xs i y)))
  nodes_more ok =
      nodes_at step (ap (map node) (old_more old xs i x y below lengths is front) ∙ map-append node (take i old) (x ∷ [])) (ap (map node) (take_more_set xs i y below) ∙ map-append node (take i xs) (y ∷ [])) (nodes_then step done refl (subst (λ (t : Result (Unit {0}) E). NodesUntil step mid (node x ∷ []) t last (node y ∷ [])) ok here))

  pub nodes_stop_here : {r : Result (Unit {0}) E} {e : E} → s ≡ Err e → r ≡ Err e → NodesUntil step v (map node old) r last (map node (set xs i y))
  nodes_stop_here {r} {e} err out =
      nodes_at step (ap (map node) (old_split old xs i x y below lengths is front) ∙ map-append node (take i old) (x ∷ drop (i + 1) old)) (ap (map node) (new_split old xs i x y below lengths is front) ∙ map-append node (take i xs) (y ∷ drop (i + 1) old))
      (nodes_then step done refl (nodes_stop step (map node (drop (i + 1) old)) here err out))

-- the expressions right below a statement, and then the statements
module _ {V X P L I A D T : Type 0} (step : V → Node (S P L I A D T) (E P L I A D T) → Result (Unit {0}) X → V → Node (S P L I A D T) (E P L I A D T) → Type 0) {x y : StmtP P L I A D T} {v mid : V} {s : Result (Unit {0}) X} (done : NodesUntil step v (map expression (exprs_below x)) s mid (map expression (exprs_below y))) (k : KeepsStmt x y) where
  pub nodes_both : {z : StmtP P L I A D T} {last : V} {r : Result (Unit {0}) X} → s ≡ Ok tt → KeepsHead y z → NodesUntil step mid (map statement (stmts_below y)) r last (map statement (stmts_below z)) → NodesUntil step v (nodes_below x) r last (nodes_below z)
  nodes_both {z} ok h rest =
      nodes_at step (ap (λ q. map expression (exprs_below x) ++ map statement q) (sym (stmts_kept k))) (ap (λ q. map expression q ++ map statement (stmts_below z)) (exprs_kept h)) (nodes_then step done ok rest)

  pub nodes_first : {r : Result (Unit {0}) X} {e : X} → s ≡ Err e → r ≡ Err e → NodesUntil step v (nodes_below x) r mid (nodes_below y)
  nodes_first err out =
      nodes_at step refl (ap (λ q. map expression (exprs_below y) ++ map statement q) (stmts_kept k)) (nodes_stop step (map statement (stmts_below x)) done err out)
