use Rattle.std.proofs.Common.{◌≡◌, ℕ, true, false, cond, nat_cmp, is_eq, eqb, refl, ap, sym, ◌∙◌, Some, None, Option, Less, Equal, Greater, inl, inr, arith}
use Rattle.std.specs.Map.{lookup}
use Rattle.std.specs.Cmp.{nat_cmp_is}
use Rattle.std.proofs.lemmas.Bool.{cases_Bool, cases_lt}
use Rattle.std.proofs.lemmas.Bool.Decides.{nat_tests}
use Rattle.starlark_place.specs.Place.{File}
use Rattle.starlark_place.specs.Maps.{map_of, or_else}
use Rattle.starlark_place.proofs.codemaps.CodeMaps.put_all.Goals as goal

or_none : (o : Option File) → or_else o None ≡ o
or_none None = refl
or_none (Some m) = refl

same_test : (x y : ℕ) → eqb x y ≡ is_eq (nat_cmp x y)
same_test x y =
    elim (cases_lt x y) [
      | inl less ↦ (let t : eqb x y ≡ false = grind (arith, nat_tests) in t ∙ ap is_eq (nat_cmp_is x y Less less))
      | inr some ↦ elim (cases_lt y x) [
        | inl more ↦ (let t : eqb x y ≡ false = grind (arith, nat_tests) in t ∙ ap is_eq (nat_cmp_is x y Greater more))
        | inr all ↦ (let s : x ≡ y = omega arith in let t : eqb x y ≡ true = grind (arith, nat_tests) in t ∙ ap is_eq (nat_cmp_is x y Equal s))
      ]
    ]

one_more : (old rest : Option File) (q k : ℕ) (m : File) → or_else (or_else old (cond (eqb q k) (Some m) None)) rest ≡ or_else old (cond (is_eq (nat_cmp q k)) (Some m) rest)
one_more (Some x) rest q k m = refl
one_more None rest q k m = rw (← same_test q k) (elim (cases_Bool (eqb q k)) [ inl e ↦ rw e refl | inr e ↦ rw e refl ])

pub loop-id-preserved : goal.loop-id-preserved
loop-id-preserved c q =
    ap (λ o. or_else o (lookup (λ k. is_eq (nat_cmp q k)) c.next.new.self)) (c.in_ok-put.ensures.added q)
    ∙ (one_more (map_of c.loop-id.self q) (lookup (λ k. is_eq (nat_cmp q k)) c.next.new.self) q c.in-Some.id.now c.in-Some.map.now
    ∙ (ap (λ es. or_else (map_of c.loop-id.self q) (lookup (λ k. is_eq (nat_cmp q k)) es)) (sym c.in-Some.ensures.steps) ∙ c.loop-id.invariant q))

pub returns : goal.returns
returns c q =
    sym (or_none (map_of c.loop-id.self q))
    ∙ (ap (λ es. or_else (map_of c.loop-id.self q) (lookup (λ k. is_eq (nat_cmp q k)) es)) (sym c.in-None.ensures.steps.0) ∙ c.loop-id.invariant q)
