-- Where a construct has ended, none of its kind at the same beginning is longer.
use Rattle.std.proofs.Common.{ℕ, ◌≡◌, ◌<◌, ◌≤◌, ◌∷◌, ◌++◌, [], suc, List, sym, arith, length}
use Rattle.starlark_lexer.specs.Items.{Item}
use Rattle.starlark_grammar.specs.Events.{Event, typed, assigned, looped, shaped}
use Rattle.starlark_grammar.specs.Language.{HasEnded, last_end}
use Rattle.starlark_grammar.specs.Longer.{for_sort, type_sort, assignment_sort, sort_of, begin_of, IsConstruct, AreFirm, InOrder, no_token, one_token, GoesLonger}
use Rattle.starlark_grammar.proofs.Meeting.{no_some}
use Rattle.starlark_grammar.proofs.Ranges.{Limits, Laid, no_tokens, a_token}
use Rattle.starlark_grammar.proofs.RangesOfStatements.{all_unique}

abbrev pub limits : ℕ → ℕ → Limits
limits n k = record { firm = n; last = k }

pub laid_behind : {n k m : ℕ} {xs : List Item} → n ≤ m → last_end m xs ≤ k → InOrder m xs → Laid (limits n k) m xs
laid_behind h q no_token = no_tokens q
laid_behind h q (one_token a b o) = a_token a b (λ c d. omega (arith, h, a, d)) (laid_behind (omega (arith, h, a, b)) q o)

laid : {k m : ℕ} (w : List Item) (x : Item) (more : List Item) → InOrder m (w ++ x ∷ []) → AreFirm w → InOrder x.end more → last_end x.end more ≤ k → Laid (limits x.begin k) m (w ++ x ∷ more)
laid [] x more (one_token a b o) f q z = a_token a b (λ c d. omega (arith, d)) (laid_behind b z q)
laid (y ∷ ys) x more (one_token a b o) f q z = a_token a b (λ c d. f.0 c) (laid ys x more o f.1 q z)

like : (d e : Event) → IsConstruct e → sort_of d ≡ sort_of e → IsConstruct d
like (shaped k s) (typed t) c h = no_some type_sort h
like (shaped k s) (assigned l t o) c h = no_some assignment_sort h
like (shaped k s) (looped l) c h = no_some for_sort h
like (shaped k s) (shaped i u) c h = c
like (typed t) e c h = tt
like (assigned l t o) e c h = tt
like (looped l) e c h = tt

pub ended_not_longer : (w : List Item) (x : Item) (xs : List Item) (e : Event) → IsConstruct e → InOrder 0 (w ++ x ∷ []) → AreFirm w → begin_of e < x.begin → HasEnded w (x ∷ xs) e → GoesLonger w x e → ⊥
ended_not_longer w x xs e c o f b h g =
    let n : suc (length g.more) ≡ g.left = all_unique g.derives (laid {k = last_end x.end g.more} w x g.more o f g.in_order (omega arith)) (suc (length g.more)) g.left e g.longer c (like g.longer e c g.same_sort) (sym g.same_begin) b (h g.more g.raw g.derives) g.is_mark in
    let k = g.behind in
    omega (arith, n, k)
