-- The items that an iterator has before it, as it goes on.
use Rattle.std.proofs.Common.{◌≡◌, ◌≤◌, ◌+◌, Bool, true, List, [], ◌∷◌, ◌++◌, length, map, ap, sym, ◌∙◌, arith, subst, refl}
use Rattle.std.specs.Prelude.{◌==◌}
use Rattle.std.specs.List.{All}
use Rattle.std.proofs.lemmas.Bool.Decides.{nat_tests}
use Rattle.std.proofs.lemmas.List.Elements.{All-head, All-tail}
use Rattle.std.proofs.lemmas.List.Sums.{sum_by-cons}
use Rattle.starlark_ast.specs.View.{stmt_at}
use Rattle.starlark_parts.specs.Held.{AllAbove, IsAbove, all_feeds, items_of, outline_from}
use Rattle.starlark_parts.specs.Left.{AreFew, items_left, zipped}
use Rattle.starlark_parts.specs.Outlines.{items_down}
use Rattle.starlark_parts.specs.Walk.{Stmt}
use Rattle.starlark_parts.specs.declared.items.Items.TheInside.{Inside}
use Rattle.starlark_parts.specs.declared.part.Part.{Part}
use Rattle.starlark_parts.specs.declared.word.OutlineItem.{OutlineItem}

pub no_items : (xs : List OutlineItem) (r : Bool) → r ≡ (length xs == 0) → r ≡ true → xs ≡ []
no_items [] r e h = refl
no_items (x ∷ xs) r e h = let z : length (x ∷ xs) ≡ 0 = grind (arith, nat_tests) in absurd (omega (arith, z))

module _ (a b : Inside) (h : AreFew a) where
  -- with the next part
  module _ (p : Part) (ps : List Part) (e : a.parts.now ≡ p ∷ ps) (i : b.items.now ≡ items_of p) (l : b.line ≡ a.behind) (r : b.parts.now ≡ ps) (n : b.behind ≡ a.behind + p.feeds) where
    here : All IsAbove (p ∷ ps)
    here = subst (All IsAbove) e h.parts

    sum : all_feeds a.parts.now ≡ p.feeds + all_feeds ps
    sum = ap all_feeds e ∙ sum_by-cons (λ p. p.feeds) p ps

    pub few_next : AreFew b
    few_next = record {
      feeds = p.feeds;
      above = subst (AllAbove p.feeds) (sym i) (All-head IsAbove p ps here);
      line = omega (arith, l, sum, h.behind);
      parts = subst (All IsAbove) (sym r) (All-tail IsAbove p ps here);
      behind = omega (arith, n, ap all_feeds r, sum, h.behind);
    }

    pub same_next : a.items.now ≡ [] → items_left b ≡ items_left a
    same_next none = (λ j. items_down (l j) (i j) ++ outline_from (n j) (r j)) ∙ ap (outline_from a.behind) (sym e) ∙ ap (λ xs. items_down a.line xs ++ outline_from a.behind a.parts.now) (sym none)

  -- without the first item
  pub few_rest : (x : OutlineItem) (xs : List OutlineItem) → a.items.now ≡ x ∷ xs → b.items.now ≡ xs → b.line ≡ a.line → b.parts.now ≡ a.parts.now → b.behind ≡ a.behind → AreFew b
  few_rest x xs e i l r n = record {
    feeds = h.feeds;
    above = subst (AllAbove h.feeds) (sym i) (All-tail (λ x. x.begin.line ≤ h.feeds) x xs (subst (AllAbove h.feeds) e h.above));
    line = omega (arith, l, h.line);
    parts = subst (All IsAbove) (sym r) h.parts;
    behind = omega (arith, n, ap all_feeds r, h.behind);
  }

zipped_none : (ys : List OutlineItem) → zipped [] ys ≡ []
zipped_none [] = refl
zipped_none (y ∷ ys) = refl

-- without statements
pub none_left : (xs : List Stmt) (ys : List OutlineItem) → xs ≡ [] → zipped (map stmt_at xs) ys ≡ []
none_left xs ys e = ap (λ t. zipped (map stmt_at t) ys) e ∙ zipped_none ys
