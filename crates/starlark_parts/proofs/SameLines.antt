-- A text among others is replaced by one with as many line feeds.
use Rattle.std.proofs.Common.{◌≡◌, ℕ, ◌+◌, List, [], ◌∷◌, ◌++◌, refl, sym, arith, append_assoc, subst}
use Rattle.std.specs.List.{All}
use Rattle.std.proofs.lemmas.List.Elements.{All-append, All-cons}
use Rattle.starlark_place.specs.Place.{line_feeds}
use Rattle.starlark_lexer.specs.Joining.{IsClosed}
use Rattle.starlark_lexer.specs.declared.dialect.Dialect.{Dialect}
use Rattle.starlark_parts.specs.Kept.{joined}
use Rattle.starlark_parts.specs.Outlines.{AreOutlines, IsOutline, and_text, items_down, no_texts}
use Rattle.starlark_parts.specs.declared.word.OutlineItem.{OutlineItem}
use Rattle.starlark_parts.proofs.JoinedPlaces.{feeds_append}
use Rattle.starlark_parts.proofs.OneOutline.{JoinedOutline}

module _ (dialect : Dialect) where
  -- outlines of texts, and of more texts behind them
  outlines_append : (n : ℕ) (ts us : List (List ℕ)) (xs ys : List OutlineItem) → AreOutlines dialect n ts xs → AreOutlines dialect (n + line_feeds (joined ts)) us ys → AreOutlines dialect n (ts ++ us) (xs ++ ys)
  outlines_append n [] us xs ys no_texts k =
      let e : n + line_feeds [] ≡ n = omega arith in
      subst (λ m. AreOutlines dialect m us ys) e k
  outlines_append n (t ∷ ts) us _ ys (and_text {xs} {ys = more} h l) k =
      let e : n + line_feeds (joined (t ∷ ts)) ≡ (n + line_feeds t) + line_feeds (joined ts) = omega (arith, feeds_append t (joined ts)) in
      let rest : AreOutlines dialect (n + line_feeds t) (ts ++ us) (more ++ ys) = outlines_append (n + line_feeds t) ts us more ys l (subst (λ m. AreOutlines dialect m us ys) e k) in
      subst (AreOutlines dialect n (t ∷ (ts ++ us))) (sym (append_assoc (items_down n xs) more ys)) (and_text h rest)

  -- the outline of a text between others
  between : JoinedOutline → (before after : List (List ℕ)) (a : List ℕ) (n : ℕ) (xs ys zs : List OutlineItem) → All IsClosed before → IsClosed a → All IsClosed after → n ≡ line_feeds a
      → AreOutlines dialect 0 before xs → IsOutline dialect a ys → AreOutlines dialect (line_feeds (joined before) + n) after zs
      → IsOutline dialect (joined (before ++ a ∷ after)) (xs ++ (items_down (line_feeds (joined before)) ys ++ zs))
  between law before after a n xs ys zs c d e same h k l =
      let feeds : ℕ = line_feeds (joined before) in
      let zero_more : feeds ≡ 0 + feeds = omega arith in
      let from_here : AreOutlines dialect feeds (a ∷ after) (items_down feeds ys ++ zs) = and_text k (subst (λ m. AreOutlines dialect (feeds + m) after zs) same l) in
      let closed : All IsClosed (before ++ a ∷ after) = All-append IsClosed before (a ∷ after) c (All-cons IsClosed a after d e) in
      let behind : AreOutlines dialect (0 + feeds) (a ∷ after) (items_down feeds ys ++ zs) = subst (λ m. AreOutlines dialect m (a ∷ after) (items_down feeds ys ++ zs)) zero_more from_here in
      law dialect (before ++ a ∷ after) (xs ++ (items_down feeds ys ++ zs)) closed (outlines_append 0 before (a ∷ after) xs (items_down feeds ys ++ zs) h behind)

pub same_lines : JoinedOutline → (dialect : Dialect) (before after : List (List ℕ)) (a b : List ℕ) (xs ys vs zs : List OutlineItem) → All IsClosed before → IsClosed a → IsClosed b → All IsClosed after → line_feeds a ≡ line_feeds b
    → AreOutlines dialect 0 before xs → IsOutline dialect a ys → IsOutline dialect b vs → AreOutlines dialect (line_feeds (joined before) + line_feeds a) after zs
    → IsOutline dialect (joined (before ++ a ∷ after)) (xs ++ (items_down (line_feeds (joined before)) ys ++ zs)) × IsOutline dialect (joined (before ++ b ∷ after)) (xs ++ (items_down (line_feeds (joined before)) vs ++ zs))
same_lines law dialect before after a b xs ys vs zs c d e f same h k l m =
    (between dialect law before after a (line_feeds a) xs ys zs c d f refl h k m, between dialect law before after b (line_feeds a) xs vs zs c e f same h l m)
