-- The statements of texts that stand one behind another are, but for their places, those of the joined text.
use Rattle.std.proofs.Common.{◌≡◌, ◌∙◌, ℕ, ◌+◌, List, [], ◌∷◌, ◌++◌, length, map, refl, ap, sym}
use Rattle.std.specs.List.{All}
use Rattle.std.proofs.lemmas.List.{map-append}
use Rattle.std.proofs.lemmas.List.Elements.{All-head, All-tail}
use Rattle.starlark_place.specs.Place.{line_feeds}
use Rattle.starlark_lexer.specs.Joining.{IsClosed}
use Rattle.starlark_lexer.specs.declared.dialect.Dialect.{Dialect}
use Rattle.starlark_ast.specs.Tree as t
use Rattle.starlark_ast.specs.Tree.{Statement}
use Rattle.starlark_grammar.specs.Nodes.{block_of}
use Rattle.starlark_joining.specs.Joined.{behind}
use Rattle.starlark_joining.specs.Kept.{Moved}
use Rattle.starlark_joining.specs.Trees.{AreJoined}
use Rattle.starlark_parts.specs.Bare.{bare}
use Rattle.starlark_parts.specs.Kept.{joined}
use Rattle.starlark_parts.specs.Outlines.{AreAllStatements, AreStatements, AreTops, Placed, all_down, and_statements, no_statements, placed}
use Rattle.starlark_parts.specs.Tops.{all_top, top_level}
use Rattle.starlark_parts.proofs.Bare.{tops_all, tops_but_last}
use Rattle.starlark_parts.proofs.JoinedOutlines.{JoinedTrees, empty_language}
use Rattle.starlark_parts.proofs.JoinedTrees.{top_behind, top_block}

-- what the statements are without their places
abbrev bare_all : List Placed → List Statement
bare_all xs = map (λ x. bare x.statement) xs

bare_down : (n : ℕ) (xs : List Placed) → bare_all (all_down n xs) ≡ bare_all xs
bare_down n [] = refl
bare_down n (x ∷ xs) = ap (λ q. bare x.statement ∷ q) (bare_down n xs)

bare_placed : (text : List ℕ) (ss : List Statement) → bare_all (map (placed text) ss) ≡ map bare ss
bare_placed text [] = refl
bare_placed text (s ∷ ss) = ap (λ q. bare s ∷ q) (bare_placed text ss)

module _ (law : JoinedTrees) (dialect : Dialect) where
  module _ (a b : List ℕ) (n : ℕ) (xs ys : List Placed) (closed : IsClosed a) (h : AreStatements dialect a xs) (k : AreTops dialect b ys) where
    both : AreJoined dialect a b h.tree k.tree
    both = law dialect a b h.tree k.tree closed h.language k.language

    front : bare_all (all_down n xs) ≡ map bare (all_top both.first_there)
    front =
        bare_down n xs ∙ ap bare_all h.all ∙ bare_placed a (top_level h.tree)
        ∙ ap (map bare) (ap top_level both.is_first ∙ top_block both.first both.first_end) ∙ tops_but_last both.stays

    back : bare_all ys ≡ map bare (all_top both.second_there)
    back = k.same ∙ ap (map bare) (ap top_level both.is_second ∙ top_block both.second both.second_end) ∙ tops_all (Moved (length a)) both.moves

    all : top_level both.tree ≡ all_top both.first_there ++ all_top both.second_there
    all = ap top_level both.is_both ∙ top_block (behind both.first_there both.second_there) both.end ∙ top_behind both.first_there both.second_there

    two_texts : AreTops dialect (a ++ b) (all_down n xs ++ ys)
    two_texts = record {
      tree = both.tree;
      language = both.language;
      same = map-append (λ x. bare x.statement) (all_down n xs) ys ∙ (λ i. front i ++ back i) ∙ sym (map-append bare (all_top both.first_there) (all_top both.second_there)) ∙ ap (map bare) (sym all);
    }

  pub joined_tops : (n : ℕ) (texts : List (List ℕ)) (xs : List Placed) → All IsClosed texts → AreAllStatements dialect n texts xs → AreTops dialect (joined texts) xs
  joined_tops n [] xs c no_statements = record { tree = block_of t.no_statements 0; language = empty_language dialect; same = refl }
  joined_tops n (a ∷ ts) _ c (and_statements {xs} {ys} h k) =
      two_texts a (joined ts) n xs ys (All-head IsClosed a ts c) h (joined_tops (n + line_feeds a) ts ys (All-tail IsClosed a ts c) k)
