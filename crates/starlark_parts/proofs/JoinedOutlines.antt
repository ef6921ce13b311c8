-- The outline of texts that stand one behind another is that of the joined text.
use Rattle.std.proofs.Common.{◌≡◌, ◌<◌, ◌∙◌, ℕ, ◌+◌, List, [], ◌∷◌, ◌++◌, length, map, true, false, Some, None, refl, ap, sym, arith, inl, inr, subst}
use Rattle.std.specs.List.{All}
use Rattle.std.proofs.lemmas.List.{map-append}
use Rattle.std.proofs.lemmas.List.Elements.{All-head, All-tail}
use Rattle.starlark_place.specs.Place.{line_feeds}
use Rattle.starlark_place.specs.Resolved.{resolved}
use Rattle.starlark_lexer.specs.Items.{item, newline}
use Rattle.starlark_lexer.specs.Joining.{IsClosed}
use Rattle.starlark_lexer.specs.Lex.{is_over, last_line, start}
use Rattle.starlark_lexer.specs.Widths.{Closes, IsOpen}
use Rattle.starlark_lexer.specs.declared.dialect.Dialect.{Dialect}
use Rattle.starlark_ast.specs.Tree as t
use Rattle.starlark_ast.specs.Tree.{Statement}
use Rattle.starlark_grammar.specs.Grammar.{whole, blank, nothing}
use Rattle.starlark_grammar.specs.Language.{Language}
use Rattle.starlark_grammar.specs.Nested.{StatementIn}
use Rattle.starlark_grammar.specs.Nodes.{block_of}
use Rattle.starlark_grammar.specs.Spans.{stretch}
use Rattle.starlark_joining.specs.Joined.{behind}
use Rattle.starlark_joining.specs.Kept.{Moved}
use Rattle.starlark_joining.specs.Trees.{AreJoined}
use Rattle.starlark_parts.specs.Kept.{joined}
use Rattle.starlark_parts.specs.Outlines.{AreOutlines, IsOutline, no_texts, and_text, beginning, item_down, items_down, place_down}
use Rattle.starlark_parts.specs.Tops.{all_top, top_level, word_of}
use Rattle.starlark_parts.specs.declared.word.OutlineItem.{OutlineItem}
use Rattle.starlark_parts.proofs.JoinedPlaces.{column_behind, line_behind, resolved_before}
use Rattle.starlark_parts.proofs.JoinedTrees.{Within, begin_of, begin_on, begins_all, begins_tops, goes_all, top_behind, top_block, within, words_all, words_tops}

-- the laws that this stands on
abbrev pub JoinedTrees : Type 0
JoinedTrees = (dialect : Dialect) (a b : List ℕ) (x y : Statement) → IsClosed a → Language dialect a x → Language dialect b y → AreJoined dialect a b x y

abbrev pub NestedPlaces : Type 0
NestedPlaces = (dialect : Dialect) (text : List ℕ) (tree : Statement) → Language dialect text tree → StatementIn (stretch 0 (length text)) tree

-- ---- items moved down

pub words_down : (n : ℕ) (xs : List OutlineItem) → map (λ x. Some x.word) (items_down n xs) ≡ map (λ x. Some x.word) xs
words_down n [] = refl
words_down n (x ∷ xs) = ap (λ ws. Some x.word ∷ ws) (words_down n xs)

begins_down : (n : ℕ) (xs : List OutlineItem) → map (λ x. x.begin) (items_down n xs) ≡ map (place_down n) (map (λ x. x.begin) xs)
begins_down n [] = refl
begins_down n (x ∷ xs) = ap (λ ps. place_down n x.begin ∷ ps) (begins_down n xs)

pub not_down : (xs : List OutlineItem) → items_down 0 xs ≡ xs
not_down [] = refl
not_down (x ∷ xs) =
    let e : 0 + x.begin.line ≡ x.begin.line = omega arith in
    λ i. record { word = x.word; begin = record { line = e i; column = x.begin.column } } ∷ not_down xs i

down_twice : (n m : ℕ) (xs : List OutlineItem) → items_down n (items_down m xs) ≡ items_down (n + m) xs
down_twice n m [] = refl
down_twice n m (x ∷ xs) =
    let e : n + (m + x.begin.line) ≡ (n + m) + x.begin.line = omega arith in
    λ i. record { word = x.word; begin = record { line = e i; column = x.begin.column } } ∷ down_twice n m xs i

-- ---- beginnings

by_begins : (text : List ℕ) (ss : List Statement) → map (beginning text) ss ≡ map (resolved text) (map begin_of ss)
by_begins text [] = refl
by_begins text (s ∷ ss) = ap (λ ps. beginning text s ∷ ps) (by_begins text ss)

module _ (a b : List ℕ) where
  -- those in the first text stay
  begins_stay : (ss : List Statement) → All (Within (length a)) ss → map (beginning a) ss ≡ map (beginning (a ++ b)) ss
  begins_stay [] h = refl
  begins_stay (s ∷ ss) h =
      λ i. sym (resolved_before a b (begin_of s) (All-head (Within (length a)) s ss h)) i ∷ begins_stay ss (All-tail (Within (length a)) s ss h) i

  -- those in the second are moved down
  begins_move : IsClosed a → (ss : List Statement) → map (place_down (line_feeds a)) (map (beginning b) ss) ≡ map (resolved (a ++ b)) (map (begin_on (length a)) ss)
  begins_move h [] = refl
  begins_move h (s ∷ ss) =
      λ i. record { line = sym (line_behind a b (begin_of s)) i; column = sym (column_behind a b (begin_of s) h) i } ∷ begins_move h ss i

-- ---- two texts, no text, and all texts

none_open : (x : ℕ) → IsOpen [] x → 0 < x → ⊥
none_open x (inl e) l = omega (arith, e, l)
none_open x (inr (k, below, is, least)) l = omega (arith, below)

no_widths : Closes [] 0 []
no_widths = record {
  once = λ k l. absurd (omega (arith, l));
  each = λ x. ((λ e. absurd (let f : false ≡ true = e in cc)), (λ p. absurd (none_open x p.0 p.1)));
}

-- the empty text is in the language
pub empty_language : (dialect : Dialect) → Language dialect [] (block_of t.no_statements 0)
empty_language dialect = record {
  lexed = record { items = item 0 newline 0 ∷ []; fault = None };
  lexes = is_over start [] _ (last_line start [] [] refl refl no_widths);
  no_fault = refl;
  program = record { derives = whole (blank nothing); clean = tt; sound = refl };
}

module _ (law : JoinedTrees) (nested : NestedPlaces) (dialect : Dialect) where
  module _ (a b : List ℕ) (xs ys : List OutlineItem) (closed : IsClosed a) (h : IsOutline dialect a xs) (k : IsOutline dialect b ys) where
    both : AreJoined dialect a b h.tree k.tree
    both = law dialect a b h.tree k.tree closed h.language k.language

    first_tops : top_level h.tree ≡ all_top both.first
    first_tops = ap top_level both.is_first ∙ top_block both.first both.first_end

    second_tops : top_level k.tree ≡ all_top both.second
    second_tops = ap top_level both.is_second ∙ top_block both.second both.second_end

    all_tops : top_level both.tree ≡ all_top both.first_there ++ all_top both.second_there
    all_tops = ap top_level both.is_both ∙ top_block (behind both.first_there both.second_there) both.end ∙ top_behind both.first_there both.second_there

    first_words : map (λ x. Some x.word) xs ≡ map word_of (all_top both.first_there)
    first_words = h.all.words ∙ ap (map word_of) first_tops ∙ words_tops both.stays

    second_words : map (λ x. Some x.word) (items_down (line_feeds a) ys) ≡ map word_of (all_top both.second_there)
    second_words = words_down (line_feeds a) ys ∙ k.all.words ∙ ap (map word_of) second_tops ∙ words_all (Moved (length a)) both.moves

    first_within : All (Within (length a)) (top_level h.tree)
    first_within = within (length a) (stretch 0 (length a)) h.tree (omega arith) (nested dialect a h.tree h.language)

    first_begins : map (λ x. x.begin) xs ≡ map (beginning (a ++ b)) (all_top both.first_there)
    first_begins =
        h.all.begins ∙ begins_stay a b (top_level h.tree) first_within ∙ ap (map (beginning (a ++ b))) first_tops
        ∙ by_begins (a ++ b) (all_top both.first)
        ∙ ap (map (resolved (a ++ b))) (sym (begins_all both.first) ∙ begins_tops both.stays ∙ begins_all both.first_there)
        ∙ sym (by_begins (a ++ b) (all_top both.first_there))

    second_begins : map (λ x. x.begin) (items_down (line_feeds a) ys) ≡ map (beginning (a ++ b)) (all_top both.second_there)
    second_begins =
        begins_down (line_feeds a) ys ∙ ap (map (place_down (line_feeds a))) (k.all.begins ∙ ap (map (beginning b)) second_tops)
        ∙ begins_move a b closed (all_top both.second)
        ∙ ap (map (resolved (a ++ b))) (sym (goes_all (length a) both.moves))
        ∙ sym (by_begins (a ++ b) (all_top both.second_there))

    pub two_outlines : IsOutline dialect (a ++ b) (xs ++ items_down (line_feeds a) ys)
    two_outlines = record {
      tree = both.tree;
      language = both.language;
      all = record {
        words = map-append (λ x. Some x.word) xs (items_down (line_feeds a) ys) ∙ (λ i. first_words i ++ second_words i)
            ∙ sym (map-append word_of (all_top both.first_there) (all_top both.second_there)) ∙ ap (map word_of) (sym all_tops);
        begins = map-append (λ x. x.begin) xs (items_down (line_feeds a) ys) ∙ (λ i. first_begins i ++ second_begins i)
            ∙ sym (map-append (beginning (a ++ b)) (all_top both.first_there) (all_top both.second_there)) ∙ ap (map (beginning (a ++ b))) (sym all_tops);
      };
    }

  pub no_outline : IsOutline dialect [] []
  no_outline = record { tree = block_of t.no_statements 0; language = empty_language dialect; all = record { words = refl; begins = refl } }

  joined_from : (n : ℕ) (texts : List (List ℕ)) (items : List OutlineItem) → All IsClosed texts → AreOutlines dialect n texts items
      → (xs : List OutlineItem) × IsOutline dialect (joined texts) xs × (items ≡ items_down n xs)
  joined_from n [] items c no_texts = ([], no_outline, refl)
  joined_from n (a ∷ ts) items c (and_text {xs} {ys} h k) =
      let more = joined_from (n + line_feeds a) ts ys (All-tail IsClosed a ts c) k in (
        xs ++ items_down (line_feeds a) more.0,
        two_outlines a (joined ts) xs more.0 (All-head IsClosed a ts c) h more.1,
        ap (λ zs. items_down n xs ++ zs) (more.2 ∙ sym (down_twice n (line_feeds a) more.0)) ∙ sym (map-append (item_down n) xs (items_down (line_feeds a) more.0)),
      )

  pub joined_outline : (texts : List (List ℕ)) (items : List OutlineItem) → All IsClosed texts → AreOutlines dialect 0 texts items → IsOutline dialect (joined texts) items
  joined_outline texts items c h =
      let all = joined_from 0 texts items c h in
      subst (IsOutline dialect (joined texts)) (sym (all.2 ∙ not_down all.0)) all.1
