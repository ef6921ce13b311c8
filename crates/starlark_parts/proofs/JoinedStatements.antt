-- The statements of all parts have the words and the beginnings of their outline.
use Rattle.std.proofs.Common.{◌≡◌, ◌∙◌, ℕ, ◌+◌, List, [], ◌∷◌, ◌++◌, map, Some, refl, ap, sym}
use Rattle.std.specs.List.{All, flat_map}
use Rattle.std.proofs.lemmas.List.{map-append}
use Rattle.std.proofs.lemmas.List.Elements.{All-cons, All-head, All-nil, All-tail}
use Rattle.starlark_lexer.specs.Joining.{IsClosed}
use Rattle.starlark_lexer.specs.declared.dialect.Dialect.{Dialect}
use Rattle.starlark_ast.specs.Tree.{Statement}
use Rattle.starlark_ast.specs.View.{stmt_at}
use Rattle.starlark_parts.specs.Held.{AreParts, IsPart, items_of, outline_from, statements_of, text_of, texts_of}
use Rattle.starlark_parts.specs.Kept.{joined}
use Rattle.starlark_parts.specs.Left.{zipped}
use Rattle.starlark_parts.specs.Outlines.{IsOutline, ShowOutline, items_down}
use Rattle.starlark_parts.specs.Tops.{word_of}
use Rattle.starlark_parts.specs.declared.part.Part.{Part}
use Rattle.starlark_parts.specs.declared.word.OutlineItem.{OutlineItem}
use Rattle.starlark_parts.proofs.JoinedOutlines.{words_down}
use Rattle.starlark_parts.proofs.Held.{are_outlines}
use Rattle.starlark_parts.proofs.OneOutline.{JoinedOutline}

pub closed_texts : (dialect : Dialect) (ps : List Part) → AreParts dialect ps → All IsClosed (texts_of ps)
closed_texts dialect [] h = All-nil IsClosed
closed_texts dialect (p ∷ ps) h = All-cons IsClosed (text_of p) (texts_of ps) (All-head (IsPart dialect) p ps h).closed (closed_texts dialect ps (All-tail (IsPart dialect) p ps h))

-- the outline of parts is that of the joined text
pub joined_parts : JoinedOutline → (dialect : Dialect) (ps : List Part) → AreParts dialect ps → IsOutline dialect (joined (texts_of ps)) (outline_from 0 ps)
joined_parts law dialect ps h = law dialect (texts_of ps) (outline_from 0 ps) (closed_texts dialect ps h) (are_outlines dialect 0 ps h)

-- ---- statements with items

zipped_words : (ss : List Statement) (xs : List OutlineItem) → map word_of ss ≡ map (λ x. Some x.word) xs → map (λ p. word_of p.statement) (zipped ss xs) ≡ map (λ x. Some x.word) xs
zipped_words [] [] h = refl
zipped_words [] (x ∷ xs) h = absurd (cc)
zipped_words (s ∷ ss) [] h = refl
zipped_words (s ∷ ss) (x ∷ xs) h =
    let first : word_of s ≡ Some x.word = cc in
    let others : map word_of ss ≡ map (λ x. Some x.word) xs = cc in
    λ i. first i ∷ zipped_words ss xs others i

zipped_begins : (ss : List Statement) (xs : List OutlineItem) → map word_of ss ≡ map (λ x. Some x.word) xs → map (λ p. p.begin) (zipped ss xs) ≡ map (λ x. x.begin) xs
zipped_begins [] [] h = refl
zipped_begins [] (x ∷ xs) h = absurd (cc)
zipped_begins (s ∷ ss) [] h = refl
zipped_begins (s ∷ ss) (x ∷ xs) h =
    let others : map word_of ss ≡ map (λ x. Some x.word) xs = cc in
    ap (λ bs. x.begin ∷ bs) (zipped_begins ss xs others)

all_words : (dialect : Dialect) (n : ℕ) (ps : List Part) → AreParts dialect ps → map word_of (map stmt_at (flat_map statements_of ps)) ≡ map (λ x. Some x.word) (outline_from n ps)
all_words dialect n [] h = refl
all_words dialect n (p ∷ ps) h =
    let part : IsPart dialect p = All-head (IsPart dialect) p ps h in
    let rest : List Statement = map stmt_at (flat_map statements_of ps) in
    let behind : List OutlineItem = outline_from (n + p.feeds) ps in
    let here : map word_of (map stmt_at (statements_of p)) ≡ map (λ x. Some x.word) (items_down n (items_of p)) = ap (map word_of) part.statements ∙ sym part.outline.words ∙ sym (words_down n (items_of p)) in
    let more : map word_of rest ≡ map (λ x. Some x.word) behind = all_words dialect (n + p.feeds) ps (All-tail (IsPart dialect) p ps h) in
    ap (map word_of) (map-append stmt_at (statements_of p) (flat_map statements_of ps)) ∙ map-append word_of (map stmt_at (statements_of p)) rest
    ∙ (λ i. here i ++ more i) ∙ sym (map-append (λ x. Some x.word) (items_down n (items_of p)) behind)

pub show_outline : JoinedOutline → (dialect : Dialect) (ps : List Part) → AreParts dialect ps → ShowOutline dialect (joined (texts_of ps)) (zipped (map stmt_at (flat_map statements_of ps)) (outline_from 0 ps))
show_outline law dialect ps h =
    let ss : List Statement = map stmt_at (flat_map statements_of ps) in
    let words : map word_of ss ≡ map (λ x. Some x.word) (outline_from 0 ps) = all_words dialect 0 ps h in
    record {
      items = outline_from 0 ps;
      outline = joined_parts law dialect ps h;
      words = zipped_words ss (outline_from 0 ps) words;
      begins = zipped_begins ss (outline_from 0 ps) words;
    }
