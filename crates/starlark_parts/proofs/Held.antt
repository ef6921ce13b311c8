-- A part, and the outlines and statements of several.
use Rattle.std.proofs.Common.{◌≡◌, ◌≤◌, ℕ, ◌+◌, List, [], ◌∷◌, ◌++◌, length, map, take, drop, cond, refl, ap, sym, ◌∙◌, arith, subst}
use Rattle.std.specs.Prelude.{Err, IfOk, Ok, Result}
use Rattle.std.specs.List.{All, flat_map}
use Rattle.std.proofs.lemmas.List.{length-map, map-append, take-append-drop}
use Rattle.std.proofs.lemmas.List.Elements.{All-cons, All-head, All-nil, All-tail}
use Rattle.std.proofs.lemmas.List.Sums.{sum_by-append}
use Rattle.starlark_place.specs.Place.{File, is_feed, line_at, line_feeds}
use Rattle.starlark_lexer.specs.Joining.{IsClosed}
use Rattle.starlark_lexer.specs.declared.dialect.Dialect.{Dialect}
use Rattle.starlark_ast.specs.Tree.{Statement, statement_place}
use Rattle.starlark_ast.specs.View.{stmt_at}
use Rattle.starlark_grammar.specs.Language.{Language}
use Rattle.starlark_parser.specs.Modules.{file_of, tree_of}
use Rattle.starlark_parser.specs.declared.fault.EvalException.{EvalException}
use Rattle.starlark_parser.specs.declared.module.AstModule.{AstModule}
use Rattle.starlark_parts.specs.Flat.{IsFlat}
use Rattle.starlark_parts.specs.Held.{AllAbove, AreParts, IsPart, items_of, outline_from, statements_of, text_of, texts_of}
use Rattle.starlark_parts.specs.Left.{zipped}
use Rattle.starlark_parts.specs.Outlines.{AreAllStatements, AreItems, AreOutlines, and_statements, and_text, no_statements, no_texts, all_down, beginning, item_down, items_down, place_down, placed}
use Rattle.starlark_parts.specs.Tops.{top_level}
use Rattle.starlark_parts.specs.declared.fault.PartFault.{PartFault}
use Rattle.starlark_parts.specs.declared.part.Part.{Part}
use Rattle.starlark_parts.specs.declared.word.OutlineItem.{OutlineItem}
use Rattle.starlark_parts.proofs.Walks.{tops}

-- ---- one part

feeds-take : (text : List ℕ) (i : ℕ) → line_at text i ≤ line_feeds text
feeds-take text i = omega (arith, sum_by-append (λ b. cond (is_feed b) 1 0) (take i text) (drop i text), ap line_feeds (take-append-drop i text))

within : (text : List ℕ) (ss : List Statement) → All (λ p. p.line ≤ line_feeds text) (map (beginning text) ss)
within text [] = All-nil (λ p. p.line ≤ line_feeds text)
within text (s ∷ ss) = All-cons (λ p. p.line ≤ line_feeds text) (beginning text s) (map (beginning text) ss) (feeds-take text (statement_place s).begin) (within text ss)

begins_above : (n : ℕ) (xs : List OutlineItem) → All (λ p. p.line ≤ n) (map (λ x. x.begin) xs) → AllAbove n xs
begins_above n [] h = All-nil (λ x. x.begin.line ≤ n)
begins_above n (x ∷ xs) h =
    All-cons (λ x. x.begin.line ≤ n) x xs (All-head (λ p. p.line ≤ n) x.begin (map (λ x. x.begin) xs) h) (begins_above n xs (All-tail (λ p. p.line ≤ n) x.begin (map (λ x. x.begin) xs) h))

above : (text : List ℕ) (tree : Statement) (xs : List OutlineItem) → AreItems text tree xs → AllAbove (line_feeds text) xs
above text tree xs h = begins_above (line_feeds text) xs (subst (All (λ p. p.line ≤ line_feeds text)) (sym h.begins) (within text (top_level tree)))

pub is_part : (dialect : Dialect) (p : Part) (m : AstModule) → p.read ≡ m → Language dialect (file_of m).source (tree_of m) → IsFlat (tree_of m) → IsClosed (file_of m).source
    → AreItems (file_of m).source (tree_of m) (items_of p) → p.feeds ≡ line_feeds (file_of m).source → IsPart dialect p
is_part dialect p m e = subst (λ m. Language dialect (file_of m).source (tree_of m) → IsFlat (tree_of m) → IsClosed (file_of m).source → AreItems (file_of m).source (tree_of m) (items_of p) → p.feeds ≡ line_feeds (file_of m).source → IsPart dialect p) e (λ language flat closed items feeds. record {
  language = language;
  closed = closed;
  outline = items;
  statements = tops _ flat;
  feeds = feeds;
  above = subst (λ n. AllAbove n (items_of p)) (sym feeds) (above (text_of p) (tree_of p.read) (items_of p) items);
})

-- a module whose text is closed, as a part
pub ok_part : (dialect : Dialect) (m : AstModule) (text : List ℕ) (r : Result Part PartFault) → (file_of m).source ≡ text → Language dialect text (tree_of m) → IsFlat (tree_of m)
    → IfOk r (λ p. p.read ≡ m) → IfOk r (λ _. IsClosed (file_of m).source) → IfOk r (λ p. AreItems (file_of m).source (tree_of m) (items_of p)) → IfOk r (λ p. p.feeds ≡ line_feeds (file_of m).source) → IfOk r (IsPart dialect)
ok_part dialect m text (Ok p) same language flat e closed items feeds = is_part dialect p m e (subst (λ t. Language dialect t (tree_of m)) (sym same) language) flat closed items feeds
ok_part dialect m text (Err f) same language flat e closed items feeds = tt

-- the text of a module that is answered
pub source_of : (r : Result AstModule EvalException) (m : AstModule) (f : File) → r ≡ Ok m → IfOk r (λ m. file_of m ≡ f) → (file_of m).source ≡ f.source
source_of r m f is h = ap (λ f. f.source) (subst (λ (r : Result AstModule EvalException). IfOk r (λ m. file_of m ≡ f)) is h)

-- ---- several

pub are_outlines : (dialect : Dialect) (n : ℕ) (ps : List Part) → AreParts dialect ps → AreOutlines dialect n (texts_of ps) (outline_from n ps)
are_outlines dialect n [] h = no_texts
are_outlines dialect n (p ∷ ps) h =
    let part : IsPart dialect p = All-head (IsPart dialect) p ps h in
    and_text (record { tree = tree_of p.read; language = part.language; all = part.outline }) (subst (λ m. AreOutlines dialect (n + m) (texts_of ps) (outline_from (n + p.feeds) ps)) part.feeds (are_outlines dialect (n + p.feeds) ps (All-tail (IsPart dialect) p ps h)))

zipped-append : (rs bs : List Statement) (us vs : List OutlineItem) → length rs ≡ length us → zipped (rs ++ bs) (us ++ vs) ≡ zipped rs us ++ zipped bs vs
zipped-append [] bs [] vs h = refl
zipped-append [] bs (u ∷ us) vs h = absurd (omega (arith, h))
zipped-append (a ∷ rs) bs [] vs h = absurd (omega (arith, h))
zipped-append (a ∷ rs) bs (u ∷ us) vs h = ap (λ t. record { statement = a; begin = u.begin } ∷ t) (zipped-append rs bs us vs (omega (arith, h)))

zipped_tops : (text : List ℕ) (n : ℕ) (ss : List Statement) (xs : List OutlineItem) → map (λ x. x.begin) xs ≡ map (beginning text) ss → zipped ss (items_down n xs) ≡ all_down n (map (placed text) ss)
zipped_tops text n [] [] h = refl
zipped_tops text n [] (x ∷ xs) h = refl
zipped_tops text n (s ∷ ss) [] h = absurd (cc)
zipped_tops text n (s ∷ ss) (x ∷ xs) h =
    let first : x.begin ≡ beginning text s = cc in
    let others : map (λ x. x.begin) xs ≡ map (beginning text) ss = cc in
    λ i. record { statement = s; begin = place_down n (first i) } ∷ zipped_tops text n ss xs others i

pub are_statements : (dialect : Dialect) (n : ℕ) (ps : List Part) → AreParts dialect ps → AreAllStatements dialect n (texts_of ps) (zipped (map stmt_at (flat_map statements_of ps)) (outline_from n ps))
are_statements dialect n [] h = no_statements
are_statements dialect n (p ∷ ps) h =
    let part : IsPart dialect p = All-head (IsPart dialect) p ps h in
    let ss : List Statement = top_level (tree_of p.read) in
    let rest : List Statement = map stmt_at (flat_map statements_of ps) in
    let behind : List OutlineItem = outline_from (n + p.feeds) ps in
    let many : length ss ≡ length (items_down n (items_of p)) =
    sym (length-map (items_of p) (item_down n) ∙ sym (length-map (items_of p) (λ x. x.begin)) ∙ ap length part.outline.begins ∙ length-map ss (beginning (text_of p))) in
    let here : zipped (map stmt_at (flat_map statements_of (p ∷ ps))) (outline_from n (p ∷ ps)) ≡ all_down n (map (placed (text_of p)) ss) ++ zipped rest behind =
    ap (λ t. zipped t (items_down n (items_of p) ++ behind)) (map-append stmt_at (statements_of p) (flat_map statements_of ps) ∙ ap (λ t. t ++ rest) part.statements)
    ∙ zipped-append ss rest (items_down n (items_of p)) behind many
    ∙ ap (λ t. t ++ zipped rest behind) (zipped_tops (text_of p) n ss (items_of p) part.outline.begins) in
    subst (AreAllStatements dialect n (texts_of (p ∷ ps))) (sym here)
    (and_statements (record { tree = tree_of p.read; language = part.language; all = refl }) (subst (λ m. AreAllStatements dialect (n + m) (texts_of ps) (zipped rest behind)) part.feeds (are_statements dialect (n + p.feeds) ps (All-tail (IsPart dialect) p ps h))))
