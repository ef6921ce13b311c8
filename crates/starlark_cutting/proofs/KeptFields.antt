-- A text cut off behind a lexeme, with f-strings that are open there, and words put behind it that close them: what it is cut into.
use Rattle.std.proofs.Common.{◌≡◌, ℕ, ◌+◌, true, false, List, [], ◌∷◌, ◌++◌, length, map, refl, ap, sym, ◌∙◌, arith, subst}
use Rattle.std.specs.Prelude.{count_by}
use Rattle.starlark_lexer.specs.Items.{Lexeme, Item, item, nothing, newline, dedents, with_items, fstring_expr_start, fstring_text, opening_item, closing_item}
use Rattle.starlark_lexer.specs.Widths.{Closes}
use Rattle.starlark_lexer.specs.Lex.{Mode, Lex, start}
use Rattle.starlark_lexer.specs.Lex as rules
use Rattle.starlark_lexer.proofs.Widths.{no_lines}
use Rattle.starlark_cutting.specs.Cutting.{inner, IsCutAt}
use Rattle.starlark_cutting.specs.Opened.{Nest, outside, in_field, in_text, is_text, Way, Put, put_lexemes, IsFinishedBy}
use Rattle.starlark_cutting.proofs.KeptTexts.{upto}
use Rattle.starlark_cutting.proofs.KeptPuts.{Among, end_line}
use Rattle.starlark_cutting.proofs.KeptLinked.{Linked, names}
use Rattle.starlark_cutting.proofs.KeptOnce.{last_text}
use Rattle.starlark_cutting.proofs.KeptWay.{CutOn, cut_on}
use Rattle.starlark_cutting.proofs.KeptEnding.{PutOn, put_on, field_on}

-- outside all f-strings, with no bracket open
line_by : (m : Mode) (os : List Mode) (its : List Item) → Linked m os its (outside 0) → (m ≡ rules.code) × (count_by opening_item its ≡ count_by closing_item its)
line_by rules.code [] its h = (refl, omega (arith, h))
line_by rules.code (m ∷ os) its h = absurd h
line_by (rules.inside b g) [] its h = absurd h
line_by (rules.inside b g) (m ∷ os) its h = absurd h
line_by (rules.field b g bs) [] its h = absurd h
line_by (rules.field b g bs) (m ∷ os) its h = absurd h

-- without the sums of nothing
plainly : (u s : List ℕ) (front put : List Item) (n k : ℕ)
    → Lex start (u ++ (s ++ 10 ∷ [])) (with_items front (with_items put (with_items (item (n + 0) newline (n + 0 + 1) ∷ []) (with_items (item (n + 1 + 0) newline (n + 1 + 0) ∷ dedents (n + 1 + 0) k) nothing))))
    → Lex start (u ++ (s ++ 10 ∷ [])) (with_items front (with_items put (with_items (item n newline (n + 1) ∷ []) (with_items (item (n + 1) newline (n + 1) ∷ dedents (n + 1) k) nothing))))
plainly u s front put n k h =
    let e : n + 0 ≡ n = omega arith in
    let f : n + 1 + 0 ≡ n + 1 = omega arith in
    subst (λ l. Lex start (u ++ (s ++ 10 ∷ [])) l) (λ i. with_items front (with_items put (with_items (item (e i) newline (e i + 1) ∷ []) (with_items (item (f i) newline (f i) ∷ dedents (f i) k) nothing)))) h

finish : (u v : List ℕ) (front : List Item) (n : Nest) (xs : List Lexeme) (c : CutOn start u v front n) → PutOn (last_text front) c.past xs → IsFinishedBy u front xs
finish u v front n xs c r =
    let w = c.tracks.widths [] no_lines in
    let l = line_by r.past.mode r.past.outer r.past.items r.linked in
    let a : Among r.past = record { fresh = r.fresh; mode = l.0 } in
    let m = end_line r.past w.still a l.1 (subst (λ ls. Closes ls 0 w.still) (sym r.lines) (record { once = w.stack.once; each = λ x. w.stack.each x })) in
    record {
      bytes = r.bytes;
      ascii = r.ascii;
      finished = record {
        put = r.items;
        names = r.names;
        place = r.past.place;
        count = length w.still;
        layout = omega (arith, w.count);
        lex = plainly u r.bytes front r.items r.past.place (length w.still) (c.lex (r.bytes ++ 10 ∷ []) (r.follows (10 ∷ []) refl) _ (r.lex (10 ∷ []) refl _ m));
      };
    }

last_of : (zs : List Item) (z : Item) → last_text (zs ++ z ∷ []) ≡ is_text z.lexeme
last_of [] z = refl
last_of (x ∷ []) z = refl
last_of (x ∷ y ∷ zs) z = last_of (y ∷ zs) z

cut_front : (u v : List ℕ) (before : List Item) (z : Item) (behind : List Item) (n : Nest) → IsCutAt u v before z behind → inner z.lexeme ≡ true → Way (outside 0) (names (before ++ z ∷ [])) n → CutOn start u v (before ++ z ∷ []) n
cut_front u v before z behind n c i way =
    cut_on (upto c.lex before z behind refl i (λ _. refl) tt) u v refl (omega (arith, c.length_is)) (outside 0) n (omega arith) way tt (λ _. refl)

pub fields_line : (u v : List ℕ) (before : List Item) (z : Item) (behind : List Item) (n : Nest) (xs : List Put) → IsCutAt u v before z behind → inner z.lexeme ≡ true → is_text z.lexeme ≡ false
    → Way (outside 0) (map (λ x. x.lexeme) (before ++ z ∷ [])) n → Way n (put_lexemes xs) (outside 0) → IsFinishedBy u (before ++ z ∷ []) (put_lexemes xs)
fields_line u v before z behind n xs c i t way more =
    let d = cut_front u v before z behind n c i way in
    finish u v (before ++ z ∷ []) n (put_lexemes xs) d (subst (λ b. PutOn b d.past (put_lexemes xs)) (sym (last_of before z ∙ t)) (put_on xs d.past n d.fresh d.linked more))

pub fields_text : (u v : List ℕ) (before : List Item) (z : Item) (behind : List Item) (w : List ℕ) (m : Nest) (xs : List Put) → IsCutAt u v before z behind → z.lexeme ≡ fstring_text w
    → Way (outside 0) (map (λ x. x.lexeme) (before ++ z ∷ [])) (in_text m) → Way (in_field 0 m) (put_lexemes xs) (outside 0) → IsFinishedBy u (before ++ z ∷ []) (fstring_expr_start ∷ put_lexemes xs)
fields_text u v before z behind w m xs c t way more =
    let ys = fstring_expr_start ∷ put_lexemes xs in
    let d = cut_front u v before z behind (in_text m) c (ap inner t) way in
    finish u v (before ++ z ∷ []) (in_text m) ys d (subst (λ b. PutOn b d.past ys) (sym (last_of before z ∙ ap is_text t)) (field_on xs d.past m d.fresh d.linked more))
