-- What is put behind a text that is cut off: words, the ends of fields and the ends of f-strings.
use Rattle.std.proofs.Common.{◌≡◌, ◌<◌, ℕ, ◌+◌, Bool, true, false, List, [], ◌∷◌, ◌++◌, length, drop, refl, ap, sym, ◌∙◌, arith, suc, subst, append_assoc, IsAscii}
use Rattle.std.specs.Prelude.{Some}
use Rattle.std.proofs.lemmas.Bool.{false≢true}
use Rattle.std.proofs.lemmas.List.{drop-append-le, drop_all}
use Rattle.std.proofs.lemmas.Str.{IsAscii-append}
use Rattle.std.proofs.lemmas.Str.Ascii.{IsAscii-nil, IsAscii-cons}
use Rattle.starlark_lexer.specs.declared.literal.Form.{Form}
use Rattle.starlark_lexer.specs.Items.{Lexeme, Item, item, Lexed, identifier, string, fstring_expr_start, fstring_expr_end, fstring_end, with_items}
use Rattle.starlark_lexer.specs.Literals.{quotes, is_format}
use Rattle.starlark_lexer.specs.Depth.{Bracket, IsDepth}
use Rattle.starlark_lexer.specs.Classes.{meaning, token, closes_field, keyword_of, is_reserved}
use Rattle.starlark_lexer.specs.Lex.{Mode, Past, Step, Lex, on, IsPlain, moved, mode_behind, is_inside, below, goes_on}
use Rattle.starlark_lexer.specs.Lex as rules
use Rattle.starlark_lexer.proofs.Depth.{one_depth}
use Rattle.starlark_cutting.specs.Spelling as plain
use Rattle.starlark_cutting.specs.Opened.{Nest, outside, in_field, in_text, deeper, within_text, Goes_to, Way, Put, put_lexemes}
use Rattle.starlark_cutting.specs.Opened as opened
use Rattle.starlark_cutting.proofs.KeptLines.{Stops, first_not, unescaped}
use Rattle.starlark_cutting.proofs.KeptPuts.{alone_lexeme, put_past}
use Rattle.starlark_cutting.proofs.KeptString.{text_form, string_lexeme, string_body, string_value}
use Rattle.starlark_cutting.proofs.KeptSpelled as spelled
use Rattle.starlark_cutting.proofs.KeptMarks.{marks_of, marks_len, marks_ascii}
use Rattle.starlark_cutting.proofs.KeptTails.{closed_marks, field_brace, stops_brace}
use Rattle.starlark_cutting.proofs.KeptOrdinary.{ordinary}
use Rattle.starlark_cutting.proofs.KeptLinked.{Linked, ordinary_goes, leaves_goes, opens_goes, shuts_goes, names}
use Rattle.starlark_cutting.proofs.KeptOpen.{behind_same}
use Rattle.starlark_cutting.proofs.KeptOnce.{Follows, follows_stops}

-- ---- one word

-- at the end of a field no word stands that would end it
abbrev Ends_none : Past → List ℕ → Type 0
Ends_none p w = (b : ℕ) (g : Form) (bs : List Bracket) → p.mode ≡ rules.field b g bs → IsDepth bs 0 → closes_field w ≡ false

word_plain : (p : Past) (w o : List ℕ) (x : Lexeme) → is_inside p.mode ≡ false → 0 < length w → meaning w ≡ Some (token x) → Stops o → Ends_none p (w ++ o) → IsPlain (moved p 1) (w ++ o)
word_plain p [] o x low some means stop none = absurd (omega (arith, some))
word_plain p (b ∷ w) o x low some means stop none = record {
  within = refl;
  outside = low;
  no_escape = unescaped b (w ++ o) (first_not b (w ++ o) (length (b ∷ w)) (token x) (alone_lexeme (b ∷ w) o x some means stop) tt);
  no_end = none;
}

put_word : (p : Past) (w o : List ℕ) (x : Lexeme) (m : Lexed) → p.fresh ≡ false → is_inside p.mode ≡ false → 0 < length w → meaning w ≡ Some (token x) → Stops o → Ends_none p (w ++ o) → Lex (put_past p (length w) x) o m
    → Lex p (32 ∷ (w ++ o)) (with_items (item (p.place + 1 + 0) x (p.place + 1 + 0 + length w) ∷ []) m)
put_word p w o x m fresh low some means stop none d =
    let n = length w in
    let q : Past = moved p 1 in
    let step = rules.lexeme q (w ++ o) n x (word_plain p w o x low some means stop none) (alone_lexeme w o x some means stop) in
    let all : drop n (w ++ o) ≡ o = drop-append-le n w o (omega arith) ∙ ap (λ v. v ++ o) (drop_all n w (omega arith)) in
    let it : Item = item (p.place + 1 + 0) x (p.place + 1 + 0 + n) in
    goes_on p (32 ∷ (w ++ o)) [] q (w ++ o) (with_items (it ∷ []) m) (rules.passes p 32 (w ++ o) fresh low refl)
    (goes_on q (w ++ o) (it ∷ []) (put_past p n x) o m (subst (λ r. Step q (w ++ o) (on (it ∷ []) (put_past p n x) r)) all step) d)

put_empty : (p : Past) (o : List ℕ) (m : Lexed) → p.fresh ≡ false → is_inside p.mode ≡ false → Stops o → Lex (put_past p 2 (string [])) o m
    → Lex p (32 ∷ 34 ∷ 34 ∷ o) (with_items (item (p.place + 1 + 0) (string []) (p.place + 1 + 0 + 2) ∷ []) m)
put_empty p o m fresh low stop d =
    let q : Past = moved p 1 in
    let rest = 34 ∷ 34 ∷ o in
    let here : IsPlain q rest = record { within = refl; outside = low; no_escape = unescaped 34 (34 ∷ o) refl; no_end = λ b g bs e h. refl } in
    let step = rules.literal q rest 1 text_form 0 here (string_lexeme o stop) refl (string_body o) in
    let same : Step q rest (on (item (p.place + 1 + 0) (string []) (p.place + 1 + 0 + 2) ∷ []) (put_past p 2 (string [])) o) =
    subst (λ v. Step q rest (on (item (p.place + 1 + 0) (string v) (p.place + 1 + 0 + 2) ∷ []) (put_past p 2 (string v)) o)) string_value step in
    let it : Item = item (p.place + 1 + 0) (string []) (p.place + 1 + 0 + 2) in
    goes_on p (32 ∷ rest) [] q rest (with_items (it ∷ []) m) (rules.passes p 32 rest fresh low refl)
    (goes_on q rest (it ∷ []) (put_past p 2 (string [])) o m same d)

-- ---- all

pub record PutOn (t : Bool) (p : Past) (xs : List Lexeme) : Type 0 where
  pub bytes : List ℕ
  pub ascii : IsAscii bytes
  pub past : Past
  pub items : List Item
  pub names : names items ≡ xs
  pub fresh : past.fresh ≡ false
  pub linked : Linked past.mode past.outer past.items (outside 0)
  pub lines : past.lines ≡ p.lines
  pub follows : (o : List ℕ) → Stops o → Follows t p.mode (bytes ++ o)
  pub lex : (o : List ℕ) → Stops o → (m : Lexed) → Lex past o m → Lex p (bytes ++ o) (with_items items m)

stops_follows : (m : Mode) (o : List ℕ) → is_inside m ≡ false → Stops o → Follows false m o
stops_follows rules.code o e h = h
stops_follows (rules.inside b g) o e h = absurd (false≢true (sym e))
stops_follows (rules.field b g bs) o e h = h

linked_outside : (m : Mode) (os : List Mode) (its : List Item) (n : Nest) → Linked m os its n → within_text n ≡ false → is_inside m ≡ false
linked_outside rules.code os its n h e = refl
linked_outside (rules.inside b g) [] its n h e = absurd h
linked_outside (rules.inside b g) (m ∷ os) its (outside i) h e = absurd h
linked_outside (rules.inside b g) (m ∷ os) its (in_field i k) h e = absurd h
linked_outside (rules.inside b g) (m ∷ os) its (in_text k) h e = absurd (false≢true (sym e))
linked_outside (rules.field b g bs) os its n h e = refl

-- a word of n bytes, and those behind it
word_more : (p : Past) (s : List ℕ) (n : ℕ) (x : Lexeme) (ys : List Lexeme) → is_inside p.mode ≡ false → IsAscii s
    → ((o : List ℕ) → Stops o → (m : Lexed) → Lex (put_past p n x) o m → Lex p (32 ∷ (s ++ o)) (with_items (item (p.place + 1 + 0) x (p.place + 1 + 0 + n) ∷ []) m))
    → PutOn false (put_past p n x) ys → PutOn false p (x ∷ ys)
word_more p s n x ys low ascii first r =
    let it : Item = item (p.place + 1 + 0) x (p.place + 1 + 0 + n) in
    record {
      bytes = 32 ∷ (s ++ r.bytes);
      ascii = IsAscii-cons 32 (s ++ r.bytes) (omega arith) (IsAscii-append s r.bytes ascii r.ascii);
      past = r.past;
      items = it ∷ r.items;
      names = ap (λ zs. x ∷ zs) r.names;
      fresh = r.fresh;
      linked = r.linked;
      lines = r.lines;
      follows = λ o stop. stops_follows p.mode (32 ∷ ((s ++ r.bytes) ++ o)) low refl;
      lex = λ o stop m d.
          subst (λ v. Lex p (32 ∷ v) (with_items (it ∷ r.items) m)) (sym (append_assoc s r.bytes o))
          (first (r.bytes ++ o) (follows_stops false (mode_behind p.mode x) (r.bytes ++ o) (behind_same p.mode x low) (r.follows o stop)) (with_items r.items m) (r.lex o stop m d));
    }

-- the quotes
quotes_more : (p : Past) (b : ℕ) (g : Form) (ys : List Lexeme) → p.fresh ≡ false → p.mode ≡ rules.inside b g → is_inside (below p.outer) ≡ false
    → (let q : Past = record { place = p.place + quotes g.quote; items = p.items; lines = p.lines; fresh = false; mode = below p.outer; outer = drop 1 p.outer } in PutOn false q ys) → PutOn false p (fstring_end ∷ ys)
quotes_more p b g ys fresh c low r =
    let q : Past = record { place = p.place + quotes g.quote; items = p.items; lines = p.lines; fresh = false; mode = below p.outer; outer = drop 1 p.outer } in
    let ms = marks_of g.quote in
    let it : Item = item p.place fstring_end (p.place + quotes g.quote) in
    let cut : (o : List ℕ) → drop (quotes g.quote) (ms ++ o) ≡ o = λ o. drop-append-le (quotes g.quote) ms o (omega (arith, marks_len g.quote)) ∙ ap (λ v. v ++ o) (drop_all (quotes g.quote) ms (omega (arith, marks_len g.quote))) in
    record {
      bytes = ms ++ r.bytes;
      ascii = IsAscii-append ms r.bytes (marks_ascii g.quote) r.ascii;
      past = r.past;
      items = it ∷ r.items;
      names = ap (λ zs. fstring_end ∷ zs) r.names;
      fresh = r.fresh;
      linked = r.linked;
      lines = r.lines;
      follows = λ o stop. subst (λ m. Follows false m ((ms ++ r.bytes) ++ o)) (sym c) (r.bytes ++ o, (append_assoc ms r.bytes o, follows_stops false (below p.outer) (r.bytes ++ o) low (r.follows o stop)));
      lex = λ o stop m d.
          subst (λ v. Lex p v (with_items (it ∷ r.items) m)) (sym (append_assoc ms r.bytes o))
          (goes_on p (ms ++ (r.bytes ++ o)) (it ∷ []) q (r.bytes ++ o) (with_items r.items m)
          (subst (λ v. Step p (ms ++ (r.bytes ++ o)) (on (it ∷ []) q v)) (cut (r.bytes ++ o)) (rules.leaves p b g (ms ++ (r.bytes ++ o)) fresh c (closed_marks g (r.bytes ++ o)))) (r.lex o stop m d));
    }

-- the end of a field
brace_more : (p : Past) (b : ℕ) (g : Form) (bs : List Bracket) (ys : List Lexeme) → p.fresh ≡ false → p.mode ≡ rules.field b g bs → IsDepth bs 0
    → (let q : Past = record { place = p.place + 1 + 1; items = p.items; lines = p.lines; fresh = false; mode = rules.inside b g; outer = p.outer } in PutOn false q ys) → PutOn false p (fstring_expr_end ∷ ys)
brace_more p b g bs ys fresh c shut r =
    let q : Past = record { place = p.place + 1 + 1; items = p.items; lines = p.lines; fresh = false; mode = rules.inside b g; outer = p.outer } in
    let it : Item = item (p.place + 1) fstring_expr_end (p.place + 1 + 1) in
    let low : is_inside p.mode ≡ false = ap is_inside c in
    record {
      bytes = 32 ∷ 125 ∷ r.bytes;
      ascii = IsAscii-cons 32 (125 ∷ r.bytes) (omega arith) (IsAscii-cons 125 r.bytes (omega arith) r.ascii);
      past = r.past;
      items = it ∷ r.items;
      names = ap (λ zs. fstring_expr_end ∷ zs) r.names;
      fresh = r.fresh;
      linked = r.linked;
      lines = r.lines;
      follows = λ o stop. stops_follows p.mode (32 ∷ 125 ∷ (r.bytes ++ o)) low refl;
      lex = λ o stop m d.
          goes_on p (32 ∷ 125 ∷ (r.bytes ++ o)) [] (moved p 1) (125 ∷ (r.bytes ++ o)) (with_items (it ∷ r.items) m) (rules.passes p 32 (125 ∷ (r.bytes ++ o)) fresh low refl)
          (goes_on (moved p 1) (125 ∷ (r.bytes ++ o)) (it ∷ []) q (r.bytes ++ o) (with_items r.items m) (rules.shuts (moved p 1) b g bs (r.bytes ++ o) refl c shut) (r.lex o stop m d));
    }

word_on : (p : Past) (n l : Nest) (w : List ℕ) (x : Lexeme) (ys : List Lexeme) → p.fresh ≡ false → Linked p.mode p.outer p.items n → within_text n ≡ false → Goes_to x n l → ordinary x ≡ true
    → IsAscii w → 0 < length w → meaning w ≡ Some (token x) → ((o : List ℕ) → Ends_none p (w ++ o))
    → (let q : Past = put_past p (length w) x in Linked q.mode q.outer q.items l → PutOn false q ys) → PutOn false p (x ∷ ys)
word_on p n l w x ys fresh linked out goes ord ascii some means none next =
    let low = linked_outside p.mode p.outer p.items n linked out in
    let it : Item = item (p.place + 1 + 0) x (p.place + 1 + 0 + length w) in
    word_more p w (length w) x ys low ascii (λ o stop m d. put_word p w o x m fresh low some means stop (none o) d) (next (ordinary_goes p.mode p.outer it p.items n l low ord linked goes))

empty_on : (p : Past) (n l : Nest) (ys : List Lexeme) → p.fresh ≡ false → Linked p.mode p.outer p.items n → within_text n ≡ false → Goes_to (string []) n l
    → (let q : Past = put_past p 2 (string []) in Linked q.mode q.outer q.items l → PutOn false q ys) → PutOn false p (string [] ∷ ys)
empty_on p n l ys fresh linked out goes next =
    let low = linked_outside p.mode p.outer p.items n linked out in
    let it : Item = item (p.place + 1 + 0) (string []) (p.place + 1 + 0 + 2) in
    word_more p (34 ∷ 34 ∷ []) 2 (string []) ys low (spelled.ascii plain.a_string) (λ o stop m d. put_empty p o m fresh low stop d) (next (ordinary_goes p.mode p.outer it p.items n l low refl linked goes))

-- a bracket is open in the field
deeper_depth : (b : ℕ) (g : Form) (bs : List Bracket) (os : List Mode) (its : List Item) (n l : Nest) → Linked (rules.field b g bs) os its n → n ≡ deeper l → IsDepth bs 0 → ⊥
deeper_depth b g bs [] its n l h e d = h
deeper_depth b g bs (m ∷ os) its (outside i) l h e d = h
deeper_depth b g bs (m ∷ os) its (in_text k) l h e d = h
deeper_depth b g bs (m ∷ os) its (in_field i k) (outside j) h e d = cc
deeper_depth b g bs (m ∷ os) its (in_field i k) (in_text j) h e d = cc
deeper_depth b g bs (m ∷ os) its (in_field i k) (in_field j r) h e d = let s : i ≡ suc j = cc in omega (arith, s, one_depth bs i 0 h.0 d)

text_format : (b : ℕ) (g : Form) (os : List Mode) (its : List Item) (k : Nest) → Linked (rules.inside b g) os its (in_text k) → is_format g.sort ≡ true
text_format b g [] its k h = absurd h
text_format b g (m ∷ os) its k h = h.0

-- a field without brackets
linked_field : (m : Mode) (os : List Mode) (its : List Item) (k : Nest) → Linked m os its (in_field 0 k) → (b : ℕ) × (g : Form) × (bs : List Bracket) × ((m ≡ rules.field b g bs) × IsDepth bs 0)
linked_field rules.code [] its k h = absurd h
linked_field rules.code (m ∷ os) its k h = absurd h
linked_field (rules.inside b g) [] its k h = absurd h
linked_field (rules.inside b g) (m ∷ os) its k h = absurd h
linked_field (rules.field b g bs) [] its k h = absurd h
linked_field (rules.field b g bs) (m ∷ os) its k h = (b, g, bs, (refl, h.0))

linked_text : (m : Mode) (os : List Mode) (its : List Item) (k : Nest) → Linked m os its (in_text k) → (b : ℕ) × (g : Form) × ((m ≡ rules.inside b g) × (is_inside (below os) ≡ false))
linked_text rules.code [] its k h = absurd h
linked_text rules.code (m ∷ os) its k h = absurd h
linked_text (rules.inside b g) [] its k h = absurd h
linked_text (rules.inside b g) (m ∷ os) its k h = (b, g, (refl, h.1.0))
linked_text (rules.field b g bs) [] its k h = absurd h
linked_text (rules.field b g bs) (m ∷ os) its k h = absurd h

a_letter : meaning (115 ∷ []) ≡ Some (token (identifier (115 ∷ [])))
unfolding meaning keyword_of is_reserved
a_letter = refl

line_mode : (p : Past) → Linked p.mode p.outer p.items (outside 0) → is_inside p.mode ≡ false
line_mode p h = linked_outside p.mode p.outer p.items (outside 0) h refl

pub put_on : (xs : List Put) (p : Past) (n : Nest) → p.fresh ≡ false → Linked p.mode p.outer p.items n → Way n (put_lexemes xs) (outside 0) → PutOn false p (put_lexemes xs)
put_on [] p n fresh linked way =
    let h = subst (Linked p.mode p.outer p.items) way linked in
    record { bytes = []; ascii = IsAscii-nil; past = p; items = []; names = refl; fresh = fresh; linked = h; lines = refl; follows = λ o stop. stops_follows p.mode o (line_mode p h) stop; lex = λ o stop m d. d }
put_on (opened.plain plain.a_name ∷ xs) p n fresh h way =
    word_on p n way.0 (plain.spelling plain.a_name) (plain.lexeme_of plain.a_name) (put_lexemes xs) fresh h way.1.0.0 way.1.0 refl (spelled.ascii plain.a_name) (omega arith) spelled.a_name (λ o b g bs e d. refl) (λ k. put_on xs _ way.0 refl k way.1.1)
put_on (opened.plain plain.an_else ∷ xs) p n fresh h way =
    word_on p n way.0 (plain.spelling plain.an_else) (plain.lexeme_of plain.an_else) (put_lexemes xs) fresh h way.1.0.0 way.1.0 refl (spelled.ascii plain.an_else) (omega arith) spelled.an_else (λ o b g bs e d. refl) (λ k. put_on xs _ way.0 refl k way.1.1)
put_on (opened.plain plain.an_in ∷ xs) p n fresh h way =
    word_on p n way.0 (plain.spelling plain.an_in) (plain.lexeme_of plain.an_in) (put_lexemes xs) fresh h way.1.0.0 way.1.0 refl (spelled.ascii plain.an_in) (omega arith) spelled.an_in (λ o b g bs e d. refl) (λ k. put_on xs _ way.0 refl k way.1.1)
put_on (opened.plain plain.a_pass ∷ xs) p n fresh h way =
    word_on p n way.0 (plain.spelling plain.a_pass) (plain.lexeme_of plain.a_pass) (put_lexemes xs) fresh h way.1.0.0 way.1.0 refl (spelled.ascii plain.a_pass) (omega arith) spelled.a_pass (λ o b g bs e d. refl) (λ k. put_on xs _ way.0 refl k way.1.1)
put_on (opened.plain plain.a_comma ∷ xs) p n fresh h way =
    word_on p n way.0 (plain.spelling plain.a_comma) (plain.lexeme_of plain.a_comma) (put_lexemes xs) fresh h way.1.0.0 way.1.0 refl (spelled.ascii plain.a_comma) (omega arith) spelled.a_comma (λ o b g bs e d. refl) (λ k. put_on xs _ way.0 refl k way.1.1)
put_on (opened.plain plain.a_colon ∷ xs) p n fresh h way =
    word_on p n way.0 (plain.spelling plain.a_colon) (plain.lexeme_of plain.a_colon) (put_lexemes xs) fresh h way.1.0.0 way.1.0 refl (spelled.ascii plain.a_colon) (omega arith) spelled.a_colon (λ o b g bs e d. refl) (λ k. put_on xs _ way.0 refl k way.1.1)
put_on (opened.plain plain.an_equal ∷ xs) p n fresh h way =
    word_on p n way.0 (plain.spelling plain.an_equal) (plain.lexeme_of plain.an_equal) (put_lexemes xs) fresh h way.1.0.0 way.1.0 refl (spelled.ascii plain.an_equal) (omega arith) spelled.an_equal (λ o b g bs e d. refl) (λ k. put_on xs _ way.0 refl k way.1.1)
put_on (opened.plain plain.an_opening ∷ xs) p n fresh h way =
    word_on p n way.0 (plain.spelling plain.an_opening) (plain.lexeme_of plain.an_opening) (put_lexemes xs) fresh h way.1.0.0 way.1.0 refl (spelled.ascii plain.an_opening) (omega arith) spelled.an_opening (λ o b g bs e d. refl) (λ k. put_on xs _ way.0 refl k way.1.1)
put_on (opened.plain plain.a_round ∷ xs) p n fresh h way =
    word_on p n way.0 (plain.spelling plain.a_round) (plain.lexeme_of plain.a_round) (put_lexemes xs) fresh h way.1.0.0 way.1.0 refl (spelled.ascii plain.a_round) (omega arith) spelled.a_round (λ o b g bs e d. refl) (λ k. put_on xs _ way.0 refl k way.1.1)
put_on (opened.plain plain.a_square ∷ xs) p n fresh h way =
    word_on p n way.0 (plain.spelling plain.a_square) (plain.lexeme_of plain.a_square) (put_lexemes xs) fresh h way.1.0.0 way.1.0 refl (spelled.ascii plain.a_square) (omega arith) spelled.a_square (λ o b g bs e d. refl) (λ k. put_on xs _ way.0 refl k way.1.1)
put_on (opened.plain plain.a_curly ∷ xs) p n fresh h way =
    word_on p n way.0 (plain.spelling plain.a_curly) (plain.lexeme_of plain.a_curly) (put_lexemes xs) fresh h way.1.0.0 way.1.0 refl (spelled.ascii plain.a_curly) (omega arith) spelled.a_curly
    (λ o b g bs e d. absurd (deeper_depth b g bs p.outer p.items n way.0 (subst (λ m. Linked m p.outer p.items n) e h) way.1.0.1 d)) (λ k. put_on xs _ way.0 refl k way.1.1)
put_on (opened.plain plain.a_string ∷ xs) p n fresh h way = empty_on p n way.0 (put_lexemes xs) fresh h way.1.0.0 way.1.0 (λ k. put_on xs _ way.0 refl k way.1.1)
put_on (opened.a_letter ∷ xs) p n fresh h way =
    word_on p n way.0 (115 ∷ []) (identifier (115 ∷ [])) (put_lexemes xs) fresh h way.1.0.0 way.1.0 refl (IsAscii-cons 115 [] (omega arith) IsAscii-nil) (omega arith) a_letter (λ o b g bs e d. refl) (λ k. put_on xs _ way.0 refl k way.1.1)
put_on (opened.field_end ∷ xs) p n fresh h way =
    let g = way.1.0 in
    let f = linked_field p.mode p.outer p.items g.0 (subst (Linked p.mode p.outer p.items) g.1.0 h) in
    brace_more p f.0 f.1 f.2 (put_lexemes xs) fresh f.3.0 f.3.1
    (put_on xs _ way.0 refl (shuts_goes f.0 f.1 f.2 p.outer p.items n way.0 g.0 g.1.0 g.1.1 (subst (λ m. Linked m p.outer p.items n) f.3.0 h)) way.1.1)
put_on (opened.string_end ∷ xs) p n fresh h way =
    let f = linked_text p.mode p.outer p.items way.0 (subst (Linked p.mode p.outer p.items) way.1.0 h) in
    quotes_more p f.0 f.1 (put_lexemes xs) fresh f.2.0 f.2.1
    (put_on xs _ way.0 refl (leaves_goes f.0 f.1 p.outer p.items n way.0 way.1.0 (subst (λ m. Linked m p.outer p.items n) f.2.0 h)) way.1.1)

-- the beginning of a field, behind a text
pub field_on : (xs : List Put) (p : Past) (n : Nest) → p.fresh ≡ false → Linked p.mode p.outer p.items (in_text n) → Way (in_field 0 n) (put_lexemes xs) (outside 0) → PutOn true p (fstring_expr_start ∷ put_lexemes xs)
field_on xs p n fresh linked way =
    let f = linked_text p.mode p.outer p.items n linked in
    let b = f.0 in
    let g = f.1 in
    let q : Past = record { place = p.place + 1; items = p.items; lines = p.lines; fresh = false; mode = rules.field b g []; outer = p.outer } in
    let h = subst (λ m. Linked m p.outer p.items (in_text n)) f.2.0 linked in
    let r = put_on xs q (in_field 0 n) refl (opens_goes b g p.outer p.items (in_text n) (in_field 0 n) n refl refl h) way in
    let it : Item = item p.place fstring_expr_start (p.place + 1) in
    record {
      bytes = 123 ∷ r.bytes;
      ascii = IsAscii-cons 123 r.bytes (omega arith) r.ascii;
      past = r.past;
      items = it ∷ r.items;
      names = ap (λ zs. fstring_expr_start ∷ zs) r.names;
      fresh = r.fresh;
      linked = r.linked;
      lines = r.lines;
      follows = λ o stop. subst (λ m. Follows true m (123 ∷ (r.bytes ++ o))) (sym f.2.0) (r.bytes ++ o, (refl, r.follows o stop));
      lex = λ o stop m d.
          goes_on p (123 ∷ (r.bytes ++ o)) (it ∷ []) q (r.bytes ++ o) (with_items r.items m)
          (rules.opens_field p b g (123 ∷ (r.bytes ++ o)) fresh f.2.0 (field_brace g (r.bytes ++ o) (text_format b g p.outer p.items n h) (stops_brace (r.bytes ++ o) (r.follows o stop)))) (r.lex o stop m d);
    }
