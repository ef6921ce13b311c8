-- Where a place is among f-strings and brackets, and what the lexer holds there.
use Rattle.std.proofs.Common.{◌≡◌, ℕ, ◌+◌, ◌-◌, Bool, true, false, cond, List, [], ◌∷◌, ◌++◌, length, map, take, drop, refl, ap, sym, ◌∙◌, arith, zero, suc, subst}
use Rattle.std.specs.Prelude.{count_by}
use Rattle.std.proofs.lemmas.Bool.{false≢true}
use Rattle.starlark_lexer.specs.declared.literal.Form.{Form}
use Rattle.starlark_lexer.specs.declared.literal.Sort.{Sort}
use Rattle.starlark_lexer.specs.declared.literal.Sort.TheVariants as sort
use Rattle.starlark_lexer.specs.Items.{Lexeme, newline, comment, indent, fstring_start, fstring_text, fstring_expr_start, fstring_expr_end, fstring_bang, fstring_end, is_opening, is_closing, Item, item, opening_item, closing_item, dedents}
use Rattle.starlark_lexer.specs.Literals.{is_format, quotes, value}
use Rattle.starlark_lexer.specs.Classes.{leading, line_len, line_end, escaped}
use Rattle.starlark_lexer.specs.Depth.{Bracket, IsDepth}
use Rattle.starlark_lexer.specs.Depth as depth
use Rattle.starlark_lexer.specs.Lex.{Mode, Past, Move, Step, on, over, is_inside, recorded, mode_behind, bracket_of, literal_lexeme, moved, gives, turns}
use Rattle.starlark_lexer.specs.Lex as rules
use Rattle.starlark_lexer.proofs.Depth.{no_depth, one_more}
use Rattle.starlark_lexer.proofs.JoinedOn.{count_cons}
use Rattle.starlark_lexer.proofs.Dedents.{dedents_opened, dedents_closed}
use Rattle.starlark_cutting.specs.Opened.{Nest, outside, in_field, in_text, Goes_to, Way}
use Rattle.starlark_cutting.proofs.KeptMoves.{Fresh}
use Rattle.starlark_cutting.proofs.KeptOrdinary.{ordinary, token_ordinary, Turn, deepens, rises, stays, turn_of}

abbrev pub names : List Item → List Lexeme
names = map (λ x. x.lexeme)

abbrev pub Linked : Mode → List Mode → List Item → Nest → Type 0
Linked rules.code [] its (outside n) = count_by opening_item its ≡ count_by closing_item its + n
Linked rules.code [] its (in_field n k) = ⊥
Linked rules.code [] its (in_text k) = ⊥
Linked rules.code (m ∷ os) its n = ⊥
Linked (rules.inside b g) [] its n = ⊥
Linked (rules.inside b g) (m ∷ os) its (outside n) = ⊥
Linked (rules.inside b g) (m ∷ os) its (in_field n k) = ⊥
Linked (rules.inside b g) (m ∷ os) its (in_text k) = (is_format g.sort ≡ true) × ((is_inside m ≡ false) × Linked m os its k)
Linked (rules.field b g bs) [] its n = ⊥
Linked (rules.field b g bs) (m ∷ os) its (outside n) = ⊥
Linked (rules.field b g bs) (m ∷ os) its (in_field n k) = IsDepth bs n × ((is_format g.sort ≡ true) × ((is_inside m ≡ false) × Linked m os its k))
Linked (rules.field b g bs) (m ∷ os) its (in_text k) = ⊥

-- the same brackets are recorded
linked_same : (m : Mode) (os : List Mode) (its more : List Item) (n : Nest) → count_by opening_item more ≡ count_by opening_item its → count_by closing_item more ≡ count_by closing_item its → Linked m os its n → Linked m os more n
linked_same rules.code [] its more (outside n) e f h = omega (arith, e, f, h)
linked_same rules.code [] its more (in_field n k) e f h = h
linked_same rules.code [] its more (in_text k) e f h = h
linked_same rules.code (m ∷ os) its more n e f h = h
linked_same (rules.inside b g) [] its more n e f h = h
linked_same (rules.inside b g) (m ∷ os) its more (outside n) e f h = h
linked_same (rules.inside b g) (m ∷ os) its more (in_field n k) e f h = h
linked_same (rules.inside b g) (m ∷ os) its more (in_text k) e f h = (h.0, (h.1.0, linked_same m os its more k e f h.1.1))
linked_same (rules.field b g bs) [] its more n e f h = h
linked_same (rules.field b g bs) (m ∷ os) its more (outside n) e f h = h
linked_same (rules.field b g bs) (m ∷ os) its more (in_field n k) e f h = (h.0, (h.1.0, (h.1.1.0, linked_same m os its more k e f h.1.1.1)))
linked_same (rules.field b g bs) (m ∷ os) its more (in_text k) e f h = h

-- ---- a lexeme that is no part of an f-string

bracket_opens : (x : Lexeme) → is_opening x ≡ true → bracket_of x ≡ depth.opens
bracket_opens x e = ap (λ t. cond t depth.opens (cond (is_closing x) depth.closes depth.neither)) e

bracket_closes : (x : Lexeme) → is_opening x ≡ false → is_closing x ≡ true → bracket_of x ≡ depth.closes
bracket_closes x e f = λ i. cond (e i) depth.opens (cond (f i) depth.closes depth.neither)

bracket_neither : (x : Lexeme) → is_opening x ≡ false → is_closing x ≡ false → bracket_of x ≡ depth.neither
bracket_neither x e f = λ i. cond (e i) depth.opens (cond (f i) depth.closes depth.neither)

line_goes : (x : Item) (its : List Item) (i : ℕ) (k : Nest) → count_by opening_item its ≡ count_by closing_item its + i → Turn x.lexeme (outside i) k → Linked rules.code [] (x ∷ its) k
line_goes x its i k h (deepens _ _ _ o c e) =
    subst (Linked rules.code [] (x ∷ its)) (sym e) (omega (arith, h, count_cons opening_item x its, count_cons closing_item x its, ap {B = ℕ} (λ t. cond t 1 0) o, ap {B = ℕ} (λ t. cond t 1 0) c))
line_goes x its i (outside j) h (rises _ _ _ o c e) =
    let s : i ≡ suc j = cc in
    omega (arith, h, s, count_cons opening_item x its, count_cons closing_item x its, ap {B = ℕ} (λ t. cond t 1 0) o, ap {B = ℕ} (λ t. cond t 1 0) c)
line_goes x its i (in_field j k) h (rises _ _ _ o c e) = absurd (cc)
line_goes x its i (in_text k) h (rises _ _ _ o c e) = absurd (cc)
line_goes x its i k h (stays _ _ _ o c e) =
    subst (Linked rules.code [] (x ∷ its)) (sym e) (omega (arith, h, count_cons opening_item x its, count_cons closing_item x its, ap {B = ℕ} (λ t. cond t 1 0) o, ap {B = ℕ} (λ t. cond t 1 0) c))

field_goes : (x : Lexeme) (b : ℕ) (g : Form) (bs : List Bracket) (m : Mode) (os : List Mode) (its : List Item) (i : ℕ) (l k : Nest) → Linked (rules.field b g bs) (m ∷ os) its (in_field i l) → Turn x (in_field i l) k
    → Linked (rules.field b g (bracket_of x ∷ bs)) (m ∷ os) its k
field_goes x b g bs m os its i l k h (deepens _ _ _ o c e) =
    let s : i + 1 ≡ suc i = omega arith in
    subst (Linked (rules.field b g (bracket_of x ∷ bs)) (m ∷ os) its) (sym e)
    (subst (λ y. IsDepth (y ∷ bs) (suc i)) (sym (bracket_opens x o)) (subst (IsDepth (depth.opens ∷ bs)) s (one_more depth.opens bs i h.0)), h.1)
field_goes x b g bs m os its i l (in_field j k) h (rises _ _ _ o c e) =
    let s : i ≡ suc j = cc in
    let r : l ≡ k = cc in
    let t : i - 1 ≡ j = omega (arith, s) in
    (subst (λ y. IsDepth (y ∷ bs) j) (sym (bracket_closes x o c)) (subst (IsDepth (depth.closes ∷ bs)) t (one_more depth.closes bs i h.0)), subst (λ y. (is_format g.sort ≡ true) × ((is_inside m ≡ false) × Linked m os its y)) r h.1)
field_goes x b g bs m os its i l (outside j) h (rises _ _ _ o c e) = absurd (cc)
field_goes x b g bs m os its i l (in_text k) h (rises _ _ _ o c e) = absurd (cc)
field_goes x b g bs m os its i l k h (stays _ _ _ o c e) =
    subst (Linked (rules.field b g (bracket_of x ∷ bs)) (m ∷ os) its) (sym e)
    (subst (λ y. IsDepth (y ∷ bs) i) (sym (bracket_neither x o c)) (one_more depth.neither bs i h.0), h.1)

pub ordinary_goes : (m : Mode) (os : List Mode) (x : Item) (its : List Item) (n k : Nest) → is_inside m ≡ false → ordinary x.lexeme ≡ true → Linked m os its n → Goes_to x.lexeme n k → Linked (mode_behind m x.lexeme) os (recorded m x its) k
ordinary_goes rules.code [] x its (outside i) k low o h w = line_goes x its i k h (turn_of x.lexeme (outside i) k o w)
ordinary_goes rules.code [] x its (in_field i l) k low o h w = absurd h
ordinary_goes rules.code [] x its (in_text l) k low o h w = absurd h
ordinary_goes rules.code (m ∷ os) x its n k low o h w = absurd h
ordinary_goes (rules.inside b g) os x its n k low o h w = absurd (false≢true (sym low))
ordinary_goes (rules.field b g bs) [] x its n k low o h w = absurd h
ordinary_goes (rules.field b g bs) (m ∷ os) x its (outside i) k low o h w = absurd h
ordinary_goes (rules.field b g bs) (m ∷ os) x its (in_field i l) k low o h w = field_goes x.lexeme b g bs m os its i l k h (turn_of x.lexeme (in_field i l) k o w)
ordinary_goes (rules.field b g bs) (m ∷ os) x its (in_text l) k low o h w = absurd h

-- ---- step by step

abbrev pub Links : Past → Move → Type 0
Links p (on xs q more) = (n k : Nest) → Linked p.mode p.outer p.items n → Way n (names xs) k → Linked q.mode q.outer q.items k
Links p (over l) = Unit {0}

-- ordinary lexemes
gives_links : (p : Past) (s : ℕ) (x : Lexeme) (n k : ℕ) (f : Bool) (rest : List ℕ) → is_inside p.mode ≡ false → ordinary x ≡ true → Links p (gives p s x n k f rest)
gives_links p s x n k f rest low o i j l w =
    let it : Item = item (p.place + s) x (p.place + s + n) in
    subst (Linked (mode_behind p.mode x) p.outer (recorded p.mode it p.items)) w.1.1 (ordinary_goes p.mode p.outer it p.items i w.0 low o l w.1.0)

-- parts of f-strings
part_links : (p : Past) (s : ℕ) (x : Lexeme) (n k : ℕ) (f : Bool) (rest : List ℕ)
    → ((i j : Nest) → Linked p.mode p.outer p.items i → Goes_to x i j → Linked (mode_behind p.mode x) p.outer (recorded p.mode (item (p.place + s) x (p.place + s + n)) p.items) j) → Links p (gives p s x n k f rest)
part_links p s x n k f rest h i j l w =
    let it : Item = item (p.place + s) x (p.place + s + n) in
    subst (Linked (mode_behind p.mode x) p.outer (recorded p.mode it p.items)) w.1.1 (h i w.0 l w.1.0)

turns_links : (p : Past) (x : Lexeme) (n : ℕ) (m : Mode) (os : List Mode) (rest : List ℕ) → ((i j : Nest) → Linked p.mode p.outer p.items i → Goes_to x i j → Linked m os p.items j) → Links p (turns p x n m os rest)
turns_links p x n m os rest h i j l w = subst (Linked m os p.items) w.1.1 (h i w.0 l w.1.0)

passes_links : (p : Past) (k : ℕ) (rest : List ℕ) → Links p (on [] (moved p k) rest)
passes_links p k rest i j l w = subst (Linked p.mode p.outer p.items) w l

dedents_way : (i c : ℕ) (n k : Nest) → Way n (names (dedents i c)) k → k ≡ n
dedents_way i zero n k w = sym w
dedents_way i (suc c) n k w = dedents_way i c w.0 k w.1.1 ∙ w.1.0.1

code_low : (m : Mode) → m ≡ rules.code → is_inside m ≡ false
code_low m e = ap is_inside e

literal_ordinary : (s : Sort) (v : List ℕ) → is_format s ≡ false → ordinary (literal_lexeme s v) ≡ true
literal_ordinary sort.Text v e = refl
literal_ordinary sort.Bytes v e = refl
literal_ordinary sort.Format v e = absurd (false≢true (sym e))

module _ (b : ℕ) (g : Form) where
  text_goes : (x : Item) (os : List Mode) (its : List Item) (m : Mode) (n k : Nest) → m ≡ rules.inside b g → n ≡ k → Linked m os its n → Linked (mode_behind m x.lexeme) os (recorded m x its) k
  text_goes x os its m n k c e = subst (λ y. Linked y os its n → Linked (mode_behind y x.lexeme) os (recorded y x its) k) (sym c) (subst (Linked (rules.inside b g) os its) e)

  pub leaves_goes : (os : List Mode) (its : List Item) (n k : Nest) → n ≡ in_text k → Linked (rules.inside b g) os its n → Linked (rules.below os) (drop 1 os) its k
  leaves_goes [] its n k e h = absurd h
  leaves_goes (m ∷ os) its n k e h = (subst (Linked (rules.inside b g) (m ∷ os) its) e h).1.1

  pub opens_goes : (os : List Mode) (its : List Item) (n k l : Nest) → n ≡ in_text l → k ≡ in_field 0 l → Linked (rules.inside b g) os its n → Linked (rules.field b g []) os its k
  opens_goes [] its n k l e f h = absurd h
  opens_goes (m ∷ os) its n k l e f h = subst (Linked (rules.field b g []) (m ∷ os) its) (sym f) (no_depth, subst (Linked (rules.inside b g) (m ∷ os) its) e h)

  pub shuts_goes : (bs : List Bracket) (os : List Mode) (its : List Item) (n k l : Nest) → n ≡ in_field 0 l → k ≡ in_text l → Linked (rules.field b g bs) os its n → Linked (rules.inside b g) os its k
  shuts_goes bs [] its n k l e f h = absurd h
  shuts_goes bs (m ∷ os) its n k l e f h = subst (Linked (rules.inside b g) (m ∷ os) its) (sym f) (subst (Linked (rules.field b g bs) (m ∷ os) its) e h).1

  bangs_by : (bs : List Bracket) (os : List Mode) (its : List Item) (l : Nest) → Linked (rules.field b g bs) os its (in_field 0 l) → Linked (rules.field b g (depth.neither ∷ bs)) os its (in_field 0 l)
  bangs_by bs [] its l h = absurd h
  bangs_by bs (m ∷ os) its l h = (one_more depth.neither bs 0 h.0, h.1)

  bangs_goes : (bs : List Bracket) (x : Item) (os : List Mode) (its : List Item) (m : Mode) (n k l : Nest) → m ≡ rules.field b g bs → x.lexeme ≡ fstring_bang → n ≡ in_field 0 l → k ≡ n → Linked m os its n → Linked (mode_behind m x.lexeme) os (recorded m x its) k
  bangs_goes bs x os its m n k l c is e f h =
      subst (λ y. Linked (mode_behind y x.lexeme) os (recorded y x its) k) (sym c)
      (subst (λ y. Linked (rules.field b g (bracket_of y ∷ bs)) os its k) (sym is)
      (subst (Linked (rules.field b g (depth.neither ∷ bs)) os its) (sym (f ∙ e)) (bangs_by bs os its l (subst (λ y. y) (λ i. Linked (c i) os its (e i)) h))))

pub links : {p : Past} {rest : List ℕ} {m : Move} → Step p rest m → Fresh p → Links p m
links (rules.blank_line p rest more f e) h = gives_links p (leading rest) newline 1 (leading rest + 1) true rest (code_low p.mode (h f)) refl
links (rules.remark_line p rest more f e) h = gives_links p (leading rest) (comment (take (line_len more) more)) (1 + line_len more) (leading rest + (1 + line_len more) + line_end (drop (line_len more) more)) true rest (code_low p.mode (h f)) refl
links (rules.last_line p rest closed f e c) h = tt
links (rules.tabbed p rest m t) h = tt
links (rules.deepens p rest m t d) h = λ n k l w.
    let it : Item = item p.place indent (p.place + leading rest) in
    subst (Linked p.mode p.outer (it ∷ p.items)) (sym w.1.0.1 ∙ w.1.1)
    (linked_same p.mode p.outer p.items (it ∷ p.items) n (omega (arith, count_cons opening_item it p.items)) (omega (arith, count_cons closing_item it p.items)) l)
links (rules.fits p rest closed m t o c) h = λ n k l w.
    subst (Linked p.mode p.outer (dedents p.place (length closed) ++ p.items)) (sym (dedents_way p.place (length closed) n k w))
    (linked_same p.mode p.outer p.items (dedents p.place (length closed) ++ p.items) n (dedents_opened p.place (length closed) p.items) (dedents_closed p.place (length closed) p.items) l)
links (rules.misfits p rest m t d o) h = tt
links (rules.passes p b rest f c d) h = passes_links p 1 rest
links (rules.escapes p rest f c d) h = passes_links p (escaped rest) (drop (escaped rest) rest)
links (rules.joins p rest f d) h = passes_links p 1 rest
links (rules.ends_line p rest f c d) h = gives_links p 0 newline 1 1 true (10 ∷ rest) (code_low p.mode c) refl
links (rules.remark p rest f c) h = gives_links p 0 (comment (take (line_len rest) rest)) (1 + line_len rest) (1 + line_len rest) false (35 ∷ rest) c refl
links (rules.lexeme p rest j x v l) h = gives_links p 0 x j j false rest v.outside (token_ordinary (take j rest) x l.means)
links (rules.faults p rest n e v l) h = tt
links (rules.ends_text p closed f c d) h = tt
links (rules.literal p rest j g k v l t e) h = gives_links p 0 (literal_lexeme g.sort (value g (take k (drop j rest)))) (j + k + quotes g.quote) (j + k + quotes g.quote) false rest v.outside (literal_ordinary g.sort (value g (take k (drop j rest))) t)
links (rules.unclosed p rest n g k v l t e) h = tt
links (rules.misspelt p rest n g k m v l t e) h = tt
links (rules.enters p rest j g v l t) h =
    turns_links p (fstring_start g.quote) j (rules.inside p.place g) (p.mode ∷ p.outer) rest (λ n k s w. subst (Linked (rules.inside p.place g) (p.mode ∷ p.outer) p.items) (sym w.1) (t, (v.outside, s)))
links (rules.texts p b g rest j f c some e) h =
    let x = fstring_text (value g (take j rest)) in
    part_links p 0 x j j false rest (λ n k s w. text_goes b g (item (p.place + 0) x (p.place + 0 + j)) p.outer p.items p.mode n k c (sym w.1) s)
links (rules.leaves p b g rest f c e) h = turns_links p fstring_end (quotes g.quote) (rules.below p.outer) (drop 1 p.outer) rest (λ n k s w. leaves_goes b g p.outer p.items n k w (subst (λ y. Linked y p.outer p.items n) c s))
links (rules.opens_field p b g rest f c e) h = turns_links p fstring_expr_start 1 (rules.field b g []) p.outer rest (λ n k s w. opens_goes b g p.outer p.items n k w.0 w.1.0 w.1.1 (subst (λ y. Linked y p.outer p.items n) c s))
links (rules.unfinished p b g rest k f c e) h = tt
links (rules.misspells p b g rest k m f c e) h = tt
links (rules.shuts p b g bs rest f c d) h = turns_links p fstring_expr_end 1 (rules.inside b g) p.outer (125 ∷ rest) (λ n k s w. shuts_goes b g bs p.outer p.items n k w.0 w.1.0 w.1.1 (subst (λ y. Linked y p.outer p.items n) c s))
links (rules.bangs p b g bs rest f c d e) h = part_links p 0 fstring_bang 1 1 false (33 ∷ rest) (λ n k s w. bangs_goes b g bs (item (p.place + 0) fstring_bang (p.place + 0 + 1)) p.outer p.items p.mode n k w.0 c refl w.1.0 w.1.1 s)

-- ---- ways

pub way_append : (xs ys : List Lexeme) (n k : Nest) → Way n (xs ++ ys) k → (l : Nest) × (Way n xs l × Way l ys k)
way_append [] ys n k w = (n, (refl, w))
way_append (x ∷ xs) ys n k w = let t = way_append xs ys w.0 k w.1.1 in (t.0, ((w.0, (w.1.0, t.1.0)), t.1.1))

pub names_append : (xs ys : List Item) → names (xs ++ ys) ≡ names xs ++ names ys
names_append [] ys = refl
names_append (x ∷ xs) ys = ap (λ zs. x.lexeme ∷ zs) (names_append xs ys)
