-- A text cut off behind one of its tokens.
use Rattle.std.proofs.Common.{ℕ, ◌≡◌, ◌≤◌, ◌⊎◌, ◌∷◌, ◌++◌, ◌∙◌, [], List, Option, Some, None, Bool, true, false, cond, map, length, take, drop, refl, ap, sym, subst, arith, inl, inr}
use Rattle.std.proofs.lemmas.List.{take-append-drop, length-take-le}
use Rattle.starlark_lexer.specs.Items.{Lexeme, comment, Item, Stop, Lexed}
use Rattle.starlark_lexer.specs.Lex.{Lex, start}
use Rattle.starlark_lexer.specs.Order.{InOrder}
use Rattle.starlark_grammar.specs.Language.{bare, is_comment, last_end, without_comments}
use Rattle.starlark_cutting.specs.Cutting.{IsCutAt}
use Rattle.starlark_cutting.specs.Opened.{Nest, Way}
use Rattle.starlark_completion.specs.Ending.{Last, kind_of, last_of}

-- the last of a list
pub snoc : (w : List Item) → (w ≡ []) ⊎ ((v : List Item) × ((z : Item) × (w ≡ v ++ z ∷ [])))
snoc [] = inl refl
snoc (x ∷ w) = inr (by (snoc w))
  where
    by : (w ≡ []) ⊎ ((v : List Item) × ((z : Item) × (w ≡ v ++ z ∷ []))) → (v : List Item) × ((z : Item) × (x ∷ w ≡ v ++ z ∷ []))
    by (inl q) = ([], (x, ap (λ y. x ∷ y) q))
    by (inr h) = (x ∷ h.0, (h.1.0, ap (λ y. x ∷ y) h.1.1))

pub last_there : (l : Last) (w : List Item) (z : Item) → last_of l (w ++ z ∷ []) ≡ kind_of z.lexeme
last_there l [] z = refl
last_there l (x ∷ w) z = last_there (kind_of x.lexeme) w z

pub end_there : (d : ℕ) (w : List Item) (z : Item) → last_end d (w ++ z ∷ []) ≡ z.end
end_there d [] z = refl
end_there d (x ∷ w) z = end_there x.end w z

-- a token among items
pub record IsParted (items w : List Item) (z : Item) : Type 0 where
  pub before : List Item
  pub behind : List Item
  pub is : items ≡ before ++ z ∷ behind
  pub front : without_comments before ≡ w
  pub no_comment : is_comment z.lexeme ≡ false

pub parted : (items w : List Item) (z : Item) (rest : List Item) → without_comments items ≡ w ++ z ∷ rest → IsParted items w z
parted [] [] z rest q = absurd (cc)
parted [] (y ∷ w) z rest q = absurd (cc)
parted (x ∷ items) w z rest q = by (is_comment x.lexeme) refl w q (λ v. parted items v z rest)
  where
    by : (b : Bool) → is_comment x.lexeme ≡ b → (w : List Item) → cond b (without_comments items) (x ∷ without_comments items) ≡ w ++ z ∷ rest → ((v : List Item) → without_comments items ≡ v ++ z ∷ rest → IsParted items v z) → IsParted (x ∷ items) w z
    by true c w q go =
        let h = go w q in
        record { before = x ∷ h.before; behind = h.behind; is = ap (λ ys. x ∷ ys) h.is; front = ap (λ b. cond b (without_comments h.before) (x ∷ without_comments h.before)) c ∙ h.front; no_comment = h.no_comment }
    by false c [] q go =
        let e : x ≡ z = cc in
        record { before = []; behind = items; is = ap (λ y. y ∷ items) e; front = refl; no_comment = ap (λ y. is_comment y.lexeme) (sym e) ∙ c }
    by false c (y ∷ w) q go =
        let e : x ≡ y = cc in
        let r : without_comments items ≡ w ++ z ∷ rest = cc in
        let h = go w r in
        record { before = x ∷ h.before; behind = h.behind; is = ap (λ ys. x ∷ ys) h.is; front = ap (λ b. cond b (without_comments h.before) (x ∷ without_comments h.before)) c ∙ (λ i. e i ∷ h.front i); no_comment = h.no_comment }

-- items end within the text
in_text : (i n : ℕ) (xs : List Item) (f : Option Stop) → InOrder i n xs f → i ≤ n
in_text i n [] None h = h
in_text i n [] (Some s) h = h.0
in_text i n (x ∷ xs) f h = let r = in_text x.end n xs f h.2 in omega (arith, h.0, h.1, r)

ends_in_text : (i n : ℕ) (before : List Item) (z : Item) (behind : List Item) (f : Option Stop) → InOrder i n (before ++ z ∷ behind) f → z.end ≤ n
ends_in_text i n [] z behind f h = in_text z.end n behind f h.2
ends_in_text i n (x ∷ before) z behind f h = ends_in_text x.end n before z behind f h.2

-- the text up to the end of an item, and what is behind
pub cut_there : (text : List ℕ) (l : Lexed) → Lex start text l → InOrder 0 (length text) l.items l.fault → (before : List Item) (z : Item) (behind : List Item) → l.items ≡ before ++ z ∷ behind → IsCutAt (take z.end text) (drop z.end text) before z behind
cut_there text l lex order before z behind q =
    let o : InOrder 0 (length text) (before ++ z ∷ behind) l.fault = subst (λ xs. InOrder 0 (length text) xs l.fault) q order in
    let le = ends_in_text 0 (length text) before z behind l.fault o in
    record {
      fault = l.fault;
      lex = subst (λ t. Lex start t (record { items = before ++ z ∷ behind; fault = l.fault })) (sym (take-append-drop z.end text)) (subst (λ xs. Lex start text (record { items = xs; fault = l.fault })) q lex);
      length_is = length-take-le z.end text le;
    }

-- comments change no nest
pub with_comments : (xs : List Item) (m n : Nest) → Way m (bare (without_comments xs)) n → Way m (map (λ (y : Item). y.lexeme) xs) n
with_comments [] m n h = h
with_comments (x ∷ xs) m n h = by x.lexeme x.begin x.end (λ k. with_comments xs k n) h
  where
    by : (y : Lexeme) (i j : ℕ) → ((k : Nest) → Way k (bare (without_comments xs)) n → Way k (map (λ (y : Item). y.lexeme) xs) n) → Way m (bare (without_comments (record { begin = i; lexeme = y; end = j } ∷ xs))) n → Way m (y ∷ map (λ (y : Item). y.lexeme) xs) n
    by (comment t) i j go h = (m, (refl, go m h))
    by y i j go h = (h.0, (h.1.0, go h.0 h.1.1))

pub way_parts : (m n : Nest) (xs ys : List Lexeme) → Way m (xs ++ ys) n → (k : Nest) × (Way m xs k × Way k ys n)
way_parts m n [] ys h = (m, (refl, h))
way_parts m n (x ∷ xs) ys h = let r = way_parts h.0 n xs ys h.1.1 in (r.0, ((h.0, (h.1.0, r.1.0)), r.1.1))
