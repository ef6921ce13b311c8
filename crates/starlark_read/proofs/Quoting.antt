-- Steps of the machine in f-strings.
use Rattle.std.proofs.Common.{◌≡◌, ◌≢◌, ℕ, List, [], ◌∷◌, ◌++◌, Option, Some, None, true, false, not, cond, Bor, MatchOption, refl, ap, sym, subst, ◌∙◌, length}
use Rattle.starlark_place.specs.Place.{Extent}
use Rattle.starlark_lexer.specs.Items.{Lexeme, Item, item, fstring_text, fstring_expr_start, fstring_bang, fstring_expr_end, fstring_end}
use Rattle.starlark_lexer.specs.declared.dialect.Dialect.{Dialect}
use Rattle.starlark_ast.specs.Tree as tree
use Rattle.starlark_rulebook.specs.Rules.{FStringConversion, breaks}
use Rattle.starlark_grammar.specs.Events.{shaped, after_bang, conversion_end}
use Rattle.starlark_grammar.specs.Nodes.{start}
use Rattle.starlark_grammar.specs.Sorts.{is_some, name_of, text_of}
use Rattle.starlark_grammar.specs.Spans.{stretch}
use Rattle.starlark_grammar.specs.Tables.{conversion, doubled, field_format}
use Rattle.starlark_grammar.specs.Points.{field, piece_wanted, letter_wanted, letter_read, reach, on_some}
use Rattle.starlark_grammar.specs.Frames.{Frames, inside, State, has, stands, wants}
use Rattle.starlark_grammar.specs.Machine.{goes as to, else_state}
use Rattle.starlark_grammar.specs.Verdicts.{Broken, converts, some_converts}
use Rattle.starlark_read.specs.Reads.{Left, first_lexeme, Passes, Goes, Sticks, Answers}
use Rattle.starlark_read.specs.Gathered.{text_ahead, converted, conversion_ahead}
use Rattle.starlark_read.proofs.Exits.{goes, goes_past, broken, state_is, stops, not_next}
use Rattle.starlark_read.proofs.Gathering.{other, nothing_there}

pub text_read : {d : Dialect} (b : ℕ) (f t : List ℕ) (ms : tree.Members) (k : Frames) (ts us : Left) → Passes ts (item (start ts.items) (fstring_text t) us.last) us → Goes d (stands (piece_wanted b f ms) k) ts (stands (piece_wanted b (f ++ doubled t) ms) k) us
text_read b f t ms k ts us p = goes p refl refl

pub field_begins : {d : Dialect} (b : ℕ) (f : List ℕ) (ms : tree.Members) (k : Frames) (ts us : Left) → Passes ts (item (start ts.items) fstring_expr_start us.last) us → Goes d (stands (piece_wanted b f ms) k) ts (wants 12 (inside (field b f ms) k)) us
field_begins b f ms k ts us p = goes p refl refl

pub string_ends : {d : Dialect} (b : ℕ) (f : List ℕ) (ms : tree.Members) (k : Frames) (ts us : Left) → Passes ts (item (start ts.items) fstring_end us.last) us → Goes d (stands (piece_wanted b f ms) k) ts (has (tree.fstring f (stretch b us.last) ms (stretch b us.last) (stretch b us.last)) us.last k) us
string_ends b f ms k ts us p = goes p refl refl

pub no_piece : {d : Dialect} (b : ℕ) (f : List ℕ) (ms : tree.Members) (k : Frames) (ts : Left) → text_ahead ts.items ≡ None → first_lexeme ts.items ≢ Some fstring_expr_start → first_lexeme ts.items ≢ Some fstring_end → Sticks d (stands (piece_wanted b f ms) k) ts ts
no_piece b f ms k ts t a e = stops (stands (piece_wanted b f ms) k) ts refl refl (λ x xs q. ap (λ o. else_state (to k o) None) (nothing_there (text_of x.lexeme) _ _ (sym (ap text_ahead q) ∙ t) ∙ other _ _ fstring_expr_start x.lexeme (refl, refl) (not_next ts x xs fstring_expr_start a q) ∙ other _ None fstring_end x.lexeme (refl, refl) (not_next ts x xs fstring_end e q)))

-- a field
pub field_ends : {d : Dialect} (b : ℕ) (f : List ℕ) (ms : tree.Members) (q : tree.Expr) (e : ℕ) (k : Frames) (ts us : Left) → Passes ts (item (start ts.items) fstring_expr_end us.last) us → Goes d (has q e (inside (field b f ms) k)) ts (stands (piece_wanted b (f ++ field_format) (tree.more ms (tree.item q))) k) us
field_ends b f ms q e k ts us p = goes p refl refl

pub bang_read : {d : Dialect} (b : ℕ) (f : List ℕ) (ms : tree.Members) (q : tree.Expr) (e : ℕ) (k : Frames) (ts us : Left) → Passes ts (item (start ts.items) fstring_bang us.last) us → Goes d (has q e (inside (field b f ms) k)) ts (stands (letter_wanted b f ms q (start ts.items) us.last) k) us
bang_read b f ms q e k ts us p = goes p refl refl

pub no_field_end : {d : Dialect} (b : ℕ) (f : List ℕ) (ms : tree.Members) (q : tree.Expr) (e : ℕ) (k : Frames) (ts : Left) → first_lexeme ts.items ≢ Some fstring_expr_end → first_lexeme ts.items ≢ Some fstring_bang → Sticks d (has q e (inside (field b f ms) k)) ts ts
no_field_end b f ms q e k ts a n = stops (has q e (inside (field b f ms) k)) ts refl refl (λ x xs w. ap (to k) (other _ _ fstring_expr_end x.lexeme (refl, refl) (not_next ts x xs fstring_expr_end a w) ∙ other _ None fstring_bang x.lexeme (refl, refl) (not_next ts x xs fstring_bang n w)))

-- a conversion
no_conversion : (o : Option (List ℕ)) → converted o ≡ None → some_converts o ≡ false
no_conversion None h = refl
no_conversion (Some n) h = ap is_some h

no_letter_there : {d : Dialect} (b : ℕ) (f : List ℕ) (ms : tree.Members) (q : tree.Expr) (g h : ℕ) (k : Frames) (ts : Left) → conversion_ahead ts.items ≡ None → Answers d (stands (letter_wanted b f ms q g h) k) ts (Broken (breaks FStringConversion (stretch g (conversion_end (stretch g h).end ts.items))) (length ts.items)) ts
no_letter_there b f ms q g h k ts n = broken ts (shaped after_bang (stretch g h)) (breaks FStringConversion (stretch g (conversion_end (stretch g h).end ts.items))) refl (ap (λ b. cond (not b) (Some (breaks FStringConversion (stretch g (conversion_end (stretch g h).end ts.items)))) None) (go ts.items n))
  where
    go : (xs : List Item) → conversion_ahead xs ≡ None → converts xs ≡ false
    go [] n = refl
    go (x ∷ xs) n = no_conversion (name_of x.lexeme) n

pub letter_found : {d : Dialect} (b : ℕ) (f s : List ℕ) (ms : tree.Members) (q : tree.Expr) (g h : ℕ) (k : Frames) (x : Lexeme) (ts us : Left) → conversion_ahead ts.items ≡ Some s → Passes ts (item (start ts.items) x us.last) us → Goes d (stands (letter_wanted b f ms q g h) k) ts (stands (letter_read b (f ++ s) (tree.more ms (tree.item q))) k) us
letter_found b f s ms q g h k x ts us w p = goes_past (shaped after_bang (stretch g h)) p refl (ap (λ b. cond (not b) (Some (breaks FStringConversion (stretch g (conversion_end (stretch g h).end (item (start ts.items) x us.last ∷ us.items))))) None) (one (name_of x) v)) (two (name_of x) v)
  where
    v : converted (name_of x) ≡ Some s
    v = sym (ap conversion_ahead p.items) ∙ w

    one : (o : Option (List ℕ)) → converted o ≡ Some s → some_converts o ≡ true
    one None h = absurd (cc)
    one (Some n) h = ap is_some h

    two : (o : Option (List ℕ)) → converted o ≡ Some s → else_state (to k (on_some o (λ n. on_some (conversion n) (λ s. Some (reach (letter_read b (f ++ s) (tree.more ms (tree.item q))))) None) None)) None ≡ Some (stands (letter_read b (f ++ s) (tree.more ms (tree.item q))) k)
    two None h = absurd (cc)
    two (Some n) h = ap (λ o. else_state (to k (on_some o (λ s. Some (reach (letter_read b (f ++ s) (tree.more ms (tree.item q))))) None)) None) h

pub letter_ends : {d : Dialect} (b : ℕ) (f : List ℕ) (ms : tree.Members) (k : Frames) (ts us : Left) → Passes ts (item (start ts.items) fstring_expr_end us.last) us → Goes d (stands (letter_read b f ms) k) ts (stands (piece_wanted b f ms) k) us
letter_ends b f ms k ts us p = goes p refl refl

pub no_letter_end : {d : Dialect} (b : ℕ) (f : List ℕ) (ms : tree.Members) (k : Frames) (ts : Left) → first_lexeme ts.items ≢ Some fstring_expr_end → Sticks d (stands (letter_read b f ms) k) ts ts
no_letter_end b f ms k ts a = stops (stands (letter_read b f ms) k) ts refl refl (λ x xs w. ap (λ o. else_state (to k o) None) (other _ None fstring_expr_end x.lexeme (refl, refl) (not_next ts x xs fstring_expr_end a w)))

pub some_ahead : (xs : List Item) (s : List ℕ) → conversion_ahead xs ≡ Some s → xs ≢ []
some_ahead xs s h e = absurd (let w : None ≡ Some s = sym (ap conversion_ahead e) ∙ h in (cc))

-- a literal that is put behind the format
pub put : {d : Dialect} {s : State} {ts us : Left} (b : ℕ) (f g : List ℕ) (ms : tree.Members) (k : Frames) → Goes d s ts (stands (piece_wanted b f ms) k) us → g ≡ f → Goes d s ts (stands (piece_wanted b g ms) k) us
put b f g ms k p h = state_is p (ap (λ z. stands (piece_wanted b z ms) k) (sym h))

pub no_letter : {d : Dialect} (b : ℕ) (f : List ℕ) (ms : tree.Members) (q : tree.Expr) (g h : ℕ) (k : Frames) (ts : Left) (o : Option (Bor (List ℕ))) (s : Extent) → o ≡ None → MatchOption o (conversion_ahead ts.items ≡ None) (λ l. conversion_ahead ts.items ≡ Some l.now) → s ≡ stretch g (conversion_end (stretch g h).end ts.items) → Answers d (stands (letter_wanted b f ms q g h) k) ts (Broken (breaks FStringConversion s) (length ts.items)) ts
no_letter {d} b f ms q g h k ts None s e n w = subst (λ z. Answers d (stands (letter_wanted b f ms q g h) k) ts (Broken (breaks FStringConversion z) (length ts.items)) ts) (sym w) (no_letter_there b f ms q g h k ts n)
no_letter b f ms q g h k ts (Some l) s e n w = absurd (let v : Some l ≡ None = e in (cc))

pub letters : (ts : Left) (o : Option (Bor (List ℕ))) (l : Bor (List ℕ)) → o ≡ Some l → MatchOption o (conversion_ahead ts.items ≡ None) (λ l. conversion_ahead ts.items ≡ Some l.now) → conversion_ahead ts.items ≡ Some l.now
letters ts None l e h = absurd (let n : None ≡ Some l = e in (cc))
letters ts (Some z) l e h = h ∙ ap Some (let q : z ≡ l = cc in ap (λ y. y.now) q)

pub string_span : (f : List ℕ) (ms : tree.Members) (s t : Extent) → s ≡ t → tree.fstring f s ms s s ≡ tree.fstring f t ms t t
string_span f ms s t h = ap (λ z. tree.fstring f z ms z z) h

pub field_from : {d : Dialect} {s : State} {ts us : Left} {b : ℕ} {f : List ℕ} {ms : tree.Members} {k : Frames} (g : List ℕ) → Goes d s ts (wants 12 (inside (field b f ms) k)) us → g ≡ f → Goes d s ts (wants 12 (inside (field b g ms) k)) us
field_from {b = b} {ms = ms} {k = k} g p h = state_is p (ap (λ z. wants 12 (inside (field b z ms) k)) (sym h))

pub pieces_as : {d : Dialect} {s : State} {ts us : Left} {b : ℕ} {f : List ℕ} {ms : tree.Members} {k : Frames} (ns : tree.Members) → Goes d s ts (stands (piece_wanted b f ms) k) us → ns ≡ ms → Goes d s ts (stands (piece_wanted b f ns) k) us
pieces_as {b = b} {f = f} {k = k} ns p h = state_is p (ap (λ z. stands (piece_wanted b f z) k) (sym h))

pub letter_from : {d : Dialect} {s : State} {ts us : Left} {b : ℕ} {f : List ℕ} {ms : tree.Members} {q : tree.Expr} {i j : ℕ} {k : Frames} (g : ℕ) → Goes d s ts (stands (letter_wanted b f ms q i j) k) us → g ≡ i → Goes d s ts (stands (letter_wanted b f ms q g j) k) us
letter_from {b = b} {f = f} {ms = ms} {q = q} {j = j} {k = k} g h w = state_is h (ap (λ z. stands (letter_wanted b f ms q z j) k) (sym w))

pub string_from : {d : Dialect} {s : State} {ts us : Left} {i : ℕ} {k : Frames} (g : ℕ) → Goes d s ts (stands (piece_wanted i [] tree.none) k) us → g ≡ i → Goes d s ts (stands (piece_wanted g [] tree.none) k) us
string_from {k = k} g h w = state_is h (ap (λ z. stands (piece_wanted z [] tree.none) k) (sym w))
