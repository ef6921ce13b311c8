-- Steps of the machine between brackets.
use Rattle.std.proofs.Common.{◌≡◌, ◌≢◌, ◌⊎◌, inl, inr, ℕ, List, [], ◌∷◌, ◌++◌, Option, Some, None, Bool, true, false, nat_eq, cond, MatchOption, refl, ap, sym, subst, ◌∙◌}
use Rattle.std.proofs.lemmas.List.Sums.{fold-append}
use Rattle.std.specs.Bool.{MatchBool}
use Rattle.starlark_place.specs.Place.{Extent}
use Rattle.starlark_lexer.specs.Items.{Lexeme, Item, item, lexeme_of, identifier, integer, float, string, bytes, ellipsis, fstring_start, opening_round, opening_square, opening_curly, closing_round, closing_square, closing_curly, comma, colon, keyword_for}
use Rattle.starlark_lexer.specs.declared.dialect.Dialect.{Dialect}
use Rattle.starlark_lexer.specs.declared.token.Token.{Token}
use Rattle.starlark_ast.specs.Tree as tree
use Rattle.starlark_ast.specs.View.{members}
use Rattle.starlark_grammar.specs.Spans.{stretch}
use Rattle.starlark_grammar.specs.Nodes.{start, leaf_at}
use Rattle.starlark_grammar.specs.Sorts.{sort}
use Rattle.starlark_grammar.specs.Tables.{Bracket, round, square, curly, closing_bracket, kind_in, tests, enclosed, leaf, beginning}
use Rattle.starlark_grammar.specs.Points.{Place, brackets, close_of, Part, an_item, member_of, Frame, member, key, Point, member_wanted, member_read, key_read, Outcome, on, first_at, clause_behind, on_some}
use Rattle.starlark_grammar.specs.Frames.{Frames, tail, inside, State, wants, has, stands}
use Rattle.starlark_grammar.specs.Machine.{goes as to, begin_with, else_state, move, step}
use Rattle.starlark_grammar.specs.Runs.{Stuck, met_at, note, run}
use Rattle.starlark_read.specs.Reads.{Left, first_lexeme, Passes, Goes, Sticks}
use Rattle.starlark_read.specs.Gathered.{is_leaf, leaf_ahead, is_opening, opening_ahead, is_quoted, quoted_ahead, gathered}
use Rattle.starlark_grammar.proofs.Sorts.{Plain, same_sort}
use Rattle.starlark_grammar.proofs.Steps.{arrive, runs, runs_end, same}
use Rattle.starlark_read.proofs.Exits.{goes, runs_as, seen_as, state_is, stops, not_next}

-- a token that was read, from where the tokens began to where the last one ends
pub as_read : {ts us : Left} {i j : ℕ} {x : Lexeme} → Passes ts (item i x j) us → Passes ts (item (start ts.items) x us.last) us
as_read {ts} {us} {i} {j} {x} p = record {
  items = p.items ∙ ap (λ z. z ∷ us.items) (ap (λ n. item n x j) (sym (ap start p.items)) ∙ ap (λ n. item (start ts.items) x n) (sym p.last));
  fault = p.fault;
  last = refl;
  unasked = p.unasked;
  aside = p.aside;
}

-- what `next` read
pub took : (ts us : Left) (o : Option (Token × Extent)) (x y : Token) (s : Extent) → o ≡ Some (x, s) → x ≡ y → MatchOption o ((ts.items ≡ []) × (us ≡ ts)) (λ z. Passes ts (item z.1.begin (lexeme_of z.0) z.1.end) us) → Passes ts (item (start ts.items) (lexeme_of y) us.last) us
took ts us None x y s e w h = absurd (let n : None ≡ Some (x, s) = e in (cc))
took ts us (Some z) x y s e w h = let q : z ≡ (x, s) = cc in as_read (subst (λ u. Passes ts (item s.begin (lexeme_of u) s.end) us) w (subst (λ u. Passes ts (item u.1.begin (lexeme_of u.0) u.1.end) us) q h))

-- no expression of one token begins there
pub no_leaf : {d : Dialect} (k : Frames) (ts : Left) → leaf_ahead ts.items ≡ false → opening_ahead ts.items ≡ false → Sticks d (wants 0 k) ts ts
no_leaf k ts h g = stops (wants 0 k) ts refl refl (λ x xs q. one x.lexeme x.begin x.end (sym (ap leaf_ahead q) ∙ h) (sym (ap opening_ahead q) ∙ g))
  where
    one : (y : Lexeme) (i j : ℕ) → is_leaf (beginning y) ≡ false → is_opening y ≡ false → move (wants 0 k) y i j ≡ None
    one (identifier n) i j h g = absurd (cc)
    one (integer n) i j h g = absurd (cc)
    one (float n) i j h g = absurd (cc)
    one (string t) i j h g = absurd (cc)
    one (bytes t) i j h g = absurd (cc)
    one ellipsis i j h g = absurd (cc)
    one opening_round i j h g = absurd (cc)
    one opening_square i j h g = absurd (cc)
    one opening_curly i j h g = absurd (cc)
    one (fstring_start q) i j h g = absurd (cc)
    one _ i j h g = refl

-- another token
pub other : (here there : Option Outcome) (y x : Lexeme) → Plain y → x ≢ y → on y x here there ≡ there
other here there y x p n = ap (λ b. cond b here there) (go (nat_eq (sort y) (sort x)) refl)
  where
    go : (b : Bool) → nat_eq (sort y) (sort x) ≡ b → nat_eq (sort y) (sort x) ≡ false
    go false e = e
    go true e = absurd (n (same_sort y x p e))

pub both_none : (y x : Lexeme) → on y x None None ≡ None
both_none y x = go (nat_eq (sort y) (sort x))
  where
    go : (b : Bool) → cond b (let o : Option Outcome = None in o) None ≡ None
    go true = refl
    go false = refl

pub nothing_there : {A : Type 0} (o : Option A) (h : A → Option Outcome) (z : Option Outcome) → o ≡ None → on_some o h z ≡ z
nothing_there None h z w = refl
nothing_there (Some a) h z w = absurd (cc)

pub or_none : (o : Option State) → o ≡ else_state o None
or_none None = refl
or_none (Some s) = refl

-- an expression may come there
pub opens_there : {d : Dialect} (p : Point) (n : ℕ) (fr : ℕ → Frame) (k : Frames) (ts : Left) → met_at p ≡ None → ((x : Item) (xs : List Item) → ts.items ≡ x ∷ xs → step (stands p k) x ≡ step (wants n (inside (fr x.begin) k)) x) → Goes d (stands p k) ts (wants n (inside (fr (start ts.items)) k)) ts
opens_there p n fr k ts m h = runs_as (go ts.items h)
  where
    go : (xs : List Item) → ((x : Item) (ys : List Item) → xs ≡ x ∷ ys → step (stands p k) x ≡ step (wants n (inside (fr x.begin) k)) x) → run (stands p k) xs ≡ run (wants n (inside (fr (start xs)) k)) xs
    go [] h = runs_end (stands p k) ∙ ap (λ o. note [] o (Stuck [])) m ∙ sym (runs_end (wants n (inside (fr 0) k)))
    go (x ∷ xs) h = runs (stands p k) x xs ∙ ap (λ o. arrive x xs o (step (stands p k) x)) m ∙ ap (arrive x xs None) (h x xs refl) ∙ sym (runs (wants n (inside (fr x.begin) k)) x xs)

pub item_begins : {d : Dialect} (p : Bracket) (b : ℕ) (ms : tree.Members) (t : Bool) (e f : ℕ) (k : Frames) (ts : Left) → kind_in p ≡ tests → first_lexeme ts.items ≢ Some (closing_bracket p) → Goes d (stands (member_wanted (brackets p b) ms t e f) k) ts (wants 12 (inside (member (brackets p b) ms (first_at ms f (start ts.items)) (start ts.items) an_item) k)) ts
item_begins round b ms t e f k ts h n = opens_there (member_wanted (brackets round b) ms t e f) 12 (λ i. member (brackets round b) ms (first_at ms f i) i an_item) k ts refl (λ x xs q. ap (λ o. else_state (to k o) (step (wants 12 (inside (member (brackets round b) ms (first_at ms f x.begin) x.begin an_item) k)) x)) (other _ None closing_round x.lexeme (refl, refl) (not_next ts x xs closing_round n q)))
item_begins square b ms t e f k ts h n = opens_there (member_wanted (brackets square b) ms t e f) 12 (λ i. member (brackets square b) ms (first_at ms f i) i an_item) k ts refl (λ x xs q. ap (λ o. else_state (to k o) (step (wants 12 (inside (member (brackets square b) ms (first_at ms f x.begin) x.begin an_item) k)) x)) (other _ None closing_square x.lexeme (refl, refl) (not_next ts x xs closing_square n q)))
item_begins curly b ms t e f k ts h n = absurd (cc)

pub key_begins : {d : Dialect} (b : ℕ) (ms : tree.Members) (t : Bool) (e f : ℕ) (k : Frames) (ts : Left) → first_lexeme ts.items ≢ Some closing_curly → Goes d (stands (member_wanted (brackets curly b) ms t e f) k) ts (wants 12 (inside (key b ms (first_at ms f (start ts.items)) (start ts.items)) k)) ts
key_begins b ms t e f k ts n = opens_there (member_wanted (brackets curly b) ms t e f) 12 (λ i. key b ms (first_at ms f i) i) k ts refl (λ x xs q. ap (λ o. else_state (to k o) (step (wants 12 (inside (key b ms (first_at ms f x.begin) x.begin) k)) x)) (other _ None closing_curly x.lexeme (refl, refl) (not_next ts x xs closing_curly n q)))

-- a member is whole
pub member_ends : {d : Dialect} (w : Place) (ms : tree.Members) (f b : ℕ) (part : Part) (q : tree.Expr) (e : ℕ) (k : Frames) (ts : Left) → Goes d (has q e (inside (member w ms f b part) k)) ts (stands (member_read w (tree.more ms (member_of part q (stretch b e))) e f) k) ts
member_ends w ms f b part q e k ts = runs_as (same (has q e (inside (member w ms f b part) k)) (stands (member_read w (tree.more ms (member_of part q (stretch b e))) e f) k) refl (λ x. or_none _) (λ x. refl) ts.items)

pub key_ends : {d : Dialect} (b : ℕ) (ms : tree.Members) (f g : ℕ) (q : tree.Expr) (e : ℕ) (k : Frames) (ts : Left) → Goes d (has q e (inside (key b ms f g) k)) ts (stands (key_read b ms f g q) k) ts
key_ends b ms f g q e k ts = runs_as (same (has q e (inside (key b ms f g) k)) (stands (key_read b ms f g q) k) refl (λ x. or_none _) (λ x. refl) ts.items)

-- neither a comma nor the end nor a comprehension is behind a member
pub no_member_end : {d : Dialect} (w : Place) (ms : tree.Members) (e f : ℕ) (k : Frames) (ts : Left) → Plain (close_of w) → first_lexeme ts.items ≢ Some comma → first_lexeme ts.items ≢ Some (close_of w) → (clause_behind w ms ≡ None) ⊎ (first_lexeme ts.items ≢ Some keyword_for) → Sticks d (stands (member_read w ms e f) k) ts ts
no_member_end w ms e f k ts p a b c = stops (stands (member_read w ms e f) k) ts refl refl (λ x xs q. ap (λ o. else_state (to k o) None) (other _ _ comma x.lexeme (refl, refl) (not_next ts x xs comma a q) ∙ other _ _ (close_of w) x.lexeme p (not_next ts x xs (close_of w) b q) ∙ third x xs q c))
  where
    third : (x : Item) (xs : List Item) → ts.items ≡ x ∷ xs → (clause_behind w ms ≡ None) ⊎ (first_lexeme ts.items ≢ Some keyword_for) → on keyword_for x.lexeme (clause_behind w ms) None ≡ None
    third x xs q (inl h) = ap (λ o. on keyword_for x.lexeme o None) h ∙ both_none keyword_for x.lexeme
    third x xs q (inr h) = other _ None keyword_for x.lexeme (refl, refl) (not_next ts x xs keyword_for h q)

pub round_clause : (b : ℕ) (ms : tree.Members) → clause_behind (brackets round b) ms ≡ None
round_clause b tree.none = refl
round_clause b (tree.more tree.none m) = refl
round_clause b (tree.more (tree.more ms l) m) = refl

pub many_clause : (p : Bracket) (b : ℕ) (ms : tree.Members) (m : tree.Member) → ms ≢ tree.none → clause_behind (brackets p b) (tree.more ms m) ≡ None
many_clause p b tree.none m h = absurd (h refl)
many_clause p b (tree.more ms l) m h = refl

-- the brackets close
pub closes_wanted : {d : Dialect} (p : Bracket) (b : ℕ) (ms : tree.Members) (t : Bool) (e f : ℕ) (k : Frames) (ts us : Left) (w : Lexeme) → w ≡ closing_bracket p → Passes ts (item (start ts.items) w us.last) us → Goes d (stands (member_wanted (brackets p b) ms t e f) k) ts (has (enclosed p ms t (stretch b us.last) (stretch f e)) us.last k) us
closes_wanted {d} p b ms t e f k ts us w h q = go p (subst (λ z. Passes ts (item (start ts.items) z us.last) us) h q)
  where
    go : (p : Bracket) → Passes ts (item (start ts.items) (closing_bracket p) us.last) us → Goes d (stands (member_wanted (brackets p b) ms t e f) k) ts (has (enclosed p ms t (stretch b us.last) (stretch f e)) us.last k) us
    go round q = goes q refl refl
    go square q = goes q refl refl
    go curly q = goes q refl refl

pub closes_read : {d : Dialect} (p : Bracket) (b : ℕ) (ms : tree.Members) (e f : ℕ) (k : Frames) (ts us : Left) (w : Lexeme) → w ≡ closing_bracket p → Passes ts (item (start ts.items) w us.last) us → Goes d (stands (member_read (brackets p b) ms e f) k) ts (has (enclosed p ms false (stretch b us.last) (stretch f e)) us.last k) us
closes_read {d} p b ms e f k ts us w h q = go p (subst (λ z. Passes ts (item (start ts.items) z us.last) us) h q)
  where
    go : (p : Bracket) → Passes ts (item (start ts.items) (closing_bracket p) us.last) us → Goes d (stands (member_read (brackets p b) ms e f) k) ts (has (enclosed p ms false (stretch b us.last) (stretch f e)) us.last k) us
    go round q = goes q refl refl
    go square q = goes q refl refl
    go curly q = goes q refl refl

-- several members
pub gathers_wanted : (p : Bracket) (ms : tree.Members) (outer inner : Extent) → kind_in p ≡ tests → ms ≢ tree.none → enclosed p ms true outer inner ≡ gathered p ms outer inner
gathers_wanted round tree.none outer inner h n = absurd (n refl)
gathers_wanted round (tree.more tree.none (tree.item x)) outer inner h n = refl
gathers_wanted round (tree.more tree.none _) outer inner h n = refl
gathers_wanted round (tree.more (tree.more ms l) m) outer inner h n = refl
gathers_wanted square ms outer inner h n = refl
gathers_wanted curly ms outer inner h n = refl

pub gathers_read : (p : Bracket) (ms : tree.Members) (m : tree.Member) (outer inner : Extent) → ms ≢ tree.none → enclosed p (tree.more ms m) false outer inner ≡ gathered p (tree.more ms m) outer inner
gathers_read p tree.none m outer inner n = absurd (n refl)
gathers_read round (tree.more ms l) m outer inner n = refl
gathers_read square (tree.more ms l) m outer inner n = refl
gathers_read curly (tree.more ms l) m outer inner n = refl

-- one more member
pub one_more : {X : Type 0} (h : X → tree.Member) (xs : List X) (x : X) → members h (xs ++ x ∷ []) ≡ tree.more (members h xs) (h x)
one_more h xs x = fold-append (λ ms y. tree.more ms (h y)) tree.none xs (x ∷ [])

pub first_kept : (ms : tree.Members) (f i : ℕ) → ms ≢ tree.none → first_at ms f i ≡ f
first_kept tree.none f i n = absurd (n refl)
first_kept (tree.more ms m) f i n = refl

pub leaf_read : {d : Dialect} (k : Frames) {ts us : Left} (l : tree.Leaf) (y : Lexeme) (x : tree.Expr) → Passes ts (item (start ts.items) y us.last) us → beginning y ≡ Some (leaf l) → x ≡ leaf_at l (stretch (start ts.items) us.last) → Goes d (wants 0 k) ts (has x us.last (tail 0 k)) us
leaf_read k {ts} {us} l y x p h w = seen_as (goes p refl (ap (λ o. begin_with o 0 (start ts.items) us.last k) h)) w

-- a place from a beginning that was asked for before
pub placed : {s : Extent} (b a n : ℕ) → s ≡ stretch b n → b ≡ a → s ≡ stretch a n
placed {s} b a n h w = h ∙ ap (λ z. stretch z n) w

pub no_colon : {d : Dialect} (b : ℕ) (ms : tree.Members) (f g : ℕ) (q : tree.Expr) (k : Frames) (ts : Left) → first_lexeme ts.items ≢ Some colon → Sticks d (stands (key_read b ms f g q) k) ts ts
no_colon b ms f g q k ts n = stops (stands (key_read b ms f g q) k) ts refl refl (λ x xs w. ap (λ o. else_state (to k o) None) (other _ None colon x.lexeme (refl, refl) (not_next ts x xs colon n w)))

pub found_true : (A B : Type 0) (b : Bool) → b ≡ true → MatchBool b A B → A
found_true A B true e h = h
found_true A B false e h = absurd (cc)

pub found_false : (A B : Type 0) (b : Bool) → b ≡ false → MatchBool b A B → B
found_false A B true e h = absurd (cc)
found_false A B false e h = h

-- the same tokens have the same first one
pub still : {us ts : Left} {w : Lexeme} → us ≡ ts → first_lexeme ts.items ≢ Some w → first_lexeme us.items ≢ Some w
still q h e = h (ap (λ z. first_lexeme z.items) (sym q) ∙ e)

pub before : {us ts : Left} {w : Lexeme} → us ≡ ts → first_lexeme us.items ≢ Some w → first_lexeme ts.items ≢ Some w
before q h e = h (ap (λ z. first_lexeme z.items) q ∙ e)

-- a member by another name
pub member_as : {d : Dialect} {s : State} {ts us : Left} {w : Place} {ms : tree.Members} {l m : tree.Member} {e f : ℕ} {k : Frames} → Goes d s ts (stands (member_read w (tree.more ms m) e f) k) us → l ≡ m → Goes d s ts (stands (member_read w (tree.more ms l) e f) k) us
member_as {w = w} {ms = ms} {e = e} {f = f} {k = k} p h = state_is p (ap (λ z. stands (member_read w (tree.more ms z) e f) k) (sym h))

-- no bracket and no f-string begins there
pub no_opening : (ts : Left) → first_lexeme ts.items ≢ Some opening_round → first_lexeme ts.items ≢ Some opening_square → first_lexeme ts.items ≢ Some opening_curly → quoted_ahead ts.items ≡ false → opening_ahead ts.items ≡ false
no_opening ts a b c q = go ts.items a b c q
  where
    one : (y : Lexeme) → y ≢ opening_round → y ≢ opening_square → y ≢ opening_curly → is_quoted y ≡ false → is_opening y ≡ false
    one opening_round a b c q = absurd (a refl)
    one opening_square a b c q = absurd (b refl)
    one opening_curly a b c q = absurd (c refl)
    one (fstring_start t) a b c q = absurd (cc)
    one _ a b c q = refl

    go : (xs : List Item) → first_lexeme xs ≢ Some opening_round → first_lexeme xs ≢ Some opening_square → first_lexeme xs ≢ Some opening_curly → quoted_ahead xs ≡ false → opening_ahead xs ≡ false
    go [] a b c q = refl
    go (x ∷ xs) a b c q = one x.lexeme (λ e. a (ap Some e)) (λ e. b (ap Some e)) (λ e. c (ap Some e)) q

-- one token more was there
pub skipped : (ts us : Left) → ts.items ≢ [] → MatchOption (first_lexeme ts.items) ((ts.items ≡ []) × (us ≡ ts)) (λ w. Passes ts (item (start ts.items) w us.last) us) → (y : Lexeme) × Passes ts (item (start ts.items) y us.last) us
skipped ts us n h = go (first_lexeme ts.items) h
  where
    go : (o : Option Lexeme) → MatchOption o ((ts.items ≡ []) × (us ≡ ts)) (λ w. Passes ts (item (start ts.items) w us.last) us) → (y : Lexeme) × Passes ts (item (start ts.items) y us.last) us
    go None q = absurd (n q.0)
    go (Some w) q = (w, q)

-- members by another name, and from another beginning
pub wanted_from : {d : Dialect} {s : State} {ts us : Left} {w : Place} {ms : tree.Members} {t : Bool} {e f : ℕ} {k : Frames} (g : ℕ) → Goes d s ts (stands (member_wanted w ms t e f) k) us → g ≡ f → Goes d s ts (stands (member_wanted w ms t e g) k) us
wanted_from {w = w} {ms = ms} {t = t} {e = e} {k = k} g p h = state_is p (ap (λ z. stands (member_wanted w ms t e z) k) (sym h))

pub wanted_as : {d : Dialect} {s : State} {ts us : Left} {w : Place} {ms : tree.Members} {t : Bool} {e f : ℕ} {k : Frames} (ns : tree.Members) → Goes d s ts (stands (member_wanted w ms t e f) k) us → ns ≡ ms → Goes d s ts (stands (member_wanted w ns t e f) k) us
wanted_as {w = w} {t = t} {e = e} {f = f} {k = k} ns p h = state_is p (ap (λ z. stands (member_wanted w z t e f) k) (sym h))

pub read_as : {d : Dialect} {s : State} {ts us : Left} {w : Place} {ms : tree.Members} {e f : ℕ} {k : Frames} (ns : tree.Members) (g : ℕ) → Goes d s ts (stands (member_read w ms e f) k) us → ns ≡ ms → g ≡ f → Goes d s ts (stands (member_read w ns e g) k) us
read_as {w = w} {ms = ms} {e = e} {f = f} {k = k} ns g p h q = state_is p (ap (λ z. stands (member_read w z e f) k) (sym h) ∙ ap (λ z. stands (member_read w ns e z) k) (sym q))

pub gathers_read_as : (p : Bracket) (ns ms : tree.Members) (m : tree.Member) (outer inner : Extent) → ns ≡ tree.more ms m → ms ≢ tree.none → enclosed p ns false outer inner ≡ gathered p ns outer inner
gathers_read_as p ns ms m outer inner h n = subst (λ z. enclosed p z false outer inner ≡ gathered p z outer inner) (sym h) (gathers_read p ms m outer inner n)

-- tokens that stayed, and then one that was read
pub passes_from : {us ts vs : Left} (w : Lexeme) → us ≡ ts → Passes us (item (start us.items) w vs.last) vs → Passes ts (item (start ts.items) w vs.last) vs
passes_from {us} {ts} {vs} w q p = subst (λ z. Passes z (item (start z.items) w vs.last) vs) q p

pub span_from : {us ts : Left} (s : Extent) (n : ℕ) → us ≡ ts → s ≡ stretch (start us.items) n → s ≡ stretch (start ts.items) n
span_from s n q h = h ∙ ap (λ z. stretch (start z.items) n) q

pub bracket_from : {d : Dialect} {s : State} {ts us : Left} {p : Bracket} {i : ℕ} {k : Frames} (g : ℕ) → Goes d s ts (stands (member_wanted (brackets p i) tree.none false 0 0) k) us → g ≡ i → Goes d s ts (stands (member_wanted (brackets p g) tree.none false 0 0) k) us
bracket_from {p = p} {k = k} g h w = state_is h (ap (λ z. stands (member_wanted (brackets p z) tree.none false 0 0) k) (sym w))

pub no_round_end : {d : Dialect} (b : ℕ) (ms : tree.Members) (e f : ℕ) (k : Frames) (ts : Left) → first_lexeme ts.items ≢ Some comma → first_lexeme ts.items ≢ Some closing_round → Sticks d (stands (member_read (brackets round b) ms e f) k) ts ts
no_round_end b ms e f k ts a n = no_member_end (brackets round b) ms e f k ts (refl, refl) a n (inl (round_clause b ms))

pub comprehension_span : (m : tree.Member) (cs : tree.Clauses) (s t : Extent) → s ≡ t → tree.comprehension m cs s ≡ tree.comprehension m cs t
comprehension_span m cs s t h = ap (tree.comprehension m cs) h

-- the same where the tokens stayed
pub no_opening_at : (us ts : Left) → us ≡ ts → first_lexeme us.items ≢ Some opening_round → first_lexeme us.items ≢ Some opening_square → first_lexeme us.items ≢ Some opening_curly → quoted_ahead us.items ≡ false → opening_ahead us.items ≡ false
no_opening_at us ts q a b c e = no_opening us a b c e

pub list_span : (ms : tree.Members) (s t : Extent) → s ≡ t → tree.list ms s ≡ tree.list ms t
list_span ms s t h = ap (tree.list ms) h

pub dict_span : (ms : tree.Members) (s t : Extent) → s ≡ t → tree.dict ms s ≡ tree.dict ms t
dict_span ms s t h = ap (tree.dict ms) h
