-- Steps of the machine among the parameters of a `def`, and at the type of its result.
use Rattle.std.proofs.Common.{◌≡◌, ◌≢◌, ℕ, List, [], ◌∷◌, Option, Some, None, refl, ap, sym, ◌∙◌, length}
use Rattle.starlark_place.specs.Place.{Extent}
use Rattle.starlark_lexer.specs.Items.{Lexeme, Item, item, identifier, comma, colon, equal, slash, star, star_star, minus_greater, opening_round, closing_round}
use Rattle.starlark_lexer.specs.declared.dialect.Dialect.{Dialect}
use Rattle.starlark_ast.specs.Tree as tree
use Rattle.starlark_grammar.specs.Events.{Event, typed}
use Rattle.starlark_grammar.specs.Nodes.{start, named}
use Rattle.starlark_grammar.specs.Spans.{stretch}
use Rattle.starlark_grammar.specs.Sorts.{name_of}
use Rattle.starlark_grammar.specs.Frames.{Head, of_def, param_type, param_default, result_type, spot, State, wants, has, wants_colon, def_opens, wants_param, behind_star, behind_stars, behind_name, behind_param, wants_result}
use Rattle.starlark_grammar.specs.Machine.{move, step}
use Rattle.starlark_grammar.specs.Runs.{finish, met, note, run}
use Rattle.starlark_grammar.specs.Verdicts.{answer, broken_at, judge}
use Rattle.starlark_read.specs.Reads.{Left, first_lexeme, name_ahead, type_read, IsType, Passes, Goes, Sticks}
use Rattle.starlark_read.specs.Signature.{IsWhole, behind_type}
use Rattle.starlark_grammar.proofs.Steps.{arrive, runs, runs_end, at_token, same}
use Rattle.starlark_read.proofs.Exits.{goes, goes_past, runs_as, same_end, state_is, stops, not_next, tokens_are, nameless}

-- a construct is met that breaks nothing, and no token is read
pub past_event : {d : Dialect} (s u : State) (v : Event) (ts : Left) → ((x : Option Lexeme) → met s x ≡ Some v) → ((xs : List Item) → broken_at d v xs ≡ None) → ((x : Option Lexeme) → met u x ≡ None) → finish s ≡ finish u → ((x : Item) (xs : List Item) → ts.items ≡ x ∷ xs → step s x ≡ step u x) → Goes d s ts u ts
past_event {d} s u v ts m b n f h = record { same = go ts.items h; behind = same_end }
  where
    go : (xs : List Item) → ((y : Item) (ys : List Item) → xs ≡ y ∷ ys → step s y ≡ step u y) → judge d (run s xs) ≡ judge d (run u xs)
    go [] h = ap (judge d) (runs_end s ∙ ap (λ o. note [] o (finish s)) (m None)) ∙ ap (λ o. answer o 0 (judge d (finish s))) (b []) ∙ ap (judge d) (f ∙ sym (runs_end u ∙ ap (λ o. note [] o (finish u)) (n None)))
    go (x ∷ xs) h = ap (judge d) (runs s x xs ∙ ap (λ o. arrive x xs o (step s x)) (m (Some x.lexeme))) ∙ ap (λ o. answer o (length (x ∷ xs)) (judge d (arrive x xs None (step s x)))) (b (x ∷ xs)) ∙ ap (judge d) (ap (arrive x xs None) (h x xs refl) ∙ sym (runs u x xs ∙ ap (λ o. arrive x xs o (step u x)) (n (Some x.lexeme))))

-- behind the type of a result
pub result_ends : {d : Dialect} (h : Head) (ps : tree.Members) (t : tree.Annotation) (e : ℕ) (ts : Left) → IsType d t → Goes d (has (type_read t) e (spot (result_type h ps))) ts (wants_colon (of_def h ps t)) ts
result_ends h ps t e ts w = state_is (past_event (has (type_read t) e (spot (result_type h ps))) (wants_colon (of_def h ps (type_at_read))) (typed (type_read t)) ts (λ x. refl) (λ xs. w.right) (λ x. refl) refl (λ x xs q. here x.lexeme x.begin x.end)) (ap (λ z. wants_colon (of_def h ps z)) (sym w.is))
  where
    type_at_read : tree.Annotation
    type_at_read = tree.typed (type_read t) (tree.place (type_read t))

    here : (y : Lexeme) (i j : ℕ) → move (has (type_read t) e (spot (result_type h ps))) y i j ≡ move (wants_colon (of_def h ps type_at_read)) y i j
    here colon i j = refl
    here _ i j = refl

pub no_result : {d : Dialect} (h : Head) (ps : tree.Members) (ts : Left) → first_lexeme ts.items ≢ Some colon → first_lexeme ts.items ≢ Some minus_greater → Sticks d (wants_result h ps) ts ts
no_result h ps ts n m = stops (wants_result h ps) ts refl refl (λ x xs q. here x.lexeme x.begin x.end (not_next ts x xs colon n q) (not_next ts x xs minus_greater m q))
  where
    here : (y : Lexeme) (i j : ℕ) → y ≢ colon → y ≢ minus_greater → move (wants_result h ps) y i j ≡ None
    here colon i j n m = absurd (n refl)
    here minus_greater i j n m = absurd (m refl)
    here _ i j n m = refl

-- the brackets
pub no_bracket : {d : Dialect} (h : Head) (ts : Left) → first_lexeme ts.items ≢ Some opening_round → Sticks d (def_opens h) ts ts
no_bracket h ts n = stops (def_opens h) ts refl refl (λ x xs q. here x.lexeme x.begin x.end (not_next ts x xs opening_round n q))
  where
    here : (y : Lexeme) (i j : ℕ) → y ≢ opening_round → move (def_opens h) y i j ≡ None
    here opening_round i j n = absurd (n refl)
    here _ i j n = refl

pub no_param_end : {d : Dialect} (h : Head) (ps : tree.Members) (ts : Left) → first_lexeme ts.items ≢ Some comma → first_lexeme ts.items ≢ Some closing_round → Sticks d (behind_param h ps) ts ts
no_param_end h ps ts n m = stops (behind_param h ps) ts refl refl (λ x xs q. here x.lexeme x.begin x.end (not_next ts x xs comma n q) (not_next ts x xs closing_round m q))
  where
    here : (y : Lexeme) (i j : ℕ) → y ≢ comma → y ≢ closing_round → move (behind_param h ps) y i j ≡ None
    here comma i j n m = absurd (n refl)
    here closing_round i j n m = absurd (m refl)
    here _ i j n m = refl

-- no name is next
pub no_param : {d : Dialect} (h : Head) (ps : tree.Members) (ts : Left) → first_lexeme ts.items ≢ Some closing_round → first_lexeme ts.items ≢ Some slash → first_lexeme ts.items ≢ Some star → first_lexeme ts.items ≢ Some star_star → name_ahead ts.items ≡ None → Sticks d (wants_param h ps) ts ts
no_param h ps ts c s a b n = stops (wants_param h ps) ts refl refl (λ x xs q. here x.lexeme x.begin x.end (not_next ts x xs closing_round c q) (not_next ts x xs slash s q) (not_next ts x xs star a q) (not_next ts x xs star_star b q) (nameless ts x xs n q))
  where
    here : (y : Lexeme) (i j : ℕ) → y ≢ closing_round → y ≢ slash → y ≢ star → y ≢ star_star → name_of y ≡ None → move (wants_param h ps) y i j ≡ None
    here closing_round i j c s a b n = absurd (c refl)
    here slash i j c s a b n = absurd (s refl)
    here star i j c s a b n = absurd (a refl)
    here star_star i j c s a b n = absurd (b refl)
    here (identifier m) i j c s a b n = absurd (let w : Some m ≡ None = n in (cc))
    here _ i j c s a b n = refl

pub no_stars_name : {d : Dialect} (h : Head) (ps : tree.Members) (p : ℕ) (ts : Left) → name_ahead ts.items ≡ None → Sticks d (behind_stars h ps p) ts ts
no_stars_name h ps p ts n = stops (behind_stars h ps p) ts refl refl (λ x xs q. here x.lexeme x.begin x.end (nameless ts x xs n q))
  where
    here : (y : Lexeme) (i j : ℕ) → name_of y ≡ None → move (behind_stars h ps p) y i j ≡ None
    here (identifier m) i j n = absurd (let w : Some m ≡ None = n in (cc))
    here _ i j n = refl

-- `*` alone
pub star_ends : {d : Dialect} (h : Head) (ps : tree.Members) (p e : ℕ) (ts : Left) → name_ahead ts.items ≡ None → Goes d (behind_star h ps p e) ts (behind_param h (tree.more ps (tree.no_args (stretch p e)))) ts
star_ends h ps p e ts n = runs_as (at_token (behind_star h ps p e) (behind_param h (tree.more ps (tree.no_args (stretch p e)))) ts.items refl refl (λ x xs q. (here x.lexeme x.begin x.end (nameless ts x xs n q), refl)))
  where
    here : (y : Lexeme) (i j : ℕ) → name_of y ≡ None → move (behind_star h ps p e) y i j ≡ move (behind_param h (tree.more ps (tree.no_args (stretch p e)))) y i j
    here (identifier m) i j n = absurd (let w : Some m ≡ None = n in (cc))
    here _ i j n = refl

-- a parameter by another name
pub param_is : {d : Dialect} {s : State} {ts us : Left} {h : Head} {ps : tree.Members} {m : tree.Member} (l : tree.Member) → Goes d s ts (behind_param h (tree.more ps m)) us → l ≡ m → Goes d s ts (behind_param h (tree.more ps l)) us
param_is {h = h} {ps = ps} l g w = state_is g (ap (λ z. behind_param h (tree.more ps z)) (sym w))

-- a name with the place that was given to it
pub name_is : {d : Dialect} {s : State} {ts us : Left} {h : Head} {ps : tree.Members} {y : tree.Stars} {n : List ℕ} {z : Extent} {p e : ℕ} (o : Extent) → Goes d s ts (behind_name h ps y (tree.name_at n z) p e) us → o ≡ z → Goes d s ts (behind_name h ps y (tree.name_at n o) p e) us
name_is {h = h} {ps = ps} {y = y} {n = n} {p = p} {e = e} o g w = state_is g (ap (λ z. behind_name h ps y (tree.name_at n z) p e) (sym w))

-- a place that was asked for before
pub begins_at : {d : Dialect} {s : State} {ts us : Left} {h : Head} {ps : tree.Members} {y : tree.Stars} {n : tree.Name} {p e : ℕ} (q : ℕ) → Goes d s ts (behind_name h ps y n p e) us → q ≡ p → Goes d s ts (behind_name h ps y n q e) us
begins_at {h = h} {ps = ps} {y = y} {n = n} {e = e} q g w = state_is g (ap (λ z. behind_name h ps y n z e) (sym w))

pub star_at : {d : Dialect} {s : State} {ts us : Left} {h : Head} {ps : tree.Members} {p e : ℕ} (q : ℕ) → Goes d s ts (behind_star h ps p e) us → q ≡ p → Goes d s ts (behind_star h ps q e) us
star_at {h = h} {ps = ps} {e = e} q g w = state_is g (ap (λ z. behind_star h ps z e) (sym w))

pub stars_at : {d : Dialect} {s : State} {ts us : Left} {h : Head} {ps : tree.Members} {p : ℕ} (q : ℕ) → Goes d s ts (behind_stars h ps p) us → q ≡ p → Goes d s ts (behind_stars h ps q) us
stars_at {h = h} {ps = ps} q g w = state_is g (ap (λ z. behind_stars h ps z) (sym w))

-- no default can follow, or none does
abbrev pub NoDefault : tree.Stars → List Item → Type 0
NoDefault tree.plain xs = first_lexeme xs ≢ Some equal
NoDefault tree.starred xs = Unit {0}
NoDefault tree.double_starred xs = Unit {0}

-- the same of a token
abbrev NotEqual : tree.Stars → Lexeme → Type 0
NotEqual tree.plain y = y ≢ equal
NotEqual tree.starred y = Unit {0}
NotEqual tree.double_starred y = Unit {0}

not_equal : (y : tree.Stars) (ts : Left) (x : Item) (xs : List Item) → NoDefault y ts.items → ts.items ≡ x ∷ xs → NotEqual y x.lexeme
not_equal tree.plain ts x xs n q = not_next ts x xs equal n q
not_equal tree.starred ts x xs n q = tt
not_equal tree.double_starred ts x xs n q = tt

-- a parameter without a default
pub type_ends : {d : Dialect} (h : Head) (ps : tree.Members) (y : tree.Stars) (n : tree.Name) (p : ℕ) (t : tree.Annotation) (e : ℕ) (ts : Left) → IsWhole d t ts.items → NoDefault y ts.items → Goes d (behind_type h ps y n p t e) ts (behind_param h (tree.more ps (named y n t tree.absent (stretch p e)))) ts
type_ends h ps y n p tree.untyped e ts w m = runs_as (at_token (behind_name h ps y n p e) (behind_param h (tree.more ps (named y n tree.untyped tree.absent (stretch p e)))) ts.items refl refl (λ x xs q. (here y x.lexeme x.begin x.end (not_next ts x xs colon w q) (not_equal y ts x xs m q), refl)))
  where
    here : (y : tree.Stars) (z : Lexeme) (i j : ℕ) → z ≢ colon → NotEqual y z → move (behind_name h ps y n p e) z i j ≡ move (behind_param h (tree.more ps (named y n tree.untyped tree.absent (stretch p e)))) z i j
    here y colon i j c m = absurd (c refl)
    here tree.plain equal i j c m = absurd (m refl)
    here tree.starred equal i j c m = refl
    here tree.double_starred equal i j c m = refl
    here y _ i j c m = refl
type_ends h ps y n p (tree.typed q s) e ts w m = param_is _ (past_event (has q e (spot (param_type h ps y n p))) (behind_param h (tree.more ps (named y n (tree.typed q (tree.place q)) tree.absent (stretch p e)))) (typed q) ts (λ x. refl) (λ xs. w.right) (λ x. refl) refl (λ x xs z. here y x.lexeme x.begin x.end (not_equal y ts x xs m z))) (ap (λ z. named y n z tree.absent (stretch p e)) w.is)
  where
    here : (y : tree.Stars) (z : Lexeme) (i j : ℕ) → NotEqual y z → move (has q e (spot (param_type h ps y n p))) z i j ≡ move (behind_param h (tree.more ps (named y n (tree.typed q (tree.place q)) tree.absent (stretch p e)))) z i j
    here tree.plain equal i j m = absurd (m refl)
    here tree.starred equal i j m = refl
    here tree.double_starred equal i j m = refl
    here y _ i j m = refl

-- a default
pub default_begins : {d : Dialect} (h : Head) (ps : tree.Members) (n : tree.Name) (p : ℕ) (t : tree.Annotation) (e : ℕ) (ts us : Left) → IsWhole d t ts.items → Passes ts (item (start ts.items) equal us.last) us → Goes d (behind_type h ps tree.plain n p t e) ts (wants 12 (spot (param_default h ps n t p))) us
default_begins h ps n p tree.untyped e ts us w r = goes r refl refl
default_begins h ps n p (tree.typed q s) e ts us w r = state_is (goes_past (typed q) r refl w.right refl) (ap (λ z. wants 12 (spot (param_default h ps n z p))) (sym w.is))

pub default_ends : {d : Dialect} (h : Head) (ps : tree.Members) (n : tree.Name) (t : tree.Annotation) (p : ℕ) (q : tree.Expr) (e : ℕ) (ts : Left) → Goes d (has q e (spot (param_default h ps n t p))) ts (behind_param h (tree.more ps (named tree.plain n t (tree.present q) (stretch p e)))) ts
default_ends h ps n t p q e ts = runs_as (same (has q e (spot (param_default h ps n t p))) (behind_param h (tree.more ps (named tree.plain n t (tree.present q) (stretch p e)))) refl (λ x. refl) (λ x. refl) ts.items)

-- a type that was read
pub typed_as : {d : Dialect} {s : State} {ts us : Left} {h : Head} {ps : tree.Members} {y : tree.Stars} {n : tree.Name} {p e : ℕ} (t : tree.Annotation) → IsType d t → Goes d s ts (has (type_read t) e (spot (param_type h ps y n p))) us → Goes d s ts (behind_type h ps y n p t e) us
typed_as tree.untyped w g = absurd (let z : tree.untyped ≡ tree.typed (type_read tree.untyped) (tree.place (type_read tree.untyped)) = w.is in (cc))
typed_as (tree.typed q s) w g = g

-- no default, where the tokens stay
pub none_there : {d : Dialect} (h : Head) (ps : tree.Members) (n : tree.Name) (p : ℕ) (t : tree.Annotation) {ts : Left} (us : Left) → IsWhole d t ts.items → (us ≡ ts) × (first_lexeme ts.items ≢ Some equal) → Goes d (behind_type h ps tree.plain n p t ts.last) ts (behind_param h (tree.more ps (named tree.plain n t tree.absent (stretch p us.last)))) us
none_there {d} h ps n p t {ts} us w m = tokens_are (param_is _ (type_ends h ps tree.plain n p t ts.last ts w m.1) (ap (λ z. named tree.plain n t tree.absent (stretch p z.last)) m.0)) (sym m.0)

-- `*` alone, where the tokens stay
pub star_there : {d : Dialect} (h : Head) (ps : tree.Members) (p : ℕ) {ts us : Left} → (us ≡ ts) × (name_ahead ts.items ≡ None) → Goes d (behind_star h ps p ts.last) ts (behind_param h (tree.more ps (tree.no_args (stretch p us.last)))) us
star_there {d} h ps p {ts} {us} m = tokens_are (param_is _ (star_ends h ps p ts.last ts m.1) (ap (λ z. tree.no_args (stretch p z.last)) m.0)) (sym m.0)

-- a parameter with the place that was made for it
pub param_placed : {l : tree.Member} {y : tree.Stars} {n : List ℕ} {s : Extent} {t : tree.Annotation} {b : tree.Bound} {u v : Extent} → l ≡ tree.parameter y n s t b u → u ≡ v → l ≡ tree.parameter y n s t b v
param_placed {y = y} {n = n} {s = s} {t = t} {b = b} h w = h ∙ ap (tree.parameter y n s t b) w

-- parameters by another name
pub params_are : {d : Dialect} {s : State} {ts us : Left} {h : Head} {ps : tree.Members} (qs : tree.Members) → Goes d s ts (wants_param h ps) us → qs ≡ ps → Goes d s ts (wants_param h qs) us
params_are {h = h} qs g w = state_is g (ap (wants_param h) (sym w))

pub results_are : {d : Dialect} {s : State} {ts us : Left} {h : Head} {ps : tree.Members} (qs : tree.Members) → Goes d s ts (wants_result h ps) us → qs ≡ ps → Goes d s ts (wants_result h qs) us
results_are {h = h} qs g w = state_is g (ap (wants_result h) (sym w))
