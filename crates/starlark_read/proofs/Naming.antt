-- Steps of the machine among the parameters of a lambda.
use Rattle.std.proofs.Common.{◌≡◌, ◌≢◌, ℕ, List, Option, Some, None, MatchOption, string_bytes, Bool, refl, ap, sym, subst, ◌∙◌}
use Rattle.std.specs.declared.string.String.{String}
use Rattle.starlark_place.specs.Place.{Extent}
use Rattle.starlark_place.specs.declared.pos.Spanned.{Spanned}
use Rattle.starlark_lexer.specs.Items.{item, identifier, colon, equal, slash, star, star_star}
use Rattle.starlark_lexer.specs.declared.dialect.Dialect.{Dialect}
use Rattle.starlark_ast.specs.Tree as tree
use Rattle.starlark_grammar.specs.Nodes.{start}
use Rattle.starlark_grammar.specs.Sorts.{name_of}
use Rattle.starlark_grammar.specs.Spans.{stretch}
use Rattle.starlark_grammar.specs.Points.{before_body, a_parameter, body, member, member_wanted, member_read, star_read, stars_read, name_read, first_at}
use Rattle.starlark_grammar.specs.Frames.{Frames, inside, State, stands, wants}
use Rattle.starlark_grammar.specs.Machine.{goes as to, else_state}
use Rattle.starlark_read.specs.Reads.{Left, first_lexeme, name_ahead, Passes, Goes, Sticks}
use Rattle.starlark_grammar.proofs.Steps.{at_token}
use Rattle.starlark_read.proofs.Exits.{goes, runs_as, state_is, stops, not_next, nameless}
use Rattle.starlark_read.proofs.Gathering.{other, member_as, nothing_there}

pub slash_read : {d : Dialect} (b : ℕ) (ms : tree.Members) (t : Bool) (e f : ℕ) (k : Frames) (ts us : Left) → Passes ts (item (start ts.items) slash us.last) us → Goes d (stands (member_wanted (before_body b) ms t e f) k) ts (stands (member_read (before_body b) (tree.more ms (tree.slash (stretch (start ts.items) us.last))) us.last (first_at ms f (start ts.items))) k) us
slash_read b ms t e f k ts us p = goes p refl refl

pub star_begins : {d : Dialect} (b : ℕ) (ms : tree.Members) (t : Bool) (e f : ℕ) (k : Frames) (ts us : Left) → Passes ts (item (start ts.items) star us.last) us → Goes d (stands (member_wanted (before_body b) ms t e f) k) ts (stands (star_read b ms (first_at ms f (start ts.items)) (start ts.items) us.last) k) us
star_begins b ms t e f k ts us p = goes p refl refl

pub stars_begin : {d : Dialect} (b : ℕ) (ms : tree.Members) (t : Bool) (e f : ℕ) (k : Frames) (ts us : Left) → Passes ts (item (start ts.items) star_star us.last) us → Goes d (stands (member_wanted (before_body b) ms t e f) k) ts (stands (stars_read b ms (first_at ms f (start ts.items)) (start ts.items)) k) us
stars_begin b ms t e f k ts us p = goes p refl refl

pub name_begins : {d : Dialect} (b : ℕ) (ms : tree.Members) (t : Bool) (e f : ℕ) (k : Frames) (n : _) (ts us : Left) → Passes ts (item (start ts.items) (identifier n) us.last) us → Goes d (stands (member_wanted (before_body b) ms t e f) k) ts (stands (name_read b ms (first_at ms f (start ts.items)) n (start ts.items) us.last) k) us
name_begins b ms t e f k n ts us p = goes p refl refl

-- no name is next
pub no_parameter : {d : Dialect} (b : ℕ) (ms : tree.Members) (t : Bool) (e f : ℕ) (k : Frames) (ts : Left) → first_lexeme ts.items ≢ Some colon → first_lexeme ts.items ≢ Some slash → first_lexeme ts.items ≢ Some star → first_lexeme ts.items ≢ Some star_star → name_ahead ts.items ≡ None → Sticks d (stands (member_wanted (before_body b) ms t e f) k) ts ts
no_parameter b ms t e f k ts c s a aa n = stops (stands (member_wanted (before_body b) ms t e f) k) ts refl refl (λ x xs q. ap (λ o. else_state (to k o) None) (other _ _ colon x.lexeme (refl, refl) (not_next ts x xs colon c q) ∙ other _ _ slash x.lexeme (refl, refl) (not_next ts x xs slash s q) ∙ other _ _ star x.lexeme (refl, refl) (not_next ts x xs star a q) ∙ other _ _ star_star x.lexeme (refl, refl) (not_next ts x xs star_star aa q) ∙ nothing_there (name_of x.lexeme) _ None (nameless ts x xs n q)))

-- behind `*`
pub starred_read : {d : Dialect} (b : ℕ) (ms : tree.Members) (f g h : ℕ) (k : Frames) (n : _) (ts us : Left) → Passes ts (item (start ts.items) (identifier n) us.last) us → Goes d (stands (star_read b ms f g h) k) ts (stands (member_read (before_body b) (tree.more ms (tree.parameter tree.starred n (stretch (start ts.items) us.last) tree.untyped tree.absent (stretch g us.last))) us.last f) k) us
starred_read b ms f g h k n ts us p = goes p refl refl

pub star_alone : {d : Dialect} (b : ℕ) (ms : tree.Members) (f g h : ℕ) (k : Frames) (ts : Left) → name_ahead ts.items ≡ None → Goes d (stands (star_read b ms f g h) k) ts (stands (member_read (before_body b) (tree.more ms (tree.no_args (stretch g h))) h f) k) ts
star_alone b ms f g h k ts n = runs_as (at_token (stands (star_read b ms f g h) k) (stands (member_read (before_body b) (tree.more ms (tree.no_args (stretch g h))) h f) k) ts.items refl refl (λ x xs q. (ap (λ o. else_state (to k o) None) (nothing_there (name_of x.lexeme) _ _ (nameless ts x xs n q)), refl)))

-- behind `**`
pub double_starred_read : {d : Dialect} (b : ℕ) (ms : tree.Members) (f g : ℕ) (k : Frames) (n : _) (ts us : Left) → Passes ts (item (start ts.items) (identifier n) us.last) us → Goes d (stands (stars_read b ms f g) k) ts (stands (member_read (before_body b) (tree.more ms (tree.parameter tree.double_starred n (stretch (start ts.items) us.last) tree.untyped tree.absent (stretch g us.last))) us.last f) k) us
double_starred_read b ms f g k n ts us p = goes p refl refl

pub no_kwargs : {d : Dialect} (b : ℕ) (ms : tree.Members) (f g : ℕ) (k : Frames) (ts : Left) → name_ahead ts.items ≡ None → Sticks d (stands (stars_read b ms f g) k) ts ts
no_kwargs b ms f g k ts n = stops (stands (stars_read b ms f g) k) ts refl refl (λ x xs q. ap (λ o. else_state (to k o) None) (nothing_there (name_of x.lexeme) _ None (nameless ts x xs n q)))

-- behind a name
pub default_begins : {d : Dialect} (b : ℕ) (ms : tree.Members) (f : ℕ) (n : _) (g h : ℕ) (k : Frames) (ts us : Left) → Passes ts (item (start ts.items) equal us.last) us → Goes d (stands (name_read b ms f n g h) k) ts (wants 12 (inside (member (before_body b) ms f g (a_parameter n (stretch g h))) k)) us
default_begins b ms f n g h k ts us p = goes p refl refl

pub name_alone : {d : Dialect} (b : ℕ) (ms : tree.Members) (f : ℕ) (n : _) (g h : ℕ) (k : Frames) (ts : Left) → first_lexeme ts.items ≢ Some equal → Goes d (stands (name_read b ms f n g h) k) ts (stands (member_read (before_body b) (tree.more ms (tree.parameter tree.plain n (stretch g h) tree.untyped tree.absent (stretch g h))) h f) k) ts
name_alone b ms f n g h k ts w = runs_as (at_token (stands (name_read b ms f n g h) k) (stands (member_read (before_body b) (tree.more ms (tree.parameter tree.plain n (stretch g h) tree.untyped tree.absent (stretch g h))) h f) k) ts.items refl refl (λ x xs q. (ap (λ o. else_state (to k o) None) (other _ _ equal x.lexeme (refl, refl) (not_next ts x xs equal w q)), refl)))

-- `*` alone, where the tokens stay
pub star_is : {d : Dialect} (b : ℕ) (ms : tree.Members) (f g : ℕ) (k : Frames) {ts us : Left} (m : tree.Member) → (us ≡ ts) × (name_ahead ts.items ≡ None) → m ≡ tree.no_args (stretch g us.last) → Goes d (stands (star_read b ms f g ts.last) k) ts (stands (member_read (before_body b) (tree.more ms m) us.last f) k) us
star_is {d} b ms f g k {ts} {us} m n e = subst (λ vs. m ≡ tree.no_args (stretch g vs.last) → Goes d (stands (star_read b ms f g ts.last) k) ts (stands (member_read (before_body b) (tree.more ms m) vs.last f) k) vs) (sym n.0) (λ w. member_as (star_alone b ms f g ts.last k ts n.1) w) e

-- a name alone, where the tokens stay
pub name_is : {d : Dialect} (b : ℕ) (ms : tree.Members) (f : ℕ) (n : _) (g : ℕ) (k : Frames) {ts us : Left} (m : tree.Member) → (us ≡ ts) × (first_lexeme ts.items ≢ Some equal) → m ≡ tree.parameter tree.plain n (stretch g ts.last) tree.untyped tree.absent (stretch g ts.last) → Goes d (stands (name_read b ms f n g ts.last) k) ts (stands (member_read (before_body b) (tree.more ms m) us.last f) k) us
name_is {d} b ms f n g k {ts} {us} m h e = subst (λ vs. Goes d (stands (name_read b ms f n g ts.last) k) ts (stands (member_read (before_body b) (tree.more ms m) vs.last f) k) vs) (sym h.0) (member_as (name_alone b ms f n g ts.last k ts h.1) e)

pub unnamed : {Z : Type 0} (ts us : Left) (o : Option (Spanned (String Z))) → o ≡ None → MatchOption o ((us ≡ ts) × (name_ahead ts.items ≡ None)) (λ s. (s.span ≡ stretch (start ts.items) us.last) × Passes ts (item (start ts.items) (identifier (string_bytes s.node)) us.last) us) → (us ≡ ts) × (name_ahead ts.items ≡ None)
unnamed ts us None e h = h
unnamed ts us (Some s) e h = absurd (let n : Some s ≡ None = e in (cc))

pub named : {Z : Type 0} (ts us : Left) (o : Option (Spanned (String Z))) (s : Spanned (String Z)) → o ≡ Some s → MatchOption o ((us ≡ ts) × (name_ahead ts.items ≡ None)) (λ s. (s.span ≡ stretch (start ts.items) us.last) × Passes ts (item (start ts.items) (identifier (string_bytes s.node)) us.last) us) → (s.span ≡ stretch (start ts.items) us.last) × Passes ts (item (start ts.items) (identifier (string_bytes s.node)) us.last) us
named ts us None s e h = absurd (let n : None ≡ Some s = e in (cc))
named ts us (Some z) s e h = let q : z ≡ s = cc in subst (λ s. (s.span ≡ stretch (start ts.items) us.last) × Passes ts (item (start ts.items) (identifier (string_bytes s.node)) us.last) us) q h

pub spans_as : (y : tree.Stars) (n : List ℕ) (s t u v : Extent) → s ≡ t → u ≡ v → tree.parameter y n s tree.untyped tree.absent u ≡ tree.parameter y n t tree.untyped tree.absent v
spans_as y n s t u v h w = ap (λ z. tree.parameter y n z tree.untyped tree.absent u) h ∙ ap (tree.parameter y n t tree.untyped tree.absent) w

pub star_from : {d : Dialect} {s : State} {ts us : Left} {b : ℕ} {ms : tree.Members} {f i j : ℕ} {k : Frames} (g : ℕ) → Goes d s ts (stands (star_read b ms f i j) k) us → g ≡ i → Goes d s ts (stands (star_read b ms f g j) k) us
star_from {b = b} {ms = ms} {f = f} {j = j} {k = k} g h w = state_is h (ap (λ z. stands (star_read b ms f z j) k) (sym w))

pub body_as : {d : Dialect} {s : State} {ts us : Left} {b : ℕ} {ms : tree.Members} {k : Frames} (ns : tree.Members) → Goes d s ts (wants 12 (inside (body ms b) k)) us → ns ≡ ms → Goes d s ts (wants 12 (inside (body ns b) k)) us
body_as {b = b} {k = k} ns h w = state_is h (ap (λ z. wants 12 (inside (body z b) k)) (sym w))

pub defaults_as : (n : List ℕ) (q : tree.Expr) (s t u v : Extent) → s ≡ t → u ≡ v → tree.parameter tree.plain n s tree.untyped (tree.present q) u ≡ tree.parameter tree.plain n t tree.untyped (tree.present q) v
defaults_as n q s t u v h w = ap (λ z. tree.parameter tree.plain n z tree.untyped (tree.present q) u) h ∙ ap (tree.parameter tree.plain n t tree.untyped (tree.present q)) w
