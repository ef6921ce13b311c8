-- Arguments of calls.
use Rattle.std.proofs.Common.{ℕ, ◌≡◌, ◌≢◌, List, ◌∷◌, Some, None, Bool, false, zero, suc, ◌≤◌, refl, ap, sym, subst, ◌∙◌}
use Rattle.starlark_place.specs.Place.{Extent}
use Rattle.starlark_lexer.specs.Items.{Lexeme, Item, item, identifier, comma, equal, star, star_star, closing_round}
use Rattle.starlark_lexer.specs.declared.dialect.Dialect.{Dialect}
use Rattle.starlark_ast.specs.Tree as tree
use Rattle.starlark_grammar.specs.Nodes.{leaf_at, start}
use Rattle.starlark_grammar.specs.Spans.{stretch}
use Rattle.starlark_grammar.specs.Sorts.{name_of}
use Rattle.starlark_grammar.specs.Tables.{suffix}
use Rattle.starlark_grammar.specs.Points.{Place, behind, an_argument, a_kwargs, member, member_wanted, member_read, first_at}
use Rattle.starlark_grammar.specs.Frames.{Frames, inside, tail, State, wants, has, stands, perhaps_named}
use Rattle.starlark_grammar.specs.Machine.{tails, step, move}
use Rattle.starlark_grammar.specs.Runs.{ends, operates}
use Rattle.starlark_read.specs.Reads.{Left, first_lexeme, name_ahead, Passes, Goes, Sticks}
use Rattle.starlark_grammar.proofs.Steps.{at_token}
use Rattle.starlark_grammar.proofs.Openings.{either_none}
use Rattle.starlark_read.proofs.Suffixing.{in_order}
use Rattle.starlark_read.proofs.Exits.{goes, runs_as, state_is, tokens_are, stays_there, not_next, stops}

-- more arguments are wanted, or the end
pub record Wanted (d : Dialect) (q : tree.Expr) (k : Frames) (ts : Left) (ms : tree.Members) (us : Left) : Type 0 where
  pub trailing : Bool
  pub end : ℕ
  pub first : ℕ
  pub goes : Goes d (stands (member_wanted (behind q) tree.none false 0 0) k) ts (stands (member_wanted (behind q) ms trailing end first) k) us

-- the same member, and the same members, by another name
pub member_is : {d : Dialect} {s : State} {ts us : Left} {w : Place} {ms : tree.Members} {e f : ℕ} {k : Frames} {m o : tree.Member} → Goes d s ts (stands (member_read w (tree.more ms m) e f) k) us → o ≡ m → Goes d s ts (stands (member_read w (tree.more ms o) e f) k) us
member_is {d} {s} {ts} {us} {w} {ms} {e} {f} {k} {m} {o} g h = subst (λ z. Goes d s ts (stands (member_read w (tree.more ms z) e f) k) us) (sym h) g

pub members_are : {d : Dialect} {s : State} {ts us : Left} {w : Place} {ms ns : tree.Members} {t : Bool} {e f : ℕ} {k : Frames} → Goes d s ts (stands (member_wanted w ms t e f) k) us → ns ≡ ms → Goes d s ts (stands (member_wanted w ns t e f) k) us
members_are {d} {s} {ts} {us} {w} {ms} {ns} {t} {e} {f} {k} g h = subst (λ z. Goes d s ts (stands (member_wanted w z t e f) k) us) (sym h) g

-- an argument that begins with an expression
pub argument_opens : {d : Dialect} (q : tree.Expr) (ms : tree.Members) (t : Bool) (e f : ℕ) (k : Frames) (ts us : Left) → us ≡ ts → first_lexeme ts.items ≢ Some closing_round → first_lexeme ts.items ≢ Some star → first_lexeme ts.items ≢ Some star_star → name_ahead ts.items ≡ None → Goes d (stands (member_wanted (behind q) ms t e f) k) ts (wants 12 (inside (member (behind q) ms (first_at ms f (start ts.items)) (start ts.items) an_argument) k)) us
argument_opens {d} q ms t e f k ts us h a b c n = tokens_are (runs_as (at_token _ _ ts.items refl refl (λ x xs z. (one x xs z, refl)))) (sym h)
  where
    here : (y : Lexeme) (i j : ℕ) → y ≢ closing_round → y ≢ star → y ≢ star_star → name_of y ≡ None → move (stands (member_wanted (behind q) ms t e f) k) y i j ≡ move (wants 12 (inside (member (behind q) ms (first_at ms f i) i an_argument) k)) y i j
    here closing_round i j a b c n = absurd (a refl)
    here star i j a b c n = absurd (b refl)
    here star_star i j a b c n = absurd (c refl)
    here (identifier m) i j a b c n = absurd (let w : Some m ≡ None = n in (cc))
    here _ i j a b c n = refl

    one : (x : Item) (xs : List Item) → ts.items ≡ x ∷ xs → step (stands (member_wanted (behind q) ms t e f) k) x ≡ step (wants 12 (inside (member (behind q) ms (first_at ms f (start ts.items)) (start ts.items) an_argument) k)) x
    one x xs z = here x.lexeme x.begin x.end (not_next ts x xs closing_round a z) (not_next ts x xs star b z) (not_next ts x xs star_star c z) (sym (ap name_ahead z) ∙ n) ∙ ap (λ i. step (wants 12 (inside (member (behind q) ms (first_at ms f i) i an_argument) k)) x) (sym (ap start z))

-- behind an argument neither a comma nor the end
pub no_argument_end : {d : Dialect} (q : tree.Expr) (ms : tree.Members) (e f : ℕ) (k : Frames) (ts us vs : Left) → (us ≡ ts) × (first_lexeme ts.items ≢ Some comma) → (vs ≡ us) × (first_lexeme us.items ≢ Some closing_round) → Sticks d (stands (member_read (behind q) ms e f) k) ts vs
no_argument_end q ms e f k ts us vs g h = stays_there (h.0 ∙ g.0) (stops _ ts refl refl (λ x xs z. here x.lexeme x.begin x.end (not_next ts x xs comma g.1 z) (not_next ts x xs closing_round (λ w. h.1 (ap (λ v. first_lexeme v.items) g.0 ∙ w)) z)))
  where
    here : (y : Lexeme) (i j : ℕ) → y ≢ comma → y ≢ closing_round → move (stands (member_read (behind q) ms e f) k) y i j ≡ None
    here comma i j a b = absurd (a refl)
    here closing_round i j a b = absurd (b refl)
    here _ i j a b = refl

-- nothing is met in tails where nothing is met behind them
pub nothing_in_tails : (c n : ℕ) (k : Frames) (q : tree.Expr) (e : ℕ) (x : Lexeme) → ends k q e (Some x) ≡ None → ends (tails c n k) q e (Some x) ≡ None
nothing_in_tails zero n k q e x h = h
nothing_in_tails (suc c) n k q e x h = either_none (operates (suffix x) n) _ (nothing_in_tails c (suc n) k q e x h)

-- an identifier that is no name of an argument is an expression
pub unnamed : {d : Dialect} (q : tree.Expr) (ms : tree.Members) (f : ℕ) (n : List ℕ) (g h : ℕ) (k : Frames) (ts us : Left) → (us ≡ ts) × (first_lexeme ts.items ≢ Some equal) → Goes d (perhaps_named q ms f n g h k) ts (has (leaf_at (tree.name n) (stretch g h)) h (tails 13 0 (inside (member (behind q) ms f g an_argument) k))) us
unnamed q ms f n g h k ts us r = tokens_are (runs_as (at_token _ _ ts.items refl refl (λ x xs z. (here x.lexeme x.begin x.end (not_next ts x xs equal r.1 z), sym (nothing_in_tails 13 0 (inside (member (behind q) ms f g an_argument) k) (leaf_at (tree.name n) (stretch g h)) h x.lexeme refl))))) (sym r.0)
  where
    here : (y : Lexeme) (i j : ℕ) → y ≢ equal → move (perhaps_named q ms f n g h k) y i j ≡ move (has (leaf_at (tree.name n) (stretch g h)) h (tails 13 0 (inside (member (behind q) ms f g an_argument) k))) y i j
    here equal i j a = absurd (a refl)
    here _ i j a = refl

pub leaf_named : {d : Dialect} (q : tree.Expr) (ms : tree.Members) (f : ℕ) (n : List ℕ) (s : Extent) (k : Frames) (ts us : Left) (x : tree.Expr) → (us ≡ ts) × (first_lexeme ts.items ≢ Some equal) → s.begin ≤ s.end → ts.last ≡ s.end → x ≡ leaf_at (tree.name n) s → Goes d (perhaps_named q ms f n s.begin s.end k) ts (has x us.last (tail 0 (tails 12 1 (inside (member (behind q) ms f s.begin an_argument) k)))) us
leaf_named q ms f n s k ts us x r o l w =
    let same_leaf : leaf_at (tree.name n) (stretch s.begin s.end) ≡ x = ap (leaf_at (tree.name n)) (in_order s o) ∙ sym w in
    let same_end : s.end ≡ us.last = sym l ∙ ap (λ vs. vs.last) (sym r.0) in
    state_is (unnamed q ms f n s.begin s.end k ts us r) (ap (λ y. has y s.end (tails 13 0 (inside (member (behind q) ms f s.begin an_argument) k))) same_leaf ∙ ap (λ y. has x y (tails 13 0 (inside (member (behind q) ms f s.begin an_argument) k))) same_end)

-- `**`
pub kwargs_begin : {d : Dialect} (q : tree.Expr) (ms : tree.Members) (t : Bool) (e f b : ℕ) (k : Frames) {j : ℕ} {ts us : Left} → start ts.items ≡ b → Passes ts (item (start ts.items) star_star j) us → Goes d (stands (member_wanted (behind q) ms t e f) k) ts (wants 12 (inside (member (behind q) ms (first_at ms f b) b a_kwargs) k)) us
kwargs_begin {d} q ms t e f b k {j} {ts} {us} w p = subst (λ z. Goes d (stands (member_wanted (behind q) ms t e f) k) ts (wants 12 (inside (member (behind q) ms (first_at ms f z) z a_kwargs) k)) us) w (goes p refl refl)
