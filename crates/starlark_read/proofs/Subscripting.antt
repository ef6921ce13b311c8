-- Subscripts.
use Rattle.std.proofs.Common.{ℕ, ◌≡◌, ◌≢◌, ◌⊎◌, inl, inr, List, Option, Some, None, MatchOption, refl, ap, sym, subst, ◌∙◌}
use Rattle.std.specs.Bool.{⊤}
use Rattle.starlark_lexer.specs.Items.{Lexeme, Item, item, colon, comma, closing_square}
use Rattle.starlark_lexer.specs.declared.dialect.Dialect.{Dialect}
use Rattle.starlark_ast.specs.Tree as tree
use Rattle.starlark_grammar.specs.Made.{bound_of}
use Rattle.starlark_grammar.specs.Nodes.{from}
use Rattle.starlark_grammar.specs.Points.{Bounds, at_first, at_second, at_third, bound, bound_wanted, second}
use Rattle.starlark_grammar.specs.Frames.{Frames, inside, wants, has, stands}
use Rattle.starlark_grammar.specs.Machine.{move}
use Rattle.starlark_read.specs.Reads.{Left, first_lexeme, bound_at, Passes, Goes, Sticks}
use Rattle.starlark_grammar.proofs.Steps.{at_token}
use Rattle.starlark_read.proofs.Exits.{runs_as, tokens_are, not_next, stops, goes}

-- a bound is an expression
pub bound_opens : {d : Dialect} (q : tree.Expr) (bs : Bounds) (k : Frames) (ts : Left) → first_lexeme ts.items ≢ Some colon → first_lexeme ts.items ≢ Some closing_square → Goes d (stands (bound_wanted q bs) k) ts (wants 12 (inside (bound q bs) k)) ts
bound_opens q bs k ts a b = runs_as (at_token _ _ ts.items refl refl (λ x xs z. (here x.lexeme x.begin x.end (not_next ts x xs colon a z) (not_next ts x xs closing_square b z), refl)))
  where
    here : (y : Lexeme) (i j : ℕ) → y ≢ colon → y ≢ closing_square → move (stands (bound_wanted q bs) k) y i j ≡ move (wants 12 (inside (bound q bs) k)) y i j
    here colon i j a b = absurd (a refl)
    here closing_square i j a b = absurd (b refl)
    here _ i j a b = refl

pub first_opens : {d : Dialect} (q : tree.Expr) (k : Frames) (ts us : Left) → (us ≡ ts) × (first_lexeme ts.items ≢ Some colon) → Goes d (stands (bound_wanted q at_first) k) ts (wants 12 (inside (bound q at_first) k)) us
first_opens q k ts us h = tokens_are (runs_as (at_token _ _ ts.items refl refl (λ x xs z. (here x.lexeme x.begin x.end (not_next ts x xs colon h.1 z), refl)))) (sym h.0)
  where
    here : (y : Lexeme) (i j : ℕ) → y ≢ colon → move (stands (bound_wanted q at_first) k) y i j ≡ move (wants 12 (inside (bound q at_first) k)) y i j
    here colon i j a = absurd (a refl)
    here closing_square i j a = refl
    here _ i j a = refl

-- behind a first bound
pub no_index_end : {d : Dialect} (q s : tree.Expr) (e : ℕ) (k : Frames) (ts : Left) → first_lexeme ts.items ≢ Some comma → first_lexeme ts.items ≢ Some colon → first_lexeme ts.items ≢ Some closing_square → Sticks d (has s e (inside (bound q at_first) k)) ts ts
no_index_end q s e k ts a b c = stops _ ts refl refl (λ x xs z. here x.lexeme x.begin x.end (not_next ts x xs comma a z) (not_next ts x xs colon b z) (not_next ts x xs closing_square c z))
  where
    here : (y : Lexeme) (i j : ℕ) → y ≢ comma → y ≢ colon → y ≢ closing_square → move (has s e (inside (bound q at_first) k)) y i j ≡ None
    here comma i j a b c = absurd (a refl)
    here colon i j a b c = absurd (b refl)
    here closing_square i j a b c = absurd (c refl)
    here _ i j a b c = refl

-- behind two
pub no_second_end : {d : Dialect} (q s t : tree.Expr) (e : ℕ) (k : Frames) (ts : Left) → first_lexeme ts.items ≢ Some closing_square → Sticks d (has t e (inside (second q s) k)) ts ts
no_second_end q s t e k ts c = stops _ ts refl refl (λ x xs z. here x.lexeme x.begin x.end (not_next ts x xs closing_square c z))
  where
    here : (y : Lexeme) (i j : ℕ) → y ≢ closing_square → move (has t e (inside (second q s) k)) y i j ≡ None
    here closing_square i j c = absurd (c refl)
    here _ i j c = refl

-- behind the second bound of a slice
pub goes_to_step : {d : Dialect} (q : tree.Expr) (o b : tree.Bound) (e : ℕ) (k : Frames) {ts us : Left} {i j : ℕ} → Passes ts (item i colon j) us → Goes d (bound_at q (at_second o) b e k) ts (stands (bound_wanted q (at_third o b)) k) us
goes_to_step q o tree.absent e k p = goes p refl refl
goes_to_step q o (tree.present s) e k p = goes p refl refl

pub slice_ends : {d : Dialect} (q : tree.Expr) (o b : tree.Bound) (e : ℕ) (k : Frames) {ts us : Left} {i j : ℕ} → Passes ts (item i closing_square j) us → Goes d (bound_at q (at_second o) b e k) ts (has (tree.index q (tree.slice o b tree.absent) (from q j)) j k) us
slice_ends q o tree.absent e k p = goes p refl refl
slice_ends q o (tree.present s) e k p = goes p refl refl

pub step_ends : {d : Dialect} (q : tree.Expr) (o p b : tree.Bound) (e : ℕ) (k : Frames) {ts us : Left} {i j : ℕ} → Passes ts (item i closing_square j) us → Goes d (bound_at q (at_third o p) b e k) ts (has (tree.index q (tree.slice o p b) (from q j)) j k) us
step_ends q o p tree.absent e k r = goes r refl refl
step_ends q o p (tree.present s) e k r = goes r refl refl

-- what stands behind a bound that is none
abbrev pub Ended : tree.Bound → List Item → Type 0
Ended tree.absent xs = (first_lexeme xs ≡ Some colon) ⊎ (first_lexeme xs ≡ Some closing_square)
Ended (tree.present s) xs = ⊤

pub ended_by : {X : Type 0} (f : X → tree.Expr) (xs ys : List Item) (o : Option X) → ys ≡ xs → MatchOption o ((first_lexeme xs ≡ Some colon) ⊎ (first_lexeme xs ≡ Some closing_square)) (λ x. ⊤) → Ended (bound_of f o) ys
ended_by f xs ys None w h = subst (λ vs. (first_lexeme vs ≡ Some colon) ⊎ (first_lexeme vs ≡ Some closing_square)) (sym w) h
ended_by f xs ys (Some x) w h = h

pub no_slice_end : {d : Dialect} (q : tree.Expr) (o b : tree.Bound) (e : ℕ) (k : Frames) (ts : Left) → Ended b ts.items → first_lexeme ts.items ≢ Some colon → first_lexeme ts.items ≢ Some closing_square → Sticks d (bound_at q (at_second o) b e k) ts ts
no_slice_end q o tree.absent e k ts (inl w) a c = absurd (a w)
no_slice_end q o tree.absent e k ts (inr w) a c = absurd (c w)
no_slice_end q o (tree.present s) e k ts w a c = stops _ ts refl refl (λ x xs z. here x.lexeme x.begin x.end (not_next ts x xs colon a z) (not_next ts x xs closing_square c z))
  where
    here : (y : Lexeme) (i j : ℕ) → y ≢ colon → y ≢ closing_square → move (has s e (inside (bound q (at_second o)) k)) y i j ≡ None
    here colon i j a c = absurd (a refl)
    here closing_square i j a c = absurd (c refl)
    here _ i j a c = refl

pub no_step_end : {d : Dialect} (q : tree.Expr) (o p b : tree.Bound) (e : ℕ) (k : Frames) (ts : Left) → Ended b ts.items → first_lexeme ts.items ≢ Some closing_square → Sticks d (bound_at q (at_third o p) b e k) ts ts
no_step_end q o p tree.absent e k ts (inr w) c = absurd (c w)
no_step_end q o p tree.absent e k ts (inl w) c = stops _ ts refl refl (λ x xs z. here x.lexeme x.begin x.end (let v : Some x.lexeme ≡ Some colon = sym (ap first_lexeme z) ∙ w in (cc)))
  where
    here : (y : Lexeme) (i j : ℕ) → y ≡ colon → move (stands (bound_wanted q (at_third o p)) k) y i j ≡ None
    here y i j h = ap (λ z. move (stands (bound_wanted q (at_third o p)) k) z i j) h
no_step_end q o p (tree.present s) e k ts w c = stops _ ts refl refl (λ x xs z. here x.lexeme x.begin x.end (not_next ts x xs closing_square c z))
  where
    here : (y : Lexeme) (i j : ℕ) → y ≢ closing_square → move (has s e (inside (bound q (at_third o p)) k)) y i j ≡ None
    here closing_square i j c = absurd (c refl)
    here _ i j c = refl
