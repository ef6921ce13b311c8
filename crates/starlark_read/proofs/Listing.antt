-- Steps of the machine in lists without brackets, and in clauses.
use Rattle.std.proofs.Common.{◌≡◌, ◌≢◌, ℕ, List, [], ◌∷◌, ◌++◌, Option, Some, None, Bool, true, false, not, cond, Result, refl, ap, sym, subst, ◌∙◌, length}
use Rattle.std.proofs.lemmas.List.Sums.{fold-append}
use Rattle.starlark_place.specs.Place.{Extent}
use Rattle.starlark_place.specs.declared.pos.Spanned.{Spanned}
use Rattle.starlark_lexer.specs.Items.{Lexeme, Item, item, comma, keyword_in, keyword_for, keyword_if}
use Rattle.starlark_lexer.specs.declared.dialect.Dialect.{Dialect}
use Rattle.starlark_ast.specs.Tree as tree
use Rattle.starlark_rulebook.specs.declared.rule.Rule.{Rule}
use Rattle.starlark_rulebook.specs.Rules.{Finding, TrailingComma, breaks}
use Rattle.starlark_rulebook.specs.Targets.{target_fault, target_of}
use Rattle.starlark_rulebook.specs.View.{finding_of, maybe_finding}
use Rattle.starlark_read.specs.declared.error.Error.{Error}
use Rattle.starlark_grammar.specs.Events.{looped, shaped, after_comma}
use Rattle.starlark_grammar.specs.Made.{clauses_of}
use Rattle.starlark_grammar.specs.Nodes.{start}
use Rattle.starlark_grammar.specs.Spans.{stretch}
use Rattle.starlark_grammar.specs.Tables.{Bracket, round, square, curly, closing_bracket, level_of}
use Rattle.starlark_grammar.specs.Points.{targets_in, an_item, member, over, filter, member_wanted, clauses_read}
use Rattle.starlark_grammar.specs.Frames.{Frames, inside, listed, State, wants, has, stands, wants_next}
use Rattle.starlark_grammar.specs.Machine.{goes as to, feed, else_state, step}
use Rattle.starlark_grammar.specs.Runs.{Stuck, ends, run}
use Rattle.starlark_grammar.specs.Verdicts.{Broken, answer, begins_test, judge}
use Rattle.starlark_read.specs.Reads.{Left, first_lexeme, Passes, Goes, Sticks, Answers, Comes, Unbracketed, in_statement, in_clause, kind_within, one_of, wants_first}
use Rattle.starlark_grammar.proofs.Steps.{arrive, runs, runs_end, at_token, same}
use Rattle.starlark_grammar.proofs.Reached.{plain_close}
use Rattle.starlark_read.proofs.Exits.{begins, goes, broken, runs_as, same_end, seen_as, state_is, stops, not_next}
use Rattle.starlark_read.proofs.Gathering.{both_none, other, or_none}

-- the first member may come
pub list_begins : {d : Dialect} (k : Unbracketed) (n : ℕ) (ts : Left) → level_of (kind_within k) ≡ n → Goes d (wants_first k) ts (wants n (one_of k tree.none (start ts.items))) ts
list_begins {d} k n ts h = subst (λ z. Goes d (wants_first k) ts (wants z (one_of k tree.none (start ts.items))) ts) h (runs_as (go k ts.items))
  where
    go : (k : Unbracketed) (xs : List Item) → run (wants_first k) xs ≡ run (wants (level_of (kind_within k)) (one_of k tree.none (start xs))) xs
    go (in_statement k) [] = runs_end (wants_first (in_statement k)) ∙ sym (runs_end (wants (level_of (kind_within (in_statement k))) (one_of (in_statement k) tree.none 0)))
    go (in_statement k) (x ∷ xs) = runs (wants_first (in_statement k)) x xs ∙ sym (runs (wants (level_of (kind_within (in_statement k))) (one_of (in_statement k) tree.none x.begin)) x xs)
    go (in_clause p b m cs k) [] = runs_end (wants_first (in_clause p b m cs k)) ∙ sym (runs_end (wants 7 (one_of (in_clause p b m cs k) tree.none 0)))
    go (in_clause p b m cs k) (x ∷ xs) = runs (wants_first (in_clause p b m cs k)) x xs ∙ sym (runs (wants 7 (one_of (in_clause p b m cs k) tree.none x.begin)) x xs)

-- behind a comma that ends there
abbrev pub behind_comma : Unbracketed → tree.Members → ℕ → ℕ → State
behind_comma (in_statement k) ms f j = wants_next ms f j k
behind_comma (in_clause p b m cs k) ms f j = stands (member_wanted (targets_in p b m cs) ms true j f) k

-- one more member, which begins there
abbrev pub one_at : Unbracketed → tree.Members → ℕ → ℕ → Frames
one_at (in_statement k) ms f i = listed ms f k
one_at (in_clause p b m cs k) ms f i = inside (member (targets_in p b m cs) ms f i an_item) k

pub list_comma : {d : Dialect} (k : Unbracketed) (ms : tree.Members) (q : tree.Expr) (e f : ℕ) (ts us : Left) → Passes ts (item (start ts.items) comma us.last) us → Goes d (has q e (one_of k ms f)) ts (behind_comma k (tree.more ms (tree.item q)) f us.last) us
list_comma (in_statement k) ms q e f ts us p = goes p refl refl
list_comma (in_clause a b m cs k) ms q e f ts us p = goes p refl refl

pub list_goes_on : {d : Dialect} (k : Unbracketed) (n : ℕ) (ms : tree.Members) (m : tree.Member) (e f : ℕ) (ts : Left) → level_of (kind_within k) ≡ n → begins_test ts.items ≡ true → Goes d (behind_comma k (tree.more ms m) f e) ts (wants n (one_at k (tree.more ms m) f (start ts.items))) ts
list_goes_on {d} k n ms m e f ts h t = subst (λ z. Goes d (behind_comma k (tree.more ms m) f e) ts (wants z (one_at k (tree.more ms m) f (start ts.items))) ts) h (record { same = go k ts.items t; behind = same_end })
  where
    skips : (b : Bool) (g : Finding) (n : ℕ) (v : _) → b ≡ true → answer (cond (not b) (Some g) None) n v ≡ v
    skips true g n v h = refl
    skips false g n v h = absurd (cc)

    go : (k : Unbracketed) (xs : List Item) → begins_test xs ≡ true → judge d (run (behind_comma k (tree.more ms m) f e) xs) ≡ judge d (run (wants (level_of (kind_within k)) (one_at k (tree.more ms m) f (start xs))) xs)
    go (in_statement k) [] t = absurd (cc)
    go (in_statement k) (x ∷ xs) t = ap (judge d) (runs (wants_next (tree.more ms m) f e k) x xs) ∙ skips (begins_test (x ∷ xs)) _ _ _ t ∙ ap (judge d) (sym (runs (wants (level_of (kind_within (in_statement k))) (listed (tree.more ms m) f k)) x xs))
    go (in_clause p b l cs k) [] t = absurd (cc)
    go (in_clause p b l cs k) (x ∷ xs) t = ap (judge d) (runs (stands (member_wanted (targets_in p b l cs) (tree.more ms m) true e f) k) x xs) ∙ skips (begins_test (x ∷ xs)) _ _ _ t ∙ ap (judge d) (sym (runs (wants 7 (inside (member (targets_in p b l cs) (tree.more ms m) f x.begin an_item) k)) x xs))

pub list_broken : {d : Dialect} (k : Unbracketed) (ms : tree.Members) (m : tree.Member) (e f : ℕ) (ts : Left) → begins_test ts.items ≡ false → Answers d (behind_comma k (tree.more ms m) f e) ts (Broken (breaks TrailingComma (stretch f e)) (length ts.items)) ts
list_broken (in_statement k) ms m e f ts h = broken ts (shaped after_comma (stretch f e)) (breaks TrailingComma (stretch f e)) refl (ap (λ b. cond (not b) (Some (breaks TrailingComma (stretch f e))) None) h)
list_broken (in_clause p b l cs k) ms m e f ts h = broken ts (shaped after_comma (stretch f e)) (breaks TrailingComma (stretch f e)) refl (ap (λ b. cond (not b) (Some (breaks TrailingComma (stretch f e))) None) h)

-- where a member begins is forgotten
pub list_forgets : {d : Dialect} (k : Unbracketed) (ms : tree.Members) (q : tree.Expr) (e f i : ℕ) (ts : Left) → Goes d (has q e (one_at k ms f i)) ts (has q e (one_of k ms f)) ts
list_forgets (in_statement k) ms q e f i ts = begins
list_forgets (in_clause p b m cs k) ms q e f i ts = runs_as (same (has q e (inside (member (targets_in p b m cs) ms f i an_item) k)) (has q e (inside (member (targets_in p b m cs) ms f f an_item) k)) refl (λ x. refl) (λ x. refl) ts.items)

-- a whole list behaves as one expression
pub list_ends : {d : Dialect} (k : Unbracketed) (ms : tree.Members) (m : tree.Member) (q : tree.Expr) (e f : ℕ) (ts : Left) → first_lexeme ts.items ≢ Some comma → Goes d (has q e (one_of k (tree.more ms m) f)) ts (has (tree.tuple (tree.more (tree.more ms m) (tree.item q)) (stretch f e)) e (one_of k tree.none f)) ts
list_ends {d} (in_statement k) ms m q e f ts n = runs_as (at_token (has q e (listed (tree.more ms m) f k)) (has (tree.tuple (tree.more (tree.more ms m) (tree.item q)) (stretch f e)) e (listed tree.none f k)) ts.items refl refl (λ x xs w. one x.lexeme x.begin x.end (not_next ts x xs comma n w)))
  where
    one : (y : Lexeme) (i j : ℕ) → y ≢ comma → (feed (listed (tree.more ms m) f k) q e y i j ≡ feed (listed tree.none f k) (tree.tuple (tree.more (tree.more ms m) (tree.item q)) (stretch f e)) e y i j) × (ends (listed (tree.more ms m) f k) q e (Some y) ≡ ends (listed tree.none f k) (tree.tuple (tree.more (tree.more ms m) (tree.item q)) (stretch f e)) e (Some y))
    one comma i j h = absurd (h refl)
    one _ i j h = (refl, refl)
list_ends {d} (in_clause p b l cs k) ms m q e f ts n = runs_as (at_token (has q e (inside (member (targets_in p b l cs) (tree.more ms m) f f an_item) k)) (has (tree.tuple (tree.more (tree.more ms m) (tree.item q)) (stretch f e)) e (inside (member (targets_in p b l cs) tree.none f f an_item) k)) ts.items refl refl (λ x xs w. (ap (to k) (other _ _ comma x.lexeme (refl, refl) (not_next ts x xs comma n w) ∙ sym (other _ _ comma x.lexeme (refl, refl) (not_next ts x xs comma n w))), refl)))

-- targets and `in`
pub in_follows : {d : Dialect} (p : Bracket) (b : ℕ) (m : tree.Member) (cs : tree.Clauses) (q : tree.Expr) (e f : ℕ) (k : Frames) (ts us : Left) → Passes ts (item (start ts.items) keyword_in us.last) us → Goes d (has q e (one_of (in_clause p b m cs k) tree.none f)) ts (wants 11 (inside (over p b m cs q) k)) us
in_follows p b m cs q e f k ts us h = goes h refl refl

pub no_in : {d : Dialect} (p : Bracket) (b : ℕ) (m : tree.Member) (cs : tree.Clauses) (q : tree.Expr) (e f : ℕ) (k : Frames) (ts : Left) → first_lexeme ts.items ≢ Some comma → first_lexeme ts.items ≢ Some keyword_in → Sticks d (has q e (one_of (in_clause p b m cs k) tree.none f)) ts ts
no_in p b m cs q e f k ts n h = stops (has q e (one_of (in_clause p b m cs k) tree.none f)) ts refl refl (λ x xs w. ap (to k) (other _ _ comma x.lexeme (refl, refl) (not_next ts x xs comma n w) ∙ other _ _ keyword_in x.lexeme (refl, refl) (not_next ts x xs keyword_in h w) ∙ both_none keyword_for x.lexeme))

-- a clause is whole
pub over_ends : {d : Dialect} (p : Bracket) (b : ℕ) (m : tree.Member) (cs : tree.Clauses) (t q : tree.Expr) (e : ℕ) (k : Frames) (ts : Left) → target_fault t ≡ None → Goes d (has q e (inside (over p b m cs t) k)) ts (stands (clauses_read p b m (tree.and_clause cs (tree.for_clause (target_of t) q))) k) ts
over_ends {d} p b m cs t q e k ts h = record { same = go ts.items; behind = same_end }
  where
    go : (xs : List Item) → judge d (run (has q e (inside (over p b m cs t) k)) xs) ≡ judge d (run (stands (clauses_read p b m (tree.and_clause cs (tree.for_clause (target_of t) q))) k) xs)
    go [] = ap (judge d) (runs_end (has q e (inside (over p b m cs t) k))) ∙ ap (λ o. answer o 0 (judge d (Stuck []))) h ∙ ap (judge d) (sym (runs_end (stands (clauses_read p b m (tree.and_clause cs (tree.for_clause (target_of t) q))) k)))
    go (x ∷ xs) = ap (judge d) (runs (has q e (inside (over p b m cs t) k)) x xs) ∙ ap (λ o. answer o (length (x ∷ xs)) (judge d (arrive x xs None (step (has q e (inside (over p b m cs t) k)) x)))) h ∙ ap (λ o. judge d (arrive x xs None o)) (or_none _) ∙ ap (judge d) (sym (runs (stands (clauses_read p b m (tree.and_clause cs (tree.for_clause (target_of t) q))) k) x xs))

pub over_broken : {d : Dialect} (p : Bracket) (b : ℕ) (m : tree.Member) (cs : tree.Clauses) (t q : tree.Expr) (e : ℕ) (k : Frames) (ts : Left) (o : Option (Spanned Rule)) (g : Spanned Rule) → o ≡ Some g → maybe_finding o ≡ target_fault t → Answers d (has q e (inside (over p b m cs t) k)) ts (Broken (finding_of g) (length ts.items)) ts
over_broken p b m cs t q e k ts o g w h = broken ts (looped t) (finding_of g) refl (sym h ∙ ap maybe_finding w)

pub right_target : (t : tree.Expr) (o : Option (Spanned Rule)) → o ≡ None → maybe_finding o ≡ target_fault t → target_fault t ≡ None
right_target t o w h = sym h ∙ ap maybe_finding w

pub filter_ends : {d : Dialect} (p : Bracket) (b : ℕ) (m : tree.Member) (cs : tree.Clauses) (q : tree.Expr) (e : ℕ) (k : Frames) (ts : Left) → Goes d (has q e (inside (filter p b m cs) k)) ts (stands (clauses_read p b m (tree.and_clause cs (tree.if_clause q))) k) ts
filter_ends p b m cs q e k ts = runs_as (same (has q e (inside (filter p b m cs) k)) (stands (clauses_read p b m (tree.and_clause cs (tree.if_clause q))) k) refl (λ x. or_none _) (λ x. refl) ts.items)

-- the clauses are whole
pub clauses_close : {d : Dialect} (p : Bracket) (b : ℕ) (m : tree.Member) (cs : tree.Clauses) (k : Frames) (ts us : Left) (w : Lexeme) → w ≡ closing_bracket p → Passes ts (item (start ts.items) w us.last) us → Goes d (stands (clauses_read p b m cs) k) ts (has (tree.comprehension m cs (stretch b us.last)) us.last k) us
clauses_close {d} p b m cs k ts us w h q = go p (subst (λ z. Passes ts (item (start ts.items) z us.last) us) h q)
  where
    go : (p : Bracket) → Passes ts (item (start ts.items) (closing_bracket p) us.last) us → Goes d (stands (clauses_read p b m cs) k) ts (has (tree.comprehension m cs (stretch b us.last)) us.last k) us
    go round q = goes q refl refl
    go square q = goes q refl refl
    go curly q = goes q refl refl

pub no_clause : {d : Dialect} (p : Bracket) (b : ℕ) (m : tree.Member) (cs : tree.Clauses) (k : Frames) (ts : Left) → first_lexeme ts.items ≢ Some keyword_for → first_lexeme ts.items ≢ Some keyword_if → first_lexeme ts.items ≢ Some (closing_bracket p) → Sticks d (stands (clauses_read p b m cs) k) ts ts
no_clause p b m cs k ts a i c = stops (stands (clauses_read p b m cs) k) ts refl refl (λ x xs w. ap (λ o. else_state (to k o) None) (other _ _ keyword_for x.lexeme (refl, refl) (not_next ts x xs keyword_for a w) ∙ other _ _ keyword_if x.lexeme (refl, refl) (not_next ts x xs keyword_if i w) ∙ other _ None (closing_bracket p) x.lexeme (plain_close p) (not_next ts x xs (closing_bracket p) c w)))

pub clause_more : {X : Type 0} (c : tree.Clause) (h : X → tree.Clause) (xs : List X) (x : X) → clauses_of c h (xs ++ x ∷ []) ≡ tree.and_clause (clauses_of c h xs) (h x)
clause_more c h xs x = fold-append (λ cs y. tree.and_clause cs (h y)) (tree.and_clause tree.no_clauses c) xs (x ∷ [])

-- the same where it is known only that members stand there
pub list_goes_on_with : {d : Dialect} (k : Unbracketed) (n : ℕ) (ms : tree.Members) (e f : ℕ) (ts : Left) → ms ≢ tree.none → level_of (kind_within k) ≡ n → begins_test ts.items ≡ true → Goes d (behind_comma k ms f e) ts (wants n (one_at k ms f (start ts.items))) ts
list_goes_on_with k n tree.none e f ts w h t = absurd (w refl)
list_goes_on_with k n (tree.more ms m) e f ts w h t = list_goes_on k n ms m e f ts h t

pub list_broken_with : {d : Dialect} (k : Unbracketed) (ms : tree.Members) (e f : ℕ) (ts : Left) (s : Extent) → s ≡ stretch f e → ms ≢ tree.none → begins_test ts.items ≡ false → Answers d (behind_comma k ms f e) ts (Broken (breaks TrailingComma s) (length ts.items)) ts
list_broken_with k tree.none e f ts s q w h = absurd (w refl)
list_broken_with {d} k (tree.more ms m) e f ts s q w h = subst (λ z. Answers d (behind_comma k (tree.more ms m) f e) ts (Broken (breaks TrailingComma z) (length ts.items)) ts) (sym q) (list_broken k ms m e f ts h)

pub list_ends_with : {d : Dialect} (k : Unbracketed) (ms : tree.Members) (q : tree.Expr) (e f : ℕ) (ts : Left) → ms ≢ tree.none → first_lexeme ts.items ≢ Some comma → Goes d (has q e (one_of k ms f)) ts (has (tree.tuple (tree.more ms (tree.item q)) (stretch f e)) e (one_of k tree.none f)) ts
list_ends_with k tree.none q e f ts w n = absurd (w refl)
list_ends_with k (tree.more ms m) q e f ts w n = list_ends k ms m q e f ts n

-- a whole list, where the tokens stay
pub list_is : {d : Dialect} (k : Unbracketed) (ms : tree.Members) (q x : tree.Expr) (f : ℕ) {ts us : Left} → ms ≢ tree.none → (us ≡ ts) × (first_lexeme ts.items ≢ Some comma) → x ≡ tree.tuple (tree.more ms (tree.item q)) (stretch f ts.last) → Goes d (has q ts.last (one_of k ms f)) ts (has x us.last (one_of k tree.none f)) us
list_is {d} k ms q x f {ts} {us} w n e = subst (λ vs. Goes d (has q ts.last (one_of k ms f)) ts (has x vs.last (one_of k tree.none f)) vs) (sym n.0) (seen_as (list_ends_with k ms q ts.last f ts w n.1) e)

pub list_comma_as : {d : Dialect} (k : Unbracketed) (ms ns : tree.Members) (q : tree.Expr) (e f : ℕ) (ts us : Left) → ns ≡ tree.more ms (tree.item q) → Passes ts (item (start ts.items) comma us.last) us → Goes d (has q e (one_of k ms f)) ts (behind_comma k ns f us.last) us
list_comma_as {d} k ms ns q e f ts us h p = subst (λ z. Goes d (has q e (one_of k ms f)) ts (behind_comma k z f us.last) us) (sym h) (list_comma k ms q e f ts us p)

pub listed_from : {d : Dialect} {E : Type 0} (k : Unbracketed) (m : E → tree.Expr) (q : tree.Expr) (e f g : ℕ) {us vs : Left} {r : Result E Error} → g ≡ f → Comes d (has q e (one_of k tree.none g)) (λ x. has (m x) vs.last (one_of k tree.none g)) us r vs → Comes d (has q e (one_of k tree.none f)) (λ x. has (m x) vs.last (one_of k tree.none f)) us r vs
listed_from {d} k m q e f g {us} {vs} {r} w h = subst (λ z. Comes d (has q e (one_of k tree.none z)) (λ x. has (m x) vs.last (one_of k tree.none z)) us r vs) w h

pub clauses_as : {d : Dialect} {s : State} {ts us : Left} {p : Bracket} {b : ℕ} {m : tree.Member} {cs : tree.Clauses} {k : Frames} (ns : tree.Clauses) → Goes d s ts (stands (clauses_read p b m cs) k) us → ns ≡ cs → Goes d s ts (stands (clauses_read p b m ns) k) us
clauses_as {p = p} {b = b} {m = m} {k = k} ns h w = state_is h (ap (λ z. stands (clauses_read p b m z) k) (sym w))
