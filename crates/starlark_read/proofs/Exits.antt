-- How a function of the parser returns.
use Rattle.std.proofs.Common.{◌≡◌, ◌≢◌, ℕ, List, [], ◌∷◌, ◌++◌, Option, Some, None, Bool, true, false, Result, Ok, Err, refl, ap, sym, subst, ◌∙◌, length}
use Rattle.std.proofs.lemmas.List.{append_assoc}
use Rattle.std.specs.Bool.{MatchBool}
use Rattle.starlark_lexer.specs.Items.{Lexeme, Item, item}
use Rattle.starlark_lexer.specs.declared.dialect.Dialect.{Dialect}
use Rattle.starlark_ast.specs.Tree.{Expr}
use Rattle.starlark_rulebook.specs.Rules.{Finding}
use Rattle.starlark_read.specs.declared.error.Error.{Error}
use Rattle.starlark_read.specs.declared.error.Error.TheVariants as e
use Rattle.starlark_grammar.specs.Events.{Event}
use Rattle.starlark_grammar.specs.Language.{last_end}
use Rattle.starlark_grammar.specs.Nodes.{start}
use Rattle.starlark_grammar.specs.Frames.{Frames, State, has}
use Rattle.starlark_grammar.specs.Machine.{step}
use Rattle.starlark_grammar.specs.Runs.{Stuck, finish, met, note, run}
use Rattle.starlark_grammar.specs.Verdicts.{Verdict, Unexpected, Broken, answer, broken_at, judge}
use Rattle.starlark_read.specs.Reads.{Left, behind_token, behind_tokens, first_lexeme, stopped, Passes, SameEnd, Goes, Sticks, Answers, Breaks, Comes, name_ahead}
use Rattle.starlark_grammar.proofs.Steps.{arrive, runs, runs_end, passes_on, stays_at}
use Rattle.starlark_grammar.specs.Sorts.{name_of}

-- where the tokens end
pub same_end : {ts : Left} → SameEnd ts ts
same_end = record { passed = []; items = refl; fault = refl; last = refl; unasked = refl; aside = refl }

-- the lexemes that are left behind some tokens and then others
behind_more : (xs ys zs : List Item) → behind_tokens (length ys) (behind_tokens (length xs) zs) ≡ behind_tokens (length (xs ++ ys)) zs
behind_more [] ys zs = refl
behind_more (x ∷ xs) ys zs = behind_more xs ys (behind_token zs)

pub then_end : {ts us vs : Left} → SameEnd ts us → SameEnd us vs → SameEnd ts vs
then_end {ts} {us} {vs} p q = record { passed = p.passed ++ q.passed; items = p.items ∙ ap (λ xs. p.passed ++ xs) q.items ∙ sym (append_assoc p.passed q.passed vs.items); fault = q.fault ∙ p.fault; last = q.last ∙ p.last; unasked = q.unasked ∙ ap (λ zs. behind_tokens (length q.passed) zs) p.unasked ∙ behind_more p.passed q.passed ts.unasked; aside = q.aside ∙ p.aside }

pub passes_end : {ts us : Left} {x : Item} → Passes ts x us → SameEnd ts us
passes_end {ts} {us} {x} p = record { passed = x ∷ []; items = p.items; fault = p.fault; last = ap (λ n. last_end n us.items) p.last ∙ sym (ap (last_end ts.last) p.items); unasked = p.unasked; aside = p.aside }

infixl 5 ◌>>◌
pub ◌>>◌ : {d : Dialect} {s t u : State} {a b c : Left} → Goes d s a t b → Goes d t b u c → Goes d s a u c
p >> q = record { same = p.same ∙ q.same; behind = then_end p.behind q.behind }

pub sticks : {d : Dialect} {s t : State} {a b c : Left} → Goes d s a t b → Sticks d t b c → Sticks d s a c
sticks p q = record { same = p.same ∙ q.same; behind = then_end p.behind q.behind }

pub answers : {d : Dialect} {s t : State} {a b c : Left} {v : Verdict} → Goes d s a t b → Answers d t b v c → Answers d s a v c
answers p q = record { same = p.same ∙ q.same; behind = then_end p.behind q.behind }

pub breaks_behind : {d : Dialect} {s t : State} {a b c : Left} → Goes d s a t b → Breaks d t b c → Breaks d s a c
breaks_behind p q = record { finding = q.finding; kept = q.kept; answers = answers p q.answers }

pub begins : {d : Dialect} {s : State} {ts : Left} → Goes d s ts s ts
begins = record { same = refl; behind = same_end }

-- one token, at which nothing is met
pub goes : {d : Dialect} {s s' : State} {x : Item} {ts us : Left} → Passes ts x us → met s (Some x.lexeme) ≡ None → step s x ≡ Some s' → Goes d s ts s' us
goes {d} {s} {s'} {x} {ts} {us} p m h = record { same = ap (λ xs. judge d (run s xs)) p.items ∙ ap (judge d) (passes_on s s' x us.items m h); behind = passes_end p }

-- one token, before which a construct is met that breaks nothing
pub goes_past : {d : Dialect} {s s' : State} {x : Item} {ts us : Left} (v : Event) → Passes ts x us → met s (Some x.lexeme) ≡ Some v → broken_at d v (x ∷ us.items) ≡ None → step s x ≡ Some s' → Goes d s ts s' us
goes_past {d} {s} {s'} {x} {ts} {us} v p m b h = record {
  same = ap (λ xs. judge d (run s xs)) p.items ∙ ap (judge d) (runs s x us.items ∙ ap (λ o. arrive x us.items o (step s x)) m ∙ ap (arrive x us.items (Some v)) h) ∙ right _ b;
  behind = passes_end p;
}
  where
    right : (o : Option Finding) → o ≡ None → answer o (length (x ∷ us.items)) (judge d (run s' us.items)) ≡ judge d (run s' us.items)
    right o q = ap (λ z. answer z (length (x ∷ us.items)) (judge d (run s' us.items))) q

-- no token
pub runs_as : {d : Dialect} {s s' : State} {ts : Left} → run s ts.items ≡ run s' ts.items → Goes d s ts s' ts
runs_as {d} w = record { same = ap (judge d) w; behind = same_end }

-- the same tokens, or the same tree, by another name
pub tokens_are : {d : Dialect} {s u : State} {ts us vs : Left} → Goes d s ts u us → us ≡ vs → Goes d s ts u vs
tokens_are {d} {s} {u} {ts} g w = subst (λ vs. Goes d s ts u vs) w g

pub renamed : {d : Dialect} {s : State} {ts us : Left} → us ≡ ts → Goes d s ts s us
renamed w = tokens_are begins (sym w)

pub seen_as : {d : Dialect} {s : State} {ts us : Left} {r r' : Expr} {n : ℕ} {k : Frames} → Goes d s ts (has r n k) us → r' ≡ r → Goes d s ts (has r' n k) us
seen_as {d} {s} {ts} {us} {n} {k} g w = subst (λ z. Goes d s ts (has z n k) us) (sym w) g

pub state_is : {d : Dialect} {s u v : State} {ts us : Left} → Goes d s ts u us → u ≡ v → Goes d s ts v us
state_is {d} {s} {ts} {us} g w = subst (λ z. Goes d s ts z us) w g

-- a result
pub gives : {d : Dialect} {A : Type 0} {s : State} {t : A → State} {before after : Left} {x : A} → Goes d s before (t x) after → Comes d s t before (Ok x) after
gives {d} {A} {s} {t} {before} {after} {x} p = record {
  comes = λ y q. subst (λ z. Goes d s before (t z) after) (same_ok x y q) p;
  stuck = λ q. absurd (let n : ◌≡◌ {A = Result A Error} (Ok x) (Err e.Unexpected) = q in (cc));
  breaks = λ q. absurd (let n : ◌≡◌ {A = Result A Error} (Ok x) (Err e.Broken) = q in (cc));
}
  where
    same_ok : (x y : A) → ◌≡◌ {A = Result A Error} (Ok x) (Ok y) → x ≡ y
    same_ok x y q = cc

pub err_same : {A B : Type 0} (r : Result A Error) (m n : Error) → r ≡ Err m → r ≡ Err n → ◌≡◌ {A = Result B Error} (Err m) (Err n)
err_same {A} r m n q w = let v : ◌≡◌ {A = Result A Error} (Err m) (Err n) = sym q ∙ w in let u : m ≡ n = cc in ap Err u

-- the error of a call
pub exits : {d : Dialect} {A B : Type 0} {s s' : State} {t : A → State} {u : B → State} {before mid after : Left} {r : Result A Error} {m : Error} → r ≡ Err m → Goes d s before s' mid → Comes d s' u mid (Err m) after → Comes d s t before r after
exits {d} {A} {B} {r = r} {m = m} q p h = record {
  comes = λ x w. absurd (let n : ◌≡◌ {A = Result A Error} (Err m) (Ok x) = sym q ∙ w in (cc));
  stuck = λ w. sticks p (h.stuck (err_same r m e.Unexpected q w));
  breaks = λ w. breaks_behind p (h.breaks (err_same r m e.Broken q w));
}

-- nothing can be read there
pub refuses : {d : Dialect} {A : Type 0} {s : State} {t : A → State} {before after : Left} → Sticks d s before after → Comes d s t before (Err e.Unexpected) after
refuses {d} {A} p = record {
  comes = λ x v. absurd (let n : ◌≡◌ {A = Result A Error} (Err e.Unexpected) (Ok x) = v in (cc));
  stuck = λ v. p;
  breaks = λ v. absurd (let n : ◌≡◌ {A = Result A Error} (Err e.Unexpected) (Err e.Broken) = v in (cc));
}

-- the tokens that are there, whatever rule is kept
pub still_there : {ts us vs : Left} {o : Option Finding} → SameEnd ts us → vs ≡ stopped us o → SameEnd ts vs
still_there {ts} q w = subst (SameEnd ts) (sym w) (record { passed = q.passed; items = q.items; fault = q.fault; last = q.last; unasked = q.unasked; aside = q.aside })

-- a rule is kept
pub some_kept : {o : Option Finding} {f : Finding} → o ≡ Some f → o ≢ None
some_kept {o} {f} h n = let w : Some f ≡ None = sym h ∙ n in (cc)

-- a rule is broken
pub halts : {d : Dialect} {A : Type 0} {s : State} {t : A → State} {before mid after : Left} {m : Error} {f : Finding} → m ≡ e.Broken → after ≡ stopped mid (Some f) → Answers d s before (Broken f (length mid.items)) mid → Comes d s t before (Err m) after
halts {d} {A} {s} {t} {before} {mid} {after} {m} {f} b k p = record {
  comes = λ x v. absurd (let n : ◌≡◌ {A = Result A Error} (Err m) (Ok x) = v in (cc));
  stuck = λ v. absurd (let n : ◌≡◌ {A = Result A Error} (Err m) (Err e.Unexpected) = v in let u : m ≡ e.Broken = b in (cc));
  breaks = λ v. subst (λ us. Breaks d s before us) (sym k) (record { finding = f; kept = refl; answers = record { same = p.same; behind = still_there p.behind refl } });
}

-- a construct is met there that breaks a rule
pub broken : {d : Dialect} {s : State} (ts : Left) (v : Event) (f : Finding) → met s (first_lexeme ts.items) ≡ Some v → broken_at d v ts.items ≡ Some f → Answers d s ts (Broken f (length ts.items)) ts
broken {d} {s} ts v f m b = record { same = go ts.items m b; behind = same_end }
  where
    go : (xs : List Item) → met s (first_lexeme xs) ≡ Some v → broken_at d v xs ≡ Some f → judge d (run s xs) ≡ Broken f (length xs)
    go [] m b = ap (judge d) (runs_end s ∙ ap (λ o. note [] o (finish s)) m) ∙ ap (λ o. answer o 0 (judge d (finish s))) b
    go (x ∷ xs) m b = ap (judge d) (runs s x xs ∙ ap (λ o. arrive x xs o (step s x)) m) ∙ ap (λ o. answer o (length (x ∷ xs)) (judge d (arrive x xs None (step s x)))) b

-- what was read before, and what a call reads
pub behind_it : {d : Dialect} {A : Type 0} {s s' : State} {t : A → State} {before mid rest : Left} {r : Result A Error} → Goes d s before s' mid → Comes d s' t mid r rest → Comes d s t before r rest
behind_it p h = record { comes = λ x w. p >> h.comes x w; stuck = λ w. sticks p (h.stuck w); breaks = λ w. breaks_behind p (h.breaks w) }

-- a state that stops
pub stops : {d : Dialect} (s : State) (ts : Left) → met s (first_lexeme ts.items) ≡ None → finish s ≡ Stuck [] → ((x : Item) (xs : List Item) → ts.items ≡ x ∷ xs → step s x ≡ None) → Sticks d s ts ts
stops {d} s ts m f h = record { same = go ts.items m h; behind = same_end }
  where
    go : (xs : List Item) → met s (first_lexeme xs) ≡ None → ((y : Item) (ys : List Item) → xs ≡ y ∷ ys → step s y ≡ None) → judge d (run s xs) ≡ Unexpected xs
    go [] m h = ap (judge d) (runs_end s ∙ ap (λ o. note [] o (finish s)) m ∙ f)
    go (y ∷ ys) m h = ap (judge d) (stays_at s y ys m (h y ys refl))

-- the tokens that stay are those that were there
pub stays_there : {d : Dialect} {s : State} {ts us : Left} → us ≡ ts → Sticks d s ts ts → Sticks d s ts us
stays_there {d} {s} {ts} w p = subst (λ vs. Sticks d s ts vs) (sym w) p

pub not_next : (ts : Left) (x : Item) (xs : List Item) (w : Lexeme) → first_lexeme ts.items ≢ Some w → ts.items ≡ x ∷ xs → x.lexeme ≢ w
not_next ts x xs w h q z = h (ap first_lexeme q ∙ ap Some z)

pub nameless : (ts : Left) (x : Item) (xs : List Item) → name_ahead ts.items ≡ None → ts.items ≡ x ∷ xs → name_of x.lexeme ≡ None
nameless ts x xs h q = sym (ap name_ahead q) ∙ h

-- what `accept` reads, and what it leaves
pub read_it : (ts us : Left) (w : Lexeme) (b : Bool) → b ≡ true → MatchBool b (Passes ts (item (start ts.items) w us.last) us) ((us ≡ ts) × (first_lexeme ts.items ≢ Some w)) → Passes ts (item (start ts.items) w us.last) us
read_it ts us w true q h = h
read_it ts us w false q h = absurd (cc)

pub left_it : (ts us : Left) (w : Lexeme) (b : Bool) → b ≡ false → MatchBool b (Passes ts (item (start ts.items) w us.last) us) ((us ≡ ts) × (first_lexeme ts.items ≢ Some w)) → (us ≡ ts) × (first_lexeme ts.items ≢ Some w)
left_it ts us w true q h = absurd (cc)
left_it ts us w false q h = h

-- the wanted token is not there
pub missing : {d : Dialect} {A B : Type 0} {s : State} {t : A → State} {before mid after : Left} {w : Lexeme} {r : Result A Error} {m : Error} → r ≡ Err m → (◌≡◌ {A = Result B Error} (Err m) (Err e.Unexpected) → (after ≡ mid) × (first_lexeme mid.items ≢ Some w)) → (◌≡◌ {A = Result B Error} (Err m) (Err e.Broken) → ⊥) → ((after ≡ mid) × (first_lexeme mid.items ≢ Some w) → Sticks d s before after) → Comes d s t before r after
missing {d} {A} {r = r} {m = m} q f g h = record {
  comes = λ x v. absurd (let n : ◌≡◌ {A = Result A Error} (Err m) (Ok x) = sym q ∙ v in (cc));
  stuck = λ v. h (f (err_same r m e.Unexpected q v));
  breaks = λ v. absurd (g (err_same r m e.Broken q v));
}
