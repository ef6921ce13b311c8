-- Where the machine comes to behind tokens at which no rule is broken, and why it answers there.
use Rattle.std.proofs.Common.{ℕ, ◌≡◌, ◌+◌, ◌<◌, ◌≤◌, ◌⊎◌, ◌∷◌, ◌++◌, ◌∙◌, [], suc, inl, inr, List, Option, Some, None, refl, ap, sym, subst, arith, length, length-append}
use Rattle.starlark_lexer.specs.Items.{Lexeme, Item}
use Rattle.starlark_lexer.specs.declared.dialect.Dialect.{Dialect}
use Rattle.starlark_ast.specs.Tree.{Statement}
use Rattle.starlark_rulebook.specs.Rules.{Finding}
use Rattle.starlark_grammar.specs.Events.{Event, assigned, end_finding, breaks_at_once, looped, shaped, typed}
use Rattle.starlark_grammar.specs.Grammar.{Derives}
use Rattle.starlark_grammar.specs.Marks.{Mark, mark, marked, marks_in, Has, Late, Clean}
use Rattle.starlark_grammar.specs.Frames.{State}
use Rattle.starlark_grammar.specs.Machine.{step}
use Rattle.starlark_grammar.specs.Runs.{met, Trace, Accepts, Stuck, bottom, marks_of, note, finish, run, initial}
use Rattle.starlark_grammar.specs.Completion.{completion}
use Rattle.starlark_grammar.specs.Verdicts.{broken_at, Verdict, Unexpected, Broken, settle, answer, judge, next_lexeme}
use Rattle.starlark_grammar.specs.Language.{IsViable, HasEnded}
use Rattle.starlark_grammar.proofs.Steps.{arrive, runs, runs_end}
use Rattle.starlark_grammar.proofs.Sound.{sound}
use Rattle.starlark_grammar.proofs.Reading.{marks_note, Reads, steps}
use Rattle.starlark_grammar.proofs.Complete.{complete}
use Rattle.starlark_grammar.proofs.Closing.{completion_ends}
use Rattle.starlark_grammar.proofs.Meeting.{no_some, met_later}
use Rattle.starlark_grammar.proofs.Lacking.{broken_first}
use Rattle.starlark_grammar.proofs.Dead.{finish_is, beyond, Stops}

-- constructs that break no rule, each with more tokens behind it
abbrev pub Far : Dialect → ℕ → List Mark → Type 0
Far c n [] = Unit {0}
Far c n (mark m e ∷ ms) = (breaks_at_once c e ≡ None) × (n < m) × Far c n ms

late_append : (c : Dialect) (n : ℕ) (ns ms : List Mark) → Far c n ns → Late c n ms → Late c n (ns ++ ms)
late_append c n [] ms f l = l
late_append c n (mark m e ∷ ns) ms f l = (inl f.0, late_append c n ns ms f.2 l)

pub clean_append : (c : Dialect) (n : ℕ) (ns ms : List Mark) → Far c n ns → Clean c ms → Clean c (ns ++ ms)
clean_append c n [] ms f l = l
clean_append c n (mark m e ∷ ns) ms f l = (f.0, clean_append c n ns ms f.2 l)

pub clean_has : (c : Dialect) (n : ℕ) (e : Event) (ms : List Mark) → Clean c ms → Has (mark n e) ms → breaks_at_once c e ≡ None
clean_has c n e [] l h = elim h [ ]
clean_has c n e (mark m d ∷ ms) l (inl q) = let z : e ≡ d = cc in ap (breaks_at_once c) z ∙ l.0
clean_has c n e (mark m d ∷ ms) l (inr h) = clean_has c n e ms l.1 h

pub has_append : (m : Mark) (ns ms : List Mark) → Has m ms → Has m (ns ++ ms)
has_append m [] ms h = h
has_append m (n ∷ ns) ms h = inr (has_append m ns ms h)

pub has_behind : (c : Dialect) (n : ℕ) (e : Event) (ns ms : List Mark) → Far c n ns → Has (mark n e) (ns ++ ms) → Has (mark n e) ms
has_behind c n e [] ms f h = h
has_behind c n e (mark m d ∷ ns) ms f (inl q) = absurd (let z : n ≡ m = cc in omega (arith, f.1))
has_behind c n e (mark m d ∷ ns) ms f (inr h) = has_behind c n e ns ms f.2 h

no_marks : (s : State) → marks_of (finish s) ≡ []
no_marks s = go (finish_is s)
  where
    go : (finish s ≡ Stuck []) ⊎ ((raw : Statement) × (finish s ≡ Accepts raw)) → marks_of (finish s) ≡ []
    go (inl e) = ap marks_of e
    go (inr e) = ap marks_of e.1

pub end_marks : (s : State) → marks_of (run s []) ≡ marked 0 (met s None) []
end_marks s = ap marks_of (runs_end s) ∙ marks_note [] (met s None) (finish s) ∙ ap (marked 0 (met s None)) (no_marks s)

pub token_marks : (s : State) (x : Item) (xs : List Item) → marks_of (run s (x ∷ xs)) ≡ marked (suc (length xs)) (met s (Some x.lexeme)) (marks_of (beyond x xs (step s x)))
token_marks s x xs = ap marks_of (runs s x xs) ∙ marks_note (x ∷ xs) (met s (Some x.lexeme)) (beyond x xs (step s x))

-- all that is met has at most all tokens behind it
late_run : (c : Dialect) (ts : List Item) (s : State) (n : ℕ) → length ts ≤ n → Late c n (marks_of (run s ts))
late_run c [] s n h = subst (Late c n) (sym (end_marks s)) (go (met s None))
  where
    go : (m : Option Event) → Late c n (marked 0 m [])
    go None = tt
    go (Some e) = (inr (omega arith), tt)
late_run c (x ∷ xs) s n h = subst (Late c n) (sym (token_marks s x xs)) (go (met s (Some x.lexeme)) (step s x) (λ u. late_run c xs u n (omega arith)))
  where
    with_mark : (m : Option Event) (ms : List Mark) → Late c n ms → Late c n (marked (suc (length xs)) m ms)
    with_mark None ms l = l
    with_mark (Some e) ms l = (inr h, l)

    go : (m : Option Event) (o : Option State) → ((u : State) → Late c n (marks_of (run u xs))) → Late c n (marked (suc (length xs)) m (marks_of (beyond x xs o)))
    go m None f = with_mark m [] tt
    go m (Some u) f = with_mark m (marks_of (run u xs)) (f u)

pub few : (ts : List Item) (s : State) (n : ℕ) (e : Event) → Has (mark n e) (marks_of (run s ts)) → n ≤ length ts
few [] s n e h = go (met s None) (subst (Has (mark n e)) (end_marks s) h)
  where
    go : (m : Option Event) → Has (mark n e) (marked 0 m []) → n ≤ 0
    go None h = elim h [ ]
    go (Some d) (inl q) = let z : n ≡ 0 = cc in omega arith
    go (Some d) (inr h) = elim h [ ]
few (x ∷ xs) s n e h = go (met s (Some x.lexeme)) (step s x) (λ u. few xs u n e) (subst (Has (mark n e)) (token_marks s x xs) h)
  where
    later : (o : Option State) → ((u : State) → Has (mark n e) (marks_of (run u xs)) → n ≤ length xs) → Has (mark n e) (marks_of (beyond x xs o)) → n ≤ suc (length xs)
    later None f h = elim h [ ]
    later (Some u) f h = let w = f u h in omega (arith, w)

    go : (m : Option Event) (o : Option State) → ((u : State) → Has (mark n e) (marks_of (run u xs)) → n ≤ length xs) → Has (mark n e) (marked (suc (length xs)) m (marks_of (beyond x xs o))) → n ≤ suc (length xs)
    go None o f h = later o f h
    go (Some d) o f (inl q) = let z : n ≡ suc (length xs) = cc in omega arith
    go (Some d) o f (inr h) = later o f h

-- what is met at the first token, and only that has all tokens behind it
pub marks_now : (s : State) (ts : List Item) (e : Event) → met s (next_lexeme ts) ≡ Some e → Has (mark (length ts) e) (marks_of (run s ts))
marks_now s [] e h = subst (Has (mark 0 e)) (sym (end_marks s ∙ ap (λ m. marked 0 m []) h)) (inl refl)
marks_now s (x ∷ xs) e h = subst (Has (mark (suc (length xs)) e)) (sym (token_marks s x xs ∙ ap (λ m. marked (suc (length xs)) m (marks_of (beyond x xs (step s x)))) h)) (inl refl)

pub now_only : (s : State) (ts : List Item) (e : Event) → Has (mark (length ts) e) (marks_of (run s ts)) → met s (next_lexeme ts) ≡ Some e
now_only s [] e h = go (met s None) (subst (Has (mark 0 e)) (end_marks s) h)
  where
    go : (m : Option Event) → Has (mark 0 e) (marked 0 m []) → m ≡ Some e
    go None h = elim h [ ]
    go (Some d) (inl q) = let z : e ≡ d = cc in ap Some (sym z)
    go (Some d) (inr h) = elim h [ ]
now_only s (x ∷ xs) e h = go (met s (Some x.lexeme)) (subst (Has (mark (suc (length xs)) e)) (token_marks s x xs) h)
  where
    later : {P : Type 0} (o : Option State) → Has (mark (suc (length xs)) e) (marks_of (beyond x xs o)) → P
    later None h = elim h [ ]
    later (Some u) h = absurd (let w : suc (length xs) ≤ length xs = few xs u (suc (length xs)) e h in omega arith)

    go : (m : Option Event) → Has (mark (suc (length xs)) e) (marked (suc (length xs)) m (marks_of (beyond x xs (step s x)))) → m ≡ Some e
    go None h = later (step s x) h
    go (Some d) (inl q) = let z : e ≡ d = cc in ap Some (sym z)
    go (Some d) (inr h) = later (step s x) h

pub unbroken : (c : Dialect) (e : Event) (xs : List Item) → broken_at c e xs ≡ None → breaks_at_once c e ≡ None
unbroken c (shaped z p) xs h = refl
unbroken c (typed t) xs h = h
unbroken c (assigned l t o) xs h = h
unbroken c (looped l) xs h = h

-- whether what is met breaks a rule
pub data Judged (c : Dialect) (xs : List Item) (m : Option Event) (v : Trace) : Type 0 where
  j_broken : (e : Event) (f : Finding) → m ≡ Some e → broken_at c e xs ≡ Some f → judge c (note xs m v) ≡ Broken f (length xs) → Judged c xs m v
  j_silent : ((e : Event) → m ≡ Some e → broken_at c e xs ≡ None) → judge c (note xs m v) ≡ judge c v → Judged c xs m v

pub judged : (c : Dialect) (xs : List Item) (m : Option Event) (v : Trace) → Judged c xs m v
judged c xs None v = j_silent (λ e h. no_some e h) refl
judged c xs (Some e) v = go (broken_at c e xs) refl
  where
    go : (o : Option Finding) → broken_at c e xs ≡ o → Judged c xs (Some e) v
    go None q = j_silent (λ d h. let z : e ≡ d = cc in ap (λ y. broken_at c y xs) (sym z) ∙ q) (ap (λ o. answer o (length xs) (judge c v)) q)
    go (Some f) q = j_broken e f refl q (ap (λ o. answer o (length xs) (judge c v)) q)

-- from one state to another over those tokens
pub data Path : State → List Item → State → Type 0 where
  no_step : {s : State} → Path s [] s
  a_step : {s u t : State} {x : Item} {w : List Item} → step s x ≡ Some u → Path u w t → Path s (x ∷ w) t

-- where the machine comes to behind w, with no rule broken on the way
pub record Past (c : Dialect) (s : State) (w : List Item) : Type 0 where
  pub state : State
  pub goes_on : (ys : List Item) → bottom (run s (w ++ ys)) ≡ bottom (run state ys)
  pub prefix : List Item → List Mark
  pub marks : (ys : List Item) → marks_of (run s (w ++ ys)) ≡ prefix ys ++ marks_of (run state ys)
  pub far : (ys : List Item) → Far c (length ys) (prefix ys)
  pub told : (ys : List Item) → judge c (run s (w ++ ys)) ≡ judge c (run state ys)
  pub path : Path s w state

pub nowhere : (c : Dialect) (s : State) → Past c s []
nowhere c s = record { state = s; goes_on = λ ys. refl; prefix = λ ys. []; marks = λ ys. refl; far = λ ys. tt; told = λ ys. refl; path = no_step }

-- what is met at x breaks no rule
abbrev pub Silent : Dialect → Option Event → List Item → Type 0
Silent c m xs = (e : Event) → m ≡ Some e → broken_at c e xs ≡ None

pub silent_judge : (c : Dialect) (xs : List Item) (m : Option Event) (v : Trace) → Silent c m xs → judge c (note xs m v) ≡ judge c v
silent_judge c xs None v h = refl
silent_judge c xs (Some e) v h = ap (λ o. answer o (length xs) (judge c v)) (h e refl)

pub one_further : {c : Dialect} {s u : State} {x : Item} {w : List Item} (xs : List Item) → Silent c (met s (Some x.lexeme)) (x ∷ xs) → step s x ≡ Some u → Past c u w → Past c s (x ∷ w)
one_further {c} {s} {u} {x} {w} xs h e a = record {
  state = a.state;
  goes_on = λ ys. let g : Reads s (x ∷ w ++ ys) (marked (suc (length (w ++ ys))) (met s (Some x.lexeme))) u (w ++ ys) = steps refl e in g.end ∙ a.goes_on ys;
  prefix = λ ys. marked (suc (length (w ++ ys))) (met s (Some x.lexeme)) (a.prefix ys);
  marks = λ ys. let g : Reads s (x ∷ w ++ ys) (marked (suc (length (w ++ ys))) (met s (Some x.lexeme))) u (w ++ ys) = steps refl e in g.marks ∙ ap (marked (suc (length (w ++ ys))) (met s (Some x.lexeme))) (a.marks ys) ∙ over (met s (Some x.lexeme)) (suc (length (w ++ ys))) (a.prefix ys) (marks_of (run a.state ys));
  far = λ ys. still (met s (Some x.lexeme)) h ys (a.prefix ys) (a.far ys);
  told = λ ys. ap (judge c) (runs s x (w ++ ys)) ∙ silent_judge c (x ∷ w ++ ys) (met s (Some x.lexeme)) (beyond x (w ++ ys) (step s x)) (λ d q. broken_first c d x (w ++ ys) xs ∙ h d q) ∙ ap (λ o. judge c (beyond x (w ++ ys) o)) e ∙ a.told ys;
  path = a_step e a.path;
}
  where
    over : (o : Option Event) (n : ℕ) (ns ms : List Mark) → marked n o (ns ++ ms) ≡ marked n o ns ++ ms
    over None n ns ms = refl
    over (Some d) n ns ms = refl

    still : (o : Option Event) → Silent c o (x ∷ xs) → (ys : List Item) (ms : List Mark) → Far c (length ys) ms → Far c (length ys) (marked (suc (length (w ++ ys))) o ms)
    still None q ys ms f = f
    still (Some d) q ys ms f = (unbroken c d (x ∷ xs) (q d refl), (let n : length (w ++ ys) ≡ length w + length ys = length-append w ys in omega arith), f)

-- why the machine answers so there
pub data Halt (c : Dialect) (s : State) : List Item → Verdict → Type 0 where
  h_broken : {f : Finding} {rest : List Item} (e : Event) → met s (next_lexeme rest) ≡ Some e → broken_at c e rest ≡ Some f → Halt c s rest (Broken f (length rest))
  h_stuck : {rest : List Item} → Silent c (met s (next_lexeme rest)) rest → Stops s rest → Halt c s rest (Unexpected rest)
  h_done : {raw : Statement} → Silent c (met s None) [] → finish s ≡ Accepts raw → Halt c s [] (settle raw (end_finding c raw))

pub record Alive (c : Dialect) (s : State) (ts : List Item) (v : Verdict) : Type 0 where
  pub before : List Item
  pub rest : List Item
  pub parts : before ++ rest ≡ ts
  pub after : Past c s before
  pub halt : Halt c after.state rest v

here : {c : Dialect} {s : State} {ts : List Item} {v : Verdict} → Halt c s ts v → Alive c s ts v
unfolding nowhere
here {c} {s} {ts} h = record { before = []; rest = ts; parts = refl; after = nowhere c s; halt = h }

later : {c : Dialect} {s u : State} {x : Item} {xs : List Item} {v : Verdict} → Silent c (met s (Some x.lexeme)) (x ∷ xs) → step s x ≡ Some u → Alive c u xs v → Alive c s (x ∷ xs) v
unfolding one_further
later {x} {xs} h e a = record { before = x ∷ a.before; rest = a.rest; parts = ap (λ ys. x ∷ ys) a.parts; after = one_further xs h e a.after; halt = a.halt }

pub alive : (c : Dialect) (ts : List Item) (s : State) → Alive c s ts (judge c (run s ts))
alive c [] s = subst (λ v. Alive c s [] (judge c v)) (sym (runs_end s)) (go (judged c [] (met s None) (finish s)))
  where
    fin : Silent c (met s None) [] → (finish s ≡ Stuck []) ⊎ ((raw : Statement) × (finish s ≡ Accepts raw)) → Alive c s [] (judge c (finish s))
    fin n (inl e) = subst (λ t. Alive c s [] (judge c t)) (sym e) (here (h_stuck n e))
    fin n (inr e) = subst (λ t. Alive c s [] (judge c t)) (sym e.1) (here (h_done n e.1))

    go : Judged c [] (met s None) (finish s) → Alive c s [] (judge c (note [] (met s None) (finish s)))
    go (j_broken e f m q w) = subst (Alive c s []) (sym w) (here (h_broken e m q))
    go (j_silent n w) = subst (Alive c s []) (sym w) (fin n (finish_is s))
alive c (x ∷ xs) s = subst (λ v. Alive c s (x ∷ xs) (judge c v)) (sym (runs s x xs)) (go (judged c (x ∷ xs) (met s (Some x.lexeme)) (beyond x xs (step s x))) (λ u. alive c xs u))
  where
    on : Silent c (met s (Some x.lexeme)) (x ∷ xs) → (o : Option State) → step s x ≡ o → ((u : State) → Alive c u xs (judge c (run u xs))) → Alive c s (x ∷ xs) (judge c (beyond x xs o))
    on n None e f = here (h_stuck n e)
    on n (Some u) e f = later n e (f u)

    go : Judged c (x ∷ xs) (met s (Some x.lexeme)) (beyond x xs (step s x)) → ((u : State) → Alive c u xs (judge c (run u xs))) → Alive c s (x ∷ xs) (judge c (arrive x xs (met s (Some x.lexeme)) (step s x)))
    go (j_broken e f m q w) g = subst (Alive c s (x ∷ xs)) (sym w) (here (h_broken e m q))
    go (j_silent n w) g = subst (Alive c s (x ∷ xs)) (sym w) (on n (step s x) refl g)

-- what was read goes on
module _ {c : Dialect} {w : List Item} (a : Past c initial w) where
  pub marks_are : (rest : List Item) (raw : Statement) (d : Derives (w ++ rest) raw) → marks_in d ≡ a.prefix rest ++ marks_of (run a.state rest)
  marks_are rest raw d = sym (complete (w ++ rest) raw d).1 ∙ a.marks rest

  pub accepted : (rest : List Item) (raw : Statement) → Derives (w ++ rest) raw → bottom (run a.state rest) ≡ Accepts raw
  accepted rest raw d = sym (a.goes_on rest) ∙ (complete (w ++ rest) raw d).0

  pub derived : (rest : List Item) (raw : Statement) → bottom (run a.state rest) ≡ Accepts raw → Derives (w ++ rest) raw
  derived rest raw e = sound (w ++ rest) raw (a.goes_on rest ∙ e)

  pub viable : IsViable c w
  viable =
      let t = completion a.state in
      let h = completion_ends a.state in
      let d = derived t h.raw h.ends in
      record {
        rest = t;
        raw = h.raw;
        derives = d;
        late = subst (Late c (length t)) (sym (marks_are t h.raw d)) (late_append c (length t) (a.prefix t) (marks_of (run a.state t)) (a.far t) (late_run c t a.state (length t) (le (length t))));
      }
    where
      le : (n : ℕ) → n ≤ n
      le n = omega arith

  -- what is met is a mark of each derivation
  pub mark_now : (rest : List Item) (raw : Statement) (d : Derives (w ++ rest) raw) (e : Event) → met a.state (next_lexeme rest) ≡ Some e → Has (mark (length rest) e) (marks_in d)
  mark_now rest raw d e h = subst (Has (mark (length rest) e)) (sym (marks_are rest raw d)) (has_append (mark (length rest) e) (a.prefix rest) (marks_of (run a.state rest)) (marks_now a.state rest e h))

  pub met_there : (rest : List Item) (raw : Statement) (d : Derives (w ++ rest) raw) (e : Event) → Has (mark (length rest) e) (marks_in d) → met a.state (next_lexeme rest) ≡ Some e
  met_there rest raw d e h = now_only a.state rest e (has_behind c (length rest) e (a.prefix rest) (marks_of (run a.state rest)) (a.far rest) (subst (Has (mark (length rest) e)) (marks_are rest raw d) h))

  pub viable_has : (e : Event) (x : Option Lexeme) → met a.state x ≡ Some e → Has (mark (length viable.rest) e) (marks_in viable.derives)
  unfolding viable
  viable_has e x h = mark_now viable.rest viable.raw viable.derives e (met_later a.state x e h)

  pub has_ended : (rest : List Item) (e : Event) → met a.state (next_lexeme rest) ≡ Some e → HasEnded w rest e
  has_ended [] e h = tt
  has_ended (x ∷ xs) e h = λ more raw d. mark_now (x ∷ more) raw d e h
