-- What tokens are told, a tree or a refusal, is what the machine tells.
use Rattle.std.proofs.Common.{ℕ, ◌≡◌, ◌+◌, ◌≤◌, ◌⊎◌, ◌∷◌, ◌++◌, ◌∙◌, [], suc, inl, inr, List, Option, Some, None, Bool, true, false, cond, refl, ap, sym, subst, arith, length, append-nil, length-append}
use Rattle.starlark_place.specs.Place.{Extent}
use Rattle.starlark_grammar.specs.Spans.{stretch}
use Rattle.starlark_lexer.specs.Items.{Lexeme, Item, Stop, Lexed}
use Rattle.starlark_lexer.specs.declared.dialect.Dialect.{Dialect}
use Rattle.starlark_ast.specs.Tree.{Statement}
use Rattle.starlark_rulebook.specs.Rules.{Finding, breaks}
use Rattle.starlark_grammar.specs.Events.{Event, Shape, assigned, end_finding, breaks_at_once, looped, shape_finding, shaped, typed}
use Rattle.starlark_grammar.specs.Grammar.{Derives}
use Rattle.starlark_grammar.specs.Marks.{Mark, marked, marks_in, Late, Clean}
use Rattle.starlark_grammar.specs.Frames.{State}
use Rattle.starlark_grammar.specs.Machine.{step}
use Rattle.starlark_grammar.specs.Runs.{met, Accepts, Stuck, bottom, marks_of, finish, run, initial}
use Rattle.starlark_grammar.specs.Completion.{completion}
use Rattle.starlark_grammar.specs.Verdicts.{lacks, broken_at, Verdict, Fine, Unexpected, Broken, Spoilt, settle, judge, next_lexeme}
use Rattle.starlark_grammar.specs.Language.{IsProgram, IsViable, HasEnded, Breaks, at_once, by_shape, at_end, IsStuck, IsWaiting, last_end, Fault, by_lexer, unexpected, unexpected_end, by_rule, IsRefusal, the_lexer, a_token, the_end, a_rule}
use Rattle.starlark_grammar.proofs.Steps.{runs}
use Rattle.starlark_grammar.proofs.Sound.{bottom_note}
use Rattle.starlark_grammar.proofs.Complete.{complete}
use Rattle.starlark_grammar.proofs.Alike.{Ends, bottom_end, step_ends}
use Rattle.starlark_grammar.proofs.Closing.{completion_ends}
use Rattle.starlark_grammar.proofs.Meeting.{no_some, met_end, met_stuck, met_shape, shape_unfinished, shape_goes}
use Rattle.starlark_grammar.proofs.Lacking.{lacks_grammar, lacks_token}
use Rattle.starlark_grammar.proofs.Dead.{beyond, Stops, dead}
use Rattle.starlark_grammar.proofs.Behind.{clean_append, clean_has, end_marks, token_marks, unbroken, Past, nowhere, Silent, one_further, Halt, h_broken, h_stuck, h_done, Alive, alive, marks_are, accepted, derived, viable, mark_now, met_there, viable_has, has_ended}

-- a construct, or a shape
pub construct_broken : (c : Dialect) (e : Event) (xs : List Item) (f : Finding) → breaks_at_once c e ≡ Some f → broken_at c e xs ≡ Some f
construct_broken c (shaped z p) xs f h = no_some f h
construct_broken c (typed t) xs f h = h
construct_broken c (assigned l t o) xs f h = h
construct_broken c (looped l) xs f h = h

shape_broken : (c : Dialect) (z : Shape) (p : Extent) (xs : List Item) → lacks z xs ≡ true → broken_at c (shaped z p) xs ≡ Some (shape_finding z p xs)
shape_broken c z p xs h = ap (λ b. cond b (Some (shape_finding z p xs)) None) h

data Why (c : Dialect) (e : Event) (xs : List Item) (f : Finding) : Type 0 where
  a_construct : breaks_at_once c e ≡ Some f → Why c e xs f
  a_shape : (z : Shape) (p : Extent) → e ≡ shaped z p → lacks z xs ≡ true → shape_finding z p xs ≡ f → Why c e xs f

why : (c : Dialect) (e : Event) (xs : List Item) (f : Finding) → broken_at c e xs ≡ Some f → Why c e xs f
why c (shaped z p) xs f h = go (lacks z xs) refl h
  where
    go : (b : Bool) → lacks z xs ≡ b → cond b (Some (shape_finding z p xs)) None ≡ Some f → Why c (shaped z p) xs f
    go true q h = a_shape z p refl q (cc)
    go false q h = no_some f h
why c (typed t) xs f h = a_construct h
why c (assigned l t o) xs f h = a_construct h
why c (looped l) xs f h = a_construct h

-- what the machine breaks is broken
pub breaks_of : {c : Dialect} {w : List Item} (a : Past c initial w) (rest : List Item) (stop : Option Stop) (e : Event) (f : Finding) → met a.state (next_lexeme rest) ≡ Some e → broken_at c e rest ≡ Some f → Breaks c w rest stop f
breaks_of {c} {w} a rest stop e f m q = go (why c e rest f q)
  where
    go : Why c e rest f → Breaks c w rest stop f
    go (a_construct h) = at_once e (viable a) (viable_has a e (next_lexeme rest) m) h (has_ended a rest e m)
    go (a_shape z p s l h) = subst (Breaks c w rest stop) h (by_shape z p (viable a) (viable_has a (shaped z p) (next_lexeme rest) (m ∙ ap Some s)) (lacks_grammar z rest l))

-- where the machine comes to behind what goes on
too_late : {P : Type 0} (w rest : List Item) → suc (length (w ++ rest)) ≤ length rest → P
too_late w rest h = absurd (let n : length (w ++ rest) ≡ length w + length rest = length-append w rest in omega arith)

quiet_at : (c : Dialect) (s u : State) (x : Item) (w rest : List Item) (ms : List Mark) → step s x ≡ Some u → Late c (length rest) (marked (suc (length (w ++ rest))) (met s (Some x.lexeme)) ms) → Silent c (met s (Some x.lexeme)) (x ∷ w ++ rest)
quiet_at c s u x w rest ms e l = λ d h. shape_or d h (subst (λ m. Late c (length rest) (marked (suc (length (w ++ rest))) m ms)) h l).0
  where
    shape_or : (d : Event) → met s (Some x.lexeme) ≡ Some d → (breaks_at_once c d ≡ None) ⊎ (suc (length (w ++ rest)) ≤ length rest) → broken_at c d (x ∷ w ++ rest) ≡ None
    shape_or d h (inr n) = too_late w rest n
    shape_or (shaped z p) h (inl q) = ap (λ b. cond b (Some (shape_finding z p (x ∷ w ++ rest))) None) (shape_goes s u x (w ++ rest) z p h e)
    shape_or (typed t) h (inl q) = q
    shape_or (assigned l t o) h (inl q) = q
    shape_or (looped l) h (inl q) = q

late_tail : (c : Dialect) (n k : ℕ) (m : Option Event) (ms : List Mark) → Late c n (marked k m ms) → Late c n ms
late_tail c n k None ms l = l
late_tail c n k (Some e) ms l = l.1

reach : (c : Dialect) (w : List Item) (s : State) (rest : List Item) (raw : Statement) → bottom (run s (w ++ rest)) ≡ Accepts raw → Late c (length rest) (marks_of (run s (w ++ rest))) → Past c s w
reach c [] s rest raw e l = nowhere c s
reach c (x ∷ w) s rest raw e l = go (step s x) refl (sym (ap bottom (runs s x (w ++ rest)) ∙ bottom_note (x ∷ w ++ rest) (met s (Some x.lexeme)) (beyond x (w ++ rest) (step s x))) ∙ e) (subst (Late c (length rest)) (token_marks s x (w ++ rest)) l) (λ u f g. reach c w u rest raw f g)
  where
    go : (o : Option State) → step s x ≡ o → bottom (beyond x (w ++ rest) (step s x)) ≡ Accepts raw → Late c (length rest) (marked (suc (length (w ++ rest))) (met s (Some x.lexeme)) (marks_of (beyond x (w ++ rest) (step s x)))) → ((u : State) → bottom (run u (w ++ rest)) ≡ Accepts raw → Late c (length rest) (marks_of (run u (w ++ rest))) → Past c u w) → Past c s (x ∷ w)
    go None q e l f = absurd (let n : Stuck (x ∷ w ++ rest) ≡ Accepts raw = sym (ap (λ o. bottom (beyond x (w ++ rest) o)) q) ∙ e in (cc))
    go (Some u) q e l f =
        one_further (w ++ rest) (quiet_at c s u x w rest (marks_of (beyond x (w ++ rest) (step s x))) q l) q
        (f u (sym (ap (λ o. bottom (beyond x (w ++ rest) o)) q) ∙ e) (subst (λ o. Late c (length rest) (marks_of (beyond x (w ++ rest) o))) q (late_tail c (length rest) (suc (length (w ++ rest))) (met s (Some x.lexeme)) (marks_of (beyond x (w ++ rest) (step s x))) l)))

pub come_to : {c : Dialect} {w : List Item} → IsViable c w → Past c initial w
come_to {c} {w} v =
    let p = complete (w ++ v.rest) v.raw v.derives in
    reach c w initial v.rest v.raw p.0 (subst (Late c (length v.rest)) (sym p.1) v.late)

-- a rule that is broken at a state, with these tokens behind
pub data BrokenHere (c : Dialect) (s : State) (rest : List Item) (stop : Option Stop) (f : Finding) : Type 0 where
  by_event : (e : Event) → met s (next_lexeme rest) ≡ Some e → broken_at c e rest ≡ Some f → BrokenHere c s rest stop f
  by_end : (raw : Statement) → rest ≡ [] → stop ≡ None → Silent c (met s None) [] → finish s ≡ Accepts raw → end_finding c raw ≡ Some f → BrokenHere c s rest stop f

-- what goes on with a token that can stand
pub goes_with : {c : Dialect} {w : List Item} (a : Past c initial w) (u : State) (x : Item) → step a.state x ≡ Some u → Ends a.state (x ∷ completion u)
goes_with a u x e = step_ends a.state u x (completion u) e (completion_ends u)

-- a construct that has ended is met
ended_met : {c : Dialect} {w : List Item} (a : Past c initial w) (rest : List Item) (e : Event) (y : Option Lexeme) → met a.state y ≡ Some e → HasEnded w rest e → met a.state (next_lexeme rest) ≡ Some e
ended_met a [] e y seen h = met_end a.state y e seen
ended_met {c} {w} a (x ∷ xs) e y seen h = go (step a.state x) refl
  where
    go : (o : Option State) → step a.state x ≡ o → met a.state (Some x.lexeme) ≡ Some e
    go None q = met_stuck a.state x y e q seen
    go (Some u) q =
        let n = goes_with a u x q in
        let d = derived a (x ∷ completion u) n.raw n.ends in
        met_there a (x ∷ completion u) n.raw d e (h (completion u) n.raw d)

-- nothing is broken where the tokens are a program
pub quiet_end : {c : Dialect} {w : List Item} (a : Past c initial w) (raw : Statement) (d : Derives (w ++ []) raw) → Clean c (marks_in d) → finish a.state ≡ Accepts raw → Silent c (met a.state None) []
quiet_end {c} {w} a raw d l f e h = go e h (clean_has c 0 e (marks_in d) l (mark_now a [] raw d e h))
  where
    go : (e : Event) → met a.state None ≡ Some e → breaks_at_once c e ≡ None → broken_at c e [] ≡ None
    go (shaped z p) h q = absurd (let n : Stuck [] ≡ Accepts raw = sym (shape_unfinished a.state z p h) ∙ f in (cc))
    go (typed t) h q = q
    go (assigned l t o) h q = q
    go (looped l) h q = q

pub finishes : {c : Dialect} {w : List Item} (a : Past c initial w) (raw : Statement) → Derives (w ++ []) raw → finish a.state ≡ Accepts raw
finishes a raw d = sym (bottom_end a.state) ∙ accepted a [] raw d

-- the tokens, and a derivation of them, by another name
pub record Same (c : Dialect) (w : List Item) (raw : Statement) : Type 0 where
  pub again : Derives (w ++ []) raw
  pub clean : Clean c (marks_in again)

pub same_tokens : {c : Dialect} {w : List Item} {raw : Statement} (d : Derives w raw) → Clean c (marks_in d) → Same c w raw
same_tokens {c} {w} {raw} d l = let p : (z : Derives (w ++ []) raw) × Clean c (marks_in z) = subst (λ v. (z : Derives v raw) × Clean c (marks_in z)) (sym (append-nil w)) (d, l) in record { again = p.0; clean = p.1 }

pub broken_here : {c : Dialect} {w : List Item} (a : Past c initial w) (rest : List Item) (stop : Option Stop) (f : Finding) → Breaks c w rest stop f → BrokenHere c a.state rest stop f
broken_here {c} a rest stop f (at_once e v h q n) =
    by_event e (ended_met a rest e (next_lexeme v.rest) (met_there a v.rest v.raw v.derives e h) n) (construct_broken c e rest f q)
broken_here {c} a rest stop f (by_shape z p v h n) =
    by_event (shaped z p) (met_shape a.state (next_lexeme v.rest) (next_lexeme rest) z p (met_there a v.rest v.raw v.derives (shaped z p) h)) (shape_broken c z p rest (lacks_token z rest n))
broken_here {c} a rest stop f (at_end raw d r s l q) =
    let z = same_tokens {c = c} d l in
    let fin = finishes a raw z.again in
    by_end raw r s (quiet_end a raw z.again z.clean fin) fin q

-- no rule goes before what stops the machine
no_rule : {c : Dialect} {w : List Item} (a : Past c initial w) (rest : List Item) (stop : Option Stop) → Silent c (met a.state (next_lexeme rest)) rest → ((raw : Statement) → rest ≡ [] → stop ≡ None → finish a.state ≡ Accepts raw → ⊥) → (f : Finding) → Breaks c w rest stop f → ⊥
no_rule {c} a rest stop n fin f b = go (broken_here a rest stop f b)
  where
    go : BrokenHere c a.state rest stop f → ⊥
    go (by_event e m q) = let z : None ≡ Some f = sym (n e m) ∙ q in (cc)
    go (by_end raw r s l g q) = fin raw r s g

stops_fin : {c : Dialect} {w : List Item} (a : Past c initial w) (rest : List Item) (stop : Option Stop) → Stops a.state rest → (raw : Statement) → rest ≡ [] → stop ≡ None → finish a.state ≡ Accepts raw → ⊥
stops_fin a [] stop s raw r q f = let n : Stuck [] ≡ Accepts raw = sym s ∙ f in (cc)
stops_fin a (x ∷ xs) stop s raw r q f = let n : ◌≡◌ {A = List Item} (x ∷ xs) [] = r in (cc)

is_stuck : {c : Dialect} {w : List Item} (a : Past c initial w) (rest : List Item) (stop : Option Stop) → Silent c (met a.state (next_lexeme rest)) rest → Stops a.state rest → IsStuck c w rest stop
is_stuck {w} a rest stop n s = record { viable = viable a; dead = dead w a.state a.goes_on rest s; no_rule = no_rule a rest stop n (stops_fin a rest stop s) }

is_waiting : {c : Dialect} {w : List Item} (a : Past c initial w) (s : Stop) → Silent c (met a.state None) [] → IsWaiting c w (Some s)
is_waiting a s n = record { viable = viable a; no_rule = no_rule a [] (Some s) n (λ raw r q f. let z : Some s ≡ None = q in (cc)) }

-- what tokens are told that end at n and have that fault behind them
abbrev pub told : Verdict → Option Stop → ℕ → Option Fault
told (Broken (breaks r p) m) s n = Some (by_rule r p)
told (Unexpected (x ∷ xs)) s n = Some (unexpected (stretch x.begin x.end))
told (Unexpected []) (Some s) n = Some (by_lexer s.error (stretch s.begin s.end))
told (Unexpected []) None n = Some (unexpected_end n)
told (Fine raw) (Some s) n = Some (by_lexer s.error (stretch s.begin s.end))
told (Fine raw) None n = None
told (Spoilt raw f) (Some s) n = Some (by_lexer s.error (stretch s.begin s.end))
told (Spoilt raw (breaks r p)) None n = Some (by_rule r p)

abbrev pub told_of : Dialect → Lexed → Option Fault
told_of c l = told (judge c (run initial l.items)) l.fault (last_end 0 l.items)

-- a tree, or a refusal
pub data Answered (c : Dialect) (l : Lexed) : Option Fault → Type 0 where
  a_program : (raw : Statement) → l.fault ≡ None → IsProgram c l.items raw → Answered c l None
  a_refusal : {f : Fault} → IsRefusal c l f → Answered c l (Some f)

pub answered : (c : Dialect) (l : Lexed) → Answered c l (told_of c l)
answered c l = go (judge c (run initial l.items)) (alive c l.items initial)
  where
    waiting : {w : List Item} (a : Past c initial w) (s : Stop) → w ++ [] ≡ l.items → l.fault ≡ Some s → Silent c (met a.state None) [] → Answered c l (Some (by_lexer s.error (stretch s.begin s.end)))
    waiting {w} a s p q n = a_refusal (the_lexer q (subst (IsWaiting c l.items) (sym q) (subst (λ u. IsWaiting c u (Some s)) (sym (append-nil w) ∙ p) (is_waiting a s n))))

    stuck : {w : List Item} (a : Past c initial w) (rest : List Item) → w ++ rest ≡ l.items → Silent c (met a.state (next_lexeme rest)) rest → Stops a.state rest → (s : Option Stop) → l.fault ≡ s → Answered c l (told (Unexpected rest) s (last_end 0 l.items))
    stuck {w} a (x ∷ xs) p n k s q = a_refusal (a_token p (is_stuck a (x ∷ xs) l.fault n k))
    stuck {w} a [] p n k (Some s) q = waiting a s p q n
    stuck {w} a [] p n k None q = a_refusal (the_end q (subst (λ u. IsStuck c u [] None) (sym (append-nil w) ∙ p) (is_stuck a [] None n k)))

    clean_here : {w : List Item} (a : Past c initial w) (raw : Statement) (d : Derives (w ++ []) raw) → Silent c (met a.state None) [] → Clean c (marks_in d)
    clean_here {w} a raw d n = subst (Clean c) (sym (marks_are a [] raw d)) (clean_append c 0 (a.prefix []) (marks_of (run a.state [])) (a.far []) (subst (Clean c) (sym (end_marks a.state)) (fin (met a.state None) n)))
      where
        fin : (m : Option Event) → Silent c m [] → Clean c (marked 0 m [])
        fin None n = tt
        fin (Some e) n = (unbroken c e [] (n e refl), tt)

    done : {w : List Item} (a : Past c initial w) (raw : Statement) → w ++ [] ≡ l.items → Silent c (met a.state None) [] → finish a.state ≡ Accepts raw → (o : Option Finding) → end_finding c raw ≡ o → (s : Option Stop) → l.fault ≡ s → Answered c l (told (settle raw o) s (last_end 0 l.items))
    done {w} a raw p n f None q (Some s) r = waiting a s p r n
    done {w} a raw p n f (Some z) q (Some s) r = waiting a s p r n
    done {w} a raw p n f None q None r =
        let d = derived a [] raw (bottom_end a.state ∙ f) in
        a_program raw r (subst (λ u. IsProgram c u raw) p (record { derives = d; clean = clean_here a raw d n; sound = q }))
    done {w} a raw p n f (Some (breaks y x)) q None r =
        let d = derived a [] raw (bottom_end a.state ∙ f) in
        a_refusal (a_rule {w = w ++ []} {rest = []} (append-nil (w ++ []) ∙ p) (at_end raw d refl r (clean_here a raw d n) q))

    by_halt : {w : List Item} (a : Past c initial w) (rest : List Item) (v : Verdict) → w ++ rest ≡ l.items → Halt c a.state rest v → Answered c l (told v l.fault (last_end 0 l.items))
    by_halt a rest v p (h_broken {f = breaks r o} e m q) = a_refusal (a_rule p (breaks_of a rest l.fault e (breaks r o) m q))
    by_halt a rest v p (h_stuck n k) = stuck a rest p n k l.fault refl
    by_halt a rest v p (h_done {raw} n f) = done a raw p n f (end_finding c raw) refl l.fault refl

    go : (v : Verdict) → Alive c initial l.items v → Answered c l (told v l.fault (last_end 0 l.items))
    go v a = by_halt a.after a.rest v a.parts a.halt
