-- A refusal, and a tree, are what tokens are told: so there is one at most.
use Rattle.std.proofs.Common.{ℕ, ◌≡◌, ◌⊎◌, ◌∷◌, ◌++◌, ◌∙◌, [], suc, inl, inr, List, Option, Some, None, refl, ap, sym, subst, length, append-nil}
use Rattle.starlark_place.specs.Place.{Extent}
use Rattle.starlark_grammar.specs.Spans.{stretch}
use Rattle.starlark_lexer.specs.Items.{Item, Stop, Lexed}
use Rattle.starlark_lexer.specs.declared.dialect.Dialect.{Dialect}
use Rattle.starlark_ast.specs.Tree.{Statement}
use Rattle.starlark_rulebook.specs.Rules.{Finding, Rule, breaks}
use Rattle.starlark_grammar.specs.Events.{Event, end_finding}
use Rattle.starlark_grammar.specs.Marks.{Mark, mark, marks_in, Late, Clean}
use Rattle.starlark_grammar.specs.Frames.{State}
use Rattle.starlark_grammar.specs.Machine.{step}
use Rattle.starlark_grammar.specs.Runs.{met, Accepts, Stuck, note, finish, run, initial}
use Rattle.starlark_grammar.specs.Completion.{completion}
use Rattle.starlark_grammar.specs.Verdicts.{broken_at, Verdict, Fine, Unexpected, Broken, settle, answer, judge, next_lexeme}
use Rattle.starlark_grammar.specs.Language.{IsProgram, IsViable, bare, IsDead, Breaks, at_once, by_shape, at_end, IsStuck, IsWaiting, last_end, Fault, by_lexer, by_rule, IsRefusal, the_lexer, a_token, the_end, a_rule, Decision, is_program, is_refused}
use Rattle.starlark_grammar.proofs.Steps.{arrive, runs, runs_end}
use Rattle.starlark_grammar.proofs.Alike.{bottom_end}
use Rattle.starlark_grammar.proofs.Dead.{finish_is, beyond, bare_append}
use Rattle.starlark_grammar.proofs.Behind.{Past, Silent, silent_judge, derived}
use Rattle.starlark_grammar.proofs.Refusals.{breaks_of, come_to, BrokenHere, by_event, by_end, goes_with, quiet_end, finishes, same_tokens, broken_here, told, told_of, Answered, a_program, a_refusal, answered}

-- what breaks a rule at a state the machine breaks
event_judge : (c : Dialect) (s : State) (rest : List Item) (e : Event) (f : Finding) → met s (next_lexeme rest) ≡ Some e → broken_at c e rest ≡ Some f → judge c (run s rest) ≡ Broken f (length rest)
event_judge c s [] e f m q = ap (judge c) (runs_end s) ∙ ap (λ o. judge c (note [] o (finish s))) m ∙ ap (λ o. answer o 0 (judge c (finish s))) q
event_judge c s (x ∷ xs) e f m q = ap (judge c) (runs s x xs) ∙ ap (λ o. judge c (arrive x xs o (step s x))) m ∙ ap (λ o. answer o (suc (length xs)) (judge c (beyond x xs (step s x)))) q

end_judge : (c : Dialect) (s : State) → Silent c (met s None) [] → judge c (run s []) ≡ judge c (finish s)
end_judge c s n = ap (judge c) (runs_end s) ∙ silent_judge c [] (met s None) (finish s) n

token_judge : (c : Dialect) (s : State) (x : Item) (xs : List Item) → Silent c (met s (Some x.lexeme)) (x ∷ xs) → step s x ≡ None → judge c (run s (x ∷ xs)) ≡ Unexpected (x ∷ xs)
token_judge c s x xs n e = ap (judge c) (runs s x xs) ∙ silent_judge c (x ∷ xs) (met s (Some x.lexeme)) (beyond x xs (step s x)) n ∙ ap (λ o. judge c (beyond x xs o)) e

-- where no rule is broken nothing is met that breaks one
silent : {c : Dialect} {w : List Item} (a : Past c initial w) (rest : List Item) (stop : Option Stop) → ((f : Finding) → Breaks c w rest stop f → ⊥) → Silent c (met a.state (next_lexeme rest)) rest
silent {c} a rest stop n e m = go (broken_at c e rest) refl
  where
    go : (o : Option Finding) → broken_at c e rest ≡ o → broken_at c e rest ≡ None
    go None q = q
    go (Some f) q = absurd (n f (breaks_of a rest stop e f m q))

-- at the end
pub data IsOpen (c : Dialect) : Verdict → Type 0 where
  o_stuck : IsOpen c (Unexpected [])
  o_done : (raw : Statement) → IsOpen c (settle raw (end_finding c raw))

open_end : {c : Dialect} {w : List Item} (a : Past c initial w) → Silent c (met a.state None) [] → IsOpen c (judge c (run a.state []))
open_end {c} a n = subst (IsOpen c) (sym (end_judge c a.state n)) (go (finish_is a.state))
  where
    go : (finish a.state ≡ Stuck []) ⊎ ((raw : Statement) × (finish a.state ≡ Accepts raw)) → IsOpen c (judge c (finish a.state))
    go (inl e) = subst (λ t. IsOpen c (judge c t)) (sym e) o_stuck
    go (inr e) = subst (λ t. IsOpen c (judge c t)) (sym e.1) (o_done e.0)

open_told : (c : Dialect) (v : Verdict) (s : Stop) (n : ℕ) → IsOpen c v → told v (Some s) n ≡ Some (by_lexer s.error (stretch s.begin s.end))
open_told c v s n o_stuck = refl
open_told c v s n (o_done raw) = go (end_finding c raw)
  where
    go : (o : Option Finding) → told (settle raw o) (Some s) n ≡ Some (by_lexer s.error (stretch s.begin s.end))
    go None = refl
    go (Some f) = refl

-- what is stuck
stuck_judge : {c : Dialect} {w : List Item} (a : Past c initial w) (rest : List Item) → IsDead w rest → Silent c (met a.state (next_lexeme rest)) rest → judge c (run a.state rest) ≡ Unexpected rest
stuck_judge {c} {w} a [] d n = end_judge c a.state n ∙ go (finish_is a.state)
  where
    go : (finish a.state ≡ Stuck []) ⊎ ((raw : Statement) × (finish a.state ≡ Accepts raw)) → judge c (finish a.state) ≡ Unexpected []
    go (inl e) = ap (judge c) e
    go (inr e) = absurd (d (w ++ []) e.0 (ap bare (append-nil w)) (derived a [] e.0 (bottom_end a.state ∙ e.1)))
stuck_judge {c} {w} a (x ∷ xs) d n = go (step a.state x) refl
  where
    go : (o : Option State) → step a.state x ≡ o → judge c (run a.state (x ∷ xs)) ≡ Unexpected (x ∷ xs)
    go None e = token_judge c a.state x xs n e
    go (Some u) e =
        let h = goes_with a u x e in
        absurd (d (w ++ x ∷ completion u) (bare (completion u)) h.raw (bare_append w (x ∷ completion u)) (derived a (x ∷ completion u) h.raw h.ends))

pub stuck_is : {c : Dialect} {w rest : List Item} {stop : Option Stop} → IsStuck c w rest stop → judge c (run initial (w ++ rest)) ≡ Unexpected rest
stuck_is {c} {w} {rest} {stop} k = let a = come_to k.viable in a.told rest ∙ stuck_judge a rest k.dead (silent a rest stop k.no_rule)

pub waiting_is : {c : Dialect} {w : List Item} {stop : Option Stop} → IsWaiting c w stop → IsOpen c (judge c (run initial w))
waiting_is {c} {w} {stop} k =
    let a = come_to k.viable in
    subst (IsOpen c) (sym (ap (λ u. judge c (run initial u)) (sym (append-nil w)) ∙ a.told [])) (open_end a (silent a [] stop k.no_rule))

-- what breaks a rule goes on
clean_late : (c : Dialect) (n : ℕ) (ms : List Mark) → Clean c ms → Late c n ms
clean_late c n [] l = tt
clean_late c n (mark m e ∷ ms) l = (inl l.0, clean_late c n ms l.1)

pub breaks_viable : {c : Dialect} {w rest : List Item} {stop : Option Stop} {f : Finding} → Breaks c w rest stop f → IsViable c w
breaks_viable (at_once e v h q n) = v
breaks_viable (by_shape z p v h n) = v
breaks_viable {c} (at_end raw d r s l q) = let z = same_tokens {c = c} d l in record { rest = []; raw = raw; derives = z.again; late = clean_late c 0 (marks_in z.again) z.clean }

broken_told : {c : Dialect} {w rest : List Item} {stop : Option Stop} {r : Rule} {p : Extent} (n : ℕ) → Breaks c w rest stop (breaks r p) → told (judge c (run initial (w ++ rest))) stop n ≡ Some (by_rule r p)
broken_told {c} {w} {rest} {stop} {r} {p} n b = let a = come_to (breaks_viable b) in ap (λ v. told v stop n) (a.told rest) ∙ go a (broken_here a rest stop (breaks r p) b)
  where
    ends_told : (a : Past c initial w) (us : List Item) (s : Option Stop) (raw : Statement) → us ≡ [] → s ≡ None → Silent c (met a.state None) [] → finish a.state ≡ Accepts raw → end_finding c raw ≡ Some (breaks r p) → told (judge c (run a.state us)) s n ≡ Some (by_rule r p)
    ends_told a us s raw e q l f h =
        ap (λ zs. told (judge c (run a.state zs)) s n) e ∙ ap (λ o. told (judge c (run a.state [])) o n) q ∙ ap (λ v. told v None n) (end_judge c a.state l ∙ ap (judge c) f ∙ ap (settle raw) h)

    go : (a : Past c initial w) → BrokenHere c a.state rest stop (breaks r p) → told (judge c (run a.state rest)) stop n ≡ Some (by_rule r p)
    go a (by_event e m q) = ap (λ v. told v stop n) (event_judge c a.state rest e (breaks r p) m q)
    go a (by_end raw e q l f h) = ends_told a rest stop raw e q l f h

-- a refusal is what is told
pub refusal_told : (c : Dialect) (l : Lexed) (f : Fault) → IsRefusal c l f → told_of c l ≡ Some f
refusal_told c l f (the_lexer {s} q k) = ap (λ o. told (judge c (run initial l.items)) o (last_end 0 l.items)) q ∙ open_told c _ s (last_end 0 l.items) (waiting_is k)
refusal_told c l f (a_token {w} {more} {x} p k) = ap (λ v. told v l.fault (last_end 0 l.items)) (ap (λ u. judge c (run initial u)) (sym p) ∙ stuck_is k)
refusal_told c l f (the_end q k) = ap (λ o. told (judge c (run initial l.items)) o (last_end 0 l.items)) q ∙ ap (λ v. told v None (last_end 0 l.items)) (ap (λ u. judge c (run initial u)) (sym (append-nil l.items)) ∙ stuck_is k)
refusal_told c l f (a_rule {w} {rest} p b) = ap (λ u. told (judge c (run initial u)) l.fault (last_end 0 l.items)) (sym p) ∙ broken_told (last_end 0 l.items) b

-- and so is a tree
pub program_judge : {c : Dialect} {u : List Item} {raw : Statement} → IsProgram c u raw → judge c (run initial u) ≡ Fine raw
program_judge {c} {u} {raw} g =
    let z = same_tokens {c = c} g.derives g.clean in
    let v : IsViable c u = record { rest = []; raw = raw; derives = z.again; late = clean_late c 0 (marks_in z.again) z.clean } in
    let a = come_to v in
    let f = finishes a raw z.again in
    ap (λ w. judge c (run initial w)) (sym (append-nil u)) ∙ a.told [] ∙ end_judge c a.state (quiet_end a raw z.again z.clean f) ∙ ap (judge c) f ∙ ap (settle raw) g.sound

pub one_tree : (c : Dialect) (u : List Item) (a b : Statement) → IsProgram c u a → IsProgram c u b → a ≡ b
one_tree c u a b p q = let n : Fine a ≡ Fine b = sym (program_judge p) ∙ program_judge q in (cc)

pub one_refusal : (c : Dialect) (l : Lexed) (f g : Fault) → IsRefusal c l f → IsRefusal c l g → f ≡ g
one_refusal c l f g x y = let n : Some f ≡ Some g = sym (refusal_told c l f x) ∙ refusal_told c l g y in (cc)

pub not_both : (c : Dialect) (l : Lexed) (raw : Statement) (f : Fault) → l.fault ≡ None → IsProgram c l.items raw → IsRefusal c l f → ⊥
not_both c l raw f q p x =
    let none : told_of c l ≡ None = ap (λ v. told v l.fault (last_end 0 l.items)) (program_judge p) ∙ ap (λ o. told (Fine raw) o (last_end 0 l.items)) q in
    let n : None ≡ Some f = sym none ∙ refusal_told c l f x in
    (cc)

-- one of the two
pub decided : (c : Dialect) (l : Lexed) → Decision c l
decided c l = go (told_of c l) (answered c l)
  where
    go : (o : Option Fault) → Answered c l o → Decision c l
    go None (a_program raw q p) = is_program raw q p
    go (Some f) (a_refusal r) = is_refused f r
