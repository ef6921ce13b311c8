-- What a whole text is told.
use Rattle.std.proofs.Common.{◌≡◌, ◌≢◌, ◌≤◌, ℕ, ◌-◌, ◌++◌, drop, length, arith, true, false, List, [], ◌∷◌, Option, Some, None, Result, Ok, Err, IfOk, refl, ap, sym, subst, ◌∙◌}
use Rattle.std.proofs.lemmas.List.{length-append}
use Rattle.starlark_place.specs.Place.{Extent}
use Rattle.starlark_place.specs.declared.pos.Spanned.{Spanned}
use Rattle.starlark_lexer.specs.Items.{Item, Stop, Lexed}
use Rattle.starlark_lexer.specs.Lex.{Lex, start}
use Rattle.starlark_lexer.specs.declared.dialect.Dialect.{Dialect}
use Rattle.starlark_ast.specs.Tree.{Statement, Sequence, no_statements}
use Rattle.starlark_rulebook.specs.declared.rule.Rule.{Rule as CodeRule}
use Rattle.starlark_rulebook.specs.Rules.{Rule, Finding, breaks}
use Rattle.starlark_rulebook.specs.View.{finding_of, rule_view}
use Rattle.starlark_grammar.specs.Events.{end_finding}
use Rattle.starlark_grammar.specs.Nodes.{block_of}
use Rattle.starlark_grammar.specs.Frames.{at_line, outer}
use Rattle.starlark_grammar.specs.Runs.{initial, run}
use Rattle.starlark_grammar.specs.Verdicts.{Fine, Unexpected, Broken, Spoilt, settle, judge}
use Rattle.starlark_grammar.specs.Language.{Fault, IsProgram, IsRefusal, IsRefused, Language, by_rule, last_end, uncommented}
use Rattle.starlark_read.specs.Asides.{Aside}
use Rattle.starlark_read.specs.Reads.{Left, left_of, Answers, Breaks, Goes, SameEnd, Sticks}
use Rattle.starlark_read.specs.declared.refused.Refused.{Refused}
use Rattle.starlark_read.specs.Refused.{fault_ahead, fault_at, fault_of}
use Rattle.starlark_read.specs.Stops.{answer_to, end_ahead, last_of, left_over, reached, reached_by}
use Rattle.starlark_grammar.proofs.Steps.{runs_end}
use Rattle.starlark_grammar.proofs.Refusals.{told, told_of, Answered, a_program, a_refusal, answered}
use Rattle.starlark_grammar.proofs.Decided.{program_judge}

-- what is told as a reason is one
pub refusal_is : (d : Dialect) (l : Lexed) (f : Fault) → told_of d l ≡ Some f → IsRefusal d l f
refusal_is d l f h = go (told_of d l) h (answered d l)
  where
    go : (o : Option Fault) → o ≡ Some f → Answered d l o → IsRefusal d l f
    go None h a = absurd (let n : None ≡ Some f = h in (cc))
    go (Some g) h (a_refusal r) = let w : g ≡ f = cc in subst (IsRefusal d l) w r

-- and a tree that is told is the program's
pub program_is : (d : Dialect) (l : Lexed) (raw : Statement) → judge d (run initial l.items) ≡ Fine raw → l.fault ≡ None → IsProgram d l.items raw
program_is d l raw h n = go (told_of d l) (ap (λ v. told v l.fault (last_end 0 l.items)) h ∙ ap (λ s. told (Fine raw) s (last_end 0 l.items)) n) (answered d l)
  where
    go : (o : Option Fault) → o ≡ None → Answered d l o → IsProgram d l.items raw
    go None q (a_program s m p) = let w : Fine s ≡ Fine raw = sym (program_judge p) ∙ h in let z : s ≡ raw = cc in subst (IsProgram d l.items) z p
    go (Some f) q a = absurd (let z : Some f ≡ None = q in (cc))

-- stuck there
stuck_at : (xs : List Item) (s : Option Stop) (e : ℕ) → told (Unexpected xs) s (last_end e xs) ≡ Some (fault_at xs s e)
stuck_at (x ∷ xs) s e = refl
stuck_at [] (Some s) e = refl
stuck_at [] None e = refl

pub stuck_is : {d : Dialect} {l : Lexed} {os : List Item} {a : Aside} (us : Left) → Sticks d initial (left_of 0 l os a) us → IsRefusal d l (fault_ahead us)
stuck_is {d} {l} us p = refusal_is d l (fault_ahead us) (ap (λ v. told v l.fault (last_end 0 l.items)) p.same ∙ ap (λ s. told (Unexpected us.items) s (last_end 0 l.items)) (sym p.behind.fault) ∙ ap (told (Unexpected us.items) us.fault) (sym p.behind.last) ∙ stuck_at us.items us.fault us.last)

-- a rule is broken
broken_is : {d : Dialect} {l : Lexed} {os : List Item} {a : Aside} {us : Left} {n : ℕ} (r : Rule) (s : Extent) → Answers d initial (left_of 0 l os a) (Broken (breaks r s) n) us → IsRefusal d l (by_rule r s)
broken_is {d} {l} r s p = refusal_is d l _ (ap (λ v. told v l.fault (last_end 0 l.items)) p.same)

-- all tokens were read
pub record Read (d : Dialect) (l : Lexed) (us : Left) (raw : Statement) : Type 0 where
  pub same : judge d (run initial l.items) ≡ settle raw (end_finding d raw)
  pub fault : us.fault ≡ l.fault
  pub items : us.items ≡ []

pub all_read : {d : Dialect} {l : Lexed} {os : List Item} {a : Aside} (us : Left) (ss : Sequence) → Goes d initial (left_of 0 l os a) (at_line (outer ss) us.last) us → us.items ≡ [] → Read d l us (block_of ss us.last)
all_read {d} us ss g e = record {
  same = g.same ∙ ap (λ xs. judge d (run (at_line (outer ss) us.last) xs)) e ∙ ap (judge d) (runs_end (at_line (outer ss) us.last));
  fault = g.behind.fault;
  items = e;
}

pub read_as : {d : Dialect} {l : Lexed} {us : Left} {raw : Statement} (s : Statement) → Read d l us raw → s ≡ raw → Read d l us s
read_as {d} {l} {us} s r w = subst (Read d l us) (sym w) r

-- the lexer's fault behind them
fault_told : (raw : Statement) (o : Option Finding) (s : Option Stop) (e n : ℕ) → s ≢ None → told (settle raw o) s n ≡ Some (fault_at [] s e)
fault_told raw o None e n h = absurd (h refl)
fault_told raw None (Some s) e n h = refl
fault_told raw (Some f) (Some s) e n h = refl

pub fault_is : {d : Dialect} {l : Lexed} {us : Left} {raw : Statement} → Read d l us raw → us.fault ≢ None → IsRefusal d l (fault_ahead us)
fault_is {d} {l} {us} {raw} r h = refusal_is d l (fault_ahead us) (ap (λ v. told v l.fault (last_end 0 l.items)) r.same ∙ ap (λ s. told (settle raw (end_finding d raw)) s (last_end 0 l.items)) (sym r.fault) ∙ fault_told raw (end_finding d raw) us.fault us.last (last_end 0 l.items) h ∙ ap (λ xs. Some (fault_at xs us.fault us.last)) (sym r.items))

-- a rule that counts at the end
pub spoilt_is : {d : Dialect} {l : Lexed} {us : Left} {raw : Statement} (f : Spanned CodeRule) → Read d l us raw → us.fault ≡ None → end_finding d raw ≡ Some (finding_of f) → IsRefusal d l (by_rule (rule_view f.node) f.span)
spoilt_is {d} {l} {us} {raw} f r n h = refusal_is d l _ (ap (λ v. told v l.fault (last_end 0 l.items)) (r.same ∙ ap (settle raw) h) ∙ ap (λ s. told (Spoilt raw (finding_of f)) s (last_end 0 l.items)) (sym r.fault ∙ n))

-- no rule
pub fine_is : {d : Dialect} {l : Lexed} {us : Left} {raw : Statement} → Read d l us raw → us.fault ≡ None → end_finding d raw ≡ None → (l.fault ≡ None) × IsProgram d l.items raw
fine_is {d} {l} {us} {raw} r n h = let q = sym r.fault ∙ n in (q, program_is d l raw (r.same ∙ ap (settle raw) h) q)

-- the same by the code's names
pub stuck_from : {d : Dialect} {l : Lexed} {os : List Item} {a : Aside} {ts : Left} (us : Left) → ts ≡ left_of 0 l os a → Sticks d (at_line (outer no_statements) ts.last) ts us → IsRefusal d l (fault_ahead us)
stuck_from {d} us w p = stuck_is us (subst (λ z. Sticks d (at_line (outer no_statements) z.last) z us) w p)

pub read_from : {d : Dialect} {l : Lexed} {os : List Item} {a : Aside} {ts : Left} (us : Left) (ss : Sequence) → ts ≡ left_of 0 l os a → Goes d (at_line (outer no_statements) ts.last) ts (at_line (outer ss) us.last) us → us.items ≡ [] → Read d l us (block_of ss us.last)
read_from {d} us ss w g e = all_read us ss (subst (λ z. Goes d (at_line (outer no_statements) z.last) z (at_line (outer ss) us.last) us) w g) e

-- how much is left to be read where reading stops
settled_left : (raw : Statement) (o : Option Finding) → left_over (settle raw o) ≡ 0
settled_left raw None = refl
settled_left raw (Some f) = refl

settled_end : (xs : List Item) (raw : Statement) (o : Option Finding) → reached_by xs (settle raw o) ≡ last_end 0 xs
settled_end xs raw None = refl
settled_end xs raw (Some f) = refl

pub left_stuck : {d : Dialect} {l : Lexed} {os : List Item} {a : Aside} {ts us : Left} → ts ≡ left_of 0 l os a → Sticks d (at_line (outer no_statements) ts.last) ts us → length us.items ≡ left_over (answer_to d l.items)
left_stuck {d} {us = us} w p = sym (ap left_over (subst (λ z. Sticks d (at_line (outer no_statements) z.last) z us) w p).same)

pub left_broken : {d : Dialect} {l : Lexed} {os : List Item} {a : Aside} {ts us : Left} (f : Finding) → ts ≡ left_of 0 l os a → Answers d (at_line (outer no_statements) ts.last) ts (Broken f (length us.items)) us → length us.items ≡ left_over (answer_to d l.items)
left_broken {d} {us = us} f w p = sym (ap left_over (subst (λ z. Answers d (at_line (outer no_statements) z.last) z (Broken f (length us.items)) us) w p).same)

pub left_read : {d : Dialect} {l : Lexed} {us : Left} {raw : Statement} → Read d l us raw → length us.items ≡ left_over (answer_to d l.items)
left_read {d} {raw = raw} r = ap length r.items ∙ sym (ap left_over r.same ∙ settled_left raw (end_finding d raw))

-- how far the text was read there
ends_there : (xs : List Item) (m e : ℕ) → last_end m xs ≡ e → end_ahead e xs ≡ end_ahead m xs
ends_there [] m e h = sym h
ends_there (x ∷ xs) m e h = refl

at_most : {m n : ℕ} → m ≡ n → m ≤ n
at_most {m} {n} h = omega (arith, h)

-- the tokens that are left, by their number
dropped : (xs us : List Item) → drop (length xs) (xs ++ us) ≡ us
dropped [] us = refl
dropped (x ∷ xs) us = dropped xs us

passed_over : (xs us : List Item) → length (xs ++ us) - length us ≡ length xs
passed_over xs us = let p = length-append xs us in omega (arith, p)

last_left : (xs us : List Item) → last_of (length us) (xs ++ us) ≡ us
last_left xs us = ap (λ n. drop n (xs ++ us)) (passed_over xs us) ∙ dropped xs us

pub reached_stuck : {d : Dialect} {l : Lexed} {os : List Item} {a : Aside} {ts us : Left} → ts ≡ left_of 0 l os a → Sticks d (at_line (outer no_statements) ts.last) ts us → reached d l.items ≤ end_ahead us.last us.items
reached_stuck {d} {l} {us = us} w p =
    let q = subst (λ z. Sticks d (at_line (outer no_statements) z.last) z us) w p in
    at_most (ap (reached_by l.items) q.same ∙ ends_there us.items us.last (last_end 0 l.items) q.behind.last)

pub reached_broken : {d : Dialect} {l : Lexed} {os : List Item} {a : Aside} {ts us : Left} (f : Finding) → ts ≡ left_of 0 l os a → Answers d (at_line (outer no_statements) ts.last) ts (Broken f (length us.items)) us → reached d l.items ≤ end_ahead us.last us.items
reached_broken {d} {l} {us = us} f w p =
    let q = subst (λ z. Answers d (at_line (outer no_statements) z.last) z (Broken f (length us.items)) us) w p in
    let left = ap (last_of (length us.items)) q.behind.items ∙ last_left q.behind.passed us.items in
    at_most (ap (reached_by l.items) q.same ∙ ap (end_ahead (last_end 0 l.items)) left ∙ ends_there us.items us.last (last_end 0 l.items) q.behind.last)

pub reached_read : {d : Dialect} {l : Lexed} {os : List Item} {a : Aside} {ts us : Left} {raw : Statement} → ts ≡ left_of 0 l os a → SameEnd ts us → Read d l us raw → reached d l.items ≤ end_ahead us.last us.items
reached_read {d} {l} {us = us} {raw} w e r =
    let q = (subst (λ z. SameEnd z us) w e).last in
    at_most (ap (reached_by l.items) r.same ∙ settled_end l.items raw (end_finding d raw) ∙ sym (ap (λ xs. last_end us.last xs) (sym r.items) ∙ q) ∙ ap (λ xs. end_ahead us.last xs) (sym r.items))

-- the reason that was given
pub given : {A : Type 0} {d : Dialect} {l : Lexed} {r : Refused} {g : Fault} → fault_of r ≡ Some g → IsRefusal d l g → (e : Refused) (f : Fault) → ◌≡◌ {A = Result A Refused} (Err r) (Err e) → fault_of e ≡ Some f → IsRefusal d l f
given {A} {d} {l} {r} {g} q p e f h w = let z : r ≡ e = same_error h in let v : g ≡ f = (let n : Some g ≡ Some f = sym q ∙ ap fault_of z ∙ w in (cc)) in subst (IsRefusal d l) v p
  where
    same_error : ◌≡◌ {A = Result A Refused} (Err r) (Err e) → r ≡ e
    same_error h = cc

-- the rule that the tokens keep
pub broken_from : {A : Type 0} {d : Dialect} {l : Lexed} {os : List Item} {a : Aside} {ts us : Left} {r : Refused} → ts ≡ left_of 0 l os a → Breaks d (at_line (outer no_statements) ts.last) ts us → ((y : Rule) (s : Extent) → us.broken ≡ Some (breaks y s) → fault_of r ≡ Some (by_rule y s)) → (e : Refused) (f : Fault) → ◌≡◌ {A = Result A Refused} (Err r) (Err e) → fault_of e ≡ Some f → IsRefusal d l f
broken_from {A} {d} {l} {ts = ts} {us = us} {r = r} w p says = go p.finding p.kept p.answers
  where
    go : (g : Finding) → us.broken ≡ Some g → Answers d (at_line (outer no_statements) ts.last) ts (Broken g (length us.items)) us → (e : Refused) (f : Fault) → ◌≡◌ {A = Result A Refused} (Err r) (Err e) → fault_of e ≡ Some f → IsRefusal d l f
    go (breaks y s) k q = given (says y s k) (broken_is y s (subst (λ z. Answers d (at_line (outer no_statements) z.last) z (Broken (breaks y s) (length us.items)) us) w q))

-- of a text
pub refused_text : {d : Dialect} {text : List ℕ} {l : Lexed} {f : Fault} → Lex start text l → IsRefusal d (uncommented l) f → IsRefused d text f
refused_text {l = l} h p = record { lexed = l; lexes = h; refusal = p }

pub whole_text : {d : Dialect} {text : List ℕ} {l : Lexed} {raw : Statement} → Lex start text l → (l.fault ≡ None) × IsProgram d (uncommented l).items raw → Language d text raw
whole_text {l = l} h p = record { lexed = l; lexes = h; no_fault = p.0; program = p.1 }

pub whole_texts : {A : Type 0} (d : Dialect) {text : List ℕ} {l : Lexed} (r : Result A Refused) (says : A → Statement) → Lex start text l → IfOk r (λ x. (l.fault ≡ None) × IsProgram d (uncommented l).items (says x)) → IfOk r (λ x. Language d text (says x))
whole_texts d (Ok x) says h p = whole_text h p
whole_texts d (Err e) says h p = tt

-- the tokens of all that a lexer has left
pub opened : {t : Left} {l m n : Lexed} {os us : List Item} {a b : Aside} → t ≡ left_of 0 l os a → m ≡ l → n ≡ m → os ≡ us → a ≡ b → t ≡ left_of 0 n us b
opened {t} {l} {m} {n} {os} {us} {a} {b} w p q o r = w ∙ ap (λ z. left_of 0 z os a) (sym (q ∙ p)) ∙ ap (λ z. left_of 0 n z a) o ∙ ap (λ z. left_of 0 n us z) r
