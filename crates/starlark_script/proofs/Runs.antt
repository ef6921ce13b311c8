-- Whole runs.
use Rattle.std.proofs.Common.{◌≡◌, ℕ, suc, zero, ◌<◌, ◌≤◌, length, List, [], ◌∷◌, ◌++◌, refl, sym, ◌∙◌, ap, append_assoc, length-drop, arith, nat_lt, nat_eq, Option, None, Some, true, ◌⊎◌, inl, inr}
use Rattle.std.specs.Prelude.{codes}
use Rattle.std.proofs.lemmas.List.{append-nil}
use Rattle.std.proofs.lemmas.Bool.{cases_Bool}
use Rattle.std.proofs.lemmas.Bool.Decides.{nat_tests}
use Rattle.std.specs.Io.KnownBytes.{Appends}
use Rattle.starlark_script.specs.Device.{AppendsFront}
use Rattle.starlark_script.specs.Script.{Front, Command, nothing, no_command, asking, editing, outlining, front, after_line, with_text, bytes_of, first_line, behind, Does, command_of, Replies, SoFar}
use Rattle.starlark_script.specs.Script.Replies.{ends, breaks, answers}
use Rattle.starlark_script.specs.Script.SoFar.{begins, goes_on}
use Rattle.starlark_script.specs.Script.Does.{taken, refused, wanting, outlined}
use Rattle.starlark_script.specs.Reading.{IsAsked, IsRequest, StopsCut}
use Rattle.starlark_script.specs.Coming.{Held, coming}
use Rattle.starlark_script.specs.Printed.{outline_lines}
use Rattle.starlark_script.specs.Engine.{Answers, HaveOutlines, Wrote, WroteFront, WroteSoFar}
use Rattle.starlark_parts.specs.Edits.{Takes}
use Rattle.starlark_parts.specs.Edits as edits
use Rattle.starlark_parts.specs.Kept.{Edit, HasIndex, edited, inserts, replaces, removes, moves, text_of}
use Rattle.starlark_parts.specs.declared.fault.PartFault.TheVariants as faults
use Rattle.starlark_script.proofs.Outlined.{JoinedOutline, all_outlines, have_textless}
use Rattle.starlark_lexer.specs.declared.dialect.Dialect.{Dialect}
use Rattle.starlark_script.specs.declared.fault.End.{End}
use Rattle.starlark_script.specs.declared.fault.End.TheVariants as how
use Rattle.starlark_script.specs.declared.command.Head.{Head}
use Rattle.starlark_script.specs.declared.reading.Asked.{Asked}
use Rattle.starlark_script.specs.declared.reading.Asked.TheVariants as asks
use Rattle.starlark_script.specs.declared.reading.Request.TheVariants as requests

-- What is left of a script is shorter.

-- the bytes behind what stands at a front
abbrev Left : Front → ℕ → Type 0
Left nothing n = Unit {0}
Left no_command n = Unit {0}
Left (asking c rest) n = length rest < n

abbrev LineLeft : Option (List ℕ × List ℕ) → ℕ → Type 0
LineLeft None n = Unit {0}
LineLeft (Some p) n = length p.1 < n

behind_left : (b n : ℕ) (o : Option (List ℕ × List ℕ)) → LineLeft o n → LineLeft (behind b o) (suc n)
behind_left b n None h = tt
behind_left b n (Some p) h = omega (arith, h)

line_left : (xs : List ℕ) → LineLeft (first_line xs) (length xs)
line_left [] = tt
line_left (b ∷ xs) = elim (cases_Bool (nat_eq b 10)) [ inl e ↦ rw e (omega arith) | inr e ↦ rw e (behind_left b (length xs) (first_line xs) (line_left xs)) ]

text_left : (o : Option Head) (rest : List ℕ) (n : ℕ) → length rest < n → Left (with_text o rest) n
text_left None rest n h = tt
text_left (Some d) rest n h = elim (cases_Bool (nat_lt (length rest) (bytes_of d))) [ inl e ↦ rw e tt | inr e ↦ rw e (omega (arith, length-drop (bytes_of d) rest)) ]

after_left : (o : Option (List ℕ × List ℕ)) (n : ℕ) → LineLeft o n → Left (after_line o) n
after_left None n h = tt
after_left (Some p) n h = elim (cases_Bool (nat_lt 64 (length p.0))) [ inl e ↦ rw e tt | inr e ↦ rw e (text_left (command_of p.0) p.1 n h) ]

front_left : (xs : List ℕ) → Left (front xs) (length xs)
unfolding front
front_left [] = tt
front_left (b ∷ xs) = after_left (first_line (b ∷ xs)) (length (b ∷ xs)) (line_left (b ∷ xs))

-- Each script has replies, with memory wanting throughout.
abbrev Answered : ℕ → Dialect → List (List ℕ) → List ℕ → Type 0
Answered limit dialect parts script = (replies : List ℕ) × (end : End) × Replies limit dialect parts script replies end

left_below : (f : Front) (m n : ℕ) → Left f m → m ≤ n → Left f n
left_below nothing m n l h = tt
left_below no_command m n l h = tt
left_below (asking c rest) m n l h = omega (arith, l)

-- Each command has an answer, with memory wanting for each text.
abbrev AnAnswer : ℕ → Dialect → List (List ℕ) → Command → Type 0
AnAnswer limit dialect parts c = (reply : List ℕ) × (left : List (List ℕ)) × Does limit dialect parts c reply left × HaveOutlines dialect left

textless : (limit : ℕ) (dialect : Dialect) (parts : List (List ℕ)) (edit : Edit) → text_of edit ≡ None → HaveOutlines dialect parts → HasIndex parts edit ⊎ (HasIndex parts edit → ⊥) → AnAnswer limit dialect parts (editing edit)
textless limit dialect parts edit none h (inl i) =
    let t : Takes dialect limit parts edit = record { index = i; fits = λ text e. absurd (let x : None ≡ Some text = sym none ∙ e in cc); reads = λ text e. absurd (let x : None ≡ Some text = sym none ∙ e in cc) } in
    (codes "ok\n", edited parts edit, taken parts edit t, have_textless dialect limit parts edit none t h)
textless limit dialect parts edit none h (inr i) = (codes "refused index\n", parts, refused parts edit faults.Index (edits.index i), h)

has_or_not : (parts : List (List ℕ)) (k : ℕ) → (k < length parts) ⊎ (k < length parts → ⊥)
has_or_not parts k = elim (cases_Bool (nat_lt k (length parts))) [ inl e ↦ inl (grind (arith, nat_tests)) | inr e ↦ inr (λ l. let t : nat_lt k (length parts) ≡ true = grind (arith, nat_tests) in cc) ]

both_or_not : {A B : Type 0} → A ⊎ (A → ⊥) → B ⊎ (B → ⊥) → (A × B) ⊎ (A × B → ⊥)
both_or_not (inl a) (inl b) = inl (a, b)
both_or_not (inl a) (inr b) = inr (λ p. b p.1)
both_or_not (inr a) b = inr (λ p. a p.0)

some_answer : JoinedOutline → (limit : ℕ) (dialect : Dialect) (parts : List (List ℕ)) (c : Command) → HaveOutlines dialect parts → AnAnswer limit dialect parts c
some_answer law limit dialect parts (editing (inserts k text)) h = (codes "refused memory\n", parts, wanting parts (inserts k text) text refl, h)
some_answer law limit dialect parts (editing (replaces k text)) h = (codes "refused memory\n", parts, wanting parts (replaces k text) text refl, h)
some_answer law limit dialect parts (editing (removes k)) h = textless limit dialect parts (removes k) refl h (has_or_not parts k)
some_answer law limit dialect parts (editing (moves k j)) h = textless limit dialect parts (moves k j) refl h (both_or_not (has_or_not parts k) (has_or_not parts j))
some_answer law limit dialect parts outlining h = let all = all_outlines law dialect parts h in (outline_lines all.0, parts, outlined parts all.0 all.1, h)

-- What was asked is a command of the script, and its answer one of that.
does : (limit : ℕ) (dialect : Dialect) (parts left : List (List ℕ)) (xs reply : List ℕ) (new : Option (List ℕ)) (a : Asked) → IsAsked (front xs) new a → Answers limit dialect parts a reply left
    → (c : Command) × (rest : List ℕ) × (front xs ≡ asking c rest) × (new ≡ Some rest) × Does limit dialect parts c reply left
does limit dialect parts left xs reply new (asks.Insert k v) r d = (editing (inserts k v.items), r.0, r.1, r.2, d)
does limit dialect parts left xs reply new (asks.Replace k v) r d = (editing (replaces k v.items), r.0, r.1, r.2, d)
does limit dialect parts left xs reply new (asks.Remove k) r d = (editing (removes k), r.0, r.1, r.2, d)
does limit dialect parts left xs reply new (asks.Move k j) r d = (editing (moves k j), r.0, r.1, r.2, d)
does limit dialect parts left xs reply new asks.Wanting r d = (editing r.0, r.3.0, r.3.1, r.3.2, d r.0 r.1 r.2)
does limit dialect parts left xs reply new asks.Outline r d = (outlining, r.0, r.1, r.2, d)

by_front : JoinedOutline → (limit n : ℕ) (dialect : Dialect) (parts : List (List ℕ)) (script : List ℕ) (f : Front) → HaveOutlines dialect parts → front script ≡ f → Left f n
    → ((left : List (List ℕ)) (rest : List ℕ) → HaveOutlines dialect left → length rest < n → Answered limit dialect left rest) → Answered limit dialect parts script
by_front law limit n dialect parts script nothing h e l more = ([], how.Whole, ends parts script e)
by_front law limit n dialect parts script no_command h e l more = (codes "bad\n", how.Bad, breaks parts script e)
by_front law limit n dialect parts script (asking c rest) h e l more =
    let d = some_answer law limit dialect parts c h in
    let m = more d.1 rest d.3 l in
    (d.0 ++ m.0, m.1, answers parts d.1 script rest d.0 m.0 c m.1 e d.2 m.2)

answered_below : JoinedOutline → (limit n : ℕ) (dialect : Dialect) (parts : List (List ℕ)) (script : List ℕ) → HaveOutlines dialect parts → length script ≤ n → Answered limit dialect parts script
answered_below law limit zero dialect parts script h l =
    by_front law limit zero dialect parts script (front script) h refl (left_below (front script) (length script) zero (front_left script) l) (λ left rest o b. absurd (omega arith))
answered_below law limit (suc n) dialect parts script h l =
    by_front law limit (suc n) dialect parts script (front script) h refl (left_below (front script) (length script) (suc n) (front_left script) l)
    (λ left rest o b. answered_below law limit n dialect left rest o (omega arith))

pub answered : JoinedOutline → (limit : ℕ) (dialect : Dialect) (parts : List (List ℕ)) (script : List ℕ) → HaveOutlines dialect parts → Answered limit dialect parts script
answered law limit dialect parts script h = answered_below law limit (length script) dialect parts script h (omega arith)

-- Replies so far and then any replies to the rest are replies to the script.
then_replies : (limit : ℕ) (dialect : Dialect) (parts : List (List ℕ)) (script : List ℕ) (left : List (List ℕ)) (so_far rest replies : List ℕ) (end : End)
    → SoFar limit dialect parts script so_far left rest → Replies limit dialect left rest replies end → Replies limit dialect parts script (so_far ++ replies) end
then_replies limit dialect parts script left so_far rest replies end begins m = m
then_replies limit dialect parts script left so_far rest replies end (goes_on {before} {after} {rest = all} {next} {replies = first} {reply} {c} d e f) m =
    rw append_assoc (then_replies limit dialect parts script before first all (reply ++ replies) end d (answers before after all next reply replies c end e f m))

-- A run so far: what was written are whole replies to commands at the front of the script.
abbrev pub Going : ℕ → Dialect → Option (List ℕ) → Option (List ℕ) → List (List ℕ) → Option (List ℕ) → Option (List ℕ) → Type 0
Going limit dialect None before parts c t = Unit {0}
Going limit dialect (Some script) None parts c t = Unit {0}
Going limit dialect (Some script) (Some before) parts None t = ⊥
Going limit dialect (Some script) (Some before) parts (Some xs) None = ⊥
Going limit dialect (Some script) (Some before) parts (Some xs) (Some ts) =
    (so_far : List ℕ) × (ts ≡ before ++ so_far) × SoFar limit dialect [] script so_far parts xs

-- One command goes on with the run.
pub going_on : (limit : ℕ) (dialect : Dialect) (s b : Option (List ℕ)) (parts left : List (List ℕ)) (c new t u : Option (List ℕ)) (a : Asked) (reply : List ℕ)
    → Going limit dialect s b parts c t → IsRequest c new (requests.Does a) → Answers limit dialect parts a reply left → Appends t u reply → Going limit dialect s b left new u
going_on limit dialect None b parts left c new t u a reply go r d w = tt
going_on limit dialect (Some script) None parts left c new t u a reply go r d w = tt
going_on limit dialect (Some script) (Some before) parts left None new t u a reply go r d w = absurd go
going_on limit dialect (Some script) (Some before) parts left (Some xs) new None u a reply go r d w = absurd go
going_on limit dialect (Some script) (Some before) parts left (Some xs) new (Some ts) None a reply go r d w = absurd w
going_on limit dialect (Some script) (Some before) parts left (Some xs) new (Some ts) (Some us) a reply go r d w =
    let x = does limit dialect parts left xs reply new a r d in
    rw x.3 (
      go.0 ++ reply,
      w ∙ ap (λ z. z ++ reply) go.1 ∙ append_assoc before go.0 reply,
      goes_on go.2 x.2 x.4,
    )

-- The script ends.
pub going_whole : (limit : ℕ) (dialect : Dialect) (s b : Option (List ℕ)) (parts : List (List ℕ)) (c new t : Option (List ℕ))
    → Going limit dialect s b parts c t → IsRequest c new requests.Whole → Wrote limit dialect s b t how.Whole
going_whole limit dialect None b parts c new t go r = tt
going_whole limit dialect (Some script) None parts c new t go r = tt
going_whole limit dialect (Some script) (Some before) parts None new t go r = absurd go
going_whole limit dialect (Some script) (Some before) parts (Some xs) new None go r = absurd go
going_whole limit dialect (Some script) (Some before) parts (Some xs) new (Some ts) go r =
    record {
      replies = go.0 ++ [];
      given = then_replies limit dialect [] script parts go.0 xs [] how.Whole go.2 (ends parts xs r);
      written = ap Some (go.1 ∙ ap (λ z. before ++ z) (sym (append-nil go.0)));
    }

-- It breaks off.
pub going_bad : (limit : ℕ) (dialect : Dialect) (s b : Option (List ℕ)) (parts : List (List ℕ)) (c new t u : Option (List ℕ))
    → Going limit dialect s b parts c t → IsRequest c new requests.Bad → Appends t u (codes "bad\n") → Wrote limit dialect s b u how.Bad
going_bad limit dialect None b parts c new t u go r w = tt
going_bad limit dialect (Some script) None parts c new t u go r w = tt
going_bad limit dialect (Some script) (Some before) parts None new t u go r w = absurd go
going_bad limit dialect (Some script) (Some before) parts (Some xs) new None u go r w = absurd go
going_bad limit dialect (Some script) (Some before) parts (Some xs) new (Some ts) None go r w = absurd w
going_bad limit dialect (Some script) (Some before) parts (Some xs) new (Some ts) (Some us) go r w =
    record {
      replies = go.0 ++ codes "bad\n";
      given = then_replies limit dialect [] script parts go.0 xs (codes "bad\n") how.Bad go.2 (breaks parts xs r);
      written = ap Some (w ∙ ap (λ z. z ++ codes "bad\n") go.1 ∙ append_assoc before go.0 (codes "bad\n"));
    }

-- A read fails.
pub going_unread : JoinedOutline → (limit : ℕ) (dialect : Dialect) (s b : Option (List ℕ)) (parts : List (List ℕ)) (c t : Option (List ℕ)) → HaveOutlines dialect parts
    → Going limit dialect s b parts c t → WroteFront limit dialect s b t
going_unread law limit dialect None b parts c t h go = tt
going_unread law limit dialect (Some script) None parts c t h go = tt
going_unread law limit dialect (Some script) (Some before) parts None t h go = absurd go
going_unread law limit dialect (Some script) (Some before) parts (Some xs) None h go = absurd go
going_unread law limit dialect (Some script) (Some before) parts (Some xs) (Some ts) h go =
    let m = answered law limit dialect parts xs h in record { front = go.0; rest = m.0; end = m.1; given = then_replies limit dialect [] script parts go.0 xs m.0 m.1 go.2 m.2; written = ap Some go.1 }

-- What was written by then are whole replies to all that is whole.
pub going_so_far : (limit : ℕ) (dialect : Dialect) (s b : Option (List ℕ)) (parts : List (List ℕ)) (c t u : Option (List ℕ)) → Going limit dialect s b parts c t → StopsCut c u
    → WroteSoFar limit dialect s b t u
going_so_far limit dialect None b parts c t u go r = tt
going_so_far limit dialect (Some script) None parts c t u go r = tt
going_so_far limit dialect (Some script) (Some before) parts None t u go r = absurd go
going_so_far limit dialect (Some script) (Some before) parts (Some xs) None u go r = absurd go
going_so_far limit dialect (Some script) (Some before) parts (Some xs) (Some ts) None go r = absurd r
going_so_far limit dialect (Some script) (Some before) parts (Some xs) (Some ts) (Some us) go r =
    record { replies = go.0; parts = parts; rest = xs; given = go.2; written = ap Some go.1; waiting = r.0; cut = r.2; unread = us; behind = r.1; known = refl }

-- Nothing was written yet.
pub going_first : (limit : ℕ) (dialect : Dialect) (s b : Option (List ℕ)) (parts : List (List ℕ)) (held : Held) → parts ≡ [] → held.bytes ≡ [] → Going limit dialect s b parts (coming held s) b
going_first limit dialect None b parts held e f = tt
going_first limit dialect (Some script) None parts held e f = tt
going_first limit dialect (Some script) (Some before) parts held e f = rw (e, f) ([], sym (append-nil before), begins)

-- A front of some bytes was written, which go on to replies.
stopped : (limit : ℕ) (dialect : Dialect) (script before so_far ts reply more : List ℕ) (u : Option (List ℕ)) (end : End) → ts ≡ before ++ so_far
    → Replies limit dialect [] script (so_far ++ (reply ++ more)) end → AppendsFront (Some ts) u reply → WroteFront limit dialect (Some script) (Some before) u
stopped limit dialect script before so_far ts reply more None end e all w = absurd w.3
stopped limit dialect script before so_far ts reply more (Some us) end e all w =
    let f : so_far ++ (reply ++ more) ≡ (so_far ++ w.0) ++ (w.1 ++ more) =
    ap (λ z. so_far ++ (z ++ more)) w.2 ∙ ap (λ z. so_far ++ z) (append_assoc w.0 w.1 more) ∙ sym (append_assoc so_far w.0 (w.1 ++ more)) in
    record {
      front = so_far ++ w.0;
      rest = w.1 ++ more;
      end = end;
      given = rw f at all;
      written = ap Some (w.3 ∙ ap (λ z. z ++ w.0) e ∙ append_assoc before so_far w.0);
    }

-- A write fails.
pub going_unwritten : JoinedOutline → (limit : ℕ) (dialect : Dialect) (s b : Option (List ℕ)) (parts left : List (List ℕ)) (c new t u : Option (List ℕ)) (a : Asked) (reply : List ℕ)
    → HaveOutlines dialect left → Going limit dialect s b parts c t → IsRequest c new (requests.Does a) → Answers limit dialect parts a reply left → AppendsFront t u reply → WroteFront limit dialect s b u
going_unwritten law limit dialect None b parts left c new t u a reply h go r d w = tt
going_unwritten law limit dialect (Some script) None parts left c new t u a reply h go r d w = tt
going_unwritten law limit dialect (Some script) (Some before) parts left None new t u a reply h go r d w = absurd go
going_unwritten law limit dialect (Some script) (Some before) parts left (Some xs) new None u a reply h go r d w = absurd go
going_unwritten law limit dialect (Some script) (Some before) parts left (Some xs) new (Some ts) u a reply h go r d w =
    let x = does limit dialect parts left xs reply new a r d in
    let m = answered law limit dialect left x.1 h in
    stopped limit dialect script before go.0 ts reply m.0 u m.1 go.1 (then_replies limit dialect [] script parts go.0 xs (reply ++ m.0) m.1 go.2 (answers parts left xs x.1 reply m.0 x.0 m.1 x.2 x.4 m.2)) w

pub going_unbroken : (limit : ℕ) (dialect : Dialect) (s b : Option (List ℕ)) (parts : List (List ℕ)) (c new t u : Option (List ℕ))
    → Going limit dialect s b parts c t → IsRequest c new requests.Bad → AppendsFront t u (codes "bad\n") → WroteFront limit dialect s b u
going_unbroken limit dialect None b parts c new t u go r w = tt
going_unbroken limit dialect (Some script) None parts c new t u go r w = tt
going_unbroken limit dialect (Some script) (Some before) parts None new t u go r w = absurd go
going_unbroken limit dialect (Some script) (Some before) parts (Some xs) new None u go r w = absurd go
going_unbroken limit dialect (Some script) (Some before) parts (Some xs) new (Some ts) u go r w =
    stopped limit dialect script before go.0 ts (codes "bad\n") [] u how.Bad go.1 (rw (append-nil (codes "bad\n")) (then_replies limit dialect [] script parts go.0 xs (codes "bad\n") how.Bad go.2 (breaks parts xs r))) w

pub nothing_written : JoinedOutline → (limit : ℕ) (dialect : Dialect) (s b : Option (List ℕ)) → WroteFront limit dialect s b b
nothing_written law limit dialect None b = tt
nothing_written law limit dialect (Some script) None = tt
nothing_written law limit dialect (Some script) (Some before) =
    let m = answered law limit dialect [] script tt in record { front = []; rest = m.0; end = m.1; given = m.2; written = ap Some (sym (append-nil before)) }
