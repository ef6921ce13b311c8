-- What is taken off the bytes to come.
use Rattle.std.proofs.Common.{◌≡◌, ℕ, ◌+◌, ◌-◌, ◌<◌, ◌≤◌, length, true, false, Option, None, Some, List, [], ◌∷◌, ◌++◌, take, drop, refl, sym, ◌∙◌, ap, append_assoc, length-append, arith, nat_eq, nat_lt}
use Rattle.std.specs.Io.KnownBytes.{Consumes, IsAtEnd}
use Rattle.std.proofs.lemmas.List.{append-nil}
use Rattle.std.proofs.Math.Seq.{take-append_seam, drop-append_seam}
use Rattle.std.proofs.lemmas.Bool.Decides.{nat_tests}
use Rattle.std.proofs.lemmas.Bool.{cases_Bool}
use Rattle.std.proofs.Common.{inl, inr}
use Rattle.starlark_parts.specs.Kept.{inserts, replaces}
use Rattle.starlark_script.specs.Script.{front, first_line, after_line, behind, bytes_of, command_of, command_with, with_text, nothing, no_command, asking}
use Rattle.starlark_script.specs.Script.IsCut.{in_line, in_text}
use Rattle.starlark_script.specs.Reading.{IsLine, IsRequest, Meets, StopsInLine, IsTaken, StopsBefore, IsSkipped, StopsCut, asked_of}
use Rattle.starlark_script.specs.declared.command.Head.{Head}
use Rattle.starlark_script.specs.declared.command.Head.TheVariants as heads
use Rattle.starlark_script.specs.declared.reading.Line.TheVariants as lines
use Rattle.starlark_script.specs.declared.reading.Taken.{Taken}
use Rattle.starlark_script.specs.declared.reading.Taken.TheVariants as texts
use Rattle.starlark_script.proofs.Lines.{No, no_more, line_found, line_none, other}

-- the first line behind bytes without a line feed
abbrev pub onto : List ℕ → Option (List ℕ × List ℕ) → Option (List ℕ × List ℕ)
onto w None = None
onto w (Some p) = Some (w ++ p.0, p.1)

behind_onto : (b : ℕ) (w : List ℕ) (o : Option (List ℕ × List ℕ)) → behind b (onto w o) ≡ onto (b ∷ w) o
behind_onto b w None = refl
behind_onto b w (Some p) = refl

onto_none : (o : Option (List ℕ × List ℕ)) → o ≡ onto [] o
onto_none None = refl
onto_none (Some p) = refl

pub longer : (n : ℕ) → 64 < n → nat_lt 64 n ≡ true
longer n h = grind (arith, nat_tests)

pub short : (n : ℕ) → n ≤ 64 → nat_lt 64 n ≡ false
short n h = grind (arith, nat_tests)

pub later_line : (w rest : List ℕ) → No 10 w → first_line (w ++ rest) ≡ onto w (first_line rest)
later_line [] rest h = onto_none (first_line rest)
later_line (b ∷ w) rest h = rw (other b 10 h.0) (ap (behind b) (later_line w rest h.1) ∙ behind_onto b w (first_line rest))

pub too_long : (w : List ℕ) (o : Option (List ℕ × List ℕ)) → 64 < length w → after_line (onto w o) ≡ no_command
too_long w None l = refl
too_long w (Some p) l = rw (longer (length (w ++ p.0)) (omega (arith, length-append w p.0))) refl

pub front_is : (xs : List ℕ) → 0 < length xs → front xs ≡ after_line (first_line xs)
unfolding front
front_is [] l = absurd (omega arith)
front_is (x ∷ xs) l = refl

front_nil : front [] ≡ nothing
unfolding front
front_nil = refl

pub line_end : (old mid new : Option (List ℕ)) (buf : List ℕ) → Consumes old mid [] → Consumes mid new [] × IsAtEnd new → IsLine old new buf lines.End
line_end None mid new buf h k = tt
line_end (Some xs) None new buf h k = absurd h
line_end (Some xs) (Some ms) None buf h k = absurd k.0
line_end (Some xs) (Some ms) (Some ns) buf h k = rw (h, k.0, k.1) front_nil

pub line_cut : (old mid new : Option (List ℕ)) (w buf : List ℕ) → 0 < length w → No 10 w → Consumes old mid w → Consumes mid new [] × IsAtEnd new → IsLine old new buf lines.Bad
line_cut None mid new w buf l p h k = tt
line_cut (Some xs) None new w buf l p h k = absurd h
line_cut (Some xs) (Some ms) None w buf l p h k = absurd k.0
line_cut (Some xs) (Some ms) (Some ns) w buf l p h k =
    let e : xs ≡ w = h ∙ ap (λ z. w ++ z) (k.0 ∙ k.1) ∙ append-nil w in
    rw (e, front_is w l, line_none w p) refl

pub line_of : (old mid new : Option (List ℕ)) (n b : ℕ) (buf : List ℕ) → length (take n buf) ≤ 64 → b ≡ 10 → No 10 (take n buf) → Consumes old mid (take n buf) → Consumes mid new (b ∷ [])
    → IsLine old new buf (lines.Of n)
line_of None mid new n b buf l q p h k = tt
line_of (Some xs) None new n b buf l q p h k = absurd h
line_of (Some xs) (Some ms) None n b buf l q p h k = absurd k
line_of (Some xs) (Some ms) (Some ns) n b buf l q p h k =
    let w : List ℕ = take n buf in
    let e : xs ≡ w ++ 10 ∷ ns = h ∙ ap (λ z. w ++ z) (k ∙ ap (λ z. z ∷ ns) q) in
    let some : 0 < length (w ++ 10 ∷ ns) = rw (length-append w (10 ∷ ns)) (omega arith) in
    (ns, rw (e, front_is (w ++ 10 ∷ ns) some, line_found w ns p, short (length w) l) refl, refl, rw e (line_found w ns p))

pub line_long : (old mid new : Option (List ℕ)) (w buf : List ℕ) (b : ℕ) → 64 ≤ length w → No 10 w → (b ≡ 10 → ⊥) → Consumes old mid w → Consumes mid new (b ∷ []) → IsLine old new buf lines.Bad
line_long None mid new w buf b l p q h k = tt
line_long (Some xs) None new w buf b l p q h k = absurd h
line_long (Some xs) (Some ms) None w buf b l p q h k = absurd k
line_long (Some xs) (Some ms) (Some ns) w buf b l p q h k =
    let v : List ℕ = w ++ b ∷ [] in
    let e : xs ≡ v ++ ns = h ∙ ap (λ z. w ++ z) k ∙ sym (append_assoc w (b ∷ []) ns) in
    let long : 64 < length v = rw (length-append w (b ∷ [])) (omega arith) in
    let some : 0 < length (v ++ ns) = rw (length-append v ns) (omega arith) in
    rw (e, front_is (v ++ ns) some, later_line v ns (no_more 10 w b p q)) (too_long v (first_line ns) long)

-- some bytes, one that finds no memory, and so many behind it
pub wanting : (old mid last new : Option (List ℕ)) (bs : List ℕ) (b i n : ℕ) → length bs ≡ i → i < n → Consumes old mid bs → Consumes mid last (b ∷ []) → IsSkipped last new (n - i - 1) true → IsTaken old new n texts.Wanting
wanting None mid last new bs b i n l m h k s = tt
wanting (Some xs) None last new bs b i n l m h k s = absurd h
wanting (Some xs) (Some ms) None new bs b i n l m h k s = absurd k
wanting (Some xs) (Some ms) (Some ls) new bs b i n l m h k s =
    (bs ++ b ∷ s.0, s.1, h ∙ ap (λ z. bs ++ z) (k ∙ ap (λ z. b ∷ z) s.2) ∙ sym (append_assoc bs (b ∷ s.0) s.1), rw (length-append bs (b ∷ s.0)) (omega (arith, s.3)), s.4)

-- The reader fails within a line, within a text, or behind some of it.
pub stops_in_line : (old mid left : Option (List ℕ)) (w : List ℕ) → No 10 w → length w ≤ 64 → Consumes old mid w → Consumes mid left [] → StopsInLine old left
stops_in_line None mid left w p l h k = tt
stops_in_line (Some xs) None left w p l h k = absurd h
stops_in_line (Some xs) (Some ms) None w p l h k = absurd k
stops_in_line (Some xs) (Some ms) (Some ys) w p l h k = (w, h ∙ ap (λ z. w ++ z) k, line_none w p, l)

pub stops_later : (old mid last left : Option (List ℕ)) (bs : List ℕ) (b i n : ℕ) → length bs ≡ i → i < n → Consumes old mid bs → Consumes mid last (b ∷ []) → StopsBefore (n - i - 1) last left → StopsBefore n old left
stops_later None mid last left bs b i n l m h k s = tt
stops_later (Some xs) None last left bs b i n l m h k s = absurd h
stops_later (Some xs) (Some ms) None left bs b i n l m h k s = absurd k
stops_later (Some xs) (Some ms) (Some ls) None bs b i n l m h k s = absurd s
stops_later (Some xs) (Some ms) (Some ls) (Some ys) bs b i n l m h k s =
    (bs ++ b ∷ s.0, h ∙ ap (λ z. bs ++ z) (k ∙ ap (λ z. b ∷ z) s.1) ∙ sym (append_assoc bs (b ∷ s.0) ys), rw (length-append bs (b ∷ s.0)) (omega (arith, s.2)))

-- What stands behind a first line.
abbrev line_or : Option (List ℕ × List ℕ) → List ℕ × List ℕ
line_or None = ([], [])
line_or (Some p) = p

line_behind : (b : ℕ) (xs : List ℕ) (o : Option (List ℕ × List ℕ)) (w rest : List ℕ) → (b ≡ 10 → ⊥)
    → ((v more : List ℕ) → o ≡ Some (v, more) → (xs ≡ v ++ 10 ∷ more) × No 10 v) → behind b o ≡ Some (w, rest) → (b ∷ xs ≡ w ++ 10 ∷ rest) × No 10 w
line_behind b xs None w rest n more h = absurd (cc)
line_behind b xs (Some p) w rest n more h =
    let first : b ∷ p.0 ≡ w = ap (λ o. (line_or o).0) h in
    let after : p.1 ≡ rest = ap (λ o. (line_or o).1) h in
    let m = more p.0 p.1 refl in
    rw (← first, ← after) (ap (λ z. b ∷ z) m.0, (n, m.1))

pub line_before : (xs w rest : List ℕ) → first_line xs ≡ Some (w, rest) → (xs ≡ w ++ 10 ∷ rest) × No 10 w
line_before [] w rest h = absurd (cc)
line_before (b ∷ xs) w rest h = elim (cases_Bool (nat_eq b 10)) [
  | inl e ↦ (
      let is : b ≡ 10 = grind (arith, nat_tests) in
      let f : Some ([], xs) ≡ Some (w, rest) = rw e at h in
      let first : [] ≡ w = ap (λ o. (line_or o).0) f in
      let after : xs ≡ rest = ap (λ o. (line_or o).1) f in
      rw (← first, ← after, is) (refl, tt)
      )
  | inr e ↦ (
      let other : (b ≡ 10 → ⊥) = λ is. let t : nat_eq b 10 ≡ true = grind (arith, nat_tests) in cc in
      line_behind b xs (first_line xs) w rest other (λ v more f. line_before xs v more f) (rw e at h)
      )
]

-- No request is whole then.
pub cut_in_line : (old left : Option (List ℕ)) → StopsInLine old left → StopsCut old left
cut_in_line None left h = tt
cut_in_line (Some xs) None h = absurd h
cut_in_line (Some xs) (Some ys) h = (h.0, h.1, in_line h.0 h.2 h.3)

abbrev bytes_or : Option (List ℕ) → List ℕ
bytes_or None = []
bytes_or (Some xs) = xs

pub cut_in_text : (old mid left : Option (List ℕ)) (n : ℕ) (h : Head) (buf : List ℕ) → length (take n buf) ≤ 64 → command_of (take n buf) ≡ Some h → IsLine old mid buf (lines.Of n) → StopsBefore (bytes_of h) mid left → StopsCut old left
cut_in_text None mid left n h buf l c i s = tt
cut_in_text (Some xs) None left n h buf l c i s = absurd (let e = i.2 in cc)
cut_in_text (Some xs) (Some ms) None n h buf l c i s = absurd s
cut_in_text (Some xs) (Some ms) (Some ys) n h buf l c i s =
    let w : List ℕ = take n buf in
    let b = line_before xs w i.0 i.3 in
    let rest : i.0 ≡ s.0 ++ ys = ap (λ o. bytes_or o) (sym i.2) ∙ s.1 in
    (w ++ 10 ∷ s.0, b.0 ∙ ap (λ z. w ++ 10 ∷ z) rest ∙ sym (append_assoc w (10 ∷ s.0) ys), in_text (w ++ 10 ∷ s.0) w s.0 h (line_found w s.0 b.1) l c s.2)

-- ---- requests

enough : (m n : ℕ) → n ≤ m → nat_lt m n ≡ false
enough m n h = grind (arith, nat_tests)

pub fewer : (m n : ℕ) → m < n → nat_lt m n ≡ true
fewer m n h = grind (arith, nat_tests)

whole : (xs : List ℕ) (new : Option (List ℕ)) (h : Head) (bs : List ℕ) → ((rest : List ℕ) × (xs ≡ bs ++ rest) × (length bs ≡ bytes_of h) × (new ≡ Some rest))
    → (rest : List ℕ) × (with_text (Some h) xs ≡ asking (command_with h bs) rest) × (new ≡ Some rest)
whole xs new h bs k =
    let rest : List ℕ = k.0 in
    let n : ℕ = bytes_of h in
    let long : nat_lt (length (bs ++ rest)) n ≡ false = enough (length (bs ++ rest)) n (omega (arith, length-append bs rest, k.2)) in
    let first : take n (bs ++ rest) ≡ bs = rw (← k.2) (take-append_seam bs rest) in
    let behind : drop n (bs ++ rest) ≡ rest = rw (← k.2) (drop-append_seam bs rest) in
    (rest, rw (k.1, long, first, behind) refl, k.3)

-- what was taken behind a line is what stands there
meets : (xs : List ℕ) (new : Option (List ℕ)) (h : Head) (t : Taken) → IsTaken (Some xs) new (bytes_of h) t → Meets (with_text (Some h) xs) new (asked_of h t)
meets xs new h texts.Short k = rw (fewer (length xs) (bytes_of h) k) refl
meets xs new (heads.Insert k n) (texts.Text v) i = whole xs new (heads.Insert k n) v.items i
meets xs new (heads.Replace k n) (texts.Text v) i = whole xs new (heads.Replace k n) v.items i
meets xs new (heads.Remove k) (texts.Text v) i = whole xs new (heads.Remove k) v.items i
meets xs new (heads.Move k j) (texts.Text v) i = whole xs new (heads.Move k j) v.items i
meets xs new heads.Outline (texts.Text v) i = whole xs new heads.Outline v.items i
meets xs new (heads.Insert k n) texts.Wanting i = (inserts k i.0, i.0, refl, whole xs new (heads.Insert k n) i.0 (i.1, i.2, i.3, i.4))
meets xs new (heads.Replace k n) texts.Wanting i = (replaces k i.0, i.0, refl, whole xs new (heads.Replace k n) i.0 (i.1, i.2, i.3, i.4))
meets xs new (heads.Remove k) texts.Wanting i = whole xs new (heads.Remove k) i.0 (i.1, i.2, i.3, i.4)
meets xs new (heads.Move k j) texts.Wanting i = whole xs new (heads.Move k j) i.0 (i.1, i.2, i.3, i.4)
meets xs new heads.Outline texts.Wanting i = whole xs new heads.Outline i.0 (i.1, i.2, i.3, i.4)

-- the request of a line with the bytes behind it
pub requested : (old mid new : Option (List ℕ)) (n : ℕ) (h : Head) (t : Taken) (buf : List ℕ) → command_of (take n buf) ≡ Some h → IsLine old mid buf (lines.Of n) → IsTaken mid new (bytes_of h) t → IsRequest old new (asked_of h t)
requested None mid new n h t buf c l k = tt
requested (Some xs) None new n h t buf c l k = absurd (let e = l.2 in cc)
requested (Some xs) (Some ms) new n h t buf c l k =
    let same : l.0 ≡ ms = ap (λ o. bytes_or o) (sym l.2) in
    rw (l.1, c, same) (meets ms new h t k)
