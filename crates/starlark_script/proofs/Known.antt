-- What known bytes become over several calls.
use Rattle.std.proofs.Common.{ℕ, ◌+◌, ◌-◌, length, List, [], ◌++◌, Option, None, Some, take, drop, sym, ◌∙◌, ap, append_assoc}
use Rattle.std.proofs.lemmas.List.{append-nil, take-append-drop}
use Rattle.std.specs.Io.KnownBytes.{Appends, Keeps, Consumes}
use Rattle.std.proofs.lemmas.List.{take_rest}
use Rattle.std.proofs.Math.Seq.{take-add}
use Rattle.starlark_script.specs.Device.{AppendsFront}

pub appends_more : (a b c : Option (List ℕ)) (xs ys : List ℕ) → Appends a b xs → Appends b c ys → Appends a c (xs ++ ys)
appends_more None b c xs ys h k = tt
appends_more (Some a) None c xs ys h k = absurd h
appends_more (Some a) (Some b) None xs ys h k = absurd k
appends_more (Some a) (Some b) (Some c) xs ys h k = k ∙ ap (λ z. z ++ ys) h ∙ append_assoc a xs ys

pub appends_none : (a b c : Option (List ℕ)) (xs : List ℕ) → Appends a b xs → Keeps b c → Appends a c xs
appends_none None b c xs h k = tt
appends_none (Some a) None c xs h k = absurd h
appends_none (Some a) (Some b) None xs h k = absurd k
appends_none (Some a) (Some b) (Some c) xs h k = k ∙ h

pub nothing_yet : (a : Option (List ℕ)) → Appends a a []
nothing_yet None = tt
nothing_yet (Some a) = sym (append-nil a)

pub consumes_more : (a b c : Option (List ℕ)) (xs ys : List ℕ) → Consumes a b xs → Consumes b c ys → Consumes a c (xs ++ ys)
consumes_more None b c xs ys h k = tt
consumes_more (Some a) None c xs ys h k = absurd h
consumes_more (Some a) (Some b) None xs ys h k = absurd k
consumes_more (Some a) (Some b) (Some c) xs ys h k = h ∙ ap (λ z. xs ++ z) k ∙ sym (append_assoc xs ys c)

-- a front of what was to be written
pub in_front : (a b c : Option (List ℕ)) (at : ℕ) (bytes : List ℕ) → Appends a b (take at bytes) → Keeps b c → AppendsFront a c bytes
in_front a b c at bytes h k = (take at bytes, drop at bytes, sym (take-append-drop at bytes), appends_none a b c _ h k)

-- one more write
pub told_more : (a b c : Option (List ℕ)) (at n : ℕ) (bytes : List ℕ) → Appends a b (take at bytes)
    → Appends b c (take n (take (length bytes - at) (drop at bytes))) → Appends a c (take (at + n) bytes)
told_more a b c at n bytes h k = rw (take-add at n bytes) (appends_more a b c _ _ h (rw (take_rest bytes at) at k))

pub a_front : (a c : Option (List ℕ)) (n : ℕ) (bytes : List ℕ) → Appends a c (take n bytes) → AppendsFront a c bytes
a_front a c n bytes h = (take n bytes, drop n bytes, sym (take-append-drop n bytes), h)

-- a front of the first of two, or the first and a front of the second
pub front_left : (a c : Option (List ℕ)) (xs ys : List ℕ) → AppendsFront a c xs → AppendsFront a c (xs ++ ys)
front_left a c xs ys h = (h.0, h.1 ++ ys, ap (λ z. z ++ ys) h.2 ∙ append_assoc h.0 h.1 ys, h.3)

pub front_right : (a b c : Option (List ℕ)) (xs ys : List ℕ) → Appends a b xs → AppendsFront b c ys → AppendsFront a c (xs ++ ys)
front_right a b c xs ys h k = (xs ++ k.0, k.1, ap (λ z. xs ++ z) k.2 ∙ sym (append_assoc xs k.0 k.1), appends_more a b c xs k.0 h k.3)
