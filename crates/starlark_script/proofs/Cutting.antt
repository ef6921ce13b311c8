-- Bytes are cut, or what stands at their front is whole.
use Rattle.std.proofs.Common.{◌≡◌, ℕ, ◌<◌, ◌≤◌, length, true, false, Option, None, Some, List, [], ◌∷◌, ◌++◌, ◌⊎◌, take, drop, refl, sym, ◌∙◌, ap, append_assoc, length-append, arith, nat_eq, nat_lt, inl, inr}
use Rattle.std.proofs.lemmas.Bool.{cases_Bool}
use Rattle.std.proofs.lemmas.Bool.Decides.{nat_tests}
use Rattle.std.proofs.lemmas.List.{append-nil, take-append-le, drop-append-le}
use Rattle.starlark_script.specs.Script.{Command, IsCut, IsWhole, front, with_text, command_of, first_line, behind, no_command, asking, bytes_of, command_with}
use Rattle.starlark_script.specs.Script.IsCut.{in_line, in_text}
use Rattle.starlark_script.specs.declared.command.Head.{Head}
use Rattle.starlark_script.proofs.Lines.{No, line_found}
use Rattle.starlark_script.proofs.Taking.{line_before, later_line, too_long, front_is, fewer}

behind_none : (b : ℕ) (o : Option (List ℕ × List ℕ)) → behind b o ≡ None → o ≡ None
behind_none b None h = refl
behind_none b (Some p) h = absurd (cc)

-- without a line there is no line feed
no_feed : (xs : List ℕ) → first_line xs ≡ None → No 10 xs
no_feed [] h = tt
no_feed (b ∷ xs) h = elim (cases_Bool (nat_eq b 10)) [
  | inl e ↦ (let first : Option (List ℕ × List ℕ) = Some ([], xs) in let f : first ≡ None = rw e at h in absurd (cc))
  | inr e ↦ (
      let other : (b ≡ 10 → ⊥) = λ is. let t : nat_eq b 10 ≡ true = grind (arith, nat_tests) in cc in
      (other, no_feed xs (behind_none b (first_line xs) (rw e at h)))
      )
]

-- a first line stays what comes behind
line_more : (xs w rest more : List ℕ) → first_line xs ≡ Some (w, rest) → first_line (xs ++ more) ≡ Some (w, rest ++ more)
line_more xs w rest more h =
    let b = line_before xs w rest h in
    ap (λ z. first_line (z ++ more)) b.0 ∙ ap first_line (append_assoc w (10 ∷ rest) more) ∙ line_found w (rest ++ more) b.1

some_bytes : (xs w rest more : List ℕ) → first_line xs ≡ Some (w, rest) → 0 < length (xs ++ more)
some_bytes [] w rest more h = absurd (cc)
some_bytes (x ∷ xs) w rest more h = omega arith

front_more : (xs w rest more : List ℕ) → first_line xs ≡ Some (w, rest) → nat_lt 64 (length w) ≡ false → front (xs ++ more) ≡ with_text (command_of w) (rest ++ more)
front_more xs w rest more h l = rw (front_is (xs ++ more) (some_bytes xs w rest more h), line_more xs w rest more h, l) refl

-- by the command that a line says
by_head : (xs w rest : List ℕ) (o : Option Head) → first_line xs ≡ Some (w, rest) → nat_lt 64 (length w) ≡ false → command_of w ≡ o → IsCut xs ⊎ IsWhole xs
by_head xs w rest None h l c = inr (inl (λ more. rw (front_more xs w rest more h l, c) refl))
by_head xs w rest (Some d) h l c = elim (cases_Bool (nat_lt (length rest) (bytes_of d))) [
  | inl e ↦ inl (in_text xs w rest d h (grind (arith, nat_tests)) c (grind (arith, nat_tests)))
  | inr e ↦ (
      let n : ℕ = bytes_of d in
      let enough : n ≤ length rest = grind (arith, nat_tests) in
      inr (inr (
        command_with d (take n rest),
        drop n rest,
        λ more.
            let still : nat_lt (length (rest ++ more)) n ≡ false = rw (length-append rest more) (grind (arith, nat_tests)) in
            rw (front_more xs w rest more h l, c, still, take-append-le n rest more enough, drop-append-le n rest more enough) refl,
      ))
      )
]

by_line : (xs : List ℕ) (o : Option (List ℕ × List ℕ)) → first_line xs ≡ o → IsCut xs ⊎ IsWhole xs
by_line xs None h = elim (cases_Bool (nat_lt 64 (length xs))) [
  | inl e ↦ (
      let long : 64 < length xs = grind (arith, nat_tests) in
      inr (inl (λ more.
      let some : 0 < length (xs ++ more) = rw (length-append xs more) (omega arith) in
      rw (front_is (xs ++ more) some, later_line xs more (no_feed xs h)) (too_long xs (first_line more) long)))
      )
  | inr e ↦ inl (in_line xs h (grind (arith, nat_tests)))
]
by_line xs (Some p) h = elim (cases_Bool (nat_lt 64 (length p.0))) [
  | inl e ↦ inr (inl (λ more. rw (front_is (xs ++ more) (some_bytes xs p.0 p.1 more h), line_more xs p.0 p.1 more h, e) refl))
  | inr e ↦ by_head xs p.0 p.1 (command_of p.0) h e refl
]

pub cut_or_whole : (xs : List ℕ) → IsCut xs ⊎ IsWhole xs
cut_or_whole xs = by_line xs (first_line xs) refl

front_first : (xs w rest : List ℕ) → first_line xs ≡ Some (w, rest) → nat_lt 64 (length w) ≡ false → front xs ≡ with_text (command_of w) rest
front_first xs w rest h l = rw (front_is xs (rw append-nil at (some_bytes xs w rest [] h)), h, l) refl

none_asks : (xs rest : List ℕ) (c : Command) → first_line xs ≡ None → front xs ≡ asking c rest → ⊥
unfolding front
none_asks [] rest c h e = cc
none_asks (x ∷ xs) rest c h e = let d : no_command ≡ asking c rest = rw h at e in cc

-- Where bytes are cut no command is whole.
pub cut_asks_nothing : (xs rest : List ℕ) (c : Command) → IsCut xs → front xs ≡ asking c rest → ⊥
cut_asks_nothing xs rest c (in_line bs h l) e = none_asks bs rest c h e
cut_asks_nothing xs rest c (in_text bs line more d h l o s) e =
    let f : front bs ≡ no_command = rw (front_first bs line more h (grind (arith, nat_tests)), o, fewer (length more) (bytes_of d) s) refl in
    let d : no_command ≡ asking c rest = sym f ∙ e in cc
