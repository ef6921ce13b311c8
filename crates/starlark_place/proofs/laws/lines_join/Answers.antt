use Rattle.std.proofs.Common.{◌≡◌, ℕ, ◌+◌, ◌-◌, List, ◌++◌, map, length, take, refl, ap, sym, ◌∙◌, arith, zero, suc, ◌<◌, append_assoc, add-one}
use Rattle.std.specs.List.{concat, range_with_len}
use Rattle.std.proofs.Math.Seq.{take-add}
use Rattle.std.proofs.lemmas.List.{take_all, append-nil}
use Rattle.starlark_place.specs.Place.{line_begin, line_text, line_feeds}
use Rattle.starlark_place.proofs.Lines.{line_begin-more, line_begin-past}
use Rattle.starlark_place.proofs.laws.lines_join.Goals as goal

one_line : (text : List ℕ) (n : ℕ) → take (line_begin n text) text ++ line_text text n ≡ take (line_begin (n + 1) text) text
one_line text n =
    let more = line_begin-more text n in
    let one : line_begin (n + 1) text ≡ line_begin (suc n) text = rw add-one refl in
    sym (take-add (line_begin n text) (line_begin (n + 1) text - line_begin n text) text) ∙ ap (λ m. take m text) (omega arith)

-- the lines from the n-th on, k of them, go on where the lines before end
joined_from : (text : List ℕ) (n k : ℕ) → take (line_begin n text) text ++ concat (map (line_text text) (range_with_len n k)) ≡ take (line_begin (n + k) text) text
joined_from text n zero = append-nil (take (line_begin n text) text) ∙ ap (λ m. take (line_begin m text) text) (omega arith)
joined_from text n (suc k) =
    sym (append_assoc (take (line_begin n text) text) (line_text text n) (concat (map (line_text text) (range_with_len (n + 1) k))))
    ∙ (ap (λ xs. xs ++ concat (map (line_text text) (range_with_len (n + 1) k))) (one_line text n)
    ∙ (joined_from text (n + 1) k ∙ ap (λ m. take (line_begin m text) text) (omega arith)))

whole : (text : List ℕ) (n : ℕ) → line_feeds text < n → take (line_begin n text) text ≡ text
whole text n h = ap (λ m. take m text) (line_begin-past text n h) ∙ take_all (length text) text (omega arith)

pub returns : goal.returns
returns c text = joined_from text 0 (line_feeds text + 1) ∙ whole text (0 + (line_feeds text + 1)) (omega arith)
