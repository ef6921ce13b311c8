-- Steps one behind the other; a text that is cut step by step up to one of its lexemes.
use Rattle.std.proofs.Common.{◌≡◌, ◌≤◌, ℕ, ◌+◌, Bool, true, cond, List, ◌++◌, length, ap, sym, ◌∙◌, arith, append_assoc}
use Rattle.std.specs.Prelude.{count_by}
use Rattle.std.proofs.lemmas.List.Sums.{sum_by-append}
use Rattle.starlark_lexer.specs.Items.{Item, Lexed, with_items, opening_item, closing_item}
use Rattle.starlark_lexer.specs.Lex.{Past, Step, on}
use Rattle.starlark_cutting.specs.Cutting.{indent_item}
use Rattle.starlark_lexer.specs.Joining.{outside, open_behind, dedent_item}
use Rattle.starlark_lexer.proofs.Joined.{outside_append, open_append}
use Rattle.starlark_cutting.proofs.KeptTracks.{Tracks}
use Rattle.starlark_cutting.proofs.KeptFinal.{one_inner}

-- ---- steps one behind the other

pub joint_items : (xs ys : List Item) (m : Lexed) → with_items xs (with_items ys m) ≡ with_items (xs ++ ys) m
joint_items xs ys m = λ i. record { items = sym (append_assoc xs ys m.items) i; fault = m.fault }

pub outside_counted : (f : Item → Bool) (d e : ℕ) (xs ys : List Item) → open_behind d xs ≡ e → count_by f (outside d (xs ++ ys)) ≡ count_by f (outside d xs) + count_by f (outside e ys)
outside_counted f d e xs ys h = ap (count_by f) (outside_append d xs ys ∙ ap (λ k. outside d xs ++ outside k ys) h) ∙ sum_by-append (λ y. cond (f y) 1 0) (outside d xs) (outside e ys)

pub both_tracks : (p : Past) (xs : List Item) (q : Past) (ys : List Item) (r : Past) → Tracks p xs q → Tracks q ys r → Tracks p (xs ++ ys) r
both_tracks p xs q ys r a b =
    let d = length p.outer in
    let e = length q.outer in
    record {
      opened = omega (arith, a.opened, b.opened, outside_counted opening_item d e xs ys a.strings);
      closed = omega (arith, a.closed, b.closed, outside_counted closing_item d e xs ys a.strings);
      strings = open_append d xs ys ∙ ap (λ k. open_behind k ys) a.strings ∙ b.strings;
      nest = b.nest;
      fresh = b.fresh;
      widths = λ ws s.
          let s1 = a.widths ws s in
          let s2 = b.widths s1.still s1.stack in
          record {
            still = s2.still;
            stack = s2.stack;
            count = omega (arith, s1.count, s2.count, sum_by-append (λ y. cond (indent_item y) 1 0) xs ys, sum_by-append (λ y. cond (dedent_item y) 1 0) xs ys);
          };
    }

-- ---- a text up to a lexeme

-- A text is cut step by step: at some steps, and then at one that gives one lexeme, behind which no f-string is open.
pub data Upto : Past → List ℕ → List Item → ℕ → Type 0 where
  here : (p : Past) (rest : List ℕ) (xs : List Item) (q : Past) (more : List ℕ) → Step p rest (on xs q more) → one_inner xs ≡ true → Upto p rest xs q.place
  there : (p : Past) (rest : List ℕ) (xs : List Item) (q : Past) (more : List ℕ) (ys : List Item) (i : ℕ) → Step p rest (on xs q more) → q.place ≤ i → Upto q more ys i → Upto p rest (xs ++ ys) i
