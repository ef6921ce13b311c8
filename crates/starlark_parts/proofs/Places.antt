-- Lines and columns, byte by byte.
use Rattle.std.proofs.Common.{◌≡◌, ◌<◌, ◌≤◌, ℕ, ◌+◌, List, [], ◌∷◌, ◌++◌, length, take, get_or, cond, not, false, refl, ap, sym, ◌∙◌, arith, nat_eq, inl, inr}
use Rattle.std.specs.Prelude.{count_by}
use Rattle.std.proofs.lemmas.Bool.{cases_Bool}
use Rattle.std.proofs.lemmas.Bool.Decides.{nat_tests}
use Rattle.std.proofs.lemmas.List.{take_more, length-take-le}
use Rattle.std.proofs.lemmas.List.Sums.{sum_by-cons, sum_by-append, count_by-le-length}
use Rattle.starlark_place.specs.Place.{is_feed, is_continuation, last_line, characters, line_at, column_at}
use Rattle.starlark_parts.specs.Cursor.{IsAt, behind}
use Rattle.starlark_parts.specs.declared.cursor.Cursor.{Cursor}
use Rattle.starlark_place.proofs.Lines.{last_line-le}

feeds-more : (xs : List ℕ) (b : ℕ) → count_by is_feed (xs ++ b ∷ []) ≡ count_by is_feed xs + cond (is_feed b) 1 0
feeds-more xs b = omega (arith, sum_by-append (λ x. cond (is_feed x) 1 0) xs (b ∷ []), sum_by-cons (λ x. cond (is_feed x) 1 0) b [])

characters-more : (xs : List ℕ) (b : ℕ) → characters (xs ++ b ∷ []) ≡ characters xs + cond (not (is_continuation b)) 1 0
characters-more xs b = omega (arith, sum_by-append (λ x. cond (not (is_continuation x)) 1 0) xs (b ∷ []), sum_by-cons (λ x. cond (not (is_continuation x)) 1 0) b [])

-- the last line, with one byte more
last_line-more : (xs : List ℕ) (b : ℕ) → last_line (xs ++ b ∷ []) ≡ cond (is_feed b) [] (last_line xs ++ b ∷ [])
last_line-more [] b = elim (cases_Bool (is_feed b)) [ inl e ↦ rw e refl | inr e ↦ rw e refl ]
last_line-more (x ∷ xs) b = elim (cases_Bool (is_feed b)) [
  | inl e ↦
      let more : count_by is_feed (xs ++ b ∷ []) ≡ count_by is_feed xs + 1 = feeds-more xs b ∙ ap (λ t. count_by is_feed xs + cond t 1 0) e in
      let some : nat_eq (count_by is_feed (xs ++ b ∷ [])) 0 ≡ false = grind (arith, nat_tests) in
      rw (some, e) (last_line-more xs b ∙ rw e refl)
  | inr e ↦
      let same : count_by is_feed (xs ++ b ∷ []) ≡ count_by is_feed xs = omega (arith, feeds-more xs b, ap {B = ℕ} (λ t. cond t 1 0) e) in
      elim (cases_Bool (nat_eq (count_by is_feed xs) 0)) [
        | inl z ↦ elim (cases_Bool (is_feed x)) [ inl f ↦ rw (same, e, z, f) refl | inr f ↦ rw (same, e, z, f) refl ]
        | inr z ↦ rw (same, e, z) (last_line-more xs b ∙ rw e refl)
      ]
]

pub line-more : (text : List ℕ) (i : ℕ) → i < length text → line_at text (i + 1) ≡ cond (is_feed (get_or text i 0)) (line_at text i + 1) (line_at text i)
line-more text i lt = ap (count_by is_feed) (take_more text i 0 lt) ∙ feeds-more (take i text) (get_or text i 0) ∙ elim (cases_Bool (is_feed (get_or text i 0))) [ inl e ↦ rw e refl | inr e ↦ rw e (omega arith) ]

pub column-more : (text : List ℕ) (i : ℕ) → i < length text
    → column_at text (i + 1) ≡ cond (is_feed (get_or text i 0)) 0 (cond (not (is_continuation (get_or text i 0))) (column_at text i + 1) (column_at text i))
column-more text i lt =
    let b : ℕ = get_or text i 0 in
    ap (λ t. characters (last_line t)) (take_more text i 0 lt) ∙ ap characters (last_line-more (take i text) b)
    ∙ elim (cases_Bool (is_feed b)) [
      | inl e ↦ rw e refl
      | inr e ↦ rw e (characters-more (last_line (take i text)) b ∙ elim (cases_Bool (not (is_continuation b))) [ inl c ↦ rw c refl | inr c ↦ rw c (omega arith) ])
    ]

pub at_behind : (text : List ℕ) (c : Cursor) → IsAt text c → c.place < length text → IsAt text (behind c (get_or text c.place 0))
at_behind text c h lt =
    let b : ℕ = get_or text c.place 0 in
    record {
      within = omega arith;
      line = ap (λ n. cond (is_feed b) (n + 1) n) h.line ∙ sym (line-more text c.place lt);
      column = ap (λ n. cond (is_feed b) 0 (cond (not (is_continuation b)) (n + 1) n)) h.column ∙ sym (column-more text c.place lt);
    }

pub column_few : (text : List ℕ) (c : Cursor) → IsAt text c → c.column ≤ c.place
column_few text c h =
    omega (arith, h.column, count_by-le-length (λ b. not (is_continuation b)) (last_line (take c.place text)), last_line-le (take c.place text), length-take-le c.place text h.within)

pub at_start : (text : List ℕ) → (let c : Cursor = record { place = 0; line = 0; column = 0 } in IsAt text c)
at_start text = record { within = omega arith; line = refl; column = refl }
