-- A list of names, piece by piece.
use Rattle.std.proofs.Common.{◌≡◌, ◌<◌, ℕ, zero, suc, List, [], ◌∷◌, ◌++◌, length, get_or, take, drop, true, false, Bool, ap, ◌∙◌, sym, refl, arith, cond, ◌+◌, add-one, eqb, Option, Some, None, MatchOption}
use Rattle.std.proofs.lemmas.Bool.Decides.{nat_tests}
use Rattle.std.proofs.lemmas.List.{append-nil}
use Rattle.std.specs.Prelude.{not}
use denote.Ref.{Bor}
use Rattle.std.specs.Option.{unwrap_or}
use Rattle.std.specs.Str.Pattern.{LacksTextAt}
use Rattle.std.specs.Str.{IsCharBoundary, trim, trim_start, trim_end, chars}
use Rattle.starlark_parser.specs.Suppressions.{behind, is_empty, names_in, names_of, parts_names, pieces, with_first}

-- up to a byte that parts
pub pieces_cut : (list : List ℕ) (k : ℕ) → k < length list → ((j : ℕ) → j < k → parts_names (get_or list j 0) ≡ false) → parts_names (get_or list k 0) ≡ true → pieces list ≡ take k list ∷ pieces (drop (suc k) list)
pieces_cut [] k l h e = absurd (omega arith)
pieces_cut (b ∷ bs) zero l h e = ap (λ t. cond t ([] ∷ pieces bs) (with_first b (pieces bs))) e
pieces_cut (b ∷ bs) (suc k) l h e =
    ap (λ t. cond t ([] ∷ pieces bs) (with_first b (pieces bs))) (h 0 (omega arith))
    ∙ ap (with_first b) (pieces_cut bs k (omega arith) (λ j w. h (suc j) (omega arith)) e)

-- without one
pub pieces_whole : (list : List ℕ) → ((j : ℕ) → j < length list → parts_names (get_or list j 0) ≡ false) → pieces list ≡ list ∷ []
pieces_whole [] h = refl
pieces_whole (b ∷ bs) h =
    ap (λ t. cond t ([] ∷ pieces bs) (with_first b (pieces bs))) (h 0 (omega arith))
    ∙ ap (with_first b) (pieces_whole bs (λ j w. h (suc j) (omega arith)))

pub names_of-cons : (p : List ℕ) (ps : List (List ℕ)) → names_of (p ∷ ps) ≡ names_of (p ∷ []) ++ names_of ps
names_of-cons p ps = by (is_empty (trim p))
  where
    by : (t : Bool) → cond (not t) (trim p ∷ names_of ps) (names_of ps) ≡ cond (not t) (trim p ∷ []) [] ++ names_of ps
    by true = refl
    by false = refl

pub no_names : names_in [] ≡ []
unfolding trim_start trim_end chars
no_names = refl

-- a byte that parts is an ASCII byte
pub parts_ascii : (b : ℕ) → parts_names b ≡ true → b < 128
parts_ascii b h = grind (arith, nat_tests)

pub names_cut : (list piece rest : List ℕ) (k : ℕ) → k < length list → ((j : ℕ) → j < k → parts_names (get_or list j 0) ≡ false) → parts_names (get_or list k 0) ≡ true → piece ≡ take k list → rest ≡ drop (k + 1) list → names_in list ≡ names_of (piece ∷ []) ++ names_in rest
names_cut list piece rest k l h e p r =
    rw (p, r, add-one) (ap names_of (pieces_cut list k l h e) ∙ names_of-cons (take k list) (pieces (drop (suc k) list)))

pub names_whole : (list rest : List ℕ) → ((j : ℕ) → j < length list → parts_names (get_or list j 0) ≡ false) → rest ≡ [] → names_in list ≡ names_of (list ∷ []) ++ names_in rest
names_whole list rest h r =
    ap names_of (pieces_whole list h) ∙ sym (append-nil (names_of (list ∷ []))) ∙ ap (λ t. names_of (list ∷ []) ++ t) (sym (ap names_in r ∙ no_names))

pub behind_front : (front rest : List ℕ) → behind front (front ++ rest) ≡ rest
behind_front [] rest = refl
behind_front (n ∷ ns) rest = let e : eqb n n ≡ true = grind (arith, nat_tests) in rw e (behind_front ns rest)

pub behind_none : (front text : List ℕ) → ((rest : List ℕ) → text ≡ front ++ rest → ⊥) → behind front text ≡ []
behind_none [] text h = absurd (h text refl)
behind_none (n ∷ ns) [] h = refl
behind_none (n ∷ ns) (b ∷ bs) h = by (eqb n b) refl (λ g. behind_none ns bs g)
  where
    by : (t : Bool) → eqb n b ≡ t → (((rest : List ℕ) → bs ≡ ns ++ rest → ⊥) → behind ns bs ≡ []) → cond t (behind ns bs) [] ≡ []
    by false q g = refl
    by true q g = g (λ rest w. h rest (let e : n ≡ b = grind (arith, nat_tests) in cc))

pub behind_is : (text front : List ℕ) (r : Option (Bor (List ℕ))) (d : Bor (List ℕ)) → d.now ≡ []
    → MatchOption r (LacksTextAt front text 0) (λ x. (k : ℕ) × ((k ≡ length front) × (text ≡ front ++ drop k text) × IsCharBoundary text (length front)) × (x.now ≡ drop k text) × (length x.now + k ≡ length text))
    → (unwrap_or r d).now ≡ behind front text
behind_is text front None d e h = e ∙ sym (behind_none front text h)
behind_is text front (Some x) d e h = h.2 ∙ sym (ap (behind front) h.1.1 ∙ behind_front front (drop h.0 text))

pub nothing_named : (list : List ℕ) → length list ≡ 0 → names_in list ≡ []
nothing_named [] e = no_names
nothing_named (b ∷ bs) e = absurd (omega arith)
