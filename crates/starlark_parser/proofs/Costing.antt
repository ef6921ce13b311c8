-- What a reading of a text costs.
use Rattle.std.proofs.Common.{◌≡◌, ◌≢◌, ◌<◌, ◌≤◌, ℕ, zero, suc, ◌+◌, ◌-◌, ◌*◌, Bool, true, false, if◌then◌else◌, List, [], ◌∷◌, Option, Some, None, Err, length, refl, ap, subst, sym, arith, ◌∙◌, min}
use Rattle.std.proofs.Math.Nat.{min-eq_left, min-le_right}
use Rattle.starlark_place.specs.Place.{File}
use Rattle.starlark_lexer.specs.Items.{Item, Lexed}
use Rattle.starlark_lexer.specs.Lex.{Lex, start}
use Rattle.starlark_read.specs.declared.cost.Cost.{Cost}
use Rattle.starlark_parser.specs.declared.fault.EvalException.{EvalException}
use Rattle.starlark_parser.specs.declared.fault.EvalException.TheVariants as exception
use Rattle.starlark_lexer.specs.declared.dialect.Dialect.{Dialect}
use Rattle.starlark_read.specs.Asides.{counted}
use Rattle.starlark_read.specs.Stops.{answer_to, asked, asks_until, left_over, reached}
use Rattle.starlark_parser.specs.Costs.{Costs, IsBounded, IsPartly, IsWhole}
use Rattle.starlark_parser.specs.Faults.{Tells}
use Rattle.starlark_grammar.specs.Language.{Fault, is_comment, last_end, uncommented}
use Rattle.starlark_grammar.proofs.Ended.{ended}

-- a text has too few lexemes for the count to stop
fits : (n m : ℕ) → n ≤ 4294967295 → m ≤ 2 * n + 1 → counted (suc m) ≡ suc m
fits n m h k = omega (arith, h, k)

-- the looks, by the length that the lexer knows
within : {text source : List ℕ} {n r : ℕ} → source ≡ text → n ≡ length source → r ≤ 16 * n + 16 → r ≤ 16 * length text + 16
within {text} {source} {n} {r} q z b = subst (λ t. r ≤ 16 * length t + 16) q (subst (λ k. r ≤ 16 * k + 16) z b)

-- what is told of a cost: no more than a text of so many bytes takes
pub record IsCapped (n : ℕ) (c d : Cost) : Type 0 where
  pub reads : d.reads ≡ min c.reads (16 * n + 16)
  pub asks : d.asks ≡ min c.asks (2 * n + 2)

pub capped_at : {n m : ℕ} {c d : Cost} → n ≡ m → d.reads ≡ min c.reads (16 * n + 16) → d.asks ≡ min c.asks (2 * n + 2) → IsCapped m c d
capped_at {n} {m} {c} {d} e r a = subst (λ k. IsCapped k c d) e (record { reads = r; asks = a })

-- that is the cost itself where it keeps to that
capped : {n : ℕ} {c d : Cost} → IsCapped n c d → c.asks ≤ 2 * n + 2 → c.reads ≤ 16 * n + 16 → c ≡ d
capped k a r = λ i. record { reads = sym (k.reads ∙ min-eq_left r) i; asks = sym (k.asks ∙ min-eq_left a) i }

bounded_at : {text : List ℕ} {c d : Cost} → IsCapped (length text) c d → IsBounded text d
bounded_at {text} {c} {d} k = record {
  few = subst (λ x. x ≤ 2 * length text + 2) (sym k.asks) (min-le_right c.asks (2 * length text + 2));
  bounded = subst (λ x. x ≤ 16 * length text + 16) (sym k.reads) (min-le_right c.reads (16 * length text + 16));
}

pub whole_cost : {text source : List ℕ} {l : Lexed} {c d : Cost} {n : ℕ} → IsCapped (length text) c d → source ≡ text → Lex start source l → l.fault ≡ None → length text ≤ 4294967295 → ((t : List ℕ) (m : Lexed) → Lex start t m → length m.items ≤ 2 * length t + 1) → c.asks ≡ counted (suc (length l.items)) → last_end 0 (uncommented l).items ≤ c.reads → n ≡ length source → c.reads ≤ 16 * n + 16 → IsWhole text d
whole_cost {text} {source} {l} {c} {d} cap q x f h few a r z b =
    let w : Lex start text l = subst (λ t. Lex start t l) q x in
    let k = fits (length text) (length l.items) h (few text l w) in
    let whole : IsWhole text c = record { lexed = l; lexes = w; asks = a ∙ k; few = omega (arith, a, k, few text l w); reads = let e = ended w f in omega (arith, e, r); bounded = within q z b } in
    subst (IsWhole text) (capped cap whole.few whole.bounded) whole

-- how far a text is read that is refused
pub record Stops (dialect : Dialect) (l : Lexed) (c : Cost) : Type 0 where
  pub asked : suc (length l.items) < 18446744073709551615 → c.asks ≡ asked dialect l
  pub reached : reached dialect (uncommented l).items ≤ c.reads

-- the lexer is asked for nothing behind its end
few_asked : (n : ℕ) (xs : List Item) → asks_until n xs ≤ suc (length xs)
few_asked n [] = omega arith
few_asked zero (x ∷ xs) = by_kind (few_asked zero xs) (is_comment x.lexeme)
  where
    by_kind : asks_until 0 xs ≤ suc (length xs) → (b : Bool) → suc (if b then asks_until 0 xs else 0) ≤ suc (suc (length xs))
    by_kind h true = omega (arith, h)
    by_kind h false = omega arith
few_asked (suc n) (x ∷ xs) = let h = few_asked (if is_comment x.lexeme then suc n else n) xs in omega (arith, h)

part_cost : {dialect : Dialect} {text : List ℕ} {l : Lexed} {c : Cost} → c.reads ≤ 16 * length text + 16 → Lex start text l → length text ≤ 4294967295 → length l.items ≤ 2 * length text + 1 → Stops dialect l c → IsPartly dialect text c
part_cost {dialect} {text} {l} {c} b w h few t =
    let a = t.asked (omega (arith, h, few)) in
    let m = few_asked (length (uncommented l).items - left_over (answer_to dialect (uncommented l).items)) l.items in
    record { lexed = l; lexes = w; asks = a; few = omega (arith, a, m, few); reads = t.reached; bounded = b }

pub refused_cost : {dialect : Dialect} {text source : List ℕ} {l : Lexed} {n : ℕ} (c d : Cost) → IsCapped (length text) c d → (o : Option Fault) (file : File) (e : EvalException) → Tells o file e → source ≡ text → Lex start source l → length text ≤ 4294967295 → ((t : List ℕ) (m : Lexed) → Lex start t m → length m.items ≤ 2 * length t + 1) → n ≡ length source → (o ≢ None → c.reads ≤ 16 * n + 16) → (o ≢ None → Stops dialect l c) → Costs dialect text (Err e) d
refused_cost {dialect} {text} {source} {l} c d cap (Some f) file (exception.Fault w) t q x h few z b stops =
    let y : Lex start text l = subst (λ t. Lex start t l) q x in
    let n : Some f ≢ None = λ v. absurd (cc) in
    let part = part_cost (within q z (b n)) y h (few text l y) (stops n) in
    subst (IsPartly dialect text) (capped cap part.few part.bounded) part
refused_cost c d cap None file (exception.Fault w) t q x h few z b stops = absurd t
refused_cost c d cap (Some f) file exception.TooLong t q x h few z b stops = absurd t
refused_cost c d cap None file exception.TooLong t q x h few z b stops = absurd t
refused_cost {text = text} c d cap (Some f) file exception.Memory t q x h few z b stops = bounded_at cap
refused_cost {text = text} c d cap None file exception.Memory t q x h few z b stops = bounded_at cap
