-- Tokens in order, and what is read of them.
use Rattle.std.proofs.Common.{ℕ, ◌≡◌, ◌<◌, ◌≤◌, ◌∷◌, [], List, false, length, arith}
use Rattle.std.specs.Prelude.{slice_index}
use Rattle.starlark_lexer.specs.Items.{Lexeme, Item, item}
use Rattle.starlark_grammar.specs.Nodes.{start}
use Rattle.starlark_order.specs.Ordered.{is_inner}

-- tokens in a text, from m on; one that may begin a statement has bytes, the first of which is an ASCII byte
pub data Laid (text : List ℕ) : ℕ → List Item → Type 0 where
  no_tokens : {m : ℕ} → m ≤ length text → Laid text m []
  and_token : {m i j : ℕ} {x : Lexeme} {xs : List Item} → m ≤ i → i ≤ j → (is_inner x ≡ false → (i < j) × (slice_index text i < 128)) → Laid text j xs → Laid text m (item i x j ∷ xs)

-- tokens from m on were read, and those that are left begin there or later
pub record Passes (text : List ℕ) (m : ℕ) (b : List Item) : Type 0 where
  pub end : ℕ
  pub far : m ≤ end
  pub rest : Laid text end b

-- the same, where the first of them has bytes
pub record Begun (text : List ℕ) (m : ℕ) (a b : List Item) : Type 0 where
  pub end : ℕ
  pub from : m ≤ start a
  pub first : slice_index text (start a) < 128
  pub firm : start a < end
  pub rest : Laid text end b

pub passed : {text : List ℕ} {m : ℕ} {a b : List Item} → Begun text m a b → Passes text m b
passed p = let u = p.from in let v = p.firm in record { end = p.end; far = omega (arith, u, v); rest = p.rest }

pub goes : {text : List ℕ} {m : ℕ} {a b : List Item} → (Laid text m a → Begun text m a b) → Laid text m a → Passes text m b
goes q w = passed (q w)

pub stays : {text : List ℕ} {m : ℕ} {b : List Item} → Laid text m b → Passes text m b
stays {m} w = record { end = m; far = omega arith; rest = w }

-- a token
pub skips : {text : List ℕ} {m i j : ℕ} {x : Lexeme} {b : List Item} → Laid text m (item i x j ∷ b) → Passes text m b
skips {j} (and_token u v w h) = record { end = j; far = omega (arith, u, v); rest = h }

-- ... and what stands behind
infixl 5 ◌>>◌
pub ◌>>◌ : {text : List ℕ} {m : ℕ} {b c : List Item} (p : Passes text m b) → (Laid text p.end b → Passes text p.end c) → Passes text m c
◌>>◌ p q = let r = q p.rest in let u = p.far in let v = r.far in record { end = r.end; far = omega (arith, u, v); rest = r.rest }

pub extends : {text : List ℕ} {m : ℕ} {a b c : List Item} (p : Begun text m a b) → (Laid text p.end b → Passes text p.end c) → Begun text m a c
extends p q = let r = q p.rest in let u = p.firm in let v = r.far in record { end = r.end; from = p.from; first = p.first; firm = omega (arith, u, v); rest = r.rest }

-- a first token that may begin a statement, and what is read behind it
pub leads : {text : List ℕ} {m i j : ℕ} {x : Lexeme} {a b : List Item} → is_inner x ≡ false → Laid text m (item i x j ∷ a) → (Laid text j a → Passes text j b) → Begun text m (item i x j ∷ a) b
leads c (and_token u v w h) q = let r = q h in let y = r.far in let l = w c in record { end = r.end; from = u; first = l.1; firm = omega (arith, l.0, y); rest = r.rest }
