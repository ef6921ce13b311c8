-- Places before another, and tokens that begin there.
use Rattle.std.proofs.Common.{ℕ, ◌≡◌, ◌<◌, ◌∷◌, ◌++◌, [], List, false}
use Rattle.starlark_lexer.specs.Items.{Lexeme, Item, item}
use Rattle.starlark_order.specs.Ordered.{is_layout}

-- all of them are before n
pub data Early (n : ℕ) : List ℕ → Type 0 where
  no_more : Early n []
  and_more : {k : ℕ} {ks : List ℕ} → k < n → Early n ks → Early n (k ∷ ks)

infixl 5 ◌with◌
pub ◌with◌ : {n : ℕ} {xs ys : List ℕ} → Early n xs → Early n ys → Early n (xs ++ ys)
◌with◌ no_more q = q
◌with◌ (and_more h p) q = and_more h (p with q)

pub first_of : {n k : ℕ} {ks : List ℕ} → Early n (k ∷ ks) → k < n
first_of (and_more h p) = h

pub left_of : {n : ℕ} (xs ys : List ℕ) → Early n (xs ++ ys) → Early n xs
left_of [] ys p = no_more
left_of (x ∷ xs) ys (and_more h p) = and_more h (left_of xs ys p)

pub right_of : {n : ℕ} (xs : List ℕ) {ys : List ℕ} → Early n (xs ++ ys) → Early n ys
right_of [] p = p
right_of (x ∷ xs) (and_more h p) = right_of xs p

-- each token but layout begins before n
pub data AreEarly (n : ℕ) : List Item → Type 0 where
  no_item : AreEarly n []
  and_item : {x : Item} {xs : List Item} → (is_layout x.lexeme ≡ false → x.begin < n) → AreEarly n xs → AreEarly n (x ∷ xs)

pub behind_token : {n : ℕ} {x : Item} {xs : List Item} → AreEarly n (x ∷ xs) → AreEarly n xs
behind_token (and_item h w) = w

-- tokens were read, and those are left; what was read comes to that
pub record Gives (n : ℕ) (b : List Item) (P : Type 0) : Type 0 where
  pub rest : AreEarly n b
  pub is : P

pub becomes : {n : ℕ} {b : List Item} {P Q : Type 0} → (P → Q) → Gives n b P → Gives n b Q
becomes f p = record { rest = p.rest; is = f p.is }

infixl 5 ◌then◌
pub ◌then◌ : {n : ℕ} {b c : List Item} {P Q : Type 0} → Gives n b P → (AreEarly n b → Gives n c Q) → Gives n c (P × Q)
◌then◌ p q = let r = q p.rest in record { rest = r.rest; is = (p.is, r.is) }

-- a token
pub token : {n i j : ℕ} {x : Lexeme} {b : List Item} → is_layout x ≡ false → AreEarly n (item i x j ∷ b) → Gives n b (i < n)
token c (and_item h w) = record { rest = w; is = h c }

-- ... of which the place does not matter
pub past : {n i j : ℕ} {x : Lexeme} {b : List Item} {P : Type 0} → Gives n (item i x j ∷ b) P → Gives n b P
past p = record { rest = behind_token p.rest; is = p.is }

pub nothing_read : {n : ℕ} {b : List Item} → AreEarly n b → Gives n b (Early n [])
nothing_read w = record { rest = w; is = no_more }
