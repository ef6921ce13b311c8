-- How often the lexer was asked, by the tokens that are left.
use Rattle.std.proofs.Common.{◌≡◌, ◌<◌, ◌≤◌, ℕ, zero, suc, ◌+◌, ◌-◌, List, [], ◌∷◌, Bool, true, false, if◌then◌else◌, length, refl, ap, sym, subst, ◌∙◌, arith}
use Rattle.std.proofs.lemmas.List.{length-append}
use Rattle.starlark_lexer.specs.Items.{Item, Lexed}
use Rattle.starlark_grammar.specs.Language.{is_comment, uncommented, without_comments}
use Rattle.starlark_read.specs.Asides.{Aside, aside_of, counted}
use Rattle.starlark_read.specs.Reads.{Left, SameEnd, asks_left, behind_token, behind_tokens, left_of, with_ahead}
use Rattle.starlark_read.specs.Stops.{asks_until}
use Rattle.starlark_read.specs.declared.feed.Feed.{Feed}
use Rattle.starlark_read.specs.declared.feed.Lookahead.{Lookahead}
use Rattle.starlark_read.specs.declared.feed.Lookahead.TheVariants as ahead

-- what is still to be asked for is the rest of what is told in all
pub still_asked : (x : Lookahead) (f : Feed) → f.asks ≤ 18446744073709551615 → (aside_of x f).asks ≡ counted (f.asks + asks_left (with_ahead x (uncommented f.lexer.left)).items f.lexer.left.items)
still_asked (ahead.Token s t) f h = refl
still_asked ahead.End f h = omega (arith, h)
still_asked (ahead.Fault e s) f h = omega (arith, h)

-- a comment, or one of the tokens, stands first
skips : (x : Item) (xs : List Item) → is_comment x.lexeme ≡ true → without_comments (x ∷ xs) ≡ without_comments xs
skips x xs h = ap (λ b. if b then without_comments xs else x ∷ without_comments xs) h

keeps : (x : Item) (xs : List Item) → is_comment x.lexeme ≡ false → without_comments (x ∷ xs) ≡ x ∷ without_comments xs
keeps x xs h = ap (λ b. if b then without_comments xs else x ∷ without_comments xs) h

asks_past : (n : ℕ) (x : Item) (xs : List Item) → is_comment x.lexeme ≡ true → asks_until n (x ∷ xs) ≡ suc (asks_until n xs)
asks_past zero x xs h = ap (λ b. suc (if b then asks_until 0 xs else 0)) h
asks_past (suc n) x xs h = ap (λ b. suc (asks_until (if b then suc n else n) xs)) h

asks_more : (n : ℕ) (x : Item) (xs : List Item) → is_comment x.lexeme ≡ false → asks_until (suc n) (x ∷ xs) ≡ suc (asks_until n xs)
asks_more n x xs h = ap (λ b. suc (asks_until (if b then suc n else n) xs)) h

asks_once : (x : Item) (xs : List Item) → is_comment x.lexeme ≡ false → asks_until 0 (x ∷ xs) ≡ 1
asks_once x xs h = ap (λ b. suc (if b then asks_until 0 xs else 0)) h

behind_first : (x : Item) (xs : List Item) (b : Bool) → is_comment x.lexeme ≡ b → behind_token (x ∷ xs) ≡ (if b then behind_token xs else xs)
behind_first x xs b h = ap (λ z. if z then behind_token xs else xs) h

-- where all tokens are read the lexer was asked for each lexeme, and for what is behind them
all_asked : (xs : List Item) → asks_until (length (without_comments xs)) xs ≡ suc (length xs)
all_asked [] = refl
all_asked (x ∷ xs) = by_kind (is_comment x.lexeme) refl (all_asked xs)
  where
    by_kind : (b : Bool) → is_comment x.lexeme ≡ b → asks_until (length (without_comments xs)) xs ≡ suc (length xs) → asks_until (length (without_comments (x ∷ xs))) (x ∷ xs) ≡ suc (suc (length xs))
    by_kind true h r = ap (λ ys. asks_until (length ys) (x ∷ xs)) (skips x xs h) ∙ asks_past (length (without_comments xs)) x xs h ∙ ap suc r
    by_kind false h r = ap (λ ys. asks_until (length ys) (x ∷ xs)) (keeps x xs h) ∙ asks_more (length (without_comments xs)) x xs h ∙ ap suc r

-- where one stands ahead, it was not asked for the lexemes behind that one, and not for what is behind them
some_asked : (n : ℕ) (xs : List Item) → n < length (without_comments xs) → asks_until n xs + suc (length (behind_tokens (suc n) xs)) ≡ suc (length xs)
some_asked n [] h = absurd (omega (arith, h))
some_asked n (x ∷ xs) h = by_kind n (is_comment x.lexeme) refl h (λ k. some_asked k xs)
  where
    by_kind : (n : ℕ) (b : Bool) → is_comment x.lexeme ≡ b → n < length (without_comments (x ∷ xs)) → ((k : ℕ) → k < length (without_comments xs) → asks_until k xs + suc (length (behind_tokens (suc k) xs)) ≡ suc (length xs)) → asks_until n (x ∷ xs) + suc (length (behind_tokens (suc n) (x ∷ xs))) ≡ suc (suc (length xs))
    by_kind n true w h rest =
        let p = asks_past n x xs w in
        let q = ap (λ zs. length (behind_tokens n zs)) (behind_first x xs true w) in
        let r = rest n (subst (λ ys. n < length ys) (skips x xs w) h) in
        omega (arith, p, q, r)
    by_kind zero false w h rest =
        let p = asks_once x xs w in
        let q = ap length (behind_first x xs false w) in
        omega (arith, p, q)
    by_kind (suc n) false w h rest =
        let p = asks_more n x xs w in
        let q = ap (λ zs. length (behind_tokens (suc n) zs)) (behind_first x xs false w) in
        let m = subst (λ ys. suc n < length ys) (keeps x xs w) h in
        let r = rest n (omega (arith, m)) in
        omega (arith, p, q, r)

by_left : (xs : List Item) (asks k : ℕ) (ys us : List Item) → length (without_comments xs) ≡ k + length ys → us ≡ behind_tokens (suc k) xs → counted (suc (length xs)) ≡ counted (asks + asks_left ys us) → suc (length xs) < 18446744073709551615 → asks ≡ asks_until k xs
by_left xs asks k [] us p u q h =
    let e : k ≡ length (without_comments xs) = omega (arith, p) in
    let a = ap (λ n. asks_until n xs) e ∙ all_asked xs in
    omega (arith, q, h, a)
by_left xs asks k (y ∷ ys) us p u q h =
    let a = some_asked k xs (omega (arith, p)) in
    let b = ap length u in
    omega (arith, q, h, a, b)

-- of a whole text, where n tokens are left
pub asked_at : (l : Lexed) {ts us : Left} {a : Aside} {n : ℕ} (asks : ℕ) → ts ≡ left_of 0 (uncommented l) (behind_token l.items) a → SameEnd ts us → length us.items ≡ n → a.asks ≡ counted (suc (length l.items)) → us.aside.asks ≡ counted (asks + asks_left us.items us.unasked) → suc (length l.items) < 18446744073709551615 → asks ≡ asks_until (length (uncommented l).items - n) l.items
asked_at l {us = us} {a} {n} asks w e m q c h =
    let s = subst (λ z. SameEnd z us) w e in
    let p = ap length s.items ∙ length-append s.passed us.items in
    let k : length s.passed ≡ length (uncommented l).items - n = omega (arith, p, m) in
    by_left l.items asks (length s.passed) us.items us.unasked p s.unasked (sym q ∙ sym (ap (λ z. z.asks) s.aside) ∙ c) h ∙ ap (λ z. asks_until z l.items) k
