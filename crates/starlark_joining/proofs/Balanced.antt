-- Tokens between which as many brackets are closed as are opened, and each f-string that begins ends.
use Rattle.std.proofs.Common.{ℕ, ◌≡◌, ◌+◌, ◌-◌, ◌∷◌, ◌∙◌, zero, suc, List, refl, ap, arith}
use Rattle.starlark_lexer.specs.Items.{Lexeme, Item, item, opening_item, closing_item}
use Rattle.starlark_lexer.specs.Joining.{open_behind}
use Rattle.starlark_joining.proofs.Classes.{plain, opens, closes, starts, finishes, class, weight, open_first, opened_first, closed_first, weight_within}

-- from tokens on to those behind
pub record Balanced (a b : List Item) : Type 0 where
  pub strings : (n : ℕ) → open_behind n a ≡ open_behind n b
  pub brackets : (n : ℕ) → weight opening_item n a + weight closing_item n b ≡ weight closing_item n a + weight opening_item n b

pub still : {a : List Item} → Balanced a a
still {a} = record { strings = λ n. refl; brackets = λ n. swapped (weight opening_item n a) (weight closing_item n a) }
  where
    swapped : (x y : ℕ) → x + y ≡ y + x
    swapped x y = omega arith

pub compose : {a b c : List Item} → Balanced a b → Balanced b c → Balanced a c
compose {a} {b} {c} h k = record {
  strings = λ n. h.strings n ∙ k.strings n;
  brackets = λ n. sum (weight opening_item n a) (weight closing_item n a) (weight opening_item n b) (weight closing_item n b) (weight opening_item n c) (weight closing_item n c) (h.brackets n) (k.brackets n);
}
  where
    sum : (u v w x y z : ℕ) → u + x ≡ v + w → w + z ≡ x + y → u + z ≡ v + y
    sum u v w x y z p q = omega (arith, p, q)

pub token : {i j : ℕ} {x : Lexeme} {a : List Item} → class x ≡ plain → Balanced (item i x j ∷ a) a
token {i} {j} {x} {a} h = record { strings = λ n. open_first x plain h n i j a; brackets = by }
  where
    sum : (u v w x : ℕ) → u ≡ 0 + w → v ≡ 0 + x → u + x ≡ v + w
    sum u v w x p q = omega (arith, p, q)

    swapped : (u v w x : ℕ) → u ≡ w → v ≡ x → u + x ≡ v + w
    swapped u v w x p q = omega (arith, p, q)

    by : (n : ℕ) → weight opening_item n (item i x j ∷ a) + weight closing_item n a ≡ weight closing_item n (item i x j ∷ a) + weight opening_item n a
    by zero = sum _ _ _ _ (opened_first x plain h i j a) (closed_first x plain h i j a)
    by (suc n) = swapped _ _ _ _ (weight_within opening_item x plain h n i j a) (weight_within closing_item x plain h n i j a)

pub bracketed : {i j g h : ℕ} {x y : Lexeme} {a b : List Item} → class x ≡ opens → class y ≡ closes → Balanced a (item g y h ∷ b) → Balanced (item i x j ∷ a) b
bracketed {i} {j} {g} {h} {x} {y} {a} {b} p q d = record { strings = λ n. open_first x opens p n i j a ∙ d.strings n ∙ open_first y closes q n g h b; brackets = by }
  where
    sum : (ox cx oa ca oy cy ob cb : ℕ) → ox ≡ 1 + oa → cx ≡ 0 + ca → oy ≡ 0 + ob → cy ≡ 1 + cb → oa + cy ≡ ca + oy → ox + cb ≡ cx + ob
    sum ox cx oa ca oy cy ob cb e f k l m = omega (arith, e, f, k, l, m)

    through : (ox cx oa ca oy cy ob cb : ℕ) → ox ≡ oa → cx ≡ ca → oy ≡ ob → cy ≡ cb → oa + cy ≡ ca + oy → ox + cb ≡ cx + ob
    through ox cx oa ca oy cy ob cb e f k l m = omega (arith, e, f, k, l, m)

    by : (n : ℕ) → weight opening_item n (item i x j ∷ a) + weight closing_item n b ≡ weight closing_item n (item i x j ∷ a) + weight opening_item n b
    by zero = sum _ _ _ _ _ _ _ _ (opened_first x opens p i j a) (closed_first x opens p i j a) (opened_first y closes q g h b) (closed_first y closes q g h b) (d.brackets 0)
    by (suc n) = through _ _ _ _ _ _ _ _ (weight_within opening_item x opens p n i j a) (weight_within closing_item x opens p n i j a) (weight_within opening_item y closes q n g h b) (weight_within closing_item y closes q n g h b) (d.brackets (suc n))

back : (n : ℕ) → suc n - 1 ≡ n
back n = omega arith

pub in_fstring : {i j g h : ℕ} {x y : Lexeme} {a b : List Item} → class x ≡ starts → class y ≡ finishes → Balanced a (item g y h ∷ b) → Balanced (item i x j ∷ a) b
in_fstring {i} {j} {g} {h} {x} {y} {a} {b} p q d = record { strings = λ n. open_first x starts p n i j a ∙ d.strings (suc n) ∙ open_first y finishes q (suc n) g h b ∙ ap (λ m. open_behind m b) (back n); brackets = by }
  where
    sum : (ox cx oa ca oy cy ob cb : ℕ) → ox ≡ oa → cx ≡ ca → oy ≡ ob → cy ≡ cb → oa + cy ≡ ca + oy → ox + cb ≡ cx + ob
    sum ox cx oa ca oy cy ob cb e f k l m = omega (arith, e, f, k, l, m)

    none : (u v : ℕ) → u ≡ 0 + v → u ≡ v
    none u v e = omega (arith, e)

    by : (n : ℕ) → weight opening_item n (item i x j ∷ a) + weight closing_item n b ≡ weight closing_item n (item i x j ∷ a) + weight opening_item n b
    by zero = sum _ _ _ _ _ _ _ _ (none _ _ (opened_first x starts p i j a)) (none _ _ (closed_first x starts p i j a)) (weight_within opening_item y finishes q 0 g h b) (weight_within closing_item y finishes q 0 g h b) (d.brackets 1)
    by (suc n) = sum _ _ _ _ _ _ _ _ (weight_within opening_item x starts p n i j a) (weight_within closing_item x starts p n i j a) (weight_within opening_item y finishes q (suc n) g h b ∙ ap (λ m. weight opening_item m b) (back (suc n))) (weight_within closing_item y finishes q (suc n) g h b ∙ ap (λ m. weight closing_item m b) (back (suc n))) (d.brackets (suc (suc n)))

-- a token between two parts
pub joined_by : {i j : ℕ} {x : Lexeme} {a b c : List Item} → class x ≡ plain → Balanced a (item i x j ∷ b) → Balanced b c → Balanced a c
joined_by h d e = compose d (compose (token h) e)
