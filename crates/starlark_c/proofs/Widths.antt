-- Tokens that stand in order span no more than the text.
use Rattle.std.proofs.Common.{◌≤◌, ◌+◌, ◌-◌, ℕ, List, [], ◌∷◌, arith}
use Rattle.std.specs.Prelude.{Option, Some, None}
use Rattle.std.proofs.lemmas.List.Sums.{sum_by-cons}
use Rattle.starlark_lexer.specs.Items.{Item, Stop}
use Rattle.starlark_lexer.specs.Order.{InOrder}
use Rattle.starlark_c.specs.Counts.{widths}

pub widths-le : (i n : ℕ) (xs : List Item) (f : Option Stop) → InOrder i n xs f → i + widths xs ≤ n
widths-le i n [] None h = omega (arith, h)
widths-le i n [] (Some s) h = omega (arith, h.0)
widths-le i n (x ∷ xs) f h = omega (arith, sum_by-cons (λ y. y.end - y.begin) x xs, h.0, h.1, widths-le x.end n xs f h.2)
