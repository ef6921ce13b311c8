-- How much is open at a place, and how much of it counts.
use Rattle.std.specs.Prelude.{ℕ, suc}
use Rattle.starlark_cutting.specs.Opened.{Nest, outside, in_field, in_text}

-- f-strings
abbrev pub strings_open : Nest → ℕ
strings_open (outside n) = 0
strings_open (in_field n m) = suc (strings_open m)
strings_open (in_text m) = suc (strings_open m)

-- brackets outside of f-strings
abbrev pub brackets_open : Nest → ℕ
brackets_open (outside n) = n
brackets_open (in_field n m) = brackets_open m
brackets_open (in_text m) = brackets_open m
