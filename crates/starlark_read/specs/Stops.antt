-- Where reading stops: how far a text was read that is refused.
use Rattle.std.specs.Prelude.{ℕ, zero, suc, ◌-◌, if◌then◌else◌, List, [], ◌∷◌, drop, length}
use Rattle.starlark_lexer.specs.Items.{Item, Lexed}
use Rattle.starlark_lexer.specs.declared.dialect.Dialect.{Dialect}
use Rattle.starlark_grammar.specs.Language.{is_comment, last_end, uncommented}
use Rattle.starlark_grammar.specs.Runs.{initial, run}
use Rattle.starlark_grammar.specs.Verdicts.{Verdict, Fine, Unexpected, Broken, Spoilt, judge}

-- what the machine answers to the tokens of a text
abbrev pub answer_to : Dialect → List Item → Verdict
answer_to d xs = judge d (run initial xs)

-- how many tokens are still to be read where that is found, the one that stands ahead among them
abbrev pub left_over : Verdict → ℕ
left_over (Fine s) = 0
left_over (Unexpected us) = length us
left_over (Broken f n) = n
left_over (Spoilt s f) = 0

-- the end of the token that stands ahead, or of the last one, which is e, where none is left
abbrev pub end_ahead : ℕ → List Item → ℕ
end_ahead e [] = e
end_ahead e (x ∷ xs) = x.end

-- the last n of the tokens
abbrev pub last_of : ℕ → List Item → List Item
last_of n xs = drop (length xs - n) xs

-- the end of the token that stands ahead where that is found, or of the last one where all are read
abbrev pub reached_by : List Item → Verdict → ℕ
reached_by xs (Fine s) = last_end 0 xs
reached_by xs (Unexpected us) = end_ahead (last_end 0 xs) us
reached_by xs (Broken f n) = end_ahead (last_end 0 xs) (last_of n xs)
reached_by xs (Spoilt s f) = last_end 0 xs

abbrev pub reached : Dialect → List Item → ℕ
reached d xs = reached_by xs (answer_to d xs)

-- How often the lexer is asked until it gives the token behind n others: for each of these, for that one, and for each comment
-- before it. Where no token is left there, it is asked for each lexeme, and for the fault or the end.
abbrev pub asks_until : ℕ → List Item → ℕ
asks_until n [] = 1
asks_until zero (x ∷ xs) = suc (if is_comment x.lexeme then asks_until zero xs else zero)
asks_until (suc n) (x ∷ xs) = suc (asks_until (if is_comment x.lexeme then suc n else n) xs)

-- how often it is asked until it gives what stands ahead where reading stops
abbrev pub asked : Dialect → Lexed → ℕ
asked d l = asks_until (length (uncommented l).items - left_over (answer_to d (uncommented l).items)) l.items
