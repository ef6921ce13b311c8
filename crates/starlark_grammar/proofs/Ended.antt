-- The tokens of a text without fault end where the text does.
use Rattle.std.proofs.Common.{◌≡◌, ◌≤◌, ℕ, ◌+◌, zero, suc, Bool, true, false, List, [], ◌∷◌, ◌++◌, Option, Some, None, length, drop, if◌then◌else◌, refl, arith}
use Rattle.starlark_lexer.specs.Items.{Item, Stop, Lexed, dedents}
use Rattle.starlark_lexer.specs.Classes.{escaped, leading, line_end, line_len}
use Rattle.starlark_lexer.specs.Literals.{quotes}
use Rattle.starlark_lexer.specs.Lex.{Past, Move, on, over, Step, Lex, goes_on, is_over, start}
use Rattle.starlark_lexer.specs.Lex as rules
use Rattle.starlark_grammar.specs.Language.{is_comment, last_end, uncommented, without_comments}

-- the end of the rest is no farther off behind a step
abbrev Reaches : ℕ → Move → Type 0
Reaches n (on xs q more) = n ≤ q.place + length more
Reaches n (over l) = l.fault ≡ None → (d : ℕ) → n ≤ last_end d (without_comments l.items)

short : (k : ℕ) (xs : List ℕ) → length xs ≤ k + length (drop k xs)
short zero xs = omega arith
short (suc k) [] = omega arith
short (suc k) (x ∷ xs) = let h = short k xs in omega (arith, h)

further : (i k : ℕ) (rest : List ℕ) → i + length rest ≤ i + k + length (drop k rest)
further i k rest = let h = short k rest in omega (arith, h)

faulty : {A : Type 0} {s : Stop} → ◌≡◌ {A = Option Stop} (Some s) None → A
faulty h = absurd (cc)

last_dedent : (i n : ℕ) → last_end i (without_comments (dedents i n ++ [])) ≡ i
last_dedent i zero = refl
last_dedent i (suc n) = last_dedent i n

steps : {p : Past} {rest : List ℕ} {m : Move} → Step p rest m → Reaches (p.place + length rest) m
steps (rules.blank_line p rest more f d) = further p.place (leading rest + 1) rest
steps (rules.remark_line p rest more f d) = further p.place (leading rest + (1 + line_len more) + line_end (drop (line_len more) more)) rest
steps (rules.last_line p rest closed f d c) = λ h e. omega (arith, last_dedent (p.place + length rest) (length closed))
steps (rules.tabbed p rest m t) = λ h e. faulty h
steps (rules.deepens p rest m t d) = further p.place (leading rest) rest
steps (rules.fits p rest closed m t o c) = further p.place (leading rest) rest
steps (rules.misfits p rest m t d o) = λ h e. faulty h
steps (rules.passes p b rest f o c) = further p.place 1 (b ∷ rest)
steps (rules.escapes p rest f o c) = further p.place (escaped rest) rest
steps (rules.joins p rest f d) = further p.place 1 (10 ∷ rest)
steps (rules.ends_line p rest f m d) = further p.place 1 (10 ∷ rest)
steps (rules.remark p rest f o) = further p.place (1 + line_len rest) (35 ∷ rest)
steps (rules.lexeme p rest n x f d) = further p.place n rest
steps (rules.faults p rest n x f d) = λ h e. faulty h
steps (rules.ends_text p closed f o c) = λ h e. omega (arith, last_dedent p.place (length closed))
steps (rules.literal p rest n g k f d s b) = further p.place (n + k + quotes g.quote) rest
steps (rules.unclosed p rest n g k f d s b) = λ h e. faulty h
steps (rules.misspelt p rest n g k m f d s b) = λ h e. faulty h
steps (rules.enters p rest n g f d s) = further p.place n rest
steps (rules.texts p b g rest k f m some ends) = further p.place k rest
steps (rules.leaves p b g rest f m ends) = further p.place (quotes g.quote) rest
steps (rules.opens_field p b g rest f m ends) = further p.place 1 rest
steps (rules.unfinished p b g rest k f m ends) = λ h e. faulty h
steps (rules.misspells p b g rest k n f m ends) = λ h e. faulty h
steps (rules.shuts p b g bs rest f m d) = further p.place 1 (125 ∷ rest)
steps (rules.bangs p b g bs rest f m d c) = further p.place 1 (33 ∷ rest)

split : (xs ys : List Item) (d : ℕ) → (e : ℕ) × (last_end d (without_comments (xs ++ ys)) ≡ last_end e (without_comments ys))
split [] ys d = (d, refl)
split (x ∷ xs) ys d = go (is_comment x.lexeme) (split xs ys d) (split xs ys x.end)
  where
    go : (b : Bool) → (e : ℕ) × (last_end d (without_comments (xs ++ ys)) ≡ last_end e (without_comments ys)) → (e : ℕ) × (last_end x.end (without_comments (xs ++ ys)) ≡ last_end e (without_comments ys)) → (e : ℕ) × (last_end d (if b then without_comments (xs ++ ys) else x ∷ without_comments (xs ++ ys)) ≡ last_end e (without_comments ys))
    go true h k = h
    go false h k = k

reached : {p : Past} {rest : List ℕ} {l : Lexed} → Lex p rest l → l.fault ≡ None → (d : ℕ) → p.place + length rest ≤ last_end d (without_comments l.items)
reached (goes_on p rest xs q more l step w) h d =
    let s = steps step in
    let r = split xs l.items d in
    let k = reached w h r.0 in
    omega (arith, s, k, r.1)
reached (is_over p rest l step) h d = steps step h d

pub ended : {text : List ℕ} {l : Lexed} → Lex start text l → l.fault ≡ None → length text ≤ last_end 0 (uncommented l).items
ended w h = let k = reached w h 0 in omega (arith, k)
