use Rattle.std.proofs.Common.{◌≡◌, ◌<◌, ◌-◌, ℕ, List, [], ◌∷◌, ◌++◌, length, take, drop, set, get_or, take_all, sym, ap, arith}
use Rattle.std.proofs.lemmas.Grind.{common_steps}
use Rattle.starlark_script_tests.proofs.devices.SingleRead.read.Goals as goal

one_byte : (xs buf : List ℕ) → 0 < length xs → 0 < length buf → xs ≡ take 1 (set buf 0 (get_or xs 0 0)) ++ take (length xs - 1) (drop 1 xs)
one_byte [] buf l m = absurd (omega arith)
one_byte (x ∷ xs) [] l m = absurd (omega arith)
one_byte (x ∷ xs) (b ∷ bs) l m = let e : take (length (x ∷ xs) - 1) xs ≡ xs = take_all (length (x ∷ xs) - 1) xs (omega arith) in ap (λ z. x ∷ z) (sym e)

pub returns-clause-bytes : goal.returns-clause-bytes
returns-clause-bytes c =
    let given : 0 < length c.args.self.now.rest.now = grind (arith, common_steps) in
    let room : 0 < length c.args.buf.now = grind (arith, common_steps) in
    (one_byte c.args.self.now.rest.now c.args.buf.now given room, λ none _. absurd (let n = none in omega (arith, n)))
