use Rattle.std.proofs.Common.{rules}
use Rattle.starlark_read.proofs.Exits.{◌>>◌, sticks, gives, halts, missing, stays_there}
use Rattle.starlark_read.proofs.Gathering.{skipped}
use Rattle.starlark_read.proofs.Quoting.{no_letter, letters, letter_found, letter_ends, no_letter_end, put, some_ahead}
use Rattle.starlark_read.proofs.f_string.conversion.Goals as goal

pub returns-in_default-clause-reads : goal.returns-in_default-clause-reads
returns-in_default-clause-reads c d b ms q k = halts c.stop.ensures.broken c.stop.ensures.kept (no_letter b _ ms q _ _ k _ _ _ c.in_default.is c.conversion.ensures c.conversion_place-span.ensures)

pub returns-in_err-expect-clause-reads : goal.returns-in_err-expect-clause-reads
returns-in_err-expect-clause-reads c d b ms q k =
    let l = letters c.args.tokens.now _ _ c.in-Some.is c.conversion.ensures in
    let p = skipped _ _ (some_ahead c.args.tokens.now.items _ l) c.in_ok-skip.ensures in
    missing (search rules) c.in_err-expect.ensures.unread c.in_err-expect.ensures.no_rule (λ h. sticks (letter_found b _ _ ms q _ _ k _ _ _ l p.1) (stays_there h.0 (no_letter_end _ _ _ _ _ h.1)))

pub returns-clause-reads : goal.returns-clause-reads
returns-clause-reads c d b ms q k =
    let l = letters c.args.tokens.now _ _ c.in-Some.is c.conversion.ensures in
    let p = skipped _ _ (some_ahead c.args.tokens.now.items _ l) c.in_ok-skip.ensures in
    gives (put _ _ _ _ k (letter_found b _ _ ms q _ _ k _ _ _ l p.1 >> letter_ends _ _ _ _ _ _ c.in_ok-expect.ensures.read) c.in_ok-push_str.ensures.bytes)
