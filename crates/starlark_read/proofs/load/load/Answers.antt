use Rattle.std.proofs.Common.{refl, ap, sym, ◌∙◌, rules, string_bytes}
use Rattle.starlark_lexer.specs.Items.{comma}
use Rattle.starlark_ast.specs.Tree.{load, name_at, no_symbols}
use Rattle.starlark_grammar.specs.Frames.{behind_small}
use Rattle.starlark_grammar.specs.Made.{symbol_at, symbols_of}
use Rattle.starlark_read.proofs.Exits.{◌>>◌, exits, gives, goes, left_it, missing, read_it, refuses, renamed, state_is, stays_there, sticks}
use Rattle.starlark_read.proofs.Loading.{module_read, no_load_end, no_load_opening, no_module}
use Rattle.starlark_read.proofs.Suffixing.{none_of, some_of, unlike}
use Rattle.starlark_read.proofs.load.load.Goals as goal

pub returns-in_err-expect-clause-reads : goal.returns-in_err-expect-clause-reads
returns-in_err-expect-clause-reads g c d k = missing (search rules) c.in_err-expect.ensures.unread c.in_err-expect.ensures.no_rule (λ h. stays_there h.0 (no_load_opening c.args.begin k _ h.1))

pub returns-in_default-clause-reads : goal.returns-in_default-clause-reads
returns-in_default-clause-reads g c d k =
    let n = none_of _ _ _ c.in_default.is c.in_ok-source.ensures in
    refuses (sticks (goes c.in_ok-expect.ensures.read refl refl) (stays_there n.0 (no_module c.args.begin k _ n.1)))

pub returns-in_err-expect-2-clause-reads : goal.returns-in_err-expect-2-clause-reads
returns-in_err-expect-2-clause-reads g c d k =
    let p = c.args.begin in
    let m = some_of _ _ _ _ c.in-Some.is c.in_ok-source.ensures in
    let b = left_it _ _ comma _ c.if-not-branch.true c.in_ok-accept.ensures in
    missing (search rules) c.in_err-expect-2.ensures.unread c.in_err-expect-2.ensures.no_rule (λ h. sticks (goes c.in_ok-expect.ensures.read refl refl >> module_read p _ _ k _ _ m) (stays_there (h.0 ∙ b.0) (no_load_end p _ k _ b.1 (unlike (sym b.0) h.1))))

pub returns-then-not-branch-clause-reads : goal.returns-then-not-branch-clause-reads
returns-then-not-branch-clause-reads g c d k =
    let p = c.args.begin in
    let s = c.in-Some.source in
    let m = some_of _ _ _ _ c.in-Some.is c.in_ok-source.ensures in
    let b = left_it _ _ comma _ c.if-not-branch.true c.in_ok-accept.ensures in
    gives (state_is (goes c.in_ok-expect.ensures.read refl refl >> module_read p _ _ k _ _ m >> renamed b.0 >> goes c.in_ok-expect-2.ensures.read refl refl) (ap (λ z. behind_small z k) (sym (c.load.ensures ∙ ap (λ xs. load (name_at (string_bytes s.node) s.span) (symbols_of symbol_at xs) c.since.result) c.new-none.ensures.items ∙ ap (load (name_at (string_bytes s.node) s.span) no_symbols) c.since.ensures))))

pub returns-in_err-found-clause-reads : goal.returns-in_err-found-clause-reads
returns-in_err-found-clause-reads g c d k =
    let p = c.args.begin in
    let s = c.in-Some.source in
    let m = some_of _ _ _ _ c.in-Some.is c.in_ok-source.ensures in
    let q = read_it _ _ comma _ c.if-not-branch.false c.in_ok-accept.ensures in
    exits (search rules) (goes c.in_ok-expect.ensures.read refl refl >> module_read p _ _ k _ _ m >> goes q refl refl) (c.in_err-found.ensures.reads d p (name_at (string_bytes s.node) s.span) k)

pub returns-clause-reads : goal.returns-clause-reads
returns-clause-reads g c d k =
    let p = c.args.begin in
    let s = c.in-Some.source in
    let m = some_of _ _ _ _ c.in-Some.is c.in_ok-source.ensures in
    let q = read_it _ _ comma _ c.if-not-branch.false c.in_ok-accept.ensures in
    gives (state_is (goes c.in_ok-expect.ensures.read refl refl >> module_read p _ _ k _ _ m >> goes q refl refl >> (c.in_ok-found.ensures.reads d p (name_at (string_bytes s.node) s.span) k).comes _ refl) (ap (λ z. behind_small z k) (sym (c.load-2.ensures ∙ ap (load (name_at (string_bytes s.node) s.span) (symbols_of symbol_at c.in_ok-found.found.items)) c.since-2.ensures))))
