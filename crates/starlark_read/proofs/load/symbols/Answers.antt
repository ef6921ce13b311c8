use Rattle.std.proofs.Common.{refl, ap, sym, ◌∙◌, rules, arith, length}
use Rattle.starlark_lexer.specs.Items.{comma, closing_round}
use Rattle.starlark_ast.specs.Tree.{load}
use Rattle.starlark_grammar.specs.Frames.{behind_small, load_symbol}
use Rattle.starlark_grammar.specs.Made.{symbol_at, symbols_of}
use Rattle.starlark_grammar.specs.Spans.{stretch}
use Rattle.starlark_read.proofs.Exits.{◌>>◌, begins, exits, gives, goes, left_it, missing, read_it, renamed, state_is, stays_there, sticks}
use Rattle.starlark_read.proofs.Loading.{no_symbol_end, symbol_and_comma, symbol_more}
use Rattle.starlark_read.proofs.Suffixing.{since_there, unlike}
use Rattle.starlark_read.proofs.load.symbols.Goals as goal

pub returns-then-branch-clause-reads : goal.returns-then-branch-clause-reads
returns-then-branch-clause-reads c d p m k = gives (c.loop-found.invariant.reads d p m k >> goes (read_it _ _ closing_round _ c.if-branch.true c.in_ok-accept.ensures) refl refl)

pub returns-in_err-local-clause-reads : goal.returns-in_err-local-clause-reads
returns-in_err-local-clause-reads c d p m k =
    let a = left_it _ _ closing_round _ c.if-branch.false c.in_ok-accept.ensures in
    let ss = symbols_of symbol_at c.loop-found.found.items in
    exits (search rules) (c.loop-found.invariant.reads d p m k >> renamed a.0) (c.in_err-local.ensures.reads d p m ss k (unlike a.0 a.1))

pub returns-in_err-expect-clause-reads : goal.returns-in_err-expect-clause-reads
returns-in_err-expect-clause-reads c d p m k =
    let a = left_it _ _ closing_round _ c.if-branch.false c.in_ok-accept.ensures in
    let b = left_it _ _ comma _ c.if-not-branch.true c.in_ok-accept-2.ensures in
    let ss = symbols_of symbol_at c.loop-found.found.items in
    missing (search rules) c.in_err-expect.ensures.unread c.in_err-expect.ensures.no_rule (λ h. sticks (c.loop-found.invariant.reads d p m k >> renamed a.0 >> (c.in_ok-local.ensures.reads d p m ss k (unlike a.0 a.1)).comes _ refl) (stays_there (h.0 ∙ b.0) (no_symbol_end p m ss _ k _ b.1 (unlike (sym b.0) h.1))))

pub returns-then-not-branch-clause-reads : goal.returns-then-not-branch-clause-reads
returns-then-not-branch-clause-reads c d p m k =
    let a = left_it _ _ closing_round _ c.if-branch.false c.in_ok-accept.ensures in
    let b = left_it _ _ comma _ c.if-not-branch.true c.in_ok-accept-2.ensures in
    let ss = symbols_of symbol_at c.loop-found.found.items in
    let one = symbol_more symbol_at _ _ _ _ _ c.in_ok-push.ensures.items c.symbol.ensures in
    gives (state_is (c.loop-found.invariant.reads d p m k >> renamed a.0 >> (c.in_ok-local.ensures.reads d p m ss k (unlike a.0 a.1)).comes _ refl >> renamed b.0 >> goes c.in_ok-expect.ensures.read refl refl) (ap (λ z. behind_small (load m z (stretch p c.expect.new.self.last)) k) (sym one)))

pub loop-found-init : goal.loop-found-init
loop-found-init c = record {
  reads = λ d p m k. state_is begins (ap (λ xs. load_symbol p m (symbols_of symbol_at xs) k) (sym c.new-found.ensures.items));
  shorter = omega arith;
}

pub loop-found-preserved : goal.loop-found-preserved
loop-found-preserved c =
    let a = left_it _ _ closing_round _ c.if-branch.false c.in_ok-accept.ensures in
    let q = read_it _ _ comma _ c.if-not-branch.false c.in_ok-accept-2.ensures in
    let ss = symbols_of symbol_at c.loop-found.found.items in
    let place = since_there _ c.since-comma.ensures c.begin-begin.ensures in
    let one = symbol_and_comma symbol_at _ _ _ _ _ _ c.in_ok-push-2.ensures.items c.symbol-in-loop-found.ensures place in
    record {
      reads = λ d p m k. state_is (c.loop-found.invariant.reads d p m k >> renamed a.0 >> (c.in_ok-local.ensures.reads d p m ss k (unlike a.0 a.1)).comes _ refl >> goes q refl refl) (ap (λ z. load_symbol p m z k) (sym one));
      shorter = omega (arith, c.loop-found.invariant.shorter, ap (λ ts. length ts.items) a.0, c.in_ok-local.ensures.shorter, ap length q.items);
    }
