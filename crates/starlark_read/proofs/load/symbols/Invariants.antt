use Rattle.std.proofs.Common.{ℕ, ◌≤◌, length}
use Rattle.starlark_lexer.specs.declared.dialect.Dialect.{Dialect}
use Rattle.starlark_ast.specs.Tree.{Name, no_symbols}
use Rattle.starlark_grammar.specs.Frames.{Line, load_symbol}
use Rattle.starlark_grammar.specs.Made.{symbol_at, symbols_of}
use Rattle.starlark_read.specs.Reads.{Goes}
use Rattle.starlark_read.proofs.load.symbols.Given as goal

abbrev pub invariant-loop-found : goal.invariant-loop-found
invariant-loop-found l = record {
  reads : (d : Dialect) (p : ℕ) (m : Name) (k : Line) → Goes d (load_symbol p m no_symbols k) l.fn.tokens (load_symbol p m (symbols_of symbol_at l.found.items) k) l.tokens;
  shorter : length l.tokens.items ≤ length l.fn.tokens.items;
}

abbrev pub decreases-loop-found : goal.decreases-loop-found
decreases-loop-found l = length l.tokens.items
