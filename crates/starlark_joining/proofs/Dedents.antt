-- A Dedent stands only where a line may begin, and a line may begin behind it.
use Rattle.std.proofs.Common.{ℕ, ◌≡◌, ◌⊎◌, None, refl, inl, inr, sym, subst}
use Rattle.starlark_lexer.specs.Items.{dedent}
use Rattle.starlark_ast.specs.Tree as tree
use Rattle.starlark_ast.specs.Tree.{add_statement, no_statements}
use Rattle.starlark_grammar.specs.Nodes.{block_of}
use Rattle.starlark_grammar.specs.Frames.{Blocks, outer, inner, line, State, has, stands, at_line, behind_for, behind_if, wants_small, behind_small}
use Rattle.starlark_grammar.specs.Machine.{begin_line, move}
use Rattle.starlark_joining.proofs.Rows.{Row, row_line, row_for, row_if, row_indent, RowOr, close_row}
use Rattle.starlark_grammar.proofs.Dedents.{else_none, feed_none, goes_none, opened_none, perhaps_none, small_none}

pub dedent_stands : (s : State) (i j : ℕ) → (move s dedent i j ≡ None) ⊎ ((e : ℕ) × Row e s)
dedent_stands (has q e k) i j = inl (feed_none k q e i j)
dedent_stands (stands p k) i j = inl (else_none _ _ (goes_none p i j k) (else_none _ _ (perhaps_none p i j k) (opened_none p i j k)))
dedent_stands (at_line k e) i j = inr (e, row_line)
dedent_stands (behind_for l k e) i j = inr (e, row_for)
dedent_stands (behind_if q s p e k) i j = inr (e, row_if)
dedent_stands (behind_small s k) i j = inl (small_none k s j)
dedent_stands (wants_small (line done k)) i j = inl refl
dedent_stands _ i j = inl refl

block_row : (k : Blocks) (e i j : ℕ) → RowOr j (begin_line k e dedent i j)
block_row (outer ss) e i j = tt
block_row (inner no_statements k) e i j = tt
block_row (inner (add_statement ss s) k) e i j = close_row k (block_of (add_statement ss s) e) j

pub dedent_row : (s : State) (i j : ℕ) → RowOr j (move s dedent i j)
dedent_row s i j = by (dedent_stands s i j)
  where
    at_row : {e : ℕ} {u : State} → Row e u → RowOr j (move u dedent i j)
    at_row {e} (row_line {k}) = block_row k e i j
    at_row {e} (row_for {k}) = block_row k e i j
    at_row {e} row_if = block_row _ e i j
    at_row row_indent = tt

    by : (move s dedent i j ≡ None) ⊎ ((e : ℕ) × Row e s) → RowOr j (move s dedent i j)
    by (inl n) = subst (RowOr j) (sym n) tt
    by (inr r) = at_row r.1
