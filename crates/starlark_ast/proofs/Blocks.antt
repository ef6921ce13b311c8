-- How large a statement is; what is printed of statements, one behind the other.
use Rattle.std.proofs.Common.{ℕ, zero, suc, ◌+◌, ◌<◌, ◌≤◌, ◌≡◌, true, sym, ap, ◌∙◌, refl, List, [], ◌∷◌, ◌++◌, Option, length, take, drop, take-append-drop, get_or, fold, codes, arith}
use Rattle.std.proofs.lemmas.List.{take_more}
use Rattle.std.proofs.lemmas.List.Sums.{fold-append}
use Rattle.std.specs.Fmt.{HasWritten, IsPlainFormatter}
use Rattle.std.specs.declared.fmt.Formatter.{Formatter}
use Rattle.starlark_place.specs.Place.{Extent}
use Rattle.starlark_place.specs.declared.pos.Spanned.{Spanned}
use Rattle.starlark_ast.specs.Printing.{blanks, result_text, symbols_text, symbol_text, sequence_text, statement_text}
use Rattle.starlark_ast.specs.Shown.{type_behind}
use Rattle.starlark_ast.specs.StatementViews.{statements_of, stmt_view-Break, stmt_view-Continue, stmt_view-Pass, stmt_view-Return, stmt_view-Expression, stmt_view-Assign, stmt_view-AssignModify, stmt_view-Statements, stmt_view-If, stmt_view-IfElse, stmt_view-For, stmt_view-Def, stmt_view-Load, view-def, view-for}
use Rattle.starlark_ast.specs.Tree as t
use Rattle.starlark_ast.specs.Tree.{Annotation, Symbols, Symbol, Statement, Sequence}
use Rattle.starlark_ast.specs.View.{comma_at, ident_at, stmt_at, stmt_view, symbols, text_at}
use Rattle.starlark_ast.specs.declared.ast.DefP.{DefP}
use Rattle.starlark_ast.specs.declared.ast.ForP.{ForP}
use Rattle.starlark_ast.specs.declared.ast.LoadArgP.{LoadArgP}
use Rattle.starlark_ast.specs.declared.ast.StmtP.{StmtP, StmtP-F, out-StmtP, roll-StmtP, roll-out-StmtP}
use Rattle.starlark_ast.specs.declared.ast.StmtP.TheOpen as layer
use Rattle.starlark_ast.specs.declared.ast.StmtP.TheVariants as variant
use Rattle.starlark_ast.proofs.Anywhere.{by_variant}
use Rattle.starlark_ast.proofs.Written.{reads_as, then_writes}

-- more than all statements in it together
abbrev mutual
  pub statement_size : Statement → ℕ
  statement_size (t.when c a s) = 3 + statement_size a
  statement_size (t.either c a b s) = 3 + (statement_size a + statement_size b)
  statement_size (t.repeat x y a s) = 3 + statement_size a
  statement_size (t.define n ps r a s) = 3 + statement_size a
  statement_size (t.block ss s) = 1 + sequence_size ss
  statement_size _ = 0

  pub sequence_size : Sequence → ℕ
  sequence_size t.no_statements = 0
  sequence_size (t.add_statement ss s) = 1 + (sequence_size ss + statement_size s)

-- one level more
one_level : (d : ℕ) → blanks d ++ codes "  " ≡ blanks (suc d)
one_level zero = refl
one_level (suc d) = ap (λ q. 32 ∷ 32 ∷ q) (one_level d)

pub blanks_more : (d : ℕ) → blanks d ++ codes "  " ≡ blanks (d + 1)
blanks_more d =
    let next : suc d ≡ d + 1 = omega arith in
    one_level d ∙ ap blanks next

-- the type of a result
pub results_same : (a : Annotation) → type_behind (codes " -> ") a ≡ result_text a
results_same t.untyped = refl
results_same (t.typed x s) = refl

-- ---- symbols

-- what stands before the next of some symbols
abbrev pub symbol_separator : Symbols → List ℕ
symbol_separator t.no_symbols = []
symbol_separator (t.add_symbol ss x c) = codes ", "

one_symbol_more : (ss : Symbols) (x : Symbol) (c : Option Extent) → symbols_text ss ++ symbol_separator ss ++ symbol_text x ≡ symbols_text (t.add_symbol ss x c)
one_symbol_more t.no_symbols x c = refl
one_symbol_more (t.add_symbol ss y d) x c = refl

module _ {P L I A D T : Type 0} where
  abbrev bound : LoadArgP P L I A D T → Symbol
  bound x = t.symbol (ident_at x.local) (text_at x.their)

  symbols_more : (xs : List (LoadArgP P L I A D T)) (i : ℕ) (x : LoadArgP P L I A D T) → i < length xs → x ≡ get_or xs i x → symbols (take (i + 1) xs) ≡ t.add_symbol (symbols (take i xs)) (bound x) (comma_at x.comma)
  symbols_more xs i x below is = ap symbols (take_more xs i x below) ∙ fold-append (λ ss y. t.add_symbol ss (bound y) (comma_at y.comma)) t.no_symbols (take i xs) (get_or xs i x ∷ []) ∙ ap (λ y. t.add_symbol (symbols (take i xs)) (bound y) (comma_at y.comma)) (sym is)

  pub comma_before_next_symbol : (xs : List (LoadArgP P L I A D T)) (i : ℕ) (x : LoadArgP P L I A D T) → i < length xs → x ≡ get_or xs i x → codes ", " ≡ symbol_separator (symbols (take (i + 1) xs))
  comma_before_next_symbol xs i x below is = sym (ap symbol_separator (symbols_more xs i x below is))

  -- one more symbol behind those that are written
  pub symbol_written : {W : Type 0} {took : W → List ℕ → W → Type 0} (xs : List (LoadArgP P L I A D T)) (i : ℕ) (x : LoadArgP P L I A D T) → i < length xs → x ≡ get_or xs i x → {f l g k : Formatter W} {sep : List ℕ} → sep ≡ symbol_separator (symbols (take i xs)) → HasWritten took f (symbols_text (symbols (take i xs))) l → (IsPlainFormatter l → true ≡ true → HasWritten took l sep g) → (IsPlainFormatter g → true ≡ true → HasWritten took g (symbol_text (bound x)) k) → HasWritten took f (symbols_text (symbols (take (i + 1) xs))) k
  symbol_written xs i x below is e p q r = reads_as (ap (λ s. symbols_text (symbols (take i xs)) ++ s ++ symbol_text (bound x)) e ∙ one_symbol_more (symbols (take i xs)) (bound x) (comma_at x.comma) ∙ sym (ap symbols_text (symbols_more xs i x below is))) (then_writes (then_writes p q) r)

-- ---- statements

-- what counts of a statement
abbrev seen : Statement → (ℕ → List ℕ) × ℕ
seen x = (λ d. statement_text d x, statement_size x)

module _ {P L I A D T : Type 0} where
  statement_layer : (y : StmtP-F P L I A D T (StmtP P L I A D T) (DefP P L I A D T) (ForP P L I A D T)) (s u : Extent) → seen (stmt_view (roll-StmtP P L I A D T y) s) ≡ seen (stmt_view (roll-StmtP P L I A D T y) u)
  statement_layer layer.Break = by_variant seen stmt_view _ variant.rolls-Break (stmt_view-Break P L I A D T) (λ _ _. refl)
  statement_layer layer.Continue = by_variant seen stmt_view _ variant.rolls-Continue (stmt_view-Continue P L I A D T) (λ _ _. refl)
  statement_layer layer.Pass = by_variant seen stmt_view _ variant.rolls-Pass (stmt_view-Pass P L I A D T) (λ _ _. refl)
  statement_layer (layer.Return x) = by_variant seen stmt_view _ (variant.rolls-Return x) (stmt_view-Return x) (λ _ _. refl)
  statement_layer (layer.Expression x) = by_variant seen stmt_view _ (variant.rolls-Expression x) (stmt_view-Expression x) (λ _ _. refl)
  statement_layer (layer.Assign x) = by_variant seen stmt_view _ (variant.rolls-Assign x) (stmt_view-Assign x) (λ _ _. refl)
  statement_layer (layer.AssignModify x o y) = by_variant seen stmt_view _ (variant.rolls-AssignModify x o y) (stmt_view-AssignModify x o y) (λ _ _. refl)
  statement_layer (layer.Statements xs) = by_variant seen stmt_view _ (variant.rolls-Statements xs) (stmt_view-Statements xs) (λ _ _. refl)
  statement_layer (layer.If c x) = by_variant seen stmt_view _ (variant.rolls-If c x) (stmt_view-If c x) (λ _ _. refl)
  statement_layer (layer.IfElse c x) = by_variant seen stmt_view _ (variant.rolls-IfElse c x) (stmt_view-IfElse c x) (λ _ _. refl)
  statement_layer (layer.For x) = by_variant seen stmt_view _ (variant.rolls-For x) (λ s. stmt_view-For x s ∙ view-for x s) (λ _ _. refl)
  statement_layer (layer.Def x) = by_variant seen stmt_view _ (variant.rolls-Def x) (λ s. stmt_view-Def x s ∙ view-def x s) (λ _ _. refl)
  statement_layer (layer.Load x) = by_variant seen stmt_view _ (variant.rolls-Load x) (stmt_view-Load x) (λ _ _. refl)

  statement_seen : (x : StmtP P L I A D T) (s u : Extent) → seen (stmt_view x s) ≡ seen (stmt_view x u)
  statement_seen x s u = by_variant seen stmt_view (stmt_view (roll-StmtP P L I A D T (out-StmtP P L I A D T x))) (sym (roll-out-StmtP P L I A D T x)) (λ _. refl) (statement_layer (out-StmtP P L I A D T x)) s u

  -- what is printed is the same at each place, and so is the size
  pub statement_anywhere : (x : StmtP P L I A D T) (s u : Extent) (d : ℕ) → statement_text d (stmt_view x s) ≡ statement_text d (stmt_view x u)
  statement_anywhere x s u d = ap (λ q. q.0 d) (statement_seen x s u)

  pub statement_as_large : (x : StmtP P L I A D T) (s u : Extent) → statement_size (stmt_view x s) ≡ statement_size (stmt_view x u)
  statement_as_large x s u = ap (λ q. q.1) (statement_seen x s u)

  pub statements_more : (xs : List (Spanned (StmtP P L I A D T))) (i : ℕ) (x : Spanned (StmtP P L I A D T)) → i < length xs → x ≡ get_or xs i x → statements_of (take (i + 1) xs) ≡ t.add_statement (statements_of (take i xs)) (stmt_at x)
  statements_more xs i x below is = ap statements_of (take_more xs i x below) ∙ fold-append (λ ss y. t.add_statement ss (stmt_at y)) t.no_statements (take i xs) (get_or xs i x ∷ []) ∙ ap (λ y. t.add_statement (statements_of (take i xs)) (stmt_at y)) (sym is)

  pub statement_more : (d : ℕ) (xs : List (Spanned (StmtP P L I A D T))) (i : ℕ) (x : Spanned (StmtP P L I A D T)) → i < length xs → x ≡ get_or xs i x → sequence_text d (statements_of (take i xs)) ++ statement_text d (stmt_at x) ≡ sequence_text d (statements_of (take (i + 1) xs))
  statement_more d xs i x below is = sym (ap (sequence_text d) (statements_more xs i x below is))

  more_statements : (ss : Sequence) (xs : List (Spanned (StmtP P L I A D T))) → sequence_size ss ≤ sequence_size (fold (λ us y. t.add_statement us (stmt_at y)) ss xs)
  more_statements ss [] = omega arith
  more_statements ss (x ∷ xs) = omega (arith, more_statements (t.add_statement ss (stmt_at x)) xs)

  pub statement_is_less : (xs : List (Spanned (StmtP P L I A D T))) (i : ℕ) (x : Spanned (StmtP P L I A D T)) → i < length xs → x ≡ get_or xs i x → statement_size (stmt_at x) < sequence_size (statements_of xs)
  statement_is_less xs i x below is =
      let front : sequence_size (statements_of (take (i + 1) xs)) ≡ 1 + (sequence_size (statements_of (take i xs)) + statement_size (stmt_at x)) = ap sequence_size (statements_more xs i x below is) in
      let whole : sequence_size (statements_of xs) ≡ sequence_size (fold (λ us y. t.add_statement us (stmt_at y)) (statements_of (take (i + 1) xs)) (drop (i + 1) xs)) = ap (λ ys. sequence_size (statements_of ys)) (sym (take-append-drop (i + 1) xs)) ∙ ap sequence_size (fold-append (λ us y. t.add_statement us (stmt_at y)) t.no_statements (take (i + 1) xs) (drop (i + 1) xs)) in
      omega (arith, front, whole, more_statements (statements_of (take (i + 1) xs)) (drop (i + 1) xs))
