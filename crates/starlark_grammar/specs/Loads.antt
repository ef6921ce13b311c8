-- The grammar of loads (docs/LANGUAGE.md, Grammar). What the relations and letters stand for: Expressions.
use Rattle.std.specs.Prelude.{ℕ, List, ◌∷◌, Some, None}
use Rattle.starlark_grammar.specs.Spans.{stretch}
use Rattle.starlark_lexer.specs.Items.{Item, item, identifier, string, comma, equal, opening_round, closing_round}
use Rattle.starlark_ast.specs.Tree.{Name, Symbol, Symbols, add_symbol, name_at, no_symbols, symbol}

-- Ident "=" String | String
pub data OneSymbol : List Item → List Item → Symbol → Type 0 where
  own_name : {n : List ℕ} {i j : ℕ} {a : List Item} → OneSymbol (item i (string n) j ∷ a) a (symbol (name_at n (stretch i j)) (name_at n (stretch i j)))
  other_name : {n m : List ℕ} {g h i j k l : ℕ} {a : List Item} → OneSymbol (item g (identifier n) h ∷ item i equal j ∷ item k (string m) l ∷ a) a (symbol (name_at n (stretch g h)) (name_at m (stretch k l)))

-- symbols, each with the comma behind it
pub data SomeSymbols : List Item → List Item → Symbols → Type 0 where
  no_symbol : {a : List Item} → SomeSymbols a a no_symbols
  next_symbol : {i j : ℕ} {a b c : List Item} {ss : Symbols} {s : Symbol} → SomeSymbols a b ss → OneSymbol b (item i comma j ∷ c) s → SomeSymbols a c (add_symbol ss s (Some (stretch i j)))

-- "(" String [","] ")" | "(" String "," Sym ("," Sym)* [","] ")"
pub data Load : List Item → List Item → Name → Symbols → ℕ → Type 0 where
  alone : {n : List ℕ} {g h i j k l : ℕ} {a : List Item} → Load (item g opening_round h ∷ item i (string n) j ∷ item k closing_round l ∷ a) a (name_at n (stretch i j)) no_symbols l
  with_comma : {n : List ℕ} {g h i j k l e f : ℕ} {a b : List Item} {ss : Symbols} → SomeSymbols a (item e closing_round f ∷ b) ss → Load (item g opening_round h ∷ item i (string n) j ∷ item k comma l ∷ a) b (name_at n (stretch i j)) ss f
  without_comma : {n : List ℕ} {g h i j k l e f : ℕ} {a b c : List Item} {ss : Symbols} {s : Symbol} → SomeSymbols a b ss → OneSymbol b (item e closing_round f ∷ c) s → Load (item g opening_round h ∷ item i (string n) j ∷ item k comma l ∷ a) c (name_at n (stretch i j)) (add_symbol ss s None) f
