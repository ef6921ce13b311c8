-- What is in the language, and what a refusal says: the sections "What is in the language" and "Refusals" of docs/LANGUAGE.md. Tokens are those without comments, with the lexer's fault behind them where there is one.
use Rattle.std.specs.Prelude.{ℕ, ◌≡◌, ◌≢◌, ◌∷◌, ◌++◌, [], suc, if◌then◌else◌, Bool, true, false, List, Option, Some, None, map, length}
use Rattle.starlark_place.specs.Place.{Extent, extent}
use Rattle.starlark_grammar.specs.Spans.{stretch}
use Rattle.starlark_lexer.specs.Items.{Lexeme, comment, identifier, equal, Item, Stop, Lexed}
use Rattle.starlark_lexer.specs.Lex.{Lex, start}
use Rattle.starlark_lexer.specs.declared.token.LexemeError.{LexemeError}
use Rattle.starlark_lexer.specs.declared.dialect.Dialect.{Dialect}
use Rattle.starlark_ast.specs.Tree.{Expr, Statement}
use Rattle.starlark_rulebook.specs.Rules.{Finding, Rule, breaks}
use Rattle.starlark_grammar.specs.Events.{Event, Shape, after_bang, after_comma, after_symbol, end_finding, breaks_at_once, shape_finding, shaped}
use Rattle.starlark_grammar.specs.Tables.{conversion}
use Rattle.starlark_grammar.specs.Expressions.{Level}
use Rattle.starlark_grammar.specs.Grammar.{Derives}
use Rattle.starlark_grammar.specs.Marks.{mark, marks_in, Has, Late, Clean}

abbrev pub is_comment : Lexeme → Bool
is_comment (comment text) = true
is_comment _ = false

-- the tokens that the grammar speaks of
abbrev pub without_comments : List Item → List Item
without_comments [] = []
without_comments (x ∷ xs) = if is_comment x.lexeme then without_comments xs else x ∷ without_comments xs

abbrev pub uncommented : Lexed → Lexed
uncommented l = record { items = without_comments l.items; fault = l.fault }

-- the tokens are of Module with that tree, and no construct breaks a rule, at once or for the end
pub record IsProgram (dialect : Dialect) (u : List Item) (raw : Statement) : Type 0 where
  pub derives : Derives u raw
  pub clean : Clean dialect (marks_in derives)
  pub sound : end_finding dialect raw ≡ None

-- tokens of Module that begin with w, in which no construct that ends before w's last token breaks a rule at once
pub record IsViable (dialect : Dialect) (w : List Item) : Type 0 where
  pub rest : List Item
  pub raw : Statement
  pub derives : Derives (w ++ rest) raw
  pub late : Late dialect (length rest) (marks_in derives)

-- the tokens, places aside
abbrev pub bare : List Item → List Lexeme
bare u = map (λ x. x.lexeme) u

-- no tokens of Module begin with w and the first of rest; or, where rest is empty, w is not of Module
abbrev pub IsDead : List Item → List Item → Type 0
IsDead w [] = (u : List Item) (raw : Statement) → bare u ≡ bare w → Derives u raw → ⊥
IsDead w (x ∷ xs) = (u : List Item) (more : List Lexeme) (raw : Statement) → bare u ≡ bare w ++ x.lexeme ∷ more → Derives u raw → ⊥

-- in tokens of Module that begin with w and the first of rest, too, that construct ends with w's last token: none goes on
abbrev pub HasEnded : List Item → List Item → Event → Type 0
HasEnded w [] e = Unit {0}
HasEnded w (x ∷ xs) e = (more : List Item) (raw : Statement) (d : Derives (w ++ x ∷ more) raw) → Has (mark (suc (length more)) e) (marks_in d)

-- what a shape wants does not follow
abbrev pub Lacks : Shape → List Item → Type 0
Lacks k [] = Unit {0}
Lacks after_comma (x ∷ xs) = (a b : List Item) (q : Expr) (e : ℕ) → Level 12 (x ∷ a) b q e → ⊥
Lacks after_symbol (x ∷ xs) = x.lexeme ≢ equal
Lacks after_bang (x ∷ xs) = (n f : List ℕ) → x.lexeme ≡ identifier n → conversion n ≡ Some f → ⊥

-- a rule is broken by w and what stands behind it: tokens, and behind them a fault of the lexer where there is one
pub data Breaks (dialect : Dialect) (w rest : List Item) (stop : Option Stop) : Finding → Type 0 where
  -- a construct ends with w's last token
  at_once : (e : Event) {f : Finding} (v : IsViable dialect w) → Has (mark (length v.rest) e) (marks_in v.derives) → breaks_at_once dialect e ≡ Some f → HasEnded w rest e → Breaks dialect w rest stop f
  -- a shape ends with w's last token
  by_shape : (k : Shape) (s : Extent) (v : IsViable dialect w) → Has (mark (length v.rest) (shaped k s)) (marks_in v.derives) → Lacks k rest → Breaks dialect w rest stop (shape_finding k s rest)
  -- the end of a text that breaks no rule at once
  at_end : (raw : Statement) {f : Finding} (d : Derives w raw) → rest ≡ [] → stop ≡ None → Clean dialect (marks_in d) → end_finding dialect raw ≡ Some f → Breaks dialect w rest stop f

-- what is before rest goes on to tokens of Module, and with the first of rest no more; and no rule goes before that
pub record IsStuck (dialect : Dialect) (w rest : List Item) (stop : Option Stop) : Type 0 where
  pub viable : IsViable dialect w
  pub dead : IsDead w rest
  pub no_rule : (f : Finding) → Breaks dialect w rest stop f → ⊥

-- all tokens go on, and no rule goes before the fault behind them
pub record IsWaiting (dialect : Dialect) (w : List Item) (stop : Option Stop) : Type 0 where
  pub viable : IsViable dialect w
  pub no_rule : (f : Finding) → Breaks dialect w [] stop f → ⊥

-- the end of the last of the tokens, or d where there is none
abbrev pub last_end : ℕ → List Item → ℕ
last_end d [] = d
last_end d (x ∷ xs) = last_end x.end xs

-- why tokens are refused, and where
pub data Fault : Type 0 where
  by_lexer : LexemeError → Extent → Fault
  unexpected : Extent → Fault
  unexpected_end : ℕ → Fault
  by_rule : Rule → Extent → Fault

-- its place
abbrev pub place_of : Fault → Extent
place_of (by_lexer e s) = s
place_of (unexpected s) = s
place_of (unexpected_end n) = extent n n
place_of (by_rule r s) = s

-- the first reason why the tokens are refused
pub data IsRefusal (dialect : Dialect) (l : Lexed) : Fault → Type 0 where
  -- the lexer's fault, where all tokens before it go on
  the_lexer : {s : Stop} → l.fault ≡ Some s → IsWaiting dialect l.items l.fault → IsRefusal dialect l (by_lexer s.error (stretch s.begin s.end))
  -- the first token that cannot stand where it does
  a_token : {w more : List Item} {x : Item} → w ++ x ∷ more ≡ l.items → IsStuck dialect w (x ∷ more) l.fault → IsRefusal dialect l (unexpected (stretch x.begin x.end))
  -- the end, where the tokens are no program yet
  the_end : l.fault ≡ None → IsStuck dialect l.items [] None → IsRefusal dialect l (unexpected_end (last_end 0 l.items))
  -- a rule that what was read breaks
  a_rule : {w rest : List Item} {r : Rule} {s : Extent} → w ++ rest ≡ l.items → Breaks dialect w rest l.fault (breaks r s) → IsRefusal dialect l (by_rule r s)

-- the tokens are a program, or refused
pub data Decision (dialect : Dialect) (l : Lexed) : Type 0 where
  is_program : (raw : Statement) → l.fault ≡ None → IsProgram dialect l.items raw → Decision dialect l
  is_refused : (f : Fault) → IsRefusal dialect l f → Decision dialect l

-- what is before rest goes on to tokens of Module, and with the first of rest no more, rules aside
pub record IsEnd (w rest : List Item) : Type 0 where
  pub more : List Item
  pub raw : Statement
  pub derives : Derives (w ++ more) raw
  pub dead : IsDead w rest

-- the tokens are cut there
pub record EndsAt (u rest : List Item) : Type 0 where
  pub before : List Item
  pub parts : before ++ rest ≡ u
  pub is_end : IsEnd before rest

-- ---- texts

-- The text is in the language of that dialect, with that tree: its lexemes without comments derive a tree of Module, and no rule is broken.
pub record Language (dialect : Dialect) (text : List ℕ) (tree : Statement) : Type 0 where
  pub lexed : Lexed
  pub lexes : Lex start text lexed
  pub no_fault : lexed.fault ≡ None
  pub program : IsProgram dialect (without_comments lexed.items) tree

-- the first reason why the text is refused
pub record IsRefused (dialect : Dialect) (text : List ℕ) (f : Fault) : Type 0 where
  pub lexed : Lexed
  pub lexes : Lex start text lexed
  pub refusal : IsRefusal dialect (uncommented lexed) f
