-- The text before what is refused for syntax goes on.
use Rattle.std.proofs.Common.{ℕ, ◌≡◌, ◌++◌, ◌∷◌, [], List, take, append-nil}
use Rattle.starlark_lexer.specs.Items.{Item, Lexed}
use Rattle.starlark_lexer.specs.Lex.{Lex, start}
use Rattle.starlark_lexer.specs.declared.dialect.Dialect.{Dialect}
use Rattle.starlark_grammar.specs.Language.{Fault, IsRefusal, IsRefused, IsViable, the_lexer, a_token, the_end, a_rule, last_end, uncommented, without_comments}
use Rattle.starlark_completion.specs.GoesOn.{CanGoOn, GoesOnBefore, IsRefusedText}

module _ (law : (dialect : Dialect) (text : List ℕ) (l : Lexed) (w rest : List Item) → Lex start text l → w ++ rest ≡ without_comments l.items → IsViable dialect w → CanGoOn (take (last_end 0 w) text) w) where
  before : (dialect : Dialect) (text : List ℕ) (l : Lexed) (f : Fault) → Lex start text l → (r : IsRefusal dialect (uncommented l) f) → GoesOnBefore text r
  before dialect text l f lex (the_lexer e w) = tt
  before dialect text l f lex (a_token {w} {more} {x} e s) = law dialect text l w (x ∷ more) lex e s.viable
  before dialect text l f lex (the_end e s) = law dialect text l (without_comments l.items) [] lex (append-nil (without_comments l.items)) s.viable
  before dialect text l f lex (a_rule e b) = tt

  pub refused_text : (dialect : Dialect) (text : List ℕ) (f : Fault) → IsRefused dialect text f → IsRefusedText dialect text f
  refused_text dialect text f r = record { refused = r; goes_on = before dialect text r.lexed f r.lexes r.refusal }
