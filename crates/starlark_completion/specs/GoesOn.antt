-- How a text goes on, and what a refusal for syntax leaves: the section "Refusals" of docs/LANGUAGE.md.
use Rattle.std.specs.Prelude.{ℕ, ◌≡◌, ◌++◌, List, None, take, IsAscii}
use Rattle.starlark_lexer.specs.Items.{Lexeme, Item, Lexed}
use Rattle.starlark_lexer.specs.Lex.{Lex, start}
use Rattle.starlark_lexer.specs.declared.dialect.Dialect.{Dialect}
use Rattle.starlark_ast.specs.Tree.{Statement}
use Rattle.starlark_grammar.specs.Grammar.{Derives}
use Rattle.starlark_grammar.specs.Language.{Fault, IsRefusal, IsRefused, the_lexer, a_token, the_end, a_rule, last_end, bare, without_comments}

-- Some text behind it makes a text that is cut without fault into tokens of Module, rules and length aside; the first of these tokens are w, places aside.
pub record CanGoOn (text : List ℕ) (w : List Item) : Type 0 where
  pub more : List ℕ
  -- each of its bytes is ASCII
  pub ascii : IsAscii more
  pub lexed : Lexed
  pub lexes : Lex start (text ++ more) lexed
  pub no_fault : lexed.fault ≡ None
  pub rest : List Lexeme
  pub keeps : bare (without_comments lexed.items) ≡ bare w ++ rest
  pub raw : Statement
  pub derives : Derives (without_comments lexed.items) raw

-- What is refused for syntax goes on from the end of the last token that was read, comments behind it left out, and keeps all tokens that were read.
abbrev pub GoesOnBefore : {dialect : Dialect} {l : Lexed} {f : Fault} → List ℕ → IsRefusal dialect l f → Type 0
GoesOnBefore text (the_lexer e w) = Unit {0}
GoesOnBefore text (a_token {w} e s) = CanGoOn (take (last_end 0 w) text) w
GoesOnBefore {l} text (the_end e s) = CanGoOn (take (last_end 0 l.items) text) l.items
GoesOnBefore text (a_rule e b) = Unit {0}

-- The first reason why the text is refused; and where it is one of syntax, the text before it goes on to a program that begins with its tokens.
pub record IsRefusedText (dialect : Dialect) (text : List ℕ) (f : Fault) : Type 0 where
  pub refused : IsRefused dialect text f
  pub goes_on : GoesOnBefore text refused.refusal
