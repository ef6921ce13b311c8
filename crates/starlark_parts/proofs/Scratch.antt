-- A text of the language is not refused when it is read again.
use Rattle.std.proofs.Common.{◌≡◌, List, ℕ, subst}
use Rattle.std.specs.Prelude.{Err, IfErr, Result}
use Rattle.starlark_place.specs.Place.{File}
use Rattle.starlark_place.specs.declared.diagnostic.WithDiagnostic.{WithDiagnostic}
use Rattle.starlark_lexer.specs.declared.dialect.Dialect.{Dialect}
use Rattle.starlark_ast.specs.Tree.{Statement}
use Rattle.starlark_grammar.specs.Language.{Fault, IsRefused, Language}
use Rattle.starlark_parser.specs.Faults.{IsFault}
use Rattle.starlark_parser.specs.declared.fault.EvalException.{EvalException}
use Rattle.starlark_parser.specs.declared.fault.EvalException.TheVariants as exception
use Rattle.starlark_parser.specs.declared.fault.ParserError.{ParserError}
use Rattle.starlark_parser.specs.declared.module.AstModule.{AstModule}

pub no_fault : (d : Dialect) (file : File) (r : Result AstModule EvalException) (e : EvalException) (w : WithDiagnostic ParserError) → r ≡ Err e → e ≡ exception.Fault w → IfErr r (λ x. IsFault d file x) → (tree : Statement) → Language d file.source tree
    → ((dialect : Dialect) (text : List ℕ) (tree : Statement) (f : Fault) → Language dialect text tree → IsRefused dialect text f → ⊥) → ⊥
no_fault d file r e w q p h tree l none =
    let a : IsFault d file (exception.Fault w) = subst (λ (x : EvalException). IsFault d file x) p (subst (λ (s : Result AstModule EvalException). IfErr s (λ x. IsFault d file x)) q h) in
    none d file.source tree a.fault l a.refused.refused
