-- What is answered for a refusal.
use Rattle.std.proofs.Common.{◌≡◌, ℕ, List, Option, Some, None, IfSome, refl, subst}
use Rattle.starlark_place.specs.Place.{File, Holds}
use Rattle.starlark_lexer.specs.declared.dialect.Dialect.{Dialect}
use Rattle.starlark_parser.specs.declared.fault.EvalException.{EvalException}
use Rattle.starlark_parser.specs.declared.fault.EvalException.TheVariants as exception
use Rattle.starlark_grammar.specs.Language.{Fault, IsRefused, place_of}
use Rattle.starlark_completion.specs.GoesOn.{IsRefusedText}
use Rattle.starlark_parser.specs.Faults.{Tells, IsFault}

told : (d : Dialect) (m : File) (o : Option Fault) (e : EvalException) → Tells o m e → ((f : Fault) → o ≡ Some f → IsRefusedText d m.source f) → IsFault d m e
told d m (Some f) (exception.Fault w) t h = record { fault = f; refused = h f refl; shown = t }
told d m None (exception.Fault w) t h = absurd t
told d m o exception.TooLong t h = tt
told d m o exception.Memory t h = tt

-- a text is refused for the reason that is told
pub fault_told : (d : Dialect) (file m : File) (text : List ℕ) (o : Option Fault) (e : EvalException) → m ≡ file → text ≡ m.source → Tells o m e → ((f : Fault) → o ≡ Some f → IsRefusedText d text f) → IsFault d file e
fault_told d file m text o e q w t h = subst (λ z. IsFault d z e) q (told d m o e t (λ f v. subst (λ z. IsRefusedText d z f) w (h f v)))

-- the place of that reason lies in the text
pub fault_held : (d : Dialect) (text source : List ℕ) (o : Option Fault) → text ≡ source → ((f : Fault) → o ≡ Some f → IsRefused d text f) → ((f : Fault) → IsRefused d text f → Holds text (place_of f)) → IfSome o (λ f. Holds source (place_of f))
fault_held d text source None w h k = tt
fault_held d text source (Some f) w h k = subst (λ z. Holds z (place_of f)) w (k f (h f refl))
