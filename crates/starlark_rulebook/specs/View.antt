-- The rules of the code as the plain ones.
use Rattle.std.specs.Prelude.{◌≡◌, ℕ, List, [], Option, Some, None, string_bytes}
use Rattle.starlark_place.specs.Diagnostic.{inner_of, span_of, frames_of}
use Rattle.starlark_place.specs.Place.{File, file_place, Holds}
use Rattle.starlark_place.specs.declared.diagnostic.Refusal.{Refusal}
use Rattle.starlark_place.specs.declared.diagnostic.Refusal.TheVariants.{Fault, Memory}
use Rattle.starlark_place.specs.declared.diagnostic.WithDiagnostic.{WithDiagnostic}
use Rattle.starlark_place.specs.declared.pos.Spanned.{Spanned}
use Rattle.starlark_rulebook.specs.declared.rule.Rule.{Rule as CodeRule}
use Rattle.starlark_rulebook.specs.declared.rule.Rule.TheVariants as rule
use Rattle.starlark_rulebook.specs.declared.rule.TypeExprUnpackError.{TypeExprUnpackError}
use Rattle.starlark_rulebook.specs.declared.rule.TypeExprUnpackError.TheVariants as error
use Rattle.starlark_rulebook.specs.Rules as r
use Rattle.starlark_rulebook.specs.Rules.{TypeFault, Rule, Finding, breaks}

abbrev pub type_fault_view : TypeExprUnpackError → TypeFault
type_fault_view (error.InvalidType word) = r.InvalidType word.now
type_fault_view error.EmptyListInType = r.EmptyListInType
type_fault_view error.DotInType = r.DotInType
type_fault_view error.ExpectingPath = r.ExpectingPath
type_fault_view (error.DotTypeBan path) = r.DotTypeBan (string_bytes path)

abbrev pub rule_view : CodeRule → Rule
rule_view rule.InvalidModifyLhs = r.InvalidModifyLhs
rule_view rule.InvalidLhs = r.InvalidLhs
rule_view rule.TypeAnnotationOnAssignOp = r.TypeAnnotationOnAssignOp
rule_view rule.TypeAnnotationOnTupleAssign = r.TypeAnnotationOnTupleAssign
rule_view rule.TypesDisabled = r.TypesDisabled
rule_view (rule.TypeForm e) = r.TypeForm (type_fault_view e)
rule_view rule.TrailingComma = r.TrailingComma
rule_view rule.LoadIdentifier = r.LoadIdentifier
rule_view rule.FStringConversion = r.FStringConversion
rule_view rule.LoadRequiresTwo = r.LoadRequiresTwo
rule_view rule.FStringsDisabled = r.FStringsDisabled
rule_view rule.PositionalAfterNonPositional = r.PositionalAfterNonPositional
rule_view rule.NamedAfterStar = r.NamedAfterStar
rule_view rule.ArgsAfterStar = r.ArgsAfterStar
rule_view rule.MultipleKwargs = r.MultipleKwargs
rule_view rule.RepeatedNamed = r.RepeatedNamed
rule_view rule.DefDisabled = r.DefDisabled
rule_view rule.ForOutsideDef = r.ForOutsideDef
rule_view rule.IfOutsideDef = r.IfOutsideDef
rule_view rule.BreakOutsideFor = r.BreakOutsideFor
rule_view rule.ContinueOutsideFor = r.ContinueOutsideFor
rule_view rule.ReturnOutsideDef = r.ReturnOutsideDef
rule_view rule.LoadNotTop = r.LoadNotTop
rule_view rule.LoadDisabled = r.LoadDisabled
rule_view rule.EllipsisDisabled = r.EllipsisDisabled
rule_view rule.LambdaDisabled = r.LambdaDisabled
rule_view rule.KeywordOnlyDisabled = r.KeywordOnlyDisabled
rule_view rule.PositionalOnlyDisabled = r.PositionalOnlyDisabled
rule_view rule.TooManyParameters = r.TooManyParameters
rule_view rule.SlashFirst = r.SlashFirst
rule_view rule.DuplicatedName = r.DuplicatedName
rule_view rule.AfterKwargs = r.AfterKwargs
rule_view rule.RequiredAfterOptional = r.RequiredAfterOptional
rule_view rule.ArgsAgain = r.ArgsAgain
rule_view rule.MultipleSlash = r.MultipleSlash
rule_view rule.KwargsAgain = r.KwargsAgain
rule_view rule.StarLast = r.StarLast
rule_view rule.StarNotNamed = r.StarNotNamed

-- a rule at its place
abbrev pub finding_of : Spanned CodeRule → Finding
finding_of x = breaks (rule_view x.node) x.span

abbrev pub maybe_finding : Option (Spanned CodeRule) → Option Finding
maybe_finding None = None
maybe_finding (Some x) = Some (finding_of x)

-- The place of what is found, if anything is, lies in the text and cuts no character.
abbrev pub IsPlaced : List ℕ → Option Finding → Type 0
IsPlaced text None = Unit {0}
IsPlaced text (Some (breaks r s)) = Holds text s

-- A fault that says what is found, at its place, and no calls.
abbrev pub Says : Option Finding → File → WithDiagnostic CodeRule → Type 0
Says None file w = ⊥
Says (Some (breaks r s)) file w = (rule_view (inner_of w) ≡ r) × (span_of w ≡ Some (file_place file s)) × (frames_of w ≡ [])

-- A refusal for what is found, unless memory ran out.
abbrev pub RefusesFor : Option Finding → File → Refusal CodeRule → Type 0
RefusesFor found file (Fault w) = Says found file w
RefusesFor found file Memory = Unit {0}
