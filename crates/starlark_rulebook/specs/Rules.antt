-- The rules on trees, and where one is broken.
use Rattle.std.specs.Prelude.{ℕ, List, [], ◌∷◌, Option, Some, None}
use Rattle.starlark_place.specs.Place.{Extent}

-- why an expression is no type
pub data TypeFault : Type 0 where
  -- the word of what it is
  InvalidType : List ℕ → TypeFault
  EmptyListInType : TypeFault
  DotInType : TypeFault
  ExpectingPath : TypeFault
  -- the path before `.type`
  DotTypeBan : List ℕ → TypeFault

pub data Rule : Type 0 where
  -- at once
  InvalidModifyLhs : Rule
  InvalidLhs : Rule
  TypeAnnotationOnAssignOp : Rule
  TypeAnnotationOnTupleAssign : Rule
  TypesDisabled : Rule
  TypeForm : TypeFault → Rule
  TrailingComma : Rule
  LoadIdentifier : Rule
  FStringConversion : Rule
  -- kept
  LoadRequiresTwo : Rule
  FStringsDisabled : Rule
  PositionalAfterNonPositional : Rule
  NamedAfterStar : Rule
  ArgsAfterStar : Rule
  MultipleKwargs : Rule
  RepeatedNamed : Rule
  -- late, on statements
  DefDisabled : Rule
  ForOutsideDef : Rule
  IfOutsideDef : Rule
  BreakOutsideFor : Rule
  ContinueOutsideFor : Rule
  ReturnOutsideDef : Rule
  LoadNotTop : Rule
  LoadDisabled : Rule
  -- late, on expressions
  EllipsisDisabled : Rule
  LambdaDisabled : Rule
  -- late, on parameters
  KeywordOnlyDisabled : Rule
  PositionalOnlyDisabled : Rule
  TooManyParameters : Rule
  SlashFirst : Rule
  DuplicatedName : Rule
  AfterKwargs : Rule
  RequiredAfterOptional : Rule
  ArgsAgain : Rule
  MultipleSlash : Rule
  KwargsAgain : Rule
  StarLast : Rule
  StarNotNamed : Rule

-- a rule, and where it is broken
pub data Finding : Type 0 where
  breaks : Rule → Extent → Finding

-- the first of two
abbrev pub first_of : {A : Type 0} → Option A → Option A → Option A
first_of None y = y
first_of (Some x) y = Some x

-- one finding, or none
abbrev pub listed : Option Finding → List Finding
listed None = []
listed (Some f) = f ∷ []

-- the first finding of a list
abbrev pub first_finding : List Finding → Option Finding
first_finding [] = None
first_finding (f ∷ fs) = Some f
