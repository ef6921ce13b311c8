-- What a type is: its parts, or why an expression is none.
use Rattle.std.specs.Prelude.{ℕ, List, [], ◌∷◌, ◌++◌, codes, if◌then◌else◌, bytes_eq, Bool, true, false, Option, Some, None, Result, Ok, Err}
use Rattle.starlark_place.specs.Place.{Extent}
use Rattle.starlark_lexer.specs.declared.dialect.Dialect.{Dialect}
use Rattle.starlark_lexer.specs.declared.dialect.DialectTypes.{DialectTypes}
use Rattle.starlark_lexer.specs.declared.dialect.DialectTypes.TheVariants.{Disable}
use Rattle.starlark_ast.specs.declared.ast.BinOp.TheVariants.{BitOr}
use Rattle.starlark_ast.specs.Tree as t
use Rattle.starlark_ast.specs.Tree.{Leaf, Sign, Expr, Member, Members, Name, place}
use Rattle.starlark_rulebook.specs.Rules.{TypeFault, InvalidType, EmptyListInType, DotInType, ExpectingPath, DotTypeBan, TypesDisabled, TypeForm, Finding, breaks}

-- why an expression is no type, and where
pub data Misfit : Type 0 where
  misfit : TypeFault → Extent → Misfit

-- an identifier, and the attributes behind it
pub data Path : Type 0 where
  path : Name → List Name → Path

mutual
  -- A type. The last place is that of the whole expression.
  pub data Form : Type 0 where
    ellipsis_form : Extent → Form
    path_form : Path → Extent → Form
    -- an identifier and what stands in the brackets behind it
    index_form : Name → Form → Extent → Form
    -- a path with its place, and the two arguments in the brackets behind it
    index2_form : Path → Extent → Form → Form → Extent → Form
    -- a list, which only an argument may be
    list_form : Forms → Extent → Form
    union_form : Forms → Extent → Form
    tuple_form : Forms → Extent → Form

  pub data Forms : Type 0 where
    no_forms : Forms
    add_form : Forms → Form → Forms

-- what comes of a part, or its fault
abbrev pub from : {A B : Type 0} → (A → B) → Result A Misfit → Result B Misfit
from f (Ok a) = Ok (f a)
from f (Err e) = Err e

-- what comes of two parts, or the first fault
abbrev pub from_both : {A B C : Type 0} → (A → B → C) → Result A Misfit → Result B Misfit → Result C Misfit
from_both f (Ok a) r = from (f a) r
from_both f (Err e) r = Err e

-- a path with its place, and the arguments behind it
abbrev pub index2_of : Extent → Extent → Result Path Misfit → Result Form Misfit → Result Form Misfit → Result Form Misfit
index2_of u s (Err e) q r = Err e
index2_of u s (Ok p) q r = from_both (λ f g. index2_form p u f g s) q r

-- an expression that is no type, by the word of what it is
abbrev pub no_type : List ℕ → Extent → Result Form Misfit
no_type word s = Err (misfit (InvalidType word) s)

-- what the dots behind an expression stand on
abbrev pub root : Expr → Expr
root (t.dot x n u s) = root x
root x = x

-- the attributes behind the root
abbrev pub attributes : Expr → List Name
attributes (t.dot x n u s) = attributes x ++ (t.name_at n u ∷ [])
attributes x = []

abbrev pub dotted_text : List Name → List ℕ
dotted_text [] = []
dotted_text (t.name_at n s ∷ ns) = codes "." ++ n ++ dotted_text ns

-- Attributes and a last one on a root: a path where that is an identifier, unless the last is `type`.
abbrev pub dotted : Expr → List Name → List ℕ → Extent → Result Path Misfit
dotted (t.leaf (t.name n) u s) ns m v = if bytes_eq m (codes "type") then Err (misfit (DotTypeBan (n ++ dotted_text ns)) s) else Ok (path (t.name_at n u) (ns ++ (t.name_at m v ∷ [])))
dotted x ns m v = Err (misfit DotInType (place x))

-- An identifier, or dots on one.
abbrev pub path_of : Expr → Result Path Misfit
path_of (t.leaf (t.name n) u s) = Ok (path (t.name_at n u) [])
path_of (t.dot x n u s) = dotted (root x) (attributes x) n u
path_of x = Err (misfit ExpectingPath (place x))

abbrev pub leaf_form : Leaf → Extent → Extent → Result Form Misfit
leaf_form (t.name n) u s = Ok (path_form (path (t.name_at n u) []) s)
leaf_form t.ellipsis u s = Ok (ellipsis_form s)
leaf_form (t.int n) u s = no_type (codes "int") s
leaf_form (t.float n) u s = no_type (codes "float") s
leaf_form (t.string n) u s = no_type (codes "string literal") s
leaf_form (t.bytes n) u s = no_type (codes "bytes literal") s

abbrev pub sign_word : Sign → List ℕ
sign_word t.Not = codes "not"
sign_word t.Minus = codes "minus"
sign_word t.Plus = codes "plus"
sign_word t.BitNot = codes "bit not"

abbrev pub comprehension_word : Member → List ℕ
comprehension_word (t.pair x y) = codes "dict comprehension"
comprehension_word m = codes "list comprehension"

-- where an expression stands that should be a type
pub data Role : Type 0 where
  alone : Role
  -- as one of two in brackets behind a path, or in a list there: a list may stand so, too
  argument : Role

-- The parts of a type, or its first fault (docs/LANGUAGE.md, Rules).
abbrev mutual
  pub form_of : Role → Expr → Result Form Misfit
  form_of r (t.leaf l u s) = leaf_form l u s
  form_of r (t.dot x n u s) = from (λ p. path_form p s) (dotted (root x) (attributes x) n u)
  form_of r (t.tuple ms s) = from (λ fs. tuple_form fs s) (forms_of alone ms)
  form_of argument (t.list ms s) = from (λ fs. list_form fs s) (forms_of argument ms)
  form_of alone (t.list t.none s) = Err (misfit EmptyListInType s)
  form_of alone (t.list (t.more t.none m) s) = no_type (codes "list of 1 element") s
  form_of alone (t.list ms s) = from (λ fs. union_form fs s) (forms_of alone ms)
  form_of r (t.operation x BitOr y s) = from_both (λ f g. union_form (add_form (add_form no_forms f) g) s) (form_of alone x) (form_of alone y)
  form_of r (t.operation x o y s) = no_type (codes "bin op except `|`") s
  form_of r (t.index (t.leaf (t.name n) u v) (t.single y) s) = from (λ f. index_form (t.name_at n u) f s) (form_of alone y)
  form_of r (t.index x (t.single y) s) = no_type (codes "array indirection where array is not an identifier") s
  form_of r (t.index x (t.double y z) s) = index2_of (place x) s (path_of x) (form_of argument y) (form_of argument z)
  form_of r (t.index x (t.slice a b c) s) = no_type (codes "slice") s
  form_of r (t.dict ms s) = no_type (codes "dict") s
  form_of r (t.comprehension m cs s) = no_type (comprehension_word m) s
  form_of r (t.call x ms s) = no_type (codes "call") s
  form_of r (t.lambda ms x s) = no_type (codes "lambda") s
  form_of r (t.signed o x s) = no_type (sign_word o) s
  form_of r (t.choice x y z s) = no_type (codes "if") s
  form_of r (t.fstring f u ms v s) = no_type (codes "f-string") s

  pub forms_of : Role → Members → Result Forms Misfit
  forms_of r t.none = Ok no_forms
  forms_of r (t.more ms (t.item x)) = from_both add_form (forms_of r ms) (form_of r x)
  forms_of r (t.more ms m) = forms_of r ms

-- The parts of a type, or its first fault.
abbrev pub type_form : Expr → Result Form Misfit
type_form x = form_of alone x

abbrev pub misfit_finding : Misfit → Finding
misfit_finding (misfit f s) = breaks (TypeForm f) s

abbrev pub form_fault : Result Form Misfit → Option Finding
form_fault (Ok f) = None
form_fault (Err e) = Some (misfit_finding e)

-- The first fault of a type.
abbrev pub first_type_fault : Expr → Option Finding
first_type_fault x = form_fault (type_form x)

abbrev pub has_types : DialectTypes → Bool
has_types Disable = false
has_types _ = true

-- What a type breaks at once: `TypesDisabled` where they are off, else its first fault.
abbrev pub type_fault : Dialect → Expr → Option Finding
type_fault d x = if has_types d.enable_types then first_type_fault x else Some (breaks TypesDisabled (place x))
