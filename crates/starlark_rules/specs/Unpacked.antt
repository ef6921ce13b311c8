-- What a call hands over: its arguments by their kinds.
use Rattle.std.specs.Prelude.{◌≡◌, Bool, true, false, if◌then◌else◌, List, [], ◌∷◌, ◌++◌, Option, Some, None}
use Rattle.std.specs.Option.{option_map}
use Rattle.std.specs.Borrow.{Bor}
use Rattle.starlark_place.specs.declared.pos.Spanned.{Spanned}
use Rattle.starlark_ast.specs.declared.ast.ArgumentP.{ArgumentP}
use Rattle.starlark_ast.specs.declared.ast.CallArgsP.{CallArgsP}
use Rattle.starlark_ast.specs.Tree as t
use Rattle.starlark_ast.specs.Tree.{Member, Members}
use Rattle.starlark_ast.specs.View.{argument_at, members}
use Rattle.starlark_rules.specs.declared.arguments.CallArgsUnpack.{CallArgsUnpack}

abbrev pub is_positional : Member → Bool
is_positional (t.positional x s) = true
is_positional m = false

abbrev pub is_named : Member → Bool
is_named (t.named n u x s) = true
is_named m = false

-- those that pass
abbrev pub only : (Member → Bool) → Members → Members
only f t.none = t.none
only f (t.more ms m) = if f m then t.more (only f ms) m else only f ms

-- it has one `*`
abbrev pub is_starred : Member → Bool
is_starred (t.args x s) = true
is_starred m = false

-- it has `**`
abbrev pub is_double_starred : Member → Bool
is_double_starred (t.kwargs x s) = true
is_double_starred m = false

-- the first that passes
abbrev pub first_that : {A : Type 0} → (A → Bool) → List A → Option A
first_that f [] = None
first_that f (x ∷ xs) = if f x then Some x else first_that f xs

module _ {P L I A D T : Type 0} where
  -- an argument that is lent, or none
  abbrev pub lent_argument : Option (Bor (Spanned (ArgumentP P L I A D T))) → Option (Spanned (ArgumentP P L I A D T))
  lent_argument x = option_map (λ y. y.now) x

  -- Arguments by their kinds: the positional ones, the named ones, and the first with `*` and with `**`.
  pub record AreByKind (args : List (Spanned (ArgumentP P L I A D T))) (u : CallArgsUnpack P L I A D T) : Type 0 where
    pub pos : members argument_at u.pos.now ≡ only is_positional (members argument_at args)
    pub named : members argument_at u.named.now ≡ only is_named (members argument_at args)
    pub star : lent_argument u.star ≡ first_that (λ x. is_starred (argument_at x)) args
    pub star_star : lent_argument u.star_star ≡ first_that (λ x. is_double_starred (argument_at x)) args
    -- the first two stand at the front, one behind the other
    pub front : (rest : List (Spanned (ArgumentP P L I A D T))) × (u.pos.now ++ u.named.now ++ rest ≡ args)

  -- those of a call
  abbrev pub Unpacks : CallArgsP P L I A D T → CallArgsUnpack P L I A D T → Type 0
  Unpacks x u = AreByKind x.args.items u
