-- The definitions of rules at some trees.
use Rattle.std.proofs.Common.{◌≡◌, [], ◌∷◌, refl, Some, None, Ok}
use Rattle.std.specs.Prelude.{ℕ, ◌+◌, pos, codes}
use Rattle.starlark_place.specs.Place.{extent}
use Rattle.starlark_lexer.specs.Items.{small}
use Rattle.starlark_lexer.specs.Dialects.{standard, extended}
use Rattle.starlark_ast.specs.declared.ast.AssignOp.TheVariants.{Add}
use Rattle.starlark_ast.specs.Tree as t
use Rattle.starlark_ast.specs.Tree.{Expr, Member, Members}
use Rattle.starlark_rules.specs.declared.def.DefRegularParamMode.TheVariants.{PosOnly, PosOrName, NameOnly}
use Rattle.starlark_rulebook.specs.Rules as r
use Rattle.starlark_rulebook.specs.Rules.{breaks}
use Rattle.starlark_rulebook.specs.Targets.{target_fault, assignment_fault}
use Rattle.starlark_rulebook.specs.Calls.{first_call_fault}
use Rattle.starlark_rulebook.specs.Types.{type_form, first_type_fault, index_form, path_form, path}
use Rattle.starlark_rulebook.specs.Parameters.{first_parameter_fault}
use Rattle.starlark_rules.specs.ParameterKinds.{params_of, indices_of, param, regular, kwargs_kind}
use Rattle.starlark_rulebook.specs.Kept.{kept_rules}
use Rattle.starlark_rulebook.specs.Late.{late_rules}

-- a name of one letter
abbrev name : ℕ → ℕ → Expr
name c i = t.leaf (t.name (c ∷ [])) (extent i (i + 1)) (extent i (i + 1))

abbrev digit : ℕ → Expr
digit i = t.leaf (t.int (small (pos 1))) (extent i (i + 1)) (extent i (i + 1))

-- a plain parameter without default
abbrev plain : ℕ → ℕ → Member
plain c i = t.parameter t.plain (c ∷ []) (extent i (i + 1)) t.untyped t.absent (extent i (i + 1))

-- f(a=1, 2)
positional_behind_named : first_call_fault (t.more (t.more t.none (t.named (codes "a") (extent 2 3) (digit 4) (extent 2 5))) (t.positional (digit 7) (extent 7 8))) ≡ Some (breaks r.PositionalAfterNonPositional (extent 7 8))
positional_behind_named = refl

-- f(a=1, b=1, a=1)
name_behind_another : first_call_fault (t.more (t.more (t.more t.none (t.named (codes "a") (extent 2 3) (digit 4) (extent 2 5))) (t.named (codes "b") (extent 7 8) (digit 9) (extent 7 10))) (t.named (codes "a") (extent 12 13) (digit 14) (extent 12 15))) ≡ Some (breaks r.RepeatedNamed (extent 12 13))
name_behind_another = refl

-- f(1, a=1, *b, **c)
call : first_call_fault (t.more (t.more (t.more (t.more t.none (t.positional (digit 2) (extent 2 3))) (t.named (codes "a") (extent 5 6) (digit 7) (extent 5 8))) (t.args (name 98 11) (extent 10 12))) (t.kwargs (name 99 16) (extent 14 17))) ≡ None
call = refl

-- def f(a, /, b, *, c=1, **d)
abbrev parameters : Members
parameters = t.more (t.more (t.more (t.more (t.more (t.more t.none (plain 97 6)) (t.slash (extent 9 10))) (plain 98 12)) (t.no_args (extent 15 16))) (t.parameter t.plain (codes "c") (extent 18 19) t.untyped (t.present (digit 20)) (extent 18 21))) (t.parameter t.double_starred (codes "d") (extent 25 26) t.untyped t.absent (extent 23 26))

whole_parameters : first_parameter_fault parameters ≡ None
whole_parameters = refl

their_indices : indices_of parameters ≡ record { num_positional = 2; num_positional_only = 1; args = None; kwargs = Some 3 }
their_indices = refl

their_kinds : params_of parameters ≡ param (t.name_at (codes "a") (extent 6 7)) (regular PosOnly t.absent) t.untyped (extent 6 7) ∷ param (t.name_at (codes "b") (extent 12 13)) (regular PosOrName t.absent) t.untyped (extent 12 13) ∷ param (t.name_at (codes "c") (extent 18 19)) (regular NameOnly (t.present (digit 20))) t.untyped (extent 18 21) ∷ param (t.name_at (codes "d") (extent 25 26)) kwargs_kind t.untyped (extent 23 26) ∷ []
their_kinds = refl

-- def f(*)
star_at_the_end : first_parameter_fault (t.more t.none (t.no_args (extent 6 7))) ≡ Some (breaks r.StarLast (extent 6 7))
star_at_the_end = refl

-- def f(*, **k)
star_without_a_name : first_parameter_fault (t.more (t.more t.none (t.no_args (extent 6 7))) (t.parameter t.double_starred (codes "k") (extent 11 12) t.untyped t.absent (extent 9 12))) ≡ Some (breaks r.StarNotNamed (extent 9 12))
star_without_a_name = refl

-- def f(a=1, *, b)
default_before_a_star : first_parameter_fault (t.more (t.more (t.more t.none (t.parameter t.plain (codes "a") (extent 6 7) t.untyped (t.present (digit 8)) (extent 6 9))) (t.no_args (extent 11 12))) (plain 98 14)) ≡ None
default_before_a_star = refl

-- def f(a=1, b)
default_before_none : first_parameter_fault (t.more (t.more t.none (t.parameter t.plain (codes "a") (extent 6 7) t.untyped (t.present (digit 8)) (extent 6 9))) (plain 98 11)) ≡ Some (breaks r.RequiredAfterOptional (extent 11 12))
default_before_none = refl

-- def f(a, a)
name_again : first_parameter_fault (t.more (t.more t.none (plain 97 6)) (plain 97 9)) ≡ Some (breaks r.DuplicatedName (extent 9 10))
name_again = refl

-- (a, [b]) and (a, 1)
targets : target_fault (t.tuple (t.more (t.more t.none (t.item (name 97 1))) (t.item (t.list (t.more t.none (t.item (name 98 5))) (extent 4 7)))) (extent 1 7)) ≡ None
targets = refl

no_target : target_fault (t.tuple (t.more (t.more t.none (t.item (name 97 1))) (t.item (digit 4))) (extent 1 5)) ≡ Some (breaks r.InvalidLhs (extent 4 5))
no_target = refl

-- a, 1 += b
targets_before_an_operator : assignment_fault (t.tuple (t.more (t.more t.none (t.item (name 97 0))) (t.item (digit 3))) (extent 0 4)) t.untyped (Some Add) ≡ Some (breaks r.InvalidModifyLhs (extent 0 4))
targets_before_an_operator = refl

-- a[b]
type_with_an_argument : type_form (t.index (name 97 0) (t.single (name 98 2)) (extent 0 4)) ≡ Ok (index_form (t.name_at (codes "a") (extent 0 1)) (path_form (path (t.name_at (codes "b") (extent 2 3)) []) (extent 2 3)) (extent 0 4))
type_with_an_argument = refl

-- a.b.type
type_of_a_value : first_type_fault (t.dot (t.dot (name 97 0) (codes "b") (extent 2 3) (extent 0 3)) (codes "type") (extent 4 8) (extent 0 8)) ≡ Some (breaks (r.TypeForm (r.DotTypeBan (codes "a.b"))) (extent 0 1))
type_of_a_value = refl

-- a().b
dot_on_a_call : first_type_fault (t.dot (t.call (name 97 0) t.none (extent 0 3)) (codes "b") (extent 4 5) (extent 0 5)) ≡ Some (breaks (r.TypeForm r.DotInType) (extent 0 3))
dot_on_a_call = refl

-- "a"
literal_as_a_type : first_type_fault (t.leaf (t.string (codes "a")) (extent 0 3) (extent 0 3)) ≡ Some (breaks (r.TypeForm (r.InvalidType (codes "string literal"))) (extent 0 3))
literal_as_a_type = refl

-- if x: break
condition_at_top_level : late_rules standard (t.when (name 120 3) (t.break (extent 6 11)) (extent 0 12)) ≡ breaks r.IfOutsideDef (extent 0 12) ∷ []
condition_at_top_level = refl

-- for x in y: def f(): break
break_in_a_function : late_rules extended (t.repeat (name 120 4) (name 121 9) (t.define (t.name_at (codes "f") (extent 16 17)) t.none t.untyped (t.break (extent 21 26)) (extent 12 27)) (extent 0 27)) ≡ breaks r.BreakOutsideFor (extent 21 26) ∷ []
break_in_a_function = refl

-- load("m")
load_without_symbols : kept_rules standard (t.load (t.name_at (codes "m") (extent 5 8)) t.no_symbols (extent 0 9)) ≡ breaks r.LoadRequiresTwo (extent 5 8) ∷ []
load_without_symbols = refl
