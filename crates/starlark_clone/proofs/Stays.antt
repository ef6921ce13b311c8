-- Where no operator has a name, a tree stays as it is.
use Rattle.std.proofs.Common.{◌≡◌, ◌∙◌, refl, ap, Option, Some, None, ap₂}
use Rattle.std.specs.HashMap.{HashMap, IsEmpty}
use Rattle.std.specs.Map.{lookup}
use Rattle.std.specs.Option.{option_map}
use Rattle.std.specs.Prelude.{string_bytes}
use Rattle.std.specs.Str.{bytes_eq}
use Rattle.std.specs.declared.alloc.Global.{Global}
use Rattle.std.specs.declared.string.String.{String}
use Rattle.starlark_ast.specs.declared.ast.BinOp.{BinOp}
use Rattle.starlark_clone.specs.Replacing.{Renaming, bare_text, operated, renaming, replaced, replaced_bound, replaced_clause, replaced_clauses, replaced_member, replaced_members, replaced_sequence, replaced_statement, replaced_subscript, replaced_type, replaced_value}
use Rattle.starlark_ast.specs.Tree as t
use Rattle.starlark_clone.proofs.Made.{as_three}

module _ (r : Renaming) (none : (o : BinOp) → r o ≡ None) where
  mutual
    pub stays : (x : t.Expr) → replaced r x ≡ x
    stays (t.leaf l u s) = refl
    stays (t.tuple ms s) = ap (λ q. t.tuple q s) (members_stay ms)
    stays (t.list ms s) = ap (λ q. t.list q s) (members_stay ms)
    stays (t.dict ms s) = ap (λ q. t.dict q s) (members_stay ms)
    stays (t.comprehension m cs s) = ap₂ (λ p q. t.comprehension p q s) (member_stays m) (clauses_stay cs)
    stays (t.dot x n u s) = ap (λ q. t.dot q n u s) (stays x)
    stays (t.index x b s) = ap₂ (λ p q. t.index p q s) (stays x) (subscript_stays b)
    stays (t.call x ms s) = ap₂ (λ p q. t.call p q s) (stays x) (members_stay ms)
    stays (t.lambda ms x s) = ap₂ (λ p q. t.lambda p q s) (members_stay ms) (stays x)
    stays (t.signed o x s) = ap (λ q. t.signed o q s) (stays x)
    stays (t.operation x o y s) = ap (λ n. operated n (replaced r x) o (replaced r y) s) (none o) ∙ ap₂ (λ p q. t.operation p o q s) (stays x) (stays y)
    stays (t.choice c x y s) = as_three (λ p q v. t.choice p q v s) (stays c) (stays x) (stays y)
    stays (t.fstring f u ms v s) = ap (λ q. t.fstring f u q v s) (members_stay ms)

    pub member_stays : (m : t.Member) → replaced_member r m ≡ m
    member_stays (t.item x) = ap t.item (stays x)
    member_stays (t.pair k v) = ap₂ t.pair (stays k) (stays v)
    member_stays (t.positional x s) = ap (λ q. t.positional q s) (stays x)
    member_stays (t.named n u x s) = ap (λ q. t.named n u q s) (stays x)
    member_stays (t.args x s) = ap (λ q. t.args q s) (stays x)
    member_stays (t.kwargs x s) = ap (λ q. t.kwargs q s) (stays x)
    member_stays (t.slash s) = refl
    member_stays (t.no_args s) = refl
    member_stays (t.parameter k n u a b s) = ap₂ (λ p q. t.parameter k n u p q s) (type_stays a) (bound_stays b)

    pub members_stay : (ms : t.Members) → replaced_members r ms ≡ ms
    members_stay t.none = refl
    members_stay (t.more ms m) = ap₂ t.more (members_stay ms) (member_stays m)

    pub bound_stays : (b : t.Bound) → replaced_bound r b ≡ b
    bound_stays t.absent = refl
    bound_stays (t.present x) = ap t.present (stays x)

    pub type_stays : (a : t.Annotation) → replaced_type r a ≡ a
    type_stays t.untyped = refl
    type_stays (t.typed x s) = ap (λ q. t.typed q s) (stays x)

    subscript_stays : (b : t.Subscript) → replaced_subscript r b ≡ b
    subscript_stays (t.single x) = ap t.single (stays x)
    subscript_stays (t.double x y) = ap₂ t.double (stays x) (stays y)
    subscript_stays (t.slice a b c) = as_three t.slice (bound_stays a) (bound_stays b) (bound_stays c)

    pub clause_stays : (c : t.Clause) → replaced_clause r c ≡ c
    clause_stays (t.for_clause x y) = ap₂ t.for_clause (stays x) (stays y)
    clause_stays (t.if_clause x) = ap t.if_clause (stays x)

    clauses_stay : (cs : t.Clauses) → replaced_clauses r cs ≡ cs
    clauses_stay t.no_clauses = refl
    clauses_stay (t.and_clause cs c) = ap₂ t.and_clause (clauses_stay cs) (clause_stays c)

  value_stays : (x : Option t.Expr) → replaced_value r x ≡ x
  value_stays None = refl
  value_stays (Some x) = ap Some (stays x)

  mutual
    pub statement_stays : (a : t.Statement) → replaced_statement r a ≡ a
    statement_stays (t.break s) = refl
    statement_stays (t.continue s) = refl
    statement_stays (t.pass s) = refl
    statement_stays (t.return x s) = ap (λ q. t.return q s) (value_stays x)
    statement_stays (t.load m ss s) = refl
    statement_stays (t.expression x s) = ap (λ q. t.expression q s) (stays x)
    statement_stays (t.assign x a o y s) = as_three (λ p q v. t.assign p q o v s) (stays x) (type_stays a) (stays y)
    statement_stays (t.when c a s) = ap₂ (λ p q. t.when p q s) (stays c) (statement_stays a)
    statement_stays (t.either c a b s) = as_three (λ p q v. t.either p q v s) (stays c) (statement_stays a) (statement_stays b)
    statement_stays (t.repeat x y a s) = as_three (λ p q v. t.repeat p q v s) (stays x) (stays y) (statement_stays a)
    statement_stays (t.define n ps a b s) = as_three (λ p q v. t.define n p q v s) (members_stay ps) (type_stays a) (statement_stays b)
    statement_stays (t.block ss s) = ap (λ q. t.block q s) (sequence_stays ss)

    sequence_stays : (ss : t.Sequence) → replaced_sequence r ss ≡ ss
    sequence_stays t.no_statements = refl
    sequence_stays (t.add_statement ss a) = ap₂ t.add_statement (sequence_stays ss) (statement_stays a)

-- an empty map has no name
pub empty_has_none : {S : Type 0} (names : HashMap (String Global) (String Global) S) → IsEmpty names → (o : BinOp) → renaming names o ≡ None
empty_has_none names e o = ap (λ es. option_map string_bytes (lookup (λ k. bytes_eq (bare_text o) (string_bytes k)) es)) e
