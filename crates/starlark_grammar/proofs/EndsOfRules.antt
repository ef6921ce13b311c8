-- A rule is broken at places of the tree that it looks at.
use Rattle.std.proofs.Common.{ℕ, ◌≡◌, ◌∷◌, ◌++◌, [], List, Option, Some, None, Bool, true, false, cond, inl, inr, subst, arith}
use Rattle.std.specs.Prelude.{min, max, Result, Ok, Err, codes, bytes_eq, fold, nat_lt, not, ◌&&◌}
use Rattle.std.specs.Option.{unwrap_or}
use Rattle.std.proofs.lemmas.Bool.{cases_lt}
use Rattle.starlark_place.specs.Place.{Extent, extent, merged, merged_into, merged_all}
use Rattle.starlark_lexer.specs.declared.dialect.Dialect.{Dialect}
use Rattle.starlark_ast.specs.declared.ast.AssignOp.{AssignOp}
use Rattle.starlark_ast.specs.declared.ast.BinOp.TheVariants as op
use Rattle.starlark_ast.specs.Tree as t
use Rattle.starlark_ast.specs.Tree.{Leaf, Expr, Member, Members, Bound, Annotation, Subscript, Clause, Clauses, Name, Symbols, Statement, Sequence, Stars, place}
use Rattle.starlark_rulebook.specs.Rules.{Rule, TypesDisabled, FStringsDisabled, RepeatedNamed, TooManyParameters, AfterKwargs, DuplicatedName, LoadNotTop, LoadDisabled, DefDisabled, LambdaDisabled, Finding, breaks, first_of, listed, first_finding}
use Rattle.starlark_rulebook.specs.Targets.{target_fault, targets_fault, member_fault, modify_fault, annotation_fault, assignment_fault}
use Rattle.starlark_rulebook.specs.Types.{Misfit, misfit, Path, Form, from, from_both, index2_of, root, attributes, dotted, path_of, leaf_form, Role, alone, argument, form_of, forms_of, form_fault, type_form, first_type_fault, has_types, type_fault}
use Rattle.starlark_rulebook.specs.Calls.{any, is_other, is_star, is_kwargs, has_name, argument_fault, first_call_fault}
use Rattle.starlark_rulebook.specs.Parameters.{is_optional, is_starred, is_double_starred, is_parameter, is_mark, is_plain, fault_if, required_if, required_fault, named_fault, parameter_fault, parameters_fault, slash_fault, first_slash, parameter_place, star_place, ending_star, behind_star, unnamed_star, last_star, member_count, parameter_places, first_parameter_fault}
use Rattle.starlark_rulebook.specs.Kept.{fstring_fault, kept_expr, kept_member, kept_members, kept_bound, kept_annotation, kept_subscript, kept_clauses, kept_some, kept_load, kept_rules, kept_sequence}
use Rattle.starlark_rulebook.specs.Late.{unless, one_star, star_rules, one_slash, slash_rules, parameter_rules, Standing, at_top_level, in_def_body, in_for_body, in_if_body, may_nest, statement_rules, sequence_rules, leaf_rules, expr_rules, one_rules, member_rules, bound_rules, annotation_rules, subscript_rules, clause_rules, one_clause_rules, some_rules, expressions_rules, inner_rules, late_rules}
use Rattle.starlark_grammar.specs.Ends.{At, ExprAt, MemberAt, MembersAt, BoundAt, AnnotationAt, SubscriptAt, ClauseAt, ClausesAt, NameAt, SomeAt, StatementAt, SequenceAt}
use Rattle.starlark_grammar.proofs.EndsOfExpressions as e

abbrev pub FindingAt : (ℕ → Type 0) → Finding → Type 0
FindingAt B (breaks r s) = At B s

abbrev pub FoundAt : (ℕ → Type 0) → Option Finding → Type 0
FoundAt B None = Unit {0}
FoundAt B (Some f) = FindingAt B f

abbrev pub FindingsAt : (ℕ → Type 0) → List Finding → Type 0
FindingsAt B [] = Unit {0}
FindingsAt B (f ∷ fs) = FindingAt B f × FindingsAt B fs

abbrev ResultAt : {A : Type 0} → (ℕ → Type 0) → Result A Misfit → Type 0
ResultAt B (Ok a) = Unit {0}
ResultAt B (Err (misfit f s)) = At B s

abbrev PlacesAt : (ℕ → Type 0) → List Extent → Type 0
PlacesAt B [] = Unit {0}
PlacesAt B (s ∷ ss) = At B s × PlacesAt B ss

abbrev MaybeAt : (ℕ → Type 0) → Option Extent → Type 0
MaybeAt B None = Unit {0}
MaybeAt B (Some s) = At B s

module _ (B : ℕ → Type 0) (nought : B 0) where
  -- ---- several

  pub first_at : (a b : Option Finding) → FoundAt B a → FoundAt B b → FoundAt B (first_of a b)
  first_at None b h k = k
  first_at (Some f) b h k = h

  pub finding_at : (fs : List Finding) → FindingsAt B fs → FoundAt B (first_finding fs)
  finding_at [] h = tt
  finding_at (f ∷ fs) h = h.0

  listed_at : (o : Option Finding) → FoundAt B o → FindingsAt B (listed o)
  listed_at None h = tt
  listed_at (Some f) h = (h, tt)

  both : (fs gs : List Finding) → FindingsAt B fs → FindingsAt B gs → FindingsAt B (fs ++ gs)
  both [] gs h k = k
  both (f ∷ fs) gs h k = (h.0, both fs gs h.1 k)

  three : (fs gs hs : List Finding) → FindingsAt B fs → FindingsAt B gs → FindingsAt B hs → FindingsAt B (fs ++ gs ++ hs)
  three fs gs hs h k l = both (fs ++ gs) hs (both fs gs h k) l

  if_at : (c : Bool) (f : Finding) → FindingAt B f → FoundAt B (fault_if c f)
  if_at true f h = h
  if_at false f h = tt

  unless_at : (c : Bool) (r : Rule) (s : Extent) → At B s → FindingsAt B (unless c r s)
  unless_at true r s h = tt
  unless_at false r s h = (h, tt)

  off_at : (c : Bool) (fs : List Finding) → FindingsAt B fs → FindingsAt B (cond c [] fs)
  off_at true fs h = tt
  off_at false fs h = h

  -- ---- targets

  mutual
    pub target_fault_at : (x : Expr) → ExprAt B x → FoundAt B (target_fault x)
    target_fault_at (t.leaf (t.name n) u s) h = tt
    target_fault_at (t.tuple ms s) h = targets_fault_at ms h.1
    target_fault_at (t.list ms s) h = targets_fault_at ms h.1
    target_fault_at (t.dot x n u s) h = tt
    target_fault_at (t.index x (t.single y) s) h = tt
    target_fault_at x h = e.place_at B x h

    targets_fault_at : (ms : Members) → MembersAt B ms → FoundAt B (targets_fault ms)
    targets_fault_at t.none h = tt
    targets_fault_at (t.more ms m) h = first_at (targets_fault ms) (member_fault m) (targets_fault_at ms h.0) (member_fault_at m h.1)

    member_fault_at : (m : Member) → MemberAt B m → FoundAt B (member_fault m)
    member_fault_at (t.item x) h = target_fault_at x h
    member_fault_at m h = tt

  modify_fault_at : (x : Expr) (o : Option AssignOp) → ExprAt B x → FoundAt B (modify_fault x o)
  modify_fault_at x None h = tt
  modify_fault_at (t.tuple ms s) (Some o) h = h.0
  modify_fault_at (t.list ms s) (Some o) h = h.0
  modify_fault_at x (Some o) h = tt

  annotation_fault_at : (x : Expr) (a : Annotation) (o : Option AssignOp) → AnnotationAt B a → FoundAt B (annotation_fault x a o)
  annotation_fault_at x t.untyped o h = tt
  annotation_fault_at x (t.typed y s) (Some o) h = h.0
  annotation_fault_at (t.tuple ms u) (t.typed y s) None h = h.0
  annotation_fault_at (t.list ms u) (t.typed y s) None h = h.0
  annotation_fault_at x (t.typed y s) None h = tt

  pub assignment_fault_at : (x : Expr) (a : Annotation) (o : Option AssignOp) → ExprAt B x → AnnotationAt B a → FoundAt B (assignment_fault x a o)
  assignment_fault_at x a o h k =
      first_at (modify_fault x o) (first_of (target_fault x) (annotation_fault x a o)) (modify_fault_at x o h)
      (first_at (target_fault x) (annotation_fault x a o) (target_fault_at x h) (annotation_fault_at x a o k))

  -- ---- types

  from_at : {A C : Type 0} (f : A → C) (r : Result A Misfit) → ResultAt B r → ResultAt B (from f r)
  from_at f (Ok a) h = tt
  from_at f (Err (misfit x s)) h = h

  from_both_at : {A C D : Type 0} (f : A → C → D) (q : Result A Misfit) (r : Result C Misfit) → ResultAt B q → ResultAt B r → ResultAt B (from_both f q r)
  from_both_at f (Ok a) r h k = from_at (f a) r k
  from_both_at f (Err (misfit x s)) r h k = h

  index2_at : (u s : Extent) (p : Result Path Misfit) (q r : Result _ Misfit) → ResultAt B p → ResultAt B q → ResultAt B r → ResultAt B (index2_of u s p q r)
  index2_at u s (Ok p) q r h k l = from_both_at _ q r k l
  index2_at u s (Err (misfit x v)) q r h k l = h

  root_at : (x : Expr) → ExprAt B x → ExprAt B (root x)
  root_at (t.dot x n u s) h = root_at x h.1
  root_at x h = h

  banned_at : {A : Type 0} (c : Bool) (f : Misfit) (a : A) → ResultAt {A = A} B (Err f) → ResultAt {A = A} B (cond c (Err f) (Ok a))
  banned_at true f a h = h
  banned_at false f a h = tt

  dotted_at : (x : Expr) (ns : List Name) (m : List ℕ) (v : Extent) → ExprAt B x → ResultAt B (dotted x ns m v)
  dotted_at (t.leaf (t.name n) u s) ns m v h = banned_at (bytes_eq m (codes "type")) _ _ h.0
  dotted_at x ns m v h = e.place_at B x h

  path_at : (x : Expr) → ExprAt B x → ResultAt B (path_of x)
  path_at (t.leaf (t.name n) u s) h = tt
  path_at (t.dot x n u s) h = dotted_at (root x) (attributes x) n u (root_at x h.1)
  path_at x h = e.place_at B x h

  leaf_form_at : (l : Leaf) (u s : Extent) → At B s → ResultAt B (leaf_form l u s)
  leaf_form_at (t.name n) u s h = tt
  leaf_form_at t.ellipsis u s h = tt
  leaf_form_at (t.int n) u s h = h
  leaf_form_at (t.float n) u s h = h
  leaf_form_at (t.string n) u s h = h
  leaf_form_at (t.bytes n) u s h = h

  mutual
    form_at : (r : Role) (x : Expr) → ExprAt B x → ResultAt B (form_of r x)
    form_at r (t.leaf l u s) h = leaf_form_at l u s h.0
    form_at r (t.dot x n u s) h = from_at _ (dotted (root x) (attributes x) n u) (dotted_at (root x) (attributes x) n u (root_at x h.1))
    form_at r (t.tuple ms s) h = from_at _ (forms_of alone ms) (forms_at alone ms h.1)
    form_at argument (t.list ms s) h = from_at _ (forms_of argument ms) (forms_at argument ms h.1)
    form_at alone (t.list t.none s) h = h.0
    form_at alone (t.list (t.more t.none m) s) h = h.0
    form_at alone (t.list (t.more (t.more ms k) m) s) h = from_at _ (forms_of alone (t.more (t.more ms k) m)) (forms_at alone (t.more (t.more ms k) m) h.1)
    form_at r (t.operation x op.BitOr y s) h = from_both_at _ (form_of alone x) (form_of alone y) (form_at alone x h.1) (form_at alone y h.2)
    form_at r (t.operation x o y s) h = h.0
    form_at r (t.index (t.leaf (t.name n) u v) (t.single y) s) h = from_at _ (form_of alone y) (form_at alone y h.2)
    form_at r (t.index x (t.single y) s) h = h.0
    form_at r (t.index x (t.double y z) s) h = index2_at _ _ (path_of x) (form_of argument y) (form_of argument z) (path_at x h.1) (form_at argument y h.2.0) (form_at argument z h.2.1)
    form_at r (t.index x (t.slice a b c) s) h = h.0
    form_at r (t.dict ms s) h = h.0
    form_at r (t.comprehension m cs s) h = h.0
    form_at r (t.call x ms s) h = h.0
    form_at r (t.lambda ms x s) h = h.0
    form_at r (t.signed o x s) h = h.0
    form_at r (t.choice x y z s) h = h.0
    form_at r (t.fstring f u ms v s) h = h.0

    forms_at : (r : Role) (ms : Members) → MembersAt B ms → ResultAt B (forms_of r ms)
    forms_at r t.none h = tt
    forms_at r (t.more ms (t.item x)) h = from_both_at _ (forms_of r ms) (form_of r x) (forms_at r ms h.0) (form_at r x h.1)
    forms_at r (t.more ms m) h = forms_at r ms h.0

  form_fault_at : (r : Result Form Misfit) → ResultAt B r → FoundAt B (form_fault r)
  form_fault_at (Ok f) h = tt
  form_fault_at (Err (misfit f s)) h = h

  either_at : (c : Bool) (f g : Option Finding) → FoundAt B f → FoundAt B g → FoundAt B (cond c f g)
  either_at true f g h k = h
  either_at false f g h k = k

  pub type_fault_at : (d : Dialect) (x : Expr) → ExprAt B x → FoundAt B (type_fault d x)
  type_fault_at d x h = either_at (has_types d.enable_types) (first_type_fault x) (Some (breaks TypesDisabled (place x))) (form_fault_at (type_form x) (form_at alone x h)) (e.place_at B x h)

  -- ---- calls

  broken_at : (c : Bool) (f : Finding) → FindingAt B f → FoundAt B (cond c (Some f) None)
  broken_at c f h = either_at c (Some f) None h tt

  argument_fault_at : (ms : Members) (m : Member) → MemberAt B m → FoundAt B (argument_fault ms m)
  argument_fault_at ms (t.positional x s) h = broken_at (any is_other ms) _ h.0
  argument_fault_at ms (t.named n u x s) h = either_at (any is_star ms) _ _ h.0 (broken_at (any (has_name n) ms) (breaks RepeatedNamed u) h.1)
  argument_fault_at ms (t.args x s) h = broken_at (any is_star ms) _ h.0
  argument_fault_at ms (t.kwargs x s) h = broken_at (any is_kwargs ms) _ h.0
  argument_fault_at ms m h = tt

  first_call_fault_at : (ms : Members) → MembersAt B ms → FoundAt B (first_call_fault ms)
  first_call_fault_at t.none h = tt
  first_call_fault_at (t.more ms m) h = first_at (first_call_fault ms) (argument_fault ms m) (first_call_fault_at ms h.0) (argument_fault_at ms m h.1)

  -- ---- parameters

  required_at : (wanted : Bool) (b : Bound) (s : Extent) → At B s → FoundAt B (required_if wanted b s)
  required_at wanted t.absent s h = if_at wanted _ h
  required_at wanted (t.present x) s h = tt

  named_fault_at : (ms : Members) (k : Stars) (b : Bound) (s : Extent) → At B s → FoundAt B (named_fault ms k b s)
  named_fault_at ms t.plain b s h = first_at (fault_if (any is_double_starred ms) (breaks AfterKwargs s)) (required_fault ms b s) (if_at (any is_double_starred ms) _ h) (required_at (any is_optional ms && not (any is_starred ms)) b s h)
  named_fault_at ms t.starred b s h = if_at (any is_starred ms) _ h
  named_fault_at ms t.double_starred b s h = if_at (any is_double_starred ms) _ h

  parameter_fault_at : (ms : Members) (m : Member) → MemberAt B m → FoundAt B (parameter_fault ms m)
  parameter_fault_at ms (t.parameter k n u a b s) h = first_at (fault_if (any (is_parameter n) ms) (breaks DuplicatedName s)) (named_fault ms k b s) (if_at (any (is_parameter n) ms) _ h.0) (named_fault_at ms k b s h.0)
  parameter_fault_at ms (t.no_args s) h = if_at (any is_starred ms) _ h
  parameter_fault_at ms (t.slash s) h = if_at (any is_mark ms) _ h
  parameter_fault_at ms m h = tt

  parameters_fault_at : (ms : Members) → MembersAt B ms → FoundAt B (parameters_fault ms)
  parameters_fault_at t.none h = tt
  parameters_fault_at (t.more ms m) h = first_at (parameters_fault ms) (parameter_fault ms m) (parameters_fault_at ms h.0) (parameter_fault_at ms m h.1)

  slash_fault_at : (m : Member) → MemberAt B m → FoundAt B (slash_fault m)
  slash_fault_at (t.slash s) h = h
  slash_fault_at m h = tt

  first_slash_at : (ms : Members) → MembersAt B ms → FoundAt B (first_slash ms)
  first_slash_at t.none h = tt
  first_slash_at (t.more t.none m) h = slash_fault_at m h.1
  first_slash_at (t.more (t.more ms k) m) h = first_slash_at (t.more ms k) h.0

  least_at : (i j : ℕ) → B i → B j → B (min i j)
  least_at i j h k = elim (cases_lt i j) [
    | inl lt ↦ let e : i ≡ min i j = omega (arith, lt) in subst B e h
    | inr ge ↦ let e : j ≡ min i j = omega (arith, ge) in subst B e k
  ]

  most_at : (i j : ℕ) → B i → B j → B (max i j)
  most_at i j h k = elim (cases_lt i j) [
    | inl lt ↦ let e : j ≡ max i j = omega (arith, lt) in subst B e k
    | inr ge ↦ let e : i ≡ max i j = omega (arith, ge) in subst B e h
  ]

  merged_at : (s u : Extent) → At B s → At B u → At B (merged s u)
  merged_at s u h k = (least_at s.begin u.begin h.0 k.0, most_at s.end u.end h.1 k.1)

  member_place_at : (m : Member) → MemberAt B m → At B (parameter_place m)
  member_place_at (t.slash s) h = h
  member_place_at (t.no_args s) h = h
  member_place_at (t.parameter k n u a b s) h = h.0
  member_place_at (t.item x) h = e.place_at B x h
  member_place_at (t.pair x y) h = merged_at (place x) (place y) (e.place_at B x h.0) (e.place_at B y h.1)
  member_place_at (t.positional x s) h = h.0
  member_place_at (t.named n u x s) h = h.0
  member_place_at (t.args x s) h = h.0
  member_place_at (t.kwargs x s) h = h.0

  star_place_at : (m : Member) → MemberAt B m → MaybeAt B (star_place m)
  star_place_at (t.no_args s) h = h
  star_place_at m h = tt

  ending_star_at : (ms : Members) → MembersAt B ms → MaybeAt B (ending_star ms)
  ending_star_at t.none h = tt
  ending_star_at (t.more ms m) h = star_place_at m h.1

  behind_star_at : (o : Option Extent) (m : Member) → MemberAt B m → FoundAt B (behind_star o m)
  behind_star_at None m h = tt
  behind_star_at (Some s) m h = if_at (not (is_plain m)) _ (member_place_at m h)

  unnamed_star_at : (ms : Members) → MembersAt B ms → FoundAt B (unnamed_star ms)
  unnamed_star_at t.none h = tt
  unnamed_star_at (t.more ms m) h = first_at (unnamed_star ms) (behind_star (ending_star ms) m) (unnamed_star_at ms h.0) (behind_star_at (ending_star ms) m h.1)

  last_star_at : (o : Option Extent) → MaybeAt B o → FoundAt B (last_star o)
  last_star_at None h = tt
  last_star_at (Some s) h = h

  places_append : (ss us : List Extent) → PlacesAt B ss → PlacesAt B us → PlacesAt B (ss ++ us)
  places_append [] us h k = k
  places_append (s ∷ ss) us h k = (h.0, places_append ss us h.1 k)

  places_at : (ms : Members) → MembersAt B ms → PlacesAt B (parameter_places ms)
  places_at t.none h = tt
  places_at (t.more ms m) h = places_append (parameter_places ms) (parameter_place m ∷ []) (places_at ms h.0) (member_place_at m h.1, tt)

  folded_at : (o : Option Extent) (ss : List Extent) → MaybeAt B o → PlacesAt B ss → MaybeAt B (fold merged_into o ss)
  folded_at o [] h k = h
  folded_at None (s ∷ ss) h k = folded_at (Some s) ss k.0 k.1
  folded_at (Some u) (s ∷ ss) h k = folded_at (Some (merged u s)) ss (merged_at u s h k.0) k.1

  or_at : (o : Option Extent) → MaybeAt B o → At B (unwrap_or o (extent 0 0))
  or_at None h = (nought, nought)
  or_at (Some s) h = h

  parameter_faults_at : (ms : Members) → MembersAt B ms → FoundAt B (first_parameter_fault ms)
  parameter_faults_at ms h =
      first_at (fault_if (nat_lt 4294967295 (member_count ms)) (breaks TooManyParameters (merged_all (parameter_places ms)))) (first_of (first_slash ms) (first_of (parameters_fault ms) (first_of (unnamed_star ms) (last_star (ending_star ms)))))
      (if_at (nat_lt 4294967295 (member_count ms)) _ (or_at (fold merged_into None (parameter_places ms)) (folded_at None (parameter_places ms) tt (places_at ms h))))
      (first_at (first_slash ms) (first_of (parameters_fault ms) (first_of (unnamed_star ms) (last_star (ending_star ms)))) (first_slash_at ms h)
      (first_at (parameters_fault ms) (first_of (unnamed_star ms) (last_star (ending_star ms))) (parameters_fault_at ms h)
      (first_at (unnamed_star ms) (last_star (ending_star ms)) (unnamed_star_at ms h) (last_star_at (ending_star ms) (ending_star_at ms h)))))

  -- ---- kept rules

  mutual
    kept_expr_at : (d : Dialect) (x : Expr) → ExprAt B x → FindingsAt B (kept_expr d x)
    kept_expr_at d (t.leaf l u s) h = tt
    kept_expr_at d (t.tuple ms s) h = kept_members_at d ms h.1
    kept_expr_at d (t.list ms s) h = kept_members_at d ms h.1
    kept_expr_at d (t.dict ms s) h = kept_members_at d ms h.1
    kept_expr_at d (t.comprehension m cs s) h = both (kept_member d m) (kept_clauses d cs) (kept_member_at d m h.1) (kept_clauses_at d cs h.2)
    kept_expr_at d (t.dot x n u s) h = kept_expr_at d x h.1
    kept_expr_at d (t.index x b s) h = both (kept_expr d x) (kept_subscript d b) (kept_expr_at d x h.1) (kept_subscript_at d b h.2)
    kept_expr_at d (t.call x ms s) h = three (kept_expr d x) (kept_members d ms) (listed (first_call_fault ms)) (kept_expr_at d x h.1) (kept_members_at d ms h.2) (listed_at (first_call_fault ms) (first_call_fault_at ms h.2))
    kept_expr_at d (t.lambda ms x s) h = both (kept_members d ms) (kept_expr d x) (kept_members_at d ms h.1) (kept_expr_at d x h.2)
    kept_expr_at d (t.signed o x s) h = kept_expr_at d x h.1
    kept_expr_at d (t.operation x o y s) h = both (kept_expr d x) (kept_expr d y) (kept_expr_at d x h.1) (kept_expr_at d y h.2)
    kept_expr_at d (t.choice x y z s) h = three (kept_expr d y) (kept_expr d x) (kept_expr d z) (kept_expr_at d y h.2) (kept_expr_at d x h.1) (kept_expr_at d z h.3)
    kept_expr_at d (t.fstring f u ms v s) h = both (kept_members d ms) (listed (fstring_fault d v)) (kept_members_at d ms h.2) (listed_at (fstring_fault d v) (either_at d.enable_f_strings None (Some (breaks FStringsDisabled v)) tt h.3))

    kept_member_at : (d : Dialect) (m : Member) → MemberAt B m → FindingsAt B (kept_member d m)
    kept_member_at d (t.item x) h = kept_expr_at d x h
    kept_member_at d (t.pair x y) h = both (kept_expr d x) (kept_expr d y) (kept_expr_at d x h.0) (kept_expr_at d y h.1)
    kept_member_at d (t.positional x s) h = kept_expr_at d x h.1
    kept_member_at d (t.named n u x s) h = kept_expr_at d x h.2
    kept_member_at d (t.args x s) h = kept_expr_at d x h.1
    kept_member_at d (t.kwargs x s) h = kept_expr_at d x h.1
    kept_member_at d (t.slash s) h = tt
    kept_member_at d (t.no_args s) h = tt
    kept_member_at d (t.parameter k n u a b s) h = both (kept_annotation d a) (kept_bound d b) (kept_annotation_at d a h.2) (kept_bound_at d b h.3)

    kept_members_at : (d : Dialect) (ms : Members) → MembersAt B ms → FindingsAt B (kept_members d ms)
    kept_members_at d t.none h = tt
    kept_members_at d (t.more ms m) h = both (kept_members d ms) (kept_member d m) (kept_members_at d ms h.0) (kept_member_at d m h.1)

    kept_bound_at : (d : Dialect) (b : Bound) → BoundAt B b → FindingsAt B (kept_bound d b)
    kept_bound_at d t.absent h = tt
    kept_bound_at d (t.present x) h = kept_expr_at d x h

    kept_annotation_at : (d : Dialect) (a : Annotation) → AnnotationAt B a → FindingsAt B (kept_annotation d a)
    kept_annotation_at d t.untyped h = tt
    kept_annotation_at d (t.typed x s) h = kept_expr_at d x h.1

    kept_subscript_at : (d : Dialect) (b : Subscript) → SubscriptAt B b → FindingsAt B (kept_subscript d b)
    kept_subscript_at d (t.single x) h = kept_expr_at d x h
    kept_subscript_at d (t.double x y) h = both (kept_expr d x) (kept_expr d y) (kept_expr_at d x h.0) (kept_expr_at d y h.1)
    kept_subscript_at d (t.slice a b c) h = three (kept_bound d a) (kept_bound d b) (kept_bound d c) (kept_bound_at d a h.0) (kept_bound_at d b h.1) (kept_bound_at d c h.2)

    kept_clauses_at : (d : Dialect) (cs : Clauses) → ClausesAt B cs → FindingsAt B (kept_clauses d cs)
    kept_clauses_at d t.no_clauses h = tt
    kept_clauses_at d (t.and_clause cs (t.for_clause x y)) h = three (kept_clauses d cs) (kept_expr d x) (kept_expr d y) (kept_clauses_at d cs h.0) (kept_expr_at d x h.1.0) (kept_expr_at d y h.1.1)
    kept_clauses_at d (t.and_clause cs (t.if_clause x)) h = both (kept_clauses d cs) (kept_expr d x) (kept_clauses_at d cs h.0) (kept_expr_at d x h.1)

  kept_some_at : (d : Dialect) (o : Option Expr) → SomeAt B o → FindingsAt B (kept_some d o)
  kept_some_at d None h = tt
  kept_some_at d (Some x) h = kept_expr_at d x h

  kept_load_at : (m : Name) (ss : Symbols) → NameAt B m → FindingsAt B (kept_load m ss)
  kept_load_at (t.name_at n s) t.no_symbols h = (h, tt)
  kept_load_at m (t.add_symbol ss x o) h = tt

  mutual
    pub kept_rules_at : (d : Dialect) (a : Statement) → StatementAt B a → FindingsAt B (kept_rules d a)
    kept_rules_at d (t.break s) h = tt
    kept_rules_at d (t.continue s) h = tt
    kept_rules_at d (t.pass s) h = tt
    kept_rules_at d (t.return x s) h = kept_some_at d x h.1
    kept_rules_at d (t.load m ss s) h = kept_load_at m ss h.1
    kept_rules_at d (t.expression x s) h = kept_expr_at d x h.1
    kept_rules_at d (t.assign x a o y s) h = three (kept_expr d x) (kept_annotation d a) (kept_expr d y) (kept_expr_at d x h.1) (kept_annotation_at d a h.2) (kept_expr_at d y h.3)
    kept_rules_at d (t.when x a s) h = both (kept_expr d x) (kept_rules d a) (kept_expr_at d x h.1) (kept_rules_at d a h.2)
    kept_rules_at d (t.either x a b s) h = three (kept_expr d x) (kept_rules d a) (kept_rules d b) (kept_expr_at d x h.1) (kept_rules_at d a h.2) (kept_rules_at d b h.3)
    kept_rules_at d (t.repeat x y a s) h = three (kept_expr d x) (kept_expr d y) (kept_rules d a) (kept_expr_at d x h.1) (kept_expr_at d y h.2) (kept_rules_at d a h.3)
    kept_rules_at d (t.define n ps a b s) h = three (kept_members d ps) (kept_annotation d a) (kept_rules d b) (kept_members_at d ps h.2) (kept_annotation_at d a h.3) (kept_rules_at d b h.4)
    kept_rules_at d (t.block ss s) h = kept_sequence_at d ss h.1

    kept_sequence_at : (d : Dialect) (ss : Sequence) → SequenceAt B ss → FindingsAt B (kept_sequence d ss)
    kept_sequence_at d t.no_statements h = tt
    kept_sequence_at d (t.add_statement ss a) h = both (kept_sequence d ss) (kept_rules d a) (kept_sequence_at d ss h.0) (kept_rules_at d a h.1)

  -- ---- late rules

  one_star_at : (m : Member) → MemberAt B m → FindingsAt B (one_star m)
  one_star_at (t.no_args s) h = (h, tt)
  one_star_at m h = tt

  star_rules_at : (ms : Members) → MembersAt B ms → FindingsAt B (star_rules ms)
  star_rules_at t.none h = tt
  star_rules_at (t.more ms m) h = both (star_rules ms) (one_star m) (star_rules_at ms h.0) (one_star_at m h.1)

  one_slash_at : (m : Member) → MemberAt B m → FindingsAt B (one_slash m)
  one_slash_at (t.slash s) h = (h, tt)
  one_slash_at m h = tt

  slash_rules_at : (ms : Members) → MembersAt B ms → FindingsAt B (slash_rules ms)
  slash_rules_at t.none h = tt
  slash_rules_at (t.more ms m) h = both (slash_rules ms) (one_slash m) (slash_rules_at ms h.0) (one_slash_at m h.1)

  parameter_rules_at : (d : Dialect) (ms : Members) → MembersAt B ms → FindingsAt B (parameter_rules d ms)
  parameter_rules_at d ms h = three (cond d.enable_keyword_only_arguments [] (star_rules ms)) (cond d.enable_positional_only_arguments [] (slash_rules ms)) (listed (first_parameter_fault ms)) (off_at d.enable_keyword_only_arguments (star_rules ms) (star_rules_at ms h)) (off_at d.enable_positional_only_arguments (slash_rules ms) (slash_rules_at ms h)) (listed_at (first_parameter_fault ms) (parameter_faults_at ms h))

  nested_at : (c : Bool) (fs : List Finding) (f : Finding) → FindingsAt B fs → FindingAt B f → FindingsAt B (cond c fs (f ∷ []))
  nested_at true fs f h k = h
  nested_at false fs f h k = (k, tt)

  mutual
    statement_rules_at : (d : Dialect) (p : Standing) (a : Statement) → StatementAt B a → FindingsAt B (statement_rules d p a)
    statement_rules_at d p (t.break s) h = unless_at p.in_for _ s h
    statement_rules_at d p (t.continue s) h = unless_at p.in_for _ s h
    statement_rules_at d p (t.return x s) h = unless_at p.in_def _ s h.0
    statement_rules_at d p (t.load m ss s) h = both (unless p.at_top LoadNotTop s) (unless d.enable_load LoadDisabled s) (unless_at p.at_top _ s h.0) (unless_at d.enable_load _ s h.0)
    statement_rules_at d p (t.when x a s) h = nested_at (may_nest d p) (statement_rules d (in_if_body p) a) _ (statement_rules_at d (in_if_body p) a h.2) h.0
    statement_rules_at d p (t.either x a b s) h = nested_at (may_nest d p) (statement_rules d (in_if_body p) a ++ statement_rules d (in_if_body p) b) _ (both (statement_rules d (in_if_body p) a) (statement_rules d (in_if_body p) b) (statement_rules_at d (in_if_body p) a h.2) (statement_rules_at d (in_if_body p) b h.3)) h.0
    statement_rules_at d p (t.repeat x y a s) h = nested_at (may_nest d p) (statement_rules d (in_for_body p) a) _ (statement_rules_at d (in_for_body p) a h.3) h.0
    statement_rules_at d p (t.define n ps a b s) h = three (unless d.enable_def DefDisabled s) (parameter_rules d ps) (statement_rules d in_def_body b) (unless_at d.enable_def _ s h.0) (parameter_rules_at d ps h.2) (statement_rules_at d in_def_body b h.4)
    statement_rules_at d p (t.block ss s) h = sequence_rules_at d p ss h.1
    statement_rules_at d p (t.pass s) h = tt
    statement_rules_at d p (t.expression x s) h = tt
    statement_rules_at d p (t.assign x a o y s) h = tt

    sequence_rules_at : (d : Dialect) (p : Standing) (ss : Sequence) → SequenceAt B ss → FindingsAt B (sequence_rules d p ss)
    sequence_rules_at d p t.no_statements h = tt
    sequence_rules_at d p (t.add_statement ss a) h = both (sequence_rules d p ss) (statement_rules d p a) (sequence_rules_at d p ss h.0) (statement_rules_at d p a h.1)

  leaf_rules_at : (d : Dialect) (l : Leaf) (s : Extent) → At B s → FindingsAt B (leaf_rules d l s)
  leaf_rules_at d t.ellipsis s h = unless_at (has_types d.enable_types) _ s h
  leaf_rules_at d l s h = tt

  mutual
    expr_rules_at : (d : Dialect) (x : Expr) → ExprAt B x → FindingsAt B (expr_rules d x)
    expr_rules_at d (t.leaf l u s) h = leaf_rules_at d l s h.0
    expr_rules_at d (t.tuple ms s) h = member_rules_at d ms h.1
    expr_rules_at d (t.list ms s) h = member_rules_at d ms h.1
    expr_rules_at d (t.dict ms s) h = member_rules_at d ms h.1
    expr_rules_at d (t.comprehension m cs s) h = both (clause_rules d cs) (one_rules d m) (clause_rules_at d cs h.2) (one_rules_at d m h.1)
    expr_rules_at d (t.dot x n u s) h = expr_rules_at d x h.1
    expr_rules_at d (t.index x b s) h = both (expr_rules d x) (subscript_rules d b) (expr_rules_at d x h.1) (subscript_rules_at d b h.2)
    expr_rules_at d (t.call x ms s) h = both (expr_rules d x) (member_rules d ms) (expr_rules_at d x h.1) (member_rules_at d ms h.2)
    expr_rules_at d (t.lambda ms x s) h =
        both (unless d.enable_lambda LambdaDisabled s ++ parameter_rules d ms ++ member_rules d ms) (expr_rules d x)
        (three (unless d.enable_lambda LambdaDisabled s) (parameter_rules d ms) (member_rules d ms) (unless_at d.enable_lambda _ s h.0) (parameter_rules_at d ms h.1) (member_rules_at d ms h.1)) (expr_rules_at d x h.2)
    expr_rules_at d (t.signed o x s) h = expr_rules_at d x h.1
    expr_rules_at d (t.operation x o y s) h = both (expr_rules d x) (expr_rules d y) (expr_rules_at d x h.1) (expr_rules_at d y h.2)
    expr_rules_at d (t.choice x y z s) h = three (expr_rules d x) (expr_rules d y) (expr_rules d z) (expr_rules_at d x h.1) (expr_rules_at d y h.2) (expr_rules_at d z h.3)
    expr_rules_at d (t.fstring f u ms v s) h = member_rules_at d ms h.2

    one_rules_at : (d : Dialect) (m : Member) → MemberAt B m → FindingsAt B (one_rules d m)
    one_rules_at d (t.item x) h = expr_rules_at d x h
    one_rules_at d (t.pair x y) h = both (expr_rules d x) (expr_rules d y) (expr_rules_at d x h.0) (expr_rules_at d y h.1)
    one_rules_at d (t.positional x s) h = expr_rules_at d x h.1
    one_rules_at d (t.named n u x s) h = expr_rules_at d x h.2
    one_rules_at d (t.args x s) h = expr_rules_at d x h.1
    one_rules_at d (t.kwargs x s) h = expr_rules_at d x h.1
    one_rules_at d (t.slash s) h = tt
    one_rules_at d (t.no_args s) h = tt
    one_rules_at d (t.parameter k n u a b s) h = both (annotation_rules d a) (bound_rules d b) (annotation_rules_at d a h.2) (bound_rules_at d b h.3)

    member_rules_at : (d : Dialect) (ms : Members) → MembersAt B ms → FindingsAt B (member_rules d ms)
    member_rules_at d t.none h = tt
    member_rules_at d (t.more ms m) h = both (member_rules d ms) (one_rules d m) (member_rules_at d ms h.0) (one_rules_at d m h.1)

    bound_rules_at : (d : Dialect) (b : Bound) → BoundAt B b → FindingsAt B (bound_rules d b)
    bound_rules_at d t.absent h = tt
    bound_rules_at d (t.present x) h = expr_rules_at d x h

    annotation_rules_at : (d : Dialect) (a : Annotation) → AnnotationAt B a → FindingsAt B (annotation_rules d a)
    annotation_rules_at d t.untyped h = tt
    annotation_rules_at d (t.typed x s) h = expr_rules_at d x h.1

    subscript_rules_at : (d : Dialect) (b : Subscript) → SubscriptAt B b → FindingsAt B (subscript_rules d b)
    subscript_rules_at d (t.single x) h = expr_rules_at d x h
    subscript_rules_at d (t.double x y) h = both (expr_rules d x) (expr_rules d y) (expr_rules_at d x h.0) (expr_rules_at d y h.1)
    subscript_rules_at d (t.slice a b c) h = three (bound_rules d a) (bound_rules d b) (bound_rules d c) (bound_rules_at d a h.0) (bound_rules_at d b h.1) (bound_rules_at d c h.2)

    clause_rules_at : (d : Dialect) (cs : Clauses) → ClausesAt B cs → FindingsAt B (clause_rules d cs)
    clause_rules_at d t.no_clauses h = tt
    clause_rules_at d (t.and_clause cs c) h = both (clause_rules d cs) (one_clause_rules d c) (clause_rules_at d cs h.0) (one_clause_rules_at d c h.1)

    one_clause_rules_at : (d : Dialect) (c : Clause) → ClauseAt B c → FindingsAt B (one_clause_rules d c)
    one_clause_rules_at d (t.for_clause x y) h = both (expr_rules d x) (expr_rules d y) (expr_rules_at d x h.0) (expr_rules_at d y h.1)
    one_clause_rules_at d (t.if_clause x) h = expr_rules_at d x h

  some_rules_at : (d : Dialect) (o : Option Expr) → SomeAt B o → FindingsAt B (some_rules d o)
  some_rules_at d None h = tt
  some_rules_at d (Some x) h = expr_rules_at d x h

  mutual
    expressions_rules_at : (d : Dialect) (a : Statement) → StatementAt B a → FindingsAt B (expressions_rules d a)
    expressions_rules_at d (t.break s) h = tt
    expressions_rules_at d (t.continue s) h = tt
    expressions_rules_at d (t.pass s) h = tt
    expressions_rules_at d (t.return x s) h = some_rules_at d x h.1
    expressions_rules_at d (t.load m ss s) h = tt
    expressions_rules_at d (t.expression x s) h = expr_rules_at d x h.1
    expressions_rules_at d (t.assign x a o y s) h = three (expr_rules d x) (annotation_rules d a) (expr_rules d y) (expr_rules_at d x h.1) (annotation_rules_at d a h.2) (expr_rules_at d y h.3)
    expressions_rules_at d (t.when x a s) h = both (expr_rules d x) (expressions_rules d a) (expr_rules_at d x h.1) (expressions_rules_at d a h.2)
    expressions_rules_at d (t.either x a b s) h = three (expr_rules d x) (expressions_rules d a) (expressions_rules d b) (expr_rules_at d x h.1) (expressions_rules_at d a h.2) (expressions_rules_at d b h.3)
    expressions_rules_at d (t.repeat x y a s) h = three (expr_rules d x) (expr_rules d y) (expressions_rules d a) (expr_rules_at d x h.1) (expr_rules_at d y h.2) (expressions_rules_at d a h.3)
    expressions_rules_at d (t.define n ps a b s) h = three (member_rules d ps) (annotation_rules d a) (expressions_rules d b) (member_rules_at d ps h.2) (annotation_rules_at d a h.3) (expressions_rules_at d b h.4)
    expressions_rules_at d (t.block ss s) h = inner_rules_at d ss h.1

    inner_rules_at : (d : Dialect) (ss : Sequence) → SequenceAt B ss → FindingsAt B (inner_rules d ss)
    inner_rules_at d t.no_statements h = tt
    inner_rules_at d (t.add_statement ss a) h = both (inner_rules d ss) (expressions_rules d a) (inner_rules_at d ss h.0) (expressions_rules_at d a h.1)

  pub late_rules_at : (d : Dialect) (a : Statement) → StatementAt B a → FindingsAt B (late_rules d a)
  late_rules_at d a h = both (statement_rules d at_top_level a) (expressions_rules d a) (statement_rules_at d at_top_level a h) (expressions_rules_at d a h)
