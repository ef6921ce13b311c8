-- The constructs of expressions that have begun, with what they have read so far.
--
-- A frame is what is left to read of a construct that waits for an expression. A point is a place in a construct between two of its parts.
use Rattle.std.specs.Prelude.{ℕ, ◌++◌, if◌then◌else◌, List, Option, Some, None, Bool, true, false, nat_eq}
use Rattle.starlark_place.specs.Place.{Extent}
use Rattle.starlark_rulebook.specs.Targets.{target_of}
use Rattle.starlark_grammar.specs.Spans.{stretch}
use Rattle.starlark_lexer.specs.Items.{Lexeme, fstring_expr_start, fstring_bang, fstring_expr_end, fstring_end, keyword_else, keyword_for, keyword_if, keyword_in, comma, colon, equal, star, star_star, slash, closing_round, closing_square}
use Rattle.starlark_ast.specs.declared.ast.BinOp.{BinOp}
use Rattle.starlark_ast.specs.declared.ast.BinOp.TheVariants as op
use Rattle.starlark_ast.specs.Tree as tree
use Rattle.starlark_ast.specs.Tree.{Sign}
use Rattle.starlark_grammar.specs.Nodes.{from, operated, targeted}
use Rattle.starlark_grammar.specs.Sorts.{sort, text_of, name_of}
use Rattle.starlark_grammar.specs.Tables.{Bracket, curly, closing_bracket, comprises, enclosed, doubled, field_format, conversion}

-- where members stand between commas
pub data Place : Type 0 where
  -- in brackets that begin there
  brackets : Bracket → ℕ → Place
  -- the arguments of a call
  behind : tree.Expr → Place
  -- the parameters of a lambda that begins there
  before_body : ℕ → Place
  -- the targets of a clause, in brackets that begin there, behind an element and clauses
  targets_in : Bracket → ℕ → tree.Member → tree.Clauses → Place

-- the token that ends them
abbrev pub close_of : Place → Lexeme
close_of (brackets p b) = closing_bracket p
close_of (behind q) = closing_round
close_of (before_body b) = colon
close_of (targets_in p b m cs) = keyword_in

-- which part of a member an expression is
pub data Part : Type 0 where
  an_item : Part
  a_value : tree.Expr → Part
  an_argument : Part
  a_named : List ℕ → Extent → Part
  an_args : Part
  a_kwargs : Part
  a_parameter : List ℕ → Extent → Part

-- the member with that expression at its end
abbrev pub member_of : Part → tree.Expr → Extent → tree.Member
member_of an_item q s = tree.item q
member_of (a_value k) q s = tree.pair k q
member_of an_argument q s = tree.positional q s
member_of (a_named n t) q s = tree.named n t q s
member_of an_args q s = tree.args q s
member_of a_kwargs q s = tree.kwargs q s
member_of (a_parameter n t) q s = tree.parameter tree.plain n t tree.untyped (tree.present q) s

-- the bounds of a slice that were read
pub data Bounds : Type 0 where
  at_first : Bounds
  at_second : tree.Bound → Bounds
  at_third : tree.Bound → tree.Bound → Bounds

pub data Frame : Type 0 where
  -- the members before it, where the first of them begins, and where this one does
  member : Place → tree.Members → ℕ → ℕ → Part → Frame
  -- the key of a pair of a dict
  key : ℕ → tree.Members → ℕ → ℕ → Frame
  bound : tree.Expr → Bounds → Frame
  second : tree.Expr → tree.Expr → Frame
  -- the right side of an operator
  operand : tree.Expr → BinOp → Frame
  behind_sign : Sign → ℕ → Frame
  condition : tree.Expr → Frame
  otherwise : tree.Expr → tree.Expr → Frame
  body : tree.Members → ℕ → Frame
  -- what a clause goes over, with its target
  over : Bracket → ℕ → tree.Member → tree.Clauses → tree.Expr → Frame
  filter : Bracket → ℕ → tree.Member → tree.Clauses → Frame
  field : ℕ → List ℕ → tree.Members → Frame

pub data Point : Type 0 where
  -- a member or the end: those so far, whether a comma is behind the last, its end, and where the first begins
  member_wanted : Place → tree.Members → Bool → ℕ → ℕ → Point
  -- behind a member that ends there
  member_read : Place → tree.Members → ℕ → ℕ → Point
  key_read : ℕ → tree.Members → ℕ → ℕ → tree.Expr → Point
  -- behind `*` and `**` among parameters, and behind a parameter's name
  star_read : ℕ → tree.Members → ℕ → ℕ → ℕ → Point
  stars_read : ℕ → tree.Members → ℕ → ℕ → Point
  name_read : ℕ → tree.Members → ℕ → List ℕ → ℕ → ℕ → Point
  bound_wanted : tree.Expr → Bounds → Point
  bound_read : tree.Expr → Bounds → tree.Expr → Point
  second_read : tree.Expr → tree.Expr → tree.Expr → Point
  -- behind `.`
  attribute_wanted : tree.Expr → Point
  -- behind the `not` of `not in`
  not_read : tree.Expr → Point
  condition_read : tree.Expr → tree.Expr → Point
  clauses_read : Bracket → ℕ → tree.Member → tree.Clauses → Point
  -- in an f-string
  piece_wanted : ℕ → List ℕ → tree.Members → Point
  field_read : ℕ → List ℕ → tree.Members → tree.Expr → Point
  -- behind `!`, and behind the letter there
  letter_wanted : ℕ → List ℕ → tree.Members → tree.Expr → ℕ → ℕ → Point
  letter_read : ℕ → List ℕ → tree.Members → Point

-- what a construct comes to
pub data Outcome : Type 0 where
  reach : Point → Outcome
  want : ℕ → Frame → Outcome
  -- an expression, whose last token ends there
  made : tree.Expr → ℕ → Outcome

-- a frame with its expression is an expression itself, or goes on
pub data After : Type 0 where
  becomes : tree.Expr → After
  goes_to : Point → After

-- behind an expression that ends there
abbrev pub after : Frame → tree.Expr → ℕ → After
after (member w ms f b part) q e = goes_to (member_read w (tree.more ms (member_of part q (stretch b e))) e f)
after (key b ms f g) q e = goes_to (key_read b ms f g q)
after (bound l bs) q e = goes_to (bound_read l bs q)
after (second l s) q e = goes_to (second_read l s q)
after (operand l o) q e = becomes (operated l o q)
after (behind_sign s b) q e = becomes (tree.signed s q (stretch b e))
after (condition t) q e = goes_to (condition_read t q)
after (otherwise t c) q e = becomes (tree.choice c t q (from t e))
after (body ms b) q e = becomes (tree.lambda ms q (stretch b e))
after (over p b m cs t) q e = goes_to (clauses_read p b m (tree.and_clause cs (tree.for_clause (target_of t) q)))
after (filter p b m cs) q e = goes_to (clauses_read p b m (tree.and_clause cs (tree.if_clause q)))
after (field b f ms) q e = goes_to (field_read b f ms q)

-- at a token of that sort, and at others
abbrev pub on : Lexeme → Lexeme → Option Outcome → Option Outcome → Option Outcome
on y x here other = if nat_eq (sort y) (sort x) then here else other

abbrev pub on_some : {A : Type 0} → Option A → (A → Option Outcome) → Option Outcome → Option Outcome
on_some None here other = other
on_some (Some a) here other = here a

-- where the first member begins, with one that begins at i
abbrev pub first_at : tree.Members → ℕ → ℕ → ℕ
first_at tree.none f i = i
first_at (tree.more ms m) f i = f

-- the members are whole, with a token that ends at j
abbrev pub closed : Place → tree.Members → Bool → ℕ → ℕ → ℕ → Outcome
closed (brackets p b) ms t e f j = made (enclosed p ms t (stretch b j) (stretch f e)) j
closed (behind q) ms t e f j = made (tree.call q ms (from q j)) j
closed (before_body b) ms t e f j = want 12 (body ms b)
closed (targets_in p b m cs) ms t e f j = want 11 (over p b m cs (targeted ms (stretch f e)))

-- a comprehension has one element
abbrev pub clause_behind : Place → tree.Members → Option Outcome
clause_behind (brackets p b) (tree.more tree.none m) = if comprises p then Some (reach (member_wanted (targets_in p b m tree.no_clauses) tree.none false 0 0)) else None
clause_behind _ _ = None

-- behind a member
abbrev pub behind_member : Place → tree.Members → ℕ → ℕ → Lexeme → ℕ → Option Outcome
behind_member w ms e f x j =
    on comma x (Some (reach (member_wanted w ms true j f)))
    (on (close_of w) x (Some (closed w ms false e f j))
    (on keyword_for x (clause_behind w ms) None))

-- a member that an expression does not begin
abbrev pub member_by : Place → tree.Members → ℕ → Lexeme → ℕ → ℕ → Option Outcome
member_by (behind q) ms f x i j =
    on star x (Some (want 12 (member (behind q) ms f i an_args)))
    (on star_star x (Some (want 12 (member (behind q) ms f i a_kwargs))) None)
member_by (before_body b) ms f x i j =
    on slash x (Some (reach (member_read (before_body b) (tree.more ms (tree.slash (stretch i j))) j f)))
    (on star x (Some (reach (star_read b ms f i j)))
    (on star_star x (Some (reach (stars_read b ms f i)))
    (on_some (name_of x) (λ n. Some (reach (name_read b ms f n i j))) None)))
member_by _ ms f x i j = None

-- behind a colon between bounds
abbrev pub next_bound : tree.Expr → Bounds → tree.Bound → Option Outcome
next_bound q at_first o = Some (reach (bound_wanted q (at_second o)))
next_bound q (at_second o) p = Some (reach (bound_wanted q (at_third o p)))
next_bound q (at_third o p) s = None

abbrev pub sliced : tree.Expr → Bounds → tree.Bound → ℕ → Option Outcome
sliced q at_first (tree.present s) j = Some (made (tree.index q (tree.single s) (from q j)) j)
sliced q at_first tree.absent j = None
sliced q (at_second o) p j = Some (made (tree.index q (tree.slice o p tree.absent) (from q j)) j)
sliced q (at_third o p) s j = Some (made (tree.index q (tree.slice o p s) (from q j)) j)

abbrev pub second_bound : tree.Expr → Bounds → tree.Expr → Option Outcome
second_bound q at_first s = Some (want 12 (second q s))
second_bound q _ s = None

-- the next token goes on with the construct
abbrev pub turn : Point → Lexeme → ℕ → ℕ → Option Outcome
turn (member_wanted (targets_in p b m cs) ms t e f) x i j = None
turn (member_wanted w ms t e f) x i j = on (close_of w) x (Some (closed w ms t e f j)) (member_by w ms (first_at ms f i) x i j)
turn (member_read w ms e f) x i j = behind_member w ms e f x j
turn (key_read b ms f g q) x i j = on colon x (Some (want 12 (member (brackets curly b) ms f g (a_value q)))) None
turn (star_read b ms f g h) x i j =
    on_some (name_of x) (λ n. Some (reach (member_read (before_body b) (tree.more ms (tree.parameter tree.starred n (stretch i j) tree.untyped tree.absent (stretch g j))) j f)))
    (behind_member (before_body b) (tree.more ms (tree.no_args (stretch g h))) h f x j)
turn (stars_read b ms f g) x i j = on_some (name_of x) (λ n. Some (reach (member_read (before_body b) (tree.more ms (tree.parameter tree.double_starred n (stretch i j) tree.untyped tree.absent (stretch g j))) j f))) None
turn (name_read b ms f n g h) x i j =
    on equal x (Some (want 12 (member (before_body b) ms f g (a_parameter n (stretch g h)))))
    (behind_member (before_body b) (tree.more ms (tree.parameter tree.plain n (stretch g h) tree.untyped tree.absent (stretch g h))) h f x j)
turn (bound_wanted q bs) x i j = on colon x (next_bound q bs tree.absent) (on closing_square x (sliced q bs tree.absent j) None)
turn (bound_read q bs s) x i j = on colon x (next_bound q bs (tree.present s)) (on closing_square x (sliced q bs (tree.present s) j) (on comma x (second_bound q bs s) None))
turn (second_read q s t) x i j = on closing_square x (Some (made (tree.index q (tree.double s t) (from q j)) j)) None
turn (attribute_wanted q) x i j = on_some (name_of x) (λ n. Some (made (tree.dot q n (stretch i j) (from q j)) j)) None
turn (not_read l) x i j = on keyword_in x (Some (want 7 (operand l op.NotIn))) None
turn (condition_read t c) x i j = on keyword_else x (Some (want 12 (otherwise t c))) None
turn (clauses_read p b m cs) x i j =
    on keyword_for x (Some (reach (member_wanted (targets_in p b m cs) tree.none false 0 0)))
    (on keyword_if x (Some (want 11 (filter p b m cs)))
    (on (closing_bracket p) x (Some (made (tree.comprehension m cs (stretch b j)) j)) None))
turn (piece_wanted b f ms) x i j =
    on_some (text_of x) (λ t. Some (reach (piece_wanted b (f ++ doubled t) ms)))
    (on fstring_expr_start x (Some (want 12 (field b f ms)))
    (on fstring_end x (Some (made (tree.fstring f (stretch b j) ms (stretch b j) (stretch b j)) j)) None))
turn (field_read b f ms q) x i j =
    on fstring_expr_end x (Some (reach (piece_wanted b (f ++ field_format) (tree.more ms (tree.item q)))))
    (on fstring_bang x (Some (reach (letter_wanted b f ms q i j))) None)
turn (letter_wanted b f ms q g h) x i j = on_some (name_of x) (λ n. on_some (conversion n) (λ s. Some (reach (letter_read b (f ++ s) (tree.more ms (tree.item q))))) None) None
turn (letter_read b f ms) x i j = on fstring_expr_end x (Some (reach (piece_wanted b f ms))) None

-- the expression that may come there, where the next token begins at i
abbrev pub opens : Point → ℕ → Option (ℕ × Frame)
opens (member_wanted (brackets curly b) ms t e f) i = Some (12, key b ms (first_at ms f i) i)
opens (member_wanted (brackets p b) ms t e f) i = Some (12, member (brackets p b) ms (first_at ms f i) i an_item)
opens (member_wanted (behind q) ms t e f) i = Some (12, member (behind q) ms (first_at ms f i) i an_argument)
opens (member_wanted (targets_in p b m cs) ms t e f) i = Some (7, member (targets_in p b m cs) ms (first_at ms f i) i an_item)
opens (bound_wanted q bs) i = Some (12, bound q bs)
opens _ i = None
