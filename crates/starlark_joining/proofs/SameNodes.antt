-- Nodes that are put together from parts that are the same but for places are so too.
use Rattle.std.proofs.Common.{ℕ, Bool, true, false}
use Rattle.starlark_place.specs.Place.{Extent}
use Rattle.starlark_ast.specs.declared.ast.BinOp.{BinOp}
use Rattle.starlark_ast.specs.Tree as t
use Rattle.starlark_ast.specs.Tree.{Leaf, Stars, Expr, Member, Members, Bound, Annotation, Name, Sequence, Statement, add_statement, place, statement_place}
use Rattle.starlark_rulebook.specs.Targets.{target_of, targets_of, member_target}
use Rattle.starlark_grammar.specs.Spans.{stretch}
use Rattle.starlark_grammar.specs.Nodes.{leaf_at, from, operated, grouped, targeted, type_at, named, first_begin, block_of}
use Rattle.starlark_grammar.specs.Tables.{Bracket, round, square, curly, enclosed}
use Rattle.starlark_joining.specs.Same.{SameSpan, SameExpr, same_leaf, same_tuple, same_list, same_dict, same_comprehension, same_dot, same_index, same_call, same_lambda, same_signed, same_operation, same_choice, same_fstring, SameMember, same_item, same_pair, same_positional, same_named, same_args, same_kwargs, same_slash, same_no_args, same_parameter, SameMembers, same_none, same_more, SameBound, SameAnnotation, same_typed, SameName, same_name, SameStatement, same_break, same_continue, same_pass, same_return, same_load, same_expression, same_assign, same_when, same_either, same_repeat, same_define, same_block, SameSequence, same_no_statements, same_add_statement}
use Rattle.starlark_joining.specs.Joined.{Greater}

pub stretch_same : {R : ℕ → ℕ → Type 0} (h : Greater R) {b c e f : ℕ} → R b c → R e f → SameSpan R (stretch b e) (stretch c f)
stretch_same h {b} {c} {e} {f} p q = record { begins = p; ends = h b e c f p q }

-- places of nodes
pub place_same : {R : ℕ → ℕ → Type 0} {x y : Expr} → SameExpr R x y → SameSpan R (place x) (place y)
place_same (same_leaf s r) = r
place_same (same_tuple m s) = s
place_same (same_list m s) = s
place_same (same_dict m s) = s
place_same (same_comprehension m c s) = s
place_same (same_dot x u s) = s
place_same (same_index x b s) = s
place_same (same_call x m s) = s
place_same (same_lambda m x s) = s
place_same (same_signed x s) = s
place_same (same_operation x p s) = s
place_same (same_choice a x p s) = s
place_same (same_fstring u m v s) = s

pub statement_place_same : {R : ℕ → ℕ → Type 0} {x y : Statement} → SameStatement R x y → SameSpan R (statement_place x) (statement_place y)
statement_place_same (same_break s) = s
statement_place_same (same_continue s) = s
statement_place_same (same_pass s) = s
statement_place_same (same_return v s) = s
statement_place_same (same_load m n s) = s
statement_place_same (same_expression x s) = s
statement_place_same (same_assign x a p s) = s
statement_place_same (same_when x a s) = s
statement_place_same (same_either x a c s) = s
statement_place_same (same_repeat x p a s) = s
statement_place_same (same_define n p a c s) = s
statement_place_same (same_block n s) = s

pub from_same : {R : ℕ → ℕ → Type 0} (h : Greater R) {x y : Expr} {e f : ℕ} → SameExpr R x y → R e f → SameSpan R (from x e) (from y f)
from_same h l q = stretch_same h (place_same l).begins q

pub operated_same : {R : ℕ → ℕ → Type 0} (h : Greater R) (o : BinOp) {x y p q : Expr} → SameExpr R x y → SameExpr R p q → SameExpr R (operated x o p) (operated y o q)
operated_same h o l r = same_operation l r (stretch_same h (place_same l).begins (place_same r).ends)

pub leaf_same : {R : ℕ → ℕ → Type 0} (l : Leaf) {s r : Extent} → SameSpan R s r → SameExpr R (leaf_at l s) (leaf_at l r)
leaf_same l s = same_leaf s s

pub type_same : {R : ℕ → ℕ → Type 0} {x y : Expr} → SameExpr R x y → SameAnnotation R (type_at x) (type_at y)
type_same l = same_typed l (place_same l)

pub named_same : {R : ℕ → ℕ → Type 0} (k : Stars) {n m : Name} {a c : Annotation} {b d : Bound} {s r : Extent} → SameName R n m → SameAnnotation R a c → SameBound R b d → SameSpan R s r → SameMember R (named k n a b s) (named k m c d r)
named_same k (same_name u) a b s = same_parameter u a b s

-- a place that counts only where members stand
pub data SameWhere (R : ℕ → ℕ → Type 0) : Members → ℕ → ℕ → Type 0 where
  no_place : {e f : ℕ} → SameWhere R t.none e f
  one_place : {ms : Members} {m : Member} {e f : ℕ} → R e f → SameWhere R (t.more ms m) e f

pub where_same : {R : ℕ → ℕ → Type 0} (ms : Members) {e f : ℕ} → R e f → SameWhere R ms e f
where_same t.none r = no_place
where_same (t.more ms m) r = one_place r

pub lists_same : {R : ℕ → ℕ → Type 0} {ms ns : Members} {s r : Extent} → SameMembers R ms ns → SameSpan R s r → SameExpr R (targeted ms s) (targeted ns r)
lists_same same_none s = same_tuple same_none s
lists_same (same_more same_none (same_item x)) s = x
lists_same (same_more same_none (same_pair x p)) s = same_tuple (same_more same_none (same_pair x p)) s
lists_same (same_more same_none (same_positional x u)) s = same_tuple (same_more same_none (same_positional x u)) s
lists_same (same_more same_none (same_named u x v)) s = same_tuple (same_more same_none (same_named u x v)) s
lists_same (same_more same_none (same_args x u)) s = same_tuple (same_more same_none (same_args x u)) s
lists_same (same_more same_none (same_kwargs x u)) s = same_tuple (same_more same_none (same_kwargs x u)) s
lists_same (same_more same_none (same_slash u)) s = same_tuple (same_more same_none (same_slash u)) s
lists_same (same_more same_none (same_no_args u)) s = same_tuple (same_more same_none (same_no_args u)) s
lists_same (same_more same_none (same_parameter u a b v)) s = same_tuple (same_more same_none (same_parameter u a b v)) s
lists_same (same_more (same_more ms n) m) s = same_tuple (same_more (same_more ms n) m) s

pub group_same : {R : ℕ → ℕ → Type 0} (h : Greater R) {ms ns : Members} (z : Bool) {s r : Extent} {e f i j : ℕ} → SameMembers R ms ns → SameWhere R ms e f → SameWhere R ms i j → SameSpan R s r → SameExpr R (grouped ms z s (stretch i e)) (grouped ns z r (stretch j f))
group_same h z same_none a b s = same_tuple same_none s
group_same h true (same_more same_none (same_item x)) (one_place a) (one_place b) s = same_tuple (same_more same_none (same_item x)) (stretch_same h b a)
group_same h false (same_more same_none (same_item x)) a b s = x
group_same h z (same_more same_none (same_pair x p)) (one_place a) (one_place b) s = same_tuple (same_more same_none (same_pair x p)) (stretch_same h b a)
group_same h z (same_more same_none (same_positional x u)) (one_place a) (one_place b) s = same_tuple (same_more same_none (same_positional x u)) (stretch_same h b a)
group_same h z (same_more same_none (same_named u x v)) (one_place a) (one_place b) s = same_tuple (same_more same_none (same_named u x v)) (stretch_same h b a)
group_same h z (same_more same_none (same_args x u)) (one_place a) (one_place b) s = same_tuple (same_more same_none (same_args x u)) (stretch_same h b a)
group_same h z (same_more same_none (same_kwargs x u)) (one_place a) (one_place b) s = same_tuple (same_more same_none (same_kwargs x u)) (stretch_same h b a)
group_same h z (same_more same_none (same_slash u)) (one_place a) (one_place b) s = same_tuple (same_more same_none (same_slash u)) (stretch_same h b a)
group_same h z (same_more same_none (same_no_args u)) (one_place a) (one_place b) s = same_tuple (same_more same_none (same_no_args u)) (stretch_same h b a)
group_same h z (same_more same_none (same_parameter u c d v)) (one_place a) (one_place b) s = same_tuple (same_more same_none (same_parameter u c d v)) (stretch_same h b a)
group_same h z (same_more (same_more ms n) m) (one_place a) (one_place b) s = same_tuple (same_more (same_more ms n) m) (stretch_same h b a)

pub enclosed_same : {R : ℕ → ℕ → Type 0} (h : Greater R) (p : Bracket) {ms ns : Members} (z : Bool) {s r : Extent} {e f i j : ℕ} → SameMembers R ms ns → SameWhere R ms e f → SameWhere R ms i j → SameSpan R s r → SameExpr R (enclosed p ms z s (stretch i e)) (enclosed p ns z r (stretch j f))
enclosed_same h round z m a b s = group_same h z m a b s
enclosed_same h square z m a b s = same_list m s
enclosed_same h curly z m a b s = same_dict m s

-- what is assigned to
mutual
  pub target_same : {R : ℕ → ℕ → Type 0} {x y : Expr} → SameExpr R x y → SameExpr R (target_of x) (target_of y)
  target_same (same_leaf s r) = same_leaf s r
  target_same (same_tuple m s) = same_tuple (targets_same m) s
  target_same (same_list m s) = same_tuple (targets_same m) s
  target_same (same_dict m s) = same_dict m s
  target_same (same_comprehension m c s) = same_comprehension m c s
  target_same (same_dot x u s) = same_dot x u s
  target_same (same_index x b s) = same_index x b s
  target_same (same_call x m s) = same_call x m s
  target_same (same_lambda m x s) = same_lambda m x s
  target_same (same_signed x s) = same_signed x s
  target_same (same_operation x p s) = same_operation x p s
  target_same (same_choice a x p s) = same_choice a x p s
  target_same (same_fstring u m v s) = same_fstring u m v s

  pub targets_same : {R : ℕ → ℕ → Type 0} {ms ns : Members} → SameMembers R ms ns → SameMembers R (targets_of ms) (targets_of ns)
  targets_same same_none = same_none
  targets_same (same_more ms m) = same_more (targets_same ms) (member_target_same m)

  pub member_target_same : {R : ℕ → ℕ → Type 0} {m n : Member} → SameMember R m n → SameMember R (member_target m) (member_target n)
  member_target_same (same_item x) = same_item (target_same x)
  member_target_same (same_pair x p) = same_pair x p
  member_target_same (same_positional x s) = same_positional x s
  member_target_same (same_named u x s) = same_named u x s
  member_target_same (same_args x s) = same_args x s
  member_target_same (same_kwargs x s) = same_kwargs x s
  member_target_same (same_slash s) = same_slash s
  member_target_same (same_no_args s) = same_no_args s
  member_target_same (same_parameter u a b s) = same_parameter u a b s

-- statements in a row
pub first_begin_same : {R : ℕ → ℕ → Type 0} {ss rs : Sequence} {s r : Statement} → SameSequence R (add_statement ss s) (add_statement rs r) → R (first_begin (add_statement ss s)) (first_begin (add_statement rs r))
first_begin_same (same_add_statement same_no_statements s) = (statement_place_same s).begins
first_begin_same (same_add_statement (same_add_statement ss r) s) = first_begin_same (same_add_statement ss r)

pub block_same : {R : ℕ → ℕ → Type 0} (h : Greater R) {ss rs : Sequence} {e f : ℕ} → SameSequence R ss rs → R e f → SameStatement R (block_of ss e) (block_of rs f)
block_same h same_no_statements p = same_block same_no_statements (stretch_same h p p)
block_same h (same_add_statement same_no_statements s) p = s
block_same h (same_add_statement (same_add_statement ss r) s) p = same_block (same_add_statement (same_add_statement ss r) s) (stretch_same h (first_begin_same (same_add_statement ss r)) p)
