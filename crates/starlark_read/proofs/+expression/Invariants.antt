use Rattle.std.proofs.Common.{ℕ, ◌+◌, ◌≡◌, ◌≤◌, suc, length, ◌≢◌, true, ◌<◌, false, [], string_bytes, ◌*◌}
use Rattle.starlark_lexer.specs.declared.dialect.Dialect.{Dialect}
use Rattle.starlark_grammar.specs.Frames.{Frames, has, tail, stands}
use Rattle.starlark_grammar.specs.Machine.{tails}
use Rattle.starlark_read.specs.Reads.{Goes, Unbracketed, kind_within, one_of}
use Rattle.starlark_ast.specs.View.{members}
use Rattle.starlark_read.proofs.Arguing.{Wanted}
use Rattle.starlark_ast.specs.Tree as tree
use Rattle.starlark_read.specs.Kinds.{token_of}
use Rattle.starlark_grammar.specs.Made.{items_of, pairs_of, clauses_of}
use Rattle.starlark_grammar.specs.Tables.{Bracket, closing_bracket, kind_in, tests, curly, level_of}
use Rattle.starlark_grammar.specs.Points.{brackets, member_wanted, clauses_read, targets_in, piece_wanted, before_body, member_read}
use Rattle.starlark_read.proofs.Listing.{behind_comma}
use Rattle.starlark_grammar.specs.Nodes.{start}
use Rattle.starlark_read.proofs.+expression.Given as goal

abbrev pub decreases-expression::expression : goal.decreases-expression::expression
decreases-expression::expression g l = 8 * length l.tokens.now.items + 2

abbrev pub decreases-signs::signed : goal.decreases-signs::signed
decreases-signs::signed g l = 8 * length l.tokens.now.items + 3

abbrev pub decreases-signs::lambda : goal.decreases-signs::lambda
decreases-signs::lambda g l = 8 * length l.tokens.now.items + 5

abbrev pub decreases-operators::operators : goal.decreases-operators::operators
decreases-operators::operators g l = 8 * length l.tokens.now.items + 0

abbrev pub invariant-operators::operators-loop-floor : goal.invariant-operators::operators-loop-floor
invariant-operators::operators-loop-floor g l = record {
  reads : (d : Dialect) (c b : ℕ) (k : Frames) → c + l.fn.floor ≡ suc l.fn.level → b + l.floor ≡ suc l.fn.level → Goes d (has (g.B.Make.means l.fn.left) l.fn.tokens.last (tails c l.fn.floor k)) l.fn.tokens (has (g.B.Make.means l.left) l.tokens.last (tails b l.floor k)) l.tokens;
  low : 1 ≤ l.floor;
  below : l.floor ≤ suc l.fn.level;
  shorter : length l.tokens.items ≤ length l.fn.tokens.items;
}

abbrev pub decreases-operators::operators-loop-floor : goal.decreases-operators::operators-loop-floor
decreases-operators::operators-loop-floor g l = length l.tokens.items

abbrev pub decreases-operators::choice : goal.decreases-operators::choice
decreases-operators::choice g l = 8 * length l.tokens.now.items + 3

abbrev pub decreases-suffixes::suffixes : goal.decreases-suffixes::suffixes
decreases-suffixes::suffixes g l = 8 * length l.tokens.now.items + 0

abbrev pub invariant-suffixes::suffixes-loop-tokens : goal.invariant-suffixes::suffixes-loop-tokens
invariant-suffixes::suffixes-loop-tokens g l = record {
  reads : (d : Dialect) (k : Frames) → Goes d (has (g.B.Make.means l.fn.left) l.fn.tokens.last (tail 0 k)) l.fn.tokens (has (g.B.Make.means l.left) l.tokens.last (tail 0 k)) l.tokens;
  shorter : length l.tokens.items ≤ length l.fn.tokens.items;
}

abbrev pub decreases-suffixes::suffixes-loop-tokens : goal.decreases-suffixes::suffixes-loop-tokens
decreases-suffixes::suffixes-loop-tokens g l = length l.tokens.items

abbrev pub decreases-arguments::call : goal.decreases-arguments::call
decreases-arguments::call g l = 8 * length l.tokens.now.items + 5

abbrev pub decreases-arguments::arguments : goal.decreases-arguments::arguments
decreases-arguments::arguments g l = 8 * length l.tokens.now.items + 4

abbrev pub invariant-arguments::arguments-loop-found : goal.invariant-arguments::arguments-loop-found
invariant-arguments::arguments-loop-found g l = record {
  reads : (d : Dialect) (q : tree.Expr) (k : Frames) → Wanted d q k l.fn.tokens (members g.B.Make.argument_means l.found.items) l.tokens;
  shorter : length l.tokens.items ≤ length l.fn.tokens.items;
}

abbrev pub decreases-arguments::arguments-loop-found : goal.decreases-arguments::arguments-loop-found
decreases-arguments::arguments-loop-found g l = length l.tokens.items

abbrev pub decreases-arguments::argument : goal.decreases-arguments::argument
decreases-arguments::argument g l = 8 * length l.tokens.now.items + 3

abbrev pub decreases-arguments::behind_name : goal.decreases-arguments::behind_name
decreases-arguments::behind_name g l = 8 * length l.tokens.now.items + 1

abbrev pub decreases-subscripts::subscript : goal.decreases-subscripts::subscript
decreases-subscripts::subscript g l = 8 * length l.tokens.now.items + 3

abbrev pub decreases-subscripts::index_of_two : goal.decreases-subscripts::index_of_two
decreases-subscripts::index_of_two g l = 8 * length l.tokens.now.items + 3

abbrev pub decreases-subscripts::slice : goal.decreases-subscripts::slice
decreases-subscripts::slice g l = 8 * length l.tokens.now.items + 4

abbrev pub decreases-subscripts::step : goal.decreases-subscripts::step
decreases-subscripts::step g l = 8 * length l.tokens.now.items + 4

abbrev pub decreases-subscripts::bound : goal.decreases-subscripts::bound
decreases-subscripts::bound g l = 8 * length l.tokens.now.items + 3

abbrev pub decreases-atoms::atom : goal.decreases-atoms::atom
decreases-atoms::atom g l = 8 * length l.tokens.now.items + 1

abbrev pub decreases-atoms::parenthesized : goal.decreases-atoms::parenthesized
decreases-atoms::parenthesized g l = 8 * length l.tokens.now.items + 3

abbrev pub decreases-atoms::list : goal.decreases-atoms::list
decreases-atoms::list g l = 8 * length l.tokens.now.items + 3

abbrev pub decreases-atoms::dict : goal.decreases-atoms::dict
decreases-atoms::dict g l = 8 * length l.tokens.now.items + 4

abbrev pub decreases-brackets::members_behind : goal.decreases-brackets::members_behind
decreases-brackets::members_behind g l = 8 * length l.tokens.now.items + 3

abbrev pub invariant-brackets::members_behind-loop-members : goal.invariant-brackets::members_behind-loop-members
invariant-brackets::members_behind-loop-members g l = record {
  reads : (d : Dialect) (p : Bracket) (b : ℕ) (k : Frames) → kind_in p ≡ tests → token_of l.fn.closing ≡ closing_bracket p → Goes d (stands (member_wanted (brackets p b) (tree.more tree.none (tree.item (g.B.Make.means l.fn.first))) true l.fn.tokens.last l.fn.begin) k) l.fn.tokens (stands (member_wanted (brackets p b) (items_of g.B.Make.means l.members.items) true l.tokens.last l.fn.begin) k) l.tokens;
  filled : items_of g.B.Make.means l.members.items ≢ tree.none;
  shorter : length l.tokens.items ≤ length l.fn.tokens.items;
}

abbrev pub decreases-brackets::members_behind-loop-members : goal.decreases-brackets::members_behind-loop-members
decreases-brackets::members_behind-loop-members g l = length l.tokens.items

abbrev pub decreases-brackets::pair : goal.decreases-brackets::pair
decreases-brackets::pair g l = 8 * length l.tokens.now.items + 3

abbrev pub decreases-brackets::pairs_behind : goal.decreases-brackets::pairs_behind
decreases-brackets::pairs_behind g l = 8 * length l.tokens.now.items + 4

abbrev pub invariant-brackets::pairs_behind-loop-members : goal.invariant-brackets::pairs_behind-loop-members
invariant-brackets::pairs_behind-loop-members g l = record {
  reads : (d : Dialect) (b f : ℕ) (k : Frames) → Goes d (stands (member_wanted (brackets curly b) (tree.more tree.none (tree.pair (g.B.Make.means l.fn.first.0) (g.B.Make.means l.fn.first.1))) true l.fn.tokens.last f) k) l.fn.tokens (stands (member_wanted (brackets curly b) (pairs_of g.B.Make.means l.members.items) true l.tokens.last f) k) l.tokens;
  filled : pairs_of g.B.Make.means l.members.items ≢ tree.none;
  shorter : length l.tokens.items ≤ length l.fn.tokens.items;
}

abbrev pub decreases-brackets::pairs_behind-loop-members : goal.decreases-brackets::pairs_behind-loop-members
decreases-brackets::pairs_behind-loop-members g l = length l.tokens.items

abbrev pub decreases-comprehension::clauses : goal.decreases-comprehension::clauses
decreases-comprehension::clauses g l = 8 * length l.tokens.now.items + 6

abbrev pub invariant-comprehension::clauses-loop-rest : goal.invariant-comprehension::clauses-loop-rest
invariant-comprehension::clauses-loop-rest g l = record {
  reads : (d : Dialect) (p : Bracket) (b : ℕ) (m : tree.Member) (k : Frames) → Goes d (stands (member_wanted (targets_in p b m tree.no_clauses) tree.none false 0 0) k) l.fn.tokens (stands (clauses_read p b m (clauses_of (g.B.Make.clause_means l.first) g.B.Make.clause_means l.rest.items)) k) l.tokens;
  shorter : length l.tokens.items < length l.fn.tokens.items;
}

abbrev pub decreases-comprehension::clauses-loop-rest : goal.decreases-comprehension::clauses-loop-rest
decreases-comprehension::clauses-loop-rest g l = length l.tokens.items

abbrev pub decreases-comprehension::for_clause : goal.decreases-comprehension::for_clause
decreases-comprehension::for_clause g l = 8 * length l.tokens.now.items + 5

abbrev pub decreases-listed::listed : goal.decreases-listed::listed
decreases-listed::listed g l = 8 * length l.tokens.now.items + 3

abbrev pub decreases-listed::listed_behind : goal.decreases-listed::listed_behind
decreases-listed::listed_behind g l = 8 * length l.tokens.now.items + 3

abbrev pub invariant-listed::listed_behind-loop-begin : goal.invariant-listed::listed_behind-loop-begin
invariant-listed::listed_behind-loop-begin g l = record {
  reads : (d : Dialect) (k : Unbracketed) → level_of (kind_within k) ≡ l.fn.level → Goes d (has (g.B.Make.means l.fn.first) l.fn.tokens.last (one_of k tree.none l.fn.begin)) l.fn.tokens (behind_comma k (items_of g.B.Make.means l.members.items) l.fn.begin l.tokens.last) l.tokens;
  filled : items_of g.B.Make.means l.members.items ≢ tree.none;
  shorter : length l.tokens.items ≤ length l.fn.tokens.items;
}

abbrev pub decreases-listed::listed_behind-loop-begin : goal.decreases-listed::listed_behind-loop-begin
decreases-listed::listed_behind-loop-begin g l = length l.tokens.items

abbrev pub decreases-f_string::f_string : goal.decreases-f_string::f_string
decreases-f_string::f_string g l = 8 * length l.tokens.now.items + 0

abbrev pub invariant-f_string::f_string-loop-fields : goal.invariant-f_string::f_string-loop-fields
invariant-f_string::f_string-loop-fields g l = record {
  reads : (d : Dialect) (k : Frames) → Goes d (stands (piece_wanted l.fn.begin [] tree.none) k) l.fn.tokens (stands (piece_wanted l.fn.begin (string_bytes l.format) (items_of g.B.Make.means l.fields.items)) k) l.tokens;
  shorter : length l.tokens.items ≤ length l.fn.tokens.items;
}

abbrev pub decreases-f_string::f_string-loop-fields : goal.decreases-f_string::f_string-loop-fields
decreases-f_string::f_string-loop-fields g l = length l.tokens.items

abbrev pub decreases-f_string::field : goal.decreases-f_string::field
decreases-f_string::field g l = 8 * length l.tokens.now.items + 3

abbrev pub decreases-parameters::lambda_parameters : goal.decreases-parameters::lambda_parameters
decreases-parameters::lambda_parameters g l = 8 * length l.tokens.now.items + 4

abbrev pub invariant-parameters::lambda_parameters-loop-found : goal.invariant-parameters::lambda_parameters-loop-found
invariant-parameters::lambda_parameters-loop-found g l = record {
  reads : (d : Dialect) (b : ℕ) (k : Frames) → Goes d (stands (member_wanted (before_body b) tree.none false 0 0) k) l.fn.tokens (stands (member_read (before_body b) (members g.B.Make.parameter_means l.found.items) l.tokens.last (start l.fn.tokens.items)) k) l.tokens;
  filled : members g.B.Make.parameter_means l.found.items ≢ tree.none;
  shorter : length l.tokens.items < length l.fn.tokens.items;
}

abbrev pub decreases-parameters::lambda_parameters-loop-found : goal.decreases-parameters::lambda_parameters-loop-found
decreases-parameters::lambda_parameters-loop-found g l = length l.tokens.items

abbrev pub decreases-parameters::parameter : goal.decreases-parameters::parameter
decreases-parameters::parameter g l = 8 * length l.tokens.now.items + 3
