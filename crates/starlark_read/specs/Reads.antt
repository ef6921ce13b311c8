-- What a function of the parser says.
use Rattle.std.specs.Prelude.{◌≡◌, ℕ, zero, suc, if◌then◌else◌, List, [], ◌∷◌, ◌++◌, length, Option, Some, None, Result, Ok, Err, false}
use Rattle.starlark_place.specs.Place.{extent}
use Rattle.starlark_lexer.specs.Items.{Lexeme, string, Item, Stop, Lexed, nothing, with_item, with_fault, lexeme_of}
use Rattle.starlark_lexer.specs.declared.dialect.Dialect.{Dialect}
use Rattle.starlark_ast.specs.declared.ast.BinOp.{BinOp}
use Rattle.starlark_ast.specs.Tree as tree
use Rattle.starlark_rulebook.specs.Rules.{Finding}
use Rattle.starlark_rulebook.specs.Types.{type_fault}
use Rattle.starlark_read.specs.declared.error.Error.{Error}
use Rattle.starlark_read.specs.declared.error.Error.TheVariants as error
use Rattle.starlark_read.specs.declared.feed.Lookahead.{Lookahead}
use Rattle.starlark_read.specs.declared.feed.Lookahead.TheVariants as ahead
use Rattle.starlark_read.specs.Asides.{Aside}
use Rattle.starlark_grammar.specs.Nodes.{type_at}
use Rattle.starlark_grammar.specs.Sorts.{name_of}
use Rattle.starlark_grammar.specs.Tables.{Bracket, Kind, targets, Beginning, signed, beginning, begins_at, Suffix, joined, suffix, grade_of}
use Rattle.starlark_grammar.specs.Points.{targets_in, member_wanted, an_item, member, Bounds, bound, bound_wanted}
use Rattle.starlark_grammar.specs.Frames.{Lists, kind_listed, Frames, inside, listed, State, has, stands, wants_list}
use Rattle.starlark_grammar.specs.Runs.{run}
use Rattle.starlark_grammar.specs.Verdicts.{Verdict, judge}
use Rattle.starlark_grammar.specs.Verdicts as verdict
use Rattle.starlark_grammar.specs.Language.{is_comment, last_end}

-- what is left to read: the tokens and the fault behind them, the lexemes, comments among them, that the lexer has still to
-- be asked for, where the last token ends that was read, what is told of the whole text beside its tokens, which no reading
-- changes, and the broken rule at which reading stopped, if it stopped at one
pub record Left : Type 0 where
  pub last : ℕ
  pub items : List Item
  pub fault : Option Stop
  pub unasked : List Item
  pub aside : Aside
  pub broken : Option Finding

-- what the lexer has left, with the one token that was asked for ahead
abbrev pub with_ahead : Lookahead → Lexed → Lexed
with_ahead (ahead.Token s x) l = with_item s.begin (lexeme_of x) s.end l
with_ahead ahead.End l = nothing
with_ahead (ahead.Fault e s) l = with_fault s.begin e s.end

abbrev pub left_of : ℕ → Lexed → List Item → Aside → Left
left_of n l us a = record { last = n; items = l.items; fault = l.fault; unasked = us; aside = a; broken = None }

-- the same, with the rule at which reading stops
abbrev pub stopped : Left → Option Finding → Left
stopped ts o = record { last = ts.last; items = ts.items; fault = ts.fault; unasked = ts.unasked; aside = ts.aside; broken = o }

-- the lexemes behind the first one that is no comment
abbrev pub behind_token : List Item → List Item
behind_token [] = []
behind_token (x ∷ xs) = if is_comment x.lexeme then behind_token xs else xs

-- the lexemes behind the first n that are no comments
abbrev pub behind_tokens : ℕ → List Item → List Item
behind_tokens zero xs = xs
behind_tokens (suc n) xs = behind_tokens n (behind_token xs)

-- how often the lexer has still to be asked where these tokens and these lexemes are left: not at all behind the fault and the end
abbrev pub asks_left : List Item → List Item → ℕ
asks_left [] us = 0
asks_left (x ∷ xs) us = suc (length us)

-- the first token
abbrev pub first_lexeme : List Item → Option Lexeme
first_lexeme [] = None
first_lexeme (x ∷ xs) = Some x.lexeme

-- the level of the suffix or the operator that the tokens begin with
abbrev pub grade_ahead : List Item → ℕ
grade_ahead [] = 13
grade_ahead (x ∷ xs) = grade_of (suffix x.lexeme)

-- the operator that the tokens begin with, one of a single token
abbrev pub operator_of : Option Suffix → Option BinOp
operator_of (Some (joined o)) = Some o
operator_of _ = None

abbrev pub operator_ahead : List Item → Option BinOp
operator_ahead [] = None
operator_ahead (x ∷ xs) = operator_of (suffix x.lexeme)

-- the level of the sign or the lambda that the tokens begin with, or 0
abbrev pub begins_by : Option Beginning → ℕ
begins_by None = 0
begins_by (Some b) = begins_at b

abbrev pub begins_ahead : List Item → ℕ
begins_ahead [] = 0
begins_ahead (x ∷ xs) = begins_by (beginning x.lexeme)

-- the sign that they begin with
abbrev pub sign_in : Option Beginning → Option tree.Sign
sign_in (Some (signed s)) = Some s
sign_in _ = None

abbrev pub sign_ahead : List Item → Option tree.Sign
sign_ahead [] = None
sign_ahead (x ∷ xs) = sign_in (beginning x.lexeme)

-- the name that the tokens begin with
abbrev pub name_ahead : List Item → Option (List ℕ)
name_ahead [] = None
name_ahead (x ∷ xs) = name_of x.lexeme

-- the text of a literal
abbrev pub string_of : Lexeme → Option (List ℕ)
string_of (string t) = Some t
string_of _ = None

abbrev pub string_ahead : List Item → Option (List ℕ)
string_ahead [] = None
string_ahead (x ∷ xs) = string_of x.lexeme

-- the token is read
pub record Passes (old : Left) (x : Item) (new : Left) : Type 0 where
  pub items : old.items ≡ x ∷ new.items
  pub fault : new.fault ≡ old.fault
  pub last : new.last ≡ x.end
  pub unasked : new.unasked ≡ behind_token old.unasked
  pub aside : new.aside ≡ old.aside

-- nothing but tokens that were read lies between
pub record SameEnd (ts us : Left) : Type 0 where
  pub passed : List Item
  pub items : ts.items ≡ passed ++ us.items
  pub fault : us.fault ≡ ts.fault
  pub last : last_end us.last us.items ≡ last_end ts.last ts.items
  pub unasked : us.unasked ≡ behind_tokens (length passed) ts.unasked
  pub aside : us.aside ≡ ts.aside

-- from s at the tokens ts the machine comes to u at the tokens us, and all that it meets there is right
pub record Goes (d : Dialect) (s : State) (ts : Left) (u : State) (us : Left) : Type 0 where
  pub same : judge d (run s ts.items) ≡ judge d (run u us.items)
  pub behind : SameEnd ts us

-- from s at the tokens ts the machine is stuck at the tokens us
pub record Sticks (d : Dialect) (s : State) (ts us : Left) : Type 0 where
  pub same : judge d (run s ts.items) ≡ verdict.Unexpected us.items
  pub behind : SameEnd ts us

-- from s at the tokens ts the answer is that, at the tokens us
pub record Answers (d : Dialect) (s : State) (ts : Left) (v : Verdict) (us : Left) : Type 0 where
  pub same : judge d (run s ts.items) ≡ v
  pub behind : SameEnd ts us

-- from s at the tokens ts a rule is broken at the tokens us, which keep it
pub record Breaks (d : Dialect) (s : State) (ts us : Left) : Type 0 where
  pub finding : Finding
  pub kept : us.broken ≡ Some finding
  pub answers : Answers d s ts (verdict.Broken finding (length us.items)) us

-- The machine comes from s at the tokens before to the state of the result at the tokens after, or it
-- is stuck at the tokens after, or a rule is broken there.
pub record Comes {A : Type 0} (d : Dialect) (s : State) (t : A → State) (before : Left) (r : Result A Error) (after : Left) : Type 0 where
  pub comes : (x : A) → r ≡ Ok x → Goes d s before (t x) after
  pub stuck : r ≡ Err error.Unexpected → Sticks d s before after
  pub breaks : r ≡ Err error.Broken → Breaks d s before after

-- What waits for a list without brackets: something in a statement, or a clause of a comprehension.
pub data Unbracketed : Type 0 where
  in_statement : Lists → Unbracketed
  in_clause : Bracket → ℕ → tree.Member → tree.Clauses → Frames → Unbracketed

-- the kind of its members
abbrev pub kind_within : Unbracketed → Kind
kind_within (in_statement k) = kind_listed k
kind_within (in_clause p b m cs k) = targets

-- its first member is wanted
abbrev pub wants_first : Unbracketed → State
wants_first (in_statement k) = wants_list k
wants_first (in_clause p b m cs k) = stands (member_wanted (targets_in p b m cs) tree.none false 0 0) k

-- one more member is wanted: those so far, and where the first begins
abbrev pub one_of : Unbracketed → tree.Members → ℕ → Frames
one_of (in_statement k) ms f = listed ms f k
one_of (in_clause p b m cs k) ms f = inside (member (targets_in p b m cs) ms f f an_item) k

-- behind a bound of a slice, or where there is none
abbrev pub bound_at : tree.Expr → Bounds → tree.Bound → ℕ → Frames → State
bound_at q bs tree.absent e k = stands (bound_wanted q bs) k
bound_at q bs (tree.present s) e k = has s e (inside (bound q bs) k)

-- the expression that a type is of
abbrev pub type_read : tree.Annotation → tree.Expr
type_read (tree.typed q s) = q
type_read tree.untyped = tree.leaf tree.ellipsis (extent 0 0) (extent 0 0)

-- the type of an expression that breaks no rule as one
pub record IsType (d : Dialect) (t : tree.Annotation) : Type 0 where
  pub is : t ≡ type_at (type_read t)
  pub right : type_fault d (type_read t) ≡ None
