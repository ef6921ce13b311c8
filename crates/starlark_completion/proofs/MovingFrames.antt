-- A token at the beginning of an expression and one behind it open and close what they tell.
use Rattle.std.proofs.Common.{ℕ, ◌≡◌, zero, suc, Bool, true, false, Option, Some, None, nat_eq, cond, refl, ap}
use Rattle.starlark_lexer.specs.Items.{Lexeme, newline, identifier, integer, float, string, bytes, fstring_start, keyword_and, keyword_if, keyword_in, keyword_lambda, keyword_not, keyword_or, comma, semicolon, equal, equal_equal, bang_equal, less_than, greater_than, less_equal, greater_equal, plus, minus, star, slash, slash_slash, percent, ampersand, pipe, caret, less_less, greater_greater, tilde, dot, ellipsis, opening_round, closing_round, opening_square, opening_curly}
use Rattle.starlark_ast.specs.Tree as tree
use Rattle.starlark_ast.specs.Tree.{Members, Stars, Name, Annotation, Statement, plain, starred, double_starred}
use Rattle.starlark_grammar.specs.Tables.{Beginning, beginning, begins_at, Suffix, suffix, grade}
use Rattle.starlark_grammar.specs.Frames.{Blocks, outer, inner, Ifs, at_if, at_elif, Suites, of_if, of_else, of_for, of_def, Head, head, Rows, at_block, at_suite, Line, line, Frames, tail, State}
use Rattle.starlark_grammar.specs.Machine.{push, settled, close, end_row, enter, goes_on, begun, begin, begin_with, end_small, end_param, begin_default}
use Rattle.starlark_cutting.specs.Opened.{Nest, outside}
use Rattle.starlark_completion.specs.Shapes.{in_frames, block_depth, if_depth, suite_depth, head_depth, row_depth, line_depth, frames_depth, depth, at_beginning, block_stage, stage, is_within, nest}
use Rattle.starlark_completion.specs.Moves.{Moves}

pub either_moves : (r : Nest) (d : ℕ) (x : Lexeme) (a c : Option State) (z : Bool) → Moves r d x a → Moves r d x c → Moves r d x (cond z a c)
either_moves r d x a c true g h = g
either_moves r d x a c false g h = h

-- an expression begins
abbrev begun_by : Option Beginning → ℕ → ℕ → Frames → Option State
begun_by None i j k = None
begun_by (Some b) i j k = Some (begun b i j k)

begun_moves : (x : Lexeme) (i j : ℕ) (k : Frames) → Moves (in_frames k) (frames_depth k) x (begun_by (beginning x) i j k)
begun_moves (identifier n) i j k = (refl, refl, refl)
begun_moves (integer n) i j k = (refl, refl, refl)
begun_moves (float n) i j k = (refl, refl, refl)
begun_moves (string t) i j k = (refl, refl, refl)
begun_moves (bytes t) i j k = (refl, refl, refl)
begun_moves ellipsis i j k = (refl, refl, refl)
begun_moves opening_round i j k = (refl, refl, refl)
begun_moves opening_square i j k = (refl, refl, refl)
begun_moves opening_curly i j k = (refl, refl, refl)
begun_moves (fstring_start q) i j k = (refl, refl, refl)
begun_moves keyword_not i j k = (refl, refl, refl)
begun_moves minus i j k = (refl, refl, refl)
begun_moves plus i j k = (refl, refl, refl)
begun_moves tilde i j k = (refl, refl, refl)
begun_moves keyword_lambda i j k = (refl, refl, refl)
begun_moves _ i j k = tt

begin_moves : (x : Lexeme) (n : ℕ) (b : Beginning) (i j : ℕ) (k : Frames) → ((k : Frames) → Moves (in_frames k) (frames_depth k) x (Some (begun b i j k))) → Moves (in_frames k) (frames_depth k) x (begin n b i j k)
begin_moves x zero b i j k f = either_moves (in_frames k) (frames_depth k) x (Some (begun b i j k)) None (nat_eq (begins_at b) 0) (f k) tt
begin_moves x (suc n) b i j k f = either_moves (in_frames k) (frames_depth k) x (Some (begun b i j k)) (begin n b i j (tail (suc n) k)) (nat_eq (begins_at b) (suc n)) (f k) (begin_moves x n b i j (tail (suc n) k) f)

pub with_moves : (x : Lexeme) (n i j : ℕ) (k : Frames) → Moves (in_frames k) (frames_depth k) x (begin_with (beginning x) n i j k)
with_moves x n i j k = go (beginning x) (λ k. begun_moves x i j k)
  where
    go : (o : Option Beginning) → ((k : Frames) → Moves (in_frames k) (frames_depth k) x (begun_by o i j k)) → Moves (in_frames k) (frames_depth k) x (begin_with o n i j k)
    go None f = tt
    go (Some b) f = begin_moves x n b i j k f

-- a suffix or an operator follows
abbrev pub entered : Option Suffix → tree.Expr → Frames → Option State
entered None q k = None
entered (Some s) q k = Some (enter s q k)

pub enter_moves : (x : Lexeme) (q : tree.Expr) (k : Frames) → Moves (in_frames k) (frames_depth k) x (entered (suffix x) q k)
enter_moves dot q k = (refl, refl, refl)
enter_moves opening_square q k = (refl, refl, refl)
enter_moves opening_round q k = (refl, refl, refl)
enter_moves keyword_or q k = (refl, refl, refl)
enter_moves keyword_and q k = (refl, refl, refl)
enter_moves equal_equal q k = (refl, refl, refl)
enter_moves bang_equal q k = (refl, refl, refl)
enter_moves less_than q k = (refl, refl, refl)
enter_moves greater_than q k = (refl, refl, refl)
enter_moves less_equal q k = (refl, refl, refl)
enter_moves greater_equal q k = (refl, refl, refl)
enter_moves keyword_in q k = (refl, refl, refl)
enter_moves pipe q k = (refl, refl, refl)
enter_moves caret q k = (refl, refl, refl)
enter_moves ampersand q k = (refl, refl, refl)
enter_moves less_less q k = (refl, refl, refl)
enter_moves greater_greater q k = (refl, refl, refl)
enter_moves plus q k = (refl, refl, refl)
enter_moves minus q k = (refl, refl, refl)
enter_moves star q k = (refl, refl, refl)
enter_moves slash q k = (refl, refl, refl)
enter_moves slash_slash q k = (refl, refl, refl)
enter_moves percent q k = (refl, refl, refl)
enter_moves keyword_not q k = (refl, refl, refl)
enter_moves keyword_if q k = (refl, refl, refl)
enter_moves _ q k = tt

pub on_moves : (r : Nest) (d : ℕ) (x : Lexeme) (o : Option Suffix) (n : ℕ) (q : tree.Expr) (k : Frames) (other : Option State) → Moves r d x (entered o q k) → Moves r d x other → Moves r d x (goes_on o n q k other)
on_moves r d x None n q k other g h = h
on_moves r d x (Some s) n q k other g h = either_moves r d x (Some (enter s q k)) other (nat_eq (grade s) n) g h

-- statements end
pub push_depth : (k : Blocks) (s : Statement) → block_depth (push k s) ≡ block_depth k
push_depth (outer ss) s = refl
push_depth (inner ss k) s = refl

pub push_stage : (k : Blocks) (s : Statement) → block_stage (push k s) ≡ at_beginning
push_stage (outer ss) s = refl
push_stage (inner ss k) s = refl

pub settled_depth : (k : Ifs) (s : Statement) (e : ℕ) → block_depth (settled k s e) ≡ if_depth k
settled_depth (at_if k) s e = push_depth k s
settled_depth (at_elif q r p k) s e = settled_depth k _ e

pub settled_stage : (k : Ifs) (s : Statement) (e : ℕ) → block_stage (settled k s e) ≡ at_beginning
settled_stage (at_if k) s e = push_stage k s
settled_stage (at_elif q r p k) s e = settled_stage k _ e

pub close_nest : (k : Suites) (s : Statement) (e : ℕ) → nest (close k s e) ≡ outside 0
close_nest (of_if q p k) s e = refl
close_nest (of_else q r p k) s e = refl
close_nest (of_for l q p k) s e = refl
close_nest (of_def (head p n k) ps t) s e = refl

pub close_depth : (k : Suites) (s : Statement) (e : ℕ) → depth (close k s e) ≡ suite_depth k
close_depth (of_if q p k) s e = refl
close_depth (of_else q r p k) s e = settled_depth k _ e
close_depth (of_for l q p k) s e = push_depth k _
close_depth (of_def (head p n k) ps t) s e = push_depth k _

pub close_stage : (k : Suites) (s : Statement) (e : ℕ) → stage (close k s e) ≡ at_beginning
close_stage (of_if q p k) s e = refl
close_stage (of_else q r p k) s e = settled_stage k _ e
close_stage (of_for l q p k) s e = push_stage k _
close_stage (of_def (head p n k) ps t) s e = push_stage k _

pub row_moves : (k : Rows) (s : Statement) (e : ℕ) → Moves (outside 0) (row_depth k) newline (Some (end_row k s e))
row_moves (at_block k) s e = (refl, push_depth k s, ap is_within (push_stage k s))
row_moves (at_suite k) s e = (close_nest k s e, close_depth k s e, ap is_within (close_stage k s e))

pub small_moves : (k : Line) (s : Statement) (x : Lexeme) (e : ℕ) → Moves (outside 0) (line_depth k) x (end_small k s x e)
small_moves (line done k) s semicolon e = (refl, refl, refl)
small_moves (line done k) s newline e = row_moves k _ e
small_moves (line done k) s _ e = tt

pub param_moves : (h : Head) (ps : Members) (x : Lexeme) → Moves (outside 1) (head_depth h) x (end_param h ps x)
param_moves h ps comma = (refl, refl, refl)
param_moves h ps closing_round = (refl, refl, refl)
param_moves h ps _ = tt

pub default_moves : (h : Head) (ps : Members) (y : Stars) (n : Name) (t : Annotation) (p : ℕ) → Moves (outside 1) (head_depth h) equal (begin_default h ps y n t p)
default_moves h ps plain n t p = (refl, refl, refl)
default_moves h ps starred n t p = tt
default_moves h ps double_starred n t p = tt
