-- What the machine meets, and where it comes to.
use Rattle.std.specs.Prelude.{ℕ, ◌∷◌, [], if◌then◌else◌, List, Option, Some, None, Bool, false, nat_eq, length}
use Rattle.starlark_grammar.specs.Spans.{stretch}
use Rattle.starlark_lexer.specs.Items.{Lexeme, comma, Item}
use Rattle.starlark_ast.specs.Tree as tree
use Rattle.starlark_ast.specs.Tree.{Expr, Statement, name_at, no_statements, when}
use Rattle.starlark_grammar.specs.Nodes.{block_of}
use Rattle.starlark_grammar.specs.Events.{Event, after_bang, after_comma, after_symbol, assigned, looped, shaped, typed}
use Rattle.starlark_grammar.specs.Tables.{Suffix, suffix, grade}
use Rattle.starlark_grammar.specs.Marks.{Mark, mark}
use Rattle.starlark_grammar.specs.Points.{targets_in, Frame, over, Point, member_wanted, letter_wanted, After, becomes, goes_to, after}
use Rattle.starlark_grammar.specs.Frames.{Blocks, outer, inner, Spots, annotation, param_type, result_type, Lists, right, Frames, tail, inside, listed, spot, State, has, stands, wants_next, at_line, behind_for, behind_if, load_equal}
use Rattle.starlark_grammar.specs.Machine.{settled, step}

-- the construct that ends where this expression does
abbrev pub ended_by : Spots → Expr → Option Event
ended_by (annotation l p k) t = Some (typed t)
ended_by (param_type h ps y n p) t = Some (typed t)
ended_by (result_type h ps) t = Some (typed t)
ended_by _ q = None

abbrev pub list_ended_by : Lists → Option Event
list_ended_by (right l t o p k) = Some (assigned l t o)
list_ended_by _ = None

abbrev pub operates : Option Suffix → ℕ → Bool
operates None n = false
operates (Some s) n = nat_eq (grade s) n

-- what is met behind a frame's expression
abbrev pub ends_in : Frame → After → (tree.Expr → Option Event) → Option Event
ends_in (over p b m cs t) o again = Some (looped t)
ends_in f (becomes s) again = again s
ends_in f (goes_to p) again = None

-- An expression that ends at e was read, and the next token is x, or none: what is met there.
abbrev pub ends : Frames → Expr → ℕ → Option Lexeme → Option Event
ends (tail n k) q e None = ends k q e None
ends (tail n k) q e (Some x) = if operates (suffix x) n then None else ends k q e (Some x)
ends (inside f k) q e x = ends_in f (after f q e) (λ s. ends k s e x)
ends (listed ms p k) q e (Some comma) = None
ends (listed ms p k) q e x = list_ended_by k
ends (spot k) q e x = ended_by k q

-- what is met at a point
abbrev pub met_at : Point → Option Event
met_at (member_wanted (targets_in p b m cs) (tree.more ms n) t e f) = Some (shaped after_comma (stretch f e))
met_at (letter_wanted b f ms q i j) = Some (shaped after_bang (stretch i j))
met_at p = None

-- what is met before the next token, or the end
abbrev pub met : State → Option Lexeme → Option Event
met (has q e k) x = ends k q e x
met (stands p k) x = met_at p
met (wants_next ms p m k) x = Some (shaped after_comma (stretch p m))
met (load_equal p m ss (name_at n s) k) x = Some (shaped after_symbol s)
met (behind_for l k e) x = Some (looped l)
met _ x = None

-- What is met: events, each with the tokens behind it, and the end.
pub data Trace : Type 0 where
  Accepts : Statement → Trace
  -- stuck at the first of these tokens, or at the end
  Stuck : List Item → Trace
  Note : List Item → Event → Trace → Trace

-- the end alone, and what was met alone
abbrev pub bottom : Trace → Trace
bottom (Accepts raw) = Accepts raw
bottom (Stuck xs) = Stuck xs
bottom (Note xs e v) = bottom v

abbrev pub marks_of : Trace → List Mark
marks_of (Note xs e v) = mark (length xs) e ∷ marks_of v
marks_of _ = []

abbrev pub note : List Item → Option Event → Trace → Trace
note xs None v = v
note xs (Some e) v = Note xs e v

-- the end of the tokens at a line's beginning, behind a token that ends at e
abbrev pub end_line : Blocks → ℕ → Trace
end_line (outer ss) e = Accepts (block_of ss e)
end_line (inner ss k) e = Stuck []

abbrev pub finish : State → Trace
finish (at_line k e) = end_line k e
finish (behind_for l k e) = end_line k e
finish (behind_if q s p e k) = end_line (settled k (when q s (stretch p e)) e) e
finish _ = Stuck []

unfoldable pub run : State → List Item → Trace
run s [] = note [] (met s None) (finish s)
run s (x ∷ xs) = note (x ∷ xs) (met s (Some x.lexeme)) (elim (step s x) [ None ↦ Stuck (x ∷ xs) | Some s' ↦ run s' xs ])

abbrev pub initial : State
initial = at_line (outer no_statements) 0
