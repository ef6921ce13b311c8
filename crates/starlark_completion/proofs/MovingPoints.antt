-- A token at a point of an expression opens and closes what it tells.
use Rattle.std.proofs.Common.{ℕ, ◌++◌, List, Bool, Option, Some, None, refl}
use Rattle.starlark_lexer.specs.Items.{Lexeme, identifier, fstring_text, fstring_expr_start, fstring_bang, fstring_expr_end, fstring_end, keyword_else, keyword_for, keyword_if, keyword_in, comma, colon, equal, star, star_star, slash, closing_round, closing_square, closing_curly}
use Rattle.starlark_ast.specs.Tree as tree
use Rattle.starlark_grammar.specs.Tables.{Bracket, round, square, curly, conversion}
use Rattle.starlark_grammar.specs.Points.{Place, brackets, behind, before_body, targets_in, Bounds, at_first, at_second, at_third, Point, member_wanted, member_read, key_read, star_read, stars_read, name_read, bound_wanted, bound_read, second_read, attribute_wanted, not_read, condition_read, clauses_read, piece_wanted, field_read, letter_wanted, letter_read, reach, on_some, behind_member, turn}
use Rattle.starlark_grammar.specs.Frames.{Frames}
use Rattle.starlark_grammar.specs.Machine.{goes}
use Rattle.starlark_cutting.specs.Opened.{in_field}
use Rattle.starlark_completion.specs.Shapes.{in_place, at_point, in_frames, frames_depth}
use Rattle.starlark_completion.specs.Moves.{Moves}

-- behind a member
clause_moves : (p : Bracket) (b : ℕ) (ms : tree.Members) (e f i j : ℕ) (k : Frames) → Moves (in_place (brackets p b) (in_frames k)) (frames_depth k) keyword_for (goes k (behind_member (brackets p b) ms e f keyword_for j))
clause_moves round b tree.none e f i j k = tt
clause_moves round b (tree.more tree.none m) e f i j k = tt
clause_moves round b (tree.more (tree.more ms n) m) e f i j k = tt
clause_moves square b tree.none e f i j k = tt
clause_moves square b (tree.more tree.none m) e f i j k = (refl, refl, refl)
clause_moves square b (tree.more (tree.more ms n) m) e f i j k = tt
clause_moves curly b tree.none e f i j k = tt
clause_moves curly b (tree.more tree.none m) e f i j k = (refl, refl, refl)
clause_moves curly b (tree.more (tree.more ms n) m) e f i j k = tt

behind_moves : (w : Place) (x : Lexeme) (ms : tree.Members) (e f i j : ℕ) (k : Frames) → Moves (in_place w (in_frames k)) (frames_depth k) x (goes k (behind_member w ms e f x j))
behind_moves (brackets p b) comma ms e f i j k = (refl, refl, refl)
behind_moves (brackets p b) keyword_for ms e f i j k = clause_moves p b ms e f i j k
behind_moves (brackets round b) closing_round ms e f i j k = (refl, refl, refl)
behind_moves (brackets round b) _ ms e f i j k = tt
behind_moves (brackets square b) closing_square ms e f i j k = (refl, refl, refl)
behind_moves (brackets square b) _ ms e f i j k = tt
behind_moves (brackets curly b) closing_curly ms e f i j k = (refl, refl, refl)
behind_moves (brackets curly b) _ ms e f i j k = tt
behind_moves (behind q) comma ms e f i j k = (refl, refl, refl)
behind_moves (behind q) closing_round ms e f i j k = (refl, refl, refl)
behind_moves (behind q) _ ms e f i j k = tt
behind_moves (before_body b) comma ms e f i j k = (refl, refl, refl)
behind_moves (before_body b) colon ms e f i j k = (refl, refl, refl)
behind_moves (before_body b) _ ms e f i j k = tt
behind_moves (targets_in p b m cs) comma ms e f i j k = (refl, refl, refl)
behind_moves (targets_in p b m cs) keyword_in ms e f i j k = (refl, refl, refl)
behind_moves (targets_in p b m cs) _ ms e f i j k = tt

-- where a member may come
wanted_moves : (w : Place) (x : Lexeme) (ms : tree.Members) (t : Bool) (e f i j : ℕ) (k : Frames) → Moves (in_place w (in_frames k)) (frames_depth k) x (goes k (turn (member_wanted w ms t e f) x i j))
wanted_moves (brackets round b) closing_round ms t e f i j k = (refl, refl, refl)
wanted_moves (brackets round b) _ ms t e f i j k = tt
wanted_moves (brackets square b) closing_square ms t e f i j k = (refl, refl, refl)
wanted_moves (brackets square b) _ ms t e f i j k = tt
wanted_moves (brackets curly b) closing_curly ms t e f i j k = (refl, refl, refl)
wanted_moves (brackets curly b) _ ms t e f i j k = tt
wanted_moves (behind q) closing_round ms t e f i j k = (refl, refl, refl)
wanted_moves (behind q) star ms t e f i j k = (refl, refl, refl)
wanted_moves (behind q) star_star ms t e f i j k = (refl, refl, refl)
wanted_moves (behind q) _ ms t e f i j k = tt
wanted_moves (before_body b) colon ms t e f i j k = (refl, refl, refl)
wanted_moves (before_body b) slash ms t e f i j k = (refl, refl, refl)
wanted_moves (before_body b) star ms t e f i j k = (refl, refl, refl)
wanted_moves (before_body b) star_star ms t e f i j k = (refl, refl, refl)
wanted_moves (before_body b) (identifier n) ms t e f i j k = (refl, refl, refl)
wanted_moves (before_body b) _ ms t e f i j k = tt
wanted_moves (targets_in p b m cs) x ms t e f i j k = tt

-- bounds of a slice
bound_moves : (x : Lexeme) (q : tree.Expr) (bs : Bounds) (i j : ℕ) (k : Frames) → Moves (at_point (bound_wanted q bs) (in_frames k)) (frames_depth k) x (goes k (turn (bound_wanted q bs) x i j))
bound_moves colon q at_first i j k = (refl, refl, refl)
bound_moves colon q (at_second o) i j k = (refl, refl, refl)
bound_moves colon q (at_third o p) i j k = tt
bound_moves closing_square q at_first i j k = tt
bound_moves closing_square q (at_second o) i j k = (refl, refl, refl)
bound_moves closing_square q (at_third o p) i j k = (refl, refl, refl)
bound_moves _ q bs i j k = tt

read_moves : (x : Lexeme) (q s : tree.Expr) (bs : Bounds) (i j : ℕ) (k : Frames) → Moves (at_point (bound_read q bs s) (in_frames k)) (frames_depth k) x (goes k (turn (bound_read q bs s) x i j))
read_moves colon q s at_first i j k = (refl, refl, refl)
read_moves colon q s (at_second o) i j k = (refl, refl, refl)
read_moves colon q s (at_third o p) i j k = tt
read_moves closing_square q s at_first i j k = (refl, refl, refl)
read_moves closing_square q s (at_second o) i j k = (refl, refl, refl)
read_moves closing_square q s (at_third o p) i j k = (refl, refl, refl)
read_moves comma q s at_first i j k = (refl, refl, refl)
read_moves comma q s (at_second o) i j k = tt
read_moves comma q s (at_third o p) i j k = tt
read_moves _ q s bs i j k = tt

-- clauses of a comprehension
clauses_move : (x : Lexeme) (p : Bracket) (b : ℕ) (m : tree.Member) (cs : tree.Clauses) (i j : ℕ) (k : Frames) → Moves (at_point (clauses_read p b m cs) (in_frames k)) (frames_depth k) x (goes k (turn (clauses_read p b m cs) x i j))
clauses_move keyword_for p b m cs i j k = (refl, refl, refl)
clauses_move keyword_if p b m cs i j k = (refl, refl, refl)
clauses_move closing_round round b m cs i j k = (refl, refl, refl)
clauses_move closing_square square b m cs i j k = (refl, refl, refl)
clauses_move closing_curly curly b m cs i j k = (refl, refl, refl)
clauses_move _ round b m cs i j k = tt
clauses_move _ square b m cs i j k = tt
clauses_move _ curly b m cs i j k = tt

-- the letter behind `!`
letter_moves : (n : List ℕ) (o : Option (List ℕ)) (b : ℕ) (f : List ℕ → List ℕ) (ms : tree.Members) (k : Frames) → Moves (in_field 0 (in_frames k)) (frames_depth k) (identifier n) (goes k (on_some o (λ s. Some (reach (letter_read b (f s) ms))) None))
letter_moves n None b f ms k = tt
letter_moves n (Some s) b f ms k = (refl, refl, refl)

pub turn_moves : (p : Point) (x : Lexeme) (i j : ℕ) (k : Frames) → Moves (at_point p (in_frames k)) (frames_depth k) x (goes k (turn p x i j))
turn_moves (member_wanted w ms t e f) x i j k = wanted_moves w x ms t e f i j k
turn_moves (member_read w ms e f) x i j k = behind_moves w x ms e f i j k
turn_moves (key_read b ms f g q) colon i j k = (refl, refl, refl)
turn_moves (key_read b ms f g q) _ i j k = tt
turn_moves (star_read b ms f g h) (identifier n) i j k = (refl, refl, refl)
turn_moves (star_read b ms f g h) comma i j k = (refl, refl, refl)
turn_moves (star_read b ms f g h) colon i j k = (refl, refl, refl)
turn_moves (star_read b ms f g h) _ i j k = tt
turn_moves (stars_read b ms f g) (identifier n) i j k = (refl, refl, refl)
turn_moves (stars_read b ms f g) _ i j k = tt
turn_moves (name_read b ms f n g h) equal i j k = (refl, refl, refl)
turn_moves (name_read b ms f n g h) comma i j k = (refl, refl, refl)
turn_moves (name_read b ms f n g h) colon i j k = (refl, refl, refl)
turn_moves (name_read b ms f n g h) _ i j k = tt
turn_moves (bound_wanted q bs) x i j k = bound_moves x q bs i j k
turn_moves (bound_read q bs s) x i j k = read_moves x q s bs i j k
turn_moves (second_read q s t) closing_square i j k = (refl, refl, refl)
turn_moves (second_read q s t) _ i j k = tt
turn_moves (attribute_wanted q) (identifier n) i j k = (refl, refl, refl)
turn_moves (attribute_wanted q) _ i j k = tt
turn_moves (not_read l) keyword_in i j k = (refl, refl, refl)
turn_moves (not_read l) _ i j k = tt
turn_moves (condition_read t c) keyword_else i j k = (refl, refl, refl)
turn_moves (condition_read t c) _ i j k = tt
turn_moves (clauses_read p b m cs) x i j k = clauses_move x p b m cs i j k
turn_moves (piece_wanted b f ms) (fstring_text t) i j k = ((in_frames k, (refl, refl)), refl, refl)
turn_moves (piece_wanted b f ms) fstring_expr_start i j k = ((in_frames k, (refl, refl)), refl, refl)
turn_moves (piece_wanted b f ms) fstring_end i j k = (refl, refl, refl)
turn_moves (piece_wanted b f ms) _ i j k = tt
turn_moves (field_read b f ms q) fstring_expr_end i j k = ((in_frames k, (refl, refl)), refl, refl)
turn_moves (field_read b f ms q) fstring_bang i j k = ((in_frames k, (refl, refl)), refl, refl)
turn_moves (field_read b f ms q) _ i j k = tt
turn_moves (letter_wanted b f ms q g h) (identifier n) i j k = letter_moves n (conversion n) b (λ s. f ++ s) (tree.more ms (tree.item q)) k
turn_moves (letter_wanted b f ms q g h) _ i j k = tt
turn_moves (letter_read b f ms) fstring_expr_end i j k = ((in_frames k, (refl, refl)), refl, refl)
turn_moves (letter_read b f ms) _ i j k = tt
