-- Which states are in the text of an f-string.
use Rattle.std.proofs.Common.{ℕ, ◌≡◌, ◌⊎◌, inl, inr, List, Some, None, false, refl, ap}
use Rattle.starlark_lexer.specs.Items.{Lexeme, comment, opening_round, opening_square, opening_curly, closing_round, closing_square, closing_curly, fstring_start, fstring_text, fstring_expr_start, fstring_bang, fstring_expr_end, fstring_end}
use Rattle.starlark_ast.specs.Tree.{Members}
use Rattle.starlark_grammar.specs.Points.{Place, brackets, behind, before_body, targets_in, Frame, member, key, bound, second, over, filter, field, Point, member_wanted, member_read, key_read, bound_wanted, bound_read, second_read, clauses_read, piece_wanted, field_read, letter_wanted, letter_read}
use Rattle.starlark_grammar.specs.Frames.{Spots, param_type, param_default, Frames, tail, inside, listed, spot, State, wants, has, stands, perhaps_named}
use Rattle.starlark_grammar.specs.Machine.{move}
use Rattle.starlark_cutting.specs.Opened.{Nest, outside, in_field, in_text, deeper, within_text, Goes_to}
use Rattle.starlark_completion.specs.Shapes.{in_place, in_frame, at_point, in_spot, in_frames, nest}
use Rattle.starlark_completion.specs.Moves.{Turned}

-- no frame is
pub deeper_text : (r : Nest) → within_text r ≡ false → within_text (deeper r) ≡ false
deeper_text (outside n) z = refl
deeper_text (in_field n m) z = refl
deeper_text (in_text m) z = z

pub place_text : (w : Place) (r : Nest) → within_text r ≡ false → within_text (in_place w r) ≡ false
place_text (brackets p b) r z = deeper_text r z
place_text (behind q) r z = deeper_text r z
place_text (before_body b) r z = z
place_text (targets_in p b m cs) r z = deeper_text r z

frame_text : (f : Frame) (r : Nest) → within_text r ≡ false → within_text (in_frame f r) ≡ false
frame_text (member w ms f b o) r z = place_text w r z
frame_text (key b ms f g) r z = deeper_text r z
frame_text (bound l bs) r z = deeper_text r z
frame_text (second l s) r z = deeper_text r z
frame_text (over p b m cs t) r z = deeper_text r z
frame_text (filter p b m cs) r z = deeper_text r z
frame_text (field b f ms) r z = refl
frame_text _ r z = z

spot_text : (k : Spots) → within_text (in_spot k) ≡ false
spot_text (param_type h ps y n p) = refl
spot_text (param_default h ps n t p) = refl
spot_text _ = refl

pub frames_text : (k : Frames) → within_text (in_frames k) ≡ false
frames_text (tail n k) = frames_text k
frames_text (inside f k) = frame_text f (in_frames k) (frames_text k)
frames_text (listed ms p k) = refl
frames_text (spot k) = spot_text k

-- one state is
pub data InPiece : State → Type 0 where
  in_piece : (b : ℕ) (f : List ℕ) (ms : Members) (k : Frames) → InPiece (stands (piece_wanted b f ms) k)

point_text : (p : Point) (k : Frames) → (within_text (at_point p (in_frames k)) ≡ false) ⊎ InPiece (stands p k)
point_text (member_wanted w ms t e f) k = inl (place_text w (in_frames k) (frames_text k))
point_text (member_read w ms e f) k = inl (place_text w (in_frames k) (frames_text k))
point_text (key_read b ms f g q) k = inl (deeper_text (in_frames k) (frames_text k))
point_text (bound_wanted q bs) k = inl (deeper_text (in_frames k) (frames_text k))
point_text (bound_read q bs s) k = inl (deeper_text (in_frames k) (frames_text k))
point_text (second_read q s t) k = inl (deeper_text (in_frames k) (frames_text k))
point_text (clauses_read p b m cs) k = inl (deeper_text (in_frames k) (frames_text k))
point_text (piece_wanted b f ms) k = inr (in_piece b f ms k)
point_text (field_read b f ms q) k = inl refl
point_text (letter_wanted b f ms q g h) k = inl refl
point_text (letter_read b f ms) k = inl refl
point_text _ k = inl (frames_text k)

pub state_text : (s : State) → (within_text (nest s) ≡ false) ⊎ InPiece s
state_text (wants n k) = inl (frames_text k)
state_text (has q e k) = inl (frames_text k)
state_text (stands p k) = point_text p k
state_text (perhaps_named q ms f n u v k) = inl (deeper_text (in_frames k) (frames_text k))
state_text _ = inl refl

-- what a token does there
pub turns_outside : (x : Lexeme) (m n : Nest) → within_text m ≡ false → Turned x m n → Goes_to x m n
turns_outside opening_round m n z h = (z, h)
turns_outside opening_square m n z h = (z, h)
turns_outside opening_curly m n z h = (z, h)
turns_outside closing_round m n z h = (z, h)
turns_outside closing_square m n z h = (z, h)
turns_outside closing_curly m n z h = (z, h)
turns_outside (fstring_start q) m n z h = (z, h)
turns_outside (fstring_text v) m n z h = (ap within_text h.1.0, h.1.1)
turns_outside fstring_expr_start m n z h = h
turns_outside fstring_bang m n z h = h
turns_outside fstring_expr_end m n z h = h
turns_outside fstring_end m n z h = h
turns_outside (comment v) m n z h = h
turns_outside _ m n z h = (z, h)

no_state : {P : Type 0} (u : State) → None ≡ Some u → P
no_state u q = absurd (cc)

pub turns_inside : (x : Lexeme) (b : ℕ) (f : List ℕ) (ms : Members) (k : Frames) (i j : ℕ) (u : State) → move (stands (piece_wanted b f ms) k) x i j ≡ Some u → Turned x (in_text (in_frames k)) (nest u) → Goes_to x (in_text (in_frames k)) (nest u)
turns_inside (fstring_text v) b f ms k i j u q h = (refl, h.1.1)
turns_inside fstring_expr_start b f ms k i j u q h = h
turns_inside fstring_end b f ms k i j u q h = h
turns_inside _ b f ms k i j u q h = no_state u q
