-- What is met at a token, at another one, and at the end.
use Rattle.std.proofs.Common.{not, ◌≡◌, ◌∷◌, ◌∙◌, [], ℕ, List, Option, Some, None, Bool, true, false, nat_eq, cond, refl, ap, sym}
use Rattle.starlark_place.specs.Place.{Extent}
use Rattle.starlark_lexer.specs.Items.{Lexeme, comma, equal, Item, item}
use Rattle.starlark_ast.specs.declared.ast.AssignOp.{AssignOp}
use Rattle.starlark_ast.specs.Tree as tree
use Rattle.starlark_ast.specs.Tree.{Expr, Members, name_at, Annotation}
use Rattle.starlark_grammar.specs.Events.{Event, Shape, after_symbol, assigned, looped, shaped, typed}
use Rattle.starlark_grammar.specs.Sorts.{name_of, is_some}
use Rattle.starlark_grammar.specs.Tables.{Beginning, beginning, Suffix, suffix, grade, level_of, conversion}
use Rattle.starlark_grammar.specs.Points.{targets_in, operand, behind_sign, otherwise, body, over, member_wanted, letter_wanted, Outcome, on_some}
use Rattle.starlark_grammar.specs.Frames.{Line, line, Spots, annotation, param_type, result_type, Lists, left, right, returned, target, kind_listed, Frames, tail, inside, listed, spot, State, has, stands, wants_next, at_line, behind_for, behind_if, load_equal}
use Rattle.starlark_grammar.specs.Machine.{goes, enter, goes_on, begin_with, feed, else_state, step}
use Rattle.starlark_grammar.specs.Runs.{ended_by, list_ended_by, operates, ends, met, Stuck, finish}
use Rattle.starlark_grammar.specs.Completion.{small_rest, closing, completion}
use Rattle.starlark_grammar.specs.Verdicts.{some_converts, lacks, next_lexeme}
use Rattle.starlark_grammar.proofs.ClosingParts.{NoSuffix, no_suffix}
use Rattle.starlark_grammar.proofs.Closing.{closing_stop}

pub no_some : {A P : Type 0} (x : A) → None ≡ Some x → P
no_some x h = absurd (let n : None ≡ Some x = h in (cc))

pub no_state : {P : Type 0} (u : State) → Some u ≡ None → P
no_state u h = absurd (let n : Some u ≡ None = h in (cc))

-- behind an expression the same is met at each token, or nothing is
second_some : (b : Bool) (o : Option Event) (ev : Event) → cond b None o ≡ Some ev → o ≡ Some ev
second_some true o ev h = no_some ev h
second_some false o ev h = h

pub ends_end : (k : Frames) (q : Expr) (u : ℕ) (x : Option Lexeme) (ev : Event) → ends k q u x ≡ Some ev → ends k q u None ≡ Some ev
ends_end (tail n k) q u None ev h = h
ends_end (tail n k) q u (Some x) ev h = ends_end k q u (Some x) ev (second_some (operates (suffix x) n) (ends k q u (Some x)) ev h)
ends_end (inside (over p b m cs t) k) q u x ev h = h
ends_end (inside (operand l o) k) q u x ev h = ends_end k _ u x ev h
ends_end (inside (behind_sign s b) k) q u x ev h = ends_end k _ u x ev h
ends_end (inside (otherwise t c) k) q u x ev h = ends_end k _ u x ev h
ends_end (inside (body ms b) k) q u x ev h = ends_end k _ u x ev h
ends_end (inside f k) q u x ev h = no_some ev h
ends_end (listed ms p k) q u None ev h = h
ends_end (listed ms p k) q u (Some comma) ev h = no_some ev h
ends_end (listed ms p k) q u (Some _) ev h = h
ends_end (spot k) q u x ev h = h

-- where tokens stand that end what has begun
tail_met : {ts : List Item} (n : ℕ) (k : Frames) (q : Expr) (u : ℕ) → NoSuffix ts → ends (tail n k) q u (next_lexeme ts) ≡ ends k q u (next_lexeme ts)
tail_met n k q u (no_suffix {x} h) = ap (λ o. cond (operates o n) None (ends k q u (Some x))) h

pub row_met : (i : ℕ) (l : Expr) (t : Annotation) (o : Option AssignOp) (p : ℕ) (k : Line) (ms : Members) (f : ℕ) (q : Expr) (u : ℕ) → ends (listed ms f (right l t o p k)) q u (next_lexeme (small_rest i k)) ≡ Some (assigned l t o)
row_met i l t o p (line done k) ms f q u = refl

return_met : (i p : ℕ) (k : Line) (ms : Members) (f : ℕ) (q : Expr) (u : ℕ) → ends (listed ms f (returned p k)) q u (next_lexeme (small_rest i k)) ≡ None
return_met i p (line done k) ms f q u = refl

pub closing_met : (i : ℕ) (k : Frames) (q : Expr) (u : ℕ) → ends k q u (next_lexeme (closing i k)) ≡ ends k q u None
closing_met i (tail n k) q u = tail_met n k q u (closing_stop i k) ∙ closing_met i k q u
closing_met i (inside (operand l o) k) q u = closing_met i k _ u
closing_met i (inside (behind_sign s b) k) q u = closing_met i k _ u
closing_met i (inside (otherwise t c) k) q u = closing_met i k _ u
closing_met i (inside (body ms b) k) q u = closing_met i k _ u
closing_met i (inside f k) q u = refl
closing_met i (listed ms f (left p k)) q u = refl
closing_met i (listed ms f (right l t o p k)) q u = row_met i l t o p k ms f q u
closing_met i (listed ms f (returned p k)) q u = return_met i p k ms f q u
closing_met i (listed ms f (target p k)) q u = refl
closing_met i (spot k) q u = refl

-- where a token stands that nothing can take
tail_dead : (o : Option Suffix) (n : ℕ) (q : Expr) (k : Frames) (s : Option State) → goes_on o n q k s ≡ None → (operates o n ≡ false) × (s ≡ None)
tail_dead None n q k s h = (refl, h)
tail_dead (Some z) n q k s h = go (nat_eq (grade z) n) h
  where
    go : (b : Bool) → cond b (Some (enter z q k)) s ≡ None → (b ≡ false) × (s ≡ None)
    go true h = no_state (enter z q k) h
    go false h = (refl, h)

ends_dead : (k : Frames) (q : Expr) (u : ℕ) (x : Lexeme) (i j : ℕ) → feed k q u x i j ≡ None → ends k q u (Some x) ≡ ends k q u None
ends_dead (tail n k) q u x i j h = let w = tail_dead (suffix x) n q k (feed k q u x i j) h in ap (λ b. cond b None (ends k q u (Some x))) w.0 ∙ ends_dead k q u x i j w.1
ends_dead (inside (operand l o) k) q u x i j h = ends_dead k _ u x i j h
ends_dead (inside (behind_sign s b) k) q u x i j h = ends_dead k _ u x i j h
ends_dead (inside (otherwise t c) k) q u x i j h = ends_dead k _ u x i j h
ends_dead (inside (body ms b) k) q u x i j h = ends_dead k _ u x i j h
ends_dead (inside f k) q u x i j h = refl
ends_dead (listed ms p k) q u comma i j h = no_state _ h
ends_dead (listed ms p k) q u x i j h = refl
ends_dead (spot k) q u x i j h = refl

-- what ends at a token has ended at the end, and where the state goes on
pub met_end : (s : State) (x : Option Lexeme) (ev : Event) → met s x ≡ Some ev → met s None ≡ Some ev
met_end (has q u k) x ev h = ends_end k q u x ev h
met_end (stands p k) x ev h = h
met_end (wants_next ms p m k) x ev h = h
met_end (load_equal p m ss (name_at n s) k) x ev h = h
met_end (behind_for l k e) x ev h = h
met_end s x ev h = no_some ev h

pub met_later : (s : State) (x : Option Lexeme) (ev : Event) → met s x ≡ Some ev → met s (next_lexeme (completion s)) ≡ Some ev
met_later (has q u k) x ev h = closing_met 0 k q u ∙ ends_end k q u x ev h
met_later (stands p k) x ev h = h
met_later (wants_next ms p m k) x ev h = h
met_later (load_equal p m ss (name_at n s) k) x ev h = h
met_later (behind_for l k e) x ev h = h
met_later s x ev h = no_some ev h

-- and at a token that cannot stand there
met_dead : (s : State) (x : Item) → step s x ≡ None → met s (Some x.lexeme) ≡ met s None
met_dead (has q u k) x h = ends_dead k q u x.lexeme x.begin x.end h
met_dead (load_equal p m ss (name_at n s) k) x h = refl
met_dead s x h = refl

pub met_stuck : (s : State) (x : Item) (y : Option Lexeme) (ev : Event) → step s x ≡ None → met s y ≡ Some ev → met s (Some x.lexeme) ≡ Some ev
met_stuck s x y ev f h = met_dead s x f ∙ met_end s y ev h

-- a shape stands there whatever follows
no_shape_spot : {P : Type 0} (k : Spots) (q : Expr) (z : Shape) (p : Extent) → ended_by k q ≡ Some (shaped z p) → P
no_shape_spot (annotation l f k) q z p h = absurd (let n : Some (typed q) ≡ Some (shaped z p) = h in let m : typed q ≡ shaped z p = cc in (cc))
no_shape_spot (param_type g ps y n f) q z p h = absurd (let n : Some (typed q) ≡ Some (shaped z p) = h in let m : typed q ≡ shaped z p = cc in (cc))
no_shape_spot (result_type g ps) q z p h = absurd (let n : Some (typed q) ≡ Some (shaped z p) = h in let m : typed q ≡ shaped z p = cc in (cc))
no_shape_spot _ q z p h = no_some (shaped z p) h

no_shape_list : {P : Type 0} (k : Lists) (z : Shape) (p : Extent) → list_ended_by k ≡ Some (shaped z p) → P
no_shape_list (right l t o f k) z p h = absurd (let n : Some (assigned l t o) ≡ Some (shaped z p) = h in let m : assigned l t o ≡ shaped z p = cc in (cc))
no_shape_list _ z p h = no_some (shaped z p) h

no_shape_end : {P : Type 0} (k : Frames) (q : Expr) (u : ℕ) (z : Shape) (p : Extent) → ends k q u None ≡ Some (shaped z p) → P
no_shape_end (tail n k) q u z p h = no_shape_end k q u z p h
no_shape_end (inside (over b i m cs t) k) q u z p h = absurd (let n : Some (looped t) ≡ Some (shaped z p) = h in let m : looped t ≡ shaped z p = cc in (cc))
no_shape_end (inside (operand l o) k) q u z p h = no_shape_end k _ u z p h
no_shape_end (inside (behind_sign s b) k) q u z p h = no_shape_end k _ u z p h
no_shape_end (inside (otherwise t c) k) q u z p h = no_shape_end k _ u z p h
no_shape_end (inside (body ms b) k) q u z p h = no_shape_end k _ u z p h
no_shape_end (inside f k) q u z p h = no_some (shaped z p) h
no_shape_end (listed ms f k) q u z p h = no_shape_list k z p h
no_shape_end (spot k) q u z p h = no_shape_spot k q z p h

no_shape : {P : Type 0} (k : Frames) (q : Expr) (u : ℕ) (x : Option Lexeme) (z : Shape) (p : Extent) → ends k q u x ≡ Some (shaped z p) → P
no_shape k q u x z p h = no_shape_end k q u z p (ends_end k q u x (shaped z p) h)

pub met_shape : (s : State) (x y : Option Lexeme) (z : Shape) (p : Extent) → met s x ≡ Some (shaped z p) → met s y ≡ Some (shaped z p)
met_shape (has q u k) x y z p h = no_shape k q u x z p h
met_shape (stands b k) x y z p h = h
met_shape (wants_next ms f m k) x y z p h = h
met_shape (load_equal f m ss (name_at n s) k) x y z p h = h
met_shape (behind_for l k e) x y z p h = h
met_shape s x y z p h = no_some (shaped z p) h

-- no program ends there
pub shape_unfinished : (s : State) (z : Shape) (p : Extent) → met s None ≡ Some (shaped z p) → finish s ≡ Stuck []
shape_unfinished (behind_for l k e) z p h = absurd (let n : Some (looped l) ≡ Some (shaped z p) = h in let m : looped l ≡ shaped z p = cc in (cc))
shape_unfinished (at_line k e) z p h = no_some (shaped z p) h
shape_unfinished (behind_if q s o e k) z p h = no_some (shaped z p) h
shape_unfinished s z p h = refl

-- what can stand there is what the shape wants
begin_some : (o : Option Beginning) (n i j : ℕ) (k : Frames) (u : State) → begin_with o n i j k ≡ Some u → not (is_some o) ≡ false
begin_some None n i j k u h = no_some u h
begin_some (Some b) n i j k u h = refl

letter_some : (k : Frames) (o : Option (List ℕ)) (f : List ℕ → Option Outcome) (u : State) → else_state (goes k (on_some o f None)) None ≡ Some u → not (is_some o) ≡ false
letter_some k None f u h = no_some u h
letter_some k (Some n) f u h = refl

convert_some : (k : Frames) (o : Option (List ℕ)) (f : List ℕ → Option Outcome) (u : State) → else_state (goes k (on_some o (λ n. on_some (conversion n) f None) None)) None ≡ Some u → not (some_converts o) ≡ false
convert_some k None f u h = no_some u h
convert_some k (Some n) f u h = letter_some k (conversion n) f u h

of_shape : {z y : Shape} {p o : Extent} (ts : List Item) → Some (shaped y o) ≡ Some (shaped z p) → lacks y ts ≡ false → lacks z ts ≡ false
of_shape {z} {y} {p} {o} ts h e = let m : shaped y o ≡ shaped z p = cc in let w : y ≡ z = cc in ap (λ v. lacks v ts) (sym w) ∙ e

pub shape_goes : (s u : State) (x : Item) (xs : List Item) (z : Shape) (p : Extent) → met s (Some x.lexeme) ≡ Some (shaped z p) → step s x ≡ Some u → lacks z (x ∷ xs) ≡ false
shape_goes (has q e k) u x xs z p h f = no_shape k q e (Some x.lexeme) z p h
shape_goes (stands (member_wanted (targets_in b i m cs) (tree.more ms n) t e g) k) u x xs z p h f = of_shape (x ∷ xs) h (begin_some (beginning x.lexeme) 7 x.begin x.end _ u f)
shape_goes (stands (letter_wanted b f ms q i j) k) u x xs z p h g = of_shape (x ∷ xs) h (convert_some k (name_of x.lexeme) _ u g)
shape_goes (wants_next ms q m k) u x xs z p h f = of_shape (x ∷ xs) h (begin_some (beginning x.lexeme) (level_of (kind_listed k)) x.begin x.end (listed ms q k) u f)
shape_goes (load_equal q m ss (name_at n s) k) u x xs z p h f = of_shape (x ∷ xs) h (go x.lexeme x.begin x.end f)
  where
    go : (y : Lexeme) (i j : ℕ) → step (load_equal q m ss (name_at n s) k) (item i y j) ≡ Some u → lacks after_symbol (item i y j ∷ xs) ≡ false
    go equal i j f = refl
    go _ i j f = no_some u f
shape_goes (behind_for l k e) u x xs z p h f = absurd (let n : Some (looped l) ≡ Some (shaped z p) = h in let m : looped l ≡ shaped z p = cc in (cc))
shape_goes s u x xs z p h f = no_some (shaped z p) h
