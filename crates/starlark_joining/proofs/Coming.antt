-- Over tokens the machine is stuck, or it comes to a state, whatever stands behind them; and behind a line end a line may begin.
use Rattle.std.proofs.Common.{ℕ, ◌≡◌, ◌⊎◌, ◌∷◌, ◌++◌, ◌∙◌, [], List, Option, Some, None, Bool, true, refl, ap, sym, subst, inl, inr}
use Rattle.std.proofs.lemmas.Bool.{false≢true}
use Rattle.starlark_lexer.specs.Items.{Lexeme, newline, is_newline, Item}
use Rattle.starlark_lexer.specs.declared.dialect.Dialect.{Dialect}
use Rattle.starlark_ast.specs.Tree.{Statement}
use Rattle.starlark_grammar.specs.Language.{last_end}
use Rattle.starlark_grammar.specs.Marks.{Clean}
use Rattle.starlark_grammar.specs.Frames.{State}
use Rattle.starlark_grammar.specs.Machine.{move, step}
use Rattle.starlark_grammar.specs.Runs.{met, Accepts, bottom, marks_of, note, run}
use Rattle.starlark_grammar.proofs.Sound.{bottom_note}
use Rattle.starlark_joining.proofs.Walking.{CleanRun, runs_on, halts, clean_now, clean_then, clean_both}
use Rattle.starlark_joining.proofs.Level.{no_stuck}
use Rattle.starlark_joining.proofs.Rows.{Row, RowOr, newline_row}

-- whether a line end stands last, or what is said where nothing stands
abbrev pub ends_line : Bool → List Item → Bool
ends_line b [] = b
ends_line b (x ∷ xs) = ends_line (is_newline x.lexeme) xs

-- where it comes to over them, behind a token that ends at e, which is a line end or is not
pub record Comes (d : Dialect) (s : State) (e : ℕ) (b : Bool) (w : List Item) : Type 0 where
  pub state : State
  pub same_end : (ys : List Item) → bottom (run s (w ++ ys)) ≡ bottom (run state ys)
  pub rest : (ys : List Item) → CleanRun d s (w ++ ys) → CleanRun d state ys
  pub whole : (ys zs : List Item) → CleanRun d s (w ++ ys) → CleanRun d state zs → CleanRun d s (w ++ zs)
  pub row : ends_line b w ≡ true → Row (last_end e w) state

-- no tokens behind them are accepted
abbrev pub Fails : State → List Item → Type 0
Fails s w = (ys : List Item) (raw : Statement) → bottom (run s (w ++ ys)) ≡ Accepts raw → ⊥

further : (d : Dialect) (x : Item) (w : List Item) (s u : State) (e : ℕ) (b : Bool) → step s x ≡ Some u → Comes d u x.end (is_newline x.lexeme) w → Comes d s e b (x ∷ w)
further d x w s u e b g c = record {
  state = c.state;
  same_end = λ ys. ap bottom (runs_on s u x (w ++ ys) g) ∙ bottom_note (x ∷ w ++ ys) (met s (Some x.lexeme)) (run u (w ++ ys)) ∙ c.same_end ys;
  rest = λ ys h. c.rest ys (behind ys h);
  whole = λ ys zs h k. subst (λ t. Clean d (marks_of t)) (sym (runs_on s u x (w ++ zs) g)) (clean_both d (x ∷ w ++ zs) (met s (Some x.lexeme)) (run u (w ++ zs)) (clean_now d (x ∷ w ++ ys) (met s (Some x.lexeme)) (run u (w ++ ys)) (moved ys h)) (c.whole ys zs (behind ys h) k));
  row = c.row;
}
  where
    moved : (ys : List Item) → CleanRun d s (x ∷ w ++ ys) → Clean d (marks_of (note (x ∷ w ++ ys) (met s (Some x.lexeme)) (run u (w ++ ys))))
    moved ys h = subst (λ t. Clean d (marks_of t)) (runs_on s u x (w ++ ys) g) h

    behind : (ys : List Item) → CleanRun d s (x ∷ w ++ ys) → CleanRun d u (w ++ ys)
    behind ys h = clean_then d (x ∷ w ++ ys) (met s (Some x.lexeme)) (run u (w ++ ys)) (moved ys h)

row_behind : (s u : State) (x : Item) → step s x ≡ Some u → is_newline x.lexeme ≡ true → Row x.end u
row_behind s u x g = by x.lexeme x.begin x.end g
  where
    by : (y : Lexeme) (i j : ℕ) → move s y i j ≡ Some u → is_newline y ≡ true → Row j u
    by newline i j h n = subst (RowOr j) h (newline_row s i j)
    by _ i j h n = absurd (false≢true n)

pub comes : (d : Dialect) (w : List Item) (s : State) (e : ℕ) (b : Bool) → (b ≡ true → Row e s) → Fails s w ⊎ Comes d s e b w
comes d [] s e b r = inr (record { state = s; same_end = λ ys. refl; rest = λ ys h. h; whole = λ ys zs h k. k; row = r })
comes d (x ∷ xs) s e b r = by (step s x) refl (λ u. comes d xs u x.end (is_newline x.lexeme))
  where
    over : (u : State) → step s x ≡ Some u → Fails u xs ⊎ Comes d u x.end (is_newline x.lexeme) xs → Fails s (x ∷ xs) ⊎ Comes d s e b (x ∷ xs)
    over u g (inl f) = inl (λ ys raw h. f ys raw (sym (ap bottom (runs_on s u x (xs ++ ys) g) ∙ bottom_note (x ∷ xs ++ ys) (met s (Some x.lexeme)) (run u (xs ++ ys))) ∙ h))
    over u g (inr c) = inr (further d x xs s u e b g c)

    by : (o : Option State) → step s x ≡ o → ((u : State) → (is_newline x.lexeme ≡ true → Row x.end u) → Fails u xs ⊎ Comes d u x.end (is_newline x.lexeme) xs) → Fails s (x ∷ xs) ⊎ Comes d s e b (x ∷ xs)
    by None g go = inl (λ ys raw h. no_stuck (halts s x (xs ++ ys) g) h)
    by (Some u) g go = over u g (go u (row_behind s u x g))
