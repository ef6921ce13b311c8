-- Tokens within a line go on to a program by what closes what is open.
use Rattle.std.proofs.Common.{ℕ, ◌≡◌, ◌+◌, ◌⊎◌, ◌∷◌, ◌++◌, ◌∙◌, [], inl, inr, List, Some, true, false, refl, ap, sym, subst, arith, count_by}
use Rattle.starlark_lexer.specs.Items.{Lexeme, fstring_text, fstring_expr_start, Item, item}
use Rattle.starlark_lexer.specs.declared.dialect.Dialect.{Dialect}
use Rattle.starlark_lexer.specs.Joining.{dedent_item}
use Rattle.starlark_grammar.specs.Points.{field}
use Rattle.starlark_grammar.specs.Frames.{inside, State, wants}
use Rattle.starlark_grammar.specs.Machine.{step}
use Rattle.starlark_grammar.specs.Runs.{initial}
use Rattle.starlark_grammar.specs.Language.{IsViable}
use Rattle.starlark_cutting.specs.Cutting.{indent_item}
use Rattle.starlark_cutting.specs.Opened.{Nest, within_text, Goes_to}
use Rattle.starlark_completion.specs.Shapes.{depth, nest, within, stage}
use Rattle.starlark_completion.specs.Ending.{no_token, another, last_of}
use Rattle.starlark_completion.specs.Closing.{CanClose}
use Rattle.starlark_completion.specs.Laws.{Laws}
use Rattle.starlark_grammar.proofs.Behind.{Path, no_step, a_step}
use Rattle.starlark_completion.proofs.Running.{reached}
use Rattle.starlark_completion.proofs.Nests.{InPiece, in_piece, state_text}
use Rattle.starlark_completion.proofs.Completed.{InLine}
use Rattle.starlark_completion.proofs.Ways.{Fits, step_goes, path_way, path_depth, path_stage}
use Rattle.starlark_completion.proofs.Ended.{in_a_line}

-- a state within its line
path_closes : Laws → {w : List Item} {s : State} → Path initial w s → InLine (stage s) → CanClose w
path_closes laws {w} {s} p i =
    let h = path_depth p in
    let b : count_by indent_item w ≡ depth s + count_by dedent_item w = omega (arith, h) in
    let e = in_a_line laws p i in
    record { depth = depth s; blocks = b; nest = nest s; way = path_way p; puts = e.front; closes = e.way; goes = e.goes }

pub line_closes : Laws → (dialect : Dialect) (w : List Item) → IsViable dialect w → last_of no_token w ≡ another → CanClose w
line_closes laws dialect w v q =
    let r = reached w v.rest initial (v.raw, laws.complete (w ++ v.rest) v.raw v.derives) in
    let f : stage r.state ≡ within = subst (λ l. Fits l (stage r.state)) q (path_stage no_token r.path refl) in
    path_closes laws r.path (subst InLine (sym f) tt)

-- behind the text of an f-string a field may begin
path_append : {s t u : State} {w v : List Item} → Path s w t → Path t v u → Path s (w ++ v) u
path_append no_step p = p
path_append (a_step q d) p = a_step q (path_append d p)

path_last : {s t : State} (w : List Item) (z : Item) → Path s (w ++ z ∷ []) t → (u : State) × (step u z ≡ Some t)
path_last {s} [] z (a_step q no_step) = (s, q)
path_last (x ∷ w) z (a_step q p) = path_last w z p

behind_text : (x : Lexeme) (v : List ℕ) (m n : Nest) → x ≡ fstring_text v → Goes_to x m n → within_text n ≡ true
behind_text x v m n q h = let e : (within_text m ≡ true) × (n ≡ m) = subst (λ y. Goes_to y m n) q h in ap within_text e.1 ∙ e.0

field_begins : Laws → {w : List Item} {s : State} → Path initial w s → within_text (nest s) ≡ true → (within_text (nest s) ≡ false) ⊎ InPiece s → CanClose (w ++ item 0 fstring_expr_start 0 ∷ [])
field_begins laws p t (inl f) = absurd (let e : true ≡ false = sym t ∙ f in (cc))
field_begins laws p t (inr (in_piece b f ms k)) = path_closes laws (path_append p (a_step {t = wants 12 (inside (field b f ms) k)} refl no_step)) tt

pub text_closes : Laws → (dialect : Dialect) (w : List Item) (z : Item) (v : List ℕ) → z.lexeme ≡ fstring_text v → IsViable dialect (w ++ z ∷ []) → CanClose ((w ++ z ∷ []) ++ item 0 fstring_expr_start 0 ∷ [])
text_closes laws dialect w z v q i =
    let x = w ++ z ∷ [] in
    let r = reached x i.rest initial (i.raw, laws.complete (x ++ i.rest) i.raw i.derives) in
    let l = path_last w z r.path in
    field_begins laws r.path (behind_text z.lexeme v (nest l.0) (nest r.state) q (step_goes l.0 r.state z l.1)) (state_text r.state)
