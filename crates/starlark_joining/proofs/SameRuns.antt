-- Runs over tokens that are the same but for places, one of them behind statements that were read, come to the same but for places.
use Rattle.std.proofs.Common.{ℕ, ◌≡◌, ◌∷◌, [], List, Option, Some, None, refl, sym, subst₂}
use Rattle.starlark_lexer.specs.Items.{Item, item}
use Rattle.starlark_ast.specs.Tree.{Sequence, no_statements}
use Rattle.starlark_grammar.specs.Nodes.{block_of}
use Rattle.starlark_grammar.specs.Events.{Event}
use Rattle.starlark_grammar.specs.Frames.{Blocks, outer, State, at_line}
use Rattle.starlark_grammar.specs.Machine.{step}
use Rattle.starlark_grammar.specs.Runs.{Trace, Accepts, Stuck, Note, note, end_line, finish, met, run}
use Rattle.starlark_grammar.proofs.Steps.{runs_end}
use Rattle.starlark_joining.specs.Same.{same_when, SameSequence, same_no_statements}
use Rattle.starlark_joining.specs.Joined.{SameEvent, SameItems, no_items, and_item, behind, Greater}
use Rattle.starlark_joining.proofs.SameFrames.{SameBlocks, b_outer, b_inner, e_outer, SameState, s_wants, s_has, s_stands, s_named, s_list, s_next, s_line, s_for, s_if, s_colon, s_suite, s_indent, s_small, s_semicolon, s_return, s_load_opens, s_load_module, s_load_named, s_load_symbol, s_load_equal, s_load_other, s_load_behind, s_def_name, s_def_opens, s_param, s_star, s_stars, s_name, s_behind_param, s_result, SameStep, both_stop, both_go}
use Rattle.starlark_joining.proofs.SameNodes.{stretch_same}
use Rattle.starlark_joining.proofs.SameParts.{settled_same}
use Rattle.starlark_joining.proofs.SameMoves.{move_same}
use Rattle.starlark_joining.proofs.SameMet.{SameMet, no_event, an_event, met_same}

-- what is met and the end, the same but for places and for the statements that one of the two began with
pub data SameTrace (R : ℕ → ℕ → Type 0) (base : Sequence) : Trace → Trace → Type 0 where
  same_accepts : (ss rs : Sequence) (e f : ℕ) → SameSequence R ss rs → SameTrace R base (Accepts (block_of ss e)) (Accepts (block_of (behind base rs) f))
  same_stuck : {xs ys : List Item} → SameTrace R base (Stuck xs) (Stuck ys)
  same_note : {xs ys : List Item} {e f : Event} {v w : Trace} → SameEvent R e f → SameTrace R base v w → SameTrace R base (Note xs e v) (Note ys f w)

line_same : {R : ℕ → ℕ → Type 0} {base : Sequence} {k j : Blocks} (e f : ℕ) → SameBlocks R base k j → SameTrace R base (end_line k e) (end_line j f)
line_same e f (b_outer {ss} {rs} q) = same_accepts ss rs e f q
line_same e f (b_inner q l) = same_stuck

finish_same : {R : ℕ → ℕ → Type 0} (z : Greater R) {base : Sequence} {a b : State} → SameState R base a b → SameTrace R base (finish a) (finish b)
finish_same z (s_line {e} {f} l g) = line_same e f l
finish_same z (s_for {e} {f} q l g) = line_same e f l
finish_same z (s_if {e} {f} q s m g l) = line_same e f (settled_same z l (same_when q s (stretch_same z m g)) g)
finish_same z (s_has q e l) = same_stuck
finish_same z (s_stands t l) = same_stuck
finish_same z (s_next m p e l) = same_stuck
finish_same z (s_load_equal m a ss n l) = same_stuck
finish_same z (s_wants l) = same_stuck
finish_same z (s_named q m f g h l) = same_stuck
finish_same z (s_list l) = same_stuck
finish_same z (s_colon l) = same_stuck
finish_same z (s_suite l) = same_stuck
finish_same z (s_indent l) = same_stuck
finish_same z (s_small s l) = same_stuck
finish_same z (s_semicolon l) = same_stuck
finish_same z (s_return m e l) = same_stuck
finish_same z (s_load_opens m l) = same_stuck
finish_same z (s_load_module m l) = same_stuck
finish_same z (s_load_named m n l) = same_stuck
finish_same z (s_load_symbol m n ss l) = same_stuck
finish_same z (s_load_other m n ss o l) = same_stuck
finish_same z (s_load_behind m n ss s l) = same_stuck
finish_same z (s_def_name m l) = same_stuck
finish_same z (s_def_opens l) = same_stuck
finish_same z (s_param l ps) = same_stuck
finish_same z (s_star l ps m e) = same_stuck
finish_same z (s_stars l ps m) = same_stuck
finish_same z (s_name l ps n m e) = same_stuck
finish_same z (s_behind_param l ps) = same_stuck
finish_same z (s_result l ps) = same_stuck

note_same : {R : ℕ → ℕ → Type 0} {base : Sequence} (xs ys : List Item) {o p : Option Event} {v w : Trace} → SameMet R o p → SameTrace R base v w → SameTrace R base (note xs o v) (note ys p w)
note_same xs ys no_event t = t
note_same xs ys (an_event e) t = same_note e t

-- what is behind a step
abbrev arrive : List Item → List Item → Option State → Trace
arrive ys xs o = elim o [ None ↦ Stuck ys | Some s ↦ run s xs ]

runs : (s : State) (x : Item) (xs : List Item) → run s (x ∷ xs) ≡ note (x ∷ xs) (met s (Some x.lexeme)) (arrive (x ∷ xs) xs (step s x))
unfolding run
runs s x xs = refl

pub runs_same : {R : ℕ → ℕ → Type 0} (z : Greater R) {base : Sequence} {a b : State} {ts us : List Item} → SameState R base a b → SameItems R ts us → SameTrace R base (run a ts) (run b us)
runs_same {R} z {base} {a} {b} l no_items = subst₂ (λ v w. SameTrace R base v w) (sym (runs_end a)) (sym (runs_end b)) (note_same [] [] (met_same z None l) (finish_same z l))
runs_same {R} z {base} {a} {b} l (and_item {i} {j} {u} {v} {x} {xs} {ys} p q h) =
    let m = item i x j in
    let n = item u x v in
    let rest : SameTrace R base (arrive (m ∷ xs) xs (step a m)) (arrive (n ∷ ys) ys (step b n)) = behind_step m n (move_same z x l p q) (λ s r w. runs_same z w h) in
    subst₂ (λ v w. SameTrace R base v w) (sym (runs a m xs)) (sym (runs b n ys)) (note_same (m ∷ xs) (n ∷ ys) (met_same z (Some x) l) rest)
  where
    behind_step : (m n : Item) {o r : Option State} → SameStep R base o r → ((s t : State) → SameState R base s t → SameTrace R base (run s xs) (run t ys)) → SameTrace R base (arrive (m ∷ xs) xs o) (arrive (n ∷ ys) ys r)
    behind_step m n both_stop g = same_stuck
    behind_step m n (both_go s) g = g _ _ s

pub same_runs : (R : ℕ → ℕ → Type 0) → Greater R → (base : Sequence) (e f : ℕ) {ts us : List Item} → SameItems R ts us → SameTrace R base (run (at_line (outer no_statements) e) ts) (run (at_line (outer base) f) us)
same_runs R z base e f h = runs_same z (s_line (b_outer same_no_statements) e_outer) h
