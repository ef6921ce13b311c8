-- Laws of the grammar that are cited here: starlark_grammar::laws.
use Rattle.std.specs.Prelude.{◌≡◌, List}
use Rattle.starlark_lexer.specs.Items.{Item}
use Rattle.starlark_ast.specs.Tree.{Statement}
use Rattle.starlark_grammar.specs.Grammar.{Derives}
use Rattle.starlark_grammar.specs.Frames.{State}
use Rattle.starlark_grammar.specs.Runs.{Accepts, Stuck, bottom, initial, run}
use Rattle.starlark_grammar.specs.Completion.{completion}
use Rattle.starlark_grammar.specs.Language.{EndsAt}

-- sound
abbrev pub Sound : Type 0
Sound = (u : List Item) (raw : Statement) → bottom (run initial u) ≡ Accepts raw → Derives u raw

-- complete, the clause `accepts`
abbrev pub Complete : Type 0
Complete = (u : List Item) (raw : Statement) → Derives u raw → bottom (run initial u) ≡ Accepts raw

-- goes_on
abbrev pub Completes : Type 0
Completes = (s : State) → (raw : Statement) × (bottom (run s (completion s)) ≡ Accepts raw)

-- stuck_at_dead
abbrev pub StuckAtDead : Type 0
StuckAtDead = (u rest : List Item) → bottom (run initial u) ≡ Stuck rest → EndsAt u rest

pub record Laws : Type 0 where
  pub sound : Sound
  pub complete : Complete
  pub completes : Completes
  pub stuck_at_dead : StuckAtDead
