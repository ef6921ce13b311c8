-- Where the tokens without comments are a program, the first line that has a width is not indented.
use Rattle.std.proofs.Common.{ℕ, ◌≡◌, ◌∷◌, ◌∙◌, [], List, true, refl, ap, sym, subst}
use Rattle.starlark_lexer.specs.Items.{Lexeme, newline, indent, comment, Item, item}
use Rattle.starlark_lexer.specs.Joining.{opens_level}
use Rattle.starlark_ast.specs.Tree.{Sequence, Statement, no_statements}
use Rattle.starlark_grammar.specs.Grammar.{Derives}
use Rattle.starlark_grammar.specs.Language.{without_comments}
use Rattle.starlark_grammar.specs.Frames.{outer, at_line}
use Rattle.starlark_grammar.specs.Runs.{Trace, Accepts, Stuck, bottom, run, initial}
use Rattle.starlark_joining.proofs.Walking.{runs_on, halts}

abbrev IsAccepts : Trace → Type 0
IsAccepts (Accepts raw) = Unit {0}
IsAccepts _ = ⊥

pub no_stuck : {P : Type 0} {t : Trace} {xs : List Item} {raw : Statement} → t ≡ Stuck xs → t ≡ Accepts raw → P
no_stuck {t} {xs} {raw} e h = absurd (subst IsAccepts (sym h ∙ e) tt)

pub level_run : (items : List Item) (ss : Sequence) (e : ℕ) (raw : Statement) → bottom (run (at_line (outer ss) e) (without_comments items)) ≡ Accepts raw → opens_level items ≡ true
level_run [] ss e raw h = refl
level_run (x ∷ xs) ss e raw h = by x.lexeme x.begin x.end h (level_run xs ss)
  where
    by : (y : Lexeme) (i j : ℕ) → bottom (run (at_line (outer ss) e) (without_comments (item i y j ∷ xs))) ≡ Accepts raw → ((f : ℕ) (r : Statement) → bottom (run (at_line (outer ss) f) (without_comments xs)) ≡ Accepts r → opens_level xs ≡ true) → opens_level (item i y j ∷ xs) ≡ true
    by newline i j h go = go j raw (sym (ap bottom (runs_on (at_line (outer ss) e) (at_line (outer ss) j) (item i newline j) (without_comments xs) refl)) ∙ h)
    by (comment t) i j h go = go e raw h
    by indent i j h go = no_stuck (halts (at_line (outer ss) e) (item i indent j) (without_comments xs) refl) h
    by y i j h go = refl

pub level_program : ((u : List Item) (raw : Statement) → Derives u raw → bottom (run initial u) ≡ Accepts raw) → (items : List Item) (raw : Statement) → Derives (without_comments items) raw → opens_level items ≡ true
level_program accepts items raw d = level_run items no_statements 0 raw (accepts (without_comments items) raw d)
