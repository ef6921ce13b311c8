-- A text has one tree at most, or is refused for one reason at most.
use Rattle.std.proofs.Common.{◌≡◌, ℕ, List, ◌⊎◌, inl, inr, subst}
use Rattle.starlark_lexer.specs.Items.{Lexed}
use Rattle.starlark_lexer.specs.Lex.{Lex, start}
use Rattle.starlark_lexer.specs.declared.dialect.Dialect.{Dialect}
use Rattle.starlark_ast.specs.Tree.{Statement}
use Rattle.starlark_grammar.specs.Language.{IsProgram, Fault, IsRefusal, Decision, is_program, is_refused, without_comments, uncommented, Language, IsRefused}
use Rattle.starlark_grammar.proofs.Decided as d

abbrev pub OneReading : Type 0
OneReading = (t : List ℕ) (a b : Lexed) → Lex start t a → Lex start t b → a ≡ b

pub one_tree : OneReading → (c : Dialect) (text : List ℕ) (a b : Statement) → Language c text a → Language c text b → a ≡ b
one_tree one c text a b l m = d.one_tree c (without_comments l.lexed.items) a b l.program (subst (λ z. IsProgram c (without_comments z.items) b) (one text m.lexed l.lexed m.lexes l.lexes) m.program)

pub one_refusal : OneReading → (c : Dialect) (text : List ℕ) (f g : Fault) → IsRefused c text f → IsRefused c text g → f ≡ g
one_refusal one c text f g x y = d.one_refusal c (uncommented x.lexed) f g x.refusal (subst (λ z. IsRefusal c (uncommented z) g) (one text y.lexed x.lexed y.lexes x.lexes) y.refusal)

pub not_both : OneReading → (c : Dialect) (text : List ℕ) (tree : Statement) (f : Fault) → Language c text tree → IsRefused c text f → ⊥
not_both one c text tree f l x = d.not_both c (uncommented l.lexed) tree f l.no_fault l.program (subst (λ z. IsRefusal c (uncommented z) f) (one text x.lexed l.lexed x.lexes l.lexes) x.refusal)

pub decided : (c : Dialect) (text : List ℕ) (l : Lexed) → Lex start text l → ((tree : Statement) × Language c text tree) ⊎ ((f : Fault) × IsRefused c text f)
decided c text l h = go (d.decided c (uncommented l))
  where
    go : Decision c (uncommented l) → ((tree : Statement) × Language c text tree) ⊎ ((f : Fault) × IsRefused c text f)
    go (is_program raw e p) = inl (raw, record { lexed = l; lexes = h; no_fault = e; program = p })
    go (is_refused f p) = inr (f, record { lexed = l; lexes = h; refusal = p })
