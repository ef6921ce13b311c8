-- Statements at the top of which one breaks a rule that counts at the end.
use Rattle.std.proofs.Common.{◌≡◌, Bool, true, false, None, refl}
use Rattle.starlark_lexer.specs.declared.dialect.Dialect.{Dialect}
use Rattle.starlark_ast.specs.Tree.{Statement, Sequence, no_statements, add_statement}
use Rattle.starlark_rulebook.specs.Kept.{kept_rules, kept_sequence}
use Rattle.starlark_rulebook.specs.Late.{at_top_level, expressions_rules, inner_rules, sequence_rules, statement_rules}
use Rattle.starlark_grammar.specs.Events.{end_finding}
use Rattle.starlark_grammar.proofs.CleanEnds.{EndsClean, both_empty, clean_end}

-- where none breaks one, those before the last do not, and the last does not
pub clean_fewer : (d : Dialect) (ss : Sequence) (s : Statement) → EndsClean d (add_statement ss s) → EndsClean d ss × (end_finding d s ≡ None)
clean_fewer d ss s h =
    let k = both_empty (kept_sequence d ss) (kept_rules d s) h.kept in
    let l = both_empty (sequence_rules d at_top_level ss) (statement_rules d at_top_level s) h.stands in
    let m = both_empty (inner_rules d ss) (expressions_rules d s) h.inside in
    (record { kept = k.0; stands = l.0; inside = m.0 }, clean_end d (add_statement no_statements s) 0 (record { kept = k.1; stands = l.1; inside = m.1 }))

-- one that breaks a rule is among those before, or else it is the last
pub still_unclean : {A : Type 0} (b : Bool) → (b ≡ false → A → ⊥) → A → (b ≡ true → ⊥) → ⊥
still_unclean true f a g = g refl
still_unclean false f a g = f refl a
