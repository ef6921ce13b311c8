-- Statements that break no rule that counts at the end.
use Rattle.std.proofs.Common.{◌≡◌, ℕ, List, [], ◌∷◌, ◌++◌, Some, None, refl, ap, ◌∙◌}
use Rattle.starlark_lexer.specs.declared.dialect.Dialect.{Dialect}
use Rattle.starlark_ast.specs.Tree.{Statement, Sequence, no_statements, add_statement}
use Rattle.starlark_rulebook.specs.Kept.{kept_rules, kept_sequence}
use Rattle.starlark_rulebook.specs.Late.{at_top_level, expressions_rules, inner_rules, late_rules, sequence_rules, statement_rules}
use Rattle.starlark_rulebook.specs.Rules.{Finding, first_finding, first_of}
use Rattle.starlark_grammar.specs.Events.{end_finding}
use Rattle.starlark_grammar.specs.Nodes.{block_of}

-- ---- nothing found

pub first_empty : (fs gs : List Finding) → first_of (first_finding fs) (first_finding gs) ≡ None → (fs ≡ []) × (gs ≡ [])
first_empty [] [] e = (refl, refl)
first_empty [] (g ∷ gs) e = absurd (let n : Some g ≡ None = e in (cc))
first_empty (f ∷ fs) gs e = absurd (let n : Some f ≡ None = e in (cc))

pub both_empty : (fs gs : List Finding) → fs ++ gs ≡ [] → (fs ≡ []) × (gs ≡ [])
both_empty [] gs e = (refl, e)
both_empty (f ∷ fs) gs e = absurd (let n : f ∷ (fs ++ gs) ≡ [] = e in (cc))

pub empty_both : (fs gs : List Finding) → fs ≡ [] → gs ≡ [] → fs ++ gs ≡ []
empty_both fs gs h k = ap (λ z. z ++ gs) h ∙ k

-- ---- one statement at the top

parts : (d : Dialect) (s : Statement) → end_finding d s ≡ None → (kept_rules d s ≡ []) × (statement_rules d at_top_level s ≡ []) × (expressions_rules d s ≡ [])
parts d s e =
    let h : (kept_rules d s ≡ []) × (late_rules d s ≡ []) = first_empty (kept_rules d s) (late_rules d s) e in
    let k : (statement_rules d at_top_level s ≡ []) × (expressions_rules d s ≡ []) = both_empty (statement_rules d at_top_level s) (expressions_rules d s) h.1 in
    (h.0, k.0, k.1)

whole : (d : Dialect) (s : Statement) → kept_rules d s ≡ [] → statement_rules d at_top_level s ≡ [] → expressions_rules d s ≡ [] → end_finding d s ≡ None
whole d s h k l = ap (λ z. first_of (first_finding z) (first_finding (late_rules d s))) h ∙ ap first_finding (empty_both (statement_rules d at_top_level s) (expressions_rules d s) k l)

-- ---- statements in a row at the top

-- they break none
pub record EndsClean (d : Dialect) (ss : Sequence) : Type 0 where
  pub kept : kept_sequence d ss ≡ []
  pub stands : sequence_rules d at_top_level ss ≡ []
  pub inside : inner_rules d ss ≡ []

pub clean_of : (d : Dialect) (ss : Sequence) (e : ℕ) → end_finding d (block_of ss e) ≡ None → EndsClean d ss
clean_of d no_statements e h = record { kept = refl; stands = refl; inside = refl }
clean_of d (add_statement no_statements s) e h = let p : (kept_rules d s ≡ []) × (statement_rules d at_top_level s ≡ []) × (expressions_rules d s ≡ []) = parts d s h in record { kept = p.0; stands = p.1; inside = p.2 }
clean_of d (add_statement (add_statement ss r) s) e h = let p : _ = parts d (block_of (add_statement (add_statement ss r) s) e) h in record { kept = p.0; stands = p.1; inside = p.2 }

pub clean_end : (d : Dialect) (ss : Sequence) (e : ℕ) → EndsClean d ss → end_finding d (block_of ss e) ≡ None
clean_end d no_statements e h = refl
clean_end d (add_statement no_statements s) e h = whole d s h.kept h.stands h.inside
clean_end d (add_statement (add_statement ss r) s) e h = whole d (block_of (add_statement (add_statement ss r) s) e) h.kept h.stands h.inside

-- with one more that breaks none
pub clean_more : {d : Dialect} {ss : Sequence} (s : Statement) → EndsClean d ss → end_finding d s ≡ None → EndsClean d (add_statement ss s)
clean_more {d} {ss} s h e =
    let p : (kept_rules d s ≡ []) × (statement_rules d at_top_level s ≡ []) × (expressions_rules d s ≡ []) = parts d s e in
    record {
      kept = empty_both (kept_sequence d ss) (kept_rules d s) h.kept p.0;
      stands = empty_both (sequence_rules d at_top_level ss) (statement_rules d at_top_level s) h.stands p.1;
      inside = empty_both (inner_rules d ss) (expressions_rules d s) h.inside p.2;
    }
