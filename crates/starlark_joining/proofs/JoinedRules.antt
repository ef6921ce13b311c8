-- Where two texts break no rule at the end, their statements in a row break none.
use Rattle.std.proofs.Common.{ℕ, ◌≡◌, ◌++◌, ◌∙◌, sym, ap, None, append-nil, append_assoc}
use Rattle.starlark_lexer.specs.declared.dialect.Dialect.{Dialect}
use Rattle.starlark_ast.specs.Tree.{Sequence, no_statements, add_statement}
use Rattle.starlark_rulebook.specs.Kept.{kept_rules, kept_sequence}
use Rattle.starlark_rulebook.specs.Late.{Standing, at_top_level, statement_rules, sequence_rules, expressions_rules, inner_rules}
use Rattle.starlark_grammar.specs.Nodes.{block_of}
use Rattle.starlark_grammar.specs.Events.{end_finding}
use Rattle.starlark_grammar.proofs.CleanEnds.{EndsClean, clean_end, clean_of, empty_both}
use Rattle.starlark_joining.specs.Same.{SameSequence}
use Rattle.starlark_joining.specs.Joined.{behind}
use Rattle.starlark_joining.proofs.LikeFindings.{like_empty}
use Rattle.starlark_joining.proofs.SameKept.{kept_sequence_same}
use Rattle.starlark_joining.proofs.SameLate.{sequence_rules_same, inner_rules_same}

-- ---- statements behind others

-- their rules stand behind those of the others
pub kept_behind : (d : Dialect) (a b : Sequence) → kept_sequence d (behind a b) ≡ kept_sequence d a ++ kept_sequence d b
kept_behind d a no_statements = sym (append-nil (kept_sequence d a))
kept_behind d a (add_statement ss s) = ap (λ z. z ++ kept_rules d s) (kept_behind d a ss) ∙ append_assoc (kept_sequence d a) (kept_sequence d ss) (kept_rules d s)

pub sequence_behind : (d : Dialect) (p : Standing) (a b : Sequence) → sequence_rules d p (behind a b) ≡ sequence_rules d p a ++ sequence_rules d p b
sequence_behind d p a no_statements = sym (append-nil (sequence_rules d p a))
sequence_behind d p a (add_statement ss s) = ap (λ z. z ++ statement_rules d p s) (sequence_behind d p a ss) ∙ append_assoc (sequence_rules d p a) (sequence_rules d p ss) (statement_rules d p s)

pub inner_behind : (d : Dialect) (a b : Sequence) → inner_rules d (behind a b) ≡ inner_rules d a ++ inner_rules d b
inner_behind d a no_statements = sym (append-nil (inner_rules d a))
inner_behind d a (add_statement ss s) = ap (λ z. z ++ expressions_rules d s) (inner_behind d a ss) ∙ append_assoc (inner_rules d a) (inner_rules d ss) (expressions_rules d s)

-- ---- where they break none

pub clean_same : (d : Dialect) {R : ℕ → ℕ → Type 0} {a b : Sequence} → SameSequence R a b → EndsClean d a → EndsClean d b
clean_same d s h = record { kept = like_empty (kept_sequence_same d s) h.kept; stands = like_empty (sequence_rules_same d at_top_level s) h.stands; inside = like_empty (inner_rules_same d s) h.inside }

pub clean_behind : (d : Dialect) (a b : Sequence) → EndsClean d a → EndsClean d b → EndsClean d (behind a b)
clean_behind d a b h k = record {
  kept = kept_behind d a b ∙ empty_both (kept_sequence d a) (kept_sequence d b) h.kept k.kept;
  stands = sequence_behind d at_top_level a b ∙ empty_both (sequence_rules d at_top_level a) (sequence_rules d at_top_level b) h.stands k.stands;
  inside = inner_behind d a b ∙ empty_both (inner_rules d a) (inner_rules d b) h.inside k.inside;
}

pub clean_joined : (d : Dialect) {R Q : ℕ → ℕ → Type 0} {a b c g : Sequence} (e f h : ℕ) → SameSequence R a b → SameSequence Q c g → end_finding d (block_of a e) ≡ None → end_finding d (block_of c f) ≡ None → end_finding d (block_of (behind b g) h) ≡ None
clean_joined d {a = a} {b} {c} {g} e f h r q m n = clean_end d (behind b g) h (clean_behind d b g (clean_same d r (clean_of d a e m)) (clean_same d q (clean_of d c f n)))
