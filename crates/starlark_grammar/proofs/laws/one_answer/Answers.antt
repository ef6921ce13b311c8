use Rattle.starlark_grammar.proofs.Decided.{decided, one_tree, one_refusal, not_both}
use Rattle.starlark_grammar.proofs.laws.one_answer.Goals as goal

pub returns-clause-some : goal.returns-clause-some
returns-clause-some c = decided

pub returns-clause-tree : goal.returns-clause-tree
returns-clause-tree c = one_tree

pub returns-clause-refusal : goal.returns-clause-refusal
returns-clause-refusal c = one_refusal

pub returns-clause-other : goal.returns-clause-other
returns-clause-other c = not_both
