use Rattle.starlark_grammar.proofs.Commented.{comments_held}
use Rattle.starlark_grammar.proofs.EndsOfRefusals.{refused_at, tree_at}
use Rattle.starlark_grammar.proofs.text_laws.held_places.Goals as goal

pub returns-clause-refusal : goal.returns-clause-refusal
returns-clause-refusal c = refused_at c.whole_characters.ensures

pub returns-clause-tree : goal.returns-clause-tree
returns-clause-tree c = tree_at c.whole_characters.ensures

pub returns-clause-comments : goal.returns-clause-comments
returns-clause-comments c = comments_held c.whole_characters.ensures
