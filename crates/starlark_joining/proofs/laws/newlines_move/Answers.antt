use Rattle.starlark_joining.specs.Relaid.{same_token, left_out, put_before}
use Rattle.starlark_joining.proofs.Relaying.{behind_others, relaid, stays}
use Rattle.starlark_joining.proofs.laws.newlines_move.Goals as goal

pub returns-clause-moved : goal.returns-clause-moved
returns-clause-moved c xs ys i j g h k l m n raw d = relaid c.sound.ensures c.complete.ensures.accepts (behind_others (λ b. put_before (same_token (left_out (stays ys)))) xs) raw d

pub returns-clause-doubled : goal.returns-clause-doubled
returns-clause-doubled c xs ys i j g h k l raw d = relaid c.sound.ensures c.complete.ensures.accepts (behind_others (λ b. same_token (left_out (stays ys))) xs) raw d

pub returns-clause-first : goal.returns-clause-first
returns-clause-first c ys i j raw d = relaid c.sound.ensures c.complete.ensures.accepts (left_out (stays ys)) raw d

pub returns-clause-all : goal.returns-clause-all
returns-clause-all c us vs raw z d = relaid c.sound.ensures c.complete.ensures.accepts z raw d
