use Rattle.std.proofs.Common.{◌+◌, ◌-◌, ◌≡◌, ◌∙◌, suc, refl, ap, sym, rules, arith, length, inl, inr, cond, true, string_bytes, Some, false, ap₂}
use Rattle.starlark_lexer.specs.Items.{keyword_lambda, keyword_if, dot, opening_round, opening_square, comma, closing_round, star, star_star, equal, colon, closing_square, opening_curly, keyword_for, closing_curly, fstring_end, fstring_expr_end, slash}
use Rattle.starlark_grammar.specs.Made.{sign_of, bound_of, goes_over, items_of, pairs_of, clauses_of}
use Rattle.starlark_grammar.specs.Nodes.{start, operated, from}
use Rattle.starlark_grammar.specs.Points.{behind_sign, body, operand, condition, otherwise, behind, first_at, an_argument, an_args, a_kwargs, member, a_named, at_first, at_second, at_third, bound, second, brackets, clauses_read, before_body}
use Rattle.starlark_grammar.specs.Frames.{inside, wants, has, tail, stands, perhaps_named}
use Rattle.starlark_grammar.specs.Machine.{tails}
use Rattle.starlark_read.specs.Reads.{begins_ahead, grade_ahead, name_ahead, in_clause, one_of}
use Rattle.starlark_grammar.proofs.Reached.{plain_close}
use Rattle.starlark_read.proofs.Exits.{begins, ◌>>◌, renamed, state_is, exits, behind_it, read_it, left_it, seen_as, gives, goes, runs_as, sticks, missing, stays_there, answers, halts, refuses}
use Rattle.starlark_read.proofs.Beginning.{lambda_begins, plain_begins, lambda_ends}
use Rattle.starlark_read.proofs.Operating.{signs, joins, no_choice, next_floor, next_tails, rest_of, chooses, no_else}
use Rattle.starlark_ast.specs.Tree as tree
use Rattle.starlark_ast.specs.View.{members}
use Rattle.starlark_grammar.specs.Spans.{stretch}
use Rattle.starlark_grammar.specs.Tables.{associates, round, square, curly}
use Rattle.starlark_read.proofs.Suffixing.{at_grade, passes_tails, spanned, no_suffix, passes_tail, unlike, since_there, none_of, some_of, in_order}
use Rattle.starlark_read.proofs.Arguing.{members_are, no_argument_end, argument_opens, kwargs_begin, member_is, leaf_named}
use Rattle.starlark_read.proofs.Subscripting.{bound_opens, ended_by, first_opens, goes_to_step, no_index_end, no_second_end, no_slice_end, no_step_end, slice_ends, step_ends}
use Rattle.starlark_read.specs.Gathered.{quoted_ahead, gathered, text_ahead}
use Rattle.starlark_read.proofs.Gathering.{bracket_from, passes_from, found_true, found_false, no_opening_at, still, wanted_from, item_begins, member_ends, closes_wanted, closes_read, no_round_end, before, list_span, comprehension_span, no_member_end, dict_span, wanted_as, read_as, gathers_wanted, gathers_read_as, first_kept, one_more, many_clause, key_begins, key_ends, no_colon, member_as, placed, span_from}
use Rattle.starlark_read.proofs.Quoting.{string_from, string_ends, string_span, field_begins, field_from, pieces_as, no_piece, field_ends, bang_read, no_field_end, put, letter_from}
use Rattle.starlark_read.proofs.Listing.{clauses_as, clauses_close, clause_more, filter_ends, no_clause, in_follows, no_in, over_ends, over_broken, right_target, list_begins, listed_from, list_comma_as, list_goes_on_with, list_broken_with, list_forgets, list_is}
use Rattle.starlark_read.proofs.Naming.{body_as, slash_read, star_begins, stars_begin, star_from, name_begins, double_starred_read, no_kwargs, no_parameter, default_begins, name_is, named, unnamed, spans_as, defaults_as}
use Rattle.starlark_read.proofs.+expression.Goals as goal

pub expression::expression-returns-in_err-left-clause-reads : goal.expression::expression-returns-in_err-left-clause-reads
expression::expression-returns-in_err-left-clause-reads g met c d k = exits (search rules) (plain_begins c.args.level k _ (c.level_ahead-floor.ensures.none c.if-floor-eq-PRIMARY.true)) (c.in_err-left.ensures.reads d (tails c.args.level 1 k))

pub expression::expression-returns-then-level-grade-clause-reads : goal.expression::expression-returns-then-level-grade-clause-reads
expression::expression-returns-then-level-grade-clause-reads g met c d k = gives (plain_begins c.args.level k _ (c.level_ahead-floor.ensures.none c.if-floor-eq-PRIMARY.true) >> (c.in_ok-left.ensures.reads d (tails c.args.level 1 k)).comes _ refl >> runs_as (passes_tails (suc c.args.level) 0 _ _ k _ (inr (omega (arith, c.grade.ensures, c.if-level-grade.true)))))

pub expression::expression-returns-in_err-left-2-clause-reads : goal.expression::expression-returns-in_err-left-2-clause-reads
expression::expression-returns-in_err-left-2-clause-reads g met c d k = exits (search rules) (plain_begins c.args.level k _ (c.level_ahead-floor.ensures.none c.if-floor-eq-PRIMARY.true) >> (c.in_ok-left.ensures.reads d (tails c.args.level 1 k)).comes _ refl) (c.in_err-left-2.ensures.reads d (tails c.args.level 1 k))

pub expression::expression-returns-then-floor-eq-PRIMARY-clause-reads : goal.expression::expression-returns-then-floor-eq-PRIMARY-clause-reads
expression::expression-returns-then-floor-eq-PRIMARY-clause-reads g met c d k = behind_it (plain_begins c.args.level k _ (c.level_ahead-floor.ensures.none c.if-floor-eq-PRIMARY.true) >> (c.in_ok-left.ensures.reads d (tails c.args.level 1 k)).comes _ refl >> (c.in_ok-left-2.ensures.reads d (tails c.args.level 1 k)).comes _ refl) (c.operators.ensures.reads d c.args.level k (omega arith))

pub expression::expression-returns-then-branch-clause-reads : goal.expression::expression-returns-then-branch-clause-reads
expression::expression-returns-then-branch-clause-reads g met c d k =
    let p = read_it _ _ keyword_lambda _ c.if-branch.true c.in_ok-accept.ensures in
    let h = c.level_ahead-floor.ensures.some c.if-floor-eq-PRIMARY.false in
    let t = ap begins_ahead p.items in
    behind_it (lambda_begins c.args.level c.begin-begin.result k (omega (arith, t, h.0, h.1, c.requires)) (sym c.begin-begin.ensures) p) (c.lambda.ensures.reads d k)

pub expression::expression-returns-in_err-sign-clause-reads : goal.expression::expression-returns-in_err-sign-clause-reads
expression::expression-returns-in_err-sign-clause-reads g met c d k =
    let a = left_it _ _ keyword_lambda _ c.if-branch.false c.in_ok-accept.ensures in
    let h = c.level_ahead-floor.ensures.some c.if-floor-eq-PRIMARY.false in
    let n = c.args.level - c.level_ahead-floor.result in
    let e : c.args.level ≡ n + c.level_ahead-floor.result = omega (arith, h.1) in
    exits (search rules) (state_is (renamed a.0) (ap (λ z. wants z k) e)) (c.in_err-sign.ensures.reads d n k)

pub expression::expression-returns-in_err-left-3-clause-reads : goal.expression::expression-returns-in_err-left-3-clause-reads
expression::expression-returns-in_err-left-3-clause-reads g met c d k =
    let a = left_it _ _ keyword_lambda _ c.if-branch.false c.in_ok-accept.ensures in
    let h = c.level_ahead-floor.ensures.some c.if-floor-eq-PRIMARY.false in
    let n = c.args.level - c.level_ahead-floor.result in
    let e : c.args.level ≡ n + c.level_ahead-floor.result = omega (arith, h.1) in
    exits (search rules) (state_is (state_is (renamed a.0) (ap (λ z. wants z k) e) >> (c.in_ok-sign.ensures.reads d n k).comes _ refl) (ap (λ b. wants c.level_ahead-floor.result (inside (behind_sign (sign_of c.in_ok-sign.sign) b) (tails (suc n) c.level_ahead-floor.result k))) (ap (λ ts. start ts.items) a.0 ∙ sym c.begin-begin.ensures))) (c.in_err-left-3.ensures.reads d (tails (suc n) c.level_ahead-floor.result k))

pub expression::expression-returns-clause-reads : goal.expression::expression-returns-clause-reads
expression::expression-returns-clause-reads g met c d k =
    let a = left_it _ _ keyword_lambda _ c.if-branch.false c.in_ok-accept.ensures in
    let h = c.level_ahead-floor.ensures.some c.if-floor-eq-PRIMARY.false in
    let n = c.args.level - c.level_ahead-floor.result in
    let e : c.args.level ≡ n + c.level_ahead-floor.result = omega (arith, h.1) in
    behind_it (state_is (state_is (renamed a.0) (ap (λ z. wants z k) e) >> (c.in_ok-sign.ensures.reads d n k).comes _ refl) (ap (λ b. wants c.level_ahead-floor.result (inside (behind_sign (sign_of c.in_ok-sign.sign) b) (tails (suc n) c.level_ahead-floor.result k))) (ap (λ ts. start ts.items) a.0 ∙ sym c.begin-begin.ensures)) >> (c.in_ok-left-3.ensures.reads d (tails (suc n) c.level_ahead-floor.result k)).comes _ refl) (c.operators-2.ensures.reads d (suc n) k (omega (arith, h.1)))

pub signs::signed-returns-in_err-operand-clause-reads : goal.signs::signed-returns-in_err-operand-clause-reads
signs::signed-returns-in_err-operand-clause-reads g met c d k = exits (search rules) begins (c.in_err-operand.ensures.reads d (inside (behind_sign (sign_of c.args.sign) c.args.begin) k))

pub signs::signed-returns-clause-reads : goal.signs::signed-returns-clause-reads
signs::signed-returns-clause-reads g met c d k =
    let s = sign_of c.args.sign in
    let q = g.B.Make.means c.in_ok-operand.operand in
    gives (seen_as ((c.in_ok-operand.ensures.reads d (inside (behind_sign s c.args.begin) k)).comes _ refl >> signs s c.args.begin q _ k _) (c.in_ok-signed.ensures ∙ ap (tree.signed s q) c.since-span.ensures))

pub signs::lambda-returns-in_err-parameters-clause-reads : goal.signs::lambda-returns-in_err-parameters-clause-reads
signs::lambda-returns-in_err-parameters-clause-reads g met c d k = exits (search rules) begins (c.in_err-parameters.ensures.reads d c.args.begin k)

pub signs::lambda-returns-in_err-body-clause-reads : goal.signs::lambda-returns-in_err-body-clause-reads
signs::lambda-returns-in_err-body-clause-reads g met c d k = exits (search rules) ((c.in_ok-parameters.ensures.reads d c.args.begin k).comes _ refl) (c.in_err-body.ensures.reads d (inside (body (members g.B.Make.parameter_means c.in_ok-parameters.parameters.items) c.args.begin) k))

pub signs::lambda-returns-clause-reads : goal.signs::lambda-returns-clause-reads
signs::lambda-returns-clause-reads g met c d k =
    let ms = members g.B.Make.parameter_means c.in_ok-parameters.parameters.items in
    let q = g.B.Make.means c.in_ok-body.body in
    gives (seen_as ((c.in_ok-parameters.ensures.reads d c.args.begin k).comes _ refl >> (c.in_ok-body.ensures.reads d (inside (body ms c.args.begin) k)).comes _ refl >> lambda_ends ms c.args.begin q _ k _) (c.in_ok-lambda.ensures ∙ ap (tree.lambda ms q) c.since-span.ensures))

pub operators::operators-returns-then-grade-floor-clause-reads : goal.operators::operators-returns-then-grade-floor-clause-reads
operators::operators-returns-then-grade-floor-clause-reads g met c d b k w =
    let v = c.loop-floor.invariant in
    let n = suc c.args.level - c.loop-floor.floor in
    gives (v.reads d b n k w (omega (arith, v.below)) >> runs_as (passes_tails n _ _ _ k _ (inl (omega (arith, c.grade-grade.ensures, c.if-grade-floor.true)))))

pub operators::operators-returns-then-level-grade-clause-reads : goal.operators::operators-returns-then-level-grade-clause-reads
operators::operators-returns-then-level-grade-clause-reads g met c d b k w =
    let v = c.loop-floor.invariant in
    let n = suc c.args.level - c.loop-floor.floor in
    gives (v.reads d b n k w (omega (arith, v.below)) >> runs_as (passes_tails n _ _ _ k _ (inr (omega (arith, c.grade-grade.ensures, c.if-level-grade.true, v.below)))))

pub operators::operators-returns-then-branch-clause-reads : goal.operators::operators-returns-then-branch-clause-reads
operators::operators-returns-then-branch-clause-reads g met c d b k w =
    let v = c.loop-floor.invariant in
    let n = suc c.args.level - c.loop-floor.floor in
    let p = read_it _ _ keyword_if _ c.if-branch.true c.in_ok-accept.ensures in
    let t = ap grade_ahead p.items in
    behind_it (v.reads d b n k w (omega (arith, v.below)) >> runs_as (at_grade n 0 c.loop-floor.floor _ _ k _ 12 t (omega (arith, t, c.grade-grade.ensures, c.if-grade-floor.false)) (omega (arith, t, c.grade-grade.ensures, c.if-level-grade.false, c.requires.high, v.below))) >> goes p refl refl) (c.choice.ensures.reads d k)

pub operators::operators-returns-in_err-op-clause-reads : goal.operators::operators-returns-in_err-op-clause-reads
operators::operators-returns-in_err-op-clause-reads g met c d b k w =
    let v = c.loop-floor.invariant in
    let n = suc c.args.level - c.loop-floor.floor in
    let r = c.args.level - c.grade-grade.result in
    let m = c.grade-grade.result - 1 in
    let a = left_it _ _ keyword_if _ c.if-branch.false c.in_ok-accept.ensures in
    exits (search rules) (v.reads d b n k w (omega (arith, v.below)) >> runs_as (at_grade n r c.loop-floor.floor _ _ k _ (suc m) (omega (arith, c.grade-grade.ensures, c.if-grade-floor.false, v.low)) (omega (arith, c.if-grade-floor.false, v.low)) (omega (arith, c.if-grade-floor.false, c.if-level-grade.false, v.low, v.below))) >> renamed a.0) (c.in_err-op.ensures.reads d (g.B.Make.means c.loop-floor.left) c.loop-floor.tokens.last (tails r (suc (suc m)) k))

pub operators::operators-returns-in_err-right-clause-reads : goal.operators::operators-returns-in_err-right-clause-reads
operators::operators-returns-in_err-right-clause-reads g met c d b k w =
    let v = c.loop-floor.invariant in
    let n = suc c.args.level - c.loop-floor.floor in
    let r = c.args.level - c.grade-grade.result in
    let m = c.grade-grade.result - 1 in
    let q = g.B.Make.means c.loop-floor.left in
    let a = left_it _ _ keyword_if _ c.if-branch.false c.in_ok-accept.ensures in
    exits (search rules) (v.reads d b n k w (omega (arith, v.below)) >> runs_as (at_grade n r c.loop-floor.floor _ _ k _ (suc m) (omega (arith, c.grade-grade.ensures, c.if-grade-floor.false, v.low)) (omega (arith, c.if-grade-floor.false, v.low)) (omega (arith, c.if-grade-floor.false, c.if-level-grade.false, v.low, v.below))) >> renamed a.0 >> (c.in_ok-op.ensures.reads d q c.loop-floor.tokens.last (tails r (suc (suc m)) k)).comes _ refl) (c.in_err-right.ensures.reads d (inside (operand q c.in_ok-op.op) (rest_of (suc m) (tails r (suc (suc m)) k))))

pub operators::operators-floor_behind-floor-requires : goal.operators::operators-floor_behind-floor-requires
operators::operators-floor_behind-floor-requires g met c =
    let a = left_it _ _ keyword_if _ c.if-branch.false c.in_ok-accept.ensures in
    let other = no_choice _ a.1 in
    omega (arith, c.if-level-grade.false, c.requires.high, c.grade-grade.ensures, other)

pub operators::operators-loop-floor-preserved : goal.operators::operators-loop-floor-preserved
operators::operators-loop-floor-preserved g met c =
    let v = c.loop-floor.invariant in
    let n = suc c.args.level - c.loop-floor.floor in
    let r = c.args.level - c.grade-grade.result in
    let m = c.grade-grade.result - 1 in
    let q = g.B.Make.means c.loop-floor.left in
    let o = c.in_ok-op.op in
    let y = g.B.Make.means c.in_ok-right.right in
    let a = left_it _ _ keyword_if _ c.if-branch.false c.in_ok-accept.ensures in
    let one : c.grade-grade.result ≡ suc m = omega (arith, c.if-grade-floor.false, v.low) in
    let floor = sym (c.floor_behind-floor.ensures ∙ ap (λ z. cond (associates z) z (suc z)) one) in
    let bounds = next_floor (suc m) in
    record {
      reads = λ d b e k w u. seen_as (state_is (v.reads d b n k w (omega (arith, v.below)) >> runs_as (at_grade n r c.loop-floor.floor _ _ k _ (suc m) (omega (arith, c.grade-grade.ensures, c.if-grade-floor.false, v.low)) (omega (arith, c.if-grade-floor.false, v.low)) (omega (arith, c.if-grade-floor.false, c.if-level-grade.false, v.low, v.below))) >> renamed a.0 >> (c.in_ok-op.ensures.reads d q c.loop-floor.tokens.last (tails r (suc (suc m)) k)).comes _ refl >> (c.in_ok-right.ensures.reads d (inside (operand q o) (rest_of (suc m) (tails r (suc (suc m)) k)))).comes _ refl >> joins q y o _ (rest_of (suc m) (tails r (suc (suc m)) k)) _) (ap (has (operated q o y) c.expression.new.tokens.last) (next_tails (suc m) r e _ k floor (omega (arith, u, one, c.if-level-grade.false))))) (c.in_ok-left.ensures ∙ ap (tree.operation q o y) (c.both-span.ensures.is ∙ ap (λ s. stretch s.begin c.place-in-loop-floor.result.end) c.place.ensures ∙ ap (λ s. stretch (tree.place q).begin s.end) c.place-in-loop-floor.ensures));
      low = omega (arith, floor, bounds.0);
      below = omega (arith, floor, bounds.1, one, c.if-level-grade.false);
      shorter = omega (arith, v.shorter, ap (λ ts. length ts.items) a.0, c.in_ok-op.ensures.shorter, c.in_ok-right.ensures.shorter);
    }

pub operators::choice-returns-in_err-condition-clause-reads : goal.operators::choice-returns-in_err-condition-clause-reads
operators::choice-returns-in_err-condition-clause-reads g met c d k = exits (search rules) begins (c.in_err-condition.ensures.reads d (inside (condition (g.B.Make.means c.args.value)) k))

pub operators::choice-returns-in_err-expect-clause-reads : goal.operators::choice-returns-in_err-expect-clause-reads
operators::choice-returns-in_err-expect-clause-reads g met c d k =
    let t = g.B.Make.means c.args.value in
    missing (search rules) c.in_err-expect.ensures.unread c.in_err-expect.ensures.no_rule (λ h. sticks ((c.in_ok-condition.ensures.reads d (inside (condition t) k)).comes _ refl) (no_else t _ _ k _ _ h))

pub operators::choice-returns-in_err-otherwise-clause-reads : goal.operators::choice-returns-in_err-otherwise-clause-reads
operators::choice-returns-in_err-otherwise-clause-reads g met c d k =
    let t = g.B.Make.means c.args.value in
    let q = g.B.Make.means c.in_ok-condition.condition in
    exits (search rules) ((c.in_ok-condition.ensures.reads d (inside (condition t) k)).comes _ refl >> goes c.in_ok-expect.ensures.read refl refl) (c.in_err-otherwise.ensures.reads d (inside (otherwise t q) k))

pub operators::choice-returns-clause-reads : goal.operators::choice-returns-clause-reads
operators::choice-returns-clause-reads g met c d k =
    let t = g.B.Make.means c.args.value in
    let q = g.B.Make.means c.in_ok-condition.condition in
    let r = g.B.Make.means c.in_ok-otherwise.otherwise in
    gives (seen_as ((c.in_ok-condition.ensures.reads d (inside (condition t) k)).comes _ refl >> goes c.in_ok-expect.ensures.read refl refl >> (c.in_ok-otherwise.ensures.reads d (inside (otherwise t q) k)).comes _ refl >> chooses t q r _ k _) (c.in_ok-choice.ensures ∙ ap (tree.choice q t r) (spanned t _ c.since-span.ensures c.begin.ensures.is c.place.ensures)))

pub suffixes::suffixes-returns-in_err-left-clause-reads : goal.suffixes::suffixes-returns-in_err-left-clause-reads
suffixes::suffixes-returns-in_err-left-clause-reads g met c d k = exits (search rules) (c.loop-tokens.invariant.reads d k >> goes (read_it _ _ dot _ c.if-branch.true c.in_ok-accept.ensures) refl refl) (c.in_err-left.ensures.reads d (tail 0 k))

pub suffixes::suffixes-loop-tokens-preserved-then-branch : goal.suffixes::suffixes-loop-tokens-preserved-then-branch
suffixes::suffixes-loop-tokens-preserved-then-branch g met c =
    let p = read_it _ _ dot _ c.if-branch.true c.in_ok-accept.ensures in
    record {
      reads = λ d k. c.loop-tokens.invariant.reads d k >> goes p refl refl >> (c.in_ok-left.ensures.reads d (tail 0 k)).comes _ refl;
      shorter = omega (arith, c.loop-tokens.invariant.shorter, ap length p.items, c.in_ok-left.ensures.shorter);
    }

pub suffixes::suffixes-returns-in_err-left-2-clause-reads : goal.suffixes::suffixes-returns-in_err-left-2-clause-reads
suffixes::suffixes-returns-in_err-left-2-clause-reads g met c d k =
    let a = left_it _ _ dot _ c.if-branch.false c.in_ok-accept.ensures in
    exits (search rules) (c.loop-tokens.invariant.reads d k >> renamed a.0 >> goes (read_it _ _ opening_round _ c.if-branch-2.true c.in_ok-accept-2.ensures) refl refl) (c.in_err-left-2.ensures.reads d (tail 0 k))

pub suffixes::suffixes-loop-tokens-preserved-then-branch-2 : goal.suffixes::suffixes-loop-tokens-preserved-then-branch-2
suffixes::suffixes-loop-tokens-preserved-then-branch-2 g met c =
    let a = left_it _ _ dot _ c.if-branch.false c.in_ok-accept.ensures in
    let p = read_it _ _ opening_round _ c.if-branch-2.true c.in_ok-accept-2.ensures in
    record {
      reads = λ d k. c.loop-tokens.invariant.reads d k >> renamed a.0 >> goes p refl refl >> (c.in_ok-left-2.ensures.reads d (tail 0 k)).comes _ refl;
      shorter = omega (arith, c.loop-tokens.invariant.shorter, ap (λ ts. length ts.items) a.0, ap length p.items, c.in_ok-left-2.ensures.shorter);
    }

pub suffixes::suffixes-returns-in_err-left-3-clause-reads : goal.suffixes::suffixes-returns-in_err-left-3-clause-reads
suffixes::suffixes-returns-in_err-left-3-clause-reads g met c d k =
    let a = left_it _ _ dot _ c.if-branch.false c.in_ok-accept.ensures in
    let b = left_it _ _ opening_round _ c.if-branch-2.false c.in_ok-accept-2.ensures in
    exits (search rules) (c.loop-tokens.invariant.reads d k >> renamed a.0 >> renamed b.0 >> goes (read_it _ _ opening_square _ c.if-branch-3.true c.in_ok-accept-3.ensures) refl refl) (c.in_err-left-3.ensures.reads d (tail 0 k))

pub suffixes::suffixes-loop-tokens-preserved : goal.suffixes::suffixes-loop-tokens-preserved
suffixes::suffixes-loop-tokens-preserved g met c =
    let a = left_it _ _ dot _ c.if-branch.false c.in_ok-accept.ensures in
    let b = left_it _ _ opening_round _ c.if-branch-2.false c.in_ok-accept-2.ensures in
    let p = read_it _ _ opening_square _ c.if-branch-3.true c.in_ok-accept-3.ensures in
    record {
      reads = λ d k. c.loop-tokens.invariant.reads d k >> renamed a.0 >> renamed b.0 >> goes p refl refl >> (c.in_ok-left-3.ensures.reads d (tail 0 k)).comes _ refl;
      shorter = omega (arith, c.loop-tokens.invariant.shorter, ap (λ ts. length ts.items) a.0, ap (λ ts. length ts.items) b.0, ap length p.items, c.in_ok-left-3.ensures.shorter);
    }

pub suffixes::suffixes-returns-else-branch-3-clause-reads : goal.suffixes::suffixes-returns-else-branch-3-clause-reads
suffixes::suffixes-returns-else-branch-3-clause-reads g met c d k =
    let a = left_it _ _ dot _ c.if-branch.false c.in_ok-accept.ensures in
    let b = left_it _ _ opening_round _ c.if-branch-2.false c.in_ok-accept-2.ensures in
    let e = left_it _ _ opening_square _ c.if-branch-3.false c.in_ok-accept-3.ensures in
    gives (state_is (c.loop-tokens.invariant.reads d k >> renamed a.0 >> renamed b.0 >> renamed e.0 >> runs_as (passes_tail 0 _ _ k _ (no_suffix _ (unlike (e.0 ∙ b.0 ∙ a.0) a.1) (unlike (e.0 ∙ b.0) b.1) (unlike e.0 e.1)))) (ap (λ ts. has (g.B.Make.means c.loop-tokens.left) ts.last k) (sym (e.0 ∙ b.0 ∙ a.0))))

pub arguments::call-returns-in_err-found-clause-reads : goal.arguments::call-returns-in_err-found-clause-reads
arguments::call-returns-in_err-found-clause-reads g met c d k = exits (search rules) begins (c.in_err-found.ensures.reads d (g.B.Make.means c.args.callee) k)

pub arguments::call-returns-clause-reads : goal.arguments::call-returns-clause-reads
arguments::call-returns-clause-reads g met c d k =
    let q = g.B.Make.means c.args.callee in
    let ms = members g.B.Make.argument_means c.in_ok-found.found.items in
    gives (seen_as ((c.in_ok-found.ensures.reads d q k).comes _ refl) (c.in_ok-call.ensures ∙ ap (tree.call q ms) (spanned q _ c.since-span.ensures c.begin.ensures.is c.place.ensures)))

pub arguments::arguments-returns-then-branch-clause-reads : goal.arguments::arguments-returns-then-branch-clause-reads
arguments::arguments-returns-then-branch-clause-reads g met c d q k = gives ((c.loop-found.invariant.reads d q k).goes >> goes (read_it _ _ closing_round _ c.if-branch.true c.in_ok-accept.ensures) refl refl)

pub arguments::arguments-returns-in_err-next-clause-reads : goal.arguments::arguments-returns-in_err-next-clause-reads
arguments::arguments-returns-in_err-next-clause-reads g met c d q k =
    let w = c.loop-found.invariant.reads d q k in
    let a = left_it _ _ closing_round _ c.if-branch.false c.in_ok-accept.ensures in
    exits (search rules) (w.goes >> renamed a.0) (c.in_err-next.ensures.reads d q (members g.B.Make.argument_means c.loop-found.found.items) w.trailing w.end w.first k)

pub arguments::arguments-loop-found-preserved : goal.arguments::arguments-loop-found-preserved
arguments::arguments-loop-found-preserved g met c =
    let a = left_it _ _ closing_round _ c.if-branch.false c.in_ok-accept.ensures in
    let p = read_it _ _ comma _ c.if-not-branch.false c.in_ok-accept-2.ensures in
    let ms = members g.B.Make.argument_means c.loop-found.found.items in
    let one = ap (members g.B.Make.argument_means) c.in_ok-push.ensures.items ∙ one_more g.B.Make.argument_means c.loop-found.found.items c.in_ok-next.next in
    record {
      reads = λ d q k. let w = c.loop-found.invariant.reads d q k in record {
        trailing = true;
        end = c.accept-in-loop-found.new.self.last;
        first = first_at ms w.first (start c.accept.new.self.items);
        goes = members_are (w.goes >> renamed a.0 >> (c.in_ok-next.ensures.reads d q ms w.trailing w.end w.first k).comes _ refl >> goes p refl refl) one;
      };
      shorter = omega (arith, c.loop-found.invariant.shorter, ap (λ ts. length ts.items) a.0, c.in_ok-next.ensures.shorter, ap length p.items);
    }

pub arguments::arguments-returns-in_err-expect-clause-reads : goal.arguments::arguments-returns-in_err-expect-clause-reads
arguments::arguments-returns-in_err-expect-clause-reads g met c d q k =
    let w = c.loop-found.invariant.reads d q k in
    let a = left_it _ _ closing_round _ c.if-branch.false c.in_ok-accept.ensures in
    let b = left_it _ _ comma _ c.if-not-branch.true c.in_ok-accept-2.ensures in
    let ms = members g.B.Make.argument_means c.loop-found.found.items in
    missing (search rules) c.in_err-expect.ensures.unread c.in_err-expect.ensures.no_rule (λ h. sticks (w.goes >> renamed a.0 >> (c.in_ok-next.ensures.reads d q ms w.trailing w.end w.first k).comes _ refl) (no_argument_end q _ _ _ k _ _ _ b h))

pub arguments::arguments-returns-then-not-branch-clause-reads : goal.arguments::arguments-returns-then-not-branch-clause-reads
arguments::arguments-returns-then-not-branch-clause-reads g met c d q k =
    let w = c.loop-found.invariant.reads d q k in
    let a = left_it _ _ closing_round _ c.if-branch.false c.in_ok-accept.ensures in
    let b = left_it _ _ comma _ c.if-not-branch.true c.in_ok-accept-2.ensures in
    let ms = members g.B.Make.argument_means c.loop-found.found.items in
    let one = ap (members g.B.Make.argument_means) c.in_ok-push.ensures.items ∙ one_more g.B.Make.argument_means c.loop-found.found.items c.in_ok-next.next in
    gives (seen_as (w.goes >> renamed a.0 >> (c.in_ok-next.ensures.reads d q ms w.trailing w.end w.first k).comes _ refl >> renamed b.0 >> goes c.in_ok-expect.ensures.read refl refl) (ap (λ z. tree.call q z (from q c.expect.new.self.last)) one))

pub arguments::argument-returns-in_err-value-clause-reads : goal.arguments::argument-returns-in_err-value-clause-reads
arguments::argument-returns-in_err-value-clause-reads g met c d q ms t e f k =
    let b = start c.args.tokens.now.items in
    exits (search rules) (goes (read_it _ _ star _ c.if-branch.true c.in_ok-accept.ensures) refl refl) (c.in_err-value.ensures.reads d (inside (member (behind q) ms (first_at ms f b) b an_args) k))

pub arguments::argument-returns-then-branch-clause-reads : goal.arguments::argument-returns-then-branch-clause-reads
arguments::argument-returns-then-branch-clause-reads g met c d q ms t e f k =
    let b = start c.args.tokens.now.items in
    let v = g.B.Make.means c.in_ok-value.value in
    gives (member_is (goes (read_it _ _ star _ c.if-branch.true c.in_ok-accept.ensures) refl refl >> (c.in_ok-value.ensures.reads d (inside (member (behind q) ms (first_at ms f b) b an_args) k)).comes _ refl >> member_ends (behind q) ms (first_at ms f b) b an_args v _ k _) (c.args-then-branch.ensures ∙ ap (tree.args v) (since_there _ c.since-span.ensures c.begin-begin.ensures)))

pub arguments::argument-returns-in_err-value-2-clause-reads : goal.arguments::argument-returns-in_err-value-2-clause-reads
arguments::argument-returns-in_err-value-2-clause-reads g met c d q ms t e f k =
    let a = left_it _ _ star _ c.if-branch.false c.in_ok-accept.ensures in
    let b = start c.args.tokens.now.items in
    exits (search rules) (renamed a.0 >> kwargs_begin q ms t e f b k (ap (λ ts. start ts.items) a.0) (read_it _ _ star_star _ c.if-branch-2.true c.in_ok-accept-2.ensures)) (c.in_err-value-2.ensures.reads d (inside (member (behind q) ms (first_at ms f b) b a_kwargs) k))

pub arguments::argument-returns-then-branch-2-clause-reads : goal.arguments::argument-returns-then-branch-2-clause-reads
arguments::argument-returns-then-branch-2-clause-reads g met c d q ms t e f k =
    let a = left_it _ _ star _ c.if-branch.false c.in_ok-accept.ensures in
    let b = start c.args.tokens.now.items in
    let v = g.B.Make.means c.in_ok-value-2.value in
    gives (member_is (renamed a.0 >> kwargs_begin q ms t e f b k (ap (λ ts. start ts.items) a.0) (read_it _ _ star_star _ c.if-branch-2.true c.in_ok-accept-2.ensures) >> (c.in_ok-value-2.ensures.reads d (inside (member (behind q) ms (first_at ms f b) b a_kwargs) k)).comes _ refl >> member_ends (behind q) ms (first_at ms f b) b a_kwargs v _ k _) (c.kwargs.ensures ∙ ap (tree.kwargs v) (since_there _ c.since-span-then-branch-2.ensures c.begin-begin.ensures)))

pub arguments::argument-returns-in-Some-clause-reads : goal.arguments::argument-returns-in-Some-clause-reads
arguments::argument-returns-in-Some-clause-reads g met c d q ms t e f k =
    let a = left_it _ _ star _ c.if-branch.false c.in_ok-accept.ensures in
    let h = left_it _ _ star_star _ c.if-branch-2.false c.in_ok-accept-2.ensures in
    let b = start c.args.tokens.now.items in
    let p = some_of _ _ _ _ c.in-Some.is c.in_ok-name.ensures in
    behind_it (renamed a.0 >> renamed h.0 >> state_is (goes p refl refl) (ap (λ i. perhaps_named q ms (first_at ms f i) (string_bytes c.in-Some.name.node) c.in-Some.name.span.begin c.in-Some.name.span.end k) (sym (ap start p.items) ∙ ap (λ ts. start ts.items) (h.0 ∙ a.0)))) (c.behind_name.ensures.reads d q ms (first_at ms f b) k)

pub arguments::argument-returns-in_err-value-3-clause-reads : goal.arguments::argument-returns-in_err-value-3-clause-reads
arguments::argument-returns-in_err-value-3-clause-reads g met c d q ms t e f k =
    let a = left_it _ _ star _ c.if-branch.false c.in_ok-accept.ensures in
    let h = left_it _ _ star_star _ c.if-branch-2.false c.in_ok-accept-2.ensures in
    let n = none_of _ _ _ c.in_default.is c.in_ok-name.ensures in
    let b = start c.args.tokens.now.items in
    exits (search rules) (argument_opens q ms t e f k _ _ (n.0 ∙ h.0 ∙ a.0) c.requires a.1 (unlike (sym a.0) h.1) (ap (λ ts. name_ahead ts.items) (sym (h.0 ∙ a.0)) ∙ n.1)) (c.in_err-value-3.ensures.reads d (inside (member (behind q) ms (first_at ms f b) b an_argument) k))

pub arguments::argument-returns-clause-reads : goal.arguments::argument-returns-clause-reads
arguments::argument-returns-clause-reads g met c d q ms t e f k =
    let a = left_it _ _ star _ c.if-branch.false c.in_ok-accept.ensures in
    let h = left_it _ _ star_star _ c.if-branch-2.false c.in_ok-accept-2.ensures in
    let n = none_of _ _ _ c.in_default.is c.in_ok-name.ensures in
    let b = start c.args.tokens.now.items in
    let v = g.B.Make.means c.in_ok-value-3.value in
    gives (member_is (argument_opens q ms t e f k _ _ (n.0 ∙ h.0 ∙ a.0) c.requires a.1 (unlike (sym a.0) h.1) (ap (λ ts. name_ahead ts.items) (sym (h.0 ∙ a.0)) ∙ n.1) >> (c.in_ok-value-3.ensures.reads d (inside (member (behind q) ms (first_at ms f b) b an_argument) k)).comes _ refl >> member_ends (behind q) ms (first_at ms f b) b an_argument v _ k _) (c.positional.ensures ∙ ap (tree.positional v) (since_there _ c.since-span-2.ensures c.begin-begin.ensures)))

pub arguments::behind_name-returns-in_err-value-clause-reads : goal.arguments::behind_name-returns-in_err-value-clause-reads
arguments::behind_name-returns-in_err-value-clause-reads g met c d q ms f k =
    let s = c.args.name.span in
    let n = string_bytes c.args.name.node in
    exits (search rules) (goes (read_it _ _ equal _ c.if-branch.true c.in_ok-accept.ensures) refl refl) (c.in_err-value.ensures.reads d (inside (member (behind q) ms f s.begin (a_named n (stretch s.begin s.end))) k))

pub arguments::behind_name-returns-then-branch-clause-reads : goal.arguments::behind_name-returns-then-branch-clause-reads
arguments::behind_name-returns-then-branch-clause-reads g met c d q ms f k =
    let s = c.args.name.span in
    let n = string_bytes c.args.name.node in
    let v = g.B.Make.means c.in_ok-value.value in
    let p = a_named n (stretch s.begin s.end) in
    gives (member_is (goes (read_it _ _ equal _ c.if-branch.true c.in_ok-accept.ensures) refl refl >> (c.in_ok-value.ensures.reads d (inside (member (behind q) ms f s.begin p) k)).comes _ refl >> member_ends (behind q) ms f s.begin p v _ k _) (c.named.ensures ∙ ap (λ z. tree.named n z v c.since-span.result) (sym (in_order s c.begin-begin.ensures.before)) ∙ ap (tree.named n (stretch s.begin s.end) v) (since_there _ c.since-span.ensures c.begin-begin.ensures.is)))

pub arguments::behind_name-returns-in_err-left-clause-reads : goal.arguments::behind_name-returns-in_err-left-clause-reads
arguments::behind_name-returns-in_err-left-clause-reads g met c d q ms f k =
    let s = c.args.name.span in
    let n = string_bytes c.args.name.node in
    let a = left_it _ _ equal _ c.if-branch.false c.in_ok-accept.ensures in
    exits (search rules) (leaf_named q ms f n s k _ _ _ a c.begin-begin.ensures.before c.requires c.name-left.ensures) (c.in_err-left.ensures.reads d (tails 12 1 (inside (member (behind q) ms f s.begin an_argument) k)))

pub arguments::behind_name-returns-in_err-value-2-clause-reads : goal.arguments::behind_name-returns-in_err-value-2-clause-reads
arguments::behind_name-returns-in_err-value-2-clause-reads g met c d q ms f k =
    let s = c.args.name.span in
    let n = string_bytes c.args.name.node in
    let a = left_it _ _ equal _ c.if-branch.false c.in_ok-accept.ensures in
    exits (search rules) (leaf_named q ms f n s k _ _ _ a c.begin-begin.ensures.before c.requires c.name-left.ensures >> (c.in_ok-left.ensures.reads d (tails 12 1 (inside (member (behind q) ms f s.begin an_argument) k))).comes _ refl) (c.in_err-value-2.ensures.reads d 12 (inside (member (behind q) ms f s.begin an_argument) k) refl)

pub arguments::behind_name-returns-clause-reads : goal.arguments::behind_name-returns-clause-reads
arguments::behind_name-returns-clause-reads g met c d q ms f k =
    let s = c.args.name.span in
    let n = string_bytes c.args.name.node in
    let a = left_it _ _ equal _ c.if-branch.false c.in_ok-accept.ensures in
    let v = g.B.Make.means c.in_ok-value-2.value in
    gives (member_is (leaf_named q ms f n s k _ _ _ a c.begin-begin.ensures.before c.requires c.name-left.ensures >> (c.in_ok-left.ensures.reads d (tails 12 1 (inside (member (behind q) ms f s.begin an_argument) k))).comes _ refl >> (c.in_ok-value-2.ensures.reads d 12 (inside (member (behind q) ms f s.begin an_argument) k) refl).comes _ refl >> member_ends (behind q) ms f s.begin an_argument v _ k _) (c.positional.ensures ∙ ap (tree.positional v) (since_there _ c.since-span-2.ensures c.begin-begin.ensures.is)))

pub subscripts::subscript-returns-then-branch-clause-reads : goal.subscripts::subscript-returns-then-branch-clause-reads
subscripts::subscript-returns-then-branch-clause-reads g met c d k = behind_it (goes (read_it _ _ colon _ c.if-branch.true c.in_ok-accept.ensures) refl refl) (c.slice.ensures.reads d k)

pub subscripts::subscript-returns-in_err-first-clause-reads : goal.subscripts::subscript-returns-in_err-first-clause-reads
subscripts::subscript-returns-in_err-first-clause-reads g met c d k =
    let q = g.B.Make.means c.args.object in
    exits (search rules) (first_opens q k _ _ (left_it _ _ colon _ c.if-branch.false c.in_ok-accept.ensures)) (c.in_err-first.ensures.reads d (inside (bound q at_first) k))

pub subscripts::subscript-returns-then-branch-2-clause-reads : goal.subscripts::subscript-returns-then-branch-2-clause-reads
subscripts::subscript-returns-then-branch-2-clause-reads g met c d k =
    let q = g.B.Make.means c.args.object in
    behind_it (first_opens q k _ _ (left_it _ _ colon _ c.if-branch.false c.in_ok-accept.ensures) >> (c.in_ok-first.ensures.reads d (inside (bound q at_first) k)).comes _ refl >> goes (read_it _ _ comma _ c.if-branch-2.true c.in_ok-accept-2.ensures) refl refl) (c.index_of_two.ensures.reads d k)

pub subscripts::subscript-returns-then-branch-3-clause-reads : goal.subscripts::subscript-returns-then-branch-3-clause-reads
subscripts::subscript-returns-then-branch-3-clause-reads g met c d k =
    let q = g.B.Make.means c.args.object in
    let a = left_it _ _ comma _ c.if-branch-2.false c.in_ok-accept-2.ensures in
    behind_it (first_opens q k _ _ (left_it _ _ colon _ c.if-branch.false c.in_ok-accept.ensures) >> (c.in_ok-first.ensures.reads d (inside (bound q at_first) k)).comes _ refl >> renamed a.0 >> goes (read_it _ _ colon _ c.if-branch-3.true c.in_ok-accept-3.ensures) refl refl) (c.slice-then-branch-3.ensures.reads d k)

pub subscripts::subscript-returns-in_err-expect-clause-reads : goal.subscripts::subscript-returns-in_err-expect-clause-reads
subscripts::subscript-returns-in_err-expect-clause-reads g met c d k =
    let q = g.B.Make.means c.args.object in
    let a = left_it _ _ comma _ c.if-branch-2.false c.in_ok-accept-2.ensures in
    let b = left_it _ _ colon _ c.if-branch-3.false c.in_ok-accept-3.ensures in
    missing (search rules) c.in_err-expect.ensures.unread c.in_err-expect.ensures.no_rule (λ h. sticks (first_opens q k _ _ (left_it _ _ colon _ c.if-branch.false c.in_ok-accept.ensures) >> (c.in_ok-first.ensures.reads d (inside (bound q at_first) k)).comes _ refl >> renamed a.0 >> renamed b.0) (stays_there h.0 (no_index_end q _ _ k _ (unlike (b.0 ∙ a.0) a.1) (unlike b.0 b.1) h.1)))

pub subscripts::subscript-returns-clause-reads : goal.subscripts::subscript-returns-clause-reads
subscripts::subscript-returns-clause-reads g met c d k =
    let q = g.B.Make.means c.args.object in
    let a = left_it _ _ comma _ c.if-branch-2.false c.in_ok-accept-2.ensures in
    let b = left_it _ _ colon _ c.if-branch-3.false c.in_ok-accept-3.ensures in
    gives (seen_as (first_opens q k _ _ (left_it _ _ colon _ c.if-branch.false c.in_ok-accept.ensures) >> (c.in_ok-first.ensures.reads d (inside (bound q at_first) k)).comes _ refl >> renamed a.0 >> renamed b.0 >> goes c.in_ok-expect.ensures.read refl refl) (c.in_ok-index.ensures ∙ ap (tree.index q (tree.single (g.B.Make.means c.in_ok-first.first))) (spanned q _ c.since-span.ensures c.begin.ensures.is c.place.ensures)))

pub subscripts::index_of_two-returns-in_err-second-clause-reads : goal.subscripts::index_of_two-returns-in_err-second-clause-reads
subscripts::index_of_two-returns-in_err-second-clause-reads g met c d k = exits (search rules) begins (c.in_err-second.ensures.reads d (inside (second (g.B.Make.means c.args.object) (g.B.Make.means c.args.first)) k))

pub subscripts::index_of_two-returns-in_err-expect-clause-reads : goal.subscripts::index_of_two-returns-in_err-expect-clause-reads
subscripts::index_of_two-returns-in_err-expect-clause-reads g met c d k =
    let q = g.B.Make.means c.args.object in
    let s = g.B.Make.means c.args.first in
    missing (search rules) c.in_err-expect.ensures.unread c.in_err-expect.ensures.no_rule (λ h. sticks ((c.in_ok-second.ensures.reads d (inside (second q s) k)).comes _ refl) (stays_there h.0 (no_second_end q s _ _ k _ h.1)))

pub subscripts::index_of_two-returns-clause-reads : goal.subscripts::index_of_two-returns-clause-reads
subscripts::index_of_two-returns-clause-reads g met c d k =
    let q = g.B.Make.means c.args.object in
    let s = g.B.Make.means c.args.first in
    gives (seen_as ((c.in_ok-second.ensures.reads d (inside (second q s) k)).comes _ refl >> goes c.in_ok-expect.ensures.read refl refl) (c.in_ok-index_of_two.ensures ∙ ap (tree.index q (tree.double s (g.B.Make.means c.in_ok-second.second))) (spanned q _ c.since-span.ensures c.begin.ensures.is c.place.ensures)))

pub subscripts::slice-returns-in_err-to-clause-reads : goal.subscripts::slice-returns-in_err-to-clause-reads
subscripts::slice-returns-in_err-to-clause-reads g met c d k = exits (search rules) begins (c.in_err-to.ensures.reads d (g.B.Make.means c.args.object) (at_second (bound_of g.B.Make.means c.args.from)) k)

pub subscripts::slice-returns-then-branch-clause-reads : goal.subscripts::slice-returns-then-branch-clause-reads
subscripts::slice-returns-then-branch-clause-reads g met c d k =
    let q = g.B.Make.means c.args.object in
    let o = bound_of g.B.Make.means c.args.from in
    behind_it ((c.in_ok-to.ensures.reads d q (at_second o) k).comes _ refl >> goes_to_step q o (bound_of g.B.Make.means c.in_ok-to.to) _ k (read_it _ _ colon _ c.if-branch.true c.in_ok-accept.ensures)) (c.step.ensures.reads d k)

pub subscripts::slice-returns-in_err-expect-clause-reads : goal.subscripts::slice-returns-in_err-expect-clause-reads
subscripts::slice-returns-in_err-expect-clause-reads g met c d k =
    let q = g.B.Make.means c.args.object in
    let o = bound_of g.B.Make.means c.args.from in
    let a = left_it _ _ colon _ c.if-branch.false c.in_ok-accept.ensures in
    missing (search rules) c.in_err-expect.ensures.unread c.in_err-expect.ensures.no_rule (λ h. sticks ((c.in_ok-to.ensures.reads d q (at_second o) k).comes _ refl >> renamed a.0) (stays_there h.0 (no_slice_end q o (bound_of g.B.Make.means c.in_ok-to.to) _ k _ (ended_by g.B.Make.means _ _ c.in_ok-to.to (ap (λ ts. ts.items) a.0) c.in_ok-to.ensures.ended) (unlike a.0 a.1) h.1)))

pub subscripts::slice-returns-clause-reads : goal.subscripts::slice-returns-clause-reads
subscripts::slice-returns-clause-reads g met c d k =
    let q = g.B.Make.means c.args.object in
    let o = bound_of g.B.Make.means c.args.from in
    let b = bound_of g.B.Make.means c.in_ok-to.to in
    let a = left_it _ _ colon _ c.if-branch.false c.in_ok-accept.ensures in
    gives (seen_as ((c.in_ok-to.ensures.reads d q (at_second o) k).comes _ refl >> renamed a.0 >> slice_ends q o b _ k c.in_ok-expect.ensures.read) (c.in_ok-slice.ensures ∙ ap (tree.index q (tree.slice o b tree.absent)) (spanned q _ c.since-span.ensures c.begin.ensures.is c.place.ensures)))

pub subscripts::step-returns-in_err-step-clause-reads : goal.subscripts::step-returns-in_err-step-clause-reads
subscripts::step-returns-in_err-step-clause-reads g met c d k = exits (search rules) begins (c.in_err-step.ensures.reads d (g.B.Make.means c.args.object) (at_third (bound_of g.B.Make.means c.args.from) (bound_of g.B.Make.means c.args.to)) k)

pub subscripts::step-returns-in_err-expect-clause-reads : goal.subscripts::step-returns-in_err-expect-clause-reads
subscripts::step-returns-in_err-expect-clause-reads g met c d k =
    let q = g.B.Make.means c.args.object in
    let o = bound_of g.B.Make.means c.args.from in
    let p = bound_of g.B.Make.means c.args.to in
    missing (search rules) c.in_err-expect.ensures.unread c.in_err-expect.ensures.no_rule (λ h. sticks ((c.in_ok-step.ensures.reads d q (at_third o p) k).comes _ refl) (stays_there h.0 (no_step_end q o p (bound_of g.B.Make.means c.in_ok-step.step) _ k _ (ended_by g.B.Make.means _ _ c.in_ok-step.step refl c.in_ok-step.ensures.ended) h.1)))

pub subscripts::step-returns-clause-reads : goal.subscripts::step-returns-clause-reads
subscripts::step-returns-clause-reads g met c d k =
    let q = g.B.Make.means c.args.object in
    let o = bound_of g.B.Make.means c.args.from in
    let p = bound_of g.B.Make.means c.args.to in
    let b = bound_of g.B.Make.means c.in_ok-step.step in
    gives (seen_as ((c.in_ok-step.ensures.reads d q (at_third o p) k).comes _ refl >> step_ends q o p b _ k c.in_ok-expect.ensures.read) (c.in_ok-slice.ensures ∙ ap (tree.index q (tree.slice o p b)) (spanned q _ c.since-span.ensures c.begin.ensures.is c.place.ensures)))

pub subscripts::bound-returns-in_err-expression-clause-reads : goal.subscripts::bound-returns-in_err-expression-clause-reads
subscripts::bound-returns-in_err-expression-clause-reads g met c d q bs k = exits (search rules) (bound_opens q bs k _ c.if-stands.ensures c.if-stands-2.ensures) (c.in_err-expression.ensures.reads d (inside (bound q bs) k))

pub subscripts::bound-returns-clause-reads : goal.subscripts::bound-returns-clause-reads
subscripts::bound-returns-clause-reads g met c d q bs k = gives (bound_opens q bs k _ c.if-stands.ensures c.if-stands-2.ensures >> (c.in_ok-expression.ensures.reads d (inside (bound q bs) k)).comes _ refl)

pub atoms::atom-returns-then-branch-clause-reads : goal.atoms::atom-returns-then-branch-clause-reads
atoms::atom-returns-then-branch-clause-reads g met c d k = behind_it (bracket_from _ (goes (read_it _ _ opening_round _ c.if-branch.true c.in_ok-accept.ensures) refl refl) c.begin-begin.ensures) (c.parenthesized.ensures.reads d (tail 0 k))

pub atoms::atom-returns-then-branch-2-clause-reads : goal.atoms::atom-returns-then-branch-2-clause-reads
atoms::atom-returns-then-branch-2-clause-reads g met c d k =
    let a = left_it _ _ opening_round _ c.if-branch.false c.in_ok-accept.ensures in
    behind_it (bracket_from _ (goes (passes_from opening_square a.0 (read_it _ _ opening_square _ c.if-branch-2.true c.in_ok-accept-2.ensures)) refl refl) c.begin-begin.ensures) (c.list.ensures.reads d (tail 0 k))

pub atoms::atom-returns-then-branch-3-clause-reads : goal.atoms::atom-returns-then-branch-3-clause-reads
atoms::atom-returns-then-branch-3-clause-reads g met c d k =
    let a = left_it _ _ opening_round _ c.if-branch.false c.in_ok-accept.ensures in
    let b = left_it _ _ opening_square _ c.if-branch-2.false c.in_ok-accept-2.ensures in
    behind_it (bracket_from _ (goes (passes_from opening_curly (b.0 ∙ a.0) (read_it _ _ opening_curly _ c.if-branch-3.true c.in_ok-accept-3.ensures)) refl refl) c.begin-begin.ensures) (c.dict.ensures.reads d (tail 0 k))

pub atoms::atom-returns-then-branch-4-clause-reads : goal.atoms::atom-returns-then-branch-4-clause-reads
atoms::atom-returns-then-branch-4-clause-reads g met c d k =
    let a = left_it _ _ opening_round _ c.if-branch.false c.in_ok-accept.ensures in
    let b = left_it _ _ opening_square _ c.if-branch-2.false c.in_ok-accept-2.ensures in
    let e = left_it _ _ opening_curly _ c.if-branch-3.false c.in_ok-accept-3.ensures in
    behind_it (string_from _ (renamed (e.0 ∙ b.0 ∙ a.0) >> found_true _ _ _ c.if-branch-4.true c.in_ok-opens_f_string.ensures.reads d k) (c.begin-begin.ensures ∙ ap (λ z. start z.items) (sym (e.0 ∙ b.0 ∙ a.0)))) (c.f_string.ensures.reads d (tail 0 k))

pub atoms::atom-returns-clause-reads : goal.atoms::atom-returns-clause-reads
atoms::atom-returns-clause-reads g met c d k =
    let a = left_it _ _ opening_round _ c.if-branch.false c.in_ok-accept.ensures in
    let b = left_it _ _ opening_square _ c.if-branch-2.false c.in_ok-accept-2.ensures in
    let e = left_it _ _ opening_curly _ c.if-branch-3.false c.in_ok-accept-3.ensures in
    let f = found_false _ _ _ c.if-branch-4.false c.in_ok-opens_f_string.ensures.reads in
    behind_it (renamed (f.0 ∙ e.0 ∙ b.0 ∙ a.0)) (c.leaf.ensures.reads d k (no_opening_at _ _ f.0 (still (f.0 ∙ e.0 ∙ b.0 ∙ a.0) a.1) (still (f.0 ∙ e.0 ∙ b.0) b.1) (still (f.0 ∙ e.0) e.1) (ap (λ z. quoted_ahead z.items) f.0 ∙ f.1)))

pub atoms::parenthesized-returns-then-branch-clause-reads : goal.atoms::parenthesized-returns-then-branch-clause-reads
atoms::parenthesized-returns-then-branch-clause-reads g met c d k = gives (seen_as (closes_wanted round _ _ _ _ _ k _ _ _ refl (read_it _ _ closing_round _ c.if-branch.true c.in_ok-accept.ensures)) (c.tuple.ensures ∙ ap₂ tree.tuple (ap (items_of g.B.Make.means) c.new-none.ensures.items) c.since.ensures))

pub atoms::parenthesized-returns-in_err-first-clause-reads : goal.atoms::parenthesized-returns-in_err-first-clause-reads
atoms::parenthesized-returns-in_err-first-clause-reads g met c d k =
    let n = left_it _ _ closing_round _ c.if-branch.false c.in_ok-accept.ensures in
    exits (search rules) (renamed n.0 >> item_begins round _ _ _ _ _ k _ refl (still n.0 n.1)) (c.in_err-first.ensures.reads d _)

pub atoms::parenthesized-returns-in_err-members-clause-reads : goal.atoms::parenthesized-returns-in_err-members-clause-reads
atoms::parenthesized-returns-in_err-members-clause-reads g met c d k =
    let n = left_it _ _ closing_round _ c.if-branch.false c.in_ok-accept.ensures in
    exits (search rules) (wanted_from _ (renamed n.0 >> item_begins round _ _ _ _ _ k _ refl (still n.0 n.1) >> (c.in_ok-first.ensures.reads d _).comes _ refl >> member_ends _ _ _ _ _ _ _ _ _ >> goes (read_it _ _ comma _ c.if-branch-2.true c.in_ok-accept-2.ensures) refl refl) c.begin-begin.ensures) (c.in_err-members.ensures.reads d round _ k refl refl)

pub atoms::parenthesized-returns-then-branch-2-clause-reads : goal.atoms::parenthesized-returns-then-branch-2-clause-reads
atoms::parenthesized-returns-then-branch-2-clause-reads g met c d k =
    let n = left_it _ _ closing_round _ c.if-branch.false c.in_ok-accept.ensures in
    gives (seen_as (wanted_from _ (renamed n.0 >> item_begins round _ _ _ _ _ k _ refl (still n.0 n.1) >> (c.in_ok-first.ensures.reads d _).comes _ refl >> member_ends _ _ _ _ _ _ _ _ _ >> goes (read_it _ _ comma _ c.if-branch-2.true c.in_ok-accept-2.ensures) refl refl) c.begin-begin.ensures >> (c.in_ok-members.ensures.reads d round _ k refl refl).comes _ refl) c.tuple-then-branch-2.ensures)

pub atoms::parenthesized-returns-in_err-expect-clause-reads : goal.atoms::parenthesized-returns-in_err-expect-clause-reads
atoms::parenthesized-returns-in_err-expect-clause-reads g met c d k =
    let n = left_it _ _ closing_round _ c.if-branch.false c.in_ok-accept.ensures in
    let m = left_it _ _ comma _ c.if-branch-2.false c.in_ok-accept-2.ensures in
    missing (search rules) c.in_err-expect.ensures.unread c.in_err-expect.ensures.no_rule (λ h. sticks (renamed n.0 >> item_begins round _ _ _ _ _ k _ refl (still n.0 n.1) >> (c.in_ok-first.ensures.reads d _).comes _ refl >> member_ends _ _ _ _ _ _ _ _ _) (stays_there (h.0 ∙ m.0) (no_round_end _ _ _ _ k _ m.1 (before m.0 h.1))))

pub atoms::parenthesized-returns-clause-reads : goal.atoms::parenthesized-returns-clause-reads
atoms::parenthesized-returns-clause-reads g met c d k =
    let n = left_it _ _ closing_round _ c.if-branch.false c.in_ok-accept.ensures in
    let m = left_it _ _ comma _ c.if-branch-2.false c.in_ok-accept-2.ensures in
    gives (renamed n.0 >> item_begins round _ _ _ _ _ k _ refl (still n.0 n.1) >> (c.in_ok-first.ensures.reads d _).comes _ refl >> member_ends _ _ _ _ _ _ _ _ _ >> renamed m.0 >> closes_read round _ _ _ _ k _ _ _ refl c.in_ok-expect.ensures.read)

pub atoms::list-returns-then-branch-clause-reads : goal.atoms::list-returns-then-branch-clause-reads
atoms::list-returns-then-branch-clause-reads g met c d k = gives (seen_as (closes_wanted square _ _ _ _ _ k _ _ _ refl (read_it _ _ closing_square _ c.if-branch.true c.in_ok-accept.ensures)) (c.list.ensures ∙ ap₂ tree.list (ap (items_of g.B.Make.means) c.new-none.ensures.items) c.since.ensures))

pub atoms::list-returns-in_err-first-clause-reads : goal.atoms::list-returns-in_err-first-clause-reads
atoms::list-returns-in_err-first-clause-reads g met c d k =
    let n = left_it _ _ closing_square _ c.if-branch.false c.in_ok-accept.ensures in
    exits (search rules) (renamed n.0 >> item_begins square _ _ _ _ _ k _ refl (still n.0 n.1)) (c.in_err-first.ensures.reads d _)

pub atoms::list-returns-in_err-over-clause-reads : goal.atoms::list-returns-in_err-over-clause-reads
atoms::list-returns-in_err-over-clause-reads g met c d k =
    let n = left_it _ _ closing_square _ c.if-branch.false c.in_ok-accept.ensures in
    exits (search rules) (renamed n.0 >> item_begins square _ _ _ _ _ k _ refl (still n.0 n.1) >> (c.in_ok-first.ensures.reads d _).comes _ refl >> member_ends _ _ _ _ _ _ _ _ _ >> goes (read_it _ _ keyword_for _ c.if-branch-2.true c.in_ok-accept-2.ensures) refl refl) (c.in_err-over.ensures.reads d square _ _ k refl)

pub atoms::list-returns-then-branch-2-clause-reads : goal.atoms::list-returns-then-branch-2-clause-reads
atoms::list-returns-then-branch-2-clause-reads g met c d k =
    let n = left_it _ _ closing_square _ c.if-branch.false c.in_ok-accept.ensures in
    gives (seen_as (renamed n.0 >> item_begins square _ _ _ _ _ k _ refl (still n.0 n.1) >> (c.in_ok-first.ensures.reads d _).comes _ refl >> member_ends _ _ _ _ _ _ _ _ _ >> goes (read_it _ _ keyword_for _ c.if-branch-2.true c.in_ok-accept-2.ensures) refl refl >> (c.in_ok-over.ensures.reads d square _ _ k refl).comes _ refl) (c.in_ok-list_comprehension.ensures ∙ comprehension_span _ _ _ _ c.since-span.ensures))

pub atoms::list-returns-in_err-members-clause-reads : goal.atoms::list-returns-in_err-members-clause-reads
atoms::list-returns-in_err-members-clause-reads g met c d k =
    let n = left_it _ _ closing_square _ c.if-branch.false c.in_ok-accept.ensures in
    let m = left_it _ _ keyword_for _ c.if-branch-2.false c.in_ok-accept-2.ensures in
    exits (search rules) (wanted_from _ (renamed n.0 >> item_begins square _ _ _ _ _ k _ refl (still n.0 n.1) >> (c.in_ok-first.ensures.reads d _).comes _ refl >> member_ends _ _ _ _ _ _ _ _ _ >> renamed m.0 >> goes (read_it _ _ comma _ c.if-branch-3.true c.in_ok-accept-3.ensures) refl refl) c.begin-begin.ensures) (c.in_err-members.ensures.reads d square _ k refl refl)

pub atoms::list-returns-then-branch-3-clause-reads : goal.atoms::list-returns-then-branch-3-clause-reads
atoms::list-returns-then-branch-3-clause-reads g met c d k =
    let n = left_it _ _ closing_square _ c.if-branch.false c.in_ok-accept.ensures in
    let m = left_it _ _ keyword_for _ c.if-branch-2.false c.in_ok-accept-2.ensures in
    gives (seen_as (wanted_from _ (renamed n.0 >> item_begins square _ _ _ _ _ k _ refl (still n.0 n.1) >> (c.in_ok-first.ensures.reads d _).comes _ refl >> member_ends _ _ _ _ _ _ _ _ _ >> renamed m.0 >> goes (read_it _ _ comma _ c.if-branch-3.true c.in_ok-accept-3.ensures) refl refl) c.begin-begin.ensures >> (c.in_ok-members.ensures.reads d square _ k refl refl).comes _ refl) (c.list-then-branch-3.ensures ∙ list_span _ _ _ c.since-then-branch-3.ensures))

pub atoms::list-returns-in_err-expect-clause-reads : goal.atoms::list-returns-in_err-expect-clause-reads
atoms::list-returns-in_err-expect-clause-reads g met c d k =
    let n = left_it _ _ closing_square _ c.if-branch.false c.in_ok-accept.ensures in
    let m = left_it _ _ keyword_for _ c.if-branch-2.false c.in_ok-accept-2.ensures in
    let l = left_it _ _ comma _ c.if-branch-3.false c.in_ok-accept-3.ensures in
    missing (search rules) c.in_err-expect.ensures.unread c.in_err-expect.ensures.no_rule (λ h. sticks (renamed n.0 >> item_begins square _ _ _ _ _ k _ refl (still n.0 n.1) >> (c.in_ok-first.ensures.reads d _).comes _ refl >> member_ends _ _ _ _ _ _ _ _ _) (stays_there (h.0 ∙ l.0 ∙ m.0) (no_member_end (brackets square _) _ _ _ k _ (refl, refl) (before m.0 l.1) (before m.0 (before l.0 h.1)) (inr m.1))))

pub atoms::list-returns-clause-reads : goal.atoms::list-returns-clause-reads
atoms::list-returns-clause-reads g met c d k =
    let n = left_it _ _ closing_square _ c.if-branch.false c.in_ok-accept.ensures in
    let m = left_it _ _ keyword_for _ c.if-branch-2.false c.in_ok-accept-2.ensures in
    let l = left_it _ _ comma _ c.if-branch-3.false c.in_ok-accept-3.ensures in
    gives (seen_as (renamed n.0 >> item_begins square _ _ _ _ _ k _ refl (still n.0 n.1) >> (c.in_ok-first.ensures.reads d _).comes _ refl >> member_ends _ _ _ _ _ _ _ _ _ >> renamed m.0 >> renamed l.0 >> closes_read square _ _ _ _ k _ _ _ refl c.in_ok-expect.ensures.read) (c.list-2.ensures ∙ ap₂ tree.list (ap (items_of g.B.Make.means) c.in_ok-only.ensures) c.since-2.ensures))

pub atoms::dict-returns-then-branch-clause-reads : goal.atoms::dict-returns-then-branch-clause-reads
atoms::dict-returns-then-branch-clause-reads g met c d k = gives (seen_as (closes_wanted curly _ _ _ _ _ k _ _ _ refl (read_it _ _ closing_curly _ c.if-branch.true c.in_ok-accept.ensures)) (c.dict.ensures ∙ ap₂ tree.dict (ap (pairs_of g.B.Make.means) c.new-none.ensures.items) c.since.ensures))

pub atoms::dict-returns-in_err-first-clause-reads : goal.atoms::dict-returns-in_err-first-clause-reads
atoms::dict-returns-in_err-first-clause-reads g met c d k =
    let n = left_it _ _ closing_curly _ c.if-branch.false c.in_ok-accept.ensures in
    exits (search rules) (renamed n.0) (c.in_err-first.ensures.reads d _ _ _ _ _ k (still n.0 n.1))

pub atoms::dict-returns-in_err-over-clause-reads : goal.atoms::dict-returns-in_err-over-clause-reads
atoms::dict-returns-in_err-over-clause-reads g met c d k =
    let n = left_it _ _ closing_curly _ c.if-branch.false c.in_ok-accept.ensures in
    exits (search rules) (renamed n.0 >> (c.in_ok-first.ensures.reads d _ _ _ _ _ k (still n.0 n.1)).comes _ refl >> goes (read_it _ _ keyword_for _ c.if-branch-2.true c.in_ok-accept-2.ensures) refl refl) (c.in_err-over.ensures.reads d curly _ _ k refl)

pub atoms::dict-returns-then-branch-2-clause-reads : goal.atoms::dict-returns-then-branch-2-clause-reads
atoms::dict-returns-then-branch-2-clause-reads g met c d k =
    let n = left_it _ _ closing_curly _ c.if-branch.false c.in_ok-accept.ensures in
    gives (seen_as (renamed n.0 >> (c.in_ok-first.ensures.reads d _ _ _ _ _ k (still n.0 n.1)).comes _ refl >> goes (read_it _ _ keyword_for _ c.if-branch-2.true c.in_ok-accept-2.ensures) refl refl >> (c.in_ok-over.ensures.reads d curly _ _ k refl).comes _ refl) (c.in_ok-dict_comprehension.ensures ∙ comprehension_span _ _ _ _ c.since-span.ensures))

pub atoms::dict-returns-in_err-members-clause-reads : goal.atoms::dict-returns-in_err-members-clause-reads
atoms::dict-returns-in_err-members-clause-reads g met c d k =
    let n = left_it _ _ closing_curly _ c.if-branch.false c.in_ok-accept.ensures in
    let m = left_it _ _ keyword_for _ c.if-branch-2.false c.in_ok-accept-2.ensures in
    exits (search rules) (renamed n.0 >> (c.in_ok-first.ensures.reads d _ _ _ _ _ k (still n.0 n.1)).comes _ refl >> renamed m.0 >> goes (read_it _ _ comma _ c.if-branch-3.true c.in_ok-accept-3.ensures) refl refl) (c.in_err-members.ensures.reads d _ _ k)

pub atoms::dict-returns-then-branch-3-clause-reads : goal.atoms::dict-returns-then-branch-3-clause-reads
atoms::dict-returns-then-branch-3-clause-reads g met c d k =
    let n = left_it _ _ closing_curly _ c.if-branch.false c.in_ok-accept.ensures in
    let m = left_it _ _ keyword_for _ c.if-branch-2.false c.in_ok-accept-2.ensures in
    gives (seen_as (renamed n.0 >> (c.in_ok-first.ensures.reads d _ _ _ _ _ k (still n.0 n.1)).comes _ refl >> renamed m.0 >> goes (read_it _ _ comma _ c.if-branch-3.true c.in_ok-accept-3.ensures) refl refl >> (c.in_ok-members.ensures.reads d _ _ k).comes _ refl) (c.dict-then-branch-3.ensures ∙ dict_span _ _ _ c.since-then-branch-3.ensures))

pub atoms::dict-returns-in_err-expect-clause-reads : goal.atoms::dict-returns-in_err-expect-clause-reads
atoms::dict-returns-in_err-expect-clause-reads g met c d k =
    let n = left_it _ _ closing_curly _ c.if-branch.false c.in_ok-accept.ensures in
    let m = left_it _ _ keyword_for _ c.if-branch-2.false c.in_ok-accept-2.ensures in
    let l = left_it _ _ comma _ c.if-branch-3.false c.in_ok-accept-3.ensures in
    missing (search rules) c.in_err-expect.ensures.unread c.in_err-expect.ensures.no_rule (λ h. sticks (renamed n.0 >> (c.in_ok-first.ensures.reads d _ _ _ _ _ k (still n.0 n.1)).comes _ refl) (stays_there (h.0 ∙ l.0 ∙ m.0) (no_member_end (brackets curly _) _ _ _ k _ (refl, refl) (before m.0 l.1) (before m.0 (before l.0 h.1)) (inr m.1))))

pub atoms::dict-returns-clause-reads : goal.atoms::dict-returns-clause-reads
atoms::dict-returns-clause-reads g met c d k =
    let n = left_it _ _ closing_curly _ c.if-branch.false c.in_ok-accept.ensures in
    let m = left_it _ _ keyword_for _ c.if-branch-2.false c.in_ok-accept-2.ensures in
    let l = left_it _ _ comma _ c.if-branch-3.false c.in_ok-accept-3.ensures in
    gives (seen_as (renamed n.0 >> (c.in_ok-first.ensures.reads d _ _ _ _ _ k (still n.0 n.1)).comes _ refl >> renamed m.0 >> renamed l.0 >> closes_read curly _ _ _ _ k _ _ _ refl c.in_ok-expect.ensures.read) (c.dict-2.ensures ∙ ap₂ tree.dict (ap (pairs_of g.B.Make.means) c.in_ok-only.ensures) c.since-2.ensures))

pub brackets::members_behind-loop-members-init : goal.brackets::members_behind-loop-members-init
brackets::members_behind-loop-members-init g met c =
    let one : items_of g.B.Make.means c.in_ok-members.members.items ≡ tree.more tree.none (tree.item (g.B.Make.means c.args.first)) = ap (items_of g.B.Make.means) c.in_ok-members.ensures in
    record {
      reads = λ d p b k h q. wanted_as _ begins one;
      filled = λ e. absurd (let w : tree.more tree.none (tree.item (g.B.Make.means c.args.first)) ≡ tree.none = sym one ∙ e in (cc));
      shorter = omega arith;
    }

pub brackets::members_behind-returns-then-branch-clause-reads : goal.brackets::members_behind-returns-then-branch-clause-reads
brackets::members_behind-returns-then-branch-clause-reads g met c d p b k h q = gives (seen_as (c.loop-members.invariant.reads d p b k h q >> closes_wanted p b _ _ _ _ k _ _ _ q (read_it _ _ _ _ c.if-branch.true c.in_ok-accept.ensures)) (ap (gathered p _ _) c.since-span.ensures ∙ sym (gathers_wanted p _ _ _ h c.loop-members.invariant.filled)))

pub brackets::members_behind-returns-in_err-next-clause-reads : goal.brackets::members_behind-returns-in_err-next-clause-reads
brackets::members_behind-returns-in_err-next-clause-reads g met c d p b k h q =
    let n = left_it _ _ _ _ c.if-branch.false c.in_ok-accept.ensures in
    exits (search rules) (c.loop-members.invariant.reads d p b k h q >> renamed n.0 >> item_begins p b _ _ _ _ k _ h (λ e. still n.0 n.1 (e ∙ ap Some (sym q)))) (c.in_err-next.ensures.reads d _)

pub brackets::members_behind-returns-in_err-expect-clause-reads : goal.brackets::members_behind-returns-in_err-expect-clause-reads
brackets::members_behind-returns-in_err-expect-clause-reads g met c d p b k h q =
    let n = left_it _ _ _ _ c.if-branch.false c.in_ok-accept.ensures in
    let m = left_it _ _ comma _ c.if-not-branch.true c.in_ok-accept-2.ensures in
    missing (search rules) c.in_err-expect.ensures.unread c.in_err-expect.ensures.no_rule (λ w. sticks (c.loop-members.invariant.reads d p b k h q >> renamed n.0 >> item_begins p b _ _ _ _ k _ h (λ e. still n.0 n.1 (e ∙ ap Some (sym q))) >> (c.in_ok-next.ensures.reads d _).comes _ refl >> member_ends _ _ _ _ _ _ _ _ _) (stays_there (w.0 ∙ m.0) (no_member_end (brackets p b) _ _ _ k _ (plain_close p) m.1 (λ e. before m.0 w.1 (e ∙ ap Some (sym q))) (inl (many_clause p b _ _ c.loop-members.invariant.filled)))))

pub brackets::members_behind-returns-then-not-branch-clause-reads : goal.brackets::members_behind-returns-then-not-branch-clause-reads
brackets::members_behind-returns-then-not-branch-clause-reads g met c d p b k h q =
    let n = left_it _ _ _ _ c.if-branch.false c.in_ok-accept.ensures in
    let m = left_it _ _ comma _ c.if-not-branch.true c.in_ok-accept-2.ensures in
    let one : items_of g.B.Make.means c.push.new.list.items ≡ tree.more (items_of g.B.Make.means c.loop-members.members.items) (tree.item (g.B.Make.means c.in_ok-next.next)) = ap (items_of g.B.Make.means) c.in_ok-push.ensures.items ∙ one_more (λ x. tree.item (g.B.Make.means x)) c.loop-members.members.items c.in_ok-next.next in
    gives (seen_as (read_as _ _ (c.loop-members.invariant.reads d p b k h q >> renamed n.0 >> item_begins p b _ _ _ _ k _ h (λ e. still n.0 n.1 (e ∙ ap Some (sym q))) >> (c.in_ok-next.ensures.reads d _).comes _ refl >> member_ends _ _ _ _ _ _ _ _ _) one (sym (first_kept _ _ _ c.loop-members.invariant.filled)) >> renamed m.0 >> closes_read p b _ _ _ k _ _ _ q c.in_ok-expect.ensures.read) (ap (gathered p _ _) c.since-span-in-loop-members.ensures ∙ sym (gathers_read_as p _ _ _ _ _ one c.loop-members.invariant.filled)))

pub brackets::members_behind-loop-members-preserved : goal.brackets::members_behind-loop-members-preserved
brackets::members_behind-loop-members-preserved g met c =
    let n = left_it _ _ _ _ c.if-branch.false c.in_ok-accept.ensures in
    let m = read_it _ _ comma _ c.if-not-branch.false c.in_ok-accept-2.ensures in
    let one : items_of g.B.Make.means c.push.new.list.items ≡ tree.more (items_of g.B.Make.means c.loop-members.members.items) (tree.item (g.B.Make.means c.in_ok-next.next)) = ap (items_of g.B.Make.means) c.in_ok-push.ensures.items ∙ one_more (λ x. tree.item (g.B.Make.means x)) c.loop-members.members.items c.in_ok-next.next in
    record {
      reads = λ d p b k h q. read_as _ _ (c.loop-members.invariant.reads d p b k h q >> renamed n.0 >> item_begins p b _ _ _ _ k _ h (λ e. still n.0 n.1 (e ∙ ap Some (sym q))) >> (c.in_ok-next.ensures.reads d _).comes _ refl >> member_ends _ _ _ _ _ _ _ _ _) one (sym (first_kept _ _ _ c.loop-members.invariant.filled)) >> goes m refl refl;
      filled = λ e. absurd (let w : tree.more (items_of g.B.Make.means c.loop-members.members.items) (tree.item (g.B.Make.means c.in_ok-next.next)) ≡ tree.none = sym one ∙ e in (cc));
      shorter = omega (arith, c.loop-members.invariant.shorter, ap (λ z. length z.items) n.0, c.in_ok-next.ensures.shorter, ap length m.items);
    }

pub brackets::pair-returns-in_err-key-clause-reads : goal.brackets::pair-returns-in_err-key-clause-reads
brackets::pair-returns-in_err-key-clause-reads g met c d b ms t e f k n = exits (search rules) (key_begins b ms t e f k _ n) (c.in_err-key.ensures.reads d _)

pub brackets::pair-returns-in_err-expect-clause-reads : goal.brackets::pair-returns-in_err-expect-clause-reads
brackets::pair-returns-in_err-expect-clause-reads g met c d b ms t e f k n = missing (search rules) c.in_err-expect.ensures.unread c.in_err-expect.ensures.no_rule (λ h. sticks (key_begins b ms t e f k _ n >> (c.in_ok-key.ensures.reads d _).comes _ refl >> key_ends _ _ _ _ _ _ _ _) (stays_there h.0 (no_colon _ _ _ _ _ _ _ h.1)))

pub brackets::pair-returns-in_err-value-clause-reads : goal.brackets::pair-returns-in_err-value-clause-reads
brackets::pair-returns-in_err-value-clause-reads g met c d b ms t e f k n = exits (search rules) (key_begins b ms t e f k _ n >> (c.in_ok-key.ensures.reads d _).comes _ refl >> key_ends _ _ _ _ _ _ _ _ >> goes c.in_ok-expect.ensures.read refl refl) (c.in_err-value.ensures.reads d _)

pub brackets::pair-returns-clause-reads : goal.brackets::pair-returns-clause-reads
brackets::pair-returns-clause-reads g met c d b ms t e f k n = gives (key_begins b ms t e f k _ n >> (c.in_ok-key.ensures.reads d _).comes _ refl >> key_ends _ _ _ _ _ _ _ _ >> goes c.in_ok-expect.ensures.read refl refl >> (c.in_ok-value.ensures.reads d _).comes _ refl >> member_ends _ _ _ _ _ _ _ _ _)

pub brackets::pairs_behind-loop-members-init : goal.brackets::pairs_behind-loop-members-init
brackets::pairs_behind-loop-members-init g met c =
    let one : pairs_of g.B.Make.means c.in_ok-members.members.items ≡ tree.more tree.none (tree.pair (g.B.Make.means c.args.first.0) (g.B.Make.means c.args.first.1)) = ap (pairs_of g.B.Make.means) c.in_ok-members.ensures in
    record {
      reads = λ d b f k. wanted_as _ begins one;
      filled = λ e. absurd (let w : tree.more tree.none (tree.pair (g.B.Make.means c.args.first.0) (g.B.Make.means c.args.first.1)) ≡ tree.none = sym one ∙ e in (cc));
      shorter = omega arith;
    }

pub brackets::pairs_behind-returns-then-branch-clause-reads : goal.brackets::pairs_behind-returns-then-branch-clause-reads
brackets::pairs_behind-returns-then-branch-clause-reads g met c d b f k = gives (c.loop-members.invariant.reads d b f k >> closes_wanted curly b _ _ _ _ k _ _ _ refl (read_it _ _ closing_curly _ c.if-branch.true c.in_ok-accept.ensures))

pub brackets::pairs_behind-returns-in_err-next-clause-reads : goal.brackets::pairs_behind-returns-in_err-next-clause-reads
brackets::pairs_behind-returns-in_err-next-clause-reads g met c d b f k =
    let n = left_it _ _ closing_curly _ c.if-branch.false c.in_ok-accept.ensures in
    exits (search rules) (c.loop-members.invariant.reads d b f k >> renamed n.0) (c.in_err-next.ensures.reads d _ _ _ _ _ k (still n.0 n.1))

pub brackets::pairs_behind-returns-in_err-expect-clause-reads : goal.brackets::pairs_behind-returns-in_err-expect-clause-reads
brackets::pairs_behind-returns-in_err-expect-clause-reads g met c d b f k =
    let n = left_it _ _ closing_curly _ c.if-branch.false c.in_ok-accept.ensures in
    let m = left_it _ _ comma _ c.if-not-branch.true c.in_ok-accept-2.ensures in
    missing (search rules) c.in_err-expect.ensures.unread c.in_err-expect.ensures.no_rule (λ h. sticks (c.loop-members.invariant.reads d b f k >> renamed n.0 >> (c.in_ok-next.ensures.reads d _ _ _ _ _ k (still n.0 n.1)).comes _ refl) (stays_there (h.0 ∙ m.0) (no_member_end (brackets curly b) _ _ _ k _ (refl, refl) m.1 (before m.0 h.1) (inl (many_clause curly b _ _ c.loop-members.invariant.filled)))))

pub brackets::pairs_behind-returns-then-not-branch-clause-reads : goal.brackets::pairs_behind-returns-then-not-branch-clause-reads
brackets::pairs_behind-returns-then-not-branch-clause-reads g met c d b f k =
    let n = left_it _ _ closing_curly _ c.if-branch.false c.in_ok-accept.ensures in
    let m = left_it _ _ comma _ c.if-not-branch.true c.in_ok-accept-2.ensures in
    let one : pairs_of g.B.Make.means c.push.new.list.items ≡ tree.more (pairs_of g.B.Make.means c.loop-members.members.items) (tree.pair (g.B.Make.means c.in_ok-next.next.0) (g.B.Make.means c.in_ok-next.next.1)) = ap (pairs_of g.B.Make.means) c.in_ok-push.ensures.items ∙ one_more (λ x. tree.pair (g.B.Make.means x.0) (g.B.Make.means x.1)) c.loop-members.members.items c.in_ok-next.next in
    gives (read_as _ _ (c.loop-members.invariant.reads d b f k >> renamed n.0 >> (c.in_ok-next.ensures.reads d _ _ _ _ _ k (still n.0 n.1)).comes _ refl) one (sym (first_kept _ _ _ c.loop-members.invariant.filled)) >> renamed m.0 >> closes_read curly b _ _ _ k _ _ _ refl c.in_ok-expect.ensures.read)

pub brackets::pairs_behind-loop-members-preserved : goal.brackets::pairs_behind-loop-members-preserved
brackets::pairs_behind-loop-members-preserved g met c =
    let n = left_it _ _ closing_curly _ c.if-branch.false c.in_ok-accept.ensures in
    let m = read_it _ _ comma _ c.if-not-branch.false c.in_ok-accept-2.ensures in
    let one : pairs_of g.B.Make.means c.push.new.list.items ≡ tree.more (pairs_of g.B.Make.means c.loop-members.members.items) (tree.pair (g.B.Make.means c.in_ok-next.next.0) (g.B.Make.means c.in_ok-next.next.1)) = ap (pairs_of g.B.Make.means) c.in_ok-push.ensures.items ∙ one_more (λ x. tree.pair (g.B.Make.means x.0) (g.B.Make.means x.1)) c.loop-members.members.items c.in_ok-next.next in
    record {
      reads = λ d b f k. read_as _ _ (c.loop-members.invariant.reads d b f k >> renamed n.0 >> (c.in_ok-next.ensures.reads d _ _ _ _ _ k (still n.0 n.1)).comes _ refl) one (sym (first_kept _ _ _ c.loop-members.invariant.filled)) >> goes m refl refl;
      filled = λ e. absurd (let w : tree.more (pairs_of g.B.Make.means c.loop-members.members.items) (tree.pair (g.B.Make.means c.in_ok-next.next.0) (g.B.Make.means c.in_ok-next.next.1)) ≡ tree.none = sym one ∙ e in (cc));
      shorter = omega (arith, c.loop-members.invariant.shorter, ap (λ z. length z.items) n.0, c.in_ok-next.ensures.shorter, ap length m.items);
    }

pub comprehension::clauses-returns-in_err-first-clause-reads : goal.comprehension::clauses-returns-in_err-first-clause-reads
comprehension::clauses-returns-in_err-first-clause-reads g met c d p b m k q = exits (search rules) begins (c.in_err-first.ensures.reads d p b m tree.no_clauses k)

pub comprehension::clauses-loop-rest-init : goal.comprehension::clauses-loop-rest-init
comprehension::clauses-loop-rest-init g met c = record {
  reads = λ d p b m k. clauses_as _ ((c.in_ok-first.ensures.reads d p b m tree.no_clauses k).comes _ refl) (ap (clauses_of (g.B.Make.clause_means c.in_ok-first.first) g.B.Make.clause_means) c.new-rest.ensures.items);
  shorter = c.in_ok-first.ensures.shorter;
}

pub comprehension::clauses-returns-in_err-next-clause-reads : goal.comprehension::clauses-returns-in_err-next-clause-reads
comprehension::clauses-returns-in_err-next-clause-reads g met c d p b m k q = exits (search rules) (c.loop-rest.invariant.reads d p b m k >> goes (read_it _ _ keyword_for _ c.if-branch.true c.in_ok-accept.ensures) refl refl) (c.in_err-next.ensures.reads d p b m _ k)

pub comprehension::clauses-returns-in_err-condition-clause-reads : goal.comprehension::clauses-returns-in_err-condition-clause-reads
comprehension::clauses-returns-in_err-condition-clause-reads g met c d p b m k q =
    let a = left_it _ _ keyword_for _ c.if-branch.false c.in_ok-accept.ensures in
    exits (search rules) (c.loop-rest.invariant.reads d p b m k >> renamed a.0 >> goes (read_it _ _ keyword_if _ c.if-branch-2.true c.in_ok-accept-2.ensures) refl refl) (c.in_err-condition.ensures.reads d _)

pub comprehension::clauses-returns-in_err-expect-clause-reads : goal.comprehension::clauses-returns-in_err-expect-clause-reads
comprehension::clauses-returns-in_err-expect-clause-reads g met c d p b m k q =
    let a = left_it _ _ keyword_for _ c.if-branch.false c.in_ok-accept.ensures in
    let i = left_it _ _ keyword_if _ c.if-branch-2.false c.in_ok-accept-2.ensures in
    missing (search rules) c.in_err-expect.ensures.unread c.in_err-expect.ensures.no_rule (λ h. sticks (c.loop-rest.invariant.reads d p b m k) (stays_there (h.0 ∙ i.0 ∙ a.0) (no_clause p b m _ k _ a.1 (before a.0 i.1) (λ e. before a.0 (before i.0 h.1) (e ∙ ap Some (sym q))))))

pub comprehension::clauses-returns-else-branch-2-clause-reads : goal.comprehension::clauses-returns-else-branch-2-clause-reads
comprehension::clauses-returns-else-branch-2-clause-reads g met c d p b m k q =
    let a = left_it _ _ keyword_for _ c.if-branch.false c.in_ok-accept.ensures in
    let i = left_it _ _ keyword_if _ c.if-branch-2.false c.in_ok-accept-2.ensures in
    gives (c.loop-rest.invariant.reads d p b m k >> renamed a.0 >> renamed i.0 >> clauses_close p b m _ k _ _ _ q c.in_ok-expect.ensures.read)

pub comprehension::clauses-loop-rest-preserved-in-Continue-branch-4 : goal.comprehension::clauses-loop-rest-preserved-in-Continue-branch-4
comprehension::clauses-loop-rest-preserved-in-Continue-branch-4 g met c =
    let p = read_it _ _ keyword_for _ c.if-branch.true c.in_ok-accept.ensures in
    let one : clauses_of (g.B.Make.clause_means c.in_ok-first.first) g.B.Make.clause_means c.push.new.list.items ≡ tree.and_clause (clauses_of (g.B.Make.clause_means c.in_ok-first.first) g.B.Make.clause_means c.loop-rest.rest.items) (g.B.Make.clause_means c.in_ok-next.next) = ap (clauses_of (g.B.Make.clause_means c.in_ok-first.first) g.B.Make.clause_means) c.in_ok-push.ensures.items ∙ clause_more (g.B.Make.clause_means c.in_ok-first.first) g.B.Make.clause_means c.loop-rest.rest.items c.in_ok-next.next in
    record {
      reads = λ d p' b m k. clauses_as _ (c.loop-rest.invariant.reads d p' b m k >> goes p refl refl >> (c.in_ok-next.ensures.reads d p' b m _ k).comes _ refl) one;
      shorter = omega (arith, c.loop-rest.invariant.shorter, ap length p.items, c.in_ok-next.ensures.shorter);
    }

pub comprehension::clauses-loop-rest-preserved : goal.comprehension::clauses-loop-rest-preserved
comprehension::clauses-loop-rest-preserved g met c =
    let a = left_it _ _ keyword_for _ c.if-branch.false c.in_ok-accept.ensures in
    let p = read_it _ _ keyword_if _ c.if-branch-2.true c.in_ok-accept-2.ensures in
    let one : clauses_of (g.B.Make.clause_means c.in_ok-first.first) g.B.Make.clause_means c.push-then-branch-2.new.list.items ≡ tree.and_clause (clauses_of (g.B.Make.clause_means c.in_ok-first.first) g.B.Make.clause_means c.loop-rest.rest.items) (tree.if_clause (g.B.Make.means c.in_ok-condition.condition)) = ap (clauses_of (g.B.Make.clause_means c.in_ok-first.first) g.B.Make.clause_means) c.in_ok-push-2.ensures.items ∙ clause_more (g.B.Make.clause_means c.in_ok-first.first) g.B.Make.clause_means c.loop-rest.rest.items c.if_clause.result ∙ ap (tree.and_clause (clauses_of (g.B.Make.clause_means c.in_ok-first.first) g.B.Make.clause_means c.loop-rest.rest.items)) c.if_clause.ensures in
    record {
      reads = λ d p' b m k. clauses_as _ (c.loop-rest.invariant.reads d p' b m k >> renamed a.0 >> goes p refl refl >> (c.in_ok-condition.ensures.reads d _).comes _ refl >> filter_ends _ _ _ _ _ _ _ _) one;
      shorter = omega (arith, c.loop-rest.invariant.shorter, ap (λ z. length z.items) a.0, ap length p.items, c.in_ok-condition.ensures.shorter);
    }

pub comprehension::for_clause-returns-in_err-targets-clause-reads : goal.comprehension::for_clause-returns-in_err-targets-clause-reads
comprehension::for_clause-returns-in_err-targets-clause-reads g met c d p b m cs k = exits (search rules) begins (c.in_err-targets.ensures.reads d (in_clause p b m cs k) refl)

pub comprehension::for_clause-returns-in_err-expect-clause-reads : goal.comprehension::for_clause-returns-in_err-expect-clause-reads
comprehension::for_clause-returns-in_err-expect-clause-reads g met c d p b m cs k = missing (search rules) c.in_err-expect.ensures.unread c.in_err-expect.ensures.no_rule (λ h. sticks ((c.in_ok-targets.ensures.reads d (in_clause p b m cs k) refl).comes _ refl) (stays_there h.0 (no_in p b m cs _ _ _ k _ c.in_ok-targets.ensures.ends h.1)))

pub comprehension::for_clause-returns-in_err-over-clause-reads : goal.comprehension::for_clause-returns-in_err-over-clause-reads
comprehension::for_clause-returns-in_err-over-clause-reads g met c d p b m cs k = exits (search rules) ((c.in_ok-targets.ensures.reads d (in_clause p b m cs k) refl).comes _ refl >> in_follows p b m cs _ _ _ k _ _ c.in_ok-expect.ensures.read) (c.in_err-over.ensures.reads d _)

pub comprehension::for_clause-returns-in-Some-clause-reads : goal.comprehension::for_clause-returns-in-Some-clause-reads
comprehension::for_clause-returns-in-Some-clause-reads g met c d p b m cs k = halts c.stop.ensures.broken c.stop.ensures.kept (answers ((c.in_ok-targets.ensures.reads d (in_clause p b m cs k) refl).comes _ refl >> in_follows p b m cs _ _ _ k _ _ c.in_ok-expect.ensures.read >> (c.in_ok-over.ensures.reads d _).comes _ refl) (over_broken p b m cs _ _ _ k _ _ _ c.in-Some.is c.target_fault.ensures))

pub comprehension::for_clause-returns-clause-reads : goal.comprehension::for_clause-returns-clause-reads
comprehension::for_clause-returns-clause-reads g met c d p b m cs k = gives (state_is ((c.in_ok-targets.ensures.reads d (in_clause p b m cs k) refl).comes _ refl >> in_follows p b m cs _ _ _ k _ _ c.in_ok-expect.ensures.read >> (c.in_ok-over.ensures.reads d _).comes _ refl >> over_ends p b m cs _ _ _ k _ (right_target (g.B.Make.means c.in_ok-targets.targets) _ c.in_default.is c.target_fault.ensures)) (ap (λ z. stands (clauses_read p b m (tree.and_clause cs z)) k) (sym c.in_ok-for_clause.ensures)))

pub comprehension::for_clause-returns-clause-over : goal.comprehension::for_clause-returns-clause-over
comprehension::for_clause-returns-clause-over g met c = ap goes_over c.in_ok-for_clause.ensures

pub listed::listed-returns-in_err-first-clause-reads : goal.listed::listed-returns-in_err-first-clause-reads
listed::listed-returns-in_err-first-clause-reads g met c d k h = exits (search rules) (list_begins k _ _ h) (c.in_err-first.ensures.reads d _)

pub listed::listed-returns-clause-reads : goal.listed::listed-returns-clause-reads
listed::listed-returns-clause-reads g met c d k h = behind_it (list_begins k _ _ h >> (c.in_ok-first.ensures.reads d _).comes _ refl) (listed_from k g.B.Make.means _ _ _ _ c.begin-begin.ensures (c.listed_behind.ensures.reads d k h))

pub listed::listed_behind-expression-requires : goal.listed::listed_behind-expression-requires
listed::listed_behind-expression-requires g met c = λ κs x. (omega (arith, c.loop-begin.invariant.shorter), (x.0, (x.1.0, (x.1.1.0, (x.1.1.1.0, (x.1.1.1.1, c.requires))))))

pub listed::listed_behind-loop-begin-init : goal.listed::listed_behind-loop-begin-init
listed::listed_behind-loop-begin-init g met c =
    let p = read_it _ _ comma _ c.if-not-branch.false c.in_ok-accept.ensures in
    let one : items_of g.B.Make.means c.in_ok-members.members.items ≡ tree.more tree.none (tree.item (g.B.Make.means c.args.first)) = ap (items_of g.B.Make.means) c.in_ok-members.ensures in
    record {
      reads = λ d k h. list_comma_as k tree.none _ _ _ _ _ _ one p;
      filled = λ e. absurd (let w : tree.more tree.none (tree.item (g.B.Make.means c.args.first)) ≡ tree.none = sym one ∙ e in (cc));
      shorter = omega (arith, ap length p.items);
    }

pub listed::listed_behind-returns-then-not-begins_test-clause-reads : goal.listed::listed_behind-returns-then-not-begins_test-clause-reads
listed::listed_behind-returns-then-not-begins_test-clause-reads g met c d k h = halts c.stop.ensures.broken c.stop.ensures.kept (answers (c.loop-begin.invariant.reads d k h) (list_broken_with k _ _ _ _ _ c.since-span.ensures c.loop-begin.invariant.filled (sym c.if-not-begins_test.ensures)))

pub listed::listed_behind-returns-in_err-next-clause-reads : goal.listed::listed_behind-returns-in_err-next-clause-reads
listed::listed_behind-returns-in_err-next-clause-reads g met c d k h = exits (search rules) (c.loop-begin.invariant.reads d k h >> list_goes_on_with k _ _ _ _ _ c.loop-begin.invariant.filled h (sym c.if-not-begins_test.ensures)) (c.in_err-next.ensures.reads d _)

pub listed::listed_behind-returns-then-not-branch-2-clause-reads : goal.listed::listed_behind-returns-then-not-branch-2-clause-reads
listed::listed_behind-returns-then-not-branch-2-clause-reads g met c d k h =
    let n = left_it _ _ comma _ c.if-not-branch-2.true c.in_ok-accept-2.ensures in
    let one : items_of g.B.Make.means c.push.new.list.items ≡ tree.more (items_of g.B.Make.means c.loop-begin.members.items) (tree.item (g.B.Make.means c.in_ok-next.next)) = ap (items_of g.B.Make.means) c.in_ok-push.ensures.items ∙ one_more (λ x. tree.item (g.B.Make.means x)) c.loop-begin.members.items c.in_ok-next.next in
    gives (c.loop-begin.invariant.reads d k h >> list_goes_on_with k _ _ _ _ _ c.loop-begin.invariant.filled h (sym c.if-not-begins_test.ensures) >> (c.in_ok-next.ensures.reads d _).comes _ refl >> list_forgets k _ _ _ _ _ _ >> list_is k _ _ _ _ c.loop-begin.invariant.filled n (c.tuple.ensures ∙ ap₂ tree.tuple one c.since-span-in-loop-begin.ensures))

pub listed::listed_behind-loop-begin-preserved : goal.listed::listed_behind-loop-begin-preserved
listed::listed_behind-loop-begin-preserved g met c =
    let p = read_it _ _ comma _ c.if-not-branch-2.false c.in_ok-accept-2.ensures in
    let one : items_of g.B.Make.means c.push.new.list.items ≡ tree.more (items_of g.B.Make.means c.loop-begin.members.items) (tree.item (g.B.Make.means c.in_ok-next.next)) = ap (items_of g.B.Make.means) c.in_ok-push.ensures.items ∙ one_more (λ x. tree.item (g.B.Make.means x)) c.loop-begin.members.items c.in_ok-next.next in
    record {
      reads = λ d k h. c.loop-begin.invariant.reads d k h >> list_goes_on_with k _ _ _ _ _ c.loop-begin.invariant.filled h (sym c.if-not-begins_test.ensures) >> (c.in_ok-next.ensures.reads d _).comes _ refl >> list_forgets k _ _ _ _ _ _ >> list_comma_as k _ _ _ _ _ _ _ one p;
      filled = λ e. absurd (let w : tree.more (items_of g.B.Make.means c.loop-begin.members.items) (tree.item (g.B.Make.means c.in_ok-next.next)) ≡ tree.none = sym one ∙ e in (cc));
      shorter = omega (arith, c.loop-begin.invariant.shorter, c.in_ok-next.ensures.shorter, ap length p.items);
    }

pub f_string::f_string-returns-then-branch-clause-reads : goal.f_string::f_string-returns-then-branch-clause-reads
f_string::f_string-returns-then-branch-clause-reads g met c d k = gives (seen_as (c.loop-fields.invariant.reads d k >> string_ends _ _ _ k _ _ (read_it _ _ fstring_end _ c.if-branch.true c.in_ok-accept.ensures)) (c.f_string.ensures ∙ string_span _ _ _ _ c.since.ensures))

pub f_string::f_string-returns-in_err-expect-clause-reads : goal.f_string::f_string-returns-in_err-expect-clause-reads
f_string::f_string-returns-in_err-expect-clause-reads g met c d k =
    let a = left_it _ _ fstring_end _ c.if-branch.false c.in_ok-accept.ensures in
    let t = found_false _ _ _ c.if-not-branch.true c.in_ok-text.ensures.reads in
    missing (search rules) c.in_err-expect.ensures.unread c.in_err-expect.ensures.no_rule (λ h. sticks (c.loop-fields.invariant.reads d k) (stays_there (h.0 ∙ t.0 ∙ a.0) (no_piece _ _ _ k _ (ap (λ z. text_ahead z.items) (sym a.0) ∙ t.2) (before a.0 (before t.0 h.1)) a.1)))

pub f_string::f_string-returns-in_err-next-clause-reads : goal.f_string::f_string-returns-in_err-next-clause-reads
f_string::f_string-returns-in_err-next-clause-reads g met c d k =
    let a = left_it _ _ fstring_end _ c.if-branch.false c.in_ok-accept.ensures in
    let t = found_false _ _ _ c.if-not-branch.true c.in_ok-text.ensures.reads in
    exits (search rules) (field_from _ (c.loop-fields.invariant.reads d k >> renamed a.0 >> renamed t.0 >> field_begins _ _ _ k _ _ c.in_ok-expect.ensures.read) (ap string_bytes t.1)) (c.in_err-next.ensures.reads d _ _ k)

pub f_string::f_string-loop-fields-preserved-in_ok-push : goal.f_string::f_string-loop-fields-preserved-in_ok-push
f_string::f_string-loop-fields-preserved-in_ok-push g met c =
    let a = left_it _ _ fstring_end _ c.if-branch.false c.in_ok-accept.ensures in
    let t = found_false _ _ _ c.if-not-branch.true c.in_ok-text.ensures.reads in
    let one : items_of g.B.Make.means c.push.new.list.items ≡ tree.more (items_of g.B.Make.means c.loop-fields.fields.items) (tree.item (g.B.Make.means c.in_ok-next.next)) = ap (items_of g.B.Make.means) c.in_ok-push.ensures.items ∙ one_more (λ x. tree.item (g.B.Make.means x)) c.loop-fields.fields.items c.in_ok-next.next in
    record {
      reads = λ d k. pieces_as _ (field_from _ (c.loop-fields.invariant.reads d k >> renamed a.0 >> renamed t.0 >> field_begins _ _ _ k _ _ c.in_ok-expect.ensures.read) (ap string_bytes t.1) >> (c.in_ok-next.ensures.reads d _ _ k).comes _ refl) one;
      shorter = omega (arith, c.loop-fields.invariant.shorter, ap (λ z. length z.items) a.0, ap (λ z. length z.items) t.0, ap length c.in_ok-expect.ensures.read.items, c.in_ok-next.ensures.shorter);
    }

pub f_string::f_string-loop-fields-preserved : goal.f_string::f_string-loop-fields-preserved
f_string::f_string-loop-fields-preserved g met c =
    let a = left_it _ _ fstring_end _ c.if-branch.false c.in_ok-accept.ensures in
    record {
      reads = λ d k. c.loop-fields.invariant.reads d k >> renamed a.0 >> found_true _ _ _ c.if-not-branch.false c.in_ok-text.ensures.reads d _ _ k;
      shorter = omega (arith, c.loop-fields.invariant.shorter, ap (λ z. length z.items) a.0, c.in_ok-text.ensures.shorter c.if-not-branch.false);
    }

pub f_string::field-returns-in_err-found-clause-reads : goal.f_string::field-returns-in_err-found-clause-reads
f_string::field-returns-in_err-found-clause-reads g met c d b ms k = exits (search rules) begins (c.in_err-found.ensures.reads d _)

pub f_string::field-returns-then-branch-clause-reads : goal.f_string::field-returns-then-branch-clause-reads
f_string::field-returns-then-branch-clause-reads g met c d b ms k = gives (put _ _ _ _ k ((c.in_ok-found.ensures.reads d _).comes _ refl >> field_ends _ _ _ _ _ k _ _ (read_it _ _ fstring_expr_end _ c.if-branch.true c.in_ok-accept.ensures)) c.in_ok-push_str.ensures.bytes)

pub f_string::field-returns-in_err-expect-clause-reads : goal.f_string::field-returns-in_err-expect-clause-reads
f_string::field-returns-in_err-expect-clause-reads g met c d b ms k =
    let m = left_it _ _ fstring_expr_end _ c.if-branch.false c.in_ok-accept.ensures in
    missing (search rules) c.in_err-expect.ensures.unread c.in_err-expect.ensures.no_rule (λ h. sticks ((c.in_ok-found.ensures.reads d _).comes _ refl) (stays_there (h.0 ∙ m.0) (no_field_end _ _ _ _ _ k _ m.1 (before m.0 h.1))))

pub f_string::field-returns-in_err-conversion-clause-reads : goal.f_string::field-returns-in_err-conversion-clause-reads
f_string::field-returns-in_err-conversion-clause-reads g met c d b ms k =
    let m = left_it _ _ fstring_expr_end _ c.if-branch.false c.in_ok-accept.ensures in
    exits (search rules) (letter_from _ ((c.in_ok-found.ensures.reads d _).comes _ refl >> renamed m.0 >> bang_read _ _ _ _ _ k _ _ c.in_ok-expect.ensures.read) c.begin-begin.ensures) (c.in_err-conversion.ensures.reads d b ms _ k)

pub f_string::field-returns-clause-reads : goal.f_string::field-returns-clause-reads
f_string::field-returns-clause-reads g met c d b ms k =
    let m = left_it _ _ fstring_expr_end _ c.if-branch.false c.in_ok-accept.ensures in
    gives (letter_from _ ((c.in_ok-found.ensures.reads d _).comes _ refl >> renamed m.0 >> bang_read _ _ _ _ _ k _ _ c.in_ok-expect.ensures.read) c.begin-begin.ensures >> (c.in_ok-conversion.ensures.reads d b ms _ k).comes _ refl)

pub parameters::lambda_parameters-returns-then-branch-clause-reads : goal.parameters::lambda_parameters-returns-then-branch-clause-reads
parameters::lambda_parameters-returns-then-branch-clause-reads g met c d b k = gives (body_as _ (goes (read_it _ _ colon _ c.if-branch.true c.in_ok-accept.ensures) refl refl) (ap (members g.B.Make.parameter_means) c.new-none.ensures.items))

pub parameters::lambda_parameters-returns-in_err-first-clause-reads : goal.parameters::lambda_parameters-returns-in_err-first-clause-reads
parameters::lambda_parameters-returns-in_err-first-clause-reads g met c d b k =
    let n = left_it _ _ colon _ c.if-branch.false c.in_ok-accept.ensures in
    exits (search rules) (renamed n.0) (c.in_err-first.ensures.reads d _ _ _ _ _ k (still n.0 n.1))

pub parameters::lambda_parameters-loop-found-init : goal.parameters::lambda_parameters-loop-found-init
parameters::lambda_parameters-loop-found-init g met c =
    let n = left_it _ _ colon _ c.if-branch.false c.in_ok-accept.ensures in
    let one : members g.B.Make.parameter_means c.in_ok-found.found.items ≡ tree.more tree.none (g.B.Make.parameter_means c.in_ok-first.first) = ap (members g.B.Make.parameter_means) c.in_ok-found.ensures in
    record {
      reads = λ d b k. read_as _ _ (renamed n.0 >> (c.in_ok-first.ensures.reads d _ _ _ _ _ k (still n.0 n.1)).comes _ refl) one (ap (λ z. start z.items) (sym n.0));
      filled = λ e. absurd (let w : tree.more tree.none (g.B.Make.parameter_means c.in_ok-first.first) ≡ tree.none = sym one ∙ e in (cc));
      shorter = omega (arith, ap (λ z. length z.items) n.0, c.in_ok-first.ensures.shorter);
    }

pub parameters::lambda_parameters-returns-in_err-expect-clause-reads : goal.parameters::lambda_parameters-returns-in_err-expect-clause-reads
parameters::lambda_parameters-returns-in_err-expect-clause-reads g met c d b k =
    let m = left_it _ _ comma _ c.if-not-branch.true c.in_ok-accept-2.ensures in
    missing (search rules) c.in_err-expect.ensures.unread c.in_err-expect.ensures.no_rule (λ h. sticks (c.loop-found.invariant.reads d b k) (stays_there (h.0 ∙ m.0) (no_member_end (before_body b) _ _ _ k _ (refl, refl) m.1 (before m.0 h.1) (inl refl))))

pub parameters::lambda_parameters-returns-then-not-branch-clause-reads : goal.parameters::lambda_parameters-returns-then-not-branch-clause-reads
parameters::lambda_parameters-returns-then-not-branch-clause-reads g met c d b k =
    let m = left_it _ _ comma _ c.if-not-branch.true c.in_ok-accept-2.ensures in
    gives (c.loop-found.invariant.reads d b k >> renamed m.0 >> goes c.in_ok-expect.ensures.read refl refl)

pub parameters::lambda_parameters-returns-then-branch-2-clause-reads : goal.parameters::lambda_parameters-returns-then-branch-2-clause-reads
parameters::lambda_parameters-returns-then-branch-2-clause-reads g met c d b k = gives (c.loop-found.invariant.reads d b k >> goes (read_it _ _ comma _ c.if-not-branch.false c.in_ok-accept-2.ensures) refl refl >> goes (read_it _ _ colon _ c.if-branch-2.true c.in_ok-accept-3.ensures) refl refl)

pub parameters::lambda_parameters-returns-in_err-next-clause-reads : goal.parameters::lambda_parameters-returns-in_err-next-clause-reads
parameters::lambda_parameters-returns-in_err-next-clause-reads g met c d b k =
    let n = left_it _ _ colon _ c.if-branch-2.false c.in_ok-accept-3.ensures in
    exits (search rules) (c.loop-found.invariant.reads d b k >> goes (read_it _ _ comma _ c.if-not-branch.false c.in_ok-accept-2.ensures) refl refl >> renamed n.0) (c.in_err-next.ensures.reads d _ _ _ _ _ k (still n.0 n.1))

pub parameters::lambda_parameters-loop-found-preserved : goal.parameters::lambda_parameters-loop-found-preserved
parameters::lambda_parameters-loop-found-preserved g met c =
    let p = read_it _ _ comma _ c.if-not-branch.false c.in_ok-accept-2.ensures in
    let n = left_it _ _ colon _ c.if-branch-2.false c.in_ok-accept-3.ensures in
    let one : members g.B.Make.parameter_means c.push.new.list.items ≡ tree.more (members g.B.Make.parameter_means c.loop-found.found.items) (g.B.Make.parameter_means c.in_ok-next.next) = ap (members g.B.Make.parameter_means) c.in_ok-push.ensures.items ∙ one_more g.B.Make.parameter_means c.loop-found.found.items c.in_ok-next.next in
    record {
      reads = λ d b k. read_as _ _ (c.loop-found.invariant.reads d b k >> goes p refl refl >> renamed n.0 >> (c.in_ok-next.ensures.reads d _ _ _ _ _ k (still n.0 n.1)).comes _ refl) one (sym (first_kept _ _ _ c.loop-found.invariant.filled));
      filled = λ e. absurd (let w : tree.more (members g.B.Make.parameter_means c.loop-found.found.items) (g.B.Make.parameter_means c.in_ok-next.next) ≡ tree.none = sym one ∙ e in (cc));
      shorter = omega (arith, c.loop-found.invariant.shorter, ap length p.items, ap (λ z. length z.items) n.0, c.in_ok-next.ensures.shorter);
    }

pub parameters::parameter-returns-then-branch-clause-reads : goal.parameters::parameter-returns-then-branch-clause-reads
parameters::parameter-returns-then-branch-clause-reads g met c d b ms t e f k n = gives (member_as (slash_read b ms t e f k _ _ (read_it _ _ slash _ c.if-branch.true c.in_ok-accept.ensures)) (c.slash.ensures ∙ ap tree.slash (placed _ _ _ c.since.ensures c.begin-begin.ensures)))

pub parameters::parameter-returns-then-branch-2-clause-reads : goal.parameters::parameter-returns-then-branch-2-clause-reads
parameters::parameter-returns-then-branch-2-clause-reads g met c d b ms t e f k n =
    let x = left_it _ _ slash _ c.if-branch.false c.in_ok-accept.ensures in
    behind_it (star_from _ (star_begins b ms t e f k _ _ (passes_from star x.0 (read_it _ _ star _ c.if-branch-2.true c.in_ok-accept-2.ensures))) c.begin-begin.ensures) (c.starred.ensures.reads d b ms _ k)

pub parameters::parameter-returns-in_default-clause-reads : goal.parameters::parameter-returns-in_default-clause-reads
parameters::parameter-returns-in_default-clause-reads g met c d b ms t e f k n =
    let x = left_it _ _ slash _ c.if-branch.false c.in_ok-accept.ensures in
    let y = left_it _ _ star _ c.if-branch-2.false c.in_ok-accept-2.ensures in
    let u = unnamed _ _ _ c.in_default.is c.in_ok-name.ensures in
    refuses (sticks (stars_begin b ms t e f k _ _ (passes_from star_star (y.0 ∙ x.0) (read_it _ _ star_star _ c.if-branch-3.true c.in_ok-accept-3.ensures))) (stays_there u.0 (no_kwargs _ _ _ _ k _ u.1)))

pub parameters::parameter-returns-then-branch-3-clause-reads : goal.parameters::parameter-returns-then-branch-3-clause-reads
parameters::parameter-returns-then-branch-3-clause-reads g met c d b ms t e f k n =
    let x = left_it _ _ slash _ c.if-branch.false c.in_ok-accept.ensures in
    let y = left_it _ _ star _ c.if-branch-2.false c.in_ok-accept-2.ensures in
    let p = named _ _ _ _ c.in-Some.is c.in_ok-name.ensures in
    gives (member_as (stars_begin b ms t e f k _ _ (passes_from star_star (y.0 ∙ x.0) (read_it _ _ star_star _ c.if-branch-3.true c.in_ok-accept-3.ensures)) >> double_starred_read _ _ _ _ k _ _ _ p.1) (c.kwargs_parameter.ensures ∙ spans_as tree.double_starred _ _ _ _ _ p.0 (placed _ _ _ c.since-span.ensures c.begin-begin.ensures)))

pub parameters::parameter-returns-in_default-2-clause-reads : goal.parameters::parameter-returns-in_default-2-clause-reads
parameters::parameter-returns-in_default-2-clause-reads g met c d b ms t e f k n =
    let x = left_it _ _ slash _ c.if-branch.false c.in_ok-accept.ensures in
    let y = left_it _ _ star _ c.if-branch-2.false c.in_ok-accept-2.ensures in
    let z = left_it _ _ star_star _ c.if-branch-3.false c.in_ok-accept-3.ensures in
    let u = unnamed _ _ _ c.in_default-2.is c.in_ok-name-2.ensures in
    refuses (stays_there (u.0 ∙ z.0 ∙ y.0 ∙ x.0) (no_parameter b ms t e f k _ n x.1 (before x.0 y.1) (before (y.0 ∙ x.0) z.1) (ap (λ l. name_ahead l.items) (sym (z.0 ∙ y.0 ∙ x.0)) ∙ u.1)))

pub parameters::parameter-returns-in_err-default-clause-reads : goal.parameters::parameter-returns-in_err-default-clause-reads
parameters::parameter-returns-in_err-default-clause-reads g met c d b ms t e f k n =
    let x = left_it _ _ slash _ c.if-branch.false c.in_ok-accept.ensures in
    let y = left_it _ _ star _ c.if-branch-2.false c.in_ok-accept-2.ensures in
    let z = left_it _ _ star_star _ c.if-branch-3.false c.in_ok-accept-3.ensures in
    let p = named _ _ _ _ c.in-Some-2.is c.in_ok-name-2.ensures in
    exits (search rules) (name_begins b ms t e f k _ _ _ (passes_from _ (z.0 ∙ y.0 ∙ x.0) p.1) >> default_begins _ _ _ _ _ _ k _ _ (read_it _ _ equal _ c.if-branch-4.true c.in_ok-accept-4.ensures)) (c.in_err-default.ensures.reads d _)

pub parameters::parameter-returns-then-branch-4-clause-reads : goal.parameters::parameter-returns-then-branch-4-clause-reads
parameters::parameter-returns-then-branch-4-clause-reads g met c d b ms t e f k n =
    let x = left_it _ _ slash _ c.if-branch.false c.in_ok-accept.ensures in
    let y = left_it _ _ star _ c.if-branch-2.false c.in_ok-accept-2.ensures in
    let z = left_it _ _ star_star _ c.if-branch-3.false c.in_ok-accept-3.ensures in
    let p = named _ _ _ _ c.in-Some-2.is c.in_ok-name-2.ensures in
    gives (member_as (name_begins b ms t e f k _ _ _ (passes_from _ (z.0 ∙ y.0 ∙ x.0) p.1) >> default_begins _ _ _ _ _ _ k _ _ (read_it _ _ equal _ c.if-branch-4.true c.in_ok-accept-4.ensures) >> (c.in_ok-default.ensures.reads d _).comes _ refl >> member_ends _ _ _ _ _ _ _ _ _) (c.in_ok-parameter.ensures ∙ defaults_as _ _ _ _ _ _ (span_from _ _ (z.0 ∙ y.0 ∙ x.0) p.0) (placed _ _ _ c.since-span-then-branch-4.ensures c.begin-begin.ensures)))

pub parameters::parameter-returns-clause-reads : goal.parameters::parameter-returns-clause-reads
parameters::parameter-returns-clause-reads g met c d b ms t e f k n =
    let x = left_it _ _ slash _ c.if-branch.false c.in_ok-accept.ensures in
    let y = left_it _ _ star _ c.if-branch-2.false c.in_ok-accept-2.ensures in
    let z = left_it _ _ star_star _ c.if-branch-3.false c.in_ok-accept-3.ensures in
    let p = named _ _ _ _ c.in-Some-2.is c.in_ok-name-2.ensures in
    gives (name_begins b ms t e f k _ _ _ (passes_from _ (z.0 ∙ y.0 ∙ x.0) p.1) >> name_is _ _ _ _ _ k _ (left_it _ _ equal _ c.if-branch-4.false c.in_ok-accept-4.ensures) (c.in_ok-parameter-2.ensures ∙ spans_as tree.plain _ _ _ _ _ (span_from _ _ (z.0 ∙ y.0 ∙ x.0) p.0) (placed _ _ _ c.since-span-2.ensures c.begin-begin.ensures)))

pub operators::operators-loop-floor-init : goal.operators::operators-loop-floor-init
operators::operators-loop-floor-init g met c = record {
  reads = λ d i j k p q. state_is begins (ap (λ n. has (g.B.Make.means c.args.left) c.args.tokens.now.last (tails n c.args.floor k)) (let same : i ≡ j = omega (arith, p, q) in same));
  low = c.requires.low;
  below = c.requires.below;
  shorter = omega arith;
}

pub suffixes::suffixes-loop-tokens-init : goal.suffixes::suffixes-loop-tokens-init
suffixes::suffixes-loop-tokens-init g met c = record { reads = λ d k. begins; shorter = omega arith }

pub arguments::arguments-loop-found-init : goal.arguments::arguments-loop-found-init
arguments::arguments-loop-found-init g met c = record {
  reads = λ d q k. record { trailing = false; end = 0; first = 0; goes = wanted_as _ begins (ap (members g.B.Make.argument_means) c.new-found.ensures.items) };
  shorter = omega arith;
}

pub subscripts::bound-returns-then-stands-clause-reads : goal.subscripts::bound-returns-then-stands-clause-reads
subscripts::bound-returns-then-stands-clause-reads g met c d q bs k = gives begins

pub subscripts::bound-returns-then-stands-2-clause-reads : goal.subscripts::bound-returns-then-stands-2-clause-reads
subscripts::bound-returns-then-stands-2-clause-reads g met c d q bs k = gives begins

pub listed::listed_behind-returns-then-not-branch-clause-reads : goal.listed::listed_behind-returns-then-not-branch-clause-reads
listed::listed_behind-returns-then-not-branch-clause-reads g met c d k h =
    let n = left_it _ _ comma _ c.if-not-branch.true c.in_ok-accept.ensures in
    gives (state_is (renamed n.0) (ap (λ ts. has (g.B.Make.means c.args.first) ts.last (one_of k tree.none c.args.begin)) (sym n.0)))

pub f_string::f_string-loop-fields-init : goal.f_string::f_string-loop-fields-init
f_string::f_string-loop-fields-init g met c = record {
  reads = λ d k. pieces_as _ (put _ _ _ _ _ begins c.new-format.ensures.bytes) (ap (items_of g.B.Make.means) c.new-fields.ensures.items);
  shorter = omega arith;
}
