use Rattle.std.proofs.Common.{refl, ap, subst, sym, ◌∙◌, rules}
use Rattle.starlark_lexer.specs.Items.{newline}
use Rattle.starlark_read.specs.declared.kind.Kind.TheVariants as kind
use Rattle.starlark_grammar.specs.Frames.{at_line, outer}
use Rattle.starlark_grammar.specs.Made.{sequence_of}
use Rattle.starlark_grammar.proofs.CleanEnds.{EndsClean, clean_end, clean_more, clean_of}
use Rattle.starlark_read.proofs.Exits.{◌>>◌, begins, exits, goes, left_it, read_it, refuses, renamed, state_is, sticks}
use Rattle.starlark_read.proofs.Cleaning.{clean_fewer, still_unclean}
use Rattle.starlark_read.proofs.Plain.{stands, stands_not}
use Rattle.starlark_read.proofs.Rows.{no_suite_end, some_there, statement_more}
use Rattle.starlark_read.proofs.Suffixing.{unlike}
use Rattle.starlark_read.proofs.statements.statements.Goals as goal

pub loop-found-init : goal.loop-found-init
loop-found-init g c = record {
  reads = state_is begins (ap (λ xs. at_line (outer (sequence_of g.B.Build.says xs)) c.args.tokens.now.last) (sym c.new-found.ensures.items));
  clean = λ h. subst (EndsClean _) (ap (sequence_of g.B.Build.says) (sym c.new-found.ensures.items)) (record { kept = refl; stands = refl; inside = refl });
  unclean = λ h. absurd (cc);
}

pub loop-found-preserved-then-branch : goal.loop-found-preserved-then-branch
loop-found-preserved-then-branch g c = record {
  reads = c.loop-found.invariant.reads >> goes (read_it _ _ newline _ c.if-branch.true c.in_ok-accept.ensures) refl refl;
  clean = c.loop-found.invariant.clean;
  unclean = c.loop-found.invariant.unclean;
}

pub returns-in-End-clause-clean : goal.returns-in-End-clause-clean
returns-in-End-clause-clean g c h e = clean_end _ _ e (c.loop-found.invariant.clean h)

pub returns-in-End-clause-unclean : goal.returns-in-End-clause-unclean
returns-in-End-clause-unclean g c h e w = c.loop-found.invariant.unclean h (clean_of _ _ e w)

pub returns-in-Dedent-clause-reads : goal.returns-in-Dedent-clause-reads
returns-in-Dedent-clause-reads g c =
    let n = left_it _ _ newline _ c.if-branch.false c.in_ok-accept.ensures in
    let ss = sequence_of g.B.Build.says c.loop-found.found.items in
    refuses (sticks (c.loop-found.invariant.reads >> renamed n.0) (no_suite_end ss _ _ (stands _ kind.Dedent refl (sym c.kind.ensures ∙ c.in-Dedent.is))))

pub returns-in_err-next-in_default : goal.returns-in_err-next-in_default
returns-in_err-next-in_default g c =
    let n = left_it _ _ newline _ c.if-branch.false c.in_ok-accept.ensures in
    let ss = sequence_of g.B.Build.says c.loop-found.found.items in
    let there = some_there _ (λ h. c.in_default.not-End (c.kind.ensures ∙ h)) in
    let inside = stands_not _ kind.Dedent refl (λ h. c.in_default.not-Dedent (c.kind.ensures ∙ h)) in
    record {
      reads = exits (search rules) (c.loop-found.invariant.reads >> renamed n.0) (c.in_err-next-in_default.ensures.reads (outer ss) _ there (unlike n.0 n.1) inside);
      whole = search rules;
      clean = search rules;
      unclean = search rules;
    }

pub loop-found-preserved : goal.loop-found-preserved
loop-found-preserved g c =
    let n = left_it _ _ newline _ c.if-branch.false c.in_ok-accept.ensures in
    let f = g.B.Build.says in
    let ss = sequence_of f c.loop-found.found.items in
    let there = some_there _ (λ h. c.in_default.not-End (c.kind.ensures ∙ h)) in
    let inside = stands_not _ kind.Dedent refl (λ h. c.in_default.not-Dedent (c.kind.ensures ∙ h)) in
    let more = statement_more f _ _ _ c.in_ok-push-in_default.ensures.items in
    record {
      reads = state_is (c.loop-found.invariant.reads >> renamed n.0 >> (c.in_ok-next-in_default.ensures.reads (outer ss) _ there (unlike n.0 n.1) inside).comes _ refl) (ap (λ z. at_line (outer z) c.statement.new.tokens.last) (sym more));
      clean = λ h. let both = c.in_ok-are_clean-in_default.ensures.clean h in subst (EndsClean _) (sym more) (clean_more _ (c.loop-found.invariant.clean both.0) both.1);
      unclean = λ h w. let both = clean_fewer _ _ _ (subst (EndsClean _) more w) in still_unclean _ c.loop-found.invariant.unclean both.0 (λ q. c.in_ok-are_clean-in_default.ensures.unclean h q both.1);
    }
