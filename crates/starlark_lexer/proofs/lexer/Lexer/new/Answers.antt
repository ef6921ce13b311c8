use Rattle.std.proofs.Common.{sym, arith, subst}
use Rattle.std.proofs.lemmas.Str.{IsCharBoundary-start}
use Rattle.std.specs.Str.{IsCharBoundary}
use Rattle.starlark_lexer.specs.Lex.{Lex, start}
use Rattle.starlark_lexer.specs.Scan.{At, left_at}
use Rattle.starlark_lexer.specs.Parts.{AreModes}
use Rattle.starlark_lexer.proofs.Rules.{state_of}
use Rattle.starlark_lexer.proofs.Whole.{sound}
use Rattle.starlark_lexer.proofs.lexer.Lexer.new.Goals as goal

pub invariant_of-result : goal.invariant_of-result
invariant_of-result c =
    let zero = subst (λ t. IsCharBoundary t 0) (sym c.requires) (IsCharBoundary-start c.args.input.now c.utf8.input) in
    record {
      whole = record {
        fits = c.source.ensures.fits;
        opened = omega arith;
        closed = omega arith;
        boundary = zero;
        line = record { ordered = omega arith; begins = zero; ends = zero };
        mode = tt;
        around = subst (AreModes c.args.codemap.source 0) (sym c.new-2.ensures.items) tt;
        dedents = zero;
        behind = omega arith;
        starts = zero;
      };
      counted = omega arith;
      paid = record { most = λ h. omega arith; all = omega arith };
    }

pub returns-clause-left : goal.returns-clause-left
returns-clause-left c =
    let text = c.args.codemap.source in
    let left = subst (Lex start text) (λ i. left_at (let d : At = record { state = state_of start; widths = sym c.new.ensures.items i; outer = sym c.new-2.ensures.items i; rest = text } in d)) (sound text) in
    subst (λ t. Lex start t (left_at (let d : At = record { state = state_of start; widths = c.new.result.items; outer = c.new-2.result.items; rest = text } in d))) c.requires left
