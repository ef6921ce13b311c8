use Rattle.std.proofs.Common.{◌≡◌, Bool, true, false, not, ℕ, List, refl, rules, sym, ◌∙◌}
use Rattle.std.specs.Prelude.{IsTrue}
use Rattle.std.proofs.lemmas.Bool.{false≢true}
use Rattle.starlark_parts.proofs.Closed.{closed, no_escape, no_escape_cr}
use Rattle.starlark_parts.proofs.part.is_closed.Goals as goal

pub returns-then-ends_with : goal.returns-then-ends_with
returns-then-ends_with c = (
  λ h. absurd (search rules),
  λ h. absurd (false≢true (sym (no_escape c.args.text.now c.ends_with-2.result c.ends_with-2.ensures.value h) ∙ c.if-ends_with.true)),
)

is_false : (r : Bool) → IsTrue (not r) → r ≡ false
is_false true h = absurd (search rules)
is_false false h = refl

is_true : (r : Bool) → r ≡ false → IsTrue (not r)
is_true r e = rw e (search rules)

pub returns : goal.returns
returns c =
    let text : List ℕ = c.args.text.now in (
      λ h. closed text c.ends_with.result c.ends_with-2.result c.ends_with-3.result c.ends_with.ensures.value c.ends_with-2.ensures.value c.ends_with-3.ensures.value c.if-not-ends_with.false c.if-ends_with.false (is_false c.ends_with-3.result h),
      λ h. is_true c.ends_with-3.result (no_escape_cr text c.ends_with-3.result c.ends_with-3.ensures.value h),
    )
