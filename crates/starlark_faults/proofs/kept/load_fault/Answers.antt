use Rattle.std.proofs.Common.{◌∙◌, ◌≡◌, ◌==◌, ℕ, List, [], ◌∷◌, Some, None, ap, arith, cond, false, fold, length, refl, rules, string_bytes, sym}
use Rattle.starlark_place.specs.Place.{Extent}
use Rattle.starlark_ast.specs.Tree as tree
use Rattle.starlark_ast.specs.View.{comma_at, ident_at, symbols, text_at}
use Rattle.starlark_ast.specs.declared.ast.LoadArgP.{LoadArgP}
use Rattle.starlark_rulebook.specs.Kept as kept
use Rattle.starlark_rulebook.specs.Rules.{LoadRequiresTwo, breaks, first_finding}
use Rattle.starlark_faults.proofs.kept.load_fault.Goals as goal

module _ {P L I A D T : Type 0} where
  -- with one symbol it binds something
  still_bound : (n : List ℕ) (s : Extent) (ss : tree.Symbols) (xs : List (LoadArgP P L I A D T)) → kept.kept_load (tree.name_at n s) ss ≡ [] → kept.kept_load (tree.name_at n s) (fold (λ rs x. tree.add_symbol rs (tree.symbol (ident_at x.local) (text_at x.their)) (comma_at x.comma)) ss xs) ≡ []
  still_bound n s ss [] e = e
  still_bound n s ss (x ∷ xs) e = still_bound n s (tree.add_symbol ss (tree.symbol (ident_at x.local) (text_at x.their)) (comma_at x.comma)) xs refl

  binds_nothing : (n : List ℕ) (s : Extent) (xs : List (LoadArgP P L I A D T)) (k : ℕ) → k ≡ length xs → cond (k == 0) (Some (breaks LoadRequiresTwo s)) None ≡ first_finding (kept.kept_load (tree.name_at n s) (symbols xs))
  binds_nothing n s [] k e = ap (λ j. cond (j == 0) (Some (breaks LoadRequiresTwo s)) None) e
  binds_nothing n s (x ∷ xs) k e =
      let some : (length (x ∷ xs) == 0) ≡ false = first_of (search rules, grind arith) in
      ap (λ j. cond (j == 0) (Some (breaks LoadRequiresTwo s)) None) e ∙ ap (λ b. cond b (Some (breaks LoadRequiresTwo s)) None) some ∙ sym (ap first_finding (still_bound n s (tree.add_symbol tree.no_symbols (tree.symbol (ident_at x.local) (text_at x.their)) (comma_at x.comma)) xs refl))

pub returns : goal.returns
returns g c =
    let name = c.args.x.now.module in
    let args = c.args.x.now.args in
    c.broken_if.ensures ∙ ap (λ b. cond b (Some (breaks LoadRequiresTwo name.span)) None) c.is_empty.ensures ∙ binds_nothing (string_bytes name.node) name.span args.items _ args.ok.0
