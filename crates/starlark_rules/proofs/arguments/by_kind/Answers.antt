use Rattle.std.proofs.Common.{◌≡◌, ◌++◌, ◌∙◌, sym, ap, append_assoc, arith}
use Rattle.starlark_ast.specs.View.{argument_at, members}
use Rattle.starlark_rulebook.specs.Calls.{is_star}
use Rattle.starlark_rulebook.specs.Parameters.{member_count}
use Rattle.starlark_rules.specs.Unpacked.{only, is_positional, is_named}
use Rattle.starlark_faults.proofs.Prefixes.{count_members}
use Rattle.starlark_rules.proofs.Unpacking.{join, are_arguments, in_order, cut, count_join, count_only, only_fewer}
use Rattle.starlark_rules.proofs.arguments.by_kind.Goals as goal

pub split_at-requires : goal.split_at-requires
split_at-requires g c =
    let xs = c.args.args.now in
    omega (arith, c.count_of.ensures, count_only is_positional argument_at xs, only_fewer is_positional (members argument_at xs), count_members argument_at xs)

pub split_at-requires-2 : goal.split_at-requires-2
split_at-requires-2 g c =
    let xs = c.args.args.now in
    let ms = members argument_at xs in
    let pos = c.split_at.result.0.now in
    let others = c.split_at.result.1.now in
    let whole : members argument_at (pos ++ others) ≡ join (only is_positional ms) (join (only is_named ms) (only is_star ms)) = ap (members argument_at) (sym c.split_at.ensures.by_index.0) ∙ in_order ms (are_arguments xs) c.requires in
    let first = cut argument_at pos others (only is_positional ms) (join (only is_named ms) (only is_star ms)) whole (c.split_at.ensures.front_len ∙ c.count_of.ensures ∙ sym (count_only is_positional argument_at xs)) in
    omega (arith, c.count_of-2.ensures, count_only is_named argument_at xs, count_join (only is_named ms) (only is_star ms), ap member_count first.1, count_members argument_at others)

pub returns : goal.returns
returns g c =
    let xs = c.args.args.now in
    let ms = members argument_at xs in
    let pos = c.split_at.result.0.now in
    let others = c.split_at.result.1.now in
    let named = c.split_at-2.result.0.now in
    let rest = c.split_at-2.result.1.now in
    let whole : members argument_at (pos ++ others) ≡ join (only is_positional ms) (join (only is_named ms) (only is_star ms)) = ap (members argument_at) (sym c.split_at.ensures.by_index.0) ∙ in_order ms (are_arguments xs) c.requires in
    let first = cut argument_at pos others (only is_positional ms) (join (only is_named ms) (only is_star ms)) whole (c.split_at.ensures.front_len ∙ c.count_of.ensures ∙ sym (count_only is_positional argument_at xs)) in
    let behind : members argument_at (named ++ rest) ≡ join (only is_named ms) (only is_star ms) = ap (members argument_at) (sym c.split_at-2.ensures.by_index.0) ∙ first.1 in
    let second = cut argument_at named rest (only is_named ms) (only is_star ms) behind (c.split_at-2.ensures.front_len ∙ c.count_of-2.ensures ∙ sym (count_only is_named argument_at xs)) in
    record {
      pos = first.0;
      named = second.0;
      star = c.first_with.ensures;
      star_star = c.first_with-2.ensures;
      front = (rest, append_assoc pos named rest ∙ ap (λ q. pos ++ q) (sym c.split_at-2.ensures.by_index.0) ∙ sym c.split_at.ensures.by_index.0);
    }
