-- What a statement breaks: first by itself, then in those right below it, in order.
use Rattle.std.proofs.Common.{◌≡◌, sym, ap, ◌∙◌, List, [], ◌∷◌, ◌++◌, append_assoc, append-nil, flat_map, fold, cond, true, false, ℕ, ◌<◌}
use Rattle.std.specs.declared.alloc.Global.{Global}
use Rattle.std.specs.declared.boxed.Box.{Box}
use Rattle.std.specs.declared.vec.Vec.{Vec}
use Rattle.starlark_place.specs.declared.pos.Spanned.{Spanned}
use Rattle.starlark_lexer.specs.declared.dialect.Dialect.{Dialect}
use Rattle.starlark_ast.specs.Places.{E}
use Rattle.starlark_ast.specs.Statements.{S, stmts_below, stmts_layer}
use Rattle.starlark_ast.specs.StatementViews.{stmt_view-Statements, stmt_view-If, stmt_view-IfElse, stmt_view-For, stmt_view-Def, view-for, view-def}
use Rattle.starlark_ast.specs.Tree as t
use Rattle.starlark_ast.specs.Tree.{Sequence, Statement}
use Rattle.starlark_ast.specs.View.{members, parameter_at, stmt_at, stmt_view}
use Rattle.starlark_ast.specs.declared.ast.DefP.{DefP, out-DefP}
use Rattle.starlark_ast.specs.declared.ast.ForP.{ForP, out-ForP}
use Rattle.starlark_ast.specs.declared.ast.StmtP.{StmtP}
use Rattle.starlark_ast.specs.declared.ast.StmtP.TheVariants as stmt
use Rattle.starlark_rulebook.specs.declared.rule.Rule.{Rule}
use Rattle.starlark_rulebook.specs.Found.{Adds, findings}
use Rattle.starlark_rulebook.specs.Late.{Standing, in_def_body, in_for_body, in_if_body, may_nest, parameter_rules, sequence_rules, statement_rules, unless}
use Rattle.starlark_rulebook.specs.Rules.{breaks, DefDisabled, Finding, ForOutsideDef, IfOutsideDef}
use Rattle.starlark_faults.specs.Standings.{standing_of, AllSmaller}
use Rattle.starlark_faults.specs.declared.statements.Standing.{Standing as CodeStanding}
use Rattle.starlark_visit.proofs.Taking.{AllOf}
use Rattle.starlark_visit.specs.Sizes.{statement_size}

module _ {A : Type 0} (plain : A → Statement) (n : ℕ) where
  pub smaller_each : (xs : List A) → AllSmaller plain n xs → AllOf (λ x. statement_size (plain x) < n) xs
  smaller_each [] all = tt
  smaller_each (x ∷ xs) all = (all.0, smaller_each xs all.1)

  pub each_smaller : (xs : List A) → AllOf (λ x. statement_size (plain x) < n) xs → AllSmaller plain n xs
  each_smaller [] all = tt
  each_smaller (x ∷ xs) all = (all.0, each_smaller xs all.1)

-- nothing below is looked at
pub alone : {before after : List (Spanned Rule)} {found whole : List Finding} → Adds before found after → found ≡ whole → findings after ++ [] ≡ findings before ++ whole
alone {before} {after} h is = append-nil (findings after) ∙ h.all ∙ ap (λ q. findings before ++ q) is

-- nothing is broken by itself
pub below_alone : (before : List (Spanned Rule)) {found whole : List Finding} → found ≡ whole → findings before ++ found ≡ findings before ++ whole
below_alone before is = ap (λ q. findings before ++ q) is

-- both
pub then_below : {before after : List (Spanned Rule)} {found whole : List Finding} (below : List Finding) → Adds before found after → found ++ below ≡ whole → findings after ++ below ≡ findings before ++ whole
then_below {before} {after} {found} {whole} below h is = ap (λ q. q ++ below) h.all ∙ append_assoc (findings before) found below ∙ ap (λ q. findings before ++ q) is

module _ {P L I A D T : Type 0} where
  -- what statements break that stand there
  abbrev those : Dialect → Standing → List (S P L I A D T) → List Finding
  those d p xs = flat_map (λ y. statement_rules d p (stmt_at y)) xs

  pub rules_as : (d : Dialect) (p : Standing) (x : S P L I A D T) {y : StmtP P L I A D T} {v : Statement} → x.node ≡ y → stmt_view y x.span ≡ v → statement_rules d p (stmt_at x) ≡ statement_rules d p v
  rules_as d p x is view = ap (λ q. statement_rules d p (stmt_view q x.span)) is ∙ ap (statement_rules d p) view

  each_rules : (d : Dialect) (p : Standing) (ss : Sequence) (xs : List (S P L I A D T)) → sequence_rules d p ss ++ those d p xs ≡ sequence_rules d p (fold (λ rs y. t.add_statement rs (stmt_at y)) ss xs)
  each_rules d p ss [] = append-nil (sequence_rules d p ss)
  each_rules d p ss (x ∷ xs) = sym (append_assoc (sequence_rules d p ss) (statement_rules d p (stmt_at x)) (those d p xs)) ∙ each_rules d p (t.add_statement ss (stmt_at x)) xs

  pub in_list : (d : Dialect) (p : Standing) (x : S P L I A D T) (xs : Vec (S P L I A D T) Global) → x.node ≡ stmt.Statements xs → those d p (stmts_below x.node) ≡ statement_rules d p (stmt_at x)
  in_list d p x xs is =
      ap (those d p) (ap stmts_below is ∙ ap stmts_layer (stmt.outs-Statements xs)) ∙ each_rules d p t.no_statements xs.items ∙ sym (rules_as d p x is (stmt_view-Statements xs x.span))

  -- what breaks the body that stands at q, where p is around it
  pub in_if : (d : Dialect) (p : Standing) (q : CodeStanding) (x : S P L I A D T) (c : E P L I A D T) (b : Box (S P L I A D T) Global) → x.node ≡ stmt.If c b → standing_of q ≡ in_if_body p → may_nest d p ≡ true → those d (standing_of q) (stmts_below x.node) ≡ statement_rules d p (stmt_at x)
  in_if d p q x c b is at may =
      ap (λ r. those d r (stmts_below x.node)) at ∙ ap (those d (in_if_body p)) (ap stmts_below is ∙ ap stmts_layer (stmt.outs-If c b)) ∙ append-nil _
      ∙ sym (rules_as d p x is (stmt_view-If c b x.span) ∙ ap (λ m. cond m (statement_rules d (in_if_body p) (stmt_at b.value)) (breaks IfOutsideDef x.span ∷ [])) may)

  pub in_else : (d : Dialect) (p : Standing) (q : CodeStanding) (x : S P L I A D T) (c : E P L I A D T) (b : Box (S P L I A D T × S P L I A D T) Global) → x.node ≡ stmt.IfElse c b → standing_of q ≡ in_if_body p → may_nest d p ≡ true → those d (standing_of q) (stmts_below x.node) ≡ statement_rules d p (stmt_at x)
  in_else d p q x c b is at may =
      ap (λ r. those d r (stmts_below x.node)) at ∙ ap (those d (in_if_body p)) (ap stmts_below is ∙ ap stmts_layer (stmt.outs-IfElse c b)) ∙ ap (λ r. statement_rules d (in_if_body p) (stmt_at b.value.0) ++ r) (append-nil _)
      ∙ sym (rules_as d p x is (stmt_view-IfElse c b x.span) ∙ ap (λ m. cond m (statement_rules d (in_if_body p) (stmt_at b.value.0) ++ statement_rules d (in_if_body p) (stmt_at b.value.1)) (breaks IfOutsideDef x.span ∷ [])) may)

  pub in_for : (d : Dialect) (p : Standing) (q : CodeStanding) (x : S P L I A D T) (f : ForP P L I A D T) → x.node ≡ stmt.For f → standing_of q ≡ in_for_body p → may_nest d p ≡ true → those d (standing_of q) (stmts_below x.node) ≡ statement_rules d p (stmt_at x)
  in_for d p q x f is at may =
      let body = (out-ForP P L I A D T f).body.value in
      ap (λ r. those d r (stmts_below x.node)) at ∙ ap (those d (in_for_body p)) (ap stmts_below is ∙ ap stmts_layer (stmt.outs-For f)) ∙ append-nil _
      ∙ sym (rules_as d p x is (stmt_view-For f x.span ∙ view-for f x.span) ∙ ap (λ m. cond m (statement_rules d (in_for_body p) (stmt_at body)) (breaks ForOutsideDef x.span ∷ [])) may)

  pub in_def : (d : Dialect) (p : Standing) (q : CodeStanding) (x : S P L I A D T) (f : DefP P L I A D T) (ps : t.Members) → x.node ≡ stmt.Def f → standing_of q ≡ in_def_body → ps ≡ members parameter_at (out-DefP P L I A D T f).params.items → (unless d.enable_def DefDisabled x.span ++ parameter_rules d ps) ++ those d (standing_of q) (stmts_below x.node) ≡ statement_rules d p (stmt_at x)
  in_def d p q x f ps is at all =
      let own = unless d.enable_def DefDisabled x.span in
      let body = (out-DefP P L I A D T f).body.value in
      ap (λ r. (own ++ parameter_rules d ps) ++ those d r (stmts_below x.node)) at
      ∙ ap (λ r. (own ++ parameter_rules d r) ++ those d in_def_body (stmts_below x.node)) all
      ∙ ap (λ r. (own ++ parameter_rules d (members parameter_at (out-DefP P L I A D T f).params.items)) ++ those d in_def_body r) (ap stmts_below is ∙ ap stmts_layer (stmt.outs-Def f))
      ∙ ap (λ r. (own ++ parameter_rules d (members parameter_at (out-DefP P L I A D T f).params.items)) ++ r) (append-nil _)
      ∙ sym (rules_as d p x is (stmt_view-Def f x.span ∙ view-def f x.span))

  -- where the body is not looked at
  pub no_if : (d : Dialect) (p : Standing) (x : S P L I A D T) (c : E P L I A D T) (b : Box (S P L I A D T) Global) → x.node ≡ stmt.If c b → may_nest d p ≡ false → breaks IfOutsideDef x.span ∷ [] ≡ statement_rules d p (stmt_at x)
  no_if d p x c b is may = sym (rules_as d p x is (stmt_view-If c b x.span) ∙ ap (λ m. cond m (statement_rules d (in_if_body p) (stmt_at b.value)) (breaks IfOutsideDef x.span ∷ [])) may)

  pub no_else : (d : Dialect) (p : Standing) (x : S P L I A D T) (c : E P L I A D T) (b : Box (S P L I A D T × S P L I A D T) Global) → x.node ≡ stmt.IfElse c b → may_nest d p ≡ false → breaks IfOutsideDef x.span ∷ [] ≡ statement_rules d p (stmt_at x)
  no_else d p x c b is may = sym (rules_as d p x is (stmt_view-IfElse c b x.span) ∙ ap (λ m. cond m (statement_rules d (in_if_body p) (stmt_at b.value.0) ++ statement_rules d (in_if_body p) (stmt_at b.value.1)) (breaks IfOutsideDef x.span ∷ [])) may)

  pub no_for : (d : Dialect) (p : Standing) (x : S P L I A D T) (f : ForP P L I A D T) → x.node ≡ stmt.For f → may_nest d p ≡ false → breaks ForOutsideDef x.span ∷ [] ≡ statement_rules d p (stmt_at x)
  no_for d p x f is may = sym (rules_as d p x is (stmt_view-For f x.span ∙ view-for f x.span) ∙ ap (λ m. cond m (statement_rules d (in_for_body p) (stmt_at (out-ForP P L I A D T f).body.value)) (breaks ForOutsideDef x.span ∷ [])) may)
