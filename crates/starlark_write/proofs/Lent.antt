-- What an enum becomes once the only field of its variant is written.
use Rattle.std.proofs.Common.{◌≡◌, sym, ap, ◌∙◌, subst, ℕ}
use mathlib.Core.Option.{Option, some, none}
use borrow.Enum.Known.{ValuesAt, at}
use borrow.Enum.Total.{values_d, values_o, values_o_at}
use denote.RattleType.{RattleType}
use Rattle.starlark_ast.specs.contracts.ast.AssignTargetP as targets
use Rattle.starlark_ast.specs.contracts.ast.ExprP as exprs
use Rattle.starlark_ast.specs.contracts.ast.StmtP as stmts

-- what holds where s is seen to be t
pub seen : {S U : Type 0} (R : S → U → Type 0) {s t : S} {u : U} → s ≡ t → R t u → R s u
seen R {s} {t} {u} is h = subst (λ q. R q u) (sym is) h

pub seen_left : {S U : Type 0} (R : S → U → Type 0) {s t : S} {u : U} → s ≡ t → R s u → R t u
seen_left R {s} {t} {u} is h = subst (λ q. R q u) is h

module _ {S V W : Type 0} (made : V → W → S) where
  -- s with y as its field, where it has that field
  abbrev pub put_in : Option W → S → V → S
  put_in none s y = s
  put_in (some w) s y = made y w

  lent_into : (R : S → S → Type 0) (peek : S → Option W) (s : S) (y : V) (w : W) → peek s ≡ some w → R s (made y w) → R s (put_in (peek s) s y)
  lent_into R peek s y w is h = subst (λ q. R s (put_in q s y)) (sym is) h

module _ (P L I A D T : RattleType) where
  -- R holds of an expression and what it becomes
  pub expr_lent : (k : ℕ) {V : Type 0} (made : V → ValuesAt (exprs.enum P L I A D T).parts k → (exprs.enum P L I A D T).D) (R : (exprs.enum P L I A D T).D → (exprs.enum P L I A D T).D → Type 0) {s : (exprs.enum P L I A D T).D} (y : V) (w : ValuesAt (exprs.enum P L I A D T).parts k) → s ≡ at (exprs.enum P L I A D T) k w → R (at (exprs.enum P L I A D T) k w) (made y w) → R s (put_in made (values_o (exprs.enum P L I A D T) k s) s y)
  expr_lent k made R {s} y w is h = lent_into made R (values_o (exprs.enum P L I A D T) k) s y w (ap (values_o (exprs.enum P L I A D T) k) is ∙ values_o_at (exprs.enum P L I A D T) k w) (seen R is h)

  pub target_lent : (k : ℕ) {V : Type 0} (made : V → ValuesAt (targets.enum P L I A D T).parts k → (targets.enum P L I A D T).D) (R : (targets.enum P L I A D T).D → (targets.enum P L I A D T).D → Type 0) {s : (targets.enum P L I A D T).D} (y : V) (w : ValuesAt (targets.enum P L I A D T).parts k) → s ≡ at (targets.enum P L I A D T) k w → R (at (targets.enum P L I A D T) k w) (made y w) → R s (put_in made (values_o (targets.enum P L I A D T) k s) s y)
  target_lent k made R {s} y w is h = lent_into made R (values_o (targets.enum P L I A D T) k) s y w (ap (values_o (targets.enum P L I A D T) k) is ∙ values_o_at (targets.enum P L I A D T) k w) (seen R is h)

  pub stmt_lent : (k : ℕ) {V : Type 0} (made : V → ValuesAt (stmts.enum P L I A D T).parts k → (stmts.enum P L I A D T).D) (R : (stmts.enum P L I A D T).D → (stmts.enum P L I A D T).D → Type 0) {s : (stmts.enum P L I A D T).D} (y : V) (w : ValuesAt (stmts.enum P L I A D T).parts k) → s ≡ at (stmts.enum P L I A D T) k w → R (at (stmts.enum P L I A D T) k w) (made y w) → R s (put_in made (values_o (stmts.enum P L I A D T) k s) s y)
  stmt_lent k made R {s} y w is h = lent_into made R (values_o (stmts.enum P L I A D T) k) s y w (ap (values_o (stmts.enum P L I A D T) k) is ∙ values_o_at (stmts.enum P L I A D T) k w) (seen R is h)

  -- the fields of the k-th variant of a statement
  abbrev pub stmt_fields : (k : ℕ) → ValuesAt (stmts.enum P L I A D T).parts k → (stmts.enum P L I A D T).D → ValuesAt (stmts.enum P L I A D T).parts k
  stmt_fields k v s = values_d (stmts.enum P L I A D T) k v s
