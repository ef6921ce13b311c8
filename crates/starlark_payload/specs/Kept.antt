-- What a map keeps where no plain data of one node says it.
use Rattle.std.specs.Prelude.{◌≡◌}
use Rattle.starlark_ast.specs.View.{comma_at, ident_at, text_at}
use Rattle.starlark_ast.specs.declared.ast.LoadArgP.{LoadArgP}

-- two symbols of loads are the same but for payloads
pub record SameSymbol {P L I A D T P' L' I' A' D' T' : Type 0} (x : LoadArgP P L I A D T) (y : LoadArgP P' L' I' A' D' T') : Type 0 where
  pub local : ident_at y.local ≡ ident_at x.local
  pub their : text_at y.their ≡ text_at x.their
  pub comma : comma_at y.comma ≡ comma_at x.comma
