-- The statements at the top of a tree of the code, as it walks through them.
use Rattle.std.specs.Prelude.{List, [], ◌∷◌, ◌++◌}
use Rattle.std.specs.List.{flat_map}
use Rattle.starlark_place.specs.declared.pos.Spanned.{Spanned}
use Rattle.starlark_ast.specs.declared.ast.AstNoPayload.{AstNoPayload}
use Rattle.starlark_ast.specs.declared.ast.DefP.{DefP}
use Rattle.starlark_ast.specs.declared.ast.ForP.{ForP}
use Rattle.starlark_ast.specs.declared.ast.StmtP.{StmtP, StmtP-F, out-StmtP}
use Rattle.starlark_ast.specs.declared.ast.StmtP.TheOpen as stmt
use Rattle.starlark_parts.specs.declared.top.TopLevel.{TopLevel}

-- a statement of the code
abbrev pub Stmt : Type 0
Stmt = Spanned (StmtP AstNoPayload (Unit {0}) (Unit {0}) (Unit {0}) (Unit {0}) (Unit {0}))

abbrev pub opened_layer : Stmt → StmtP-F AstNoPayload (Unit {0}) (Unit {0}) (Unit {0}) (Unit {0}) (Unit {0}) (StmtP AstNoPayload (Unit {0}) (Unit {0}) (Unit {0}) (Unit {0}) (Unit {0})) (DefP AstNoPayload (Unit {0}) (Unit {0}) (Unit {0}) (Unit {0}) (Unit {0})) (ForP AstNoPayload (Unit {0}) (Unit {0}) (Unit {0}) (Unit {0}) (Unit {0})) → List Stmt
opened_layer x (stmt.Statements xs) = xs.items
opened_layer x _ = x ∷ []

-- those of a statement that is a list; else itself
abbrev pub opened : Stmt → List Stmt
opened x = opened_layer x (out-StmtP AstNoPayload (Unit {0}) (Unit {0}) (Unit {0}) (Unit {0}) (Unit {0}) x.node)

-- those of a tree that is one line, or a list of lines
abbrev pub tops_of : Stmt → List Stmt
tops_of x = flat_map opened (opened x)

-- those that a walk has before it
abbrev pub left : TopLevel → List Stmt
left w = w.row.now ++ flat_map opened w.lines.now
