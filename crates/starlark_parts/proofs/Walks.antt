-- The walk of the code through a tree meets the statements at its top.
use Rattle.std.proofs.Common.{◌≡◌, List, [], ◌∷◌, ◌++◌, map, fold, false, refl, ap, sym, ◌∙◌, append_assoc}
use Rattle.std.specs.List.{flat_map}
use Rattle.std.proofs.lemmas.List.{append-nil, map-append}
use Rattle.std.proofs.lemmas.Grind.{flat_map-append}
use Rattle.starlark_place.specs.Place.{Extent}
use Rattle.starlark_ast.specs.StatementViews.{stmt_view-Assign, stmt_view-AssignModify, stmt_view-Break, stmt_view-Continue, stmt_view-Def, stmt_view-Expression, stmt_view-For, stmt_view-If, stmt_view-IfElse, stmt_view-Load, stmt_view-Pass, stmt_view-Return, stmt_view-Statements, view-def, view-for}
use Rattle.starlark_ast.specs.Tree as t
use Rattle.starlark_ast.specs.Tree.{Sequence, Statement, statement_place}
use Rattle.starlark_ast.specs.View.{stmt_at, stmt_view}
use Rattle.starlark_ast.specs.declared.ast.AstNoPayload.{AstNoPayload}
use Rattle.starlark_ast.specs.declared.ast.DefP.{DefP}
use Rattle.starlark_ast.specs.declared.ast.ForP.{ForP}
use Rattle.starlark_ast.specs.declared.ast.StmtP.{StmtP, StmtP-F, out-StmtP, roll-StmtP, roll-out-StmtP}
use Rattle.starlark_ast.specs.declared.ast.StmtP.TheOpen as layer
use Rattle.starlark_ast.specs.declared.ast.StmtP.TheVariants as variant
use Rattle.starlark_parts.specs.Flat.{AllIn, AreRows, IsFlat, IsRow, is_list}
use Rattle.starlark_parts.specs.Tops.{all_top, top_level}
use Rattle.starlark_parts.specs.Walk.{Stmt, opened, opened_layer, tops_of}

-- ---- over plain data

-- the statements of a list
abbrev members : Sequence → List Statement
members t.no_statements = []
members (t.add_statement ss a) = members ss ++ a ∷ []

-- those of a statement that is a list; else itself
abbrev row_of : Statement → List Statement
row_of (t.block ss s) = members ss
row_of (t.break s) = t.break s ∷ []
row_of (t.continue s) = t.continue s ∷ []
row_of (t.pass s) = t.pass s ∷ []
row_of (t.return x s) = t.return x s ∷ []
row_of (t.load m ss s) = t.load m ss s ∷ []
row_of (t.expression x s) = t.expression x s ∷ []
row_of (t.assign x a o y s) = t.assign x a o y s ∷ []
row_of (t.when x a s) = t.when x a s ∷ []
row_of (t.either x a b s) = t.either x a b s ∷ []
row_of (t.repeat x y a s) = t.repeat x y a s ∷ []
row_of (t.define n ps a b s) = t.define n ps a b s ∷ []

row_single : (s : Statement) → is_list s ≡ false → row_of s ≡ s ∷ []
row_single (t.block ss s) h = absurd (cc)
row_single (t.break s) h = refl
row_single (t.continue s) h = refl
row_single (t.pass s) h = refl
row_single (t.return x s) h = refl
row_single (t.load m ss s) h = refl
row_single (t.expression x s) h = refl
row_single (t.assign x a o y s) h = refl
row_single (t.when x a s) h = refl
row_single (t.either x a b s) h = refl
row_single (t.repeat x y a s) h = refl
row_single (t.define n ps a b s) h = refl

top_single : (s : Statement) → is_list s ≡ false → top_level s ≡ s ∷ []
top_single (t.block ss s) h = absurd (cc)
top_single (t.break s) h = refl
top_single (t.continue s) h = refl
top_single (t.pass s) h = refl
top_single (t.return x s) h = refl
top_single (t.load m ss s) h = refl
top_single (t.expression x s) h = refl
top_single (t.assign x a o y s) h = refl
top_single (t.when x a s) h = refl
top_single (t.either x a b s) h = refl
top_single (t.repeat x y a s) h = refl
top_single (t.define n ps a b s) h = refl

top_singles : (ss : Sequence) → AllIn (λ a. is_list a ≡ false) ss → all_top ss ≡ members ss
top_singles t.no_statements h = refl
top_singles (t.add_statement ss a) h = λ i. top_singles ss h.0 i ++ top_single a h.1 i

top_row : (s : Statement) → IsRow s → top_level s ≡ row_of s
top_row (t.block ss s) h = top_singles ss h
top_row (t.break s) h = refl
top_row (t.continue s) h = refl
top_row (t.pass s) h = refl
top_row (t.return x s) h = refl
top_row (t.load m ss s) h = refl
top_row (t.expression x s) h = refl
top_row (t.assign x a o y s) h = refl
top_row (t.when x a s) h = refl
top_row (t.either x a b s) h = refl
top_row (t.repeat x y a s) h = refl
top_row (t.define n ps a b s) h = refl

top_rows : (ss : Sequence) → AllIn IsRow ss → all_top ss ≡ flat_map row_of (members ss)
top_rows t.no_statements h = refl
top_rows (t.add_statement ss a) h =
    (λ i. top_rows ss h.0 i ++ top_row a h.1 i) ∙ ap (λ r. flat_map row_of (members ss) ++ r) (sym (append-nil (row_of a))) ∙ sym (flat_map-append row_of (members ss) (a ∷ []))

top_all : (s : Statement) → AreRows s → top_level s ≡ flat_map row_of (row_of s)
top_all (t.block ss s) h = top_rows ss h
top_all (t.break s) h = refl
top_all (t.continue s) h = refl
top_all (t.pass s) h = refl
top_all (t.return x s) h = refl
top_all (t.load m ss s) h = refl
top_all (t.expression x s) h = refl
top_all (t.assign x a o y s) h = refl
top_all (t.when x a s) h = refl
top_all (t.either x a b s) h = refl
top_all (t.repeat x y a s) h = refl
top_all (t.define n ps a b s) h = refl

-- ---- over trees of the code

abbrev Layer : Type 0
Layer = StmtP-F AstNoPayload (Unit {0}) (Unit {0}) (Unit {0}) (Unit {0}) (Unit {0}) (StmtP AstNoPayload (Unit {0}) (Unit {0}) (Unit {0}) (Unit {0}) (Unit {0})) (DefP AstNoPayload (Unit {0}) (Unit {0}) (Unit {0}) (Unit {0}) (Unit {0})) (ForP AstNoPayload (Unit {0}) (Unit {0}) (Unit {0}) (Unit {0}) (Unit {0}))

abbrev rolled : Extent → Layer → Stmt
rolled s l = record { span = s; node = roll-StmtP AstNoPayload (Unit {0}) (Unit {0}) (Unit {0}) (Unit {0}) (Unit {0}) l }

members_more : (ss : Sequence) (xs : List Stmt) → members (fold (λ ss x. t.add_statement ss (stmt_at x)) ss xs) ≡ members ss ++ map stmt_at xs
members_more ss [] = sym (append-nil (members ss))
members_more ss (x ∷ xs) = members_more (t.add_statement ss (stmt_at x)) xs ∙ append_assoc (members ss) (stmt_at x ∷ []) (map stmt_at xs)

alone : (s : Extent) (l : Layer) (a : Statement) → stmt_at (rolled s l) ≡ a → is_list a ≡ false → map stmt_at (rolled s l ∷ []) ≡ row_of (stmt_at (rolled s l))
alone s l a e h = sym (row_single (stmt_at (rolled s l)) (ap is_list e ∙ h))

row_layer : (s : Extent) (l : Layer) → map stmt_at (opened_layer (rolled s l) l) ≡ row_of (stmt_at (rolled s l))
row_layer s (layer.Statements xs) = sym (ap row_of (ap (λ n. stmt_view n s) (variant.rolls-Statements xs) ∙ stmt_view-Statements xs s) ∙ members_more t.no_statements xs.items)
row_layer s layer.Break = alone s layer.Break _ (ap (λ n. stmt_view n s) variant.rolls-Break ∙ stmt_view-Break AstNoPayload (Unit {0}) (Unit {0}) (Unit {0}) (Unit {0}) (Unit {0}) s) refl
row_layer s layer.Continue = alone s layer.Continue _ (ap (λ n. stmt_view n s) variant.rolls-Continue ∙ stmt_view-Continue AstNoPayload (Unit {0}) (Unit {0}) (Unit {0}) (Unit {0}) (Unit {0}) s) refl
row_layer s layer.Pass = alone s layer.Pass _ (ap (λ n. stmt_view n s) variant.rolls-Pass ∙ stmt_view-Pass AstNoPayload (Unit {0}) (Unit {0}) (Unit {0}) (Unit {0}) (Unit {0}) s) refl
row_layer s (layer.Return x) = alone s (layer.Return x) _ (ap (λ n. stmt_view n s) (variant.rolls-Return x) ∙ stmt_view-Return x s) refl
row_layer s (layer.Expression x) = alone s (layer.Expression x) _ (ap (λ n. stmt_view n s) (variant.rolls-Expression x) ∙ stmt_view-Expression x s) refl
row_layer s (layer.Assign x) = alone s (layer.Assign x) _ (ap (λ n. stmt_view n s) (variant.rolls-Assign x) ∙ stmt_view-Assign x s) refl
row_layer s (layer.AssignModify x o y) = alone s (layer.AssignModify x o y) _ (ap (λ n. stmt_view n s) (variant.rolls-AssignModify x o y) ∙ stmt_view-AssignModify x o y s) refl
row_layer s (layer.If c x) = alone s (layer.If c x) _ (ap (λ n. stmt_view n s) (variant.rolls-If c x) ∙ stmt_view-If c x s) refl
row_layer s (layer.IfElse c x) = alone s (layer.IfElse c x) _ (ap (λ n. stmt_view n s) (variant.rolls-IfElse c x) ∙ stmt_view-IfElse c x s) refl
row_layer s (layer.For x) = alone s (layer.For x) _ (ap (λ n. stmt_view n s) (variant.rolls-For x) ∙ stmt_view-For x s ∙ view-for x s) refl
row_layer s (layer.Def x) = alone s (layer.Def x) _ (ap (λ n. stmt_view n s) (variant.rolls-Def x) ∙ stmt_view-Def x s ∙ view-def x s) refl
row_layer s (layer.Load x) = alone s (layer.Load x) _ (ap (λ n. stmt_view n s) (variant.rolls-Load x) ∙ stmt_view-Load x s) refl

-- those of a statement that is a list, or itself, as plain data
opened_row : (x : Stmt) → map stmt_at (opened x) ≡ row_of (stmt_at x)
opened_row x =
    let l : Layer = out-StmtP AstNoPayload (Unit {0}) (Unit {0}) (Unit {0}) (Unit {0}) (Unit {0}) x.node in
    let e : rolled x.span l ≡ x = ap (λ n. record { span = x.span; node = n }) (roll-out-StmtP AstNoPayload (Unit {0}) (Unit {0}) (Unit {0}) (Unit {0}) (Unit {0}) x.node) in
    (λ i. map stmt_at (opened_layer (sym e i) l)) ∙ row_layer x.span l ∙ ap (λ y. row_of (stmt_at y)) e

opened_rows : (xs : List Stmt) → map stmt_at (flat_map opened xs) ≡ flat_map row_of (map stmt_at xs)
opened_rows [] = refl
opened_rows (x ∷ xs) = map-append stmt_at (opened x) (flat_map opened xs) ∙ (λ i. opened_row x i ++ opened_rows xs i)

pub tops : (x : Stmt) → IsFlat (stmt_at x) → map stmt_at (tops_of x) ≡ top_level (stmt_at x)
tops x h = opened_rows (opened x) ∙ ap (flat_map row_of) (opened_row x) ∙ sym (top_all (stmt_at x) h.rows)

-- the place of a statement

place_layer : (s : Extent) (l : Layer) → statement_place (stmt_at (rolled s l)) ≡ s
place_layer s (layer.Statements xs) = ap statement_place (ap (λ n. stmt_view n s) (variant.rolls-Statements xs) ∙ stmt_view-Statements xs s)
place_layer s layer.Break = ap statement_place (ap (λ n. stmt_view n s) variant.rolls-Break ∙ stmt_view-Break AstNoPayload (Unit {0}) (Unit {0}) (Unit {0}) (Unit {0}) (Unit {0}) s)
place_layer s layer.Continue = ap statement_place (ap (λ n. stmt_view n s) variant.rolls-Continue ∙ stmt_view-Continue AstNoPayload (Unit {0}) (Unit {0}) (Unit {0}) (Unit {0}) (Unit {0}) s)
place_layer s layer.Pass = ap statement_place (ap (λ n. stmt_view n s) variant.rolls-Pass ∙ stmt_view-Pass AstNoPayload (Unit {0}) (Unit {0}) (Unit {0}) (Unit {0}) (Unit {0}) s)
place_layer s (layer.Return x) = ap statement_place (ap (λ n. stmt_view n s) (variant.rolls-Return x) ∙ stmt_view-Return x s)
place_layer s (layer.Expression x) = ap statement_place (ap (λ n. stmt_view n s) (variant.rolls-Expression x) ∙ stmt_view-Expression x s)
place_layer s (layer.Assign x) = ap statement_place (ap (λ n. stmt_view n s) (variant.rolls-Assign x) ∙ stmt_view-Assign x s)
place_layer s (layer.AssignModify x o y) = ap statement_place (ap (λ n. stmt_view n s) (variant.rolls-AssignModify x o y) ∙ stmt_view-AssignModify x o y s)
place_layer s (layer.If c x) = ap statement_place (ap (λ n. stmt_view n s) (variant.rolls-If c x) ∙ stmt_view-If c x s)
place_layer s (layer.IfElse c x) = ap statement_place (ap (λ n. stmt_view n s) (variant.rolls-IfElse c x) ∙ stmt_view-IfElse c x s)
place_layer s (layer.For x) = ap statement_place (ap (λ n. stmt_view n s) (variant.rolls-For x) ∙ stmt_view-For x s ∙ view-for x s)
place_layer s (layer.Def x) = ap statement_place (ap (λ n. stmt_view n s) (variant.rolls-Def x) ∙ stmt_view-Def x s ∙ view-def x s)
place_layer s (layer.Load x) = ap statement_place (ap (λ n. stmt_view n s) (variant.rolls-Load x) ∙ stmt_view-Load x s)

pub place_is : (x : Stmt) → statement_place (stmt_at x) ≡ x.span
place_is x =
    let l : Layer = out-StmtP AstNoPayload (Unit {0}) (Unit {0}) (Unit {0}) (Unit {0}) (Unit {0}) x.node in
    let e : rolled x.span l ≡ x = ap (λ n. record { span = x.span; node = n }) (roll-out-StmtP AstNoPayload (Unit {0}) (Unit {0}) (Unit {0}) (Unit {0}) (Unit {0}) x.node) in
    ap (λ y. statement_place (stmt_at y)) (sym e) ∙ place_layer x.span l
