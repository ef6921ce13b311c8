-- Where statements stand, variant by variant.
use Rattle.std.proofs.Common.{◌≡◌, ◌<◌, ◌≤◌, ◌+◌, ◌++◌, ℕ, suc, List, [], ◌∷◌, append_assoc, flat_map, fold, get_or, length, map, take, take_all, ap, sym, ◌∙◌, arith, subst}
use Rattle.std.specs.List.{All}
use Rattle.std.specs.Str.{IsCharBoundary}
use Rattle.std.specs.declared.alloc.Global.{Global}
use Rattle.std.specs.declared.boxed.Box.{Box}
use Rattle.std.specs.declared.vec.Vec.{Vec}
use Rattle.std.proofs.lemmas.List.{append-nil, map-append}
use Rattle.std.proofs.lemmas.List.Elements.{All-append, All-cons, All-head, All-nil, All-tail}
use Rattle.starlark_place.specs.Place.{Extent, File, FilePlace, Holds, file_place}
use Rattle.starlark_ast.specs.StatementViews.{stmt_view-Assign, stmt_view-AssignModify, stmt_view-Break, stmt_view-Continue, stmt_view-Expression, stmt_view-Load, stmt_view-Pass, stmt_view-Return}
use Rattle.starlark_ast.specs.Tree as t
use Rattle.starlark_ast.specs.Tree.{Sequence, Statement}
use Rattle.starlark_ast.specs.View.{stmt_at, stmt_view}
use Rattle.starlark_ast.specs.declared.ast.AstNoPayload.{AstNoPayload}
use Rattle.starlark_ast.specs.declared.ast.DefP.{out-DefP}
use Rattle.starlark_ast.specs.declared.ast.ForP.{out-ForP}
use Rattle.starlark_ast.specs.declared.ast.StmtP.{StmtP-F, out-StmtP, roll-StmtP, roll-out-StmtP}
use Rattle.starlark_ast.specs.declared.ast.StmtP.TheOpen as layer
use Rattle.starlark_ast.specs.declared.ast.StmtP.TheVariants as variant
use Rattle.starlark_grammar.specs.Ends.{SequenceAt, StatementAt}
use Rattle.starlark_parser.specs.Locations.{all_locations, locations}
use Rattle.starlark_grammar.proofs.Alls.{All-back, All-flat_map, All-front}
use Rattle.starlark_grammar.proofs.Variants.{Def, Expr, For, Node, Stmt, count, falls, of_block, of_def, of_either, of_for, of_if}

-- ---- in a tree of a text all are held

module _ (text : List ℕ) where
  more_held : (s : Extent) (ss : List Extent) → IsCharBoundary text s.begin × IsCharBoundary text s.end → All (Holds text) ss → All (Holds text) (s ∷ ss)
  more_held s ss h k = All-cons (Holds text) s ss (record { begin = h.0; end = h.1 }) k

  one_held : (s : Extent) → IsCharBoundary text s.begin × IsCharBoundary text s.end → All (Holds text) (s ∷ [])
  one_held s h = more_held s [] h (All-nil (Holds text))

  mutual
    pub locations_held : (a : Statement) → StatementAt (IsCharBoundary text) a → All (Holds text) (locations a)
    locations_held (t.break s) h = one_held s h
    locations_held (t.continue s) h = one_held s h
    locations_held (t.pass s) h = one_held s h
    locations_held (t.return x s) h = one_held s h.0
    locations_held (t.load m ss s) h = one_held s h.0
    locations_held (t.expression x s) h = one_held s h.0
    locations_held (t.assign x a o y s) h = one_held s h.0
    locations_held (t.when x a s) h = more_held s (locations a) h.0 (locations_held a h.2)
    locations_held (t.either x a b s) h = more_held s (locations a ++ locations b) h.0 (All-append (Holds text) (locations a) (locations b) (locations_held a h.2) (locations_held b h.3))
    locations_held (t.repeat x y a s) h = more_held s (locations a) h.0 (locations_held a h.3)
    locations_held (t.define n ps a b s) h = more_held s (locations b) h.0 (locations_held b h.4)
    locations_held (t.block ss s) h = all_locations_held ss h.1

    all_locations_held : (ss : Sequence) → SequenceAt (IsCharBoundary text) ss → All (Holds text) (all_locations ss)
    all_locations_held t.no_statements h = All-nil (Holds text)
    all_locations_held (t.add_statement ss a) h = All-append (Holds text) (all_locations ss) (locations a) (all_locations_held ss h.0) (locations_held a h.1)

-- ---- those of a list of statements

block_more : (ss : Sequence) (xs : List Stmt) → all_locations (fold (λ ss x. t.add_statement ss (stmt_at x)) ss xs) ≡ all_locations ss ++ flat_map (λ x. locations (stmt_at x)) xs
block_more ss [] = sym (append-nil (all_locations ss))
block_more ss (x ∷ xs) = block_more (t.add_statement ss (stmt_at x)) xs ∙ append_assoc (all_locations ss) (locations (stmt_at x)) (flat_map (λ x. locations (stmt_at x)) xs)

in_block : (s : Stmt) (xs : Vec Stmt Global) → s.node ≡ variant.Statements xs → locations (stmt_at s) ≡ flat_map (λ x. locations (stmt_at x)) xs.items
in_block s xs is = ap locations (of_block s xs is) ∙ block_more t.no_statements xs.items

-- one of them
pub one_of : (text : List ℕ) (s : Stmt) (xs : Vec Stmt Global) (ys : List Stmt) (i : ℕ) (x : Stmt) (n : ℕ) → s.node ≡ variant.Statements xs → ys ≡ xs.items → i < length ys → x ≡ get_or ys i x → count (stmt_at s) ≡ n → All (Holds text) (locations (stmt_at s)) → (count (stmt_at x) < n) × All (Holds text) (locations (stmt_at x))
one_of text s xs ys i x n is all below here measure h = (
  falls s xs ys i x n is all below here measure,
  subst (λ y. All (Holds text) (locations (stmt_at y))) (sym here) (All-flat_map (Holds text) (λ x. locations (stmt_at x)) ys i x below (subst (All (Holds text)) (in_block s xs is ∙ ap (flat_map (λ x. locations (stmt_at x))) (sym all)) h)),
)

-- all of them
pub all_of : (f : File) (s : Stmt) (xs : Vec Stmt Global) (ys : List Stmt) (i : ℕ) (ps qs : List FilePlace) → s.node ≡ variant.Statements xs → ys ≡ xs.items → length ys ≤ i → qs ≡ ps ++ map (file_place f) (flat_map (λ x. locations (stmt_at x)) (take i ys)) → qs ≡ ps ++ map (file_place f) (locations (stmt_at s))
all_of f s xs ys i ps qs is all end h = h ∙ ap (λ zs. ps ++ map (file_place f) zs) (ap (flat_map (λ x. locations (stmt_at x))) (take_all i ys end ∙ all) ∙ sym (in_block s xs is))

-- ---- a statement that is no list comes first

behind_first : (a : Statement) (s : Extent) (xs : List Extent) → locations a ≡ s ∷ xs → (text : List ℕ) → All (Holds text) (locations a) → All (Holds text) xs
behind_first a s xs e text h = All-tail (Holds text) s xs (subst (All (Holds text)) e h)

-- the places after that of a statement, and those of what stands in it
pub behind : (f : File) (a : Statement) (s : Extent) (xs : List Extent) (ps qs rs : List FilePlace) → locations a ≡ s ∷ xs → qs ≡ ps ++ file_place f s ∷ [] → rs ≡ qs ++ map (file_place f) xs → rs ≡ ps ++ map (file_place f) (locations a)
behind f a s xs ps qs rs e one more = more ∙ ap (λ zs. zs ++ map (file_place f) xs) one ∙ append_assoc ps (file_place f s ∷ []) (map (file_place f) xs) ∙ ap (λ zs. ps ++ map (file_place f) zs) (sym e)

-- those of two statements
pub both : (f : File) (us vs : List Extent) (ps qs rs : List FilePlace) → qs ≡ ps ++ map (file_place f) us → rs ≡ qs ++ map (file_place f) vs → rs ≡ ps ++ map (file_place f) (us ++ vs)
both f us vs ps qs rs first second = second ∙ ap (λ zs. zs ++ map (file_place f) vs) first ∙ append_assoc ps (map (file_place f) us) (map (file_place f) vs) ∙ ap (λ zs. ps ++ zs) (sym (map-append (file_place f) us vs))

module _ (text : List ℕ) (s : Stmt) (n : ℕ) (measure : count (stmt_at s) ≡ n) (h : All (Holds text) (locations (stmt_at s))) where
  pub if_body : (c : Expr) (x : Box Stmt Global) (y : Stmt) → s.node ≡ variant.If c x → y ≡ x.value → (count (stmt_at y) < n) × All (Holds text) (locations (stmt_at y))
  if_body c x y is here =
      let whole : n ≡ suc (count (stmt_at x.value)) = sym measure ∙ ap count (of_if s c x is) in
      let same : count (stmt_at y) ≡ count (stmt_at x.value) = ap (λ y. count (stmt_at y)) here in
      (omega (arith, whole, same), subst (λ y. All (Holds text) (locations (stmt_at y))) (sym here) (behind_first (stmt_at s) s.span (locations (stmt_at x.value)) (ap locations (of_if s c x is)) text h))

  pub either_bodies : (c : Expr) (x : Box (Stmt × Stmt) Global) → s.node ≡ variant.IfElse c x → (count (stmt_at x.value.0) < n) × (count (stmt_at x.value.1) < n) × All (Holds text) (locations (stmt_at x.value.0)) × All (Holds text) (locations (stmt_at x.value.1))
  either_bodies c x is =
      let whole : n ≡ suc (count (stmt_at x.value.0) + count (stmt_at x.value.1)) = sym measure ∙ ap count (of_either s c x is) in
      let both : All (Holds text) (locations (stmt_at x.value.0) ++ locations (stmt_at x.value.1)) = behind_first (stmt_at s) s.span (locations (stmt_at x.value.0) ++ locations (stmt_at x.value.1)) (ap locations (of_either s c x is)) text h in
      (omega (arith, whole), omega (arith, whole), All-front (Holds text) (locations (stmt_at x.value.0)) (locations (stmt_at x.value.1)) both, All-back (Holds text) (locations (stmt_at x.value.0)) (locations (stmt_at x.value.1)) both)

  pub either_first : (c : Expr) (x : Box (Stmt × Stmt) Global) (y : Stmt × Stmt) → s.node ≡ variant.IfElse c x → y ≡ x.value → (count (stmt_at y.0) < n) × All (Holds text) (locations (stmt_at y.0))
  either_first c x y is here = subst (λ y. (count (stmt_at y.0) < n) × All (Holds text) (locations (stmt_at y.0))) (sym here) ((either_bodies c x is).0, (either_bodies c x is).2)

  pub either_second : (c : Expr) (x : Box (Stmt × Stmt) Global) (y : Stmt × Stmt) → s.node ≡ variant.IfElse c x → y ≡ x.value → (count (stmt_at y.1) < n) × All (Holds text) (locations (stmt_at y.1))
  either_second c x y is here = subst (λ y. (count (stmt_at y.1) < n) × All (Holds text) (locations (stmt_at y.1))) (sym here) ((either_bodies c x is).1, (either_bodies c x is).3)

  pub for_body : (x : For) (y : Stmt) → s.node ≡ variant.For x → y ≡ (out-ForP AstNoPayload (Unit {0}) (Unit {0}) (Unit {0}) (Unit {0}) (Unit {0}) x).body.value → (count (stmt_at y) < n) × All (Holds text) (locations (stmt_at y))
  for_body x y is here =
      let z : Stmt = (out-ForP AstNoPayload (Unit {0}) (Unit {0}) (Unit {0}) (Unit {0}) (Unit {0}) x).body.value in
      let whole : n ≡ suc (count (stmt_at z)) = sym measure ∙ ap count (of_for s x is) in
      let same : count (stmt_at y) ≡ count (stmt_at z) = ap (λ y. count (stmt_at y)) here in
      (omega (arith, whole, same), subst (λ y. All (Holds text) (locations (stmt_at y))) (sym here) (behind_first (stmt_at s) s.span (locations (stmt_at z)) (ap locations (of_for s x is)) text h))

  pub def_body : (x : Def) (y : Stmt) → s.node ≡ variant.Def x → y ≡ (out-DefP AstNoPayload (Unit {0}) (Unit {0}) (Unit {0}) (Unit {0}) (Unit {0}) x).body.value → (count (stmt_at y) < n) × All (Holds text) (locations (stmt_at y))
  def_body x y is here =
      let z : Stmt = (out-DefP AstNoPayload (Unit {0}) (Unit {0}) (Unit {0}) (Unit {0}) (Unit {0}) x).body.value in
      let whole : n ≡ suc (count (stmt_at z)) = sym measure ∙ ap count (of_def s x is) in
      let same : count (stmt_at y) ≡ count (stmt_at z) = ap (λ y. count (stmt_at y)) here in
      (omega (arith, whole, same), subst (λ y. All (Holds text) (locations (stmt_at y))) (sym here) (behind_first (stmt_at s) s.span (locations (stmt_at z)) (ap locations (of_def s x is)) text h))

-- ---- its own place

abbrev Layer : Type 0
Layer = StmtP-F AstNoPayload (Unit {0}) (Unit {0}) (Unit {0}) (Unit {0}) (Unit {0}) Node Def For

abbrev rolled : Layer → Node
rolled l = roll-StmtP AstNoPayload (Unit {0}) (Unit {0}) (Unit {0}) (Unit {0}) (Unit {0}) l

at_first : (text : List ℕ) (a : Statement) (s : Extent) (xs : List Extent) → locations a ≡ s ∷ xs → All (Holds text) (locations a) → Holds text s
at_first text a s xs e h = All-head (Holds text) s xs (subst (All (Holds text)) e h)

first_of : (text : List ℕ) (l : Layer) (s : Extent) → ((xs : Vec Stmt Global) → rolled l ≡ variant.Statements xs → ⊥) → All (Holds text) (locations (stmt_view (rolled l) s)) → Holds text s
first_of text (layer.Statements xs) s other h = absurd (other xs (variant.rolls-Statements xs))
first_of text layer.Break s other h = at_first text (stmt_view (rolled layer.Break) s) s [] (ap locations (ap (λ n. stmt_view n s) variant.rolls-Break ∙ stmt_view-Break AstNoPayload (Unit {0}) (Unit {0}) (Unit {0}) (Unit {0}) (Unit {0}) s)) h
first_of text layer.Continue s other h = at_first text (stmt_view (rolled layer.Continue) s) s [] (ap locations (ap (λ n. stmt_view n s) variant.rolls-Continue ∙ stmt_view-Continue AstNoPayload (Unit {0}) (Unit {0}) (Unit {0}) (Unit {0}) (Unit {0}) s)) h
first_of text layer.Pass s other h = at_first text (stmt_view (rolled layer.Pass) s) s [] (ap locations (ap (λ n. stmt_view n s) variant.rolls-Pass ∙ stmt_view-Pass AstNoPayload (Unit {0}) (Unit {0}) (Unit {0}) (Unit {0}) (Unit {0}) s)) h
first_of text (layer.Return x) s other h = at_first text (stmt_view (rolled (layer.Return x)) s) s [] (ap locations (ap (λ n. stmt_view n s) (variant.rolls-Return x) ∙ stmt_view-Return x s)) h
first_of text (layer.Expression x) s other h = at_first text (stmt_view (rolled (layer.Expression x)) s) s [] (ap locations (ap (λ n. stmt_view n s) (variant.rolls-Expression x) ∙ stmt_view-Expression x s)) h
first_of text (layer.Assign x) s other h = at_first text (stmt_view (rolled (layer.Assign x)) s) s [] (ap locations (ap (λ n. stmt_view n s) (variant.rolls-Assign x) ∙ stmt_view-Assign x s)) h
first_of text (layer.AssignModify x o y) s other h = at_first text (stmt_view (rolled (layer.AssignModify x o y)) s) s [] (ap locations (ap (λ n. stmt_view n s) (variant.rolls-AssignModify x o y) ∙ stmt_view-AssignModify x o y s)) h
first_of text (layer.Load x) s other h = at_first text (stmt_view (rolled (layer.Load x)) s) s [] (ap locations (ap (λ n. stmt_view n s) (variant.rolls-Load x) ∙ stmt_view-Load x s)) h
first_of text (layer.If c x) s other h = at_first text (stmt_view (rolled (layer.If c x)) s) s _ (ap locations (of_if (record { span = s; node = rolled (layer.If c x) }) c x (variant.rolls-If c x))) h
first_of text (layer.IfElse c x) s other h = at_first text (stmt_view (rolled (layer.IfElse c x)) s) s _ (ap locations (of_either (record { span = s; node = rolled (layer.IfElse c x) }) c x (variant.rolls-IfElse c x))) h
first_of text (layer.For x) s other h = at_first text (stmt_view (rolled (layer.For x)) s) s _ (ap locations (of_for (record { span = s; node = rolled (layer.For x) }) x (variant.rolls-For x))) h
first_of text (layer.Def x) s other h = at_first text (stmt_view (rolled (layer.Def x)) s) s _ (ap locations (of_def (record { span = s; node = rolled (layer.Def x) }) x (variant.rolls-Def x))) h

pub own_place : (text : List ℕ) (s : Stmt) → ((xs : Vec Stmt Global) → s.node ≡ variant.Statements xs → ⊥) → All (Holds text) (locations (stmt_at s)) → Holds text s.span
own_place text s other h =
    let back : rolled (out-StmtP AstNoPayload (Unit {0}) (Unit {0}) (Unit {0}) (Unit {0}) (Unit {0}) s.node) ≡ s.node = roll-out-StmtP AstNoPayload (Unit {0}) (Unit {0}) (Unit {0}) (Unit {0}) (Unit {0}) s.node in
    first_of text (out-StmtP AstNoPayload (Unit {0}) (Unit {0}) (Unit {0}) (Unit {0}) (Unit {0}) s.node) s.span (λ xs e. other xs (sym back ∙ e)) (subst (λ n. All (Holds text) (locations (stmt_view n s.span))) (sym back) h)
