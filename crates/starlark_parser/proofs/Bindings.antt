-- What loads bind, symbol by symbol, and loads variant by variant.
use denote.Ref.{Bor}
use Rattle.std.proofs.Common.{◌≡◌, ◌<◌, ◌≤◌, ◌+◌, ◌++◌, ℕ, List, [], ◌∷◌, append_assoc, flat_map, fold, get_or, length, map, take, take_all, inl, inr, refl, ap, sym, ◌∙◌, subst}
use Rattle.std.specs.List.{All}
use Rattle.std.specs.Prelude.{string_bytes}
use Rattle.std.specs.Str.{IsCharBoundary, bytes_eq}
use Rattle.std.specs.declared.alloc.Global.{Global}
use Rattle.std.specs.declared.vec.Vec.{Vec}
use Rattle.std.proofs.lemmas.Bool.{cases_Bool}
use Rattle.std.proofs.lemmas.List.{append-nil, map-append, take_more}
use Rattle.std.proofs.lemmas.List.Sums.{fold-append}
use Rattle.std.proofs.lemmas.List.Elements.{All-append, All-cons, All-head, All-nil}
use Rattle.indexmap.specs.IndexMap.{insert_entry}
use Rattle.starlark_place.specs.Place.{File, Holds, file_place}
use Rattle.starlark_ast.specs.Tree as t
use Rattle.starlark_ast.specs.Tree.{Sequence, Statement}
use Rattle.starlark_ast.specs.View.{stmt_at, symbols}
use Rattle.starlark_ast.specs.declared.ast.AstNoPayload.{AstNoPayload}
use Rattle.starlark_ast.specs.declared.ast.LoadArgP.{LoadArgP}
use Rattle.starlark_ast.specs.declared.ast.StmtP.TheVariants as variant
use Rattle.starlark_grammar.specs.Ends.{SequenceAt, StatementAt}
use Rattle.starlark_parser.specs.Loaded.{Loaded, all_loads, bindings, bound_too, loads_in}
use Rattle.starlark_parser.specs.Shown.{binding, loaded}
use Rattle.starlark_parser.specs.declared.loads.AstLoad.{AstLoad}
use Rattle.starlark_grammar.proofs.Alls.{All-flat_map}
use Rattle.starlark_grammar.proofs.Variants.{Load, Stmt, count, falls, of_block, of_load}

abbrev Arg : Type 0
Arg = LoadArgP AstNoPayload (Unit {0}) (Unit {0}) (Unit {0}) (Unit {0}) (Unit {0})

abbrev Text : Type 0
Text = Bor (List ℕ)

-- ---- one more symbol

one_bound : (es : List (Text × Text)) (k v : Text) → map binding (insert_entry (λ x y. bytes_eq x.now y.now) es k v) ≡ bound_too (map binding es) (record { local = k.now; their = v.now })
one_bound [] k v = refl
one_bound (e ∷ es) k v = elim (cases_Bool (bytes_eq k.now e.0.now)) [
  | inl h ↦ rw h refl
  | inr h ↦ rw h (ap (λ r. binding e ∷ r) (one_bound es k v))
]

pub bound_more : (args : List Arg) (i : ℕ) (x : Arg) (es fs : List (Text × Text)) (k v : Text) → i < length args → x ≡ get_or args i x → k.now ≡ string_bytes x.local.node.ident → v.now ≡ string_bytes x.their.node
    → fs ≡ insert_entry (λ x y. bytes_eq x.now y.now) es k v → map binding es ≡ bindings (symbols (take i args)) → map binding fs ≡ bindings (symbols (take (i + 1) args))
bound_more args i x es fs k v below is name their e h =
    ap (map binding) e ∙ one_bound es k v ∙ (λ j. bound_too (h j) (record { local = name j; their = their j }))
    ∙ sym (ap (λ xs. bindings (symbols xs)) (take_more args i x below ∙ ap (λ y. take i args ++ y ∷ []) (sym is)) ∙ ap bindings (fold-append _ t.no_symbols (take i args) (x ∷ [])))

-- ---- loads

abbrev IsHeld : File → Loaded → Type 0
IsHeld f x = Holds f.source x.at.extent

mutual
  -- in a tree of a text all names of modules are held
  pub loads_held : (f : File) (a : Statement) → StatementAt (IsCharBoundary f.source) a → All (IsHeld f) (loads_in f a)
  loads_held f (t.load (t.name_at n u) ss s) h = All-cons (IsHeld f) _ [] (record { begin = h.1.0; end = h.1.1 }) (All-nil (IsHeld f))
  loads_held f (t.block ss s) h = all_loads_held f ss h.1
  loads_held f (t.break s) h = All-nil (IsHeld f)
  loads_held f (t.continue s) h = All-nil (IsHeld f)
  loads_held f (t.pass s) h = All-nil (IsHeld f)
  loads_held f (t.return x s) h = All-nil (IsHeld f)
  loads_held f (t.expression x s) h = All-nil (IsHeld f)
  loads_held f (t.assign x a o y s) h = All-nil (IsHeld f)
  loads_held f (t.when x a s) h = All-nil (IsHeld f)
  loads_held f (t.either x a b s) h = All-nil (IsHeld f)
  loads_held f (t.repeat x y a s) h = All-nil (IsHeld f)
  loads_held f (t.define n ps a b s) h = All-nil (IsHeld f)

  all_loads_held : (f : File) (ss : Sequence) → SequenceAt (IsCharBoundary f.source) ss → All (IsHeld f) (all_loads f ss)
  all_loads_held f t.no_statements h = All-nil (IsHeld f)
  all_loads_held f (t.add_statement ss a) h = All-append (IsHeld f) (all_loads f ss) (loads_in f a) (all_loads_held f ss h.0) (loads_held f a h.1)

pub load_held : (f : File) (s : Stmt) (x : Load) → s.node ≡ variant.Load x → All (IsHeld f) (loads_in f (stmt_at s)) → Holds f.source x.module.span
load_held f s x is h = All-head (IsHeld f) _ [] (subst (λ a. All (IsHeld f) (loads_in f a)) (of_load s x is) h)

-- a load alone, behind others
pub one_load : (f : File) (s : Stmt) (x : Load) (l : AstLoad) (xs ys : List AstLoad) → s.node ≡ variant.Load x → ys ≡ xs ++ l ∷ [] → l.span ≡ file_place f x.module.span → l.module_id.now ≡ string_bytes x.module.node → map binding l.symbols.entries ≡ bindings (symbols x.args.items)
    → map loaded ys ≡ map loaded xs ++ loads_in f (stmt_at s)
one_load f s x l xs ys is e at name binds =
    ap (map loaded) e ∙ map-append loaded xs (l ∷ []) ∙ (λ i. map loaded xs ++ record { name = name i; at = at i; binds = binds i } ∷ []) ∙ sym (ap (λ a. map loaded xs ++ loads_in f a) (of_load s x is))

-- ---- those of a list of statements

block_more : (f : File) (ss : Sequence) (xs : List Stmt) → all_loads f (fold (λ ss x. t.add_statement ss (stmt_at x)) ss xs) ≡ all_loads f ss ++ flat_map (λ x. loads_in f (stmt_at x)) xs
block_more f ss [] = sym (append-nil (all_loads f ss))
block_more f ss (x ∷ xs) = block_more f (t.add_statement ss (stmt_at x)) xs ∙ append_assoc (all_loads f ss) (loads_in f (stmt_at x)) (flat_map (λ x. loads_in f (stmt_at x)) xs)

in_block : (f : File) (s : Stmt) (xs : Vec Stmt Global) → s.node ≡ variant.Statements xs → loads_in f (stmt_at s) ≡ flat_map (λ x. loads_in f (stmt_at x)) xs.items
in_block f s xs is = ap (loads_in f) (of_block s xs is) ∙ block_more f t.no_statements xs.items

-- one of them
pub one_of : (f : File) (s : Stmt) (xs : Vec Stmt Global) (ys : List Stmt) (i : ℕ) (x : Stmt) (n : ℕ) → s.node ≡ variant.Statements xs → ys ≡ xs.items → i < length ys → x ≡ get_or ys i x → count (stmt_at s) ≡ n → All (IsHeld f) (loads_in f (stmt_at s)) → (count (stmt_at x) < n) × All (IsHeld f) (loads_in f (stmt_at x))
one_of f s xs ys i x n is all below here measure h = (
  falls s xs ys i x n is all below here measure,
  subst (λ y. All (IsHeld f) (loads_in f (stmt_at y))) (sym here) (All-flat_map (IsHeld f) (λ x. loads_in f (stmt_at x)) ys i x below (subst (All (IsHeld f)) (in_block f s xs is ∙ ap (flat_map (λ x. loads_in f (stmt_at x))) (sym all)) h)),
)

-- all of them
pub all_of : (f : File) (s : Stmt) (xs : Vec Stmt Global) (ys : List Stmt) (i : ℕ) (ps qs : List Loaded) → s.node ≡ variant.Statements xs → ys ≡ xs.items → length ys ≤ i → qs ≡ ps ++ flat_map (λ x. loads_in f (stmt_at x)) (take i ys) → qs ≡ ps ++ loads_in f (stmt_at s)
all_of f s xs ys i ps qs is all end h = h ∙ ap (λ zs. ps ++ zs) (ap (flat_map (λ x. loads_in f (stmt_at x))) (take_all i ys end ∙ all) ∙ sym (in_block f s xs is))
