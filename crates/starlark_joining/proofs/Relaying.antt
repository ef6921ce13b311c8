-- The machine reads tokens with other line ends as it reads the first, places aside.
use Rattle.std.proofs.Common.{ℕ, ◌≡◌, ◌⊎◌, ◌∷◌, ◌++◌, ◌∙◌, [], List, Option, Some, None, Bool, true, false, refl, ap, sym, subst, subst₂, inl, inr}
use Rattle.std.proofs.lemmas.Bool.{false≢true}
use Rattle.starlark_lexer.specs.Items.{Lexeme, newline, dedent, keyword_elif, keyword_else, Item, item}
use Rattle.starlark_ast.specs.Tree.{Sequence, Statement, add_statement, no_statements, when}
use Rattle.starlark_grammar.specs.Spans.{stretch}
use Rattle.starlark_grammar.specs.Events.{looped}
use Rattle.starlark_grammar.specs.Nodes.{block_of}
use Rattle.starlark_grammar.specs.Grammar.{Derives}
use Rattle.starlark_grammar.specs.Frames.{Blocks, State, at_line, behind_for, behind_if, wants_indent}
use Rattle.starlark_grammar.specs.Machine.{settled, move, step}
use Rattle.starlark_grammar.specs.Runs.{met, Trace, Accepts, bottom, run, initial}
use Rattle.starlark_grammar.proofs.Sound.{bottom_note}
use Rattle.starlark_joining.specs.Same.{SameStatement, same_when, same_no_statements}
use Rattle.starlark_joining.specs.Joined.{behind, no_items, Greater}
use Rattle.starlark_joining.specs.Relaid.{Anywhere, NoElse, is_else, ends_row, Relaid, no_token, same_token, left_out, put_in, put_before, DerivesSame}
use Rattle.starlark_joining.proofs.Walking.{runs_on, halts}
use Rattle.starlark_joining.proofs.Level.{no_stuck}
use Rattle.starlark_joining.proofs.Rowed.{for_runs, if_runs}
use Rattle.starlark_joining.proofs.Rows.{Row, row_line, row_for, row_if, row_indent, RowOr, newline_row}
use Rattle.starlark_joining.proofs.Dedents.{dedent_stands, dedent_row}
use Rattle.starlark_joining.proofs.SameNodes.{stretch_same, block_same}
use Rattle.starlark_joining.proofs.SameFrames.{b_outer, e_outer, SameState, s_line, s_for, s_if, s_indent, SameStep, both_stop, both_go}
use Rattle.starlark_joining.proofs.SameParts.{end_of_block, settled_same}
use Rattle.starlark_joining.proofs.SameMoves.{move_same}
use Rattle.starlark_joining.proofs.SameRuns.{runs_same}
use Rattle.starlark_joining.proofs.SameTraces.{both_accept}

anywhere : Greater Anywhere
anywhere i j u v p q = tt

abbrev Alike : State → State → Type 0
Alike a c = SameState Anywhere no_statements a c

-- it accepts with that tree but for places
record Accepted (raw : Statement) (w : Trace) : Type 0 where
  tree : Statement
  accepts : bottom w ≡ Accepts tree
  same : SameStatement Anywhere raw tree

-- the second accepts where the first does
record Follows (v w : Trace) : Type 0 where
  follows : (raw : Statement) → bottom v ≡ Accepts raw → Accepted raw w

carried : {v w x y : Trace} → bottom v ≡ bottom x → bottom w ≡ bottom y → Follows x y → Follows v w
carried p q f = record { follows = λ raw h. let a = f.follows raw (sym p ∙ h) in record { tree = a.tree; accepts = q ∙ a.accepts; same = a.same } }

-- past a token, and past what is met
past : (s u : State) (x : Item) (xs : List Item) → step s x ≡ Some u → bottom (run s (x ∷ xs)) ≡ bottom (run u xs)
past s u x xs e = ap bottom (runs_on s u x xs e) ∙ bottom_note (x ∷ xs) (met s (Some x.lexeme)) (run u xs)

-- at the end
behind_none : (ss : Sequence) → behind no_statements ss ≡ ss
behind_none no_statements = refl
behind_none (add_statement ss s) = ap (λ rs. add_statement rs s) (behind_none ss)

at_end : {a c : State} → Alike a c → Follows (run a []) (run c [])
at_end l = record {
  follows = λ raw h.
      let b = both_accept raw (runs_same anywhere l no_items) h in
      record {
        tree = block_of (behind no_statements b.second) b.second_end;
        accepts = b.accepts;
        same = subst₂ (λ s ss. SameStatement Anywhere s (block_of ss b.second_end)) (sym b.is_first) (sym (behind_none b.second)) (block_same anywhere b.same tt);
      };
}

-- behind the same token
row_behind : (s u : State) (x : Lexeme) (i j : ℕ) → move s x i j ≡ Some u → ends_row x ≡ true → (e : ℕ) × Row e u
row_behind s u newline i j g n = (j, subst (RowOr j) g (newline_row s i j))
row_behind s u dedent i j g n = (j, subst (RowOr j) g (dedent_row s i j))
row_behind s u _ i j g n = absurd (false≢true n)

stepped : {a c : State} (x : Lexeme) (i j u v : ℕ) (xs ys : List Item) → Alike a c → ((s t : State) → move a x i j ≡ Some s → Alike s t → Follows (run s xs) (run t ys)) → Follows (run a (item i x j ∷ xs)) (run c (item u x v ∷ ys))
stepped {a} {c} x i j u v xs ys l go = by (move_same anywhere x l tt tt) refl refl
  where
    by : {o p : Option State} → SameStep Anywhere no_statements o p → move a x i j ≡ o → move c x u v ≡ p → Follows (run a (item i x j ∷ xs)) (run c (item u x v ∷ ys))
    by both_stop g h = record { follows = λ raw q. no_stuck (halts a (item i x j) xs g) q }
    by (both_go {s} {u = t} m) g h = carried (past a s (item i x j) xs g) (past c t (item u x v) ys h) (go s t g m)

-- at a line's beginning no `else` comes
no_else : {b : Bool} {xs ys : List Item} → Relaid b xs ys → (k : Blocks) (e : ℕ) (raw : Statement) → bottom (run (at_line k e) xs) ≡ Accepts raw → NoElse ys
no_else no_token k e raw h = tt
no_else (same_token {i} {j} {x} {xs} z) k e raw h = by x h
  where
    by : (y : Lexeme) → bottom (run (at_line k e) (item i y j ∷ xs)) ≡ Accepts raw → is_else y ≡ false
    by keyword_else g = no_stuck (halts (at_line k e) (item i keyword_else j) xs refl) g
    by keyword_elif g = no_stuck (halts (at_line k e) (item i keyword_elif j) xs refl) g
    by y g = refl
no_else (left_out {i} {j} {xs} z) k e raw h = no_else z k j raw (sym (past (at_line k e) (at_line k j) (item i newline j) xs refl) ∙ h)
no_else (put_in n z) k e raw h = refl
no_else (put_before z) k e raw h = refl

-- both states where a line may begin, and how it goes on
abbrev Goes : List Item → List Item → Type 0
Goes xs ys = (s t : State) (e : ℕ) → Alike s t → Row e s → Follows (run s xs) (run t ys)

-- a line end is left out
leaves : {e : ℕ} {a c : State} (i j : ℕ) {xs ys : List Item} → Row e a → Alike a c → Relaid true xs ys → Goes xs ys → Follows (run a (item i newline j ∷ xs)) (run c ys)
leaves {e} i j {xs} row_line (s_line {f} {k} {j = l} m g) z go = carried (past (at_line k e) (at_line k j) (item i newline j) xs refl) refl (go (at_line k j) (at_line l f) j (s_line m (end_of_block k tt)) row_line)
leaves {e} i j {xs} {ys} row_for (s_for {l = q} {o} {f} {k} {j = l} w m g) z go = carried (past (behind_for q k e) (at_line k j) (item i newline j) xs refl) (ap bottom (for_runs o l f ys) ∙ bottom_note ys (Some (looped o)) (run (at_line l f) ys)) (go (at_line k j) (at_line l f) j (s_line m (end_of_block k tt)) row_line)
leaves {e} i j {xs} {ys} row_if (s_if {q} {r} {s} {t} {m} {n} {f} {k} {j = l} w v p g h) z go =
    let here = settled k (when q s (stretch m e)) e in
    let there = settled l (when r t (stretch n f)) f in
    let over = past (behind_if q s m e k) (at_line here j) (item i newline j) xs refl in
    let on = go (at_line here j) (at_line there f) j (s_line (settled_same anywhere h (same_when w v (stretch_same anywhere p g)) g) (end_of_block here tt)) row_line in
    record {
      follows = λ raw x.
          let both : Follows (run (behind_if q s m e k) (item i newline j ∷ xs)) (run (behind_if r t n f l) ys) = carried over (ap bottom (if_runs r t n f l ys (no_else z here j raw (sym over ∙ x)))) on in
          both.follows raw x;
    }
leaves {e} i j {xs} row_indent (s_indent {k} {j = l} m) z go = carried (past (wants_indent k) (wants_indent k) (item i newline j) xs refl) refl (go (wants_indent k) (wants_indent l) j (s_indent m) row_indent)

-- a line end is put in
puts : {e : ℕ} {a c : State} (u v : ℕ) (xs ys : List Item) → Row e a → Alike a c → NoElse xs → Goes xs ys → Follows (run a xs) (run c (item u newline v ∷ ys))
puts {e} u v xs ys row_line (s_line {f} {k} {j = l} m g) n go = carried refl (past (at_line l f) (at_line l v) (item u newline v) ys refl) (go (at_line k e) (at_line l v) e (s_line m (end_of_block k tt)) row_line)
puts {e} u v xs ys row_for (s_for {l = q} {o} {f} {k} {j = l} w m g) n go = carried (ap bottom (for_runs q k e xs) ∙ bottom_note xs (Some (looped q)) (run (at_line k e) xs)) (past (behind_for o l f) (at_line l v) (item u newline v) ys refl) (go (at_line k e) (at_line l v) e (s_line m (end_of_block k tt)) row_line)
puts {e} u v xs ys row_if (s_if {q} {r} {s} {t} {m} {n = o} {f} {k} {j = l} w y p g h) n go =
    let here = settled k (when q s (stretch m e)) e in
    let there = settled l (when r t (stretch o f)) f in
    carried (ap bottom (if_runs q s m e k xs n)) (past (behind_if r t o f l) (at_line there v) (item u newline v) ys refl) (go (at_line here e) (at_line there v) e (s_line (settled_same anywhere h (same_when w y (stretch_same anywhere p g)) g) (end_of_block here tt)) row_line)
puts {e} u v xs ys row_indent (s_indent {k} {j = l} m) n go = carried refl (past (wants_indent l) (wants_indent l) (item u newline v) ys refl) (go (wants_indent k) (wants_indent l) e (s_indent m) row_indent)

-- before a Dedent
puts_before : {a c : State} (i j u v : ℕ) (xs ys : List Item) → Alike a c → Goes (item i dedent j ∷ xs) ys → Follows (run a (item i dedent j ∷ xs)) (run c (item u newline v ∷ ys))
puts_before {a} {c} i j u v xs ys l go = by (dedent_stands a i j)
  where
    by : (move a dedent i j ≡ None) ⊎ ((e : ℕ) × Row e a) → Follows (run a (item i dedent j ∷ xs)) (run c (item u newline v ∷ ys))
    by (inl g) = record { follows = λ raw h. no_stuck (halts a (item i dedent j) xs g) h }
    by (inr r) = puts u v (item i dedent j ∷ xs) ys r.1 l refl go

relays : {b : Bool} {us vs : List Item} → Relaid b us vs → (a c : State) → Alike a c → (b ≡ true → (e : ℕ) × Row e a) → Follows (run a us) (run c vs)
relays no_token a c l r = at_end l
relays (same_token {i} {j} {u} {v} {x} {xs} {ys} z) a c l r = stepped x i j u v xs ys l (λ s t g m. relays z s t m (row_behind a s x i j g))
relays (left_out {i} {j} z) a c l r = leaves i j (r refl).1 l z (λ s t e m h. relays z s t m (λ n. (e, h)))
relays (put_in {u} {v} {xs} {ys} n z) a c l r = puts u v xs ys (r refl).1 l n (λ s t e m h. relays z s t m (λ g. (e, h)))
relays (put_before {i} {j} {u} {v} {xs} {ys} z) a c l r = puts_before i j u v xs ys l (λ s t e m h. relays z s t m (λ g. (e, h)))

pub relaid : ((u : List Item) (raw : Statement) → bottom (run initial u) ≡ Accepts raw → Derives u raw) → ((u : List Item) (raw : Statement) → Derives u raw → bottom (run initial u) ≡ Accepts raw) → {us vs : List Item} → Relaid true us vs → (raw : Statement) → Derives us raw → DerivesSame vs raw
relaid sound accepts {us} {vs} z raw d =
    let a = (relays z initial initial (s_line (b_outer same_no_statements) e_outer) (λ n. (0, row_line))).follows raw (accepts us raw d) in
    record { tree = a.tree; derives = sound vs a.tree a.accepts; same = a.same }

-- tokens that stay
pub stays : {b : Bool} (xs : List Item) → Relaid b xs xs
stays [] = no_token
stays (x ∷ xs) = same_token (stays xs)

pub behind_others : {us vs : List Item} → ((b : Bool) → Relaid b us vs) → {b : Bool} (xs : List Item) → Relaid b (xs ++ us) (xs ++ vs)
behind_others h {b} [] = h b
behind_others h (x ∷ xs) = same_token (behind_others h xs)
