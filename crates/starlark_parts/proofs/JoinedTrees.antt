-- The statements at the top of two texts, one behind the other.
use Rattle.std.proofs.Common.{◌≡◌, ◌≤◌, ◌∙◌, ℕ, ◌+◌, [], ◌∷◌, ◌++◌, map, Some, None, refl, ap, sym, arith, append_assoc}
use Rattle.std.specs.Prelude.{Option}
use Rattle.std.specs.List.{All}
use Rattle.std.proofs.lemmas.List.{append-nil, map-append}
use Rattle.std.proofs.lemmas.List.Elements.{All-nil, All-cons, All-append}
use Rattle.starlark_place.specs.Place.{Extent}
use Rattle.starlark_ast.specs.declared.ast.AssignOp.{AssignOp}
use Rattle.starlark_ast.specs.Tree as t
use Rattle.starlark_ast.specs.Tree.{Expr, Annotation, Sequence, Statement, statement_place}
use Rattle.starlark_grammar.specs.Nested.{InnerStatement, Lies, SequenceIn, StatementIn}
use Rattle.starlark_grammar.specs.Nodes.{block_of}
use Rattle.starlark_joining.specs.Joined.{behind}
use Rattle.starlark_joining.specs.Kept.{Moved, SameTops, all_same, begins_at, begins_in, but_last}
use Rattle.starlark_joining.specs.Same.{SameSequence, SameStatement, same_break, same_continue, same_pass, same_return, same_load, same_expression, same_assign, same_when, same_either, same_repeat, same_define, same_block, same_no_statements, same_add_statement}
use Rattle.starlark_parts.specs.Tops.{all_top, top_level, word_of}

-- where a statement begins
abbrev pub begin_of : Statement → ℕ
begin_of s = (statement_place s).begin

pub top_block : (ss : Sequence) (e : ℕ) → top_level (block_of ss e) ≡ all_top ss
top_block t.no_statements e = refl
top_block (t.add_statement t.no_statements s) e = refl
top_block (t.add_statement (t.add_statement ss r) s) e = refl

pub top_behind : (a b : Sequence) → all_top (behind a b) ≡ all_top a ++ all_top b
top_behind a t.no_statements = sym (append-nil (all_top a))
top_behind a (t.add_statement b s) = ap (λ xs. xs ++ top_level s) (top_behind a b) ∙ append_assoc (all_top a) (all_top b) (top_level s)

-- ---- beginnings

mutual
  begins_one : (s : Statement) → begins_at s ≡ map begin_of (top_level s)
  begins_one (t.block ss s) = begins_all ss
  begins_one (t.break s) = refl
  begins_one (t.continue s) = refl
  begins_one (t.pass s) = refl
  begins_one (t.return x s) = refl
  begins_one (t.load m ss s) = refl
  begins_one (t.expression x s) = refl
  begins_one (t.assign x a o y s) = refl
  begins_one (t.when x a s) = refl
  begins_one (t.either x a b s) = refl
  begins_one (t.repeat x y a s) = refl
  begins_one (t.define n ps a b s) = refl

  pub begins_all : (ss : Sequence) → begins_in ss ≡ map begin_of (all_top ss)
  begins_all t.no_statements = refl
  begins_all (t.add_statement ss a) = (λ i. begins_all ss i ++ begins_one a i) ∙ sym (map-append begin_of (all_top ss) (top_level a))

-- ---- words

module _ (R : ℕ → ℕ → Type 0) where
  word_assign : (x p u v : Expr) (a b : Annotation) (o : Option AssignOp) (s r : Extent) → word_of (t.assign x a o u s) ≡ word_of (t.assign p b o v r)
  word_assign x p u v a b None s r = refl
  word_assign x p u v a b (Some o) s r = refl

  mutual
    words_one : {x y : Statement} → SameStatement R x y → map word_of (top_level x) ≡ map word_of (top_level y)
    words_one (same_block h s) = words_all h
    words_one (same_break s) = refl
    words_one (same_continue s) = refl
    words_one (same_pass s) = refl
    words_one (same_return x s) = refl
    words_one (same_load m h s) = refl
    words_one (same_expression x s) = refl
    words_one (same_assign {x} {y} {p} {q} {a} {b} {o} {s} {r} h k l m) = ap (λ w. w ∷ []) (word_assign x y p q a b o s r)
    words_one (same_when x a s) = refl
    words_one (same_either x a b s) = refl
    words_one (same_repeat x y a s) = refl
    words_one (same_define n ps a b s) = refl

    pub words_all : {xs ys : Sequence} → SameSequence R xs ys → map word_of (all_top xs) ≡ map word_of (all_top ys)
    words_all same_no_statements = refl
    words_all (same_add_statement {ss} {rs} {s} {r} h k) = map-append word_of (all_top ss) (top_level s) ∙ (λ i. words_all h i ++ words_one k i) ∙ sym (map-append word_of (all_top rs) (top_level r))

-- those of statements of which the last may end elsewhere
pub words_tops : {R : ℕ → ℕ → Type 0} {ss rs : Sequence} → SameTops R ss rs → map word_of (all_top ss) ≡ map word_of (all_top rs)
words_tops all_same = refl
words_tops {R} (but_last {ss} {s} {r} t) = map-append word_of (all_top ss) (top_level s) ∙ ap (λ ws. map word_of (all_top ss) ++ ws) (words_one R t.same) ∙ sym (map-append word_of (all_top ss) (top_level r))

pub begins_tops : {R : ℕ → ℕ → Type 0} {ss rs : Sequence} → SameTops R ss rs → begins_in ss ≡ begins_in rs
begins_tops all_same = refl
begins_tops (but_last {ss} t) = ap (λ bs. begins_in ss ++ bs) t.inner

-- ---- beginnings of what is moved

module _ (n : ℕ) where
  -- how far on a statement begins
  abbrev pub begin_on : Statement → ℕ
  begin_on s = n + begin_of s

  mutual
    goes_one : {x y : Statement} → SameStatement (Moved n) x y → map begin_of (top_level y) ≡ map begin_on (top_level x)
    goes_one (same_block h s) = goes_all h
    goes_one (same_break s) = ap (λ b. b ∷ []) s.begins
    goes_one (same_continue s) = ap (λ b. b ∷ []) s.begins
    goes_one (same_pass s) = ap (λ b. b ∷ []) s.begins
    goes_one (same_return x s) = ap (λ b. b ∷ []) s.begins
    goes_one (same_load m h s) = ap (λ b. b ∷ []) s.begins
    goes_one (same_expression x s) = ap (λ b. b ∷ []) s.begins
    goes_one (same_assign h k l s) = ap (λ b. b ∷ []) s.begins
    goes_one (same_when x a s) = ap (λ b. b ∷ []) s.begins
    goes_one (same_either x a b s) = ap (λ b. b ∷ []) s.begins
    goes_one (same_repeat x y a s) = ap (λ b. b ∷ []) s.begins
    goes_one (same_define m ps a b s) = ap (λ b. b ∷ []) s.begins

    pub goes_all : {xs ys : Sequence} → SameSequence (Moved n) xs ys → map begin_of (all_top ys) ≡ map begin_on (all_top xs)
    goes_all same_no_statements = refl
    goes_all (same_add_statement {ss} {rs} {s} {r} h k) = map-append begin_of (all_top rs) (top_level r) ∙ (λ i. goes_all h i ++ goes_one k i) ∙ sym (map-append begin_on (all_top ss) (top_level s))

-- ---- statements begin in their text

module _ (n : ℕ) where
  -- a statement begins at n or before
  abbrev pub Within : Statement → Type 0
  Within s = begin_of s ≤ n

  lies_within : (o s : Extent) → o.end ≤ n → Lies o s → s.begin ≤ n
  lies_within o s l h = omega (arith, h.runs, h.to, l)

  one_within : (s : Statement) → begin_of s ≤ n → All Within (s ∷ [])
  one_within s l = All-cons Within s [] l (All-nil Within)

  mutual
    within_one : (o : Extent) (s : Statement) → o.end ≤ n → Lies o (statement_place s) → InnerStatement s → All Within (top_level s)
    within_one o (t.block ss s) l h k = within_all s ss (omega (arith, h.to, l)) k
    within_one o (t.break s) l h k = one_within (t.break s) (lies_within o s l h)
    within_one o (t.continue s) l h k = one_within (t.continue s) (lies_within o s l h)
    within_one o (t.pass s) l h k = one_within (t.pass s) (lies_within o s l h)
    within_one o (t.return x s) l h k = one_within (t.return x s) (lies_within o s l h)
    within_one o (t.load m ss s) l h k = one_within (t.load m ss s) (lies_within o s l h)
    within_one o (t.expression x s) l h k = one_within (t.expression x s) (lies_within o s l h)
    within_one o (t.assign x a p y s) l h k = one_within (t.assign x a p y s) (lies_within o s l h)
    within_one o (t.when x a s) l h k = one_within (t.when x a s) (lies_within o s l h)
    within_one o (t.either x a b s) l h k = one_within (t.either x a b s) (lies_within o s l h)
    within_one o (t.repeat x y a s) l h k = one_within (t.repeat x y a s) (lies_within o s l h)
    within_one o (t.define m ps a b s) l h k = one_within (t.define m ps a b s) (lies_within o s l h)

    within_all : (o : Extent) (ss : Sequence) → o.end ≤ n → SequenceIn o ss → All Within (all_top ss)
    within_all o t.no_statements l h = All-nil Within
    within_all o (t.add_statement ss a) l h = All-append Within (all_top ss) (top_level a) (within_all o ss l h.0) (within_one o a l h.1 h.2)

  pub within : (o : Extent) (tree : Statement) → o.end ≤ n → StatementIn o tree → All Within (top_level tree)
  within o tree l h = within_one o tree l h.0 h.1
