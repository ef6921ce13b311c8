-- The outline of a tree as it grows, statement by statement.
use Rattle.std.proofs.Common.{◌≡◌, List, [], ◌∷◌, ◌++◌, ℕ, map, Some, None, refl, ap, sym, ◌∙◌, append_assoc, subst}
use Rattle.std.specs.Prelude.{IsSome}
use Rattle.std.specs.List.{All}
use Rattle.std.proofs.lemmas.List.{map-append}
use Rattle.std.proofs.lemmas.List.Elements.{All-head, All-tail}
use Rattle.starlark_place.specs.declared.resolved.ResolvedPos.{ResolvedPos}
use Rattle.starlark_ast.specs.Tree.{Statement}
use Rattle.starlark_ast.specs.View.{stmt_at}
use Rattle.starlark_parts.specs.Flat.{AreWorded, IsFlat}
use Rattle.starlark_parts.specs.Outlines.{beginning}
use Rattle.starlark_parts.specs.Tops.{top_level, word_of}
use Rattle.starlark_parts.specs.Walk.{Stmt, tops_of}
use Rattle.starlark_parts.specs.declared.word.OutlineItem.{OutlineItem}
use Rattle.starlark_parts.specs.declared.word.Word.{Word}
use Rattle.starlark_parts.proofs.Walks.{tops}

-- the items are those of the statements before the ones that are left
pub record SoFar (text : List ℕ) (tree : Statement) (xs : List OutlineItem) (rest : List Stmt) : Type 0 where
  pub front : List Statement
  pub split : front ++ map stmt_at rest ≡ top_level tree
  pub words : map (λ x. Some x.word) xs ≡ map word_of front
  pub begins : map (λ x. x.begin) xs ≡ map (beginning text) front

pub at_first : (text : List ℕ) (tree : Stmt) (rest : List Stmt) → IsFlat (stmt_at tree) → rest ≡ tops_of tree → SoFar text (stmt_at tree) [] rest
at_first text tree rest h e = record { front = []; split = ap (map stmt_at) e ∙ tops tree h; words = refl; begins = refl }

pub one_more : (text : List ℕ) (tree : Statement) (xs : List OutlineItem) (rest others : List Stmt) (s : Stmt) (x : OutlineItem) → SoFar text tree xs rest → rest ≡ s ∷ others → word_of (stmt_at s) ≡ Some x.word → x.begin ≡ beginning text (stmt_at s) → SoFar text tree (xs ++ x ∷ []) others
one_more text tree xs rest others s x h e w b = record {
  front = h.front ++ stmt_at s ∷ [];
  split = append_assoc h.front (stmt_at s ∷ []) (map stmt_at others) ∙ ap (λ r. h.front ++ map stmt_at r) (sym e) ∙ h.split;
  words = map-append (λ x. Some x.word) xs (x ∷ []) ∙ (λ i. h.words i ++ sym w i ∷ []) ∙ sym (map-append word_of h.front (stmt_at s ∷ []));
  begins = map-append (λ x. x.begin) xs (x ∷ []) ∙ (λ i. h.begins i ++ b i ∷ []) ∙ sym (map-append (beginning text) h.front (stmt_at s ∷ []));
}

middle : (P : Statement → Type 0) (xs ys : List Statement) (x : Statement) → All P (xs ++ x ∷ ys) → P x
middle P [] ys x h = All-head P x ys h
middle P (y ∷ xs) ys x h = middle P xs ys x (All-tail P y (xs ++ x ∷ ys) h)

no_word : IsSome {T = Word} None → ⊥
no_word h = absurd (cc)

pub same_place : (p q : ResolvedPos) → p.line ≡ q.line → p.column ≡ q.column → p ≡ q
same_place p q e f = λ i. record { line = e i; column = f i }

-- the next statement has a word
pub has_word : (text : List ℕ) (tree : Statement) (xs : List OutlineItem) (rest others : List Stmt) (s : Stmt) → AreWorded tree → SoFar text tree xs rest → rest ≡ s ∷ others → word_of (stmt_at s) ≡ None → ⊥
has_word text tree xs rest others s a h e n =
    let some : IsSome (word_of (stmt_at s)) = middle (λ s. IsSome (word_of s)) h.front (map stmt_at others) (stmt_at s) (subst (All (λ s. IsSome (word_of s))) (sym (ap (λ r. h.front ++ map stmt_at r) (sym e) ∙ h.split)) a.words) in
    let none : IsSome (word_of (stmt_at s)) → ⊥ = λ h. no_word (subst IsSome n h) in
    none some
