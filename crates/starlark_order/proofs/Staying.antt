-- No beginning in the first of two texts moves where the other one stands behind it.
use Rattle.std.proofs.Common.{ℕ, ◌≡◌, ◌<◌, ◌≤◌, ◌∷◌, [], List, Bool, true, false, cond, Option, Some, None, inl, inr, length, refl, subst, arith}
use Rattle.std.specs.List.{All}
use Rattle.std.proofs.lemmas.List.Elements.{All-nil, All-cons, All-head, All-tail}
use Rattle.starlark_lexer.specs.Items.{Item, Stop, Lexed}
use Rattle.starlark_lexer.specs.Order.{InOrder}
use Rattle.starlark_lexer.specs.Lex.{Lex, start}
use Rattle.starlark_lexer.specs.declared.dialect.Dialect.{Dialect}
use Rattle.starlark_ast.specs.Tree as tree
use Rattle.starlark_ast.specs.Tree.{Sequence, Statement, statement_place}
use Rattle.starlark_grammar.specs.Nodes.{block_of}
use Rattle.starlark_grammar.specs.Language.{Language, is_comment, without_comments}
use Rattle.starlark_joining.specs.Same.{SameStatement, same_block}
use Rattle.starlark_joining.specs.Kept.{Kept, SameFirst, SameTops, all_same, but_last}
use Rattle.starlark_joining.specs.Trees.{AreJoined}
use Rattle.starlark_order.specs.Ordered.{HaveBytes}
use Rattle.starlark_order.specs.Beginnings.{statement_begins, sequence_begins, tree_begins}
use Rattle.starlark_order.proofs.Early.{Early, no_more, and_more, right_of, AreEarly, no_item, and_item}
use Rattle.starlark_order.proofs.EarlyStatements.{derived_early}
use Rattle.starlark_order.proofs.Alike as alike
use Rattle.starlark_order.proofs.Alike.{Alike, statement_alike, sequence_alike}

-- ---- the tokens of a text

in_order_to : {i n : ℕ} (xs : List Item) (f : Option Stop) → InOrder i n xs f → i ≤ n
in_order_to [] None h = h
in_order_to [] (Some s) h = h.0
in_order_to (x ∷ xs) f h = let k = in_order_to xs f h.2 in omega (arith, h.0, h.1, k)

text_early : (i n : ℕ) (xs : List Item) (f : Option Stop) → InOrder i n xs f → HaveBytes xs → AreEarly n (without_comments xs)
text_early i n [] f h b = no_item
text_early i n (x ∷ xs) f h b = go (is_comment x.lexeme) (text_early x.end n xs f h.2 b.1)
  where
    go : (c : Bool) → AreEarly n (without_comments xs) → AreEarly n (cond c (without_comments xs) (x ∷ without_comments xs))
    go true w = w
    go false w = and_item (λ c. let k = in_order_to xs f h.2 in let u = b.0 c in omega (arith, k, u)) w

-- ---- its tree

each : {n : ℕ} {ks : List ℕ} → Early n ks → All (λ k. k < n) ks
each {n} no_more = All-nil (λ k. k < n)
each {n} (and_more {k} {ks} h p) = All-cons (λ k. k < n) k ks h (each p)

early : {n : ℕ} (ks : List ℕ) → All (λ k. k < n) ks → Early n ks
early [] h = no_more
early {n} (k ∷ ks) h = and_more (All-head (λ k. k < n) k ks h) (early ks (All-tail (λ k. k < n) k ks h))

abbrev pub StandInOrder : Type 0
StandInOrder = (text : List ℕ) (l : Lexed) → Lex start text l → InOrder 0 (length text) l.items l.fault

abbrev pub AllHaveBytes : Type 0
AllHaveBytes = (text : List ℕ) (l : Lexed) → Lex start text l → HaveBytes l.items

abbrev pub AllBeginEarly : Type 0
AllBeginEarly = (dialect : Dialect) (text : List ℕ) (tree : Statement) → Language dialect text tree → All (λ k. k < length text) (tree_begins tree)

pub tree_early : StandInOrder → AllHaveBytes → AllBeginEarly
tree_early order bytes dialect text tree h =
    let l = h.lexed in
    each (derived_early h.program.derives (text_early 0 (length text) l.items l.fault (order text l h.lexes) (bytes text l h.lexes)))

-- ---- what stays

kept_same : {h : ℕ} {xs ys : List ℕ} → Alike (Kept h) xs ys → Early h xs → xs ≡ ys
kept_same alike.no_more no_more = refl
kept_same (alike.and_more (inl e) p) (and_more k q) = let r = kept_same p q in cc
kept_same (alike.and_more (inr g) p) (and_more k q) = absurd (omega (arith, g, k))

-- a tree that is one statement, or a list
alone_same : {h : ℕ} (s r : Statement) → SameStatement (Kept h) s r → (statement_place s).begin ≡ (statement_place r).begin → Early h (tree_begins s) → statement_begins s ≡ statement_begins r
alone_same (tree.block ss s) _ (same_block q u) k p = let e = kept_same (sequence_alike q) p in cc
alone_same _ r d k p = kept_same (statement_alike d) p

last_same : {h : ℕ} (ss : Sequence) (s r : Statement) (e : ℕ) → SameFirst (Kept h) s r → Early h (tree_begins (block_of (tree.add_statement ss s) e)) → statement_begins s ≡ statement_begins r
last_same tree.no_statements s r e f p = alone_same s r f.same f.begins p
last_same (tree.add_statement ss q) s r e f p = kept_same (statement_alike f.same) (right_of (sequence_begins (tree.add_statement ss q)) p)

tops_same : {h : ℕ} {ss rs : Sequence} (e : ℕ) → SameTops (Kept h) ss rs → Early h (tree_begins (block_of ss e)) → sequence_begins ss ≡ sequence_begins rs
tops_same e all_same p = refl
tops_same e (but_last {ss} {s} {r} f) p = let q = last_same ss s r e f p in cc

pub stay : AllBeginEarly → (dialect : Dialect) (a b : List ℕ) (first second : Statement) → Language dialect a first → (j : AreJoined dialect a b first second) → sequence_begins j.first ≡ sequence_begins j.first_there
stay all dialect a b first second l j = tops_same j.first_end j.stays (subst (λ t. Early (length a) (tree_begins t)) j.is_first (early (tree_begins first) (all dialect a first l)))
