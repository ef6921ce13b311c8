-- Of two items of an outline the earlier begins before the later.
use Rattle.std.proofs.Common.{ℕ, ◌≡◌, ◌<◌, ◌≤◌, ◌∷◌, [], List, Option, Some, None, Bool, true, false, cond, length, map, true≢false, refl, sym, subst, arith}
use Rattle.std.proofs.lemmas.Bool.Decides.{nat_tests}
use Rattle.std.specs.Prelude.{slice_index}
use Rattle.starlark_place.specs.Place.{is_continuation}
use Rattle.starlark_place.specs.Resolved.{resolved, IsBefore}
use Rattle.starlark_place.specs.declared.resolved.ResolvedPos.{ResolvedPos}
use Rattle.starlark_lexer.specs.Items.{Lexeme, newline, indent, dedent, Item, Stop, Lexed}
use Rattle.starlark_lexer.specs.Order.{InOrder}
use Rattle.starlark_lexer.specs.Lex.{Lex, start}
use Rattle.starlark_lexer.specs.declared.dialect.Dialect.{Dialect}
use Rattle.starlark_ast.specs.Tree.{Statement, statement_place}
use Rattle.starlark_grammar.specs.Language.{is_comment, without_comments}
use Rattle.starlark_parts.specs.Tops.{top_level}
use Rattle.starlark_parts.specs.Outlines.{beginning, IsOutline}
use Rattle.starlark_parts.specs.declared.word.OutlineItem.{OutlineItem}
use Rattle.starlark_order.specs.Ordered.{is_layout, is_inner, HaveBytes, BeginPlainly, BeforeAll, AreOrdered}
use Rattle.starlark_order.proofs.Tokens.{Laid, no_tokens, and_token}
use Rattle.starlark_order.proofs.Staying.{StandInOrder, AllHaveBytes}
use Rattle.starlark_order.proofs.Statements.{Rising, and_more, ordered, derived_rising}

-- ---- the tokens of a text

no_layout : (x : Lexeme) → is_inner x ≡ false → is_layout x ≡ false
no_layout newline h = absurd (true≢false h)
no_layout indent h = absurd (true≢false h)
no_layout dedent h = absurd (true≢false h)
no_layout _ h = refl

from_there : {text : List ℕ} {m k : ℕ} {xs : List Item} → m ≤ k → Laid text k xs → Laid text m xs
from_there h (no_tokens u) = no_tokens (omega (arith, h, u))
from_there h (and_token u v w x) = and_token (omega (arith, h, u)) v w x

laid_text : (text : List ℕ) {i : ℕ} (xs : List Item) (f : Option Stop) → InOrder i (length text) xs f → HaveBytes xs → BeginPlainly text xs → Laid text i (without_comments xs)
laid_text text [] None h b s = no_tokens h
laid_text text [] (Some z) h b s = no_tokens h.0
laid_text text {i} (x ∷ xs) f h b s = go (is_comment x.lexeme) (laid_text text xs f h.2 b.1 s.1)
  where
    go : (c : Bool) → Laid text x.end (without_comments xs) → Laid text i (cond c (without_comments xs) (x ∷ without_comments xs))
    go true w = from_there (omega (arith, h.0, h.1)) w
    go false w = and_token h.0 h.1 (λ c. (b.0 (no_layout x.lexeme c), s.0 c)) w

-- ---- its statements

-- of two places, at the first of which a character begins, the earlier is before the other
abbrev pub ResolveInOrder : Type 0
ResolveInOrder = (text : List ℕ) (i j : ℕ) → i < j → j ≤ length text → is_continuation (slice_index text i) ≡ false → IsBefore (resolved text i) (resolved text j)

plain : (b : ℕ) → b < 128 → is_continuation b ≡ false
plain b h = grind (arith, nat_tests)

before_all : ResolveInOrder → (text : List ℕ) (i : ℕ) (p : ResolvedPos) {m : ℕ} (xs : List OutlineItem) (ss : List Statement) → i < m → slice_index text i < 128 → p ≡ resolved text i → map (λ x. x.begin) xs ≡ map (beginning text) ss → Rising text (length text) m ss → BeforeAll p xs
before_all before text i p [] ss h a e q r = tt
before_all before text i p (x ∷ xs) [] h a e q r = absurd cc
before_all before text i p (x ∷ xs) (s ∷ ss) h a e q (and_more u b r) =
    let j = (statement_place s).begin in
    let v = ordered r in
    let here : x.begin ≡ resolved text j = cc in
    let rest : map (λ x. x.begin) xs ≡ map (beginning text) ss = cc in
    (subst (λ z. IsBefore z x.begin) (sym e) (subst (IsBefore (resolved text i)) (sym here) (before text i j (omega (arith, h, u)) (omega (arith, v)) (plain _ a))), before_all before text i p xs ss (omega (arith, h, u)) a e rest r)

all_ordered : ResolveInOrder → (text : List ℕ) {m : ℕ} (xs : List OutlineItem) (ss : List Statement) → map (λ x. x.begin) xs ≡ map (beginning text) ss → Rising text (length text) m ss → AreOrdered xs
all_ordered before text [] ss q r = tt
all_ordered before text (x ∷ xs) [] q r = absurd cc
all_ordered before text (x ∷ xs) (s ∷ ss) q (and_more u a r) =
    let here : x.begin ≡ resolved text (statement_place s).begin = cc in
    let rest : map (λ x. x.begin) xs ≡ map (beginning text) ss = cc in
    (before_all before text (statement_place s).begin x.begin xs ss (omega arith) a here rest r, all_ordered before text xs ss rest r)

abbrev pub AllBeginPlainly : Type 0
AllBeginPlainly = (text : List ℕ) (l : Lexed) → Lex start text l → BeginPlainly text l.items

pub outline_ordered : ResolveInOrder → StandInOrder → AllHaveBytes → AllBeginPlainly → (dialect : Dialect) (text : List ℕ) (items : List OutlineItem) → IsOutline dialect text items → AreOrdered items
outline_ordered before order bytes first dialect text items o =
    let l = o.language.lexed in
    let w = laid_text text l.items l.fault (order text l o.language.lexes) (bytes text l o.language.lexes) (first text l o.language.lexes) in
    all_ordered before text items (top_level o.tree) o.all.begins (derived_rising o.language.program.derives w)
