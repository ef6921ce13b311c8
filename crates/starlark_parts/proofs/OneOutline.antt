-- A text has one outline at most.
use Rattle.std.proofs.Common.{◌≡◌, ◌∙◌, ℕ, List, [], ◌∷◌, map, Some, refl, ap, sym, subst}
use Rattle.std.specs.List.{All}
use Rattle.starlark_lexer.specs.Joining.{IsClosed}
use Rattle.starlark_lexer.specs.declared.dialect.Dialect.{Dialect}
use Rattle.starlark_ast.specs.Tree.{Statement}
use Rattle.starlark_grammar.specs.Language.{Language}
use Rattle.starlark_parts.specs.Kept.{joined}
use Rattle.starlark_parts.specs.Outlines.{AreItems, AreOutlines, IsOutline}
use Rattle.starlark_parts.specs.declared.word.OutlineItem.{OutlineItem}
use Rattle.starlark_parts.specs.declared.word.Word.{Word}

-- the laws that this stands on
abbrev pub OneTree : Type 0
OneTree = (dialect : Dialect) (text : List ℕ) (a b : Statement) → Language dialect text a → Language dialect text b → a ≡ b

abbrev pub OneOutline : Type 0
OneOutline = (dialect : Dialect) (text : List ℕ) (xs ys : List OutlineItem) → IsOutline dialect text xs → IsOutline dialect text ys → xs ≡ ys

abbrev pub JoinedOutline : Type 0
JoinedOutline = (dialect : Dialect) (texts : List (List ℕ)) (items : List OutlineItem) → All IsClosed texts → AreOutlines dialect 0 texts items → IsOutline dialect (joined texts) items

some_same : (v w : Word) → Some v ≡ Some w → v ≡ w
some_same v w h = cc

abbrev rest_of : {A : Type 0} → List A → List A
rest_of [] = []
rest_of (x ∷ xs) = xs

abbrev first_or : {A : Type 0} → A → List A → A
first_or d [] = d
first_or d (x ∷ xs) = x

-- items with the same words and beginnings are the same
same_items : (xs ys : List OutlineItem) → map (λ x. Some x.word) xs ≡ map (λ x. Some x.word) ys → map (λ x. x.begin) xs ≡ map (λ x. x.begin) ys → xs ≡ ys
same_items [] [] w b = refl
same_items [] (y ∷ ys) w b = absurd (cc)
same_items (x ∷ xs) [] w b = absurd (cc)
same_items (x ∷ xs) (y ∷ ys) w b =
    let word : x.word ≡ y.word = some_same x.word y.word (ap (λ zs. first_or (Some x.word) zs) w) in
    let begin : x.begin ≡ y.begin = ap (λ zs. first_or x.begin zs) b in
    let more = same_items xs ys (ap (λ zs. rest_of zs) w) (ap (λ zs. rest_of zs) b) in
    λ i. record { word = word i; begin = begin i } ∷ more i

pub one_outline : OneTree → OneOutline
one_outline one dialect text xs ys h k =
    let tree : h.tree ≡ k.tree = one dialect text h.tree k.tree h.language k.language in
    let all : AreItems text k.tree xs = subst (λ t. AreItems text t xs) tree h.all in
    same_items xs ys (all.words ∙ sym k.all.words) (all.begins ∙ sym k.all.begins)

-- and so have closed texts that join to it
pub same_outline : JoinedOutline → OneOutline → (dialect : Dialect) (texts others : List (List ℕ)) (xs ys : List OutlineItem) → All IsClosed texts → All IsClosed others
    → joined texts ≡ joined others → AreOutlines dialect 0 texts xs → AreOutlines dialect 0 others ys → xs ≡ ys
same_outline law one dialect texts others xs ys c d same h k =
    one dialect (joined others) xs ys (subst (λ t. IsOutline dialect t xs) same (law dialect texts xs c h)) (law dialect others ys d k)
