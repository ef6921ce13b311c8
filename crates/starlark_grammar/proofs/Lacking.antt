-- What a shape wants does not follow: by the first token, and by the grammar.
use Rattle.std.proofs.Common.{not, ◌≡◌, ◌≢◌, ◌≤◌, ◌∷◌, ◌∙◌, [], ℕ, List, Option, Some, None, Bool, true, false, nat_eq, cond, refl, ap, sym, arith, true≢false}
use Rattle.starlark_place.specs.Place.{Extent}
use Rattle.starlark_grammar.specs.Spans.{stretch}
use Rattle.starlark_lexer.specs.Items.{Lexeme, identifier, fstring_end, colon, equal, Item, item}
use Rattle.starlark_lexer.specs.declared.dialect.Dialect.{Dialect}
use Rattle.starlark_ast.specs.Tree as tree
use Rattle.starlark_ast.specs.Tree.{Expr, Sign}
use Rattle.starlark_grammar.specs.Events.{Event, Shape, after_bang, after_comma, after_symbol, assigned, looped, shape_finding, shaped, typed}
use Rattle.starlark_grammar.specs.Sorts.{sort, name_of, is_some}
use Rattle.starlark_grammar.specs.Tables.{Beginning, leaf, bracket, quoted, signed, lambda, beginning, sign_level, closing_bracket, conversion}
use Rattle.starlark_grammar.specs.Expressions as g
use Rattle.starlark_grammar.specs.Expressions.{Level}
use Rattle.starlark_grammar.specs.Completion.{some_name}
use Rattle.starlark_grammar.specs.Verdicts.{begins_test, some_converts, lacks, broken_at}
use Rattle.starlark_grammar.specs.Language.{Lacks}
use Rattle.starlark_grammar.proofs.Sorts.{same_sort}
use Rattle.starlark_grammar.proofs.Sound.{raise}
use Rattle.starlark_grammar.proofs.Reading.{First, starts, level_first}
use Rattle.starlark_grammar.proofs.Openings.{Named, is_name, no_name, is_named}

first_test : {ts : List Item} → First 12 ts → begins_test ts ≡ true
first_test (starts h le) = ap is_some h

pub lacks_grammar : (z : Shape) (xs : List Item) → lacks z xs ≡ true → Lacks z xs
lacks_grammar after_comma [] h = tt
lacks_grammar after_symbol [] h = tt
lacks_grammar after_bang [] h = tt
lacks_grammar after_comma (x ∷ xs) h = λ a b q e d. absurd (true≢false (sym h ∙ ap not (first_test (level_first d))))
lacks_grammar after_symbol (x ∷ xs) h = λ e. absurd (true≢false (sym h ∙ ap (λ y. not (nat_eq (sort equal) (sort y))) e))
lacks_grammar after_bang (x ∷ xs) h = λ n f e w. absurd (true≢false (sym h ∙ ap (λ y. not (some_converts (name_of y))) e ∙ ap (λ o. not (is_some o)) w))

-- a token that begins a Test
a_name : {a : List Item} → Level 12 (item 0 some_name 0 ∷ a) a (tree.leaf (tree.name (120 ∷ [])) (stretch 0 0) (stretch 0 0)) 0
a_name = raise 12 (omega arith) (g.by_itself refl)

sign_high : (s : Sign) → sign_level s ≤ 12
sign_high tree.Not = omega arith
sign_high _ = omega arith

a_test : (i j : ℕ) (x : Lexeme) (b : Beginning) → beginning x ≡ Some b → ((a c : List Item) (q : Expr) (e : ℕ) → Level 12 (item i x j ∷ a) c q e → ⊥) → ⊥
a_test i j x (leaf l) h f = f [] [] _ _ (raise 12 (omega arith) (g.by_itself h))
a_test i j x (bracket p) h f = f (item 0 (closing_bracket p) 0 ∷ []) [] _ _ (raise 12 (omega arith) (g.in_brackets h g.nothing))
a_test i j x quoted h f = f (item 0 fstring_end 0 ∷ []) [] _ _ (raise 12 (omega arith) (g.format h g.no_piece))
a_test i j x (signed s) h f = f (item 0 some_name 0 ∷ []) [] _ _ (raise 12 (sign_high s) (g.sign h (raise (sign_level s) (omega arith) (g.by_itself {i = 0} {j = 0} {x = some_name} refl))))
a_test i j x lambda h f = f (item 0 colon 0 ∷ item 0 some_name 0 ∷ []) [] _ _ (g.abstraction h g.nothing a_name)

some_test : (i j : ℕ) (x : Lexeme) (o : Option Beginning) → beginning x ≡ o → ((a c : List Item) (q : Expr) (e : ℕ) → Level 12 (item i x j ∷ a) c q e → ⊥) → not (is_some o) ≡ true
some_test i j x None h f = refl
some_test i j x (Some b) h f = absurd (a_test i j x b h f)

an_equal : (x : Lexeme) (b : Bool) → nat_eq (sort equal) (sort x) ≡ b → x ≢ equal → not b ≡ true
an_equal x false h f = refl
an_equal x true h f = absurd (f (same_sort equal x (refl, refl) h))

some_letter : (n : List ℕ) (o : Option (List ℕ)) → conversion n ≡ o → ((f : List ℕ) → conversion n ≡ Some f → ⊥) → not (is_some o) ≡ true
some_letter n None h f = refl
some_letter n (Some s) h f = absurd (f s h)

a_letter : (x : Lexeme) → Named x → ((n f : List ℕ) → x ≡ identifier n → conversion n ≡ Some f → ⊥) → not (some_converts (name_of x)) ≡ true
a_letter x (is_name {n}) f = some_letter n (conversion n) refl (λ s w. f n s refl w)
a_letter x (no_name w) f = ap (λ o. not (some_converts o)) w

pub lacks_token : (z : Shape) (xs : List Item) → Lacks z xs → lacks z xs ≡ true
lacks_token after_comma [] h = refl
lacks_token after_symbol [] h = refl
lacks_token after_bang [] h = refl
lacks_token after_comma (x ∷ xs) h = some_test x.begin x.end x.lexeme (beginning x.lexeme) refl h
lacks_token after_symbol (x ∷ xs) h = an_equal x.lexeme (nat_eq (sort equal) (sort x.lexeme)) refl h
lacks_token after_bang (x ∷ xs) h = a_letter x.lexeme (is_named x.lexeme) h

-- whether a rule is broken looks at the first token alone
lacks_first : (z : Shape) (x : Item) (xs ys : List Item) → lacks z (x ∷ xs) ≡ lacks z (x ∷ ys)
lacks_first after_comma x xs ys = refl
lacks_first after_symbol x xs ys = refl
lacks_first after_bang x xs ys = refl

finding_first : (z : Shape) (p : Extent) (x : Item) (xs ys : List Item) → shape_finding z p (x ∷ xs) ≡ shape_finding z p (x ∷ ys)
finding_first after_comma p x xs ys = refl
finding_first after_symbol p x xs ys = refl
finding_first after_bang p x xs ys = refl

pub broken_first : (c : Dialect) (e : Event) (x : Item) (xs ys : List Item) → broken_at c e (x ∷ xs) ≡ broken_at c e (x ∷ ys)
broken_first c (shaped z p) x xs ys = ap (λ b. cond b (Some (shape_finding z p (x ∷ xs))) None) (lacks_first z x xs ys) ∙ ap (λ f. cond (lacks z (x ∷ ys)) (Some f) None) (finding_first z p x xs ys)
broken_first c (typed t) x xs ys = refl
broken_first c (assigned l t o) x xs ys = refl
broken_first c (looped l) x xs ys = refl
