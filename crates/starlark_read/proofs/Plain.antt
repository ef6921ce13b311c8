-- The kinds of tokens without payload.
use Rattle.std.proofs.Common.{◌≡◌, ◌≢◌, List, [], ◌∷◌, Some, None, Bool, true, false, refl, ap, sym, ◌∙◌}
use Rattle.std.specs.Bool.{MatchBool}
use Rattle.starlark_lexer.specs.Items.{Lexeme, Item, dedent, comment, identifier, integer, float, string, bytes, fstring_start, fstring_text}
use Rattle.starlark_read.specs.declared.kind.Kind.{Kind}
use Rattle.starlark_read.specs.declared.kind.Kind.TheVariants as kind
use Rattle.starlark_read.specs.Kinds.{kind_of, kind_ahead, is_plain, token_of}
use Rattle.starlark_grammar.specs.Sorts.{is_some}
use Rattle.starlark_grammar.specs.Tables.{assigner, beginning, grade_of, suffix}
use Rattle.starlark_grammar.specs.Verdicts.{begins_test}
use Rattle.starlark_read.specs.Assigning.{assign_op_ahead, operation_of}
use Rattle.starlark_read.specs.Gathered.{is_leaf, leaf_ahead}
use Rattle.starlark_read.specs.Lines.{begins_line, line_ahead, line_of}
use Rattle.starlark_read.specs.Reads.{begins_ahead, begins_by, first_lexeme, grade_ahead, operator_ahead, operator_of, sign_ahead, sign_in}

-- a token of such a kind is the one of the kind
token_is : (x : Lexeme) → is_plain (kind_of x) ≡ true → x ≡ token_of (kind_of x)
token_is (comment t) h = absurd (cc)
token_is (identifier t) h = absurd (cc)
token_is (integer n) h = absurd (cc)
token_is (float t) h = absurd (cc)
token_is (string t) h = absurd (cc)
token_is (bytes t) h = absurd (cc)
token_is (fstring_start q) h = absurd (cc)
token_is (fstring_text t) h = absurd (cc)
token_is _ h = refl

kind_is : (k : Kind) → is_plain k ≡ true → kind_of (token_of k) ≡ k
kind_is kind.Comment h = absurd (cc)
kind_is kind.Identifier h = absurd (cc)
kind_is kind.Int h = absurd (cc)
kind_is kind.Float h = absurd (cc)
kind_is kind.String h = absurd (cc)
kind_is kind.Bytes h = absurd (cc)
kind_is kind.FStringStart h = absurd (cc)
kind_is kind.FStringText h = absurd (cc)
kind_is kind.End h = absurd (cc)
kind_is _ h = refl

pub stands : (xs : List Item) (k : Kind) → is_plain k ≡ true → kind_ahead xs ≡ k → first_lexeme xs ≡ Some (token_of k)
stands [] k h e = absurd (let w : is_plain kind.End ≡ true = ap is_plain e ∙ h in (cc))
stands (x ∷ xs) k h e = ap Some (token_is x.lexeme (ap is_plain e ∙ h) ∙ ap token_of e)

pub stands_not : (xs : List Item) (k : Kind) → is_plain k ≡ true → kind_ahead xs ≢ k → first_lexeme xs ≢ Some (token_of k)
stands_not [] k h n e = absurd (let w : None ≡ Some (token_of k) = e in (cc))
stands_not (x ∷ xs) k h n e = n (let w : x.lexeme ≡ token_of k = cc in ap kind_of w ∙ kind_is k h)

pub by_same : (xs : List Item) (k w : Kind) → is_plain w ≡ true → k ≡ kind_ahead xs → (b : Bool) → (b ≡ true → k ≡ w) → (b ≡ false → k ≢ w) → MatchBool b (first_lexeme xs ≡ Some (token_of w)) (first_lexeme xs ≢ Some (token_of w))
by_same xs k w h e true f g = stands xs w h (sym e ∙ f refl)
by_same xs k w h e false f g = stands_not xs w h (λ q. g refl (e ∙ q))

-- the tables of tokens without payload, by their kinds
pub assigns_alike : (xs : List Item) → operation_of (assigner (token_of (kind_ahead xs))) ≡ assign_op_ahead xs
assigns_alike [] = refl
assigns_alike (x ∷ xs) = alike x.lexeme
  where
    alike : (l : Lexeme) → operation_of (assigner (token_of (kind_of l))) ≡ operation_of (assigner l)
    alike (comment t) = refl
    alike _ = refl

pub grades_alike : (xs : List Item) → grade_of (suffix (token_of (kind_ahead xs))) ≡ grade_ahead xs
grades_alike [] = refl
grades_alike (x ∷ xs) = alike x.lexeme
  where
    alike : (l : Lexeme) → grade_of (suffix (token_of (kind_of l))) ≡ grade_of (suffix l)
    alike (comment t) = refl
    alike _ = refl

pub tests_alike : (xs : List Item) → is_some (beginning (token_of (kind_ahead xs))) ≡ begins_test xs
tests_alike [] = refl
tests_alike (x ∷ xs) = alike x.lexeme
  where
    alike : (l : Lexeme) → is_some (beginning (token_of (kind_of l))) ≡ is_some (beginning l)
    alike (comment t) = refl
    alike _ = refl

pub leaves_alike : (xs : List Item) → is_leaf (beginning (token_of (kind_ahead xs))) ≡ leaf_ahead xs
leaves_alike [] = refl
leaves_alike (x ∷ xs) = alike x.lexeme
  where
    alike : (l : Lexeme) → is_leaf (beginning (token_of (kind_of l))) ≡ is_leaf (beginning l)
    alike (comment t) = refl
    alike _ = refl

pub lines_alike : (xs : List Item) → line_of (kind_ahead xs) ≡ line_ahead xs
lines_alike [] = refl
lines_alike (x ∷ xs) = alike x.lexeme
  where
    alike : (l : Lexeme) → line_of (kind_of l) ≡ begins_line l
    alike dedent = refl
    alike _ = refl

pub operators_alike : (xs : List Item) → operator_of (suffix (token_of (kind_ahead xs))) ≡ operator_ahead xs
operators_alike [] = refl
operators_alike (x ∷ xs) = alike x.lexeme
  where
    alike : (l : Lexeme) → operator_of (suffix (token_of (kind_of l))) ≡ operator_of (suffix l)
    alike (comment t) = refl
    alike _ = refl

pub signs_alike : (xs : List Item) → sign_in (beginning (token_of (kind_ahead xs))) ≡ sign_ahead xs
signs_alike [] = refl
signs_alike (x ∷ xs) = alike x.lexeme
  where
    alike : (l : Lexeme) → sign_in (beginning (token_of (kind_of l))) ≡ sign_in (beginning l)
    alike (comment t) = refl
    alike _ = refl

pub levels_alike : (xs : List Item) → begins_by (beginning (token_of (kind_ahead xs))) ≡ begins_ahead xs
levels_alike [] = refl
levels_alike (x ∷ xs) = alike x.lexeme
  where
    alike : (l : Lexeme) → begins_by (beginning (token_of (kind_of l))) ≡ begins_by (beginning l)
    alike (comment t) = refl
    alike _ = refl
