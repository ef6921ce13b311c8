-- The comments of a text cut no character of it.
use Rattle.std.proofs.Common.{◌≡◌, [], ◌∷◌, ◌∙◌, Bool, IsUtf8, List, Option, ap, arith, cond, false, length, refl, subst, suc, sym, true, ℕ}
use Rattle.std.specs.List.{All}
use Rattle.std.proofs.lemmas.List.Elements.{All-cons}
use Rattle.starlark_place.specs.Place.{Extent, Holds, extent}
use Rattle.starlark_lexer.specs.Items.{Item, Lexed, Stop}
use Rattle.starlark_lexer.specs.Lex.{Lex, start}
use Rattle.starlark_lexer.specs.Order.{HoldsEach}
use Rattle.starlark_grammar.specs.Comments.{AreComments, AreHeld, comments_in, joined_in}
use Rattle.starlark_grammar.specs.Language.{is_comment}

each_held : (text : List ℕ) (xs : List Item) (f : Option Stop) → HoldsEach text xs f → All (Holds text) (comments_in xs)
each_held text [] f h = λ k d l. absurd (omega arith)
each_held text (x ∷ xs) f h = by (is_comment x.lexeme) (each_held text xs f h.1)
  where
    by : (c : Bool) → All (Holds text) (comments_in xs) → All (Holds text) (cond c (extent x.begin x.end ∷ comments_in xs) (comments_in xs))
    by true k = All-cons (Holds text) (extent x.begin x.end) (comments_in xs) h.0 k
    by false k = k

each_paired : (b : Bool) (xs : List Item) → length (joined_in b xs) ≡ length (comments_in xs)
each_paired b [] = refl
each_paired b (x ∷ xs) = by (is_comment x.lexeme) (each_paired true xs) (each_paired false xs)
  where
    by : (c : Bool) → length (joined_in true xs) ≡ length (comments_in xs) → length (joined_in false xs) ≡ length (comments_in xs) → length (cond c (b ∷ joined_in true xs) (joined_in false xs)) ≡ length (cond c (extent x.begin x.end ∷ comments_in xs) (comments_in xs))
    by true t f = ap suc t
    by false t f = f

pub comments_held : ((text : List ℕ) (l : Lexed) → IsUtf8 text → Lex start text l → HoldsEach text l.items l.fault) → (text : List ℕ) (places : List Extent) (joined : List Bool) → IsUtf8 text → AreComments text places joined → AreHeld text places joined
comments_held whole text places joined utf8 c = record {
  held = subst (All (Holds text)) (sym c.stand) (each_held text c.lexed.items c.lexed.fault (whole text c.lexed utf8 c.lexes));
  paired = ap length c.follow ∙ each_paired false c.lexed.items ∙ sym (ap length c.stand);
}
