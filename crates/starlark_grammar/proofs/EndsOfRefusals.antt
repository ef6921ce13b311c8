-- The place of a refusal begins and ends where tokens do, so it cuts no character of the text.
use Rattle.std.proofs.Common.{ℕ, ◌≤◌, ◌∷◌, ◌++◌, [], List, Option, Some, None, Bool, true, false, cond, length, sym, subst, arith, IsUtf8}
use Rattle.std.specs.Str.{IsCharBoundary}
use Rattle.std.proofs.lemmas.Str.{IsCharBoundary-start}
use Rattle.starlark_place.specs.Place.{Extent, Holds}
use Rattle.starlark_lexer.specs.Items.{Item, Stop, Lexed}
use Rattle.starlark_lexer.specs.Lex.{Lex, start}
use Rattle.starlark_lexer.specs.Order.{HoldsEach}
use Rattle.starlark_lexer.specs.declared.dialect.Dialect.{Dialect}
use Rattle.starlark_ast.specs.Tree.{Statement}
use Rattle.starlark_rulebook.specs.Rules.{Finding, first_finding}
use Rattle.starlark_rulebook.specs.Kept.{kept_rules}
use Rattle.starlark_rulebook.specs.Late.{late_rules}
use Rattle.starlark_grammar.specs.Events.{Event, Shape, after_comma, after_symbol, after_bang, shaped, shape_finding, conversion_end, end_finding}
use Rattle.starlark_grammar.specs.Sorts.{name_of, is_some}
use Rattle.starlark_grammar.specs.Grammar.{Derives}
use Rattle.starlark_grammar.specs.Marks.{mark, marks_in, Has}
use Rattle.starlark_grammar.specs.Language.{is_comment, without_comments, uncommented, Language, IsRefused, IsRefusal, the_lexer, a_token, the_end, a_rule, Breaks, at_once, by_shape, at_end, IsViable, Fault, last_end, place_of}
use Rattle.starlark_grammar.specs.Ends.{At, StatementAt}
use Rattle.starlark_grammar.proofs.EndsOfExpressions.{Known}
use Rattle.starlark_grammar.proofs.EndsOfExpressions as e
use Rattle.starlark_grammar.proofs.EndsOfStatements as s
use Rattle.starlark_grammar.proofs.EndsOfRules.{FindingAt, FoundAt}
use Rattle.starlark_grammar.proofs.EndsOfRules as r
use Rattle.starlark_grammar.proofs.EndsOfMarks.{EventAt, has_at, marks_at, at_once_at}

-- all tokens begin and end at such places
abbrev AllAt : (ℕ → Type 0) → List Item → Type 0
AllAt B [] = Unit {0}
AllAt B (x ∷ xs) = (B x.begin × B x.end) × AllAt B xs

abbrev StopAt : (ℕ → Type 0) → Option Stop → Type 0
StopAt B None = Unit {0}
StopAt B (Some u) = B u.begin × B u.end

module _ (B : ℕ → Type 0) where
  all_known : (xs : List Item) → AllAt B xs → Known B 0 xs
  all_known [] h = tt
  all_known (x ∷ xs) h = ((λ le. h.0), all_known xs h.1)

  -- of the last tokens nothing is known
  none_known : (n : ℕ) (xs : List Item) → length xs ≤ n → Known B n xs
  none_known n [] le = tt
  none_known n (x ∷ xs) le = ((λ more. absurd (omega (arith, le, more))), none_known n xs (omega (arith, le)))

  front_known : (n : ℕ) (xs ys : List Item) → AllAt B xs → Known B n ys → Known B n (xs ++ ys)
  front_known n [] ys h k = k
  front_known n (x ∷ xs) ys h k = ((λ le. h.0), front_known n xs ys h.1 k)

  front_at : (xs ys : List Item) → AllAt B (xs ++ ys) → AllAt B xs
  front_at [] ys h = tt
  front_at (x ∷ xs) ys h = (h.0, front_at xs ys h.1)

  back_at : (xs ys : List Item) → AllAt B (xs ++ ys) → AllAt B ys
  back_at [] ys h = h
  back_at (x ∷ xs) ys h = back_at xs ys h.1

  last_at : (d : ℕ) (xs : List Item) → B d → AllAt B xs → B (last_end d xs)
  last_at d [] k h = k
  last_at d (x ∷ xs) k h = last_at x.end xs h.0.1 h.1

module _ (B : ℕ → Type 0) (nought : B 0) where
  viable_known : (d : Dialect) (w : List Item) (v : IsViable d w) → AllAt B w → Known B (length v.rest) (w ++ v.rest)
  viable_known d w v h = front_known B (length v.rest) w v.rest h (none_known B (length v.rest) v.rest (omega arith))

  -- a construct that ends with the last token
  event_at : (d : Dialect) (w : List Item) (x : Event) (v : IsViable d w) → AllAt B w → Has (mark (length v.rest) x) (marks_in v.derives) → EventAt B x
  event_at d w x v h k = has_at B (length v.rest) (length v.rest) x (marks_in v.derives) (marks_at B nought (length v.rest) v.derives (viable_known d w v h)) k (omega arith)

  derived_at : (w : List Item) (raw : Statement) → Derives w raw → AllAt B w → StatementAt B raw
  derived_at w raw d h = s.derived_at B nought d (all_known B w h)

  conversion_at : (j : ℕ) (xs : List Item) → B j → AllAt B xs → B (conversion_end j xs)
  conversion_at j [] k h = k
  conversion_at j (x ∷ xs) k h = either (is_some (name_of x.lexeme))
    where
      either : (c : Bool) → B (cond c x.end x.begin)
      either true = h.0.1
      either false = h.0.0

  shape_at : (k : Shape) (u : Extent) (rest : List Item) → At B u → AllAt B rest → FindingAt B (shape_finding k u rest)
  shape_at after_comma u rest h l = h
  shape_at after_symbol u rest h l = h
  shape_at after_bang u rest h l = e.stretched B nought h.0 (conversion_at u.end rest h.1 l)

  ending_at : (d : Dialect) (raw : Statement) → StatementAt B raw → FoundAt B (end_finding d raw)
  ending_at d raw h =
      r.first_at B nought (first_finding (kept_rules d raw)) (first_finding (late_rules d raw)) (r.finding_at B nought (kept_rules d raw) (r.kept_rules_at B nought d raw h)) (r.finding_at B nought (late_rules d raw) (r.late_rules_at B nought d raw h))

  breaks_at : (d : Dialect) (w rest : List Item) (stop : Option Stop) (f : Finding) → Breaks d w rest stop f → AllAt B w → AllAt B rest → FindingAt B f
  breaks_at d w rest stop f (at_once x v k q z) h l = subst (FoundAt B) q (at_once_at B nought d x (event_at d w x v h k))
  breaks_at d w rest stop f (by_shape k u v m z) h l = shape_at k u rest (event_at d w (shaped k u) v h m) l
  breaks_at d w rest stop f (at_end raw x p q c z) h l = subst (FoundAt B) z (ending_at d raw (derived_at w raw x h))

  refusal_at : (d : Dialect) (l : Lexed) (f : Fault) → IsRefusal d l f → AllAt B l.items → StopAt B l.fault → At B (place_of f)
  refusal_at d l f (the_lexer {s = u} q w) h k = let j = subst (StopAt B) q k in e.stretched B nought j.0 j.1
  refusal_at d l f (a_token {w} {more} {x} q z) h k = let j = (back_at B w (x ∷ more) (subst (AllAt B) (sym q) h)).0 in e.stretched B nought j.0 j.1
  refusal_at d l f (the_end q z) h k = let j = last_at B 0 l.items nought h in (j, j)
  refusal_at d l f (a_rule {w} {rest} q z) h k =
      let j = subst (AllAt B) (sym q) h in breaks_at d w rest l.fault _ z (front_at B w rest j) (back_at B w rest j)

-- ---- texts

items_at : (text : List ℕ) (xs : List Item) (f : Option Stop) → HoldsEach text xs f → AllAt (IsCharBoundary text) (without_comments xs)
items_at text [] f h = tt
items_at text (x ∷ xs) f h = kept (is_comment x.lexeme) (items_at text xs f h.1)
  where
    kept : (c : Bool) → AllAt (IsCharBoundary text) (without_comments xs) → AllAt (IsCharBoundary text) (cond c (without_comments xs) (x ∷ without_comments xs))
    kept true k = k
    kept false k = ((h.0.begin, h.0.end), k)

stop_at : (text : List ℕ) (xs : List Item) (f : Option Stop) → HoldsEach text xs f → StopAt (IsCharBoundary text) f
stop_at text [] None h = tt
stop_at text [] (Some u) h = (h.begin, h.end)
stop_at text (x ∷ xs) f h = stop_at text xs f h.1

abbrev pub AreWhole : Type 0
AreWhole = (text : List ℕ) (l : Lexed) → IsUtf8 text → Lex start text l → HoldsEach text l.items l.fault

pub refused_at : AreWhole → (d : Dialect) (text : List ℕ) (f : Fault) → IsUtf8 text → IsRefused d text f → Holds text (place_of f)
refused_at whole d text f utf8 x =
    let h = whole text x.lexed utf8 x.lexes in
    let p = refusal_at (IsCharBoundary text) (IsCharBoundary-start text utf8) d (uncommented x.lexed) f x.refusal (items_at text x.lexed.items x.lexed.fault h) (stop_at text x.lexed.items x.lexed.fault h) in
    record { begin = p.0; end = p.1 }

pub tree_at : AreWhole → (d : Dialect) (text : List ℕ) (tree : Statement) → IsUtf8 text → Language d text tree → StatementAt (IsCharBoundary text) tree
tree_at whole d text tree utf8 x =
    derived_at (IsCharBoundary text) (IsCharBoundary-start text utf8) (without_comments x.lexed.items) tree x.program.derives (items_at text x.lexed.items x.lexed.fault (whole text x.lexed utf8 x.lexes))
