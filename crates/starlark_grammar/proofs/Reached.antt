-- What the machine's points and frames have read is derived by the grammar.
use Rattle.std.proofs.Common.{ℕ, ◌≡◌, ◌∷◌, ◌++◌, List, Option, Some, None, Bool, true, false, nat_eq, cond, refl, sym, subst}
use Rattle.starlark_grammar.specs.Spans.{stretch}
use Rattle.starlark_lexer.specs.Items.{Lexeme, identifier, fstring_text, fstring_expr_start, fstring_bang, fstring_expr_end, fstring_end, keyword_else, keyword_for, keyword_if, keyword_in, comma, colon, equal, star, star_star, slash, closing_round, closing_square, Item, item}
use Rattle.starlark_ast.specs.Tree as tree
use Rattle.starlark_grammar.specs.Nodes.{start, targeted}
use Rattle.starlark_grammar.specs.Sorts.{sort, text_of, name_of}
use Rattle.starlark_grammar.specs.Tables.{Bracket, round, square, curly, bracket, quoted, lambda, beginning, dotted, indexed, called, negated, chosen, suffix, closing_bracket, Kind, pairs, arguments, parameters, targets, kind_in, comprises, enclosed, conversion}
use Rattle.starlark_grammar.specs.Expressions as g
use Rattle.starlark_grammar.specs.Points.{Place, brackets, behind, before_body, targets_in, close_of, Bounds, at_first, at_second, at_third, Frame, over, Point, member_wanted, member_read, key_read, star_read, stars_read, name_read, bound_wanted, bound_read, second_read, attribute_wanted, not_read, condition_read, clauses_read, piece_wanted, field_read, letter_wanted, letter_read, Outcome, reach, want, made, After, becomes, goes_to, after, on, on_some, first_at, closed, clause_behind, behind_member, next_bound, sliced, second_bound, turn, opens}
use Rattle.starlark_grammar.proofs.Sorts.{Plain, same_sort, by_cases}

-- the members of that place
abbrev pub kind_of : Place → Kind
kind_of (brackets p b) = kind_in p
kind_of (behind q) = arguments
kind_of (before_body b) = parameters
kind_of (targets_in p b m cs) = targets

-- members and a comma, or nothing
pub data Given : Kind → List Item → List Item → tree.Members → Bool → ℕ → ℕ → Type 0 where
  no_members : {n : Kind} {b : List Item} → Given n b b tree.none false 0 0
  comma_behind : {n : Kind} {u h e f : ℕ} {b c : List Item} {ms : tree.Members} → g.Members n b (item u comma h ∷ c) ms e → f ≡ start b → Given n b c ms true h f

-- clauses, or none yet
pub data SoFar : List Item → List Item → tree.Clauses → Type 0 where
  no_clause : {a : List Item} → SoFar a a tree.no_clauses
  clauses : {a b : List Item} {cs : tree.Clauses} → g.Clauses a b cs → SoFar a b cs

-- the place is in an expression of that level that begins with the first tokens, and its members begin with the second ones
pub data Within : Place → ℕ → List Item → List Item → Type 0 where
  in_brackets : {i j : ℕ} {x : Lexeme} {p : Bracket} {b : List Item} → beginning x ≡ Some (bracket p) → Within (brackets p i) 0 (item i x j ∷ b) b
  in_call : {i j d : ℕ} {x : Lexeme} {a b : List Item} {q : tree.Expr} → suffix x ≡ Some called → g.Level 0 a (item i x j ∷ b) q d → Within (behind q) 0 a b
  in_lambda : {i j : ℕ} {x : Lexeme} {b : List Item} → beginning x ≡ Some lambda → Within (before_body i) 12 (item i x j ∷ b) b
  in_targets : {i j u v d : ℕ} {x : Lexeme} {p : Bracket} {a b c : List Item} {m : tree.Member} {cs : tree.Clauses} → beginning x ≡ Some (bracket p) → comprises p ≡ true → g.Member (kind_in p) a b m d → SoFar b (item u keyword_for v ∷ c) cs → Within (targets_in p i m cs) 0 (item i x j ∷ a) c

-- bounds of a slice and their colons
pub data Bounded : Bounds → List Item → List Item → Type 0 where
  none_yet : {a : List Item} → Bounded at_first a a
  one_yet : {i j : ℕ} {a b : List Item} {o : tree.Bound} → g.Bound a (item i colon j ∷ b) o → Bounded (at_second o) a b
  two_yet : {i j u v : ℕ} {a b c : List Item} {o p : tree.Bound} → g.Bound a (item i colon j ∷ b) o → g.Bound b (item u colon v ∷ c) p → Bounded (at_third o p) a c

mutual
  -- an expression of that level that begins with the first tokens has come to the point before the second ones
  pub data Reached : Point → ℕ → List Item → List Item → Type 0 where
    r_wanted : {w : Place} {m e f : ℕ} {a b c : List Item} {ms : tree.Members} {t : Bool} → Within w m a b → Given (kind_of w) b c ms t e f → Reached (member_wanted w ms t e f) m a c
    r_member : {w : Place} {m e f : ℕ} {a b c : List Item} {ms : tree.Members} → Within w m a b → g.Members (kind_of w) b c ms e → f ≡ start b → Reached (member_read w ms e f) m a c
    r_key : {i e d f u : ℕ} {m : ℕ} {a b c z : List Item} {ms : tree.Members} {t : Bool} {q : tree.Expr} → Within (brackets curly i) m a b → Given pairs b c ms t e u → f ≡ start b → {h : ℕ} → g.Level 12 c z q d → Reached (key_read i ms f h q) m a z
    r_star : {i m e f u v h : ℕ} {a b c : List Item} {ms : tree.Members} {t : Bool} → Within (before_body i) m a b → Given parameters b (item u star v ∷ c) ms t e h → f ≡ start b → Reached (star_read i ms f u v) m a c
    r_stars : {i m e f u v h : ℕ} {a b c : List Item} {ms : tree.Members} {t : Bool} → Within (before_body i) m a b → Given parameters b (item u star_star v ∷ c) ms t e h → f ≡ start b → Reached (stars_read i ms f u) m a c
    r_name : {i m e f u v h : ℕ} {n : List ℕ} {a b c : List Item} {ms : tree.Members} {t : Bool} → Within (before_body i) m a b → Given parameters b (item u (identifier n) v ∷ c) ms t e h → f ≡ start b → Reached (name_read i ms f n u v) m a c
    r_bound : {i j d : ℕ} {x : Lexeme} {a b c : List Item} {q : tree.Expr} {bs : Bounds} → suffix x ≡ Some indexed → g.Level 0 a (item i x j ∷ b) q d → Bounded bs b c → Reached (bound_wanted q bs) 0 a c
    r_bound_read : {i j d e : ℕ} {x : Lexeme} {a b c z : List Item} {q s : tree.Expr} {bs : Bounds} → suffix x ≡ Some indexed → g.Level 0 a (item i x j ∷ b) q d → Bounded bs b c → g.Level 12 c z s e → Reached (bound_read q bs s) 0 a z
    r_second : {i j u v d e y : ℕ} {x : Lexeme} {a b c z : List Item} {q s t : tree.Expr} → suffix x ≡ Some indexed → g.Level 0 a (item i x j ∷ b) q d → g.Level 12 b (item u comma v ∷ c) s e → g.Level 12 c z t y → Reached (second_read q s t) 0 a z
    r_attribute : {i j d : ℕ} {x : Lexeme} {a b : List Item} {q : tree.Expr} → suffix x ≡ Some dotted → g.Level 0 a (item i x j ∷ b) q d → Reached (attribute_wanted q) 0 a b
    r_not : {i j d : ℕ} {x : Lexeme} {a b : List Item} {q : tree.Expr} → suffix x ≡ Some negated → g.Level 7 a (item i x j ∷ b) q d → Reached (not_read q) 8 a b
    r_condition : {i j d e : ℕ} {x : Lexeme} {a b c : List Item} {q s : tree.Expr} → suffix x ≡ Some chosen → g.Level 11 a (item i x j ∷ b) q d → g.Level 11 b c s e → Reached (condition_read q s) 12 a c
    r_clauses : {i j d : ℕ} {x : Lexeme} {p : Bracket} {a b c : List Item} {m : tree.Member} {cs : tree.Clauses} → beginning x ≡ Some (bracket p) → comprises p ≡ true → g.Member (kind_in p) a b m d → g.Clauses b c cs → Reached (clauses_read p i m cs) 0 (item i x j ∷ a) c
    r_piece : {i j : ℕ} {x : Lexeme} {a b : List Item} {f : List ℕ} {ms : tree.Members} → beginning x ≡ Some quoted → g.Pieces a b f ms → Reached (piece_wanted i f ms) 0 (item i x j ∷ a) b
    r_field : {i j u v e : ℕ} {x : Lexeme} {a b c : List Item} {f : List ℕ} {ms : tree.Members} {q : tree.Expr} → beginning x ≡ Some quoted → g.Pieces a (item u fstring_expr_start v ∷ b) f ms → g.Level 12 b c q e → Reached (field_read i f ms q) 0 (item i x j ∷ a) c
    r_letter : {i j u v y z e : ℕ} {x : Lexeme} {a b c : List Item} {f : List ℕ} {ms : tree.Members} {q : tree.Expr} → beginning x ≡ Some quoted → g.Pieces a (item u fstring_expr_start v ∷ b) f ms → g.Level 12 b (item y fstring_bang z ∷ c) q e → Reached (letter_wanted i f ms q y z) 0 (item i x j ∷ a) c
    r_letter_read : {i j u v y z k l e : ℕ} {x : Lexeme} {a b c : List Item} {f n s : List ℕ} {ms : tree.Members} {q : tree.Expr} → beginning x ≡ Some quoted → g.Pieces a (item u fstring_expr_start v ∷ b) f ms → g.Level 12 b (item y fstring_bang z ∷ item k (identifier n) l ∷ c) q e → conversion n ≡ Some s → Reached (letter_read i (f ++ s) (tree.more ms (tree.item q))) 0 (item i x j ∷ a) c

  -- behind an expression in a frame
  pub data Followed : After → ℕ → List Item → List Item → ℕ → Type 0 where
    f_becomes : {m e : ℕ} {a c : List Item} {q : tree.Expr} → g.Level m a c q e → Followed (becomes q) m a c e
    f_goes : {m e : ℕ} {a c : List Item} {p : Point} → Reached p m a c → Followed (goes_to p) m a c e

  -- the frame waits for an expression of a level that begins with the second tokens
  pub data Began : Frame → ℕ → List Item → ℕ → List Item → Type 0 where
    began : {f : Frame} {m n : ℕ} {a c : List Item} → ((z : List Item) (q : tree.Expr) (e : ℕ) → g.Level n c z q e → Followed (after f q e) m a z e) → Began f m a n c

-- what a construct comes to
pub data Leads (m : ℕ) (a c : List Item) : Option Outcome → Type 0 where
  l_none : Leads m a c None
  l_reach : {p : Point} → Reached p m a c → Leads m a c (Some (reach p))
  l_want : {n : ℕ} {f : Frame} → Began f m a n c → Leads m a c (Some (want n f))
  l_made : {e : ℕ} {q : tree.Expr} → g.Level m a c q e → Leads m a c (Some (made q e))

on_leads : {m : ℕ} {a c : List Item} {here other : Option Outcome} (y x : Lexeme) → Plain y → (x ≡ y → Leads m a c here) → Leads m a c other → Leads m a c (on y x here other)
on_leads {m} {a} {c} {here} {other} y x p f g = by_cases (Leads m a c) (nat_eq (sort y) (sort x)) here other (λ e. f (same_sort y x p e)) (λ e. g)

on_name_leads : {m : ℕ} {a c : List Item} {other : Option Outcome} (x : Lexeme) (here : List ℕ → Option Outcome) → ((n : List ℕ) → x ≡ identifier n → Leads m a c (here n)) → Leads m a c other → Leads m a c (on_some (name_of x) here other)
on_name_leads (identifier n) here f g = f n refl
on_name_leads _ here f g = g

on_text_leads : {m : ℕ} {a c : List Item} {other : Option Outcome} (x : Lexeme) (here : List ℕ → Option Outcome) → ((n : List ℕ) → x ≡ fstring_text n → Leads m a c (here n)) → Leads m a c other → Leads m a c (on_some (text_of x) here other)
on_text_leads (fstring_text n) here f g = f n refl
on_text_leads _ here f g = g

-- derivations before a token that is known
as_level : {n i j e : ℕ} {x y : Lexeme} {a c : List Item} {q : tree.Expr} → x ≡ y → g.Level n a (item i x j ∷ c) q e → g.Level n a (item i y j ∷ c) q e
as_level {n} {i} {j} {e} {x} {y} {a} {c} {q} w d = subst (λ z. g.Level n a (item i z j ∷ c) q e) w d

as_members : {n : Kind} {i j e : ℕ} {x y : Lexeme} {a c : List Item} {ms : tree.Members} → x ≡ y → g.Members n a (item i x j ∷ c) ms e → g.Members n a (item i y j ∷ c) ms e
as_members {n} {i} {j} {e} {x} {y} {a} {c} {ms} w d = subst (λ z. g.Members n a (item i z j ∷ c) ms e) w d

as_clauses : {i j : ℕ} {x y : Lexeme} {a c : List Item} {cs : tree.Clauses} → x ≡ y → g.Clauses a (item i x j ∷ c) cs → g.Clauses a (item i y j ∷ c) cs
as_clauses {i} {j} {x} {y} {a} {c} {cs} w d = subst (λ z. g.Clauses a (item i z j ∷ c) cs) w d

as_pieces : {i j : ℕ} {x y : Lexeme} {a c : List Item} {f : List ℕ} {ms : tree.Members} → x ≡ y → g.Pieces a (item i x j ∷ c) f ms → g.Pieces a (item i y j ∷ c) f ms
as_pieces {i} {j} {x} {y} {a} {c} {f} {ms} w d = subst (λ z. g.Pieces a (item i z j ∷ c) f ms) w d

pub as_given : {n : Kind} {i j e f : ℕ} {x y : Lexeme} {a c : List Item} {ms : tree.Members} {t : Bool} → x ≡ y → Given n a (item i x j ∷ c) ms t e f → Given n a (item i y j ∷ c) ms t e f
as_given {n} {i} {j} {e} {f} {x} {y} {a} {c} {ms} {t} w d = subst (λ z. Given n a (item i z j ∷ c) ms t e f) w d

as_bounded : {i j : ℕ} {x y : Lexeme} {a c : List Item} {bs : Bounds} → x ≡ y → Bounded bs a (item i x j ∷ c) → Bounded bs a (item i y j ∷ c)
as_bounded {i} {j} {x} {y} {a} {c} {bs} w d = subst (λ z. Bounded bs a (item i z j ∷ c)) w d

-- a second token that is known
as_second : {n i j u v e : ℕ} {w x y : Lexeme} {a c : List Item} {q : tree.Expr} → x ≡ y → g.Level n a (item u w v ∷ item i x j ∷ c) q e → g.Level n a (item u w v ∷ item i y j ∷ c) q e
as_second {n} {i} {j} {u} {v} {e} {w} {x} {y} {a} {c} {q} h d = subst (λ z. g.Level n a (item u w v ∷ item i z j ∷ c) q e) h d

as_third : {n i j u v k l e : ℕ} {w s x y : Lexeme} {a c : List Item} {q : tree.Expr} → x ≡ y → g.Level n a (item u w v ∷ item k s l ∷ item i x j ∷ c) q e → g.Level n a (item u w v ∷ item k s l ∷ item i y j ∷ c) q e
as_third {n} {i} {j} {u} {v} {k} {l} {e} {w} {s} {x} {y} {a} {c} {q} h d = subst (λ z. g.Level n a (item u w v ∷ item k s l ∷ item i z j ∷ c) q e) h d

pub as_second_given : {n : Kind} {i j u v e f : ℕ} {w x y : Lexeme} {a c : List Item} {ms : tree.Members} {t : Bool} → x ≡ y → Given n a (item u w v ∷ item i x j ∷ c) ms t e f → Given n a (item u w v ∷ item i y j ∷ c) ms t e f
as_second_given {n} {i} {j} {u} {v} {e} {f} {w} {x} {y} {a} {c} {ms} {t} h d = subst (λ z. Given n a (item u w v ∷ item i z j ∷ c) ms t e f) h d

-- one more member
pub one_more : {n : Kind} {e d f : ℕ} {b c z : List Item} {ms : tree.Members} {t : Bool} {m : tree.Member} → Given n b c ms t d f → g.Member n c z m e → g.Members n b z (tree.more ms m) e
one_more no_members l = g.one l
one_more (comma_behind ms w) l = g.next ms l

pub first_is : {n : Kind} {d f : ℕ} {b c : List Item} {ms : tree.Members} {t : Bool} → Given n b c ms t d f → first_at ms f (start c) ≡ start b
first_is no_members = refl
first_is (comma_behind {ms = tree.none} ms w) = elim ms [ ]
first_is (comma_behind {ms = tree.more ns m} ms w) = w

one_clause : {a b c : List Item} {cs : tree.Clauses} {m : tree.Clause} → SoFar a b cs → g.ForClause b c m → g.Clauses a c (tree.and_clause cs m)
one_clause no_clause d = g.first d
one_clause (clauses cs) d = g.and_for cs d

pub plain_close : (p : Bracket) → Plain (closing_bracket p)
plain_close round = (refl, refl)
plain_close square = (refl, refl)
plain_close curly = (refl, refl)

plain_end : (w : Place) → Plain (close_of w)
plain_end (brackets p b) = plain_close p
plain_end (behind q) = (refl, refl)
plain_end (before_body b) = (refl, refl)
plain_end (targets_in p b m cs) = (refl, refl)

-- members with no comma behind them are whole
closed_leads : {w : Place} {m i j e f : ℕ} {a b c : List Item} {ms : tree.Members} → Within w m a b → g.Members (kind_of w) b (item i (close_of w) j ∷ c) ms e → f ≡ start b → Leads m a c (Some (closed w ms false e f j))
closed_leads {m} {j} {e} {a} {c} {ms} (in_brackets {i = u} {p} h) d w = subst (λ z. Leads m a c (Some (made (enclosed p ms false (stretch u j) (stretch z e)) j))) (sym w) (l_made (g.in_brackets h (g.some d)))
closed_leads (in_call h l) d w = l_made (g.apply h l (g.some d))
closed_leads (in_lambda h) d w = l_want (began (λ z q e l. f_becomes (g.abstraction h (g.some d) l)))
closed_leads {m = n} {e} {a} {c} {ms} (in_targets {i = u} {p} {m} {cs} h o l s) d w = subst (λ z. Leads n a c (Some (want 11 (over p u m cs (targeted ms (stretch z e)))))) (sym w) (l_want (began (λ z q y k. f_goes (r_clauses h o l (one_clause s (g.for_in d k))))))

-- members with a comma behind them are whole, and none are
brackets_whole : {i j u v e f : ℕ} {x : Lexeme} {p : Bracket} {b c : List Item} {ms : tree.Members} {t : Bool} → beginning x ≡ Some (bracket p) → Given (kind_in p) b (item i (closing_bracket p) j ∷ c) ms t e f → Leads 0 (item u x v ∷ b) c (Some (closed (brackets p u) ms t e f j))
brackets_whole {p = round} h no_members = l_made (g.in_brackets h g.nothing)
brackets_whole {p = square} h no_members = l_made (g.in_brackets h g.nothing)
brackets_whole {p = curly} h no_members = l_made (g.in_brackets h g.nothing)
brackets_whole {j} {u} {v} {e} {x} {p} {b} {c} {ms} h (comma_behind d w) = subst (λ z. Leads 0 (item u x v ∷ b) c (Some (made (enclosed p ms true (stretch u j) (stretch z e)) j))) (sym w) (l_made (g.in_brackets h (g.trailing d)))

call_whole : {i j u v d e f : ℕ} {x : Lexeme} {a b c : List Item} {q : tree.Expr} {ms : tree.Members} {t : Bool} → suffix x ≡ Some called → g.Level 0 a (item u x v ∷ b) q d → Given arguments b (item i closing_round j ∷ c) ms t e f → Leads 0 a c (Some (closed (behind q) ms t e f j))
call_whole h l no_members = l_made (g.apply h l g.nothing)
call_whole h l (comma_behind d w) = l_made (g.apply h l (g.trailing d))

lambda_whole : {i j u v e f : ℕ} {x : Lexeme} {b c : List Item} {ms : tree.Members} {t : Bool} → beginning x ≡ Some lambda → Given parameters b (item i colon j ∷ c) ms t e f → Leads 12 (item u x v ∷ b) c (Some (closed (before_body u) ms t e f j))
lambda_whole h no_members = l_want (began (λ z q e l. f_becomes (g.abstraction h g.nothing l)))
lambda_whole h (comma_behind d w) = l_want (began (λ z q e l. f_becomes (g.abstraction h (g.trailing d) l)))

-- behind a member
comprised : {m i : ℕ} {a c : List Item} {p : Bracket} {n : tree.Member} (b : Bool) → comprises p ≡ b → (comprises p ≡ true → Leads m a c (Some (reach (member_wanted (targets_in p i n tree.no_clauses) tree.none false 0 0)))) → Leads m a c (cond b (Some (reach (member_wanted (targets_in p i n tree.no_clauses) tree.none false 0 0))) None)
comprised true w f = f w
comprised false w f = l_none

clause_leads : {w : Place} {m i j e : ℕ} {a b c : List Item} {ms : tree.Members} → Within w m a b → g.Members (kind_of w) b (item i keyword_for j ∷ c) ms e → Leads m a c (clause_behind w ms)
clause_leads (in_brackets {p} h) (g.one d) = comprised (comprises p) refl (λ w. l_reach (r_wanted (in_targets h w d no_clause) no_members))
clause_leads (in_brackets h) (g.next {ms = tree.none} d l) = elim d [ ]
clause_leads (in_brackets h) (g.next {ms = tree.more ns n} d l) = l_none
clause_leads (in_call h l) d = l_none
clause_leads (in_lambda h) d = l_none
clause_leads (in_targets h o l s) d = l_none

member_leads : {w : Place} {m i j e f : ℕ} {a b c : List Item} {ms : tree.Members} (x : Lexeme) → Within w m a b → g.Members (kind_of w) b (item i x j ∷ c) ms e → f ≡ start b → Leads m a c (behind_member w ms e f x j)
member_leads {w} x p d h =
    on_leads comma x (refl, refl) (λ q. l_reach (r_wanted p (comma_behind (as_members q d) h)))
    (on_leads (close_of w) x (plain_end w) (λ q. closed_leads p (as_members q d) h)
    (on_leads keyword_for x (refl, refl) (λ q. clause_leads p (as_members q d)) l_none))

-- a member or the end
wanted_leads : {w : Place} {m i j e f : ℕ} {a b c : List Item} {ms : tree.Members} {t : Bool} (x : Lexeme) → Within w m a b → Given (kind_of w) b (item i x j ∷ c) ms t e f → Leads m a c (turn (member_wanted w ms t e f) x i j)
wanted_leads x (in_brackets {p} h) d = on_leads (closing_bracket p) x (plain_close p) (λ q. brackets_whole h (as_given q d)) l_none
wanted_leads x (in_call h l) d =
    on_leads closing_round x (refl, refl) (λ q. call_whole h l (as_given q d))
    (on_leads star x (refl, refl) (λ q. l_want (began (λ z s e k. f_goes (r_member (in_call h l) (one_more (as_given q d) (g.spread k)) (first_is d)))))
    (on_leads star_star x (refl, refl) (λ q. l_want (began (λ z s e k. f_goes (r_member (in_call h l) (one_more (as_given q d) (g.spread_named k)) (first_is d))))) l_none))
wanted_leads x (in_lambda h) d =
    on_leads colon x (refl, refl) (λ q. lambda_whole h (as_given q d))
    (on_leads slash x (refl, refl) (λ q. l_reach (r_member (in_lambda h) (one_more (as_given q d) g.lone_slash) (first_is d)))
    (on_leads star x (refl, refl) (λ q. l_reach (r_star (in_lambda h) (as_given q d) (first_is d)))
    (on_leads star_star x (refl, refl) (λ q. l_reach (r_stars (in_lambda h) (as_given q d) (first_is d)))
    (on_name_leads x _ (λ n q. l_reach (r_name (in_lambda h) (as_given q d) (first_is d))) l_none))))
wanted_leads x (in_targets h o l s) d = l_none

-- behind a colon between bounds, and at the end of them
bound_leads : {i j u v d : ℕ} {x : Lexeme} {a b c z : List Item} {q : tree.Expr} {bs : Bounds} {o : tree.Bound} → suffix x ≡ Some indexed → g.Level 0 a (item i x j ∷ b) q d → Bounded bs b c → g.Bound c (item u colon v ∷ z) o → Leads 0 a z (next_bound q bs o)
bound_leads h l none_yet o = l_reach (r_bound h l (one_yet o))
bound_leads h l (one_yet k) o = l_reach (r_bound h l (two_yet k o))
bound_leads h l (two_yet k p) o = l_none

sliced_leads : {i j u v d : ℕ} {x : Lexeme} {a b c z : List Item} {q : tree.Expr} {bs : Bounds} {o : tree.Bound} → suffix x ≡ Some indexed → g.Level 0 a (item i x j ∷ b) q d → Bounded bs b c → g.Bound c (item u closing_square v ∷ z) o → Leads 0 a z (sliced q bs o v)
sliced_leads h l none_yet g.absent = l_none
sliced_leads h l none_yet (g.present k) = l_made (g.subscript h l (g.single k))
sliced_leads h l (one_yet o) p = l_made (g.subscript h l (g.slice o p))
sliced_leads h l (two_yet o p) s = l_made (g.subscript h l (g.slice_step o p s))

second_leads : {i j u v d e : ℕ} {x : Lexeme} {a b c z : List Item} {q s : tree.Expr} {bs : Bounds} → suffix x ≡ Some indexed → g.Level 0 a (item i x j ∷ b) q d → Bounded bs b c → g.Level 12 c (item u comma v ∷ z) s e → Leads 0 a z (second_bound q bs s)
second_leads h l none_yet k = l_want (began (λ z t e o. f_goes (r_second h l k o)))
second_leads h l (one_yet o) k = l_none
second_leads h l (two_yet o p) k = l_none

letter_leads : {i j u v y z k l e : ℕ} {x : Lexeme} {a b c : List Item} {f : List ℕ} {ms : tree.Members} {q : tree.Expr} → beginning x ≡ Some quoted → g.Pieces a (item u fstring_expr_start v ∷ b) f ms → (n : List ℕ) (o : Option (List ℕ)) → conversion n ≡ o → g.Level 12 b (item y fstring_bang z ∷ item k (identifier n) l ∷ c) q e → Leads 0 (item i x j ∷ a) c (on_some o (λ s. Some (reach (letter_read i (f ++ s) (tree.more ms (tree.item q))))) None)
letter_leads h d n None e k = l_none
letter_leads h d n (Some s) e k = l_reach (r_letter_read h d k e)

pub turn_leads : {p : Point} {m i j : ℕ} {a c : List Item} (x : Lexeme) → Reached p m a (item i x j ∷ c) → Leads m a c (turn p x i j)
turn_leads x (r_wanted w d) = wanted_leads x w d
turn_leads x (r_member w d h) = member_leads x w d h
turn_leads x (r_key w d h k) = on_leads colon x (refl, refl) (λ q. l_want (began (λ z s e o. f_goes (r_member w (one_more d (g.entry (as_level q k) o)) h)))) l_none
turn_leads x (r_star w d h) =
    on_name_leads x _ (λ n q. l_reach (r_member w (one_more (as_second_given q d) g.star_name) h))
    (member_leads x w (one_more d g.lone_star) h)
turn_leads x (r_stars w d h) = on_name_leads x _ (λ n q. l_reach (r_member w (one_more (as_second_given q d) g.stars_name) h)) l_none
turn_leads x (r_name w d h) =
    on_leads equal x (refl, refl) (λ q. l_want (began (λ z s e o. f_goes (r_member w (one_more (as_second_given q d) (g.default o)) h))))
    (member_leads x w (one_more d g.parameter) h)
turn_leads x (r_bound h l o) =
    on_leads colon x (refl, refl) (λ q. bound_leads h l (as_bounded q o) g.absent)
    (on_leads closing_square x (refl, refl) (λ q. sliced_leads h l (as_bounded q o) g.absent) l_none)
turn_leads x (r_bound_read h l o k) =
    on_leads colon x (refl, refl) (λ q. bound_leads h l o (g.present (as_level q k)))
    (on_leads closing_square x (refl, refl) (λ q. sliced_leads h l o (g.present (as_level q k)))
    (on_leads comma x (refl, refl) (λ q. second_leads h l o (as_level q k)) l_none))
turn_leads x (r_second h l k o) = on_leads closing_square x (refl, refl) (λ q. l_made (g.subscript h l (g.double k (as_level q o)))) l_none
turn_leads x (r_attribute h l) = on_name_leads x _ (λ n q. l_made (g.attribute h (as_second q l))) l_none
turn_leads x (r_not h l) = on_leads keyword_in x (refl, refl) (λ q. l_want (began (λ z s e o. f_becomes (g.not_in h (as_second q l) o)))) l_none
turn_leads x (r_condition h l k) = on_leads keyword_else x (refl, refl) (λ q. l_want (began (λ z s e o. f_becomes (g.ternary h l (as_level q k) o)))) l_none
turn_leads x (r_clauses {p} h o l cs) =
    on_leads keyword_for x (refl, refl) (λ q. l_reach (r_wanted (in_targets h o l (clauses (as_clauses q cs))) no_members))
    (on_leads keyword_if x (refl, refl) (λ q. l_want (began (λ z s e k. f_goes (r_clauses h o l (g.and_if (as_clauses q cs) k)))))
    (on_leads (closing_bracket p) x (plain_close p) (λ q. l_made (g.comprehend h o l (as_clauses q cs))) l_none))
turn_leads x (r_piece h d) =
    on_text_leads x _ (λ t q. l_reach (r_piece h (g.text (as_pieces q d))))
    (on_leads fstring_expr_start x (refl, refl) (λ q. l_want (began (λ z s e o. f_goes (r_field h (as_pieces q d) o))))
    (on_leads fstring_end x (refl, refl) (λ q. l_made (g.format h (as_pieces q d))) l_none))
turn_leads x (r_field h d k) =
    on_leads fstring_expr_end x (refl, refl) (λ q. l_reach (r_piece h (g.field d (as_level q k))))
    (on_leads fstring_bang x (refl, refl) (λ q. l_reach (r_letter h d (as_level q k))) l_none)
turn_leads x (r_letter h d k) = on_name_leads x _ (λ n w. letter_leads h d n (conversion n) refl (as_second w k)) l_none
turn_leads x (r_letter_read h d k e) = on_leads fstring_expr_end x (refl, refl) (λ q. l_reach (r_piece h (g.converted d (as_third q k) e))) l_none

-- the expression that may come there
pub data Opens (m : ℕ) (a c : List Item) : Option (ℕ × Frame) → Type 0 where
  o_none : Opens m a c None
  o_some : {n : ℕ} {f : Frame} → Began f m a n c → Opens m a c (Some (n, f))

wanted_opens : {w : Place} {m e f : ℕ} {a b c : List Item} {ms : tree.Members} {t : Bool} → Within w m a b → Given (kind_of w) b c ms t e f → Opens m a c (opens (member_wanted w ms t e f) (start c))
wanted_opens (in_brackets {p = round} h) d = o_some (began (λ z q e l. f_goes (r_member (in_brackets h) (one_more d (g.test l)) (first_is d))))
wanted_opens (in_brackets {p = square} h) d = o_some (began (λ z q e l. f_goes (r_member (in_brackets h) (one_more d (g.test l)) (first_is d))))
wanted_opens (in_brackets {p = curly} h) d = o_some (began (λ z q e l. f_goes (r_key (in_brackets h) d (first_is d) l)))
wanted_opens (in_call h k) d = o_some (began (λ z q e l. f_goes (r_member (in_call h k) (one_more d (g.plain l)) (first_is d))))
wanted_opens (in_lambda h) d = o_none
wanted_opens (in_targets h o k s) d = o_some (began (λ z q e l. f_goes (r_member (in_targets h o k s) (one_more d (g.target l)) (first_is d))))

pub opens_hold : {p : Point} {m : ℕ} {a c : List Item} → Reached p m a c → Opens m a c (opens p (start c))
opens_hold (r_wanted w d) = wanted_opens w d
opens_hold (r_bound h l o) = o_some (began (λ z q e k. f_goes (r_bound_read h l o k)))
opens_hold (r_member w d h) = o_none
opens_hold (r_key w d h k) = o_none
opens_hold (r_star w d h) = o_none
opens_hold (r_stars w d h) = o_none
opens_hold (r_name w d h) = o_none
opens_hold (r_bound_read h l o k) = o_none
opens_hold (r_second h l k o) = o_none
opens_hold (r_attribute h l) = o_none
opens_hold (r_not h l) = o_none
opens_hold (r_condition h l k) = o_none
opens_hold (r_clauses h o l cs) = o_none
opens_hold (r_piece h d) = o_none
opens_hold (r_field h d k) = o_none
opens_hold (r_letter h d k) = o_none
opens_hold (r_letter_read h d k e) = o_none
