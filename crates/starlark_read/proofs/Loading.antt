-- Steps of the machine in loads.
use Rattle.std.proofs.Common.{◌≡◌, ◌≢◌, ℕ, List, [], ◌∷◌, ◌++◌, Option, Some, None, Bool, true, false, not, nat_eq, cond, refl, ap, sym, ◌∙◌, length}
use Rattle.std.proofs.lemmas.List.Sums.{fold-append}
use Rattle.starlark_place.specs.Place.{Extent}
use Rattle.starlark_lexer.specs.Items.{Lexeme, Item, item, identifier, string, comma, equal, opening_round, closing_round}
use Rattle.starlark_lexer.specs.declared.dialect.Dialect.{Dialect}
use Rattle.starlark_ast.specs.Tree.{Name, Symbol, Symbols, add_symbol, name_at, no_symbols, symbol}
use Rattle.starlark_rulebook.specs.Rules.{LoadIdentifier, breaks}
use Rattle.starlark_grammar.specs.Events.{shaped, after_symbol}
use Rattle.starlark_grammar.specs.Frames.{Line, load_behind, load_equal, load_module, load_named, load_opens, load_other, load_symbol}
use Rattle.starlark_grammar.specs.Machine.{end_symbol, move}
use Rattle.starlark_grammar.specs.Made.{symbols_of}
use Rattle.starlark_grammar.specs.Nodes.{start}
use Rattle.starlark_read.specs.Reads.{Left, first_lexeme, name_ahead, string_ahead, string_of, Passes, Goes, Sticks, Answers}
use Rattle.starlark_grammar.specs.Sorts.{name_of, sort}
use Rattle.starlark_grammar.specs.Spans.{stretch}
use Rattle.starlark_grammar.specs.Verdicts.{Broken, begins_equal}
use Rattle.starlark_read.proofs.Exits.{broken, goes, goes_past, not_next, state_is, stops, nameless}
use Rattle.starlark_grammar.proofs.Sorts.{same_sort}

-- no text of a literal, and no name, is next
textless : (ts : Left) (x : Item) (xs : List Item) → string_ahead ts.items ≡ None → ts.items ≡ x ∷ xs → string_of x.lexeme ≡ None
textless ts x xs h q = sym (ap string_ahead q) ∙ h

pub no_load_opening : {d : Dialect} (p : ℕ) (k : Line) (ts : Left) → first_lexeme ts.items ≢ Some opening_round → Sticks d (load_opens p k) ts ts
no_load_opening p k ts h = stops (load_opens p k) ts refl refl (λ x xs q. here x.lexeme x.begin x.end (not_next ts x xs opening_round h q))
  where
    here : (y : Lexeme) (i j : ℕ) → y ≢ opening_round → move (load_opens p k) y i j ≡ None
    here opening_round i j a = absurd (a refl)
    here _ i j a = refl

-- the module
pub module_read : {d : Dialect} (p : ℕ) (n : List ℕ) (s : Extent) (k : Line) (ts us : Left) → (s ≡ stretch (start ts.items) us.last) × Passes ts (item (start ts.items) (string n) us.last) us → Goes d (load_module p k) ts (load_named p (name_at n s) k) us
module_read p n s k ts us h = state_is (goes h.1 refl refl) (ap (λ z. load_named p (name_at n z) k) (sym h.0))

pub no_module : {d : Dialect} (p : ℕ) (k : Line) (ts : Left) → string_ahead ts.items ≡ None → Sticks d (load_module p k) ts ts
no_module p k ts h = stops (load_module p k) ts refl refl (λ x xs q. here x.lexeme x.begin x.end (textless ts x xs h q))
  where
    here : (y : Lexeme) (i j : ℕ) → string_of y ≡ None → move (load_module p k) y i j ≡ None
    here (string t) i j a = absurd (let w : Some t ≡ None = a in (cc))
    here _ i j a = refl

pub no_load_end : {d : Dialect} (p : ℕ) (m : Name) (k : Line) (ts : Left) → first_lexeme ts.items ≢ Some comma → first_lexeme ts.items ≢ Some closing_round → Sticks d (load_named p m k) ts ts
no_load_end p m k ts c h = stops (load_named p m k) ts refl refl (λ x xs q. here x.lexeme x.begin x.end (not_next ts x xs comma c q) (not_next ts x xs closing_round h q))
  where
    here : (y : Lexeme) (i j : ℕ) → y ≢ comma → y ≢ closing_round → move (load_named p m k) y i j ≡ None
    here comma i j a b = absurd (a refl)
    here closing_round i j a b = absurd (b refl)
    here _ i j a b = refl

-- a symbol of one name
pub own_name_read : {d : Dialect} (p : ℕ) (m : Name) (ss : Symbols) (k : Line) (n o : List ℕ) (s : Extent) (ts us : Left) → o ≡ n → (s ≡ stretch (start ts.items) us.last) × Passes ts (item (start ts.items) (string n) us.last) us → Goes d (load_symbol p m ss k) ts (load_behind p m ss (symbol (name_at o s) (name_at n s)) k) us
own_name_read p m ss k n o s ts us e h = state_is (goes h.1 refl refl) (ap (λ z. load_behind p m ss (symbol (name_at n z) (name_at n z)) k) (sym h.0) ∙ ap (λ z. load_behind p m ss (symbol (name_at z s) (name_at n s)) k) (sym e))

-- the name that is bound
pub local_read : {d : Dialect} (p : ℕ) (m : Name) (ss : Symbols) (k : Line) (n : List ℕ) (s : Extent) (ts us : Left) → (s ≡ stretch (start ts.items) us.last) × Passes ts (item (start ts.items) (identifier n) us.last) us → Goes d (load_symbol p m ss k) ts (load_equal p m ss (name_at n s) k) us
local_read p m ss k n s ts us h = state_is (goes h.1 refl refl) (ap (λ z. load_equal p m ss (name_at n z) k) (sym h.0))

pub no_symbol : {d : Dialect} (p : ℕ) (m : Name) (ss : Symbols) (k : Line) (ts : Left) → first_lexeme ts.items ≢ Some closing_round → string_ahead ts.items ≡ None → name_ahead ts.items ≡ None → Sticks d (load_symbol p m ss k) ts ts
no_symbol p m ss k ts c s n = stops (load_symbol p m ss k) ts refl refl (λ x xs q. here x.lexeme x.begin x.end (not_next ts x xs closing_round c q) (textless ts x xs s q) (nameless ts x xs n q))
  where
    here : (y : Lexeme) (i j : ℕ) → y ≢ closing_round → string_of y ≡ None → name_of y ≡ None → move (load_symbol p m ss k) y i j ≡ None
    here closing_round i j a b c = absurd (a refl)
    here (string t) i j a b c = absurd (let w : Some t ≡ None = b in (cc))
    here (identifier t) i j a b c = absurd (let w : Some t ≡ None = c in (cc))
    here _ i j a b c = refl

-- its `=`
pub equal_read : {d : Dialect} (p : ℕ) (m : Name) (ss : Symbols) (n : List ℕ) (s : Extent) (k : Line) (ts us : Left) → Passes ts (item (start ts.items) equal us.last) us → Goes d (load_equal p m ss (name_at n s) k) ts (load_other p m ss (name_at n s) k) us
equal_read p m ss n s k ts us h = goes_past (shaped after_symbol s) h refl refl refl

begins_other : (xs : List Item) → first_lexeme xs ≢ Some equal → begins_equal xs ≡ false
begins_other [] h = refl
begins_other (x ∷ xs) h = go (nat_eq (sort equal) (sort x.lexeme)) refl
  where
    go : (b : Bool) → nat_eq (sort equal) (sort x.lexeme) ≡ b → nat_eq (sort equal) (sort x.lexeme) ≡ false
    go false e = e
    go true e = absurd (h (ap Some (same_sort equal x.lexeme (refl, refl) e)))

pub no_equal : {d : Dialect} (p : ℕ) (m : Name) (ss : Symbols) (n : List ℕ) (s : Extent) (k : Line) (ts : Left) → first_lexeme ts.items ≢ Some equal → Answers d (load_equal p m ss (name_at n s) k) ts (Broken (breaks LoadIdentifier s) (length ts.items)) ts
no_equal p m ss n s k ts h = broken ts (shaped after_symbol s) (breaks LoadIdentifier s) refl (ap (λ b. cond (not b) (Some (breaks LoadIdentifier s)) None) (begins_other ts.items h))

-- the name in the other module
pub their_read : {d : Dialect} (p : ℕ) (m : Name) (ss : Symbols) (l : Name) (k : Line) (n : List ℕ) (s : Extent) (ts us : Left) → (s ≡ stretch (start ts.items) us.last) × Passes ts (item (start ts.items) (string n) us.last) us → Goes d (load_other p m ss l k) ts (load_behind p m ss (symbol l (name_at n s)) k) us
their_read p m ss l k n s ts us h = state_is (goes h.1 refl refl) (ap (λ z. load_behind p m ss (symbol l (name_at n z)) k) (sym h.0))

pub no_other : {d : Dialect} (p : ℕ) (m : Name) (ss : Symbols) (l : Name) (k : Line) (ts : Left) → string_ahead ts.items ≡ None → Sticks d (load_other p m ss l k) ts ts
no_other p m ss l k ts h = stops (load_other p m ss l k) ts refl refl (λ x xs q. here x.lexeme x.begin x.end (textless ts x xs h q))
  where
    here : (y : Lexeme) (i j : ℕ) → string_of y ≡ None → move (load_other p m ss l k) y i j ≡ None
    here (string t) i j a = absurd (let w : Some t ≡ None = a in (cc))
    here _ i j a = refl

pub no_symbol_end : {d : Dialect} (p : ℕ) (m : Name) (ss : Symbols) (s : Symbol) (k : Line) (ts : Left) → first_lexeme ts.items ≢ Some comma → first_lexeme ts.items ≢ Some closing_round → Sticks d (load_behind p m ss s k) ts ts
no_symbol_end p m ss s k ts c h = stops (load_behind p m ss s k) ts refl refl (λ x xs q. here x.lexeme x.begin x.end (not_next ts x xs comma c q) (not_next ts x xs closing_round h q))
  where
    here : (y : Lexeme) (i j : ℕ) → y ≢ comma → y ≢ closing_round → end_symbol p m ss s k y i j ≡ None
    here comma i j a b = absurd (a refl)
    here closing_round i j a b = absurd (b refl)
    here _ i j a b = refl

module _ {X : Type 0} (f : X → Symbol × Option Extent) where
  -- one more
  pub symbol_more : (xs ys : List X) (x : X) (s : Symbol) (c : Option Extent) → ys ≡ xs ++ x ∷ [] → f x ≡ (s, c) → symbols_of f ys ≡ add_symbol (symbols_of f xs) s c
  symbol_more xs ys x s c e h = ap (symbols_of f) e ∙ fold-append (λ ss y. add_symbol ss (f y).0 (f y).1) no_symbols xs (x ∷ []) ∙ ap (λ z. add_symbol (symbols_of f xs) z.0 z.1) h

  pub symbol_and_comma : (xs ys : List X) (x : X) (s : Symbol) (c e : Extent) → ys ≡ xs ++ x ∷ [] → f x ≡ (s, Some c) → c ≡ e → symbols_of f ys ≡ add_symbol (symbols_of f xs) s (Some e)
  symbol_and_comma xs ys x s c e w h q = symbol_more xs ys x s (Some c) w h ∙ ap (λ z. add_symbol (symbols_of f xs) s (Some z)) q
