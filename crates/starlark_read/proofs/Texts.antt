-- Tokens whose payload is a text, and the beginnings of f-strings.
use Rattle.std.proofs.Common.{◌≡◌, ◌≢◌, List, [], ◌∷◌, Option, Some, None, false, Result, Ok, Err, IfOk, MatchOption, refl, subst, string_bytes}
use Rattle.std.specs.declared.alloc.AllocError.{AllocError}
use Rattle.std.specs.declared.alloc.Global.{Global}
use Rattle.std.specs.declared.string.String.{String}
use Rattle.starlark_place.specs.declared.pos.Spanned.{Spanned}
use Rattle.starlark_lexer.specs.Items.{Lexeme, Item, item, identifier, string, fstring_start, fstring_text}
use Rattle.starlark_lexer.specs.declared.token.FStringQuote.{FStringQuote}
use Rattle.starlark_grammar.specs.Nodes.{start}
use Rattle.starlark_grammar.specs.Sorts.{name_of, text_of}
use Rattle.starlark_read.specs.declared.kind.Kind.{Kind}
use Rattle.starlark_read.specs.declared.kind.Kind.TheVariants as kind
use Rattle.starlark_read.specs.Gathered.{is_quoted, quoted_ahead, text_ahead}
use Rattle.starlark_read.specs.Kinds.{kind_of, kind_ahead, with_text}
use Rattle.starlark_read.specs.Reads.{Left, Passes, first_lexeme, name_ahead, string_ahead, string_of}
use Rattle.starlark_read.proofs.Gathering.{as_read}

-- what is read where a kind is wanted whose tokens have a text
abbrev pub Wanted : Left → Kind → Left → Option (Spanned (String Global)) → Type 0
Wanted ts k us o = MatchOption o ((us ≡ ts) × (kind_ahead ts.items ≢ k)) (λ s. Passes ts (item s.span.begin (with_text k (string_bytes s.node)) s.span.end) us)

-- a token of another kind has no name and no text of that kind
pub no_name : (xs : List Item) → kind_ahead xs ≢ kind.Identifier → name_ahead xs ≡ None
no_name [] n = refl
no_name (x ∷ xs) n = go x.lexeme n
  where
    go : (l : Lexeme) → kind_of l ≢ kind.Identifier → name_of l ≡ None
    go (identifier t) n = absurd (n refl)
    go _ n = refl

pub no_string : (xs : List Item) → kind_ahead xs ≢ kind.String → string_ahead xs ≡ None
no_string [] n = refl
no_string (x ∷ xs) n = go x.lexeme n
  where
    go : (l : Lexeme) → kind_of l ≢ kind.String → string_of l ≡ None
    go (string t) n = absurd (n refl)
    go _ n = refl

pub no_text : (xs : List Item) → kind_ahead xs ≢ kind.FStringText → text_ahead xs ≡ None
no_text [] n = refl
no_text (x ∷ xs) n = go x.lexeme n
  where
    go : (l : Lexeme) → kind_of l ≢ kind.FStringText → text_of l ≡ None
    go (fstring_text t) n = absurd (n refl)
    go _ n = refl

-- what is read by its kind, as what it is
pub a_name : (ts us : Left) (r : Result (Option (Spanned (String Global))) AllocError) → IfOk r (Wanted ts kind.Identifier us) → IfOk r (λ o. MatchOption o ((us ≡ ts) × (name_ahead ts.items ≡ None)) (λ s. Passes ts (item s.span.begin (identifier (string_bytes s.node)) s.span.end) us))
a_name ts us (Err e) h = tt
a_name ts us (Ok None) h = (h.0, no_name _ h.1)
a_name ts us (Ok (Some s)) h = h

pub a_string : (ts us : Left) (r : Result (Option (Spanned (String Global))) AllocError) → IfOk r (Wanted ts kind.String us) → IfOk r (λ o. MatchOption o ((us ≡ ts) × (string_ahead ts.items ≡ None)) (λ s. Passes ts (item s.span.begin (string (string_bytes s.node)) s.span.end) us))
a_string ts us (Err e) h = tt
a_string ts us (Ok None) h = (h.0, no_string _ h.1)
a_string ts us (Ok (Some s)) h = h

pub a_text : (ts us : Left) (r : Result (Option (Spanned (String Global))) AllocError) → IfOk r (Wanted ts kind.FStringText us) → IfOk r (λ o. MatchOption o ((us ≡ ts) × (text_ahead ts.items ≡ None)) (λ s. Passes ts (item s.span.begin (fstring_text (string_bytes s.node)) s.span.end) us))
a_text ts us (Err e) h = tt
a_text ts us (Ok None) h = (h.0, no_text _ h.1)
a_text ts us (Ok (Some s)) h = h

-- the text of an f-string that was read
pub text_taken : (ts us : Left) (A : Type 0) (o : Option (Spanned (String Global))) (s : Spanned (String Global)) → o ≡ Some s → MatchOption o A (λ z. Passes ts (item z.span.begin (fstring_text (string_bytes z.node)) z.span.end) us) → Passes ts (item (start ts.items) (fstring_text (string_bytes s.node)) us.last) us
text_taken ts us A None s e h = absurd (let n : None ≡ Some s = e in (cc))
text_taken ts us A (Some z) s e h = let q : z ≡ s = cc in subst (λ v. Passes ts (item (start ts.items) (fstring_text (string_bytes v.node)) us.last) us) q (as_read h)

-- an f-string begins, or none does
pub quote_there : (xs : List Item) → kind_ahead xs ≡ kind.FStringStart → (q : FStringQuote) × (first_lexeme xs ≡ Some (fstring_start q))
quote_there [] h = absurd (cc)
quote_there (x ∷ xs) h = go x.lexeme h
  where
    go : (l : Lexeme) → kind_of l ≡ kind.FStringStart → (q : FStringQuote) × (Some l ≡ Some (fstring_start q))
    go (fstring_start q) h = (q, refl)
    go _ h = absurd (cc)

pub no_quote : (xs : List Item) → kind_ahead xs ≢ kind.FStringStart → quoted_ahead xs ≡ false
no_quote [] n = refl
no_quote (x ∷ xs) n = go x.lexeme n
  where
    go : (l : Lexeme) → kind_of l ≢ kind.FStringStart → is_quoted l ≡ false
    go (fstring_start q) n = absurd (n refl)
    go _ n = refl

-- the token that was let go
pub skipped : (ts us : Left) (A : Type 0) (o : Option Lexeme) (w : Lexeme) → o ≡ Some w → MatchOption o A (λ v. Passes ts (item (start ts.items) v us.last) us) → Passes ts (item (start ts.items) w us.last) us
skipped ts us A None w e h = absurd (let n : None ≡ Some w = e in (cc))
skipped ts us A (Some v) w e h = let q : v ≡ w = cc in subst (λ z. Passes ts (item (start ts.items) z us.last) us) q h
