-- What a call hands out, by the turn that comes.
use Rattle.std.proofs.Common.{◌≡◌, ℕ, ◌+◌, ◌-◌, Bool, true, false, cond, List, [], ◌∷◌, ◌++◌, length, take, drop, ap, sym, ◌∙◌, arith, suc, subst, length-drop, IsUtf8, is_ok}
use Rattle.std.specs.Prelude.{Result, Ok, Err}
use Rattle.std.specs.Result.{is_err}
use Rattle.std.proofs.lemmas.Bool.{false≢true}
use Rattle.std.specs.Str.{IsCharBoundary}
use Rattle.std.proofs.lemmas.List.{drop-drop, take_rest}
use Rattle.std.proofs.lemmas.Str.{IsUtf8-drop}
use Rattle.starlark_lexer.specs.declared.literal.Form.{Form}
use Rattle.starlark_lexer.specs.declared.scan.State.{State}
use Rattle.starlark_lexer.specs.declared.scan.Kind.{Kind}
use Rattle.starlark_lexer.specs.declared.scan.Mode.{Mode}
use Rattle.starlark_lexer.specs.declared.scan.Mode.TheVariants as mode
use Rattle.starlark_lexer.specs.declared.scan.Turn.{Turn}
use Rattle.starlark_lexer.specs.declared.scan.Turn.TheVariants as turns
use Rattle.starlark_lexer.specs.declared.token.LexemeError.{LexemeError}
use Rattle.starlark_lexer.specs.declared.token.LexemeError.TheVariants.{InvalidTab, UnfinishedStringLiteral}
use Rattle.starlark_lexer.specs.declared.parts.Parts.{Parts}
use Rattle.starlark_lexer.specs.Items.{Lexeme, nothing, newline, indent, dedent, fstring_start, fstring_end, fstring_expr_start, fstring_expr_end, with_item, with_items, with_fault, dedents, answers, takes_memory, next_takes, LacksMemory}
use Rattle.starlark_lexer.specs.Literals.{body, is_format}
use Rattle.starlark_lexer.specs.Scan.{At, act, follow, left_at, skip, after, turned, last_mode, field_of, body_of, begin_of, lexeme_from, line_turn, here, text_turn, goes_by, in_text, is_joined, gap, pass}
use Rattle.starlark_lexer.specs.Parts.{at, left, IsMode, IsWhole, IsReady, Comes, Stands}
use Rattle.starlark_lexer.proofs.Machine.{left_step, left_gap, gap_over, step_fresh, step_within, step_text, here_lexical, text_lexical}
use Rattle.starlark_lexer.proofs.Cuts.{line_cuts, here_cuts, text_cuts, line_keeps, lexical_keeps}
use Rattle.starlark_lexer.proofs.Bounds.{line_bounds, here_bounds, text_bounds, gap_boundary}

pub ready_left : (a : Parts) → IsReady a → left a ≡ left_at (at a)
ready_left a h = λ i. with_items (dedents a.margin (h.none i)) (cond (h.more i) nothing (left_at (at a)))

-- nothing more is left
pub over_left : (margin pending : ℕ) → pending ≡ 0 → with_items (dedents margin pending) nothing ≡ nothing
over_left margin pending h = λ i. with_items (dedents margin (h i)) nothing

pub turn_left : (a : Parts) (t u : Turn) → IsReady a → Comes a t → t ≡ u → left a ≡ follow (act u (at a)) left_at
turn_left a t u h c e = ready_left a h ∙ left_step (at a) ∙ ap (λ x. follow x left_at) c.is ∙ ap (λ t. follow (act t (at a)) left_at) e

pub end_left : (a : Parts) (t : Turn) (z n : ℕ) (text : List ℕ) → text ≡ a.codemap.source → IsWhole a → IsReady a → Comes a t → t ≡ turns.End z → n ≡ length a.widths.items
    → left a ≡ with_item (length text) newline (length text) (with_items (dedents (length text) n) nothing)
end_left a t z n text same w h c e len =
    let whole : a.state.place + length (drop a.state.place a.codemap.source) ≡ length text = omega (arith, w.boundary.0, length-drop a.state.place a.codemap.source, ap length same) in
    turn_left a t _ h c e ∙ (λ i. with_item (whole i) newline (whole i) (with_items (dedents (whole i) (sym len i)) nothing))

pub tab_left : (a : Parts) (t : Turn) (z : ℕ) → IsReady a → Comes a t → t ≡ turns.Tab z → left a ≡ with_fault a.state.line_begin InvalidTab a.state.line_end
tab_left a t z h c e = turn_left a t _ h c e

pub fault_left : (a : Parts) (t : Turn) (i n : ℕ) (x : LexemeError) → IsReady a → Comes a t → t ≡ turns.Fault i x n → left a ≡ with_fault (a.state.place + i) x (a.state.place + i + n)
fault_left a t i n x h c e = turn_left a t _ h c e

pub unfinished_left : (a : Parts) (t : Turn) (n : ℕ) → IsReady a → Comes a t → t ≡ turns.Unfinished n → left a ≡ with_fault (begin_of a.state.mode) UnfinishedStringLiteral (a.state.place + n)
unfinished_left a t n h c e = turn_left a t _ h c e

-- behind a lexeme
pub item_left : (a : Parts) (t : Turn) (i : ℕ) (k : Kind) (n next : ℕ) (f : Bool) → IsReady a → Comes a t → t ≡ turns.Gives i k n next f
    → (s : State) (v : Lexeme) → s ≡ after a.state i k n next f → v ≡ lexeme_from k (take n (drop (a.state.place + i) a.codemap.source))
    → (let b : Parts = record a { state = s } in left a ≡ with_item (a.state.place + i) v (a.state.place + i + n) (left b))
item_left a t i k n next f h c e s v is x =
    let b : Parts = record a { state = s } in
    let place : s.place ≡ a.state.place + next = ap (λ s. s.place) is in
    let text : take n (drop i (drop a.state.place a.codemap.source)) ≡ take n (drop (a.state.place + i) a.codemap.source) = ap (take n) (drop-drop i a.state.place a.codemap.source) in
    let same : lexeme_from k (take n (drop i (drop a.state.place a.codemap.source))) ≡ v = ap (lexeme_from k) text ∙ sym x in
    let rest : drop next (drop a.state.place a.codemap.source) ≡ drop s.place a.codemap.source = drop-drop next a.state.place a.codemap.source ∙ ap (λ j. drop j a.codemap.source) (sym place) in
    let later : (let d : At = record { state = after a.state i k n next f; widths = a.widths.items; outer = a.outer.items; rest = drop next (drop a.state.place a.codemap.source) } in d ≡ at b) = λ j. record { state = sym is j; widths = a.widths.items; outer = a.outer.items; rest = rest j } in
    let ready : IsReady b = record { none = h.none; more = h.more } in
    turn_left a t _ h c e ∙ (λ j. with_item (a.state.place + i) (same j) (a.state.place + i + n) (left_at (later j))) ∙ ap (with_item (a.state.place + i) v (a.state.place + i + n)) (sym (ready_left b ready))

pub item_lacks : (a : Parts) (t : Turn) (i : ℕ) (k : Kind) (n next : ℕ) (f : Bool) → IsReady a → Comes a t → t ≡ turns.Gives i k n next f
    → takes_memory (lexeme_from k (take n (drop (a.state.place + i) a.codemap.source))) ≡ true → LacksMemory (left a)
item_lacks a t i k n next f h c e m =
    let text : take n (drop i (drop a.state.place a.codemap.source)) ≡ take n (drop (a.state.place + i) a.codemap.source) = ap (take n) (drop-drop i a.state.place a.codemap.source) in
    record {
      some = omega (arith, ap answers (turn_left a t _ h c e));
      takes = ap (λ l. next_takes l.items l.fault) (turn_left a t _ h c e) ∙ ap (λ w. takes_memory (lexeme_from k w)) text ∙ m;
    }

-- behind a turn of n bytes to the mode m, with os around it
module _ (a : Parts) (n : ℕ) (m : Mode) (os : List Mode) (h : IsReady a) where
  abbrev pub behind : At
  behind = record { state = turned a.state n m; widths = a.widths.items; outer = os; rest = drop n (drop a.state.place a.codemap.source) }

  pub behind_left : (b : Parts) → b.codemap.source ≡ a.codemap.source → b.widths.items ≡ a.widths.items → b.outer.items ≡ os → b.state ≡ turned a.state n m → b.pending ≡ 0 → b.over ≡ false → left_at behind ≡ left b
  behind_left b text widths outer state none more =
      let rest : drop n (drop a.state.place a.codemap.source) ≡ drop b.state.place b.codemap.source = drop-drop n a.state.place a.codemap.source ∙ (λ i. drop ((sym state) i).place (sym text i)) in
      let same : behind ≡ at b = λ i. record { state = sym state i; widths = sym widths i; outer = sym outer i; rest = rest i } in
      ap left_at same ∙ sym (ready_left b (record { none = none; more = more }))

pub enter_lacks : (a : Parts) (t : Turn) (f : Form) (n : ℕ) → IsReady a → Comes a t → t ≡ turns.Enter f n → LacksMemory (left a)
enter_lacks a t f n h c e = record { some = omega (arith, ap answers (turn_left a t _ h c e)); takes = ap (λ l. next_takes l.items l.fault) (turn_left a t _ h c e) }

pub enter_left : (a : Parts) (t : Turn) (f : Form) (n : ℕ) → IsReady a → Comes a t → t ≡ turns.Enter f n → (b : Parts) → b.codemap.source ≡ a.codemap.source → b.widths.items ≡ a.widths.items
    → b.outer.items ≡ a.outer.items ++ a.state.mode ∷ [] → b.state ≡ turned a.state n (mode.Inside a.state.place f) → b.pending ≡ 0 → b.over ≡ false
    → left a ≡ with_item a.state.place (fstring_start f.quote) (a.state.place + n) (left b)
enter_left a t f n h c e b text widths outer state none more =
    turn_left a t _ h c e ∙ ap (with_item a.state.place (fstring_start f.quote) (a.state.place + n)) (behind_left a n (mode.Inside a.state.place f) (a.outer.items ++ a.state.mode ∷ []) h b text widths outer state none more)

pub leave_left : (a : Parts) (t : Turn) (n : ℕ) → IsReady a → Comes a t → t ≡ turns.Leave n → (b : Parts) → b.codemap.source ≡ a.codemap.source → b.widths.items ≡ a.widths.items
    → b.outer.items ≡ take (length a.outer.items - 1) a.outer.items → b.state ≡ turned a.state n (last_mode a.outer.items) → b.pending ≡ 0 → b.over ≡ false
    → left a ≡ with_item a.state.place fstring_end (a.state.place + n) (left b)
leave_left a t n h c e b text widths outer state none more =
    turn_left a t _ h c e ∙ ap (with_item a.state.place fstring_end (a.state.place + n)) (behind_left a n (last_mode a.outer.items) (take (length a.outer.items - 1) a.outer.items) h b text widths outer state none more)

pub open_left : (a : Parts) (t : Turn) → IsReady a → Comes a t → t ≡ turns.Open → (b : Parts) → b.codemap.source ≡ a.codemap.source → b.widths.items ≡ a.widths.items
    → b.outer.items ≡ a.outer.items → b.state ≡ turned a.state 1 (field_of a.state.mode) → b.pending ≡ 0 → b.over ≡ false
    → left a ≡ with_item a.state.place fstring_expr_start (a.state.place + 1) (left b)
open_left a t h c e b text widths outer state none more =
    turn_left a t _ h c e ∙ ap (with_item a.state.place fstring_expr_start (a.state.place + 1)) (behind_left a 1 (field_of a.state.mode) a.outer.items h b text widths outer state none more)

pub shut_left : (a : Parts) (t : Turn) → IsReady a → Comes a t → t ≡ turns.Shut → (b : Parts) → b.codemap.source ≡ a.codemap.source → b.widths.items ≡ a.widths.items
    → b.outer.items ≡ a.outer.items → b.state ≡ turned a.state 1 (body_of a.state.mode) → b.pending ≡ 0 → b.over ≡ false
    → left a ≡ with_item a.state.place fstring_expr_end (a.state.place + 1) (left b)
shut_left a t h c e b text widths outer state none more =
    turn_left a t _ h c e ∙ ap (with_item a.state.place fstring_expr_end (a.state.place + 1)) (behind_left a 1 (body_of a.state.mode) a.outer.items h b text widths outer state none more)

-- what was pushed
pub put : {T E X : Type 0} (r : Result T E) (new old more : List X) → new ≡ cond (is_ok r) (old ++ more) old → is_err r ≡ false → new ≡ old ++ more
put (Ok x) new old more h e = h
put (Err x) new old more h e = absurd (false≢true (sym e))

-- ---- a line begins

module _ (a : Parts) (t : Turn) (h : IsReady a) (c : Comes a t) where
  fits_open : (k g : ℕ) → t ≡ turns.Fits k g → (n : ℕ) → n ≡ length a.widths.items - k → (b : Parts) → b.codemap.source ≡ a.codemap.source → b.widths.items ≡ take k a.widths.items
      → b.outer.items ≡ a.outer.items → b.state ≡ turned a.state g a.state.mode → left a ≡ with_items (dedents a.state.place n) (left_at (at b))
  fits_open k g e n len b text widths outer state =
      let rest : drop g (drop a.state.place a.codemap.source) ≡ drop b.state.place b.codemap.source = drop-drop g a.state.place a.codemap.source ∙ (λ i. drop ((sym state) i).place (sym text i)) in
      let same : (let d : At = record { state = turned a.state g a.state.mode; widths = take k a.widths.items; outer = a.outer.items; rest = drop g (drop a.state.place a.codemap.source) } in d ≡ at b) = λ i. record { state = sym state i; widths = sym widths i; outer = sym outer i; rest = rest i } in
      turn_left a t _ h c e ∙ (λ i. with_items (dedents a.state.place (sym len i)) (left_at (same i)))

  pub fits_left : (k g : ℕ) → t ≡ turns.Fits k g → 0 ≡ length a.widths.items - k → (b : Parts) → b.codemap.source ≡ a.codemap.source → b.widths.items ≡ take k a.widths.items
      → b.outer.items ≡ a.outer.items → b.state ≡ turned a.state g a.state.mode → b.pending ≡ 0 → b.over ≡ false → left b ≡ left a
  fits_left k g e len b text widths outer state none more = ready_left b (record { none = none; more = more }) ∙ sym (fits_open k g e 0 len b text widths outer state)

  pub fits_more : (k g : ℕ) → t ≡ turns.Fits k g → (b : Parts) → suc b.pending ≡ length a.widths.items - k → b.codemap.source ≡ a.codemap.source → b.widths.items ≡ take k a.widths.items
      → b.outer.items ≡ a.outer.items → b.state ≡ turned a.state g a.state.mode → b.margin ≡ a.state.place → b.over ≡ false → left a ≡ with_item a.state.place dedent a.state.place (left b)
  fits_more k g e b len text widths outer state margin more =
      fits_open k g e (suc b.pending) len b text widths outer state
      ∙ (λ i. with_item a.state.place dedent a.state.place (with_items (dedents (sym margin i) b.pending) (cond (sym more i) nothing (left_at (at b)))))

  pub deeper_lacks : (w g : ℕ) → t ≡ turns.Deeper w g → LacksMemory (left a)
  deeper_lacks w g e = record { some = omega (arith, ap answers (turn_left a t _ h c e)); takes = ap (λ l. next_takes l.items l.fault) (turn_left a t _ h c e) }

  pub deeper_left : (w g : ℕ) → t ≡ turns.Deeper w g → (b : Parts) → b.codemap.source ≡ a.codemap.source → b.widths.items ≡ a.widths.items ++ w ∷ []
      → b.outer.items ≡ a.outer.items → b.state ≡ turned a.state g a.state.mode → b.pending ≡ 0 → b.over ≡ false → left a ≡ with_item a.state.place indent (a.state.place + g) (left b)
  deeper_left w g e b text widths outer state none more =
      let rest : drop g (drop a.state.place a.codemap.source) ≡ drop b.state.place b.codemap.source = drop-drop g a.state.place a.codemap.source ∙ (λ i. drop ((sym state) i).place (sym text i)) in
      let same : (let d : At = record { state = turned a.state g a.state.mode; widths = a.widths.items ++ w ∷ []; outer = a.outer.items; rest = drop g (drop a.state.place a.codemap.source) } in d ≡ at b) = λ i. record { state = sym state i; widths = sym widths i; outer = sym outer i; rest = rest i } in
      turn_left a t _ h c e ∙ (λ i. with_item a.state.place indent (a.state.place + g) (left_at (same i))) ∙ ap (with_item a.state.place indent (a.state.place + g)) (sym (ready_left b (record { none = none; more = more })))

-- ---- what comes

rest_is : (a : Parts) (bytes : List ℕ) → bytes ≡ a.codemap.source → take (length bytes - a.state.place) (drop a.state.place bytes) ≡ drop a.state.place a.codemap.source
rest_is a bytes same = take_rest bytes a.state.place ∙ ap (drop a.state.place) same

rest_utf8 : (a : Parts) (bytes : List ℕ) → IsWhole a → bytes ≡ a.codemap.source → IsUtf8 bytes → IsUtf8 (drop a.state.place a.codemap.source)
rest_utf8 a bytes w same utf8 = IsUtf8-drop a.codemap.source a.state.place (subst IsUtf8 same utf8) w.boundary

pub line_comes : (a : Parts) (t : Turn) (ws bytes : List ℕ) → IsWhole a → a.state.fresh ≡ true → ws ≡ a.widths.items → bytes ≡ a.codemap.source → IsUtf8 bytes
    → t ≡ line_turn ws (take (length bytes - a.state.place) (drop a.state.place bytes)) → Comes a t
line_comes a t ws bytes w f widths text utf8 is =
    let rest = drop a.state.place a.codemap.source in
    let e : t ≡ line_turn a.widths.items rest = is ∙ (λ i. line_turn (widths i) (rest_is a bytes text i)) in
    subst (Comes a) (sym e) (record { is = step_fresh (at a) f; cuts = line_cuts a.widths.items rest; bounds = line_bounds a.widths.items rest (rest_utf8 a bytes w text utf8); kept = line_keeps a.widths.items rest })

pub here_comes : (a : Parts) (t : Turn) (bytes : List ℕ) → IsWhole a → Stands a → in_text a.state.mode ≡ false → bytes ≡ a.codemap.source → IsUtf8 bytes
    → t ≡ here a.state.mode (take (length bytes - a.state.place) (drop a.state.place bytes)) → Comes a t
here_comes a t bytes w h code text utf8 is =
    let rest = drop a.state.place a.codemap.source in
    let e : t ≡ here a.state.mode rest = is ∙ ap (here a.state.mode) (rest_is a bytes text) in
    subst (Comes a) (sym e) (record {
      is = step_within (at a) h.within code ∙ ap (λ k. goes_by k (at a)) h.none;
      cuts = here_cuts a.state.mode rest;
      bounds = here_bounds a.state.mode rest (rest_utf8 a bytes w text utf8);
      kept = lexical_keeps a.widths.items (here a.state.mode rest) (here_lexical a.state.mode rest);
    })

format_of : (text : List ℕ) (n b : ℕ) (f : Form) (m : Mode) → m ≡ mode.Inside b f → IsMode text n m → is_format f.sort ≡ true
format_of text n b f m e h = (subst (IsMode text n) e h).1

pub text_comes : (a : Parts) (t : Turn) (b : ℕ) (f : Form) (bytes : List ℕ) → IsWhole a → a.state.fresh ≡ false → a.state.mode ≡ mode.Inside b f → bytes ≡ a.codemap.source → IsUtf8 bytes
    → t ≡ text_turn f (body f 0 (take (length bytes - a.state.place) (drop a.state.place bytes))) → Comes a t
text_comes a t b f bytes w h m text utf8 is =
    let rest = drop a.state.place a.codemap.source in
    let e : t ≡ text_turn f (body f 0 rest) = is ∙ ap (λ xs. text_turn f (body f 0 xs)) (rest_is a bytes text) in
    subst (Comes a) (sym e) (record {
      is = step_text (at a) h b f m;
      cuts = text_cuts rest f;
      bounds = text_bounds f rest (format_of a.codemap.source a.state.place b f a.state.mode m w.mode) (rest_utf8 a bytes w text utf8);
      kept = lexical_keeps a.widths.items (text_turn f (body f 0 rest)) (text_lexical f (body f 0 rest));
    })

-- ---- behind what is passed over

module _ (a : Parts) (n : ℕ) (j : Bool) (bytes : List ℕ) (f : a.state.fresh ≡ false) (code : in_text a.state.mode ≡ false) (joined : j ≡ is_joined a.state) (text : bytes ≡ a.codemap.source)
    (is : n ≡ gap j 0 (take (length bytes - a.state.place) (drop a.state.place bytes))) where
  count : n ≡ gap (is_joined a.state) 0 (drop a.state.place a.codemap.source)
  count = is ∙ (λ i. gap (joined i) 0 (rest_is a bytes text i))

  pub gap_left : (b : Parts) → b.codemap.source ≡ a.codemap.source → b.widths.items ≡ a.widths.items → b.outer.items ≡ a.outer.items → b.state ≡ turned a.state n a.state.mode → IsReady a → IsReady b → left b ≡ left a
  gap_left b same widths outer state h k =
      let rest : drop b.state.place b.codemap.source ≡ drop n (drop a.state.place a.codemap.source) = (λ i. drop (state i).place (same i)) ∙ sym (drop-drop n a.state.place a.codemap.source) in
      let there : at b ≡ skip n (at a) = λ i. record { state = state i; widths = widths i; outer = outer i; rest = rest i } in
      ready_left b k ∙ ap left_at (there ∙ ap (λ k. skip k (at a)) count) ∙ sym (left_gap (at a) f code) ∙ sym (ready_left a h)

  pub gap_stands : (b : Parts) → b.codemap.source ≡ a.codemap.source → b.state ≡ turned a.state n a.state.mode → Stands b
  gap_stands b same state =
      let rest : drop b.state.place b.codemap.source ≡ drop n (drop a.state.place a.codemap.source) = (λ i. drop (state i).place (same i)) ∙ sym (drop-drop n a.state.place a.codemap.source) in
      record {
        within = ap (λ s. s.fresh) state;
        none = (λ i. pass (is_joined (state i)) (rest i)) ∙ ap (λ k. pass (is_joined a.state) (drop k (drop a.state.place a.codemap.source))) count ∙ gap_over (is_joined a.state) (drop a.state.place a.codemap.source);
      }

  pub gap_bound : IsWhole a → IsUtf8 bytes → IsCharBoundary (drop a.state.place a.codemap.source) n
  gap_bound w utf8 = subst (IsCharBoundary (drop a.state.place a.codemap.source)) (sym count) (gap_boundary (is_joined a.state) (drop a.state.place a.codemap.source) (rest_utf8 a bytes w text utf8))
