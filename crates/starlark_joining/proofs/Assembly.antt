-- Two texts in the language, the first of which is closed, are in it one behind the other, with their statements in a row.
use Rattle.std.proofs.Common.{ℕ, ◌≡◌, ◌+◌, ◌∷◌, ◌++◌, ◌∙◌, List, None, true, map, length, refl, ap, sym, subst, arith}
use Rattle.std.proofs.lemmas.List.{map-append}
use Rattle.starlark_lexer.specs.Items.{newline, dedents, Item, item, Lexed}
use Rattle.starlark_lexer.specs.Lex.{Lex, start}
use Rattle.starlark_lexer.specs.Joining.{IsClosed, IsEven, IsLaid, opens_level, item_on, stop_on}
use Rattle.starlark_lexer.specs.declared.dialect.Dialect.{Dialect}
use Rattle.starlark_ast.specs.Tree.{Sequence, Statement}
use Rattle.starlark_grammar.specs.Events.{Event, breaks_at_once, end_finding}
use Rattle.starlark_grammar.specs.Nodes.{block_of}
use Rattle.starlark_grammar.specs.Grammar.{Derives}
use Rattle.starlark_grammar.specs.Language.{Language, IsProgram, without_comments}
use Rattle.starlark_grammar.specs.Marks.{Clean, marks_in}
use Rattle.starlark_grammar.specs.Runs.{Accepts, bottom, marks_of, run, initial}
use Rattle.starlark_joining.specs.Same.{SameSequence}
use Rattle.starlark_joining.specs.Joined.{SameEvent, behind}
use Rattle.starlark_joining.specs.Kept.{Kept, Moved}
use Rattle.starlark_joining.specs.Trees.{AreJoined}
use Rattle.starlark_joining.proofs.Walking.{CleanRun}
use Rattle.starlark_joining.proofs.Even.{even_program}
use Rattle.starlark_joining.proofs.Level.{level_program}
use Rattle.starlark_joining.proofs.Tops.{tops_same}
use Rattle.starlark_joining.proofs.FirstPart.{FirstPart, first_part}
use Rattle.starlark_joining.proofs.SecondPart.{SecondPart, second_part}
use Rattle.starlark_grammar.proofs.Uncommented.{without_append, without_dedents}
use Rattle.starlark_joining.proofs.Uncommented.{dedents_on, line_ends, lines_on}

-- what the laws of the lexer, of the grammar and of the rules say
module _
    (layouts : (a b : List ℕ) (l m : Lexed) → Lex start a l → Lex start b m → l.fault ≡ None → m.fault ≡ None → IsClosed a → IsEven l.items → opens_level m.items ≡ true → IsLaid a b l m)
    (sound : (u : List Item) (raw : Statement) → bottom (run initial u) ≡ Accepts raw → Derives u raw)
    (accepts : (u : List Item) (raw : Statement) → Derives u raw → bottom (run initial u) ≡ Accepts raw)
    (meets : (u : List Item) (raw : Statement) (d : Derives u raw) → marks_of (run initial u) ≡ marks_in d)
    (at_once : (d : Dialect) (n : ℕ) (e f : Event) → SameEvent (Moved n) e f → breaks_at_once d e ≡ None → breaks_at_once d f ≡ None)
    (at_end : (d : Dialect) (h n e f g : ℕ) (ss rs ts us : Sequence) → SameSequence (Kept h) ss rs → SameSequence (Moved n) ts us → end_finding d (block_of ss e) ≡ None → end_finding d (block_of ts f) ≡ None → end_finding d (block_of (behind rs us) g) ≡ None)
  where
    -- of tokens that are cut so
    laid : (d : Dialect) (a b : List ℕ) (x y : Statement) → (l m : Lexed) → m.fault ≡ None → IsProgram d (without_comments l.items) x → IsProgram d (without_comments m.items) y → IsLaid a b l m → AreJoined d a b x y
    laid d a b x y l m no_m p q z = both (first_part d n n place z.count u front x (sym (line_ends true z.items) ∙ z.line_end) (omega arith) (lines_on n z.front z.lines) (subst (λ ts. bottom (run initial ts) ≡ Accepts x) tokens (accepts (without_comments l.items) x p.derives)))
      where
        n : ℕ
        n = length a

        u : List Item
        u = without_comments z.items

        place : ℕ
        place = n + z.place

        front : List Item
        front = without_comments (map (item_on n) z.front)

        us : List Item
        us = without_comments (map (item_on n) z.more)

        -- the tokens of the first text
        tokens : without_comments l.items ≡ u ++ item n newline n ∷ dedents n z.count
        tokens = ap without_comments z.first ∙ without_append z.items (item n newline n ∷ dedents n z.count) ∙ ap (λ ts. u ++ item n newline n ∷ ts) (without_dedents n z.count)

        -- those of both
        items : List Item
        items = z.items ++ map (item_on n) (z.front ++ (dedents z.place z.count ++ z.more))

        moved : map (item_on n) (z.front ++ (dedents z.place z.count ++ z.more)) ≡ map (item_on n) z.front ++ (dedents place z.count ++ map (item_on n) z.more)
        moved = map-append (item_on n) z.front (dedents z.place z.count ++ z.more) ∙ ap (λ ts. map (item_on n) z.front ++ ts) (map-append (item_on n) (dedents z.place z.count) z.more ∙ ap (λ ts. ts ++ map (item_on n) z.more) (dedents_on n z.place z.count))

        joined : without_comments items ≡ u ++ (front ++ (dedents place z.count ++ us))
        joined = without_append z.items _ ∙ ap (λ ts. u ++ without_comments ts) moved ∙ ap (λ ts. u ++ ts) (without_append (map (item_on n) z.front) (dedents place z.count ++ map (item_on n) z.more) ∙ ap (λ ts. front ++ ts) (without_append (dedents place z.count) (map (item_on n) z.more) ∙ ap (λ ts. ts ++ us) (without_dedents place z.count)))

        clean_of : (v : List Item) (r : Statement) → IsProgram d v r → CleanRun d initial v
        clean_of v r o = subst (Clean d) (sym (meets v r o.derives)) o.clean

        whole : (f : FirstPart d n n place z.count u front x) → SecondPart d n f.end_before f.rs us y → AreJoined d a b x y
        whole f s = record {
          tree = tree;
          language = record {
            lexed = record { items = items; fault = None };
            lexes = subst (λ o. Lex start (a ++ b) (record { items = items; fault = stop_on n o })) no_m z.both;
            no_fault = refl;
            program = record {
              derives = derived;
              clean = subst (Clean d) (meets (without_comments items) tree derived) (subst (CleanRun d initial) (sym joined) (f.clean (subst (CleanRun d initial) tokens (clean_of (without_comments l.items) x p)) us s.no_else s.clean));
              sound = at_end d n n f.end_alone s.end_alone s.end f.ss f.rs s.second s.second_there (tops_same f.tops) s.same (subst (λ r. end_finding d r ≡ None) f.tree p.sound) (subst (λ r. end_finding d r ≡ None) s.tree q.sound);
            };
          };
          first = f.ss;
          first_there = f.rs;
          second = s.second;
          second_there = s.second_there;
          first_end = f.end_alone;
          second_end = s.end_alone;
          end = s.end;
          is_first = f.tree;
          is_second = s.tree;
          is_both = refl;
          stays = f.tops;
          moves = s.same;
        }
          where
            tree : Statement
            tree = block_of (behind f.rs s.second_there) s.end

            derived : Derives (without_comments items) tree
            derived = sound (without_comments items) tree (ap (λ ts. bottom (run initial ts)) joined ∙ f.same_end us s.no_else ∙ s.accepts)

        both : FirstPart d n n place z.count u front x → AreJoined d a b x y
        both f = whole f (second_part d n (at_once d n) m.items z.front z.more y z.second z.lines (accepts (without_comments m.items) y q.derives) (clean_of (without_comments m.items) y q) f.rs f.end_before)

    pub joined_trees : (d : Dialect) (a b : List ℕ) (x y : Statement) → IsClosed a → Language d a x → Language d b y → AreJoined d a b x y
    joined_trees d a b x y closed k j = laid d a b x y k.lexed j.lexed j.no_fault k.program j.program (layouts a b k.lexed j.lexed k.lexes j.lexes k.no_fault j.no_fault closed (even_program k.lexed.items x k.program.derives) (level_program accepts j.lexed.items y j.program.derives))
