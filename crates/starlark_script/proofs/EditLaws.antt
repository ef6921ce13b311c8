-- What of edits can hold together.
use Rattle.std.proofs.Common.{◌≡◌, ◌<◌, ◌≤◌, ◌⊎◌, ℕ, List, length, inl, inr, zero, suc, [], ◌∷◌, Some, refl, ap, sym, ◌∙◌, arith, subst}
use Rattle.std.specs.List.{insert, remove}
use Rattle.std.specs.Str.{IsUtf8}
use Rattle.starlark_place.specs.Resolved.{resolved_span}
use Rattle.starlark_place.specs.declared.resolved.ResolvedFileSpan.{ResolvedFileSpan}
use Rattle.starlark_lexer.specs.declared.dialect.Dialect.{Dialect}
use Rattle.starlark_ast.specs.Tree.{Statement}
use Rattle.starlark_parser.specs.Faults.{reason}
use Rattle.starlark_grammar.specs.Language.{Fault, IsRefused, Language, place_of}
use Rattle.starlark_parser.specs.declared.fault.ParserError.{ParserError}
use Rattle.starlark_parts.specs.Edits.{IsAddressed, Refuses, Takes, Tells, index, utf8, long, parse, not_closed, memory}
use Rattle.starlark_parts.specs.Kept.{Edit, edited, joined, text_of}
use Rattle.starlark_parts.specs.declared.fault.PartFault.{PartFault}
use Rattle.starlark_parts.specs.declared.fault.PartFault.TheVariants as faults
use Rattle.starlark_script.specs.Laws.{SayTheSame}

-- the laws of the language that these stand on
abbrev pub OneRefusal : Type 0
OneRefusal = (dialect : Dialect) (text : List ℕ) (f g : Fault) → IsRefused dialect text f → IsRefused dialect text g → f ≡ g

abbrev pub NoRefusal : Type 0
NoRefusal = (dialect : Dialect) (text : List ℕ) (tree : Statement) (f : Fault) → Language dialect text tree → IsRefused dialect text f → ⊥

-- ---- edits

same_text : (edit : Edit) (a b : List ℕ) → text_of edit ≡ Some a → text_of edit ≡ Some b → a ≡ b
same_text edit a b h k = let e : Some a ≡ Some b = sym h ∙ k in cc

module _ (dialect : Dialect) (limit : ℕ) (texts : List (List ℕ)) (edit : Edit) where
  pub not_both : NoRefusal → (f : PartFault) → Takes dialect limit texts edit → Refuses dialect limit texts edit f → f ≡ faults.Memory
  not_both none f t (index lacks) = absurd (lacks t.index)
  not_both none f t (utf8 {text} i b bad) = absurd (bad (t.fits text b).utf8)
  not_both none f t (long {text} i b u lt) = absurd (let s = (t.fits text b).short in omega (arith, s, lt))
  not_both none f t (parse {text} fault a r s) = absurd (let l = t.reads text a.brings in none dialect text l.tree fault l.language r.refused)
  not_both none f t (not_closed {text} tree a l open_end) = absurd (open_end (t.reads text a.brings).closed)
  not_both none f t (memory a) = refl

  -- a text that was read is UTF-8, and keeps the limit
  read_utf8 : (a b : List ℕ) → IsAddressed limit texts edit a → text_of edit ≡ Some b → (IsUtf8 b → ⊥) → ⊥
  read_utf8 a b ad e bad = bad (subst IsUtf8 (same_text edit a b ad.brings e) ad.fits.utf8)

  read_short : (a : List ℕ) → IsAddressed limit texts edit a → limit < length (joined (edited texts edit)) → ⊥
  read_short a ad lt = let s = ad.fits.short in omega (arith, s, lt)

  same_parse : OneRefusal → (a b : List ℕ) (e d : ParserError) (p q : ResolvedFileSpan) (f g : Fault) → IsAddressed limit texts edit a → IsAddressed limit texts edit b
      → IsRefused dialect a f → IsRefused dialect b g → Tells a f e p → Tells b g d q → SayTheSame (faults.Parse e p) (faults.Parse d q)
  same_parse one a b e d p q f g x y r s t u =
      let same : a ≡ b = same_text edit a b x.brings y.brings in
      let r2 : IsRefused dialect b f = subst (λ z. IsRefused dialect z f) same r in
      let t2 : Tells b f e p = subst (λ z. Tells z f e p) same t in
      let is : f ≡ g = one dialect b f g r2 s in (
        t2.why ∙ ap reason is ∙ sym u.why,
        t2.at.span ∙ ap (λ z. resolved_span b (place_of z)) is ∙ sym u.at.span,
      )

  pub one_fault : OneRefusal → NoRefusal → (f g : PartFault) → Refuses dialect limit texts edit f → Refuses dialect limit texts edit g → SayTheSame f g ⊎ ((f ≡ faults.Memory) ⊎ (g ≡ faults.Memory))
  one_fault one none f g (index lacks) (index lacks2) = inl refl
  one_fault one none f g (index lacks) (utf8 i b bad) = absurd (lacks i)
  one_fault one none f g (index lacks) (long i b u gt) = absurd (lacks i)
  one_fault one none f g (index lacks) (parse e a r s) = absurd (lacks a.index)
  one_fault one none f g (index lacks) (not_closed t a l c) = absurd (lacks a.index)
  one_fault one none f g (index lacks) (memory a) = inr (inr refl)
  one_fault one none f g (utf8 i b bad) (index lacks) = absurd (lacks i)
  one_fault one none f g (utf8 i b bad) (utf8 i2 b2 bad2) = inl refl
  one_fault one none f g (utf8 {text} i b bad) (long {text = t2} i2 b2 u gt) = absurd (bad (subst IsUtf8 (same_text edit t2 text b2 b) u))
  one_fault one none f g (utf8 {text} i b bad) (parse {text = t2} e a r s) = absurd (read_utf8 t2 text a b bad)
  one_fault one none f g (utf8 {text} i b bad) (not_closed {text = t2} t a l c) = absurd (read_utf8 t2 text a b bad)
  one_fault one none f g (utf8 i b bad) (memory a) = inr (inr refl)
  one_fault one none f g (long i b u gt) (index lacks) = absurd (lacks i)
  one_fault one none f g (long {text} i b u gt) (utf8 {text = t2} i2 b2 bad) = absurd (bad (subst IsUtf8 (same_text edit text t2 b b2) u))
  one_fault one none f g (long i b u gt) (long i2 b2 u2 gt2) = inl refl
  one_fault one none f g (long i b u gt) (parse {text} e a r s) = absurd (read_short text a gt)
  one_fault one none f g (long i b u gt) (not_closed {text} t a l c) = absurd (read_short text a gt)
  one_fault one none f g (long i b u gt) (memory a) = inr (inr refl)
  one_fault one none f g (parse e a r s) (index lacks) = absurd (lacks a.index)
  one_fault one none f g (parse {text} e a r s) (utf8 {text = t2} i b bad) = absurd (read_utf8 text t2 a b bad)
  one_fault one none f g (parse {text} e a r s) (long i b u gt) = absurd (read_short text a gt)
  one_fault one none f g (parse {text} {error} {place} e a r s) (parse {text = t2} {error = d} {place = q} e2 a2 r2 s2) = inl (same_parse one text t2 error d place q e e2 a a2 r.refused r2.refused s s2)
  one_fault one none f g (parse {text} e a r s) (not_closed {text = t2} t a2 l c) =
      absurd (none dialect t2 t e l (subst (λ z. IsRefused dialect z e) (same_text edit text t2 a.brings a2.brings) r.refused))
  one_fault one none f g (parse e a r s) (memory a2) = inr (inr refl)
  one_fault one none f g (not_closed t a l c) (index lacks) = absurd (lacks a.index)
  one_fault one none f g (not_closed {text} t a l c) (utf8 {text = t2} i b bad) = absurd (read_utf8 text t2 a b bad)
  one_fault one none f g (not_closed {text} t a l c) (long i b u gt) = absurd (read_short text a gt)
  one_fault one none f g (not_closed {text} t a l c) (parse {text = t2} e a2 r s) =
      absurd (none dialect text t e l (subst (λ z. IsRefused dialect z e) (same_text edit t2 text a2.brings a.brings) r.refused))
  one_fault one none f g (not_closed t a l c) (not_closed t2 a2 l2 c2) = inl refl
  one_fault one none f g (not_closed t a l c) (memory a2) = inr (inr refl)
  one_fault one none f g (memory a) h = inr (inl refl)

pub insert_remove : (texts : List (List ℕ)) (k : ℕ) (text : List ℕ) → k ≤ length texts → remove (insert texts k text) k ≡ texts
insert_remove texts zero text le = refl
insert_remove [] (suc k) text le = absurd (omega arith)
insert_remove (t ∷ ts) (suc k) text le = ap (λ xs. t ∷ xs) (insert_remove ts k text (omega arith))
