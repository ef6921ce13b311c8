-- What a visitor that writes to the statements at the top of a tree does with a closure, and what the tree becomes.
use Rattle.std.specs.Prelude.{◌≡◌, List, [], ◌∷◌, ◌++◌, flat_map}
use Rattle.std.specs.Borrow.{MutBor}
use Rattle.std.specs.Fn.{Mut}
use Rattle.std.specs.Vec.{SameBlock}
use Rattle.std.specs.declared.alloc.Global.{Global}
use Rattle.std.specs.declared.vec.Vec.{Vec}
use Rattle.starlark_place.specs.Place.{Extent}
use Rattle.starlark_ast.specs.Access.{top_level}
use Rattle.starlark_ast.specs.Statements.{S}
use Rattle.starlark_ast.specs.declared.ast.StmtP.TheVariants as variant
use Rattle.starlark_write.specs.Writing.{WritesEach}

module _ {P L I A D T : Type 0} where
  abbrev pub IsNoList : S P L I A D T → Type 0
  IsNoList x = (xs : Vec (S P L I A D T) Global) → x.node ≡ variant.Statements xs → ⊥

  -- What a tree becomes once each statement at its top is written; between the two stands what was left at each, in order. A list stays a list at its place and where it lies in memory, of what its statements become; any other statement becomes what was left there, which may be a list.
  mutual
    pub data Becomes : S P L I A D T → List (S P L I A D T) → S P L I A D T → Type 0 where
      list : (s : Extent) (xs zs : Vec (S P L I A D T) Global) (ys : List (S P L I A D T)) → SameBlock xs zs → EachBecomes xs.items ys zs.items → Becomes (record { span = s; node = variant.Statements xs }) ys (record { span = s; node = variant.Statements zs })
      other : (x y : S P L I A D T) → IsNoList x → Becomes x (y ∷ []) y

    -- the same of the statements of a list, in order
    pub data EachBecomes : List (S P L I A D T) → List (S P L I A D T) → List (S P L I A D T) → Type 0 where
      none : EachBecomes [] [] []
      more : {x z : S P L I A D T} {us xs ys zs : List (S P L I A D T)} → Becomes x us z → EachBecomes xs ys zs → EachBecomes (x ∷ xs) (us ++ ys) (z ∷ zs)

  module _ {F : Type 0} (g : Mut F (MutBor (S P L I A D T) × Unit {0}) (Unit {0} × (MutBor (S P L I A D T) × Unit {0}))) where
    -- the closure is called at each statement at the top of x, in order, and is left as last; z is what x becomes by what it left there
    pub record WritesTops (f : F) (x : S P L I A D T) (last : F) (z : S P L I A D T) : Type 0 where
      pub left : List (S P L I A D T)
      pub calls : WritesEach g f (top_level x) last left
      pub becomes : Becomes x left z

    -- the same at the top of each statement of a list
    pub record WritesEachTop (f : F) (xs : List (S P L I A D T)) (last : F) (zs : List (S P L I A D T)) : Type 0 where
      pub left : List (S P L I A D T)
      pub calls : WritesEach g f (flat_map top_level xs) last left
      pub becomes : EachBecomes xs left zs
