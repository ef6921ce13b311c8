-- What an owner that C holds owns.
use Rattle.std.specs.Prelude.{◌≡◌, Option, Some, None}
use Rattle.std.specs.Coded.{Coded, coded_option}
use mir.Syntax.{Ty}
use base.Fml.{Fml, ftrue, fex}
use denote.RattleType.{RattleType}
use denote.RawPtr.{Ptr, null_ptr}
use Rattle.core.specs.contracts.mem.manually_drop.ManuallyDrop as manually_drop
use Rattle.std.specs.declared.alloc.Global.{Global}
use Rattle.std.specs.contracts.impls.GlobalAllocator.TheImpl.{ghosts}
use Rattle.std_alloc.specs.Box.Ownership.{box_owns}
use Rattle.starlark_parser.specs.declared.module.AstModule.{AstModule}
use Rattle.starlark_parser.specs.contracts.module.AstModule.{the_row}

-- how the logic tells one module from another, where there is one
abbrev pub kept_code : Coded (Option AstModule)
kept_code = coded_option the_row.coded

-- a module that is let go by hand
abbrev pub held_row : RattleType
held_row = manually_drop.the_row the_row

-- the handle of the heap, which is one value
abbrev pub heap : Global
heap = record { memory = record { seal = tt } }

-- the right to free a block of the heap
abbrev pub heap_token : Ty → Ptr → Fml
heap_token = ghosts.dealloc_token heap

-- nothing where the pointer is null, else the block that it begins, with the module in it
abbrev pub kept_owns : Ptr → Option AstModule → Fml
kept_owns p None = fex (p ≡ null_ptr) (λ _. ftrue)
kept_owns p (Some m) = box_owns heap_token held_row p (record { value = m })
