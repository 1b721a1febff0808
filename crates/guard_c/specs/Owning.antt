-- What a handle owns: a box of what it holds, or nothing, and then it is null.
use base.Fml.{Fml, feq}
use denote.RattleType.{RattleType}
use denote.RawPtr.{Ptr, null_ptr}
use Rattle.std.specs.Prelude.{Option, None, Some}
use Rattle.std.specs.declared.alloc.Global.{Global}
use Rattle.std.specs.contracts.impls.GlobalAllocator.TheImpl.{ghosts}
use Rattle.std_alloc.specs.Box.Ownership.{box_owns}
use Rattle.guard_c.specs.declared.held.Held.{Held}
use Rattle.guard_c.specs.contracts.held.Held as held

abbrev pub held_row : RattleType
held_row = held.the_row

abbrev pub handle_owns : Global → Ptr → Option Held → Fml
handle_owns a p None = feq Ptr p null_ptr
handle_owns a p (Some x) = box_owns (ghosts.dealloc_token a) held_row p x
