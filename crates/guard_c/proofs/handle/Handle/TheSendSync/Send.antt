-- A handle may go to another thread: so may what it holds, and any thread may give its block back.
use base.Shift.{Keyless}
use mir.Raw.{raw}
use denote.Memory.{lone}
use denote.RawPtr.{Ptr}
use denote.Param.Send.{IsSend, AllSend, owning_send, struct_send, sendable}
use denote.Param.SendFields.{variants_send}
use denote.Struct.Struct.{exits_of}
use denote.Struct.Owning.{shape, fields, to}
use Rattle.std.specs.Prelude.{Option, None, Some}
use Rattle.std.specs.declared.alloc.Global.{Global}
use Rattle.std.proofs.Crossing.{Arc-send, frees}
use Rattle.std_alloc.proofs.SendSync.{quiet, lies}
use Rattle.guard_policy.specs.contracts.policy.Policy as policy
use Rattle.guard_c.specs.Owning.{held_row, handle_owns}
use Rattle.guard_c.specs.declared.held.Held.{Held}
use Rattle.guard_c.specs.contracts.held.Held as held
use Rattle.guard_c.specs.contracts.handle.Handle.{the_row, the_type}
use Rattle.guard_c.proofs.Sent.{policy_send, policy_sync}
use Rattle.guard_c.proofs.held.HeldLink.TheSendSync as link

held_send : IsSend held_row
held_send = variants_send held.enum ((Arc-send policy.the_row policy_send policy_sync, tt), ((link.the_send, tt), tt))

words_send : AllSend (fields the_type)
words_send = search sendable depth 20

owned : (a : Global) (p : Ptr) (kept : Option Held) → Keyless (handle_owns a p kept)
owned a p None = tt
owned a p (Some x) = (lies held_row held_send p x, frees.frees a (raw (lone held_row.mir)) p)

pub send : IsSend the_row
send = owning_send the_type words_send (λ h. owned h.alloc h.at h.kept)
    (λ k. quiet (to the_type) (exits_of k (fields the_type)) ((struct_send (shape the_type) words_send).leaving k))
