-- Types and values may go to another thread, and threads may read them at the same time: they are plain data in boxes,
-- vectors and shares. They are recursive, so it is shown here, field by field; others have it from the checker.
use denote.Param.Send.{IsSend, IsSync, sendable}
use denote.Param.SendFields.{as_row_send, as_row_sync}
use Rattle.std.proofs.Crossing.{crosses}
use Rattle.guard_model.specs.contracts.ty.Ty as ty
use Rattle.guard_model.specs.contracts.value.Value as value
use Rattle.guard_model.proofs.ty.Kind.TheLaws.TheKnot as types
use Rattle.guard_model.proofs.named_list.NamedList.TheSendSync as names
use Rattle.guard_model.proofs.value.Bits.TheSendSync as bits
use Rattle.guard_model.proofs.value.Value.TheLaws.TheKnot as values

pub value_send : IsSend (value.the_field).row
value_send = search (values.crosses_both, bits.the_field_send, bits.the_field_sync, crosses, sendable) depth 30 fits 20000

pub value_sync : IsSync (value.the_field).row
value_sync = search (values.crosses_both, bits.the_field_send, bits.the_field_sync, crosses, sendable) depth 30 fits 20000

pub ty_send : IsSend ty.the_row
ty_send = as_row_send ty.the_field (search (types.crosses_both, names.the_send, names.the_sync, value_send, value_sync, crosses, sendable) depth 30 fits 20000)

pub ty_sync : IsSync ty.the_row
ty_sync = as_row_sync ty.the_field (search (types.crosses_both, names.the_send, names.the_sync, value_send, value_sync, crosses, sendable) depth 30 fits 20000)
