use denote.Param.Send.{sendable}
use Rattle.std.proofs.Crossing.{crosses}
use Rattle.guard_model.proofs.ty.Kind.TheLaws.TheKnot as types
use Rattle.guard_model.proofs.named_list.NamedList.TheSendSync as names
use Rattle.guard_model.proofs.Sent.{value_send, value_sync}
use Rattle.conformance_types.proofs.alike.TyWritten.is_like.Goals as goal

pub may_go_to_another_thread-requires-send-T : goal.may_go_to_another_thread-requires-send-T
may_go_to_another_thread-requires-send-T c κs = search (types.crosses_both, names.the_send, names.the_sync, value_send, value_sync, crosses, sendable) depth 30 fits 20000

pub may_go_to_another_thread-requires-sync-T : goal.may_go_to_another_thread-requires-sync-T
may_go_to_another_thread-requires-sync-T c κs = search (types.crosses_both, names.the_send, names.the_sync, value_send, value_sync, crosses, sendable) depth 30 fits 20000
