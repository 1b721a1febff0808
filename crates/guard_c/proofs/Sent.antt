-- A policy may go to another thread, and threads may read it at the same time: it is plain data in boxes, vectors and
-- maps. Types that hold a recursive one are shown here, field by field; the others have it from the checker.
use mir.Syntax.{w8}
use denote.Builtin.{usize}
use denote.Plain.{UInt}
use denote.RattleType.{RattleType}
use denote.Param.Send.{IsSend, IsSync, view_send, view_sync, sendable}
use denote.Param.SendFields.{declared_send, declared_sync, as_row_send, as_row_sync}
use Rattle.std.specs.contracts.alloc.Global as heap
use Rattle.std.specs.contracts.impls.GlobalAllocator.TheImpl.{ghosts}
use Rattle.std.specs.contracts.string.String as string
use Rattle.std.specs.contracts.vec.Vec as vec
use Rattle.std.proofs.option.Option.TheSendSync as options
use Rattle.std.proofs.Crossing.{Arc-send, Arc-sync, Vec-send, Vec-sync, frees, crosses}
use Rattle.std.proofs.Crossing as crossing
use Rattle.std.proofs.string.String.TheSendSync as strings
use Rattle.guard_model.specs.contracts.ty.Ty as ty
use Rattle.guard_model.proofs.Sent.{ty_send, ty_sync}
use Rattle.guard_model.specs.contracts.tag.Tag as tag
use Rattle.guard_model.proofs.tag.Tag.TheSendSync as tags
use Rattle.guard_tables.specs.contracts.kept_types.KeptTypes as kept_types
use Rattle.guard_tables.specs.contracts.kept_types.KeptTypes.TheInside as kept_types_inside
use Rattle.guard_tables.specs.contracts.node.Cold as cold
use Rattle.guard_tables.specs.contracts.node.Form as form
use Rattle.guard_tables.specs.contracts.node.Hot as hot
use Rattle.guard_tables.specs.contracts.node.Implication as implication
use Rattle.guard_tables.specs.contracts.node_list.Nodes as nodes
use Rattle.guard_tables.specs.contracts.table.Table as table
use Rattle.guard_tables.proofs.conditions_list.Conditions.TheSendSync as conditions
use Rattle.guard_tables.proofs.items.Items.TheSendSync as items
use Rattle.guard_tables.proofs.node.Form.TheLaws.TheKnot as forms
use Rattle.guard_tables.proofs.node.Hot.TheSendSync as hots
use Rattle.guard_tables.proofs.slots.Slots.TheSendSync as slots
use Rattle.guard_policy.specs.contracts.kept.Kept as kept
use Rattle.guard_policy.specs.contracts.kept.KeptMessage as message
use Rattle.guard_policy.specs.contracts.kept.KeptRule as rule
use Rattle.guard_policy.specs.contracts.policy.Policy as policy
use Rattle.guard_policy.proofs.index.Index.TheSendSync as index
use Rattle.guard_policy.proofs.kept.KeptRule.TheSendSync as rules
use Rattle.guard_policy.proofs.leads.Leads.TheSendSync as leads
use Rattle.guard_policy.proofs.routing.Routing.TheSendSync as routing

abbrev String : RattleType
String = string.the_row heap.the_row ghosts

string_send : IsSend String
string_send = strings.the_send heap.the_row ghosts crossing.send frees

string_sync : IsSync String
string_sync = strings.the_sync heap.the_row ghosts crossing.sync

abbrev Octets : RattleType
Octets = vec.the_row (UInt w8) heap.the_row ghosts

octets_send : IsSend Octets
octets_send = Vec-send (UInt w8) (search sendable)

octets_sync : IsSync Octets
octets_sync = Vec-sync (UInt w8) (search sendable)

-- ---- recursive types

form_send : IsSend form.the_row
form_send = as_row_send form.the_field (search (forms.crosses, crosses, sendable) depth 30 fits 20000)

form_sync : IsSync form.the_row
form_sync = as_row_sync form.the_field (search (forms.crosses, crosses, sendable) depth 30 fits 20000)

-- ---- tables

implication_send : IsSend implication.the_row
implication_send = declared_send implication.the_type (slots.the_send, (form_send, tt))

implication_sync : IsSync implication.the_row
implication_sync = declared_sync implication.the_type (slots.the_sync, (form_sync, tt))

cold_send : IsSend cold.the_row
cold_send = declared_send cold.the_type (
  options.the_send tag.the_row tags.the_send,
  (items.the_send, (conditions.the_send, (slots.the_send, (slots.the_send, (options.the_send Octets octets_send, (Vec-send implication.the_row implication_send, tt)))))),
)

cold_sync : IsSync cold.the_row
cold_sync = declared_sync cold.the_type (
  options.the_sync tag.the_row tags.the_sync,
  (items.the_sync, (conditions.the_sync, (slots.the_sync, (slots.the_sync, (options.the_sync Octets octets_sync, (Vec-sync implication.the_row implication_sync, tt)))))),
)

nodes_send : IsSend nodes.the_row
nodes_send = declared_send nodes.the_type (Vec-send hot.the_row hots.the_send, (Vec-send cold.the_row cold_send, tt))

nodes_sync : IsSync nodes.the_row
nodes_sync = declared_sync nodes.the_type (Vec-sync hot.the_row hots.the_sync, (Vec-sync cold.the_row cold_sync, tt))

kept_types_send : IsSend kept_types.the_row
kept_types_send = view_send _ _ _ _ _
    (declared_send kept_types_inside.the_type (ty_send, (Vec-send ty.the_row ty_send, (search (sendable, crosses), tt))))

kept_types_sync : IsSync kept_types.the_row
kept_types_sync = view_sync _ _ _ _ _
    (declared_sync kept_types_inside.the_type (ty_sync, (Vec-sync ty.the_row ty_sync, (search (sendable, crosses), tt))))

table_send : IsSend table.the_row
table_send = declared_send table.the_type (kept_types_send, (nodes_send, (slots.the_send, tt)))

table_sync : IsSync table.the_row
table_sync = declared_sync table.the_type (kept_types_sync, (nodes_sync, (slots.the_sync, tt)))

-- ---- policies

message_send : IsSend message.the_row
message_send = declared_send message.the_type (string_send, (string_send, (string_send, (Arc-send table.the_row table_send table_sync, (routing.the_send, (search (sendable, crosses), tt))))))

message_sync : IsSync message.the_row
message_sync = declared_sync message.the_type (string_sync, (string_sync, (string_sync, (Arc-sync table.the_row table_send table_sync, (routing.the_sync, (search (sendable, crosses), tt))))))

kept_send : IsSend kept.the_row
kept_send = declared_send kept.the_type (Vec-send message.the_row message_send, (Vec-send rule.the_row rules.the_send, (index.the_send, (leads.the_send, tt))))

kept_sync : IsSync kept.the_row
kept_sync = declared_sync kept.the_type (Vec-sync message.the_row message_sync, (Vec-sync rule.the_row rules.the_sync, (index.the_sync, (leads.the_sync, tt))))

pub policy_send : IsSend policy.the_row
policy_send = declared_send policy.the_type (kept_send, (Vec-send String string_send, tt))

pub policy_sync : IsSync policy.the_row
policy_sync = declared_sync policy.the_type (kept_sync, (Vec-sync String string_sync, tt))
