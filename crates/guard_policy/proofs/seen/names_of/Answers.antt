use Rattle.std.proofs.Common.{map, take}
use Rattle.std.proofs.lemmas.List.{map_push}
use Rattle.guard_policy.specs.Policies.{AbstractMessage, message_names}
use Rattle.guard_policy.specs.SaidView.{said_message_view}
use Rattle.guard_policy.proofs.EntriesRead.{taken_is}
use Rattle.guard_policy.proofs.NamesSeen.{seen_more}
use Rattle.guard_policy.proofs.seen.names_of.Goals as goal

pub loop-message-preserved : goal.loop-message-preserved
loop-message-preserved c =
    let messages = c.args.messages.now in
    let i = c.loop-message.message-index in
    let m = c.message-item.result in
    let before = map said_message_view (take i messages) in
    rw (taken_is said_message_view messages i m c.loop-message-test.true c.message-item.is, map_push (λ (x : AbstractMessage). x.name) before (said_message_view m))
    (seen_more c.loop-message.names.keys _ (message_names before) m.name.now
    (λ q. c.in_ok-insert.ensures.updates.0 (record { ref_ptr = (0, 0); now = q })) c.loop-message.invariant)
