use Rattle.std.proofs.Common.{Some, sym}
use Rattle.guard_policy.proofs.AsGiven.{given_tells}
use Rattle.guard_policy.proofs.Listed.{item_there}
use Rattle.guard_policy.proofs.policy.Policy.passes_as_last.Goals as goal

pub returns : goal.returns
returns c =
    let messages = c.args.self.now.kept.messages.items in
    let lead = c.in_ok-lead.lead.now in
    let found = c.in_ok-lead.ensures in
    let at = rw c.deref.ensures.value at c.in_ok-message.ensures.lookup in
    let told = given_tells c.args.self.now found.0 lead found.2 c.in_ok-message.message.now
    (sym (item_there messages lead.place (Some c.in_ok-message.message) at)) c.in_ok-lead.octets.now c.told_by_walk.result c.told_by_walk.ensures in
    (told.0, found.0, c.in_ok-lead.octets.now, found.1, told.1, told.2)
