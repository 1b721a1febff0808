use Rattle.std.proofs.Common.{Some, None, sym}
use Rattle.guard_policy.proofs.AsGiven.{leads_on, message_there, given_tells}
use Rattle.guard_policy.proofs.Listed.{item_there}
use Rattle.guard_policy.proofs.policy.Policy.passes_and_found.Goals as goal

pub returns-in_err-place-clause-other : goal.returns-in_err-place-clause-other
returns-in_err-place-clause-other c = λ none route given. leads_on c.args.self.now c.args.names.now (sym c.in_err-place.ensures) route given

pub returns-in_err-message-clause-other : goal.returns-in_err-message-clause-other
returns-in_err-message-clause-other c = λ none route given.
    let messages = c.args.self.now.kept.messages.items in
    let at = rw c.deref.ensures.value at c.in_err-message.ensures.lookup in
    absurd (message_there c.args.self.now c.args.names.now c.in_ok-place.lead.now (sym c.in_ok-place.ensures) (sym (item_there messages c.in_ok-place.lead.now.place None at)))

pub returns-clause-given : goal.returns-clause-given
returns-clause-given c =
    let messages = c.args.self.now.kept.messages.items in
    let lead = c.in_ok-place.lead.now in
    let at = rw c.deref.ensures.value at c.in_ok-message.ensures.lookup in
    given_tells c.args.self.now c.args.names.now lead (sym c.in_ok-place.ensures) c.in_ok-message.message.now
    (sym (item_there messages lead.place (Some c.in_ok-message.message) at)) c.args.octets.now c.told_by_walk.result c.told_by_walk.ensures
