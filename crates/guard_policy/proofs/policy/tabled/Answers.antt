use Rattle.std.proofs.Common.{map}
use Rattle.guard_policy.specs.SaidView.{said_message_view, said_view}
use Rattle.guard_policy.proofs.Consistent.{consistent}
use Rattle.guard_policy.proofs.Keeping.{same_messages}
use Rattle.guard_policy.proofs.policy.tabled.Goals as goal

pub invariant_of-result : goal.invariant_of-result
invariant_of-result c =
    let messages = map said_message_view c.args.messages.now in
    let rules = map said_view c.args.rules.now in
    let e = same_messages c.in_ok-with_tables.with_tables.items rules messages c.in_ok-with_tables.ensures.kept in
    let f = c.in_ok-index.ensures.rules c.in_ok-with_tables.with_tables.items c.in_ok-with_tables.ensures.kept in
    record {
      consistent = rw (e, f) (consistent messages rules c.requires.messages_sound c.requires.rules_sound c.in_ok-with_tables.ensures.met);
      indexed = rw (e, f) c.in_ok-index.ensures.index;
      placed = rw e c.in_ok-index.ensures.placed;
      routed = rw f c.in_ok-with_tables.ensures.routed;
      led = rw f (rw c.deref.ensures.value at c.in_ok-leads.ensures);
    }

pub returns-clause-messages : goal.returns-clause-messages
returns-clause-messages c = same_messages c.in_ok-with_tables.with_tables.items (map said_view c.args.rules.now) (map said_message_view c.args.messages.now) c.in_ok-with_tables.ensures.kept
