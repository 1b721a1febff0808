use Rattle.std.proofs.Common.{map, take}
use Rattle.guard_policy.specs.Policies.{message_names}
use Rattle.guard_policy.specs.SaidView.{said_message_view}
use Rattle.guard_policy.specs.inside.Said.{HaveSame, names_in}
use Rattle.guard_policy.proofs.seen.names_of.Given as goal

abbrev pub invariant-loop-message : goal.invariant-loop-message
invariant-loop-message l = HaveSame (names_in l.names) (message_names (map said_message_view (take l.message-index l.messages)))
