use Rattle.std.proofs.Common.{refl}
use Rattle.guard_policy.specs.PolicyView.{policy_view, route_view}
use Rattle.guard_files.proofs.FoundValues.{has_value}
use Rattle.guard_messages.proofs.reasons.verdict_note.Goals as goal

pub outside_note-requires : goal.outside_note-requires
outside_note-requires c =
    has_value (policy_view c.args.policy.now) (route_view c.args.route.now) c.args.octets.now _ (rw c.in-OutsideType.is at c.requires) refl

pub denied_by_note-requires : goal.denied_by_note-requires
denied_by_note-requires c =
    has_value (policy_view c.args.policy.now) (route_view c.args.route.now) c.args.octets.now _ (rw c.in-DeniedBy.is at c.requires) refl

pub allowing_octets-requires : goal.allowing_octets-requires
allowing_octets-requires c =
    has_value (policy_view c.args.policy.now) (route_view c.args.route.now) c.args.octets.now _ (rw c.in-Pass.is at c.requires) refl
