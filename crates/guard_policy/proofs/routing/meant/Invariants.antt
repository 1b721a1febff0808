use Rattle.std.proofs.Common.{◌≡◌, take}
use Rattle.guard_policy.specs.Routing.{slots_meant}
use Rattle.guard_policy.specs.inside.Said.{rules_view}
use Rattle.guard_policy.proofs.routing.meant.Given as goal

abbrev pub invariant-loop-place : goal.invariant-loop-place
invariant-loop-place l = l.slots ≡ slots_meant l.side l.name (rules_view (take l.place l.rules))
