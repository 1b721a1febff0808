use Rattle.std.proofs.Common.{◌≡◌, take}
use Rattle.guard_policy.specs.Routing.{slots_where, has_effect}
use Rattle.guard_policy.specs.inside.Said.{rules_view}
use Rattle.guard_policy.proofs.routing.of_effect.Given as goal

abbrev pub invariant-loop-place : goal.invariant-loop-place
invariant-loop-place l = l.slots ≡ slots_where (has_effect l.effect) (rules_view (take l.place l.rules))
