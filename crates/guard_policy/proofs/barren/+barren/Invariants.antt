use Rattle.std.proofs.Common.{◌≡◌}
use Rattle.guard_model.proofs.Components.{left}
use Rattle.guard_policy.specs.Barren.{some_has_no_value}
use Rattle.guard_policy.specs.inside.Asked.{demands_view}
use Rattle.guard_policy.proofs.barren.+barren.Given as goal

abbrev pub invariant-some_has_no_value-loop-place : goal.invariant-some_has_no_value-loop-place
invariant-some_has_no_value-loop-place l =
    some_has_no_value l.place (left l.components l.place) (demands_view l.demands) ≡ some_has_no_value 0 (left l.components 0) (demands_view l.demands)
