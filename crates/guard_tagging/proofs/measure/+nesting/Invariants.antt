use Rattle.std.proofs.Common.{◌≡◌, ◌≤◌}
use Rattle.std.specs.Prelude.{max, min}
use Rattle.guard_tagcheck.specs.Limits.{deepest}
use Rattle.guard_model.proofs.Components.{left}
use Rattle.guard_tagging.proofs.measure.+nesting.Given as goal

abbrev pub invariant-deepest-loop-comp : goal.invariant-deepest-loop-comp
invariant-deepest-loop-comp l =
    (l.deepest ≤ 33) × (min (max l.deepest (deepest (left l.comps l.comp-index))) 33
    ≡ min (deepest (left l.comps 0)) 33)
