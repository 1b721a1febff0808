use Rattle.std.proofs.Common.{◌≡◌, ◌++◌, map, drop}
use Rattle.guard_model.specs.TypeView.{kind_view, constraint_view, constraints_of}
use Rattle.guard_policy.specs.Barren.{all_within}
use Rattle.guard_policy.specs.inside.Asked.{demands_view}
use Rattle.guard_policy.proofs.asked.+within.Given as goal

-- with what the constraints that are left ask it is what it is with what all ask
abbrev pub invariant-push_within_all-loop-constraint : goal.invariant-push_within_all-loop-constraint
invariant-push_within_all-loop-constraint l =
    demands_view l.inner.items ++ all_within l.place (kind_view l.kind) (constraints_of (map constraint_view (drop l.constraint-index l.constraints)))
    ≡ demands_view l.initial.inner.items ++ all_within l.place (kind_view l.kind) (constraints_of (map constraint_view l.constraints))
