use Rattle.std.proofs.Common.{◌≡◌, ◌++◌, map, drop}
use Rattle.std.specs.List.{flat_map}
use Rattle.guard_syntax.specs.SetViews.{constraint_view}
use Rattle.guard_names.specs.Mentions as mentions
use Rattle.guard_names.specs.inside.Views.{mention_view}
use Rattle.guard_names.proofs.mentions.add_constraints.Given as goal

abbrev pub invariant-loop-constraint : goal.invariant-loop-constraint
invariant-loop-constraint l =
    map mention_view l.into.items ++ flat_map mentions.in_constraint (map constraint_view (drop l.constraint-index l.cons))
    ≡ map mention_view l.fn.into.items ++ flat_map mentions.in_constraint (map constraint_view l.cons)
