use Rattle.std.proofs.Common.{◌≡◌, [], drop, take, map}
use Rattle.guard_constraints.specs.ListedParts.{first_repeated}
use Rattle.guard_constraints.specs.Views.{head_view}
use Rattle.guard_constraints.proofs.listed_parts.first_repeated.Given as goal

abbrev pub invariant-loop-index : goal.invariant-loop-index
invariant-loop-index l = first_repeated (map head_view (take l.index l.parts)) (map head_view (drop l.index l.parts)) ≡ first_repeated [] (map head_view l.parts)
