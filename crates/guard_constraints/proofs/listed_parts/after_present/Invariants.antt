use Rattle.std.proofs.Common.{◌≡◌, drop, map}
use Rattle.guard_constraints.specs.ListedParts.{after_first, is_present}
use Rattle.guard_constraints.specs.Views.{head_view}
use Rattle.guard_constraints.proofs.listed_parts.after_present.Given as goal

abbrev pub invariant-loop-index : goal.invariant-loop-index
invariant-loop-index l = after_first is_present (map head_view (drop l.index l.parts)) ≡ after_first is_present (map head_view l.parts)
