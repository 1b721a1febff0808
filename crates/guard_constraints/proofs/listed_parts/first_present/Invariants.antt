use Rattle.std.proofs.Common.{◌≡◌, drop, map}
use Rattle.guard_constraints.specs.ListedParts.{first_where, is_present}
use Rattle.guard_constraints.specs.Views.{head_view}
use Rattle.guard_constraints.proofs.listed_parts.first_present.Given as goal

abbrev pub invariant-loop-part : goal.invariant-loop-part
invariant-loop-part l = first_where is_present (map head_view (drop l.part-index l.parts)) ≡ first_where is_present (map head_view l.parts)
