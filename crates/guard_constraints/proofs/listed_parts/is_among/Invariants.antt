use Rattle.std.proofs.Common.{◌≡◌, drop, map}
use Rattle.guard_constraints.specs.ListedParts.{is_among}
use Rattle.guard_constraints.specs.Views.{head_view}
use Rattle.guard_constraints.proofs.listed_parts.is_among.Given as goal

abbrev pub invariant-loop-part : goal.invariant-loop-part
invariant-loop-part l = is_among l.name (map head_view (drop l.part-index l.parts)) ≡ is_among l.name (map head_view l.parts)
