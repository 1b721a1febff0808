use Rattle.std.proofs.Common.{◌≡◌, drop, map}
use Rattle.guard_model.specs.TypeView.{kind_view}
use Rattle.guard_constraints.specs.ListedParts.{first_where, is_unknown}
use Rattle.guard_constraints.specs.Views.{head_view}
use Rattle.guard_constraints.proofs.listed_parts.first_unknown.Given as goal

abbrev pub invariant-loop-part : goal.invariant-loop-part
invariant-loop-part l = first_where (is_unknown (kind_view l.kind)) (map head_view (drop l.part-index l.parts)) ≡ first_where (is_unknown (kind_view l.kind)) (map head_view l.parts)
