use Rattle.std.proofs.Common.{◌≡◌}
use Rattle.guard_tagcheck.specs.Limits.{all_within}
use Rattle.guard_model.proofs.Components.{left}
use Rattle.guard_tagcheck.proofs.limits.+limits.Given as goal

abbrev pub invariant-are_within-loop-comp : goal.invariant-are_within-loop-comp
invariant-are_within-loop-comp l = all_within (left l.comps l.comp-index) l.depth ≡ all_within (left l.comps 0) l.depth
