use Rattle.std.proofs.Common.{◌≡◌}
use Rattle.guard_der.specs.Breach.{one_with}
use Rattle.guard_der.proofs.tags.one_with.Given as goal
use Rattle.guard_model.proofs.Components.{left}

abbrev pub invariant-loop-index : goal.invariant-loop-index
invariant-loop-index l = one_with l.index (left l.comps l.index) l.tag ≡ one_with 0 (left l.comps 0) l.tag
