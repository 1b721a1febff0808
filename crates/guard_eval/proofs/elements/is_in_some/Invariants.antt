use Rattle.std.proofs.Common.{◌≡◌, drop}
use Rattle.guard_eval.specs.Elements.{is_in_some}
use Rattle.guard_eval.proofs.elements.is_in_some.Given as goal

abbrev pub invariant-loop-first : goal.invariant-loop-first
invariant-loop-first l = is_in_some (drop l.first-index l.ranges) l.code ≡ is_in_some l.ranges l.code
