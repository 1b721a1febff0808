use Rattle.std.proofs.Common.{◌≡◌}
use Rattle.guard_model.proofs.Components.{left}
use Rattle.guard_messages.specs.PartsBefore.{part_in_order}
use Rattle.guard_messages.proofs.parts_before.part_in_order.Given as goal

-- the first of those that are left is the first of all
abbrev pub invariant-loop-index : goal.invariant-loop-index
invariant-loop-index l = part_in_order l.way (left l.comps l.index) l.tag ≡ part_in_order l.way (left l.comps 0) l.tag
