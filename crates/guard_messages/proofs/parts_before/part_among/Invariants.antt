use Rattle.std.proofs.Common.{◌≡◌}
use Rattle.guard_model.proofs.Components.{left}
use Rattle.guard_messages.specs.PartsBefore.{any_of, part_among}
use Rattle.guard_messages.proofs.parts_before.part_among.Given as goal

abbrev pub invariant-loop-comp : goal.invariant-loop-comp
invariant-loop-comp l =
    part_among l.way (any_of (left l.comps 0)) (left l.comps l.comp-index) l.tag
    ≡ part_among l.way (any_of (left l.comps 0)) (left l.comps 0) l.tag
