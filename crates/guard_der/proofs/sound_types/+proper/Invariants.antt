use Rattle.std.proofs.Common.{◌≡◌, drop, map}
use Rattle.guard_model.specs.TypeView.{type_view, constraint_view, constraints_of, part_view, parts_of}
use Rattle.guard_der.specs.Sound.{are_proper, are_proper_constraints, are_proper_parts}
use Rattle.guard_der.proofs.sound_types.+proper.Given as goal
use Rattle.guard_model.proofs.Components.{left}

abbrev pub invariant-are_proper-loop-comp : goal.invariant-are_proper-loop-comp
invariant-are_proper-loop-comp l = are_proper (left l.comps l.comp-index) ≡ are_proper (left l.comps 0)

abbrev pub invariant-are_proper_constraints-loop-constraint : goal.invariant-are_proper_constraints-loop-constraint
invariant-are_proper_constraints-loop-constraint l =
    are_proper_constraints (constraints_of (map constraint_view (drop l.constraint-index l.constraints))) (type_view l.ty)
    ≡ are_proper_constraints (constraints_of (map constraint_view l.constraints)) (type_view l.ty)

abbrev pub invariant-are_proper_parts-loop-part : goal.invariant-are_proper_parts-loop-part
invariant-are_proper_parts-loop-part l =
    are_proper_parts (parts_of (map part_view (drop l.part-index l.parts))) (type_view l.ty)
    ≡ are_proper_parts (parts_of (map part_view l.parts)) (type_view l.ty)
