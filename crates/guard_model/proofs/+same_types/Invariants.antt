use Rattle.std.proofs.Common.{◌≡◌, length, drop}
use Rattle.guard_model.specs.inside.Compared.{components_in_view, constraints_in_view, parts_in_view}
use Rattle.guard_model.specs.SameType.{same_components, same_constraints, same_parts}
use Rattle.guard_model.proofs.+same_types.Given as goal

abbrev pub invariant-same_base::are_same_components-loop-comp : goal.invariant-same_base::are_same_components-loop-comp
invariant-same_base::are_same_components-loop-comp l =
    same_components (components_in_view l.whole (drop (length l.yielded) l.comps)) (components_in_view l.whole (drop (length l.yielded) l.others))
    ≡ same_components (components_in_view l.whole l.comps) (components_in_view l.whole l.others)

abbrev pub invariant-same_base::are_same_constraints-loop-constraint : goal.invariant-same_base::are_same_constraints-loop-constraint
invariant-same_base::are_same_constraints-loop-constraint l =
    same_constraints (constraints_in_view l.whole (drop (length l.yielded) l.constraints)) (constraints_in_view l.whole (drop (length l.yielded) l.others))
    ≡ same_constraints (constraints_in_view l.whole l.constraints) (constraints_in_view l.whole l.others)

abbrev pub invariant-same_base::are_same_parts-loop-part : goal.invariant-same_base::are_same_parts-loop-part
invariant-same_base::are_same_parts-loop-part l =
    same_parts (parts_in_view l.whole (drop (length l.yielded) l.parts)) (parts_in_view l.whole (drop (length l.yielded) l.others))
    ≡ same_parts (parts_in_view l.whole l.parts) (parts_in_view l.whole l.others)
