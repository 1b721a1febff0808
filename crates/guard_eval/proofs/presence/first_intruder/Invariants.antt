use Rattle.std.proofs.Common.{◌≡◌, drop, map}
use Rattle.guard_model.specs.TypeView.{kind_view, component_view, components_of, part_view, parts_of}
use Rattle.guard_model.specs.ValueView.{value_view}
use Rattle.guard_eval.specs.Presence.{first_ruled_out, first_intruder}
use Rattle.guard_eval.proofs.presence.first_intruder.Given as goal

-- it is among the components that are left
abbrev pub invariant-loop-index : goal.invariant-loop-index
invariant-loop-index l =
    first_ruled_out (kind_view l.kind) (parts_of (map part_view l.parts)) (value_view l.value) l.index (components_of (map component_view (drop l.index l.comps)))
    ≡ first_intruder l.partial (kind_view l.kind) (parts_of (map part_view l.parts)) (value_view l.value)
