use Rattle.std.proofs.Common.{◌≡◌, ◌++◌, drop, map}
use Rattle.guard_model.specs.TypeView.{kind_view, part_view, parts_of}
use Rattle.guard_policy.specs.Barren.{parts_within}
use Rattle.guard_policy.specs.inside.Asked.{demands_view}
use Rattle.guard_policy.proofs.asked.push_within_parts.Given as goal

-- with what the parts that are left say it is what it is with what all say
abbrev pub invariant-loop-part : goal.invariant-loop-part
invariant-loop-part l =
    demands_view l.inner.items ++ parts_within l.place (kind_view l.kind) (parts_of (map part_view (drop l.part-index l.parts)))
    ≡ demands_view l.initial.inner.items ++ parts_within l.place (kind_view l.kind) (parts_of (map part_view l.parts))
