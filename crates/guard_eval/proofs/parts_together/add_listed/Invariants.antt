use Rattle.std.proofs.Common.{◌≡◌, ◌&&◌, length, map, drop}
use Rattle.guard_model.specs.AbstractValue.{AbstractValue}
use Rattle.guard_model.specs.TypeView.{kind_view, part_view, parts_of}
use Rattle.guard_eval.specs.inside.PartsTogether.{meets, passes_listed}
use Rattle.guard_eval.proofs.parts_together.add_listed.Given as goal

-- the demands so far, with what the parts to come say
abbrev pub invariant-loop-part : goal.invariant-loop-part
invariant-loop-part l =
    (length l.demands.places.items ≡ length l.initial.demands.places.items)
    × ((v : AbstractValue) → (meets l.demands (kind_view l.kind) v && passes_listed (parts_of (map part_view (drop l.part-index l.parts))) l.partial (kind_view l.kind) v)
    ≡ (meets l.initial.demands (kind_view l.kind) v && passes_listed (parts_of (map part_view l.parts)) l.partial (kind_view l.kind) v))
