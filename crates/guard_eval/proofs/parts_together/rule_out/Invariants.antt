use Rattle.std.proofs.Common.{◌≡◌, ◌&&◌, false, length, map}
use Rattle.std.specs.Option.{is_none}
use Rattle.guard_model.specs.AbstractValue.{AbstractValue}
use Rattle.guard_model.specs.TypeView.{kind_view, part_view, parts_of}
use Rattle.guard_model.proofs.Components.{left}
use Rattle.guard_eval.specs.Presence.{first_ruled_out, first_intruder}
use Rattle.guard_eval.specs.inside.PartsTogether.{meets}
use Rattle.guard_eval.proofs.parts_together.rule_out.Given as goal

-- the demands so far, with what is ruled out from here on
abbrev pub invariant-loop-place : goal.invariant-loop-place
invariant-loop-place l =
    (length l.demands.places.items ≡ length l.initial.demands.places.items)
    × ((v : AbstractValue) → (meets l.demands (kind_view l.kind) v && is_none (first_ruled_out (kind_view l.kind) (parts_of (map part_view l.parts)) v l.place (left l.comps l.place)))
    ≡ (meets l.initial.demands (kind_view l.kind) v && is_none (first_intruder false (kind_view l.kind) (parts_of (map part_view l.parts)) v)))
