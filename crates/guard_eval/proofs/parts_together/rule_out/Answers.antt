use Rattle.std.proofs.Common.{◌≡◌, ◌&&◌, Bool, true, false, length, map, sym, ap, ◌∙◌, arith}
use Rattle.std.specs.Prelude.{if◌then◌else◌}
use Rattle.guard_model.specs.AbstractValue.{AbstractValue}
use Rattle.guard_model.specs.Counts.{component_count}
use Rattle.guard_model.specs.TypeView.{kind_view, part_view, parts_of}
use Rattle.guard_model.proofs.Components.{component_count_view}
use Rattle.guard_eval.specs.declared.parts_together.PartDemands.{PartDemands}
use Rattle.guard_eval.specs.Presence.{is_there}
use Rattle.guard_eval.specs.inside.PartsTogether.{meets}
use Rattle.guard_eval.proofs.PartsTogether.{and_true, ruled_added}
use Rattle.guard_eval.proofs.parts_together.rule_out.Goals.{then-is_ruled_out, else-is_ruled_out}
use Rattle.guard_eval.proofs.parts_together.rule_out.Goals as goal

pub narrow-requires : goal.narrow-requires
narrow-requires c =
    let comps = c.components-comps.result.now in
    let count = sym (component_count_view comps) ∙ ap component_count c.components-comps.ensures in
    record { place = omega (arith, c.loop-place-test.true, c.loop-place.invariant.0, c.requires.places, count) }

pub loop-place-preserved : goal.loop-place-preserved
loop-place-preserved c =
    let k = kind_view c.args.kind.now in
    let old = c.loop-place.demands in
    let new = c.if-is_ruled_out.demands in
    let at = c.loop-place.place in
    let ruled = c.is_ruled_out.result in
    let step : (length new.places.items ≡ length old.places.items)
    × ((v : AbstractValue) → meets new k v ≡ (meets old k v && (if ruled then (if is_there at v then false else true) else true))) = elim c.if-is_ruled_out.branch [
      | then-is_ruled_out w ↦ (
        ap (λ (d : PartDemands). length d.places.items) w.demands-is ∙ w.narrow.ensures.places,
        λ v. ap (λ (d : PartDemands). meets d k v) w.demands-is ∙ w.narrow.ensures.added k v
            ∙ ap (λ (b : Bool). meets old k v && (if b then (if is_there at v then false else true) else true)) (sym w.if-is_ruled_out.true),
      )
      | else-is_ruled_out w ↦ (
        ap (λ (d : PartDemands). length d.places.items) w.demands-is,
        λ v. ap (λ (d : PartDemands). meets d k v) w.demands-is ∙ sym (and_true (meets old k v))
            ∙ ap (λ (b : Bool). meets old k v && (if b then (if is_there at v then false else true) else true)) (sym w.if-is_ruled_out.false),
      )
    ] in (
      step.0 ∙ c.loop-place.invariant.0,
      λ v. ruled_added c.components-comps.result.now at c.index-comps-place.result c.loop-place-test.true c.index-comps-place.is k (parts_of (map part_view c.args.parts.now)) v ruled _ _ _ c.is_ruled_out.ensures (step.1 v)
          (c.loop-place.invariant.1 v),
    )
