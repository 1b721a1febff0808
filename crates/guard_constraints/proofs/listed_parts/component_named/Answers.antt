use Rattle.std.proofs.Common.{Some, None, refl, sym, ap, ◌∙◌, option_map}
use Rattle.guard_model.specs.TypeView.{component_view}
use Rattle.guard_model.proofs.Components.{looked_up}
use Rattle.guard_constraints.proofs.CodeSteps.TypeParts.{none_named, one_named}
use Rattle.guard_constraints.proofs.listed_parts.component_named.Goals as goal

pub returns-in_err-place : goal.returns-in_err-place
returns-in_err-place c =
    ap (option_map (λ found. component_view found.now)) c.from_residual.ensures
    ∙ sym (none_named c.args.kind.now c.args.name.now c.components-comps.result.now c.components-comps.ensures None c.in_err-place.ensures.found refl)

pub returns : goal.returns
returns c =
    looked_up c.get.result c.components-comps.result.now c.in_ok-place.place c.get.ensures.lookup.3
    ∙ sym (one_named c.args.kind.now c.args.name.now c.components-comps.result.now c.components-comps.ensures (Some (c.in_ok-place.place, c.in_ok-place.field-0-1)) c.in_ok-place.ensures.found c.in_ok-place.place c.in_ok-place.field-0-1 refl)
