use Rattle.std.proofs.Common.{subst, ◌∙◌}
use Rattle.guard_model.specs.TypeView.{type_view, kind_view, constraint_view}
use Rattle.guard_model.specs.Kinds.{kind_of}
use Rattle.guard_model.specs.ValueView.{value_view}
use Rattle.guard_eval.proofs.PartFits.{fits_of}
use Rattle.guard_eval.proofs.SameFits.{same_fits}
use Rattle.guard_tables.specs.declared.demands.Demand.{Demand}
use Rattle.guard_tables.specs.Apt.{IsApt}
use Rattle.guard_tables.specs.Demands.{by_type, by_constraint}
use Rattle.guard_tables.specs.inside.DemandViews.{demand_view}
use Rattle.guard_tables.proofs.sides.is_met.Goals as goal

pub proper_member-requires-clause-fits : goal.proper_member-requires-clause-fits
proper_member-requires-clause-fits c =
    let kind = kind_view c.args.kind.now in
    let own = type_view c.in-Type.own.now in
    let v = value_view c.args.value.now in
    let apt : IsApt kind (by_type own) = subst (λ (d : Demand). IsApt kind (demand_view d)) c.in-Type.is c.requires.apt
    in
    fits_of own v ∙ same_fits (kind_of own) kind v apt.0 ∙ c.requires.fits

pub holds_on_kind-requires-clause-fits : goal.holds_on_kind-requires-clause-fits
holds_on_kind-requires-clause-fits c =
    let kind = kind_view c.args.kind.now in
    let own = kind_view c.in-Constraint.own.now in
    let v = value_view c.args.value.now in
    let apt : IsApt kind (by_constraint own (constraint_view c.in-Constraint.constraint.now)) = subst
    (λ (d : Demand). IsApt kind (demand_view d)) c.in-Constraint.is c.requires.apt in
    same_fits own kind v apt.0 ∙ c.requires.fits
