use Rattle.std.proofs.Common.{◌≡◌, ◌∙◌, subst, IfOk, ap}
use Rattle.guard_model.specs.TypeView.{OneComponent, presence_view}
use Rattle.guard_tagging.specs.inside.NodeViews.{made_view}
use Rattle.guard_tagging.specs.inside.PartViews.{parts_view}
use Rattle.guard_tagging.specs.inside.ReadParts.{PartList, pushed, with_component}
use Rattle.guard_tagging.specs.declared.made.Made.{Made}
use Rattle.guard_tagging.proofs.parts.with_component.Goals as goal

pub returns : goal.returns
returns c =
    let made = c.into_inner-ty.result in
    subst (λ (r : PartList). IfOk c.pushed.result (λ v. parts_view v.value ≡ r))
    (ap (λ (comp : OneComponent). pushed
    (parts_view c.args.parts.value) c.args.site comp made.nesting made.nodes) c.in_ok-comp.ensures
    ∙ ap (λ (m : Made). with_component (parts_view c.args.parts.value) c.args.site c.args.name.now (made_view m)
    (presence_view c.args.presence)) c.into_inner-ty.ensures)
    c.pushed.ensures
