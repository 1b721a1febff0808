use Rattle.std.proofs.Common.{sym, ap, ◌∙◌, option_map, Some}
use Rattle.guard_model.specs.TypeView.{OneComponent}
use Rattle.guard_model.proofs.TypeViews.{component_view_is}
use Rattle.guard_model.proofs.ty.Kind.part.Goals as goal

pub returns-in-Some : goal.returns-in-Some
returns-in-Some c =
    sym (ap (option_map (λ (x : OneComponent). x.ty)) (rw c.in-Some.is at (sym c.component.ensures)) ∙ ap (λ (x : OneComponent). Some x.ty) (component_view_is c.in-Some.comp.now))
