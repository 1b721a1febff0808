use Rattle.guard_model.proofs.Components.{looked_up}
use Rattle.guard_model.proofs.ty.Kind.component.Goals as goal

pub returns : goal.returns
returns c = rw (c.components.ensures, c.from.ensures) at (looked_up c.get.result _ c.from.result c.get.ensures.lookup.3)
