use Rattle.guard_model.proofs.Components.{looked_up}
use Rattle.guard_policy.proofs.asked.component.Goals as goal

pub returns : goal.returns
returns c = rw c.components.ensures at (looked_up c.get.result _ c.args.place c.get.ensures.lookup.3)
