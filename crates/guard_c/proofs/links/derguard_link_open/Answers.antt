use Rattle.std.proofs.Common.{◌∙◌, ap}
use Rattle.guard_c.specs.Holding.{link_of}
use Rattle.guard_c.specs.declared.status.Status.TheVariants.{Done}
use Rattle.guard_c.proofs.links.derguard_link_open.Goals as goal

pub returns-in-Ok : goal.returns-in-Ok
returns-in-Ok c = (Done, c.number.ensures, ap link_of c.fill.ensures ∙ c.in-Ok.ensures)
