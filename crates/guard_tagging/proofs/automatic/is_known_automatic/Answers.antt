use Rattle.std.proofs.Common.{ap}
use Rattle.guard_tagging.specs.Types.{is_meant_automatic}
use Rattle.guard_tagging.proofs.automatic.is_known_automatic.Goals as goal

pub returns-in-Some : goal.returns-in-Some
returns-in-Some c = ap is_meant_automatic c.in-Some.ensures
