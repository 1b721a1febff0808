use Rattle.std.proofs.Common.{[], refl}
use Rattle.guard_syntax.proofs.fault_of_failure.end_of.Goals as goal

pub returns : goal.returns
returns c = λ short. c.site_behind.ensures [] refl
