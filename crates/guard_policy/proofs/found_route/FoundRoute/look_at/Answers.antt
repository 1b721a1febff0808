use Rattle.std.proofs.Common.{refl}
use Rattle.guard_policy.proofs.found_route.FoundRoute.look_at.Goals as goal

pub returns-in-None : goal.returns-in-None
returns-in-None c = rw c.in-None.is refl
