use Rattle.guard_policy.proofs.Stripped.{comes_after}
use Rattle.guard_policy.proofs.route_octets.NameOctets.after.Goals as goal

pub returns : goal.returns
returns c = rw c.as_slice.ensures.value at (comes_after c.args.octets.now c.as_slice.result.now c.strip_prefix.result c.strip_prefix.ensures.cases)
