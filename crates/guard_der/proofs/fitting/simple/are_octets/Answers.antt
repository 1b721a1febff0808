use Rattle.std.proofs.Common.{sym, arith}
use Rattle.guard_der.proofs.Functions.SimpleValues.{all_below_from}
use Rattle.guard_der.proofs.fitting.simple.are_octets.Goals as goal

pub returns : goal.returns
returns c = sym (all_below_from 256 c.args.octets.now (λ i _. omega (arith, c.type_inv.octets i)))
