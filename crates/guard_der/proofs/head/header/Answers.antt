use Rattle.std.proofs.Common.{arith}
use Rattle.guard_der.proofs.Numbers.Digits.{are_digits}
use Rattle.guard_der.proofs.Headers.Offsets.{header_stands, header_only}
use Rattle.guard_der.proofs.head.header.Goals as goal

pub returns-clause-stands : goal.returns-clause-stands
returns-clause-stands c = header_stands c.args.octets.now c.args.at c.placed_header.result (are_digits 256 c.args.octets.now (λ i _. omega (arith, c.type_inv.octets i))) c.placed_header.ensures

pub returns-clause-only : goal.returns-clause-only
returns-clause-only c = header_only c.args.octets.now c.args.at c.placed_header.result c.placed_header.ensures
