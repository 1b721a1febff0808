use Rattle.std.proofs.Common.{◌≡◌, ◌+◌, ◌-◌, ◌*◌, ◌^◌, ◌≤◌, take}
use Rattle.guard_der.specs.Octets.{big_endian}
use Rattle.guard_der.proofs.head.number_of.Given as goal

abbrev pub invariant-loop-octet : goal.invariant-loop-octet
invariant-loop-octet l = record { spelled : l.number ≡ big_endian (take l.octet-index l.octets); bound : (l.number + 1) * 256 ^ (4 - l.octet-index) ≤ 2 ^ 32 }
